use Rattle.gms_expressions.proofs.Signs.{handed_on}
use Rattle.std.proofs.Common.{[], ◌∷◌, refl, ap, ◌∙◌}
use Rattle.std.proofs.lemmas.Slice.{pushed}
use Rattle.gms_grammar.specs.GamsGrammar.{ModelStatement}
use Rattle.gms_grammar.specs.Terminals.{is}
use Rattle.gms_grammar.specs.declared.terminal.Terminal.TheVariants.{Model, Option}
use Rattle.gms_parse.proofs.Steps.{refuses_the, refuses_first, refuses_second, refuses_memory}
use Rattle.gms_parse.proofs.Nexts.{refuses_lacking, gives_exact, begun_starts, starts_somewhere}
use Rattle.gms_parse.proofs.Itemized.{items_start, items_on, items_refused, items_got, further_starts, further_falls}
use Rattle.gms_parse.proofs.Models.{model_items, models_got}
use Rattle.gms_parse.proofs.reader.Reader.models.Goals as goal

pub returns-in_err-start : goal.returns-in_err-start
returns-in_err-start g c read_state h = handed_on _ _ c.from_residual.result _ c.from_residual.ensures.1 (refuses_the ModelStatement (refuses_first (refuses_lacking c.in_err-start.ensures)))

pub returns-in_err-first : goal.returns-in_err-first
returns-in_err-first g c read_state h =
    let n = c.in_ok-start.ensures.next in
    let s = begun_starts c.args.self.now read_state Model c.in_ok-start.ensures.token c.in_ok-start.start refl refl refl refl h in
    handed_on _ _ c.from_residual-in_err-first.result _ c.from_residual-in_err-first.ensures.1
    (refuses_the ModelStatement (refuses_second (gives_exact n refl) ((model_items.enters g.F.ExactField.limit c.args.self.now.source.now _ _).refuses _ (refuses_first (c.in_err-first.ensures g.F.ExactField.limit _ s)))))

pub returns-in_err-push : goal.returns-in_err-push
returns-in_err-push g c read_state h = handed_on _ _ c.from_residual-in_err-push.result _ c.from_residual-in_err-push.ensures.1 (refuses_memory refl)

pub loop-following-init : goal.loop-following-init
loop-following-init g c limit read_state s = items_start (λ sense tree x k. k) model_items (c.in_ok-first.ensures limit read_state s) _ (pushed (c.in_ok-first.first ∷ []) c.new-models.ensures.items c.in_ok-push.was c.push.ensures.items)

pub returns-in_err-model : goal.returns-in_err-model
returns-in_err-model g c read_state h =
    let n = c.in_ok-start.ensures.next in
    let s = begun_starts c.args.self.now read_state Model c.in_ok-start.ensures.token c.in_ok-start.start refl refl refl refl h in
    let l = c.loop-following.invariant g.F.ExactField.limit _ s in
    handed_on _ _ c.from_residual-in_err-model.result _ c.from_residual-in_err-model.ensures.1
    (refuses_the ModelStatement (refuses_second (gives_exact n refl) (items_refused (λ sense tree x k. k) model_items l c.in-Some.ensures
    (c.in_err-model.ensures g.F.ExactField.limit _ (further_starts c.args.self.now _ _ c.in-Some.ensures l.stays.has (ap (is Option) l.stays.keyword))))))

pub returns-in_err-push-2 : goal.returns-in_err-push-2
returns-in_err-push-2 g c read_state h = handed_on _ _ c.from_residual-in_err-push-2.result _ c.from_residual-in_err-push-2.ensures.1 (refuses_memory refl)

pub loop-following-smaller : goal.loop-following-smaller
loop-following-smaller g c = further_falls c.args.self.now _ _ c.in-Some.ensures _ (c.in_ok-model.ensures 0 _ (starts_somewhere c.args.self.now c.loop-following.tables)).further

pub loop-following-preserved : goal.loop-following-preserved
loop-following-preserved g c limit read_state s =
    let l = c.loop-following.invariant limit read_state s in
    items_on (λ sense tree x k. k) model_items l c.in-Some.ensures (c.in_ok-model.ensures limit _ (further_starts c.args.self.now _ _ c.in-Some.ensures l.stays.has (ap (is Option) l.stays.keyword ∙ s.optionless))) _ c.in_ok-push-2.ensures.items

pub returns : goal.returns
returns g c read_state h =
    let s = begun_starts c.args.self.now read_state Model c.in_ok-start.ensures.token c.in_ok-start.start refl refl refl refl h in
    let l = c.loop-following.invariant g.F.ExactField.limit _ s in
    rw c.new-models-2.ensures (models_got g.F.ExactField.value c.in_ok-start.ensures.next (items_got (λ sense tree x k. k) model_items l c.in_default.ensures (c.after_last_item.ensures c.in_default.ensures)))
