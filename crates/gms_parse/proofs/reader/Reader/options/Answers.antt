use Rattle.gms_expressions.proofs.Signs.{handed_on}
use Rattle.std.proofs.Common.{[], ◌∷◌, refl, ap, ◌∙◌}
use Rattle.std.proofs.lemmas.Slice.{pushed}
use Rattle.gms_grammar.specs.GamsGrammar.{OptionStatement}
use Rattle.gms_grammar.specs.Terminals.{is}
use Rattle.gms_grammar.specs.declared.terminal.Terminal.TheVariants.{Option}
use Rattle.gms_parse.proofs.Steps.{refuses_the, refuses_first, refuses_second, refuses_memory}
use Rattle.gms_parse.proofs.Nexts.{falls, refuses_lacking, gives_exact, begun_has}
use Rattle.gms_parse.proofs.Listing.{listing_start, listing_on, listing_got, listing_refuses, separated_stays}
use Rattle.gms_parse.proofs.Acts.{options_got, has_setting}
use Rattle.gms_parse.proofs.reader.Reader.options.Goals as goal

pub returns-in_err-start : goal.returns-in_err-start
returns-in_err-start g c tables read_state h = handed_on _ _ c.from_residual.result _ c.from_residual.ensures.1 (refuses_the OptionStatement (refuses_first (refuses_lacking c.in_err-start.ensures)))

pub returns-in_err-first : goal.returns-in_err-first
returns-in_err-first g c tables read_state h =
    let n = c.in_ok-start.ensures.next in
    handed_on _ _ c.from_residual-in_err-first.result _ c.from_residual-in_err-first.ensures.1
    (refuses_the OptionStatement (refuses_second (gives_exact n refl) (refuses_first (c.in_err-first.ensures tables _ (begun_has c.args.self.now read_state Option c.in_ok-start.ensures.token c.in_ok-start.start refl refl h) refl))))

pub returns-in_err-push : goal.returns-in_err-push
returns-in_err-push g c tables read_state h = handed_on _ _ c.from_residual-in_err-push.result _ c.from_residual-in_err-push.ensures.1 (refuses_memory refl)

pub loop-following-init : goal.loop-following-init
loop-following-init g c tables read_state h k = listing_start (c.in_ok-first.ensures tables read_state h k) _ (pushed (c.in_ok-first.first ∷ []) c.new-settings.ensures.items c.in_ok-push.was c.push.ensures.items)

pub returns-in_err-setting : goal.returns-in_err-setting
returns-in_err-setting g c tables read_state h =
    let n = c.in_ok-start.ensures.next in
    let l = c.loop-following.invariant tables _ (begun_has c.args.self.now read_state Option c.in_ok-start.ensures.token c.in_ok-start.start refl refl h) refl in
    let s = separated_stays l c.in-Some.ensures refl in
    handed_on _ _ c.from_residual-in_err-setting.result _ c.from_residual-in_err-setting.ensures.1
    (refuses_the OptionStatement (refuses_second (gives_exact n refl) (listing_refuses l c.in-Some.ensures refl (c.in_err-setting.ensures tables _ s.has (ap (is Option) s.keyword)))))

pub returns-in_err-push-2 : goal.returns-in_err-push-2
returns-in_err-push-2 g c tables read_state h = handed_on _ _ c.from_residual-in_err-push-2.result _ c.from_residual-in_err-push-2.ensures.1 (refuses_memory refl)

pub loop-following-smaller : goal.loop-following-smaller
loop-following-smaller g c = falls c.in-Some.ensures _ (c.in_ok-setting.ensures (record { names = []; labels = [] }) _ (has_setting c.args.self.now (record { names = []; labels = [] })) refl).further

pub loop-following-preserved : goal.loop-following-preserved
loop-following-preserved g c tables read_state h k =
    let l = c.loop-following.invariant tables read_state h k in
    let s = separated_stays l c.in-Some.ensures refl in
    listing_on l c.in-Some.ensures refl (c.in_ok-setting.ensures tables _ s.has (ap (is Option) s.keyword ∙ k)) _ c.in_ok-push-2.ensures.items

pub returns : goal.returns
returns g c tables read_state h =
    let l = c.loop-following.invariant tables _ (begun_has c.args.self.now read_state Option c.in_ok-start.ensures.token c.in_ok-start.start refl refl h) refl in
    rw c.new-settings-2.ensures (options_got g.F.ExactField.value c.in_ok-start.ensures.next (listing_got l c.in_default.ensures))
