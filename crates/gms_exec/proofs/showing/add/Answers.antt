use Rattle.std.proofs.Common.{◌∙◌, ap, not, ◌++◌, ◌∷◌, []}
use Rattle.std.proofs.lemmas.List.{map_push}
use Rattle.gq_extended.specs.Meaning.{extended}
use Rattle.gms_exec.specs.Showing.{value_shown, is_indexed}
use Rattle.gms_exec.specs.InnerContracts.{entries_in, is_kept}
use Rattle.gms_exec.proofs.Entries.{left-out, put-following}
use Rattle.gms_exec.proofs.showing.add.Goals as goal

pub returns-then-is_left_out : goal.returns-then-is_left_out
returns-then-is_left_out g c = left-out (entries_in g.F.ExactField.value c.args.entries.now.items) (c.args.t, value_shown c.args.store.now c.args.name c.args.suffix c.args.t) (is_kept (is_indexed c.args.store.now c.args.name) (value_shown c.args.store.now c.args.name c.args.suffix c.args.t)) c.is_left_out.result (c.is_left_out.ensures ∙ ap (λ i. not (is_kept i (extended g.F.ExactField.value c.value-shown.result))) c.is_indexed-indexed.ensures ∙ ap (λ x. not (is_kept (is_indexed c.args.store.now c.args.name) x)) c.value-shown.ensures) c.if-is_left_out.true

pub returns : goal.returns
returns g c =
    put-following (entries_in g.F.ExactField.value c.args.entries.now.items) (entries_in g.F.ExactField.value c.push.new.self.items) (c.args.t, value_shown c.args.store.now c.args.name c.args.suffix c.args.t) (is_kept (is_indexed c.args.store.now c.args.name) (value_shown c.args.store.now c.args.name c.args.suffix c.args.t)) c.is_left_out.result (c.is_left_out.ensures ∙ ap (λ i. not (is_kept i (extended g.F.ExactField.value c.value-shown.result))) c.is_indexed-indexed.ensures ∙ ap (λ x. not (is_kept (is_indexed c.args.store.now c.args.name) x)) c.value-shown.ensures) c.if-is_left_out.false (ap (entries_in g.F.ExactField.value) c.in_ok-push.ensures.items ∙ map_push (λ entry. (entry.0, extended g.F.ExactField.value entry.1)) c.args.entries.now.items (c.args.t, c.value-shown.result) ∙ ap (λ x. (entries_in g.F.ExactField.value c.args.entries.now.items) ++ (c.args.t, x) ∷ []) c.value-shown.ensures)
