use Rattle.std.proofs.Common.{ℕ, List, Some, false, refl, ap₂, ◌∙◌, [], ◌∷◌}
use Rattle.gms_labels.specs.declared.place.Place.{Place}
use Rattle.gms_ast.specs.StatementView.{extended_in}
use Rattle.std.proofs.lemmas.Slice.{pushed}
use Rattle.gms_expressions.proofs.Signs.{handed_on}
use Rattle.gms_parse.proofs.Steps.{refuses_memory}
use Rattle.gms_parse.proofs.Values.{no_value, some_value, slash_stays, value_unclosed, slashed_refused}
use Rattle.gms_parse.proofs.reader.Reader.scalar_value.Goals as goal

pub returns-in_default : goal.returns-in_default
returns-in_default g c tables read_state h = no_value g.F.ExactField.value c.new-items.result c.new-items.ensures.items c.in_default.ensures h

pub returns-in_err-value : goal.returns-in_err-value
returns-in_err-value g c tables read_state h = handed_on _ _ c.from_residual.result _ c.from_residual.ensures.1 (slashed_refused c.in-Some.ensures (c.in_err-value.ensures tables _ (slash_stays h c.in-Some.ensures).has))

pub returns-in_err-push : goal.returns-in_err-push
returns-in_err-push g c tables read_state h = handed_on _ _ c.from_residual-in_err-push.result _ c.from_residual-in_err-push.ensures.1 (refuses_memory refl)

pub returns-in_err-following : goal.returns-in_err-following
returns-in_err-following g c tables read_state h = handed_on _ _ c.from_residual-in_err-following.result _ c.from_residual-in_err-following.ensures.1 (value_unclosed h c.in-Some.ensures g.F.ExactField.value (c.in_ok-value.ensures tables _ (slash_stays h c.in-Some.ensures).has) c.in_err-following.ensures)

pub returns : goal.returns
returns g c tables read_state h = some_value h c.in-Some.ensures g.F.ExactField.value _ _ (pushed (_ ∷ []) c.new-items.ensures.items c.in_ok-push.was c.push.ensures.items) (ap₂ (λ (p : Place) (xs : List (List ℕ)). record { at = p; parts = xs; value = Some (extended_in g.F.ExactField.value c.in_ok-value.value); bad_range = false }) c.place.ensures (c.new-2.ensures ∙ c.new.ensures.items)) (c.in_ok-value.ensures tables _ (slash_stays h c.in-Some.ensures).has) c.in_ok-following.ensures.next
