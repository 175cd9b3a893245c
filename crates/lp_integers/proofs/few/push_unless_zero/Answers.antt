-- A word whose number is 0 is not appended.
use Rattle.std.proofs.Common.{◌++◌, ◌∷◌, [], to_z, of_z, w64, inl, inr, refl, sym, ap, ◌∙◌}
use Rattle.std.proofs.lemmas.Int.{to_z-of_z}
use Rattle.std.proofs.lemmas.Result.{IfOk-from_err}
use Rattle.lp_integers.proofs.few.push_unless_zero.Goals as goal

pub returns-then-number-eq0 : goal.returns-then-number-eq0
returns-then-number-eq0 c = inr (sym (to_z-of_z w64 c.args.number c.ranges.number) ∙ ap (to_z w64) c.if-number-eq0.true, refl)

pub returns-in_err-push : goal.returns-in_err-push
returns-in_err-push c = IfOk-from_err c.from_residual.result _ c.from_residual.ensures.0

pub returns : goal.returns
returns c =
    inl (
      λ is. c.if-number-eq0.false (ap (of_z w64) is),
      c.in_ok-push.ensures.items
          ∙ ap (λ z. c.args.words.now.items ++ record { place = c.args.place; number = z } ∷ []) (to_z-of_z w64 c.args.number c.ranges.number),
    )
