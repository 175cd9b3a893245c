-- A bound that a dual gives of a program of one row and one column.
use Rattle.std.proofs.Common.{◌≡◌, ◌≢◌, ℕ, pos, true, false, List, [], ◌∷◌, Option, Some, None, refl, sym, ap, ap₂, ◌∙◌, subst}
use Rattle.std.specs.declared.cmp.Ordering.TheVariants.{Less, Greater}
use Rattle.gq_number.specs.Number.{Number, whole, ratio, ◌+ℚ◌, ◌-ℚ◌, ◌*ℚ◌, neg_ℚ}
use Rattle.gq_number.specs.Gcd.{gcd, gcd_in_steps}
use Rattle.gq_number.specs.Order.{number_cmp}
use Rattle.gq_number.specs.Sums.{sum_by_ℚ}
use Rattle.lp_form.specs.declared.key.Key.{Key}
use Rattle.lp_core.specs.declared.program.Sense.TheVariants as sense
use Rattle.lp_core.specs.declared.program.Column.{Column}
use Rattle.lp_core.specs.declared.program.Row.{Row}
use Rattle.lp_core.specs.declared.program.Lp.{Lp}
use Rattle.lp_core.specs.DualBound.{by_sign, used, total, both}
use Rattle.lp_check.specs.BoundSteps.{objective_bound}

-- 2 is above 0
two_above : number_cmp (ratio (pos 2) 1) (whole (pos 0)) ≡ Greater
unfolding gcd gcd_in_steps ratio whole number_cmp
two_above = refl

-- 1 - 2 * 100 is below 0
cost_below : number_cmp (whole (pos 1) -ℚ (ratio (pos 2) 1 *ℚ (ratio (pos 100) 1 +ℚ whole (pos 0)) +ℚ whole (pos 0))) (whole (pos 0)) ≡ Less
unfolding gcd gcd_in_steps ratio whole ◌+ℚ◌ ◌-ℚ◌ ◌*ℚ◌ neg_ℚ number_cmp
cost_below = refl

module _ {F : Type 0} (value : F → Number) (k r : Key) (zero one hundred two : F) where
  abbrev the_column : Column F
  the_column = record { key = k; lower = None; upper = Some zero }

  abbrev the_row : List (ℕ × F) → Row F
  the_row entries = record { key = r; sense = sense.G; right = one; entries = entries }

  abbrev the_program : List (Column F) → List (Row F) → Lp F
  the_program columns rows = record { columns = columns; rows = rows; objective = 0; maximize = false }

  abbrev cost : Number
  cost = whole (pos 1) -ℚ (value two *ℚ (value hundred +ℚ whole (pos 0)) +ℚ whole (pos 0))

  -- the bound exists, by the signs of the dual and of the reduced cost
  by_signs : number_cmp (value two) (whole (pos 0)) ≡ Greater → number_cmp cost (whole (pos 0)) ≡ Less → objective_bound value true (the_program (the_column ∷ []) (the_row ((0, hundred) ∷ []) ∷ [])) (value two ∷ []) ≢ None
  unfolding sum_by_ℚ
  by_signs above below none =
      let a : used (value two) (Some (value one)) None ≡ Some (value two *ℚ value one) = ap (λ o. by_sign o (value two) (Some (value one)) None) above in
      let b : used cost None (Some (value zero)) ≡ Some (cost *ℚ value zero) = ap (λ o. by_sign o cost None (Some (value zero))) below in
      some_there (both (total (Some (value two *ℚ value one) ∷ [])) (total (Some (cost *ℚ value zero) ∷ []))) _ refl (sym (ap₂ (λ x y. both (total (x ∷ [])) (total (y ∷ []))) a b) ∙ none)
    where
      some_there : (o : Option Number) (n : Number) → o ≡ Some n → o ≡ None → ⊥
      some_there o n is none = absurd (cc)

  pub bound_there : value hundred ≡ ratio (pos 100) 1 → value two ≡ ratio (pos 2) 1 → (entries : List (ℕ × F)) (columns : List (Column F)) (rows : List (Row F)) → entries ≡ (0, hundred) ∷ [] → columns ≡ the_column ∷ [] → rows ≡ the_row entries ∷ [] → objective_bound value true (the_program columns rows) (value two ∷ []) ≢ None
  bound_there h t entries columns rows e c w =
      let above = ap (λ x. number_cmp x (whole (pos 0))) t ∙ two_above in
      let below = ap₂ (λ x y. number_cmp (whole (pos 1) -ℚ (x *ℚ (y +ℚ whole (pos 0)) +ℚ whole (pos 0))) (whole (pos 0))) t h ∙ cost_below in
      subst (λ cs. objective_bound value true (the_program cs rows) (value two ∷ []) ≢ None) (sym c)
      (subst (λ rs. objective_bound value true (the_program (the_column ∷ []) rs) (value two ∷ []) ≢ None) (sym (w ∙ ap (λ es. the_row es ∷ []) e)) (by_signs above below))
