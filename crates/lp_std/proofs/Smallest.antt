-- A program whose first dictionary is its final one: one column, at most a bound, to maximize, in
-- no row.
use Rattle.std.proofs.Common.{◌≡◌, ℕ, true, pos, [], ◌∷◌, Some, None, inr, refl, sym, ap, ◌∙◌, subst, arith}
use Rattle.std.specs.Prelude.{if◌then◌else◌, ◌==◌}
use Rattle.std.proofs.lemmas.List.Elements.{All-nil}
use Rattle.gq_number.specs.Number.{Number, whole, ◌+ℚ◌, neg_ℚ}
use Rattle.gq_number.specs.Order.{◌<ℚ◌}
use Rattle.gq_number.specs.Sums.{sum_by_ℚ}
use Rattle.gq_number.proofs.Order
use Rattle.gq_number.proofs.Field.{+ℚ-zero}
use Rattle.gq_number.proofs.Signs.{zero-<ℚ-one, below_from_neg}
use Rattle.gq_number.proofs.Sums.{sum_by_ℚ-nil, sum_by_ℚ-cons}
use Rattle.lp_form.specs.declared.key.Key.{Key}
use Rattle.lp_core.specs.declared.program.Lp.{Lp}
use Rattle.lp_core.specs.StandardForm as form
use Rattle.lp_core.specs.Dictionary.{InPhaseOne, entry_at, first_dictionary}
use Rattle.lp_core.specs.Pivots.{NothingImproves, last_of}
use Rattle.lp_std.specs.declared.types.Standard.{Standard}
use Rattle.lp_std.specs.declared.types.Final.{Final}
use Rattle.lp_core.specs.declared.answer.EndKind.TheVariants as kind
use Rattle.lp_std.specs.Meaning.{standard_value}
use Rattle.lp_std.specs.Last.{IsDictionaryOf, IsLast, last_value}

module _ {F : Type 0} (value : F → Number) (key : Key) (u : F) where
  abbrev program : Lp F
  program = record { columns = record { key = key; lower = None; upper = Some u } ∷ []; rows = []; objective = 0; maximize = true }

  abbrev s : form.Standard
  s = form.standard_form value program

  abbrev only : Number
  only = sum_by_ℚ (λ (e : ℕ × Number). if e.0 == 1 then e.1 else whole (pos 0)) ((1, neg_ℚ (whole (pos 1))) ∷ [])

  only_is : only ≡ neg_ℚ (whole (pos 1))
  only_is = sum_by_ℚ-cons _ (1, neg_ℚ (whole (pos 1))) [] ∙ ap (λ n. neg_ℚ (whole (pos 1)) +ℚ n) (sum_by_ℚ-nil _) ∙ +ℚ-zero (neg_ℚ (whole (pos 1)))

  first_is : IsDictionaryOf s (first_dictionary s)
  first_is =
      record {
        variables = refl;
        sized = refl;
        there = All-nil _;
        own = λ k h. absurd (omega (arith, h));
        alone = λ i k g h other. absurd (omega (arith, h));
        same = λ x o zero_there. (λ m. m, λ m. m);
        zero_above = λ k at not_required. absurd (cc);
      }

  no_phase_one : ¬ (InPhaseOne (first_dictionary s))
  no_phase_one = λ h. absurd (omega (arith, h.1))

  nothing : NothingImproves (first_dictionary s)
  nothing = (
    λ required. absurd (omega (arith, required.1)),
    λ v better.
        let other = better.other in
        let one : v ≡ 1 = omega (arith, better.there) in
        let above : whole (pos 0) <ℚ entry_at (first_dictionary s) 0 v = better.above 0 (inr (no_phase_one, refl)) in
        let at_one : whole (pos 0) <ℚ only = subst (λ w. whole (pos 0) <ℚ entry_at (first_dictionary s) 0 w) one above in
        Order.<ℚ_irrefl (whole (pos 0)) (Order.<ℚ_trans (whole (pos 0)) (whole (pos 1)) (whole (pos 0)) zero-<ℚ-one (below_from_neg (whole (pos 1)) (subst (λ n. whole (pos 0) <ℚ n) only_is at_one))),
  )

  module _ (a b c e : F) (a_is : value a ≡ whole (pos 0)) (b_is : value b ≡ whole (pos 0)) (c_is : value c ≡ whole (pos 0)) (e_is : value e ≡ neg_ℚ (whole (pos 1))) where
    abbrev read : Final F
    read = record { kind = kind.Optimal; values = a ∷ b ∷ []; costs = c ∷ e ∷ []; ray = [] }

    read_is : last_value value read ≡ last_of (first_dictionary s)
    read_is = λ t. record { values = a_is t ∷ b_is t ∷ []; costs = c_is t ∷ (e_is ∙ sym only_is) t ∷ []; changes = [] }

    pub is_last : (form_of : Standard F) → standard_value value form_of ≡ form.standard_form value program → IsLast value form_of read
    is_last form_of is_form = (first_dictionary s, subst (λ f. IsDictionaryOf f (first_dictionary s)) (sym is_form) first_is, (no_phase_one, nothing, read_is))
