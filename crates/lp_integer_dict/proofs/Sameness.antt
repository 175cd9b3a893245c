-- Lines that stand for the same numbers.
use Rattle.std.proofs.Common.{◌≡◌, ℕ, ◌<◌, ◌^◌, ◌<ℤ◌, inl, inr, List, length, Some, pos, refl, sym, ap, ◌∙◌, subst, arith}
use Rattle.std.specs.Prelude.{slice_get}
use Rattle.std.proofs.lemmas.Bool.{cases_lt}
use Rattle.gq_number.specs.Number.{whole}
use Rattle.gq_number.specs.Order.{◌<ℚ◌}
use Rattle.lp_integer_rows.specs.declared.line.Line.{Line}
use Rattle.lp_integer_rows.specs.declared.line.Factors.{Factors}
use Rattle.lp_integers.specs.Lines.{whole_at}
use Rattle.lp_integer_rows.specs.Form.{wholes, AreLines, AreBounded, AreSameLines, IsSameLine, ArePlanned, IsPlan, lines_number, number_or_none}
use Rattle.lp_integer_rows.proofs.Plans.{get_within, some_at, same_some, get_past}
use Rattle.lp_integer_rows.proofs.Updating.{same_itself}
use Rattle.lp_integer_dict.proofs.Reading.{at_line, number_above}

pub same_lines : (width : ℕ) (lines : List Line) → AreLines width lines → AreSameLines lines lines
same_lines width lines are =
    record { sized = refl; each = λ i x y at there. subst (IsSameLine x) (same_some x y (sym at ∙ there)) (same_itself x (are i x at).0) }

module _ (before after : List Line) (h : AreSameLines before after) where
  before_at : (i : ℕ) (y : Line) → slice_get after i ≡ Some y → (x : Line) × (slice_get before i ≡ Some x)
  before_at i y at = some_at before i (let e = get_within after i y at in let f = h.sized in omega arith)

  pub same_are : (width : ℕ) → AreLines width before → AreLines width after
  same_are width are i y at =
      let x = before_at i y at in
      let s = h.each i x.0 y x.1 at in
      (s.is_line, s.sized ∙ (are i x.0 x.1).1)

  pub same_bounded : (bound : ℕ) → AreBounded bound before → AreBounded bound after
  same_bounded bound b i y at =
      let x = before_at i y at in
      let s = (h.each i x.0 y x.1 at).most in
      let most = b i x.0 x.1 in
      omega arith

  pub same_numbers : (i c : ℕ) → lines_number after i c ≡ lines_number before i c
  same_numbers i c = elim (cases_lt i (length before)) [
    | inl less ↦
        let x = some_at before i less in
        let y = some_at after i (let e = h.sized in omega arith) in
        at_line after i y.0 y.1 c ∙ (h.each i x.0 y.0 x.1 y.1).numbers c ∙ sym (at_line before i x.0 x.1 c)
    | inr past ↦ ap (λ o. number_or_none o c) (get_past after i (let e = h.sized in omega arith) ∙ sym (get_past before i past))
  ]

-- a number above 0 of a line
pub line_above : (width : ℕ) (lines : List Line) (i c : ℕ) (l : Line) → AreLines width lines → slice_get lines i ≡ Some l → whole (pos 0) <ℚ lines_number lines i c → pos 0 <ℤ whole_at (wholes l) c
line_above width lines i c l are there above =
    number_above (whole_at (wholes l) c) l.denominator (are i l there).0.positive (subst (λ x. whole (pos 0) <ℚ x) (at_line lines i l there c) above)

-- a plan from the factors of all lines
pub plan_of : (bound column place width : ℕ) (lines : List Line) (plans : List Factors) (x : Line) → AreLines width lines → slice_get lines place ≡ Some x → bound < 2 ^ 127 → whole (pos 0) <ℚ lines_number lines place column → ArePlanned bound column place lines x plans (length lines) → (p : Line) → slice_get lines place ≡ Some p → IsPlan bound column place lines p plans
plan_of bound column place width lines plans x are there small above planned p at =
    subst (λ t. IsPlan bound column place lines t plans) (same_some x p (sym there ∙ at))
    (record { small = small; above = line_above width lines place column x are there above; planned = planned })
