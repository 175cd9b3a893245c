-- Stored rows after an exchange: made by factors that stay within the bound, or made apart.
use Rattle.std.proofs.Common.{◌≡◌, ◌≢◌, ℕ, ◌*◌, ◌<◌, ◌≤◌, inl, inr, nat_abs, List, length, Some, sym, ◌∙◌, subst, arith}
use Rattle.std.specs.Prelude.{slice_get}
use Rattle.std.proofs.lemmas.Bool.{cases_eq}
use Rattle.std.proofs.Math.Nat.{mul-le-mul}
use Rattle.lp_integers.specs.Lines.{whole_at}
use Rattle.lp_integer_rows.specs.declared.line.Line.{Line}
use Rattle.lp_integer_rows.specs.declared.line.Factors.{Factors}
use Rattle.lp_integer_rows.specs.Form.{wholes, lines_number, AreBounded, AreSameLines, AreTurned, IsWithinFactors, AreLowest}
use Rattle.lp_integer_dict.specs.WithinBound.{DeferredStaysWithin, DeferredStaysWithinAfter, zero_after, IsRoomyPlan, ExchangedStayWithin, AreExchangedWithin, AreMade}
use Rattle.lp_integer_rows.proofs.Turning.{turned_same}
use Rattle.lp_integer_rows.proofs.Plans.{get_within, some_at, same_some}
use Rattle.lp_integer_dict.proofs.Sameness.{same_are, same_numbers}

-- ---- by factors

module _ (bound column place leaving : ℕ) (before after : List Line) (plans : List Factors) (within : place < length before) (bounded : AreBounded bound before) (roomy : IsRoomyPlan bound column place leaving before plans) (turned : AreTurned column place plans before after) where
  -- the line of a place after it, with what it came from
  record IsFrom (i : ℕ) (y : Line) : Type 0 where
    pub p : Line
    pub x : Line
    pub f : Factors
    pub p_at : slice_get before place ≡ Some p
    pub x_at : slice_get before i ≡ Some x
    pub f_at : slice_get plans i ≡ Some f
    pub is : IsWithinFactors x p y f
    pub most : f.most ≤ bound

  from : (i : ℕ) (y : Line) → slice_get after i ≡ Some y → IsFrom i y
  from i y at =
      let less : i < length before = let e = get_within after i y at in let f = turned.sized in omega arith in
      let p = some_at before place within in
      let x = some_at before i less in
      let plan = (roomy.planned p.0 p.1).planned in
      let f = some_at plans i (let e = plan.sized in omega arith) in
      record {
        p = p.0;
        x = x.0;
        f = f.0;
        p_at = p.1;
        x_at = x.1;
        f_at = f.1;
        is = turned.within i p.0 x.0 y f.0 p.1 x.1 at f.1;
        most = elim (cases_eq i place) [
          | inl same ↦
              let own = plan.own f.0 (subst (λ k. slice_get plans k ≡ Some f.0) same f.1) in
              subst (λ (g : Factors). g.most ≤ bound) (sym own) (bounded place p.0 p.1)
          | inr other ↦ (plan.each i x.0 f.0 other x.1 f.1).within
        ];
      }

  bound_after : (y : Line) → leaving ≢ place → slice_get after leaving ≡ Some y → DeferredStaysWithin leaving y after bound
  bound_after y apart at =
      let first = from leaving y at in
      let keeps : DeferredStaysWithinAfter leaving first.p first.x first.f before plans bound = roomy.within_bound first.p first.x first.f apart first.p_at first.x_at first.f_at in
      record {
        own = let a = first.is.most in let b = first.most in omega arith;
        others = λ i l other there.
            let o = from i l there in
            let p_is : o.p ≡ first.p = same_some o.p first.p (sym o.p_at ∙ first.p_at) in
            let is : IsWithinFactors o.x first.p l o.f = subst (λ x. IsWithinFactors o.x x l o.f) p_is o.is in
            let within_bound = keeps i o.x o.f other o.x_at o.f_at in
            let left : l.most * nat_abs (whole_at (wholes y) 1) ≤ o.f.most * zero_after first.x first.p first.f = mul-le-mul is.most (first.is.magnitudes 1) in
            let right : nat_abs (whole_at (wholes l) 1) * y.most ≤ zero_after o.x first.p o.f * first.f.most = mul-le-mul (is.magnitudes 1) first.is.most in
            omega arith;
      }

  pub turned_by_plan : AreExchangedWithin bound column place leaving before after
  turned_by_plan =
      record {
        sized = turned.sized;
        are_lines = turned.are_lines;
        numbers = turned.numbers;
        within_bound = record {
          bounded = λ i y at.
              let o = from i y at in
              let low = o.is.most in
              let high = o.most in
              omega arith;
          others = bound_after;
        };
      }

-- ---- from lines that stand for the same numbers

pub same_turned : (bound column place leaving : ℕ) (before divided after : List Line) → AreSameLines before divided → AreExchangedWithin bound column place leaving divided after → AreExchangedWithin bound column place leaving before after
same_turned bound column place leaving before divided after same h =
    record {
      sized = h.sized ∙ same.sized;
      are_lines = λ width are. h.are_lines width (same_are before divided same width are);
      numbers = λ i c less.
          h.numbers i c (let e = same.sized in omega arith) ∙ turned_same (lines_number divided) (lines_number before) column place i c (same_numbers before divided same);
      within_bound = h.within_bound;
    }

-- ---- made apart

module _ (bound column place leaving : ℕ) (before mid after : List Line) (plans : List Factors) (turned : AreTurned column place plans before mid) (same : AreSameLines mid after) where
  pub by_copies : ExchangedStayWithin bound place leaving after → AreExchangedWithin bound column place leaving before after
  by_copies within_bound =
      record {
        sized = same.sized ∙ turned.sized;
        are_lines = λ width are. same_are mid after same width (turned.are_lines width are);
        numbers = λ i c less. same_numbers mid after same i c ∙ turned.numbers i c less;
        within_bound = within_bound;
      }

  pub made_so : AreLowest after → AreMade column place before after
  made_so lowest =
      record {
        sized = same.sized ∙ turned.sized;
        numbers = λ i c less. same_numbers mid after same i c ∙ turned.numbers i c less;
        lowest = lowest;
      }
