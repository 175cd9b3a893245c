-- The words of both lists are used if there are few; else all numbers are listed first.
use Rattle.std.proofs.Common.{◌≡◌, ◌-◌, ◌^◌, ℤ, ℕ, List, length, w64, refl, sym, ap, ◌∙◌, subst, subst₂, Option, Some, None, FitsSigned}
use Rattle.std.specs.Prelude.{IfSome, MatchOption}
use Rattle.std.proofs.lemmas.Int.{to_z-of_z}
use Rattle.std.proofs.lemmas.Result.{IfOk-from_err}
use Rattle.lp_integers.specs.Lines.{CombinationsStayWithin, AreLessened}
use Rattle.lp_integers.proofs.Lines.{stored, same_lessened}
use Rattle.lp_integers.proofs.numbers.Numbers.lessen_words.Goals as goal

module _ (a b : ℤ) (own others now also : List ℤ) (a_fits : FitsSigned w64 a) (b_fits : FitsSigned w64 b) (now_is : now ≡ own) (also_is : also ≡ others) where
  -- factors that were stored and lists that were listed keep the bound
  bound_kept : (most : ℕ) → CombinationsStayWithin most a b own others → CombinationsStayWithin most (stored w64 a) (stored w64 b) now also
  bound_kept most h =
      subst₂ (λ x y. CombinationsStayWithin most x y now also) (sym (to_z-of_z w64 a a_fits)) (sym (to_z-of_z w64 b b_fits))
      (subst₂ (CombinationsStayWithin most a b) (sym now_is) (sym also_is) h)

  length_kept : length others ≡ length own → length also ≡ length now
  length_kept sized = ap length also_is ∙ sized ∙ sym (ap length now_is)

  result_kept : (made : List ℤ) (o : Option ℕ) → MatchOption o (made ≡ now) (AreLessened (stored w64 a) (stored w64 b) now also made) →
      MatchOption o (made ≡ own) (AreLessened a b own others made)
  result_kept made None h = h ∙ now_is
  result_kept made (Some most) h = same_lessened (to_z-of_z w64 a a_fits) (to_z-of_z w64 b b_fits) now_is also_is refl h

at_none : (P : Type 0) (Q : ℕ → Type 0) (o : Option ℕ) → o ≡ None → MatchOption o P Q → P
at_none P Q o none h = subst (λ r. MatchOption r P Q) none h

at_some : (o : Option (List ℤ)) (list others : List ℤ) → o ≡ Some list → IfSome o (λ l. l ≡ others) → list ≡ others
at_some o list others some h = subst (λ r. IfSome r (λ l. l ≡ others)) some h

pub lessen_few-requires-clause-sized : goal.lessen_few-requires-clause-sized
lessen_few-requires-clause-sized c = c.requires.sized

pub lessen_few-requires-clause-within_bound : goal.lessen_few-requires-clause-within_bound
lessen_few-requires-clause-within_bound c =
    bound_kept c.args.a c.args.b c.args.self.now c.args.others.now c.args.self.now c.args.others.now c.ranges.a c.ranges.b refl refl
    (2 ^ 63 - 1) c.requires.within_bound

pub returns-in_err-most : goal.returns-in_err-most
returns-in_err-most c = IfOk-from_err c.from_residual.result _ c.from_residual.ensures.0

pub returns-in-Some : goal.returns-in-Some
returns-in-Some c =
    subst (λ o. MatchOption o (c.lessen_few.new.self ≡ c.args.self.now)
    (AreLessened c.args.a c.args.b c.args.self.now c.args.others.now c.lessen_few.new.self)) c.in-Some.is
    (result_kept c.args.a c.args.b c.args.self.now c.args.others.now c.args.self.now c.args.others.now
    c.ranges.a c.ranges.b refl refl c.lessen_few.new.self c.in_ok-most.field-0 c.in_ok-most.ensures)

pub returns-in_err-list_all : goal.returns-in_err-list_all
returns-in_err-list_all c = IfOk-from_err c.from_residual-in_err-list_all.result _ c.from_residual-in_err-list_all.ensures.0

pub returns-in_err-list : goal.returns-in_err-list
returns-in_err-list c = IfOk-from_err c.from_residual-in_err-list.result _ c.from_residual-in_err-list.ensures.0

pub lessen_narrow-requires-clause-sized : goal.lessen_narrow-requires-clause-sized
lessen_narrow-requires-clause-sized c =
    let same = c.in_ok-list_all.ensures ∙ at_none _ _ c.in_ok-most.field-0 c.in_default.is c.in_ok-most.ensures in
    let listed = at_some c.in_ok-list.field-0 c.in-Some-2.list c.args.others.now c.in-Some-2.is c.in_ok-list.ensures in
    length_kept c.args.a c.args.b c.args.self.now c.args.others.now c.list_all.new.self c.in-Some-2.list c.ranges.a c.ranges.b same listed c.requires.sized

pub lessen_narrow-requires-clause-within_bound : goal.lessen_narrow-requires-clause-within_bound
lessen_narrow-requires-clause-within_bound c =
    let same = c.in_ok-list_all.ensures ∙ at_none _ _ c.in_ok-most.field-0 c.in_default.is c.in_ok-most.ensures in
    let listed = at_some c.in_ok-list.field-0 c.in-Some-2.list c.args.others.now c.in-Some-2.is c.in_ok-list.ensures in
    bound_kept c.args.a c.args.b c.args.self.now c.args.others.now c.list_all.new.self c.in-Some-2.list c.ranges.a c.ranges.b same listed
    (2 ^ 63 - 1) c.requires.within_bound

pub lessen_narrow-requires-in-None-clause-sized : goal.lessen_narrow-requires-in-None-clause-sized
lessen_narrow-requires-in-None-clause-sized c =
    let same = c.in_ok-list_all.ensures ∙ at_none _ _ c.in_ok-most.field-0 c.in_default.is c.in_ok-most.ensures in
    length_kept c.args.a c.args.b c.args.self.now c.args.others.now c.list_all.new.self c.args.others.now c.ranges.a c.ranges.b same refl c.requires.sized

pub lessen_narrow-requires-in-None-clause-within_bound : goal.lessen_narrow-requires-in-None-clause-within_bound
lessen_narrow-requires-in-None-clause-within_bound c =
    let same = c.in_ok-list_all.ensures ∙ at_none _ _ c.in_ok-most.field-0 c.in_default.is c.in_ok-most.ensures in
    bound_kept c.args.a c.args.b c.args.self.now c.args.others.now c.list_all.new.self c.args.others.now c.ranges.a c.ranges.b same refl
    (2 ^ 63 - 1) c.requires.within_bound

pub returns-in-Some-2 : goal.returns-in-Some-2
returns-in-Some-2 c =
    let same = c.in_ok-list_all.ensures ∙ at_none _ _ c.in_ok-most.field-0 c.in_default.is c.in_ok-most.ensures in
    let listed = at_some c.in_ok-list.field-0 c.in-Some-2.list c.args.others.now c.in-Some-2.is c.in_ok-list.ensures in
    result_kept c.args.a c.args.b c.args.self.now c.args.others.now c.list_all.new.self c.in-Some-2.list
    c.ranges.a c.ranges.b same listed c.lessen_narrow.new.self c.lessen_narrow.result c.lessen_narrow.ensures

pub returns-in-None : goal.returns-in-None
returns-in-None c =
    let same = c.in_ok-list_all.ensures ∙ at_none _ _ c.in_ok-most.field-0 c.in_default.is c.in_ok-most.ensures in
    result_kept c.args.a c.args.b c.args.self.now c.args.others.now c.list_all.new.self c.args.others.now
    c.ranges.a c.ranges.b same refl c.lessen_narrow-in-None.new.self c.lessen_narrow-in-None.result
    c.lessen_narrow-in-None.ensures
