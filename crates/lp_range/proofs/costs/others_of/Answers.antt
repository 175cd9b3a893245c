use Rattle.std.proofs.Common.{◌+◌, ◌-◌, ◌<◌, Bool, ℕ, List, ◌++◌, not, filter, Vec, Global, ap, ◌∙◌, arith}
use Rattle.std.specs.Prelude.{is_some}
use Rattle.std.specs.List.{range_with_len}
use Rattle.lp_core.specs.Pivots.{row_of_basic}
use Rattle.lp_dict.specs.Tableau.{dictionary}
use Rattle.lp_range.proofs.Loops.{tests_basic, kept_goes, left_goes}
use Rattle.lp_range.proofs.costs.others_of.Goals.{then-not-is_basic+in_ok-push, else-not-is_basic}
use Rattle.lp_range.proofs.costs.others_of.Goals as goal

pub loop-variable-preserved : goal.loop-variable-preserved
loop-variable-preserved g c =
    let d = dictionary g.F.ExactField.value c.args.dict.now in
    let p : ℕ → Bool = λ v. not (is_some (row_of_basic d v)) in
    let v = c.loop-variable.variable in
    let n = c.args.dict.now.variables + 1 in
    let less : v < n = omega (arith, c.variables-variable-end.ensures, c.loop-variable-test.true) in
    let made = c.loop-variable.others.items in
    let tests = tests_basic d c.keeps.ensures.proper v c.is_basic.result c.is_basic.ensures in
    let rest = filter p (range_with_len (v + 1) (n - (v + 1))) in
    elim c.if-not-is_basic.branch [
      | then-not-is_basic+in_ok-push w ↦
          ap (λ (l : List ℕ). l ++ rest) (ap (λ (os : Vec ℕ Global). os.items) w.others-is ∙ w.in_ok-push.ensures.items) ∙ kept_goes p made v n less (tests ∙ ap not w.if-not-is_basic.true) ∙ c.loop-variable.invariant
      | else-not-is_basic w ↦
          ap (λ (os : Vec ℕ Global). os.items ++ rest) w.others-is ∙ left_goes p made v n less (tests ∙ ap not w.if-not-is_basic.false) ∙ c.loop-variable.invariant
    ]
