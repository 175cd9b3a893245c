use Rattle.std.proofs.Common.{List}
use Rattle.std.proofs.lemmas.Result.{IfOk-weaker}
use Rattle.lp_core.specs.declared.answer.Pivot.{Pivot}
use Rattle.lp_core.specs.Dictionary.{Dictionary}
use Rattle.lp_core.specs.Pivots.{IsTaken}
use Rattle.lp_dict.specs.Tableau.{dictionary}
use Rattle.lp_simplex.specs.InnerStates as walks
use Rattle.lp_simplex.proofs.pivoting.stepped.Goals as goal

pub returns-in-Pivot-clause-steps : goal.returns-in-Pivot-clause-steps
returns-in-Pivot-clause-steps g c =
    let d = dictionary g.F.ExactField.value c.args.dict in
    IfOk-weaker c.pivoted.result
    (λ step. (first : Dictionary) (pivots : List Pivot) → g.C.Choosing.remembers c.args.choice.now first pivots d → IsTaken (g.C.Choosing.chooses (g.C.Choosing.rule c.args.choice.now) first pivots d) d c.in-Pivot.pivot → walks.StepsTo g.F.ExactField.limit g.F.ExactField.value (g.C.Choosing.chooses (g.C.Choosing.rule c.args.choice.now) first pivots d) (g.C.Choosing.remembers c.pivoted.new.choice first) pivots c.args.dict step)
    (λ step. (first : Dictionary) (pivots : List Pivot) → g.C.Choosing.remembers c.args.choice.now first pivots d → walks.StepsTo g.F.ExactField.limit g.F.ExactField.value (g.C.Choosing.chooses (g.C.Choosing.rule c.args.choice.now) first pivots d) (g.C.Choosing.remembers c.pivoted.new.choice first) pivots c.args.dict step)
    (λ step steps first pivots known. steps first pivots known (c.in-Pivot.ensures.chosen first pivots known).1.1)
    c.pivoted.ensures.steps
