use Rattle.gms_grammar.specs.GamsGrammar.{Assignment, AfterTarget}
use Rattle.gms_expressions.proofs.Signs.{handed_on, answered}
use Rattle.gms_parse.proofs.Steps.{refuses_the, refuses_first, refuses_second}
use Rattle.gms_parse.proofs.Nexts.{tableless_on}
use Rattle.gms_parse.proofs.Conditions.{open_starts}
use Rattle.gms_parse.proofs.Assigning.{assignment_got}
use Rattle.gms_parse.proofs.reader.Reader.assignment.Goals as goal

pub returns-in_err-target : goal.returns-in_err-target
returns-in_err-target g c read_state s other = handed_on _ _ c.from_residual.result _ c.from_residual.ensures.1 (refuses_the Assignment (refuses_first (c.in_err-target.ensures read_state s other)))

pub returns-in_err-condition : goal.returns-in_err-condition
returns-in_err-condition g c read_state s other =
    let t = c.in_ok-target.ensures read_state s other in
    handed_on _ _ c.from_residual-in_err-condition.result _ c.from_residual-in_err-condition.ensures.1
    (refuses_the Assignment (refuses_second t.gives (refuses_the AfterTarget (refuses_first (c.in_err-condition.ensures t.following (open_starts s t.leaves) (tableless_on t.leaves.stays.keyword other))))))

pub returns : goal.returns
returns g c read_state s other =
    let t = c.in_ok-target.ensures read_state s other in
    let k = c.in_ok-condition.ensures t.following (open_starts s t.leaves) (tableless_on t.leaves.stays.keyword other) in
    answered c.right_side.result (c.right_side.ensures k.following (open_starts (open_starts s t.leaves) k.leaves) (tableless_on k.leaves.stays.keyword (tableless_on t.leaves.stays.keyword other)))
    (λ r got. assignment_got g.F.ExactField.value t k got) (λ e r. refuses_the Assignment (refuses_second t.gives (refuses_the AfterTarget (refuses_second k.gives r))))
