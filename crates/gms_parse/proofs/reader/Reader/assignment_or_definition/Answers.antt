use Rattle.std.proofs.Common.{sym, ◌∙◌}
use Rattle.gms_grammar.proofs.Basics.{both_ways}
use Rattle.gms_expressions.proofs.Signs.{handed_on, answered}
use Rattle.gms_parse.proofs.Nexts.{tableless_on}
use Rattle.gms_parse.proofs.Conditions.{open_starts}
use Rattle.gms_parse.proofs.Named.{target_refused, condition_refused, assigned_got, assigned_refused, defined_got, defined_refused, dots_starts, dots_tableless}
use Rattle.gms_parse.proofs.reader.Reader.assignment_or_definition.Goals as goal
use Rattle.gms_parse.proofs.reader.Reader.assignment_or_definition.Goals.{in_default-via-in-Some+else-is_plain, in_default-via-in_default}

pub returns-in_err-target : goal.returns-in_err-target
returns-in_err-target g c read_state s other = handed_on _ _ c.from_residual.result _ c.from_residual.ensures.1 (target_refused (c.in_err-target.ensures read_state s other))

pub returns-in_err-condition : goal.returns-in_err-condition
returns-in_err-condition g c read_state s other =
    let t = c.in_ok-target.ensures read_state s other in
    handed_on _ _ c.from_residual-in_err-condition.result _ c.from_residual-in_err-condition.ensures.1
    (condition_refused g.F.ExactField.value t (c.in_err-condition.ensures t.following (open_starts s t.leaves) (tableless_on t.leaves.stays.keyword other)))

pub returns-in-Some : goal.returns-in-Some
returns-in-Some g c read_state s other =
    let t = c.in_ok-target.ensures read_state s other in
    let later = tableless_on t.leaves.stays.keyword other in
    let k = c.in_ok-condition.ensures t.following (open_starts s t.leaves) later in
    let n = c.in-Some.ensures in
    let plain = sym c.is_plain.ensures ∙ c.if-is_plain.true in
    answered c.sides.result (c.sides.ensures _ (dots_starts (open_starts s t.leaves) k.leaves n) (dots_tableless k.leaves later n)) (λ r got. defined_got g.F.ExactField.value t k plain n got) (λ e r. defined_refused g.F.ExactField.value t k plain n r)

pub returns-in_default : goal.returns-in_default
returns-in_default g c read_state s other =
    let t = c.in_ok-target.ensures read_state s other in
    let later = tableless_on t.leaves.stays.keyword other in
    let k = c.in_ok-condition.ensures t.following (open_starts s t.leaves) later in
    answered c.right_side.result (c.right_side.ensures k.following (open_starts (open_starts s t.leaves) k.leaves) (tableless_on k.leaves.stays.keyword later)) (λ r got. assigned_got g.F.ExactField.value t k got)
    (λ e r. assigned_refused g.F.ExactField.value t k
    (λ h. elim c.in_default.branch [ in_default-via-in-Some+else-is_plain w ↦ absurd (both_ways _ h (sym w.is_plain.ensures ∙ w.if-is_plain.false)) | in_default-via-in_default w ↦ w.in_default.ensures ]) r)
