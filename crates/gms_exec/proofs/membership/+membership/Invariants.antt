use Rattle.std.proofs.Common.{◌≡◌, drop, true, false}
use Rattle.gms_eval.proofs.Marks.{signed_mark}
use Rattle.gms_exec.specs.Membership.{in_sum, in_product}
use Rattle.gms_exec.proofs.MemberTrees.{member_part, joined_on}
use Rattle.gms_exec.proofs.membership.+membership.Given as goal

abbrev pub invariant-in_sum-loop-subtracts : goal.invariant-in_sum-loop-subtracts
invariant-in_sum-loop-subtracts g l =
    joined_on in_sum signed_mark (member_part g.F.ExactField.value g.F.ExactField.limit l.store l.b) false l.parts ≡ joined_on in_sum signed_mark (member_part g.F.ExactField.value g.F.ExactField.limit l.store l.b) l.so_far (drop l.subtracts-index l.parts)

abbrev pub invariant-in_product-loop-part : goal.invariant-in_product-loop-part
invariant-in_product-loop-part g l =
    joined_on in_product signed_mark (member_part g.F.ExactField.value g.F.ExactField.limit l.store l.b) true l.parts ≡ joined_on in_product signed_mark (member_part g.F.ExactField.value g.F.ExactField.limit l.store l.b) l.so_far (drop l.part-index l.parts)
