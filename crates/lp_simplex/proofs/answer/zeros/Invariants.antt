use Rattle.std.proofs.Common.{◌≡◌, map, pos}
use Rattle.std.specs.Prelude.{replicate}
use Rattle.gq_number.specs.Number.{whole}
use Rattle.lp_simplex.proofs.answer.zeros.Given as goal

abbrev pub invariant-loop-place : goal.invariant-loop-place
invariant-loop-place g l = map g.F.ExactField.value l.list.items ≡ replicate l._place (whole (pos 0))
