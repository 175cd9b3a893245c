use Rattle.std.proofs.Common.{refl}
use Rattle.lp_integer_dict.proofs.RowsWithinBound.{small_keeps}
use Rattle.lp_integer_dict.proofs.bounds.deferred_stays_within_after.Goals as goal

pub returns-then-is_small_after : goal.returns-then-is_small_after
returns-then-is_small_after c = λ p l g p_at l_at g_at. (
  λ yes.
      let told = c.is_small_after.ensures c.if-is_small_after.true in
      small_keeps c.requires.lines.0 c.args.bound c.requires.planned.0 c.args.place c.args.lines.now c.args.plans.now p c.requires.lines.1 c.requires.lines.2 (c.requires.planned.1 p p_at) p_at told.0 c.args.leaving l g told.1 told.2 l_at g_at,
  λ keeps. refl,
)
