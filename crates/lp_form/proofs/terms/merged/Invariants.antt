use Rattle.std.proofs.Common.{◌≤◌, ◌+◌, ◌-◌, length, drop}
use Rattle.lp_form.specs.InnerMerging.{Outcome, after, Merges}
use Rattle.lp_form.proofs.terms.merged.Given as goal

abbrev pub invariant-loop-turn : goal.invariant-loop-turn
invariant-loop-turn g l =
    record {
      within : l.i ≤ length l.keys;
      others_within : l.j ≤ length l.other_keys;
      so_far : (r : Outcome _) → Merges g.F.ExactField.value g.F.ExactField.limit (drop l.i l.keys) (drop l.i l.numbers) (drop l.j l.other_keys) (drop l.j l.other_numbers) r → Merges g.F.ExactField.value g.F.ExactField.limit l.keys l.numbers l.other_keys l.other_numbers (after l.made.keys.items l.made.numbers.items r);
    }

abbrev pub decreases-loop-turn : goal.decreases-loop-turn
decreases-loop-turn g l = (length l.keys - l.i) + (length l.other_keys - l.j)
