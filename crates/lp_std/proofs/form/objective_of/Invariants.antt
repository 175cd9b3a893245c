use Rattle.std.proofs.Common.{◌≡◌, ◌-◌, ◌≤◌, map, pos}
use Rattle.std.specs.Prelude.{◌==◌, if◌then◌else◌}
use Rattle.std.specs.List.{range_with_len}
use Rattle.gq_number.specs.Number.{whole}
use Rattle.gq_number.specs.Sums.{sum_by_ℚ}
use Rattle.lp_core.specs.StandardForm as form
use Rattle.lp_std.specs.Meaning.{shift_value}
use Rattle.lp_std.proofs.form.objective_of.Given as goal

abbrev pub invariant-loop-variable : goal.invariant-loop-variable
invariant-loop-variable g l =
    record {
      from_one : 1 ≤ l.variable;
      made : map g.F.ExactField.value l.coefficients.items ≡ map (λ v. sum_by_ℚ (λ e. if e.0 == v then e.1 else whole (pos 0)) (form.spread l.first (shift_value g.F.ExactField.value l.shift) (g.F.ExactField.value l.factor))) (range_with_len 1 (l.variable - 1));
    }
