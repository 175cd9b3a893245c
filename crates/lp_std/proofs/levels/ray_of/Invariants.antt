use Rattle.std.proofs.Common.{◌≡◌, ℕ, map, take}
use Rattle.std.specs.Prelude.{flat_map}
use Rattle.std.specs.List.{enumerate_from}
use Rattle.lp_core.specs.StandardForm as form
use Rattle.lp_core.specs.Steps.{ray_step}
use Rattle.lp_std.specs.Meaning.{shift_value}
use Rattle.lp_std.specs.InnerSteps.{first_stop, placed_value}
use Rattle.lp_std.proofs.EntryLists.{traversal}
use Rattle.lp_std.proofs.levels.ray_of.Given as goal

abbrev pub invariant-loop-j : goal.invariant-loop-j
invariant-loop-j g l =
    record {
      steps : first_stop (flat_map (λ p. ray_step g.F.ExactField.limit p.0 p.1 (map g.F.ExactField.value l.changes)) (enumerate_from 0 (placed_value g.F.ExactField.value l.columns))) ≡ first_stop (traversal (λ p. (p.0, shift_value g.F.ExactField.value p.1)) (λ (p : ℕ × (ℕ × form.Shift)). ray_step g.F.ExactField.limit p.0 p.1 (map g.F.ExactField.value l.changes)) l.columns l.j);
      made : map g.F.ExactField.value l.ray.items ≡ map (λ p. form.changed_back (p.0, shift_value g.F.ExactField.value p.1) (map g.F.ExactField.value l.changes)) (take l.j l.columns);
    }
