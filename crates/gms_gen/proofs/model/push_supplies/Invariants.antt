use Rattle.std.proofs.Common.{◌≡◌, ℕ, ◌+◌, ◌++◌}
use Rattle.std.specs.Prelude.{codes, string_bytes}
use Rattle.gms_gen.specs.Generator.{seed_after, supply, datum, element, texts_below, total_demand}
use Rattle.gms_gen.proofs.model.push_supplies.Given as goal

abbrev pub invariant-loop-plant : goal.invariant-loop-plant
invariant-loop-plant l =
    (seed markets : ℕ) → l.fn.draws ≡ seed_after seed markets →
    (l.draws ≡ seed_after seed (markets + l.plant))
    × (l.demand ≡ total_demand seed l.plants markets → string_bytes l.text ≡ string_bytes l.fn.text ++ texts_below l.plant (λ plant. datum (element (codes "p") plant) (supply seed l.plants markets plant)))
