use Rattle.std.proofs.Common.{◌≡◌, ℕ, ◌+◌, ◌*◌, ◌++◌}
use Rattle.std.specs.Prelude.{string_bytes}
use Rattle.gms_gen.specs.Generator.{seed_after, costs_from, texts_below}
use Rattle.gms_gen.proofs.model.push_costs.Given as goal

abbrev pub invariant-loop-plant : goal.invariant-loop-plant
invariant-loop-plant l =
    (seed : ℕ) → l.fn.draws ≡ seed_after seed (l.markets + l.plants) →
    (l.draws ≡ seed_after seed (l.markets + l.plants + l.plant * l.markets))
    × (string_bytes l.text ≡ string_bytes l.fn.text ++ texts_below l.plant (costs_from seed l.plants l.markets))
