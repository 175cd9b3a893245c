use Rattle.std.proofs.Common.{◌≡◌, ℕ, ◌+◌, ◌*◌, ◌++◌}
use Rattle.std.specs.Prelude.{codes, string_bytes}
use Rattle.gms_gen.specs.Generator.{seed_after, cost, datum, element, texts_below}
use Rattle.gms_gen.proofs.model.push_costs_from.Given as goal

abbrev pub invariant-loop-market : goal.invariant-loop-market
invariant-loop-market l =
    ((seed before : ℕ) → l.fn.draws ≡ seed_after seed before → l.draws ≡ seed_after seed (before + l.market))
    × ((seed plants : ℕ) → l.fn.draws ≡ seed_after seed (l.markets + plants + l.fn.plant * l.markets) →
    string_bytes l.text ≡ string_bytes l.fn.text ++ texts_below l.market (λ market. datum (element (codes "p") l.fn.plant ++ codes "." ++ element (codes "m") market) (cost seed plants l.markets l.fn.plant market)))
