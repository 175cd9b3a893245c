use Rattle.std.proofs.Common.{◌≡◌, ℕ, ◌≤◌, ◌*◌, ◌++◌}
use Rattle.std.specs.Prelude.{codes, string_bytes}
use Rattle.gms_gen.specs.Generator.{seed_after, demand, datum, element, texts_below, sum_below}
use Rattle.gms_gen.proofs.model.push_demands.Given as goal

abbrev pub invariant-loop-market : goal.invariant-loop-market
invariant-loop-market l =
    (l.total ≤ 99 * l.market)
    × ((seed plants : ℕ) → l.fn.draws ≡ seed_after seed 0 →
    (l.draws ≡ seed_after seed l.market)
    × (l.total ≡ sum_below l.market (demand seed plants l.markets))
    × (string_bytes l.text ≡ string_bytes l.fn.text ++ texts_below l.market (λ market. datum (element (codes "m") market) (demand seed plants l.markets market))))
