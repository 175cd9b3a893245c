use Rattle.std.proofs.Common.{◌≡◌, ◌≤◌, ℕ, List, arith, below_more, true}
use Rattle.gms_store.specs.State.{fits_at, symbol_of}
use Rattle.gms_run.proofs.closing.look_at_numbers.Goals as goal
use Rattle.gq_frac.specs.Frac.{frac_limit}

pub loop-name-preserved : goal.loop-name-preserved
loop-name-preserved c =
    below_more (λ n. (t : List ℕ) → fits_at frac_limit (symbol_of c.args.store.now n).content t ≡ true) c.loop-name.name c.loop-name.invariant c.given-given.ensures.fit

pub returns : goal.returns
returns c =
    let past : c.args.names ≤ c.loop-name.name = c.loop-name-test.false in
    λ name below. c.loop-name.invariant name (omega (arith, past, below))
