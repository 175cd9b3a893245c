-- A power past 32 bits is past 128 bits.
use Rattle.std.proofs.Common.{◌≡◌, ℕ, ◌^◌, ◌<◌, ◌≤◌, Result, Ok, Err, None, sym, ◌∙◌, arith}
use Rattle.std.specs.Result.{OkIff, result_ok}
use Rattle.std.proofs.Math.Nat.{pow-le-pow_right}
use Rattle.gq_text.proofs.Options.{SomeIff-none}
use Rattle.gq_text.proofs.literal.power_of_ten.Goals as goal

not_there : {E : Type 0} (P : Type 0) (n : ℕ) (r : Result ℕ E) → OkIff r P n → result_ok r ≡ None → ¬ P
not_there P n (Ok x) h e = cc
not_there P n (Err x) h e = h

far : (n : ℕ) → ¬ (n < 2 ^ 32) → ¬ (10 ^ n < 2 ^ 128)
far n big small =
    let wide : 10 ^ 39 ≤ 10 ^ n = pow-le-pow_right {n = 10} (omega arith) {i = 39} {j = n} (omega arith) in
    omega arith

pub returns-in_err-ok : goal.returns-in_err-ok
returns-in_err-ok c =
    SomeIff-none _ _ _ c.from_residual.ensures (far c.args.power (not_there _ c.args.power c.try_from.result c.try_from.ensures (sym c.ok.ensures.value ∙ c.in_err-ok.was)))
