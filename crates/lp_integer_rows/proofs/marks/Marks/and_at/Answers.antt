use Rattle.std.proofs.Common.{◌≡◌, ℕ, ◌<◌, ◌%◌, ◌*◌, ◌^◌, ◌∙◌, inl, inr, sym, ap, subst, arith}
use Rattle.std.specs.Int.{bit_at, w128}
use Rattle.std.specs.Int.Bits.{bit_or}
use Rattle.std.proofs.lemmas.Bool.{cases_eq}
use Rattle.std.proofs.Math.Nat.{mod-lt}
use Rattle.std.proofs.lemmas.Nat.Bits.{bit_at_set_same, bit_at_set_other}
use Rattle.lp_integer_rows.proofs.marks.Marks.and_at.Goals as goal

pub returns-clause-own : goal.returns-clause-own
returns-clause-own c = λ k clear.
    let place : ℕ = c.args.column % 128 in
    let within : place < 128 = mod-lt c.args.column (omega arith) in
    elim (cases_eq (k % 128) place) [
      | inl same ↦ absurd (let one = bit_at_set_same w128 c.args.self.bits place within in let none = subst (λ i. bit_at (bit_or c.args.self.bits (1 * 2 ^ place % 2 ^ 128)) i ≡ 0) same clear in omega arith)
      | inr other ↦ sym (bit_at_set_other w128 c.args.self.bits place within (k % 128) other) ∙ clear
    ]

pub returns-clause-column : goal.returns-clause-column
returns-clause-column c = λ k clear is.
    let place : ℕ = c.args.column % 128 in
    let within : place < 128 = mod-lt c.args.column (omega arith) in
    let one = bit_at_set_same w128 c.args.self.bits place within in
    let none = subst (λ i. bit_at (bit_or c.args.self.bits (1 * 2 ^ place % 2 ^ 128)) i ≡ 0) (ap (λ i. i % 128) is) clear in
    omega arith
