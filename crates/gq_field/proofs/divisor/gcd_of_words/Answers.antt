-- What the odd parts have in common, times the powers of 2 that both share.
use Rattle.std.proofs.Common.{◌≡◌, ℕ, ◌*◌, ◌%◌, ◌^◌, ◌<◌, ◌≤◌, ◌∙◌, sym, ap, arith}
use Rattle.std.proofs.Math.Nat.{mod-eq_of_lt}
use Rattle.std.proofs.lemmas.Nat.Gcd.{le_of_dvd}
use lib.Count.{count_trailing_zeros}
use Rattle.gq_number.specs.Gcd.{gcd}
use Rattle.gq_number.proofs.Gcd.{gcd-zero, gcd-dvd_left}
use Rattle.gq_field.proofs.Binary.{odd_part, gcd_left, gcd_right, gcd-zero_left}
use Rattle.gq_field.proofs.divisor.gcd_of_words.Goals as goal

pub returns-then-a-eq0 : goal.returns-then-a-eq0
returns-then-a-eq0 c = sym (ap (λ n. gcd n c.args.b) c.if-a-eq0.true ∙ gcd-zero_left c.args.b)

pub returns-then-b-eq0 : goal.returns-then-b-eq0
returns-then-b-eq0 c = sym (ap (gcd c.args.a) c.if-b-eq0.true ∙ gcd-zero c.args.a)

pub gcd_of_odds-odd-requires-clause-first : goal.gcd_of_odds-odd-requires-clause-first
gcd_of_odds-odd-requires-clause-first c = (odd_part 64 c.args.a (omega arith) (omega arith)).is_odd

pub gcd_of_odds-odd-requires-clause-second : goal.gcd_of_odds-odd-requires-clause-second
gcd_of_odds-odd-requires-clause-second c = (odd_part 64 c.args.b (omega arith) (omega arith)).is_odd

-- a word that divides a word is not cut off
whole_word : (a b n : ℕ) → n ≡ gcd a b → 0 < a → a < 2 ^ 64 → n % 2 ^ 64 ≡ gcd a b
whole_word a b n e some small =
    let most : gcd a b ≤ a = le_of_dvd some (gcd-dvd_left a b) in
    mod-eq_of_lt (omega arith) ∙ e

pub returns-then-left-right : goal.returns-then-left-right
returns-then-left-right c =
    let a = c.args.a in
    let b = c.args.b in
    let first = odd_part 64 a (omega arith) (omega arith) in
    let second = odd_part 64 b (omega arith) (omega arith) in
    whole_word a b _ (ap (λ g. g * 2 ^ count_trailing_zeros 64 a) c.gcd_of_odds-odd.ensures ∙ gcd_left a b _ _ _ _ first second (omega arith)) (omega arith) (omega arith)

pub returns-else-left-right : goal.returns-else-left-right
returns-else-left-right c =
    let a = c.args.a in
    let b = c.args.b in
    let first = odd_part 64 a (omega arith) (omega arith) in
    let second = odd_part 64 b (omega arith) (omega arith) in
    whole_word a b _ (ap (λ g. g * 2 ^ count_trailing_zeros 64 b) c.gcd_of_odds-odd.ensures ∙ gcd_right a b _ _ _ _ first second (omega arith)) (omega arith) (omega arith)
