-- What is read of a text that divides so, and that nothing else is.
use Rattle.std.proofs.Common.{◌≡◌, ℕ, ◌+◌, ◌<◌, List, length, Result, Ok, Err, refl, sym, ap, subst, arith, ℤ}
use Rattle.gq_number.specs.Number.{Number}
use Rattle.gq_text.specs.declared.fault.NumberFault.{NumberFault}
use Rattle.gq_text.specs.declared.fault.NumberFault.TheVariants.{Shape, Limit}
use Rattle.gq_text.specs.Decimal.{Decimal, number_of, IsExponent, Spells, MeansNumber}
use Rattle.gq_text.specs.Literal.{FitsLiteral, AnswersLiteral, ReadsLiteral}
use Rattle.gq_text.specs.InnerParts.{Divides}
use Rattle.gq_text.proofs.Splits.{Divides-from, Spells-from, one_division}

read_as : {F : Type 0} (limit : ℕ) (value : F → Number) (text : List ℕ) (d : Decimal) (r : Result F NumberFault) → Spells text d → AnswersLiteral limit value (number_of d) r → ReadsLiteral limit value text r
read_as limit value text d (Ok v) s a = ((d, s, a.1), subst (FitsLiteral limit) (sym a.1) a.0)
read_as limit value text d (Err Limit) s a = (number_of d, (d, s, refl), a)
read_as limit value text d (Err Shape) s a = absurd a

pub read_literal : {F : Type 0} (limit : ℕ) (value : F → Number) (text rest : List ℕ) (d : Decimal) (r : Result F NumberFault) → Divides text d.before d.following rest → 0 < length d.before + length d.following → IsExponent rest d.exponent → AnswersLiteral limit value (number_of d) r → ReadsLiteral limit value text r
read_literal limit value text rest d r p some power a = read_as limit value text d r (Spells-from text rest d p some power) a

-- without a digit
pub no_digits : (text before following rest : List ℕ) (x : Number) → Divides text before following rest → length before ≡ 0 → length following ≡ 0 → ¬ MeansNumber text x
no_digits text before following rest x p none_before none_after h =
    let d = h.0 in
    let same = one_division text before following rest d.before d.following h.1.power p (Divides-from text d h.1) in
    let some = h.1.some in
    let before_is : length before ≡ length d.before = ap length same.same_before in
    let after_is : length following ≡ length d.following = ap length same.same_after in
    omega arith

-- with something after the digits that is no exponent
pub no_power : (text before following rest : List ℕ) (x : Number) → Divides text before following rest → ((e : ℤ) → ¬ IsExponent rest e) → ¬ MeansNumber text x
no_power text before following rest x p none h =
    let d = h.0 in
    let same = one_division text before following rest d.before d.following h.1.power p (Divides-from text d h.1) in
    none d.exponent (subst (λ r. IsExponent r d.exponent) (sym same.same_rest) h.1.power_is)
