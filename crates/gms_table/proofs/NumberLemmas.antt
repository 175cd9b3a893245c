-- Numbers with a sign.
use Rattle.std.proofs.Common.{◌≡◌, ℕ, true, false, ◌==◌, List, Some, Result, Ok, Err, refl, subst}
use Rattle.gms_grammar.specs.Lines.{begins}
use Rattle.gq_number.specs.Number.{Number, neg_ℚ}
use Rattle.gq_text.specs.Decimal.{MeansNumber}
use Rattle.gq_text.specs.Literal.{FitsLiteral}
use Rattle.gq_text.proofs.Splits.{one_number}
use Rattle.gms_table.specs.CellNumbers.{unsigned, IsNumberText, IsValue}
use Rattle.gms_table.specs.InnerNumbers.{ReadsCell}

-- a number past the limit has no value
pub no_value : (limit : ℕ) (text : List ℕ) (x : Number) → MeansNumber (unsigned text) x → ¬ FitsLiteral limit x → (y : Number) → ¬ IsValue limit text y
no_value limit text x means unfit y is = unfit (subst (FitsLiteral limit) (one_number (unsigned text) is.magnitude x is.means means) is.fits)

-- nor has a text that is no number
pub no_shape : (limit : ℕ) (text : List ℕ) → ((x : Number) → ¬ MeansNumber (unsigned text) x) → (y : Number) → ¬ IsValue limit text y
no_shape limit text none y is = none is.magnitude is.means

-- a text without its sign that is past the limit
pub past_limit : (limit : ℕ) (text rest : List ℕ) → rest ≡ unsigned text → (x : Number) → MeansNumber rest x → ¬ FitsLiteral limit x → IsNumberText text × ((y : Number) → ¬ IsValue limit text y)
past_limit limit text rest is x means unfit =
    let there = subst (λ t. MeansNumber t x) is means in
    ((x, there), no_value limit text x there unfit)

-- a text without its sign that is no number
pub no_number : (limit : ℕ) (text rest : List ℕ) → rest ≡ unsigned text → ((x : Number) → ¬ MeansNumber rest x) → (¬ IsNumberText text) × ((y : Number) → ¬ IsValue limit text y)
no_number limit text rest is unread =
    let there = subst (λ t. (x : Number) → ¬ MeansNumber t x) is unread in
    ((λ number. there number.0 number.1), no_shape limit text there)

-- what is read of a text is a number
pub is_number : {F E : Type 0} (limit : ℕ) (value : F → Number) (text : List ℕ) (number : Result F E) → ReadsCell limit value text (Some number) → IsNumberText text
is_number limit value text (Ok v) read = read.0
is_number limit value text (Err e) read = read.0

-- a number after `-`
pub value_negative : (limit : ℕ) (text rest : List ℕ) (x y : Number) → rest ≡ unsigned text → begins (λ b. b == 45) text ≡ true → MeansNumber rest x → FitsLiteral limit x → y ≡ neg_ℚ x → IsNumberText text × IsValue limit text y
value_negative limit text rest x y is minus means fits value =
    let there = subst (λ t. MeansNumber t x) is means in
    ((x, there), record { magnitude = x; means = there; fits = fits; value = rw minus value })

-- a number after `+`, or without a sign
pub value_plain : (limit : ℕ) (text rest : List ℕ) (x : Number) → rest ≡ unsigned text → begins (λ b. b == 45) text ≡ false → MeansNumber rest x → FitsLiteral limit x → IsNumberText text × IsValue limit text x
value_plain limit text rest x is plus means fits =
    let there = subst (λ t. MeansNumber t x) is means in
    ((x, there), record { magnitude = x; means = there; fits = fits; value = rw plus refl })
