-- Texts of numbers: which bytes they have, and how they begin.
use Rattle.std.proofs.Common.{◌≡◌, ℕ, ◌+◌, ◌^◌, ◌<◌, ◌≤◌, ◌⊎◌, ◌==◌, Bool, true, false, List, [], ◌∷◌, ◌++◌, length, refl, sym, ap, ◌∙◌, subst, arith, inl, inr, codes, decimal, ℤ, pos, negsuc, nat_abs, if◌then◌else◌, Option, Some, None}
use Rattle.gq_number.specs.Number.{Number}
use Rattle.gq_field.specs.Fits.{fits}
use Rattle.gq_extended.specs.Extended.{Extended, number, plus_infinity, minus_infinity, na}
use Rattle.gq_text.specs.Numeral.{AreDigits}
use Rattle.gq_text.specs.ExactText.{whole_text, exact_text}
use Rattle.gq_text.proofs.Exacts.{numeral_is, fitting}
use Rattle.gms_store.specs.State.{value_fits, bound_fits}
use Rattle.gms_save_text.specs.SavedState.{value_text, bound_text}
use Rattle.gms_save_text.specs.Reading.{HasNone, IsWordForNone}
use Rattle.gms_save_text.proofs.Cuts.{none-append}

-- digits do not contain a byte that is no digit
none-digits : (byte : ℕ) (xs : List ℕ) → byte < 48 → AreDigits xs → HasNone byte xs
none-digits byte [] low h = tt
none-digits byte (x ∷ xs) low h = (λ e. absurd (let range = h.0 in omega (arith, range, e, low)), none-digits byte xs low h.2)

pub none-decimal : (byte n : ℕ) → byte < 48 → n < 10 ^ 64 → HasNone byte (decimal n)
none-decimal byte n low small = none-digits byte (decimal n) low (numeral_is n small).digits

none-whole : (byte : ℕ) (z : ℤ) → byte < 45 → nat_abs z < 2 ^ 127 → HasNone byte (whole_text z)
none-whole byte (pos n) low small = none-decimal byte n (omega arith) (omega (arith, small))
none-whole byte (negsuc n) low small = (λ e. absurd (omega (arith, e, low)), none-decimal byte (n + 1) (omega arith) (omega (arith, small)))

-- what fits has small parts
record IsSmall (x : Number) : Type 0 where
  pub numerator : nat_abs x.numerator < 2 ^ 127
  pub denominator : x.denominator < 2 ^ 127

is_small : (limit : ℕ) (x : Number) → limit < 2 ^ 127 → fits limit x ≡ true → IsSmall x
is_small limit x l f = let parts = fitting limit x f in let n = parts.numerator in let d = parts.denominator in record { numerator = omega (arith, n, l); denominator = omega (arith, d, l) }

pub none-exact : (byte limit : ℕ) (x : Number) → byte < 45 → limit < 2 ^ 127 → fits limit x ≡ true → HasNone byte (exact_text x)
none-exact byte limit x low l f =
    let small = is_small limit x l f in
    none-append byte (whole_text x.numerator) (if x.denominator == 1 then [] else codes "/" ++ decimal x.denominator) (none-whole byte x.numerator low small.numerator) (by (x.denominator == 1) small.denominator)
  where
    by : (b : Bool) → x.denominator < 2 ^ 127 → HasNone byte (if b then [] else codes "/" ++ decimal x.denominator)
    by true d = tt
    by false d = (λ e. absurd (omega (arith, e, low)), none-decimal byte x.denominator (omega arith) (omega (arith, d)))

pub none-value : (limit : ℕ) (x : Extended) → limit < 2 ^ 127 → value_fits limit x ≡ true → HasNone 10 (value_text x)
none-value limit (number x) l f = none-exact 10 limit x (omega arith) l f
none-value limit plus_infinity l f = (λ e. absurd (omega arith), (λ e. absurd (omega arith), (λ e. absurd (omega arith), (λ e. absurd (omega arith), tt))))
none-value limit minus_infinity l f = (λ e. absurd (omega arith), (λ e. absurd (omega arith), (λ e. absurd (omega arith), (λ e. absurd (omega arith), tt))))
none-value limit na l f = (λ e. absurd (omega arith), (λ e. absurd (omega arith), tt))

none-word : (word : List ℕ) → IsWordForNone word → HasNone 32 word
none-word word (inl e) = subst (HasNone 32) (sym e) (λ e. absurd (omega arith), (λ e. absurd (omega arith), (λ e. absurd (omega arith), (λ e. absurd (omega arith), tt))))
none-word word (inr e) = subst (HasNone 32) (sym e) (λ e. absurd (omega arith), (λ e. absurd (omega arith), (λ e. absurd (omega arith), (λ e. absurd (omega arith), tt))))

pub none-bound : (limit : ℕ) (none : List ℕ) (x : Option Number) → limit < 2 ^ 127 → IsWordForNone none → bound_fits limit x ≡ true → HasNone 32 (bound_text none x)
none-bound limit none None l w f = none-word none w
none-bound limit none (Some x) l w f = none-exact 32 limit x (omega arith) l f

-- ---- how an exact text begins

-- a byte is a digit
abbrev IsDigit : ℕ → Type 0
IsDigit b = (48 ≤ b) × (b ≤ 57)

-- a text begins with a digit, or with `-` and a digit
abbrev BeginsNumber : List ℕ → Type 0
BeginsNumber [] = ⊥
BeginsNumber (b ∷ []) = IsDigit b
BeginsNumber (b ∷ c ∷ rest) = IsDigit b ⊎ ((b ≡ 45) × IsDigit c)

digits_begin : (xs ys : List ℕ) → AreDigits xs → 0 < length xs → BeginsNumber (xs ++ ys)
digits_begin [] ys h some = absurd (omega arith)
digits_begin (x ∷ []) [] h some = (h.0, h.1)
digits_begin (x ∷ []) (y ∷ ys) h some = inl (h.0, h.1)
digits_begin (x ∷ z ∷ xs) ys h some = inl (h.0, h.1)

minus_begins : (xs ys : List ℕ) → AreDigits xs → 0 < length xs → BeginsNumber (45 ∷ (xs ++ ys))
minus_begins [] ys h some = absurd (omega arith)
minus_begins (x ∷ xs) ys h some = inr (refl, (h.0, h.1))

whole_begins : (z : ℤ) (ys : List ℕ) → nat_abs z < 2 ^ 127 → BeginsNumber (whole_text z ++ ys)
whole_begins (pos n) ys small = let m = numeral_is n (omega (arith, small)) in digits_begin (decimal n) ys m.digits m.some
whole_begins (negsuc n) ys small = let m = numeral_is (n + 1) (omega (arith, small)) in minus_begins (decimal (n + 1)) ys m.digits m.some

exact_begins : (limit : ℕ) (x : Number) → limit < 2 ^ 127 → fits limit x ≡ true → BeginsNumber (exact_text x)
exact_begins limit x l f = whole_begins x.numerator (if x.denominator == 1 then [] else codes "/" ++ decimal x.denominator) (is_small limit x l f).numerator

-- so it is none of the words for other values
no_plus : (text : List ℕ) → BeginsNumber text → text ≡ codes "+INF" → ⊥
no_plus text h e = by (subst BeginsNumber e h)
  where
    by : BeginsNumber (codes "+INF") → ⊥
    by (inl d) = let low = d.0 in omega (arith, low)
    by (inr m) = let same = m.0 in omega (arith, same)

no_minus : (text : List ℕ) → BeginsNumber text → text ≡ codes "-INF" → ⊥
no_minus text h e = by (subst BeginsNumber e h)
  where
    by : BeginsNumber (codes "-INF") → ⊥
    by (inl d) = let low = d.0 in omega (arith, low)
    by (inr m) = let high = m.1.1 in omega (arith, high)

no_na : (text : List ℕ) → BeginsNumber text → text ≡ codes "NA" → ⊥
no_na text h e = by (subst BeginsNumber e h)
  where
    by : BeginsNumber (codes "NA") → ⊥
    by (inl d) = let high = d.1 in omega (arith, high)
    by (inr m) = let same = m.0 in omega (arith, same)

pub exact_no_plus : (limit : ℕ) (x : Number) → limit < 2 ^ 127 → fits limit x ≡ true → exact_text x ≡ codes "+INF" → ⊥
exact_no_plus limit x l f e = no_plus (exact_text x) (exact_begins limit x l f) e

pub exact_no_minus : (limit : ℕ) (x : Number) → limit < 2 ^ 127 → fits limit x ≡ true → exact_text x ≡ codes "-INF" → ⊥
exact_no_minus limit x l f e = no_minus (exact_text x) (exact_begins limit x l f) e

pub exact_no_na : (limit : ℕ) (x : Number) → limit < 2 ^ 127 → fits limit x ≡ true → exact_text x ≡ codes "NA" → ⊥
exact_no_na limit x l f e = no_na (exact_text x) (exact_begins limit x l f) e

-- ---- what a word says

-- the first byte of a text
abbrev first_byte : List ℕ → ℕ
first_byte [] = 0
first_byte (b ∷ bs) = b

-- the value whose text is a word
pub plus_is : (limit : ℕ) (x : Extended) → limit < 2 ^ 127 → value_fits limit x ≡ true → value_text x ≡ codes "+INF" → plus_infinity ≡ x
plus_is limit (number x) l f e = absurd (exact_no_plus limit x l f e)
plus_is limit plus_infinity l f e = refl
plus_is limit minus_infinity l f e = absurd (let heads : 45 ≡ 43 = ap first_byte e in omega (arith, heads))
plus_is limit na l f e = absurd (let heads : 78 ≡ 43 = ap first_byte e in omega (arith, heads))

pub minus_is : (limit : ℕ) (x : Extended) → limit < 2 ^ 127 → value_fits limit x ≡ true → value_text x ≡ codes "-INF" → minus_infinity ≡ x
minus_is limit (number x) l f e = absurd (exact_no_minus limit x l f e)
minus_is limit plus_infinity l f e = absurd (let heads : 43 ≡ 45 = ap first_byte e in omega (arith, heads))
minus_is limit minus_infinity l f e = refl
minus_is limit na l f e = absurd (let heads : 78 ≡ 45 = ap first_byte e in omega (arith, heads))

pub na_is : (limit : ℕ) (x : Extended) → limit < 2 ^ 127 → value_fits limit x ≡ true → value_text x ≡ codes "NA" → na ≡ x
na_is limit (number x) l f e = absurd (exact_no_na limit x l f e)
na_is limit plus_infinity l f e = absurd (let heads : 43 ≡ 78 = ap first_byte e in omega (arith, heads))
na_is limit minus_infinity l f e = absurd (let heads : 45 ≡ 78 = ap first_byte e in omega (arith, heads))
na_is limit na l f e = refl

-- the bound whose text is the word for none
pub none_is : (limit : ℕ) (none : List ℕ) (x : Option Number) → limit < 2 ^ 127 → IsWordForNone none → bound_fits limit x ≡ true → bound_text none x ≡ none → None ≡ x
none_is limit none None l w f e = refl
none_is limit none (Some x) l w f e = absurd (by w)
  where
    by : IsWordForNone none → ⊥
    by (inl is) = exact_no_minus limit x l f (e ∙ is)
    by (inr is) = exact_no_plus limit x l f (e ∙ is)
