-- That a decimal's text has its parts in one way.
use Rattle.std.proofs.Common.{◌≡◌, ◌≢◌, ℕ, suc, ◌+◌, ◌-◌, ◌<◌, ◌≤◌, ◌⊎◌, Bool, true, false, cond, List, [], ◌∷◌, ◌++◌, length, take, drop, refl, sym, ap, ap₂, ◌∙◌, subst, arith, append_assoc, inl, inr, ℤ, pos, neg_ℤ}
use Rattle.std.specs.List.{prefix_len}
use Rattle.std.specs.Char.{is_ascii_digit}
use Rattle.std.proofs.Math.Seq.{take-length}
use Rattle.std.proofs.lemmas.Bool.Decides.{nat_tests}
use Rattle.gq_number.specs.Number.{Number}
use Rattle.gq_text.specs.Numeral.{AreDigits, spelled}
use Rattle.gq_text.specs.Decimal.{Decimal, number_of, IsSomeDigits, IsSigned, IsExponent, Spells, MeansNumber}
use Rattle.gq_text.specs.InnerParts.{BeginsNoDigit, BeginsOther, SplitsDigits, IsTail, Divides, SplitsSign, exponent_of}

append_nil : (xs : List ℕ) → xs ++ [] ≡ xs
append_nil [] = refl
append_nil (x ∷ xs) = ap (λ (l : List ℕ). x ∷ l) (append_nil xs)

-- ---- digits at the start

digit_range : (b : ℕ) → is_ascii_digit b ≡ true → (48 ≤ b) × (b ≤ 57)
digit_range b h = grind (arith, nat_tests)

no_digit : (b : ℕ) → is_ascii_digit b ≡ false → 48 ≤ b → 57 < b
no_digit b h low = grind (arith, nat_tests)

counted_step : (b n : ℕ) (bs : List ℕ) (r : Bool) → is_ascii_digit b ≡ r → SplitsDigits bs (take n bs) (drop n bs) → SplitsDigits (b ∷ bs) (take (cond r (suc n) 0) (b ∷ bs)) (drop (cond r (suc n) 0) (b ∷ bs))
counted_step b n bs true e split =
    let range = digit_range b e in
    record { text_is = ap (λ (l : List ℕ). b ∷ l) split.text_is; are_digits = (range.0, range.1, split.are_digits); all = split.all }
counted_step b n bs false e split = record { text_is = refl; are_digits = tt; all = no_digit b e }

-- the count is the number of digits at the start
pub counted_digits : (text : List ℕ) → SplitsDigits text (take (prefix_len is_ascii_digit text) text) (drop (prefix_len is_ascii_digit text) text)
counted_digits [] = record { text_is = refl; are_digits = tt; all = tt }
counted_digits (b ∷ bs) =
    let next : suc (prefix_len is_ascii_digit bs) ≡ 1 + prefix_len is_ascii_digit bs = omega arith in
    subst (λ n. SplitsDigits (b ∷ bs) (take (cond (is_ascii_digit b) n 0) (b ∷ bs)) (drop (cond (is_ascii_digit b) n 0) (b ∷ bs))) next
    (counted_step b (prefix_len is_ascii_digit bs) bs (is_ascii_digit b) refl (counted_digits bs))

-- digits and what begins with none are known by the text that they make
pub one_split : (a b c d : List ℕ) → AreDigits a → AreDigits b → BeginsNoDigit c → BeginsNoDigit d → a ++ c ≡ b ++ d → (a ≡ b) × (c ≡ d)
one_split [] [] c d h k m n e = (refl, e)
one_split [] (y ∷ b) c d h k m n e =
    let stops : BeginsNoDigit (y ∷ (b ++ d)) = subst BeginsNoDigit e m in absurd (let above = stops k.0 in omega (arith, k.1))
one_split (x ∷ a) [] c d h k m n e =
    let stops : BeginsNoDigit (x ∷ (a ++ c)) = subst BeginsNoDigit (sym e) n in absurd (let above = stops h.0 in omega (arith, h.1))
one_split (x ∷ a) (y ∷ b) c d h k m n e =
    let first : x ≡ y = cc in let more : a ++ c ≡ b ++ d = cc in
    let rest = one_split a b c d h.2 k.2 m n more in
    (ap₂ (λ (z : ℕ) (zs : List ℕ). z ∷ zs) first rest.0, rest.1)

BeginsNoDigit-tail : (tail following rest : List ℕ) → IsTail tail following rest → BeginsNoDigit rest → BeginsNoDigit tail
BeginsNoDigit-tail tail following rest t stops =
    elim t [
      | inl dotted ↦ let no : BeginsNoDigit (46 ∷ (following ++ rest)) = (λ low. absurd (omega arith)) in subst BeginsNoDigit (sym dotted) no
      | inr plain ↦ subst BeginsNoDigit (sym plain.1) stops
    ]

BeginsOther-not : (byte : ℕ) (text more : List ℕ) → BeginsOther byte text → ¬ (text ≡ byte ∷ more)
BeginsOther-not byte text more h e = let no : BeginsOther byte (byte ∷ more) = subst (BeginsOther byte) e h in no refl

one_tail : (tail following rest after' rest' : List ℕ) → AreDigits following → AreDigits after' → BeginsNoDigit rest → BeginsNoDigit rest' → IsTail tail following rest → IsTail tail after' rest' → (following ≡ after') × (rest ≡ rest')
one_tail tail following rest after' rest' h k m n t u =
    elim t [
      | inl dotted ↦ elim u [
        | inl dotted' ↦ let more : following ++ rest ≡ after' ++ rest' = cc (sym dotted ∙ dotted') in one_split following after' rest rest' h k m n more
        | inr plain' ↦ absurd (BeginsOther-not 46 rest' (following ++ rest) plain'.2 (sym plain'.1 ∙ dotted))
      ]
      | inr plain ↦ elim u [
        | inl dotted' ↦ absurd (BeginsOther-not 46 rest (after' ++ rest') plain.2 (sym plain.1 ∙ dotted'))
        | inr plain' ↦ (plain.0 ∙ sym plain'.0, sym plain.1 ∙ plain'.1)
      ]
    ]

pub record SameParts (before following rest before' after' rest' : List ℕ) : Type 0 where
  pub same_before : before ≡ before'
  pub same_after : following ≡ after'
  pub same_rest : rest ≡ rest'

-- a text is divided in one way
pub one_division : (text before following rest before' after' rest' : List ℕ) → Divides text before following rest → Divides text before' after' rest' → SameParts before following rest before' after' rest'
one_division text before following rest before' after' rest' p q =
    let prefix = one_split before before' p.tail q.tail p.before_digits q.before_digits (BeginsNoDigit-tail p.tail following rest p.tail_is p.all) (BeginsNoDigit-tail q.tail after' rest' q.tail_is q.all) (sym p.text_is ∙ q.text_is) in
    let back = one_tail p.tail following rest after' rest' p.after_digits q.after_digits p.all q.all p.tail_is (subst (λ t. IsTail t after' rest') (sym prefix.1) q.tail_is) in
    record { same_before = prefix.0; same_after = back.0; same_rest = back.1 }

-- ---- exponents

parts_of_cons : (x y : ℕ) (a b : List ℕ) → x ∷ a ≡ y ∷ b → (x ≡ y) × (a ≡ b)
parts_of_cons x y a b e = (cc, cc)

no_sign : (b : ℕ) (text more digits : List ℕ) → b < 48 → AreDigits digits → text ≡ b ∷ more → text ≡ digits → ⊥
no_sign b text more digits low h e f = let there : AreDigits (b ∷ more) = subst AreDigits (sym f ∙ e) h in let range = there.0 in absurd (omega arith)

HasValue : (text digits : List ℕ) → ℤ → Type 0
HasValue text ds e =
    ((text ≡ ds) × (e ≡ pos (spelled ds))) ⊎ (((text ≡ 43 ∷ ds) × (e ≡ pos (spelled ds))) ⊎ ((text ≡ 45 ∷ ds) × (e ≡ neg_ℤ (pos (spelled ds)))))

after_minus : (text digits ds : List ℕ) (e : ℤ) → IsSomeDigits ds → HasValue text ds e → text ≡ 45 ∷ digits → (ds ≡ digits) × (e ≡ exponent_of true digits)
unfolding HasValue
after_minus text digits ds e h s f =
    elim s [
      | inl bare ↦ absurd (no_sign 45 text digits ds (omega arith) h.0 f bare.0)
      | inr rest ↦ elim rest [
        | inl plus ↦ absurd (let same = parts_of_cons 43 45 ds digits (sym plus.0 ∙ f) in omega (arith, same.0))
        | inr minus ↦ let same = parts_of_cons 45 45 ds digits (sym minus.0 ∙ f) in (same.1, minus.1 ∙ ap (λ (l : List ℕ). neg_ℤ (pos (spelled l))) same.1)
      ]
    ]

after_plus : (text digits ds : List ℕ) (e : ℤ) → IsSomeDigits ds → HasValue text ds e → text ≡ 43 ∷ digits → (ds ≡ digits) × (e ≡ exponent_of false digits)
unfolding HasValue
after_plus text digits ds e h s f =
    elim s [
      | inl bare ↦ absurd (no_sign 43 text digits ds (omega arith) h.0 f bare.0)
      | inr rest ↦ elim rest [
        | inl plus ↦ let same = parts_of_cons 43 43 ds digits (sym plus.0 ∙ f) in (same.1, plus.1 ∙ ap (λ (l : List ℕ). pos (spelled l)) same.1)
        | inr minus ↦ absurd (let same = parts_of_cons 45 43 ds digits (sym minus.0 ∙ f) in omega (arith, same.0))
      ]
    ]

with_none : (text ds : List ℕ) (e : ℤ) → HasValue text ds e → BeginsOther 45 text → BeginsOther 43 text → (ds ≡ text) × (e ≡ exponent_of false text)
unfolding HasValue
with_none text ds e s no_minus no_plus =
    elim s [
      | inl bare ↦ (sym bare.0, bare.1 ∙ ap (λ (l : List ℕ). pos (spelled l)) (sym bare.0))
      | inr rest ↦ elim rest [
        | inl plus ↦ absurd (BeginsOther-not 43 text ds no_plus plus.0)
        | inr minus ↦ absurd (BeginsOther-not 45 text ds no_minus minus.0)
      ]
    ]

HasDigitsAndValue : List ℕ → Bool → ℤ → Type 0
HasDigitsAndValue digits negative e = IsSomeDigits digits × (e ≡ exponent_of negative digits)

with_digits : (digits ds : List ℕ) (negative : Bool) (sign : Bool) (e : ℤ) → IsSomeDigits ds → negative ≡ sign → (ds ≡ digits) × (e ≡ exponent_of sign digits) → HasDigitsAndValue digits negative e
unfolding HasDigitsAndValue
with_digits digits ds negative sign e h n same =
    (subst (λ l. IsSomeDigits l) same.0 h, same.1 ∙ ap (λ b. exponent_of b digits) (sym n))

-- a signed number has its sign at the start
pub signed_digits : (text digits : List ℕ) (negative : Bool) (e : ℤ) → IsSigned text e → SplitsSign text negative digits → IsSomeDigits digits × (e ≡ exponent_of negative digits)
unfolding HasValue HasDigitsAndValue
signed_digits text digits negative e s p =
    let ds = s.0 in
    elim p [
      | inl minus ↦ with_digits digits ds negative true e s.1 minus.1 (after_minus text digits ds e s.1 s.2 minus.0)
      | inr rest ↦ elim rest [
        | inl plus ↦ with_digits digits ds negative false e s.1 plus.1 (after_plus text digits ds e s.1 s.2 plus.0)
        | inr none ↦ let same = with_none text ds e s.2 none.2 none.3 in
            with_digits digits ds negative false e s.1 none.1 (same.0 ∙ none.0, same.1 ∙ ap (exponent_of false) none.0)
      ]
    ]

-- and where it is so, the text is one
pub IsSigned_from : (text digits : List ℕ) (negative : Bool) → SplitsSign text negative digits → IsSomeDigits digits → IsSigned text (exponent_of negative digits)
IsSigned_from text digits negative p h =
    elim p [
      | inl minus ↦ (digits, h, inr (inr (minus.0, ap (λ b. exponent_of b digits) minus.1)))
      | inr rest ↦ elim rest [
        | inl plus ↦ (digits, h, inr (inl (plus.0, ap (λ b. exponent_of b digits) plus.1)))
        | inr none ↦ (digits, h, inl (none.0, ap (λ b. exponent_of b digits) none.1))
      ]
    ]

begins_digit : (byte : ℕ) (digits : List ℕ) → byte < 48 → IsSomeDigits digits → BeginsOther byte digits
begins_digit byte [] low h = tt
begins_digit byte (b ∷ bs) low h = λ e. absurd (let range = h.0 in omega (arith, range.0))

-- a signed number begins with a sign or none
sign_there : (text : List ℕ) (e : ℤ) → IsSigned text e → (negative : Bool) × (digits : List ℕ) × SplitsSign text negative digits
sign_there text e s =
    let ds = s.0 in
    elim s.2 [
      | inl bare ↦ (false, ds, inr (inr (bare.0, refl, subst (BeginsOther 45) (sym bare.0) (begins_digit 45 ds (omega arith) s.1), subst (BeginsOther 43) (sym bare.0) (begins_digit 43 ds (omega arith) s.1))))
      | inr rest ↦ elim rest [ inl plus ↦ (false, ds, inr (inl (plus.0, refl))) | inr minus ↦ (true, ds, inl (minus.0, refl)) ]
    ]

one_signed : (text : List ℕ) (e f : ℤ) → IsSigned text e → IsSigned text f → e ≡ f
one_signed text e f h k =
    let there = sign_there text e h in
    (signed_digits text there.1 there.0 e h there.2).1 ∙ sym (signed_digits text there.1 there.0 f k there.2).1

-- a text is that of one exponent
pub one_exponent : (text : List ℕ) (e f : ℤ) → IsExponent text e → IsExponent text f → e ≡ f
one_exponent [] e f h k = h ∙ sym k
one_exponent (mark ∷ text) e f h k = one_signed text e f h.1 k.1

-- digits alone are all at the start
pub all_in_prefix : (text digits rest : List ℕ) → SplitsDigits text digits rest → AreDigits text → (digits ≡ text) × (rest ≡ [])
all_in_prefix text digits rest p h =
    let same = one_split digits text rest [] p.are_digits h p.all tt (sym p.text_is ∙ sym (append_nil text)) in (same.0, same.1)

-- without digits, or with more after them, there is no exponent
pub no_exponent : (text unsigned digits rest : List ℕ) (negative : Bool) (e : ℤ) → 0 < length text → SplitsSign (take (length text - 1) (drop 1 text)) negative unsigned → SplitsDigits unsigned digits rest → (0 < length digits → length rest ≢ 0) → ¬ IsExponent text e
no_exponent [] unsigned digits rest negative e some p q wrong h = absurd (omega arith)
no_exponent (mark ∷ signed) unsigned digits rest negative e there p q wrong h =
    let following : take (length (mark ∷ signed) - 1) signed ≡ signed = let as_long : length (mark ∷ signed) - 1 ≡ length signed = omega arith in ap (λ n. take n signed) as_long ∙ take-length signed in
    let number = signed_digits signed unsigned negative e h.1 (subst (λ l. SplitsSign l negative unsigned) following p) in
    let prefix = all_in_prefix unsigned digits rest q number.0.0 in
    let some : 0 < length digits = subst (λ (l : List ℕ). 0 < length l) (sym prefix.0) number.0.1 in
    wrong some (ap length prefix.1)

-- ---- decimals

-- an exponent's text begins with no digit and no point
BeginsNoDigit-exponent : (text : List ℕ) (e : ℤ) → IsExponent text e → BeginsNoDigit text
BeginsNoDigit-exponent [] e h = tt
BeginsNoDigit-exponent (mark ∷ text) e h = λ low. elim h.0 [ inl small ↦ omega arith | inr large ↦ omega arith ]

BeginsOther-exponent : (text : List ℕ) (e : ℤ) → IsExponent text e → BeginsOther 46 text
BeginsOther-exponent [] e h = tt
BeginsOther-exponent (mark ∷ text) e h = λ same. elim h.0 [ inl small ↦ absurd (omega arith) | inr large ↦ absurd (omega arith) ]

-- a decimal's text divides into its digits and the text of its exponent
pub Divides-from : (text : List ℕ) (d : Decimal) (s : Spells text d) → Divides text d.before d.following s.power
Divides-from text d s =
    elim s.pointed_is [
      | inl dotted ↦ let layout : s.pointed ≡ d.before ++ (46 ∷ d.following) = dotted ∙ append_assoc d.before (46 ∷ []) d.following in record { tail = 46 ∷ (d.following ++ s.power); text_is = s.text_is ∙ ap (λ (l : List ℕ). l ++ s.power) layout ∙ append_assoc d.before (46 ∷ d.following) s.power; before_digits = s.before_digits; after_digits = s.after_digits; tail_is = inl refl; all = BeginsNoDigit-exponent s.power d.exponent s.power_is }
      | inr plain ↦ record { tail = s.power; text_is = s.text_is ∙ ap (λ (l : List ℕ). l ++ s.power) plain.1; before_digits = s.before_digits; after_digits = s.after_digits; tail_is = inr (plain.0, refl, BeginsOther-exponent s.power d.exponent s.power_is); all = BeginsNoDigit-exponent s.power d.exponent s.power_is }
    ]

-- and a text that divides so is a decimal's
pub Spells-from : (text rest : List ℕ) (d : Decimal) → Divides text d.before d.following rest → 0 < length d.before + length d.following → IsExponent rest d.exponent → Spells text d
Spells-from text rest d p some power =
    elim p.tail_is [
      | inl dotted ↦ record { pointed = d.before ++ 46 ∷ d.following; power = rest; text_is = p.text_is ∙ ap (λ (l : List ℕ). d.before ++ l) dotted ∙ sym (append_assoc d.before (46 ∷ d.following) rest); before_digits = p.before_digits; after_digits = p.after_digits; some = some; pointed_is = inl (sym (append_assoc d.before (46 ∷ []) d.following)); power_is = power }
      | inr plain ↦ record { pointed = d.before; power = rest; text_is = p.text_is ∙ ap (λ (l : List ℕ). d.before ++ l) plain.1; before_digits = p.before_digits; after_digits = p.after_digits; some = some; pointed_is = inr (plain.0, refl); power_is = power }
    ]

decimal : List ℕ → List ℕ → ℤ → Decimal
decimal before following exponent = record { before = before; following = following; exponent = exponent }

-- a text is that of one decimal
pub one_decimal : (text : List ℕ) (c d : Decimal) → Spells text c → Spells text d → c ≡ d
unfolding decimal
one_decimal text c d s t =
    let same = one_division text c.before c.following s.power d.before d.following t.power (Divides-from text c s) (Divides-from text d t) in
    let power : c.exponent ≡ d.exponent = one_exponent s.power c.exponent d.exponent s.power_is (subst (λ p. IsExponent p d.exponent) (sym same.same_rest) t.power_is) in
    ap (λ b. decimal b c.following c.exponent) same.same_before ∙ ap (λ b. decimal d.before b c.exponent) same.same_after ∙ ap (decimal d.before d.following) power

-- a text means one number
pub one_number : (text : List ℕ) (x y : Number) → MeansNumber text x → MeansNumber text y → x ≡ y
one_number text x y p q = p.2 ∙ ap number_of (one_decimal text p.0 q.0 p.1 q.1) ∙ sym q.2
