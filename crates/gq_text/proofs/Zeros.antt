-- Digits read in order, and zeros at their end.
use Rattle.std.proofs.Common.{◌≡◌, ◌≢◌, ℕ, zero, suc, ◌+◌, ◌-◌, ◌*◌, ◌%◌, ◌^◌, ◌<◌, ◌≤◌, List, [], ◌∷◌, ◌++◌, length, get_or, take, drop, replicate, refl, sym, ap, ap₂, ◌∙◌, subst, arith, inl, inr}
use Rattle.std.proofs.Math.Nat.{pow-succ', le-mul_of_pos_right}
use Rattle.std.proofs.Math.Pow.{pow-add}
use Rattle.std.proofs.lemmas.List.{take-append-drop, take_more, length-drop, length-replicate}
use Rattle.gq_text.specs.Numeral.{AreDigits, spelled}
use Rattle.gq_text.specs.Literal.{HasNoTrailingZero}
use Rattle.gq_text.specs.InnerShortest.{Shortens}
use Rattle.gq_text.proofs.Numerals.{spelled-append, spelled_push, AreDigits_prefix}
use Rattle.gq_text.proofs.Literals.{tens_above}

-- ---- digits in order

-- a prefix of the digits spells at most the number that all of them spell
pub prefix-le : (prefix i : ℕ) (ds : List ℕ) → i ≤ length ds → prefix * 10 ^ i + spelled (take i ds) ≤ prefix * 10 ^ length ds + spelled ds
prefix-le prefix i ds within =
    let rest = length ds - i in
    let unit : 10 ^ length ds ≡ 10 ^ i * 10 ^ rest = (let e : length ds ≡ i + rest = omega arith in ap (λ n. 10 ^ n) e) ∙ pow-add 10 i rest in
    let left : length (drop i ds) ≡ rest = length-drop i ds in
    let whole : spelled ds ≡ spelled (take i ds) * 10 ^ rest + spelled (drop i ds) = ap spelled (sym (take-append-drop i ds)) ∙ spelled-append (take i ds) (drop i ds) ∙ ap (λ n. spelled (take i ds) * 10 ^ n + spelled (drop i ds)) left in
    let grows : prefix * 10 ^ i + spelled (take i ds) ≤ (prefix * 10 ^ i + spelled (take i ds)) * 10 ^ rest = le-mul_of_pos_right (prefix * 10 ^ i + spelled (take i ds)) (tens_above rest) in
    subst (λ u. prefix * 10 ^ i + spelled (take i ds) ≤ prefix * u + spelled ds) (sym unit) (omega arith)

digit_at : (ds : List ℕ) (i : ℕ) → AreDigits ds → i < length ds → (48 ≤ get_or ds i 0) × (get_or ds i 0 ≤ 57)
digit_at [] i h below = absurd (omega arith)
digit_at (b ∷ bs) zero h below = (h.0, h.1)
digit_at (b ∷ bs) (suc i) h below = digit_at bs i h.2 (omega arith)

-- one digit more
pub prefix_more : (prefix i : ℕ) (ds : List ℕ) → i < length ds → prefix * 10 ^ (i + 1) + spelled (take (i + 1) ds) ≡ (prefix * 10 ^ i + spelled (take i ds)) * 10 + (get_or ds i 0 - 48)
prefix_more prefix i ds below =
    let next : take (i + 1) ds ≡ take i ds ++ get_or ds i 0 ∷ [] = take_more ds i 0 below in
    let unit : 10 ^ (i + 1) ≡ 10 * 10 ^ i = (let e : i + 1 ≡ suc i = omega arith in ap (λ n. 10 ^ n) e) ∙ pow-succ' 10 i in
    ap₂ (λ u s. prefix * u + s) unit (ap spelled next ∙ spelled_push (take i ds) (get_or ds i 0)) ∙ omega arith

pub digit_low : (ds : List ℕ) (i : ℕ) → AreDigits ds → i < length ds → 48 ≤ get_or ds i 0
digit_low ds i h below = (digit_at ds i h below).0

-- ---- zeros at the end

spelled_zeros : (k : ℕ) → spelled (replicate k 48) ≡ 0
spelled_zeros zero = refl
spelled_zeros (suc k) = let rest = spelled_zeros k in omega arith

pub spelled-zeros : (xs : List ℕ) (k : ℕ) → spelled (xs ++ replicate k 48) ≡ spelled xs * 10 ^ k
spelled-zeros xs k =
    spelled-append xs (replicate k 48) ∙ ap₂ (λ n s. spelled xs * 10 ^ n + s) (length-replicate k 48) (spelled_zeros k) ∙ omega arith

-- the last digit is the remainder by ten
last_digit : (b : ℕ) (bs : List ℕ) → AreDigits (b ∷ bs) → spelled (b ∷ bs) % 10 ≡ get_or (b ∷ bs) (length bs) 0 - 48
last_digit b [] h = omega (arith, h.0, h.1)
last_digit b (c ∷ cs) h =
    let rest = last_digit c cs h.2 in
    let unit : (b - 48) * 10 ^ length (c ∷ cs) ≡ 10 * ((b - 48) * 10 ^ length cs) = ap (λ u. (b - 48) * u) (pow-succ' 10 (length cs)) ∙ omega arith in
    let following : get_or (b ∷ c ∷ cs) (length (c ∷ cs)) 0 ≡ get_or (c ∷ cs) (length cs) 0 = refl in
    omega arith

pub HasNoTrailingZero-from : (xs : List ℕ) → AreDigits xs → get_or xs (length xs - 1) 0 ≢ 48 → HasNoTrailingZero (spelled xs)
HasNoTrailingZero-from [] h last = inl refl
HasNoTrailingZero-from (b ∷ bs) h last =
    let place : length (b ∷ bs) - 1 ≡ length bs = omega arith in
    let at : get_or (b ∷ bs) (length bs) 0 ≢ 48 = subst (λ k. get_or (b ∷ bs) k 0 ≢ 48) place last in
    let range = digit_at (b ∷ bs) (length bs) h (omega arith) in
    inr (λ e. at (omega (arith, last_digit b bs h)))

-- digits before it do not change the last digit
HasNoTrailingZero-append : (xs ys : List ℕ) → AreDigits ys → 0 < length ys → get_or ys (length ys - 1) 0 ≢ 48 → HasNoTrailingZero (spelled (xs ++ ys))
HasNoTrailingZero-append xs [] h some last = absurd (omega arith)
HasNoTrailingZero-append xs (b ∷ bs) h some last =
    let place : length (b ∷ bs) - 1 ≡ length bs = omega arith in
    let at : get_or (b ∷ bs) (length bs) 0 ≢ 48 = subst (λ k. get_or (b ∷ bs) k 0 ≢ 48) place last in
    let range = digit_at (b ∷ bs) (length bs) h (omega arith) in
    let whole : spelled (xs ++ b ∷ bs) ≡ 10 * (spelled xs * 10 ^ length bs) + spelled (b ∷ bs) = spelled-append xs (b ∷ bs) ∙ ap (λ u. spelled xs * u + spelled (b ∷ bs)) (pow-succ' 10 (length bs)) ∙ omega arith in
    inr (λ e. at (omega (arith, last_digit b bs h)))

empty_list : (xs : List ℕ) → length xs ≡ 0 → xs ≡ []
empty_list [] e = refl
empty_list (x ∷ xs) e = absurd (omega arith)

append_nil : (xs : List ℕ) → xs ++ [] ≡ xs
append_nil [] = refl
append_nil (x ∷ xs) = ap (λ (l : List ℕ). x ∷ l) (append_nil xs)

-- if nothing remains after the point, the zeros before it go too
pub none_after : (before following whole fraction : List ℕ) → AreDigits before → length fraction ≡ 0 → following ≡ fraction ++ replicate (length following - length fraction) 48 → before ≡ whole ++ replicate (length before - length whole) 48 → length whole ≤ length before → get_or whole (length whole - 1) 0 ≢ 48 → Shortens before following whole fraction
none_after before following whole fraction h empty zeros zeros_before shorter last =
    let none : fraction ≡ [] = empty_list fraction empty in
    let z = length before - length whole in
    let q = length following - length fraction in
    let whole_digits : AreDigits whole = AreDigits_prefix whole (replicate z 48) (subst AreDigits zeros_before h) in
    let same : whole ++ fraction ≡ whole = ap (λ l. whole ++ l) none ∙ append_nil whole in
    let before_is : spelled before ≡ spelled whole * 10 ^ z = ap spelled zeros_before ∙ spelled-zeros whole z in
    let after_is : spelled following ≡ 0 = ap spelled (zeros ∙ ap (λ l. l ++ replicate q 48) none) ∙ spelled_zeros q in
    let places : length following ≡ q = ap (λ n. n) (let e : length fraction ≡ 0 = ap length none in omega arith) in
    let unit : 10 ^ (z + q) ≡ 10 ^ z * 10 ^ q = pow-add 10 z q in
    record {
      whole_digits = whole_digits;
      fraction_digits = subst AreDigits (sym none) tt;
      whole_shorter = shorter;
      fraction_shorter = (let e : length fraction ≡ 0 = ap length none in omega arith);
      shortest = subst (λ l. HasNoTrailingZero (spelled l)) (sym same) (HasNoTrailingZero-from whole whole_digits last);
      spells = spelled-append before following ∙ ap₂ (λ a b. a * 10 ^ length following + b) before_is after_is ∙ ap (λ n. spelled whole * 10 ^ z * 10 ^ n + 0) places ∙ omega arith ∙ ap₂ (λ a u. a * u) (ap spelled (sym same)) (sym unit);
    }

-- else only the zeros after it
pub some_after : (before following fraction : List ℕ) → AreDigits before → AreDigits following → 0 < length fraction → following ≡ fraction ++ replicate (length following - length fraction) 48 → length fraction ≤ length following → get_or fraction (length fraction - 1) 0 ≢ 48 → Shortens before following before fraction
some_after before following fraction h k some zeros shorter last =
    let q = length following - length fraction in
    let fraction_digits : AreDigits fraction = AreDigits_prefix fraction (replicate q 48) (subst AreDigits zeros k) in
    let after_is : spelled following ≡ spelled fraction * 10 ^ q = ap spelled zeros ∙ spelled-zeros fraction q in
    let unit : 10 ^ length following ≡ 10 ^ length fraction * 10 ^ q = (let e : length following ≡ length fraction + q = omega arith in ap (λ n. 10 ^ n) e) ∙ pow-add 10 (length fraction) q in
    let no_more : (length before - length before) + q ≡ q = omega arith in
    record {
      whole_digits = h;
      fraction_digits = fraction_digits;
      whole_shorter = omega arith;
      fraction_shorter = shorter;
      shortest = HasNoTrailingZero-append before fraction fraction_digits some last;
      spells = spelled-append before following ∙ ap₂ (λ u b. spelled before * u + b) unit after_is ∙ omega arith ∙ ap₂ (λ a n. a * 10 ^ n) (sym (spelled-append before fraction)) (sym no_more);
    }
