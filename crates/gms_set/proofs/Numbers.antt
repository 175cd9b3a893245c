-- The number of a label, read from its digits.
use Rattle.std.proofs.Common.{ℕ, ◌≡◌, ◌≤◌, ◌<◌, ◌^◌, ◌+◌, ◌++◌, ◌∷◌, [], map, true, false, List, length, get_or, refl, sym, ◌∙◌, ap, arith, subst, Option, Some, None, Result, Ok, ◌==◌, if◌then◌else◌}
use Rattle.std.specs.Int.{IsInRange}
use Rattle.std.specs.Result.{result_ok}
use Rattle.std.specs.Str.Parse.{ParsesUnsigned, digits_value}
use Rattle.std.proofs.lemmas.Str.Parse.{parse_gives, numerals_by_value, tells_by_index, digits_value_short}
use Rattle.std.specs.List.{range_with_len}
use Rattle.std.proofs.lemmas.List.{map-append}
use Rattle.std.proofs.lemmas.List.FromFn.{map-range_with_len_more}
use Rattle.gms_set.specs.Ranges.{digits_of, is_numbered, number_in_label, text_before_digits, digit_width, padded_digits}

value-short : (ds : List ℕ) → ((i : ℕ) → i < length ds → IsInRange 48 57 (get_or ds i 0)) → length ds ≤ 9 → digits_value 10 ds < 2 ^ 32
value-short ds decimal short =
    let below = digits_value_short (numerals_by_value (λ ds. (i : ℕ) → i < length ds → IsInRange 48 57 (get_or ds i 0)) tells_by_index) ds 9 decimal short in omega arith

is-parsed : {E : Type 0} (ds : List ℕ) (r : Result ℕ E) → ((i : ℕ) → i < length ds → IsInRange 48 57 (get_or ds i 0)) → 0 < length ds → length ds ≤ 9 → ParsesUnsigned 32 10 ds r → r ≡ Ok (digits_value 10 ds)
is-parsed ds r decimal some short parses =
    parse_gives (numerals_by_value (λ ds. (i : ℕ) → i < length ds → IsInRange 48 57 (get_or ds i 0)) tells_by_index) 32 ds r parses decimal some (value-short ds decimal short)

is-numbered : (label : List ℕ) → 0 < length (digits_of label) → length (digits_of label) ≤ 9 → is_numbered label ≡ true
is-numbered label some short = grind arith

pub number-from : {E : Type 0} (label ds : List ℕ) (r : Result ℕ E) → ds ≡ digits_of label → ((i : ℕ) → i < length ds → IsInRange 48 57 (get_or ds i 0)) → (length ds == 0) ≡ false → length ds ≤ 9 → ParsesUnsigned 32 10 ds r → (o : Option ℕ) → o ≡ result_ok r → o ≡ (if is_numbered label then Some (number_in_label label) else None)
number-from label ds r same decimal some short parses o e =
    let has : 0 < length ds = grind arith in
    let numbered = is-numbered label (subst (λ ds. 0 < length ds) same has) (subst (λ ds. length ds ≤ 9) same short) in
    e ∙ ap result_ok (is-parsed ds r decimal has short parses) ∙ ap (λ ds. Some (digits_value 10 ds)) same ∙ sym (ap (λ b. if b then Some (number_in_label label) else None) numbered)

-- one label more at the end of those that are made
pub one-label : {S : Type 0} (g : S → List ℕ) (from text digits : List ℕ) (width first place : ℕ) (before after : List S) (label : S) → after ≡ before ++ label ∷ [] → map g before ≡ map (λ n. text_before_digits from ++ padded_digits (digit_width (digits_of from)) n) (range_with_len first place) → g label ≡ text ++ padded_digits width (first + place) → text ≡ text_before_digits from → digits ≡ digits_of from → width ≡ digit_width digits → map g after ≡ map (λ n. text_before_digits from ++ padded_digits (digit_width (digits_of from)) n) (range_with_len first (place + 1))
one-label g from text digits width first place before after label e made is et ed ew =
    let f : ℕ → List ℕ = λ n. text_before_digits from ++ padded_digits (digit_width (digits_of from)) n in
    let now : g label ≡ f (first + place) = is ∙ ap (λ t. t ++ padded_digits width (first + place)) et ∙ ap (λ w. text_before_digits from ++ padded_digits w (first + place)) (ew ∙ ap digit_width ed) in
    ap (map g) e ∙ map-append g before (label ∷ []) ∙ ap (λ prefix. prefix ++ g label ∷ []) made ∙ ap (λ last. map f (range_with_len first place) ++ last ∷ []) now ∙ sym (map-range_with_len_more f first place (first + place) refl)
