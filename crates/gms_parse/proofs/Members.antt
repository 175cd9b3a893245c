-- The members of a range are no longer than its labels.
use Rattle.std.proofs.lemmas.Bool.{and_parts}
use Rattle.std.proofs.Common.{◌≡◌, ℕ, ◌+◌, ◌-◌, ◌<◌, ◌≤◌, ◌^◌, Bool, true, false, cond, nat_le, List, [], ◌++◌, length, reverse, get_or, replicate, decimal, refl, sym, ap, ◌∙◌, subst, arith, length-append}
use Rattle.std.specs.Char.{is_ascii_digit, to_ascii_lowercase}
use Rattle.std.specs.Int.{IsInRange}
use Rattle.std.specs.List.{suffix_len}
use Rattle.std.specs.Str.{str_eq_ignore_ascii_case, str_to_ascii_lowercase}
use Rattle.std.proofs.lemmas.Bool.Decides.{nat_tests}
use Rattle.std.proofs.lemmas.Fmt.{length-decimal-le}
use Rattle.std.proofs.lemmas.List.{length-map, length-drop, length-replicate, take-append-drop, get_or-drop, get_or-reverse}
use Rattle.std.proofs.lemmas.List.FromFn.{get_or-map-range_with_len, length-map-range_with_len}
use Rattle.std.proofs.lemmas.List.Sums.{prefix_len_passes, suffix_len-le-length}
use Rattle.std.proofs.lemmas.Slice.Eq.{bytes_eq-Decides}
use Rattle.std.proofs.lemmas.Str.Parse.{numerals_by_value, tells_by_index, digits_value_short}
use Rattle.gms_grammar.proofs.Checks.{right_and}
use Rattle.gms_set.specs.Ranges.{text_length, text_before_digits, digits_of, number_in_label, is_padded, is_numbered, go_together, is_range, digit_width, padded_digits, members}

-- texts that differ only in case have equal lengths
same_length : (a b : List ℕ) → str_eq_ignore_ascii_case a b ≡ true → length a ≡ length b
same_length a b h = sym (length-map a to_ascii_lowercase) ∙ ap length ((bytes_eq-Decides (str_to_ascii_lowercase a) (str_to_ascii_lowercase b)).0 h) ∙ length-map b to_ascii_lowercase

-- the text of a label, and its digits
whole_length : (label : List ℕ) → length (text_before_digits label) + length (digits_of label) ≡ length label
whole_length label = sym (length-append (text_before_digits label) (digits_of label)) ∙ ap length (take-append-drop (text_length label) label)

in_range : (c : ℕ) → is_ascii_digit c ≡ true → IsInRange 48 57 c
in_range c digit = grind arith

-- the digits of a label are such
digits_are : (label : List ℕ) (i : ℕ) → i < length (digits_of label) → IsInRange 48 57 (get_or (digits_of label) i 0)
digits_are label i h =
    let n = suffix_len is_ascii_digit label in
    let most = suffix_len-le-length is_ascii_digit label in
    let size = length-drop (text_length label) label in
    let below : n - 1 - i < n = omega (arith, h, size, most) in
    let inside : n - 1 - i < length label = omega (arith, h, size, most) in
    let index : length label - 1 - (n - 1 - i) ≡ text_length label + i = omega (arith, h, size, most) in
    let same : get_or (reverse label) (n - 1 - i) 0 ≡ get_or (digits_of label) i 0 = get_or-reverse label (n - 1 - i) 0 inside ∙ ap (λ k. get_or label k 0) index ∙ sym (get_or-drop (text_length label) label i 0) in
    in_range (get_or (digits_of label) i 0) (ap is_ascii_digit (sym same) ∙ prefix_len_passes is_ascii_digit (reverse label) (n - 1 - i) 0 below)

number_below : (label : List ℕ) (k : ℕ) → length (digits_of label) ≤ k → number_in_label label < 10 ^ k
number_below label k h = digits_value_short (numerals_by_value (λ ds. (i : ℕ) → i < length ds → IsInRange 48 57 (get_or ds i 0)) tells_by_index) (digits_of label) k (digits_are label) h

written_length : (width n : ℕ) → length (padded_digits width n) ≡ width - length (decimal n) + length (decimal n)
written_length width n = length-append (replicate (width - length (decimal n)) 48) (decimal n) ∙ ap (λ k. k + length (decimal n)) (length-replicate (width - length (decimal n)) 48)

width_below : (b : Bool) (n : ℕ) → cond b n 0 ≤ n
width_below true n = omega arith
width_below false n = omega arith

at_least : (a b : ℕ) → nat_le a b ≡ true → a ≤ b
at_least a b h = grind (arith, nat_tests, h)

-- What makes two labels a range, as their members need it.
record Ranges (from to : List ℕ) : Type 0 where
  text : length (text_before_digits from) ≡ length (text_before_digits to)
  some : 1 ≤ length (digits_of to)
  few : length (digits_of to) ≤ 9
  order : number_in_label from ≤ number_in_label to

ranges_of : (from to : List ℕ) → is_range from to ≡ true → Ranges from to
ranges_of from to h =
    let following = right_and (str_eq_ignore_ascii_case (text_before_digits from) (text_before_digits to)) _ h in
    let numbered = right_and (is_numbered from) _ following in
    let last = (and_parts (is_numbered to) _ numbered).0 in
    let short = right_and (go_together (digits_of from) (digits_of to)) _ (right_and (is_numbered to) _ numbered) in
    record {
      text = same_length (text_before_digits from) (text_before_digits to) ((and_parts _ _ h).0);
      some = at_least 1 (length (digits_of to)) ((and_parts _ _ last).0);
      few = at_least (length (digits_of to)) 9 (right_and (nat_le 1 (length (digits_of to))) _ last);
      order = at_least (number_in_label from) (number_in_label to) ((and_parts _ _ short).0);
    }

-- a number up to the last, after the text of the first
numbered_short : (from to : List ℕ) (n : ℕ) → Ranges from to → n ≤ number_in_label to → length from ≤ 63 → length to ≤ 63 → length (text_before_digits from ++ padded_digits (digit_width (digits_of from)) n) ≤ 63
numbered_short from to n r h f t =
    let k = length (digits_of to) in
    let power = number_below to k (omega arith) in
    let below : n < 10 ^ k = omega (arith, h, power) in
    let nine = number_below to 9 r.few in
    let small : n < 2 ^ 64 = omega (arith, h, nine) in
    let digits = length-decimal-le k n (let s = r.some in omega (arith, s)) below small in
    let width = width_below (is_padded (digits_of from)) (length (digits_of from)) in
    let whole_from = whole_length from in
    let whole_to = whole_length to in
    let text = r.text in
    let size = length-append (text_before_digits from) (padded_digits (digit_width (digits_of from)) n) in
    let number = written_length (digit_width (digits_of from)) n in
    omega (arith, f, t, digits, width, whole_from, whole_to, text, size, number)

-- each member of a range has at most 63 bytes, where its labels have
pub member_short : (from to : List ℕ) (i : ℕ) → is_range from to ≡ true → i < length (members from to) → length from ≤ 63 → length to ≤ 63 → length (get_or (members from to) i []) ≤ 63
member_short from to i h within f t =
    let r = ranges_of from to h in
    let g : ℕ → List ℕ = λ n. text_before_digits from ++ padded_digits (digit_width (digits_of from)) n in
    let count = length-map-range_with_len g (number_in_label from) (number_in_label to - number_in_label from + 1) in
    let order = r.order in
    let below : i < number_in_label to - number_in_label from + 1 = omega (arith, within, count) in
    let last : number_in_label from + i ≤ number_in_label to = omega (arith, below, order) in
    subst (λ (x : List ℕ). length x ≤ 63) (sym (get_or-map-range_with_len g (number_in_label from) (number_in_label to - number_in_label from + 1) i (number_in_label from + i) [] below refl)) (numbered_short from to (number_in_label from + i) r last f t)
