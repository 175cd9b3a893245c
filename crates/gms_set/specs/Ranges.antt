-- Ranges of labels: `a1*a3` is `a1`, `a2`, `a3` (GAMS User's Guide, "Set Definition"). The limits,
-- and when digits keep their width, are this project's own rule.
use Rattle.std.specs.Prelude.{ℕ, ◌+◌, ◌-◌, ◌≡◌, Bool, false, not, ◌&&◌, ◌==◌, nat_le, nat_lt, List, ◌++◌, length, map, take, drop, get_or, replicate, decimal, if◌then◌else◌}
use Rattle.std.specs.List.{range_with_len, suffix_len}
use Rattle.std.specs.Char.{is_ascii_digit}
use Rattle.std.specs.Str.{str_eq_ignore_ascii_case}
use Rattle.std.specs.Str.Parse.{digits_value}
use Rattle.gms_set.specs.declared.fault.SetError.TheVariants.{BadRange}
use Rattle.gms_set.specs.declared.fault.SetFault.{SetFault}
use Rattle.gms_set.specs.declared.fault.SetFaultOrMemory.{SetFaultOrMemory}
use Rattle.gms_set.specs.declared.fault.SetFaultOrMemory.TheVariants.{Memory, Fault}

-- the length of a label without the digits at its end
abbrev pub text_length : List ℕ → ℕ
text_length label = length label - suffix_len is_ascii_digit label

-- the text before the digits at the end of a label
abbrev pub text_before_digits : List ℕ → List ℕ
text_before_digits label = take (text_length label) label

-- the digits at the end of a label
abbrev pub digits_of : List ℕ → List ℕ
digits_of label = drop (text_length label) label

-- the number that the digits at the end of a label mean
abbrev pub number_in_label : List ℕ → ℕ
number_in_label label = digits_value 10 (digits_of label)

-- whether a number's digits begin with a 0 and are more than one: the members of a range then keep
-- their width
abbrev pub is_padded : List ℕ → Bool
is_padded digits = nat_lt 1 (length digits) && get_or digits 0 0 == 48

-- whether a label has at least 1 and at most 9 digits at its end
abbrev pub is_numbered : List ℕ → Bool
is_numbered label = nat_le 1 (length (digits_of label)) && nat_le (length (digits_of label)) 9

-- whether the digits at the ends of two labels can be those of a range: if the first are padded
-- with zeros, the last have the same length, and otherwise the last are not padded either
abbrev pub go_together : List ℕ → List ℕ → Bool
go_together first last = if is_padded first then length first == length last else not (is_padded last)

-- whether `first` is at most `last`, and there are at most 65,536 numbers from `first` to `last`
abbrev pub is_short : ℕ → ℕ → Bool
is_short first last = nat_le first last && nat_lt (last - first) 65536

-- whether `from*to` is a range: before the digits both labels have the same text, letter case
-- ignored; each ends in 1 to 9 digits, padded with zeros alike (`go_together`); the second number
-- is not less than the first, and the range has at most 65,536 members
abbrev pub is_range : List ℕ → List ℕ → Bool
is_range from to =
    str_eq_ignore_ascii_case (text_before_digits from) (text_before_digits to) && (is_numbered from && (is_numbered to && (go_together (digits_of from) (digits_of to) && is_short (number_in_label from) (number_in_label to))))

-- the least number of digits of the members of a range, from the digits of the first member: how
-- many these are if they are padded with zeros, otherwise 0
abbrev pub digit_width : List ℕ → ℕ
digit_width digits = if is_padded digits then length digits else 0

-- the decimal digits of `n`, with zeros before them up to `width` characters
abbrev pub padded_digits : ℕ → ℕ → List ℕ
padded_digits width n = replicate (width - length (decimal n)) 48 ++ decimal n

-- the members of the range `from*to`, in order: the text of `from` before its digits, followed by
-- each number from that of `from` to that of `to`. If the digits of `from` are padded with zeros,
-- each number is padded to as many digits (`digit_width`)
abbrev pub members : List ℕ → List ℕ → List (List ℕ)
members from to =
    map (λ n. text_before_digits from ++ padded_digits (digit_width (digits_of from)) n) (range_with_len (number_in_label from) (number_in_label to - number_in_label from + 1))

-- the fault of two labels that are no range; its place is not known here, and is line 0, column 0
abbrev pub no_range : SetFault
no_range = record { error = BadRange; at = record { line = 0; column = 0 } }

-- a reported error of a range is right, where `range` is whether the two labels are a range: they
-- are no range, and the error is the fault `no_range`; or memory ran out
abbrev pub IsRangeError : Bool → SetFaultOrMemory → Type 0
IsRangeError range Memory = Unit {0}
IsRangeError range (Fault fault) = (range ≡ false) × (fault ≡ no_range)
