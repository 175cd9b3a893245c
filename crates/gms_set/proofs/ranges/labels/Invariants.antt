use Rattle.std.proofs.Common.{◌≡◌, ◌++◌, map, string_bytes}
use Rattle.std.specs.List.{range_with_len}
use Rattle.gms_set.specs.Ranges.{digits_of, text_before_digits, digit_width, padded_digits}
use Rattle.gms_set.proofs.ranges.labels.Given as goal

abbrev pub invariant-loop-place : goal.invariant-loop-place
invariant-loop-place l =
    map string_bytes l.labels.items ≡ map (λ n. text_before_digits l.fn.from ++ padded_digits (digit_width (digits_of l.fn.from)) n) (range_with_len l.fn.first l.place)
