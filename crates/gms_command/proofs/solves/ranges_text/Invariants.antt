use Rattle.std.proofs.Common.{map, string_bytes, take}
use Rattle.lp_core.specs.Numbers.{answer_numbers, lp_numbers}
use Rattle.gms_command.specs.RangeTexts.{SaysRanges}
use Rattle.gms_command.proofs.solves.ranges_text.Given as goal

-- the text so far is what is printed of the solves before this place
abbrev pub invariant-loop-place : goal.invariant-loop-place
invariant-loop-place g l =
    SaysRanges l.names l.labels g.F.ExactField.limit 1 (map (lp_numbers g.F.ExactField.value) (take l.place l.solved)) (map (answer_numbers g.F.ExactField.value) (take l.place l.answers)) (string_bytes l.text)
