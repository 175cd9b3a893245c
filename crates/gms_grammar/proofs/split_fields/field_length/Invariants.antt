use Rattle.std.proofs.Common.{◌≡◌, ◌+◌, ◌-◌, ◌≤◌, length, drop}
use Rattle.gms_grammar.specs.declared.split_fields.SplitState.TheVariants.{First}
use Rattle.gms_grammar.specs.SplitFields.{is_separator, field_length}
use Rattle.gms_grammar.proofs.split_fields.field_length.Given as goal

-- `count` bytes belong to the field, and then those of the field in the rest
abbrev pub invariant-loop-count : goal.invariant-loop-count
invariant-loop-count l =
    (l.count ≤ length l.text) × (field_length (is_separator l.separator) First l.text ≡ l.count + field_length (is_separator l.separator) l.split_state (drop l.count l.text))

abbrev pub decreases-loop-count : goal.decreases-loop-count
decreases-loop-count l = length l.text - l.count
