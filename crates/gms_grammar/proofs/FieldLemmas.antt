-- A field is within its text.
use Rattle.std.proofs.Common.{inl, inr, ℕ, ◌≤◌, Bool, List, [], ◌∷◌, length, arith}
use Rattle.gms_grammar.proofs.LineLemmas.{true_or_false}
use Rattle.gms_grammar.specs.declared.split_fields.SplitState.{SplitState}
use Rattle.gms_grammar.specs.SplitFields.{state_after_byte, parts, field_length}

-- a field is within its text
pub field_length-le : (test : ℕ → Bool) (split_state : SplitState) (text : List ℕ) → field_length test split_state text ≤ length text
field_length-le test split_state [] = omega arith
field_length-le test split_state (b ∷ rest) = elim (true_or_false (parts test split_state b)) [
  | inl h ↦ rw h (omega arith)
  | inr h ↦ rw h (omega (arith, field_length-le test (state_after_byte split_state b rest) rest))
]
