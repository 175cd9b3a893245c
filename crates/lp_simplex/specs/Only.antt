-- The only answer of a kind.
use Rattle.std.specs.Prelude.{◌≡◌}
use Rattle.lp_core.specs.declared.answer.Answer.{Answer}

-- every answer with the property `IsOne` equals this one
abbrev pub IsOnly : {F : Type 0} → (Answer F → Type 0) → Answer F → Type 0
IsOnly {F} IsOne answer = (other : Answer F) → IsOne other → other ≡ answer
