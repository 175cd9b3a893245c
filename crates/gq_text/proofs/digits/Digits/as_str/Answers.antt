-- ASCII bytes are text.
use Rattle.std.proofs.Common.{Result, Ok, Err, MatchResult, refl}
use Rattle.std.specs.Result.{IsOk}
use Rattle.std.proofs.lemmas.Str.{IsUtf8-from_ascii}
use Rattle.gq_text.proofs.digits.Digits.as_str.Goals as goal

-- what cannot be an error is a value
IsOk_from : {T E : Type 0} (U : Type 0) (P : T → Type 0) (Q : E → Type 0) (r : Result T E) → MatchResult r P (λ e. (¬ U) × Q e) → U → IsOk r
IsOk_from U P Q (Ok x) h u = refl
IsOk_from U P Q (Err e) h u = absurd (h.0 u)

pub unwrap-requires : goal.unwrap-requires
unwrap-requires c = IsOk_from _ _ _ c.from_utf8.result c.from_utf8.ensures.cases (IsUtf8-from_ascii _ c.self.invariant.1)
