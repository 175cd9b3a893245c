-- What a spool, a buffer of pending bytes, does to the output of a host: bytes are written in
-- order, and pending bytes follow those that were written.
use Rattle.std.specs.Prelude.{◌≡◌, ℕ, List, [], ◌++◌, Result, Ok, Err}
use Rattle.gms_host.specs.declared.host.Failed.{Failed}
use Rattle.gms_host.specs.Meaning.{Outside}
use Rattle.gms_host.specs.Rules.{with_output, with_said}

-- Of the bytes `expected` a prefix was appended to the output, and the remaining ones are pending.
pub record Passes (old new : Outside) (expected pending : List ℕ) : Type 0 where
  pub bytes : List ℕ
  pub written : new ≡ with_output old bytes
  pub split : expected ≡ bytes ++ pending

-- Of the bytes `expected` a prefix was appended to the output, and the remaining ones are lost.
abbrev pub WritesPrefix : Outside → Outside → List ℕ → Type 0
WritesPrefix old new expected = (lost : List ℕ) × Passes old new expected lost

-- The effect of writing all of these bytes. On success they are appended to the output, on failure
-- a prefix of them is.
abbrev pub WritesAll : {A : Type 0} → Result A Failed → Outside → Outside → List ℕ → Type 0
WritesAll (Ok _) old new expected = new ≡ with_output old expected
WritesAll (Err _) old new expected = WritesPrefix old new expected

-- The effect of putting bytes through a spool, a buffer of bytes that are still to be written.
-- `expected` is what was pending followed by the new bytes. On success a prefix of `expected` is
-- written, and the remaining bytes are `pending`. On failure a prefix of it is written, and nothing
-- is pending.
abbrev pub PutsThrough : {A : Type 0} → Result A Failed → Outside → Outside → List ℕ → List ℕ → Type 0
PutsThrough (Ok _) old new expected pending = Passes old new expected pending
PutsThrough (Err _) old new expected pending = WritesPrefix old new expected × (pending ≡ [])

-- Of the bytes of a line a prefix was printed on standard output, and `left` remains to be printed.
pub record Speaks (old new : Outside) (line left : List ℕ) : Type 0 where
  pub bytes : List ℕ
  pub said : new ≡ with_said old bytes
  pub split : line ≡ bytes ++ left

-- Of the bytes of a line a prefix was printed on standard output, and the remaining ones are lost.
abbrev pub PrintsPrefix : Outside → Outside → List ℕ → Type 0
PrintsPrefix old new line = (lost : List ℕ) × Speaks old new line lost
