-- The rules of a host's six calls: the effect of each on the outside state, and on the counts of
-- faults.
use Rattle.std.specs.Prelude.{◌≡◌, ℕ, ◌≤◌, ◌↔◌, ◌⊎◌, Bool, true, false, List, [], ◌∷◌, ◌++◌, take, drop, length, Option, option_map, unwrap_or, is_some, IfSome, IsSome, OnOk, IsErrOf, Result, Ok, Err}
use Rattle.std.specs.FinMap as map
use Rattle.gms_host.specs.declared.host.Failed.{Failed}
use Rattle.gms_host.specs.declared.host.Failed.TheVariants.{Fault, Memory}
use Rattle.gms_host.specs.Meaning.{Outside, Counts, Rose}

-- ---- the outside state

-- a list that the host exposes, with more appended; None if the host does not expose it
abbrev pub told_with : {A : Type 0} → Option (List A) → List A → Option (List A)
told_with told more = option_map (λ xs. xs ++ more) told

-- the outside state after these bytes were appended to the output
abbrev pub with_output : Outside → List ℕ → Outside
with_output o bytes = record o { output = told_with o.output bytes }

-- the outside state after these bytes were appended to standard output
abbrev pub with_said : Outside → List ℕ → Outside
with_said o bytes = record o { said = told_with o.said bytes }

-- the outside state after these names were appended to `asked`, the names that were requested
abbrev pub with_asked : Outside → List (List ℕ) → Outside
with_asked o names = record o { asked = told_with o.asked names }

-- the outside state after the output became empty, and is open exactly if `open_now` is true;
-- nothing is appended to `kept`
abbrev pub with_emptied : Outside → Bool → Outside
with_emptied o open_now = record o { output = option_map (λ _. []) o.output; writing = open_now }

-- the outside state after an empty output was opened with this name: `named` becomes the name, and
-- the name is appended to `asked`, the names with which files were opened. A field that the host
-- does not expose stays None
abbrev pub with_opened : Outside → List ℕ → Outside
with_opened o name =
    record (with_emptied o true) { named = option_map (λ _. name) o.named; asked = told_with o.asked (name ∷ []) }

-- the name and the bytes of the output, as they are recorded when it is closed; each is empty if
-- the host does not expose it
abbrev pub closing : Outside → List ℕ × List ℕ
closing o = (unwrap_or o.named [], unwrap_or o.output [])

-- the outside state after the output was closed, and appended to `kept` with its name
abbrev pub with_kept : Outside → Outside
with_kept o = record o { kept = told_with o.kept (closing o ∷ []); writing = false }

-- A host that exposes its files also exposes the unread bytes of the opened input, and one that
-- exposes the closed outputs also exposes the bytes and the name of the opened one.
pub record TellsWhole (o : Outside) : Type 0 where
  pub input : IsSome o.files → IsSome o.input
  pub output : IsSome o.kept → IsSome o.output × IsSome o.named

-- the host has a file of this name; always true if it does not expose its files
abbrev pub IsThere : Outside → List ℕ → Type 0
IsThere o name = IfSome o.files (λ files. IsSome (map.get files name))

-- `input` is what an `open_in` of this name gives in the state o: it is exposed (Some) exactly if o
-- exposes its input; and if o exposes its files, `input` has the bytes of the file of this name,
-- which exists
abbrev pub IsInput : Outside → List ℕ → Option (List ℕ) → Type 0
IsInput o name input =
    (is_some input ≡ is_some o.input) × IfSome o.files (λ files. IsSome (map.get files name) × (input ≡ map.get files name))

-- The effect of an `open_in`. On success an input is open that gives the bytes of the file, and the
-- name is appended to `asked`. On failure no input is open, and the name may be appended.
abbrev pub OpensInput : Result (Unit {0}) Failed → Outside → Outside → List ℕ → Type 0
OpensInput (Ok _) old new name =
    (input : Option (List ℕ)) × IsInput old name input × (new ≡ record (with_asked old (name ∷ [])) { input = input; reading = true })
OpensInput (Err _) old new name =
    (new ≡ record old { reading = false }) ⊎ (new ≡ record (with_asked old (name ∷ [])) { reading = false })

-- The first `count` of the input's `bytes` are at the beginning of the buffer.
pub record GivesFirst (bytes : List ℕ) (count : ℕ) (buffer : List ℕ) : Type 0 where
  pub there : count ≤ length bytes
  pub given : take count buffer ≡ take count bytes
  -- the count is 0 exactly at the end of the input
  pub end : (count ≡ 0) ↔ (bytes ≡ [])

-- The effect of a `read`. On success the first `count` bytes of the input are put at the beginning
-- of the buffer and removed from the input; if the host does not expose the input, nothing is
-- stated of the buffer. On failure the outside state is unchanged.
abbrev pub ReadsBytes : Result ℕ Failed → Outside → Outside → List ℕ → Type 0
ReadsBytes (Ok count) old new buffer =
    IfSome old.input (λ bytes. GivesFirst bytes count buffer) × (new ≡ record old { input = option_map (λ bytes. drop count bytes) old.input })
ReadsBytes (Err _) old new buffer = new ≡ old

-- The effect of an `open_out`. On success an empty output with this name is open, and the name is
-- appended to `asked`. On failure the output is empty too, but not open, and the name may be
-- appended.
abbrev pub OpensOutput : Result (Unit {0}) Failed → Outside → Outside → List ℕ → Type 0
OpensOutput (Ok _) old new name = new ≡ with_opened old name
OpensOutput (Err _) old new name =
    (new ≡ with_emptied old false) ⊎ (new ≡ with_asked (with_emptied old false) (name ∷ []))

-- The effect of a `write`. On success the first `count` of these bytes are appended to the output.
-- On failure the outside state is unchanged.
abbrev pub Writes : Result ℕ Failed → Outside → Outside → List ℕ → Type 0
Writes (Ok count) old new bytes = new ≡ with_output old (take count bytes)
Writes (Err _) old new bytes = new ≡ old

-- The effect of a `close_out`: no output is open. On success the one that was open is appended to
-- `kept` with its name, on failure it is not.
abbrev pub ClosesOutput : Result (Unit {0}) Failed → Outside → Outside → Type 0
ClosesOutput (Ok _) old new = new ≡ with_kept old
ClosesOutput (Err _) old new = new ≡ record old { writing = false }

-- The effect of a `say`. On success the first `count` of these bytes are appended to standard
-- output. On failure the outside state is unchanged.
abbrev pub Says : Result ℕ Failed → Outside → Outside → List ℕ → Type 0
Says (Ok count) old new bytes = new ≡ with_said old (take count bytes)
Says (Err _) old new bytes = new ≡ old

-- ---- the counts of faults

-- How a call with this result changes a count of faults from `old` to `new`. The count never falls.
-- If the result is a fault, it rises, or may stay at the greatest number of 64 bits. If `precise`
-- holds and the call succeeds, it stays. If `sure` holds, the result is no fault, and the count
-- stays.
pub record IsCounted {A : Type 0} (result : Result A Failed) (sure precise : Type 0) (old new : ℕ) : Type 0 where
  pub no_fall : old ≤ new
  pub fault : IsErrOf result Fault → Rose old new
  pub done : precise → OnOk result (new ≡ old)
  pub unfailing : sure → IsErrOf result Fault → ⊥
  pub steady : sure → new ≡ old

-- A call that reads counts its faults as faults of reading (`IsCounted`), and changes nothing else
-- of the counts. If the host is reliable and `there` holds (the requested file exists), the answer
-- is no fault, and no fault is counted. If the host is precise, a success counts no fault.
pub record CountsReading {A : Type 0} (result : Result A Failed) (there : Type 0) (old new : Counts) : Type 0 where
  pub rest : new ≡ record old { read_faults = new.read_faults }
  pub own : IsCounted result ((old.reliable ≡ true) × there) (old.precise ≡ true) old.read_faults new.read_faults

-- A call that writes counts its faults as faults of writing (`IsCounted`), and changes nothing else
-- of the counts. If the host is reliable, the answer is no fault, and no fault is counted. If the
-- host is precise, a success counts no fault.
pub record CountsWriting {A : Type 0} (result : Result A Failed) (old new : Counts) : Type 0 where
  pub rest : new ≡ record old { write_faults = new.write_faults }
  pub own : IsCounted result (old.reliable ≡ true) (old.precise ≡ true) old.write_faults new.write_faults

-- a call whose answer is out of memory changes no count
abbrev pub CountsNothing : {A : Type 0} → Result A Failed → Counts → Counts → Type 0
CountsNothing result old new = IsErrOf result Memory → new ≡ old
