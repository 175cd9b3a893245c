-- What a host exposes to its caller: the outside state, and how often a call failed.
use Rattle.std.specs.Prelude.{ℕ, ◌+◌, ◌≤◌, Bool, List, Option, min}
use Rattle.std.specs.Ordering.{nat_cmp}
use Rattle.std.specs.Cmp.Lexicographic.{slice_cmp}
use Rattle.std.specs.FinMap.{FinMap}

-- files, as the finite map from their names to their bytes
abbrev pub Files : Type 0
Files = FinMap (slice_cmp nat_cmp) (List ℕ)

-- The outside state of a host. A field that the host does not expose is None.
pub record Outside : Type 0 where
  -- the files
  pub files : Option Files
  -- the bytes of the opened input that are not yet read
  pub input : Option (List ℕ)
  -- the name of the output that was opened last
  pub named : Option (List ℕ)
  -- the bytes of that output so far
  pub output : Option (List ℕ)
  -- the bytes that were printed on standard output so far
  pub said : Option (List ℕ)
  -- the names with which files were opened so far, in order; the name of a failed call may be among
  -- them
  pub asked : Option (List (List ℕ))
  -- the name and the bytes of each output that was closed so far, in order
  pub kept : Option (List (List ℕ × List ℕ))
  -- whether an input is open
  pub reading : Bool
  -- whether an output is open
  pub writing : Bool

-- How many faults a host has counted, and what it promises about its faults.
pub record Counts : Type 0 where
  -- how many faults of reading were counted
  pub read_faults : ℕ
  -- how many faults of writing were counted
  pub write_faults : ℕ
  -- whether no call answers with a fault, except an `open_in` of a name that no file has; out of
  -- memory is no fault
  pub reliable : Bool
  -- whether a fault is counted only in a call whose answer is a fault
  pub precise : Bool

-- What a host exposes to its caller: its outside state (files, names and bytes), and its counts of
-- faults with what it promises about faults.
pub record Meaning : Type 0 where
  pub outside : Outside
  pub counts : Counts

-- the greatest number of 64 bits, at which a count of faults saturates
abbrev pub greatest_count : ℕ
greatest_count = 18446744073709551615

-- a count of faults rose from `old` to `new`, by one or more; if `old` is the greatest number of 64
-- bits, it may stay
abbrev pub Rose : ℕ → ℕ → Type 0
Rose old new = min (old + 1) greatest_count ≤ new
