-- A host over files in memory: its view, and the effect of each of its calls.
use Rattle.std.specs.Prelude.{ℕ, Bool, true, false, List, [], ◌∷◌, ◌++◌, length, ◌==◌, map, take, drop, unwrap_or, min, Option, Some, None, Result, Ok, Err, String, Vec, string_bytes, Contains, refl}
use Rattle.std.specs.declared.alloc.Global.{Global}
use Rattle.std.specs.Coded.{Coded, code_by, coded×, coded_ℕ, coded_bool, coded_list, coded_option}
use Rattle.std.specs.FinMap as finite
use Rattle.gms_host.specs.declared.host.Failed.{Failed}
use Rattle.gms_host.specs.declared.host.Failed.TheVariants.{Fault, Memory}
use Rattle.gms_host.specs.Meaning.{Meaning, Files}
use Rattle.gms_host.specs.Counts.{one_more}

-- The view of a host over files in memory.
pub record MemoryState : Type 0 where
  -- the files
  pub files : Files
  -- the numbers of the calls that are to fail, from 0
  pub failing : List ℕ
  -- how many bytes one call reads, writes or prints at most; None if there is no bound
  pub most : Option ℕ
  -- the number of the next call, from 0
  pub calls : ℕ
  -- the bytes of the opened input that are not yet read
  pub input : List ℕ
  -- the name of the output that was opened last
  pub named : List ℕ
  -- the bytes of that output so far
  pub output : List ℕ
  -- the bytes that were printed on standard output so far
  pub said : List ℕ
  -- the names with which files were opened so far, in order
  pub asked : List (List ℕ)
  -- the name and the bytes of each output that was closed so far, in order
  pub kept : List (List ℕ × List ℕ)
  -- whether an input is open
  pub reading : Bool
  -- whether an output is open
  pub writing : Bool
  -- how many faults of reading were counted
  pub read_faults : ℕ
  -- how many faults of writing were counted
  pub write_faults : ℕ

-- the one-to-one encoding (`Coded`) of a list of bytes as a ghost value, that is a tree of numbers;
-- it is made from the encoding of numbers
abbrev pub bytes_code : Coded (List ℕ)
bytes_code = coded_list coded_ℕ

-- the one-to-one encoding (`Coded`) of a state as a ghost value, that is a tree of numbers; it is
-- made from nested pairs of the state's fields
abbrev pub memory_code : Coded MemoryState
memory_code =
    code_by (Files × (List ℕ × (Option ℕ × (ℕ × (List ℕ × (List ℕ × (List ℕ × (List ℕ × (List (List ℕ) × (List (List ℕ × List ℕ) × (Bool × (Bool × (ℕ × ℕ)))))))))))))
    (coded× (finite.code bytes_code bytes_code) (coded× bytes_code (coded× (coded_option coded_ℕ) (coded× coded_ℕ (coded× bytes_code (coded× bytes_code (coded× bytes_code (coded× bytes_code
    (coded× (coded_list bytes_code) (coded× (coded_list (coded× bytes_code bytes_code)) (coded× coded_bool (coded× coded_bool (coded× coded_ℕ coded_ℕ)))))))))))))
    (λ m. (m.files, (m.failing, (m.most, (m.calls, (m.input, (m.named, (m.output, (m.said, (m.asked, (m.kept, (m.reading, (m.writing, (m.read_faults, m.write_faults))))))))))))))
    (λ p. record {
      files = p.0;
      failing = p.1.0;
      most = p.1.1.0;
      calls = p.1.1.1.0;
      input = p.1.1.1.1.0;
      named = p.1.1.1.1.1.0;
      output = p.1.1.1.1.1.1.0;
      said = p.1.1.1.1.1.1.1.0;
      asked = p.1.1.1.1.1.1.1.1.0;
      kept = p.1.1.1.1.1.1.1.1.1.0;
      reading = p.1.1.1.1.1.1.1.1.1.1.0;
      writing = p.1.1.1.1.1.1.1.1.1.1.1.0;
      read_faults = p.1.1.1.1.1.1.1.1.1.1.1.1.0;
      write_faults = p.1.1.1.1.1.1.1.1.1.1.1.1.1;
    })
    (λ _. refl)

-- a file as its name and its bytes
abbrev pub file_of : String Global × Vec ℕ Global → List ℕ × List ℕ
file_of file = (string_bytes file.0, file.1.items)

-- the finite map of a list of files; of several files with one name it has only the first
abbrev pub files_of : List (String Global × Vec ℕ Global) → Files
files_of files = finite.from_entries (map file_of files)

-- a host over these files before any call, whose calls with the numbers `failing` are to fail
abbrev pub at_start : Files → List ℕ → MemoryState
at_start files failing = record {
  files = files;
  failing = failing;
  most = None;
  calls = 0;
  input = [];
  named = [];
  output = [];
  said = [];
  asked = [];
  kept = [];
  reading = false;
  writing = false;
  read_faults = 0;
  write_faults = 0;
}

-- the host m, of which each call reads, writes or prints at most `most` bytes
abbrev pub in_pieces_of : ℕ → MemoryState → MemoryState
in_pieces_of most m = record m { most = Some most }

-- how many of `count` bytes one call reads, writes or prints: all, but no more than the bound of
-- the host, if it has one
abbrev pub piece : MemoryState → ℕ → ℕ
piece m count = elim m.most [ None ↦ count | Some most ↦ min count most ]

-- What a host over files in memory exposes: each field of the outside state, so none is None, and
-- its counts of faults. It is reliable exactly if `failing`, the numbers of the calls that are to
-- fail, is empty. It is precise: a call counts a fault only if its answer is a fault.
abbrev pub memory_meaning : MemoryState → Meaning
memory_meaning m = record {
  outside = record {
    files = Some m.files;
    input = Some m.input;
    named = Some m.named;
    output = Some m.output;
    said = Some m.said;
    asked = Some m.asked;
    kept = Some m.kept;
    reading = m.reading;
    writing = m.writing;
  };
  counts = record {
    read_faults = m.read_faults;
    write_faults = m.write_faults;
    reliable = length m.failing == 0;
    precise = true;
  };
}

-- the next call of the host is to fail
abbrev pub IsToFail : MemoryState → Type 0
IsToFail m = Contains m.failing m.calls

-- the host after the number of the next call rose by one; the greatest number of 64 bits stays
abbrev pub with_call_numbered : MemoryState → MemoryState
with_call_numbered m = record m { calls = one_more m.calls }

-- the host after a fault of reading was counted; a count at the greatest number of 64 bits stays
abbrev pub with_read_fault : MemoryState → MemoryState
with_read_fault m = record m { read_faults = one_more m.read_faults }

-- the host after a fault of writing was counted; a count at the greatest number of 64 bits stays
abbrev pub with_write_fault : MemoryState → MemoryState
with_write_fault m = record m { write_faults = one_more m.write_faults }

-- the host after an `open_in` of this name with this answer: on success the bytes of the file (none
-- if no file has the name) are the input, which is open, and the name is appended to `asked`; else
-- no input is open. The number of the next call rises by one, and after a `Fault` the count of
-- faults of reading too, each to at most 2^64 - 1. `Memory`, out of memory, is no such fault.
abbrev pub after_open_in : MemoryState → List ℕ → Result (Unit {0}) Failed → MemoryState
after_open_in m name (Ok _) = record (with_call_numbered m) { input = unwrap_or (finite.get m.files name) []; asked = m.asked ++ name ∷ []; reading = true }
after_open_in m name (Err Fault) = record (with_read_fault (with_call_numbered m)) { reading = false }
after_open_in m name (Err Memory) = record (with_call_numbered m) { reading = false }

-- the host after a `read` with this answer: on success the `count` bytes that were read are removed
-- from the input. The number of the next call rises by one, and after a `Fault` the count of faults
-- of reading too, each to at most 2^64 - 1. `Memory`, out of memory, is no such fault.
abbrev pub after_read : MemoryState → Result ℕ Failed → MemoryState
after_read m (Ok count) = record (with_call_numbered m) { input = drop count m.input }
after_read m (Err Fault) = with_read_fault (with_call_numbered m)
after_read m (Err Memory) = with_call_numbered m

-- the host after its output became empty, and is not open; nothing is appended to `kept`
abbrev pub with_empty_output : MemoryState → MemoryState
with_empty_output m = record m { output = []; writing = false }

-- the host after an `open_out` of this name with this answer: the output is empty; on success it is
-- open and has the name, which is appended to `asked`, else no output is open. The number of the
-- next call rises by one, and after a `Fault` the count of faults of writing too, each to at
-- most 2^64 - 1. `Memory`, out of memory, is no such fault.
abbrev pub after_open_out : MemoryState → List ℕ → Result (Unit {0}) Failed → MemoryState
after_open_out m name (Ok _) = record (with_call_numbered m) { named = name; output = []; asked = m.asked ++ name ∷ []; writing = true }
after_open_out m name (Err Fault) = with_empty_output (with_write_fault (with_call_numbered m))
after_open_out m name (Err Memory) = with_empty_output (with_call_numbered m)

-- the host after a `write` of these bytes with this answer: on success the first `count` of them
-- are appended to the output. The number of the next call rises by one, and after a `Fault` the
-- count of faults of writing too, each to at most 2^64 - 1. `Memory`, out of memory, is no such
-- fault.
abbrev pub after_write : MemoryState → List ℕ → Result ℕ Failed → MemoryState
after_write m bytes (Ok count) = record (with_call_numbered m) { output = m.output ++ take count bytes }
after_write m bytes (Err Fault) = with_write_fault (with_call_numbered m)
after_write m bytes (Err Memory) = with_call_numbered m

-- the host after a `close_out` with this answer: no output is open; on success the one that was
-- open is appended to `kept` with its name. The number of the next call rises by one, and after a
-- `Fault` the count of faults of writing too, each to at most 2^64 - 1. `Memory`, out of memory,
-- is no such fault.
abbrev pub after_close_out : MemoryState → Result (Unit {0}) Failed → MemoryState
after_close_out m (Ok _) = record (with_call_numbered m) { kept = m.kept ++ (m.named, m.output) ∷ []; writing = false }
after_close_out m (Err Fault) = record (with_write_fault (with_call_numbered m)) { writing = false }
after_close_out m (Err Memory) = record (with_call_numbered m) { writing = false }

-- the host after a `say` of these bytes with this answer: on success the first `count` of them are
-- appended to standard output. The number of the next call rises by one, and after a `Fault` the
-- count of faults of writing too, each to at most 2^64 - 1. `Memory`, out of memory, is no such
-- fault.
abbrev pub after_say : MemoryState → List ℕ → Result ℕ Failed → MemoryState
after_say m bytes (Ok count) = record (with_call_numbered m) { said = m.said ++ take count bytes }
after_say m bytes (Err Fault) = with_write_fault (with_call_numbered m)
after_say m bytes (Err Memory) = with_call_numbered m
