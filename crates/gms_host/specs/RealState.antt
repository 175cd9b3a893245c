-- The view of a host over real files and standard output.
use Rattle.std.specs.Prelude.{ℕ, Bool, false, None}
use Rattle.gms_host.specs.Meaning.{Meaning}

-- The view of a host over real files and standard output.
pub record RealState : Type 0 where
  -- whether an input is open
  pub reading : Bool
  -- whether an output is open
  pub writing : Bool
  -- how many faults of reading were counted
  pub read_faults : ℕ
  -- how many faults of writing were counted
  pub write_faults : ℕ

-- a host before any call: nothing is open, and no fault is counted
abbrev pub untouched : RealState
untouched = record {
  reading = false;
  writing = false;
  read_faults = 0;
  write_faults = 0;
}

-- what a host over real files exposes: no files, no names and no bytes; it is not reliable, so any
-- call may fail, and not precise, so a call that succeeds may count a fault
abbrev pub real_meaning : RealState → Meaning
real_meaning r = record {
  outside = record {
    files = None;
    input = None;
    named = None;
    output = None;
    said = None;
    asked = None;
    kept = None;
    reading = r.reading;
    writing = r.writing;
  };
  counts = record {
    read_faults = r.read_faults;
    write_faults = r.write_faults;
    reliable = false;
    precise = false;
  };
}
