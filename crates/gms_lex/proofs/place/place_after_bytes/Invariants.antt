use Rattle.std.proofs.Common.{◌≡◌, ◌+◌, ◌-◌, ◌*◌, ◌≤◌, length, take}
use Rattle.gms_lex.specs.Places.{place_after_bytes}
use Rattle.gms_lex.proofs.place.place_after_bytes.Given as goal

-- the place after the bytes so far, which stays within the bounds for the rest
abbrev pub invariant-loop-byte : goal.invariant-loop-byte
invariant-loop-byte l = record {
  at : l.at ≡ place_after_bytes l.fn.at (take l.byte-index l.bytes);
  line : l.at.line + (length l.bytes - l.byte-index) ≤ l.fn.at.line + length l.bytes;
  column : l.at.column + 8 * (length l.bytes - l.byte-index) ≤ l.fn.at.column + 8 * length l.bytes;
}
