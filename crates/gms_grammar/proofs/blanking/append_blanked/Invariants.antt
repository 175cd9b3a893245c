use Rattle.std.proofs.Common.{◌≡◌, ◌++◌, map, take}
use Rattle.gms_grammar.specs.Lines.{blanked}
use Rattle.gms_grammar.proofs.blanking.append_blanked.Given as goal

-- the bytes so far were appended
abbrev pub invariant-loop-byte : goal.invariant-loop-byte
invariant-loop-byte l = l.code.items ≡ l.fn.code.items ++ map blanked (take l.byte-index l.line)
