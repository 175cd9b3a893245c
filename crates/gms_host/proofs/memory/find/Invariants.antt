use Rattle.std.proofs.Common.{◌≡◌, drop}
use Rattle.std.specs.FinMap as finite
use Rattle.gms_host.specs.MemoryState.{files_of}
use Rattle.gms_host.proofs.FirstFile.{first_of_name}
use Rattle.gms_host.proofs.memory.find.Given as goal

-- the first file of the name is among those that are left
abbrev pub invariant-loop-known : goal.invariant-loop-known
invariant-loop-known l = finite.get (files_of l.files) l.name ≡ first_of_name (drop l.known-index l.files) l.name
