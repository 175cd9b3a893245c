-- The numbers and names of the faults of a save.
use Rattle.std.specs.Prelude.{ℕ, List, codes}
use Rattle.gms_save.specs.declared.fault.SaveFault.{SaveFault}
use Rattle.gms_save.specs.declared.fault.SaveFault.TheVariants.{SaveTooLong, SaveShape, SaveSolver}
use Rattle.gms_save.specs.declared.fault.SaveFaultOrMemory.{SaveFaultOrMemory}
use Rattle.gms_save.specs.declared.fault.SaveFaultOrMemory.TheVariants.{Memory, Fault}
use Rattle.gms_save_text.specs.declared.fault.ReadFault.{ReadFault}
use Rattle.gms_save_text.specs.declared.fault.ReadFault.TheVariants as read
use Rattle.gms_parse.specs.declared.fault.SourceFaultOrMemory.{SourceFaultOrMemory}
use Rattle.gms_parse.specs.declared.fault.SourceFaultOrMemory.TheVariants as parsed

-- the number of a fault of restoring a save
abbrev pub save_fault_code : SaveFault → ℕ
save_fault_code SaveShape = 41
save_fault_code SaveTooLong = 42
save_fault_code SaveSolver = 43

-- the name of a fault of restoring a save
abbrev pub fault_name : SaveFault → List ℕ
fault_name SaveShape = codes "SaveShape"
fault_name SaveTooLong = codes "SaveTooLong"
fault_name SaveSolver = codes "SaveSolver"

-- the fault of restoring a text, by the fault of reading it: SaveShape, that is, no save, if it has
-- a wrong shape; otherwise out of memory
abbrev pub fault_of_reading : ReadFault → SaveFaultOrMemory
fault_of_reading read.Memory = Memory
fault_of_reading read.Shape = Fault SaveShape

-- the fault of restoring a text, by the fault of parsing the source in it: SaveShape, that is, no
-- save, if the source is no program; otherwise out of memory
abbrev pub fault_of_source : SourceFaultOrMemory → SaveFaultOrMemory
fault_of_source parsed.Memory = Memory
fault_of_source (parsed.Fault fault) = Fault SaveShape
