-- What is read of a table from its lines, or why it is refused.
use Rattle.std.specs.Prelude.{◌≡◌, ◌⊎◌, ℕ, Bool, true, false, List, [], map}
use Rattle.gq_number.specs.Number.{Number}
use Rattle.gms_labels.specs.declared.place.Place.{Place}
use Rattle.gms_ast.specs.declared.declaration.Item.{Item}
use Rattle.gms_table.specs.declared.entry.Entry.{Entry}
use Rattle.gms_table.specs.declared.entry.TableLine.{TableLine}
use Rattle.gms_table.specs.declared.fault.TableFaultOrMemory.{TableFaultOrMemory}
use Rattle.gms_table.specs.TableEntries.{IsTable, IsTableRefusal}
use Rattle.gms_parse.specs.declared.fault.SourceFaultOrMemory.{SourceFaultOrMemory}
use Rattle.gms_parse.specs.Faults.{fault_of_table}
use Rattle.gms_parse.specs.Tables.{item_of_entry}

-- The items of a table with these lines: those of its entries, or none if it has no lines and its
-- statement continues after its head. The labels are those of the source before the table and after
-- it.
pub record IsTableRead {F : Type 0} (limit : ℕ) (value : F → Number) (lines : List TableLine) (ends : Bool) (old new : List (List ℕ)) (items : List (Item F)) : Type 0 where
  pub entries : List (Entry F)
  pub items_are : items ≡ map item_of_entry entries
  pub entries_are : ((lines ≡ []) × (ends ≡ false) × (entries ≡ []) × (new ≡ old)) ⊎ IsTable limit value lines old new entries

-- The refusal of a table with this name: its fault, or out of memory. Without lines there is a
-- refusal only if the statement ends after its head.
pub record IsTableRefused (limit : ℕ) (lines : List TableLine) (ends : Bool) (old : List (List ℕ)) (name : Place) (refusal : SourceFaultOrMemory) : Type 0 where
  pub found : TableFaultOrMemory
  pub refused : IsTableRefusal limit lines old found
  pub told : refusal ≡ fault_of_table found name
  pub ended : lines ≡ [] → ends ≡ true
