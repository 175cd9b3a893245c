use Rattle.std.proofs.Common.{refl}
use Rattle.gms_laws.proofs.ReadModes.{declaration, table, name, item, list, element, list_end, label, joined, labels, never_numbers, value}
use Rattle.gms_laws.proofs.modes.mode_laws.Goals as goal

pub returns : goal.returns
returns c = record {
  code = λ mode text. refl;
  declaration = declaration;
  table = table;
  name = name;
  item = item;
  list = list;
  element = element;
  list_end = list_end;
  label = label;
  joined = joined;
  labels = labels;
  never_numbers = never_numbers;
  value = value;
  number = λ text. refl;
}
