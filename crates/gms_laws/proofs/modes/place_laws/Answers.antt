use Rattle.std.proofs.Common.{refl}
use Rattle.gms_laws.proofs.ReadModes.{domain, in_domain, domain_end, opened, closed, next_label, enclosed_labels, lines, table_name, table_text, table_lines, never_statements, table_end}
use Rattle.gms_laws.proofs.modes.place_laws.Goals as goal

pub returns : goal.returns
returns c = record {
  domain = domain;
  in_domain = in_domain;
  domain_end = domain_end;
  opened = opened;
  closed = closed;
  comma = next_label;
  labels = enclosed_labels;
  lines = lines;
  table_name = table_name;
  table_text = table_text;
  table_lines = table_lines;
  table_line = λ text. refl;
  never_statements = never_statements;
  table_end = table_end;
}
