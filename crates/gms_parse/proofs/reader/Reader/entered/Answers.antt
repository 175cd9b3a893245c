use Rattle.std.proofs.Common.{inr, ap, Err}
use Rattle.gms_labels.specs.declared.fault.LabelFault.{LabelFault}
use Rattle.gms_parse.proofs.reader.Reader.entered.Goals as goal

pub returns-in-Err-Full : goal.returns-in-Err-Full
returns-in-Err-Full c = record { why = inr (c.at.ensures, c.in-Err-Full.ensures.full.0 (ap (λ (x : LabelFault). Err x) c.in-Err-Full.field-0-is)) }
