use Rattle.std.proofs.Common.{refl}
use Rattle.gms_save.proofs.restart.RestartCheck.new.Goals as goal

pub assigned_before-requires : goal.assigned_before-requires
assigned_before-requires c = c.in_ok-declared.ensures

pub returns : goal.returns
returns c = record {
  begins = refl;
  saved = c.in_ok-saved.ensures;
  declared = c.in_ok-declared.ensures;
  assigned = c.in_ok-assigned.ensures;
}
