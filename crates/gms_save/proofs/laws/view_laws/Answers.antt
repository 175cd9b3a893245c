-- Programs with equal views have the same errors, load the same, and have the same saved states.
use Rattle.gms_save.proofs.SeenJoints.{same-joint-errors, same-resumed}
use Rattle.gms_save.proofs.SeenPrograms.{same-assigned-sets, same-declared, same-errors, same-loaded, same-saved, same-solvers}
use Rattle.gms_save.proofs.laws.view_laws.Goals as goal

pub returns : goal.returns
returns c = record {
  errors = λ one other solvers alike. same-errors one other alike solvers;
  solvers = same-solvers;
  declared = same-declared;
  assigned = same-assigned-sets;
  loaded = same-loaded;
  saved = λ one other state solver alike. same-saved one other alike state solver;
  joint = λ one other from solvers alike. same-joint-errors one other alike from solvers;
  resumed = λ one other saved alike. same-resumed one other alike saved;
}
