-- A saved state fits each joint program of its source.
use Rattle.std.proofs.Common.{ℕ, List}
use Rattle.gq_frac.specs.declared.frac.Frac.{Frac}
use Rattle.gq_frac.specs.Frac.{frac_value, frac_limit}
use Rattle.gms_ast.specs.declared.program.Program.{Program}
use Rattle.gms_store.specs.State.{State}
use Rattle.gms_store.specs.Declarations.{declared_state}
use Rattle.gms_parse.specs.Outcomes.{program_view, IsProgram}
use Rattle.gms_joint_source.specs.JointSources.{joint_source}
use Rattle.gms_save.specs.JointErrors.{resumed}
use Rattle.gms_save.specs.Saves.{IsSavedBy}
use Rattle.gms_joint_source.specs.Programs.{IsProgramPrefix}
use Rattle.gms_joint_source.proofs.ProgramPrefixes.{is_prefix}
use Rattle.gms_restart.specs.Alike.{IsAlike}
use Rattle.gms_restart.proofs.JointFitting.{all-alike}
use Rattle.gms_restart.proofs.ProgramNames.{program-own}

-- A saved state fits the joint program of its source and any file.
pub saved_fits : (saved file : List ℕ) (first whole : Program Frac) (state : State) (solver : List ℕ) → IsProgram frac_limit saved frac_value first → IsProgram frac_limit (joint_source saved file) frac_value whole → IsSavedBy first state solver → (name : ℕ) → IsAlike (resumed frac_value state whole) (declared_state whole) name
saved_fits saved file first whole state solver one joint is =
    let prefix : IsProgramPrefix (program_view frac_value first) (program_view frac_value whole) = is_prefix frac_limit saved file (program_view frac_value first) (program_view frac_value whole) one joint in
    all-alike first whole state is.is_saved.declares prefix.names prefix.statements.0 prefix.statements.1 (program-own frac_limit saved (program_view frac_value first) one)
