-- The state in which an accepted script begins.
use Rattle.std.proofs.Common.{◌≡◌, ℕ, List, [], length, Option, Some, None, sym, subst}
use Rattle.std.specs.Prelude.{IfSome}
use Rattle.gq_frac.specs.declared.frac.Frac.{Frac}
use Rattle.gq_frac.specs.Frac.{frac_value}
use Rattle.gms_ast.specs.declared.program.Program.{Program}
use Rattle.gms_store.specs.State.{State}
use Rattle.gms_check.proofs.Soundness.{checked-program}
use Rattle.gms_exec.specs.Dimensions.{AreOneDimensional}
use Rattle.gms_exec.specs.Stepping.{AreValidSettings}
use Rattle.gms_run.specs.Scripts.{Script, errors_of_script, first_state}
use Rattle.gms_run.specs.Listings.{IsAcceptedScript}
use Rattle.gms_run.specs.InnerReports.{IsGoneOn, IsSound}
use Rattle.gms_save.proofs.Joints.{accepted as accepted_joint}
use Rattle.gms_run.proofs.FirstSettings.{begins-kept}
use Rattle.gms_run.proofs.Loading.{begins-one-dimensional}
use Rattle.gms_run.proofs.Resuming.{resumes-one-dimensional}

-- Its settings are within their ranges.
pub first_settings : (solvers : List (List ℕ)) (source : List ℕ) (line : ℕ) (saved : Option State) (program : Program Frac) (state : State) → state ≡ first_state saved program → IsSound solvers source line saved → AreValidSettings (length solvers) state.settings
first_settings solvers source line saved program state is sound = subst (λ (s : State). AreValidSettings (length solvers) s.settings) (sym is) (by saved sound)
  where
    by : (o : Option State) → IsSound solvers source line o → AreValidSettings (length solvers) (first_state o program).settings
    by None sound = begins-kept frac_value program (length solvers)
    by (Some s) sound = sound.settings

-- Where there is a saved state it is one of the saved source's program.
pub first_origin : (solvers : List (List ℕ)) (source : List ℕ) (line : ℕ) (saved : Option State) → IsSound solvers source line saved → IfSome saved (IsGoneOn solvers source line)
first_origin solvers source line None sound = tt
first_origin solvers source line (Some state) sound = sound.origin

-- The definitions of its program are over sets of one dimension.
pub first_plain : (solvers : List (List ℕ)) (script : Script) (program : Program Frac) (state : State) → state ≡ first_state script.saved program → IsAcceptedScript solvers script program → IsSound solvers script.source script.line script.saved → AreOneDimensional state program.statements.items
first_plain solvers script program state is is_accepted sound = subst (λ (s : State). AreOneDimensional s program.statements.items) (sym is) (by script.saved is_accepted.no_error sound)
  where
    by : (o : Option State) → errors_of_script o script.line program solvers ≡ [] → IsSound solvers script.source script.line o → AreOneDimensional (first_state o program) program.statements.items
    by None none sound = begins-one-dimensional frac_value program solvers (checked-program frac_value program solvers none)
    by (Some s) none sound =
        let accepted = accepted_joint frac_value program script.line (solvers, none) in
        resumes-one-dimensional s program (sound.declares program is_accepted.is_program) sound.arity program.statements.items (begins-one-dimensional frac_value program accepted.0 (checked-program frac_value program accepted.0 accepted.1))
