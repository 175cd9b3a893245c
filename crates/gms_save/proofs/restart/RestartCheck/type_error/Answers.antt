use Rattle.std.proofs.Common.{◌∙◌, ap, sym, List, ℕ}
use Rattle.gq_frac.specs.declared.frac.Frac.{Frac}
use Rattle.gms_labels.specs.declared.place.Place.{Place}
use Rattle.gms_ast.specs.declared.declaration.Decl.{Decl}
use Rattle.gms_ast.specs.declared.program.Act.{Act}
use Rattle.gms_check.specs.Errors.{first_error}
use Rattle.gms_save.specs.JointErrors.{names_typed, restarts_at, typed_names}
use Rattle.gms_save.specs.InnerRestartChecks.{variable_in}
use Rattle.gms_save.proofs.Restarts.{typed-other}
use Rattle.gms_save.proofs.restart.RestartCheck.type_error.Goals as goal

pub returns-in-Declare : goal.returns-in-Declare
returns-in-Declare c =
    let saved = c.args.self.now.saved in
    c.type_error_among.ensures
    ∙ ap (λ (items : List (Decl Frac)). first_error (restarts_at (variable_in saved) (names_typed c.in-Declare.kind items))) c.as_slice.ensures
    ∙ ap (λ (act : Act Frac). first_error (restarts_at (variable_in saved) (typed_names act))) (sym c.in-Declare.is)

pub returns-in_default : goal.returns-in_default
returns-in_default c =
    ap (λ (names : List (Place × ℕ)). first_error (restarts_at (variable_in c.args.self.now.saved) names)) (sym (typed-other c.args.act.now c.in_default.not-Declare))
