use Rattle.std.proofs.Common.{◌≡◌, ◌∙◌, ap, refl, [], ◌∷◌, not}
use Rattle.std.specs.Prelude.{codes}
use Rattle.std.specs.Str.{str_eq_ignore_ascii_case}
use Rattle.gms_check.specs.declared.error.ErrorKind.TheVariants.{ModelType}
use Rattle.gms_check.specs.InnerChecking.{faulted, seen}
use Rattle.gms_check.specs.Uses.{method as using_word, optimizing, solving}
use Rattle.gms_check.proofs.Noting.{noted-by, noted-then}
use Rattle.gms_check.proofs.checker.Checker.solve.Goals as goal

pub returns : goal.returns
returns g c =
    let s = seen c.args.self.now in
    let value = g.F.ExactField.value in
    let linear : c.is_word-linear.result ≡ str_eq_ignore_ascii_case c.args.method.now.text (codes "lp") = c.is_word-linear.ensures ∙ ap (λ text. str_eq_ignore_ascii_case text (codes "lp")) c.as_slice.ensures in
    let word = noted-by value (seen c.solved_model.new.self) (seen c.require.new.self) c.args.method.now.at (using_word c.args.method.now.text) ((not (str_eq_ignore_ascii_case c.args.method.now.text (codes "lp")), ModelType) ∷ []) refl (c.require.ensures ∙ ap (λ b. faulted (seen c.solved_model.new.self) c.args.method.now.at ((not b, ModelType) ∷ [])) linear) in
    noted-then value s (seen c.require.new.self) (seen c.objective.new.self) ((c.args.model.at, solving c.args.model.name) ∷ (c.args.method.now.at, using_word c.args.method.now.text) ∷ []) ((c.args.objective.at, optimizing c.args.objective.name) ∷ [])
    (noted-then value s (seen c.solved_model.new.self) (seen c.require.new.self) ((c.args.model.at, solving c.args.model.name) ∷ []) ((c.args.method.now.at, using_word c.args.method.now.text) ∷ []) c.solved_model.ensures word)
    c.objective.ensures
