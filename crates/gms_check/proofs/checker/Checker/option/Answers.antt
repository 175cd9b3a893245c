use Rattle.std.proofs.Common.{◌≡◌, ◌∙◌, ap, sym, refl, [], ◌∷◌, not, ◌&&◌, ◌||◌}
use Rattle.std.specs.Prelude.{codes}
use Rattle.std.specs.Str.{str_eq_ignore_ascii_case}
use Rattle.gms_labels.specs.declared.place.Place.{Place}
use Rattle.gms_check.specs.declared.error.ErrorKind.TheVariants.{OptionRange, UnknownName, UnknownSolver}
use Rattle.gms_check.specs.InnerChecking.{Checking, faulted, seen}
use Rattle.gms_check.specs.InnerOptionKinds.{is_known_option, is_within, kind_of_word, names_solver}
use Rattle.gms_check.specs.OptionWords.{is_in_range, is_none_of, is_option}
use Rattle.gms_check.specs.StatementUses.{setting_place}
use Rattle.gms_check.specs.Uses.{option_value, option_word}
use Rattle.gms_check.proofs.Noting.{chain-2, noted-by, noted-then, not-either, or-right, or-true}
use Rattle.gms_check.proofs.WordsOfOptions.{for-solver, known-option, within-range}
use Rattle.gms_check.proofs.checker.Checker.option.Goals as goal
use Rattle.gms_check.proofs.checker.Checker.option.Goals.{then-not-names_solver, else-not-names_solver}

pub returns : goal.returns
returns g c =
    let value = g.F.ExactField.value in
    let s = seen c.args.self.now in
    let word = c.args.word.now in
    let setting = c.args.setting.now in
    let at = setting_place setting in
    let lp = str_eq_ignore_ascii_case word.text (codes "lp") in
    let none = is_none_of s.solvers setting in
    let outside = not (is_in_range value word.text setting) in
    let kind : c.of-option.result ≡ kind_of_word word.text = c.of-option.ensures ∙ ap kind_of_word c.as_slice.ensures in
    let known : c.is_known.result ≡ is_option word.text = c.is_known.ensures ∙ ap is_known_option kind ∙ known-option word.text in
    let solver : c.names_solver.result ≡ lp = c.names_solver.ensures ∙ ap names_solver kind ∙ for-solver word.text in
    let there : c.if-not-names_solver.there ≡ (not lp || not none) = elim c.if-not-names_solver.branch [
      | then-not-names_solver w ↦ or-true _ _ _ (w.there-is ∙ ap not solver) (ap not (sym solver ∙ w.if-not-names_solver.true))
      | else-not-names_solver w ↦ or-right _ _ _ (w.there-is ∙ w.is_solver-there.ensures) (ap not (sym solver ∙ w.if-not-names_solver.false))
    ] in
    let within : c.is_in_range-within.result ≡ is_in_range value word.text setting = c.is_in_range-within.ensures ∙ ap (λ k. is_within value k setting) kind ∙ within-range value setting word.text in
    let t = faulted s word.at ((not (is_option word.text), UnknownName) ∷ []) in
    let after : seen c.require.new.self ≡ t = c.require.ensures ∙ ap (λ b. faulted s word.at ((not b, UnknownName) ∷ [])) known in
    noted-then value s t _ ((word.at, option_word word.text) ∷ []) ((at, option_value word.text setting) ∷ [])
    (noted-by value s t word.at (option_word word.text) ((not (is_option word.text), UnknownName) ∷ []) refl refl)
    (noted-by value t _ at (option_value word.text setting) ((lp && none, UnknownSolver) ∷ (outside, OptionRange) ∷ []) refl
    (chain-2 at t _ _ _ _
    (c.require-2.ensures ∙ ap (λ (u : Checking). faulted u c.place_of-at.result ((not c.if-not-names_solver.there, UnknownSolver) ∷ [])) after ∙ ap (λ (p : Place). faulted t p ((not c.if-not-names_solver.there, UnknownSolver) ∷ [])) c.place_of-at.ensures ∙ ap (λ b. faulted t at ((b, UnknownSolver) ∷ [])) (ap not there ∙ not-either lp none))
    (c.require-3.ensures ∙ ap (λ (p : Place). faulted (seen c.require-2.new.self) p ((not c.is_in_range-within.result, OptionRange) ∷ [])) c.place_of-at.ensures ∙ ap (λ b. faulted (seen c.require-2.new.self) at ((not b, OptionRange) ∷ [])) within)))
