-- Of a list of steps one at most is the first that does not fit.
use Rattle.std.proofs.Common.{◌≡◌, true, false, List, [], ◌∷◌, ◌++◌, Option, Some, None, refl, ap, ◌∙◌}
use Rattle.std.proofs.lemmas.List.Elements.{All-head, All-tail}
use Rattle.lp_core.specs.declared.answer.StepName.{StepName}
use Rattle.lp_core.specs.Steps.{ExpectedStep, AllFit, FirstStop}
use Rattle.lp_std.specs.InnerSteps.{first_stop}

abbrev Fit : ExpectedStep → Type 0
Fit step = step.1 ≡ true

first_after : (before following : List ExpectedStep) (name : StepName) → AllFit before → first_stop (before ++ (name, false) ∷ following) ≡ Some name
first_after [] following name fit = refl
first_after ((m, true) ∷ before) following name fit = first_after before following name (All-tail Fit (m, true) before fit)
first_after ((m, false) ∷ before) following name fit = absurd (let e = All-head Fit (m, false) before fit in cc)

first_is : (steps : List ExpectedStep) (name : StepName) → FirstStop steps name → first_stop steps ≡ Some name
first_is steps name stop = ap first_stop stop.split ∙ first_after stop.before stop.following name stop.fit

none_is : (steps : List ExpectedStep) → AllFit steps → first_stop steps ≡ None
none_is [] fit = refl
none_is ((m, true) ∷ steps) fit = none_is steps (All-tail Fit (m, true) steps fit)
none_is ((m, false) ∷ steps) fit = absurd (let e = All-head Fit (m, false) steps fit in cc)

some_is : (a b : StepName) (o : Option StepName) → o ≡ Some a → o ≡ Some b → a ≡ b
some_is a b o first second = cc

none_or_some : (a : StepName) (o : Option StepName) → o ≡ None → o ≡ Some a → ⊥
none_or_some a o first second = cc

pub same_stop : (steps : List ExpectedStep) (a b : StepName) → FirstStop steps a → FirstStop steps b → a ≡ b
same_stop steps a b first second = some_is a b (first_stop steps) (first_is steps a first) (first_is steps b second)

pub fit_or_stop : (steps : List ExpectedStep) (name : StepName) → AllFit steps → FirstStop steps name → ⊥
fit_or_stop steps name fit stop = none_or_some name (first_stop steps) (none_is steps fit) (first_is steps name stop)
