-- Steps that are numbered: all fit, or the first that does not is named.
use Rattle.std.proofs.Common.{◌≡◌, ℕ, ◌+◌, Bool, true, false, List, [], ◌∷◌, ◌++◌, map, Option, Some, None, refl, sym, ap, ◌∙◌, subst, arith}
use Rattle.std.specs.Prelude.{option_map}
use Rattle.std.specs.List.{enumerate_from}
use Rattle.std.proofs.lemmas.List.Elements.{All-nil, All-cons}
use Rattle.lp_core.specs.declared.answer.StepName.{StepName}
use Rattle.lp_core.specs.declared.answer.StepName.TheVariants.{Check, Standard as StandardStep, Ratio, Exchange, Recover}
use Rattle.lp_core.specs.Steps.{ExpectedStep, AllFit, FirstStop}
use Rattle.lp_check.specs.Partials.{first_unfit, StopsAfterSteps}

abbrev pub numbered : ℕ → List Bool → List ExpectedStep
numbered n fits = map (λ (p : ℕ × Bool). (Check p.0, p.1)) (enumerate_from n fits)

no_more : (o : Option ℕ) → option_map (λ n. n + 1) o ≡ None → o ≡ None
no_more None e = refl
no_more (Some n) e = absurd (cc)

one_less : (o : Option ℕ) (k : ℕ) → option_map (λ n. n + 1) o ≡ Some k → (m : ℕ) × (o ≡ Some m) × (m + 1 ≡ k)
one_less None k e = absurd (cc)
one_less (Some m) k e = (m, refl, cc)

pub all_fit : (n : ℕ) (fits : List Bool) → first_unfit fits ≡ None → AllFit (numbered n fits)
all_fit n [] e = All-nil (λ (step : ExpectedStep). step.1 ≡ true)
all_fit n (true ∷ fits) e = All-cons (λ (step : ExpectedStep). step.1 ≡ true) (Check n, true) (numbered (n + 1) fits) refl (all_fit (n + 1) fits (no_more (first_unfit fits) e))
all_fit n (false ∷ fits) e = absurd (cc)

first_stop : (n k : ℕ) (fits : List Bool) → first_unfit fits ≡ Some k → FirstStop (numbered n fits) (Check (n + k))
first_stop n k [] e = absurd (cc)
first_stop n k (true ∷ fits) e =
    let less = one_less (first_unfit fits) k e in
    let later = first_stop (n + 1) less.0 fits less.1 in
    let same : n + 1 + less.0 ≡ n + k = omega (arith, less.2) in
    record {
      before = (Check n, true) ∷ later.before;
      following = later.following;
      split = ap (λ s. (Check n, true) ∷ s) (later.split ∙ ap (λ m. later.before ++ (Check m, false) ∷ later.following) same);
      fit = All-cons (λ (s : ExpectedStep). s.1 ≡ true) (Check n, true) later.before refl later.fit;
    }
first_stop n k (false ∷ fits) e =
    let none : 0 ≡ k = cc in
    record {
      before = [];
      following = numbered (n + 1) fits;
      split = ap (λ m. (Check m, false) ∷ numbered (n + 1) fits) (omega (arith, none));
      fit = All-nil (λ (s : ExpectedStep). s.1 ≡ true);
    }

pub stops_first : (fits : List Bool) (step : StepName) → StopsAfterSteps 0 fits step → FirstStop (numbered 0 fits) step
stops_first fits (Check part) h = subst (λ m. FirstStop (numbered 0 fits) (Check m)) (sym h.2) (first_stop 0 h.0 fits h.1)
stops_first fits (StandardStep row column part) h = absurd h
stops_first fits (Ratio pivot row) h = absurd h
stops_first fits (Exchange pivot row column part) h = absurd h
stops_first fits (Recover what index entry part) h = absurd h
