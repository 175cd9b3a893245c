-- The first step that does not fit, in lists joined and on one entry.
use Rattle.lp_form.proofs.LoopSteps.{Less-from_test}
use Rattle.std.proofs.Common.{◌≡◌, ◌↔◌, ℕ, Bool, true, false, List, [], ◌∷◌, ◌++◌, Some, None, refl, sym, ap, ◌∙◌, Ordering}
use Rattle.std.specs.Prelude.{IsTrue, unwrap_or}
use Rattle.std.specs.Ordering.{is_lt}
use Rattle.std.proofs.lemmas.List.Elements.{All-nil, All-cons}
use Rattle.gq_number.specs.Number.{Number, ◌-ℚ◌, ◌*ℚ◌}
use Rattle.gq_number.specs.Order.{number_cmp, ◌<ℚ◌}
use Rattle.gq_number.proofs.Compares.{number_cmp_decides}
use Rattle.gq_number.proofs.Ring.{ring_ℚ}
use Rattle.lp_core.specs.declared.answer.StepName.{StepName}
use Rattle.lp_core.specs.StandardForm as form
use Rattle.lp_core.specs.Steps.{ExpectedStep, AllFit, FirstStop, shifting}
use Rattle.lp_std.specs.declared.types.Shift.{Shift}
use Rattle.lp_std.specs.declared.types.Shift.TheVariants as shift
use Rattle.lp_std.specs.Meaning.{shift_value}
use Rattle.lp_std.specs.InnerSteps.{first_stop, bound_of_shift}

pub below_test : (b : Bool) (r : Ordering) (x y : Number) → b ≡ is_lt r → r ≡ number_cmp x y → IsTrue b ↔ (x <ℚ y)
below_test b r x y b_is r_is =
    (λ e. (number_cmp_decides x y).0.0 (sym r_is ∙ Less-from_test r (sym b_is ∙ e)), λ h. b_is ∙ ap is_lt (r_is ∙ (number_cmp_decides x y).0.1 h))

-- ---- lists of steps joined

pub stop_after : (a b : List ExpectedStep) → first_stop a ≡ None → first_stop (a ++ b) ≡ first_stop b
stop_after [] b e = refl
stop_after ((name, true) ∷ a) b e = stop_after a b e
stop_after ((name, false) ∷ a) b e = absurd (cc)

pub stop_before : (a b : List ExpectedStep) (step : StepName) → first_stop a ≡ Some step → first_stop (a ++ b) ≡ Some step
stop_before [] b step e = absurd (cc)
stop_before ((name, true) ∷ a) b step e = stop_before a b step e
stop_before ((name, false) ∷ a) b step e = e

-- no first one: all fit
pub all_fit : (steps : List ExpectedStep) → first_stop steps ≡ None → AllFit steps
all_fit [] e = All-nil (λ (step : ExpectedStep). step.1 ≡ true)
all_fit ((name, true) ∷ steps) e = All-cons (λ (step : ExpectedStep). step.1 ≡ true) (name, true) steps refl (all_fit steps e)
all_fit ((name, false) ∷ steps) e = absurd (cc)

-- the first one is the first that does not fit
pub stops_first : (steps : List ExpectedStep) (step : StepName) → first_stop steps ≡ Some step → FirstStop steps step
stops_first [] step e = absurd (cc)
stops_first ((name, true) ∷ steps) step e =
    let later = stops_first steps step e in
    record {
      before = (name, true) ∷ later.before;
      following = later.following;
      split = ap (λ s. (name, true) ∷ s) later.split;
      fit = All-cons (λ (s : ExpectedStep). s.1 ≡ true) (name, true) later.before refl later.fit;
    }
stops_first ((name, false) ∷ steps) step e =
    record {
      before = [];
      following = steps;
      split = ap (λ s. (s, false) ∷ steps) (ap (λ o. unwrap_or o step) e);
      fit = All-nil (λ (s : ExpectedStep). s.1 ≡ true);
    }

-- ---- one entry

module _ {F : Type 0} (value : F → Number) (limit row column : ℕ) (a right : Number) where
  pub taken_none : (s : Shift F) → bound_of_shift s ≡ None → (first_stop (shifting limit row column (shift_value value s) a right) ≡ None) × (right ≡ right -ℚ a *ℚ form.base (shift_value value s))
  taken_none (shift.Lower c) e = absurd (cc)
  taken_none (shift.Upper c) e = absurd (cc)
  taken_none shift.Free e = (refl, simp ring_ℚ)
