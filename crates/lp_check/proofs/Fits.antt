-- Steps in order: the first that does not fit, and how many they are.
use Rattle.std.proofs.Common.{◌≡◌, ℕ, ◌+◌, ◌<◌, Bool, true, false, List, [], ◌∷◌, ◌++◌, length, Some, None, Option, Result, Ok, Err, refl, sym, ap, ◌∙◌, subst, arith}
use Rattle.std.specs.Prelude.{option_map}
use Rattle.std.proofs.lemmas.List.{length-append}
use Rattle.gq_number.specs.Number.{Number}
use Rattle.lp_core.specs.declared.answer.StepName.{StepName}
use Rattle.lp_core.specs.declared.answer.StepName.TheVariants.{Check, Standard as StandardStep, Ratio, Exchange, Recover}
use Rattle.lp_check.specs.declared.partial.Partial.{Partial}
use Rattle.lp_check.specs.Partials.{first_unfit, StopsAfterSteps, Took, Reaches, TakesSteps}

-- all of both fit
pub none_both : (a b : List Bool) → first_unfit a ≡ None → first_unfit b ≡ None → first_unfit (a ++ b) ≡ None
none_both [] b e h = h
none_both (true ∷ a) b e h = ap (option_map (λ n. n + 1)) (none_both a b (no_more (first_unfit a) e) h)
  where
    no_more : (o : Option ℕ) → option_map (λ n. n + 1) o ≡ None → o ≡ None
    no_more None e = refl
    no_more (Some n) e = cc
none_both (false ∷ a) b e h = cc

-- all of the first fit, and one of the second does not
pub some_after : (a b : List Bool) (n : ℕ) → first_unfit a ≡ None → first_unfit b ≡ Some n → first_unfit (a ++ b) ≡ Some (length a + n)
some_after [] b n e h = h ∙ ap Some (omega arith)
some_after (true ∷ a) b n e h =
    ap (option_map (λ m. m + 1)) (some_after a b n (no_more (first_unfit a) e) h) ∙ ap Some (omega arith)
  where
    no_more : (o : Option ℕ) → option_map (λ n. n + 1) o ≡ None → o ≡ None
    no_more None e = refl
    no_more (Some n) e = cc
some_after (false ∷ a) b n e h = cc

-- one of the first does not
some_or_none : (n : ℕ) (a : List Bool) (o : Option ℕ) → first_unfit a ≡ o → option_map (λ m. m + 1) o ≡ Some n → (m : ℕ) × (first_unfit a ≡ Some m)
some_or_none n a None is e = absurd (cc)
some_or_none n a (Some m) is e = (m, is)

pub some_before : (a b : List Bool) (n : ℕ) → first_unfit a ≡ Some n → first_unfit (a ++ b) ≡ Some n
some_before [] b n e = cc
some_before (true ∷ a) b n e =
    let m = some_or_none n a (first_unfit a) refl e in
    ap (option_map (λ m. m + 1)) (some_before a b m.0 m.1 ∙ sym m.1) ∙ e
some_before (false ∷ a) b n e = e

pub stops_before : (taken : ℕ) (a b : List Bool) (step : StepName) → StopsAfterSteps taken a step → StopsAfterSteps taken (a ++ b) step
stops_before taken a b (Check part) h = (h.0, some_before a b h.0 h.1, h.2)
stops_before taken a b (StandardStep row column part) h = h
stops_before taken a b (Ratio pivot row) h = h
stops_before taken a b (Exchange pivot row column part) h = h
stops_before taken a b (Recover what index entry part) h = h

pub stops_after : (before between : ℕ) (a b : List Bool) (step : StepName) → Took before a between → StopsAfterSteps between b step → StopsAfterSteps before (a ++ b) step
stops_after before between a b (Check part) took h =
    (length a + h.0, some_after a b h.0 took.0 h.1, h.2 ∙ ap (λ n. n + h.0) took.1 ∙ omega arith)
stops_after before between a b (StandardStep row column part) took h = h
stops_after before between a b (Ratio pivot row) took h = h
stops_after before between a b (Exchange pivot row column part) took h = h
stops_after before between a b (Recover what index entry part) took h = h

pub took_both : (before between after : ℕ) (a b : List Bool) → Took before a between → Took between b after → Took before (a ++ b) after
took_both before between after a b first second =
    (none_both a b first.0 second.0, second.1 ∙ ap (λ n. n + length b) first.1 ∙ omega (arith, length-append a b))

module _ {F : Type 0} (value : F → Number) where
  pub reaches_after : (before between : ℕ) (a b : List Bool) (number : Number) (result : Result (Partial F) StepName) → Took before a between → Reaches value between b number result → Reaches value before (a ++ b) number result
  reaches_after before between a b number (Ok p) took h = (took_both before between p.taken a b took h.0, h.1)
  reaches_after before between a b number (Err step) took h = stops_after before between a b step took h

pub takes_after : (before between : ℕ) (a b : List Bool) (result : Result ℕ StepName) → Took before a between → TakesSteps between b result → TakesSteps before (a ++ b) result
takes_after before between a b (Ok after) took h = took_both before between after a b took h
takes_after before between a b (Err step) took h = stops_after before between a b step took h

-- Steps under way: how many were made before them all and before the remaining ones; a result of
-- the rest is a result of the whole.
pub record Going {F : Type 0} (value : F → Number) (before now : ℕ) (whole rest : List Bool) (number last : Number) : Type 0 where
  pub within_bound : now + length rest < 18446744073709551616
  pub so_far : (result : Result (Partial F) StepName) → Reaches value now rest last result → Reaches value before whole number result

module _ {F : Type 0} (value : F → Number) (before now : ℕ) (whole rest : List Bool) (number last : Number) (going : Going value before now whole rest number last) (a following : List Bool) (split : rest ≡ a ++ following) where
  pub bound_for : now + length a < 18446744073709551616
  bound_for = omega (arith, going.within_bound, ap length split, length-append a following)

  pub continues : (after : ℕ) (next : Number) → last ≡ next → Took now a after → Going value before after whole following number next
  continues after next same took =
      record {
        within_bound = omega (arith, going.within_bound, ap length split, length-append a following, took.1);
        so_far = λ result h. going.so_far result (rw (split, same) (reaches_after value now after a following next result took h));
      }

  pub stops : (step : StepName) → StopsAfterSteps now a step → Reaches value before whole number (Err step)
  stops step h = going.so_far (Err step) (subst (λ fits. StopsAfterSteps now fits step) (sym split) (stops_before now a following step h))

pub ends : {F : Type 0} (value : F → Number) (before now : ℕ) (whole rest : List Bool) (number last : Number) → Going value before now whole rest number last → rest ≡ [] → (p : Partial F) → p.taken ≡ now → value p.sum ≡ last → Reaches value before whole number (Ok p)
ends value before now whole rest number last going none p taken sum =
    going.so_far (Ok p) (rw none ((refl, taken ∙ omega arith), sum))

-- The same where steps alone are counted.
pub record Counting (before now : ℕ) (whole rest : List Bool) : Type 0 where
  pub within_bound : now + length rest < 18446744073709551616
  pub so_far : (result : Result ℕ StepName) → TakesSteps now rest result → TakesSteps before whole result

module _ (before now : ℕ) (whole rest : List Bool) (counting : Counting before now whole rest) (a following : List Bool) (split : rest ≡ a ++ following) where
  pub bound_for_count : now + length a < 18446744073709551616
  bound_for_count = omega (arith, counting.within_bound, ap length split, length-append a following)

  pub count_on : (after : ℕ) → Took now a after → Counting before after whole following
  count_on after took =
      record {
        within_bound = omega (arith, counting.within_bound, ap length split, length-append a following, took.1);
        so_far = λ result h. counting.so_far result (rw split (takes_after now after a following result took h));
      }

  pub count_stops : (step : StepName) → StopsAfterSteps now a step → TakesSteps before whole (Err step)
  count_stops step h = counting.so_far (Err step) (subst (λ fits. StopsAfterSteps now fits step) (sym split) (stops_before now a following step h))

pub count_ends : (before now : ℕ) (whole rest : List Bool) → Counting before now whole rest → rest ≡ [] → TakesSteps before whole (Ok now)
count_ends before now whole rest counting none = counting.so_far (Ok now) (rw none (refl, omega arith))

-- the first of two lists fits where both do, and the second
pub first_fits : (a b : List Bool) → first_unfit (a ++ b) ≡ None → first_unfit a ≡ None
first_fits a b e = fits_by a b (first_unfit a) refl e
  where
    fits_by : (a b : List Bool) (o : Option ℕ) → first_unfit a ≡ o → first_unfit (a ++ b) ≡ None → first_unfit a ≡ None
    fits_by a b None is e = is
    fits_by a b (Some n) is e = absurd (cc (some_before a b n is))

pub second_fits : (a b : List Bool) → first_unfit (a ++ b) ≡ None → first_unfit b ≡ None
second_fits a b e = fits_by a b (first_unfit b) refl (first_fits a b e) e
  where
    fits_by : (a b : List Bool) (o : Option ℕ) → first_unfit b ≡ o → first_unfit a ≡ None → first_unfit (a ++ b) ≡ None → first_unfit b ≡ None
    fits_by a b None is fit e = is
    fits_by a b (Some n) is fit e = absurd (cc (some_after a b n fit is))

-- steps that all fit stop nowhere
pub fit_no_stop : (taken : ℕ) (a : List Bool) (step : StepName) → first_unfit a ≡ None → StopsAfterSteps taken a step → ⊥
fit_no_stop taken a (Check part) e h = cc (h.1)
fit_no_stop taken a (StandardStep row column part) e h = h
fit_no_stop taken a (Ratio pivot row) e h = h
fit_no_stop taken a (Exchange pivot row column part) e h = h
fit_no_stop taken a (Recover what index entry part) e h = h
