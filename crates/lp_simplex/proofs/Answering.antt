-- From the place where a run of pivots halts to the answer.
use Rattle.std.proofs.Common.{◌≡◌, ◌≢◌, ℕ, ◌≤◌, inl, inr, List, [], length, Option, None, Result, Ok, Err, refl, sym, ap, ◌∙◌, subst}
use Rattle.std.specs.Prelude.{IfOk}
use Rattle.std.specs.declared.alloc.AllocError.{AllocError}
use Rattle.gq_number.specs.Number.{Number}
use Rattle.lp_core.specs.declared.answer.Pivot.{Pivot}
use Rattle.lp_core.specs.Pivots.{ByChoice, LeadsWithin}
use Rattle.lp_core.specs.Ends.{IsPhase, LeadsTo, EndsSoBy}
use Rattle.lp_core.specs.declared.answer.Rule.TheVariants.{Legal}
use Rattle.lp_core.specs.declared.answer.StepName.{StepName}
use Rattle.lp_core.specs.declared.answer.End.{End}
use Rattle.lp_core.specs.declared.answer.End.TheVariants.{Refused}
use Rattle.lp_core.specs.declared.answer.Answer.{Answer}
use Rattle.lp_core.specs.declared.program.Lp.{Lp}
use Rattle.lp_core.specs.StandardForm.{Standard, Last, standard_form}
use Rattle.lp_core.specs.Dictionary.{Dictionary, Improves, first_dictionary}
use Rattle.lp_core.specs.Steps.{AllFit, standard_steps, steps_back}
use Rattle.lp_core.specs.WellFormed.{IsWellFormed}
use Rattle.lp_core.specs.Proofs.{FirstCrossed, IsProved}
use Rattle.lp_core.specs.Answers.{search_ends, IsAnswer, IsAnswerByChoice}
use Rattle.lp_core.specs.declared.answer.EndKind.{EndKind}
use Rattle.lp_std.specs.declared.stop.Stop.{Stop}
use Rattle.lp_std.specs.declared.stop.Stop.TheVariants as stops
use Rattle.lp_std.specs.Last.{IsReadAt}
use Rattle.lp_std.specs.Recovery.{HasNoRecovery}
use Rattle.lp_fraction_dict.specs.Reading.{last_with}
use Rattle.lp_simplex.specs.declared.pivoting.PivotRun.{PivotRun}
use Rattle.lp_simplex.specs.InnerStates.{IsPivotRun}
use Rattle.lp_simplex.specs.InnerEnds.{IsLedBack, IsBrokenOff, EndsHalted}
use Rattle.lp_fraction_dict.specs.Pivots.{IsProper}
use Rattle.lp_simplex.proofs.Ending.{halted_so}
use Rattle.lp_core.proofs.Rules.{legal_answer}
use Rattle.lp_simplex.proofs.ProgramDictionaries.{first_occurs}

-- ---- the recovery

pub never_crossed : {F : Type 0} (value : F → Number) (limit : ℕ) (lp : Lp F) (k : EndKind) (last : Last) (s : Stop) → HasNoRecovery value limit lp k last s → (j : ℕ) → s ≢ stops.Crossed j
never_crossed value limit lp k last s h j e = subst (HasNoRecovery value limit lp k last) e h

-- what the recovery gives from the numbers read there
pub led_back_given : {F : Type 0} (value : F → Number) (limit : ℕ) (lp : Lp F) (d : Dictionary) (enter : Option ℕ) (k : EndKind) (last : Last) (end : End F) → IsReadAt d k (last_with d enter) → last ≡ last_with d enter → LeadsTo value lp k last end × AllFit (steps_back value limit lp k last) × IsProved value lp end → IsLedBack value limit lp d enter end
led_back_given value limit lp d enter k last end read is given =
    record { kind = k; read = read; gives = inl (subst (λ l. LeadsTo value lp k l end × AllFit (steps_back value limit lp k l) × IsProved value lp end) is given) }

pub led_back_stopped : {F : Type 0} (value : F → Number) (limit : ℕ) (lp : Lp F) (d : Dictionary) (enter : Option ℕ) (k : EndKind) (last : Last) (s : Stop) → IsReadAt d k (last_with d enter) → last ≡ last_with d enter → HasNoRecovery value limit lp k last s
    → (r : Result (End F) AllocError) → IfOk r (λ end. (step : StepName) × (s ≡ stops.Limit step) × (end ≡ Refused step)) → IfOk r (IsLedBack value limit lp d enter)
led_back_stopped value limit lp d enter k last s read is none (Ok end) h =
    record { kind = k; read = read; gives = inr (h.0, h.2, subst (λ l. HasNoRecovery value limit lp k l (stops.Limit h.0)) is (subst (HasNoRecovery value limit lp k last) h.1 none)) }
led_back_stopped value limit lp d enter k last s read is none (Err e) h = tt

pub phase_one : (d : Dictionary) (n : ℕ) → IsPhase d n → n ≢ 2 → IsPhase d 1
phase_one d n (inl one) other = inl (refl, one.1)
phase_one d n (inr two) other = absurd (other two.0)

pub phase_two : (d : Dictionary) (n : ℕ) → IsPhase d n → n ≡ 2 → IsPhase d 2
phase_two d n phase same = subst (IsPhase d) same phase

-- where the limit of pivots is met in phase 2
pub broken_off_two : {F : Type 0} (value : F → Number) (limit : ℕ) (lp : Lp F) (d : Dictionary) → IsPhase d 2 → (r : Result (End F) AllocError) → IfOk r (IsLedBack value limit lp d None) → IfOk r (IsBrokenOff value limit lp d)
broken_off_two value limit lp d two (Ok end) h = inr (two, h)
broken_off_two value limit lp d two (Err e) h = tt

-- ---- the whole

-- pivots by a choice from a dictionary to a last one, and an end there
abbrev Traversed : {F : Type 0} → (F → Number) → ℕ → Lp F → ℕ → (Dictionary → List Pivot → Dictionary → ℕ → Type 0) → Dictionary → List Pivot → Dictionary → End F → Type 0
Traversed value limit lp iterlim choice d p last end =
    LeadsWithin (ByChoice choice d) limit 1 [] d p last × EndsSoBy value limit lp iterlim (ByChoice choice d p last) (choice d p last) (length p) last end

pub answers_so : {F : Type 0} (value : F → Number) (limit : ℕ) (lp : Lp F) (iterlim : ℕ) (choice : Dictionary → List Pivot → Dictionary → ℕ → Type 0) (s : Standard) (first : Dictionary) (pivot_run : PivotRun F) (answer : Answer F) → ((start : Dictionary) (pivots : List Pivot) (d : Dictionary) (q : ℕ) → choice start pivots d q → Improves d q) → FirstCrossed value lp.columns None → AllFit (standard_steps value limit lp) → s ≡ standard_form value lp → first ≡ first_dictionary s → IsPivotRun limit value choice first iterlim pivot_run → answer.pivots ≡ pivot_run.pivots.items → EndsHalted value limit lp pivot_run.halt answer.end → IsAnswerByChoice value limit lp iterlim choice answer
answers_so value limit lp iterlim choice s first pivot_run answer improves none fit form begins is pivots ends =
    let start : Dictionary = first_dictionary (standard_form value lp) in
    let from : first ≡ start = begins ∙ ap first_dictionary form in
    let ended = halted_so value limit lp iterlim (choice first pivot_run.pivots.items is.last) (length pivot_run.pivots.items) is.last pivot_run.halt answer.end (improves first pivot_run.pivots.items is.last) is.halts ends in
    let few : length answer.pivots ≤ iterlim = subst (λ (p : List Pivot). length p ≤ iterlim) (sym pivots) is.few in
    let begun : Traversed value limit lp iterlim choice start pivot_run.pivots.items is.last answer.end =
    subst (λ d. Traversed value limit lp iterlim choice d pivot_run.pivots.items is.last answer.end) from (is.leads, ended) in
    let run_of_pivots : Traversed value limit lp iterlim choice start answer.pivots is.last answer.end =
    subst (λ (p : List Pivot). Traversed value limit lp iterlim choice start p is.last answer.end) (sym pivots) begun in
    search_ends none fit few is.last run_of_pivots.0 run_of_pivots.1

pub first_is_proper : {F : Type 0} (value : F → Number) (lp : Lp F) (s : Standard) (first : Dictionary) → IsWellFormed value lp → s ≡ standard_form value lp → first ≡ first_dictionary s → IsProper first
first_is_proper value lp s first formed form begins =
    subst IsProper (sym (begins ∙ ap first_dictionary form)) (first_occurs value lp formed).proper

pub legal_if_ok : {F E : Type 0} (value : F → Number) (limit : ℕ) (lp : Lp F) (iterlim : ℕ) (choice : Dictionary → List Pivot → Dictionary → ℕ → Type 0) → ((start : Dictionary) (pivots : List Pivot) (d : Dictionary) (q : ℕ) → choice start pivots d q → Improves d q) → (r : Result (Answer F) E) → IfOk r (IsAnswerByChoice value limit lp iterlim choice) → IfOk r (IsAnswer value limit lp iterlim Legal)
legal_if_ok value limit lp iterlim choice improves (Ok answer) h = legal_answer value limit lp iterlim choice answer improves h
legal_if_ok value limit lp iterlim choice improves (Err e) h = h
