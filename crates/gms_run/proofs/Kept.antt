-- The programs of the solves that were shown are kept, if requested.
use Rattle.std.proofs.Common.{◌≡◌, ℕ, zero, suc, ◌+◌, Bool, true, false, List, [], ◌∷◌, ◌++◌, length, map, Option, Some, None, refl, sym, ap, ◌∙◌, subst, append_assoc, append-nil, arith}
use Rattle.std.specs.Prelude.{slice_get, option_to_list, IfSome}
use Rattle.std.specs.List.{All, range_with_len}
use Rattle.std.proofs.lemmas.List.Elements.{All-head, All-tail}
use Rattle.gq_frac.specs.declared.frac.Frac.{Frac}
use Rattle.gq_frac.specs.Frac.{frac_value, frac_limit}
use Rattle.gms_event.specs.declared.event.Event.{Event as OwnEvent}
use Rattle.gms_event.specs.declared.event.Event.TheVariants as own
use Rattle.gms_event.specs.Events.{Solved}
use Rattle.gms_event.specs.EventView.{events_in}
use Rattle.lp_core.specs.declared.answer.Answer.{Answer}
use Rattle.lp_slot.specs.declared.solver.SolverRule.{SolverRule}
use Rattle.lp_core.specs.declared.program.Lp.{Lp}
use Rattle.lp_core.specs.Numbers.{lp_numbers}
use Rattle.gms_exec.specs.Run.{Course}
use Rattle.gms_exec.specs.ValidEvents.{IsValidEvent, IsValidSolve}
use Rattle.gms_run.specs.Solving.{solves_in}
use Rattle.gms_run.specs.InnerSteps.{IsAnsweredAt, KeepsPrograms, kept_if, programs_in}
use Rattle.gms_run.proofs.Numbered.{IsNumbered, places_in}

-- the programs of two lists of events
pub programs-append : (es more : List (OwnEvent Frac)) → programs_in (es ++ more) ≡ programs_in es ++ programs_in more
programs-append [] more = refl
programs-append (own.Display line items ∷ es) more = programs-append es more
programs-append (own.Abort line items ∷ es) more = programs-append es more
programs-append (own.Fault stop ∷ es) more = programs-append es more
programs-append (own.Solve line model equations lp answer solver settings level ∷ es) more = ap (λ ps. lp ∷ ps) (programs-append es more)

-- where they are not requested nothing is kept
pub kept_nothing : (keep : Bool) (before ps : List (Lp Frac)) → keep ≡ false → before ≡ before ++ kept_if keep ps
kept_nothing keep before ps none = sym (append-nil before) ∙ ap (λ k. before ++ kept_if k ps) (sym none)

-- where they are requested all are kept
pub kept_all : (keep : Bool) (before after ps : List (Lp Frac)) → keep ≡ true → after ≡ before ++ ps → after ≡ before ++ kept_if keep ps
kept_all keep before after ps all is = is ∙ ap (λ k. before ++ kept_if k ps) (sym all)

-- of no events there are none
pub kept_start : (keep : Bool) → kept_if keep [] ≡ []
kept_start true = refl
kept_start false = refl

-- of two lists of events those of one after those of the other
pub kept-append : (keep : Bool) (es more : List (OwnEvent Frac)) → kept_if keep (programs_in (es ++ more)) ≡ kept_if keep (programs_in es) ++ kept_if keep (programs_in more)
kept-append true es more = programs-append es more
kept-append false es more = refl

-- one more program is kept, if an event is a solve
pub kept_more : (before kept : List (Lp Frac)) (es : List (OwnEvent Frac)) (e : OwnEvent Frac) (one : Option (Lp Frac)) → kept ≡ before ++ programs_in es → option_to_list one ≡ programs_in (e ∷ []) →
    kept ++ option_to_list one ≡ before ++ programs_in (es ++ e ∷ [])
kept_more before kept es e one so is =
    ap (λ ps. ps ++ option_to_list one) so ∙ append_assoc before (programs_in es) (option_to_list one)
    ∙ ap (λ ps. before ++ ps) (ap (λ ps. programs_in es ++ ps) is ∙ sym (programs-append es (e ∷ [])))

-- where it is one
pub kept_one : (before kept : List (Lp Frac)) (es : List (OwnEvent Frac)) (e : OwnEvent Frac) (lp : Lp Frac) (one : Option (Lp Frac)) → one ≡ Some lp → kept ≡ before ++ programs_in es → option_to_list one ≡ programs_in (e ∷ []) →
    kept ++ lp ∷ [] ≡ before ++ programs_in (es ++ e ∷ [])
kept_one before kept es e lp one there so is = ap (λ o. kept ++ option_to_list o) (sym there) ∙ kept_more before kept es e one so is

-- and where it is none
pub kept_none : (before kept : List (Lp Frac)) (es : List (OwnEvent Frac)) (e : OwnEvent Frac) (one : Option (Lp Frac)) → ((lp : Lp Frac) → one ≡ Some lp → ⊥) → kept ≡ before ++ programs_in es → option_to_list one ≡ programs_in (e ∷ []) →
    kept ≡ before ++ programs_in (es ++ e ∷ [])
kept_none before kept es e (Some lp) not so is = absurd (not lp refl)
kept_none before kept es e None not so is = sym (append-nil kept) ∙ kept_more before kept es e None so is

-- they are those that the solves show
shows : (es : List (OwnEvent Frac)) → map (lp_numbers frac_value) (programs_in es) ≡ map (λ (solved : Solved). solved.lp) (solves_in (events_in frac_value es))
shows [] = refl
shows (own.Display line items ∷ es) = shows es
shows (own.Abort line items ∷ es) = shows es
shows (own.Fault stop ∷ es) = shows es
shows (own.Solve line model equations lp answer solver settings level ∷ es) = ap (λ ps. lp_numbers frac_value lp ∷ ps) (shows es)

-- no more than nothing
from_none : (n : ℕ) → 0 + n ≡ n
from_none n = omega arith

-- the first of some numbers, and the others, where they go up from one
first_of : (n m x : ℕ) (xs : List ℕ) → x ∷ xs ≡ range_with_len n m → (x ≡ n) × ((k : ℕ) × (xs ≡ range_with_len (n + 1) k))
first_of n zero x xs e = let z : ⊥ = cc in absurd z
first_of n (suc m) x xs e = (cc, (m, cc))

module _ (rules : List SolverRule) (answers : List (Answer Frac)) where
  abbrev Occurs : OwnEvent Frac → Type 0
  Occurs = IsValidEvent frac_value frac_limit rules answers

  -- the answer at the place of each is one of it
  occur : (es : List (OwnEvent Frac)) (n m : ℕ) → All Occurs es → places_in (events_in frac_value es) ≡ range_with_len n m → (k : ℕ) → IfSome (slice_get (programs_in es) k) (IsAnsweredAt rules answers (n + k))
  occur [] n m are is k = tt
  occur (own.Display line items ∷ es) n m are is k = occur es n m (All-tail Occurs (own.Display line items) es are) is k
  occur (own.Abort line items ∷ es) n m are is k = occur es n m (All-tail Occurs (own.Abort line items) es are) is k
  occur (own.Fault stop ∷ es) n m are is k = occur es n m (All-tail Occurs (own.Fault stop) es are) is k
  occur (own.Solve line model equations lp answer solver settings level ∷ es) n m are is zero =
      let first = first_of n m answer (places_in (events_in frac_value es)) is in
      let here : answer ≡ n + 0 = omega (arith, first.0) in
      (settings, subst (λ place. IsValidSolve frac_value frac_limit rules answers lp place settings) here (All-head Occurs (own.Solve line model equations lp answer solver settings level) es are))
  occur (own.Solve line model equations lp answer solver settings level ∷ es) n m are is (suc k) =
      let first = first_of n m answer (places_in (events_in frac_value es)) is in
      let next : (n + 1) + k ≡ n + suc k = omega arith in
      subst (λ place. IfSome (slice_get (programs_in es) k) (IsAnsweredAt rules answers place)) next
      (occur es (n + 1) first.1.0 (All-tail Occurs (own.Solve line model equations lp answer solver settings level) es are) first.1.1 k)

  -- Where the shown events are valid, and the solves take the answers in order, the programs are
  -- kept.
  pub keeps_programs : (course : Course) (es : List (OwnEvent Frac)) → IsNumbered course → course.events ≡ events_in frac_value es → course.taken ≡ length answers →
      All Occurs es → KeepsPrograms rules answers (programs_in es) course.events
  keeps_programs course es numbered same taken are =
      let in_order : places_in (events_in frac_value es) ≡ range_with_len 0 (length answers) = ap places_in (sym same) ∙ numbered ∙ ap (range_with_len 0) taken in
      subst (KeepsPrograms rules answers (programs_in es)) (sym same) (record { shown = shows es; in_order = in_order; answered = λ place. subst (λ n. IfSome (slice_get (programs_in es) place) (IsAnsweredAt rules answers n)) (from_none place) (occur es 0 (length answers) are in_order place) })
