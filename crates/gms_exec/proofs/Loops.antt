-- A loop of statements over elements: its invariants before an element and before a statement, and
-- each step.
use Rattle.lp_form.proofs.LoopSteps.{drop_item}
use Rattle.std.proofs.Common.{◌≡◌, ℕ, ◌+◌, ◌<◌, ◌≤◌, List, [], ◌∷◌, length, map, take, drop, get_or, refl, sym, ap, subst, ◌∙◌, Result, Ok, Err, append-nil}
use Rattle.std.proofs.lemmas.List.{at_drop_more, drop_all, get_or_default, length-map}
use Rattle.gq_number.specs.Number.{Number}
use Rattle.gms_ast.specs.declared.program.Program.{Program}
use Rattle.gms_ast.specs.declared.program.Stmt.{Stmt}
use Rattle.gms_eval.proofs.Inner.{inner-start, inner-kept}
use Rattle.gms_eval.specs.Bindings.{Pairs, controlled}
use Rattle.gms_eval.specs.declared.stop.ExecStopOrMemory.{ExecStopOrMemory}
use Rattle.gms_eval.specs.declared.stop.ExecStopOrMemory.TheVariants.{Memory, Fault as Stop}
use Rattle.lp_core.specs.declared.answer.Answer.{Answer}
use Rattle.lp_core.specs.declared.answer.Pivot.{Pivot}
use Rattle.lp_slot.specs.declared.solver.SolverRule.{SolverRule}
use Rattle.gms_exec.specs.Executing.{CanExecute, Leaves}
use Rattle.gms_exec.specs.Run.{Course, OfStatement, in_sequence, for_each, of_statement}
use Rattle.gms_exec.specs.Stepping.{RunView, course_from_view, Runs, UnlessMemory}
use Rattle.gms_exec.proofs.Arms.{unless-any}
use Rattle.gms_exec.proofs.Joining.{Reaches, LeavesHalted, reaches-more, reaches-stop, reaches-end, statements-halted, each-halted}
use Rattle.gms_exec.proofs.Stepping.{left-start, left-both}

module _ {F : Type 0} (value : F → Number) (limit : ℕ) (program : Program F) where
  -- what a statement does to a run, by the names of the solvers
  abbrev pub step_of : List (List ℕ) → Stmt F → OfStatement
  step_of names s = of_statement value limit (record { program = program; solvers = names }) s

module _ {S F : Type 0} (value : F → Number) (limit : ℕ) (name : S → List ℕ) (rule : S → SolverRule) (paths : S → List (List Pivot)) (program : Program F) where
  -- what holds after a call in addition to its run
  abbrev pub LeftBy : List S → List S → RunView F → RunView F → Type 0
  LeftBy old_solvers new_solvers old new = Leaves value limit name rule paths program.statements.items old_solvers new_solvers old new

  pub left-many : (old_solvers new_solvers : List S) (old new : RunView F) → LeftBy old_solvers new_solvers old new → length new_solvers ≡ length old_solvers
  left-many old_solvers new_solvers old new left = sym (length-map new_solvers name) ∙ ap length left.answered.names ∙ length-map old_solvers name

  -- after a call that changed nothing all is as before
  pub leaves-nothing : {A : Type 0} (result : Result A (ExecStopOrMemory F)) (solvers : List S) (seen : RunView F) → CanExecute (length solvers) program.statements.items seen.state → UnlessMemory result (LeftBy solvers solvers seen seen)
  leaves-nothing result solvers seen kept =
      unless-any result (LeftBy solvers solvers seen seen) (left-start value limit name rule paths program.statements.items solvers seen kept)

  module _ (does : Course → Course) (sets : List ℕ) (b : Pairs) (body : List (Stmt F)) (elements : List (List ℕ)) (solvers : List S) (old : RunView F) where
    -- what a run does with the elements from a place on
    abbrev pub from_element : ℕ → Course → Course
    from_element i = for_each sets (map (step_of value limit program (map name solvers)) body) (drop i elements) b

    -- what it does with some statements under an element, followed by the elements after it
    abbrev pub from_statement : ℕ → List ℕ → List (Stmt F) → Course → Course
    from_statement i element left course = from_element (i + 1) (in_sequence (map (step_of value limit program (map name solvers)) left) (controlled b sets element) course)

    -- The loop is before element `i`.
    pub record Between (i : ℕ) (inner : Pairs) (new_solvers : List S) (new : RunView F) : Type 0 where
      pub reached : Reaches value does (from_element i) old new
      pub left : LeftBy solvers new_solvers old new
      pub outer : take (length b) inner ≡ b

    -- The loop is at an element, before statement `k`.
    pub record Within (i : ℕ) (element : List ℕ) (k : ℕ) (inner : Pairs) (new_solvers : List S) (new : RunView F) : Type 0 where
      pub reached : Reaches value does (from_statement i element (drop k body)) old new
      pub left : LeftBy solvers new_solvers old new
      pub bound : inner ≡ controlled b sets element

    -- it begins before the first element
    pub between-start : (inner : Pairs) → inner ≡ b → ((left : List (Answer Number)) → does (course_from_view value old left) ≡ for_each sets (map (step_of value limit program (map name solvers)) body) elements b (course_from_view value old left)) → CanExecute (length solvers) program.statements.items old.state → Between 0 inner solvers old
    between-start inner is same kept =
        record {
          reached = record { shown = []; events = sym (append-nil old.events); fresh = []; answers = sym (append-nil old.answers); comes = same };
          left = left-start value limit name rule paths program.statements.items solvers old kept;
          outer = inner-start b inner is;
        }

    -- it reaches the first statement under an element
    pub within-start : (i : ℕ) (x : List ℕ) (inner next own : Pairs) (new_solvers : List S) (new : RunView F) → Between i inner new_solvers new → i < length elements → x ≡ get_or elements i x → own ≡ controlled b sets x → own ≡ next → Within i (get_or elements i []) 0 next new_solvers new
    within-start i x inner next own new_solvers new between in_it is e same =
        record {
          reached = subst (λ (left : List (List ℕ)). Reaches value does (for_each sets (map (step_of value limit program (map name solvers)) body) left b) old new) (at_drop_more (λ left. left) elements i [] in_it) between.reached;
          left = between.left;
          bound = sym same ∙ e ∙ ap (controlled b sets) (is ∙ get_or_default elements i x [] in_it);
        }

    -- a statement is next
    next-reached : (i : ℕ) (element : List ℕ) (k : ℕ) (s : Stmt F) (inner : Pairs) (mid_solvers : List S) (mid : RunView F) → Within i element k inner mid_solvers mid → k < length body → s ≡ get_or body k s → Reaches value does (from_statement i element (s ∷ drop (k + 1) body)) old mid
    next-reached i element k s inner mid_solvers mid within in_it is =
        subst (λ (left : List (Stmt F)). Reaches value does (from_statement i element left) old mid) (drop_item body k s in_it is) within.reached

    -- a call for it did what it does in this run
    next-runs : {A : Type 0} (result : Result A (ExecStopOrMemory F)) (i : ℕ) (element : List ℕ) (k : ℕ) (s : Stmt F) (inner own : Pairs) (mid_solvers : List S) (mid new : RunView F) → Within i element k inner mid_solvers mid → own ≡ inner → Runs value result (step_of value limit program (map name mid_solvers) s own) mid new → Runs value result (step_of value limit program (map name solvers) s (controlled b sets element)) mid new
    next-runs result i element k s inner own mid_solvers mid new within same runs =
        subst (λ binding. Runs value result (step_of value limit program (map name solvers) s binding) mid new) (same ∙ within.bound)
        (subst (λ names. Runs value result (step_of value limit program names s own) mid new) within.left.answered.names runs)

    -- it reaches the place after the statement
    pub within-more : {A : Type 0} (x : A) (i : ℕ) (element : List ℕ) (k : ℕ) (s : Stmt F) (inner own : Pairs) (mid_solvers new_solvers : List S) (mid new : RunView F) → Within i element k inner mid_solvers mid → k < length body → s ≡ get_or body k s → own ≡ inner → Runs value {A = A} (Ok x) (step_of value limit program (map name mid_solvers) s own) mid new → LeftBy mid_solvers new_solvers mid new → Within i element (k + 1) inner new_solvers new
    within-more {A} x i element k s inner own mid_solvers new_solvers mid new within in_it is same runs left =
        let does_so = next-runs {A = A} (Ok x) i element k s inner own mid_solvers mid new within same runs in
        record {
          reached = reaches-more value does (from_statement i element (s ∷ drop (k + 1) body)) (step_of value limit program (map name solvers) s (controlled b sets element)) (from_statement i element (drop (k + 1) body)) old mid new (next-reached i element k s inner mid_solvers mid within in_it is) (λ seen left. refl) x does_so;
          left = left-both value limit name rule paths program.statements.items solvers mid_solvers new_solvers old mid new does_so.fresh does_so.answers (left-many solvers mid_solvers old mid within.left) within.left left;
          bound = within.bound;
        }

    -- a run that is halted stays where it is
    leaves : (i : ℕ) (element : List ℕ) (left : List (Stmt F)) → LeavesHalted (from_statement i element left)
    leaves i element left course halt e =
        ap (from_element (i + 1)) (statements-halted (map (step_of value limit program (map name solvers)) left) (controlled b sets element) course halt e)
        ∙ each-halted sets (map (step_of value limit program (map name solvers)) body) (drop (i + 1) elements) b course halt e

    -- a statement that failed ends the loop
    pub within-failed : {A B : Type 0} (failed : ExecStopOrMemory F) (i : ℕ) (element : List ℕ) (k : ℕ) (s : Stmt F) (inner own : Pairs) (mid_solvers : List S) (mid new : RunView F) → Within i element k inner mid_solvers mid → k < length body → s ≡ get_or body k s → own ≡ inner → Runs value {A = A} (Err failed) (step_of value limit program (map name mid_solvers) s own) mid new → Runs value {A = B} (Err failed) does old new
    within-failed {A} failed i element k s inner own mid_solvers mid new within in_it is same runs =
        reaches-stop value does (from_statement i element (s ∷ drop (k + 1) body)) (step_of value limit program (map name solvers) s (controlled b sets element)) (from_statement i element (drop (k + 1) body)) old mid new (next-reached i element k s inner mid_solvers mid within in_it is) (λ seen left. refl) failed (leaves i element (drop (k + 1) body))
        (next-runs {A = A} (Err failed) i element k s inner own mid_solvers mid new within same runs)

    -- and what the calls before it, and it, give holds
    pub within-left : {A : Type 0} (B : Type 0) (failed : ExecStopOrMemory F) (i : ℕ) (element : List ℕ) (k : ℕ) (inner : Pairs) (mid_solvers new_solvers : List S) (mid new : RunView F) (does_so : Course → Course) → Within i element k inner mid_solvers mid → Runs value {A = A} (Err failed) does_so mid new → UnlessMemory {A = A} (Err failed) (LeftBy mid_solvers new_solvers mid new) → UnlessMemory {A = B} (Err failed) (LeftBy solvers new_solvers old new)
    within-left B Memory i element k inner mid_solvers new_solvers mid new does_so within runs left = tt
    within-left B (Stop stop) i element k inner mid_solvers new_solvers mid new does_so within runs left =
        left-both value limit name rule paths program.statements.items solvers mid_solvers new_solvers old mid new runs.fresh runs.answers (left-many solvers mid_solvers old mid within.left) within.left left

    -- after the last statement it reaches the next element
    pub within-end : (i : ℕ) (element : List ℕ) (k : ℕ) (inner own : Pairs) (new_solvers : List S) (new : RunView F) → Within i element k inner new_solvers new → length body ≤ k → own ≡ inner → Between (i + 1) own new_solvers new
    within-end i element k inner own new_solvers new within all same =
        record {
          reached = subst (λ (left : List (Stmt F)). Reaches value does (from_statement i element left) old new) (drop_all k body all) within.reached;
          left = within.left;
          outer = inner-kept b own sets element (same ∙ within.bound);
        }

    -- after the last element nothing remains to be done
    pub between-end : {A : Type 0} (x : A) (i : ℕ) (inner : Pairs) (new_solvers : List S) (new : RunView F) → Between i inner new_solvers new → length elements ≤ i → Runs value {A = A} (Ok x) does old new
    between-end x i inner new_solvers new between all =
        reaches-end value x does (for_each sets (map (step_of value limit program (map name solvers)) body) [] b) old new
        (subst (λ (left : List (List ℕ)). Reaches value does (for_each sets (map (step_of value limit program (map name solvers)) body) left b) old new) (drop_all i elements all) between.reached)
        (λ left. refl)
