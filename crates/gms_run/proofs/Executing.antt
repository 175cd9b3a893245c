-- How far the statements of a program have run, one by one, and how much of its listing is written.
use Rattle.std.proofs.Common.{◌≡◌, ℕ, ◌+◌, ◌<◌, ◌≤◌, Bool, true, false, List, [], ◌∷◌, ◌++◌, length, map, take, get_or, refl, sym, ap, ◌∙◌, subst, append_assoc, append-nil, inl, inr, arith, length-append}
use Rattle.std.proofs.lemmas.List.{take-map, take_more, map_push, length-map}
use Rattle.gq_frac.specs.declared.frac.Frac.{Frac}
use Rattle.gq_frac.specs.Frac.{frac_value, frac_limit}
use Rattle.gms_ast.specs.declared.program.Program.{Program}
use Rattle.gms_ast.specs.declared.program.Stmt.{Stmt}
use Rattle.gms_store.specs.State.{State}
use Rattle.gms_host.specs.Meaning.{Meaning, Outside}
use Rattle.gms_host.specs.Rules.{CountsWriting}
use Rattle.gms_host.specs.Spooling.{Passes, WritesPrefix}
use Rattle.gms_host.proofs.Counting.{all_done}
use Rattle.gms_host.proofs.WrittenPrefixes.{prefix_longer, output-both, passes_none, passes_on}
use Rattle.lp_core.specs.declared.answer.Answer.{Answer}
use Rattle.lp_slot.specs.declared.solver.SolverRule.{SolverRule}
use Rattle.lp_core.specs.declared.program.Lp.{Lp}
use Rattle.gms_exec.specs.Run.{Course, in_sequence, of_statement, while_it_runs}
use Rattle.gms_exec.specs.Executing.{CanExecute}
use Rattle.gms_list.specs.ListingText.{echo_text}
use Rattle.gms_run.specs.declared.status.Status.{Status}
use Rattle.gms_run.specs.declared.status.Status.TheVariants.{Done, Execution}
use Rattle.gms_run.specs.Solving.{Solvers, Solving}
use Rattle.gms_run.specs.ProgramsToRun.{IsCutOff, IsRunSolved, ProgramToRun, body_of, first_of, shown_by}
use Rattle.gms_run.specs.declared.execution.Run.{Run}
use Rattle.gms_run.specs.InnerRuns.{ListsStatement, between, pending}
use Rattle.gms_run.specs.InnerSteps.{Between, BreaksAfter, Ends, EndsAfter, IsListed, work}
use Rattle.gms_run.proofs.Listed.{listed_none, listed_more, one_more}
use Rattle.gms_run.proofs.Rest.{Done_so, EndsWith, begin, comes_to_rest, ends_done, ends_stopped, shown_by_first, solving_with, statements, statement_of, taken_by_first}

-- a text that was appended to another also lists the same from an empty text
pub alone : (keep continues : Bool) (does : Course → Course) (program : Program Frac) (rules : List SolverRule) (old new : Between) (before after : List ℕ) → IsListed keep continues does program rules old new before after →
    (text : List ℕ) × (after ≡ before ++ text) × IsListed keep continues does program rules old new [] text
alone keep continues does program rules old new before after p =
    (_, p.text, record { shown = p.shown; fault = p.fault; end = p.end; fresh = p.fresh; answers = p.answers; programs = p.programs; valid = p.valid; extended = p.extended; comes = p.comes; text = refl })

-- a listing that starts from an empty text may be appended to another
onto : (keep continues : Bool) (does : Course → Course) (program : Program Frac) (rules : List SolverRule) (old new : Between) (before text : List ℕ) → IsListed keep continues does program rules old new [] text → IsListed keep continues does program rules old new before (before ++ text)
onto keep continues does program rules old new before text p =
    record { shown = p.shown; fault = p.fault; end = p.end; fresh = p.fresh; answers = p.answers; programs = p.programs; valid = p.valid; extended = p.extended; comes = p.comes; text = ap (λ t. before ++ t) p.text }

-- the same for what does the same
pub same_listed : (keep continues : Bool) (f h : Course → Course) (program : Program Frac) (rules : List SolverRule) (old new : Between) (before after : List ℕ) → ((c : Course) → h c ≡ f c) → IsListed keep continues f program rules old new before after → IsListed keep continues h program rules old new before after
same_listed keep continues f h program rules old new before after same p =
    record { shown = p.shown; fault = p.fault; end = p.end; fresh = p.fresh; answers = p.answers; programs = p.programs; valid = p.valid; extended = p.extended; comes = λ events more. same _ ∙ p.comes events more; text = p.text }

module _ (to_run : ProgramToRun) (before : Solvers) (keep : Bool) where
  -- nothing was executed
  pub done_none : Done_so to_run before keep true 0 (begin to_run before keep) []
  done_none = listed_none keep to_run.program before.rules (begin to_run before keep) []

  -- One statement more was executed.
  pub done_more : (i : ℕ) (s : Stmt Frac) (continues : Bool) (now next : Between) (text more : List ℕ) → i < length to_run.statements → s ≡ get_or to_run.statements i s →
      Done_so to_run before keep true i now text → IsListed keep continues (statement_of to_run before keep s []) to_run.program before.rules now next [] more → Done_so to_run before keep continues (i + 1) next (text ++ more)
  done_more i s continues now next text more l is p q =
      let ss = statements to_run before keep in
      let f = statement_of to_run before keep in
      let beginning : take (i + 1) ss ≡ take i ss ++ f s ∷ [] =
      take-map f (i + 1) to_run.statements ∙ ap (map f) (take_more to_run.statements i s l ∙ ap (λ x. take i to_run.statements ++ x ∷ []) (sym is)) ∙ map_push f (take i to_run.statements) s ∙ ap (λ xs. xs ++ f s ∷ []) (sym (take-map f i to_run.statements)) in
      same_listed keep continues (λ c. while_it_runs (f s []) (in_sequence (take i ss) [] c)) (in_sequence (take (i + 1) ss) []) to_run.program before.rules (begin to_run before keep) next [] (text ++ more)
      (λ c. ap (λ xs. in_sequence xs [] c) beginning ∙ one_more (take i ss) (f s) [] c)
      (listed_more keep to_run.program before.rules continues (in_sequence (take i ss) []) (f s []) (begin to_run before keep) now next [] text (text ++ more) p (onto keep continues (f s []) to_run.program before.rules now next text more q))

  -- What a statement did for solvers of the same names and rules.
  listed_for : (names_now : List (List ℕ)) (rules_now : List SolverRule) (continues : Bool) (s : Stmt Frac) (now next : Between) (x y : List ℕ) → names_now ≡ before.names → rules_now ≡ before.rules →
      IsListed keep continues (of_statement frac_value frac_limit (record { program = to_run.program; solvers = names_now }) s []) to_run.program rules_now now next x y → IsListed keep continues (statement_of to_run before keep s []) to_run.program before.rules now next x y
  listed_for names_now rules_now continues s now next x y same_names same_rules p =
      subst (λ rs. IsListed keep continues (statement_of to_run before keep s []) to_run.program rs now next x y) same_rules
      (subst (λ ns. IsListed keep continues (of_statement frac_value frac_limit (record { program = to_run.program; solvers = ns }) s []) to_run.program rules_now now next x y) same_names p)

-- at most one spool is pending, where the rest is empty
pub bound_after : (spool rest : List ℕ) → length spool ≤ 4096 → rest ≡ [] → length (spool ++ rest) ≤ 4096
bound_after spool rest few none = subst (λ t. length t ≤ 4096) (sym (ap (λ t. spool ++ t) none ∙ append-nil spool)) few

-- The first `i` statements were executed. Their listing follows the text `expected`, and all of it
-- is written except for `left`.
pub record HasCome (to_run : ProgramToRun) (before : Solvers) (keep : Bool) (old now : Outside) (expected : List ℕ) (i : ℕ) (at : Between) (left : List ℕ) : Type 0 where
  pub text : List ℕ
  pub done : Done_so to_run before keep true i at text
  pub passes : Passes old now (expected ++ text) left

module _ (to_run : ProgramToRun) (before : Solvers) (keep : Bool) (old : Outside) (expected : List ℕ) where
  abbrev pub Come : Outside → ℕ → Between → List ℕ → Type 0
  Come now i at left = HasCome to_run before keep old now expected i at left

  -- before the first statement
  pub come_start : (answers : List (Answer Frac)) (programs : List (Lp Frac)) → answers ≡ [] → programs ≡ [] → Come old 0 (record { state = to_run.state; answers = answers; programs = programs; solvers = before }) expected
  come_start answers programs none unsolved =
      subst (λ (given : List (Answer Frac)). Come old 0 (record { state = to_run.state; answers = given; programs = programs; solvers = before }) expected) (sym none)
      (subst (λ (kept : List (Lp Frac)). Come old 0 (record { state = to_run.state; answers = []; programs = kept; solvers = before }) expected) (sym unsolved) (record {
        text = [];
        done = done_none to_run before keep;
        passes = subst (λ d. Passes old old d expected) (sym (append-nil expected)) (passes_none old expected);
      }))

  -- One more statement was executed, and its listing follows what is pending.
  pub record Executes (mid : Outside) (continues : Bool) (i : ℕ) (next : Between) (left : List ℕ) : Type 0 where
    pub text : List ℕ
    pub done : Done_so to_run before keep continues (i + 1) next text
    pub passes : Passes old mid (expected ++ text) left
    pub pending : length (expected ++ shown_by (first_of i to_run) (solving_with to_run before keep next)) ≤ length passes.bytes + 4096

  -- what was shown before is written, except for what is pending
  pends : (text bytes left shown : List ℕ) → expected ++ text ≡ bytes ++ left → length left ≤ 4096 → shown ≡ text → length (expected ++ shown) ≤ length bytes + 4096
  pends text bytes left shown split few same =
      let e : length (expected ++ shown) ≡ length (bytes ++ left) = ap (λ (t : List ℕ). length (expected ++ t)) same ∙ ap length split in
      omega (arith, e, length-append bytes left, few)

  pub executes_more : (mid : Outside) (continues : Bool) (i : ℕ) (s : Stmt Frac) (now next : Between) (spool x y : List ℕ) → Come mid i now (spool ++ x) → length (spool ++ x) ≤ 4096 → i < length to_run.statements → s ≡ get_or to_run.statements i s →
      IsListed keep continues (of_statement frac_value frac_limit (record { program = to_run.program; solvers = now.solvers.names }) s []) to_run.program now.solvers.rules now next x y → Executes mid continues i next (spool ++ y)
  executes_more mid continues i s now next spool x y h few l is q =
      let p = listed_for to_run before keep now.solvers.names now.solvers.rules continues s now next x y h.done.extended.names h.done.extended.rules q in
      let own = alone keep continues (statement_of to_run before keep s []) to_run.program before.rules now next x y p in
      let more = own.0 in
      record {
        text = h.text ++ more;
        done = done_more to_run before keep i s continues now next h.text more l is h.done own.2;
        passes = record {
          bytes = h.passes.bytes;
          written = h.passes.written;
          split =
              sym (append_assoc expected h.text more)
              ∙ ap (λ t. t ++ more) h.passes.split
              ∙ append_assoc h.passes.bytes (spool ++ x) more
              ∙ ap (λ t. h.passes.bytes ++ t) (append_assoc spool x more ∙ ap (λ t. spool ++ t) (sym own.1));
        };
        pending = pends h.text h.passes.bytes (spool ++ x) _ h.passes.split few (shown_by_first to_run before keep i now next p.fresh h.text p.answers h.done);
      }

  -- the same of the statement at a place of a list
  pub executes_next : (mid : Outside) (continues : Bool) (i : ℕ) (s : Stmt Frac) (now next : Between) (spool x y : List ℕ) (xs : List (Stmt Frac)) → Come mid i now (spool ++ x) → length (spool ++ x) ≤ 4096 → xs ≡ to_run.statements → i < length xs → s ≡ get_or xs i s →
      IsListed keep continues (of_statement frac_value frac_limit (record { program = to_run.program; solvers = now.solvers.names }) s []) to_run.program now.solvers.rules now next x y → Executes mid continues i next (spool ++ y)
  executes_next mid continues i s now next spool x y xs h few same l is p =
      executes_more mid continues i s now next spool x y h few (subst (λ ys. i < length ys) same l) (is ∙ ap (λ ys. get_or ys i s) same) p

  -- the same of a run
  pub executes_run : (mid : Outside) (continues : Bool) (i : ℕ) (s : Stmt Frac) (these those : Solvers) (now next : Run) (xs : List (Stmt Frac)) → Come mid i (between these now) (pending now) → length (pending now) ≤ 4096 → xs ≡ to_run.statements → i < length xs → s ≡ get_or xs i s →
      ListsStatement keep continues to_run.program s these now those next → next.outlet.spool ≡ now.outlet.spool → Executes mid continues i (between those next) (pending next)
  executes_run mid continues i s these those now next xs h few same l is p kept =
      subst (λ (spool : List ℕ). Executes mid continues i (between those next) (spool ++ next.outlet.listing)) (sym kept)
      (executes_next mid continues i s (between these now) (between those next) now.outlet.spool now.outlet.listing next.outlet.listing xs h few same l is p)

  -- What is pending was passed on, and the run reaches the next statement.
  pub come_more : (mid new : Outside) (i : ℕ) (next : Between) (left spool rest : List ℕ) → Executes mid true i next left → Passes mid new left spool → rest ≡ [] → Come new (i + 1) next (spool ++ rest)
  come_more mid new i next left spool rest h q none =
      record { text = h.text; done = h.done; passes = subst (Passes old new (expected ++ h.text)) (sym (ap (λ t. spool ++ t) none ∙ append-nil spool)) (passes_on old mid new (expected ++ h.text) left spool h.passes q) }

  -- ---- the end

  ended : (new : Outside) (status : Status) (at : Between) (text left : List ℕ) → EndsWith to_run before keep status at text → Passes old new (expected ++ text) left → length left ≤ 4096 → EndsAfter keep status to_run (solving_with to_run before keep at) at.state at.programs old new expected left
  ended new status at text left e passes within_bound = record { ends = e.ends; passes = subst (λ t. Passes old new (expected ++ t) left) (sym e.shown) passes; within_bound = within_bound }

  -- after the last statement
  pub came_done : (new : Outside) (i : ℕ) (at : Between) (left : List ℕ) (xs : List (Stmt Frac)) → Come new i at left → length left ≤ 4096 → xs ≡ to_run.statements → length xs ≤ i → EndsAfter keep Done to_run (solving_with to_run before keep at) at.state at.programs old new expected left
  came_done new i at left xs h within_bound same all = ended new Done at h.text left (ends_done to_run before keep i at h.text (subst (λ ys. length ys ≤ i) same all) h.done) h.passes within_bound

  -- after a statement that a fault stopped
  pub came_stopped : (mid new : Outside) (i : ℕ) (at : Between) (left spool rest : List ℕ) → Executes mid false i at left → Passes mid new left spool → length spool ≤ 4096 → rest ≡ [] → EndsAfter keep Execution to_run (solving_with to_run before keep at) at.state at.programs old new expected (spool ++ rest)
  came_stopped mid new i at left spool rest h q within_bound none =
      ended new Execution at h.text (spool ++ rest) (ends_stopped to_run before keep (i + 1) at h.text h.done) (subst (Passes old new (expected ++ h.text)) (sym (ap (λ t. spool ++ t) none ∙ append-nil spool)) (passes_on old mid new (expected ++ h.text) left spool h.passes q)) (bound_after spool rest within_bound none)

  -- a bound on what is pending holds with more bytes
  pends_more : (n : ℕ) (xs ys : List ℕ) → n ≤ length xs + 4096 → n ≤ length (xs ++ ys) + 4096
  pends_more n xs ys h = omega (arith, h, length-append xs ys)

  -- What is pending was not written: the listing is cut off.
  pub broke : (mid new : Outside) (continues : Bool) (i : ℕ) (at : Between) (left : List ℕ) → Executes mid continues i at left → WritesPrefix mid new left → BreaksAfter to_run (solving_with to_run before keep at) old new expected
  broke mid new continues i at left h f =
      let r = comes_to_rest to_run before keep (i + 1) continues at h.text h.done in
      record {
        solved = r.solved;
        beginning = (
          f.0 ++ r.later,
          record {
            bytes = h.passes.bytes ++ f.1.bytes;
            written = output-both old mid new h.passes.bytes f.1.bytes h.passes.written f.1.written;
            split =
                ap (λ t. expected ++ t) r.shown
                ∙ sym (append_assoc expected h.text r.later)
                ∙ ap (λ t. t ++ r.later) (h.passes.split ∙ ap (λ t. h.passes.bytes ++ t) f.1.split ∙ sym (append_assoc h.passes.bytes f.1.bytes f.0))
                ∙ append_assoc (h.passes.bytes ++ f.1.bytes) f.0 r.later;
          },
        );
        last = i;
        taken = taken_by_first to_run before keep continues at h.text (i + 1) h.done;
        pending = pends_more _ h.passes.bytes f.1.bytes h.pending;
      }

-- The loop over the statements, before statement `i`: what is written so far, with valid settings
-- and definitions.
pub record AtStatement (to_run : ProgramToRun) (before : Solvers) (keep : Bool) (many : ℕ) (old now : Meaning) (expected : List ℕ) (i : ℕ) (at : Between) (left : List ℕ) : Type 0 where
  pub come : HasCome to_run before keep old.outside now.outside expected i at left
  pub within_bound : length left ≤ 4096
  pub can_execute : CanExecute many to_run.program.statements.items at.state
  pub counts : CountsWriting all_done old.counts now.counts

-- as many solvers as before, where they have the same names
pub same_many : {S : Type 0} (name : S → List ℕ) (xs ys : List S) → map name xs ≡ map name ys → length xs ≡ length ys
same_many name xs ys same = sym (length-map xs name) ∙ ap length same ∙ length-map ys name

-- ---- after the echo

-- The program ended, and its listing before the last line is written, except for what is pending.
pub record EndsProgram (keep : Bool) (status : Status) (to_run : ProgramToRun) (solving : Solving) (last : State) (programs : List (Lp Frac)) (old new : Outside) (pending : List ℕ) : Type 0 where
  pub ends : Ends keep status to_run solving last programs
  pub passes : Passes old new (body_of to_run solving) pending
  pub within_bound : length pending ≤ 4096

-- The listing of the program was cut off.
pub record BreaksProgram (to_run : ProgramToRun) (solving : Solving) (old new : Outside) : Type 0 where
  pub solved : IsRunSolved to_run solving
  pub beginning : WritesPrefix old new (body_of to_run solving)
  pub cut : IsCutOff to_run solving (length beginning.1.bytes)

module _ (to_run : ProgramToRun) (old mid : Outside) (spool rest : List ℕ) (first : Passes old mid (echo_text to_run.line to_run.file) spool) (none : rest ≡ []) where
  -- a program to run without an echo
  abbrev quiet_program : State → ProgramToRun
  quiet_program state = work to_run.program state to_run.statements

  -- is solved as the one that is
  echoed : (state : State) (solving : Solving) → state ≡ to_run.state → IsRunSolved (quiet_program state) solving → IsRunSolved to_run solving
  echoed state solving same s =
      let r = subst (λ st. IsRunSolved (quiet_program st) solving) same s in
      record { all_taken = r.all_taken; answered = r.answered; ended = r.ended; extended = r.extended }

  -- the text before the statements' is the echo
  values_first : (shown bytes lost : List ℕ) → (spool ++ rest) ++ shown ≡ bytes ++ lost → echo_text to_run.line to_run.file ++ shown ≡ (first.bytes ++ bytes) ++ lost
  values_first shown bytes lost split =
      ap (λ t. t ++ shown) first.split ∙ append_assoc first.bytes spool shown
      ∙ ap (λ t. first.bytes ++ (t ++ shown)) (sym (ap (λ t. spool ++ t) none ∙ append-nil spool)) ∙ ap (λ t. first.bytes ++ t) split ∙ sym (append_assoc first.bytes bytes lost)

  -- The statements ended, and their text follows the echo.
  pub ends_echoed : (keep : Bool) (status : Status) (solving : Solving) (state last : State) (programs : List (Lp Frac)) (new : Outside) (pending : List ℕ) → state ≡ to_run.state →
      EndsAfter keep status (quiet_program state) solving last programs mid new (spool ++ rest) pending → EndsProgram keep status to_run solving last programs old new pending
  ends_echoed keep status solving state last programs new pending same e =
      let r = subst (λ st. EndsAfter keep status (quiet_program st) solving last programs mid new (spool ++ rest) pending) same e in
      record {
        ends = record { solved = echoed state solving same e.ends.solved; halts = r.ends.halts; comes = r.ends.comes; kept = r.ends.kept };
        passes = record { bytes = first.bytes ++ r.passes.bytes; written = output-both old mid new first.bytes r.passes.bytes first.written r.passes.written; split = values_first _ r.passes.bytes pending r.passes.split };
        within_bound = e.within_bound;
      }

  -- what is pending of a longer text
  pends_echoed : (shown bytes : List ℕ) → length ((spool ++ rest) ++ shown) ≤ length bytes + 4096 → length (echo_text to_run.line to_run.file ++ shown) ≤ length (first.bytes ++ bytes) + 4096
  pends_echoed shown bytes h =
      let e : length (echo_text to_run.line to_run.file ++ shown) ≡ length ((first.bytes ++ []) ++ ((spool ++ rest) ++ shown)) = ap length (values_first shown [] ((spool ++ rest) ++ shown) refl) in
      omega (arith, e, h, length-append (first.bytes ++ []) ((spool ++ rest) ++ shown), length-append first.bytes bytes, length-append first.bytes [])

  -- The statements were cut off, after the echo.
  pub breaks_echoed : (solving : Solving) (state : State) (new : Outside) → state ≡ to_run.state → BreaksAfter (quiet_program state) solving mid new (spool ++ rest) → BreaksProgram to_run solving old new
  breaks_echoed solving state new same b =
      let r = subst (λ st. BreaksAfter (quiet_program st) solving mid new (spool ++ rest)) same b in
      record {
        solved = echoed state solving same b.solved;
        beginning = (r.beginning.0, record { bytes = first.bytes ++ r.beginning.1.bytes; written = output-both old mid new first.bytes r.beginning.1.bytes first.written r.beginning.1.written; split = values_first _ r.beginning.1.bytes r.beginning.0 r.beginning.1.split });
        cut = inr (record { before = r.last; taken = r.taken; held = pends_echoed _ r.beginning.1.bytes r.pending });
      }

-- The echo itself was not written whole, and nothing was executed.
pub breaks_first : (to_run : ProgramToRun) (before : Solvers) (answers : List (Answer Frac)) (old new : Outside) → answers ≡ [] → WritesPrefix old new (echo_text to_run.line to_run.file) →
    BreaksProgram to_run (record { before = before; after = before; answers = answers }) old new
breaks_first to_run before answers old new none f =
    let r = comes_to_rest to_run before true 0 true (begin to_run before true) [] (done_none to_run before true) in
    subst (λ (given : List (Answer Frac)). BreaksProgram to_run (record { before = before; after = before; answers = given }) old new) (sym none) (record {
      solved = r.solved;
      beginning = prefix_longer (shown_by to_run (solving_with to_run before true (begin to_run before true))) f;
      cut = inl (refl, refl);
    })
