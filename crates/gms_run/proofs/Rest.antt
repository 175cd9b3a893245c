-- What a program to run shows and keeps, with the answers that were given so far.
use Rattle.std.proofs.Common.{◌≡◌, ◌≤◌, ℕ, Bool, true, false, List, [], ◌∷◌, ◌++◌, length, map, take, drop, Option, Some, None, refl, sym, ap, ◌∙◌, subst, append_assoc, append-nil}
use Rattle.std.specs.Prelude.{option_map}
use Rattle.std.specs.List.{All}
use Rattle.std.proofs.lemmas.List.{drop-map, drop_all, map-append, take-map}
use Rattle.std.proofs.lemmas.Grind.{flat_map-append}
use Rattle.gq_frac.specs.declared.frac.Frac.{Frac}
use Rattle.gq_frac.specs.Frac.{frac_value, frac_limit}
use Rattle.gms_ast.specs.declared.program.Stmt.{Stmt}
use Rattle.gms_eval.specs.Faults.{Fault}
use Rattle.gms_event.specs.declared.event.Event.{Event as OwnEvent}
use Rattle.gms_event.specs.Events.{Event}
use Rattle.gms_event.specs.EventView.{events_in}
use Rattle.lp_core.specs.declared.answer.Answer.{Answer}
use Rattle.lp_core.specs.Numbers.{answer_numbers}
use Rattle.gms_exec.specs.Run.{Course, OfStatement, stopped, last_event, all_events, in_sequence, of_statement}
use Rattle.gms_exec.specs.ValidEvents.{IsValidEvent}
use Rattle.gms_exec.proofs.Quiet.{Quiet, IsNoSolve, AreQuiet, quiet_all, quiet_statement}
use Rattle.gms_list.specs.ListingText.{event_text, events_text}
use Rattle.gms_run.specs.declared.status.Status.{Status}
use Rattle.gms_run.specs.declared.status.Status.TheVariants.{Done, Execution}
use Rattle.gms_run.specs.Solving.{HavePathsExtended, Solvers, Solving}
use Rattle.gms_run.specs.ProgramsToRun.{IsRunSolved, ProgramToRun, course_of, first_of, shown_by}
use Rattle.gms_run.specs.InnerSteps.{Between, Ends, IsListed, KeepsPrograms, course_at, kept_if, programs_in}
use Rattle.gms_run.proofs.Kept.{keeps_programs}
use Rattle.gms_run.proofs.Listed.{halted_stays, in_two, texts-more}
use Rattle.gms_run.proofs.Numbered.{numbered_program}
use Rattle.gms_run.proofs.Paths.{extended_quiet}
use Rattle.gms_run.proofs.Settled.{AreSettled, settled_by_valid, settled_more}

module _ (to_run : ProgramToRun) (before : Solvers) (keep : Bool) where
  abbrev pub statement_of : Stmt Frac → OfStatement
  statement_of = of_statement frac_value frac_limit (record { program = to_run.program; solvers = before.names })

  abbrev pub statements : List OfStatement
  statements = map statement_of to_run.statements

  abbrev pub begin : Between
  begin = record { state = to_run.state; answers = []; programs = []; solvers = before }

  abbrev pub solving_with : Between → Solving
  solving_with at = record { before = before; after = at.solvers; answers = at.answers }

  abbrev pub texts : List (Answer Frac) → List Event → List ℕ
  texts answers es = events_text to_run.program.names to_run.program.labels frac_limit (map (answer_numbers frac_value) answers) es

  -- the first `i` statements were executed
  abbrev pub Done_so : Bool → ℕ → Between → List ℕ → Type 0
  Done_so continues i now text = IsListed keep continues (in_sequence (take i statements) []) to_run.program before.rules begin now [] text

  -- each of some statements of the program is quiet without answers
  are_quiet : (ss : List (Stmt Frac)) → AreQuiet (map statement_of ss)
  are_quiet [] = tt
  are_quiet (s ∷ ss) = (quiet_statement frac_value frac_limit (record { program = to_run.program; solvers = before.names }) s, are_quiet ss)

  -- What the program shows after a text, with these answers: all are taken, and each answers its
  -- solve.
  pub record Rests (at : Between) (text : List ℕ) : Type 0 where
    pub later : List ℕ
    pub shown : shown_by to_run (solving_with at) ≡ text ++ later
    pub solved : IsRunSolved to_run (solving_with at)

  module _ (now : Between) (shown : List (OwnEvent Frac)) (valid : All (IsValidEvent frac_value frac_limit before.rules now.answers) shown) where
    -- the events so far
    abbrev so_far : List Event
    so_far = events_in frac_value shown

    settled_with : (more : List Event) → All IsNoSolve more → AreSettled before.rules now.answers (so_far ++ more)
    settled_with more unsolved = settled_more before.rules now.answers so_far more (settled_by_valid before.rules now.answers shown valid) unsolved

    -- what is shown by a run that continues from here
    shown_after : (course : Course) (more : List Event) → course_of to_run (solving_with now) ≡ course → course.events ≡ so_far ++ more →
        shown_by to_run (solving_with now) ≡ texts now.answers so_far ++ texts now.answers (more ++ last_event course.halted)
    shown_after course more is events =
        ap (λ c. texts now.answers (all_events c)) is
        ∙ ap (λ es. texts now.answers (es ++ last_event course.halted)) events
        ∙ ap (texts now.answers) (append_assoc so_far more (last_event course.halted))
        ∙ flat_map-append (event_text to_run.program.names to_run.program.labels frac_limit (map (answer_numbers frac_value) now.answers)) so_far (more ++ last_event course.halted)

  -- a program whose run is this one
  solved_as : (now : Between) (course : Course) → course_of to_run (solving_with now) ≡ course → course.left ≡ [] → AreSettled before.rules now.answers course.events → HavePathsExtended before now.solvers now.answers course.events → IsRunSolved to_run (solving_with now)
  solved_as now course is left settled extended =
      let all = subst (AreSettled before.rules now.answers) (sym (ap (λ c. c.events) is)) settled in
      record {
        all_taken = ap (λ c. c.left) is ∙ left;
        answered = all.0;
        ended = all.1;
        extended = subst (HavePathsExtended before now.solvers now.answers) (sym (ap (λ c. c.events) is)) extended;
      }

  module _ (continues : Bool) (now : Between) (text : List ℕ) (i : ℕ) (p : Done_so continues i now text) where
    -- the run of these statements, with the answers so far and some more
    after_first : (more : List (Answer Frac)) → in_sequence (take i statements) [] (course_at begin [] (map (answer_numbers frac_value) (now.answers ++ more)) None) ≡ course_at now (events_in frac_value p.shown) (map (answer_numbers frac_value) more) p.fault
    after_first more =
        ap (λ left. in_sequence (take i statements) [] (course_at begin [] left None)) (map-append (answer_numbers frac_value) now.answers more ∙ ap (λ given. map (answer_numbers frac_value) given ++ map (answer_numbers frac_value) more) p.answers)
        ∙ p.comes [] (map (answer_numbers frac_value) more)

    -- the run of these statements alone
    after_these : in_sequence (take i statements) [] (course_at begin [] (map (answer_numbers frac_value) now.answers) None) ≡ course_at now (events_in frac_value p.shown) [] p.fault
    after_these = ap (λ given. in_sequence (take i statements) [] (course_at begin [] (map (answer_numbers frac_value) given) None)) (sym (append-nil now.answers)) ∙ after_first []

    -- the run of these statements alone takes all answers
    pub taken_by_first : (course_of (first_of i to_run) (solving_with now)).left ≡ []
    taken_by_first = ap (λ (ss : List OfStatement). (in_sequence ss [] (course_at begin [] (map (answer_numbers frac_value) now.answers) None)).left) (sym (take-map statement_of i to_run.statements)) ∙ ap (λ c. c.left) after_these

    -- and after them the others
    after_all : course_of to_run (solving_with now) ≡ in_sequence (drop i statements) [] (course_at now (events_in frac_value p.shown) [] p.fault)
    after_all = in_two statements i [] (course_at begin [] (map (answer_numbers frac_value) now.answers) None) ∙ ap (in_sequence (drop i statements) []) after_these

    settled_here : AreSettled before.rules now.answers (events_in frac_value p.shown)
    settled_here = settled_by_valid before.rules now.answers p.shown p.valid

    -- where the program shows no more than these events, the programs of its solves were kept, if
    -- requested
    kept_as : (course : Course) → course_of to_run (solving_with now) ≡ course → course.events ≡ events_in frac_value p.shown → course.taken ≡ length now.answers →
        keep ≡ true → KeepsPrograms before.rules now.answers now.programs (course_of to_run (solving_with now)).events
    kept_as course is same taken requested =
        subst (λ programs. KeepsPrograms before.rules now.answers programs (course_of to_run (solving_with now)).events) (sym (p.programs ∙ ap (λ k. kept_if k (programs_in p.shown)) requested))
        (keeps_programs before.rules now.answers (course_of to_run (solving_with now)) p.shown (numbered_program to_run (solving_with now)) (ap (λ c. c.events) is ∙ same) (ap (λ c. c.taken) is ∙ taken) p.valid)

  -- What the first statements show stays where more answers are given.
  pub shown_by_first : (i : ℕ) (now next : Between) (fresh : List (Answer Frac)) (text : List ℕ) → next.answers ≡ now.answers ++ fresh → Done_so true i now text → shown_by (first_of i to_run) (solving_with next) ≡ text
  shown_by_first i now next fresh text same p =
      let es = events_in frac_value p.shown in
      let is : course_of (first_of i to_run) (solving_with next) ≡ course_at now es (map (answer_numbers frac_value) fresh) None =
      ap (λ (ss : List OfStatement). in_sequence ss [] (course_at begin [] (map (answer_numbers frac_value) next.answers) None)) (sym (take-map statement_of i to_run.statements))
      ∙ ap (λ given. in_sequence (take i statements) [] (course_at begin [] (map (answer_numbers frac_value) given) None)) same
      ∙ after_first true now text i p fresh ∙ ap (course_at now es (map (answer_numbers frac_value) fresh)) p.end in
      ap (λ c. texts next.answers (all_events c)) is
      ∙ ap (texts next.answers) (append-nil es)
      ∙ ap (λ given. texts given es) same
      ∙ texts-more before.rules to_run.program.names to_run.program.labels now.answers fresh p.shown p.valid
      ∙ sym (p.text ∙ ap (λ f. texts now.answers (es ++ last_event (option_map stopped f))) p.end ∙ ap (texts now.answers) (append-nil es))

  -- What a program that ended shows.
  pub record EndsWith (status : Status) (at : Between) (text : List ℕ) : Type 0 where
    pub shown : shown_by to_run (solving_with at) ≡ text
    pub ends : Ends keep status to_run (solving_with at) at.state at.programs

  -- Where a fault stopped the last statement that was executed, the program ends there.
  pub ends_stopped : (i : ℕ) (now : Between) (text : List ℕ) → Done_so false i now text → EndsWith Execution now text
  ends_stopped i now text p =
      let es = events_in frac_value p.shown in
      let fault = p.end.0 in
      let here = course_at now es [] (Some fault) in
      let is : course_of to_run (solving_with now) ≡ here =
      after_all false now text i p ∙ ap (λ f. in_sequence (drop i statements) [] (course_at now es [] f)) p.end.1 ∙ halted_stays (drop i statements) [] here (stopped fault) refl in
      record {
        shown = ap (λ c. texts now.answers (all_events c)) is ∙ sym (p.text ∙ ap (λ f. texts now.answers (es ++ last_event (option_map stopped f))) p.end.1);
        ends = record { solved = solved_as now here is refl (settled_here false now text i p) p.extended; halts = (fault, ap (λ c. c.halted) is); comes = ap (λ c. c.state) is; kept = kept_as false now text i p here is refl refl };
      }

  -- Where all statements were executed, the program is done.
  pub ends_done : (i : ℕ) (now : Between) (text : List ℕ) → length to_run.statements ≤ i → Done_so true i now text → EndsWith Done now text
  ends_done i now text all p =
      let es = events_in frac_value p.shown in
      let here = course_at now es [] None in
      let none : drop i statements ≡ [] = drop-map statement_of i to_run.statements ∙ ap (map statement_of) (drop_all i to_run.statements all) in
      let is : course_of to_run (solving_with now) ≡ here =
      after_all true now text i p ∙ ap (λ ss. in_sequence ss [] (course_at now es [] p.fault)) none ∙ ap (course_at now es []) p.end in
      record {
        shown = ap (λ c. texts now.answers (all_events c)) is ∙ sym (p.text ∙ ap (λ f. texts now.answers (es ++ last_event (option_map stopped f))) p.end);
        ends = record { solved = solved_as now here is refl (settled_here true now text i p) p.extended; halts = ap (λ c. c.halted) is; comes = ap (λ c. c.state) is; kept = kept_as true now text i p here is refl refl };
      }

  -- What the program shows after the text of its first statements, with the answers that these
  -- took: nothing where a fault stopped it, otherwise what the others show up to a solve.
  pub comes_to_rest : (i : ℕ) (continues : Bool) (now : Between) (text : List ℕ) → Done_so continues i now text → Rests now text
  comes_to_rest i continues now text p = by_fault p.fault refl
    where
      es : List Event
      es = events_in frac_value p.shown

      whole : course_of to_run (solving_with now) ≡ in_sequence (drop i statements) [] (course_at now es [] p.fault)
      whole = after_all continues now text i p

      by_fault : (f : Option Fault) → p.fault ≡ f → Rests now text
      by_fault (Some fault) e =
          let here = course_at now es [] (Some fault) in
          let is : course_of to_run (solving_with now) ≡ here =
          whole ∙ ap (λ f. in_sequence (drop i statements) [] (course_at now es [] f)) e ∙ halted_stays (drop i statements) [] here (stopped fault) refl in
          record {
            later = [];
            shown = ap (λ c. texts now.answers (all_events c)) is ∙ sym (p.text ∙ ap (λ f. texts now.answers (es ++ last_event (option_map stopped f))) e) ∙ sym (append-nil text);
            solved = solved_as now here is refl (settled_here continues now text i p) p.extended;
          }
      by_fault None e =
          let here = course_at now es [] None in
          let end = in_sequence (drop i statements) [] here in
          let is : course_of to_run (solving_with now) ≡ end = whole ∙ ap (λ f. in_sequence (drop i statements) [] (course_at now es [] f)) e in
          let quiet : Quiet here end = quiet_all (drop i statements) (subst AreQuiet (sym (drop-map statement_of i to_run.statements)) (are_quiet (drop i to_run.statements))) [] here refl in
          let so : text ≡ texts now.answers es = p.text ∙ ap (λ f. texts now.answers (es ++ last_event (option_map stopped f))) e ∙ ap (texts now.answers) (append-nil es) in
          record {
            later = texts now.answers (quiet.more ++ last_event end.halted);
            shown = shown_after now p.shown p.valid end quiet.more is quiet.events ∙ ap (λ t. t ++ texts now.answers (quiet.more ++ last_event end.halted)) (sym so);
            solved = solved_as now end is quiet.left (subst (AreSettled before.rules now.answers) (sym quiet.events) (settled_with now p.shown p.valid quiet.more quiet.unsolved))
                (subst (HavePathsExtended before now.solvers now.answers) (sym quiet.events) (extended_quiet before now.solvers now.answers es quiet.more quiet.unsolved p.extended));
          }
