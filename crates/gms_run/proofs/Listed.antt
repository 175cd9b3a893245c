-- Statements that are executed and listed in sequence.
use Rattle.std.proofs.Common.{◌≡◌, ℕ, Bool, true, List, [], ◌∷◌, ◌++◌, map, take, drop, Option, Some, None, refl, sym, ap, ◌∙◌, subst, append_assoc, append-nil, take-append-drop}
use Rattle.std.specs.Prelude.{option_map, option_to_list, slice_get, flat_map}
use Rattle.std.specs.List.{All}
use Rattle.std.proofs.lemmas.List.Elements.{All-nil, All-cons, All-head, All-tail, All-append}
use Rattle.std.proofs.lemmas.List.{map-append}
use Rattle.std.proofs.lemmas.List.Sums.{fold-append}
use Rattle.std.proofs.lemmas.Grind.{flat_map-append}
use Rattle.std.proofs.lemmas.Option.{slice_get-map}
use Rattle.gq_number.specs.Number.{Number}
use Rattle.gq_frac.specs.declared.frac.Frac.{Frac}
use Rattle.gq_frac.specs.Frac.{frac_value, frac_limit}
use Rattle.gms_ast.specs.declared.program.Program.{Program}
use Rattle.gms_event.specs.declared.event.Event.{Event as OwnEvent}
use Rattle.gms_event.specs.declared.event.Event.TheVariants as event
use Rattle.gms_event.specs.Events.{Event, Solved}
use Rattle.gms_event.specs.EventView.{events_in, event_in}
use Rattle.lp_core.specs.declared.answer.Answer.{Answer}
use Rattle.lp_slot.specs.declared.solver.SolverRule.{SolverRule}
use Rattle.lp_core.specs.Numbers.{answer_numbers, lp_numbers}
use Rattle.gms_exec.specs.Run.{Course, Halt, OfStatement, stopped, last_event, while_it_runs, in_sequence}
use Rattle.gms_exec.specs.ValidEvents.{IsValidEvent}
use Rattle.gms_exec.proofs.ValidCalls.{answered_by_valid}
use Rattle.gms_list.specs.ListingText.{event_text, events_text}
use Rattle.gms_list.specs.SolveText.{solve_text}
use Rattle.gms_run.specs.Solving.{HavePathsExtended}
use Rattle.gms_run.specs.InnerSteps.{Between, IsListed, course_at, kept_if, programs_in}
use Rattle.gms_run.proofs.Kept.{kept-append, kept_start}
use Rattle.gms_run.proofs.Paths.{extended_none, extended_more, occurs-more}

module _ (rules : List SolverRule) where
  abbrev Occurs : List (Answer Frac) → OwnEvent Frac → Type 0
  Occurs answers e = IsValidEvent frac_value frac_limit rules answers e

  -- an event that is valid with some answers is valid with more
  valid-more : (answers more : List (Answer Frac)) (e : OwnEvent Frac) → Occurs answers e → Occurs (answers ++ more) e
  valid-more answers more (event.Display line items) is = is
  valid-more answers more (event.Abort line items) is = is
  valid-more answers more (event.Fault stop) is = is
  valid-more answers more (event.Solve line model equations lp answer solver settings level) is =
      record {
        formed = is.formed;
        given = is.given;
        occurs = occurs-more answers more answer is.given is.occurs;
        rule = is.rule;
        chosen = is.chosen;
        is_answer = is.is_answer;
      }

  pub all_valid-more : (answers more : List (Answer Frac)) (es : List (OwnEvent Frac)) → All (Occurs answers) es → All (Occurs (answers ++ more)) es
  all_valid-more answers more [] is = All-nil (Occurs (answers ++ more))
  all_valid-more answers more (e ∷ es) is =
      All-cons (Occurs (answers ++ more)) e es (valid-more answers more e (All-head (Occurs answers) e es is)) (all_valid-more answers more es (All-tail (Occurs answers) e es is))

  module _ (names labels : List (List ℕ)) where
    abbrev texts : List (Answer Frac) → List Event → List ℕ
    texts answers es = events_text names labels frac_limit (map (answer_numbers frac_value) answers) es

    abbrev one_text : List (Answer Frac) → Event → List ℕ
    one_text answers e = event_text names labels frac_limit (map (answer_numbers frac_value) answers) e

    -- an event has the same text where more answers were given
    text-more : (answers more : List (Answer Frac)) (e : OwnEvent Frac) → Occurs answers e → one_text (answers ++ more) (event_in frac_value e) ≡ one_text answers (event_in frac_value e)
    text-more answers more (event.Display line items) is = refl
    text-more answers more (event.Abort line items) is = refl
    text-more answers more (event.Fault stop) is = refl
    text-more answers more (event.Solve line model equations lp answer solver settings level) is =
        let given = answer_numbers frac_value is.given in
        let old : slice_get (map (answer_numbers frac_value) answers) answer ≡ Some given = slice_get-map (answer_numbers frac_value) answers answer ∙ ap (option_map (answer_numbers frac_value)) is.occurs in
        let new : slice_get (map (answer_numbers frac_value) (answers ++ more)) answer ≡ Some given = slice_get-map (answer_numbers frac_value) (answers ++ more) answer ∙ ap (option_map (answer_numbers frac_value)) (occurs-more answers more answer is.given is.occurs) in
        let solved : Solved = record { line = line; model = model; equations = equations; lp = lp_numbers frac_value lp; answer = answer; solver = solver; settings = settings; objective_level = frac_value level } in
        ap (λ o. flat_map (solve_text names labels frac_limit solved) (option_to_list o)) (new ∙ sym old)

    pub texts-more : (answers more : List (Answer Frac)) (es : List (OwnEvent Frac)) → All (Occurs answers) es → texts (answers ++ more) (events_in frac_value es) ≡ texts answers (events_in frac_value es)
    texts-more answers more [] is = refl
    texts-more answers more (e ∷ es) is =
        ap (λ t. t ++ texts (answers ++ more) (events_in frac_value es)) (text-more answers more e (All-head (Occurs answers) e es is)) ∙ ap (λ t. one_text answers (event_in frac_value e) ++ t) (texts-more answers more es (All-tail (Occurs answers) e es is))

-- nothing was executed
pub listed_none : (keep : Bool) (program : Program Frac) (rules : List SolverRule) (now : Between) (text : List ℕ) → IsListed keep true (λ c. c) program rules now now text text
listed_none keep program rules now text =
    record {
      shown = [];
      fault = None;
      end = refl;
      fresh = [];
      answers = sym (append-nil now.answers);
      programs = sym (ap (λ kept. now.programs ++ kept) (kept_start keep) ∙ append-nil now.programs);
      valid = All-nil (IsValidEvent frac_value frac_limit rules now.answers);
      extended = extended_none now.solvers now.answers;
      comes = λ events more. ap (λ es. course_at now es more None) (sym (append-nil events));
      text = sym (append-nil text);
    }

-- A second piece was executed after a first.
pub listed_more : (keep : Bool) (program : Program Frac) (rules : List SolverRule) (continues : Bool) (first next : Course → Course) (a b c : Between) (x y z : List ℕ) →
    IsListed keep true first program rules a b x y → IsListed keep continues next program rules b c y z → IsListed keep continues (λ course. while_it_runs next (first course)) program rules a c x z
listed_more keep program rules continues first next a b c x y z p q =
    record {
      shown = p.shown ++ q.shown;
      fault = q.fault;
      end = q.end;
      fresh = p.fresh ++ q.fresh;
      answers = q.answers ∙ ap (λ given. given ++ q.fresh) p.answers ∙ append_assoc a.answers p.fresh q.fresh;
      programs =
          q.programs ∙ ap (λ kept. kept ++ kept_if keep (programs_in q.shown)) p.programs ∙ append_assoc a.programs (kept_if keep (programs_in p.shown)) (kept_if keep (programs_in q.shown))
          ∙ ap (λ kept. a.programs ++ kept) (sym (kept-append keep p.shown q.shown));
      valid = All-append (IsValidEvent frac_value frac_limit rules c.answers) p.shown q.shown (subst (λ given. All (IsValidEvent frac_value frac_limit rules given) p.shown) (sym q.answers) (all_valid-more rules b.answers q.fresh p.shown p.valid)) q.valid;
      extended = extended;
      comes = comes;
      text = q.text ∙ ap (λ t. t ++ last) before ∙ append_assoc x (texts_of c.answers p.shown) last ∙ ap (λ t. x ++ t) joined;
    }
  where
    numbers : List (Answer Frac) → List (Answer Number)
    numbers answers = map (answer_numbers frac_value) answers

    texts_of : List (Answer Frac) → List (OwnEvent Frac) → List ℕ
    texts_of answers es = events_text program.names program.labels frac_limit (numbers answers) (events_in frac_value es)

    stop : List Event
    stop = last_event (option_map stopped q.fault)

    last : List ℕ
    last = events_text program.names program.labels frac_limit (numbers c.answers) (events_in frac_value q.shown ++ stop)

    -- nothing stopped what came first
    going : p.fault ≡ None
    going = p.end

    ends_so : events_in frac_value p.shown ++ last_event (option_map stopped p.fault) ≡ events_in frac_value p.shown
    ends_so = ap (λ f. events_in frac_value p.shown ++ last_event (option_map stopped f)) going ∙ append-nil (events_in frac_value p.shown)

    same : texts_of c.answers p.shown ≡ texts_of b.answers p.shown
    same = ap (λ given. texts_of given p.shown) q.answers ∙ texts-more rules program.names program.labels b.answers q.fresh p.shown p.valid

    before : y ≡ x ++ texts_of c.answers p.shown
    before = p.text ∙ ap (λ es. x ++ events_text program.names program.labels frac_limit (numbers b.answers) es) ends_so ∙ ap (λ t. x ++ t) (sym same)

    joined : texts_of c.answers p.shown ++ last ≡ events_text program.names program.labels frac_limit (numbers c.answers) (events_in frac_value (p.shown ++ q.shown) ++ stop)
    joined =
        sym (flat_map-append (event_text program.names program.labels frac_limit (numbers c.answers)) (events_in frac_value p.shown) (events_in frac_value q.shown ++ stop))
        ∙ ap (events_text program.names program.labels frac_limit (numbers c.answers)) (sym (append_assoc (events_in frac_value p.shown) (events_in frac_value q.shown) stop) ∙ ap (λ es. es ++ stop) (sym (map-append (event_in frac_value) p.shown q.shown)))

    extended : HavePathsExtended a.solvers c.solvers c.answers (events_in frac_value (p.shown ++ q.shown))
    extended =
        subst (HavePathsExtended a.solvers c.solvers c.answers) (sym (map-append (event_in frac_value) p.shown q.shown))
        (extended_more rules a.solvers b.solvers c.solvers b.answers q.fresh c.answers (events_in frac_value p.shown) (events_in frac_value q.shown) q.answers
        (answered_by_valid frac_value frac_limit rules b.answers p.shown p.valid) p.extended q.extended)

    comes : (events : List Event) (more : List (Answer Number)) →
        while_it_runs next (first (course_at a events (numbers (p.fresh ++ q.fresh) ++ more) None)) ≡ course_at c (events ++ events_in frac_value (p.shown ++ q.shown)) more q.fault
    comes events more =
        let left : numbers (p.fresh ++ q.fresh) ++ more ≡ numbers p.fresh ++ (numbers q.fresh ++ more) = ap (λ given. given ++ more) (map-append (answer_numbers frac_value) p.fresh q.fresh) ∙ append_assoc (numbers p.fresh) (numbers q.fresh) more in
        let mid : first (course_at a events (numbers (p.fresh ++ q.fresh) ++ more) None) ≡ course_at b (events ++ events_in frac_value p.shown) (numbers q.fresh ++ more) None =
        ap (λ l. first (course_at a events l None)) left ∙ p.comes events (numbers q.fresh ++ more) ∙ ap (course_at b (events ++ events_in frac_value p.shown) (numbers q.fresh ++ more)) going in
        ap (while_it_runs next) mid ∙ q.comes (events ++ events_in frac_value p.shown) more
        ∙ ap (λ es. course_at c es more q.fault) (append_assoc events (events_in frac_value p.shown) (events_in frac_value q.shown) ∙ ap (λ es. events ++ es) (sym (map-append (event_in frac_value) p.shown q.shown)))

-- ---- statements of a list

-- a run that was halted stays
pub halted_stays : (ss : List OfStatement) (binding : _) (c : Course) (h : Halt) → c.halted ≡ Some h → in_sequence ss binding c ≡ c
halted_stays [] binding c h e = refl
halted_stays (s ∷ ss) binding c h e =
    let same : while_it_runs (s binding) c ≡ c = ap (λ (o : Option Halt). elim o [ None ↦ s binding c | Some halt ↦ c ]) e in
    ap (in_sequence ss binding) same ∙ halted_stays ss binding c h e

-- one statement more
pub one_more : (ss : List OfStatement) (s : OfStatement) (binding : _) (c : Course) → in_sequence (ss ++ s ∷ []) binding c ≡ while_it_runs (s binding) (in_sequence ss binding c)
one_more ss s binding c = fold-append (λ course statement. while_it_runs (statement binding) course) c ss (s ∷ [])

-- the statements of a list up to a place, and those from that place on
pub in_two : (ss : List OfStatement) (i : ℕ) (binding : _) (c : Course) → in_sequence ss binding c ≡ in_sequence (drop i ss) binding (in_sequence (take i ss) binding c)
in_two ss i binding c =
    ap (λ xs. in_sequence xs binding c) (sym (take-append-drop i ss)) ∙ fold-append (λ course statement. while_it_runs (statement binding) course) c (take i ss) (drop i ss)
