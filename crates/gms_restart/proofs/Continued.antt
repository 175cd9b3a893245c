-- The last state of a run that resumes from a save is a saved state of the joint program.
use Rattle.std.proofs.Common.{◌≡◌, ℕ, ◌≤◌, true, List, [], ◌++◌, map, length, drop, sym, ap, ap₂, ◌∙◌, subst, arith, length-append}
use Rattle.std.specs.Prelude.{filter, flat_map}
use Rattle.gq_number.specs.Number.{Number}
use Rattle.gq_frac.specs.declared.frac.Frac.{Frac}
use Rattle.gq_frac.specs.Frac.{frac_value, frac_limit}
use Rattle.gms_ast.specs.declared.program.Program.{Program}
use Rattle.gms_ast.specs.declared.program.Stmt.{Stmt}
use Rattle.gms_ast.specs.StatementView.{statements_view}
use Rattle.gms_parse.specs.Outcomes.{IsProgram, ProgramView, program_view}
use Rattle.gms_store.specs.State.{State, fits_at, symbol_at}
use Rattle.gms_check.specs.Loaded.{IsAccepted, loaded}
use Rattle.gms_exec.specs.Run.{World}
use Rattle.gms_run_laws.specs.LastStates.{MayBegin}
use Rattle.gms_joint_source.proofs.ProgramPrefixes.{labels_go_on, names_go_on}
use Rattle.gms_run_laws.proofs.Begins.{begins-with}
use Rattle.gms_save.specs.JointErrors.{is_saved, joint_errors, resumed, saved_statements}
use Rattle.gms_save.specs.Saves.{IsSavedBy, solvers_chosen}
use Rattle.gms_save.proofs.Joints.{accepted}
use Rattle.gms_save.proofs.SeenActs.{assigned_of}
use Rattle.gms_save.proofs.SeenPrograms.{Seen, assigned-are, seen}
use Rattle.gms_save_text.specs.Validity.{is_solver_name}
use Rattle.gms_joint_source.specs.JointSources.{first_line, joint_source}
use Rattle.gms_restart.specs.StatementLines.{AreNew, AreSaved, SeenNew, SeenSaved}
use Rattle.gms_restart.proofs.NewTypes.{saved-prefix}
use Rattle.gms_restart.proofs.SeenAlike.{new-types, seen-same, occur-for}
use Rattle.gms_restart.proofs.Restarted.{Split, following-firsts, new-seen, saved-seen, split}
use Rattle.gms_restart.specs.JointPrograms.{Continues}
use Rattle.gms_restart.proofs.DeclaredNames.{declares-own}
use Rattle.gms_restart.proofs.Continuing.{continues}
use Rattle.gms_restart.specs.Labels.{WritesItsLabels}
use Rattle.gms_restart.specs.LastStates.{ContinuesSaved, later_state}
use Rattle.gms_restart.proofs.ChosenSolvers.{no-error-chosen}
use Rattle.gms_restart.proofs.Grounds.{among}
use Rattle.gms_restart.proofs.Kept.{Kept}
use Rattle.gms_restart.proofs.OwnLoaded.{has-its-labels}
use Rattle.gms_restart.proofs.Resumed.{later-kept}
use Rattle.gms_restart.proofs.Runs.{last-kept}
use Rattle.gms_restart.proofs.Saved.{kept-saved}
use Rattle.lp_core.specs.declared.answer.Answer.{Answer}

longer : (texts others more : List (List ℕ)) → others ≡ texts ++ more → length texts ≤ length others
longer texts others more e =
    let size : length others ≡ length (texts ++ more) = ap (λ (ts : List (List ℕ)). length ts) e in
    let parts = length-append texts more in
    omega (arith, size, parts)

module _ (most : ℕ) (source file : List ℕ) (saved : Program Frac) (world : World Frac) (p : IsProgram most source frac_value saved) (q : IsProgram most (joint_source source file) frac_value world.program)
    (accepts : IsAccepted frac_value saved) (none : joint_errors frac_value world.program (first_line source) world.solvers ≡ []) where
  abbrev whole : Program Frac
  whole = world.program

  abbrev from : ℕ
  from = first_line source

  abbrev one : ProgramView
  one = program_view frac_value saved

  abbrev other : ProgramView
  other = program_view frac_value whole

  pub whole-accepted : IsAccepted frac_value whole
  whole-accepted = accepted frac_value whole from (world.solvers, none)

  sequel : Continues from one other
  sequel = continues most source file one other p q

  parts : Split whole.statements.items (statements_view frac_value saved.statements.items) sequel.others
  parts = split whole.statements.items (statements_view frac_value saved.statements.items) sequel.others sequel.statements

  are_saved : AreSaved from parts.firsts
  are_saved = saved-seen from parts.firsts (subst (SeenSaved from) (sym parts.first_seen) sequel.olds)

  are_new : AreNew from parts.others
  are_new = new-seen from parts.others (subst (SeenNew from) (sym parts.rest_seen) sequel.news)

  alike : map seen parts.firsts ≡ map seen saved.statements.items
  alike = seen-same parts.firsts saved.statements.items parts.first_seen

  others-are : drop (length (saved_statements from whole)) whole.statements.items ≡ parts.others
  others-are =
      ap₂ (λ (xs ys : List (Stmt Frac)). drop (length xs) ys) (ap (filter (is_saved from)) parts.parts ∙ saved-prefix from parts.firsts parts.others are_saved are_new) parts.parts
      ∙ following-firsts parts.firsts parts.others

  goes-on : ContinuesSaved frac_value saved whole parts.firsts parts.others
  goes-on =
      let names = names_go_on most source file one other p q in
      let labels = labels_go_on most source file one other p q in
      let few = longer saved.names whole.names names.0 names.1 in
      let own = declares-own most source saved p in
      record {
        statements = parts.parts;
        assigns = assigned-are parts.firsts ∙ ap (flat_map (λ (v : Seen). assigned_of v.1)) alike ∙ sym (assigned-are saved.statements.items);
        labels = longer saved.labels whole.labels labels.0 labels.1;
        has_all = begins-with frac_value (record { program = saved; solvers = world.solvers }) world parts.firsts parts.others whole-accepted few own parts.parts (occur-for parts.firsts saved.statements.items alike 0 world).states (new-types from saved whole parts.firsts parts.others world.solvers parts.first_seen few own parts.parts are_saved are_new none);
      }

  writes-its : WritesItsLabels frac_value whole
  writes-its = has-its-labels most (joint_source source file) whole q

  -- the state that is resumed keeps what the joint program begins with
  pub resumed-kept : (state : State) (solver : List ℕ) → IsSavedBy saved state solver → Kept (length whole.labels) (loaded frac_value whole) (among frac_value whole whole-accepted) (resumed frac_value state whole)
  resumed-kept state solver is =
      later-kept frac_value whole saved parts.firsts parts.others whole-accepted accepts writes-its goes-on state frac_limit solver is.is_saved

  -- and so does the last one
  pub state-kept : (limit : ℕ) (state : State) (solver : List ℕ) → IsSavedBy saved state solver → (answers : List (Answer Number)) → Kept (length whole.labels) (loaded frac_value whole) (among frac_value whole whole-accepted) (later_state frac_value limit from world state answers)
  state-kept limit state solver is answers =
      last-kept frac_value limit world whole-accepted (length whole.labels) writes-its parts.firsts (drop (length (saved_statements from whole)) whole.statements.items) (parts.parts ∙ ap (λ (ys : List (Stmt Frac)). parts.firsts ++ ys) (sym others-are)) (resumed frac_value state whole)
      (resumed-kept state solver is) answers

-- A run may begin in the state that is resumed.
pub resumed-begins : (source file : List ℕ) (saved : Program Frac) (world : World Frac) (state : State) (solver : List ℕ) → IsProgram frac_limit source frac_value saved → IsProgram frac_limit (joint_source source file) frac_value world.program →
    joint_errors frac_value world.program (first_line source) world.solvers ≡ [] → IsSavedBy saved state solver → MayBegin frac_value world.program (resumed frac_value state world.program)
resumed-begins source file saved world state solver p q none is =
    (resumed-kept frac_limit source file saved world p q (solvers_chosen saved, is.no_error) none state solver is).lasts.later

pub later-saved : (limit : ℕ) (source file : List ℕ) (saved : Program Frac) (world : World Frac) (state : State) (solver named : List ℕ) (answers : List (Answer Number)) → IsProgram frac_limit source frac_value saved → IsProgram frac_limit (joint_source source file) frac_value world.program →
    joint_errors frac_value world.program (first_line source) world.solvers ≡ [] → IsSavedBy saved state solver → ((name : ℕ) (t : List ℕ) → fits_at frac_limit (symbol_at (later_state frac_value limit (first_line source) world state answers) name).content t ≡ true) → is_solver_name named ≡ true →
    IsSavedBy world.program (later_state frac_value limit (first_line source) world state answers) named
later-saved limit source file saved world state solver named answers p q none is fit name =
    let accepts : IsAccepted frac_value saved = (solvers_chosen saved, is.no_error) in
    let both : IsAccepted frac_value world.program = whole-accepted frac_limit source file saved world p q accepts none in
    record {
      no_error = no-error-chosen world.program both.0 both.1;
      is_saved = kept-saved frac_value world.program both (later_state frac_value limit (first_line source) world state answers) (state-kept frac_limit source file saved world p q accepts none limit state solver is answers) frac_limit named fit name;
    }
