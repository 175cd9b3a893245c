-- The save of the last state of a run is one that is restored.
use Rattle.std.proofs.Common.{◌≡◌, ◌≤◌, ◌<◌, ◌∙◌, ◌+◌, ℕ, zero, suc, Bool, true, false, ◌&&◌, List, [], ◌∷◌, length, slice_get, unwrap_or, Option, Some, None, Result, Ok, Err, Vec, refl, sym, ap, ap₂, subst, arith, codes}
use Rattle.std.specs.Prelude.{IfOk, IfSome, nat_le, nat_lt}
use Rattle.std.specs.List.{All, list_all}
use Rattle.std.specs.Char.{is_ascii_alphabetic}
use Rattle.std.specs.declared.alloc.Global.{Global}
use Rattle.std.proofs.lemmas.Bool.{ltb-true, and_from, and_parts}
use Rattle.std.proofs.lemmas.Bool.Decides.{nat_tests}
use Rattle.std.proofs.lemmas.List.{length-map}
use Rattle.std.proofs.lemmas.List.Elements.{All-head, All-tail}
use Rattle.std.proofs.lemmas.Option.{slice_get_past}
use Rattle.gq_frac.specs.declared.frac.Frac.{Frac}
use Rattle.gq_frac.specs.Frac.{frac_value, frac_limit}
use Rattle.gms_ast.specs.declared.program.Program.{Program}
use Rattle.gms_ast.specs.declared.program.Stmt.{Stmt}
use Rattle.gms_store.specs.State.{Content, undeclared, alias_of, set_of, parameter_of, variable_of, equation_of, model_with, Symbol, State, no_symbol, alias_target, fits_at, symbol_at, symbol_of, with_content}
use Rattle.gms_parse.specs.Outcomes.{IsProgram}
use Rattle.gms_check.specs.Loaded.{IsAccepted as IsAcceptedBy, loaded}
use Rattle.gms_exec.specs.Run.{World, run_from}
use Rattle.gms_save_text.specs.SavedState.{saved_text}
use Rattle.gms_save_text.specs.Validity.{declared_symbols, emptied, is_solver_byte, is_solver_name}
use Rattle.gms_save.specs.JointErrors.{joint_errors}
use Rattle.gms_save.specs.Saves.{IsSaveOf, IsSavedBy, place_of_solver, solvers_chosen}
use Rattle.gms_save.proofs.LoadedNames.{declared-count, loaded-declares}
use Rattle.gms_restart.proofs.Continued.{later-saved, state-kept as later-state-kept}
use Rattle.gms_restart.proofs.LastSaves.{last-saved}
use Rattle.gms_restart.proofs.OwnLoaded.{has-its-labels}
use Rattle.gms_restart.proofs.Placing.{IsFirst, first-placed, loaded-chooses, run-chooses}
use Rattle.gms_restart.proofs.Saved.{state-kept}
use Rattle.gms_restart.specs.LastStates.{later_state}
use Rattle.lp_slot.specs.SolverNames.{IsSolverName, is_solver_name_byte}
use Rattle.gms_run.specs.Solving.{Solving, numbers_of}
use Rattle.gms_run.specs.Scripts.{Script, errors_of_script, first_line, first_state, joint_source, statements_to_run}
use Rattle.gms_run.specs.ProgramsToRun.{ProgramToRun, course_of, program_to_run, save_text, solver_name}
use Rattle.gms_run.specs.Listings.{IsAcceptedScript}
use Rattle.gms_run.specs.InnerReports.{IsGoneOn, KeepsState}

-- ---- the name of the solver

short-rest : (n : ℕ) → n + 1 ≤ 63 → nat_le n 62 ≡ true
short-rest n few = grind (arith, nat_tests)

-- the name of a solver is one that a save has
name-saved : (name : List ℕ) → IsSolverName name → is_solver_name name ≡ true
name-saved [] is = absurd (let e : false ≡ true = is.letter in cc)
name-saved (first ∷ rest) is =
    and_from (is_ascii_alphabetic first) (list_all is_solver_byte rest && nat_le (length rest) 62) is.letter
    (and_from (list_all is_solver_byte rest) (nat_le (length rest) 62) ((and_parts (is_solver_name_byte first) (list_all is_solver_name_byte rest) is.plain).1) (short-rest (length rest) (omega (arith, is.short))))

-- what a save has for the solver of a place
solver-saved : (names : List (List ℕ)) (place : ℕ) → All IsSolverName names → is_solver_name (unwrap_or (slice_get names place) (codes "none")) ≡ true
solver-saved [] place all = refl
solver-saved (name ∷ names) zero all = name-saved name (All-head IsSolverName name names all)
solver-saved (name ∷ names) (suc place) all = solver-saved names place (All-tail IsSolverName name names all)

-- ---- numbers

-- what fits where a name stands for itself fits, and so does an alias, which has no numbers
fits-itself : (limit : ℕ) (state : State) (name : ℕ) (t : List ℕ) → fits_at limit (symbol_of state name).content t ≡ true → fits_at limit (symbol_at state name).content t ≡ true
fits-itself limit state name t fit = by (symbol_at state name).content refl
  where
    here : (content : Content) → (symbol_at state name).content ≡ content → alias_target name content ≡ name → fits_at limit content t ≡ true
    here content is same =
        subst (λ (c : Content). fits_at limit c t ≡ true) is (subst (λ (n : ℕ). fits_at limit (symbol_at state n).content t ≡ true) (ap (alias_target name) is ∙ same) fit)

    by : (content : Content) → (symbol_at state name).content ≡ content → fits_at limit content t ≡ true
    by undeclared is = refl
    by (alias_of base) is = refl
    by (set_of members) is = refl
    by (parameter_of entries) is = here (parameter_of entries) is refl
    by (variable_of type entries) is = here (variable_of type entries) is refl
    by (equation_of entries) is = here (equation_of entries) is refl
    by (model_with model solver) is = refl

-- where the numbers of as many names fit as a state has, all do
fits-each : (limit : ℕ) (state : State) (count : ℕ) → length state.symbols ≡ count → ((name : ℕ) → name < count → (t : List ℕ) → fits_at limit (symbol_of state name).content t ≡ true) → (name : ℕ) (t : List ℕ) → fits_at limit (symbol_at state name).content t ≡ true
fits-each limit state count size fit name t = by (nat_lt name count) refl
  where
    by : (b : Bool) → nat_lt name count ≡ b → fits_at limit (symbol_at state name).content t ≡ true
    by true below = fits-itself limit state name t (fit name (ltb-true name count below) t)
    by false past =
        let over : count ≤ name = grind (arith, nat_tests) in
        ap (λ (o : Option Symbol). fits_at limit (unwrap_or o no_symbol).content t) (slice_get_past state.symbols name (subst (λ (n : ℕ). n ≤ name) (sym size) over))

-- ---- the last state

-- a state declares as much as another
counts-as : (state : State) (program : Program Frac) → declared_symbols state ≡ declared_symbols (loaded frac_value program) → length state.symbols ≡ length program.names
counts-as state program declares =
    sym (length-map state.symbols (λ (symbol : Symbol). with_content symbol (emptied symbol.content)))
    ∙ ap length (declares ∙ loaded-declares frac_value program)
    ∙ declared-count program

module _ (solving : Solving) (script : Script) (to_run : ProgramToRun) (accepted : IsAcceptedScript solving.before.names script to_run.program) (is_to_run : to_run ≡ program_to_run script to_run.program) where
  abbrev world : World Frac
  world = record { program = to_run.program; solvers = solving.before.names }

  -- the state in which a script's program ends
  abbrev ended : Option State → State
  ended saved = (run_from frac_value frac_limit world (first_state saved to_run.program) (numbers_of solving.answers) (statements_to_run saved script.line to_run.program)).state

  ended-is : (course_of to_run solving).state ≡ ended script.saved
  ended-is =
      ap₂ (λ (state : State) (statements : List (Stmt Frac)). (run_from frac_value frac_limit world state (numbers_of solving.answers) statements).state) (ap (λ (j : ProgramToRun). j.state) is_to_run) (ap (λ (j : ProgramToRun). j.statements) is_to_run)

  -- the numbers of the names of a state fit
  abbrev FitsThere : State → Type 0
  FitsThere state = (name : ℕ) → name < length to_run.program.names → (t : List ℕ) → fits_at frac_limit (symbol_of state name).content t ≡ true

  abbrev named_by : State → List ℕ
  named_by state = solver_name solving.before.names state

  -- it is a saved state of the program, from the start and from a save
  saved-by : (saved : Option State) → errors_of_script saved script.line to_run.program solving.before.names ≡ [] → IfSome saved (IsGoneOn solving.before.names script.source script.line) → FitsThere (ended saved) → All IsSolverName solving.before.names → IsSavedBy to_run.program (ended saved) (named_by (ended saved))
  saved-by None none origin fit named =
      let kept = state-kept frac_value frac_limit world (solving.before.names, none) (has-its-labels frac_limit script.source to_run.program accepted.is_program) (numbers_of solving.answers) in
      last-saved frac_limit script.source world (numbers_of solving.answers) (named_by (ended None)) accepted.is_program none
      (fits-each frac_limit (ended None) (length to_run.program.names) (counts-as (ended None) to_run.program kept.lasts.later.declares) fit) (solver-saved solving.before.names (ended None).settings.solver named)
  saved-by (Some state) none origin fit named =
      let joint : IsProgram frac_limit (joint_source origin.before origin.file) frac_value to_run.program = subst (λ (source : List ℕ). IsProgram frac_limit source frac_value to_run.program) origin.joint accepted.is_program in
      let clean : joint_errors frac_value to_run.program (first_line origin.before) solving.before.names ≡ [] = ap (λ (n : ℕ). joint_errors frac_value to_run.program n solving.before.names) (sym origin.begins) ∙ none in
      let one : IsAcceptedBy frac_value origin.program = (solvers_chosen origin.program, origin.is_saved.no_error) in
      let kept = later-state-kept frac_limit origin.before origin.file origin.program world origin.is_program joint one clean frac_limit state origin.solver origin.is_saved (numbers_of solving.answers) in
      subst (λ (s : State). IsSavedBy to_run.program s (named_by s)) (sym (later-is state origin))
      (later-saved frac_limit origin.before origin.file origin.program world state origin.solver (named_by (later state origin)) (numbers_of solving.answers) origin.is_program joint clean origin.is_saved
      (fits-each frac_limit (later state origin) (length to_run.program.names) (counts-as (later state origin) to_run.program kept.lasts.later.declares) (subst FitsThere (later-is state origin) fit)) (solver-saved solving.before.names (later state origin).settings.solver named))
    where
      later : (s : State) → IsGoneOn solving.before.names script.source script.line s → State
      later s gone = later_state frac_value frac_limit (first_line gone.before) world s (numbers_of solving.answers)

      later-is : (s : State) (gone : IsGoneOn solving.before.names script.source script.line s) → ended (Some s) ≡ later s gone
      later-is s gone = ap (λ (n : ℕ). later_state frac_value frac_limit n world s (numbers_of solving.answers)) gone.begins

  -- The place of the solver that it names is the one that its settings have.
  pub placed-last : IfSome script.saved (IsGoneOn solving.before.names script.source script.line) → All IsSolverName solving.before.names → place_of_solver solving.before.names (named_by (course_of to_run solving).state) ≡ Some (course_of to_run solving).state.settings.solver
  placed-last origin named =
      subst (λ (s : State). IsFirst solving.before.names s.settings.solver) (sym ended-is) (by script.saved origin)
    where
      chosen : (saved : Option State) → IsFirst solving.before.names (first_state saved to_run.program).settings.solver → IsFirst solving.before.names (ended saved).settings.solver
      chosen saved first =
          run-chooses frac_value frac_limit world named (first_state saved to_run.program) (numbers_of solving.answers) (statements_to_run saved script.line to_run.program) first

      by : (saved : Option State) → IfSome saved (IsGoneOn solving.before.names script.source script.line) → IsFirst solving.before.names (ended saved).settings.solver
      by None gone = chosen None (loaded-chooses frac_value to_run.program solving.before.names named)
      by (Some state) gone = chosen (Some state) (first-placed solving.before.names named gone.solver state.settings.solver gone.placed)

  -- The bytes are a save of it.
  pub saves-state : IfSome script.saved (IsGoneOn solving.before.names script.source script.line) → (bytes : List ℕ) → bytes ≡ save_text to_run solving → FitsThere (course_of to_run solving).state → All IsSolverName solving.before.names →
      IsSaveOf bytes to_run.source to_run.program (course_of to_run solving).state (named_by (course_of to_run solving).state)
  saves-state origin bytes text fit named = record {
    is_program = subst (λ (source : List ℕ). IsProgram frac_limit source frac_value to_run.program) (sym (ap (λ (j : ProgramToRun). j.source) is_to_run)) accepted.is_program;
    is_saved = subst (λ (s : State). IsSavedBy to_run.program s (named_by s)) (sym ended-is) (saved-by script.saved accepted.no_error origin (subst FitsThere ended-is fit) named);
    text = text;
  }

-- what is to be saved, where the text is made and the numbers were examined
pub keeps_state : {E : Type 0} (r : Result (Vec ℕ Global) E) (file : Option (List ℕ)) (solvers : List (List ℕ)) (source : List ℕ) (program : Program Frac) (last : State) → IfOk r (λ bytes. bytes.items ≡ saved_text source program.names last (solver_name solvers last)) →
    ((name : ℕ) → name < length program.names → (t : List ℕ) → fits_at frac_limit (symbol_of last name).content t ≡ true) → IfOk r (λ bytes. IfSome file (λ _. KeepsState solvers source program last bytes.items))
keeps_state (Err e) file solvers source program last text fit = tt
keeps_state (Ok bytes) None solvers source program last text fit = tt
keeps_state (Ok bytes) (Some file) solvers source program last text fit = record { text = text; fit = fit }
