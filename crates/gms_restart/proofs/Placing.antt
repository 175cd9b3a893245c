-- The solver that the settings of a run choose is the first of its name.
use Rattle.std.proofs.Common.{◌≡◌, ◌+◌, ◌==◌, ℕ, Bool, true, false, List, [], ◌∷◌, length, map, get_or, slice_get, unwrap_or, Option, Some, None, refl, sym, ap, ◌∙◌, subst, cond, arith, codes}
use Rattle.std.specs.Prelude.{not}
use Rattle.std.specs.List.{All, fold, position, position_or_len}
use Rattle.std.specs.Str.{bytes_eq, str_eq_ignore_ascii_case, str_to_ascii_lowercase}
use Rattle.std.proofs.lemmas.Bool.{eqb-true}
use Rattle.std.proofs.lemmas.List.Elements.{All-get_or, All-head}
use Rattle.std.proofs.lemmas.List.Quantifiers.{position-Some}
use Rattle.std.proofs.lemmas.Option.{unwrap_or-slice_get}
use Rattle.std.proofs.lemmas.Slice.Eq.{bytes_eq-Decides}
use Rattle.gq_number.specs.Number.{Number}
use Rattle.gms_labels.proofs.Places.{is_same_refl, position_from}
use Rattle.gms_ast.specs.declared.expression.Suffix.{Suffix}
use Rattle.gms_ast.specs.declared.program.Program.{Program}
use Rattle.gms_ast.specs.declared.program.Setting.{Setting}
use Rattle.gms_ast.specs.declared.program.Setting.TheVariants as setting
use Rattle.gms_ast.specs.declared.program.Stmt.{Stmt}
use Rattle.gms_ast.specs.declared.word.Word.{Word}
use Rattle.gms_store.specs.declared.settings.Settings.{Settings}
use Rattle.gms_store.specs.State.{State}
use Rattle.gms_scope.specs.DynamicSets.{assigned_names}
use Rattle.gms_check.specs.Loaded.{loaded}
use Rattle.lp_core.specs.declared.answer.Answer.{Answer}
use Rattle.lp_core.specs.declared.answer.End.{End}
use Rattle.lp_core.specs.declared.program.Lp.{Lp}
use Rattle.lp_slot.specs.SolverNames.{IsSolverName}
use Rattle.gms_exec.specs.Given.{AllGiven, after_given}
use Rattle.gms_exec.specs.Options.{is_same_word, solver_set, after_option, after_options}
use Rattle.gms_exec.specs.Run.{World, of_statement, run_from}
use Rattle.gms_exec.specs.Solved.{Point, after_end, points_of, statuses_of, with_point}
use Rattle.gms_store.specs.State.{after_statuses, with_settings}
use Rattle.gms_run_laws.proofs.Persisting.{AreAllowed, EachKeeps, all-keep, keeps-statement}
use Rattle.gms_run_laws.proofs.TidyLoaded.{loaded-well}
use Rattle.gms_save.specs.Saves.{place_of_solver}

-- ---- names

-- the name of a solver is not the word that says that there was none
pub not-none : (name : List ℕ) → IsSolverName name → bytes_eq name (codes "none") ≡ false
not-none name is = by (bytes_eq name (codes "none")) refl
  where
    by : (b : Bool) → bytes_eq name (codes "none") ≡ b → b ≡ false
    by false apart = refl
    by true same =
        let differs : not (str_eq_ignore_ascii_case (codes "none") (codes "none")) ≡ true = subst (λ (n : List ℕ). not (str_eq_ignore_ascii_case n (codes "none")) ≡ true) ((bytes_eq-Decides name (codes "none")).0 same) is.not_none in
        absurd (let z : ⊥ = cc in z)

-- the place of a name that some solver has
placed-named : (names : List (List ℕ)) (solver : List ℕ) → IsSolverName solver → place_of_solver names solver ≡ position (λ name. str_eq_ignore_ascii_case name solver) names
placed-named names solver is =
    ap (λ (b : Bool). cond b (cond (length names == 0) (Some 0) None) (position (λ name. str_eq_ignore_ascii_case name solver) names)) (not-none solver is)

-- The solver of a place is the first of its name.
abbrev pub IsFirst : List (List ℕ) → ℕ → Type 0
IsFirst names place = place_of_solver names (unwrap_or (slice_get names place) (codes "none")) ≡ Some place

-- the first name that equals a text, letter case ignored, is the first that equals itself
first-found : (names : List (List ℕ)) → All IsSolverName names → (text : List ℕ) (place : ℕ) → position (λ name. str_eq_ignore_ascii_case name text) names ≡ Some place → IsFirst names place
first-found names all text place found =
    let at = position-Some (λ (name : List ℕ). str_eq_ignore_ascii_case name text) names place (codes "none") found in
    let solver : List ℕ = get_or names place (codes "none") in
    let is : IsSolverName solver = All-get_or IsSolverName names place (codes "none") at.0 all in
    let same : str_to_ascii_lowercase solver ≡ str_to_ascii_lowercase text = (bytes_eq-Decides (str_to_ascii_lowercase solver) (str_to_ascii_lowercase text)).0 at.1 in
    ap (place_of_solver names) (unwrap_or-slice_get names place (codes "none"))
    ∙ placed-named names solver is
    ∙ ap (λ (low : List ℕ). position (λ name. bytes_eq (str_to_ascii_lowercase name) low) names) same
    ∙ found

-- so is the one that a save's name has
pub first-placed : (names : List (List ℕ)) → All IsSolverName names → (solver : List ℕ) (place : ℕ) → place_of_solver names solver ≡ Some place → IsFirst names place
first-placed names all solver place placed = by (bytes_eq solver (codes "none")) (length names == 0) refl placed
  where
    none-first : (names : List (List ℕ)) → length names ≡ 0 → (place : ℕ) → 0 ≡ place → IsFirst names place
    none-first [] empty place same = subst (IsFirst []) same refl
    none-first (name ∷ names) empty place same = absurd (omega (arith, empty))

    by : (named none : Bool) → (length names == 0) ≡ none → cond named (cond none (Some 0) None) (position (λ name. str_eq_ignore_ascii_case name solver) names) ≡ Some place → IsFirst names place
    by true true empty e = let same : 0 ≡ place = cc in none-first names (eqb-true (length names) 0 empty) place same
    by true false some e = absurd (let z : ⊥ = cc in z)
    by false none empty e = first-found names all solver place e

-- and the first solver of all
pub first-zero : (names : List (List ℕ)) → All IsSolverName names → IsFirst names 0
first-zero [] all = refl
first-zero (name ∷ names) all =
    placed-named (name ∷ names) name (All-head IsSolverName name names all)
    ∙ position_from (λ (other : List ℕ). str_eq_ignore_ascii_case other name) (name ∷ names) 0 (omega arith) (ap (λ (b : Bool). cond (not b) (1 + position_or_len (λ (other : List ℕ). str_eq_ignore_ascii_case other name) names) 0) (is_same_refl name))

-- ---- options

either-way : {A : Type 0} (P : A → Type 0) (b : Bool) (x y : A) → P x → P y → P (cond b x y)
either-way P true x y first second = first
either-way P false x y first second = second

module _ {F : Type 0} (v : F → Number) (names : List (List ℕ)) (all : All IsSolverName names) where
  -- Settings choose the first solver of a name.
  record Chooses (s : Settings) : Type 0 where
    chosen : IsFirst names s.solver

  set-first : (old : ℕ) (set : Setting F) → IsFirst names old → IsFirst names (solver_set names old set)
  set-first old (setting.Number at x) first = first
  set-first old (setting.Name word) first = by (position (is_same_word word.text) names) refl
    where
      by : (found : Option ℕ) → position (is_same_word word.text) names ≡ found → IsFirst names (unwrap_or found old)
      by None e = first
      by (Some place) e = first-found names all word.text place e

  option-first : (s : Settings) (word : Word) (set : Setting F) → Chooses s → Chooses (after_option v names s (word, set))
  option-first s word set first =
      let same = first.chosen in
      either-way Chooses (is_same_word (codes "limrow") word.text) _ _ (record { chosen = same })
      (either-way Chooses (is_same_word (codes "limcol") word.text) _ _ (record { chosen = same })
      (either-way Chooses (is_same_word (codes "iterlim") word.text) _ _ (record { chosen = same })
      (either-way Chooses (is_same_word (codes "decimals") word.text) _ _ (record { chosen = same })
      (either-way Chooses (is_same_word (codes "solprint") word.text) _ _ (record { chosen = same })
      (either-way Chooses (is_same_word (codes "lp") word.text) _ _ (record { chosen = set-first s.solver set same }) first)))))

  options-first : (options : List (Word × Setting F)) (s : Settings) → Chooses s → Chooses (after_options v names s options)
  options-first [] s first = first
  options-first (option ∷ options) s first =
      options-first options (after_option v names s option) (option-first s option.0 option.1 first)

-- ---- runs

-- an answer does not change the settings
points-leave : (points : List Point) (s : State) → (fold with_point s points).settings ≡ s.settings
points-leave [] s = refl
points-leave (point ∷ points) s = points-leave points (with_point s point)

module _ {F : Type 0} (v : F → Number) (limit : ℕ) (world : World F) (all : All IsSolverName world.solvers) where
  abbrev Chosen : State → Type 0
  Chosen s = IsFirst world.solvers s.settings.solver

  abbrev Any : ℕ → Type 0
  Any name = Unit {0}

  givens : (s : State) (kind : Suffix) (name : ℕ) (given : AllGiven) → Any name → Chosen s → Chosen (after_given kind name given s)
  givens s kind name given any first = first

  ends : (s : State) (model : ℕ) (lp : Lp Number) (end : End Number) → Chosen s → Chosen (after_end s model lp end)
  ends s model lp end first =
      subst (λ (settings : Settings). IsFirst world.solvers settings.solver) (sym (points-leave (points_of lp end) (after_statuses s model (statuses_of end).0 (statuses_of end).1))) first

  sets : (s : State) (options : List (Word × Setting F)) → Chosen s → Chosen (with_settings s (after_options v world.solvers s.settings options))
  sets s options first = (options-first v world.solvers all options s.settings (record { chosen = first })).chosen

  any-allowed : (names : List ℕ) → AreAllowed v limit world Chosen Any givens ends sets names
  any-allowed [] = tt
  any-allowed (n ∷ names) = (tt, any-allowed names)

  each-chosen : (statements : List (Stmt F)) → EachKeeps Chosen (map (of_statement v limit world) statements)
  each-chosen [] = tt
  each-chosen (s ∷ statements) =
      (keeps-statement v limit world Chosen Any givens ends sets s (any-allowed (assigned_names s)), each-chosen statements)

  -- the last state of a run chooses the first solver of a name, where its first does
  pub run-chooses : (state : State) (answers : List (Answer Number)) (statements : List (Stmt F)) → IsFirst world.solvers state.settings.solver → IsFirst world.solvers (run_from v limit world state answers statements).state.settings.solver
  run-chooses state answers statements first =
      all-keep Chosen (map (of_statement v limit world) statements) (each-chosen statements) [] (record { state = state; events = []; left = answers; taken = 0; halted = None }) first

-- the state that declarations give does
pub loaded-chooses : {F : Type 0} (v : F → Number) (program : Program F) (names : List (List ℕ)) → All IsSolverName names → IsFirst names (loaded v program).settings.solver
loaded-chooses v program names all =
    subst (λ (settings : Settings). IsFirst names settings.solver) (sym (loaded-well v program).settings) (first-zero names all)
