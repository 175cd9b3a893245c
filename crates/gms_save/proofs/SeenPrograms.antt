-- Programs with equal views have the same errors, declare the same, load the same and have the same
-- saved states.
use Rattle.std.proofs.Common.{◌≡◌, ℕ, Bool, true, ◌&&◌, ◌||◌, List, [], ◌∷◌, ◌++◌, length, map, Option, refl, sym, ap, ap₂, ◌∙◌, subst}
use Rattle.std.specs.Prelude.{filter, flat_map, is_none, option_to_list, if◌then◌else◌, nat_lt}
use Rattle.std.specs.List.{fold, list_any}
use mathlib.Core.Path.{fun_ext}
use Rattle.std.proofs.lemmas.List.{map-append}
use Rattle.gq_number.specs.Number.{Number}
use Rattle.gq_frac.specs.declared.frac.Frac.{Frac}
use Rattle.gq_frac.specs.Frac.{frac_value, frac_limit}
use Rattle.gms_labels.specs.declared.place.Place.{Place}
use Rattle.gms_ast.specs.declared.program.Program.{Program}
use Rattle.gms_ast.specs.declared.program.Stmt.{Stmt}
use Rattle.gms_ast.specs.StatementTrees.{Act, Statements, no_statement, statement}
use Rattle.gms_ast.specs.StatementView.{statements_view}
use Rattle.gms_parse.specs.Outcomes.{ProgramView, program_view}
use Rattle.gms_parse.proofs.Looped.{view-Stmt}
use Rattle.gms_store.specs.State.{State, base_of}
use Rattle.gms_store.specs.Declarations.{blank_state, declared_by_all, declared_state}
use Rattle.gms_scope.specs.DynamicSets.{assigned_names, dynamic_sets}
use Rattle.gms_scope.specs.Names.{is_equation, declared_kind}
use Rattle.gms_check.specs.declared.error.CompileError.{CompileError}
use Rattle.gms_check.specs.Above.{directly_above}
use Rattle.gms_check.specs.CompileErrors.{compile_errors, each_error, known_after, statement_error}
use Rattle.gms_check.specs.Errors.{first_error}
use Rattle.gms_check.specs.Loaded.{loaded, sound}
use Rattle.gms_check.specs.Past.{Past, Known, after_statement, declared_names, is_among, is_defined, is_unordered, models_after}
use Rattle.gms_check.specs.Uses.{Uses}
use Rattle.gms_save_text.specs.Validity.{IsSavedOf}
use Rattle.gms_save.specs.Saves.{IsSavedBy, solvers_chosen, solvers_in}
use Rattle.gms_save.proofs.SeenActs.{Told, assigned_of, chosen_of, same-assigned, same-chosen, same-told, same-uses, shown, told, told-errors, told_by, uses_of}

-- ---- statements

-- the view of a statement: its place, and what its act shows
abbrev pub Seen : Type 0
Seen = Place × Act Number

abbrev pub seen : Stmt Frac → Seen
seen s = (s.at, shown s.act)

-- statements one by one
abbrev pub listed : Statements Number → List Seen
listed no_statement = []
listed (statement at act rest) = (at, act) ∷ listed rest

pub listed-is : (xs : List (Stmt Frac)) → listed (statements_view frac_value xs) ≡ map seen xs
listed-is [] = refl
listed-is (x ∷ xs) = ap listed (view-Stmt frac_value x (statements_view frac_value xs)) ∙ ap (λ (vs : List Seen). seen x ∷ vs) (listed-is xs)

-- ---- what is known before a statement

-- earlier statements, each by what is read of it and whether it has no error
abbrev pub ToldPast : Type 0
ToldPast = List (Told × Bool)

abbrev pub told_past : Past Frac → ToldPast
told_past past = map (λ (p : Stmt Frac × Bool). (told p.0.act, p.1)) past

abbrev pub after_told : State → Told × Bool → State
after_told state t = if t.1 then t.0.given state else t.0.declared state

state-told : (past : Past Frac) (state : State) → fold (after_statement frac_value) state past ≡ fold after_told state (told_past past)
state-told [] state = refl
state-told ((s, ok) ∷ past) state = state-told past (after_statement frac_value state (s, ok))

names-told : (past : Past Frac) → declared_names past ≡ flat_map (λ (t : Told × Bool). t.0.names) (told_past past)
names-told [] = refl
names-told (p ∷ past) = ap (λ names. (told p.0.act).names ++ names) (names-told past)

defined-told : (past : Past Frac) (name : ℕ) → is_defined past name ≡ list_any (λ (t : Told × Bool). t.0.is_defined name) (told_past past)
defined-told [] name = refl
defined-told (p ∷ past) name = ap (λ (b : Bool). (told p.0.act).is_defined name || b) (defined-told past name)

unordered-told : (past : Past Frac) (name : ℕ) → is_unordered past name ≡ list_any (λ (t : Told × Bool). t.1 && t.0.is_unordered name) (told_past past)
unordered-told [] name = refl
unordered-told (p ∷ past) name = ap (λ (b : Bool). (p.1 && (told p.0.act).is_unordered name) || b) (unordered-told past name)

abbrev pub told_models : List ℕ → ToldPast → List (ℕ × List ℕ)
told_models declared [] = []
told_models declared (t ∷ past) = t.0.models declared t.1 ++ told_models (declared ++ t.0.equations) past

models-told : (declared : List ℕ) (past : Past Frac) → models_after declared past ≡ told_models declared (told_past past)
models-told declared [] = refl
models-told declared (p ∷ past) =
    ap (λ models. (told p.0.act).models declared p.1 ++ models) (models-told (declared ++ (told p.0.act).equations) past)

-- what is known in a program of `count` names, from these parts
abbrev pub known_from : ℕ → List (List ℕ) → List ℕ → State → List ℕ → (ℕ → Bool) → (ℕ → Bool) → List (ℕ × List ℕ) → Known Frac
known_from count solvers dynamic state names unordered defined models = record {
  value = frac_value;
  state = state;
  declared = filter (λ name. nat_lt name count && true) names;
  above = directly_above state (filter (λ name. nat_lt name count && true) names);
  assigned = λ name. nat_lt name count && is_among dynamic name;
  unordered = λ name. nat_lt name count && unordered name;
  defined = λ name. nat_lt name count && defined name;
  models = map (λ (model : ℕ × List ℕ). (model.0, filter (λ equation. is_equation (declared_kind state equation)) model.1)) (filter (λ (model : ℕ × List ℕ). nat_lt model.0 count && true) models);
  solvers = solvers;
}

-- whether a set is unordered, and an equation defined, after statements
abbrev pub told_unordered : ToldPast → ℕ → Bool
told_unordered past name = list_any (λ (t : Told × Bool). t.1 && t.0.is_unordered name) past

abbrev pub told_defined : ToldPast → ℕ → Bool
told_defined past name = list_any (λ (t : Told × Bool). t.0.is_defined name) past

-- what is known, from what is read of the earlier statements
abbrev pub known_told : ℕ → List (List ℕ) → List ℕ → ToldPast → Known Frac
known_told count solvers dynamic past =
    known_from count solvers dynamic (fold after_told (blank_state count) past) (flat_map (λ (t : Told × Bool). t.0.names) past) (told_unordered past) (told_defined past) (told_models [] past)

from-parts : (count : ℕ) (solvers : List (List ℕ)) (dynamic : List ℕ) (a b : State) (ns ms : List ℕ) (u v d e : ℕ → Bool) (xs ys : List (ℕ × List ℕ)) → a ≡ b → ns ≡ ms → ((name : ℕ) → u name ≡ v name) → ((name : ℕ) → d name ≡ e name) → xs ≡ ys → known_from count solvers dynamic a ns u d xs ≡ known_from count solvers dynamic b ms v e ys
from-parts count solvers dynamic a b ns ms u v d e xs ys states names orders definitions models =
    ap₂ (λ (s : State) (l : List ℕ). known_from count solvers dynamic s l u d xs) states names
    ∙ ap₂ (λ (f g : ℕ → Bool). known_from count solvers dynamic b ms f g xs) (fun_ext orders) (fun_ext definitions)
    ∙ ap (λ (l : List (ℕ × List ℕ)). known_from count solvers dynamic b ms v e l) models

known-is : (program : Program Frac) (solvers : List (List ℕ)) (past : Past Frac) → known_after frac_value program solvers past ≡ known_told (length program.names) solvers (dynamic_sets program) (told_past past)
known-is program solvers past =
    let first = blank_state (length program.names) in
    from-parts (length program.names) solvers (dynamic_sets program) (fold (after_statement frac_value) first past) (fold after_told first (told_past past)) (declared_names past) (flat_map (λ (t : Told × Bool). t.0.names) (told_past past)) (is_unordered past) (told_unordered (told_past past)) (is_defined past) (told_defined (told_past past)) (models_after [] past) (told_models [] (told_past past))
    (state-told past first) (names-told past) (unordered-told past) (defined-told past) (models-told [] past)

-- ---- errors

-- the error of a statement, by what it shows
abbrev pub seen_error : Known Frac → Seen → Option CompileError
seen_error known v = first_error ((told_by v.1).errors known v.0 (uses_of v.1 known.state v.0 []))

error-is : (known : Known Frac) (s : Stmt Frac) → statement_error known s ≡ seen_error known (seen s)
error-is known s =
    ap first_error (sym (told-errors known s s.act) ∙ ap₂ (λ (t : Told) (us : Uses Frac). t.errors known s.at us) (sym (same-told s.act)) (sym (same-uses s known.state [])))

-- the errors of statements, by what they show
abbrev pub seen_errors : ℕ → List (List ℕ) → List ℕ → ToldPast → List Seen → List (Option CompileError)
seen_errors count solvers dynamic past [] = []
seen_errors count solvers dynamic past (v ∷ vs) =
    seen_error (known_told count solvers dynamic past) v ∷ seen_errors count solvers dynamic (past ++ (told_by v.1, is_none (seen_error (known_told count solvers dynamic past) v)) ∷ []) vs

-- one statement more
past-more : (past : Past Frac) (s : Stmt Frac) (ok fine : Bool) → ok ≡ fine → told_past (past ++ (s, ok) ∷ []) ≡ told_past past ++ (told_by (shown s.act), fine) ∷ []
past-more past s ok fine same =
    map-append (λ (p : Stmt Frac × Bool). (told p.0.act, p.1)) past ((s, ok) ∷ []) ∙ ap₂ (λ (t : Told) (b : Bool). told_past past ++ (t, b) ∷ []) (sym (same-told s.act)) same

-- the error of a statement, and those of later ones
errors-step : (count : ℕ) (solvers : List (List ℕ)) (dynamic : List ℕ) (vs : List Seen) (s : Stmt Frac) (known : Known Frac) (past : Past Frac) (others : List (Option CompileError)) → known ≡ known_told count solvers dynamic (told_past past) → others ≡ seen_errors count solvers dynamic (told_past (past ++ (s, is_none (statement_error known s)) ∷ [])) vs → (statement_error known s ∷ others) ≡ seen_errors count solvers dynamic (told_past past) (seen s ∷ vs)
errors-step count solvers dynamic vs s known past others is rest =
    let here : statement_error known s ≡ seen_error (known_told count solvers dynamic (told_past past)) (seen s) = error-is known s ∙ ap (λ (k : Known Frac). seen_error k (seen s)) is in
    ap₂ (λ (x : Option CompileError) (xs : List (Option CompileError)). x ∷ xs) here
    (rest ∙ ap (λ (p : ToldPast). seen_errors count solvers dynamic p vs) (past-more past s (is_none (statement_error known s)) (is_none (seen_error (known_told count solvers dynamic (told_past past)) (seen s))) (ap (λ (x : Option CompileError). is_none x) here)))

pub errors-are : (program : Program Frac) (solvers : List (List ℕ)) (past : Past Frac) (xs : List (Stmt Frac)) → each_error frac_value program solvers past xs ≡ seen_errors (length program.names) solvers (dynamic_sets program) (told_past past) (map seen xs)
errors-are program solvers past [] = refl
errors-are program solvers past (s ∷ xs) =
    let known = known_after frac_value program solvers past in
    let next = past ++ (s, is_none (statement_error known s)) ∷ [] in
    errors-step (length program.names) solvers (dynamic_sets program) (map seen xs) s known past (each_error frac_value program solvers next xs) (known-is program solvers past) (errors-are program solvers next xs)

-- ---- what is declared, loaded, assigned and chosen

pub declared-are : (xs : List (Stmt Frac)) (state : State) → declared_by_all state xs ≡ fold (λ (s : State) (v : Seen). (told_by v.1).declared s) state (map seen xs)
declared-are [] state = refl
declared-are (x ∷ xs) state =
    ap (λ (t : Told). declared_by_all (t.declared state) xs) (sym (same-told x.act)) ∙ declared-are xs ((told_by (shown x.act)).declared state)

pub loaded-are : (xs : List (Stmt Frac)) (state : State) → fold (after_statement frac_value) state (sound xs) ≡ fold (λ (s : State) (v : Seen). (told_by v.1).given s) state (map seen xs)
loaded-are [] state = refl
loaded-are (x ∷ xs) state =
    ap (λ (t : Told). fold (after_statement frac_value) (t.given state) (sound xs)) (sym (same-told x.act)) ∙ loaded-are xs ((told_by (shown x.act)).given state)

pub assigned-are : (xs : List (Stmt Frac)) → flat_map assigned_names xs ≡ flat_map (λ (v : Seen). assigned_of v.1) (map seen xs)
assigned-are [] = refl
assigned-are (x ∷ xs) = ap₂ (λ (a b : List ℕ). a ++ b) (sym (same-assigned x)) (assigned-are xs)

chosen-are : (xs : List (Stmt Frac)) → flat_map solvers_in xs ≡ flat_map (λ (v : Seen). chosen_of v.1) (map seen xs)
chosen-are [] = refl
chosen-are (x ∷ xs) = ap₂ (λ (a b : List (List ℕ)). a ++ b) (sym (same-chosen x)) (chosen-are xs)

-- what a program declares, and which sets it assigns, by how many names it has and what its
-- statements show
abbrev pub seen_declared : ℕ → List Seen → State
seen_declared count vs = fold (λ (s : State) (v : Seen). (told_by v.1).declared s) (blank_state count) vs

abbrev seen_dynamic : ℕ → List Seen → List ℕ
seen_dynamic count vs = map (base_of (seen_declared count vs)) (flat_map (λ (v : Seen). assigned_of v.1) vs)

module _ (program : Program Frac) where
  pub declared-is : declared_state program ≡ seen_declared (length program.names) (map seen program.statements.items)
  declared-is = declared-are program.statements.items (blank_state (length program.names))

  dynamic-is : dynamic_sets program ≡ seen_dynamic (length program.names) (map seen program.statements.items)
  dynamic-is =
      ap₂ (λ (s : State) (ns : List ℕ). map (base_of s) ns) declared-is (assigned-are program.statements.items)

-- ---- programs with equal views

module _ (one other : Program Frac) (alike : program_view frac_value one ≡ program_view frac_value other) where
  -- they have the same names
  pub same-names : one.names ≡ other.names
  same-names = ap (λ (v : ProgramView). v.names) alike

  pub same-labels : one.labels ≡ other.labels
  same-labels = ap (λ (v : ProgramView). v.labels) alike

  pub same-count : length one.names ≡ length other.names
  same-count = ap (λ (names : List (List ℕ)). length names) same-names

  -- and statements that show the same
  pub same-seen : map seen one.statements.items ≡ map seen other.statements.items
  same-seen = sym (listed-is one.statements.items) ∙ ap (λ (v : ProgramView). listed v.statements) alike ∙ listed-is other.statements.items

  -- they declare the same
  pub same-declared : declared_state one ≡ declared_state other
  same-declared = declared-is one ∙ ap₂ seen_declared same-count same-seen ∙ sym (declared-is other)

  -- they assign the same sets
  pub same-assigned-sets : dynamic_sets one ≡ dynamic_sets other
  same-assigned-sets = dynamic-is one ∙ ap₂ seen_dynamic same-count same-seen ∙ sym (dynamic-is other)

  -- they load the same
  pub same-loaded : loaded frac_value one ≡ loaded frac_value other
  same-loaded =
      loaded-are one.statements.items (blank_state (length one.names))
      ∙ ap₂ (λ (count : ℕ) (vs : List Seen). fold (λ (s : State) (v : Seen). (told_by v.1).given s) (blank_state count) vs) same-count same-seen
      ∙ sym (loaded-are other.statements.items (blank_state (length other.names)))

  -- they choose solvers of the same names
  pub same-solvers : solvers_chosen one ≡ solvers_chosen other
  same-solvers = chosen-are one.statements.items ∙ ap (flat_map (λ (v : Seen). chosen_of v.1)) same-seen ∙ sym (chosen-are other.statements.items)

  -- they have the same errors
  pub same-errors : (solvers : List (List ℕ)) → compile_errors frac_value one solvers ≡ compile_errors frac_value other solvers
  same-errors solvers =
      ap (λ (errors : List (Option CompileError)). flat_map option_to_list errors)
      (errors-are one solvers [] one.statements.items
      ∙ ap₂ (λ (count : ℕ) (vs : List Seen). seen_errors count solvers (dynamic_sets one) [] vs) same-count same-seen
      ∙ ap (λ (dynamic : List ℕ). seen_errors (length other.names) solvers dynamic [] (map seen other.statements.items)) same-assigned-sets
      ∙ sym (errors-are other solvers [] other.statements.items))

  -- and the same saved states
  pub same-saved : (state : State) (solver : List ℕ) → IsSavedBy one state solver → IsSavedBy other state solver
  same-saved state solver saved = record {
    no_error = sym (same-errors (solvers_chosen other)) ∙ ap (compile_errors frac_value one) (sym same-solvers) ∙ saved.no_error;
    is_saved = subst (λ (count : ℕ). IsSavedOf frac_limit count (declared_state other) (loaded frac_value other) (is_among (dynamic_sets other)) state solver) (ap (λ (labels : List (List ℕ)). length labels) same-labels)
        (subst (λ (declared : State). IsSavedOf frac_limit (length one.labels) declared (loaded frac_value other) (is_among (dynamic_sets other)) state solver) same-declared
        (subst (λ (first : State). IsSavedOf frac_limit (length one.labels) (declared_state one) first (is_among (dynamic_sets other)) state solver) same-loaded
        (subst (λ (dynamic : List ℕ). IsSavedOf frac_limit (length one.labels) (declared_state one) (loaded frac_value one) (is_among dynamic) state solver) same-assigned-sets saved.is_saved)));
  }
