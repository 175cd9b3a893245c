-- The errors of a program, by what is known before each statement.
use Rattle.gms_check.proofs.Faultless.{none-first, none-left, none-right}
use Rattle.std.proofs.Common.{◌≡◌, ◌<◌, ◌≤◌, ℕ, Bool, true, false, ◌==◌, ◌&&◌, List, [], ◌∷◌, ◌++◌, length, map, set, get_or, drop, ◌+◌, append_assoc, refl, sym, ap, ◌∙◌, Option, Some, None, if◌then◌else◌, eq-eqb}
use Rattle.std.specs.Prelude.{filter, is_none}
use mathlib.Core.Path.{fun_ext}
use Rattle.std.proofs.lemmas.Bool.{eqb-true, not-false}
use Rattle.std.proofs.lemmas.List.{append-nil, drop_all, drop_more, get_or-set_other}
use Rattle.gq_number.specs.Number.{Number}
use Rattle.gms_ast.specs.declared.word.Named.{Named}
use Rattle.gms_ast.specs.declared.declaration.ModelDecl.{ModelDecl}
use Rattle.gms_ast.specs.declared.program.Act.{Act}
use Rattle.gms_ast.specs.declared.program.Act.TheVariants.{Model}
use Rattle.gms_ast.specs.declared.program.Stmt.{Stmt}
use Rattle.gms_ast.specs.declared.program.Program.{Program}
use Rattle.gms_store.specs.State.{Content, undeclared, alias_of, set_of, parameter_of, variable_of, equation_of, model_with, Symbol, State, no_symbol, symbol_at, base_of}
use Rattle.gms_store.specs.Declarations.{declare_model, declare_models, is_undeclared, kind_in, model_symbol, put_at}
use Rattle.gms_scope.specs.Below.{is_met_before, superset, superset_in}
use Rattle.gms_scope.specs.DynamicSets.{dynamic_sets}
use Rattle.gms_scope.specs.Entries.{above_of}
use Rattle.gms_scope.specs.Facts.{Facts, first_facts, marked, names}
use Rattle.gms_scope.specs.Names.{is_equation, is_index_set, declared_kind, positions}
use Rattle.gms_check.specs.declared.error.ErrorKind.TheVariants.{WrongKind}
use Rattle.gms_check.specs.declared.error.CompileError.{CompileError}
use Rattle.gms_check.specs.Above.{directly_above}
use Rattle.gms_check.specs.InnerChanges.{facts_after}
use Rattle.gms_check.specs.InnerChecking.{known_by}
use Rattle.gms_check.specs.CompileErrors.{act_errors, each_error, statement_errors, errors_of, known_after, known_in, model_errors, models_before, names_before, of_program, statement_error}
use Rattle.gms_check.specs.DeclarationUses.{model_uses}
use Rattle.gms_check.specs.Errors.{first_error}
use Rattle.gms_check.specs.Past.{Known, Past, is_among, is_defined, is_unordered, models_after, state_after}
use Rattle.gms_check.specs.Uses.{listing}
use Rattle.gms_check.proofs.NoErrors.{AreClean, are-clean}
use Rattle.gms_check.proofs.Outlines.{base-drawn, bounds-drawn, drawn, index-drawn, kind-drawn, positions-drawn, read-at}
use Rattle.gms_check.proofs.KnownFacts.{in_table}
use Rattle.gms_check.proofs.PastFacts.{Occurs, occurs-first}
use Rattle.gms_check.proofs.PastSteps.{AreEquations, AreOfEquations, IsListed, occurs-after}

-- ---- models without errors are of equations

kind-declared : (c : Content) → is_equation (kind_in c) ≡ true → is_undeclared c ≡ true → ⊥
kind-declared undeclared e f = absurd cc
kind-declared (alias_of base) e f = absurd cc
kind-declared (set_of members) e f = absurd cc
kind-declared (parameter_of entries) e f = absurd cc
kind-declared (variable_of type entries) e f = absurd cc
kind-declared (equation_of entries) e f = absurd cc
kind-declared (model_with model solver) e f = absurd cc

-- an equation stays one where a model is declared
equation-one : (state : State) (name n : ℕ) → is_equation (declared_kind state n) ≡ true → is_equation (declared_kind (declare_model state name) n) ≡ true
equation-one state name n e = by (is_undeclared (symbol_at state name).content) refl (name == n) refl
  where
    by : (b : Bool) → is_undeclared (symbol_at state name).content ≡ b → (s : Bool) → (name == n) ≡ s → is_equation (declared_kind (if b then put_at state name model_symbol else state) n) ≡ true
    by true q true r = absurd (kind-declared (symbol_at state n).content e (ap (λ (k : ℕ). is_undeclared (symbol_at state k).content) (sym (eqb-true name n r)) ∙ q))
    by true q false r =
        ap (λ (s : Symbol). is_equation (kind_in s.content)) (read-at (set state.symbols name model_symbol) n ∙ get_or-set_other state.symbols name n model_symbol no_symbol (λ f. absurd (let g = eq-eqb name n (sym f) in cc)) ∙ sym (read-at state.symbols n)) ∙ e
    by false q s r = e

equation-many : (models : List ModelDecl) (state : State) (n : ℕ) → is_equation (declared_kind state n) ≡ true → is_equation (declared_kind (declare_models state models) n) ≡ true
equation-many [] state n e = e
equation-many (model ∷ models) state n e =
    equation-many models (declare_model state model.named.name) n (equation-one state model.named.name n e)

equations-many : (models : List ModelDecl) (state : State) (ns : List Named) → AreEquations state ns → AreEquations (declare_models state models) ns
equations-many models state [] a = tt
equations-many models state (named ∷ ns) a = (equation-many models state named.name a.0, equations-many models state ns a.1)

module _ {F : Type 0} where
  listing-equations : (known : Known F) (ns : List Named) → AreClean known (map (λ (equation : Named). (equation.at, listing equation.name)) ns) → AreEquations known.state ns
  listing-equations known [] a = tt
  listing-equations known (named ∷ ns) a =
      (not-false (is_equation (declared_kind known.state named.name)) (a.0 WrongKind), listing-equations known ns a.1)

  models-sound : (models : List ModelDecl) (known : Known F) → model_errors known models ≡ [] → AreOfEquations (declare_models known.state models) models
  models-sound [] known e = tt
  models-sound (model ∷ models) known e =
      let next = known_in known (declare_model known.state model.named.name) in
      let here = are-clean known (model_uses model) (none-left (errors_of known (model_uses model)) (model_errors next models) e) in
      (equations-many (model ∷ models) known.state model.equations (listing-equations known model.equations here.1), models-sound models next (none-right (errors_of known (model_uses model)) (model_errors next models) e))

module _ {F : Type 0} (value : F → Number) where
  -- a statement without an error lists equations alone
  listed-sound : (known : Known F) (statement : Stmt F) → IsListed value known.state statement.act (is_none (statement_error known statement))
  listed-sound known statement = by statement.act (first_error (act_errors known statement statement.act)) refl
    where
      by : (act : Act F) (o : Option CompileError) → first_error (act_errors known statement act) ≡ o → IsListed value known.state act (is_none o)
      by (Model models) None e = models-sound models known (none-first (model_errors known models) e)
      by (Model models) (Some error) e = tt
      by act o e = tt

-- ---- what is known

above-drawn : (state : State) (declared : List ℕ) (n : ℕ) → directly_above (drawn state) declared n ≡ directly_above state declared n
above-drawn state declared n =
    ap (λ (b : ℕ). if b == n then superset (drawn state) declared n else None) (base-drawn state n) ∙ ap (λ (o : Option ℕ). if base_of state n == n then o else None) (ap (λ b. if b then superset_in (drawn state) declared n (positions (drawn state) n) else None) (index-drawn state n) ∙ ap (λ (ps : List (Option ℕ)). if is_index_set state n then superset_in (drawn state) declared n ps else None) (positions-drawn state n) ∙ ap (λ (o : Option ℕ). if is_index_set state n then o else None) (within (positions state n)))
  where
    within : (domain : List (Option ℕ)) → superset_in (drawn state) declared n domain ≡ superset_in state declared n domain
    within [] = refl
    within (None ∷ []) = refl
    within (None ∷ x ∷ xs) = refl
    within (Some s ∷ []) =
        ap (λ b. if b then Some (base_of (drawn state) s) else None) (bounds-drawn state declared n s) ∙ ap (λ (b : ℕ). if is_index_set state s && is_met_before declared s (base_of state n) then Some b else None) (base-drawn state s)
    within (Some s ∷ x ∷ xs) = refl

module _ {F : Type 0} (value : F → Number) (program : Program F) (solvers : List (List ℕ)) where
  -- what is known, by its parts
  abbrev made : State → List ℕ → (ℕ → Option ℕ) → (ℕ → Bool) → (ℕ → Bool) → (ℕ → Bool) → List (ℕ × List ℕ) → Known F
  made state declared above assigned unordered defined models =
      record { value = value; state = state; declared = declared; above = above; assigned = assigned; unordered = unordered; defined = defined; models = models; solvers = solvers }

  -- what a check knows is what is known after these statements
  pub known-same : (facts : Facts) (past : Past F) → Occurs value program facts past → known_by value solvers facts ≡ known_after value program solvers past
  known-same facts past s =
      let state = state_after value (length program.names) past in
      let declared = names_before program past in
      let above : above_of facts.declared ≡ directly_above state declared = fun_ext (λ n. s.known.above n ∙ above-drawn facts.state (names facts) n ∙ ap (λ (t : State). directly_above t (names facts) n) s.state ∙ ap (λ (ns : List ℕ). directly_above state ns n) s.named) in
      let models : facts.models ≡ models_before state program past = s.models ∙ ap (λ (test : ℕ → Bool). map {B = ℕ × List ℕ} (λ (model : ℕ × List ℕ). (model.0, filter test model.1)) (filter (λ (model : ℕ × List ℕ). in_table (length program.names) model.0) (models_after [] past))) (fun_ext (λ n. ap is_equation (kind-drawn facts.state n) ∙ ap (λ (t : State). is_equation (declared_kind t n)) s.state)) in
      ap (λ (t : State). made t (names facts) (above_of facts.declared) (marked facts.dynamic) (marked facts.unordered) (marked facts.defined) facts.models) s.state
      ∙ ap (λ (ns : List ℕ). made state ns (above_of facts.declared) (marked facts.dynamic) (marked facts.unordered) (marked facts.defined) facts.models) s.named
      ∙ ap (λ (f : ℕ → Option ℕ). made state declared f (marked facts.dynamic) (marked facts.unordered) (marked facts.defined) facts.models) above
      ∙ ap (λ (f : ℕ → Bool). made state declared (directly_above state declared) f (marked facts.unordered) (marked facts.defined) facts.models) (fun_ext s.dynamic)
      ∙ ap (λ (f : ℕ → Bool). made state declared (directly_above state declared) (of_program program (is_among (dynamic_sets program))) f (marked facts.defined) facts.models) (fun_ext s.unordered)
      ∙ ap (λ (f : ℕ → Bool). made state declared (directly_above state declared) (of_program program (is_among (dynamic_sets program))) (of_program program (is_unordered past)) f facts.models) (fun_ext s.defined)
      ∙ ap (λ (ms : List (ℕ × List ℕ)). made state declared (directly_above state declared) (of_program program (is_among (dynamic_sets program))) (of_program program (is_unordered past)) (of_program program (is_defined past)) ms) models

-- ---- errors

module _ {F : Type 0} (value : F → Number) (solvers : List (List ℕ)) where
  -- the error of a statement, where this is known before it
  abbrev pub error_after : Facts → Stmt F → Option CompileError
  error_after facts statement = statement_error (known_by value solvers facts) statement

  -- the error of each of some statements, where this is known before the first
  abbrev pub each_from : Facts → List (Stmt F) → List (Option CompileError)
  each_from facts [] = []
  each_from facts (statement ∷ rest) =
      error_after facts statement ∷ each_from (facts_after value facts statement.act (is_none (error_after facts statement))) rest

  pub each-same : (program : Program F) (statements : List (Stmt F)) (facts : Facts) (past : Past F) → Occurs value program facts past → each_from facts statements ≡ each_error value program solvers past statements
  each-same program [] facts past occurs = refl
  each-same program (statement ∷ rest) facts past occurs =
      let sound = is_none (error_after facts statement) in
      let next = occurs-after value program facts past occurs statement sound (listed-sound value (known_by value solvers facts) statement) in
      ap (λ (errors : List (Option CompileError)). error_after facts statement ∷ errors) (each-same program rest (facts_after value facts statement.act sound) (past ++ (statement, sound) ∷ []) next)
      ∙ ap (λ (known : Known F). statement_error known statement ∷ each_error value program solvers (past ++ (statement, is_none (statement_error known statement)) ∷ []) rest) (known-same value program solvers facts past occurs)

  -- the error of each statement of a program
  pub each-all : (program : Program F) → each_from (first_facts program) program.statements.items ≡ statement_errors value program solvers
  each-all program = each-same program program.statements.items (first_facts program) [] (occurs-first value program)

  -- one statement more: its error is put last
  pub each-step : (statements : List (Stmt F)) (i : ℕ) (statement : Stmt F) (found after : List (Option CompileError)) (facts next : Facts) (error : Option CompileError) (all : List (Option CompileError)) → i < length statements → statement ≡ get_or statements i statement → error ≡ error_after facts statement → next ≡ facts_after value facts statement.act (is_none error) → after ≡ found ++ error ∷ [] → found ++ each_from facts (drop i statements) ≡ all → after ++ each_from next (drop (i + 1) statements) ≡ all
  each-step statements i statement found after facts next error all l is answer made put e =
      ap (λ es. es ++ each_from next (drop (i + 1) statements)) put
      ∙ append_assoc found (error ∷ []) (each_from next (drop (i + 1) statements))
      ∙ ap (λ es. found ++ es) (ap (λ (f : Facts). error ∷ each_from f (drop (i + 1) statements)) made ∙ ap (λ (o : Option CompileError). o ∷ each_from (facts_after value facts statement.act (is_none o)) (drop (i + 1) statements)) answer ∙ sym (ap (each_from facts) (drop_more statements i statement l ∙ ap (λ s. s ∷ drop (i + 1) statements) (sym is))))
      ∙ e

  -- all statements
  pub each-end : (statements : List (Stmt F)) (i : ℕ) (found : List (Option CompileError)) (facts : Facts) (all : List (Option CompileError)) → length statements ≤ i → found ++ each_from facts (drop i statements) ≡ all → found ≡ all
  each-end statements i found facts all l e =
      sym (append-nil found) ∙ sym (ap (λ ss. found ++ each_from facts ss) (drop_all i statements l)) ∙ e
