-- The equations of a model that an accepted program solves are defined before the solve.
use Rattle.gms_check.proofs.Faultless.{none-first, none-left, none-right}
use Rattle.std.proofs.Common.{◌≡◌, ℕ, ◌<◌, nat_lt, Bool, true, false, not, ◌||◌, ◌&&◌, ◌==◌, cond, if◌then◌else◌, List, [], ◌∷◌, ◌++◌, map, filter, length, Some, None, Option, refl, sym, ap, ◌∙◌, subst, append_assoc, arith}
use Rattle.std.specs.Prelude.{flat_map}
use Rattle.std.specs.List.{fold}
use Rattle.std.proofs.lemmas.Bool.{both_ways, eqb-true, and_parts, not-false}
use Rattle.std.proofs.lemmas.List.{map-append}
use Rattle.std.proofs.lemmas.List.Concat.{flat_map-append}
use Rattle.std.proofs.lemmas.List.Sums.{fold-append}
use Rattle.gq_number.specs.Number.{Number}
use Rattle.gms_ast.specs.declared.declaration.Decl.{Decl}
use Rattle.gms_ast.specs.declared.declaration.DeclKind.{DeclKind}
use Rattle.gms_ast.specs.declared.declaration.DeclKind.TheVariants as declaring
use Rattle.gms_ast.specs.declared.declaration.ModelDecl.{ModelDecl}
use Rattle.gms_ast.specs.declared.program.Act.{Act, roll-Act}
use Rattle.gms_ast.specs.declared.program.Act.TheOpen.{Act-F}
use Rattle.gms_ast.specs.declared.program.Act.TheVariants.{Declare, Model, rolls-Declare, rolls-Alias, rolls-Assign, rolls-Define, rolls-Model, rolls-Solve, rolls-Display, rolls-Loop, rolls-Options, rolls-Abort}
use Rattle.gms_ast.specs.declared.program.Program.{Program}
use Rattle.gms_ast.specs.declared.program.Stmt.{Stmt}
use Rattle.gms_ast.specs.declared.word.Named.{Named}
use Rattle.gms_store.specs.declared.kind.SymbolKind.{SymbolKind}
use Rattle.gms_store.specs.declared.kind.SymbolKind.TheVariants as kind
use Rattle.gms_store.specs.Declarations.{is_free, retyped, blank_state, names_of, positions_of, content_of, symbol_of_kind, declared_again, kind_in, declare_model}
use Rattle.gms_store.specs.State.{State, Symbol, symbol_at, with_content}
use Rattle.gms_set.specs.Expansion.{expanded}
use Rattle.gms_scope.specs.Facts.{declared_equations}
use Rattle.gms_scope.specs.Names.{is_equation, has_no_declaration, declared_kind, positions}
use Rattle.gms_check.specs.declared.error.CompileError.{CompileError}
use Rattle.gms_check.specs.declared.error.ErrorKind.TheVariants.{Redeclared, WrongKind}
use Rattle.gms_check.specs.CompileErrors.{act_errors, declaration_errors, errors_after, errors_of, is_faultless, known_after, known_after_item, known_in, model_errors, statement_error}
use Rattle.gms_check.specs.DeclarationUses.{item_uses, kind_uses, model_uses}
use Rattle.gms_check.specs.Errors.{first_error}
use Rattle.gms_check.specs.Loaded.{IsAccepted, sound}
use Rattle.gms_check.specs.Names.{is_variable, may_be_typed, repeats_domain}
use Rattle.gms_check.specs.Past.{Known, equations_declared, equations_listed, models_after, models_declared_by, names_declared, numbers_of_names, after_act, after_statement, state_after, with_item, with_name}
use Rattle.gms_check.specs.Uses.{listing}
use Rattle.gms_check.proofs.Growing.{by_parts}
use Rattle.gms_check.proofs.NoErrors.{AreClean, are-clean}
use Rattle.gms_check.proofs.Soundness.{after-sound}
use Rattle.gms_rows.specs.Rows.{distinct_numbers, listed_equations, found, equations_declared_by, models_of, equations_from}
use Rattle.gms_run_laws.specs.Names.{Each}
use Rattle.gms_run_laws.proofs.Eaches.{each-left, each-right, each-both}
use Rattle.gms_run_laws.proofs.ModelRows.{filter-each}
use Rattle.gms_run_laws.proofs.Keeping.{one-fails, second-holds}
use Rattle.gms_run_laws.proofs.Models.{Fails, fails-given, fails-item, fails-model, fails-act, has_model, declares_model, none-found, or-right}
use Rattle.gms_run_laws.proofs.Padding.{Padded, below-of, put-here, padded-item, padded-after}

-- what is no equation
abbrev is_other : SymbolKind → Bool
is_other k = not (is_equation k)

-- a name is an equation
abbrev pub IsEquation : State → ℕ → Bool
IsEquation s q = is_equation (declared_kind s q)

equation-fails : (s : State) (q : ℕ) → IsEquation s q ≡ true → Fails is_other q s
equation-fails s q is = ap not is

fails-equation : (s : State) (q : ℕ) → Fails is_other q s → IsEquation s q ≡ true
fails-equation s q fails = not-false (IsEquation s q) fails

-- an equation is declared, and so stays one
module _ {F : Type 0} (v : F → Number) where
  stays-act : (s : State) (act : Act F) (q : ℕ) → IsEquation s q ≡ true → IsEquation (after_act v s act) q ≡ true
  stays-act s act q is =
      fails-equation (after_act v s act) q (fails-act is_other q v (λ i k at none. absurd (let e : ◌≡◌ {A = Bool} true false = none in let z : ⊥ = cc in z)) s (equation-fails s q is) act)

  stays-item : (k : DeclKind) (s : State) (item : Decl F) (q : ℕ) → IsEquation s q ≡ true → IsEquation (with_item v k s item) q ≡ true
  stays-item k s item q is =
      fails-equation (with_item v k s item) q (fails-item is_other q v k s item (λ at none. absurd (let e : ◌≡◌ {A = Bool} true false = none in let z : ⊥ = cc in z)) (equation-fails s q is))

  stays-items : (k : DeclKind) (items : List (Decl F)) (s : State) (q : ℕ) → IsEquation s q ≡ true → IsEquation (fold (with_item v k) s items) q ≡ true
  stays-items k [] s q is = is
  stays-items k (item ∷ items) s q is = stays-items k items (with_item v k s item) q (stays-item k s item q is)

  stays-sound : (statements : List (Stmt F)) (s : State) (q : ℕ) → IsEquation s q ≡ true → IsEquation (fold (after_statement v) s (sound statements)) q ≡ true
  stays-sound [] s q is = is
  stays-sound (statement ∷ statements) s q is = stays-sound statements (after_act v s statement.act) q (stays-act s statement.act q is)

stays-model : (s : State) (name q : ℕ) → IsEquation s q ≡ true → IsEquation (declare_model s name) q ≡ true
stays-model s name q is =
    fails-equation (declare_model s name) q (fails-model is_other q s name (λ at none. absurd (let e : ◌≡◌ {A = Bool} true false = none in let z : ⊥ = cc in z)) (equation-fails s q is))

stays-models : (models : List ModelDecl) (s : State) (q : ℕ) → IsEquation s q ≡ true → IsEquation (fold (λ state (model : ModelDecl). declare_model state model.named.name) s models) q ≡ true
stays-models [] s q is = is
stays-models (model ∷ models) s q is = stays-models models (declare_model s model.named.name) q (stays-model s model.named.name q is)

each-map : (p q : ℕ → Bool) → ((n : ℕ) → p n ≡ true → q n ≡ true) → (ns : List ℕ) → Each p ns → Each q ns
each-map p q more [] all = tt
each-map p q more (n ∷ ns) all = (more n all.0, each-map p q more ns all.1)

-- those that models list
abbrev pub AllListed : (ℕ → Bool) → List ModelDecl → Type 0
AllListed test [] = Unit {0}
AllListed test (model ∷ models) = Each test (numbers_of_names model.equations) × AllListed test models

-- a model with its equations
abbrev entry : List ℕ → ModelDecl → ℕ × List ℕ
entry declared model = (model.named.name, equations_listed declared true model)

-- ---- declarations of equations

module _ {F : Type 0} where
  -- a declaration without an error makes an equation of its name
  new-equation : (count : ℕ) (known : Known F) (item : Decl F) → AreClean known (item_uses known declaring.Equation item) → nat_lt item.named.name count ≡ true → length known.state.symbols ≡ count → IsEquation (with_item known.value declaring.Equation known.state item) item.named.name ≡ true
  new-equation count known item clean below many =
      fails-equation (with_item known.value declaring.Equation s item) name (fails-given is_other name known.value (with_name known.value declaring.Equation s item) name (expanded s (positions_of declaring.Equation domain) item.items) (ap (λ (x : Symbol). is_other (kind_in x.content)) here))
    where
      s : State
      s = known.state

      name : ℕ
      name = item.named.name

      domain : List (Option ℕ)
      domain = names_of item.domain

      unknown : has_no_declaration s name ≡ true
      unknown = by (has_no_declaration s name) refl
        where
          by : (b : Bool) → has_no_declaration s name ≡ b → b ≡ true
          by true e = refl
          by false known_name =
              let may : may_be_typed known declaring.Equation name domain ≡ true = one-fails (has_no_declaration s name) (may_be_typed known declaring.Equation name domain) (clean.0 Redeclared) known_name in
              let typed = (and_parts (is_variable (content_of declaring.Equation)) (repeats_domain s domain (positions s name)) (second-holds (is_free (symbol_at s name).content) (is_variable (content_of declaring.Equation) && repeats_domain s domain (positions s name)) may)).0 in absurd (let e : ◌≡◌ {A = Bool} false true = typed in let z : ⊥ = cc in z)

      within : name < length s.symbols
      within = subst (λ n. name < n) (sym many) (below-of name count below)

      here : symbol_at (with_name known.value declaring.Equation s item) name ≡ symbol_of_kind declaring.Equation domain
      here =
          put-here s.symbols name (declared_again declaring.Equation domain (symbol_at s name)) within
          ∙ ap (λ (b : Bool). cond b (symbol_of_kind declaring.Equation domain) (with_content (symbol_at s name) (retyped (symbol_at s name).content (content_of declaring.Equation)))) unknown

  new-equations : (count : ℕ) (known : Known F) (items : List (Decl F)) → declaration_errors known declaring.Equation items ≡ [] → Each (λ n. nat_lt n count) (map (λ (item : Decl F). item.named.name) items) → Padded count known.state known.state → Each (IsEquation (fold (with_item known.value declaring.Equation) known.state items)) (map (λ (item : Decl F). item.named.name) items)
  new-equations count known [] e all padded = tt
  new-equations count known (item ∷ items) e all padded =
      let k = declaring.Equation in
      let errors = errors_of known (item_uses known k item) in
      let none : errors ≡ [] = none-left errors (declaration_errors (known_after_item known k item) k items) e in
      let then_known = known_in known (with_item known.value k known.state item) in
      let next : known_after_item known k item ≡ then_known = ap (λ (es : List CompileError). known_in known (if is_faultless es then with_item known.value k known.state item else with_name known.value k known.state item)) none in
      let rest = sym (ap (λ (known : Known F). declaration_errors known k items) next) ∙ none-right errors (declaration_errors (known_after_item known k item) k items) e in
      let own = new-equation count known item (are-clean known (item_uses known k item) none) all.0 padded.size in
      (stays-items known.value k items (with_item known.value k known.state item) item.named.name own, new-equations count then_known items rest all.1 (padded-item count known.value k known.state known.state item all.0 padded))

  -- the equations that a model lists are such
  listed-equations : (known : Known F) (equations : List Named) → AreClean known (map (λ (equation : Named). (equation.at, listing equation.name)) equations) → Each (IsEquation known.state) (numbers_of_names equations)
  listed-equations known [] clean = tt
  listed-equations known (equation ∷ equations) clean =
      (not-false (IsEquation known.state equation.name) (clean.0 WrongKind), listed-equations known equations clean.1)

  listed-all : (known : Known F) (models : List ModelDecl) → model_errors known models ≡ [] → AllListed (IsEquation (fold (λ state (model : ModelDecl). declare_model state model.named.name) known.state models)) models
  listed-all known [] e = tt
  listed-all known (model ∷ models) e =
      let next = declare_model known.state model.named.name in
      let clean = are-clean known (model_uses model) (none-left (errors_of known (model_uses model)) (model_errors (known_in known next) models) e) in (
        each-map (IsEquation known.state) (IsEquation (fold (λ state (model : ModelDecl). declare_model state model.named.name) next models)) (λ n is. stays-models models next n (stays-model known.state model.named.name n is)) (numbers_of_names model.equations) (listed-equations known model.equations clean.1),
        listed-all (known_in known next) models (none-right (errors_of known (model_uses model)) (model_errors (known_in known next) models) e),
      )

  -- ---- acts

  equations-same : (act : Act F) → equations_declared act ≡ equations_declared_by act
  equations-same act = by_parts P by act
    where
      P : Act F → Type 0
      P a = equations_declared a ≡ equations_declared_by a

      kinds : (k : DeclKind) (items : List (Decl F)) → P (Declare k items)
      kinds declaring.Set items = refl
      kinds declaring.Parameter items = refl
      kinds declaring.Scalar items = refl
      kinds declaring.Table items = refl
      kinds declaring.Free items = refl
      kinds declaring.Positive items = refl
      kinds declaring.Negative items = refl
      kinds declaring.Discrete items = refl
      kinds declaring.Equation items = refl

      by : (layer : Act-F F (Act F) (Stmt F)) → P (roll-Act F layer)
      by (Act-F.Declare k items) = subst P (sym (rolls-Declare k items)) (kinds k items)
      by (Act-F.Alias one two) = subst P (sym (rolls-Alias one two)) refl
      by (Act-F.Assign target condition right_at right) = subst P (sym (rolls-Assign target condition right_at right)) refl
      by (Act-F.Define equation indices condition left_at left side right_at right) =
          subst P (sym (rolls-Define equation indices condition left_at left side right_at right)) refl
      by (Act-F.Model models) = subst P (sym (rolls-Model models)) refl
      by (Act-F.Solve model method objective maximize) = subst P (sym (rolls-Solve model method objective maximize)) refl
      by (Act-F.Display items) = subst P (sym (rolls-Display items)) refl
      by (Act-F.Loop control body) = subst P (sym (rolls-Loop control body)) refl
      by (Act-F.Options settings) = subst P (sym (rolls-Options settings)) refl
      by (Act-F.Abort condition items) = subst P (sym (rolls-Abort condition items)) refl

  models-same : (declared : List ℕ) (act : Act F) → models_declared_by declared true act ≡ map (entry declared) (models_of act)
  models-same declared act = by_parts P by act
    where
      P : Act F → Type 0
      P a = models_declared_by declared true a ≡ map (entry declared) (models_of a)

      by : (layer : Act-F F (Act F) (Stmt F)) → P (roll-Act F layer)
      by (Act-F.Declare k items) = subst P (sym (rolls-Declare k items)) refl
      by (Act-F.Alias one two) = subst P (sym (rolls-Alias one two)) refl
      by (Act-F.Assign target condition right_at right) = subst P (sym (rolls-Assign target condition right_at right)) refl
      by (Act-F.Define equation indices condition left_at left side right_at right) =
          subst P (sym (rolls-Define equation indices condition left_at left side right_at right)) refl
      by (Act-F.Model models) = subst P (sym (rolls-Model models)) refl
      by (Act-F.Solve model method objective maximize) = subst P (sym (rolls-Solve model method objective maximize)) refl
      by (Act-F.Display items) = subst P (sym (rolls-Display items)) refl
      by (Act-F.Loop control body) = subst P (sym (rolls-Loop control body)) refl
      by (Act-F.Options settings) = subst P (sym (rolls-Options settings)) refl
      by (Act-F.Abort condition items) = subst P (sym (rolls-Abort condition items)) refl

-- each statement declares and lists equations that are such
abbrev pub AllEquations : {F : Type 0} → (ℕ → Bool) → List (Stmt F) → Type 0
AllEquations test [] = Unit {0}
AllEquations test (s ∷ statements) = (Each test (equations_declared_by s.act) × AllListed test (models_of s.act)) × AllEquations test statements

-- ---- the equations of a model, by both definitions

-- what holds of each element of a list holds of each after repetitions are removed
once-each : (test : ℕ → Bool) (ns : List ℕ) → Each test ns → Each test (distinct_numbers ns)
once-each test [] all = tt
once-each test (n ∷ ns) all = (all.0, filter-each test (λ m. not (m == n)) (distinct_numbers ns) (once-each test ns all.1))

-- filtering by a test that all pass changes nothing
all-left : (p : ℕ → Bool) (ns : List ℕ) → Each p ns → filter p ns ≡ ns
all-left p [] all = refl
all-left p (n ∷ ns) all = ap (λ (b : Bool). cond b (n ∷ filter p ns) (filter p ns)) all.0 ∙ ap (λ (ms : List ℕ). n ∷ ms) (all-left p ns all.1)

module _ (names : ℕ) (is : ℕ → Bool) (ok : ℕ → Bool) (m : ℕ) (below : nat_lt m names ≡ true) where
  -- a model's equations that are such, and the models of the program
  abbrev kept : ℕ × List ℕ → ℕ × List ℕ
  kept model = (model.0, filter is model.1)

  abbrev of_table : ℕ × List ℕ → Bool
  of_table model = nat_lt model.0 names && true

  abbrev known_models : List (ℕ × List ℕ) → List (ℕ × List ℕ)
  known_models models = map kept (filter of_table models)

  -- the equations of the first of some models, by the check's word and by that of the rows
  first-model : (declared : List ℕ) (models : List ModelDecl) (rest : List (ℕ × List ℕ)) (es : List ℕ) → Each is declared → AllListed is models → found (distinct_numbers declared) m models ≡ Some es → Each ok (declared_equations (known_models (map (entry declared) models ++ rest)) m) → Each ok es
  first-model declared [] rest es all listed there oks = absurd (cc)
  first-model declared (model ∷ models) rest es all listed_all there oks =
      by (model.named.name == m) refl there oks (λ following oks. first-model declared models rest es all listed_all.1 following oks)
    where
      own_equations : List ℕ
      own_equations = equations_listed declared true model

      its : Each is own_equations
      its = pick model.all
        where
          pick : (b : Bool) → Each is (if b then declared else numbers_of_names model.equations)
          pick true = all
          pick false = listed_all.0

      here : (b : Bool) → Each ok (if b then declared else numbers_of_names model.equations) → Each ok (if b then distinct_numbers declared else distinct_numbers (map (λ (equation : Named). equation.name) model.equations))
      here true oks = once-each ok declared oks
      here false oks = once-each ok (numbers_of_names model.equations) oks

      own : declared_equations (known_models (map (entry declared) (model ∷ models) ++ rest)) m ≡ (if model.named.name == m then filter is own_equations else declared_equations (known_models (map (entry declared) models ++ rest)) m)
      own = table (nat_lt model.named.name names) refl
        where
          table : (b : Bool) → nat_lt model.named.name names ≡ b → declared_equations (map kept (cond (b && true) (entry declared model ∷ filter of_table (map (entry declared) models ++ rest)) (filter of_table (map (entry declared) models ++ rest)))) m ≡ (if model.named.name == m then filter is own_equations else declared_equations (known_models (map (entry declared) models ++ rest)) m)
          table true e = refl
          table false e = sym (ap (λ (b : Bool). if b then filter is own_equations else declared_equations (known_models (map (entry declared) models ++ rest)) m) (other (model.named.name == m) refl))
            where
              other : (b : Bool) → (model.named.name == m) ≡ b → b ≡ false
              other true same = absurd (both_ways (nat_lt model.named.name names) e (ap (λ n. nat_lt n names) (eqb-true model.named.name m same) ∙ below))
              other false same = refl

      by : (b : Bool) → (model.named.name == m) ≡ b → (if b then Some (listed_equations (distinct_numbers declared) model) else found (distinct_numbers declared) m models) ≡ Some es → Each ok (declared_equations (known_models (map (entry declared) (model ∷ models) ++ rest)) m) →
          (found (distinct_numbers declared) m models ≡ Some es → Each ok (declared_equations (known_models (map (entry declared) models ++ rest)) m) → Each ok es) → Each ok es
      by true same there oks next =
          let e : listed_equations (distinct_numbers declared) model ≡ es = cc in
          subst (Each ok) e (here model.all (subst (Each ok) (own ∙ ap (λ (b : Bool). if b then filter is own_equations else declared_equations (known_models (map (entry declared) models ++ rest)) m) same ∙ all-left is own_equations its) oks))
      by false same there oks next =
          next there (subst (Each ok) (own ∙ ap (λ (b : Bool). if b then filter is own_equations else declared_equations (known_models (map (entry declared) models ++ rest)) m) same) oks)

  -- models of other names are passed over
  other-models : (declared : List ℕ) (models : List ModelDecl) (rest : List (ℕ × List ℕ)) → found (distinct_numbers declared) m models ≡ None → declared_equations (known_models (map (entry declared) models ++ rest)) m ≡ declared_equations (known_models rest) m
  other-models declared [] rest none = refl
  other-models declared (model ∷ models) rest none =
      by (model.named.name == m) refl none (λ following. other-models declared models rest following)
    where
      by : (b : Bool) → (model.named.name == m) ≡ b → (if b then Some (listed_equations (distinct_numbers declared) model) else found (distinct_numbers declared) m models) ≡ None →
          (found (distinct_numbers declared) m models ≡ None → declared_equations (known_models (map (entry declared) models ++ rest)) m ≡ declared_equations (known_models rest) m) → declared_equations (known_models (map (entry declared) (model ∷ models) ++ rest)) m ≡ declared_equations (known_models rest) m
      by true same none next = absurd (cc)
      by false same none next = table (nat_lt model.named.name names)
        where
          table : (b : Bool) → declared_equations (map kept (cond (b && true) (entry declared model ∷ filter of_table (map (entry declared) models ++ rest)) (filter of_table (map (entry declared) models ++ rest)))) m ≡ declared_equations (known_models rest) m
          table true =
              ap (λ (b : Bool). if b then filter is (equations_listed declared true model) else declared_equations (known_models (map (entry declared) models ++ rest)) m) same ∙ next none
          table false = next none

  -- What holds of the equations that the check knows of a model holds of the model's equations,
  -- also with statements after them.
  pub model-equations : {F : Type 0} (declared : List ℕ) (statements others : List (Stmt F)) → declares_model m statements ≡ true → Each is declared → AllEquations is statements → Each ok (declared_equations (known_models (models_after declared (sound statements))) m) → Each ok (equations_from declared m (statements ++ others))
  model-equations declared [] others there all each oks = absurd (cc)
  model-equations declared (s ∷ statements) others there all each oks =
      by (found (distinct_numbers declared) m (models_of s.act)) refl (λ following more oks. model-equations (declared ++ equations_declared_by s.act) statements others following more each.1 oks)
    where
      rest : List (ℕ × List ℕ)
      rest = models_after (declared ++ equations_declared s.act) (sound statements)

      oks_here : Each ok (declared_equations (known_models (map (entry declared) (models_of s.act) ++ rest)) m)
      oks_here = subst (λ (ms : List (ℕ × List ℕ)). Each ok (declared_equations (known_models (ms ++ rest)) m)) (models-same declared s.act) oks

      by : (o : Option (List ℕ)) → found (distinct_numbers declared) m (models_of s.act) ≡ o →
          (declares_model m statements ≡ true → Each is (declared ++ equations_declared_by s.act) → Each ok (declared_equations (known_models (models_after (declared ++ equations_declared_by s.act) (sound statements))) m) → Each ok (equations_from (declared ++ equations_declared_by s.act) m (statements ++ others))) →
          Each ok (elim o [ Some equations ↦ equations | None ↦ equations_from (declared ++ equations_declared_by s.act) m (statements ++ others) ])
      by (Some equations) e next = first-model declared (models_of s.act) rest equations all each.0.1 e oks_here
      by None e next =
          next (later there) (each-both is declared (equations_declared_by s.act) all each.0.0)
          (subst (λ (ds : List ℕ). Each ok (declared_equations (known_models (models_after (declared ++ ds) (sound statements))) m)) (equations-same s.act) (subst (Each ok) (other-models declared (models_of s.act) rest e) oks_here))
        where
          later : (has_model m (models_of s.act) || declares_model m statements) ≡ true → declares_model m statements ≡ true
          later both = or-right (has_model m (models_of s.act)) (declares_model m statements) (none-found m (distinct_numbers declared) (models_of s.act) e) both

-- ---- the equations of an accepted program

module _ {F : Type 0} (v : F → Number) (program : Program F) (accepted : IsAccepted v program) (own : Each (λ n. nat_lt n (length program.names)) (flat_map (λ (s : Stmt F). names_declared s.act) program.statements.items)) where
  abbrev count : ℕ
  count = length program.names

  abbrev known_before : List (Stmt F) → Known F
  known_before before = known_after v program accepted.0 (sound before)

  -- what a statement without an error declares as equations, and lists as such
  act-equations : (known : Known F) (s : Stmt F) → statement_error known s ≡ None → Each (λ n. nat_lt n count) (names_declared s.act) → Padded count known.state known.state →
      Each (IsEquation (after_act known.value known.state s.act)) (equations_declared_by s.act) × AllListed (IsEquation (after_act known.value known.state s.act)) (models_of s.act)
  act-equations known s none names padded = by_parts Q by s.act refl names
    where
      Q : Act F → Type 0
      Q a = s.act ≡ a → Each (λ n. nat_lt n count) (names_declared a) → Each (IsEquation (after_act known.value known.state a)) (equations_declared_by a) × AllListed (IsEquation (after_act known.value known.state a)) (models_of a)

      no_errors : (a : Act F) → s.act ≡ a → act_errors known s a ≡ []
      no_errors a is = none-first (act_errors known s a) (sym (ap (λ (act : Act F). first_error (act_errors known s act)) is) ∙ none)

      kinds : (k : DeclKind) (items : List (Decl F)) → Q (Declare k items)
      kinds declaring.Equation items = λ is all.
          (new-equations count known items (none-right (errors_of known (kind_uses s.at declaring.Equation)) (declaration_errors known declaring.Equation items) (no_errors (Declare declaring.Equation items) is)) all padded, tt)
      kinds declaring.Set items = λ is all. (tt, tt)
      kinds declaring.Parameter items = λ is all. (tt, tt)
      kinds declaring.Scalar items = λ is all. (tt, tt)
      kinds declaring.Table items = λ is all. (tt, tt)
      kinds declaring.Free items = λ is all. (tt, tt)
      kinds declaring.Positive items = λ is all. (tt, tt)
      kinds declaring.Negative items = λ is all. (tt, tt)
      kinds declaring.Discrete items = λ is all. (tt, tt)

      by : (layer : Act-F F (Act F) (Stmt F)) → Q (roll-Act F layer)
      by (Act-F.Declare k items) = subst Q (sym (rolls-Declare k items)) (kinds k items)
      by (Act-F.Alias one two) = subst Q (sym (rolls-Alias one two)) (λ is all. (tt, tt))
      by (Act-F.Assign target condition right_at right) = subst Q (sym (rolls-Assign target condition right_at right)) (λ is all. (tt, tt))
      by (Act-F.Define equation indices condition left_at left side right_at right) =
          subst Q (sym (rolls-Define equation indices condition left_at left side right_at right)) (λ is all. (tt, tt))
      by (Act-F.Model models) = subst Q (sym (rolls-Model models)) (λ is all. (tt, listed-all known models (no_errors (Model models) is)))
      by (Act-F.Solve model method objective maximize) = subst Q (sym (rolls-Solve model method objective maximize)) (λ is all. (tt, tt))
      by (Act-F.Display items) = subst Q (sym (rolls-Display items)) (λ is all. (tt, tt))
      by (Act-F.Loop control body) = subst Q (sym (rolls-Loop control body)) (λ is all. (tt, tt))
      by (Act-F.Options settings) = subst Q (sym (rolls-Options settings)) (λ is all. (tt, tt))
      by (Act-F.Abort condition items) = subst Q (sym (rolls-Abort condition items)) (λ is all. (tt, tt))

  listed-more : (p q : ℕ → Bool) → ((n : ℕ) → p n ≡ true → q n ≡ true) → (models : List ModelDecl) → AllListed p models → AllListed q models
  listed-more p q more [] all = tt
  listed-more p q more (model ∷ models) all = (each-map p q more (numbers_of_names model.equations) all.0, listed-more p q more models all.1)

  -- the names that some of its statements declare are of its table
  names-then : (before rest : List (Stmt F)) → program.statements.items ≡ before ++ rest → Each (λ n. nat_lt n count) (flat_map (λ (s : Stmt F). names_declared s.act) before) × Each (λ n. nat_lt n count) (flat_map (λ (s : Stmt F). names_declared s.act) rest)
  names-then before rest is =
      let both = subst (λ (ns : List ℕ). Each (λ n. nat_lt n count) ns) (ap (flat_map (λ (s : Stmt F). names_declared s.act)) is ∙ flat_map-append (λ (s : Stmt F). names_declared s.act) before rest) own in
      (each-left (λ n. nat_lt n count) (flat_map (λ (s : Stmt F). names_declared s.act) before) (flat_map (λ (s : Stmt F). names_declared s.act) rest) both, each-right (λ n. nat_lt n count) (flat_map (λ (s : Stmt F). names_declared s.act) before) (flat_map (λ (s : Stmt F). names_declared s.act) rest) both)

  pub padded-then : (before rest : List (Stmt F)) → program.statements.items ≡ before ++ rest → Padded count (state_after v count (sound before)) (state_after v count (sound before))
  padded-then before rest is = padded-after count v count (omega arith) before (names-then before rest is).0

  module _ (before : List (Stmt F)) (outer : Stmt F) (tail : List (Stmt F)) (occurs : program.statements.items ≡ before ++ outer ∷ tail) where
    abbrev then_state : State
    then_state = state_after v count (sound before)

    parts : (done rest : List (Stmt F)) (s : Stmt F) → before ≡ done ++ s ∷ rest → program.statements.items ≡ done ++ s ∷ (rest ++ outer ∷ tail)
    parts done rest s is = occurs ∙ ap (λ (ss : List (Stmt F)). ss ++ outer ∷ tail) is ∙ append_assoc done (s ∷ rest) (outer ∷ tail)

    state-parts : (done rest : List (Stmt F)) (s : Stmt F) → before ≡ done ++ s ∷ rest → then_state ≡ fold (after_statement v) (after_act v (state_after v count (sound done)) s.act) (sound rest)
    state-parts done rest s is =
        ap (λ (ss : List (Stmt F)). state_after v count (sound ss)) is
        ∙ ap (state_after v count) (map-append {B = Stmt F × Bool} (λ (s : Stmt F). (s, true)) done (s ∷ rest))
        ∙ fold-append (after_statement v) (blank_state count) (sound done) (sound (s ∷ rest))

    pub all-equations : (done rest : List (Stmt F)) → before ≡ done ++ rest → AllEquations (IsEquation then_state) rest
    all-equations done [] is = tt
    all-equations done (s ∷ rest) is =
        let known = known_before done in
        let none = after-sound v program accepted.0 done [] s (rest ++ outer ∷ tail) (sym (ap (errors_after v program accepted.0 []) (parts done rest s is)) ∙ accepted.1) in
        let both = act-equations known s none (each-left (λ n. nat_lt n count) (names_declared s.act) (flat_map (λ (s : Stmt F). names_declared s.act) (rest ++ outer ∷ tail)) (names-then done (s ∷ (rest ++ outer ∷ tail)) (parts done rest s is)).1) (padded-then done (s ∷ (rest ++ outer ∷ tail)) (parts done rest s is)) in
        let more : (q : ℕ) → IsEquation (after_act v known.state s.act) q ≡ true → IsEquation then_state q ≡ true = λ q there. subst (λ (state : State). IsEquation state q ≡ true) (sym (state-parts done rest s is)) (stays-sound v rest (after_act v known.state s.act) q there) in
        ((each-map (IsEquation (after_act v known.state s.act)) (IsEquation then_state) more (equations_declared_by s.act) both.0, listed-more (IsEquation (after_act v known.state s.act)) (IsEquation then_state) more (models_of s.act) both.1), all-equations (done ++ s ∷ []) rest (is ∙ sym (append_assoc done (s ∷ []) rest)))
