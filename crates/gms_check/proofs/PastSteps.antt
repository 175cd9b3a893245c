-- One statement more: what is known after it, and the errors of a program.
use mathlib.Core.Bool.{and-false, and-true, or-false}
use Rattle.std.proofs.Common.{◌≡◌, ℕ, Bool, true, false, not, ◌==◌, ◌&&◌, ◌||◌, List, [], ◌∷◌, ◌++◌, length, map, refl, sym, ap, ◌∙◌, subst, append_assoc, Result, Ok, Err, if◌then◌else◌, inl}
use Rattle.std.specs.Prelude.{filter, flat_map, nat_lt, slice_set}
use Rattle.std.specs.List.{fold, list_any}
use Rattle.std.proofs.lemmas.List.{append-nil, length-set}
use Rattle.gq_number.specs.Number.{Number}
use Rattle.gms_ast.specs.declared.word.Named.{Named}
use Rattle.gms_ast.specs.declared.declaration.DeclKind.{DeclKind}
use Rattle.gms_ast.specs.declared.declaration.DeclKind.TheVariants as declaring
use Rattle.gms_ast.specs.declared.declaration.Decl.{Decl}
use Rattle.gms_ast.specs.declared.declaration.ModelDecl.{ModelDecl}
use Rattle.gms_ast.specs.declared.program.Act.{Act}
use Rattle.gms_ast.specs.declared.program.Act.TheVariants.{Declare, Alias, Define, Model}
use Rattle.gms_ast.specs.declared.program.Stmt.{Stmt}
use Rattle.gms_ast.specs.declared.program.Program.{Program}
use Rattle.gms_store.specs.State.{Content, undeclared, alias_of, set_of, parameter_of, variable_of, equation_of, model_with, State, symbol_at}
use Rattle.gms_store.specs.Declarations.{declare_alias, declare_each, declare_models, declared_by, is_undeclared, kind_in, names_of, positions_of}
use Rattle.gms_set.specs.declared.fault.SetFault.{SetFault}
use Rattle.gms_set.specs.Expansion.{ExpandedData, expanded}
use Rattle.gms_scope.specs.Data.{is_ascending, labels_of_items}
use Rattle.gms_scope.specs.Facts.{Facts, marked, model_entry, names, with_declared, with_model, with_model_name, with_unordered}
use Rattle.gms_scope.specs.Names.{is_equation, has_no_declaration, declared_kind}
use Rattle.gms_check.specs.InnerChanges.{after_declaration, after_item, after_items, facts_after, with_given, with_model_names, with_models, with_order}
use Rattle.gms_check.specs.Past.{Past, after_act, defines, equations_declared, equations_listed, gives_unordered, models_declared_by, names_declared, numbers_of_names, with_data, with_item}
use Rattle.gms_check.proofs.Outlines.{drawn, kind-drawn}
use Rattle.gms_check.proofs.KnownNames.{IsKnown}
use Rattle.gms_check.proofs.KnownFacts.{AreSettled, FactsGo, Grows, alias-goes, equation_names, goes-none, in_table, is_equation_in, item_names, items-go, items-keeps, kept-equations, model_names-keeps, models-go, settled-grows}
use Rattle.gms_check.proofs.PastFacts.{AreFixed, Occurs, equations_before, listed_in, mark-one, occurs-more}

-- ---- tests

or_assoc : (a b c : Bool) → ((a || b) || c) ≡ (a || (b || c))
or_assoc true b c = refl
or_assoc false b c = refl

and-or : (a b c : Bool) → ((a && b) || (a && c)) ≡ (a && (b || c))
and-or true b c = refl
and-or false b c = refl

unmarked : (m l : Bool) → m ≡ (m || (l && false))
unmarked m l = sym (ap (λ b. m || b) (and-false l) ∙ or-false m)

-- ---- the order of labels

module _ {F : Type 0} where
  -- what is known after the order of the labels of sets was examined
  abbrev ordered : Facts → List (Decl F) → Facts
  ordered facts items =
      fold (λ facts (item : Decl F). if is_ascending (labels_of_items item.items) then facts else with_unordered facts item.named.name) facts items

  ordered-same : (items : List (Decl F)) (facts : Facts) → ordered facts items ≡ record facts { unordered = (ordered facts items).unordered }
  ordered-same [] facts = refl
  ordered-same (item ∷ items) facts =
      by (is_ascending (labels_of_items item.items)) (ordered-same items)
    where
      by : (b : Bool) → ((facts : Facts) → ordered facts items ≡ record facts { unordered = (ordered facts items).unordered }) → ordered (if b then facts else with_unordered facts item.named.name) items ≡ record facts { unordered = (ordered (if b then facts else with_unordered facts item.named.name) items).unordered }
      by true rest = rest facts
      by false rest = rest (with_unordered facts item.named.name)

  ordered-length : (items : List (Decl F)) (facts : Facts) → length (ordered facts items).unordered ≡ length facts.unordered
  ordered-length [] facts = refl
  ordered-length (item ∷ items) facts =
      by (is_ascending (labels_of_items item.items)) (ordered-length items)
    where
      by : (b : Bool) → ((facts : Facts) → length (ordered facts items).unordered ≡ length facts.unordered) → length (ordered (if b then facts else with_unordered facts item.named.name) items).unordered ≡ length facts.unordered
      by true rest = rest facts
      by false rest = rest (with_unordered facts item.named.name) ∙ length-set facts.unordered item.named.name true

  -- whether a name is given its labels in another order
  abbrev is_turned : ℕ → Decl F → Bool
  is_turned n item = item.named.name == n && not (is_ascending (labels_of_items item.items))

  ordered-marked : (n : ℕ) (items : List (Decl F)) (facts : Facts) → marked (ordered facts items).unordered n ≡ (marked facts.unordered n || (nat_lt n (length facts.unordered) && list_any (is_turned n) items))
  ordered-marked n [] facts = unmarked (marked facts.unordered n) (nat_lt n (length facts.unordered))
  ordered-marked n (item ∷ items) facts =
      by (is_ascending (labels_of_items item.items)) (ordered-marked n items)
    where
      by : (b : Bool) → ((facts : Facts) → marked (ordered facts items).unordered n ≡ (marked facts.unordered n || (nat_lt n (length facts.unordered) && list_any (is_turned n) items))) → marked (ordered (if b then facts else with_unordered facts item.named.name) items).unordered n ≡ (marked facts.unordered n || (nat_lt n (length facts.unordered) && ((item.named.name == n && not b) || list_any (is_turned n) items)))
      by true rest =
          rest facts ∙ ap (λ c. marked facts.unordered n || (nat_lt n (length facts.unordered) && (c || list_any (is_turned n) items))) (sym (and-false (item.named.name == n)))
      by false rest =
          rest (with_unordered facts item.named.name)
          ∙ ap (λ (k : ℕ). marked (slice_set facts.unordered item.named.name true) n || (nat_lt n k && list_any (is_turned n) items)) (length-set facts.unordered item.named.name true)
          ∙ ap (λ c. c || (nat_lt n (length facts.unordered) && list_any (is_turned n) items)) (mark-one facts.unordered item.named.name n)
          ∙ or_assoc (marked facts.unordered n) (nat_lt n (length facts.unordered) && (item.named.name == n)) (nat_lt n (length facts.unordered) && list_any (is_turned n) items)
          ∙ ap (λ c. marked facts.unordered n || c) (and-or (nat_lt n (length facts.unordered)) (item.named.name == n) (list_any (is_turned n) items))
          ∙ ap (λ c. marked facts.unordered n || (nat_lt n (length facts.unordered) && (c || list_any (is_turned n) items))) (sym (and-true (item.named.name == n)))

  order-same : (kind : DeclKind) (facts : Facts) (items : List (Decl F)) → with_order kind facts items ≡ record facts { unordered = (with_order kind facts items).unordered }
  order-same declaring.Set facts items = ordered-same items facts
  order-same declaring.Parameter facts items = refl
  order-same declaring.Scalar facts items = refl
  order-same declaring.Table facts items = refl
  order-same declaring.Free facts items = refl
  order-same declaring.Positive facts items = refl
  order-same declaring.Negative facts items = refl
  order-same declaring.Discrete facts items = refl
  order-same declaring.Equation facts items = refl

  order-length : (kind : DeclKind) (facts : Facts) (items : List (Decl F)) → length (with_order kind facts items).unordered ≡ length facts.unordered
  order-length declaring.Set facts items = ordered-length items facts
  order-length declaring.Parameter facts items = refl
  order-length declaring.Scalar facts items = refl
  order-length declaring.Table facts items = refl
  order-length declaring.Free facts items = refl
  order-length declaring.Positive facts items = refl
  order-length declaring.Negative facts items = refl
  order-length declaring.Discrete facts items = refl
  order-length declaring.Equation facts items = refl

  order-marked : (n : ℕ) (kind : DeclKind) (facts : Facts) (items : List (Decl F)) → marked (with_order kind facts items).unordered n ≡ (marked facts.unordered n || (nat_lt n (length facts.unordered) && gives_unordered n (Declare kind items)))
  order-marked n declaring.Set facts items = ordered-marked n items facts
  order-marked n declaring.Parameter facts items = unmarked (marked facts.unordered n) (nat_lt n (length facts.unordered))
  order-marked n declaring.Scalar facts items = unmarked (marked facts.unordered n) (nat_lt n (length facts.unordered))
  order-marked n declaring.Table facts items = unmarked (marked facts.unordered n) (nat_lt n (length facts.unordered))
  order-marked n declaring.Free facts items = unmarked (marked facts.unordered n) (nat_lt n (length facts.unordered))
  order-marked n declaring.Positive facts items = unmarked (marked facts.unordered n) (nat_lt n (length facts.unordered))
  order-marked n declaring.Negative facts items = unmarked (marked facts.unordered n) (nat_lt n (length facts.unordered))
  order-marked n declaring.Discrete facts items = unmarked (marked facts.unordered n) (nat_lt n (length facts.unordered))
  order-marked n declaring.Equation facts items = unmarked (marked facts.unordered n) (nat_lt n (length facts.unordered))

  kind-equations : (kind : DeclKind) (items : List (Decl F)) → equations_declared (Declare kind items) ≡ equation_names kind (map (λ (item : Decl F). item.named.name) items)
  kind-equations declaring.Set items = refl
  kind-equations declaring.Parameter items = refl
  kind-equations declaring.Scalar items = refl
  kind-equations declaring.Table items = refl
  kind-equations declaring.Free items = refl
  kind-equations declaring.Positive items = refl
  kind-equations declaring.Negative items = refl
  kind-equations declaring.Discrete items = refl
  kind-equations declaring.Equation items = refl

-- ---- models

-- names that are all equations
abbrev pub AreEquations : State → List Named → Type 0
AreEquations state [] = Unit {0}
AreEquations state (named ∷ ns) = (is_equation (declared_kind state named.name) ≡ true) × AreEquations state ns

-- models that list equations alone
abbrev pub AreOfEquations : State → List ModelDecl → Type 0
AreOfEquations state [] = Unit {0}
AreOfEquations state (model ∷ models) = AreEquations state model.equations × AreOfEquations state models

-- the same, where their statement has no error
abbrev pub AreOfEquationsIf : Bool → State → List ModelDecl → Type 0
AreOfEquationsIf true state models = AreOfEquations state models
AreOfEquationsIf false state models = Unit {0}

models-same : (sound : Bool) (models : List ModelDecl) (facts : Facts) → with_models sound facts models ≡ record facts { models = facts.models ++ flat_map (λ (model : ModelDecl). model_entry (length facts.defined) model.named.name (equations_listed facts.equations sound model)) models }
models-same sound [] facts = ap (λ (ms : List (ℕ × List ℕ)). record facts { models = ms }) (sym (append-nil facts.models))
models-same sound (model ∷ models) facts =
    models-same sound models (with_model facts model.named.name (equations_listed facts.equations sound model)) ∙ ap (λ (ms : List (ℕ × List ℕ)). record facts { models = ms }) (append_assoc facts.models (model_entry (length facts.defined) model.named.name (equations_listed facts.equations sound model)) (flat_map (λ (model : ModelDecl). model_entry (length facts.defined) model.named.name (equations_listed facts.equations sound model)) models))

names-state : (models : List ModelDecl) (facts : Facts) → (with_model_names facts models).state ≡ declare_models facts.state models
names-state [] facts = refl
names-state (model ∷ models) facts = names-state models (with_model_name facts model.named.name)

known_kind : (c : Content) → is_equation (kind_in c) ≡ true → is_undeclared c ≡ false
known_kind undeclared e = absurd cc
known_kind (alias_of base) e = refl
known_kind (set_of members) e = refl
known_kind (parameter_of entries) e = refl
known_kind (variable_of type entries) e = refl
known_kind (equation_of entries) e = refl
known_kind (model_with model solver) e = refl

module _ (count : ℕ) (state : State) where
  all-filtered : (ns : List Named) → AreEquations state ns → filter (is_equation_in (drawn state)) (numbers_of_names ns) ≡ numbers_of_names ns
  all-filtered [] a = refl
  all-filtered (named ∷ ns) a =
      ap (λ (b : Bool). if b then named.name ∷ filter (is_equation_in (drawn state)) (numbers_of_names ns) else filter (is_equation_in (drawn state)) (numbers_of_names ns)) (ap is_equation (kind-drawn state named.name) ∙ a.0) ∙ ap (λ (ms : List ℕ). named.name ∷ ms) (all-filtered ns a.1)

  equation-known : (n : ℕ) → is_equation (declared_kind state n) ≡ true → has_no_declaration (drawn state) n ≡ false
  equation-known n e = known_kind (symbol_at (drawn state) n).content (ap is_equation (kind-drawn state n) ∙ e)

  all-settled : (ns : List Named) → AreEquations state ns → AreSettled count (drawn state) (numbers_of_names ns)
  all-settled [] a = tt
  all-settled (named ∷ ns) a = (inl (equation-known named.name a.0), all-settled ns a.1)

  module _ (had all : List ℕ) (same : had ≡ filter (is_equation_in (drawn state)) all) (settled : AreSettled count (drawn state) all) where
    one-listed : (sound : Bool) (model : ModelDecl) → (sound ≡ true → AreEquations state model.equations) → (equations_listed had sound model ≡ filter (is_equation_in (drawn state)) (equations_listed all sound model)) × AreSettled count (drawn state) (equations_listed all sound model)
    one-listed false model right = (refl, tt)
    one-listed true model right = by model.all
      where
        by : (b : Bool) → ((if b then had else numbers_of_names model.equations) ≡ filter (is_equation_in (drawn state)) (if b then all else numbers_of_names model.equations)) × AreSettled count (drawn state) (if b then all else numbers_of_names model.equations)
        by true = (same, settled)
        by false = (sym (all-filtered model.equations (right refl)), all-settled model.equations (right refl))

    if_first : (sound : Bool) (model : ModelDecl) (models : List ModelDecl) → AreOfEquationsIf sound state (model ∷ models) → sound ≡ true → AreEquations state model.equations
    if_first true model models a e = a.0
    if_first false model models a e = absurd cc

    if_rest : (sound : Bool) (model : ModelDecl) (models : List ModelDecl) → AreOfEquationsIf sound state (model ∷ models) → AreOfEquationsIf sound state models
    if_rest true model models a = a.1
    if_rest false model models a = tt

    models-listed : (sound : Bool) (models : List ModelDecl) → AreOfEquationsIf sound state models → flat_map (λ (model : ModelDecl). model_entry count model.named.name (equations_listed had sound model)) models ≡ listed_in count (drawn state) (map {B = ℕ × List ℕ} (λ (model : ModelDecl). (model.named.name, equations_listed all sound model)) models)
    models-listed sound [] a = refl
    models-listed sound (model ∷ models) a =
        ap (λ (es : List ℕ). model_entry count model.named.name es ++ flat_map (λ (model : ModelDecl). model_entry count model.named.name (equations_listed had sound model)) models) (one-listed sound model (if_first sound model models a)).0
        ∙ by (nat_lt model.named.name count) (models-listed sound models (if_rest sound model models a))
      where
        by : (b : Bool) → flat_map (λ (model : ModelDecl). model_entry count model.named.name (equations_listed had sound model)) models ≡ listed_in count (drawn state) (map {B = ℕ × List ℕ} (λ (model : ModelDecl). (model.named.name, equations_listed all sound model)) models) → (if b then (model.named.name, filter (is_equation_in (drawn state)) (equations_listed all sound model)) ∷ [] else []) ++ flat_map (λ (model : ModelDecl). model_entry count model.named.name (equations_listed had sound model)) models ≡ map {B = ℕ × List ℕ} (λ (model : ℕ × List ℕ). (model.0, filter (is_equation_in (drawn state)) model.1)) (if b && true then (model.named.name, equations_listed all sound model) ∷ filter (λ (model : ℕ × List ℕ). in_table count model.0) (map {B = ℕ × List ℕ} (λ (model : ModelDecl). (model.named.name, equations_listed all sound model)) models) else filter (λ (model : ℕ × List ℕ). in_table count model.0) (map {B = ℕ × List ℕ} (λ (model : ModelDecl). (model.named.name, equations_listed all sound model)) models))
        by true e = ap (λ (rest : List (ℕ × List ℕ)). (model.named.name, filter (is_equation_in (drawn state)) (equations_listed all sound model)) ∷ rest) e
        by false e = e

    models-fixed : (sound : Bool) (models : List ModelDecl) → AreOfEquationsIf sound state models → AreFixed count (drawn state) (map {B = ℕ × List ℕ} (λ (model : ModelDecl). (model.named.name, equations_listed all sound model)) models)
    models-fixed sound [] a = tt
    models-fixed sound (model ∷ models) a =
        ((one-listed sound model (if_first sound model models a)).1, models-fixed sound models (if_rest sound model models a))

-- ---- one statement more

module _ {F : Type 0} (value : F → Number) where
  given-state : (g : Facts) (name : ℕ) (r : Result (ExpandedData F) SetFault) → (with_given value g name r).state ≡ with_data value g.state name r
  given-state g name (Ok given) = refl
  given-state g name (Err fault) = refl

  items-state : (kind : DeclKind) (items : List (Decl F)) (facts : Facts) → (after_items value kind true facts items).state ≡ fold (with_item value kind) facts.state items
  items-state kind [] facts = refl
  items-state kind (item ∷ items) facts =
      items-state kind items (after_item value kind true facts item) ∙ ap (λ (state : State). fold (with_item value kind) state items) (given-state (with_declared kind (names_of item.domain) facts item.named.name) item.named.name (expanded facts.state (positions_of kind (names_of item.domain)) item.items))

  names-only : (kind : DeclKind) (items : List (Decl F)) (facts : Facts) → (after_items value kind false facts items).state ≡ declare_each kind facts.state items
  names-only kind [] facts = refl
  names-only kind (item ∷ items) facts = names-only kind items (with_declared kind (names_of item.domain) facts item.named.name)

  -- what an act asks of its models, where its statement has no error
  abbrev pub IsListed : State → Act F → Bool → Type 0
  IsListed state (Model models) sound = AreOfEquationsIf sound (declare_models state models) models
  IsListed state act sound = Unit {0}

  -- the state after an act
  abbrev pub state_by : State → Act F → Bool → State
  state_by state act sound = if sound then after_act value state act else declared_by state act

  same_state : (state : State) (b : Bool) → (if b then state else state) ≡ state
  same_state state true = refl
  same_state state false = refl

  module _ (program : Program F) where
    -- What one more act changes in the facts, after these statements.
    pub record Step (facts after : Facts) (past : Past F) (act : Act F) (sound : Bool) : Type 0 where
      pub state : after.state ≡ state_by facts.state act sound
      pub go : FactsGo (length program.names) facts after (names_declared act) (equations_declared act)
      pub dynamic : after.dynamic ≡ facts.dynamic
      pub unordered_size : length after.unordered ≡ length program.names
      pub unordered : (n : ℕ) → marked after.unordered n ≡ (marked facts.unordered n || (nat_lt n (length program.names) && (sound && gives_unordered n act)))
      pub defined_size : length after.defined ≡ length program.names
      pub defined : (n : ℕ) → marked after.defined n ≡ (marked facts.defined n || (nat_lt n (length program.names) && defines n act))
      pub models : after.models ≡ facts.models ++ listed_in (length program.names) (drawn after.state) (models_declared_by (equations_before past) sound act)
      pub fixed : AreFixed (length program.names) (drawn after.state) (models_declared_by (equations_before past) sound act)

    module _ (facts : Facts) (past : Past F) (occurs : Occurs value program facts past) where
      unmarked-order : (sound : Bool) (n : ℕ) → marked facts.unordered n ≡ (marked facts.unordered n || (nat_lt n (length program.names) && (sound && false)))
      unmarked-order sound n =
          unmarked (marked facts.unordered n) (nat_lt n (length program.names)) ∙ ap (λ b. marked facts.unordered n || (nat_lt n (length program.names) && b)) (sym (and-false sound))

      -- an act that declares and defines nothing
      step-none : (act : Act F) (sound : Bool) → facts.state ≡ state_by facts.state act sound → names_declared act ≡ [] → equations_declared act ≡ [] → ((n : ℕ) → gives_unordered n act ≡ false) → ((n : ℕ) → defines n act ≡ false) → models_declared_by (equations_before past) sound act ≡ [] → Step facts facts past act sound
      step-none act sound state none_named none_equated none_turned none_defined none_modelled = record {
        state = state;
        go = subst (λ (ns : List ℕ). FactsGo (length program.names) facts facts ns (equations_declared act)) (sym none_named) (subst (λ (es : List ℕ). FactsGo (length program.names) facts facts [] es) (sym none_equated) (goes-none (length program.names) (drawn facts.state) facts.declared facts.equations occurs.known));
        dynamic = refl;
        unordered_size = occurs.unordered_size;
        unordered = λ n. unmarked-order sound n ∙ ap (λ b. marked facts.unordered n || (nat_lt n (length program.names) && (sound && b))) (sym (none_turned n));
        defined_size = occurs.defined_size;
        defined = λ n. unmarked (marked facts.defined n) (nat_lt n (length program.names)) ∙ ap (λ b. marked facts.defined n || (nat_lt n (length program.names) && b)) (sym (none_defined n));
        models = sym (append-nil facts.models) ∙ ap (λ (ms : List (ℕ × List ℕ)). facts.models ++ listed_in (length program.names) (drawn facts.state) ms) (sym none_modelled);
        fixed = subst (AreFixed (length program.names) (drawn facts.state)) (sym none_modelled) tt;
      }

      -- declarations of names
      step-declare : (kind : DeclKind) (items : List (Decl F)) (sound : Bool) → Step facts (after_declaration value kind sound facts items) past (Declare kind items) sound
      step-declare kind items false =
          let after = after_items value kind false facts items in
          let keeps = items-keeps value kind false items facts in
          let go = items-go value (length program.names) kind false items facts occurs.known occurs.defined_size in
          record {
            state = names-only kind items facts;
            go = subst (λ (es : List ℕ). FactsGo (length program.names) facts after (item_names value items) es) (sym (kind-equations kind items)) go;
            dynamic = keeps.dynamic;
            unordered_size = ap length keeps.unordered ∙ occurs.unordered_size;
            unordered = λ n. ap (λ (ms : List Bool). marked ms n) keeps.unordered ∙ unmarked-order false n;
            defined_size = ap length keeps.defined ∙ occurs.defined_size;
            defined = λ n. ap (λ (ms : List Bool). marked ms n) keeps.defined ∙ unmarked (marked facts.defined n) (nat_lt n (length program.names));
            models = keeps.models ∙ sym (append-nil facts.models);
            fixed = tt;
          }
      step-declare kind items true =
          let given = after_items value kind true facts items in
          let after = with_order kind given items in
          let same = order-same kind given items in
          let keeps = items-keeps value kind true items facts in
          let go = items-go value (length program.names) kind true items facts occurs.known occurs.defined_size in
          record {
            state = ap (λ (f : Facts). f.state) same ∙ items-state kind items facts;
            go = subst (λ (es : List ℕ). FactsGo (length program.names) facts after (item_names value items) es) (sym (kind-equations kind items)) (subst (λ (f : Facts). FactsGo (length program.names) facts f (item_names value items) (equation_names kind (item_names value items))) (sym same) go);
            dynamic = ap (λ (f : Facts). f.dynamic) same ∙ keeps.dynamic;
            unordered_size = order-length kind given items ∙ ap length keeps.unordered ∙ occurs.unordered_size;
            unordered = λ n. order-marked n kind given items ∙ ap (λ (ms : List Bool). marked ms n || (nat_lt n (length ms) && gives_unordered n (Declare kind items))) keeps.unordered ∙ ap (λ (k : ℕ). marked facts.unordered n || (nat_lt n k && gives_unordered n (Declare kind items))) occurs.unordered_size;
            defined_size = ap (λ (f : Facts). length f.defined) same ∙ ap length keeps.defined ∙ occurs.defined_size;
            defined = λ n. ap (λ (f : Facts). marked f.defined n) same ∙ ap (λ (ms : List Bool). marked ms n) keeps.defined ∙ unmarked (marked facts.defined n) (nat_lt n (length program.names));
            models = ap (λ (f : Facts). f.models) same ∙ keeps.models ∙ sym (append-nil facts.models);
            fixed = tt;
          }

      -- models
      step-model : (models : List ModelDecl) (sound : Bool) → AreOfEquationsIf sound (declare_models facts.state models) models → Step facts (with_models sound (with_model_names facts models) models) past (Model models) sound
      step-model models sound listed =
          let n = with_model_names facts models in
          let same = models-same sound models n in
          let keeps = model_names-keeps models facts in
          let go = models-go (length program.names) models facts occurs.known occurs.defined_size in
          let state = names-state models facts in
          let drawn_state : drawn (with_models sound n models).state ≡ drawn (declare_models facts.state models) = ap (λ (f : Facts). drawn f.state) same ∙ ap drawn state in
          let extended : drawn n.state ≡ drawn (declare_models facts.state models) = ap drawn state in
          let grows : Grows (drawn facts.state) (drawn (declare_models facts.state models)) = subst (Grows (drawn facts.state)) extended go.grows in
          let known : IsKnown (length program.names) (drawn (declare_models facts.state models)) n.declared = subst (λ (t : State). IsKnown (length program.names) t n.declared) extended go.known in
          let equations : n.equations ≡ filter (is_equation_in (drawn (declare_models facts.state models))) (equations_before past) = go.equated ∙ append-nil facts.equations ∙ occurs.equations ∙ sym (kept-equations (length program.names) (drawn facts.state) (drawn (declare_models facts.state models)) facts.declared n.declared occurs.known known grows (equations_before past) occurs.settled) in
          let settled : AreSettled (length program.names) (drawn (declare_models facts.state models)) (equations_before past) = settled-grows (length program.names) (drawn facts.state) (drawn (declare_models facts.state models)) grows (equations_before past) occurs.settled in
          let size : length n.defined ≡ length program.names = ap length keeps.defined ∙ occurs.defined_size in
          record {
            state = ap (λ (f : Facts). f.state) same ∙ state ∙ sym (same_state (declare_models facts.state models) sound);
            go = subst (λ (f : Facts). FactsGo (length program.names) facts f (map (λ (model : ModelDecl). model.named.name) models) []) (sym same) go;
            dynamic = ap (λ (f : Facts). f.dynamic) same ∙ keeps.dynamic;
            unordered_size = ap (λ (f : Facts). length f.unordered) same ∙ ap length keeps.unordered ∙ occurs.unordered_size;
            unordered = λ k. ap (λ (f : Facts). marked f.unordered k) same ∙ ap (λ (ms : List Bool). marked ms k) keeps.unordered ∙ unmarked-order sound k;
            defined_size = ap (λ (f : Facts). length f.defined) same ∙ size;
            defined = λ k. ap (λ (f : Facts). marked f.defined k) same ∙ ap (λ (ms : List Bool). marked ms k) keeps.defined ∙ unmarked (marked facts.defined k) (nat_lt k (length program.names));
            models = ap (λ (f : Facts). f.models) same ∙ ap (λ (ms : List (ℕ × List ℕ)). ms ++ flat_map (λ (model : ModelDecl). model_entry (length n.defined) model.named.name (equations_listed n.equations sound model)) models) keeps.models ∙ ap (λ (k : ℕ). facts.models ++ flat_map (λ (model : ModelDecl). model_entry k model.named.name (equations_listed n.equations sound model)) models) size ∙ ap (λ (ms : List (ℕ × List ℕ)). facts.models ++ ms) (models-listed (length program.names) (declare_models facts.state models) n.equations (equations_before past) equations settled sound models listed ∙ ap (λ (t : State). listed_in (length program.names) t (map {B = ℕ × List ℕ} (λ (model : ModelDecl). (model.named.name, equations_listed (equations_before past) sound model)) models)) (sym drawn_state));
            fixed = subst (λ (t : State). AreFixed (length program.names) t (map {B = ℕ × List ℕ} (λ (model : ModelDecl). (model.named.name, equations_listed (equations_before past) sound model)) models)) (sym drawn_state) (models-fixed (length program.names) (declare_models facts.state models) n.equations (equations_before past) equations settled sound models listed);
          }

      -- an act
      pub step : (act : Act F) (sound : Bool) → IsListed facts.state act sound → Step facts (facts_after value facts act sound) past act sound
      step (Declare kind items) sound listed = step-declare kind items sound
      step (Alias first second) sound listed = record {
        state = sym (same_state (declare_alias facts.state first.name second.name) sound);
        go = alias-goes (length program.names) facts first.name second.name occurs.known occurs.defined_size;
        dynamic = refl;
        unordered_size = occurs.unordered_size;
        unordered = λ n. unmarked-order sound n;
        defined_size = occurs.defined_size;
        defined = λ n. unmarked (marked facts.defined n) (nat_lt n (length program.names));
        models = sym (append-nil facts.models);
        fixed = tt;
      }
      step (Define equation indices condition left_at left side right_at right) sound listed = record {
        state = sym (same_state facts.state sound);
        go = goes-none (length program.names) (drawn facts.state) facts.declared facts.equations occurs.known;
        dynamic = refl;
        unordered_size = occurs.unordered_size;
        unordered = λ n. unmarked-order sound n;
        defined_size = length-set facts.defined equation.name true ∙ occurs.defined_size;
        defined = λ n. mark-one facts.defined equation.name n ∙ ap (λ (k : ℕ). marked facts.defined n || (nat_lt n k && (equation.name == n))) occurs.defined_size;
        models = sym (append-nil facts.models);
        fixed = tt;
      }
      step (Model models) sound listed = step-model models sound listed
      step act sound listed =
          step-none act sound (sym (same_state facts.state sound)) refl refl (λ n. refl) (λ n. refl) refl

      -- the invariant after a statement
      pub occurs-after : (statement : Stmt F) (sound : Bool) → IsListed facts.state statement.act sound → Occurs value program (facts_after value facts statement.act sound) (past ++ (statement, sound) ∷ [])
      occurs-after statement sound listed =
          let s = step statement.act sound listed in
          occurs-more value program facts (facts_after value facts statement.act sound) past occurs (statement, sound) s.state s.go s.dynamic s.unordered_size s.unordered s.defined_size s.defined s.models s.fixed
