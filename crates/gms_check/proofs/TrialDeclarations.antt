-- Names of a declaration that are checked and declared in sequence, until it is known whether all
-- are sound.
use Rattle.std.proofs.Common.{◌≡◌, ◌∙◌, ℕ, Bool, true, false, List, [], ◌∷◌, ◌++◌, Option, Some, None, Result, Ok, Err, refl, sym, ap, append_assoc, if◌then◌else◌}
use Rattle.std.specs.Prelude.{flat_map, is_none, is_some, length, map, not, take_while}
use Rattle.gq_number.specs.Number.{Number}
use Rattle.gms_labels.specs.declared.place.Place.{Place}
use Rattle.gms_ast.specs.declared.declaration.DeclKind.{DeclKind}
use Rattle.gms_ast.specs.declared.declaration.DeclKind.TheVariants as declaring
use Rattle.gms_ast.specs.declared.declaration.Decl.{Decl}
use Rattle.gms_ast.specs.declared.declaration.Item.{Item}
use Rattle.gms_ast.specs.declared.word.Named.{Named}
use Rattle.gms_store.specs.State.{State}
use Rattle.gms_store.specs.Declarations.{declare, names_of, positions_of}
use Rattle.gms_set.specs.declared.fault.SetFault.{SetFault}
use Rattle.gms_set.specs.Expansion.{ExpandedData, expanded}
use Rattle.gms_scope.specs.Data.{with_no_data}
use Rattle.gms_scope.specs.Facts.{Facts, marked, with_declared, without_data}
use Rattle.gms_check.specs.declared.error.CompileError.{CompileError}
use Rattle.gms_check.specs.declared.error.ErrorKind.TheVariants.{Discrete}
use Rattle.gms_check.specs.InnerChanges.{after_declaration, after_item, after_items, with_given, with_order}
use Rattle.gms_check.specs.InnerChecking.{Checking, faulted, known_by, known_of, noted, with_facts}
use Rattle.gms_check.specs.CompileErrors.{declaration_errors, errors_at, errors_of, is_faultless, known_after_item}
use Rattle.gms_check.specs.DeclarationUses.{are_usable, domain_use, expansion_uses, failure, has_all_parts, is_continuous, item_uses, kind_uses}
use Rattle.gms_check.specs.Errors.{first_error, sooner}
use Rattle.gms_check.specs.Past.{Known, with_data, with_item, with_name}
use Rattle.gms_check.specs.InnerTrials.{is_sound, taken_back, trial_facts, trial_names}
use Rattle.gms_check.specs.Uses.{bounding, naming, not_continuous, placing}
use Rattle.gms_check.proofs.Emptied.{declared-without, emptied-declared, emptied-given, without-comm}
use Rattle.gms_check.proofs.Faultless.{faultless-item, none-faultless, none-first, none-left, none-right}
use Rattle.gms_check.proofs.Noting.{errors-append, noted-by}
use Rattle.gms_check.proofs.Sooner.{first_of-append, sooner-assoc}

-- what `is_none` answers
pub answer-none : {X : Type 0} (o : Option X) (r : Bool) → is_some o ≡ not r → r ≡ is_none o
answer-none None true e = refl
answer-none None false e = absurd cc
answer-none (Some x) true e = absurd cc
answer-none (Some x) false e = refl

-- if there is no error, there is none later
pub none-later : (a b : Option CompileError) → sooner a b ≡ None → b ≡ None
none-later None b e = e
none-later (Some a) b e = absurd cc

-- ---- the errors of a name look at the values, the state and the dynamic sets alone

module _ {F : Type 0} where
  -- what is known, as far as these errors look at it
  abbrev pub seen_by : (F → Number) → State → (ℕ → Bool) → Known F
  seen_by value state assigned =
      record { value = value; state = state; declared = []; above = λ n. None; assigned = assigned; unordered = λ n. false; defined = λ n. false; models = []; solvers = [] }

  abbrev pub core_of : Known F → Known F
  core_of known = seen_by known.value known.state known.assigned

  core-domain : (known : Known F) (domain : List (Option Named)) → errors_of known (flat_map domain_use domain) ≡ errors_of (core_of known) (flat_map domain_use domain)
  core-domain known [] = refl
  core-domain known (None ∷ domain) = core-domain known domain
  core-domain known (Some named ∷ domain) =
      ap (λ (errors : List CompileError). errors_at known (named.at, bounding named.name) ++ errors) (core-domain known domain)

  core-items : (known : Known F) (expected : ℕ) (items : List (Item F)) → errors_of known (map (λ (item : Item F). (item.at, placing expected (length item.parts))) items) ≡ errors_of (core_of known) (map (λ (item : Item F). (item.at, placing expected (length item.parts))) items)
  core-items known expected [] = refl
  core-items known expected (item ∷ items) =
      ap (λ (errors : List CompileError). errors_at known (item.at, placing expected (length item.parts)) ++ errors) (core-items known expected items)

  core-failure : (known : Known F) (result : Result (ExpandedData F) SetFault) → errors_of known (failure result) ≡ errors_of (core_of known) (failure result)
  core-failure known (Ok given) = refl
  core-failure known (Err fault) = refl

  core-expansion : (known : Known F) (domain : List (Option ℕ)) (items : List (Item F)) → errors_of known (expansion_uses known domain items) ≡ errors_of (core_of known) (expansion_uses known domain items)
  core-expansion known domain items = by (are_usable known domain)
    where
      by : (b : Bool) → errors_of known (if b then failure (expanded known.state domain (take_while (has_all_parts domain) items)) else []) ≡ errors_of (core_of known) (if b then failure (expanded known.state domain (take_while (has_all_parts domain) items)) else [])
      by true = core-failure known (expanded known.state domain (take_while (has_all_parts domain) items))
      by false = refl

  core-item : (known : Known F) (kind : DeclKind) (item : Decl F) → errors_of known (item_uses known kind item) ≡ errors_of (core_of known) (item_uses (core_of known) kind item)
  core-item known kind item =
      let positions = positions_of kind (names_of item.domain) in
      let sets = flat_map domain_use item.domain in
      let places = map (λ (item : Item F). (item.at, placing (length positions) (length item.parts))) item.items in
      let elements = expansion_uses known positions item.items in
      let core = core_of known in
      ap (λ (errors : List CompileError). errors_at known (item.named.at, naming kind item.named.name (names_of item.domain)) ++ errors)
      (errors-append known sets (places ++ elements)
      ∙ ap (λ (errors : List CompileError). errors ++ errors_of known (places ++ elements)) (core-domain known item.domain)
      ∙ ap (λ (errors : List CompileError). errors_of core sets ++ errors) (errors-append known places elements ∙ ap (λ (errors : List CompileError). errors ++ errors_of known elements) (core-items known (length positions) item.items) ∙ ap (λ (errors : List CompileError). errors_of core places ++ errors) (core-expansion known positions item.items) ∙ sym (errors-append core places elements))
      ∙ sym (errors-append core sets (places ++ elements)))

  -- the state after a name of a declaration
  abbrev pub state_after_item : Known F → DeclKind → Decl F → State
  state_after_item known kind item = (known_after_item known kind item).state

  core-state : (known : Known F) (kind : DeclKind) (item : Decl F) → state_after_item known kind item ≡ state_after_item (core_of known) kind item
  core-state known kind item =
      ap (λ (errors : List CompileError). if is_faultless errors then with_item known.value kind known.state item else with_name known.value kind known.state item) (core-item known kind item)

  -- the same of all names of a declaration
  core-declaration : (known : Known F) (kind : DeclKind) (items : List (Decl F)) → declaration_errors known kind items ≡ declaration_errors (core_of known) kind items
  core-declaration known kind [] = refl
  core-declaration known kind (item ∷ items) =
      ap (λ (errors : List CompileError). errors ++ declaration_errors (known_after_item known kind item) kind items) (core-item known kind item)
      ∙ ap (λ (errors : List CompileError). errors_of (core_of known) (item_uses (core_of known) kind item) ++ errors)
      (core-declaration (known_after_item known kind item) kind items ∙ ap (λ (state : State). declaration_errors (seen_by known.value state known.assigned) kind items) (core-state known kind item))

module _ {F : Type 0} (value : F → Number) where
  item-state : (kind : DeclKind) (sound : Bool) (facts : Facts) (item : Decl F) → (after_item value kind sound facts item).state ≡ (if sound then with_item value kind facts.state item else with_name value kind facts.state item)
  item-state kind false facts item = refl
  item-state kind true facts item = by (expanded facts.state (positions_of kind (names_of item.domain)) item.items)
    where
      by : (result : Result (ExpandedData F) SetFault) → (with_given value (with_declared kind (names_of item.domain) facts item.named.name) item.named.name result).state ≡ with_data value (with_name value kind facts.state item) item.named.name result
      by (Ok given) = refl
      by (Err fault) = refl

  item-dynamic : (kind : DeclKind) (sound : Bool) (facts : Facts) (item : Decl F) → (after_item value kind sound facts item).dynamic ≡ facts.dynamic
  item-dynamic kind false facts item = refl
  item-dynamic kind true facts item = by (expanded facts.state (positions_of kind (names_of item.domain)) item.items)
    where
      by : (result : Result (ExpandedData F) SetFault) → (with_given value (with_declared kind (names_of item.domain) facts item.named.name) item.named.name result).dynamic ≡ facts.dynamic
      by (Ok given) = refl
      by (Err fault) = refl

  -- the errors of the names after a name, by what is known then
  after-name : (solvers : List (List ℕ)) (kind : DeclKind) (facts : Facts) (item : Decl F) (items : List (Decl F)) → declaration_errors (known_by value solvers (after_item value kind (is_sound value solvers kind facts item) facts item)) kind items ≡ declaration_errors (known_after_item (known_by value solvers facts) kind item) kind items
  after-name solvers kind facts item items =
      let known = known_by value solvers facts in
      let sound = is_sound value solvers kind facts item in
      let next = after_item value kind sound facts item in
      core-declaration (known_by value solvers next) kind items
      ∙ ap (λ (state : State). declaration_errors (seen_by value state (marked next.dynamic)) kind items) (item-state kind sound facts item)
      ∙ ap (λ (dynamic : List Bool). declaration_errors (seen_by value (state_after_item known kind item) (marked dynamic)) kind items) (item-dynamic kind sound facts item)
      ∙ sym (core-declaration (known_after_item known kind item) kind items)

  -- a check after names of a declaration were checked, and declared with the data of those that
  -- have no error
  abbrev pub items_checked : DeclKind → Checking → List (Decl F) → Checking
  items_checked kind c items =
      record c { first = sooner c.first (first_error (declaration_errors (known_of value c) kind items)); facts = trial_facts value c.solvers kind c.facts items }

  -- one name, and then others
  pub items-step : (kind : DeclKind) (c u : Checking) (sound : Bool) (item : Decl F) (items : List (Decl F)) → sound ≡ is_sound value c.solvers kind c.facts item → u ≡ with_facts (noted value c (item_uses (known_of value c) kind item)) (after_item value kind sound c.facts item) → items_checked kind u items ≡ items_checked kind c (item ∷ items)
  items-step kind c u sound item items s e =
      let known = known_of value c in
      let here = errors_of known (item_uses known kind item) in
      let answer = is_sound value c.solvers kind c.facts item in
      let next = after_item value kind answer c.facts item in
      let later = declaration_errors (known_after_item known kind item) kind items in
      ap (λ (u : Checking). items_checked kind u items) (e ∙ ap (λ (b : Bool). with_facts (noted value c (item_uses known kind item)) (after_item value kind b c.facts item)) s)
      ∙ ap (λ (first : Option CompileError). record c { first = first; facts = trial_facts value c.solvers kind next items }) (sooner-assoc c.first (first_error here) (first_error (declaration_errors (known_by value c.solvers next) kind items)) ∙ ap (sooner c.first) (ap (λ (errors : List CompileError). sooner (first_error here) (first_error errors)) (after-name c.solvers kind c.facts item items) ∙ sym (first_of-append here later)))

  -- the names whose data are given: those so far, and those of the names that are left
  pub names-step : (solvers : List (List ℕ)) (kind : DeclKind) (facts next : Facts) (sound : Bool) (item : Decl F) (items : List (Decl F)) (given more : List ℕ) → sound ≡ is_sound value solvers kind facts item → next ≡ after_item value kind sound facts item → more ≡ given ++ (if sound then item.named.name ∷ [] else []) → more ++ trial_names value solvers kind next items ≡ given ++ trial_names value solvers kind facts (item ∷ items)
  names-step solvers kind facts next sound item items given more s n m =
      ap (λ (names : List ℕ). names ++ trial_names value solvers kind next items) m
      ∙ append_assoc given (if sound then item.named.name ∷ [] else []) (trial_names value solvers kind next items)
      ∙ ap (λ (facts : Facts). given ++ ((if sound then item.named.name ∷ [] else []) ++ trial_names value solvers kind facts items)) n
      ∙ ap (λ (b : Bool). given ++ ((if b then item.named.name ∷ [] else []) ++ trial_names value solvers kind (after_item value kind b facts item) items)) s

  -- a declaration by its kind
  pub kind-noted : (c : Checking) (at : Place) (kind : DeclKind) → faulted c at ((not (is_continuous kind), Discrete) ∷ []) ≡ noted value c (kind_uses at kind)
  kind-noted c at declaring.Set = refl
  kind-noted c at declaring.Parameter = refl
  kind-noted c at declaring.Scalar = refl
  kind-noted c at declaring.Table = refl
  kind-noted c at declaring.Free = refl
  kind-noted c at declaring.Positive = refl
  kind-noted c at declaring.Negative = refl
  kind-noted c at declaring.Discrete = noted-by value c (faulted c at ((true, Discrete) ∷ [])) at not_continuous ((true, Discrete) ∷ []) refl refl
  kind-noted c at declaring.Equation = refl

  -- ---- all names have no error

  pub sound-all : (solvers : List (List ℕ)) (kind : DeclKind) (facts : Facts) (items : List (Decl F)) → declaration_errors (known_by value solvers facts) kind items ≡ [] → trial_facts value solvers kind facts items ≡ after_items value kind true facts items
  sound-all solvers kind facts [] e = refl
  sound-all solvers kind facts (item ∷ items) e =
      let known = known_by value solvers facts in
      let here = errors_of known (item_uses known kind item) in
      let later = declaration_errors (known_after_item known kind item) kind items in
      let sound : is_sound value solvers kind facts item ≡ true = ap is_faultless (none-left here later e) in
      let rest : declaration_errors (known_by value solvers (after_item value kind true facts item)) kind items ≡ [] = ap (λ (b : Bool). declaration_errors (known_by value solvers (after_item value kind b facts item)) kind items) (sym sound) ∙ after-name solvers kind facts item items ∙ none-right here later e in
      ap (λ (b : Bool). trial_facts value solvers kind (after_item value kind b facts item) items) sound
      ∙ sound-all solvers kind (after_item value kind true facts item) items rest

  -- ---- the data of those that have no error are removed again

  taken-without : (facts : Facts) (n : ℕ) (names : List ℕ) → taken_back (without_data facts n) names ≡ without_data (taken_back facts names) n
  taken-without facts n [] = refl
  taken-without facts n (m ∷ names) =
      ap (λ (facts : Facts). taken_back facts names) (without-comm facts n m) ∙ taken-without (without_data facts m) n names

  items-without : (kind : DeclKind) (facts : Facts) (n : ℕ) (items : List (Decl F)) → without_data (after_items value kind false facts items) n ≡ after_items value kind false (without_data facts n) items
  items-without kind facts n [] = refl
  items-without kind facts n (item ∷ items) =
      items-without kind (after_item value kind false facts item) n items
      ∙ ap (λ (facts : Facts). after_items value kind false facts items) (declared-without kind (names_of item.domain) facts item.named.name n)

  -- a name without an error is as its declaration makes it, once its data are removed
  item-without : (solvers : List (List ℕ)) (kind : DeclKind) (facts : Facts) (item : Decl F) → is_sound value solvers kind facts item ≡ true → without_data (after_item value kind true facts item) item.named.name ≡ after_item value kind false facts item
  item-without solvers kind facts item sound = by (expanded facts.state (positions_of kind (names_of item.domain)) item.items)
    where
      bare : with_no_data (declare kind (names_of item.domain) facts.state item.named.name) item.named.name ≡ declare kind (names_of item.domain) facts.state item.named.name
      bare = emptied-declared kind (names_of item.domain) facts.state item.named.name (faultless-item (known_by value solvers facts) kind item (none-faultless (errors_of (known_by value solvers facts) (item_uses (known_by value solvers facts) kind item)) sound)).new

      by : (result : Result (ExpandedData F) SetFault) → without_data (with_given value (with_declared kind (names_of item.domain) facts item.named.name) item.named.name result) item.named.name ≡ with_declared kind (names_of item.domain) facts item.named.name
      by (Ok given) =
          ap (λ (state : State). record (with_declared kind (names_of item.domain) facts item.named.name) { state = state }) (emptied-given value item.named.name (declare kind (names_of item.domain) facts.state item.named.name) given ∙ bare)
      by (Err fault) = ap (λ (state : State). record (with_declared kind (names_of item.domain) facts item.named.name) { state = state }) bare

  pub taken-all : (solvers : List (List ℕ)) (kind : DeclKind) (facts : Facts) (items : List (Decl F)) → taken_back (trial_facts value solvers kind facts items) (trial_names value solvers kind facts items) ≡ after_items value kind false facts items
  taken-all solvers kind facts [] = refl
  taken-all solvers kind facts (item ∷ items) = by (is_sound value solvers kind facts item) refl (λ (facts : Facts). taken-all solvers kind facts items)
    where
      by : (b : Bool) → is_sound value solvers kind facts item ≡ b → ((facts : Facts) → taken_back (trial_facts value solvers kind facts items) (trial_names value solvers kind facts items) ≡ after_items value kind false facts items) → taken_back (trial_facts value solvers kind (after_item value kind b facts item) items) ((if b then item.named.name ∷ [] else []) ++ trial_names value solvers kind (after_item value kind b facts item) items) ≡ after_items value kind false (after_item value kind false facts item) items
      by false is rest = rest (after_item value kind false facts item)
      by true is rest =
          let next = after_item value kind true facts item in
          let n = item.named.name in
          taken-without (trial_facts value solvers kind next items) n (trial_names value solvers kind next items)
          ∙ ap (λ (facts : Facts). without_data facts n) (rest next)
          ∙ items-without kind next n items
          ∙ ap (λ (facts : Facts). after_items value kind false facts items) (item-without solvers kind facts item is)

  -- ---- a declaration: a check before it, after its kind, after its names and at its end

  module _ (c s t u : Checking) (at : Place) (kind : DeclKind) (items : List (Decl F)) (begun : s ≡ noted value c (kind_uses at kind)) (all : t ≡ items_checked kind s items) (kept : u.first ≡ t.first) where
    later : t ≡ items_checked kind (noted value c (kind_uses at kind)) items
    later = all ∙ ap (λ (s : Checking). items_checked kind s items) begun

    -- its first error
    pub declaration-first : u.first ≡ sooner c.first (first_error (errors_of (known_of value c) (kind_uses at kind) ++ declaration_errors (known_of value c) kind items))
    declaration-first =
        kept ∙ ap (λ (t : Checking). t.first) later
        ∙ sooner-assoc c.first (first_error (errors_of (known_of value c) (kind_uses at kind))) (first_error (declaration_errors (known_of value c) kind items))
        ∙ ap (sooner c.first) (sym (first_of-append (errors_of (known_of value c) (kind_uses at kind)) (declaration_errors (known_of value c) kind items)))

    -- if it has an error its data are removed again
    pub declaration-refused : (given : List ℕ) → is_none u.first ≡ false → given ≡ trial_names value s.solvers kind s.facts items → u ≡ with_facts t (taken_back t.facts given) → u ≡ record c { first = u.first; facts = after_declaration value kind (is_none u.first) c.facts items }
    declaration-refused given some names e =
        let first = (items_checked kind (noted value c (kind_uses at kind)) items).first in
        let same : first ≡ u.first = sym (kept ∙ ap (λ (t : Checking). t.first) later) in
        let listed : given ≡ trial_names value c.solvers kind c.facts items = names ∙ ap (λ (s : Checking). trial_names value s.solvers kind s.facts items) begun in
        e
        ∙ ap (λ (t : Checking). with_facts t (taken_back t.facts given)) later
        ∙ ap (λ (names : List ℕ). record c { first = first; facts = taken_back (trial_facts value c.solvers kind c.facts items) names }) listed
        ∙ ap (λ (facts : Facts). record c { first = first; facts = facts }) (taken-all c.solvers kind c.facts items)
        ∙ ap (λ (first : Option CompileError). record c { first = first; facts = after_items value kind false c.facts items }) same
        ∙ ap (λ (b : Bool). record c { first = u.first; facts = after_declaration value kind b c.facts items }) (sym some)

    -- where it has none the order of the labels is remembered
    pub declaration-accepted : u.first ≡ None → u ≡ with_facts t (with_order kind t.facts items) → u ≡ record c { first = u.first; facts = after_declaration value kind (is_none u.first) c.facts items }
    declaration-accepted none e =
        let first = (items_checked kind (noted value c (kind_uses at kind)) items).first in
        let same : first ≡ u.first = sym (kept ∙ ap (λ (t : Checking). t.first) later) in
        let errors : declaration_errors (known_of value c) kind items ≡ [] = none-first (declaration_errors (known_of value c) kind items) (none-later (noted value c (kind_uses at kind)).first (first_error (declaration_errors (known_of value c) kind items)) (same ∙ none)) in
        e
        ∙ ap (λ (t : Checking). with_facts t (with_order kind t.facts items)) later
        ∙ ap (λ (facts : Facts). record c { first = first; facts = with_order kind facts items }) (sound-all c.solvers kind c.facts items errors)
        ∙ ap (λ (first : Option CompileError). record c { first = first; facts = with_order kind (after_items value kind true c.facts items) items }) same
        ∙ ap (λ (b : Bool). record c { first = u.first; facts = after_declaration value kind b c.facts items }) (sym (ap is_none none))
