-- The columns and the rows of the linear program of a solve of an accepted program are elements of
-- the state, and no two of them are the same.
use Rattle.std.proofs.Common.{◌≡◌, ◌≢◌, ℕ, zero, suc, Bool, true, false, ◌&&◌, cond, List, [], ◌∷◌, ◌++◌, length, map, get_or, slice_get, Option, Some, option_map, Ok, Err, refl, sym, ap, ◌∙◌, subst}
use Rattle.std.specs.Prelude.{nat_lt, if◌then◌else◌, ◌==◌}
use Rattle.std.specs.List.{All, AllPairs, list_any}
use Rattle.std.proofs.lemmas.List.Elements.{All-nil, All-cons, All-head, All-tail, All-weaker}
use Rattle.std.proofs.lemmas.Bool.{eq-eqb, and_from, not-false}
use Rattle.std.specs.declared.cmp.Ordering.TheVariants.{Less}
use Rattle.gq_number.specs.Number.{Number}
use Rattle.gms_labels.specs.declared.place.Place.{Place}
use Rattle.gms_ast.specs.declared.expression.Expr.{Expr}
use Rattle.gms_ast.specs.declared.expression.Index.{Index}
use Rattle.gms_ast.specs.declared.program.Act.{Act}
use Rattle.gms_ast.specs.declared.program.Act.TheVariants.{Define, Solve}
use Rattle.gms_ast.specs.declared.program.Program.{Program}
use Rattle.gms_ast.specs.declared.program.Side.{Side}
use Rattle.gms_ast.specs.declared.program.Stmt.{Stmt}
use Rattle.gms_ast.specs.declared.word.Named.{Named}
use Rattle.gms_ast.specs.declared.word.Word.{Word}
use Rattle.gms_ast.specs.Trees as tree
use Rattle.gms_ast.specs.TreeView.{tree_of}
use Rattle.gms_tuple.specs.TupleOrder.{IsOrdered, same_tuple}
use Rattle.gms_tuple.proofs.Ordered.{same_tuple-Decides}
use Rattle.gms_store.specs.State.{State, base_of, members_of, symbol_at}
use Rattle.gms_store.specs.Declarations.{is_free}
use Rattle.gms_scope.specs.Names.{is_index_set, has_no_declaration, declared_kind, positions}
use Rattle.gms_check.specs.declared.error.ErrorKind.TheVariants.{UnknownName, WrongKind, Objective}
use Rattle.gms_check.specs.Checked.{FollowsIn}
use Rattle.gms_check.specs.CompileErrors.{errors_after, known_after}
use Rattle.gms_check.specs.Kinds.{is_variable_kind, is_without_positions}
use Rattle.gms_check.specs.Loaded.{IsAccepted, sound}
use Rattle.gms_check.specs.Past.{Known}
use Rattle.gms_check.specs.Contexts.{as_side}
use Rattle.gms_check.specs.InnerStatements.{act_uses}
use Rattle.gms_check.specs.StatementUses.{index_list, left_uses, with_left}
use Rattle.gms_check.specs.Uses.{defining, optimizing, index_sets, uses}
use Rattle.gms_check.proofs.ActUses.{uses-act, uses-Define, uses-Solve}
use Rattle.gms_check.proofs.LeftAmounts.{program-inner}
use Rattle.gms_check.proofs.NoErrors.{AreClean, IsClean, clean-left, clean-right}
use Rattle.gms_check.proofs.Soundness.{after-sound, neither-first, sound-use, statement-clean}
use Rattle.gms_exec.proofs.Staying.{AreSingles}
use Rattle.gms_exec.specs.Elements.{IsElement, IsNot, AreElements, program_elements}
use Rattle.gms_exec.specs.Run.{World}
use Rattle.gms_exec.specs.Solved as solved
use Rattle.gms_eval.specs.declared.stop.StopKind.TheVariants.{TooManyRows, TooManyColumns}
use Rattle.lp_core.specs.declared.program.Column.{Column}
use Rattle.lp_core.specs.declared.program.Row.{Row}
use Rattle.lp_core.specs.declared.program.Lp.{Lp}
use Rattle.lp_core.specs.WellFormed.{standard_rows, standard_columns}
use Rattle.lp_core.proofs.Points.{AllPairs-first, AllPairs-rest}
use Rattle.lp_form.specs.declared.key.Key.{Key}
use Rattle.lp_form.specs.Keys.{key_cmp, same_key, AreOrdered}
use Rattle.lp_form.proofs.KeyOrder.{first-before, rest-ordered, same_key-Less, same_key_refl}
use Rattle.gms_rows.specs.ElementRows.{AreInOrder, sets_of_definition}
use Rattle.gms_rows.specs.ModelPoints.{definitions_of_model}
use Rattle.gms_rows.specs.Plain.{ArePlain}
use Rattle.gms_rows.specs.ProgramLp.{column_keys, column_of, placed, program_of, too_many, sized_program, program_lp}
use Rattle.gms_rows.specs.Rows.{Definition, FormRow, defined_at, definitions, definition_of, equations_of, distinct_numbers, has_lag, sets_among, rows_of_model}
use Rattle.gms_rows.proofs.Domains.{All-distinct_numbers, given, only_value}
use Rattle.gms_rows.proofs.KeyLists.{keys-ordered}
use Rattle.gms_rows.proofs.ModelKeys.{model-apart}
use Rattle.gms_run_laws.proofs.FormKeys.{OkHas, EachHas}
use Rattle.gms_run_laws.specs.Reached.{IsStatementOf}
use Rattle.gms_run_laws.proofs.DeclaredKinds.{kind-now, domain-now, has_elements, variable-elements, equation-elements, not-both, own-base, same-positions, second-holds, of_variable, variable-element, IsOfVariable, IsOfEquation}
use Rattle.gms_run_laws.proofs.EachDefinition.{one-definition, all-definitions, model-definitions}
use Rattle.gms_run_laws.proofs.ElementForms.{row-elements}
use Rattle.gms_run_laws.proofs.Lasting.{IsLasting}
use Rattle.gms_run_laws.proofs.KeyedRows.{HasRows, IsOver, program-keyed}
use Rattle.gms_run_laws.proofs.OnceInRuns.{index-members}

-- ---- each of a list

each-of : {A : Type 0} (P : A → Type 0) (xs : List A) → All P xs → EachHas P xs
each-of P [] all = tt
each-of P (x ∷ xs) all = (All-head P x xs all, each-of P xs (All-tail P x xs all))

each-at : {A : Type 0} (P : A → Type 0) (xs : List A) → EachHas P xs → (i : ℕ) (x : A) → slice_get xs i ≡ Some x → P x
each-at P [] all i x e = absurd (cc)
each-at P (y ∷ ys) all zero x e = let is : y ≡ x = cc in subst P is all.0
each-at P (y ∷ ys) all (suc i) x e = each-at P ys all.1 i x e

each-both : {A : Type 0} (P : A → Type 0) (xs ys : List A) → EachHas P xs → EachHas P ys → EachHas P (xs ++ ys)
each-both P [] ys one other = other
each-both P (x ∷ xs) ys one other = (one.0, each-both P xs ys one.1 other)

each-weaker : {A : Type 0} (P Q : A → Type 0) → ((x : A) → P x → Q x) → (xs : List A) → EachHas P xs → EachHas Q xs
each-weaker P Q weaker [] all = tt
each-weaker P Q weaker (x ∷ xs) all = (weaker x all.0, each-weaker P Q weaker xs all.1)

-- ---- keys that differ

-- no two keys are the same
abbrev AreApart : List Key → Type 0
AreApart [] = Unit {0}
AreApart (key ∷ keys) = EachHas (λ (other : Key). key ≢ other) keys × AreApart keys

apart-at : (keys : List Key) → AreApart keys → (i j : ℕ) (key other : Key) → slice_get keys i ≡ Some key → slice_get keys j ≡ Some other → (i ≡ j → ⊥) → key ≢ other
apart-at [] apart i j key other e f differ = absurd (cc)
apart-at (k ∷ ks) apart zero zero key other e f differ = absurd (differ refl)
apart-at (k ∷ ks) apart zero (suc j) key other e f differ =
    let is : k ≡ key = cc in
    subst (λ (x : Key). x ≢ other) is (each-at (λ (o : Key). k ≢ o) ks apart.0 j other f)
apart-at (k ∷ ks) apart (suc i) zero key other e f differ =
    let is : k ≡ other = cc in
    let unlike : k ≢ key = each-at (λ (o : Key). k ≢ o) ks apart.0 i key e in
    subst (λ (x : Key). key ≢ x) is (λ same. unlike (sym same))
apart-at (k ∷ ks) apart (suc i) (suc j) key other e f differ =
    apart-at ks apart.1 i j key other e f (λ same. differ (ap suc same))

apart-both : (xs ys : List Key) → AreApart xs → AreApart ys → EachHas (λ (x : Key). EachHas (λ (y : Key). x ≢ y) ys) xs → AreApart (xs ++ ys)
apart-both [] ys one other across = other
apart-both (x ∷ xs) ys one other across =
    (each-both (λ (y : Key). x ≢ y) xs ys one.0 across.0, apart-both xs ys one.1 other across.1)

-- keys in order are apart
before-unlike : (k other : Key) → key_cmp k other ≡ Less → k ≢ other
before-unlike k other less same =
    let no : true ≡ false = sym (same_key_refl k) ∙ ap (same_key k) same ∙ same_key-Less k other less in cc

ordered-apart : (keys : List Key) → AreOrdered keys → AreApart keys
ordered-apart [] ordered = tt
ordered-apart (k ∷ ks) ordered =
    (each-of (λ (o : Key). k ≢ o) ks (All-weaker (λ (o : Key). key_cmp k o ≡ Less) (λ (o : Key). k ≢ o) (before-unlike k) ks (first-before k ks ordered)), ordered-apart ks (rest-ordered k ks ordered))

-- so are those of rows that differ
rows-apart : (keys : List Key) (rows : List FormRow) → AllPairs (λ (a b : FormRow). a.key ≢ b.key) rows → AreApart (map (λ (row : Row Number). row.key) (map (placed keys) rows))
rows-apart keys [] pairs = tt
rows-apart keys (row ∷ rows) pairs =
    (each rows (AllPairs-first (λ (a b : FormRow). a.key ≢ b.key) row rows pairs), rows-apart keys rows (AllPairs-rest (λ (a b : FormRow). a.key ≢ b.key) row rows pairs))
  where
    each : (rest : List FormRow) → All (λ (b : FormRow). row.key ≢ b.key) rest → EachHas (λ (o : Key). row.key ≢ o) (map (λ (r : Row Number). r.key) (map (placed keys) rest))
    each [] all = tt
    each (b ∷ rest) all =
        (All-head (λ (b : FormRow). row.key ≢ b.key) b rest all, each rest (All-tail (λ (b : FormRow). row.key ≢ b.key) b rest all))

column-names : (state : State) (keys : List Key) → map (λ (column : Column Number). column.key) (map (column_of state) keys) ≡ keys
column-names state [] = refl
column-names state (k ∷ ks) = ap (λ (keys : List Key). k ∷ keys) (column-names state ks)

-- no variable is an equation
across-apart : (state : State) (xs ys : List Key) → EachHas (IsOfVariable state) xs → EachHas (IsOfEquation state) ys → EachHas (λ (x : Key). EachHas (λ (y : Key). x ≢ y) ys) xs
across-apart state [] ys one other = tt
across-apart state (x ∷ xs) ys one other = (unlike ys other, across-apart state xs ys one.1 other)
  where
    unlike : (those : List Key) → EachHas (IsOfEquation state) those → EachHas (λ (y : Key). x ≢ y) those
    unlike [] all = tt
    unlike (y ∷ those) all =
        ((λ same. not-both (declared_kind state y.symbol) (ap (λ (k : Key). is_variable_kind (declared_kind state k.symbol)) (sym same) ∙ one.0.1) all.0.1), unlike those all.1)

-- ---- elements

-- an element of the state whose name stands for itself
abbrev IsOwn : State → Key → Type 0
IsOwn state key = IsElement state key × (has_elements (declared_kind state key.symbol) ≡ true)

same-parts : (a b : Key) → a.symbol ≡ b.symbol → a.tuple ≡ b.tuple → a ≡ b
same-parts a b first second = λ i. record { symbol = first i; tuple = second i }

-- keys that differ, of elements of the state, are not one element
are-elements : (state : State) (keys : List Key) → EachHas (IsOwn state) keys → AreApart keys → AreElements state keys
are-elements state keys own apart =
    record { each = λ i key e. (each-at (IsOwn state) keys own i key e).0; differ = differ }
  where
    differ : (i j : ℕ) (key other : Key) → slice_get keys i ≡ Some key → slice_get keys j ≡ Some other → (i ≡ j → ⊥) → IsNot state key other.symbol other.tuple
    differ i j key other e f unlike same = by (same_tuple key.tuple other.tuple) refl
      where
        first : base_of state key.symbol ≡ key.symbol
        first = own-base state key.symbol (each-at (IsOwn state) keys own i key e).1

        second : base_of state other.symbol ≡ other.symbol
        second = own-base state other.symbol (each-at (IsOwn state) keys own j other f).1

        by : (b : Bool) → same_tuple key.tuple other.tuple ≡ b → b ≡ false
        by true t =
            absurd (apart-at keys apart i j key other e f unlike (same-parts key other (sym first ∙ sym same ∙ second) ((same_tuple-Decides key.tuple other.tuple).0 t)))
        by false t = refl

-- those of a program whose columns are of variables and whose rows are of equations
made-elements : (state : State) (rows : List FormRow) (key : Key) (maximize : Bool) → AllPairs (λ (a b : FormRow). a.key ≢ b.key) rows → IsOver (of_variable state) (IsOfEquation state) (program_of state rows key maximize) → AreElements state (program_elements (program_of state rows key maximize))
made-elements state rows key maximize pairs over =
    let keys = column_keys rows key in
    let columns = solved.keys_of_columns (program_of state rows key maximize) in
    let others = solved.row_keys (program_of state rows key maximize) in
    let variables = each-weaker (λ (k : Key). of_variable state k ≡ true) (IsOfVariable state) (variable-element state) columns over.0 in
    are-elements state (columns ++ others)
    (each-both (IsOwn state) columns others
    (each-weaker (IsOfVariable state) (IsOwn state) (λ k is. (is.0, variable-elements (declared_kind state k.symbol) is.1)) columns variables)
    (each-weaker (IsOfEquation state) (IsOwn state) (λ k is. (is.0, equation-elements (declared_kind state k.symbol) is.1)) others over.1))
    (apart-both columns others (subst AreApart (sym (column-names state keys)) (ordered-apart keys (keys-ordered _))) (rows-apart keys rows pairs) (across-apart state columns others variables over.1))

sized-one : (at : Place) (made lp : Lp Number) → sized_program at made ≡ Ok lp → made ≡ lp
sized-one at made lp e = by (nat_lt 1500 (standard_rows made)) (nat_lt 3000 (standard_columns made)) e
  where
    by : (b c : Bool) → (if b then Err (too_many TooManyRows at (standard_rows made)) else if c then Err (too_many TooManyColumns at (standard_columns made)) else Ok made) ≡ Ok lp → made ≡ lp
    by true c e = absurd (cc)
    by false true e = absurd (cc)
    by false false e = only_value made lp e

-- ---- sets of definitions

module _ {F : Type 0} where
  -- the sets among indices, by both definitions
  among-same : (indices : tree.Indices F) → index_sets indices ≡ sets_among indices
  among-same tree.no_index = refl
  among-same (tree.label label rest) = among-same rest
  among-same (tree.set set rest) = ap (λ (sets : List ℕ). set ∷ sets) (among-same rest)
  among-same (tree.lagged set op at amount rest) = ap (λ (sets : List ℕ). set ∷ sets) (among-same rest)

module _ {F : Type 0} (old new : State) (one : (set : ℕ) → is_index_set old set ≡ true → IsOrdered (members_of new set) × AreSingles (members_of new set)) where
  plain-indices : (indices : tree.Indices F) → has_lag indices ≡ false → All (λ index. is_index_set old index ≡ true) (index_sets indices) → ArePlain new indices
  plain-indices tree.no_index none sets = tt
  plain-indices (tree.label label rest) none sets = plain-indices rest none sets
  plain-indices (tree.set set rest) none sets =
      ((one set (All-head (λ index. is_index_set old index ≡ true) set (index_sets rest) sets)).1, plain-indices rest none (All-tail (λ index. is_index_set old index ≡ true) set (index_sets rest) sets))
  plain-indices (tree.lagged set op at amount rest) none sets = absurd (cc)

  ordered-indices : (indices : tree.Indices F) → All (λ index. is_index_set old index ≡ true) (index_sets indices) → AreInOrder new (distinct_numbers (sets_among indices))
  ordered-indices indices sets =
      All-distinct_numbers (λ set. IsOrdered (members_of new set)) (sets_among indices)
      (subst (All (λ set. IsOrdered (members_of new set))) (among-same indices) (All-weaker (λ index. is_index_set old index ≡ true) (λ set. IsOrdered (members_of new set)) (λ set is. (one set is).0) (index_sets indices) sets))

-- ---- the program of a solve

no-positions : (xs : List (Option ℕ)) → is_without_positions xs ≡ true → 0 ≡ length xs
no-positions [] e = refl
no-positions (x ∷ xs) e = absurd (cc)

module _ {F : Type 0} (v : F → Number) (limit : ℕ) (world : World F) (accepted : IsAccepted v world.program) (state : State) (lasts : IsLasting v world.program state) where
  abbrev program : Program F
  program = world.program

  -- what is known before a statement
  abbrev known_before : List (Stmt F) → Known F
  known_before before = known_after v program accepted.0 (sound before)

  abbrev Of_variable : Key → Bool
  Of_variable = of_variable state

  abbrev Of_equation : Key → Type 0
  Of_equation = IsOfEquation state

  -- the rows of a definition are over elements, and its sets are plain and in order
  abbrev IsFine : Definition F → Type 0
  IsFine d = HasRows Of_variable Of_equation v limit state d × (ArePlain state d.indices × AreInOrder state (sets_of_definition d))

  if-no-lag : (b : Bool) (d : Definition F) → (b ≡ false → IsFine d) → All IsFine (cond b [] (d ∷ []))
  if-no-lag true d fine = All-nil IsFine
  if-no-lag false d fine = All-cons IsFine d [] (fine refl) (All-nil IsFine)

  of-define : (before : List (Stmt F)) (at : Place) (equation : Named) (indices : List (Index F)) (condition : Option (Expr F)) (left_at : Place) (left : Expr F) (side : Side) (right_at : Place) (right : Expr F) →
      FollowsIn program before (record { at = at; act = Define equation indices condition left_at left side right_at right }) → All IsFine (defined_at at (Define equation indices condition left_at left side right_at right))
  of-define before at equation indices condition left_at left side right_at right occurs =
      let statement : Stmt F = record { at = at; act = Define equation indices condition left_at left side right_at right } in
      let known = known_before before in
      let around = with_left [] indices in
      let clean = statement-clean known statement (after-sound v program accepted.0 before [] statement occurs.0 (sym (ap (errors_after v program accepted.0 []) occurs.1) ∙ accepted.1)) in
      let whole = subst (AreClean known) (uses-act statement known.state [] ∙ uses-Define known.state at [] equation indices condition left_at left side right_at right) clean in
      let sides = clean-right known (left_uses at around indices condition) (uses as_side left_at around (tree_of left) ++ uses as_side right_at around (tree_of right)) whole.1 in
      let one = clean-left known (uses as_side left_at around (tree_of left)) (uses as_side right_at around (tree_of right)) sides in
      let other = clean-right known (uses as_side left_at around (tree_of left)) (uses as_side right_at around (tree_of right)) sides in
      let sets = (sound-use known (defining equation.name (index_list indices)) whole.0).2.sets in
      let members = λ (set : ℕ) (is : is_index_set known.state set ≡ true). index-members v limit world before statement set state occurs is lasts in
      let d : Definition F = record { equation = equation.name; at = at; indices = index_list indices; condition = option_map tree_of condition; left_at = left_at; left = tree_of left; side = side; right_at = right_at; right = tree_of right } in
      if-no-lag (has_lag (index_list indices)) d (λ none. (
        row-elements v limit known state (kind-now v limit world state lasts before statement occurs) (domain-now v limit world state lasts before statement occurs) d as_side as_side around whole.0 one other,
        (plain-indices known.state state members (index_list indices) none sets, ordered-indices known.state state members (index_list indices) sets),
      ))

  all-fine : All IsFine (definitions program.statements.items)
  all-fine = all-definitions program IsFine of-define

  -- the rows of a model differ
  pairs : (model : ℕ) (rows : List FormRow) → rows_of_model v limit state program.statements.items model ≡ Ok rows → AllPairs (λ (a b : FormRow). a.key ≢ b.key) rows
  pairs model rows e =
      let ds = definitions program.statements.items in
      model-apart v limit state program.statements.items model rows
      (All-weaker IsFine (λ (d : Definition F). ArePlain state d.indices) (λ d fine. fine.1.0) ds all-fine)
      (λ k d below. All-weaker IsFine (λ (d : Definition F). AreInOrder state (sets_of_definition d)) (λ d fine. fine.1.1) (definition_of ds (get_or (equations_of program.statements.items model) k d)) (one-definition IsFine ds (get_or (equations_of program.statements.items model) k d) all-fine))
      e

  -- the objective of a solve is an element of a variable
  objective-element : (statement : Stmt F) (model : Named) (word : Word) (objective : Named) (maximize : Bool) → IsStatementOf program statement → statement.act ≡ Solve model word objective maximize → of_variable state (record { symbol = objective.name; tuple = [] }) ≡ true
  objective-element statement model word objective maximize of_program is =
      let before = of_program.before in
      let known = known_before before in
      let inner = program-inner v program accepted.0 before of_program.outer statement of_program.depth accepted.1 of_program.occurs of_program.inside in
      let whole = subst (AreClean known) (uses-act statement known.state inner.0 ∙ ap (λ (act : Act F). act_uses act known.state statement.at inner.0) is ∙ uses-Solve known.state statement.at inner.0 model word objective maximize) inner.1 in
      let clean : IsClean known (optimizing objective.name) = whole.1.1.0 in
      let declared = neither-first (has_no_declaration known.state objective.name) (list_any (has_no_declaration known.state) []) (clean UnknownName) in
      let same = kind-now v limit world state lasts before of_program.outer of_program.occurs objective.name declared in
      let variable : is_variable_kind (declared_kind state objective.name) ≡ true = ap is_variable_kind same ∙ not-false (is_variable_kind (declared_kind known.state objective.name)) (clean WrongKind) in
      let free = not-false (is_free (symbol_at known.state objective.name).content && is_without_positions (positions known.state objective.name)) (clean Objective) in
      let none = second-holds (is_free (symbol_at known.state objective.name).content) (is_without_positions (positions known.state objective.name)) free in
      and_from (is_variable_kind (declared_kind state objective.name)) (0 == length (symbol_at state objective.name).domain) variable
      (eq-eqb 0 (length (symbol_at state objective.name).domain)
      (no-positions (positions known.state objective.name) none ∙ same-positions state known.state objective.name (variable-elements (declared_kind state objective.name) variable) same (domain-now v limit world state lasts before of_program.outer of_program.occurs objective.name declared)))

  -- so the columns and the rows of its program are elements of the state
  pub solve-elements : (statement : Stmt F) (model : Named) (word : Word) (objective : Named) (maximize : Bool) (lp : Lp Number) → IsStatementOf program statement → statement.act ≡ Solve model word objective maximize → program_lp v limit state program.statements.items model.name objective.name maximize statement.at ≡ Ok lp → AreElements state (program_elements lp)
  solve-elements statement model word objective maximize lp of_program is e =
      let key : Key = record { symbol = objective.name; tuple = [] } in
      let made = given (rows_of_model v limit state program.statements.items model.name) (λ rows. sized_program statement.at (program_of state rows key maximize)) lp e in
      let same = sized-one statement.at (program_of state made.value key maximize) lp made.next_is in
      let have = each-of (HasRows Of_variable Of_equation v limit state) (definitions_of_model program.statements.items model.name) (All-weaker IsFine (HasRows Of_variable Of_equation v limit state) (λ d fine. fine.0) (definitions_of_model program.statements.items model.name) (model-definitions program IsFine of-define model.name)) in
      let keyed = program-keyed Of_variable Of_equation v limit state program.statements.items model.name objective.name maximize statement.at have (objective-element statement model word objective maximize of_program is) in
      let over : IsOver Of_variable Of_equation lp = subst (OkHas (IsOver Of_variable Of_equation)) e keyed in
      subst (λ (lp : Lp Number). AreElements state (program_elements lp)) same
      (made-elements state made.value key maximize (pairs model.name made.value made.is) (subst (IsOver Of_variable Of_equation) (sym same) over))
