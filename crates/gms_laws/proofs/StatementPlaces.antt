-- The places of what statements use, and of their errors.
use Rattle.std.proofs.Common.{◌≡◌, ◌∙◌, ℕ, zero, suc, Bool, true, false, List, [], ◌∷◌, ◌++◌, map, flat_map, filter, take, length, slice_get, Option, Some, None, is_none, option_map, Result, Ok, Err, Vec, if◌then◌else◌, inl, inr, refl, sym, ap, subst}
use Rattle.std.specs.declared.alloc.Global.{Global}
use Rattle.std.specs.List.{AllByRecursion, Contains, prefix_len, take_while}
use Rattle.std.proofs.lemmas.List.Elements.{All-contains_itself, recursion_from_All}
use Rattle.gq_number.specs.Number.{Number}
use Rattle.gms_labels.specs.declared.place.Place.{Place}
use Rattle.gms_ast.specs.declared.declaration.Decl.{Decl}
use Rattle.gms_ast.specs.declared.declaration.DeclKind.{DeclKind}
use Rattle.gms_ast.specs.declared.declaration.DeclKind.TheVariants as declaring
use Rattle.gms_ast.specs.declared.declaration.Item.{Item}
use Rattle.gms_ast.specs.declared.declaration.ModelDecl.{ModelDecl}
use Rattle.gms_ast.specs.declared.expression.Control.{Control as ControlNode}
use Rattle.gms_ast.specs.declared.expression.Expr.{Expr}
use Rattle.gms_ast.specs.declared.expression.Index.{Index}
use Rattle.gms_ast.specs.declared.program.Act.{Act, Loop, map-Act, roll-Act}
use Rattle.gms_ast.specs.declared.program.Act.TheFolds.{ind-Stmt}
use Rattle.gms_ast.specs.declared.program.Act.TheOpen.{Act-F, Stmt-F}
use Rattle.gms_ast.specs.declared.program.Act.TheVariants.{Abort, Assign, Declare, Define, Model, Options, rolls-Abort, rolls-Alias, rolls-Assign, rolls-Declare, rolls-Define, rolls-Display, rolls-Loop, rolls-Model, rolls-Options, rolls-Solve}
use Rattle.gms_ast.specs.declared.program.Program.{Program}
use Rattle.gms_ast.specs.declared.program.Right.TheVariants.{Value}
use Rattle.gms_ast.specs.declared.program.Setting.{Setting}
use Rattle.gms_ast.specs.declared.program.Setting.TheVariants as setting
use Rattle.gms_ast.specs.declared.program.Show.{Show}
use Rattle.gms_ast.specs.declared.program.Show.TheVariants as show
use Rattle.gms_ast.specs.declared.program.Side.{Side}
use Rattle.gms_ast.specs.declared.program.Stmt.{Stmt, map-Stmt, roll-Stmt}
use Rattle.gms_ast.specs.declared.program.Target.{Target}
use Rattle.gms_ast.specs.declared.word.Named.{Named}
use Rattle.gms_ast.specs.declared.word.Word.{Word}
use Rattle.gms_ast.specs.Trees.{Control, Tree, over, over_where}
use Rattle.gms_ast.specs.TreeView.{control_tree, tree_of}
use Rattle.gms_store.specs.State.{State, symbol_at}
use Rattle.gms_store.specs.Declarations.{declare_model, is_set, names_of, positions_of}
use Rattle.gms_set.specs.declared.fault.SetError.{SetError}
use Rattle.gms_set.specs.declared.fault.SetFault.{SetFault}
use Rattle.gms_set.specs.Expansion.{ExpandedData, error_of, expanded, tuples_of, unless, with_items, tuples_with_value}
use Rattle.gms_tuple.specs.Products.{tuple_product}
use Rattle.gms_check.specs.declared.error.CompileError.{CompileError}
use Rattle.gms_check.specs.declared.error.ErrorKind.{ErrorKind}
use Rattle.gms_check.specs.declared.contexts.Context.{Context}
use Rattle.gms_check.specs.CompileErrors.{act_errors, checked_kinds, declaration_errors, each_error, errors_at, errors_of, has_error, known_after, known_after_item, known_in, model_errors, statement_error, statement_errors}
use Rattle.gms_check.specs.DeclarationUses.{are_usable, data_uses, domain_use, expansion_uses, failure, has_all_parts, item_uses, kind_uses, model_uses}
use Rattle.gms_check.specs.Errors.{comes_first, earlier, first_error}
use Rattle.gms_check.specs.Past.{Known, Past}
use Rattle.gms_check.specs.Contexts.{as_condition, as_side}
use Rattle.gms_check.specs.InnerStatements.{act_uses}
use Rattle.gms_check.specs.StatementUses.{index_list, left_uses, option_uses, right_context, setting_place, show_uses, statement_uses, with_left}
use Rattle.gms_check.specs.Uses.{Use, Uses, condition_uses, control_uses, placing, listing, sets_of_control, shift_uses, uses}
use Rattle.gms_check.proofs.ActUses.{uses-Abort, uses-Alias, uses-Assign, uses-Declare, uses-Define, uses-Display, uses-Loop, uses-Model, uses-Options, uses-Solve, uses-act}
use Rattle.gms_laws.specs.Occurrences.{IsExpressionOf, Role, amount_in_assignment, amount_in_definition, condition_of_abort, condition_of_assignment, condition_of_definition, condition_of_loop, left_side, right_of_set, right_of_value, right_side}
use Rattle.gms_laws.specs.Places.{IsDeclaredAt, IsPlaceOf, IsSettingAt, IsShownAt, aborted_at, assigned_at, datum_at, declared_at, displayed_at, domain_at, equation_at, first_name_at, in_loop, index_amount_at, its_own, left_amount_at, left_side_at, listed_at, method_at, model_at, model_declared_at, name_at, name_declared_at, number_at, objective_at, of_expression, option_at, option_value_at, right_side_at, second_name_at, shown_at, solved_at, target_at}
use Rattle.gms_laws.proofs.TreePlaces.{Each, IsNear, IsNearAmount, at_amount, each-both, each-weaker, in_amount, shift-places, tree-places}

-- ---- lists

-- each element of a list is one of the list
each-itself : {A : Type 0} (xs : List A) → AllByRecursion (Contains xs) xs
each-itself xs = recursion_from_All (Contains xs) xs (All-contains_itself xs)

taken-all : {A : Type 0} (P : A → Type 0) (n : ℕ) (xs : List A) → AllByRecursion P xs → AllByRecursion P (take n xs)
taken-all P zero [] all = tt
taken-all P zero (x ∷ xs) all = tt
taken-all P (suc n) [] all = tt
taken-all P (suc n) (x ∷ xs) all = (all.0, taken-all P n xs all.1)

-- ---- errors

kinds-at : (P : Place → Type 0) (at : Place) → P at → (kinds : List ErrorKind) → AllByRecursion (λ (error : CompileError). P error.at) (map (λ (kind : ErrorKind). record { kind = kind; at = at }) kinds)
kinds-at P at here [] = tt
kinds-at P at here (kind ∷ kinds) = (here, kinds-at P at here kinds)

errors-both : (P : Place → Type 0) (xs ys : List CompileError) → AllByRecursion (λ (error : CompileError). P error.at) xs → AllByRecursion (λ (error : CompileError). P error.at) ys → AllByRecursion (λ (error : CompileError). P error.at) (xs ++ ys)
errors-both P [] ys first second = second
errors-both P (x ∷ xs) ys first second = (first.0, errors-both P xs ys first.1 second)

first-at : (P : Place → Type 0) (errors : List CompileError) (error : CompileError) → AllByRecursion (λ (error : CompileError). P error.at) errors → first_error errors ≡ Some error → P error.at
first-at P [] error all e = absurd cc
first-at P (one ∷ errors) error all e = by (first_error errors) refl (λ (other : CompileError) (some : first_error errors ≡ Some other). first-at P errors other all.1 some)
  where
    is : earlier one (first_error errors) ≡ error
    is = cc

    chosen : (other : CompileError) (b : Bool) → P other.at → P (if b then other else one).at
    chosen other true later = later
    chosen other false later = all.0

    by : (o : Option CompileError) → first_error errors ≡ o → ((other : CompileError) → first_error errors ≡ Some other → P other.at) → P error.at
    by None none later = subst (λ (x : CompileError). P x.at) (sym (ap (earlier one) none) ∙ is) all.0
    by (Some other) some later = subst (λ (x : CompileError). P x.at) (sym (ap (earlier one) some) ∙ is) (chosen other (comes_first other one) (later other some))

-- ---- uses

module _ {F : Type 0} where
  -- the uses of the elements of a list
  each-flat : {A : Type 0} (P : Place → Type 0) (f : A → Uses F) (whole xs : List A) → ((x : A) → Contains whole x → Each P (f x)) → AllByRecursion (Contains whole) xs → Each P (flat_map f xs)
  each-flat P f whole [] each among = tt
  each-flat P f whole (x ∷ xs) each among = each-both P (f x) (flat_map f xs) (each x among.0) (each-flat P f whole xs each among.1)

  each-map : {A : Type 0} (P : Place → Type 0) (f : A → Place × Use F) (whole xs : List A) → ((x : A) → Contains whole x → P (f x).0) → AllByRecursion (Contains whole) xs → Each P (map f xs)
  each-map P f whole [] each among = tt
  each-map P f whole (x ∷ xs) each among = (each x among.0, each-map P f whole xs each among.1)

  -- ---- expressions of statements

  module _ (statement : Stmt F) where
    -- a place of the statement
    abbrev Here : Place → Type 0
    Here at = IsPlaceOf at statement

    at-own : Here statement.at
    at-own = its_own refl

    expression : {state : State} {role : Role} {root : Tree F} → IsExpressionOf state statement.act role root → (around : Place) → Here around → (context : Context) (controlled : List ℕ) → Each Here (uses context around controlled root)
    expression {state} {role} {root} is around here context controlled =
        each-weaker (IsNear around root) Here near (uses context around controlled root) (tree-places root context around controlled)
      where
        near : (at : Place) → IsNear around root at → IsPlaceOf at statement
        near at (inl same) = subst (λ (p : Place). IsPlaceOf p statement) (sym same) here
        near at (inr inside) = of_expression is inside

    shown : (items : List Show) → ((at : Place) → IsShownAt at items → Here at) → Each Here (flat_map (show_uses {F = F}) items)
    shown items here = each-flat Here (show_uses {F = F}) items items by (each-itself items)
      where
        by : (one : Show) → Contains items one → Each Here (show_uses {F = F} one)
        by (show.Text word) among = tt
        by (show.Symbol named suffix) among = (here named.at (shown_at among refl), tt)

    -- ---- acts

    module _ (state : State) (controlled : List ℕ) where
      assign-places : (target : Target F) (condition : Option (Expr F)) (right_at : Place) (right : Expr F) → statement.act ≡ Assign target condition right_at (Value right) → Each Here (act_uses (Assign target condition right_at (Value right)) state statement.at controlled)
      assign-places target condition right_at right is =
          let around = with_left controlled target.indices in
          subst (Each Here) (sym (uses-Assign state statement.at controlled target condition right_at right)) (target_at is refl, each-both Here (left_uses statement.at around target.indices condition) (uses (right_context state target.name) right_at around (tree_of right)) (each-both Here (shift_uses around (index_list target.indices)) (condition_uses statement.at around (option_map tree_of condition)) (each-weaker (IsNearAmount (index_list target.indices)) Here amount (shift_uses around (index_list target.indices)) (shift-places (index_list target.indices) around)) (conditions condition is around)) (right-places (is_set (symbol_at state target.name).content) refl around))
        where
          amount : (at : Place) → IsNearAmount (index_list target.indices) at → IsPlaceOf at statement
          amount at (at_amount where_is) = left_amount_at is where_is
          amount at (in_amount among inside) = of_expression {state = state} (amount_in_assignment target condition right_at right is among) inside

          conditions : (condition : Option (Expr F)) → statement.act ≡ Assign target condition right_at (Value right) → (around : List ℕ) → Each Here (condition_uses statement.at around (option_map tree_of condition))
          conditions None is around = tt
          conditions (Some condition) is around = expression {state = state} (condition_of_assignment target condition right_at right is) statement.at at-own as_condition around

          right-places : (b : Bool) → is_set (symbol_at state target.name).content ≡ b → (around : List ℕ) → Each Here (uses (right_context state target.name) right_at around (tree_of right))
          right-places true of_set around = expression {state = state} (right_of_set target condition right_at right is of_set) right_at (assigned_at is refl) (right_context state target.name) around
          right-places false no_set around = expression {state = state} (right_of_value target condition right_at right is no_set) right_at (assigned_at is refl) (right_context state target.name) around

      define-places : (equation : Named) (indices : List (Index F)) (condition : Option (Expr F)) (left_at : Place) (left : Expr F) (side : Side) (right_at : Place) (right : Expr F) → statement.act ≡ Define equation indices condition left_at left side right_at right → Each Here (act_uses (Define equation indices condition left_at left side right_at right) state statement.at controlled)
      define-places equation indices condition left_at left side right_at right is =
          let around = with_left controlled indices in
          let sides = uses as_side left_at around (tree_of left) ++ uses as_side right_at around (tree_of right) in
          subst (Each Here) (sym (uses-Define state statement.at controlled equation indices condition left_at left side right_at right)) (equation_at is refl, each-both Here (left_uses statement.at around indices condition) sides (each-both Here (shift_uses around (index_list indices)) (condition_uses statement.at around (option_map tree_of condition)) (each-weaker (IsNearAmount (index_list indices)) Here amount (shift_uses around (index_list indices)) (shift-places (index_list indices) around)) (conditions condition is around)) (each-both Here (uses as_side left_at around (tree_of left)) (uses as_side right_at around (tree_of right)) (expression {state = state} (left_side equation indices condition left_at left side right_at right is) left_at (left_side_at is refl) as_side around) (expression {state = state} (right_side equation indices condition left_at left side right_at right is) right_at (right_side_at is refl) as_side around)))
        where
          amount : (at : Place) → IsNearAmount (index_list indices) at → IsPlaceOf at statement
          amount at (at_amount where_is) = index_amount_at is where_is
          amount at (in_amount among inside) = of_expression {state = state} (amount_in_definition equation indices condition left_at left side right_at right is among) inside

          conditions : (condition : Option (Expr F)) → statement.act ≡ Define equation indices condition left_at left side right_at right → (around : List ℕ) → Each Here (condition_uses statement.at around (option_map tree_of condition))
          conditions None is around = tt
          conditions (Some condition) is around = expression {state = state} (condition_of_definition equation indices condition left_at left side right_at right is) statement.at at-own as_condition around

      option-places : (settings : List (Word × Setting F)) → statement.act ≡ Options settings → Each Here (flat_map option_uses settings)
      option-places settings is = each-flat Here option_uses settings settings by (each-itself settings)
        where
          value-at : (one : Setting F) → IsSettingAt (setting_place one) one
          value-at (setting.Number at value) = number_at
          value-at (setting.Name word) = name_at refl

          by : (one : Word × Setting F) → Contains settings one → Each Here (option_uses one)
          by one among = (option_at is among refl, (option_value_at is among (value-at one.1), tt))

      abort-places : (condition : Option (Expr F)) (items : List Show) → statement.act ≡ Abort condition items → Each Here (condition_uses statement.at controlled (option_map tree_of condition) ++ flat_map show_uses items)
      abort-places condition items is =
          each-both Here (condition_uses statement.at controlled (option_map tree_of condition)) (flat_map show_uses items) (conditions condition is) (shown items (λ at among. aborted_at is among))
        where
          conditions : (condition : Option (Expr F)) → statement.act ≡ Abort condition items → Each Here (condition_uses statement.at controlled (option_map tree_of condition))
          conditions None is = tt
          conditions (Some condition) is = expression {state = state} (condition_of_abort condition items is) statement.at at-own as_condition controlled

      control-places : (control : ControlNode F) (body : Vec (Stmt F) Global) → statement.act ≡ Loop control body → Each Here (control_uses statement.at controlled (control_tree control))
      control-places control body is = by (control_tree control) refl
        where
          by : (shown : Control F) → control_tree control ≡ shown → Each Here (control_uses statement.at controlled shown)
          by (over sets) same = (at-own, tt)
          by (over_where sets condition) same = (at-own, expression {state = state} (condition_of_loop control body is same) statement.at at-own as_condition (controlled ++ sets))

  -- ---- statements

  -- a statement whose uses have places of it
  abbrev HasPlaces : Stmt F → Type 0
  HasPlaces statement = (state : State) (controlled : List ℕ) → Each (λ at. IsPlaceOf at statement) (statement_uses statement state controlled)

  -- the same of the act of any statement that has it
  abbrev ActHasPlaces : Act F → Type 0
  ActHasPlaces act = (statement : Stmt F) → statement.act ≡ act → (state : State) (controlled : List ℕ) → Each (λ at. IsPlaceOf at statement) (act_uses act state statement.at controlled)

  body-places : (statement : Stmt F) (control : ControlNode F) (body : Vec (Stmt F) Global) → statement.act ≡ Loop control body → (state : State) (sets : List ℕ) (inner : List (Stmt F)) → AllByRecursion (Contains body.items) inner → AllByRecursion HasPlaces inner → Each (λ at. IsPlaceOf at statement) (flat_map (λ (s : Stmt F). statement_uses s state sets) inner)
  body-places statement control body is state sets [] among each = tt
  body-places statement control body is state sets (s ∷ inner) among each =
      each-both (λ at. IsPlaceOf at statement) (statement_uses s state sets) (flat_map (λ (s : Stmt F). statement_uses s state sets) inner) (each-weaker (λ at. IsPlaceOf at s) (λ at. IsPlaceOf at statement) (λ at place. in_loop control body s is among.0 place) (statement_uses s state sets) (each.0 state sets)) (body-places statement control body is state sets inner among.1 each.1)

  loop-places : (control : ControlNode F) (body : Vec (Stmt F) Global) → AllByRecursion HasPlaces body.items → ActHasPlaces (Loop control body)
  loop-places control body each statement is state controlled =
      let sets = controlled ++ sets_of_control (control_tree control) in
      subst (Each (λ at. IsPlaceOf at statement)) (sym (uses-Loop state statement.at controlled control body)) (each-both (λ at. IsPlaceOf at statement) (control_uses statement.at controlled (control_tree control)) (flat_map (λ (s : Stmt F). statement_uses s state sets) body.items) (control-places statement state controlled control body is) (body-places statement control body is state sets body.items (each-itself body.items) each))

  paired-places : (body : List ((s : Stmt F) × HasPlaces s)) → AllByRecursion HasPlaces (map (λ e. e.0) body)
  paired-places [] = tt
  paired-places (e ∷ body) = (e.1, paired-places body)

  by_layer : (y : Act-F F ((a : Act F) × ActHasPlaces a) ((s : Stmt F) × HasPlaces s)) → ActHasPlaces (roll-Act F (map-Act F ((a : Act F) × ActHasPlaces a) ((s : Stmt F) × HasPlaces s) (Act F) (Stmt F) (λ e. e.0) (λ e. e.0) y))
  by_layer (Act-F.Declare kind items) = subst ActHasPlaces (sym (rolls-Declare kind items)) (λ statement is state controlled. subst (Each (λ at. IsPlaceOf at statement)) (sym (uses-Declare state statement.at controlled kind items)) tt)
  by_layer (Act-F.Alias first second) = subst ActHasPlaces (sym (rolls-Alias first second)) (λ statement is state controlled. subst (Each (λ at. IsPlaceOf at statement)) (sym (uses-Alias state statement.at controlled first second)) (first_name_at is refl, (second_name_at is refl, tt)))
  by_layer (Act-F.Assign target condition right_at (Value right)) =
      subst ActHasPlaces (sym (rolls-Assign target condition right_at (Value right))) (λ statement is state controlled. assign-places statement state controlled target condition right_at right is)
  by_layer (Act-F.Define equation indices condition left_at left side right_at right) =
      subst ActHasPlaces (sym (rolls-Define equation indices condition left_at left side right_at right)) (λ statement is state controlled. define-places statement state controlled equation indices condition left_at left side right_at right is)
  by_layer (Act-F.Model models) = subst ActHasPlaces (sym (rolls-Model models)) (λ statement is state controlled. subst (Each (λ at. IsPlaceOf at statement)) (sym (uses-Model state statement.at controlled models)) tt)
  by_layer (Act-F.Solve model word objective maximize) =
      subst ActHasPlaces (sym (rolls-Solve model word objective maximize)) (λ statement is state controlled. subst (Each (λ at. IsPlaceOf at statement)) (sym (uses-Solve state statement.at controlled model word objective maximize)) (solved_at is refl, (method_at is refl, (objective_at is refl, tt))))
  by_layer (Act-F.Display items) =
      subst ActHasPlaces (sym (rolls-Display items)) (λ statement is state controlled. subst (Each (λ at. IsPlaceOf at statement)) (sym (uses-Display state statement.at controlled items)) (shown statement items (λ at among. displayed_at is among)))
  by_layer (Act-F.Options settings) =
      subst ActHasPlaces (sym (rolls-Options settings)) (λ statement is state controlled. subst (Each (λ at. IsPlaceOf at statement)) (sym (uses-Options state statement.at controlled settings)) (option-places statement state controlled settings is))
  by_layer (Act-F.Abort condition items) =
      subst ActHasPlaces (sym (rolls-Abort condition items)) (λ statement is state controlled. subst (Each (λ at. IsPlaceOf at statement)) (sym (uses-Abort state statement.at controlled condition items)) (abort-places statement state controlled condition items is))
  by_layer (Act-F.Loop control body) =
      subst ActHasPlaces (sym (rolls-Loop control _)) (loop-places control _ (paired-places body.items))

  by_statement : (y : Stmt-F F ((a : Act F) × ActHasPlaces a) ((s : Stmt F) × HasPlaces s)) → HasPlaces (roll-Stmt F (map-Stmt F ((a : Act F) × ActHasPlaces a) ((s : Stmt F) × HasPlaces s) (Act F) (Stmt F) (λ e. e.0) (λ e. e.0) y))
  by_statement y state controlled =
      let statement = roll-Stmt F (map-Stmt F ((a : Act F) × ActHasPlaces a) ((s : Stmt F) × HasPlaces s) (Act F) (Stmt F) (λ e. e.0) (λ e. e.0) y) in
      subst (Each (λ at. IsPlaceOf at statement)) (sym (uses-act statement state controlled)) (y.act.1 statement refl state controlled)

  -- what a statement uses is at places of it
  statement-places : (statement : Stmt F) → HasPlaces statement
  statement-places =
      ind-Stmt F ActHasPlaces HasPlaces
      (λ x y is. subst (λ z. ActHasPlaces (roll-Act F z)) is (by_layer y))
      (λ x y is. subst (λ z. HasPlaces (roll-Stmt F z)) is (by_statement y))

  -- ---- declarations

  -- the fault of a list is at an item of it
  fault-place : (P : Place → Type 0) (state : State) (domain : List (Option ℕ)) (given : ExpandedData F) (items : List (Item F)) (fault : SetFault) → AllByRecursion (λ (item : Item F). P item.at) items → with_items state domain given items ≡ Err fault → P fault.at
  fault-place P state domain given [] fault all e = absurd cc
  fault-place P state domain given (item ∷ items) fault all e = by (error_of state domain (tuples_of given) item) (fault-place P state domain (given ++ tuples_with_value item.value (tuple_product item.parts)) items fault all.1) e
    where
      by : (o : Option SetError) → (with_items state domain (given ++ tuples_with_value item.value (tuple_product item.parts)) items ≡ Err fault → P fault.at) → unless o item.at (with_items state domain (given ++ tuples_with_value item.value (tuple_product item.parts)) items) ≡ Err fault → P fault.at
      by (Some error) later e = let same : record { error = error; at = item.at } ≡ fault = cc in subst (λ (f : SetFault). P f.at) same all.0
      by None later e = later e

  failure-places : (P : Place → Type 0) (result : Result (ExpandedData F) SetFault) → ((fault : SetFault) → result ≡ Err fault → P fault.at) → Each P (failure result)
  failure-places P (Ok given) each = tt
  failure-places P (Err fault) each = (each fault refl, tt)

  item-places : (known : Known F) (kind : DeclKind) (item : Decl F) → Each (λ at. IsDeclaredAt at item) (item_uses known kind item)
  item-places known kind item =
      let P : Place → Type 0 = λ at. IsDeclaredAt at item in
      let positions = positions_of kind (names_of item.domain) in
      (name_declared_at refl, each-both P (flat_map domain_use item.domain) (data_uses known positions item.items) (each-flat P domain_use item.domain item.domain in_domain (each-itself item.domain)) (each-both P (map (λ (datum : Item F). (datum.at, placing (length positions) (length datum.parts))) item.items) (expansion_uses known positions item.items) (each-map P (λ (datum : Item F). (datum.at, placing (length positions) (length datum.parts))) item.items item.items (λ datum among. datum_at among refl) (each-itself item.items)) (expansion (are_usable known positions) positions)))
    where
      in_domain : (o : Option Named) → Contains item.domain o → Each (λ at. IsDeclaredAt at item) (domain_use {F = F} o)
      in_domain None among = tt
      in_domain (Some named) among = (domain_at among refl, tt)

      all-data : (items : List (Item F)) → AllByRecursion (Contains item.items) items → AllByRecursion (λ (datum : Item F). IsDeclaredAt datum.at item) items
      all-data [] among = tt
      all-data (datum ∷ items) among = (datum_at among.0 refl, all-data items among.1)

      expansion : (b : Bool) (positions : List (Option ℕ)) → Each (λ at. IsDeclaredAt at item) (if b then failure (expanded known.state positions (take_while (has_all_parts positions) item.items)) else [])
      expansion true positions =
          failure-places (λ at. IsDeclaredAt at item) (expanded known.state positions (take_while (has_all_parts positions) item.items)) (λ fault e. fault-place (λ at. IsDeclaredAt at item) known.state positions [] (take_while (has_all_parts positions) item.items) fault (taken-all (λ (datum : Item F). IsDeclaredAt datum.at item) (prefix_len (has_all_parts positions) item.items) item.items (all-data item.items (each-itself item.items))) e)
      expansion false positions = tt

  -- ---- errors

  errors-at : (P : Place → Type 0) (known : Known F) (us : Uses F) → Each P us → AllByRecursion (λ (error : CompileError). P error.at) (errors_of known us)
  errors-at P known [] each = tt
  errors-at P known (u ∷ us) each =
      errors-both P (errors_at known u) (errors_of known us) (kinds-at P u.0 each.0 (filter (has_error known u.1) checked_kinds)) (errors-at P known us each.1)

  module _ (statement : Stmt F) where
    declaration-at : (kind : DeclKind) (items : List (Decl F)) → statement.act ≡ Declare kind items → (known : Known F) (rest : List (Decl F)) → AllByRecursion (Contains items) rest → AllByRecursion (λ (error : CompileError). IsPlaceOf error.at statement) (declaration_errors known kind rest)
    declaration-at kind items is known [] among = tt
    declaration-at kind items is known (item ∷ rest) among =
        errors-both (λ at. IsPlaceOf at statement) (errors_of known (item_uses known kind item)) (declaration_errors (known_after_item known kind item) kind rest) (errors-at (λ at. IsPlaceOf at statement) known (item_uses known kind item) (each-weaker (λ at. IsDeclaredAt at item) (λ at. IsPlaceOf at statement) (λ at place. declared_at is among.0 place) (item_uses known kind item) (item-places known kind item))) (declaration-at kind items is (known_after_item known kind item) rest among.1)

    model-at : (models : List ModelDecl) → statement.act ≡ Model models → (known : Known F) (rest : List ModelDecl) → AllByRecursion (Contains models) rest → AllByRecursion (λ (error : CompileError). IsPlaceOf error.at statement) (model_errors known rest)
    model-at models is known [] among = tt
    model-at models is known (model ∷ rest) among =
        errors-both (λ at. IsPlaceOf at statement) (errors_of known (model_uses model)) (model_errors (known_in known (declare_model known.state model.named.name)) rest) (errors-at (λ at. IsPlaceOf at statement) known (model_uses model) (model_declared_at is among.0 (model_at refl), each-map (λ at. IsPlaceOf at statement) (λ (equation : Named). (equation.at, listing equation.name)) model.equations model.equations (λ equation inside. model_declared_at is among.0 (listed_at inside refl)) (each-itself model.equations))) (model-at models is (known_in known (declare_model known.state model.named.name)) rest among.1)

    kind-at : (known : Known F) (kind : DeclKind) → Each (λ at. IsPlaceOf at statement) (kind_uses {F = F} statement.at kind)
    kind-at known declaring.Discrete = (its_own refl, tt)
    kind-at known kind = tt

    -- the error of a statement is at a place of it
    statement-at : (known : Known F) (error : CompileError) → statement_error known statement ≡ Some error → IsPlaceOf error.at statement
    statement-at known error = by statement.act refl
      where
        by : (act : Act F) → statement.act ≡ act → first_error (act_errors known statement act) ≡ Some error → IsPlaceOf error.at statement
        by (Declare kind items) is e =
            first-at (λ at. IsPlaceOf at statement) (errors_of known (kind_uses statement.at kind) ++ declaration_errors known kind items) error (errors-both (λ at. IsPlaceOf at statement) (errors_of known (kind_uses statement.at kind)) (declaration_errors known kind items) (errors-at (λ at. IsPlaceOf at statement) known (kind_uses statement.at kind) (kind-at known kind)) (declaration-at kind items is known items (each-itself items))) e
        by (Model models) is e = first-at (λ at. IsPlaceOf at statement) (model_errors known models) error (model-at models is known models (each-itself models)) e
        by act is e =
            first-at (λ at. IsPlaceOf at statement) (errors_of known (statement_uses statement known.state [])) error (errors-at (λ at. IsPlaceOf at statement) known (statement_uses statement known.state []) (statement-places statement known.state [])) e

module _ {F : Type 0} (value : F → Number) (program : Program F) (solvers : List (List ℕ)) where
  error-at : (statements : List (Stmt F)) (past : Past F) (i : ℕ) (statement : Stmt F) (error : CompileError) → slice_get statements i ≡ Some statement → slice_get (each_error value program solvers past statements) i ≡ Some (Some error) → IsPlaceOf error.at statement
  error-at [] past i statement error there e = absurd cc
  error-at (first ∷ rest) past zero statement error there e =
      let same : first ≡ statement = cc in
      let found : statement_error (known_after value program solvers past) first ≡ Some error = cc in
      subst (IsPlaceOf error.at) same (statement-at first (known_after value program solvers past) error found)
  error-at (first ∷ rest) past (suc i) statement error there e =
      error-at rest (past ++ (first, is_none (statement_error (known_after value program solvers past) first)) ∷ []) i statement error there e

  -- the error of a statement of a program is at a place of the statement
  pub error-place : (i : ℕ) (statement : Stmt F) (error : CompileError) → slice_get program.statements.items i ≡ Some statement → slice_get (statement_errors value program solvers) i ≡ Some (Some error) → IsPlaceOf error.at statement
  error-place i statement error there e = error-at program.statements.items [] i statement error there e
