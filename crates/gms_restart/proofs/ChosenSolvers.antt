-- A program that has no error with solvers of some names has none with solvers of the names that it
-- chooses: one error alone depends on the solvers, and it concerns the value of an option.
use Rattle.gms_check.proofs.Faultless.{none-first, none-left, none-right}
use Rattle.std.proofs.lemmas.Bool.{or_left, or_right}
use Rattle.std.proofs.Common.{◌≡◌, ℕ, Bool, true, false, not, ◌&&◌, ◌||◌, if◌then◌else◌, List, [], ◌∷◌, ◌++◌, length, map, Option, Some, None, option_map, Result, Ok, Err, refl, sym, ap, ap₂, ◌∙◌, subst}
use Rattle.std.specs.Prelude.{codes, filter, flat_map, is_none, option_to_list}
use Rattle.std.specs.List.{list_any}
use Rattle.std.specs.Str.{str_eq_ignore_ascii_case}
use Rattle.std.proofs.Math.Path.{fun_ext}
use Rattle.gq_frac.specs.declared.frac.Frac.{Frac}
use Rattle.gq_frac.specs.Frac.{frac_value}
use Rattle.gms_labels.specs.declared.place.Place.{Place}
use Rattle.gms_labels.proofs.Places.{is_same_refl}
use Rattle.gms_ast.specs.declared.declaration.Decl.{Decl}
use Rattle.gms_ast.specs.declared.declaration.DeclKind.{DeclKind}
use Rattle.gms_ast.specs.declared.declaration.DeclKind.TheVariants as declaring
use Rattle.gms_ast.specs.declared.declaration.Item.{Item}
use Rattle.gms_ast.specs.declared.declaration.ModelDecl.{ModelDecl}
use Rattle.gms_ast.specs.declared.expression.Suffix.{Suffix}
use Rattle.gms_ast.specs.declared.expression.Suffix.TheVariants as suffix
use Rattle.gms_ast.specs.declared.program.Act.{Act, roll-Act, map-Act}
use Rattle.gms_ast.specs.declared.program.Act.TheFolds.{fold-Act, fold-roll-Act, fold_out-Stmt}
use Rattle.gms_ast.specs.declared.program.Act.TheOpen.{Act-F, Stmt-F}
use Rattle.gms_ast.specs.declared.program.Act.TheVariants.{Declare, Model}
use Rattle.gms_ast.specs.declared.program.Program.{Program}
use Rattle.gms_ast.specs.declared.program.Right.TheVariants.{Value}
use Rattle.gms_ast.specs.declared.program.Setting.{Setting}
use Rattle.gms_ast.specs.declared.program.Setting.TheVariants as setting
use Rattle.gms_ast.specs.declared.program.Show.{Show}
use Rattle.gms_ast.specs.declared.program.Show.TheVariants as show
use Rattle.gms_ast.specs.declared.program.Stmt.{Stmt}
use Rattle.gms_ast.specs.declared.word.Named.{Named}
use Rattle.gms_ast.specs.declared.word.Word.{Word}
use Rattle.gms_ast.specs.TreeView.{control_tree, tree_of}
use Rattle.gms_ast.specs.Trees.{Tree, number, plus_infinity, not_available, yes, no, reference, place_in_set, size_of_set, call, fold_over, negated, sum, product, power, relation, not_so, all_of, one_of, guarded, Parts, no_part, part, Indices, no_index, label, set, lagged, Control, over, over_where}
use Rattle.gms_store.specs.State.{State}
use Rattle.gms_store.specs.Declarations.{declare_model, names_of, positions_of}
use Rattle.gms_set.specs.declared.fault.SetError.TheVariants.{BadRange, Outside}
use Rattle.gms_set.specs.declared.fault.SetFault.{SetFault}
use Rattle.gms_set.specs.Expansion.{ExpandedData}
use Rattle.gms_check.specs.declared.error.CompileError.{CompileError}
use Rattle.gms_check.specs.declared.error.ErrorKind.{ErrorKind}
use Rattle.gms_check.specs.declared.error.ErrorKind.TheVariants as wrong
use Rattle.gms_check.specs.declared.contexts.Context.{Context}
use Rattle.gms_check.specs.CompileErrors.{act_errors, checked_kinds, compile_errors, declaration_errors, errors_after, errors_at, errors_of, has_error, is_faultless, known_after, known_after_item, known_in, model_errors, statement_error}
use Rattle.gms_check.specs.Controls.{controlled_twice, not_ordered, uncontrolled}
use Rattle.gms_check.specs.DeclarationUses.{are_usable, data_uses, domain_use, expansion_uses, failure, item_uses, kind_uses, model_uses}
use Rattle.gms_check.specs.Domains.{domain_of_label, domain_of_set, dynamic_domain, wrong_arity}
use Rattle.gms_check.specs.Errors.{first_error}
use Rattle.gms_check.specs.Kinds.{discrete, is_target_amount, wrong_function, wrong_kind}
use Rattle.gms_check.specs.Linearity.{endogenous, has_variable, have_variable, is_sum, is_variable_by, nonlinear}
use Rattle.gms_check.specs.Names.{redeclared, unknown_name}
use Rattle.gms_check.specs.OptionWords.{is_one_of}
use Rattle.gms_check.specs.Past.{Known, Past, with_item, with_name}
use Rattle.gms_check.specs.Solves.{data_fault, defined_twice, model_type, not_defined, objective, option_range, unknown_solver}
use Rattle.gms_check.specs.Contexts.{as_condition, as_denied, as_guarded, as_inner, as_number, as_part, as_side}
use Rattle.gms_check.specs.InnerStatements.{act_uses}
use Rattle.gms_check.specs.StatementUses.{UsesOfAct, UsesOfStatement, act_uses_step, index_list, left_uses, option_uses, right_context, show_uses, statement_uses_step, statement_uses, with_left}
use Rattle.gms_check.specs.Uses.{Use, Uses, multiplies, divides, raises, literal, reading, calling, folding, stepping, shifting, placing, failing, listing, showing, option_value, amount_uses, condition_uses, control_uses, later_steps, part_uses, place_by_mark, sets_of_control, shift_uses, steps, uses}
use Rattle.gms_check.proofs.ActUses.{uses-act}
use Rattle.gms_check.proofs.NoErrors.{AreClean, IsClean, are-clean}
use Rattle.gms_check.proofs.Soundness.{no-option}
use Rattle.gms_save.specs.Saves.{option_solvers, solvers_chosen, solvers_in, solvers_step}
use Rattle.gms_save.proofs.SeenActs.{AllSuch, Layer, LayerSuch, each-act}

-- ---- names of solvers

abbrev AreAmong : List (List ℕ) → List (List ℕ) → Type 0
AreAmong all [] = Unit {0}
AreAmong all (name ∷ names) = (is_one_of all name ≡ true) × AreAmong all names

one-more : (other : List ℕ) (all names : List (List ℕ)) → AreAmong all names → AreAmong (other ∷ all) names
one-more other all [] among = tt
one-more other all (name ∷ names) among =
    (or_right (str_eq_ignore_ascii_case name other) (is_one_of all name) among.0, one-more other all names among.1)

among-themselves : (names : List (List ℕ)) → AreAmong names names
among-themselves [] = tt
among-themselves (name ∷ names) =
    (or_left (str_eq_ignore_ascii_case name name) (is_one_of names name) (is_same_refl name), one-more name names names (among-themselves names))

among-left : (all xs ys : List (List ℕ)) → AreAmong all (xs ++ ys) → AreAmong all xs
among-left all [] ys among = tt
among-left all (x ∷ xs) ys among = (among.0, among-left all xs ys among.1)

among-right : (all xs ys : List (List ℕ)) → AreAmong all (xs ++ ys) → AreAmong all ys
among-right all [] ys among = among
among-right all (x ∷ xs) ys among = among-right all xs ys among.1

-- ---- what is used

module _ (selected : List (List ℕ)) where
  -- an option `lp` is set to one of these names; any other use is admitted
  abbrev Fits : Use Frac → Type 0
  Fits (option_value word (setting.Name name)) = str_eq_ignore_ascii_case word (codes "lp") ≡ true → is_one_of selected name.text ≡ true
  Fits used = Unit {0}

  abbrev AllFit : Uses Frac → Type 0
  AllFit [] = Unit {0}
  AllFit (u ∷ us) = Fits u.1 × AllFit us

  fit-both : (xs ys : Uses Frac) → AllFit xs → AllFit ys → AllFit (xs ++ ys)
  fit-both [] ys one other = other
  fit-both (x ∷ xs) ys one other = (one.0, fit-both xs ys one.1 other)

  -- ---- expressions

  mutual
    tree-fits : (context : Context) (around : Place) (controlled : List ℕ) (e : Tree Frac) → AllFit (uses context around controlled e)
    tree-fits context around controlled (number n) = (tt, tt)
    tree-fits context around controlled plus_infinity = (tt, tt)
    tree-fits context around controlled not_available = (tt, tt)
    tree-fits context around controlled yes = (tt, tt)
    tree-fits context around controlled no = (tt, tt)
    tree-fits context around controlled (reference at name s indices) = (tt, amounts-fit controlled indices)
    tree-fits context around controlled (place_in_set at name) = (tt, tt)
    tree-fits context around controlled (size_of_set at name) = (tt, tt)
    tree-fits context around controlled (call at function args) = (tt, parts-fit (as_inner context) at controlled args)
    tree-fits context around controlled (fold_over at op control body) =
        (tt, fit-both (control_uses at controlled control) (uses (as_inner context) at (controlled ++ sets_of_control control) body) (control-fits at controlled control) (tree-fits (as_inner context) at (controlled ++ sets_of_control control) body))
    tree-fits context around controlled (negated operand) = tree-fits (as_part context) around controlled operand
    tree-fits context around controlled (sum parts) = parts-fit (as_part context) around controlled parts
    tree-fits context around controlled (product parts) =
        fit-both (part_uses (as_part context) around controlled parts) (steps context around parts) (parts-fit (as_part context) around controlled parts) (steps-fit context around parts)
    tree-fits context around controlled (power parts) =
        fit-both (part_uses (as_part context) around controlled parts) (steps context around parts) (parts-fit (as_part context) around controlled parts) (steps-fit context around parts)
    tree-fits context around controlled (relation parts) = (tt, parts-fit as_number around controlled parts)
    tree-fits context around controlled (not_so operand) = tree-fits (as_denied context) around controlled operand
    tree-fits context around controlled (all_of parts) = (tt, parts-fit as_condition around controlled parts)
    tree-fits context around controlled (one_of parts) = (tt, parts-fit as_condition around controlled parts)
    tree-fits context around controlled (guarded operand guards) =
        fit-both (uses (as_guarded context) around controlled operand) (part_uses as_condition around controlled guards) (tree-fits (as_guarded context) around controlled operand) (parts-fit as_condition around controlled guards)

    parts-fit : (context : Context) (around : Place) (controlled : List ℕ) (parts : Parts Frac) → AllFit (part_uses context around controlled parts)
    parts-fit context around controlled no_part = tt
    parts-fit context around controlled (part mark e rest) =
        fit-both (uses context (place_by_mark mark around) controlled e) (part_uses context around controlled rest) (tree-fits context (place_by_mark mark around) controlled e) (parts-fit context around controlled rest)

    amounts-fit : (controlled : List ℕ) (indices : Indices Frac) → AllFit (amount_uses controlled indices)
    amounts-fit controlled no_index = tt
    amounts-fit controlled (label n rest) = amounts-fit controlled rest
    amounts-fit controlled (set name rest) = amounts-fit controlled rest
    amounts-fit controlled (lagged name op at amount rest) =
        fit-both (uses as_number at controlled amount) (amount_uses controlled rest) (tree-fits as_number at controlled amount) (amounts-fit controlled rest)

    control-fits : (at : Place) (controlled : List ℕ) (control : Control Frac) → AllFit (control_uses at controlled control)
    control-fits at controlled (over sets) = (tt, tt)
    control-fits at controlled (over_where sets condition) = (tt, tree-fits as_condition at (controlled ++ sets) condition)

    steps-fit : (context : Context) (around : Place) (parts : Parts Frac) → AllFit (steps context around parts)
    steps-fit context around no_part = tt
    steps-fit context around (part mark e rest) = later-fit context around (e ∷ []) rest

    later-fit : (context : Context) (around : Place) (earlier : List (Tree Frac)) (parts : Parts Frac) → AllFit (later_steps context around earlier parts)
    later-fit context around earlier no_part = tt
    later-fit context around earlier (part mark e rest) = (tt, later-fit context around (earlier ++ e ∷ []) rest)

  shifts-fit : (controlled : List ℕ) (indices : Indices Frac) → AllFit (shift_uses controlled indices)
  shifts-fit controlled no_index = tt
  shifts-fit controlled (label n rest) = shifts-fit controlled rest
  shifts-fit controlled (set name rest) = shifts-fit controlled rest
  shifts-fit controlled (lagged name op at amount rest) =
      (tt, fit-both (uses as_number at controlled amount) (shift_uses controlled rest) (tree-fits as_number at controlled amount) (shifts-fit controlled rest))

  condition-fits : (at : Place) (controlled : List ℕ) (condition : Option (Tree Frac)) → AllFit (condition_uses at controlled condition)
  condition-fits at controlled None = tt
  condition-fits at controlled (Some condition) = tree-fits as_condition at controlled condition

  left-fits : (at : Place) (controlled : List ℕ) (indices : Indices Frac) (condition : Option (Tree Frac)) → AllFit (shift_uses controlled indices ++ condition_uses at controlled condition)
  left-fits at controlled indices condition =
      fit-both (shift_uses controlled indices) (condition_uses at controlled condition) (shifts-fit controlled indices) (condition-fits at controlled condition)

  -- ---- statements

  shows-fit : (items : List Show) → AllFit (flat_map show_uses items)
  shows-fit [] = tt
  shows-fit (show.Text word ∷ items) = shows-fit items
  shows-fit (show.Symbol named s ∷ items) = (tt, shows-fit items)

  option-fits : (o : Word × Setting Frac) → AreAmong selected (option_solvers o) → AllFit (option_uses o)
  option-fits (word, setting.Number at x) among = (tt, (tt, tt))
  option-fits (word, setting.Name name) among =
      (tt, ((λ lp. (subst (λ (b : Bool). AreAmong selected (if b then name.text ∷ [] else [])) lp among).0), tt))

  options-fit : (options : List (Word × Setting Frac)) → AreAmong selected (flat_map option_solvers options) → AllFit (flat_map option_uses options)
  options-fit [] among = tt
  options-fit (o ∷ options) among =
      fit-both (option_uses o) (flat_map option_uses options) (option-fits o (among-left selected (option_solvers o) (flat_map option_solvers options) among)) (options-fit options (among-right selected (option_solvers o) (flat_map option_solvers options) among))

  -- names of solvers that an act chooses
  abbrev Names : Type 0
  Names = List (List ℕ)

  abbrev of_act : Stmt-F Frac Names Names → Names
  of_act s = s.act

  abbrev chosen_by : Act Frac → Names
  chosen_by = fold-Act Frac Names Names solvers_step of_act

  chosen-in : (s : Stmt Frac) → solvers_in s ≡ chosen_by s.act
  chosen-in s = fold_out-Stmt Frac Names Names solvers_step of_act s

  -- an act that chooses among these names uses what fits
  abbrev ActFits : Act Frac → Type 0
  ActFits act = AreAmong selected (chosen_by act) → (state : State) (at : Place) (controlled : List ℕ) → AllFit (act_uses act state at controlled)

  body-fits : (body : List (Stmt Frac)) → AllSuch ActFits body → AreAmong selected (flat_map (λ names. names) (map solvers_in body)) → (state : State) (sets : List ℕ) → AllFit (flat_map (λ (f : UsesOfStatement Frac). f state sets) (map statement_uses body))
  body-fits [] all among state sets = tt
  body-fits (s ∷ body) all among state sets =
      let own : AreAmong selected (chosen_by s.act) = subst (AreAmong selected) (chosen-in s) (among-left selected (solvers_in s) (flat_map (λ names. names) (map solvers_in body)) among) in
      fit-both (statement_uses s state sets) (flat_map (λ (f : UsesOfStatement Frac). f state sets) (map statement_uses body)) (subst AllFit (sym (uses-act s state sets)) (all.0 own state s.at sets))
      (body-fits body all.1 (among-right selected (solvers_in s) (flat_map (λ names. names) (map solvers_in body)) among) state sets)

  abbrev used_layer : Layer → UsesOfAct Frac
  used_layer x = act_uses_step (map-Act Frac (Act Frac) (Stmt Frac) (UsesOfAct Frac) (UsesOfStatement Frac) act_uses statement_uses x)

  abbrev chosen_layer : Layer → Names
  chosen_layer x = solvers_step (map-Act Frac (Act Frac) (Stmt Frac) Names Names chosen_by solvers_in x)

  layer-fits : (x : Layer) → LayerSuch ActFits x → AreAmong selected (chosen_layer x) → (state : State) (at : Place) (controlled : List ℕ) → AllFit (used_layer x state at controlled)
  layer-fits (Act-F.Declare kind items) all among state at controlled = tt
  layer-fits (Act-F.Alias first second) all among state at controlled = (tt, (tt, tt))
  layer-fits (Act-F.Assign target condition right_at (Value right)) all among state at controlled =
      (tt, fit-both (left_uses at (with_left controlled target.indices) target.indices condition) (uses (right_context state target.name) right_at (with_left controlled target.indices) (tree_of right)) (left-fits at (with_left controlled target.indices) (index_list target.indices) (option_map tree_of condition)) (tree-fits (right_context state target.name) right_at (with_left controlled target.indices) (tree_of right)))
  layer-fits (Act-F.Define equation indices condition left_at left side right_at right) all among state at controlled =
      let sets = with_left controlled indices in
      (tt, fit-both (left_uses at sets indices condition) (uses as_side left_at sets (tree_of left) ++ uses as_side right_at sets (tree_of right)) (left-fits at sets (index_list indices) (option_map tree_of condition)) (fit-both (uses as_side left_at sets (tree_of left)) (uses as_side right_at sets (tree_of right)) (tree-fits as_side left_at sets (tree_of left)) (tree-fits as_side right_at sets (tree_of right))))
  layer-fits (Act-F.Model models) all among state at controlled = tt
  layer-fits (Act-F.Solve model word objective maximize) all among state at controlled = (tt, (tt, (tt, tt)))
  layer-fits (Act-F.Display items) all among state at controlled = shows-fit items
  layer-fits (Act-F.Loop control body) all among state at controlled =
      let sets = controlled ++ sets_of_control (control_tree control) in
      fit-both (control_uses at controlled (control_tree control)) (flat_map (λ (f : UsesOfStatement Frac). f state sets) (map statement_uses body.items)) (control-fits at controlled (control_tree control)) (body-fits body.items all among state sets)
  layer-fits (Act-F.Options options) all among state at controlled = options-fit options among
  layer-fits (Act-F.Abort condition items) all among state at controlled =
      fit-both (condition_uses at controlled (option_map tree_of condition)) (flat_map show_uses items) (condition-fits at controlled (option_map tree_of condition)) (shows-fit items)

  layers : (x : Layer) → LayerSuch ActFits x → ActFits (roll-Act Frac x)
  layers x all among state at controlled =
      subst AllFit (sym (ap (λ (f : UsesOfAct Frac). f state at controlled) (fold-roll-Act Frac (UsesOfAct Frac) (UsesOfStatement Frac) act_uses_step statement_uses_step x)))
      (layer-fits x all (subst (AreAmong selected) (fold-roll-Act Frac Names Names solvers_step of_act x) among) state at controlled)

  -- a statement that chooses among these names uses what fits
  statement-fits : (s : Stmt Frac) → AreAmong selected (solvers_in s) → (state : State) (controlled : List ℕ) → AllFit (statement_uses s state controlled)
  statement-fits s among state controlled =
      subst AllFit (sym (uses-act s state controlled)) (each-act ActFits layers s (subst (AreAmong selected) (chosen-in s) among) state s.at controlled)

  -- ---- declarations

  domain-fits : (domain : List (Option Named)) → AllFit (flat_map domain_use domain)
  domain-fits [] = tt
  domain-fits (None ∷ domain) = domain-fits domain
  domain-fits (Some named ∷ domain) = (tt, domain-fits domain)

  expansion-fits : (b : Bool) (given : Result (ExpandedData Frac) SetFault) → AllFit (if b then failure given else [])
  expansion-fits true (Ok given) = tt
  expansion-fits true (Err fault) = (tt, tt)
  expansion-fits false given = tt

  data-fit : (known : Known Frac) (domain : List (Option ℕ)) (rest : Uses Frac) (items : List (Item Frac)) → AllFit rest → AllFit (map {B = Place × Use Frac} (λ (item : Item Frac). (item.at, placing (length domain) (length item.parts))) items ++ rest)
  data-fit known domain rest [] fit = fit
  data-fit known domain rest (item ∷ items) fit = (tt, data-fit known domain rest items fit)

  item-fits : (known : Known Frac) (kind : DeclKind) (item : Decl Frac) → AllFit (item_uses known kind item)
  item-fits known kind item =
      let domain = positions_of kind (names_of item.domain) in
      (tt, fit-both (flat_map domain_use item.domain) (data_uses known domain item.items) (domain-fits item.domain) (data-fit known domain (expansion_uses known domain item.items) item.items (expansion-fits (are_usable known domain) _)))

  kind-fits : (at : Place) (kind : DeclKind) → AllFit (kind_uses at kind)
  kind-fits at declaring.Discrete = (tt, tt)
  kind-fits at kind = tt

  listings-fit : (equations : List Named) → AllFit (map {B = Place × Use Frac} (λ (equation : Named). (equation.at, listing equation.name)) equations)
  listings-fit [] = tt
  listings-fit (equation ∷ equations) = (tt, listings-fit equations)

  model-fits : (model : ModelDecl) → AllFit (model_uses model)
  model-fits model = (tt, listings-fit model.equations)

  -- ---- errors

  -- what is known, with solvers of these names
  abbrev with_selected : Known Frac → Known Frac
  with_selected known = record known { solvers = selected }

  module _ (known : Known Frac) where
    abbrev other : Known Frac
    other = with_selected known

    -- no other error depends on the solvers

    variable-same : (name : ℕ) (s : Suffix) → is_variable_by other name s ≡ is_variable_by known name s
    variable-same name suffix.None = refl
    variable-same name s = refl

    mutual
      has-same : (e : Tree Frac) → has_variable other e ≡ has_variable known e
      has-same (reference at name s indices) = variable-same name s
      has-same (call at function args) = have-same args
      has-same (fold_over at op control body) = has-same body
      has-same (negated operand) = has-same operand
      has-same (sum parts) = have-same parts
      has-same (product parts) = have-same parts
      has-same (power parts) = have-same parts
      has-same (guarded operand guards) = has-same operand
      has-same e = refl

      have-same : (parts : Parts Frac) → have_variable other parts ≡ have_variable known parts
      have-same no_part = refl
      have-same (part mark e rest) = ap₂ (λ (a b : Bool). a || b) (has-same e) (have-same rest)

    any-same : (earlier : List (Tree Frac)) → list_any (has_variable other) earlier ≡ list_any (has_variable known) earlier
    any-same earlier = ap (λ (f : Tree Frac → Bool). list_any f earlier) (fun_ext has-same)

    amount-same : (amount : Tree Frac) → is_target_amount other amount ≡ is_target_amount known amount
    amount-same (number n) = refl
    amount-same (reference at name suffix.None indices) = refl
    amount-same (reference at name s indices) = refl
    amount-same e = refl

    unknown-same : (used : Use Frac) → unknown_name other used ≡ unknown_name known used
    unknown-same (literal context) = refl
    unknown-same used = refl

    redeclared-same : (used : Use Frac) → redeclared other used ≡ redeclared known used
    redeclared-same (literal context) = refl
    redeclared-same used = refl

    kind-same : (used : Use Frac) → wrong_kind other used ≡ wrong_kind known used
    kind-same (shifting amount) = ap not (amount-same amount)
    kind-same (stepping context multiplies earlier right) = refl
    kind-same (stepping context operation earlier right) = refl
    kind-same used = refl

    arity-same : (used : Use Frac) → wrong_arity other used ≡ wrong_arity known used
    arity-same (literal context) = refl
    arity-same used = refl

    set-same : (used : Use Frac) → domain_of_set other used ≡ domain_of_set known used
    set-same (literal context) = refl
    set-same used = refl

    label-same : (used : Use Frac) → domain_of_label other used ≡ domain_of_label known used
    label-same (failing Outside) = refl
    label-same (failing fault) = refl
    label-same used = refl

    uncontrolled-same : (used : Use Frac) → uncontrolled other used ≡ uncontrolled known used
    uncontrolled-same (literal context) = refl
    uncontrolled-same used = refl

    twice-same : (used : Use Frac) → controlled_twice other used ≡ controlled_twice known used
    twice-same (literal context) = refl
    twice-same used = refl

    ordered-same : (used : Use Frac) → not_ordered other used ≡ not_ordered known used
    ordered-same (literal context) = refl
    ordered-same used = refl

    dynamic-same : (used : Use Frac) → dynamic_domain other used ≡ dynamic_domain known used
    dynamic-same (literal context) = refl
    dynamic-same used = refl

    nonlinear-same : (used : Use Frac) → nonlinear other used ≡ nonlinear known used
    nonlinear-same (stepping context multiplies earlier right) = ap₂ (λ (a b : Bool). context.variables && (a && b)) (any-same earlier) (has-same right)
    nonlinear-same (stepping context divides earlier right) = ap (λ (b : Bool). context.variables && b) (has-same right)
    nonlinear-same (stepping context raises earlier right) = ap₂ (λ (a b : Bool). context.variables && (a || b)) (any-same earlier) (has-same right)
    nonlinear-same (calling context function args) = ap (λ (b : Bool). context.variables && b) (have-same args)
    nonlinear-same (folding context op body) = ap (λ (b : Bool). context.variables && (not (is_sum op) && b)) (has-same body)
    nonlinear-same used = refl

    discrete-same : (used : Use Frac) → discrete other used ≡ discrete known used
    discrete-same (literal context) = refl
    discrete-same used = refl

    type-same : (used : Use Frac) → model_type other used ≡ model_type known used
    type-same (literal context) = refl
    type-same used = refl

    defined-same : (used : Use Frac) → not_defined other used ≡ not_defined known used
    defined-same (literal context) = refl
    defined-same used = refl

    again-same : (used : Use Frac) → defined_twice other used ≡ defined_twice known used
    again-same (literal context) = refl
    again-same used = refl

    objective-same : (used : Use Frac) → objective other used ≡ objective known used
    objective-same (literal context) = refl
    objective-same used = refl

    range-same : (used : Use Frac) → option_range other used ≡ option_range known used
    range-same (literal context) = refl
    range-same used = refl

    endogenous-same : (used : Use Frac) → endogenous other used ≡ endogenous known used
    endogenous-same (reading context controlled name s indices) = ap (λ (b : Bool). not context.variables && b) (variable-same name s)
    endogenous-same (showing name s) = variable-same name s
    endogenous-same used = refl

    function-same : (used : Use Frac) → wrong_function other used ≡ wrong_function known used
    function-same (literal context) = refl
    function-same used = refl

    data-same : (used : Use Frac) → data_fault other used ≡ data_fault known used
    data-same (failing BadRange) = refl
    data-same (failing fault) = refl
    data-same used = refl

    -- a solver that is named is one of these
    solver-there : (used : Use Frac) → Fits used → unknown_solver other used ≡ false
    solver-there (option_value word (setting.Number at x)) fits = by (str_eq_ignore_ascii_case word (codes "lp"))
      where
        by : (b : Bool) → (b && false) ≡ false
        by true = refl
        by false = refl
    solver-there (option_value word (setting.Name name)) fits = by (str_eq_ignore_ascii_case word (codes "lp")) refl
      where
        by : (b : Bool) → str_eq_ignore_ascii_case word (codes "lp") ≡ b → (b && not (is_one_of selected name.text)) ≡ false
        by true lp = ap not (fits lp)
        by false lp = refl
    solver-there used fits = refl

    clean-again : (used : Use Frac) → Fits used → IsClean known used → IsClean other used
    clean-again used fits clean wrong.UnknownName = unknown-same used ∙ clean wrong.UnknownName
    clean-again used fits clean wrong.Redeclared = redeclared-same used ∙ clean wrong.Redeclared
    clean-again used fits clean wrong.WrongKind = kind-same used ∙ clean wrong.WrongKind
    clean-again used fits clean wrong.WrongArity = arity-same used ∙ clean wrong.WrongArity
    clean-again used fits clean wrong.DomainOfSet = set-same used ∙ clean wrong.DomainOfSet
    clean-again used fits clean wrong.DomainOfLabel = label-same used ∙ clean wrong.DomainOfLabel
    clean-again used fits clean wrong.Uncontrolled = uncontrolled-same used ∙ clean wrong.Uncontrolled
    clean-again used fits clean wrong.ControlledTwice = twice-same used ∙ clean wrong.ControlledTwice
    clean-again used fits clean wrong.NotOrdered = ordered-same used ∙ clean wrong.NotOrdered
    clean-again used fits clean wrong.DynamicDomain = dynamic-same used ∙ clean wrong.DynamicDomain
    clean-again used fits clean wrong.Nonlinear = nonlinear-same used ∙ clean wrong.Nonlinear
    clean-again used fits clean wrong.Discrete = discrete-same used ∙ clean wrong.Discrete
    clean-again used fits clean wrong.ModelType = type-same used ∙ clean wrong.ModelType
    clean-again used fits clean wrong.NotDefined = defined-same used ∙ clean wrong.NotDefined
    clean-again used fits clean wrong.DefinedTwice = again-same used ∙ clean wrong.DefinedTwice
    clean-again used fits clean wrong.Objective = objective-same used ∙ clean wrong.Objective
    clean-again used fits clean wrong.UnknownSolver = solver-there used fits
    clean-again used fits clean wrong.OptionRange = range-same used ∙ clean wrong.OptionRange
    clean-again used fits clean wrong.Endogenous = endogenous-same used ∙ clean wrong.Endogenous
    clean-again used fits clean wrong.Function = function-same used ∙ clean wrong.Function
    clean-again used fits clean wrong.DataFault = data-same used ∙ clean wrong.DataFault
    clean-again used fits clean wrong.Restart = refl

    all-clean : (us : Uses Frac) → AllFit us → AreClean known us → AreClean other us
    all-clean [] fit clean = tt
    all-clean (u ∷ us) fit clean = (clean-again u.1 fit.0 clean.0, all-clean us fit.1 clean.1)

  filter-none : (test : ErrorKind → Bool) (kinds : List ErrorKind) → ((kind : ErrorKind) → test kind ≡ false) → filter test kinds ≡ []
  filter-none test [] none = refl
  filter-none test (kind ∷ kinds) none =
      ap (λ (b : Bool). if b then kind ∷ filter test kinds else filter test kinds) (none kind) ∙ filter-none test kinds none

  none-at : (known : Known Frac) (at : Place) (used : Use Frac) → IsClean known used → errors_at known (at, used) ≡ []
  none-at known at used clean =
      ap (map (λ (kind : ErrorKind). (let e : CompileError = record { kind = kind; at = at } in e))) (filter-none (has_error known used) checked_kinds clean)

  none-of : (known : Known Frac) (us : Uses Frac) → AreClean known us → errors_of known us ≡ []
  none-of known [] clean = refl
  none-of known (u ∷ us) clean = ap₂ (λ (a b : List CompileError). a ++ b) (none-at known u.0 u.1 clean.0) (none-of known us clean.1)

  -- parts without errors, of which each fits, have none with these solvers
  none-again : (known : Known Frac) (us : Uses Frac) → AllFit us → errors_of known us ≡ [] → errors_of (with_selected known) us ≡ []
  none-again known us fit none = none-of (with_selected known) us (all-clean known us fit (are-clean known us none))

  -- ---- declarations and statements

  -- a name of a declaration without errors has its data given
  item-given : (known : Known Frac) (kind : DeclKind) (item : Decl Frac) → errors_of known (item_uses known kind item) ≡ [] → known_after_item known kind item ≡ known_in known (with_item known.value kind known.state item)
  item-given known kind item none =
      ap (λ (es : List CompileError). known_in known (if is_faultless es then with_item known.value kind known.state item else with_name known.value kind known.state item)) none

  declaration-again : (known : Known Frac) (kind : DeclKind) (items : List (Decl Frac)) → declaration_errors known kind items ≡ [] → declaration_errors (with_selected known) kind items ≡ []
  declaration-again known kind [] none = refl
  declaration-again known kind (item ∷ items) none =
      let own : List CompileError = errors_of known (item_uses known kind item) in
      let rest : List CompileError = declaration_errors (known_after_item known kind item) kind items in
      let here : errors_of known (item_uses known kind item) ≡ [] = none-left own rest none in
      let again : errors_of (with_selected known) (item_uses known kind item) ≡ [] = none-again known (item_uses known kind item) (item-fits known kind item) here in
      let next : Known Frac = known_in known (with_item known.value kind known.state item) in
      let later : declaration_errors next kind items ≡ [] = sym (ap (λ (k : Known Frac). declaration_errors k kind items) (item-given known kind item here)) ∙ none-right own rest none in
      ap₂ (λ (a b : List CompileError). a ++ b) again (ap (λ (k : Known Frac). declaration_errors k kind items) (item-given (with_selected known) kind item again) ∙ declaration-again next kind items later)

  models-again : (known : Known Frac) (models : List ModelDecl) → model_errors known models ≡ [] → model_errors (with_selected known) models ≡ []
  models-again known [] none = refl
  models-again known (model ∷ models) none =
      let own : List CompileError = errors_of known (model_uses model) in
      let next : Known Frac = known_in known (declare_model known.state model.named.name) in
      ap₂ (λ (a b : List CompileError). a ++ b) (none-again known (model_uses model) (model-fits model) (none-left own (model_errors next models) none)) (models-again next models (none-right own (model_errors next models) none))

  statement-again : (known : Known Frac) (s : Stmt Frac) → AreAmong selected (solvers_in s) → statement_error known s ≡ None → statement_error (with_selected known) s ≡ None
  statement-again known s among = by s.act
    where
      by : (act : Act Frac) → first_error (act_errors known s act) ≡ None → first_error (act_errors (with_selected known) s act) ≡ None
      by (Declare kind items) none =
          let all = none-first (errors_of known (kind_uses s.at kind) ++ declaration_errors known kind items) none in
          ap first_error (ap₂ (λ (a b : List CompileError). a ++ b) (none-again known (kind_uses s.at kind) (kind-fits s.at kind) (none-left (errors_of known (kind_uses s.at kind)) (declaration_errors known kind items) all)) (declaration-again known kind items (none-right (errors_of known (kind_uses s.at kind)) (declaration_errors known kind items) all)))
      by (Model models) none = ap first_error (models-again known models (none-first (model_errors known models) none))
      by act none =
          ap first_error (none-again known (statement_uses s known.state []) (statement-fits s among known.state []) (none-first (errors_of known (statement_uses s known.state [])) none))

  -- ---- programs

  module _ (program : Program Frac) (names : List (List ℕ)) where
    after-again : (past : Past Frac) (statements : List (Stmt Frac)) → AreAmong selected (flat_map solvers_in statements) → errors_after frac_value program names past statements ≡ [] → errors_after frac_value program selected past statements ≡ []
    after-again past [] among none = refl
    after-again past (s ∷ rest) among none =
        let o : Option CompileError = statement_error (known_after frac_value program names past) s in
        let following : Option CompileError → List CompileError = λ p. errors_after frac_value program names (past ++ (s, is_none p) ∷ []) rest in
        let here : o ≡ None = no-option o (none-left (option_to_list o) (following o) none) in
        let later : following None ≡ [] = sym (ap following here) ∙ none-right (option_to_list o) (following o) none in
        let again : statement_error (known_after frac_value program selected past) s ≡ None = statement-again (known_after frac_value program names past) s (among-left selected (solvers_in s) (flat_map solvers_in rest) among) here in
        ap (λ (p : Option CompileError). option_to_list p ++ errors_after frac_value program selected (past ++ (s, is_none p) ∷ []) rest) again
        ∙ after-again (past ++ (s, true) ∷ []) rest (among-right selected (solvers_in s) (flat_map solvers_in rest) among) later

-- A program without errors has none with solvers of the names that it chooses.
pub no-error-chosen : (program : Program Frac) (names : List (List ℕ)) → compile_errors frac_value program names ≡ [] → compile_errors frac_value program (solvers_chosen program) ≡ []
no-error-chosen program names none =
    after-again (solvers_chosen program) program names [] program.statements.items (among-themselves (solvers_chosen program)) none
