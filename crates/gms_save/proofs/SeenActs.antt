-- What acts show is all that a check and a load read: what they use and assign, which solvers they
-- choose, and what they declare.
use Rattle.std.proofs.Common.{◌≡◌, ℕ, Bool, List, [], ◌∷◌, ◌++◌, map, Option, None, option_map, Vec, refl, sym, ap, ap₂, ◌∙◌, subst}
use Rattle.std.specs.Prelude.{flat_map}
use Rattle.std.specs.declared.alloc.Global.{Global}
use Rattle.gq_number.specs.Number.{Number}
use Rattle.gq_frac.specs.declared.frac.Frac.{Frac}
use Rattle.gq_frac.specs.Frac.{frac_value}
use Rattle.gms_labels.specs.declared.place.Place.{Place}
use Rattle.gms_ast.specs.declared.declaration.Decl.{Decl}
use Rattle.gms_ast.specs.declared.expression.Control.{Control as ControlNode}
use Rattle.gms_ast.specs.declared.expression.Expr.TheVariants.{Yes}
use Rattle.gms_ast.specs.declared.expression.Suffix.{Suffix}
use Rattle.gms_ast.specs.declared.program.Act.{Act as ActNode, roll-Act, out-Act, roll-out-Act, map-Act}
use Rattle.gms_ast.specs.declared.program.Act.TheFolds.{fold-Act, fold-Stmt, fold-roll-Act, fold_out-Stmt, ind-Stmt}
use Rattle.gms_ast.specs.declared.program.Act.TheOpen.{Act-F, Stmt-F}
use Rattle.gms_ast.specs.declared.program.Act.TheVariants.{Declare, Alias, Define, Model, Display, rolls-Declare, rolls-Alias, rolls-Assign, rolls-Define, rolls-Model, rolls-Solve, rolls-Display, rolls-Loop, rolls-Options, rolls-Abort}
use Rattle.gms_ast.specs.declared.program.Right.TheVariants.{Value}
use Rattle.gms_ast.specs.declared.program.Stmt.{Stmt, roll-Stmt}
use Rattle.gms_ast.specs.Numbers.{in_numbers, indices_in_numbers, control_in_numbers}
use Rattle.gms_ast.specs.StatementTrees.{Act, declares, aliases, assigns, defines, declares_models, solves, displays, loops, sets_options, aborts, Statements, no_statement, statement}
use Rattle.gms_ast.specs.StatementView.{act_view_step, declared_in, statements_in_order, shown_tree, statement_view_step, statement_view}
use Rattle.gms_ast.specs.TreeView.{control_tree, tree_of}
use Rattle.gms_ast.specs.Trees.{Tree, Indices, Control}
use Rattle.gms_parse.specs.InnerMeanings.{act_view}
use Rattle.gms_parse.proofs.Looped.{view-Stmt}
use Rattle.gms_store.specs.State.{State}
use Rattle.gms_store.specs.Declarations.{declared_by}
use Rattle.gms_scope.specs.DynamicSets.{assigned_names, assigned_step}
use Rattle.gms_check.specs.declared.error.CompileError.{CompileError}
use Rattle.gms_check.specs.CompileErrors.{act_errors, declaration_errors, errors_of, model_errors}
use Rattle.gms_check.specs.DeclarationUses.{kind_uses}
use Rattle.gms_check.specs.Past.{Known, after_act, equations_declared, gives_unordered, models_declared_by, names_declared}
use Rattle.gms_check.specs.Past.{defines as defines_equation}
use Rattle.gms_check.specs.Contexts.{as_side}
use Rattle.gms_check.specs.InnerStatements.{act_uses}
use Rattle.gms_check.specs.StatementUses.{UsesOfAct, UsesOfStatement, index_list, option_uses, right_context, show_uses, statement_uses}
use Rattle.gms_check.specs.StatementUses.{act_uses_step as use_step, statement_uses_step as use_statement}
use Rattle.gms_check.specs.Uses.{Uses, assigning, condition_uses, control_uses, defining, first_alias, index_sets, method, optimizing, second_alias, sets_of_control, shift_uses, solving, uses}
use Rattle.gms_check.proofs.ActUses.{uses-act}
use Rattle.gms_save.specs.JointErrors.{targets, targets_step, typed_names}
use Rattle.gms_save.specs.Saves.{option_solvers, solvers_in, solvers_step}
use Rattle.gms_save.proofs.FromNumbers.{condition_back, control_back, declarations_back, indices_back, option_in, options_back, tree_back, value_of}

-- an act with its parts, and those of a loop with them
abbrev pub Layer : Type 0
Layer = Act-F Frac (ActNode Frac) (Stmt Frac)

-- what an act shows
abbrev pub shown : ActNode Frac → Act Number
shown = act_view frac_value

-- ---- layer by layer

module _ (P : ActNode Frac → Type 0) where
  -- the acts of statements are such
  abbrev pub AllSuch : List (Stmt Frac) → Type 0
  AllSuch [] = Unit {0}
  AllSuch (s ∷ ss) = P s.act × AllSuch ss

  -- the acts in a loop are such
  abbrev pub LayerSuch : Layer → Type 0
  LayerSuch (Act-F.Loop control body) = AllSuch body.items
  LayerSuch x = Unit {0}

  -- an act, and a statement, with the proof that it is such
  abbrev SuchAct : Type 0
  SuchAct = (act : ActNode Frac) × P act

  abbrev SuchStatement : Type 0
  SuchStatement = (s : Stmt Frac) × P s.act

  all-such : (body : List SuchStatement) → AllSuch (map (λ e. e.0) body)
  all-such [] = tt
  all-such (e ∷ body) = (e.1, all-such body)

  layer-such : (y : Act-F Frac SuchAct SuchStatement) → LayerSuch (map-Act Frac SuchAct SuchStatement (ActNode Frac) (Stmt Frac) (λ e. e.0) (λ e. e.0) y)
  layer-such (Act-F.Loop control body) = all-such body.items
  layer-such y = tt

  abbrev Q : Stmt Frac → Type 0
  Q s = P s.act

  -- what holds of each layer where it holds of the acts in it, holds of each statement's act
  pub each-act : ((x : Layer) → LayerSuch x → P (roll-Act Frac x)) → (s : Stmt Frac) → P s.act
  each-act layers =
      ind-Stmt Frac P Q
      (λ x y is. subst (λ z. P (roll-Act Frac z)) is (layers (map-Act Frac SuchAct SuchStatement (ActNode Frac) (Stmt Frac) (λ e. e.0) (λ e. e.0) y) (layer-such y)))
      (λ x y is. subst (λ z. Q (roll-Stmt Frac z)) is y.act.1)

-- what a layer shows
abbrev pub shown_layer : Layer → Act Number
shown_layer x = act_view_step frac_value (map-Act Frac (ActNode Frac) (Stmt Frac) (Act Number) (Statements Number → Statements Number) shown (statement_view frac_value) x)

pub shows : (x : Layer) → shown (roll-Act Frac x) ≡ shown_layer x
shows = fold-roll-Act Frac (Act Number) (Statements Number → Statements Number) (act_view_step frac_value) (statement_view_step frac_value)

-- ---- what acts use

-- what an assignment uses, by its parts
abbrev assignment_uses : State → Place → List ℕ → Place → ℕ → Suffix → Place → Indices Frac → Option (Tree Frac) → Tree Frac → Uses Frac
assignment_uses state at controlled target_at name suffix right_at indices condition right =
    (target_at, assigning name suffix indices) ∷ ((shift_uses (controlled ++ index_sets indices) indices ++ condition_uses at (controlled ++ index_sets indices) condition) ++ uses (right_context state name) right_at (controlled ++ index_sets indices) right)

-- what a definition uses, by its parts
abbrev definition_uses : Place → List ℕ → Place → ℕ → Place → Place → Indices Frac → Option (Tree Frac) → Tree Frac × Tree Frac → Uses Frac
definition_uses at controlled equation_at name left_at right_at indices condition sides =
    (equation_at, defining name indices) ∷ ((shift_uses (controlled ++ index_sets indices) indices ++ condition_uses at (controlled ++ index_sets indices) condition) ++ (uses as_side left_at (controlled ++ index_sets indices) sides.0 ++ uses as_side right_at (controlled ++ index_sets indices) sides.1))

abbrev mutual
  -- what an act uses, by what it shows
  pub uses_of : Act Number → State → Place → List ℕ → Uses Frac
  uses_of (declares kind items) state at controlled = []
  uses_of (aliases first second) state at controlled =
      (first.at, first_alias first.name second.name) ∷ (second.at, second_alias first.name second.name) ∷ []
  uses_of (assigns target condition right_at right) state at controlled =
      assignment_uses state at controlled target.at target.name target.suffix right_at (indices_in_numbers value_of target.indices) (option_map (in_numbers value_of) condition) (in_numbers value_of right)
  uses_of (defines equation indices condition sides) state at controlled =
      definition_uses at controlled equation.at equation.name sides.left_at sides.right_at (indices_in_numbers value_of indices) (option_map (in_numbers value_of) condition) (in_numbers value_of sides.left, in_numbers value_of sides.right)
  uses_of (declares_models models) state at controlled = []
  uses_of (solves model word objective maximize) state at controlled =
      (model.at, solving model.name) ∷ (word.at, method word.text) ∷ (objective.at, optimizing objective.name) ∷ []
  uses_of (displays items) state at controlled = flat_map show_uses items
  uses_of (loops control body) state at controlled =
      control_uses at controlled (control_in_numbers value_of control) ++ all_uses body state (controlled ++ sets_of_control (control_in_numbers value_of control))
  uses_of (sets_options options) state at controlled = flat_map option_uses (map (option_in value_of) options)
  uses_of (aborts condition items) state at controlled = condition_uses at controlled (option_map (in_numbers value_of) condition) ++ flat_map show_uses items

  -- what statements use, by what they show
  all_uses : Statements Number → State → List ℕ → Uses Frac
  all_uses no_statement state controlled = []
  all_uses (statement at act rest) state controlled = uses_of act state at controlled ++ all_uses rest state controlled

abbrev SameUses : ActNode Frac → Type 0
SameUses act = (state : State) (at : Place) (controlled : List ℕ) → uses_of (shown act) state at controlled ≡ act_uses act state at controlled

-- what a layer uses
abbrev used_layer : Layer → UsesOfAct Frac
used_layer x = use_step (map-Act Frac (ActNode Frac) (Stmt Frac) (UsesOfAct Frac) (UsesOfStatement Frac) act_uses statement_uses x)

used : (x : Layer) → act_uses (roll-Act Frac x) ≡ used_layer x
used = fold-roll-Act Frac (UsesOfAct Frac) (UsesOfStatement Frac) use_step use_statement

body-uses : (ss : List (Stmt Frac)) → AllSuch SameUses ss → (state : State) (controlled : List ℕ) → all_uses (statements_in_order frac_value (map {B = Statements Number → Statements Number} (statement_view frac_value) ss)) state controlled ≡ flat_map (λ (f : UsesOfStatement Frac). f state controlled) (map statement_uses ss)
body-uses [] all state controlled = refl
body-uses (s ∷ ss) all state controlled =
    ap (λ (w : Statements Number). all_uses w state controlled) (view-Stmt frac_value s (statements_in_order frac_value (map {B = Statements Number → Statements Number} (statement_view frac_value) ss)))
    ∙ ap₂ (λ (a b : Uses Frac). a ++ b) (all.0 state s.at controlled ∙ sym (uses-act s state controlled)) (body-uses ss all.1 state controlled)

layer-uses : (x : Layer) → LayerSuch SameUses x → (state : State) (at : Place) (controlled : List ℕ) → uses_of (shown_layer x) state at controlled ≡ used_layer x state at controlled
layer-uses (Act-F.Declare kind items) all state at controlled = refl
layer-uses (Act-F.Alias first second) all state at controlled = refl
layer-uses (Act-F.Assign target condition right_at (Value right)) all state at controlled =
    let of : Indices Frac → Option (Tree Frac) → Tree Frac → Uses Frac = assignment_uses state at controlled target.at target.name target.suffix right_at in
    ap (λ (is : Indices Frac). of is (option_map (in_numbers value_of) (option_map (shown_tree frac_value) condition)) (in_numbers value_of (in_numbers frac_value (tree_of right)))) (indices_back (index_list target.indices))
    ∙ ap₂ (λ (c : Option (Tree Frac)) (t : Tree Frac). of (index_list target.indices) c t) (condition_back condition) (tree_back (tree_of right))
layer-uses (Act-F.Define equation indices condition left_at left side right_at right) all state at controlled =
    let of : Indices Frac → Option (Tree Frac) → Tree Frac × Tree Frac → Uses Frac = definition_uses at controlled equation.at equation.name left_at right_at in
    let sides : (in_numbers value_of (in_numbers frac_value (tree_of left)), in_numbers value_of (in_numbers frac_value (tree_of right))) ≡ (tree_of left, tree_of right) = ap₂ (λ (a b : Tree Frac). (a, b)) (tree_back (tree_of left)) (tree_back (tree_of right)) in
    ap (λ (is : Indices Frac). of is (option_map (in_numbers value_of) (option_map (shown_tree frac_value) condition)) (in_numbers value_of (in_numbers frac_value (tree_of left)), in_numbers value_of (in_numbers frac_value (tree_of right)))) (indices_back (index_list indices))
    ∙ ap₂ (λ (c : Option (Tree Frac)) (s : Tree Frac × Tree Frac). of (index_list indices) c s) (condition_back condition) sides
layer-uses (Act-F.Model models) all state at controlled = refl
layer-uses (Act-F.Solve model word objective maximize) all state at controlled = refl
layer-uses (Act-F.Display items) all state at controlled = refl
layer-uses (Act-F.Loop control body) all state at controlled =
    ap (λ (c : Control Frac). control_uses at controlled c ++ all_uses (statements_in_order frac_value (map {B = Statements Number → Statements Number} (statement_view frac_value) body.items)) state (controlled ++ sets_of_control c)) (control_back (control_tree control))
    ∙ ap (λ (us : Uses Frac). control_uses at controlled (control_tree control) ++ us) (body-uses body.items all state (controlled ++ sets_of_control (control_tree control)))
layer-uses (Act-F.Options options) all state at controlled = ap (flat_map option_uses) (options_back options)
layer-uses (Act-F.Abort condition items) all state at controlled =
    ap (λ (c : Option (Tree Frac)). condition_uses at controlled c ++ flat_map show_uses items) (condition_back condition)

-- the view of a statement's act determines what the statement uses
pub same-uses : (s : Stmt Frac) (state : State) (controlled : List ℕ) → uses_of (shown s.act) state s.at controlled ≡ statement_uses s state controlled
same-uses s state controlled = each-act SameUses layers s state s.at controlled ∙ sym (uses-act s state controlled)
  where
    layers : (x : Layer) → LayerSuch SameUses x → SameUses (roll-Act Frac x)
    layers x all state at controlled =
        ap (λ (v : Act Number). uses_of v state at controlled) (shows x) ∙ layer-uses x all state at controlled ∙ sym (ap (λ (f : UsesOfAct Frac). f state at controlled) (used x))

-- ---- what statements give in sequence, those of a loop's body too

-- a layer that is no loop
abbrev IsPlain : Layer → Type 0
IsPlain (Act-F.Loop control body) = ⊥
IsPlain x = Unit {0}

module _ {A : Type 0} (step : Act-F Frac (List A) (List A) → List A) (own : Act Number → List A) where
  abbrev mutual
    -- what an act gives, by what it shows
    gathered : Act Number → List A
    gathered (loops control body) = all_gathered body
    gathered act = own act

    -- what statements give, by what they show
    all_gathered : Statements Number → List A
    all_gathered no_statement = []
    all_gathered (statement at act rest) = gathered act ++ all_gathered rest

  abbrev act_of : Stmt-F Frac (List A) (List A) → List A
  act_of s = s.act

  -- what an act and a statement give
  abbrev given_by : ActNode Frac → List A
  given_by = fold-Act Frac (List A) (List A) step act_of

  abbrev given_in : Stmt Frac → List A
  given_in = fold-Stmt Frac (List A) (List A) step act_of

  abbrev SameGiven : ActNode Frac → Type 0
  SameGiven act = gathered (shown act) ≡ given_by act

  abbrev given_layer : Layer → List A
  given_layer x = step (map-Act Frac (ActNode Frac) (Stmt Frac) (List A) (List A) given_by given_in x)

  gives : (x : Layer) → given_by (roll-Act Frac x) ≡ given_layer x
  gives = fold-roll-Act Frac (List A) (List A) step act_of

  given-act : (s : Stmt Frac) → given_in s ≡ given_by s.act
  given-act s = fold_out-Stmt Frac (List A) (List A) step act_of s

  body-given : (ss : List (Stmt Frac)) → AllSuch SameGiven ss → all_gathered (statements_in_order frac_value (map {B = Statements Number → Statements Number} (statement_view frac_value) ss)) ≡ flat_map (λ xs. xs) (map given_in ss)
  body-given [] all = refl
  body-given (s ∷ ss) all =
      ap all_gathered (view-Stmt frac_value s (statements_in_order frac_value (map {B = Statements Number → Statements Number} (statement_view frac_value) ss)))
      ∙ ap₂ (λ (a b : List A). a ++ b) (all.0 ∙ sym (given-act s)) (body-given ss all.1)

  module _ (loop : (control : ControlNode Frac) (body : Vec (Stmt Frac) Global) → given_layer (Act-F.Loop control body) ≡ flat_map (λ xs. xs) (map given_in body.items)) (plain : (x : Layer) → IsPlain x → gathered (shown_layer x) ≡ given_layer x) where
    layer-given : (x : Layer) → LayerSuch SameGiven x → gathered (shown_layer x) ≡ given_layer x
    layer-given (Act-F.Loop control body) all = body-given body.items all ∙ sym (loop control body)
    layer-given (Act-F.Declare kind items) all = plain (Act-F.Declare kind items) tt
    layer-given (Act-F.Alias first second) all = plain (Act-F.Alias first second) tt
    layer-given (Act-F.Assign target condition right_at right) all = plain (Act-F.Assign target condition right_at right) tt
    layer-given (Act-F.Define equation indices condition left_at left side right_at right) all = plain (Act-F.Define equation indices condition left_at left side right_at right) tt
    layer-given (Act-F.Model models) all = plain (Act-F.Model models) tt
    layer-given (Act-F.Solve model word objective maximize) all = plain (Act-F.Solve model word objective maximize) tt
    layer-given (Act-F.Display items) all = plain (Act-F.Display items) tt
    layer-given (Act-F.Options options) all = plain (Act-F.Options options) tt
    layer-given (Act-F.Abort condition items) all = plain (Act-F.Abort condition items) tt

    -- the view of a statement's act determines what the statement gives
    pub same-given : (s : Stmt Frac) → gathered (shown s.act) ≡ given_in s
    same-given s = each-act SameGiven layers s ∙ sym (given-act s)
      where
        layers : (x : Layer) → LayerSuch SameGiven x → SameGiven (roll-Act Frac x)
        layers x all = ap gathered (shows x) ∙ layer-given x all ∙ sym (gives x)

-- what an act assigns
abbrev own_assigned : Act Number → List ℕ
own_assigned (assigns target condition right_at right) = target.name ∷ []
own_assigned act = []

abbrev pub assigned_of : Act Number → List ℕ
assigned_of = gathered assigned_step own_assigned

pub same-assigned : (s : Stmt Frac) → assigned_of (shown s.act) ≡ assigned_names s
same-assigned = same-given assigned_step own_assigned (λ control body. refl) plain
  where
    plain : (x : Layer) → IsPlain x → assigned_of (shown_layer x) ≡ given_layer assigned_step own_assigned x
    plain (Act-F.Loop control body) no_loop = absurd no_loop
    plain x is = refl

-- the same with places
abbrev own_targets : Act Number → List (Place × ℕ)
own_targets (assigns target condition right_at right) = (target.at, target.name) ∷ []
own_targets act = []

abbrev pub targets_of : Act Number → List (Place × ℕ)
targets_of = gathered targets_step own_targets

pub same-targets : (s : Stmt Frac) → targets_of (shown s.act) ≡ targets s
same-targets = same-given targets_step own_targets (λ control body. refl) plain
  where
    plain : (x : Layer) → IsPlain x → targets_of (shown_layer x) ≡ given_layer targets_step own_targets x
    plain (Act-F.Loop control body) no_loop = absurd no_loop
    plain x is = refl

-- which solvers an act chooses
abbrev own_chosen : Act Number → List (List ℕ)
own_chosen (sets_options options) = flat_map option_solvers (map (option_in value_of) options)
own_chosen act = []

abbrev pub chosen_of : Act Number → List (List ℕ)
chosen_of = gathered solvers_step own_chosen

pub same-chosen : (s : Stmt Frac) → chosen_of (shown s.act) ≡ solvers_in s
same-chosen = same-given solvers_step own_chosen (λ control body. refl) plain
  where
    plain : (x : Layer) → IsPlain x → chosen_of (shown_layer x) ≡ given_layer solvers_step own_chosen x
    plain (Act-F.Loop control body) no_loop = absurd no_loop
    plain (Act-F.Options options) is = ap (flat_map option_solvers) (options_back options)
    plain x is = refl

-- ---- what acts declare

-- the errors of an act at a place, by what it uses apart from declarations
abbrev errors_by : Known Frac → Place → Uses Frac → ActNode Frac → List CompileError
errors_by known at others (Declare kind items) = errors_of known (kind_uses at kind) ++ declaration_errors known kind items
errors_by known at others (Model models) = model_errors known models
errors_by known at others act = errors_of known others

-- All that the statements after an act, and the check of its statement, read of the act.
pub record Told : Type 0 where
  pub names : List ℕ
  pub equations : List ℕ
  pub is_defined : ℕ → Bool
  pub models : List ℕ → Bool → List (ℕ × List ℕ)
  pub is_unordered : ℕ → Bool
  pub declared : State → State
  pub given : State → State
  pub errors : Known Frac → Place → Uses Frac → List CompileError
  pub typed : List (Place × ℕ)

abbrev pub told : ActNode Frac → Told
told act = record {
  names = names_declared act;
  equations = equations_declared act;
  is_defined = λ name. defines_equation name act;
  models = λ equations sound. models_declared_by equations sound act;
  is_unordered = λ name. gives_unordered name act;
  declared = λ state. declared_by state act;
  given = λ state. after_act frac_value state act;
  errors = λ known at others. errors_by known at others act;
  typed = typed_names act;
}

-- an act that declares what one does that shows this
abbrev pub declaration : Act Number → ActNode Frac
declaration (declares kind items) = Declare kind (map (declared_in value_of) items)
declaration (aliases first second) = Alias first second
declaration (defines equation indices condition sides) = Define equation [] None sides.left_at Yes sides.side sides.right_at Yes
declaration (declares_models models) = Model models
declaration act = Display []

-- what is read of an act, by its view
abbrev pub told_by : Act Number → Told
told_by act = told (declaration act)

layer-told : (x : Layer) → told_by (shown_layer x) ≡ told (roll-Act Frac x)
layer-told (Act-F.Declare kind items) = ap (λ (xs : List (Decl Frac)). told (Declare kind xs)) (declarations_back items) ∙ ap told (sym (rolls-Declare kind items))
layer-told (Act-F.Alias first second) = ap told (sym (rolls-Alias first second))
layer-told (Act-F.Assign target condition right_at right) = ap told (sym (rolls-Assign target condition right_at right))
layer-told (Act-F.Define equation indices condition left_at left side right_at right) =
    ap told (sym (rolls-Define equation indices condition left_at left side right_at right))
layer-told (Act-F.Model models) = ap told (sym (rolls-Model models))
layer-told (Act-F.Solve model word objective maximize) = ap told (sym (rolls-Solve model word objective maximize))
layer-told (Act-F.Display items) = ap told (sym (rolls-Display items))
layer-told (Act-F.Loop control body) = ap told (sym (rolls-Loop control body))
layer-told (Act-F.Options options) = ap told (sym (rolls-Options options))
layer-told (Act-F.Abort condition items) = ap told (sym (rolls-Abort condition items))

-- the view of an act determines what is read of it
pub same-told : (act : ActNode Frac) → told_by (shown act) ≡ told act
same-told act =
    subst (λ (a : ActNode Frac). told_by (shown a) ≡ told a) (roll-out-Act Frac act) (ap told_by (shows (out-Act Frac act)) ∙ layer-told (out-Act Frac act))

-- the errors of an act
pub told-errors : (known : Known Frac) (s : Stmt Frac) (act : ActNode Frac) → (told act).errors known s.at (statement_uses s known.state []) ≡ act_errors known s act
told-errors known s (Declare kind items) = refl
told-errors known s (Model models) = refl
told-errors known s act = refl
