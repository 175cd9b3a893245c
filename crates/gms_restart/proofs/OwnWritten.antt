-- The labels that the statements of a source mean, among indices and as data, pass a test that the
-- table's numbers of all texts of the source pass.
use Rattle.std.proofs.Common.{◌≡◌, ℕ, Bool, List, [], ◌∷◌, ◌++◌, map, Option, Some, None, option_map, refl, sym, ap, ap₂, ◌∙◌, subst}
use Rattle.std.specs.Prelude.{flat_map}
use Rattle.gq_number.specs.Number.{Number}
use Rattle.gq_frac.specs.declared.frac.Frac.{Frac}
use Rattle.gq_frac.specs.Frac.{frac_value}
use Rattle.gms_ast.specs.declared.declaration.Decl.{Decl}
use Rattle.gms_ast.specs.declared.declaration.Item.{Item}
use Rattle.gms_ast.specs.declared.expression.Expr.{Expr}
use Rattle.gms_ast.specs.declared.expression.Suffix.TheVariants as suffix
use Rattle.gms_ast.specs.declared.program.Act.{Act as ActNode, map-Act, out-Act, roll-Act, roll-out-Act}
use Rattle.gms_ast.specs.declared.program.Act.TheFolds.{fold-Act, fold-roll-Act, fold_out-Stmt}
use Rattle.gms_ast.specs.declared.program.Act.TheOpen.{Act-F}
use Rattle.gms_ast.specs.declared.program.Act.TheVariants.{Declare, rolls-Declare, rolls-Alias, rolls-Assign, rolls-Define, rolls-Model, rolls-Solve, rolls-Display, rolls-Loop, rolls-Options, rolls-Abort}
use Rattle.gms_ast.specs.declared.program.Right.TheVariants.{Value}
use Rattle.gms_ast.specs.declared.program.Stmt.{Stmt}
use Rattle.gms_ast.specs.Numbers.{in_numbers, parts_in_numbers, indices_in_numbers, control_in_numbers}
use Rattle.gms_ast.specs.StatementTrees.{Act, declares, assigns, defines, loops, Statements, no_statement, statement, followed_by, Target}
use Rattle.gms_ast.specs.StatementView.{declared_in, statements_in_order, item_in, shown_tree, statement_view, statements_view}
use Rattle.gms_ast.specs.TreeView.{control_tree, index_tree, indices_of, tree_of}
use Rattle.gms_ast.specs.Trees as trees
use Rattle.gms_grammar.specs.Grammar.{yield, pair, some, more, node}
use Rattle.gms_grammar.specs.Alternatives.{head_assigned, head_defined, name_suffixed, name_indexed, name_alone, inner_assignment, inner_other, other_display, other_option, other_solve, other_abort, other_loop, keyword_set, keyword_parameter, keyword_scalar, keyword_table, keyword_variable, keyword_equation, keyword_model, keyword_alias, keyword_other, head_label, head_set, head_lag, head_lagless, head_comma, head_closed, solve_using, solve_direction}
use Rattle.gms_expressions.specs.ExpressionTrees.{control, expression, first_in, inside, more_indices, name_in, optional_indices, second_in, suffix_in}
use Rattle.gms_parse.specs.Declarations.{equation_act, model_act, parameter_act, scalar_act, set_act, table_act, variable_act}
use Rattle.gms_parse.specs.Programs.{after_semicolon, controlled_act, display_or_other, inner_act, keyword_act, keyword_statements, loop_act, loop_body, named_first, segment, segments, statements_of}
use Rattle.gms_parse.specs.Statements.{act_of_head, after_head, after_target, alias_act, assigned, assignment_act, condition_in, head_indices, named_act, sides_in, target_at, target_in}
use Rattle.gms_parse.proofs.Looped.{view-Stmt}
use Rattle.gms_restart.proofs.OwnNames.{QuietHave, abort-has, display-has, option-has, solve-has}
use Rattle.gms_run_laws.specs.Names.{Each}
use Rattle.gms_run_laws.proofs.Eaches.{each-both}
use Rattle.gms_run_laws.proofs.FormKeys.{EachHas}
use Rattle.gms_save.proofs.SeenActs.{AllSuch, Layer, LayerSuch, each-act, shown, shown_layer, shows}
use Rattle.gms_restart.specs.Labels.{condition_labels, control_labels, index_labels, labels_step, part_labels, statement_labels, tree_labels}
use Rattle.gms_restart.proofs.OwnLabels.{Derivation, OwnIndices, condition-own, control-own, expression-own, HasOwn, label-own, lag-own, more_indices-own, optional-own}
use Rattle.gms_restart.proofs.OwnData.{DeclHas, ItemHas, parameters-own, plains-own, scalars-own, sets-own, table-own}

-- ---- by what acts show

abbrev mutual
  -- the labels that an act writes among indices, by what it shows
  pub act_labels : Act Number → List ℕ
  act_labels (assigns target condition right_at right_side) =
      index_labels target.indices ++ (condition_labels condition ++ tree_labels right_side)
  act_labels (defines equation indices condition sides) =
      index_labels indices ++ (condition_labels condition ++ (tree_labels sides.left ++ tree_labels sides.right))
  act_labels (loops sets body) = control_labels sets ++ all_labels body
  act_labels act = []

  -- those that statements write
  all_labels : Statements Number → List ℕ
  all_labels no_statement = []
  all_labels (statement at act rest) = act_labels act ++ all_labels rest

-- the names that an act declares with their data, by what it shows
abbrev pub act_data : Act Number → List (Decl Number)
act_data (declares kind items) = items
act_data act = []

-- the labels that an act writes pass a test, and those of its data
abbrev pub ActPasses : (ℕ → Bool) → Act Number → Type 0
ActPasses test act = Each test (act_labels act) × EachHas (DeclHas test) (act_data act)

-- those of statements do
abbrev pub AllPass : (ℕ → Bool) → Statements Number → Type 0
AllPass test no_statement = Unit {0}
AllPass test (statement at act rest) = ActPasses test act × AllPass test rest

both-pass : (test : ℕ → Bool) (a b : Statements Number) → AllPass test a → AllPass test b → AllPass test (followed_by a b)
both-pass test no_statement b one other = other
both-pass test (statement at act rest) b one other = (one.0, both-pass test rest b one.1 other)

-- ---- what derivations mean

module _ (source : List ℕ) (names labels : List (List ℕ)) (own : ℕ → Bool) (has : HasOwn source labels own) where
  -- the labels that an act writes among indices
  abbrev Written : Act Number → Type 0
  Written act = Each own (act_labels act)

  guard-own : (tree : Derivation) → Each own (condition_labels (condition_in source names labels tree))
  guard-own (some tree) = condition-own source names labels own has tree
  guard-own tree = tt

  three-own : (a b c : List ℕ) → Each own a → Each own b → Each own c → Each own (a ++ (b ++ c))
  three-own a b c one two three = each-both own a (b ++ c) one (each-both own b c two three)

  assigned-own : (target : Target Number) → Each own (index_labels target.indices) → (guard right_side : Derivation) → Written (assigned source names labels target (condition_in source names labels guard) right_side)
  assigned-own target all guard right_side =
      three-own (index_labels target.indices) (condition_labels (condition_in source names labels guard)) (tree_labels (expression source names labels right_side)) all (guard-own guard) (expression-own source names labels own has right_side)

  defined-own : (indices : trees.Indices Number) → OwnIndices source names labels own has indices → (guard sides : Derivation) → Each own (index_labels indices ++ (condition_labels (condition_in source names labels guard) ++ (tree_labels (sides_in source names labels sides).left ++ tree_labels (sides_in source names labels sides).right)))
  defined-own indices all guard sides =
      let first = expression source names labels (first_in (inside sides)) in
      let second = expression source names labels (second_in (second_in (inside sides))) in
      three-own (index_labels indices) (condition_labels (condition_in source names labels guard)) (tree_labels first ++ tree_labels second) all (guard-own guard)
      (each-both own (tree_labels first) (tree_labels second) (expression-own source names labels own has (first_in (inside sides))) (expression-own source names labels own has (second_in (second_in (inside sides)))))

  target-own : (target : Target Number) → OwnIndices source names labels own has target.indices → (tree : Derivation) → Written (after_target source names labels target tree)
  target-own target all (node (pair condition tree)) = assigned-own target all condition (second_in tree)
  target-own target all tree = tt

  head-own : (target : Target Number) → OwnIndices source names labels own has target.indices → (tree : Derivation) → Written (after_head source names labels target tree)
  head-own target all (node (pair condition (head_assigned tree))) = assigned-own target all condition (second_in tree)
  head-own target all (node (pair condition (head_defined (pair dots sides)))) = defined-own target.indices all condition sides
  head-own target all tree = tt

  prefix-own : (tree : Derivation) → OwnIndices source names labels own has (head_indices source names labels tree)
  prefix-own (node (head_label (pair text (node (head_comma (pair comma tree)))))) = (label-own source names labels own has text, prefix-own tree)
  prefix-own (node (head_label (pair text tree))) = (label-own source names labels own has text, tt)
  prefix-own (node (head_set (pair name (node (head_lag (pair amount (node (pair others mark)))))))) =
      lag-own source names labels own has amount (name_in source names labels name) (more_indices source names labels others) (more_indices-own source names labels own has others)
  prefix-own (node (head_set (pair name (node (head_lagless (node (head_comma (pair comma tree)))))))) = prefix-own tree
  prefix-own tree = tt

  act-own : (tree : Derivation) (target : Target Number) → OwnIndices source names labels own has target.indices → Written (act_of_head source names labels target tree)
  act-own (node (head_label (pair mark (node (head_comma (pair comma tree)))))) target all = act-own tree target all
  act-own (node (head_label (pair mark (node (head_closed (pair close_mark tree)))))) target all = head-own target all tree
  act-own (node (head_set (pair name (node (head_lag (pair amount (node (pair others (pair mark tree))))))))) target all = target-own target all tree
  act-own (node (head_set (pair name (node (head_lagless (node (head_comma (pair comma tree)))))))) target all = act-own tree target all
  act-own (node (head_set (pair name (node (head_lagless (node (head_closed (pair close_mark tree)))))))) target all = head-own target all tree
  act-own tree target all = tt

  named-own : (tree : Derivation) → Written (named_act source names labels tree)
  named-own (node (pair name (node (name_suffixed (pair dotted (pair indices tree)))))) =
      target-own (target_at source names labels name (suffix_in source names labels (some dotted)) (optional_indices source names labels indices)) (optional-own source names labels own has indices) tree
  named-own (node (pair name (node (name_indexed (pair mark tree))))) =
      act-own tree (target_at source names labels name suffix.None (head_indices source names labels tree)) (prefix-own tree)
  named-own (node (pair name (node (name_alone tree)))) = head-own (target_at source names labels name suffix.None trees.no_index) tt tree
  named-own tree = tt

  put-own : (tree : Derivation) → OwnIndices source names labels own has (target_in source names labels tree).indices
  put-own (node (pair name (pair dotted indices))) = optional-own source names labels own has indices
  put-own tree = tt

  assignment-own : (tree : Derivation) → Written (assignment_act source names labels tree)
  assignment-own (node (pair target tree)) = target-own (target_in source names labels target) (put-own target) tree
  assignment-own tree = tt

  -- ---- other statements

  quiet : QuietHave Written
  quiet = record { shown = λ list. tt; chosen = λ settings. tt; solved = λ model method objective most. tt; stopped = λ condition list. tt }

  mutual
    loop-own : (tree : Derivation) → Written (loop_act source names labels tree)
    loop-own (node (pair word (pair mark (pair tree close_mark)))) = controlled-own tree
    loop-own tree = tt

    controlled-own : (tree : Derivation) → Written (controlled_act source names labels tree)
    controlled-own (pair sets (pair comma body)) =
        each-both own (control_labels (control source names labels sets)) (all_labels (loop_body source names labels body)) (control-own source names labels own has sets) (body-own body)
    controlled-own tree = tt

    body-own : (tree : Derivation) → Each own (all_labels (loop_body source names labels tree))
    body-own (node (pair first others)) =
        each-both own (act_labels (inner_act source names labels first)) (all_labels (after_semicolon source names labels others)) (inner-own first) (following-own others)
    body-own tree = tt

    following-own : (tree : Derivation) → Each own (all_labels (after_semicolon source names labels tree))
    following-own (some (pair mark (some tree))) = body-own tree
    following-own tree = tt

    inner-own : (tree : Derivation) → Written (inner_act source names labels tree)
    inner-own (node (inner_assignment tree)) = assignment-own tree
    inner-own (node (inner_other tree)) = other-own tree
    inner-own tree = tt

    other-own : (tree : Derivation) → Written (display_or_other source names labels tree)
    other-own (other_display tree) = display-has source names labels Written quiet tree
    other-own (other_option tree) = option-has source names labels Written quiet tree
    other-own (other_solve tree) = solve-has source names labels Written quiet tree
    other-own (other_abort tree) = abort-has source names labels Written quiet tree
    other-own (other_loop tree) = loop-own tree
    other-own tree = tt

  -- ---- and no data

  abbrev Bare : Act Number → Type 0
  Bare act = EachHas (DeclHas own) (act_data act)

  target-bare : (target : Target Number) (tree : Derivation) → Bare (after_target source names labels target tree)
  target-bare target (node (pair condition tree)) = tt
  target-bare target tree = tt

  head-bare : (target : Target Number) (tree : Derivation) → Bare (after_head source names labels target tree)
  head-bare target (node (pair condition (head_assigned tree))) = tt
  head-bare target (node (pair condition (head_defined (pair dots sides)))) = tt
  head-bare target tree = tt

  act-bare : (tree : Derivation) (target : Target Number) → Bare (act_of_head source names labels target tree)
  act-bare (node (head_label (pair mark (node (head_comma (pair comma tree)))))) target = act-bare tree target
  act-bare (node (head_label (pair mark (node (head_closed (pair close_mark tree)))))) target = head-bare target tree
  act-bare (node (head_set (pair name (node (head_lag (pair amount (node (pair others (pair mark tree))))))))) target = target-bare target tree
  act-bare (node (head_set (pair name (node (head_lagless (node (head_comma (pair comma tree)))))))) target = act-bare tree target
  act-bare (node (head_set (pair name (node (head_lagless (node (head_closed (pair close_mark tree)))))))) target = head-bare target tree
  act-bare tree target = tt

  named-bare : (tree : Derivation) → Bare (named_act source names labels tree)
  named-bare (node (pair name (node (name_suffixed (pair dotted (pair indices tree)))))) =
      target-bare (target_at source names labels name (suffix_in source names labels (some dotted)) (optional_indices source names labels indices)) tree
  named-bare (node (pair name (node (name_indexed (pair mark tree))))) =
      act-bare tree (target_at source names labels name suffix.None (head_indices source names labels tree))
  named-bare (node (pair name (node (name_alone tree)))) = head-bare (target_at source names labels name suffix.None trees.no_index) tree
  named-bare tree = tt

  other-bare : (tree : Derivation) → Bare (display_or_other source names labels tree)
  other-bare (other_display (node (pair word list))) = tt
  other-bare (other_option (node (pair word list))) = tt
  other-bare (other_solve (node (pair word (pair model (solve_using (pair using (pair method objective))))))) = tt
  other-bare (other_solve (node (pair word (pair model (solve_direction (pair direction (pair name method))))))) = tt
  other-bare (other_abort (node (pair word (pair condition list)))) = tt
  other-bare (other_loop (node (pair word (pair mark (pair (pair sets (pair comma body)) close_mark))))) = tt
  other-bare tree = tt

  -- ---- statements

  abbrev Passes : Act Number → Type 0
  Passes act = Written act × Bare act

  set-pass : (tree : Derivation) → Passes (set_act source names labels tree)
  set-pass tree = (tt, sets-own source names labels own has tree)

  parameter-pass : (tree : Derivation) → Passes (parameter_act source names labels tree)
  parameter-pass tree = (tt, parameters-own source names labels own has tree)

  scalar-pass : (tree : Derivation) → Passes (scalar_act source names labels tree)
  scalar-pass tree = (tt, scalars-own source names labels own has tree)

  table-pass : (tree : Derivation) → Passes (table_act source names labels tree)
  table-pass tree = (tt, (table-own source names labels own has (yield (second_in (second_in (second_in (inside tree))))), tt))

  variable-pass : (tree : Derivation) → Passes (variable_act source names labels tree)
  variable-pass tree = (tt, plains-own source names labels own has (second_in (second_in (inside tree))))

  equation-pass : (tree : Derivation) → Passes (equation_act source names labels tree)
  equation-pass tree = (tt, plains-own source names labels own has (second_in (inside tree)))

  model-pass : (tree : Derivation) → Passes (model_act source names labels tree)
  model-pass tree = (tt, tt)

  alias-pass : (tree : Derivation) → Passes (alias_act source names labels tree)
  alias-pass (node (pair word (pair open_mark (pair both close_mark)))) = (tt, tt)
  alias-pass tree = (tt, tt)

  other-pass : (tree : Derivation) → Passes (display_or_other source names labels tree)
  other-pass tree = (other-own tree, other-bare tree)

  keyword-pass : (tree : Derivation) → Passes (keyword_act source names labels tree)
  keyword-pass (node (keyword_set tree)) = set-pass tree
  keyword-pass (node (keyword_parameter tree)) = parameter-pass tree
  keyword-pass (node (keyword_scalar tree)) = scalar-pass tree
  keyword-pass (node (keyword_table tree)) = table-pass tree
  keyword-pass (node (keyword_variable tree)) = variable-pass tree
  keyword-pass (node (keyword_equation tree)) = equation-pass tree
  keyword-pass (node (keyword_model tree)) = model-pass tree
  keyword-pass (node (keyword_alias tree)) = alias-pass tree
  keyword-pass (node (keyword_other tree)) = other-pass tree
  keyword-pass tree = (tt, tt)

  keywords-pass : (tree : Derivation) → AllPass own (keyword_statements source names labels tree)
  keywords-pass (more first others) = (keyword-pass first, keywords-pass others)
  keywords-pass tree = tt

  first-pass : (tree : Derivation) (others : Statements Number) → AllPass own others → AllPass own (named_first source names labels tree others)
  first-pass (some tree) others all = ((named-own tree, named-bare tree), all)
  first-pass tree others all = all

  segment-pass : (tree : Derivation) → AllPass own (segment source names labels tree)
  segment-pass (node (pair named others)) = first-pass named (keyword_statements source names labels others) (keywords-pass others)
  segment-pass tree = tt

  segments-pass : (tree : Derivation) → AllPass own (segments source names labels tree)
  segments-pass (more (pair mark tree) others) =
      both-pass own (segment source names labels tree) (segments source names labels others) (segment-pass tree) (segments-pass others)
  segments-pass tree = tt

  pub statements-pass : (tree : Derivation) → AllPass own (statements_of source names labels tree)
  statements-pass (node (pair first others)) =
      both-pass own (segment source names labels first) (segments source names labels others) (segment-pass first) (segments-pass others)
  statements-pass tree = tt

-- ---- trees over numbers have the same labels

module _ {F N : Type 0} (v : F → N) where
  mutual
    tree-same : (t : trees.Tree F) → tree_labels (in_numbers v t) ≡ tree_labels t
    tree-same (trees.number n) = refl
    tree-same trees.plus_infinity = refl
    tree-same trees.not_available = refl
    tree-same trees.yes = refl
    tree-same trees.no = refl
    tree-same (trees.reference at name suffix indices) = indices-same indices
    tree-same (trees.place_in_set at set) = refl
    tree-same (trees.size_of_set at set) = refl
    tree-same (trees.call at function args) = parts-same args
    tree-same (trees.fold_over at op sets body) = ap₂ (λ (a b : List ℕ). a ++ b) (control-same sets) (tree-same body)
    tree-same (trees.negated operand) = tree-same operand
    tree-same (trees.sum parts) = parts-same parts
    tree-same (trees.product parts) = parts-same parts
    tree-same (trees.power parts) = parts-same parts
    tree-same (trees.relation parts) = parts-same parts
    tree-same (trees.not_so operand) = tree-same operand
    tree-same (trees.all_of parts) = parts-same parts
    tree-same (trees.one_of parts) = parts-same parts
    tree-same (trees.guarded operand guards) = ap₂ (λ (a b : List ℕ). a ++ b) (tree-same operand) (parts-same guards)

    parts-same : (parts : trees.Parts F) → part_labels (parts_in_numbers v parts) ≡ part_labels parts
    parts-same trees.no_part = refl
    parts-same (trees.part mark tree rest) = ap₂ (λ (a b : List ℕ). a ++ b) (tree-same tree) (parts-same rest)

    indices-same : (indices : trees.Indices F) → index_labels (indices_in_numbers v indices) ≡ index_labels indices
    indices-same trees.no_index = refl
    indices-same (trees.label n rest) = ap (λ (ls : List ℕ). n ∷ ls) (indices-same rest)
    indices-same (trees.set set rest) = indices-same rest
    indices-same (trees.lagged set op at amount rest) = ap₂ (λ (a b : List ℕ). a ++ b) (tree-same amount) (indices-same rest)

    control-same : (sets : trees.Control F) → control_labels (control_in_numbers v sets) ≡ control_labels sets
    control-same (trees.over those) = refl
    control-same (trees.over_where those condition) = tree-same condition

condition-same : (condition : Option (Expr Frac)) → condition_labels (option_map (shown_tree frac_value) condition) ≡ condition_labels (option_map tree_of condition)
condition-same None = refl
condition-same (Some e) = tree-same frac_value (tree_of e)

-- ---- the statements of a program

-- the labels that an act writes
abbrev labels_of : ActNode Frac → List ℕ
labels_of = fold-Act Frac (List ℕ) (List ℕ) labels_step (λ s. s.act)

written-act : (s : Stmt Frac) → statement_labels s ≡ labels_of s.act
written-act s = fold_out-Stmt Frac (List ℕ) (List ℕ) labels_step (λ s. s.act) s

abbrev SameLabels : ActNode Frac → Type 0
SameLabels act = act_labels (shown act) ≡ labels_of act

-- what a layer writes
abbrev labels_layer : Layer → List ℕ
labels_layer x = labels_of (roll-Act Frac x)

body-same : (ss : List (Stmt Frac)) → AllSuch SameLabels ss → all_labels (statements_in_order frac_value (map {B = Statements Number → Statements Number} (statement_view frac_value) ss)) ≡ flat_map (λ (labels : List ℕ). labels) (map statement_labels ss)
body-same [] all = refl
body-same (s ∷ ss) all =
    ap all_labels (view-Stmt frac_value s (statements_in_order frac_value (map {B = Statements Number → Statements Number} (statement_view frac_value) ss)))
    ∙ ap₂ (λ (a b : List ℕ). a ++ b) (all.0 ∙ sym (written-act s)) (body-same ss all.1)

layer-same : (x : Layer) → LayerSuch SameLabels x → act_labels (shown_layer x) ≡ labels_layer x
layer-same x all = by x all ∙ sym (fold-roll-Act Frac (List ℕ) (List ℕ) labels_step (λ s. s.act) x)
  where
    by : (x : Layer) → LayerSuch SameLabels x → act_labels (shown_layer x) ≡ labels_step (map-Act Frac (ActNode Frac) (Stmt Frac) (List ℕ) (List ℕ) labels_of statement_labels x)
    by (Act-F.Declare kind items) all = refl
    by (Act-F.Alias first second) all = refl
    by (Act-F.Assign target condition right_at (Value right_side)) all =
        ap₂ (λ (a b : List ℕ). a ++ b) (indices-same frac_value (indices_of (map index_tree target.indices))) (ap₂ (λ (a b : List ℕ). a ++ b) (condition-same condition) (tree-same frac_value (tree_of right_side)))
    by (Act-F.Define equation indices condition left_at left_side side right_at right_side) all =
        ap₂ (λ (a b : List ℕ). a ++ b) (indices-same frac_value (indices_of (map index_tree indices))) (ap₂ (λ (a b : List ℕ). a ++ b) (condition-same condition) (ap₂ (λ (a b : List ℕ). a ++ b) (tree-same frac_value (tree_of left_side)) (tree-same frac_value (tree_of right_side))))
    by (Act-F.Model models) all = refl
    by (Act-F.Solve model word objective maximize) all = refl
    by (Act-F.Display items) all = refl
    by (Act-F.Loop sets body) all = ap₂ (λ (a b : List ℕ). a ++ b) (control-same frac_value (control_tree sets)) (body-same body.items all)
    by (Act-F.Options options) all = refl
    by (Act-F.Abort condition items) all = refl

same-labels : (s : Stmt Frac) → act_labels (shown s.act) ≡ statement_labels s
same-labels s = each-act SameLabels (λ x all. ap act_labels (shows x) ∙ layer-same x all) s ∙ sym (written-act s)

-- the names that an act declares with their data
abbrev pub data_of : {F : Type 0} → ActNode F → List (Decl F)
data_of (Declare kind items) = items
data_of act = []

layer-data : (x : Layer) → act_data (shown_layer x) ≡ map (declared_in frac_value) (data_of (roll-Act Frac x))
layer-data (Act-F.Declare kind items) = ap (λ (a : ActNode Frac). map (declared_in frac_value) (data_of a)) (sym (rolls-Declare kind items))
layer-data (Act-F.Alias first second) = ap (λ (a : ActNode Frac). map (declared_in frac_value) (data_of a)) (sym (rolls-Alias first second))
layer-data (Act-F.Assign target condition right_at right_side) =
    ap (λ (a : ActNode Frac). map (declared_in frac_value) (data_of a)) (sym (rolls-Assign target condition right_at right_side))
layer-data (Act-F.Define equation indices condition left_at left_side side right_at right_side) =
    ap (λ (a : ActNode Frac). map (declared_in frac_value) (data_of a)) (sym (rolls-Define equation indices condition left_at left_side side right_at right_side))
layer-data (Act-F.Model models) = ap (λ (a : ActNode Frac). map (declared_in frac_value) (data_of a)) (sym (rolls-Model models))
layer-data (Act-F.Solve model word objective maximize) = ap (λ (a : ActNode Frac). map (declared_in frac_value) (data_of a)) (sym (rolls-Solve model word objective maximize))
layer-data (Act-F.Display items) = ap (λ (a : ActNode Frac). map (declared_in frac_value) (data_of a)) (sym (rolls-Display items))
layer-data (Act-F.Loop sets body) = ap (λ (a : ActNode Frac). map (declared_in frac_value) (data_of a)) (sym (rolls-Loop sets body))
layer-data (Act-F.Options options) = ap (λ (a : ActNode Frac). map (declared_in frac_value) (data_of a)) (sym (rolls-Options options))
layer-data (Act-F.Abort condition items) = ap (λ (a : ActNode Frac). map (declared_in frac_value) (data_of a)) (sym (rolls-Abort condition items))

same-data : (act : ActNode Frac) → act_data (shown act) ≡ map (declared_in frac_value) (data_of act)
same-data act =
    subst (λ (a : ActNode Frac). act_data (shown a) ≡ map (declared_in frac_value) (data_of a)) (roll-out-Act Frac act) (ap act_data (shows (out-Act Frac act)) ∙ layer-data (out-Act Frac act))

module _ (test : ℕ → Bool) where
  items-back : (items : List (Item Frac)) → EachHas (ItemHas test) (map (item_in frac_value) items) → EachHas (ItemHas test) items
  items-back [] all = tt
  items-back (item ∷ items) all = (all.0, items-back items all.1)

  data-back : (declared : List (Decl Frac)) → EachHas (DeclHas test) (map (declared_in frac_value) declared) → EachHas (DeclHas test) declared
  data-back [] all = tt
  data-back (item ∷ declared) all = (items-back item.items all.0, data-back declared all.1)

  -- what statements write passes, and so do their data
  pub record StatementsPass (statements : List (Stmt Frac)) : Type 0 where
    pub written : Each test (flat_map statement_labels statements)
    pub given : EachHas (λ (s : Stmt Frac). EachHas (DeclHas test) (data_of s.act)) statements

  pub items-pass : (items : List (Stmt Frac)) → AllPass test (statements_view frac_value items) → StatementsPass items
  items-pass [] all = record { written = tt; given = tt }
  items-pass (x ∷ items) all =
      let parts = subst (AllPass test) (view-Stmt frac_value x (statements_view frac_value items)) all in
      let rest = items-pass items parts.1 in
      record {
        written = each-both test (statement_labels x) (flat_map statement_labels items) (subst (Each test) (same-labels x) parts.0.0) rest.written;
        given = (data-back (data_of x.act) (subst (EachHas (DeclHas test)) (same-data x.act) parts.0.1), rest.given);
      }
