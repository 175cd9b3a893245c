-- Assignments, definitions and other statements mean the same in two sources that a derivation is
-- kin in.
use Rattle.std.proofs.Common.{◌≡◌, ℕ, Bool, List, [], Option, Some, None, refl, ap, ap₂, ◌∙◌}
use Rattle.gq_number.specs.Number.{Number as Rational}
use Rattle.gms_labels.specs.declared.place.Place.{Place}
use Rattle.gms_grammar.specs.declared.kind.Kind.{Kind}
use Rattle.gms_lex.specs.TokenTexts.{unquoted}
use Rattle.gms_ast.specs.declared.word.Named.{Named}
use Rattle.gms_ast.specs.declared.word.Word.{Word}
use Rattle.gms_ast.specs.declared.expression.Suffix.{Suffix}
use Rattle.gms_ast.specs.declared.expression.Suffix.TheVariants as suffix
use Rattle.gms_ast.specs.declared.program.Show.{Show}
use Rattle.gms_ast.specs.declared.program.Show.TheVariants as show
use Rattle.gms_ast.specs.declared.program.Setting.{Setting as Value}
use Rattle.gms_ast.specs.declared.program.Setting.TheVariants as setting
use Rattle.gms_ast.specs.Trees as trees
use Rattle.gms_ast.specs.StatementTrees.{Act, aliases, assigns, defines, solves, displays, sets_options, aborts, Target as Aim, Sides as Relation}
use Rattle.gms_grammar.specs.declared.terminal.Terminal.{Terminal}
use Rattle.gms_grammar.specs.declared.terminal.Terminal.TheVariants as terminal
use Rattle.gms_grammar.specs.Grammar.{one, the, ◌∣◌, opt, pair, none, node}
use Rattle.gms_grammar.specs.Alternatives.{head_label, head_set}
use Rattle.gms_grammar.specs.GamsGrammar.{Nonterminal, Condition, NamedStatement, HeadIndices, AfterHeadName, AfterHeadIndex, AfterHead, AfterTarget, Sides, Assignment, AliasStatement, DisplayStatement, ShownList, Shown, OptionStatement, Setting, SolveStatement, AbortStatement, productions, token, name, word}
use Rattle.gms_expressions.specs.Valuations.{number_meant}
use Rattle.gms_expressions.specs.ExpressionTrees.{token_of, place_in, name_in, expression, condition}
use Rattle.gms_parse.specs.DataLists.{optional_in}
use Rattle.gms_parse.specs.Statements.{side_of, is_maximizing, bytes_in, word_in, condition_in, sides_in, assigned, after_target, after_head, head_indices, act_of_head, target_at, named_act, assignment_act, alias_act, parsed_shown, shown_list, display_act, abort_act, setting_value, parsed_setting, option_act, solve_act}
use Rattle.gms_joint_source.proofs.Kin.{ap₃, Derivation, GamsPart, Kin, of_node, of_both, of_left, of_right, of_none, of_some, Within, Rule, everywhere, Same, all_same, text_kin, name_kin, label_kin, suffix_kin, optional_indices_kin, more_indices_kin}
use Rattle.gms_joint_source.proofs.KinLists.{list_kin}
use Rattle.gms_joint_source.proofs.KinDeclarations.{named_kin}

-- what is assigned, or defined
abbrev aim_at : Place → ℕ → Suffix → trees.Indices Rational → Aim Rational
aim_at at name suffix indices = record { at = at; name = name; suffix = suffix; indices = indices }

abbrev relation_at : Place → Place → trees.Tree Rational → Kind → trees.Tree Rational → Relation Rational
relation_at left_at right_at one_side kind other = record { left_at = left_at; left = one_side; side = side_of kind; right_at = right_at; right = other }

-- an equation with the name of what it defines
abbrev defined_by : Aim Rational → Option (trees.Tree Rational) → Relation Rational → Act Rational
defined_by aim condition sides = defines (record { at = aim.at; name = aim.name }) aim.indices condition sides

abbrev word_at : Place → List ℕ → Word
word_at at text = record { at = at; text = text }

-- the indices after the first
abbrev indices_after : trees.Indices Rational → trees.Indices Rational
indices_after trees.no_index = trees.no_index
indices_after (trees.label n others) = others
indices_after (trees.set n others) = others
indices_after (trees.lagged n op at amount others) = others

-- the part after an index of a head: further indices, and an act
abbrev following_indices : List ℕ → List (List ℕ) → List (List ℕ) → Derivation → trees.Indices Rational
following_indices source names labels tree = indices_after (head_indices source names labels (node (head_label (pair none tree))))

abbrev act_after : List ℕ → List (List ℕ) → List (List ℕ) → Aim Rational → Derivation → Act Rational
act_after source names labels aim tree = act_of_head source names labels aim (node (head_label (pair none tree)))

module _ (first second : List ℕ) (names wider labels larger : List (List ℕ)) where
  abbrev K : GamsPart → Derivation → Type 0
  K part tree = Kin first second names wider labels larger part tree

  abbrev Inside : (Nonterminal → Derivation → Type 0) → {p : GamsPart} {tree : Derivation} → K p tree → Type 0
  Inside Says k = Within first second names wider labels larger Says k

  -- the claims for the expressions within
  abbrev Terms : {p : GamsPart} {tree : Derivation} → K p tree → Type 0
  Terms k = Within first second names wider labels larger (Same first second names wider labels larger) k

  -- ---- claims for statements

  -- the part after a target gives the same act
  abbrev pub FollowingTarget : Derivation → Type 0
  FollowingTarget tree = (a b : Aim Rational) → a ≡ b → after_target first names labels a tree ≡ after_target second wider larger b tree

  abbrev pub FollowingHead : Derivation → Type 0
  FollowingHead tree = (a b : Aim Rational) → a ≡ b → after_head first names labels a tree ≡ after_head second wider larger b tree

  -- indices of a head are the same, and the part after them gives the same act
  abbrev pub InHead : Derivation → Type 0
  InHead tree =
      (head_indices first names labels tree ≡ head_indices second wider larger tree) × ((a b : Aim Rational) → a ≡ b → act_of_head first names labels a tree ≡ act_of_head second wider larger b tree)

  abbrev pub AfterIndex : Derivation → Type 0
  AfterIndex tree =
      (following_indices first names labels tree ≡ following_indices second wider larger tree) × ((a b : Aim Rational) → a ≡ b → act_after first names labels a tree ≡ act_after second wider larger b tree)

  abbrev pub SaysActed : Nonterminal → Derivation → Type 0
  SaysActed Sides tree = sides_in first names labels tree ≡ sides_in second wider larger tree
  SaysActed AfterTarget tree = FollowingTarget tree
  SaysActed AfterHead tree = FollowingHead tree
  SaysActed HeadIndices tree = InHead tree
  SaysActed AfterHeadName tree = (it : Derivation) → name_in first names labels it ≡ name_in second wider larger it → InHead (node (head_set (pair it tree)))
  SaysActed AfterHeadIndex tree = AfterIndex tree
  SaysActed NamedStatement tree = named_act first names labels tree ≡ named_act second wider larger tree
  SaysActed Assignment tree = assignment_act first names labels tree ≡ assignment_act second wider larger tree
  SaysActed AliasStatement tree = alias_act first names labels tree ≡ alias_act second wider larger tree
  SaysActed Shown tree = parsed_shown first names labels tree ≡ parsed_shown second wider larger tree
  SaysActed ShownList tree = shown_list first names labels tree ≡ shown_list second wider larger tree
  SaysActed DisplayStatement tree = display_act first names labels tree ≡ display_act second wider larger tree
  SaysActed AbortStatement tree = abort_act first names labels tree ≡ abort_act second wider larger tree
  SaysActed Setting tree = parsed_setting first names labels tree ≡ parsed_setting second wider larger tree
  SaysActed OptionStatement tree = option_act first names labels tree ≡ option_act second wider larger tree
  SaysActed SolveStatement tree = solve_act first names labels tree ≡ solve_act second wider larger tree
  SaysActed _ tree = Unit {0}

  -- ---- targets, conditions and sides

  text_same : {test : Terminal → Bool} {tree : Derivation} → K (one test) tree → bytes_in first names labels tree ≡ bytes_in second wider larger tree
  text_same k = text_kin first second names wider labels larger k

  name_same : {tree : Derivation} → K name tree → name_in first names labels tree ≡ name_in second wider larger tree
  name_same k = name_kin first second names wider labels larger k

  word_same : {test : Terminal → Bool} {tree : Derivation} → K (one test) tree → word_in first names labels tree ≡ word_in second wider larger tree
  word_same {tree = tree} k = ap (λ text. word_at (token_of tree).at text) (text_same k)

  condition_same : {tree : Derivation} (k : K (opt (the Condition)) tree) → Terms k → condition_in first names labels tree ≡ condition_in second wider larger tree
  condition_same of_none e = refl
  condition_same (of_some (of_node it _)) e = ap (λ (t : trees.Tree Rational). Some t) e.1

  aim_same : (it : Derivation) {s t : Suffix} {is js : trees.Indices Rational} → name_in first names labels it ≡ name_in second wider larger it → s ≡ t → is ≡ js → target_at first names labels it s is ≡ target_at second wider larger it t js
  aim_same it n s i = ap₃ (λ m (t : Suffix) (js : trees.Indices Rational). aim_at (token_of it).at m t js) n s i

  -- a right side is assigned
  assigned_same : (tree : Derivation) (a b : Aim Rational) (c d : Option (trees.Tree Rational)) → a ≡ b → c ≡ d → expression first names labels tree ≡ expression second wider larger tree → assigned first names labels a c tree ≡ assigned second wider larger b d tree
  assigned_same tree a b c d p q r = ap₃ (λ (aim : Aim Rational) (o : Option (trees.Tree Rational)) (t : trees.Tree Rational). assigns aim o (place_in tree) t) p q r

  of_sides : {tree : Derivation} (k : K (productions Sides) tree) → Terms k → SaysActed Sides (node tree)
  of_sides (of_both {a = l} (of_node a _) (of_both {a = sense} s (of_node {tree = r} b _))) e =
      ap₂ (λ (x y : trees.Tree Rational). relation_at (place_in l) (place_in (node r)) x (token_of sense).kind y) e.0.1 e.1.1.1

  of_after_target : {tree : Derivation} (k : K (productions AfterTarget) tree) → Terms k → SaysActed AfterTarget (node tree)
  of_after_target (of_both c (of_both equals (of_node {tree = tree} it _))) e a b same = assigned_same (node tree) a b _ _ same (condition_same c e.0) e.1.1.1

  of_after_head : {tree : Derivation} (k : K (productions AfterHead) tree) → Terms k → Inside SaysActed k → SaysActed AfterHead (node tree)
  of_after_head (of_both c (of_left (of_both equals (of_node {tree = tree} it _)))) e w a b same = assigned_same (node tree) a b _ _ same (condition_same c e.0) e.1.1.1
  of_after_head (of_both c (of_right (of_both dots (of_node it _)))) e w a b same = ap₃ defined_by same (condition_same c e.0) w.1.1.1

  -- ---- heads

  of_head : {tree : Derivation} (k : K (productions HeadIndices) tree) → Inside SaysActed k → SaysActed HeadIndices (node tree)
  of_head (of_left (of_both text (of_node it _))) w =
      (ap₂ (λ n (is : trees.Indices Rational). trees.label n is) (label_kin first second names wider labels larger text) w.1.1.0, w.1.1.1)
  of_head (of_right (of_both it (of_node following _))) w = w.1.1 _ (name_same it)

  of_after_name : {tree : Derivation} (k : K (productions AfterHeadName) tree) → Terms k → Inside SaysActed k → SaysActed AfterHeadName (node tree)
  of_after_name (of_left (of_both (of_node amount _) (of_node (of_both others (of_both closing (of_node following _))) _))) e w it same =
      (e.0.1 _ _ same _ _ (more_indices_kin first second names wider labels larger others e.1.0.0), w.1.0.1.1.1)
  of_after_name (of_right (of_node following _)) e w it same = (ap₂ (λ n (is : trees.Indices Rational). trees.set n is) same w.1.0, w.1.1)

  of_after_index : {tree : Derivation} (k : K (productions AfterHeadIndex) tree) → Inside SaysActed k → SaysActed AfterHeadIndex (node tree)
  of_after_index (of_left (of_both comma (of_node it _))) w = w.1.1
  of_after_index (of_right (of_both closing (of_node it _))) w = (refl, w.1.1)

  of_named : {tree : Derivation} (k : K (productions NamedStatement) tree) → Terms k → Inside SaysActed k → SaysActed NamedStatement (node tree)
  of_named (of_both {a = word} it (of_node (of_left (of_both (of_node dotted _) (of_both list (of_node following _)))) _)) e w =
      w.1.0.1.1.1 _ _ (aim_same word (name_same it) e.1.0.0.1 (optional_indices_kin first second names wider labels larger list e.1.0.1.0))
  of_named (of_both {a = word} it (of_node (of_right (of_left (of_both opening (of_node head _)))) _)) e w = w.1.0.1.1.1 _ _ (aim_same word {s = suffix.None} {t = suffix.None} (name_same it) refl w.1.0.1.1.0)
  of_named (of_both {a = word} it (of_node (of_right (of_right (of_node following _))) _)) e w =
      w.1.0.1 _ _ (aim_same word {s = suffix.None} {t = suffix.None} {is = trees.no_index} {js = trees.no_index} (name_same it) refl refl)

  of_assignment : {tree : Derivation} (k : K (productions Assignment) tree) → Terms k → Inside SaysActed k → SaysActed Assignment (node tree)
  of_assignment (of_both (of_node (of_both {a = word} it (of_both dotted list)) _) (of_node following _)) e w =
      w.1.1 _ _ (aim_same word (name_same it) (suffix_kin first second names wider labels larger dotted e.0.0.1.0) (optional_indices_kin first second names wider labels larger list e.0.0.1.1))

  -- ---- other statements

  of_alias : {tree : Derivation} (k : K (productions AliasStatement) tree) → SaysActed AliasStatement (node tree)
  of_alias (of_both sign (of_both opening (of_both (of_both a (of_both comma b)) closing))) =
      ap₂ (λ (x y : Named). aliases x y) (named_kin first second names wider labels larger a) (named_kin first second names wider labels larger b)

  of_shown : {tree : Derivation} (k : K (productions Shown) tree) → Terms k → SaysActed Shown (node tree)
  of_shown (of_left {tree = text} k) e = ap (λ t. show.Text (word_at (token_of text).at (unquoted t))) (text_same k)
  of_shown (of_right (of_both it dotted)) e =
      ap₂ (λ (n : Named) (s : Suffix). show.Symbol n s) (named_kin first second names wider labels larger it) (suffix_kin first second names wider labels larger dotted e.1)

  of_shown_list : {tree : Derivation} (k : K (productions ShownList) tree) → Inside SaysActed k → SaysActed ShownList (node tree)
  of_shown_list k w = list_kin first second names wider labels larger SaysActed (parsed_shown first names labels) (parsed_shown second wider larger) (λ t s. s) k w

  of_display : {tree : Derivation} (k : K (productions DisplayStatement) tree) → Inside SaysActed k → SaysActed DisplayStatement (node tree)
  of_display (of_both sign (of_node it _)) w = ap (λ (list : List Show). displays list) w.1.1

  shown_same : {tree : Derivation} (k : K (opt (the ShownList)) tree) → Inside SaysActed k → optional_in [] (shown_list first names labels) tree ≡ optional_in [] (shown_list second wider larger) tree
  shown_same of_none w = refl
  shown_same (of_some (of_node it _)) w = w.1

  of_abort : {tree : Derivation} (k : K (productions AbortStatement) tree) → Terms k → Inside SaysActed k → SaysActed AbortStatement (node tree)
  of_abort (of_both sign (of_both c list)) e w =
      ap₂ (λ (o : Option (trees.Tree Rational)) (shown : List Show). aborts o shown) (condition_same c e.1.0) (shown_same list w.1.1)

  value_same : {tree : Derivation} (k : K (token terminal.Number ∣ word) tree) → setting_value first names labels tree ≡ setting_value second wider larger tree
  value_same (of_left {tree = it} k) = ap (λ t. setting.Number (token_of it).at (number_meant t)) (text_same k)
  value_same (of_right k) = ap (λ (w : Word). setting.Name w) (word_same k)

  of_setting : {tree : Derivation} (k : K (productions Setting) tree) → SaysActed Setting (node tree)
  of_setting (of_both it (of_both equals value)) = ap₂ (λ (w : Word) (v : Value Rational). (w, v)) (word_same it) (value_same value)

  of_option : {tree : Derivation} (k : K (productions OptionStatement) tree) → Inside SaysActed k → SaysActed OptionStatement (node tree)
  of_option (of_both sign list) w =
      ap (λ (settings : List (Word × Value Rational)). sets_options settings)
      (list_kin first second names wider labels larger SaysActed (parsed_setting first names labels) (parsed_setting second wider larger) (λ t s. s) list w.1)

  -- what is solved
  solved_same : {m n : Named} {u v : Word} {x y : Named} {s t : List ℕ} → m ≡ n → u ≡ v → x ≡ y → s ≡ t → ◌≡◌ {A = Act Rational} (solves m u x (is_maximizing s)) (solves n v y (is_maximizing t))
  solved_same {n = n} {v = v} {y = y} {s = s} p q r e = ap₃ (λ (a : Named) (b : Word) (c : Named). (let act : Act Rational = solves a b c (is_maximizing s) in act)) p q r ∙ ap (λ text. (let act : Act Rational = solves n v y (is_maximizing text) in act)) e

  of_solve : {tree : Derivation} (k : K (productions SolveStatement) tree) → SaysActed SolveStatement (node tree)
  of_solve (of_both sign (of_both model (of_left (of_both using (of_both method (of_both direction objective)))))) =
      solved_same (named_kin first second names wider labels larger model) (word_same method) (named_kin first second names wider labels larger objective) (text_same direction)
  of_solve (of_both sign (of_both model (of_right (of_both direction (of_both objective (of_both using method)))))) =
      solved_same (named_kin first second names wider labels larger model) (word_same method) (named_kin first second names wider labels larger objective) (text_same direction)

  -- ---- all of them

  abbrev terms_in : {p : GamsPart} {tree : Derivation} (k : K p tree) → Terms k
  terms_in k = all_same first second names wider labels larger k

  pub acted_rule : Rule first second names wider labels larger SaysActed
  acted_rule Sides tree k a w = of_sides k (terms_in k)
  acted_rule AfterTarget tree k a w = of_after_target k (terms_in k)
  acted_rule AfterHead tree k a w = of_after_head k (terms_in k) w
  acted_rule HeadIndices tree k a w = of_head k w
  acted_rule AfterHeadName tree k a w = of_after_name k (terms_in k) w
  acted_rule AfterHeadIndex tree k a w = of_after_index k w
  acted_rule NamedStatement tree k a w = of_named k (terms_in k) w
  acted_rule Assignment tree k a w = of_assignment k (terms_in k) w
  acted_rule AliasStatement tree k a w = of_alias k
  acted_rule Shown tree k a w = of_shown k (terms_in k)
  acted_rule ShownList tree k a w = of_shown_list k w
  acted_rule DisplayStatement tree k a w = of_display k w
  acted_rule AbortStatement tree k a w = of_abort k (terms_in k) w
  acted_rule Setting tree k a w = of_setting k
  acted_rule OptionStatement tree k a w = of_option k w
  acted_rule SolveStatement tree k a w = of_solve k
  acted_rule _ tree k a w = tt

  -- statements within a derivation mean the same in both
  pub acted_same : {p : GamsPart} {tree : Derivation} (k : K p tree) → Inside SaysActed k
  acted_same k = everywhere first second names wider labels larger SaysActed acted_rule k
