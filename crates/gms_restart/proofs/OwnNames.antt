-- What holds of the number of each text holds of the names that statements declare.
use Rattle.std.proofs.Common.{ℕ, Bool, List, [], Option, map}
use Rattle.gq_number.specs.Number.{Number}
use Rattle.gms_lex.specs.declared.token.Token.{Token}
use Rattle.gms_ast.specs.declared.declaration.Decl.{Decl}
use Rattle.gms_ast.specs.declared.declaration.ModelDecl.{ModelDecl}
use Rattle.gms_ast.specs.declared.program.Setting.{Setting}
use Rattle.gms_ast.specs.declared.program.Show.{Show}
use Rattle.gms_ast.specs.declared.word.Named.{Named}
use Rattle.gms_ast.specs.declared.word.Word.{Word}
use Rattle.gms_ast.specs.StatementTrees.{Act, displays, sets_options, solves, aborts, Target, Statements, no_statement, statement, followed_by}
use Rattle.gms_ast.specs.Trees as trees
use Rattle.gms_grammar.specs.declared.terminal.Terminal.{Terminal}
use Rattle.gms_grammar.specs.Grammar.{DerivationTree, pair, none, some, more, node}
use Rattle.gms_grammar.specs.Alternatives.{solve_using, solve_direction, items_comma, items_line, head_assigned, head_defined, name_suffixed, name_indexed, name_alone, other_display, other_option, other_solve, other_abort, other_loop, keyword_set, keyword_parameter, keyword_scalar, keyword_table, keyword_variable, keyword_equation, keyword_model, keyword_alias, keyword_other, head_label, head_set, head_lag, head_lagless, head_comma, head_closed}
use Rattle.gms_expressions.specs.ExpressionTrees.{first_in, second_in, inside, name_in}
use Rattle.gms_parse.specs.Declarations.{items_in, further_items, plain_in, model_in, variable_act, equation_act, model_act, set_in, parameter_in, scalar_item_in, set_act, parameter_act, scalar_act, table_act}
use Rattle.gms_parse.specs.Statements.{after_target, after_head, act_of_head, named_act, alias_act, display_act, option_act, solve_act, abort_act}
use Rattle.gms_parse.specs.Programs.{loop_act, controlled_act, display_or_other, keyword_act, keyword_statements, named_first, segment, segments, statements_of}
use Rattle.gms_restart.proofs.Padding.{HoldsOf, HoldsOfAct, HoldsOfAll, item_names}

abbrev Derivation : Type 0
Derivation = DerivationTree (Terminal × Token)

followed-hold : (P : ℕ → Type 0) (a b : Statements Number) → HoldsOfAll P a → HoldsOfAll P b → HoldsOfAll P (followed_by a b)
followed-hold P no_statement b one other = other
followed-hold P (statement at act rest) b one other = (one.0, followed-hold P rest b one.1 other)

-- ---- acts without parts

-- A claim holds of any display, options, solve and abort.
pub record QuietHave (Q : Act Number → Type 0) : Type 0 where
  pub shown : (list : List Show) → Q (displays list)
  pub chosen : (settings : List (Word × Setting Number)) → Q (sets_options settings)
  pub solved : (model : Named) (method : Word) (objective : Named) (most : Bool) → Q (solves model method objective most)
  pub stopped : (condition : Option (trees.Tree Number)) (list : List Show) → Q (aborts condition list)

module _ (source : List ℕ) (names labels : List (List ℕ)) (Q : Act Number → Type 0) (quiet : QuietHave Q) where
  pub display-has : (tree : Derivation) → Q (display_act source names labels tree)
  display-has (node (pair word list)) = quiet.shown _
  display-has _ = quiet.shown []

  pub option-has : (tree : Derivation) → Q (option_act source names labels tree)
  option-has (node (pair word list)) = quiet.chosen _
  option-has _ = quiet.shown []

  pub solve-has : (tree : Derivation) → Q (solve_act source names labels tree)
  solve-has (node (pair word (pair model (solve_using (pair using (pair method objective)))))) = quiet.solved _ _ _ _
  solve-has (node (pair word (pair model (solve_direction (pair direction (pair name method)))))) = quiet.solved _ _ _ _
  solve-has _ = quiet.shown []

  pub abort-has : (tree : Derivation) → Q (abort_act source names labels tree)
  abort-has (node (pair word (pair condition list))) = quiet.stopped _ _
  abort-has _ = quiet.shown []

module _ (source : List ℕ) (names labels : List (List ℕ)) (P : ℕ → Type 0) (each : (tree : Derivation) → P (name_in source names labels tree)) where
  abbrev Own : Act Number → Type 0
  Own act = HoldsOfAct P act

  -- ---- declarations

  mutual
    items-own : {A : Type 0} (meaning : Derivation → A) (name : A → ℕ) → ((tree : Derivation) → P (name (meaning tree))) → (tree : Derivation) → HoldsOf P (map name (items_in meaning tree))
    items-own meaning name own (node (pair item others)) = (own item, further-own meaning name own others)
    items-own meaning name own (node tree) = tt
    items-own meaning name own _ = tt

    further-own : {A : Type 0} (meaning : Derivation → A) (name : A → ℕ) → ((tree : Derivation) → P (name (meaning tree))) → (tree : Derivation) → HoldsOf P (map name (further_items meaning tree))
    further-own meaning name own (some (items_comma (pair sign tree))) = items-own meaning name own tree
    further-own meaning name own (some (items_line (pair sign (some tree)))) = items-own meaning name own tree
    further-own meaning name own _ = tt

  decls-own : (meaning : Derivation → Decl Number) → ((tree : Derivation) → P (meaning tree).named.name) → (tree : Derivation) → HoldsOf P (item_names (items_in meaning tree))
  decls-own meaning own tree = items-own meaning (λ (item : Decl Number). item.named.name) own tree

  set-own : (tree : Derivation) → Own (set_act source names labels tree)
  set-own tree = decls-own (set_in source names labels) (λ t. each (first_in (inside t))) (second_in (inside tree))

  parameter-own : (tree : Derivation) → Own (parameter_act source names labels tree)
  parameter-own tree = decls-own (parameter_in source names labels) (λ t. each (first_in (inside t))) (second_in (inside tree))

  scalar-own : (tree : Derivation) → Own (scalar_act source names labels tree)
  scalar-own tree = decls-own (scalar_item_in source names labels) (λ t. each (first_in (inside t))) (second_in (inside tree))

  table-own : (tree : Derivation) → Own (table_act source names labels tree)
  table-own tree = (each (first_in (second_in (inside tree))), tt)

  variable-own : (tree : Derivation) → Own (variable_act source names labels tree)
  variable-own tree = decls-own (plain_in source names labels) (λ t. each (first_in (inside t))) (second_in (second_in (inside tree)))

  equation-own : (tree : Derivation) → Own (equation_act source names labels tree)
  equation-own tree = decls-own (plain_in source names labels) (λ t. each (first_in (inside t))) (second_in (inside tree))

  model-own : (tree : Derivation) → Own (model_act source names labels tree)
  model-own tree = items-own (model_in source names labels) (λ (model : ModelDecl). model.named.name) (λ t. each (first_in (inside t))) (second_in (inside tree))

  alias-own : (tree : Derivation) → Own (alias_act source names labels tree)
  alias-own (node (pair a (pair b (pair both c)))) = (each (first_in both), each (second_in (second_in both)))
  alias-own _ = tt

  -- ---- what declares nothing

  target-own : (target : Target Number) (tree : Derivation) → Own (after_target source names labels target tree)
  target-own target (node (pair condition tree)) = tt
  target-own target _ = tt

  head-own : (target : Target Number) (tree : Derivation) → Own (after_head source names labels target tree)
  head-own target (node (pair condition (head_assigned tree))) = tt
  head-own target (node (pair condition (head_defined (pair sign sides)))) = tt
  head-own target _ = tt

  mutual
    of_head-own : (target : Target Number) (tree : Derivation) → Own (act_of_head source names labels target tree)
    of_head-own target (node (head_label (pair text tree))) = following-own target tree
    of_head-own target (node (head_set (pair name (node (head_lag (pair amount (node (pair others (pair closing tree))))))))) = target-own target tree
    of_head-own target (node (head_set (pair name (node (head_lagless tree))))) = following-own target tree
    of_head-own target _ = tt

    following-own : (target : Target Number) (tree : Derivation) → Own (act_of_head source names labels target (node (head_label (pair none tree))))
    following-own target (node (head_comma (pair comma tree))) = of_head-own target tree
    following-own target (node (head_closed (pair closing tree))) = head-own target tree
    following-own target _ = tt

  named-own : (tree : Derivation) → Own (named_act source names labels tree)
  named-own (node (pair name (node (name_suffixed (pair dotted (pair indices tree)))))) = target-own _ tree
  named-own (node (pair name (node (name_indexed (pair opening tree))))) = of_head-own _ tree
  named-own (node (pair name (node (name_alone tree)))) = head-own _ tree
  named-own _ = tt

  quiet : QuietHave Own
  quiet = record { shown = λ list. tt; chosen = λ settings. tt; solved = λ model method objective most. tt; stopped = λ condition list. tt }

  controlled-own : (tree : Derivation) → Own (controlled_act source names labels tree)
  controlled-own (pair sets (pair comma body)) = tt
  controlled-own _ = tt

  loop-own : (tree : Derivation) → Own (loop_act source names labels tree)
  loop-own (node (pair word (pair opening (pair tree closing)))) = controlled-own tree
  loop-own _ = tt

  other-own : (tree : Derivation) → Own (display_or_other source names labels tree)
  other-own (other_display tree) = display-has source names labels Own quiet tree
  other-own (other_option tree) = option-has source names labels Own quiet tree
  other-own (other_solve tree) = solve-has source names labels Own quiet tree
  other-own (other_abort tree) = abort-has source names labels Own quiet tree
  other-own (other_loop tree) = loop-own tree
  other-own _ = tt

  -- ---- statements

  keyword-own : (tree : Derivation) → Own (keyword_act source names labels tree)
  keyword-own (node (keyword_set tree)) = set-own tree
  keyword-own (node (keyword_parameter tree)) = parameter-own tree
  keyword-own (node (keyword_scalar tree)) = scalar-own tree
  keyword-own (node (keyword_table tree)) = table-own tree
  keyword-own (node (keyword_variable tree)) = variable-own tree
  keyword-own (node (keyword_equation tree)) = equation-own tree
  keyword-own (node (keyword_model tree)) = model-own tree
  keyword-own (node (keyword_alias tree)) = alias-own tree
  keyword-own (node (keyword_other tree)) = other-own tree
  keyword-own _ = tt

  abbrev OwnThere : Statements Number → Type 0
  OwnThere statements = HoldsOfAll P statements

  keywords-own : (tree : Derivation) → OwnThere (keyword_statements source names labels tree)
  keywords-own (more first others) = (keyword-own first, keywords-own others)
  keywords-own _ = tt

  first-own : (tree : Derivation) (others : Statements Number) → OwnThere others → OwnThere (named_first source names labels tree others)
  first-own (some tree) others own = (named-own tree, own)
  first-own _ others own = own

  segment-own : (tree : Derivation) → OwnThere (segment source names labels tree)
  segment-own (node (pair named others)) = first-own named (keyword_statements source names labels others) (keywords-own others)
  segment-own _ = tt

  segments-own : (tree : Derivation) → OwnThere (segments source names labels tree)
  segments-own (more (pair sign tree) others) =
      followed-hold P (segment source names labels tree) (segments source names labels others) (segment-own tree) (segments-own others)
  segments-own _ = tt

  pub statements-own : (tree : Derivation) → OwnThere (statements_of source names labels tree)
  statements-own (node (pair first others)) =
      followed-hold P (segment source names labels first) (segments source names labels others) (segment-own first) (segments-own others)
  statements-own _ = tt
