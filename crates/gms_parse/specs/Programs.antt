-- The statements that the derivation of a program means (GAMS User's Guide, "GAMS Programs",
-- "Programming Flow Control Features").
use Rattle.std.specs.Prelude.{ℕ, List, []}
use Rattle.gq_number.specs.Number.{Number}
use Rattle.gms_lex.specs.declared.token.Token.{Token}
use Rattle.gms_grammar.specs.declared.terminal.Terminal.{Terminal}
use Rattle.gms_grammar.specs.Grammar.{DerivationTree, pair, some, more, node}
use Rattle.gms_grammar.specs.Alternatives.{keyword_set, keyword_parameter, keyword_scalar, keyword_table, keyword_variable, keyword_equation, keyword_model, keyword_alias, keyword_other, inner_assignment, inner_other, other_display, other_option, other_solve, other_abort, other_loop}
use Rattle.gms_expressions.specs.ExpressionTrees.{place_in, control}
use Rattle.gms_ast.specs.StatementTrees.{Act, loops, displays, Statements, no_statement, statement, followed_by}
use Rattle.gms_parse.specs.Declarations.{variable_act, equation_act, model_act, set_act, parameter_act, scalar_act, table_act}
use Rattle.gms_parse.specs.Statements.{named_act, assignment_act, alias_act, display_act, option_act, solve_act, abort_act}

-- The meaning of derivation trees in a source with these names and labels; a tree that is none of
-- the part means an empty display, or no statement.
module _ (source : List ℕ) (names labels : List (List ℕ)) where
  abbrev mutual
    -- the loop that a derivation means
    pub loop_act : DerivationTree (Terminal × Token) → Act Number
    loop_act (node (pair _ (pair _ (pair tree _)))) = controlled_act tree
    loop_act _ = displays []

    -- the loop with this control and the statements of this body; a tree of another form gives an
    -- empty display
    pub controlled_act : DerivationTree (Terminal × Token) → Act Number
    controlled_act (pair sets (pair _ body)) = loops (control source names labels sets) (loop_body body)
    controlled_act _ = displays []

    -- the statements of a loop's body, in order; none for a tree of another form
    pub loop_body : DerivationTree (Terminal × Token) → Statements Number
    loop_body (node (pair first others)) = statement (place_in first) (inner_act first) (after_semicolon others)
    loop_body _ = no_statement

    pub after_semicolon : DerivationTree (Terminal × Token) → Statements Number
    after_semicolon (some (pair _ (some tree))) = loop_body tree
    after_semicolon _ = no_statement

    -- the act of a statement in a loop: an assignment, or another; a tree of another form gives an
    -- empty display
    pub inner_act : DerivationTree (Terminal × Token) → Act Number
    inner_act (node (inner_assignment tree)) = assignment_act source names labels tree
    inner_act (node (inner_other tree)) = display_or_other tree
    inner_act _ = displays []

    -- the act of a display, an option statement, a solve, an abort, or a loop; a tree of another
    -- form gives an empty display
    pub display_or_other : DerivationTree (Terminal × Token) → Act Number
    display_or_other (other_display tree) = display_act source names labels tree
    display_or_other (other_option tree) = option_act source names labels tree
    display_or_other (other_solve tree) = solve_act source names labels tree
    display_or_other (other_abort tree) = abort_act source names labels tree
    display_or_other (other_loop tree) = loop_act tree
    display_or_other _ = displays []

  -- the act of a statement that begins with a keyword; a tree of another form gives an empty
  -- display
  abbrev pub keyword_act : DerivationTree (Terminal × Token) → Act Number
  keyword_act (node (keyword_set tree)) = set_act source names labels tree
  keyword_act (node (keyword_parameter tree)) = parameter_act source names labels tree
  keyword_act (node (keyword_scalar tree)) = scalar_act source names labels tree
  keyword_act (node (keyword_table tree)) = table_act source names labels tree
  keyword_act (node (keyword_variable tree)) = variable_act source names labels tree
  keyword_act (node (keyword_equation tree)) = equation_act source names labels tree
  keyword_act (node (keyword_model tree)) = model_act source names labels tree
  keyword_act (node (keyword_alias tree)) = alias_act source names labels tree
  keyword_act (node (keyword_other tree)) = display_or_other tree
  keyword_act _ = displays []

  -- the statements of a repetition, each of which begins with a keyword, in order
  abbrev pub keyword_statements : DerivationTree (Terminal × Token) → Statements Number
  keyword_statements (more first others) = statement (place_in first) (keyword_act first) (keyword_statements others)
  keyword_statements _ = no_statement

  -- the statement that begins with a name, if there is one, followed by the others
  abbrev pub named_first : DerivationTree (Terminal × Token) → Statements Number → Statements Number
  named_first (some tree) others = statement (place_in tree) (named_act source names labels tree) others
  named_first _ others = others

  -- the statements between two semicolons: perhaps one that begins with a name, then those that
  -- begin with keywords; none for a tree of another form
  abbrev pub segment : DerivationTree (Terminal × Token) → Statements Number
  segment (node (pair named others)) = named_first named (keyword_statements others)
  segment _ = no_statement

  -- the statements after each of some semicolons, in order
  abbrev pub segments : DerivationTree (Terminal × Token) → Statements Number
  segments (more (pair _ tree) others) = followed_by (segment tree) (segments others)
  segments _ = no_statement

  -- the statements that the derivation of a program means, in order; none for a tree of another
  -- form
  abbrev pub statements_of : DerivationTree (Terminal × Token) → Statements Number
  statements_of (node (pair first others)) = followed_by (segment first) (segments others)
  statements_of _ = no_statement
