-- What the derivations of statements mean (GAMS User's Guide, "Data Manipulation", "Equations",
-- "Model and Solve Statements", "Display", "Programming Flow Control Features").
use Rattle.std.specs.Prelude.{ℕ, Bool, List, [], Option, Some, None, codes}
use Rattle.gq_number.specs.Number.{Number}
use Rattle.gms_grammar.specs.declared.kind.Sym.TheVariants as sym
use Rattle.gms_grammar.specs.declared.kind.Kind.{Kind}
use Rattle.gms_grammar.specs.declared.kind.Kind.TheVariants as token_kind
use Rattle.gms_lex.specs.declared.token.Token.{Token}
use Rattle.gms_grammar.specs.declared.terminal.Terminal.{Terminal}
use Rattle.gms_grammar.specs.Grammar.{DerivationTree, pair, none, some, node}
use Rattle.gms_grammar.specs.Alternatives.{name_suffixed, name_indexed, name_alone, head_label, head_set, head_lag, head_lagless, head_comma, head_closed, head_assigned, head_defined, shown_text, shown_symbol, setting_number, setting_word, solve_using, solve_direction}
use Rattle.gms_ast.specs.declared.word.Word.{Word}
use Rattle.gms_ast.specs.declared.expression.Suffix.{Suffix}
use Rattle.gms_ast.specs.declared.expression.Suffix.TheVariants as suffix
use Rattle.gms_ast.specs.declared.program.Side.{Side}
use Rattle.gms_ast.specs.declared.program.Side.TheVariants as side
use Rattle.gms_ast.specs.declared.program.Show.{Show}
use Rattle.gms_ast.specs.declared.program.Show.TheVariants as show
use Rattle.gms_ast.specs.declared.program.Setting.{Setting}
use Rattle.gms_ast.specs.declared.program.Setting.TheVariants as setting
use Rattle.gms_ast.specs.Trees as trees
use Rattle.gms_lex.specs.TokenTexts.{token_text, unquoted}
use Rattle.gms_expressions.specs.Valuations.{number_meant}
use Rattle.gms_expressions.specs.ExpressionTrees.{is_word, token_of, first_in, second_in, inside, place_in, name_in, label_in, suffix_in, expression, condition, more_indices, lag, optional_indices}
use Rattle.gms_ast.specs.StatementTrees.{Act, aliases, assigns, defines, solves, displays, sets_options, aborts, Target, Sides}
use Rattle.gms_parse.specs.DataLists.{listed_in, optional_in, between}
use Rattle.gms_parse.specs.Declarations.{named_in}

-- how the two sides of an equation relate, by the symbol between them: `=l=`, `=g=`, `=n=`, or for
-- any other that of `=e=`
abbrev pub side_of : Kind → Side
side_of (token_kind.Symbol sym.EqL) = side.L
side_of (token_kind.Symbol sym.EqG) = side.G
side_of (token_kind.Symbol sym.EqN) = side.N
side_of _ = side.E

-- whether the word of a direction is `maximizing`, letter case ignored
abbrev pub is_maximizing : List ℕ → Bool
is_maximizing word = is_word word (codes "maximizing")

-- The meaning of derivation trees in a source with these names and labels; a tree that is none of
-- the part means an empty display.
module _ (source : List ℕ) (names labels : List (List ℕ)) where
  -- the bytes of the token of a leaf
  abbrev pub bytes_in : DerivationTree (Terminal × Token) → List ℕ
  bytes_in tree = token_text source (token_of tree)

  -- the word of a leaf as it is written, with its place
  abbrev pub word_in : DerivationTree (Terminal × Token) → Word
  word_in tree = record { at = (token_of tree).at; text = bytes_in tree }

  -- the quoted text of a leaf without its quotation marks, with its place
  abbrev pub text_word : DerivationTree (Terminal × Token) → Word
  text_word tree = record { at = (token_of tree).at; text = unquoted (bytes_in tree) }

  -- the condition of a statement, or None without one
  abbrev pub condition_in : DerivationTree (Terminal × Token) → Option (trees.Tree Number)
  condition_in (some tree) = Some (condition source names labels tree)
  condition_in _ = None

  -- ---- assignments and definitions

  -- the two sides of a definition, with their places, and how they relate
  abbrev pub sides_in : DerivationTree (Terminal × Token) → Sides Number
  sides_in tree =
      let left_side = first_in (inside tree) in
      let sense = between (inside tree) in
      let right_side = second_in (second_in (inside tree)) in
      record {
        left_at = place_in left_side;
        left = expression source names labels left_side;
        side = side_of (token_of sense).kind;
        right_at = place_in right_side;
        right = expression source names labels right_side;
      }

  -- the assignment of this right side to the target, under the condition if there is one
  abbrev pub assigned : Target Number → Option (trees.Tree Number) → DerivationTree (Terminal × Token) → Act Number
  assigned target condition right_side = assigns target condition (place_in right_side) (expression source names labels right_side)

  -- the assignment to the target, by what follows the target: a condition, if there is one, `=` and
  -- the right side; a tree of another form gives an empty display
  abbrev pub after_target : Target Number → DerivationTree (Terminal × Token) → Act Number
  after_target target (node (pair condition tree)) = assigned target (condition_in condition) (second_in tree)
  after_target target _ = displays []

  -- the statement of a target without suffix and lags, by what follows it: with `=` an assignment
  -- to it, with `..` the definition of an equation; a tree of another form gives an empty display
  abbrev pub after_head : Target Number → DerivationTree (Terminal × Token) → Act Number
  after_head target (node (pair condition (head_assigned tree))) = assigned target (condition_in condition) (second_in tree)
  after_head target (node (pair condition (head_defined (pair _ sides)))) =
      defines (record { at = target.at; name = target.name }) target.indices (condition_in condition) (sides_in sides)
  after_head target _ = displays []

  abbrev mutual
    -- the indices of the head of a statement, which is a name with indices in parentheses; the
    -- grammar nests them up to the first lag, and from there on they are a plain list. A tree of
    -- another form has none
    pub head_indices : DerivationTree (Terminal × Token) → trees.Indices Number
    head_indices (node (head_label (pair text tree))) = trees.label (label_in source names labels text) (following_indices tree)
    head_indices (node (head_set (pair name (node (head_lag (pair amount (node (pair others _)))))))) =
        lag source names labels (name_in source names labels name) amount (more_indices source names labels others)
    head_indices (node (head_set (pair name (node (head_lagless tree))))) = trees.set (name_in source names labels name) (following_indices tree)
    head_indices _ = trees.no_index

    following_indices : DerivationTree (Terminal × Token) → trees.Indices Number
    following_indices (node (head_comma (pair _ tree))) = head_indices tree
    following_indices _ = trees.no_index

  abbrev mutual
    -- the statement with this target, by its indices and what follows them: an assignment if one of
    -- the indices has a lag, else an assignment or a definition; a tree of another form gives an
    -- empty display
    pub act_of_head : Target Number → DerivationTree (Terminal × Token) → Act Number
    act_of_head target (node (head_label (pair _ tree))) = act_after target tree
    act_of_head target (node (head_set (pair _ (node (head_lag (pair _ (node (pair _ (pair _ tree))))))))) = after_target target tree
    act_of_head target (node (head_set (pair _ (node (head_lagless tree))))) = act_after target tree
    act_of_head target _ = displays []

    act_after : Target Number → DerivationTree (Terminal × Token) → Act Number
    act_after target (node (head_comma (pair _ tree))) = act_of_head target tree
    act_after target (node (head_closed (pair _ tree))) = after_head target tree
    act_after target _ = displays []

  -- the target with this name, suffix and indices
  abbrev pub target_at : DerivationTree (Terminal × Token) → Suffix → trees.Indices Number → Target Number
  target_at name suffix indices = record { at = (token_of name).at; name = name_in source names labels name; suffix = suffix; indices = indices }

  -- the assignment or definition that begins with a name, which a suffix, indices, or neither
  -- follow; a tree of another form gives an empty display
  abbrev pub named_act : DerivationTree (Terminal × Token) → Act Number
  named_act (node (pair name (node (name_suffixed (pair dotted (pair indices tree)))))) =
      after_target (target_at name (suffix_in source names labels (some dotted)) (optional_indices source names labels indices)) tree
  named_act (node (pair name (node (name_indexed (pair _ tree))))) = act_of_head (target_at name suffix.None (head_indices tree)) tree
  named_act (node (pair name (node (name_alone tree)))) = after_head (target_at name suffix.None trees.no_index) tree
  named_act _ = displays []

  -- the target of an assignment in a loop: its name, with the suffix and the indices that it has;
  -- for a tree of another form, the name of the tree `none` with no suffix and no index
  abbrev pub target_in : DerivationTree (Terminal × Token) → Target Number
  target_in (node (pair name (pair dotted indices))) =
      target_at name (suffix_in source names labels dotted) (optional_indices source names labels indices)
  target_in _ = target_at none suffix.None trees.no_index

  -- the assignment that is a statement of a loop; a tree of another form gives an empty display
  abbrev pub assignment_act : DerivationTree (Terminal × Token) → Act Number
  assignment_act (node (pair target tree)) = after_target (target_in target) tree
  assignment_act _ = displays []

  -- ---- other statements

  -- the alias statement: two names of a set; a tree of another form gives an empty display
  abbrev pub alias_act : DerivationTree (Terminal × Token) → Act Number
  alias_act (node (pair _ (pair _ (pair both _)))) =
      aliases (named_in source names labels (first_in both)) (named_in source names labels (second_in (second_in both)))
  alias_act _ = displays []

  -- one thing that a display or an abort shows: a text, or a symbol perhaps with a suffix; for a
  -- tree of another form, the text of the tree `none`
  abbrev pub parsed_shown : DerivationTree (Terminal × Token) → Show
  parsed_shown (node (shown_text text)) = show.Text (text_word text)
  parsed_shown (node (shown_symbol (pair name dotted))) = show.Symbol (named_in source names labels name) (suffix_in source names labels dotted)
  parsed_shown _ = show.Text (text_word none)

  -- the list of what a display or an abort shows, in order; empty for a tree of another form
  abbrev pub shown_list : DerivationTree (Terminal × Token) → List Show
  shown_list (node list) = listed_in parsed_shown list
  shown_list _ = []

  -- the display statement, by what it shows; a tree of another form gives an empty display
  abbrev pub display_act : DerivationTree (Terminal × Token) → Act Number
  display_act (node (pair _ list)) = displays (shown_list list)
  display_act _ = displays []

  -- the abort statement: its condition, if any, and what it shows; a tree of another form gives an
  -- empty display
  abbrev pub abort_act : DerivationTree (Terminal × Token) → Act Number
  abort_act (node (pair _ (pair condition list))) = aborts (condition_in condition) (optional_in [] shown_list list)
  abort_act _ = displays []

  -- what an option is set to: a number, with its place, or a word; for a tree of another form, the
  -- word of the tree `none`
  abbrev pub setting_value : DerivationTree (Terminal × Token) → Setting Number
  setting_value (setting_number number) = setting.Number (token_of number).at (number_meant (bytes_in number))
  setting_value (setting_word word) = setting.Name (word_in word)
  setting_value _ = setting.Name (word_in none)

  -- the word of an option, and the number or word to which it is set; for a tree of another form,
  -- both are the word of the tree `none`
  abbrev pub parsed_setting : DerivationTree (Terminal × Token) → Word × Setting Number
  parsed_setting (node (pair word (pair _ tree))) = (word_in word, setting_value tree)
  parsed_setting _ = (word_in none, setting_value none)

  -- the option statement: each option with the value to which it is set; a tree of another form
  -- gives an empty display
  abbrev pub option_act : DerivationTree (Terminal × Token) → Act Number
  option_act (node (pair _ list)) = sets_options (listed_in parsed_setting list)
  option_act _ = displays []

  -- the solve statement; `using` and its word come before the direction and the objective, or after
  -- them; a tree of another form gives an empty display
  abbrev pub solve_act : DerivationTree (Terminal × Token) → Act Number
  solve_act (node (pair _ (pair model (solve_using (pair _ (pair method objective)))))) =
      solves (named_in source names labels model) (word_in method) (named_in source names labels (second_in objective)) (is_maximizing (bytes_in (first_in objective)))
  solve_act (node (pair _ (pair model (solve_direction (pair direction (pair name method)))))) =
      solves (named_in source names labels model) (word_in (second_in method)) (named_in source names labels name) (is_maximizing (bytes_in direction))
  solve_act _ = displays []
