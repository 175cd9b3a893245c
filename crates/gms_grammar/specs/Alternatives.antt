-- The alternatives of each production, by name, in derivation trees: `left` is the first of two
-- alternatives, and `right` the second or all others. What a derivation means is defined by cases
-- of these names.
use Rattle.gms_grammar.specs.Grammar.{DerivationTree, left, right}

module _ {T : Type 0} where
  -- A tree of the production of Primary, made from the tree of its first alternative, a constant.
  -- The next patterns make it from the other alternatives, in order: a reference, a call, a fold,
  -- or an expression in parentheses.
  pattern abbrev pub primary_constant : DerivationTree T → DerivationTree T
  primary_constant tree = left tree

  pattern abbrev pub primary_target : DerivationTree T → DerivationTree T
  primary_target tree = right (left tree)

  pattern abbrev pub primary_call : DerivationTree T → DerivationTree T
  primary_call tree = right (right (left tree))

  pattern abbrev pub primary_fold : DerivationTree T → DerivationTree T
  primary_fold tree = right (right (right (left tree)))

  pattern abbrev pub primary_expression : DerivationTree T → DerivationTree T
  primary_expression tree = right (right (right (right tree)))

  -- A tree of the production of Index, made from the tree of its first alternative, a label. The
  -- next pattern makes it from the second alternative, a set that a lag may follow.
  pattern abbrev pub index_label : DerivationTree T → DerivationTree T
  index_label tree = left tree

  pattern abbrev pub index_set : DerivationTree T → DerivationTree T
  index_set tree = right tree

  -- A tree of the production of LagAmount, made from the tree of its first alternative, a number.
  -- The next patterns make it from the other alternatives, in order: a scalar or an expression in
  -- parentheses.
  pattern abbrev pub amount_number : DerivationTree T → DerivationTree T
  amount_number tree = left tree

  pattern abbrev pub amount_scalar : DerivationTree T → DerivationTree T
  amount_scalar tree = right (left tree)

  pattern abbrev pub amount_expression : DerivationTree T → DerivationTree T
  amount_expression tree = right (right tree)

  -- A tree of the production of Call, made from the tree of its first alternative, a call of a
  -- function. The next pattern makes it from the second alternative, a call of `ord` or `card`.
  pattern abbrev pub call_function : DerivationTree T → DerivationTree T
  call_function tree = left tree

  pattern abbrev pub call_set : DerivationTree T → DerivationTree T
  call_set tree = right tree

  -- A tree of the part of a Control before its condition, made from the tree of its first
  -- alternative, one set. The next pattern makes it from the second alternative, sets in
  -- parentheses.
  pattern abbrev pub control_set : DerivationTree T → DerivationTree T
  control_set tree = left tree

  pattern abbrev pub control_sets : DerivationTree T → DerivationTree T
  control_sets tree = right tree

  -- A tree of the production of KeywordStatement, made from the tree of its first alternative, a
  -- declaration of sets. The next patterns make it from the other alternatives, in order: the other
  -- declarations, an alias, or a statement that a loop may have too.
  pattern abbrev pub keyword_set : DerivationTree T → DerivationTree T
  keyword_set tree = left tree

  pattern abbrev pub keyword_parameter : DerivationTree T → DerivationTree T
  keyword_parameter tree = right (left tree)

  pattern abbrev pub keyword_scalar : DerivationTree T → DerivationTree T
  keyword_scalar tree = right (right (left tree))

  pattern abbrev pub keyword_table : DerivationTree T → DerivationTree T
  keyword_table tree = right (right (right (left tree)))

  pattern abbrev pub keyword_variable : DerivationTree T → DerivationTree T
  keyword_variable tree = right (right (right (right (left tree))))

  pattern abbrev pub keyword_equation : DerivationTree T → DerivationTree T
  keyword_equation tree = right (right (right (right (right (left tree)))))

  pattern abbrev pub keyword_model : DerivationTree T → DerivationTree T
  keyword_model tree = right (right (right (right (right (right (left tree))))))

  pattern abbrev pub keyword_alias : DerivationTree T → DerivationTree T
  keyword_alias tree = right (right (right (right (right (right (right (left tree)))))))

  pattern abbrev pub keyword_other : DerivationTree T → DerivationTree T
  keyword_other tree = right (right (right (right (right (right (right (right tree)))))))

  -- A tree of the production of InnerStatement, made from the tree of its first alternative, an
  -- assignment. The next pattern makes it from a tree of the others: a display, options, a solve,
  -- an abort or a loop.
  pattern abbrev pub inner_assignment : DerivationTree T → DerivationTree T
  inner_assignment tree = left tree

  pattern abbrev pub inner_other : DerivationTree T → DerivationTree T
  inner_other tree = right tree

  -- A tree of the last alternatives of KeywordStatement and of InnerStatement, made from the tree
  -- of the first of these, a display. The next patterns make it from the others, in order: options,
  -- a solve, an abort or a loop.
  pattern abbrev pub other_display : DerivationTree T → DerivationTree T
  other_display tree = left tree

  pattern abbrev pub other_option : DerivationTree T → DerivationTree T
  other_option tree = right (left tree)

  pattern abbrev pub other_solve : DerivationTree T → DerivationTree T
  other_solve tree = right (right (left tree))

  pattern abbrev pub other_abort : DerivationTree T → DerivationTree T
  other_abort tree = right (right (right (left tree)))

  pattern abbrev pub other_loop : DerivationTree T → DerivationTree T
  other_loop tree = right (right (right (right tree)))

  -- A tree of the production of AfterName, made from the tree of its first alternative, a suffix
  -- after the name. The next patterns make it from the other alternatives, in order: indices after
  -- the name or neither.
  pattern abbrev pub name_suffixed : DerivationTree T → DerivationTree T
  name_suffixed tree = left tree

  pattern abbrev pub name_indexed : DerivationTree T → DerivationTree T
  name_indexed tree = right (left tree)

  pattern abbrev pub name_alone : DerivationTree T → DerivationTree T
  name_alone tree = right (right tree)

  -- A tree of the production of HeadIndices, made from the tree of its first alternative, a label
  -- and what follows it. The next pattern makes it from the second alternative, a set and what
  -- follows it.
  pattern abbrev pub head_label : DerivationTree T → DerivationTree T
  head_label tree = left tree

  pattern abbrev pub head_set : DerivationTree T → DerivationTree T
  head_set tree = right tree

  -- A tree of the production of AfterHeadName, made from the tree of its first alternative, a lag
  -- and what follows it. The next pattern makes it from the second alternative, what follows a name
  -- without a lag.
  pattern abbrev pub head_lag : DerivationTree T → DerivationTree T
  head_lag tree = left tree

  pattern abbrev pub head_lagless : DerivationTree T → DerivationTree T
  head_lagless tree = right tree

  -- A tree of the production of AfterHeadIndex, made from the tree of its first alternative, a
  -- comma and a further index. The next pattern makes it from the second alternative, the closing
  -- parenthesis.
  pattern abbrev pub head_comma : DerivationTree T → DerivationTree T
  head_comma tree = left tree

  pattern abbrev pub head_closed : DerivationTree T → DerivationTree T
  head_closed tree = right tree

  -- A tree of the part of an AfterHead after its condition, made from the tree of its first
  -- alternative, `=` and the right side. The next pattern makes it from the second alternative,
  -- `..` and the two sides.
  pattern abbrev pub head_assigned : DerivationTree T → DerivationTree T
  head_assigned tree = left tree

  pattern abbrev pub head_defined : DerivationTree T → DerivationTree T
  head_defined tree = right tree

  -- A tree of the production of Shown, made from the tree of its first alternative, a text. The
  -- next pattern makes it from the second alternative, a symbol.
  pattern abbrev pub shown_text : DerivationTree T → DerivationTree T
  shown_text tree = left tree

  pattern abbrev pub shown_symbol : DerivationTree T → DerivationTree T
  shown_symbol tree = right tree

  -- A tree of the part of a Setting after its `=`, made from the tree of its first alternative, a
  -- number. The next pattern makes it from the second alternative, a word.
  pattern abbrev pub setting_number : DerivationTree T → DerivationTree T
  setting_number tree = left tree

  pattern abbrev pub setting_word : DerivationTree T → DerivationTree T
  setting_word tree = right tree

  -- A tree of the part of a SolveStatement after the model, made from the tree of its first
  -- alternative, `using` before the direction. The next pattern makes it from the second
  -- alternative, the direction before `using`.
  pattern abbrev pub solve_using : DerivationTree T → DerivationTree T
  solve_using tree = left tree

  pattern abbrev pub solve_direction : DerivationTree T → DerivationTree T
  solve_direction tree = right tree

  -- A tree of what follows an item of a declaration, made from the tree of its first alternative, a
  -- comma and the items after it. The next pattern makes it from the second alternative, a line end
  -- and perhaps items after it.
  pattern abbrev pub items_comma : DerivationTree T → DerivationTree T
  items_comma tree = left tree

  pattern abbrev pub items_line : DerivationTree T → DerivationTree T
  items_line tree = right tree

  -- A tree of the production of ElementPart, made from the tree of its first alternative, a range.
  -- The next pattern makes it from the second alternative, ranges in parentheses.
  pattern abbrev pub element_range : DerivationTree T → DerivationTree T
  element_range tree = left tree

  pattern abbrev pub element_ranges : DerivationTree T → DerivationTree T
  element_ranges tree = right tree

  -- A tree of the production of Value, made from the tree of its first alternative, NA. The next
  -- pattern makes it from the second alternative, a number or an infinity.
  pattern abbrev pub value_not_available : DerivationTree T → DerivationTree T
  value_not_available tree = left tree

  pattern abbrev pub value_number : DerivationTree T → DerivationTree T
  value_number tree = right tree

  -- A tree of the production of ModelList, made from the tree of its first alternative, all
  -- equations. The next pattern makes it from the second alternative, the named equations.
  pattern abbrev pub model_all : DerivationTree T → DerivationTree T
  model_all tree = left tree

  pattern abbrev pub model_named : DerivationTree T → DerivationTree T
  model_named tree = right tree

  -- A tree of the production of DomainPosition, made from the tree of its first alternative, `*`.
  -- The next pattern makes it from the second alternative, a set.
  pattern abbrev pub position_any : DerivationTree T → DerivationTree T
  position_any tree = left tree

  pattern abbrev pub position_set : DerivationTree T → DerivationTree T
  position_set tree = right tree
