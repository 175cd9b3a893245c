-- The tree that the derivation of an expression means (GAMS User's Guide, "Data Manipulation",
-- expressions, and "Equations").
use Rattle.std.specs.Prelude.{ℕ, Bool, true, false, if◌then◌else◌, List, [], ◌∷◌, Option, Some, None, codes}
use Rattle.std.specs.Str.{str_eq_ignore_ascii_case}
use Rattle.gms_labels.specs.declared.place.Place.{Place}
use Rattle.gms_labels.specs.Labels.{place_of}
use Rattle.gms_grammar.specs.declared.kind.Sym.TheVariants as sym
use Rattle.gms_grammar.specs.declared.kind.Kind.{Kind}
use Rattle.gms_grammar.specs.declared.kind.Kind.TheVariants as kind
use Rattle.gms_lex.specs.declared.token.Token.{Token}
use Rattle.gms_lex.specs.TokenTexts.{token_text, unquoted}
use Rattle.gms_ast.specs.declared.expression.Suffix.{Suffix}
use Rattle.gms_ast.specs.declared.expression.Suffix.TheVariants as suffix
use Rattle.gms_ast.specs.declared.expression.FoldOp.{FoldOp}
use Rattle.gms_ast.specs.declared.expression.FoldOp.TheVariants as fold_op
use Rattle.gms_ast.specs.declared.expression.LagOp.{LagOp}
use Rattle.gms_ast.specs.declared.expression.LagOp.TheVariants as lag_op
use Rattle.gms_ast.specs.declared.expression.Function.{Function}
use Rattle.gms_ast.specs.declared.expression.Function.TheVariants as function
use Rattle.gms_ast.specs.declared.expression.RelOp.{RelOp}
use Rattle.gms_ast.specs.declared.expression.RelOp.TheVariants as rel_op
use Rattle.gms_ast.specs.Trees.{plain, placed, signed, related, chosen, Tree as Syntax, number, plus_infinity, not_available, yes, no, reference, place_in_set, size_of_set, call, fold_over, negated, sum, product, power, relation, not_so, all_of, one_of, guarded, Parts, no_part, part, Indices, no_index, label, set, lagged, Control, over, over_where}
use Rattle.gms_grammar.specs.declared.terminal.Terminal.{Terminal}
use Rattle.gms_grammar.specs.declared.terminal.Terminal.TheVariants as terminal
use Rattle.gq_number.specs.Number.{Number}
use Rattle.gms_expressions.specs.Valuations.{number_meant}
use Rattle.gms_grammar.specs.Grammar.{DerivationTree, leaf, pair, none, some, more, node, yield}
use Rattle.gms_grammar.specs.Alternatives.{primary_constant, primary_target, primary_call, primary_fold, primary_expression, index_label, index_set, amount_number, amount_scalar, amount_expression, call_function, call_set, control_set, control_sets}

-- whether a word is the given one, letter case ignored
abbrev pub is_word : List ℕ → List ℕ → Bool
is_word text word = str_eq_ignore_ascii_case text word

-- the suffix that a word names; `solvestat` for a word that names none of the others
unfoldable pub suffix_of : List ℕ → Suffix
suffix_of text =
    if is_word text (codes "lo") then suffix.Lo else (if is_word text (codes "up") then suffix.Up else (if is_word text (codes "l") then suffix.L else (if is_word text (codes "m") then suffix.M else (if is_word text (codes "fx") then suffix.Fx else (if is_word text (codes "modelstat") then suffix.ModelStat else suffix.SolveStat)))))

-- the fold that a word names: `sum`, `prod`, `smin`, or else `smax`
unfoldable pub fold_op_of : List ℕ → FoldOp
fold_op_of text =
    if is_word text (codes "sum") then fold_op.Sum else (if is_word text (codes "prod") then fold_op.Prod else (if is_word text (codes "smin") then fold_op.Smin else fold_op.Smax))

-- the function that a word names; NotInProfile for one that this language does not have
unfoldable pub function_of : List ℕ → Function
function_of text =
    if is_word text (codes "abs") then function.Abs else (if is_word text (codes "max") then function.Max else (if is_word text (codes "min") then function.Min else (if is_word text (codes "mod") then function.Mod else (if is_word text (codes "sqr") then function.Sqr else (if is_word text (codes "power") then function.Power else (if is_word text (codes "round") then function.Round else (if is_word text (codes "floor") then function.Floor else (if is_word text (codes "ceil") then function.Ceil else (if is_word text (codes "trunc") then function.Trunc else (if is_word text (codes "sign") then function.Sign else function.NotInProfile))))))))))

-- the relation that a word names; `gt` for a word that names none of the others
unfoldable pub relation_of_word : List ℕ → RelOp
relation_of_word text =
    if is_word text (codes "lt") then rel_op.Lt else (if is_word text (codes "le") then rel_op.Le else (if is_word text (codes "eq") then rel_op.Eq else (if is_word text (codes "ne") then rel_op.Ne else (if is_word text (codes "ge") then rel_op.Ge else rel_op.Gt))))

-- the relation that a token denotes: that of a symbol by its kind, and for any other token that of
-- its bytes as a word
abbrev pub relation_of : Kind → List ℕ → RelOp
relation_of (kind.Symbol sym.Less) text = rel_op.Lt
relation_of (kind.Symbol sym.LessEq) text = rel_op.Le
relation_of (kind.Symbol sym.Equals) text = rel_op.Eq
relation_of (kind.Symbol sym.NotEq) text = rel_op.Ne
relation_of (kind.Symbol sym.GreaterEq) text = rel_op.Ge
relation_of (kind.Symbol sym.Greater) text = rel_op.Gt
relation_of _ text = relation_of_word text

-- the lag operator that a token denotes: that of `-`, `++` or `--`, and for any other that of `+`
abbrev pub lag_op_of : Kind → LagOp
lag_op_of (kind.Symbol sym.Minus) = lag_op.Lag
lag_op_of (kind.Symbol sym.PlusPlus) = lag_op.CircularLead
lag_op_of (kind.Symbol sym.MinusMinus) = lag_op.CircularLag
lag_op_of _ = lag_op.Lead

-- whether a token is `-`
abbrev pub is_minus : Kind → Bool
is_minus (kind.Symbol sym.Minus) = true
is_minus _ = false

-- whether a token is `/`
abbrev pub is_slash : Kind → Bool
is_slash (kind.Symbol sym.Slash) = true
is_slash _ = false

-- the number, or 0 for None
abbrev pub or_0 : Option ℕ → ℕ
or_0 None = 0
or_0 (Some n) = n

-- the token that `token_of` gives for a tree that is no leaf; the case does not occur
abbrev pub no_token : Token
no_token = record { kind = kind.End; start = 0; end = 0; at = record { line = 0; column = 0 } }

-- the token of a derivation tree that is a leaf; `no_token` for any other tree
abbrev pub token_of : DerivationTree (Terminal × Token) → Token
token_of (leaf token) = token.1
token_of _ = no_token

-- the terminal of the token of a derivation tree that is a leaf; `End` for any other tree
abbrev pub terminal_in : DerivationTree (Terminal × Token) → Terminal
terminal_in (leaf token) = token.0
terminal_in _ = terminal.End

-- the first of the two derivation trees of a pair; `none` for any other tree
abbrev pub first_in : {T : Type 0} → DerivationTree T → DerivationTree T
first_in (pair a b) = a
first_in _ = none

-- the second of the two derivation trees of a pair; `none` for any other tree
abbrev pub second_in : {T : Type 0} → DerivationTree T → DerivationTree T
second_in (pair a b) = b
second_in _ = none

-- the derivation tree inside that of an optional part or of a nonterminal; `none` for any other
-- tree
abbrev pub inside : {T : Type 0} → DerivationTree T → DerivationTree T
inside (some tree) = tree
inside (node tree) = tree
inside _ = none

-- the syntax tree, negated by `not` if the derivation tree of an optional `not` has one
abbrev pub negated_by : {N T : Type 0} → DerivationTree T → Syntax N → Syntax N
negated_by (some word) tree = not_so tree
negated_by _ tree = tree

-- the syntax tree, negated if the derivation tree of an optional sign has a `-`
abbrev pub with_sign : {N : Type 0} → DerivationTree (Terminal × Token) → Syntax N → Syntax N
with_sign (some sign) tree = if is_minus (token_of sign).kind then negated tree else tree
with_sign _ tree = tree

-- the syntax tree `alone` if there are no further parts, and else what `together` makes of these
abbrev pub or_alone : {N : Type 0} → Syntax N → (Parts N → Syntax N) → Parts N → Syntax N
or_alone alone together no_part = alone
or_alone alone together (part mark tree rest) = together (part mark tree rest)

-- the place of the first of the tokens; line 0 and column 0 without tokens
abbrev pub first_place : List (Terminal × Token) → Place
first_place [] = record { line = 0; column = 0 }
first_place (token ∷ tokens) = token.1.at

-- the place of the first token of a derivation tree
abbrev pub place_in : DerivationTree (Terminal × Token) → Place
place_in tree = first_place (yield tree)

-- the syntax tree of a constant, by its terminal, its bytes, and its value if it is a number
abbrev pub constant_of : {N : Type 0} → Terminal → List ℕ → N → Syntax N
constant_of terminal.Infinity text value = plus_infinity
constant_of terminal.NotAvailable text value = not_available
constant_of terminal.YesNo text value = if is_word text (codes "yes") then yes else no
constant_of _ text value = number value

-- The meaning of derivation trees in a source with these names and labels. Each definition follows
-- the production of its part; a tree that is none of the part means `no`.
module _ (source : List ℕ) (names labels : List (List ℕ)) where
  -- the bytes of the token of a derivation tree that is a leaf
  abbrev pub text_in : DerivationTree (Terminal × Token) → List ℕ
  text_in tree = token_text source (token_of tree)

  -- the number of the name that a leaf has; 0 for a name that the table lacks
  abbrev pub name_in : DerivationTree (Terminal × Token) → ℕ
  name_in tree = or_0 (place_of names (text_in tree))

  -- the number of the quoted label that a leaf has; 0 for a label that the table lacks
  abbrev pub label_in : DerivationTree (Terminal × Token) → ℕ
  label_in tree = or_0 (place_of labels (unquoted (text_in tree)))

  -- the suffix of a reference, by the derivation tree of an optional dot and word; None if these
  -- are left out
  abbrev pub suffix_in : DerivationTree (Terminal × Token) → Suffix
  suffix_in (some (node (pair _ word))) = suffix_of (text_in word)
  suffix_in _ = suffix.None

  -- the numbers of the names after the first one in a list
  abbrev pub following_names : DerivationTree (Terminal × Token) → List ℕ
  following_names (more (pair _ name) others) = name_in name ∷ following_names others
  following_names _ = []

  -- the numbers of the names in a list; none for a tree of another form
  abbrev pub names_in : DerivationTree (Terminal × Token) → List ℕ
  names_in (node (pair first others)) = name_in first ∷ following_names others
  names_in _ = []

  -- the sets of a fold or loop, by the numbers of their names: one, or those in parentheses;
  -- otherwise none
  abbrev pub sets_in : DerivationTree (Terminal × Token) → List ℕ
  sets_in (control_set name) = name_in name ∷ []
  sets_in (control_sets (pair _ (pair list _))) = names_in list
  sets_in _ = []

  -- the syntax tree of `ord` or `card` of a set; `no` for a tree of another form
  abbrev pub set_call : DerivationTree (Terminal × Token) → Syntax Number
  set_call (pair word (pair _ (pair name _))) =
      if is_word (text_in word) (codes "ord") then place_in_set (token_of word).at (name_in name) else size_of_set (token_of word).at (name_in name)
  set_call _ = no

  -- the syntax tree of a number
  abbrev pub number_tree : DerivationTree (Terminal × Token) → Syntax Number
  number_tree tree = number (number_meant (text_in tree))

  -- the syntax tree of a constant
  abbrev pub constant_in : DerivationTree (Terminal × Token) → Syntax Number
  constant_in tree = constant_of (terminal_in tree) (text_in tree) (number_meant (text_in tree))

  -- the syntax tree of a name alone: a reference to a scalar
  abbrev pub scalar : DerivationTree (Terminal × Token) → Syntax Number
  scalar tree = reference (token_of tree).at (name_in tree) suffix.None no_index

  abbrev mutual
    -- the syntax tree of an expression: parts joined by `or` and `xor`. The first part, which
    -- follows neither, has the mark of `or` (`false`). A tree of another form gives `no`
    pub expression : DerivationTree (Terminal × Token) → Syntax Number
    expression (node (pair first others)) = or_alone (conjunction first) (λ rest. one_of (part (chosen false) (conjunction first) rest)) (choices others)
    expression _ = no

    pub choices : DerivationTree (Terminal × Token) → Parts Number
    choices (more (pair word tree) others) = part (chosen (is_word (text_in word) (codes "xor"))) (conjunction tree) (choices others)
    choices _ = no_part

    -- the syntax tree of parts joined by `and`; `no` for a tree of another form
    pub conjunction : DerivationTree (Terminal × Token) → Syntax Number
    conjunction (node (pair first others)) = or_alone (negation first) (λ rest. all_of (part plain (negation first) rest)) (conjuncts others)
    conjunction _ = no

    pub conjuncts : DerivationTree (Terminal × Token) → Parts Number
    conjuncts (more (pair _ tree) others) = part plain (negation tree) (conjuncts others)
    conjuncts _ = no_part

    -- the syntax tree of a comparison, perhaps under `not`; `no` for a tree of another form
    pub negation : DerivationTree (Terminal × Token) → Syntax Number
    negation (node (pair word tree)) = negated_by word (comparison_tree tree)
    negation _ = no

    -- the syntax tree of a comparison: sums joined by relations. The first sum, which follows no
    -- relation, has the mark of `=`. A tree of another form gives `no`
    pub comparison_tree : DerivationTree (Terminal × Token) → Syntax Number
    comparison_tree (node (pair first others)) = or_alone (sum_tree first) (λ rest. relation (part (related rel_op.Eq) (sum_tree first) rest)) (relations others)
    comparison_tree _ = no

    pub relations : DerivationTree (Terminal × Token) → Parts Number
    relations (more (pair word tree) others) = part (related (relation_of (token_of word).kind (text_in word))) (sum_tree tree) (relations others)
    relations _ = no_part

    -- the syntax tree of a sum. A `-` before the first part negates this part, and its mark has
    -- `false`: it is not subtracted. A tree of another form gives `no`
    pub sum_tree : DerivationTree (Terminal × Token) → Syntax Number
    sum_tree (node (pair sign (pair first others))) =
        or_alone (with_sign sign (product_tree first)) (λ rest. sum (part (signed (place_in (pair sign first)) false) (with_sign sign (product_tree first)) rest)) (terms others)
    sum_tree _ = no

    pub terms : DerivationTree (Terminal × Token) → Parts Number
    terms (more (pair sign tree) others) = part (signed (place_in tree) (is_minus (token_of sign).kind)) (product_tree tree) (terms others)
    terms _ = no_part

    -- the syntax tree of a product: powers joined by `*` and `/`, where each but the first may have
    -- a sign. The mark of the first has `false`: it does not divide. A tree of another form gives
    -- `no`
    pub product_tree : DerivationTree (Terminal × Token) → Syntax Number
    product_tree (node (pair first others)) = or_alone (power_of first) (λ rest. product (part (signed (place_in first) false) (power_of first) rest)) (factors others)
    product_tree _ = no

    pub factors : DerivationTree (Terminal × Token) → Parts Number
    factors (more (pair operator tree) others) = part (signed (place_in tree) (is_slash (token_of operator).kind)) (signed_power tree) (factors others)
    factors _ = no_part

    -- the syntax tree of a power, perhaps with a sign; `no` for a tree of another form
    pub signed_power : DerivationTree (Terminal × Token) → Syntax Number
    signed_power (pair sign tree) = with_sign sign (power_of tree)
    signed_power _ = no

    -- the syntax tree of a power: operands, perhaps under conditions, joined by `**`, where each
    -- but the first may have a sign; `no` for a tree of another form
    pub power_of : DerivationTree (Terminal × Token) → Syntax Number
    power_of (node (pair first others)) = or_alone (guarded_of first) (λ rest. power (part (placed (place_in first)) (guarded_of first) rest)) (exponents others)
    power_of _ = no

    pub exponents : DerivationTree (Terminal × Token) → Parts Number
    exponents (more (pair _ tree) others) = part (placed (place_in tree)) (signed_guarded tree) (exponents others)
    exponents _ = no_part

    -- the syntax tree of an operand under conditions, perhaps with a sign; `no` for a tree of
    -- another form
    pub signed_guarded : DerivationTree (Terminal × Token) → Syntax Number
    signed_guarded (pair sign tree) = with_sign sign (guarded_of tree)
    signed_guarded _ = no

    -- the syntax tree of an operand under the conditions that follow it, if any; `no` for a tree of
    -- another form
    pub guarded_of : DerivationTree (Terminal × Token) → Syntax Number
    guarded_of (node (pair operand others)) = or_alone (primary operand) (guarded (primary operand)) (guards others)
    guarded_of _ = no

    pub guards : DerivationTree (Terminal × Token) → Parts Number
    guards (more tree others) = part plain (condition tree) (guards others)
    guards _ = no_part

    -- the syntax tree of a condition, from the derivation tree of a `$` and the condition after it;
    -- `no` for a tree of another form
    pub condition : DerivationTree (Terminal × Token) → Syntax Number
    condition (node (pair _ tree)) = negated_primary tree
    condition _ = no

    pub negated_primary : DerivationTree (Terminal × Token) → Syntax Number
    negated_primary (pair word tree) = negated_by word (primary tree)
    negated_primary _ = no

    -- the syntax tree of an operand: a constant, a reference, a call, a fold, or an expression in
    -- parentheses; `no` for a tree of another form
    pub primary : DerivationTree (Terminal × Token) → Syntax Number
    primary (node (primary_constant tree)) = constant_in tree
    primary (node (primary_target tree)) = target tree
    primary (node (primary_call tree)) = call_of tree
    primary (node (primary_fold tree)) = fold_of tree
    primary (node (primary_expression tree)) = bracketed_expression tree
    primary _ = no

    pub bracketed_expression : DerivationTree (Terminal × Token) → Syntax Number
    bracketed_expression (pair _ (pair tree _)) = expression tree
    bracketed_expression _ = no

    -- the syntax tree of a call of a function, or of `ord` or `card`; `no` for a tree of another
    -- form
    pub call_of : DerivationTree (Terminal × Token) → Syntax Number
    call_of (node (call_function tree)) = function_call tree
    call_of (node (call_set tree)) = set_call tree
    call_of _ = no

    pub function_call : DerivationTree (Terminal × Token) → Syntax Number
    function_call (pair word tree) = call (token_of word).at (function_of (text_in word)) (bracketed_arguments tree)
    function_call _ = no

    pub bracketed_arguments : DerivationTree (Terminal × Token) → Parts Number
    bracketed_arguments (pair _ (pair list _)) = arguments list
    bracketed_arguments _ = no_part

    pub arguments : DerivationTree (Terminal × Token) → Parts Number
    arguments (node (pair first others)) = part plain (expression first) (more_arguments others)
    arguments _ = no_part

    pub more_arguments : DerivationTree (Terminal × Token) → Parts Number
    more_arguments (more (pair _ tree) others) = part plain (expression tree) (more_arguments others)
    more_arguments _ = no_part

    -- the syntax tree of a fold: `sum`, `prod`, `smin` or `smax` over sets; `no` for a tree of
    -- another form
    pub fold_of : DerivationTree (Terminal × Token) → Syntax Number
    fold_of (node (pair word (pair _ (pair (pair sets (pair _ body)) _)))) =
        fold_over (token_of word).at (fold_op_of (text_in word)) (control sets) (expression body)
    fold_of _ = no

    -- the syntax tree of a reference, or of the left side of an assignment; `no` for a tree of
    -- another form
    pub target : DerivationTree (Terminal × Token) → Syntax Number
    target (node (pair name (pair dotted bracketed))) = reference (token_of name).at (name_in name) (suffix_in dotted) (optional_indices bracketed)
    target _ = no

    pub optional_indices : DerivationTree (Terminal × Token) → Indices Number
    optional_indices (some (pair _ (pair list _))) = indices list
    optional_indices _ = no_index

    pub indices : DerivationTree (Terminal × Token) → Indices Number
    indices (node (pair first others)) = index first (more_indices others)
    indices _ = no_index

    pub more_indices : DerivationTree (Terminal × Token) → Indices Number
    more_indices (more (pair _ tree) others) = index tree (more_indices others)
    more_indices _ = no_index

    -- the indices that begin with the one of this derivation tree, a label or a set, perhaps with a
    -- lag; `rest` follows it, and is all for a tree of another form
    pub index : DerivationTree (Terminal × Token) → Indices Number → Indices Number
    index (node (index_label text)) rest = label (label_in text) rest
    index (node (index_set (pair name none))) rest = set (name_in name) rest
    index (node (index_set (pair name (some tree)))) rest = lag (name_in name) tree rest
    index _ rest = rest

    pub lag : ℕ → DerivationTree (Terminal × Token) → Indices Number → Indices Number
    lag name (node (pair sign amount)) rest = lagged name (lag_op_of (token_of sign).kind) (place_in amount) (lag_amount amount) rest
    lag name _ rest = rest

    pub lag_amount : DerivationTree (Terminal × Token) → Syntax Number
    lag_amount (node (amount_number tree)) = number_tree tree
    lag_amount (node (amount_scalar tree)) = scalar tree
    lag_amount (node (amount_expression tree)) = bracketed_expression tree
    lag_amount _ = no

    -- the sets of a fold or a loop, with the condition if there is one; a tree of another form has
    -- no sets
    pub control : DerivationTree (Terminal × Token) → Control Number
    control (node (pair sets none)) = over (sets_in sets)
    control (node (pair sets (some tree))) = over_where (sets_in sets) (condition tree)
    control _ = over []
