-- The labels among the indices of what derivations mean pass a test that the table's numbers of all
-- texts of the source pass.
use Rattle.std.proofs.Common.{◌≡◌, ℕ, Bool, true, false, List, ◌++◌, codes, if◌then◌else◌}
use Rattle.gq_number.specs.Number.{Number}
use Rattle.gms_labels.specs.Labels.{place_of}
use Rattle.gms_ast.specs.declared.expression.RelOp.TheVariants as rel_op
use Rattle.gms_ast.specs.Trees as trees
use Rattle.gms_lex.specs.declared.token.Token.{Token}
use Rattle.gms_lex.specs.TokenTexts.{token_text, unquoted}
use Rattle.gms_grammar.specs.declared.terminal.Terminal.{Terminal}
use Rattle.gms_grammar.specs.declared.terminal.Terminal.TheVariants as terminal
use Rattle.gms_grammar.specs.Grammar.{DerivationTree, pair, none, some, more, node}
use Rattle.gms_grammar.specs.Alternatives.{primary_constant, primary_target, primary_call, primary_fold, primary_expression, call_function, call_set, index_label, index_set, amount_number, amount_scalar, amount_expression}
use Rattle.gms_expressions.specs.Valuations.{number_meant}
use Rattle.gms_expressions.specs.ExpressionTrees.{arguments, bracketed_arguments, bracketed_expression, call_of, choices, comparison_tree, condition, conjunction, conjuncts, constant_of, control, exponents, expression, factors, fold_of, function_call, guarded_of, guards, index, indices, is_minus, is_word, label_in, lag, lag_amount, more_arguments, more_indices, negated_by, name_in, negated_primary, negation, optional_indices, or_0, or_alone, place_in, power_of, primary, product_tree, relations, set_call, signed_guarded, signed_power, sum_tree, target, terminal_in, terms, text_in, token_of, with_sign}
use Rattle.gms_run_laws.specs.Names.{Each}
use Rattle.gms_run_laws.proofs.Eaches.{each-both}
use Rattle.gms_restart.specs.Labels.{tree_labels, part_labels, index_labels, control_labels}
use Rattle.gms_restart.proofs.Texts.{IsWritten, label-written}

abbrev pub Derivation : Type 0
Derivation = DerivationTree (Terminal × Token)

-- the numbers in a table of all texts that a source can write as labels pass a test
abbrev pub HasOwn : List ℕ → List (List ℕ) → (ℕ → Bool) → Type 0
HasOwn source labels test = (text : List ℕ) → IsWritten source text → test (or_0 (place_of labels text)) ≡ true

module _ (source : List ℕ) (names labels : List (List ℕ)) (is_own : ℕ → Bool) (has : HasOwn source labels is_own) where
  pub label-own : (tree : Derivation) → is_own (label_in source names labels tree) ≡ true
  label-own tree = has (unquoted (token_text source (token_of tree))) (label-written source (token_of tree))

  abbrev pub Own : trees.Tree Number → Type 0
  Own e = Each is_own (tree_labels e)

  abbrev OwnParts : trees.Parts Number → Type 0
  OwnParts parts = Each is_own (part_labels parts)

  abbrev pub OwnIndices : trees.Indices Number → Type 0
  OwnIndices those = Each is_own (index_labels those)

  -- ---- nodes

  sign-own : (sign : Derivation) (e : trees.Tree Number) → Own e → Own (with_sign sign e)
  sign-own (some sign) e own = by (is_minus (token_of sign).kind)
    where
      by : (b : Bool) → Own (if b then trees.negated e else e)
      by true = own
      by false = own
  sign-own sign e own = own

  not-own : (word : Derivation) (e : trees.Tree Number) → Own e → Own (negated_by word e)
  not-own (some word) e own = own
  not-own word e own = own

  alone-own : (alone : trees.Tree Number) (together : trees.Parts Number → trees.Tree Number) (parts : trees.Parts Number) → Own alone → (OwnParts parts → Own (together parts)) → OwnParts parts → Own (or_alone alone together parts)
  alone-own alone together trees.no_part own joined all = own
  alone-own alone together (trees.part mark e rest) own joined all = joined all

  part-own : (e : trees.Tree Number) (rest : trees.Parts Number) → Own e → OwnParts rest → Each is_own (tree_labels e ++ part_labels rest)
  part-own e rest own all = each-both is_own (tree_labels e) (part_labels rest) own all

  constant-own : (kind : Terminal) (text : List ℕ) (value : Number) → Own (constant_of kind text value)
  constant-own terminal.Infinity text value = tt
  constant-own terminal.NotAvailable text value = tt
  constant-own terminal.YesNo text value = by (is_word text (codes "yes"))
    where
      by : (b : Bool) → Own (if b then trees.yes else trees.no)
      by true = tt
      by false = tt
  constant-own kind text value = tt

  call-own : (tree : Derivation) → Own (set_call source names labels tree)
  call-own (pair word (pair mark (pair name close_mark))) = by (is_word (token_text source (token_of word)) (codes "ord"))
    where
      by : (b : Bool) → Own (if b then trees.place_in_set (token_of word).at (name_in source names labels name) else trees.size_of_set (token_of word).at (name_in source names labels name))
      by true = tt
      by false = tt
  call-own tree = tt

  -- ---- expressions

  mutual
    pub expression-own : (tree : Derivation) → Own (expression source names labels tree)
    expression-own (node (pair first others)) =
        alone-own (conjunction source names labels first) (λ rest. trees.one_of (trees.part (trees.chosen false) (conjunction source names labels first) rest)) (choices source names labels others) (conjunction-own first) (λ all. part-own (conjunction source names labels first) (choices source names labels others) (conjunction-own first) all) (choices-own others)
    expression-own tree = tt

    choices-own : (tree : Derivation) → OwnParts (choices source names labels tree)
    choices-own (more (pair word tree) others) =
        part-own (conjunction source names labels tree) (choices source names labels others) (conjunction-own tree) (choices-own others)
    choices-own tree = tt

    conjunction-own : (tree : Derivation) → Own (conjunction source names labels tree)
    conjunction-own (node (pair first others)) =
        alone-own (negation source names labels first) (λ rest. trees.all_of (trees.part trees.plain (negation source names labels first) rest)) (conjuncts source names labels others) (negation-own first) (λ all. part-own (negation source names labels first) (conjuncts source names labels others) (negation-own first) all) (conjuncts-own others)
    conjunction-own tree = tt

    conjuncts-own : (tree : Derivation) → OwnParts (conjuncts source names labels tree)
    conjuncts-own (more (pair word tree) others) =
        part-own (negation source names labels tree) (conjuncts source names labels others) (negation-own tree) (conjuncts-own others)
    conjuncts-own tree = tt

    negation-own : (tree : Derivation) → Own (negation source names labels tree)
    negation-own (node (pair word tree)) = not-own word (comparison_tree source names labels tree) (comparison-own tree)
    negation-own tree = tt

    comparison-own : (tree : Derivation) → Own (comparison_tree source names labels tree)
    comparison-own (node (pair first others)) =
        alone-own (sum_tree source names labels first) (λ rest. trees.relation (trees.part (trees.related rel_op.Eq) (sum_tree source names labels first) rest)) (relations source names labels others) (sum-own first) (λ all. part-own (sum_tree source names labels first) (relations source names labels others) (sum-own first) all) (relations-own others)
    comparison-own tree = tt

    relations-own : (tree : Derivation) → OwnParts (relations source names labels tree)
    relations-own (more (pair word tree) others) =
        part-own (sum_tree source names labels tree) (relations source names labels others) (sum-own tree) (relations-own others)
    relations-own tree = tt

    sum-own : (tree : Derivation) → Own (sum_tree source names labels tree)
    sum-own (node (pair sign (pair first others))) =
        let one = with_sign sign (product_tree source names labels first) in
        let own = sign-own sign (product_tree source names labels first) (product-own first) in
        alone-own one (λ rest. trees.sum (trees.part (trees.signed (place_in (pair sign first)) false) one rest)) (terms source names labels others) own (λ all. part-own one (terms source names labels others) own all) (terms-own others)
    sum-own tree = tt

    terms-own : (tree : Derivation) → OwnParts (terms source names labels tree)
    terms-own (more (pair sign tree) others) =
        part-own (product_tree source names labels tree) (terms source names labels others) (product-own tree) (terms-own others)
    terms-own tree = tt

    product-own : (tree : Derivation) → Own (product_tree source names labels tree)
    product-own (node (pair first others)) =
        alone-own (power_of source names labels first) (λ rest. trees.product (trees.part (trees.signed (place_in first) false) (power_of source names labels first) rest)) (factors source names labels others) (power-own first) (λ all. part-own (power_of source names labels first) (factors source names labels others) (power-own first) all) (factors-own others)
    product-own tree = tt

    factors-own : (tree : Derivation) → OwnParts (factors source names labels tree)
    factors-own (more (pair operator tree) others) =
        part-own (signed_power source names labels tree) (factors source names labels others) (signed_power-own tree) (factors-own others)
    factors-own tree = tt

    signed_power-own : (tree : Derivation) → Own (signed_power source names labels tree)
    signed_power-own (pair sign tree) = sign-own sign (power_of source names labels tree) (power-own tree)
    signed_power-own tree = tt

    power-own : (tree : Derivation) → Own (power_of source names labels tree)
    power-own (node (pair first others)) =
        alone-own (guarded_of source names labels first) (λ rest. trees.power (trees.part (trees.placed (place_in first)) (guarded_of source names labels first) rest)) (exponents source names labels others) (guarded-own first) (λ all. part-own (guarded_of source names labels first) (exponents source names labels others) (guarded-own first) all) (exponents-own others)
    power-own tree = tt

    exponents-own : (tree : Derivation) → OwnParts (exponents source names labels tree)
    exponents-own (more (pair word tree) others) =
        part-own (signed_guarded source names labels tree) (exponents source names labels others) (signed_guarded-own tree) (exponents-own others)
    exponents-own tree = tt

    signed_guarded-own : (tree : Derivation) → Own (signed_guarded source names labels tree)
    signed_guarded-own (pair sign tree) = sign-own sign (guarded_of source names labels tree) (guarded-own tree)
    signed_guarded-own tree = tt

    guarded-own : (tree : Derivation) → Own (guarded_of source names labels tree)
    guarded-own (node (pair operand others)) =
        alone-own (primary source names labels operand) (trees.guarded (primary source names labels operand)) (guards source names labels others) (primary-own operand) (λ all. part-own (primary source names labels operand) (guards source names labels others) (primary-own operand) all) (guards-own others)
    guarded-own tree = tt

    guards-own : (tree : Derivation) → OwnParts (guards source names labels tree)
    guards-own (more tree others) =
        part-own (condition source names labels tree) (guards source names labels others) (condition-own tree) (guards-own others)
    guards-own tree = tt

    pub condition-own : (tree : Derivation) → Own (condition source names labels tree)
    condition-own (node (pair mark tree)) = negated_primary-own tree
    condition-own tree = tt

    negated_primary-own : (tree : Derivation) → Own (negated_primary source names labels tree)
    negated_primary-own (pair word tree) = not-own word (primary source names labels tree) (primary-own tree)
    negated_primary-own tree = tt

    primary-own : (tree : Derivation) → Own (primary source names labels tree)
    primary-own (node (primary_constant tree)) =
        constant-own (terminal_in tree) (text_in source names labels tree) (number_meant (text_in source names labels tree))
    primary-own (node (primary_target tree)) = target-own tree
    primary-own (node (primary_call tree)) = call_of-own tree
    primary-own (node (primary_fold tree)) = fold-own tree
    primary-own (node (primary_expression tree)) = bracketed-own tree
    primary-own tree = tt

    bracketed-own : (tree : Derivation) → Own (bracketed_expression source names labels tree)
    bracketed-own (pair mark (pair tree close_mark)) = expression-own tree
    bracketed-own tree = tt

    call_of-own : (tree : Derivation) → Own (call_of source names labels tree)
    call_of-own (node (call_function tree)) = function-own tree
    call_of-own (node (call_set tree)) = call-own tree
    call_of-own tree = tt

    function-own : (tree : Derivation) → Own (function_call source names labels tree)
    function-own (pair word tree) = in_brackets-own tree
    function-own tree = tt

    in_brackets-own : (tree : Derivation) → OwnParts (bracketed_arguments source names labels tree)
    in_brackets-own (pair mark (pair list close_mark)) = arguments-own list
    in_brackets-own tree = tt

    arguments-own : (tree : Derivation) → OwnParts (arguments source names labels tree)
    arguments-own (node (pair first others)) =
        part-own (expression source names labels first) (more_arguments source names labels others) (expression-own first) (more_arguments-own others)
    arguments-own tree = tt

    more_arguments-own : (tree : Derivation) → OwnParts (more_arguments source names labels tree)
    more_arguments-own (more (pair comma tree) others) =
        part-own (expression source names labels tree) (more_arguments source names labels others) (expression-own tree) (more_arguments-own others)
    more_arguments-own tree = tt

    fold-own : (tree : Derivation) → Own (fold_of source names labels tree)
    fold-own (node (pair word (pair mark (pair (pair sets (pair comma body)) close_mark)))) =
        each-both is_own (control_labels (control source names labels sets)) (tree_labels (expression source names labels body)) (control-own sets) (expression-own body)
    fold-own tree = tt

    target-own : (tree : Derivation) → Own (target source names labels tree)
    target-own (node (pair name (pair dotted bracketed))) = optional-own bracketed
    target-own tree = tt

    pub optional-own : (tree : Derivation) → OwnIndices (optional_indices source names labels tree)
    optional-own (some (pair mark (pair list close_mark))) = indices-own list
    optional-own tree = tt

    indices-own : (tree : Derivation) → OwnIndices (indices source names labels tree)
    indices-own (node (pair first others)) = index-own first (more_indices source names labels others) (more_indices-own others)
    indices-own tree = tt

    pub more_indices-own : (tree : Derivation) → OwnIndices (more_indices source names labels tree)
    more_indices-own (more (pair comma tree) others) = index-own tree (more_indices source names labels others) (more_indices-own others)
    more_indices-own tree = tt

    index-own : (tree : Derivation) (rest : trees.Indices Number) → OwnIndices rest → OwnIndices (index source names labels tree rest)
    index-own (node (index_label text)) rest all = (label-own text, all)
    index-own (node (index_set (pair name none))) rest all = all
    index-own (node (index_set (pair name (some tree)))) rest all = lag-own tree (name_in source names labels name) rest all
    index-own tree rest all = all

    pub lag-own : (tree : Derivation) (name : ℕ) (rest : trees.Indices Number) → OwnIndices rest → OwnIndices (lag source names labels name tree rest)
    lag-own (node (pair sign amount)) name rest all =
        each-both is_own (tree_labels (lag_amount source names labels amount)) (index_labels rest) (amount-own amount) all
    lag-own tree name rest all = all

    amount-own : (tree : Derivation) → Own (lag_amount source names labels tree)
    amount-own (node (amount_number tree)) = tt
    amount-own (node (amount_scalar tree)) = tt
    amount-own (node (amount_expression tree)) = bracketed-own tree
    amount-own tree = tt

    pub control-own : (tree : Derivation) → Each is_own (control_labels (control source names labels tree))
    control-own (node (pair sets none)) = tt
    control-own (node (pair sets (some tree))) = condition-own tree
    control-own tree = tt
