-- An expression means the same in two sources in which its tokens have the same bytes, and its
-- names and labels the same numbers.
use Rattle.std.proofs.Common.{◌≡◌, ℕ, Bool, false, if◌then◌else◌, List, [], ◌∷◌, codes, refl, ap, ap₂, ◌∙◌}
use Rattle.gq_number.specs.Number.{Number as Rational}
use Rattle.gms_labels.specs.Labels.{place_of}
use Rattle.gms_lex.specs.declared.token.Token.{Token}
use Rattle.gms_lex.specs.TokenTexts.{token_text, unquoted}
use Rattle.gms_ast.specs.declared.expression.Suffix.{Suffix}
use Rattle.gms_ast.specs.declared.expression.Suffix.TheVariants as suffix
use Rattle.gms_ast.specs.declared.expression.RelOp.TheVariants as rel_op
use Rattle.gms_ast.specs.Trees.{plain, placed, signed, related, chosen, Tree as Syntax, number, reference, place_in_set, size_of_set, call, fold_over, sum, product, power, relation, all_of, one_of, guarded, Parts, part, Indices, no_index, label, set, lagged, Control, over, over_where}
use Rattle.gms_grammar.specs.declared.terminal.Terminal.{Terminal}
use Rattle.gms_grammar.specs.declared.terminal.Terminal.TheVariants.{Text, Or, And, Sign, Star, Slash, Power, Comma, Relation, RelationWord, Equals}
use Rattle.gms_grammar.specs.Grammar.{one, the, ◌·◌, ◌∣◌, opt, many, leaf, pair, left, right, none, some, more, node, yield}
use Rattle.gms_grammar.specs.GamsGrammar.{Nonterminal, Expression, Conjunction, Negation, Comparison, Sum, Product, PowerTerm, Guarded, Condition, Primary, Target, Attribute, IndexList, Index, Lag, LagAmount, Call, ExpressionList, Fold, Control as ControlPart, NameList, Range, TableStatement, productions, token, any_of, name, bracketed}
use Rattle.gms_joint_source.proofs.Tests.{IsNameTest, IsTextTest}
pub use Rattle.gms_parse.specs.InnerReadings.{Derivation, GamsPart}
use Rattle.gms_expressions.specs.Valuations.{number_meant}
use Rattle.gms_parse.specs.DataLists.{labels_in_range}
use Rattle.gms_parse.specs.Tables.{items_given}
use Rattle.gms_expressions.specs.ExpressionTrees.{is_word, suffix_of, fold_op_of, function_of, relation_of, lag_op_of, is_minus, is_slash, or_0, token_of, terminal_in, negated_by, with_sign, or_alone, place_in, constant_of, text_in, name_in, label_in, suffix_in, following_names, names_in, sets_in, number_tree, constant_in, expression, choices, conjunction, conjuncts, negation, comparison_tree, relations, sum_tree, terms, product_tree, factors, power_of, exponents, guarded_of, guards, condition, primary, bracketed_expression, call_of, arguments, more_arguments, fold_of, target, optional_indices, indices, more_indices, index, lag, lag_amount, control, second_in, inside}

pub ap₃ : {A B C D : Type 0} (f : A → B → C → D) {a x : A} {b y : B} {c z : C} → a ≡ x → b ≡ y → c ≡ z → f a b c ≡ f x y z
ap₃ f {x = x} {y = y} {c = c} p q r = ap₂ (λ u v. f u v c) p q ∙ ap (f x y) r

-- the lines of the statement of a table
abbrev pub lines_in : Derivation → List (Terminal × Token)
lines_in statement = yield (second_in (second_in (second_in (inside statement))))

module _ (first second : List ℕ) (names wider labels larger : List (List ℕ)) where
  -- What single tokens do not determine: a range has the same members in both, with the same
  -- numbers, and a table the same items.
  abbrev pub Alike : Nonterminal → Derivation → Type 0
  Alike Range tree = labels_in_range first labels tree ≡ labels_in_range second larger tree
  Alike TableStatement tree = items_given first labels (lines_in tree) ≡ items_given second larger (lines_in tree)
  Alike _ tree = Unit {0}

  -- A derivation in which each token has the same bytes in both sources, each name the same number,
  -- and each text of an index too; and each range and each table is alike.
  pub data Kin : GamsPart → Derivation → Type 0 where
    of_token : {test : Terminal → Bool} {t : Terminal × Token} → token_text first t.1 ≡ token_text second t.1 →
        (IsNameTest test → place_of names (token_text first t.1) ≡ place_of wider (token_text second t.1)) →
        (IsTextTest test → place_of labels (unquoted (token_text first t.1)) ≡ place_of larger (unquoted (token_text second t.1))) → Kin (one test) (leaf t)
    of_node : {n : Nonterminal} {tree : Derivation} → Kin (productions n) tree → Alike n (node tree) → Kin (the n) (node tree)
    of_both : {p q : GamsPart} {a b : Derivation} → Kin p a → Kin q b → Kin (p · q) (pair a b)
    of_left : {p q : GamsPart} {tree : Derivation} → Kin p tree → Kin (p ∣ q) (left tree)
    of_right : {p q : GamsPart} {tree : Derivation} → Kin q tree → Kin (p ∣ q) (right tree)
    of_none : {p : GamsPart} → Kin (opt p) none
    of_some : {p : GamsPart} {tree : Derivation} → Kin p tree → Kin (opt p) (some tree)
    of_nil : {p : GamsPart} → Kin (many p) none
    of_more : {p : GamsPart} {a b : Derivation} → Kin p a → Kin (many p) b → Kin (many p) (more a b)

  -- The claim for each nonterminal within a derivation, where there is a claim for trees of
  -- nonterminals.
  abbrev pub Within : (Nonterminal → Derivation → Type 0) → {p : GamsPart} {tree : Derivation} → Kin p tree → Type 0
  Within Says (of_token e n l) = Unit {0}
  Within Says (of_node {n = n} {tree = tree} k a) = Within Says k × Says n (node tree)
  Within Says (of_both a b) = Within Says a × Within Says b
  Within Says (of_left k) = Within Says k
  Within Says (of_right k) = Within Says k
  Within Says of_none = Unit {0}
  Within Says (of_some k) = Within Says k
  Within Says of_nil = Unit {0}
  Within Says (of_more a b) = Within Says a × Within Says b

  -- A rule: the claim for a nonterminal follows from the claims within it.
  abbrev pub Rule : (Nonterminal → Derivation → Type 0) → Type 0
  Rule Says = (n : Nonterminal) (tree : Derivation) (k : Kin (productions n) tree) → Alike n (node tree) → Within Says k → Says n (node tree)

  -- by a rule the claim holds everywhere
  pub everywhere : (Says : Nonterminal → Derivation → Type 0) → Rule Says → {p : GamsPart} {tree : Derivation} (k : Kin p tree) → Within Says k
  everywhere Says rule (of_token e n l) = tt
  everywhere Says rule (of_node {n = n} {tree = tree} k a) = let inner = everywhere Says rule k in (inner, rule n tree k a inner)
  everywhere Says rule (of_both a b) = (everywhere Says rule a, everywhere Says rule b)
  everywhere Says rule (of_left k) = everywhere Says rule k
  everywhere Says rule (of_right k) = everywhere Says rule k
  everywhere Says rule of_none = tt
  everywhere Says rule (of_some k) = everywhere Says rule k
  everywhere Says rule of_nil = tt
  everywhere Says rule (of_more a b) = (everywhere Says rule a, everywhere Says rule b)

  -- the claim: the nonterminal means the same in both
  abbrev pub Same : Nonterminal → Derivation → Type 0
  Same Expression tree = expression first names labels tree ≡ expression second wider larger tree
  Same Conjunction tree = conjunction first names labels tree ≡ conjunction second wider larger tree
  Same Negation tree = negation first names labels tree ≡ negation second wider larger tree
  Same Comparison tree = comparison_tree first names labels tree ≡ comparison_tree second wider larger tree
  Same Sum tree = sum_tree first names labels tree ≡ sum_tree second wider larger tree
  Same Product tree = product_tree first names labels tree ≡ product_tree second wider larger tree
  Same PowerTerm tree = power_of first names labels tree ≡ power_of second wider larger tree
  Same Guarded tree = guarded_of first names labels tree ≡ guarded_of second wider larger tree
  Same Condition tree = condition first names labels tree ≡ condition second wider larger tree
  Same Primary tree = primary first names labels tree ≡ primary second wider larger tree
  Same Target tree = target first names labels tree ≡ target second wider larger tree
  Same Attribute tree = suffix_in first names labels (some tree) ≡ suffix_in second wider larger (some tree)
  Same IndexList tree = indices first names labels tree ≡ indices second wider larger tree
  Same Index tree = (rest following : Indices Rational) → rest ≡ following → index first names labels tree rest ≡ index second wider larger tree following
  Same Lag tree = (n m : ℕ) → n ≡ m → (rest following : Indices Rational) → rest ≡ following → lag first names labels n tree rest ≡ lag second wider larger m tree following
  Same LagAmount tree = lag_amount first names labels tree ≡ lag_amount second wider larger tree
  Same Call tree = call_of first names labels tree ≡ call_of second wider larger tree
  Same ExpressionList tree = arguments first names labels tree ≡ arguments second wider larger tree
  Same Fold tree = fold_of first names labels tree ≡ fold_of second wider larger tree
  Same ControlPart tree = control first names labels tree ≡ control second wider larger tree
  Same NameList tree = names_in first names labels tree ≡ names_in second wider larger tree
  Same _ tree = Unit {0}

  pub text_kin : {test : Terminal → Bool} {tree : Derivation} → Kin (one test) tree → text_in first names labels tree ≡ text_in second wider larger tree
  text_kin (of_token e n l) = e

  pub name_kin : {tree : Derivation} → Kin name tree → name_in first names labels tree ≡ name_in second wider larger tree
  name_kin (of_token e n l) = ap or_0 (n (refl, refl))

  pub label_kin : {tree : Derivation} → Kin (token Text) tree → label_in first names labels tree ≡ label_in second wider larger tree
  label_kin (of_token e n l) = ap or_0 (l (refl, refl))

  pub number_kin : {test : Terminal → Bool} {tree : Derivation} → Kin (one test) tree → number_tree first names labels tree ≡ number_tree second wider larger tree
  number_kin k = ap (λ t. number (number_meant t)) (text_kin k)

  constant_kin : {test : Terminal → Bool} {tree : Derivation} → Kin (one test) tree → constant_in first names labels tree ≡ constant_in second wider larger tree
  constant_kin {tree = tree} k = ap (λ t. constant_of (terminal_in tree) t (number_meant t)) (text_kin k)

  pub names_after_kin : {tree : Derivation} → Kin (many (token Comma · name)) tree → following_names first names labels tree ≡ following_names second wider larger tree
  names_after_kin of_nil = refl
  names_after_kin (of_more (of_both comma it) others) = ap₂ (λ n ns. n ∷ ns) (name_kin it) (names_after_kin others)

  choices_kin : {tree : Derivation} (k : Kin (many (token Or · the Conjunction)) tree) → Within Same k → choices first names labels tree ≡ choices second wider larger tree
  choices_kin of_nil w = refl
  choices_kin (of_more (of_both word (of_node it _)) others) w = ap₃ (λ text (a : Syntax Rational) (rest : Parts Rational). part (chosen (is_word text (codes "xor"))) a rest) (text_kin word) w.0.1.1 (choices_kin others w.1)

  conjuncts_kin : {tree : Derivation} (k : Kin (many (token And · the Negation)) tree) → Within Same k → conjuncts first names labels tree ≡ conjuncts second wider larger tree
  conjuncts_kin of_nil w = refl
  conjuncts_kin (of_more (of_both word (of_node it _)) others) w = ap₂ (λ (a : Syntax Rational) (rest : Parts Rational). part plain a rest) w.0.1.1 (conjuncts_kin others w.1)

  relations_kin : {tree : Derivation} (k : Kin (many (any_of (Relation ∷ RelationWord ∷ Equals ∷ []) · the Sum)) tree) → Within Same k → relations first names labels tree ≡ relations second wider larger tree
  relations_kin of_nil w = refl
  relations_kin (of_more (of_both {a = word} k (of_node it _)) others) w = ap₃ (λ text (a : Syntax Rational) (rest : Parts Rational). part (related (relation_of (token_of word).kind text)) a rest) (text_kin k) w.0.1.1 (relations_kin others w.1)

  terms_kin : {tree : Derivation} (k : Kin (many (token Sign · the Product)) tree) → Within Same k → terms first names labels tree ≡ terms second wider larger tree
  terms_kin of_nil w = refl
  terms_kin (of_more (of_both {a = sign} {b = it} k (of_node l _)) others) w = ap₂ (λ (a : Syntax Rational) (rest : Parts Rational). part (signed (place_in it) (is_minus (token_of sign).kind)) a rest) w.0.1.1 (terms_kin others w.1)

  factors_kin : {tree : Derivation} (k : Kin (many (any_of (Star ∷ Slash ∷ []) · opt (token Sign) · the PowerTerm)) tree) → Within Same k → factors first names labels tree ≡ factors second wider larger tree
  factors_kin of_nil w = refl
  factors_kin (of_more (of_both {a = operator} {b = it} k (of_both {a = sign} s (of_node l _))) others) w =
      ap₂ (λ (a : Syntax Rational) (rest : Parts Rational). part (signed (place_in it) (is_slash (token_of operator).kind)) (with_sign sign a) rest) w.0.1.1.1 (factors_kin others w.1)

  exponents_kin : {tree : Derivation} (k : Kin (many (token Power · opt (token Sign) · the Guarded)) tree) → Within Same k → exponents first names labels tree ≡ exponents second wider larger tree
  exponents_kin of_nil w = refl
  exponents_kin (of_more (of_both {b = it} k (of_both {a = sign} s (of_node l _))) others) w =
      ap₂ (λ (a : Syntax Rational) (rest : Parts Rational). part (placed (place_in it)) (with_sign sign a) rest) w.0.1.1.1 (exponents_kin others w.1)

  guards_kin : {tree : Derivation} (k : Kin (many (the Condition)) tree) → Within Same k → guards first names labels tree ≡ guards second wider larger tree
  guards_kin of_nil w = refl
  guards_kin (of_more (of_node it _) others) w = ap₂ (λ (a : Syntax Rational) (rest : Parts Rational). part plain a rest) w.0.1 (guards_kin others w.1)

  more_arguments_kin : {tree : Derivation} (k : Kin (many (token Comma · the Expression)) tree) → Within Same k → more_arguments first names labels tree ≡ more_arguments second wider larger tree
  more_arguments_kin of_nil w = refl
  more_arguments_kin (of_more (of_both comma (of_node it _)) others) w = ap₂ (λ (a : Syntax Rational) (rest : Parts Rational). part plain a rest) w.0.1.1 (more_arguments_kin others w.1)

  pub more_indices_kin : {tree : Derivation} (k : Kin (many (token Comma · the Index)) tree) → Within Same k → more_indices first names labels tree ≡ more_indices second wider larger tree
  more_indices_kin of_nil w = refl
  more_indices_kin (of_more (of_both comma (of_node it _)) others) w = w.0.1.1 _ _ (more_indices_kin others w.1)

  pub suffix_kin : {tree : Derivation} (k : Kin (opt (the Attribute)) tree) → Within Same k → suffix_in first names labels tree ≡ suffix_in second wider larger tree
  suffix_kin of_none w = refl
  suffix_kin (of_some (of_node it _)) w = w.1

  pub optional_indices_kin : {tree : Derivation} (k : Kin (opt (bracketed (the IndexList))) tree) → Within Same k → optional_indices first names labels tree ≡ optional_indices second wider larger tree
  optional_indices_kin of_none w = refl
  optional_indices_kin (of_some (of_both opening (of_both (of_node it _) closing))) w = w.1.0.1

  pub sets_kin : {tree : Derivation} (k : Kin (name ∣ bracketed (the NameList)) tree) → Within Same k → sets_in first names labels tree ≡ sets_in second wider larger tree
  sets_kin (of_left it) w = ap (λ n. n ∷ []) (name_kin it)
  sets_kin (of_right (of_both opening (of_both (of_node it _) closing))) w = w.1.0.1

  pub bracketed_kin : {tree : Derivation} (k : Kin (bracketed (the Expression)) tree) → Within Same k → bracketed_expression first names labels tree ≡ bracketed_expression second wider larger tree
  bracketed_kin (of_both opening (of_both (of_node it _) closing)) w = w.1.0.1

  -- ---- each nonterminal

  of_expression : {tree : Derivation} (k : Kin (productions Expression) tree) → Within Same k → Same Expression (node tree)
  of_expression (of_both (of_node it _) others) w =
      ap₂ (λ (a : Syntax Rational) (rest : Parts Rational). or_alone a (λ r. one_of (part (chosen false) a r)) rest) w.0.1 (choices_kin others w.1)

  of_conjunction : {tree : Derivation} (k : Kin (productions Conjunction) tree) → Within Same k → Same Conjunction (node tree)
  of_conjunction (of_both (of_node it _) others) w =
      ap₂ (λ (a : Syntax Rational) (rest : Parts Rational). or_alone a (λ r. all_of (part plain a r)) rest) w.0.1 (conjuncts_kin others w.1)

  of_negation : {tree : Derivation} (k : Kin (productions Negation) tree) → Within Same k → Same Negation (node tree)
  of_negation (of_both {a = word} before (of_node it _)) w = ap (λ (t : Syntax Rational). negated_by word t) w.1.1

  of_comparison : {tree : Derivation} (k : Kin (productions Comparison) tree) → Within Same k → Same Comparison (node tree)
  of_comparison (of_both (of_node it _) others) w =
      ap₂ (λ (a : Syntax Rational) (rest : Parts Rational). or_alone a (λ r. relation (part (related rel_op.Eq) a r)) rest) w.0.1 (relations_kin others w.1)

  of_sum : {tree : Derivation} (k : Kin (productions Sum) tree) → Within Same k → Same Sum (node tree)
  of_sum (of_both {a = sign} s (of_both {a = it} (of_node l _) others)) w =
      ap₂ (λ (a : Syntax Rational) (rest : Parts Rational). or_alone (with_sign sign a) (λ r. sum (part (signed (place_in (pair sign it)) false) (with_sign sign a) r)) rest) w.1.0.1 (terms_kin others w.1.1)

  of_product : {tree : Derivation} (k : Kin (productions Product) tree) → Within Same k → Same Product (node tree)
  of_product (of_both {a = it} (of_node l _) others) w =
      ap₂ (λ (a : Syntax Rational) (rest : Parts Rational). or_alone a (λ r. product (part (signed (place_in it) false) a r)) rest) w.0.1 (factors_kin others w.1)

  of_power : {tree : Derivation} (k : Kin (productions PowerTerm) tree) → Within Same k → Same PowerTerm (node tree)
  of_power (of_both {a = it} (of_node l _) others) w =
      ap₂ (λ (a : Syntax Rational) (rest : Parts Rational). or_alone a (λ r. power (part (placed (place_in it)) a r)) rest) w.0.1 (exponents_kin others w.1)

  of_guarded : {tree : Derivation} (k : Kin (productions Guarded) tree) → Within Same k → Same Guarded (node tree)
  of_guarded (of_both (of_node it _) others) w = ap₂ (λ (a : Syntax Rational) (rest : Parts Rational). or_alone a (guarded a) rest) w.0.1 (guards_kin others w.1)

  of_condition : {tree : Derivation} (k : Kin (productions Condition) tree) → Within Same k → Same Condition (node tree)
  of_condition (of_both dollar (of_both {a = word} before (of_node it _))) w = ap (λ (t : Syntax Rational). negated_by word t) w.1.1.1

  of_primary : {tree : Derivation} (k : Kin (productions Primary) tree) → Within Same k → Same Primary (node tree)
  of_primary (of_left k) w = constant_kin k
  of_primary (of_right (of_left (of_node k _))) w = w.1
  of_primary (of_right (of_right (of_left (of_node k _)))) w = w.1
  of_primary (of_right (of_right (of_right (of_left (of_node k _))))) w = w.1
  of_primary (of_right (of_right (of_right (of_right k)))) w = bracketed_kin k w

  of_target : {tree : Derivation} (k : Kin (productions Target) tree) → Within Same k → Same Target (node tree)
  of_target (of_both {a = word} k (of_both dotted list)) w =
      ap₃ (λ n (s : Suffix) (is : Indices Rational). reference (token_of word).at n s is) (name_kin k) (suffix_kin dotted w.1.0) (optional_indices_kin list w.1.1)

  of_attribute : {tree : Derivation} (k : Kin (productions Attribute) tree) → Within Same k → Same Attribute (node tree)
  of_attribute (of_both dot word) w = ap suffix_of (text_kin word)

  of_indices : {tree : Derivation} (k : Kin (productions IndexList) tree) → Within Same k → Same IndexList (node tree)
  of_indices (of_both (of_node it _) others) w = w.0.1 _ _ (more_indices_kin others w.1)

  of_index : {tree : Derivation} (k : Kin (productions Index) tree) → Within Same k → Same Index (node tree)
  of_index (of_left text) w rest following e = ap₂ (λ n (is : Indices Rational). label n is) (label_kin text) e
  of_index (of_right (of_both it of_none)) w rest following e = ap₂ (λ n (is : Indices Rational). set n is) (name_kin it) e
  of_index (of_right (of_both it (of_some (of_node k _)))) w rest following e = w.1.1 _ _ (name_kin it) rest following e

  of_lag : {tree : Derivation} (k : Kin (productions Lag) tree) → Within Same k → Same Lag (node tree)
  of_lag (of_both {a = sign} {b = amount} k (of_node l _)) w n m same rest following e =
      ap₃ (λ p (a : Syntax Rational) (is : Indices Rational). lagged p (lag_op_of (token_of sign).kind) (place_in amount) a is) same w.1.1 e

  of_amount : {tree : Derivation} (k : Kin (productions LagAmount) tree) → Within Same k → Same LagAmount (node tree)
  of_amount (of_left k) w = number_kin k
  of_amount (of_right (of_left {tree = word} k)) w = ap (λ n. reference (token_of word).at n suffix.None no_index) (name_kin k)
  of_amount (of_right (of_right k)) w = bracketed_kin k w

  of_call : {tree : Derivation} (k : Kin (productions Call) tree) → Within Same k → Same Call (node tree)
  of_call (of_left (of_both {a = word} k (of_both opening (of_both (of_node it _) closing)))) w =
      ap₂ (λ text (rest : Parts Rational). call (token_of word).at (function_of text) rest) (text_kin k) w.1.1.0.1
  of_call (of_right (of_both {a = word} k (of_both opening (of_both it closing)))) w =
      ap₂ (λ text n. (let t : Syntax Rational = if is_word text (codes "ord") then place_in_set (token_of word).at n else size_of_set (token_of word).at n in t)) (text_kin k) (name_kin it)

  of_arguments : {tree : Derivation} (k : Kin (productions ExpressionList) tree) → Within Same k → Same ExpressionList (node tree)
  of_arguments (of_both (of_node it _) others) w = ap₂ (λ (a : Syntax Rational) (rest : Parts Rational). part plain a rest) w.0.1 (more_arguments_kin others w.1)

  of_fold : {tree : Derivation} (k : Kin (productions Fold) tree) → Within Same k → Same Fold (node tree)
  of_fold (of_both {a = word} k (of_both opening (of_both (of_both (of_node sets _) (of_both comma (of_node body _))) closing))) w =
      ap₃ (λ text (c : Control Rational) (a : Syntax Rational). fold_over (token_of word).at (fold_op_of text) c a) (text_kin k) w.1.1.0.0.1 w.1.1.0.1.1.1

  of_control : {tree : Derivation} (k : Kin (productions ControlPart) tree) → Within Same k → Same ControlPart (node tree)
  of_control (of_both sets of_none) w = ap (λ ns. over ns) (sets_kin sets w.0)
  of_control (of_both sets (of_some (of_node k _))) w = ap₂ (λ ns (t : Syntax Rational). over_where ns t) (sets_kin sets w.0) w.1.1

  of_names : {tree : Derivation} (k : Kin (productions NameList) tree) → Within Same k → Same NameList (node tree)
  of_names (of_both it others) w = ap₂ (λ n ns. n ∷ ns) (name_kin it) (names_after_kin others)

  pub rule : Rule Same
  rule Expression tree k a w = of_expression k w
  rule Conjunction tree k a w = of_conjunction k w
  rule Negation tree k a w = of_negation k w
  rule Comparison tree k a w = of_comparison k w
  rule Sum tree k a w = of_sum k w
  rule Product tree k a w = of_product k w
  rule PowerTerm tree k a w = of_power k w
  rule Guarded tree k a w = of_guarded k w
  rule Condition tree k a w = of_condition k w
  rule Primary tree k a w = of_primary k w
  rule Target tree k a w = of_target k w
  rule Attribute tree k a w = of_attribute k w
  rule IndexList tree k a w = of_indices k w
  rule Index tree k a w = of_index k w
  rule Lag tree k a w = of_lag k w
  rule LagAmount tree k a w = of_amount k w
  rule Call tree k a w = of_call k w
  rule ExpressionList tree k a w = of_arguments k w
  rule Fold tree k a w = of_fold k w
  rule ControlPart tree k a w = of_control k w
  rule NameList tree k a w = of_names k w
  rule _ tree k a w = tt

  -- all within a derivation means the same in both
  pub all_same : {p : GamsPart} {tree : Derivation} (k : Kin p tree) → Within Same k
  all_same k = everywhere Same rule k
