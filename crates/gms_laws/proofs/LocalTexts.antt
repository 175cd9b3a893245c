-- The statements of a derivation, where the bytes of an entry of a parameter's list are looked for
-- from the entry before it on, and not from the beginning of the source.
use Rattle.std.proofs.Common.{◌≡◌, ℕ, ◌+◌, ◌-◌, ◌≤◌, Bool, true, false, not, nat_le, if◌then◌else◌, List, [], ◌∷◌, map, take, drop, Option, Some, refl, ap, ap₂, ◌∙◌, arith, leb-true}
use mathlib.Core.Path.{fun_ext}
use Rattle.std.proofs.lemmas.List.{drop-drop}
use Rattle.gq_number.specs.Number.{Number as Rational}
use Rattle.gq_extended.specs.declared.extended.Ext.{Ext}
use Rattle.gq_extended.specs.declared.extended.Ext.TheVariants.{Number, PlusInf, Na}
use Rattle.gms_ast.specs.declared.declaration.DeclKind.TheVariants as kind
use Rattle.gms_ast.specs.declared.declaration.Item.{Item}
use Rattle.gms_ast.specs.StatementTrees.{Act, declares, Statements, no_statement, statement, followed_by}
use Rattle.gms_lex.specs.declared.token.Token.{Token}
use Rattle.gms_lex.specs.TokenTexts.{token_text, unquoted}
use Rattle.gms_grammar.specs.declared.terminal.Terminal.{Terminal}
use Rattle.gms_grammar.specs.declared.terminal.Terminal.TheVariants as terminal
use Rattle.gms_grammar.specs.Grammar.{DerivationTree, leaf, pair, left, right, none, some, more, node, yield}
use Rattle.gms_grammar.specs.Alternatives.{keyword_parameter}
use Rattle.gms_grammar.specs.Terminals.{is}
use Rattle.gms_set.specs.Ranges.{is_range}
use Rattle.gms_expressions.specs.Valuations.{number_meant}
use Rattle.gms_expressions.specs.ExpressionTrees.{token_of, terminal_in, first_in, second_in, inside, place_in}
use Rattle.gms_parse.specs.DataLists.{listed_in, each_in, optional_in, concatenated, any_true, signed_value, number_of_label, range_labels, ranges_in_part, parsed_value, parameter_item, parameter_items}
use Rattle.gms_parse.specs.Declarations.{items_in, data_in}
use Rattle.gms_parse.specs.Programs.{keyword_act, keyword_statements, named_first, segment, segments, statements_of}

abbrev Derivation : Type 0
Derivation = DerivationTree (Terminal × Token)

-- ---- items, by the bytes of their tokens

module _ (source : List ℕ) (labels : List (List ℕ)) where
  module _ (text : Token → List ℕ) where
    abbrev label_by : Derivation → List ℕ
    label_by tree = unquoted (text (token_of tree))

    abbrev range_by : Derivation → List ℕ
    range_by tree =
        optional_in (number_of_label source labels (label_by (first_in (inside tree))) ∷ []) (λ last. range_labels source labels (label_by (first_in (inside tree))) (label_by (second_in last))) (second_in (inside tree))

    abbrev bad_by : Derivation → Bool
    bad_by tree = optional_in false (λ last. not (is_range (label_by (first_in (inside tree))) (label_by (second_in last)))) (second_in (inside tree))

    abbrev part_by : Derivation → List ℕ
    part_by tree = concatenated (map range_by (ranges_in_part source labels (inside tree)))

    abbrev part_bad_by : Derivation → Bool
    part_bad_by tree = any_true (map bad_by (ranges_in_part source labels (inside tree)))

    abbrev token_value_by : Derivation → Ext Rational
    token_value_by tree = if is terminal.Infinity (terminal_in tree) then PlusInf else Number (number_meant (text (token_of tree)))

    abbrev value_by : Derivation → Ext Rational
    value_by (left tree) = Na
    value_by (right tree) = signed_value (first_in tree) (token_value_by (second_in tree))
    value_by _ = Na

    abbrev item_by : Derivation → Option (Ext Rational) → Item Rational
    item_by element value =
        record { at = place_in element; parts = listed_in part_by (inside element); value = value; bad_range = any_true (listed_in part_bad_by (inside element)) }

    abbrev entry_by : Derivation → Item Rational
    entry_by tree = item_by (first_in (inside tree)) (Some (value_by (inside (second_in (second_in (inside tree))))))

  same_value : (tree : Derivation) → value_by (token_text source) tree ≡ parsed_value source labels tree
  same_value (leaf t) = refl
  same_value (pair a b) = refl
  same_value (left a) = refl
  same_value (right a) = refl
  same_value none = refl
  same_value (some a) = refl
  same_value (more a b) = refl
  same_value (node a) = refl

  same_entry : (tree : Derivation) → entry_by (token_text source) tree ≡ parameter_item source labels tree
  same_entry tree =
      ap (λ (v : Ext Rational). item_by (token_text source) (first_in (inside tree)) (Some v)) (same_value (inside (second_in (second_in (inside tree)))))

  -- the bytes of a token, by what follows a place of the source
  abbrev text_from : ℕ → List ℕ → Token → List ℕ
  text_from base tail token = elim (nat_le base token.start) [ true ↦ take (token.end - token.start) (drop (token.start - base) tail) | false ↦ token_text source token ]

  text_is : (base : ℕ) (tail : List ℕ) → tail ≡ drop base source → (token : Token) → text_from base tail token ≡ token_text source token
  text_is base tail e token = by (nat_le base token.start) refl
    where
      by : (b : Bool) → nat_le base token.start ≡ b → elim b [ true ↦ take (token.end - token.start) (drop (token.start - base) tail) | false ↦ token_text source token ] ≡ token_text source token
      by false is = refl
      by true is =
          let low : base ≤ token.start = leb-true base token.start is in
          let sum : base + (token.start - base) ≡ token.start = omega (arith, low) in
          ap (take (token.end - token.start)) (ap (drop (token.start - base)) e ∙ drop-drop (token.start - base) base source ∙ ap (λ n. drop n source) sum)

  -- where the first of the tokens starts, if not before a place
  abbrev start_of : ℕ → List (Terminal × Token) → ℕ
  start_of base [] = base
  start_of base (token ∷ tokens) = elim (nat_le base token.1.start) [ true ↦ token.1.start | false ↦ base ]

  start_high : (base : ℕ) (tokens : List (Terminal × Token)) → base ≤ start_of base tokens
  start_high base [] = omega arith
  start_high base (token ∷ tokens) = by (nat_le base token.1.start) refl
    where
      by : (b : Bool) → nat_le base token.1.start ≡ b → base ≤ elim b [ true ↦ token.1.start | false ↦ base ]
      by true is = leb-true base token.1.start is
      by false is = omega arith

  -- the items of entries, of which each begins after the one before
  abbrev entries_from : ℕ → List ℕ → Derivation → List (Item Rational)
  entries_from base tail (more tree others) =
      let next = start_of base (yield tree) in
      let rest = drop (next - base) tail in
      entry_by (text_from next rest) (second_in tree) ∷ entries_from next rest others
  entries_from base tail _ = []

  same_entries : (base : ℕ) (tail : List ℕ) → tail ≡ drop base source → (tree : Derivation) → entries_from base tail tree ≡ each_in (λ other. parameter_item source labels (second_in other)) tree
  same_entries base tail e (leaf t) = refl
  same_entries base tail e (pair a b) = refl
  same_entries base tail e (left a) = refl
  same_entries base tail e (right a) = refl
  same_entries base tail e none = refl
  same_entries base tail e (some a) = refl
  same_entries base tail e (node a) = refl
  same_entries base tail e (more tree others) =
      let next = start_of base (yield tree) in
      let rest = drop (next - base) tail in
      let high = start_high base (yield tree) in
      let sum : base + (next - base) ≡ next = omega (arith, high) in
      let following : rest ≡ drop next source = ap (drop (next - base)) e ∙ drop-drop (next - base) base source ∙ ap (λ n. drop n source) sum in
      ap₂ (λ (x : Item Rational) (xs : List (Item Rational)). x ∷ xs)
      (ap (λ (text : Token → List ℕ). entry_by text (second_in tree)) (fun_ext (text_is next rest following)) ∙ same_entry (second_in tree))
      (same_entries next rest following others)

  -- the items of a parameter's list
  abbrev local_items : Derivation → List (Item Rational)
  local_items list =
      let base = start_of 0 (yield (first_in (inside list))) in
      parameter_item source labels (first_in (inside list)) ∷ entries_from base (drop base source) (second_in (inside list))

  same_items : (list : Derivation) → local_items list ≡ parameter_items source labels list
  same_items list =
      let base = start_of 0 (yield (first_in (inside list))) in
      ap (λ (xs : List (Item Rational)). parameter_item source labels (first_in (inside list)) ∷ xs) (same_entries base (drop base source) refl (second_in (inside list)))

-- ---- statements

module _ (source : List ℕ) (names labels : List (List ℕ)) where
  abbrev parameters_by : (Derivation → List (Item Rational)) → Derivation → Act Rational
  parameters_by items tree = declares kind.Parameter (items_in (data_in source names labels items) (second_in (inside tree)))

  -- a statement that begins with a keyword, where parameters are read so
  abbrev keyword_by : (Derivation → Act Rational) → Derivation → Act Rational
  keyword_by parameters (node (keyword_parameter tree)) = parameters tree
  keyword_by parameters tree = keyword_act source names labels tree

  same_keyword : (tree : Derivation) → keyword_by (parameters_by (parameter_items source labels)) tree ≡ keyword_act source names labels tree
  same_keyword (node (right (left a))) = refl
  same_keyword (node (right (leaf t))) = refl
  same_keyword (node (right (pair a b))) = refl
  same_keyword (node (right (right a))) = refl
  same_keyword (node (right none)) = refl
  same_keyword (node (right (some a))) = refl
  same_keyword (node (right (more a b))) = refl
  same_keyword (node (right (node a))) = refl
  same_keyword (node (leaf t)) = refl
  same_keyword (node (pair a b)) = refl
  same_keyword (node (left a)) = refl
  same_keyword (node none) = refl
  same_keyword (node (some a)) = refl
  same_keyword (node (more a b)) = refl
  same_keyword (node (node a)) = refl
  same_keyword (leaf t) = refl
  same_keyword (pair a b) = refl
  same_keyword (left a) = refl
  same_keyword (right a) = refl
  same_keyword none = refl
  same_keyword (some a) = refl
  same_keyword (more a b) = refl

  module _ (act : Derivation → Act Rational) where
    abbrev keywords_by : Derivation → Statements Rational
    keywords_by (more first others) = statement (place_in first) (act first) (keywords_by others)
    keywords_by _ = no_statement

    abbrev segment_by : Derivation → Statements Rational
    segment_by (node (pair named others)) = named_first source names labels named (keywords_by others)
    segment_by _ = no_statement

    abbrev segments_by : Derivation → Statements Rational
    segments_by (more (pair mark tree) others) = followed_by (segment_by tree) (segments_by others)
    segments_by _ = no_statement

    abbrev statements_by : Derivation → Statements Rational
    statements_by (node (pair first others)) = followed_by (segment_by first) (segments_by others)
    statements_by _ = no_statement

  abbrev K : Derivation → Act Rational
  K = keyword_act source names labels

  same_keywords : (tree : Derivation) → keywords_by K tree ≡ keyword_statements source names labels tree
  same_keywords (more first others) = ap (λ (ss : Statements Rational). statement (place_in first) (K first) ss) (same_keywords others)
  same_keywords (leaf t) = refl
  same_keywords (pair a b) = refl
  same_keywords (left a) = refl
  same_keywords (right a) = refl
  same_keywords none = refl
  same_keywords (some a) = refl
  same_keywords (node a) = refl

  same_pair : (tree : Derivation) → segment_by K (node tree) ≡ segment source names labels (node tree)
  same_pair (pair named others) = ap (named_first source names labels named) (same_keywords others)
  same_pair (leaf t) = refl
  same_pair (left a) = refl
  same_pair (right a) = refl
  same_pair none = refl
  same_pair (some a) = refl
  same_pair (more a b) = refl
  same_pair (node a) = refl

  same_segment : (tree : Derivation) → segment_by K tree ≡ segment source names labels tree
  same_segment (node tree) = same_pair tree
  same_segment (leaf t) = refl
  same_segment (pair a b) = refl
  same_segment (left a) = refl
  same_segment (right a) = refl
  same_segment none = refl
  same_segment (some a) = refl
  same_segment (more a b) = refl

  same_marked : (tree others : Derivation) → segments_by K others ≡ segments source names labels others → segments_by K (more tree others) ≡ segments source names labels (more tree others)
  same_marked (pair mark tree) others e = ap₂ followed_by (same_segment tree) e
  same_marked (leaf t) others e = refl
  same_marked (left a) others e = refl
  same_marked (right a) others e = refl
  same_marked none others e = refl
  same_marked (some a) others e = refl
  same_marked (more a b) others e = refl
  same_marked (node a) others e = refl

  same_segments : (tree : Derivation) → segments_by K tree ≡ segments source names labels tree
  same_segments (more tree others) = same_marked tree others (same_segments others)
  same_segments (leaf t) = refl
  same_segments (pair a b) = refl
  same_segments (left a) = refl
  same_segments (right a) = refl
  same_segments none = refl
  same_segments (some a) = refl
  same_segments (node a) = refl

  same_inside : (tree : Derivation) → statements_by K (node tree) ≡ statements_of source names labels (node tree)
  same_inside (pair first others) = ap₂ followed_by (same_segment first) (same_segments others)
  same_inside (leaf t) = refl
  same_inside (left a) = refl
  same_inside (right a) = refl
  same_inside none = refl
  same_inside (some a) = refl
  same_inside (more a b) = refl
  same_inside (node a) = refl

  same_by : (tree : Derivation) → statements_by K tree ≡ statements_of source names labels tree
  same_by (node tree) = same_inside tree
  same_by (leaf t) = refl
  same_by (pair a b) = refl
  same_by (left a) = refl
  same_by (right a) = refl
  same_by none = refl
  same_by (some a) = refl
  same_by (more a b) = refl

  -- the statements of a program
  abbrev pub local_statements : Derivation → Statements Rational
  local_statements tree = statements_by (keyword_by (parameters_by (local_items source labels))) tree

  local_keyword : (tree : Derivation) → keyword_by (parameters_by (local_items source labels)) tree ≡ K tree
  local_keyword tree =
      ap (λ (items : Derivation → List (Item Rational)). keyword_by (parameters_by items) tree) (fun_ext (same_items source labels)) ∙ same_keyword tree

  pub same_statements : (tree : Derivation) → local_statements tree ≡ statements_of source names labels tree
  same_statements tree = ap (λ (act : Derivation → Act Rational). statements_by act tree) (fun_ext local_keyword) ∙ same_by tree
