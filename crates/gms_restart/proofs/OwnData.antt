-- The labels of data that derivations mean pass a test that the table's numbers of all texts of the
-- source pass.
use Rattle.std.proofs.Common.{ℕ, Bool, true, false, List, [], ◌∷◌, ◌++◌, map, None, if◌then◌else◌, inl}
use Rattle.gq_number.specs.Number.{Number}
use Rattle.gms_ast.specs.declared.declaration.Decl.{Decl}
use Rattle.gms_ast.specs.declared.declaration.Item.{Item}
use Rattle.gms_lex.specs.declared.token.Token.{Token}
use Rattle.gms_lex.specs.TokenTexts.{token_text, unquoted}
use Rattle.gms_grammar.specs.declared.terminal.Terminal.{Terminal}
use Rattle.gms_grammar.specs.Grammar.{pair, some, more, node}
use Rattle.gms_grammar.specs.Alternatives.{items_comma, items_line}
use Rattle.gms_set.specs.Ranges.{is_range, members}
use Rattle.gms_table.specs.TableEntries.{TablePart, name, cell, met}
use Rattle.gms_table.specs.WordLabels.{labels_of_word}
use Rattle.gms_table.specs.Words.{Word}
use Rattle.gms_expressions.specs.ExpressionTrees.{first_in, inside, second_in, token_of}
use Rattle.gms_parse.specs.DataLists.{between, each_in, elements_in, parameter_items, parameter_item, item_of, concatenated, label_text, labels_in_part, labels_in_range, listed_in, number_of_label, optional_in, range_labels, ranges_in_part, scalar_in}
use Rattle.gms_parse.specs.Declarations.{further_items, items_in, parameter_in, plain_in, scalar_item_in, set_in}
use Rattle.gms_parse.specs.Tables.{table_entry, entry_under, item_of_entry, items_given, numbers_of_labels, parts_of_tokens, labelled_positions}
use Rattle.gms_parse.specs.Tables as tables
use Rattle.gms_run_laws.specs.Names.{Each}
use Rattle.gms_run_laws.proofs.Eaches.{each-both}
use Rattle.gms_run_laws.proofs.FormKeys.{EachHas}
use Rattle.gms_restart.proofs.OwnLabels.{Derivation, HasOwn}
use Rattle.gms_restart.proofs.Texts.{IsPart, IsWritten, PartIs, WordIs, label-written, met-are, names-are, range-written, table-parts}

-- what holds of all that a meaning gives holds of the parts of a list
each-has : {A : Type 0} (P : A → Type 0) (meaning : Derivation → A) → ((tree : Derivation) → P (meaning tree)) → (tree : Derivation) → EachHas P (each_in meaning tree)
each-has P meaning each (more tree others) = (each tree, each-has P meaning each others)
each-has P meaning each tree = tt

listed-has : {A : Type 0} (P : A → Type 0) (meaning : Derivation → A) → ((tree : Derivation) → P (meaning tree)) → (tree : Derivation) → EachHas P (listed_in meaning tree)
listed-has P meaning each tree =
    (each (first_in tree), each-has P (λ other. meaning (second_in other)) (λ other. each (second_in other)) (second_in tree))

optional-has : {A : Type 0} (P : A → Type 0) (absent : A) (meaning : Derivation → A) → P absent → ((tree : Derivation) → P (meaning tree)) → (tree : Derivation) → P (optional_in absent meaning tree)
optional-has P absent meaning none_so each (some tree) = each tree
optional-has P absent meaning none_so each tree = none_so

mutual
  items-has : {A : Type 0} (P : A → Type 0) (meaning : Derivation → A) → ((tree : Derivation) → P (meaning tree)) → (tree : Derivation) → EachHas P (items_in meaning tree)
  items-has P meaning each (node (pair item others)) = (each item, further-has P meaning each others)
  items-has P meaning each tree = tt

  further-has : {A : Type 0} (P : A → Type 0) (meaning : Derivation → A) → ((tree : Derivation) → P (meaning tree)) → (tree : Derivation) → EachHas P (further_items meaning tree)
  further-has P meaning each (some (items_comma (pair comma tree))) = items-has P meaning each tree
  further-has P meaning each (some (items_line (pair line (some tree)))) = items-has P meaning each tree
  further-has P meaning each tree = tt

-- the labels at the positions of an item pass a test, and those of a name's data
abbrev pub ItemHas : {N : Type 0} → (ℕ → Bool) → Item N → Type 0
ItemHas test item = EachHas (Each test) item.parts

abbrev pub DeclHas : {N : Type 0} → (ℕ → Bool) → Decl N → Type 0
DeclHas test declared = EachHas (ItemHas test) declared.items

module _ (source : List ℕ) (names labels : List (List ℕ)) (own : ℕ → Bool) (has : HasOwn source labels own) where
  numbers-own : (texts : List (List ℕ)) → EachHas (IsWritten source) texts → Each own (map (number_of_label source labels) texts)
  numbers-own [] all = tt
  numbers-own (text ∷ texts) all = (has text all.0, numbers-own texts all.1)

  -- ---- lists

  range-own : (one other : Token) → Each own (range_labels source labels (unquoted (token_text source one)) (unquoted (token_text source other)))
  range-own one other = by (is_range from to)
    where
      from : List ℕ
      from = unquoted (token_text source one)

      to : List ℕ
      to = unquoted (token_text source other)

      by : (b : Bool) → Each own (if b then map (number_of_label source labels) (members from to) else [])
      by true = numbers-own (members from to) (range-written source one other)
      by false = tt

  in_range-own : (tree : Derivation) → Each own (labels_in_range source labels tree)
  in_range-own tree =
      let first = label_text source labels (first_in (inside tree)) in
      optional-has (Each own) (number_of_label source labels first ∷ []) (λ last. range_labels source labels first (label_text source labels (second_in last))) (has first (label-written source (token_of (first_in (inside tree)))), tt) (λ last. range-own (token_of (first_in (inside tree))) (token_of (second_in last))) (second_in (inside tree))

  joined-own : (ranges : List Derivation) → Each own (concatenated (map (labels_in_range source labels) ranges))
  joined-own [] = tt
  joined-own (range ∷ ranges) =
      each-both own (labels_in_range source labels range) (concatenated (map (labels_in_range source labels) ranges)) (in_range-own range) (joined-own ranges)

  -- those at the positions of an element
  parts-own : (element : Derivation) → EachHas (Each own) (listed_in (labels_in_part source labels) (inside element))
  parts-own element =
      listed-has (Each own) (labels_in_part source labels) (λ tree. joined-own (ranges_in_part source labels (inside tree))) (inside element)

  elements-own : (list : Derivation) → EachHas (ItemHas own) (elements_in source labels list)
  elements-own list = listed-has (ItemHas own) (λ element. item_of source labels element None) (λ element. parts-own element) (inside list)

  entries-own : (list : Derivation) → EachHas (ItemHas own) (parameter_items source labels list)
  entries-own list = listed-has (ItemHas own) (parameter_item source labels) (λ tree. parts-own (first_in (inside tree))) (inside list)

  scalar-own : (tree : Derivation) → EachHas (ItemHas own) (scalar_in source labels tree)
  scalar-own tree = (tt, tt)

  -- ---- tables

  words-own : (texts : List (List ℕ)) → EachHas (IsPart source) texts → Each own (numbers_of_labels labels texts)
  words-own [] all = tt
  words-own (text ∷ texts) all = (has text (inl all.0), words-own texts all.1)

  positions-own : (those : List ℕ) → Each own those → EachHas (Each own) (labelled_positions those)
  positions-own [] all = tt
  positions-own (label ∷ those) all = ((all.0, tt), positions-own those all.1)

  entry-own : (row word heading : Word) → WordIs source row → WordIs source heading → ItemHas own (item_of_entry (table_entry labels row word heading))
  entry-own row word heading one other =
      positions-own (numbers_of_labels labels (labels_of_word row) ++ numbers_of_labels labels (labels_of_word heading)) (each-both own (numbers_of_labels labels (labels_of_word row)) (numbers_of_labels labels (labels_of_word heading)) (words-own (labels_of_word row) (names-are source row one)) (words-own (labels_of_word heading) (names-are source heading other)))

  under-own : (row word : Word) (headings : List Word) → WordIs source row → EachHas (WordIs source) headings → ItemHas own (item_of_entry (entry_under labels row word headings))
  under-own row word [] one all = entry-own row word row one one
  under-own row word (heading ∷ others) one all = entry-own row word heading one all.0

  cells-own : (parts : List TablePart) → EachHas (PartIs source) parts → EachHas (ItemHas own) (map item_of_entry (tables.entries_in labels parts))
  cells-own [] all = tt
  cells-own (name word ∷ parts) all = cells-own parts all.1
  cells-own (cell row headings word ∷ parts) all =
      (under-own row word (met headings word) all.0.0 (met-are source headings word all.0.1), cells-own parts all.1)

  -- ---- declarations

  abbrev pub DataOwn : List (Decl Number) → Type 0
  DataOwn = EachHas (DeclHas own)

  pub sets-own : (tree : Derivation) → DataOwn (items_in (set_in source names labels) (second_in (inside tree)))
  sets-own tree =
      items-has (DeclHas own) (set_in source names labels) (λ item. optional-has (EachHas (ItemHas own)) [] (λ list. elements_in source labels (between list)) tt (λ list. elements-own (between list)) (second_in (second_in (inside item)))) (second_in (inside tree))

  pub parameters-own : (tree : Derivation) → DataOwn (items_in (parameter_in source names labels) (second_in (inside tree)))
  parameters-own tree =
      items-has (DeclHas own) (parameter_in source names labels) (λ item. optional-has (EachHas (ItemHas own)) [] (λ list. parameter_items source labels (between list)) tt (λ list. entries-own (between list)) (second_in (second_in (inside item)))) (second_in (inside tree))

  pub scalars-own : (tree : Derivation) → DataOwn (items_in (scalar_item_in source names labels) (second_in (inside tree)))
  scalars-own tree =
      items-has (DeclHas own) (scalar_item_in source names labels) (λ item. optional-has (EachHas (ItemHas own)) [] (λ list. scalar_in source labels (between list)) tt (λ list. scalar-own (between list)) (second_in (inside item))) (second_in (inside tree))

  pub table-own : (lines : List (Terminal × Token)) → EachHas (ItemHas own) (items_given source labels lines)
  table-own lines = cells-own (parts_of_tokens source lines) (table-parts source lines)

  pub plains-own : (tree : Derivation) → DataOwn (items_in (plain_in source names labels) tree)
  plains-own tree = items-has (DeclHas own) (plain_in source names labels) (λ item. tt) tree
