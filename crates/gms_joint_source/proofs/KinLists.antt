-- Lists of data mean the same in two sources that a derivation is kin in: their elements, entries
-- and values.
use Rattle.std.proofs.Common.{◌≡◌, ℕ, Bool, not, if◌then◌else◌, List, [], ◌∷◌, map, Option, Some, None, refl, ap, ap₂}
use Rattle.gq_number.specs.Number.{Number as Rational}
use Rattle.gq_extended.specs.declared.extended.Ext.{Ext}
use Rattle.gq_extended.specs.declared.extended.Ext.TheVariants.{Number as Finite, PlusInf}
use Rattle.gms_labels.specs.declared.place.Place.{Place}
use Rattle.gms_lex.specs.TokenTexts.{unquoted}
use Rattle.gms_ast.specs.declared.declaration.Item.{Item}
use Rattle.gms_grammar.specs.declared.terminal.Terminal.{Terminal}
use Rattle.gms_grammar.specs.declared.terminal.Terminal.TheVariants as terminal
use Rattle.gms_grammar.specs.Terminals.{is}
use Rattle.gms_grammar.specs.Grammar.{one, the, ◌·◌, many, node}
use Rattle.gms_grammar.specs.GamsGrammar.{Nonterminal, SetList, Element, ElementPart, Range, RangeList, ParameterList, Entry, Value, TableStatement, productions}
use Rattle.gms_expressions.specs.Valuations.{number_meant}
use Rattle.gms_expressions.specs.ExpressionTrees.{terminal_in, second_in, inside, place_in}
use Rattle.gms_set.specs.Ranges.{is_range}
use Rattle.gms_parse.specs.DataLists.{each_in, listed_in, concatenated, any_true, signed_value, labels_in_range, is_bad_range, labels_in_part, has_bad_range, value_of_token, parsed_value, item_of, parameter_item, elements_in, parameter_items}
use Rattle.gms_parse.specs.Tables.{items_given}
use Rattle.gms_joint_source.proofs.Kin.{ap₃, Derivation, GamsPart, lines_in, Kin, of_node, of_both, of_left, of_right, of_none, of_some, of_nil, of_more, Within, Rule, everywhere, text_kin}

-- an item of data at a place
abbrev pub item_at : Place → List (List ℕ) → Option (Ext Rational) → Bool → Item Rational
item_at at parts value bad = record { at = at; parts = parts; value = value; bad_range = bad }

module _ (first second : List ℕ) (names wider labels larger : List (List ℕ)) where
  abbrev K : GamsPart → Derivation → Type 0
  K part tree = Kin first second names wider labels larger part tree

  abbrev Inside : (Nonterminal → Derivation → Type 0) → {p : GamsPart} {tree : Derivation} → K p tree → Type 0
  Inside Says k = Within first second names wider labels larger Says k

  -- ---- lists of any parts

  -- parts after separators mean the same, if each does
  pub each_kin : {A : Type 0} {test : Terminal → Bool} {n : Nonterminal} (Says : Nonterminal → Derivation → Type 0) (f g : Derivation → A) → ((t : Derivation) → Says n t → f t ≡ g t) → {tree : Derivation} (k : K (many (one test · the n)) tree) → Inside Says k → each_in (λ other. f (second_in other)) tree ≡ each_in (λ other. g (second_in other)) tree
  each_kin Says f g h of_nil w = refl
  each_kin Says f g h (of_more (of_both sign (of_node it _)) others) w = ap₂ (λ x xs. x ∷ xs) (h _ w.0.1.1) (each_kin Says f g h others w.1)

  -- and so does a list of such parts
  pub list_kin : {A : Type 0} {test : Terminal → Bool} {n : Nonterminal} (Says : Nonterminal → Derivation → Type 0) (f g : Derivation → A) → ((t : Derivation) → Says n t → f t ≡ g t) → {tree : Derivation} (k : K (the n · many (one test · the n)) tree) → Inside Says k → listed_in f tree ≡ listed_in g tree
  list_kin Says f g h (of_both (of_node it _) others) w = ap₂ (λ x xs. x ∷ xs) (h _ w.0.1) (each_kin Says f g h others w.1)

  -- ---- claims for lists of data

  abbrev pub SaysData : Nonterminal → Derivation → Type 0
  SaysData Value tree = parsed_value first labels (inside tree) ≡ parsed_value second larger (inside tree)
  SaysData Range tree = (labels_in_range first labels tree ≡ labels_in_range second larger tree) × (is_bad_range first labels tree ≡ is_bad_range second larger tree)
  SaysData RangeList tree =
      (map (labels_in_range first labels) (listed_in (λ range. range) (inside tree)) ≡ map (labels_in_range second larger) (listed_in (λ range. range) (inside tree)))
      × (map (is_bad_range first labels) (listed_in (λ range. range) (inside tree)) ≡ map (is_bad_range second larger) (listed_in (λ range. range) (inside tree)))
  SaysData ElementPart tree = (labels_in_part first labels tree ≡ labels_in_part second larger tree) × (has_bad_range first labels tree ≡ has_bad_range second larger tree)
  SaysData Element tree = (u v : Option (Ext Rational)) → u ≡ v → item_of first labels tree u ≡ item_of second larger tree v
  SaysData Entry tree = parameter_item first labels tree ≡ parameter_item second larger tree
  SaysData SetList tree = elements_in first labels tree ≡ elements_in second larger tree
  SaysData ParameterList tree = parameter_items first labels tree ≡ parameter_items second larger tree
  SaysData TableStatement tree = items_given first labels (lines_in tree) ≡ items_given second larger (lines_in tree)
  SaysData _ tree = Unit {0}

  -- ---- each nonterminal

  token_value : {test : Terminal → Bool} {tree : Derivation} → K (one test) tree → value_of_token first labels tree ≡ value_of_token second larger tree
  token_value {tree = tree} k = ap (λ t. if is terminal.Infinity (terminal_in tree) then PlusInf else Finite (number_meant t)) (text_kin first second names wider labels larger k)

  of_value : {tree : Derivation} (k : K (productions Value) tree) → SaysData Value (node tree)
  of_value (of_left k) = refl
  of_value (of_right (of_both {a = sign} s k)) = ap (λ (v : Ext Rational). signed_value sign v) (token_value k)

  bad_kin : {tree : Derivation} (k : K (productions Range) tree) → is_bad_range first labels (node tree) ≡ is_bad_range second larger (node tree)
  bad_kin (of_both a of_none) = refl
  bad_kin (of_both a (of_some (of_both star b))) = ap₂ (λ x y. not (is_range (unquoted x) (unquoted y))) (text_kin first second names wider labels larger a) (text_kin first second names wider labels larger b)

  -- the ranges after commas
  range_labels_kin : {test : Terminal → Bool} {tree : Derivation} (k : K (many (one test · the Range)) tree) → Inside SaysData k → map (labels_in_range first labels) (each_in (λ other. second_in other) tree) ≡ map (labels_in_range second larger) (each_in (λ other. second_in other) tree)
  range_labels_kin of_nil w = refl
  range_labels_kin (of_more (of_both sign (of_node it _)) others) w = ap₂ (λ x xs. x ∷ xs) w.0.1.1.0 (range_labels_kin others w.1)

  bad_ranges_kin : {test : Terminal → Bool} {tree : Derivation} (k : K (many (one test · the Range)) tree) → Inside SaysData k → map (is_bad_range first labels) (each_in (λ other. second_in other) tree) ≡ map (is_bad_range second larger) (each_in (λ other. second_in other) tree)
  bad_ranges_kin of_nil w = refl
  bad_ranges_kin (of_more (of_both sign (of_node it _)) others) w = ap₂ (λ x xs. x ∷ xs) w.0.1.1.1 (bad_ranges_kin others w.1)

  of_range_list : {tree : Derivation} (k : K (productions RangeList) tree) → Inside SaysData k → SaysData RangeList (node tree)
  of_range_list (of_both (of_node it _) others) w =
      (ap₂ (λ x xs. x ∷ xs) w.0.1.0 (range_labels_kin others w.1), ap₂ (λ x xs. x ∷ xs) w.0.1.1 (bad_ranges_kin others w.1))

  of_part : {tree : Derivation} (k : K (productions ElementPart) tree) → Inside SaysData k → SaysData ElementPart (node tree)
  of_part (of_left (of_node it _)) w = (ap (λ x. concatenated (x ∷ [])) w.1.0, ap (λ x. any_true (x ∷ [])) w.1.1)
  of_part (of_right (of_both opening (of_both (of_node it _) closing))) w = (ap concatenated w.1.0.1.0, ap any_true w.1.0.1.1)

  of_element : {tree : Derivation} (k : K (productions Element) tree) → Inside SaysData k → SaysData Element (node tree)
  of_element {tree = tree} k w u v e =
      ap₃ (λ parts value bad. item_at (place_in tree) parts value bad)
      (list_kin SaysData (labels_in_part first labels) (labels_in_part second larger) (λ t s. s.0) k w)
      e
      (ap any_true (list_kin SaysData (has_bad_range first labels) (has_bad_range second larger) (λ t s. s.1) k w))

  of_entry : {tree : Derivation} (k : K (productions Entry) tree) → Inside SaysData k → SaysData Entry (node tree)
  of_entry (of_both (of_node it _) (of_both sign (of_node value _))) w = w.0.1 _ _ (ap Some w.1.1.1)

  of_set_list : {tree : Derivation} (k : K (productions SetList) tree) → Inside SaysData k → SaysData SetList (node tree)
  of_set_list k w = list_kin SaysData (λ element. item_of first labels element None) (λ element. item_of second larger element None) (λ t s. s None None refl) k w

  of_parameter_list : {tree : Derivation} (k : K (productions ParameterList) tree) → Inside SaysData k → SaysData ParameterList (node tree)
  of_parameter_list k w = list_kin SaysData (parameter_item first labels) (parameter_item second larger) (λ t s. s) k w

  pub data_rule : Rule first second names wider labels larger SaysData
  data_rule Value tree k a w = of_value k
  data_rule Range tree k a w = (a, bad_kin k)
  data_rule RangeList tree k a w = of_range_list k w
  data_rule ElementPart tree k a w = of_part k w
  data_rule Element tree k a w = of_element k w
  data_rule Entry tree k a w = of_entry k w
  data_rule SetList tree k a w = of_set_list k w
  data_rule ParameterList tree k a w = of_parameter_list k w
  data_rule TableStatement tree k a w = a
  data_rule _ tree k a w = tt

  -- lists of data within a derivation mean the same in both
  pub data_same : {p : GamsPart} {tree : Derivation} (k : K p tree) → Inside SaysData k
  data_same k = everywhere first second names wider labels larger SaysData data_rule k
