-- The data that the derivations of lists mean: elements with their labels, ranges as their members,
-- and values (GAMS User's Guide, "Sets", "Data Entry: Parameters, Scalars and Tables").
use Rattle.std.specs.Prelude.{ℕ, Bool, false, not, ◌||◌, if◌then◌else◌, List, [], ◌∷◌, ◌++◌, map, Option, Some, None}
use Rattle.gms_labels.specs.Labels.{place_of}
use Rattle.gms_lex.specs.declared.token.Token.{Token}
use Rattle.gms_lex.specs.TokenTexts.{token_text, unquoted}
use Rattle.gms_grammar.specs.declared.terminal.Terminal.{Terminal}
use Rattle.gms_grammar.specs.declared.terminal.Terminal.TheVariants as terminal
use Rattle.gms_grammar.specs.Grammar.{DerivationTree, some, more}
use Rattle.gms_grammar.specs.Alternatives.{element_range, element_ranges, value_not_available, value_number}
use Rattle.gms_grammar.specs.Terminals.{is}
use Rattle.gms_set.specs.Ranges.{is_range, members}
use Rattle.gq_extended.specs.declared.extended.Ext.{Ext}
use Rattle.gq_extended.specs.declared.extended.Ext.TheVariants.{Number, PlusInf, MinusInf, Na}
use Rattle.gms_ast.specs.declared.declaration.Item.{Item}
use Rattle.gq_number.specs.Number.{Number as Rational, neg_ℚ}
use Rattle.gms_expressions.specs.Valuations.{number_meant}
use Rattle.gms_expressions.specs.ExpressionTrees.{or_0, token_of, terminal_in, first_in, second_in, inside, is_minus, place_in}

-- what the parts of a repetition mean, in order, where `meaning` gives what one part means
abbrev pub each_in : {A T : Type 0} → (DerivationTree T → A) → DerivationTree T → List A
each_in meaning (more tree others) = meaning tree ∷ each_in meaning others
each_in meaning _ = []

-- what the parts of a list with separators mean, in order, where `meaning` gives what one part
-- means
abbrev pub listed_in : {A T : Type 0} → (DerivationTree T → A) → DerivationTree T → List A
listed_in meaning tree = meaning (first_in tree) ∷ each_in (λ other. meaning (second_in other)) (second_in tree)

-- what an optional part means, or `absent` if it is left out
abbrev pub optional_in : {A T : Type 0} → A → (DerivationTree T → A) → DerivationTree T → A
optional_in absent meaning (some tree) = meaning tree
optional_in absent meaning _ = absent

-- the middle one of three parts in sequence, such as what is between two slashes
abbrev pub between : {T : Type 0} → DerivationTree T → DerivationTree T
between tree = first_in (second_in tree)

-- the lists appended, in order
abbrev pub concatenated : {A : Type 0} → List (List A) → List A
concatenated [] = []
concatenated (xs ∷ others) = xs ++ concatenated others

-- whether some entry of the list is true
abbrev pub any_true : List Bool → Bool
any_true [] = false
any_true (b ∷ others) = b || any_true others

-- a value with its sign changed; NA stays NA
abbrev pub opposed : Ext Rational → Ext Rational
opposed (Number n) = Number (neg_ℚ n)
opposed PlusInf = MinusInf
opposed MinusInf = PlusInf
opposed Na = Na

-- the value, with its sign changed if the derivation tree of an optional sign has a `-`
abbrev pub signed_value : DerivationTree (Terminal × Token) → Ext Rational → Ext Rational
signed_value (some sign) value = if is_minus (token_of sign).kind then opposed value else value
signed_value _ value = value

-- The meaning of derivation trees in a source with these labels.
module _ (source : List ℕ) (labels : List (List ℕ)) where
  -- the text of the label of a leaf, without quotation marks
  abbrev pub label_text : DerivationTree (Terminal × Token) → List ℕ
  label_text tree = unquoted (token_text source (token_of tree))

  -- the number of a label: its index, from 0, in the table of labels; also 0 for a label that the
  -- table lacks
  abbrev pub number_of_label : List ℕ → ℕ
  number_of_label text = or_0 (place_of labels text)

  -- the numbers of the members of the range from one label to another; none for an invalid range
  abbrev pub range_labels : List ℕ → List ℕ → List ℕ
  range_labels from to = if is_range from to then map number_of_label (members from to) else []

  -- the numbers of the labels that the derivation of a range means: one label, or the members of a
  -- range
  abbrev pub labels_in_range : DerivationTree (Terminal × Token) → List ℕ
  labels_in_range tree =
      optional_in (number_of_label (label_text (first_in (inside tree))) ∷ []) (λ last. range_labels (label_text (first_in (inside tree))) (label_text (second_in last))) (second_in (inside tree))

  -- whether the derivation of a range has two labels that make no valid range
  abbrev pub is_bad_range : DerivationTree (Terminal × Token) → Bool
  is_bad_range tree = optional_in false (λ last. not (is_range (label_text (first_in (inside tree))) (label_text (second_in last)))) (second_in (inside tree))

  -- the derivations of the ranges at one position of an element: a single one, or those in
  -- parentheses
  abbrev pub ranges_in_part : DerivationTree (Terminal × Token) → List (DerivationTree (Terminal × Token))
  ranges_in_part (element_range range) = range ∷ []
  ranges_in_part (element_ranges list) = listed_in (λ range. range) (inside (between list))
  ranges_in_part _ = []

  -- the numbers of the labels at a position of an element
  abbrev pub labels_in_part : DerivationTree (Terminal × Token) → List ℕ
  labels_in_part tree = concatenated (map labels_in_range (ranges_in_part (inside tree)))

  -- whether a position of an element has an invalid range
  abbrev pub has_bad_range : DerivationTree (Terminal × Token) → Bool
  has_bad_range tree = any_true (map is_bad_range (ranges_in_part (inside tree)))

  -- the value of a number, or of `inf`, without the sign before it
  abbrev pub value_of_token : DerivationTree (Terminal × Token) → Ext Rational
  value_of_token tree = if is terminal.Infinity (terminal_in tree) then PlusInf else Number (number_meant (token_text source (token_of tree)))

  abbrev pub parsed_value : DerivationTree (Terminal × Token) → Ext Rational
  parsed_value (value_not_available tree) = Na
  parsed_value (value_number tree) = signed_value (first_in tree) (value_of_token (second_in tree))
  parsed_value _ = Na

  -- the item of data that the derivation of an element means: its place, the labels at each
  -- position, the given value, or no value (None), and whether a range in it is invalid
  abbrev pub item_of : DerivationTree (Terminal × Token) → Option (Ext Rational) → Item Rational
  item_of element value =
      record {
        at = place_in element;
        parts = listed_in labels_in_part (inside element);
        value = value;
        bad_range = any_true (listed_in has_bad_range (inside element));
      }

  -- the item of an entry of a parameter: an element, perhaps `=`, and a value
  abbrev pub parameter_item : DerivationTree (Terminal × Token) → Item Rational
  parameter_item tree = item_of (first_in (inside tree)) (Some (parsed_value (inside (second_in (second_in (inside tree))))))

  -- the items of a set's list
  abbrev pub elements_in : DerivationTree (Terminal × Token) → List (Item Rational)
  elements_in list = listed_in (λ element. item_of element None) (inside list)

  -- the items of a parameter's list
  abbrev pub parameter_items : DerivationTree (Terminal × Token) → List (Item Rational)
  parameter_items list = listed_in parameter_item (inside list)

  -- the items of a scalar: one, which has its value and no positions
  abbrev pub scalar_in : DerivationTree (Terminal × Token) → List (Item Rational)
  scalar_in tree = record { at = place_in tree; parts = []; value = Some (parsed_value (inside tree)); bad_range = false } ∷ []
