-- Tables among the tokens of a program: the labels and the items that their lines give, and their
-- first fault (GAMS User's Guide, "Data Entry: Parameters, Scalars and Tables").
use Rattle.std.specs.Prelude.{◌≡◌, ◌⊎◌, ℕ, false, List, [], ◌∷◌, ◌++◌, map, Some}
use Rattle.gq_extended.specs.declared.extended.Ext.TheVariants as ext
use Rattle.gq_number.specs.Number.{Number}
use Rattle.gms_lex.specs.declared.token.Token.{Token}
use Rattle.gms_lex.specs.TokenTexts.{token_text}
use Rattle.gms_grammar.specs.declared.terminal.Terminal.{Terminal}
use Rattle.gms_ast.specs.declared.declaration.Item.{Item}
use Rattle.gms_table.specs.declared.entry.Entry.{Entry}
use Rattle.gms_table.specs.declared.fault.TableFault.{TableFault}
use Rattle.gms_table.specs.Words.{Word, words_of}
use Rattle.gms_table.specs.WordLabels.{labels_of_word}
use Rattle.gms_table.specs.CellNumbers.{unsigned, signed_number}
use Rattle.gms_table.specs.TableEntries.{TablePart, name, cell, met, table_of, label_texts, AreEntries, IsFirstPartFault}
use Rattle.gms_expressions.specs.ExpressionTrees.{or_0}
use Rattle.gms_expressions.specs.Valuations.{number_meant}
use Rattle.gms_labels.specs.declared.place.Place.{Place}
use Rattle.gms_labels.specs.Labels.{place_of}
use Rattle.gms_parse.specs.declared.fault.SourceError.TheVariants.{Table}
use Rattle.gms_table.specs.declared.fault.TableError.TheVariants.{NoHeading}
use Rattle.gms_parse.specs.declared.fault.SourceFault.{SourceFault}
use Rattle.gms_parse.specs.Faults.{error_of_table}

-- the words of a table, each as a heading, a row label or a number of a row, given the lines of the
-- table, each of which is one token
abbrev pub parts_of_tokens : List ℕ → List (Terminal × Token) → List TablePart
parts_of_tokens source lines = table_of (map (λ line. words_of line.1.at.line (token_text source line.1)) lines)

-- the labels in the headings and row labels of a table, in order, given its lines, each of which is
-- one token
abbrev pub labels_of_lines : List ℕ → List (Terminal × Token) → List (List ℕ)
labels_of_lines source lines = label_texts (parts_of_tokens source lines)

-- The fault of a table with these lines, where `at` is the place of its name, `labels` are those of
-- the program before it, and `limit` is the limit of the size of numbers. It is `NoHeading` at that
-- place if none of the lines has a word, else the first fault in the lines.
abbrev pub IsTableLineFault : ℕ → List ℕ → Place → List (List ℕ) → List (Terminal × Token) → SourceFault → Type 0
IsTableLineFault limit source at labels lines fault =
    ((parts_of_tokens source lines ≡ []) × (fault ≡ record { error = Table NoHeading; at = at })) ⊎ ((found : TableFault) × IsFirstPartFault limit labels (parts_of_tokens source lines) found × (fault ≡ record { error = error_of_table found.error; at = found.at }))

-- the positions of an element that has these labels, one at each position
abbrev pub labelled_positions : List ℕ → List (List ℕ)
labelled_positions labels = map (λ label. label ∷ []) labels

-- an entry of a table as an item of data: one label at each position, first those of the row, then
-- those of the heading. The item has the entry's place and number, and no invalid range of labels.
abbrev pub item_of_entry : {N : Type 0} → Entry N → Item N
item_of_entry entry =
    record { at = entry.at; parts = labelled_positions (entry.row ++ entry.column); value = Some (ext.Number entry.value); bad_range = false }

-- `items` are the items of a table with these lines, one for each of its numbers, in order: those
-- of the table's entries (`AreEntries`), whose values are exact numbers (`λ x. x`). `labels` are
-- all labels of the source, and `limit` is the limit of the size of numbers.
abbrev pub AreTableItems : ℕ → List ℕ → List (List ℕ) → List (Terminal × Token) → List (Item Number) → Type 0
AreTableItems limit source labels lines items =
    (entries : List (Entry Number)) × AreEntries limit (λ x. x) labels (parts_of_tokens source lines) entries × (items ≡ map item_of_entry entries)

-- the numbers of these texts in the table `labels`, letter case ignored; 0 for a text that it lacks
abbrev pub numbers_of_labels : List (List ℕ) → List (List ℕ) → List ℕ
numbers_of_labels labels texts = map (λ text. or_0 (place_of labels text)) texts

-- the entry of the number `word` in the row with the label `row`, under the heading `heading`;
-- `labels` is the table of labels
abbrev pub table_entry : List (List ℕ) → Word → Word → Word → Entry Number
table_entry labels row word heading =
    record { at = word.at; row = numbers_of_labels labels (labels_of_word row); column = numbers_of_labels labels (labels_of_word heading); value = signed_number word.text (number_meant (unsigned word.text)) }

-- the entry of the number `word` in the row with the label `row`, under the first of these
-- headings; `labels` is the table of labels. Without headings, which has no meaning, `row` is in
-- place of the heading
abbrev pub entry_under : List (List ℕ) → Word → Word → List Word → Entry Number
entry_under labels row word [] = table_entry labels row word row
entry_under labels row word (heading ∷ others) = table_entry labels row word heading

-- the entries that the numbers of a table give, each under the first heading with which the number
-- shares a column of the source; `labels` is the table of labels
abbrev pub entries_in : List (List ℕ) → List TablePart → List (Entry Number)
entries_in labels [] = []
entries_in labels (name word ∷ parts) = entries_in labels parts
entries_in labels (cell row headings word ∷ parts) = entry_under labels row word (met headings word) ∷ entries_in labels parts

-- the items that the lines of a table give, one for each of its numbers (`entries_in`), where
-- `labels` are all labels of the source
abbrev pub items_given : List ℕ → List (List ℕ) → List (Terminal × Token) → List (Item Number)
items_given source labels lines = map item_of_entry (entries_in labels (parts_of_tokens source lines))
