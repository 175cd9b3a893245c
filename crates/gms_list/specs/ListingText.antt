-- The text of a listing: the echo of the source, its errors or what the run shows, and the last
-- line (GAMS User's Guide, "GAMS Output"). The form of the lines is this project's own.
use Rattle.std.specs.Prelude.{ℕ, ◌+◌, Bool, true, false, ◌==◌, max, List, [], ◌∷◌, ◌++◌, length, map, flat_map, slice_get, option_to_list, Some, None, codes, decimal, if◌then◌else◌}
use Rattle.std.specs.List.{fold}
use Rattle.gq_extended.specs.Extended.{Extended, number, plus_infinity, minus_infinity, na}
use Rattle.gms_labels.specs.declared.place.Place.{Place}
use Rattle.gms_grammar.specs.Lines.{lines, content}
use Rattle.gms_ast.specs.declared.expression.Suffix.{Suffix}
use Rattle.gms_ast.specs.declared.expression.Suffix.TheVariants as suffix
use Rattle.gms_store.specs.declared.kind.SymbolKind.{SymbolKind}
use Rattle.gms_store.specs.declared.kind.SymbolKind.TheVariants.{Set, Parameter, Variable, Equation}
use Rattle.gms_eval.specs.declared.stop.StopKind.{StopKind}
use Rattle.gms_eval.specs.declared.stop.StopKind.TheVariants.{DomainSize, TooManyRows, TooManyColumns}
use Rattle.gms_eval.specs.Bindings.{Pairs}
use Rattle.gms_eval.specs.Faults.{Fault, stop_code, stop_name}
use Rattle.gms_event.specs.Events.{Shown, Event, displays, solves, aborts, stops}
use Rattle.gms_parse.specs.declared.fault.SourceError.{SourceError}
use Rattle.gms_parse.specs.declared.fault.SourceError.TheVariants.{TooLong}
use Rattle.gms_parse.specs.declared.fault.SourceFault.{SourceFault}
use Rattle.gms_parse.specs.Faults.{source_error_code as source_code, source_error_name as source_name}
use Rattle.gms_check.specs.declared.error.CompileError.{CompileError}
use Rattle.gms_check.specs.Errors.{error_code as kind_code, error_name as kind_name}
use Rattle.gms_fmt.specs.Columns.{right_in, left_in}
use Rattle.gms_fmt.specs.ElementTexts.{label_in_table, dotted_text}
use Rattle.lp_core.specs.declared.answer.Answer.{Answer}
use Rattle.gms_list.specs.Amounts.{line_of, rounded_text}
use Rattle.gms_list.specs.SolveText.{solve_text}
use Rattle.gq_number.specs.Number.{Number}

-- the text of a place in the source
abbrev pub place_text : Place → List ℕ
place_text at = codes " at line " ++ decimal at.line ++ codes " column " ++ decimal at.column

-- ---- the echo

-- the echo of a line: its number, right-aligned in 6 characters, two blanks and the line
abbrev pub numbered_line : ℕ → List ℕ → List ℕ
numbered_line n line = line_of (right_in 6 (decimal n) ++ codes "  " ++ line)

-- the echo of lines, in order, where the first one has the number n
abbrev pub numbered_from : ℕ → List (List ℕ) → List ℕ
numbered_from n [] = []
numbered_from n (line ∷ others) = numbered_line n line ++ numbered_from (n + 1) others

-- the echo of a source whose first line has the number n: its lines without their ends, each after
-- its number
abbrev pub echo_text : ℕ → List ℕ → List ℕ
echo_text n source = numbered_from n (map content (lines source))

-- ---- errors

-- the line of the fault of a source that is no program: the number, the name and the place of the
-- fault
abbrev pub source_error_text : SourceFault → List ℕ
source_error_text fault =
    line_of (codes "*** Source error " ++ decimal (source_code fault.error) ++ codes " " ++ source_name fault.error ++ place_text fault.at)

-- the line of a fault for which a save cannot be restored: the fault's number `code`, its name
-- `name` and its place `at`
abbrev pub save_error_text : ℕ → List ℕ → Place → List ℕ
save_error_text code name at =
    line_of (codes "*** Source error " ++ decimal code ++ codes " " ++ name ++ place_text at)

-- the line of a compile error of a program: the number, the name and the place of the error
abbrev pub compile_error_text : CompileError → List ℕ
compile_error_text error =
    line_of (codes "*** Compile error " ++ decimal (kind_code error.kind) ++ codes " " ++ kind_name error.kind ++ place_text error.at)

-- the lines of the compile errors of a program, in order
abbrev pub compile_errors_text : List CompileError → List ℕ
compile_errors_text errors = flat_map compile_error_text errors

-- ---- values

-- the text of a value: a number rounded to this number of decimals, or the word for any other value
abbrev pub rounded_value_text : ℕ → Extended → List ℕ
rounded_value_text decimals (number x) = rounded_text decimals x
rounded_value_text decimals plus_infinity = codes "+INF"
rounded_value_text decimals minus_infinity = codes "-INF"
rounded_value_text decimals na = codes "NA"

-- ---- what is displayed

-- the word for the kind of a displayed symbol, which has indices if `indexed`; a parameter without
-- indices and the status of a model, the last case, are scalars
abbrev pub kind_text : SymbolKind → Bool → List ℕ
kind_text Set indexed = codes "SET"
kind_text Parameter true = codes "PARAMETER"
kind_text Variable indexed = codes "VARIABLE"
kind_text Equation indexed = codes "EQUATION"
kind_text kind indexed = codes "SCALAR"

-- the text of a suffix after a name; empty if there is none
abbrev pub suffix_text : Suffix → List ℕ
suffix_text suffix.None = []
suffix_text suffix.Lo = codes ".lo"
suffix_text suffix.Up = codes ".up"
suffix_text suffix.L = codes ".l"
suffix_text suffix.M = codes ".m"
suffix_text suffix.Fx = codes ".fx"
suffix_text suffix.ModelStat = codes ".modelstat"
suffix_text suffix.SolveStat = codes ".solvestat"

-- the entries of a displayed symbol: tuples of labels, each label by its number, with their values
abbrev pub TupleValues : Type 0
TupleValues = List (List ℕ × Extended)

-- the line of a displayed symbol with indices that has no entries
abbrev pub nothing_text : SymbolKind → List ℕ
nothing_text Set = line_of (codes "  (empty)")
nothing_text kind = line_of (codes "  (all zero)")

-- the text of the value of an entry, rounded to this number of decimals
abbrev pub number_text : ℕ → List ℕ × Extended → List ℕ
number_text decimals entry = rounded_value_text decimals entry.1

-- the text after the name of a displayed symbol without indices: its value
abbrev pub single_text : Shown → List ℕ
single_text item = line_of (codes " = " ++ flat_map (number_text item.decimals) item.entries)

-- ---- the stop of a run

-- whether a stop of this kind has a count: how many elements, rows or columns there are, which are
-- more than there may be
abbrev pub has_count : StopKind → Bool
has_count DomainSize = true
has_count TooManyRows = true
has_count TooManyColumns = true
has_count kind = false

-- the text of the count of a stop (how many elements, rows or columns there are, which are too
-- many); empty for a kind without a count
abbrev pub count_text : StopKind → ℕ → List ℕ
count_text kind count = if has_count kind then codes " count " ++ decimal count else []

-- ---- texts with the names and the labels of a program

module _ (labels : List (List ℕ)) where
  -- the length of the longest text of the tuples of entries; 0 without entries
  abbrev pub tuple_width : TupleValues → ℕ
  tuple_width entries = fold (λ width entry. max (length (dotted_text labels entry.0)) width) 0 entries

  -- the line of an entry of a set: its tuple
  abbrev pub member_text : List ℕ × Extended → List ℕ
  member_text entry = line_of (codes "  " ++ dotted_text labels entry.0)

  -- the line of an entry of a symbol that is no set: its tuple, left-aligned in `width` characters,
  -- and its value, rounded to `decimals` decimals and right-aligned in 14 characters
  abbrev pub entry_text : ℕ → ℕ → List ℕ × Extended → List ℕ
  entry_text width decimals entry =
      line_of (codes "  " ++ left_in width (dotted_text labels entry.0) ++ codes " " ++ right_in 14 (rounded_value_text decimals entry.1))

  -- the lines of the entries of a displayed symbol of this kind; their values, which a set does not
  -- have, are rounded to `decimals` decimals
  abbrev pub entries_text : SymbolKind → ℕ → TupleValues → List ℕ
  entries_text Set decimals entries = flat_map member_text entries
  entries_text kind decimals entries = flat_map (entry_text (tuple_width entries) decimals) entries

  -- the text after the name of a displayed symbol: if it has no indices its value; otherwise the
  -- end of the line, and then the lines of its entries, or one line which says that it has none
  abbrev pub values_text : Shown → List ℕ
  values_text item =
      if item.indexed then
      line_of [] ++ (if length item.entries == 0 then nothing_text item.kind else entries_text item.kind item.decimals item.entries) else
      single_text item

module _ (names labels : List (List ℕ)) where
  -- the text of a displayed symbol: its kind, its name with its suffix, and its values
  abbrev pub symbol_text : ℕ → Shown → List ℕ
  symbol_text name item =
      kind_text item.kind item.indexed ++ codes " " ++ label_in_table names name ++ suffix_text item.suffix ++ values_text labels item

  -- the text of an item of a `display` or an `abort`: the number of the statement's line, and a
  -- text or a symbol with its values
  abbrev pub item_text : ℕ → Shown → List ℕ
  item_text line item =
      codes "---- " ++ decimal line ++ codes " " ++ elim item.name [ None ↦ line_of item.text | Some name ↦ symbol_text name item ]

  -- the text of the items of a `display` or an `abort`, in order
  abbrev pub items_text : ℕ → List Shown → List ℕ
  items_text line items = flat_map (item_text line) items

  -- the text of a controlled set and its label: the set's name, `=` and the label
  abbrev pub pair_text : ℕ × ℕ → List ℕ
  pair_text pair = label_in_table names pair.0 ++ codes "=" ++ label_in_table labels pair.1

  -- the text of the controlled sets after the first, each with its label
  abbrev pub further_pairs : Pairs → List ℕ
  further_pairs pairs = flat_map (λ pair. codes "," ++ pair_text pair) pairs

  -- the text of these sets, which are controlled where a run stops by a fault, each with its label;
  -- empty if there are none
  abbrev pub pairs_text : Pairs → List ℕ
  pairs_text [] = []
  pairs_text (pair ∷ pairs) = codes " with " ++ pair_text pair ++ further_pairs pairs

  -- the line of the stop of a run, an execution error: its kind and place, the labels of controlled
  -- sets, and, if its kind has one, the count of elements, rows or columns, which are too many
  abbrev pub stop_text : Fault → List ℕ
  stop_text fault =
      line_of (codes "*** Execution error " ++ decimal (stop_code fault.kind) ++ codes " " ++ stop_name fault.kind ++ place_text fault.at ++ pairs_text fault.binding ++ count_text fault.kind fault.count)

  -- ---- events

  -- The text of an event of a run, whose solves have these answers: `solved.answer` is the index of
  -- a solve's answer in the list, and a solve without one has no text. `limit` bounds the
  -- numerators and denominators of the numbers that the run computes with.
  abbrev pub event_text : ℕ → List (Answer Number) → Event → List ℕ
  event_text limit answers (displays line items) = items_text line items
  event_text limit answers (aborts line items) = items_text line items
  event_text limit answers (stops fault) = stop_text fault
  event_text limit answers (solves solved) = flat_map (solve_text names labels limit solved) (option_to_list (slice_get answers solved.answer))

  -- the text of the events of a run, in order; `answers` are the answers for the solves of the run,
  -- and `limit` bounds the numerators and denominators of the numbers that the run computes with
  abbrev pub events_text : ℕ → List (Answer Number) → List Event → List ℕ
  events_text limit answers events = flat_map (event_text limit answers) events

-- ---- the whole listing

-- the last line of a listing: the exit status `status`, and `made`, the number of solves
abbrev pub end_text : ℕ → ℕ → List ℕ
end_text status made = line_of (codes "END status " ++ decimal status ++ codes " solves " ++ decimal made)

-- the listing of a file whose run shows these events and ends with this exit status: the echo, the
-- text of the events, and the last line. `line` is the number of the file's first line, `names` and
-- `labels` have the texts of names and labels by their numbers, `answers` has the answer to each
-- solve of the run, in order, and `limit` bounds the numerators and denominators of the numbers
-- that the run computes with
abbrev pub run_listing : List (List ℕ) → List (List ℕ) → ℕ → ℕ → List ℕ → List (Answer Number) → List Event → ℕ → List ℕ
run_listing names labels limit line file answers events status =
    echo_text line file ++ events_text names labels limit answers events ++ end_text status (length answers)

-- whether a source with this error has an echo: one that is too long has none
abbrev pub has_echo : SourceError → Bool
has_echo TooLong = false
has_echo error = true

-- the echo of a file whose source has this error, where the first line has the number `line`; empty
-- if the source is too long
abbrev pub refused_echo : SourceError → ℕ → List ℕ → List ℕ
refused_echo error line file = if has_echo error then echo_text line file else []

-- the listing of a file whose source is no program: the echo, where the first line has the number
-- `line`, the fault, and the last line, with the exit status 2 and no solves
abbrev pub refused_listing : ℕ → List ℕ → SourceFault → List ℕ
refused_listing line file fault = refused_echo fault.error line file ++ source_error_text fault ++ end_text 2 0

-- the listing of a file whose program has errors: the echo, where the first line has the number
-- `line`, the errors, and the last line, with the exit status 2 and no solves
abbrev pub errors_listing : ℕ → List ℕ → List CompileError → List ℕ
errors_listing line file errors = echo_text line file ++ compile_errors_text errors ++ end_text 2 0
