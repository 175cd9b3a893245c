-- The arguments of the command line, what they request, and what is printed on standard output.
use Rattle.std.specs.Prelude.{ℕ, ◌-◌, Bool, true, false, if◌then◌else◌, List, [], ◌∷◌, ◌++◌, length, take, drop, map, find, Option, Some, None, option_map, option_and_then, unwrap_or, string_bytes, codes, decimal}
use Rattle.std.specs.declared.string.String.{String}
use Rattle.std.specs.List.{range_with_len}
use Rattle.std.specs.Option.{option_map_or}
use Rattle.std.specs.Str.{bytes_eq}
use Rattle.clap.specs.Simple.{on_top}
use Rattle.clap.specs.Words.{App, Row, Rule, first_of, matches_of, new_app, new_rule, takes, with_rule}
use Rattle.clap.specs.declared.builder.action.ArgAction.TheVariants.{SetTrue}
use Rattle.gms_command.specs.declared.command_line.Source.{Source}
use Rattle.gms_command.specs.declared.command_line.Source.TheVariants.{File, Restart, Generate}
use Rattle.gms_command.specs.declared.command_line.Request.{Request}

-- a text as a line: followed by a line feed
abbrev pub printed_line : List ℕ → List ℕ
printed_line text = text ++ 10 ∷ []

-- the bytes of each argument
abbrev pub texts : {A : Type 0} → List (String A) → List (List ℕ)
texts words = map string_bytes words

-- ---- the command

-- the rule by which the command accepts an option `--name` with one value
abbrev pub option : List ℕ → Rule
option name = record (new_rule name) { long = Some name }

-- the rule by which the command accepts a flag `--name` without a value
abbrev pub flag : List ℕ → Rule
flag name = record (new_rule name) { long = Some name; action = Some SetTrue }

-- the command with the arguments that name its source: an optional FILE, and `--generate` and
-- `--restart` with one value each; the program's name is not among the arguments
abbrev pub with_source : App
with_source =
    with_rule (with_rule (with_rule (on_top (λ s. record s { no_binary_name = true }) (new_app (codes "gams25"))) (new_rule (codes "file"))) (option (codes "generate"))) (option (codes "restart"))

-- the command without the flag `--ranges`: its source by FILE, `--generate` and `--restart`, and
-- also `--out` and `--save`, which have one value each
abbrev pub with_values : App
with_values = with_rule (with_rule with_source (option (codes "out"))) (option (codes "save"))

-- the whole command: FILE, the options `--generate`, `--restart`, `--out` and `--save`, and the
-- flag `--ranges`
abbrev pub gams25 : App
gams25 = with_rule with_values (flag (codes "ranges"))

-- the rows that the command finds in the arguments, each with a name (of an option, the flag or
-- FILE) and its values; None if the command does not accept the arguments
abbrev pub rows_taken : List (List ℕ) → Option (List Row)
rows_taken words = if takes gams25 words then Some (matches_of gams25 words) else None

-- ---- what arguments request

-- the size of a generated model that a text names: the number from 1 to 30 with exactly these
-- decimal digits; None for any other text
abbrev pub size_of : List ℕ → Option ℕ
size_of text = find (λ size. bytes_eq (decimal size) text) (range_with_len 1 30)

-- where a source comes from: the file of this name; the saved state in the first file, from which
-- the second one resumes; or a generated model of this size
pub data Origin : Type 0 where
  in_file : List ℕ → Origin
  restarted : List ℕ → List ℕ → Origin
  generated : ℕ → Origin

-- where the source comes from, by the values of FILE, `--generate` and `--restart`; None unless
-- exactly one of FILE and `--generate` is given, with a size for `--generate` and no `--restart`
-- beside it
abbrev pub origin_of : Option (List ℕ) → Option (List ℕ) → Option (List ℕ) → Option Origin
origin_of (Some file) None None = Some (in_file file)
origin_of (Some file) None (Some saved) = Some (restarted saved file)
origin_of None (Some text) None = option_map generated (size_of text)
origin_of _ _ _ = None

-- the name of the output file for a program that is read from FILE: FILE with a `.gms` at its end
-- replaced by `.lst`, or, without one, with `.lst` appended
abbrev pub output_name : List ℕ → List ℕ
output_name file =
    if bytes_eq (drop (length file - 4) file) (codes ".gms") then take (length file - 4) file ++ codes ".lst" else file ++ codes ".lst"

-- the name of the output file if `--out` is not given: for FILE, also in a restarted run, the one
-- that results from its name (`output_name`), for a generated model `generate.lst`
abbrev pub own_output : Origin → List ℕ
own_output (in_file file) = output_name file
own_output (restarted saved file) = output_name file
own_output (generated size) = codes "generate.lst"

-- What accepted arguments request: a source, the name of the output file, in which the listing is
-- written, the name of the file in which the last state is saved, if any, and whether sensitivity
-- ranges of the solves are printed (`ranges`).
pub record Asked : Type 0 where
  pub source : Origin
  pub output : List ℕ
  pub save : Option (List ℕ)
  pub ranges : Bool

-- the request with this source, this flag `ranges` and this name of a file to save in, if any; the
-- output file has the name `out` that `--out` gives, or else the name that results from the source
abbrev pub asked : Bool → Option (List ℕ) → Option (List ℕ) → Origin → Asked
asked ranges save out source =
    record { source = source; output = unwrap_or out (own_output source); save = save; ranges = ranges }

-- whether a flag is given: its value is `true`
abbrev pub is_flag_given : Option (List ℕ) → Bool
is_flag_given value = option_map_or (λ text. bytes_eq text (codes "true")) value false

-- the request of the names and values that the command finds in the arguments; None if FILE,
-- `--generate` and `--restart` give no source (`origin_of`)
abbrev pub request_in : List Row → Option Asked
request_in rows =
    option_map (asked (is_flag_given (first_of (codes "ranges") rows)) (first_of (codes "save") rows) (first_of (codes "out") rows)) (origin_of (first_of (codes "file") rows) (first_of (codes "generate") rows) (first_of (codes "restart") rows))

-- what the arguments request; None, that is, they are refused, if they do not fit the options, the
-- flag and the one FILE of the command (`rows_taken`), do not name exactly one source, give
-- `--generate` a value that is no size from 1 to 30, or give both `--generate` and `--restart`
abbrev pub request_of : List (List ℕ) → Option Asked
request_of words = option_and_then request_in (rows_taken words)

-- ---- what the program requests

-- the view of a source of a request: the name of the file to run; the name of the file with a saved
-- state and that of the file that resumes from it; or the size of the generated model
abbrev pub origin : Source → Origin
origin (File name) = in_file name.now
origin (Restart saved file) = restarted saved.now file.now
origin (Generate size) = generated size

-- the view of a request: its source; the name of its output file, which results from the source if
-- `--out` is not given; the file in which to save, if any; and whether sensitivity ranges of the
-- solves are printed
abbrev pub asked_by : Request → Asked
asked_by request =
    asked request.ranges (option_map (λ name. name.now) request.save) (option_map (λ name. name.now) request.out) (origin request.source)

-- ---- lines

-- the line that is printed if the arguments are refused
abbrev pub usage_line : List ℕ
usage_line = printed_line (codes "usage: gams25 [--ranges] [--save FILE] [--restart FILE] [--out FILE] FILE | gams25 [--ranges] [--save FILE] [--out FILE] --generate N")

-- the line that is printed if this file, the input, cannot be read
abbrev pub read_fault_line : List ℕ → List ℕ
read_fault_line file = printed_line (codes "cannot read " ++ file)

-- the line that is printed for a generated model: its size, which is the number of plants and that
-- of markets, the status of the model, the objective's level as a text, and the number of pivots
abbrev pub generated_line : ℕ → ℕ → List ℕ → ℕ → List ℕ
generated_line size model_status objective pivots =
    printed_line (codes "generated " ++ decimal size ++ codes " by " ++ decimal size ++ codes ", model status " ++ decimal model_status ++ codes ", objective " ++ objective ++ codes ", pivots " ++ decimal pivots)

-- the line that is printed at the end: the number of the status with which the run ends, the number
-- of its solves, and the name of the output file
abbrev pub closing_line : ℕ → ℕ → List ℕ → List ℕ
closing_line status solves output =
    printed_line (codes "status " ++ decimal status ++ codes ", solves " ++ decimal solves ++ codes ", output " ++ output)

-- the line that is printed before the ranges of a solve, by its number from 1
abbrev pub ranges_line : ℕ → List ℕ
ranges_line solve = printed_line (codes "ranges of solve " ++ decimal solve)

-- the line of a range: `what`, which is `right` for a row's right side or `cost` for a column's
-- cost; `element`, the text of the row or column, such as `x(seattle,chicago)`; and the texts of
-- the range's ends, with `-INF` for a missing lower end and `+INF` for a missing upper end
abbrev pub range_line : List ℕ → List ℕ → Option (List ℕ) → Option (List ℕ) → List ℕ
range_line what element low high =
    printed_line (codes "  " ++ what ++ codes " " ++ element ++ codes " from " ++ unwrap_or low (codes "-INF") ++ codes " to " ++ unwrap_or high (codes "+INF"))

-- the line of a range that is not computed, as a number in its computation exceeds the limit on the
-- size of numbers: `what`, which is `right` for a row's right side or `cost` for a column's cost,
-- and `element`, the text of the row or column
abbrev pub not_shown_line : List ℕ → List ℕ → List ℕ
not_shown_line what element = printed_line (codes "  " ++ what ++ codes " " ++ element ++ codes " not shown")
