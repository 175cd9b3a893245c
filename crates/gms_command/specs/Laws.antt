-- What arguments request that are written as a list of a FILE, options with their values, and the
-- flag `--ranges`.
use Rattle.std.specs.Prelude.{◌≡◌, ◌≤◌, ◌&&◌, ℕ, ◌==◌, Bool, true, false, not, if◌then◌else◌, List, [], ◌∷◌, ◌++◌, find, codes, Option, Some, None, option_map}
use Rattle.std.specs.List.{list_all, list_any}
use Rattle.std.specs.Str.{bytes_eq}
use Rattle.gms_command.specs.CommandLine.{Asked, asked, generated, in_file, origin_of, output_name, request_of, restarted, size_of}

-- whether the argument does not begin with `-`, which is byte 45
abbrev pub is_no_option : List ℕ → Bool
is_no_option [] = true
is_no_option (b ∷ word) = not (b == 45)

-- ---- parts of the arguments

-- an option that has a value
pub data Valued : Type 0 where
  out_option : Valued
  save_option : Valued
  restart_option : Valued
  generate_option : Valued

-- a part of a command line: the name of a FILE, an option with its value in the next argument, or
-- the flag `--ranges`
pub data Argument : Type 0 where
  file_name : List ℕ → Argument
  option_with : Valued → List ℕ → Argument
  ranges_flag : Argument

-- the name of an option, as it is written after `--`
abbrev pub option_name : Valued → List ℕ
option_name out_option = codes "out"
option_name save_option = codes "save"
option_name restart_option = codes "restart"
option_name generate_option = codes "generate"

-- the name by which the command finds a part of its command line: `file` for a FILE, the name of
-- the option, or `ranges` for the flag
abbrev pub part_name : Argument → List ℕ
part_name (file_name file) = codes "file"
part_name (option_with option value) = option_name option
part_name ranges_flag = codes "ranges"

-- the value of a part of a command line: the name of the file, the value of the option, or `true`
-- for the flag
abbrev pub part_value : Argument → List ℕ
part_value (file_name file) = file
part_value (option_with option value) = value
part_value ranges_flag = codes "true"

-- a part as it is written: one argument, or two for an option with its value
abbrev pub words_of_argument : Argument → List (List ℕ)
words_of_argument (file_name file) = file ∷ []
words_of_argument (option_with option value) = (codes "--" ++ option_name option) ∷ value ∷ []
words_of_argument ranges_flag = codes "--ranges" ∷ []

-- the arguments of a command line that has these parts, in order
abbrev pub all_words : List Argument → List (List ℕ)
all_words [] = []
all_words (part ∷ parts) = words_of_argument part ++ all_words parts

-- whether no file's name and no option's value begins with `-`
abbrev pub are_plain : List Argument → Bool
are_plain parts = list_all (λ part. is_no_option (part_value part)) parts

-- ---- what they request

-- whether one of these parts of the arguments (FILE, an option with its value, the flag) has this
-- name (`part_name`)
abbrev pub has_part : List ℕ → List Argument → Bool
has_part name parts = list_any (λ part. bytes_eq (part_name part) name) parts

-- whether no two of these parts of the arguments (FILE, an option with its value, the flag) have
-- the same name (`part_name`), and none has the name of a part in `before`
abbrev pub differ_from : List Argument → List Argument → Bool
differ_from before [] = true
differ_from before (part ∷ parts) = not (has_part (part_name part) before) && differ_from (before ++ part ∷ []) parts

-- whether no two of these parts of the arguments (FILE, an option with its value, the flag) have
-- the same name (`part_name`)
abbrev pub are_once : List Argument → Bool
are_once parts = differ_from [] parts

-- the value of the first of these parts of a command line that has this name (`part_name`); None if
-- no part has the name
abbrev pub value_of_option : List ℕ → List Argument → Option (List ℕ)
value_of_option name parts = option_map part_value (find (λ part. bytes_eq (part_name part) name) parts)

-- What the parts of a command line request: FILE, resumed from the save of `--restart` if that
-- occurs, or the source of `--generate`; the output by `--out`, or else the one named after the
-- source; the save's file by `--save`; ranges, if `--ranges` occurs. None unless exactly one of
-- FILE and `--generate` occurs, the latter with a size from 1 to 30 and no `--restart`.
abbrev pub requested : List Argument → Option Asked
requested parts =
    option_map (asked (has_part (codes "ranges") parts) (value_of_option (codes "save") parts) (value_of_option (codes "out") parts)) (origin_of (value_of_option (codes "file") parts) (value_of_option (codes "generate") parts) (value_of_option (codes "restart") parts))

-- A command line has parts: a FILE, options with their values, and the flag `--ranges`. If no
-- file's name and no option's value begins with `-`, its arguments request what the parts request,
-- in any order of the parts, but are refused if two parts are files, the same option, or the flag.
abbrev pub IsByParts : Type 0
IsByParts = (parts : List Argument) → are_plain parts ≡ true → request_of (all_words parts) ≡ (if are_once parts then requested parts else None)

-- ---- single forms

-- what a FILE alone requests: to run it, with the output file named after it; nothing is saved, and
-- no sensitivity ranges are printed
abbrev pub request_of_file : List ℕ → Asked
request_of_file file = record { source = in_file file; output = output_name file; save = None; ranges = false }

-- what `--generate` alone requests: to run the generated model of this size, with the output
-- `generate.lst`; nothing is saved, and no ranges are printed
abbrev pub run_of_model : ℕ → Asked
run_of_model size = record { source = generated size; output = codes "generate.lst"; save = None; ranges = false }

-- a FILE alone, whose name does not begin with `-`, is accepted, and requests its run
abbrev pub IsFile : Type 0
IsFile = (file : List ℕ) → is_no_option file ≡ true → request_of (file ∷ []) ≡ Some (request_of_file file)

-- `--out NAME FILE` requests the run of FILE, with the output file NAME; neither name begins with
-- `-`
abbrev pub IsOut : Type 0
IsOut = (name file : List ℕ) → is_no_option name ≡ true → is_no_option file ≡ true → request_of (codes "--out" ∷ name ∷ file ∷ []) ≡ Some (record (request_of_file file) { output = name })

-- `--save NAME FILE` requests the run of FILE, with the last state saved in the file NAME; neither
-- name begins with `-`
abbrev pub IsSave : Type 0
IsSave = (name file : List ℕ) → is_no_option name ≡ true → is_no_option file ≡ true → request_of (codes "--save" ∷ name ∷ file ∷ []) ≡ Some (record (request_of_file file) { save = Some name })

-- `--restart SAVED FILE` requests the run of FILE, which resumes from the state in the file SAVED;
-- neither name begins with `-`
abbrev pub NamesRestart : Type 0
NamesRestart = (saved file : List ℕ) → is_no_option saved ≡ true → is_no_option file ≡ true → request_of (codes "--restart" ∷ saved ∷ file ∷ []) ≡ Some (record (request_of_file file) { source = restarted saved file })

-- `--ranges FILE` requests the run of FILE, with ranges printed; the name does not begin with `-`
abbrev pub IsRanges : Type 0
IsRanges = (file : List ℕ) → is_no_option file ≡ true → request_of (codes "--ranges" ∷ file ∷ []) ≡ Some (record (request_of_file file) { ranges = true })

-- `--generate N` requests the run of the generated model of size N, and is refused if N is no size
-- from 1 to 30; N does not begin with `-`
abbrev pub IsGenerate : Type 0
IsGenerate = (text : List ℕ) → is_no_option text ≡ true → request_of (codes "--generate" ∷ text ∷ []) ≡ option_map run_of_model (size_of text)

-- a generated model that arguments request has a size from 1 to 30
abbrev pub HasSize : Type 0
HasSize = (words : List (List ℕ)) (request : Asked) (size : ℕ) → request_of words ≡ Some request → request.source ≡ generated size → (1 ≤ size) × (size ≤ 30)

-- an empty list of arguments is refused
abbrev pub IsRefusedEmpty : Type 0
IsRefusedEmpty = request_of [] ≡ None

-- `--generate N FILE` and `--generate N --restart SAVED` are refused; no name and no N begins with
-- `-`
abbrev pub IsRefusedBesideGenerate : Type 0
IsRefusedBesideGenerate = (text other : List ℕ) → is_no_option text ≡ true → is_no_option other ≡ true → (request_of (codes "--generate" ∷ text ∷ other ∷ []) ≡ None) × (request_of (codes "--generate" ∷ text ∷ codes "--restart" ∷ other ∷ []) ≡ None)

-- arguments with two FILEs, or with an option or the flag twice, are refused, whatever parts come
-- before, between and after these two, if no file's name and no option's value begins with `-`
abbrev pub IsRefusedTwice : Type 0
IsRefusedTwice = (before between after : List Argument) (one other : Argument) → part_name one ≡ part_name other → are_plain (before ++ one ∷ (between ++ other ∷ after)) ≡ true → request_of (all_words (before ++ one ∷ (between ++ other ∷ after))) ≡ None
