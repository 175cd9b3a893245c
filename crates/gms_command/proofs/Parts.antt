-- Words that are written part by part.
use mathlib.Core.Bool.{and-false, and-true, or-false, or-true}
use Rattle.std.proofs.lemmas.Bool.{and_parts, not-true}
use Rattle.std.proofs.Common.{◌≡◌, ◌∙◌, ◌&&◌, ◌||◌, ℕ, Bool, true, false, not, List, [], ◌∷◌, ◌++◌, map, Option, Some, None, option_map, cond, is_some, refl, sym, ap, ap₂, append_assoc, true≢false, if◌then◌else◌}
use Rattle.std.specs.Prelude.{codes, find, fold, drop, option_and_then, slice_get}
use Rattle.std.specs.Option.{option_map_or}
use Rattle.std.specs.Str.{bytes_eq}
use Rattle.clap.proofs.OnLiterals.{clap_on_literals}
use Rattle.clap.specs.Lexer.{long_of}
use Rattle.clap.specs.Walk.{Held, Row, Rule, Step, Text, Waiting, Walk, at_row, finished, first_of, has_row, idle, long_or_other, more_values, nothing_held, option, plain_word, pushed, settled, settled_rows, short_or_plain, trailing, walk, walk_from, walked, with_default, with_values, without, word_met, after_step}
use Rattle.clap.specs.Simple.{Shape, built, entered}
use Rattle.clap.specs.Takes.{step_passes, bundle_passes, built_takes, entered_passes, flag_word_passes, level_passes, settle_passes, takes, turn_passes, walk_passes}
use Rattle.clap.specs.declared.parser.matches.ValueSource.TheVariants.{CommandLine, DefaultValue}
use Rattle.clap.specs.declared.builder.value_parser.Reading.TheVariants.{AsWritten}
use Rattle.gms_command.specs.CommandLine.{Asked, asked, gams25, is_flag_given, origin_of, request_in, request_of}
use Rattle.gms_command.specs.Laws.{IsByParts, Argument, Valued, all_words, are_once, are_plain, differ_from, file_name, has_part, is_no_option, option_name, option_with, part_name, part_value, ranges_flag, requested, value_of_option}
use Rattle.gms_command.specs.Laws.{out_option, save_option, restart_option, generate_option}
use Rattle.gms_command.proofs.PlainWords.{no_dashes, no_long, no_short, shape}

-- ---- tests

and_assoc : (a b c : Bool) → ((a && b) && c) ≡ (a && (b && c))
and_assoc true b c = refl
and_assoc false b c = refl

once : (b : Bool) → ((not b || false) && true) ≡ not b
once true = refl
once false = refl

either_way : {A : Type 0} (b : Bool) (x : A) → (if b then x else x) ≡ x
either_way true x = refl
either_way false x = refl

-- where a test fails nothing after it counts
guarded : (a b c : Bool) → (a ≡ true → b ≡ c) → (a && b) ≡ (a && c)
guarded true b c e = e refl
guarded false b c e = refl

-- ---- the rows of parts

abbrev row : Argument → Row
row part = record {
  id = part_name part;
  values = part_value part ∷ [];
  count = None;
  source = Some CommandLine;
  reading = AsWritten;
}

abbrev rows : List Argument → List Row
rows parts = map row parts

rows_append : (parts others : List Argument) → rows (parts ++ others) ≡ rows parts ++ rows others
rows_append [] others = refl
rows_append (part ∷ parts) others = ap (λ (rest : List Row). row part ∷ rest) (rows_append parts others)

given_row : (name : Text) (parts : List Argument) → has_row name (rows parts) ≡ has_part name parts
given_row name [] = refl
given_row name (part ∷ parts) = ap (λ (b : Bool). bytes_eq (part_name part) name || b) (given_row name parts)

pub given_append : (name : Text) (parts others : List Argument) → has_part name (parts ++ others) ≡ (has_part name parts || has_part name others)
given_append name [] others = refl
given_append name (part ∷ parts) others = by_test (given_append name parts others) (bytes_eq (part_name part) name)
  where
    by_test : has_part name (parts ++ others) ≡ (has_part name parts || has_part name others) → (b : Bool) → (b || has_part name (parts ++ others)) ≡ ((b || has_part name parts) || has_part name others)
    by_test later true = refl
    by_test later false = later

-- where no row has the name, a change of its row adds one
absent : (name : Text) (change : Row → List Row) (missing all : List Row) → has_row name all ≡ false → at_row name change missing all ≡ all ++ missing
absent name change missing [] none = refl
absent name change missing (r ∷ rs) none = by_test (absent name change missing rs) (bytes_eq r.id name) none
  where
    by_test : (has_row name rs ≡ false → at_row name change missing rs ≡ rs ++ missing) → (b : Bool) → (b || has_row name rs) ≡ false → (if b then change r ++ rs else r ∷ at_row name change missing rs) ≡ r ∷ (rs ++ missing)
    by_test later true none = absurd (true≢false none)
    by_test later false none = ap (λ (rest : List Row). r ∷ rest) (later none)

nothing_more : (all : List Row) → all ++ [] ≡ all
nothing_more [] = refl
nothing_more (r ∷ rs) = ap (λ (rest : List Row). r ∷ rest) (nothing_more rs)

added : (part : Argument) (all : List Row) → has_row (part_name part) all ≡ false
    → with_values (part_name part) AsWritten CommandLine (part_value part ∷ []) (without (part_name part) all) ≡ all ++ row part ∷ []
added part all none =
    ap (λ (kept : List Row). with_values (part_name part) AsWritten CommandLine (part_value part ∷ []) kept) (absent (part_name part) (λ _. []) [] all none ∙ nothing_more all) ∙ absent (part_name part) (more_values CommandLine (part_value part ∷ [])) (row part ∷ []) all none

-- ---- states between parts

-- the part was read by its value, which is used when the next part begins
abbrev Waits : Option Argument → Type 0
Waits (Some ranges_flag) = ⊥
Waits _ = Unit {0}

abbrev pending : Option Argument → Option (Text × List Text)
pending last = option_map (λ part. (part_name part, part_value part ∷ [])) last

abbrev seen : List Argument → Option Argument → List Argument
seen before None = before
seen before (Some part) = before ++ part ∷ []

abbrev is_new : List Argument → Option Argument → Bool
is_new before None = true
is_new before (Some part) = not (has_part (part_name part) before)

abbrev place : Bool → ℕ
place true = 2
place false = 1

abbrev held : List Argument → Option Argument → Held
held before last = record { rows = rows before; pending = pending last; skip = 0 }

abbrev state : List Argument → Option Argument → Walk
state before last = record {
  held = held before last;
  waiting = idle;
  position = place (has_part (codes "file") (seen before last));
  is_trailing = false;
  stopped = None;
}

settles : (before : List Argument) (last : Option Argument) → Waits last → settle_passes shape.rules false (held before last) ≡ is_new before last
settles before None w = refl
settles before (Some ranges_flag) w = absurd w
settles before (Some (file_name file)) w = once (has_row (codes "file") (rows before)) ∙ ap (λ (b : Bool). not b) (given_row (codes "file") before)
settles before (Some (option_with out_option value)) w = once (has_row (codes "out") (rows before)) ∙ ap (λ (b : Bool). not b) (given_row (codes "out") before)
settles before (Some (option_with save_option value)) w = once (has_row (codes "save") (rows before)) ∙ ap (λ (b : Bool). not b) (given_row (codes "save") before)
settles before (Some (option_with restart_option value)) w = once (has_row (codes "restart") (rows before)) ∙ ap (λ (b : Bool). not b) (given_row (codes "restart") before)
settles before (Some (option_with generate_option value)) w = once (has_row (codes "generate") (rows before)) ∙ ap (λ (b : Bool). not b) (given_row (codes "generate") before)

-- the rows after a new part
gains : (before : List Argument) (part : Argument) → not (has_part (part_name part) before) ≡ true
    → with_values (part_name part) AsWritten CommandLine (part_value part ∷ []) (without (part_name part) (rows before)) ≡ rows (before ++ part ∷ [])
gains before part new =
    added part (rows before) (given_row (part_name part) before ∙ not-true (has_part (part_name part) before) new) ∙ sym (rows_append before (part ∷ []))

settled_as : (before : List Argument) (last : Option Argument) → Waits last → is_new before last ≡ true → settled_rows shape.rules (pending last) (rows before) ≡ rows (seen before last)
settled_as before None w new = refl
settled_as before (Some ranges_flag) w new = absurd w
settled_as before (Some (file_name file)) w new = gains before (file_name file) new
settled_as before (Some (option_with out_option value)) w new = gains before (option_with out_option value) new
settled_as before (Some (option_with save_option value)) w new = gains before (option_with save_option value) new
settled_as before (Some (option_with restart_option value)) w new = gains before (option_with restart_option value) new
settled_as before (Some (option_with generate_option value)) w new = gains before (option_with generate_option value) new

-- ---- one word

-- an argument that does not begin with `-` is a value, or goes to the option that waits
met : (c : List Rule) (position : ℕ) (word : Text) (h : Held) → is_no_option word ≡ true → word_met c [] false idle position word h ≡ plain_word c idle word h
met c position word h plain =
    ap₂ (λ (d : Bool) (l : Option (Text × Option Text)). if d then (h, trailing position) else long_or_other c idle word l h) (no_dashes word plain) (no_long word plain) ∙ ap (λ (s : Option Text). short_or_plain c idle word s h) (no_short word plain)

met_by : (c : List Rule) (name : Text) (position : ℕ) (word : Text) (h : Held) → is_no_option word ≡ true
    → word_met c [] false (option name) position word h ≡ plain_word c (option name) word h
met_by c name position word h plain =
    ap₂ (λ (d : Bool) (l : Option (Text × Option Text)). if d then (h, trailing position) else long_or_other c (option name) word l h) (no_dashes word plain) (no_long word plain) ∙ ap (λ (s : Option Text). short_or_plain c (option name) word s h) (no_short word plain)

passes : (s : Shape) (waiting : Waiting) (word : Text) (h : Held) → is_no_option word ≡ true → (bytes_eq word (45 ∷ 45 ∷ []) || flag_word_passes s.rules s.args_override_self (long_of word) word h) ≡ true
passes s waiting word h plain =
    ap₂ (λ (d : Bool) (l : Option (Text × Option Text)). d || flag_word_passes s.rules s.args_override_self l word h) (no_dashes word plain) (no_long word plain) ∙ ap (λ (o : Option Text). option_map_or (λ flags. bundle_passes s.rules s.args_override_self flags h) o true) (no_short word plain)

-- ---- the traversal of the arguments of parts

-- the traversal passes, and so does the use of what is pending at its end
abbrev ends : Walk → List Text → Bool
ends w words = walk_passes shape [] w words && settle_passes shape.rules false (fold (walked shape.rules []) w words).held

ends_after : (w : Walk) (word : Text) (words : List Text) → ends w (word ∷ words) ≡ (turn_passes shape [] w word && ends (walked shape.rules [] w word) words)
unfolding walk_passes
ends_after w word words = and_assoc (turn_passes shape [] w word) (walk_passes shape [] (walked shape.rules [] w word) words) (settle_passes shape.rules false (fold (walked shape.rules []) (walked shape.rules [] w word) words).held)

-- the state after the argument of an option, whose value comes next
abbrev named : Valued → List Row → ℕ → Walk
named name all position = record {
  held = record { rows = all; pending = Some (option_name name, []); skip = 0 };
  waiting = option (option_name name);
  position = position;
  is_trailing = false;
  stopped = None;
}

-- the state after the value
abbrev valued : Argument → List Row → ℕ → Walk
valued part all position = record {
  held = record { rows = all; pending = Some (part_name part, part_value part ∷ []); skip = 0 };
  waiting = idle;
  position = position;
  is_trailing = false;
  stopped = None;
}

abbrev dashed : Valued → Text
dashed name = codes "--" ++ option_name name

at_name : (name : Valued) (before : List Argument) (last : Option Argument)
    → walked shape.rules [] (state before last) (dashed name) ≡ named name (settled_rows shape.rules (pending last) (rows before)) (place (has_part (codes "file") (seen before last)))
unfolding clap_on_literals
at_name out_option before last = refl
at_name save_option before last = refl
at_name restart_option before last = refl
at_name generate_option before last = refl

name_passes : (name : Valued) (before : List Argument) (last : Option Argument) → turn_passes shape [] (state before last) (dashed name) ≡ (settle_passes shape.rules false (held before last) && true)
unfolding clap_on_literals
name_passes out_option before last = refl
name_passes save_option before last = refl
name_passes restart_option before last = refl
name_passes generate_option before last = refl

at_value : (name : Valued) (value : Text) (all : List Row) (position : ℕ) → is_no_option value ≡ true
    → walked shape.rules [] (named name all position) value ≡ valued (option_with name value) all position
unfolding walked
at_value out_option value all position plain =
    ap (λ (m : Held × Step). after_step shape.rules value (named out_option all position) m.0 m.1) (met_by shape.rules (codes "out") position value (named out_option all position).held plain)
at_value save_option value all position plain =
    ap (λ (m : Held × Step). after_step shape.rules value (named save_option all position) m.0 m.1) (met_by shape.rules (codes "save") position value (named save_option all position).held plain)
at_value restart_option value all position plain =
    ap (λ (m : Held × Step). after_step shape.rules value (named restart_option all position) m.0 m.1) (met_by shape.rules (codes "restart") position value (named restart_option all position).held plain)
at_value generate_option value all position plain =
    ap (λ (m : Held × Step). after_step shape.rules value (named generate_option all position) m.0 m.1) (met_by shape.rules (codes "generate") position value (named generate_option all position).held plain)

value_passes : (name : Valued) (value : Text) (all : List Row) (position : ℕ) → is_no_option value ≡ true → turn_passes shape [] (named name all position) value ≡ true
value_passes out_option value all position plain =
    ap₂ (λ (p : Bool) (m : Held × Step). p && step_passes shape position m.0 m.1) (passes shape idle value (named out_option all position).held plain) (met_by shape.rules (codes "out") position value (named out_option all position).held plain)
value_passes save_option value all position plain =
    ap₂ (λ (p : Bool) (m : Held × Step). p && step_passes shape position m.0 m.1) (passes shape idle value (named save_option all position).held plain) (met_by shape.rules (codes "save") position value (named save_option all position).held plain)
value_passes restart_option value all position plain =
    ap₂ (λ (p : Bool) (m : Held × Step). p && step_passes shape position m.0 m.1) (passes shape idle value (named restart_option all position).held plain) (met_by shape.rules (codes "restart") position value (named restart_option all position).held plain)
value_passes generate_option value all position plain =
    ap₂ (λ (p : Bool) (m : Held × Step). p && step_passes shape position m.0 m.1) (passes shape idle value (named generate_option all position).held plain) (met_by shape.rules (codes "generate") position value (named generate_option all position).held plain)

-- the state before a file's name
abbrev read_by : List Row → Option (Text × List Text) → ℕ → Walk
read_by all waiting position = record {
  held = record { rows = all; pending = waiting; skip = 0 };
  waiting = idle;
  position = position;
  is_trailing = false;
  stopped = None;
}

never_first : (b : Bool) (one other : Held) → (if b && false then one else other) ≡ other
never_first true one other = refl
never_first false one other = refl

at_file : (file : Text) (all : List Row) (waiting : Option (Text × List Text)) → is_no_option file ≡ true
    → walked shape.rules [] (read_by all waiting 1) file ≡ valued (file_name file) (settled_rows shape.rules waiting all) 2
unfolding walked
at_file file all waiting plain =
    ap (λ (m : Held × Step). after_step shape.rules file (read_by all waiting 1) m.0 m.1) (met shape.rules 1 file (read_by all waiting 1).held plain)
    ∙ ap (λ (h : Held). record { held = pushed (codes "file") file h; waiting = idle; position = 2; is_trailing = false; stopped = None }) (never_first (option_map_or (λ (q : Text × List Text). bytes_eq q.0 (codes "file")) waiting false) (read_by all waiting 1).held (settled shape.rules (read_by all waiting 1).held))

never_both : (b c : Bool) → ((b && false) || c) ≡ c
never_both true c = refl
never_both false c = refl

file_passes : (file : Text) (all : List Row) (waiting : Option (Text × List Text)) → is_no_option file ≡ true
    → turn_passes shape [] (read_by all waiting 1) file ≡ settle_passes shape.rules false (read_by all waiting 1).held
file_passes file all waiting plain =
    ap₂ (λ (p : Bool) (m : Held × Step). p && step_passes shape 1 m.0 m.1) (passes shape idle file (read_by all waiting 1).held plain) (met shape.rules 1 file (read_by all waiting 1).held plain)
    ∙ never_both _ (settle_passes shape.rules false (read_by all waiting 1).held)

second_file : (file : Text) (all : List Row) (waiting : Option (Text × List Text)) → is_no_option file ≡ true → turn_passes shape [] (read_by all waiting 2) file ≡ false
second_file file all waiting plain =
    ap₂ (λ (p : Bool) (m : Held × Step). p && step_passes shape 2 m.0 m.1) (passes shape idle file (read_by all waiting 2).held plain) (met shape.rules 2 file (read_by all waiting 2).held plain)

-- the flag
at_flag : (all : List Row) (waiting : Option (Text × List Text)) (position : ℕ)
    → walked shape.rules [] (read_by all waiting position) (codes "--ranges") ≡ read_by (with_values (codes "ranges") AsWritten CommandLine (codes "true" ∷ []) (without (codes "ranges") (settled_rows shape.rules waiting all))) None position
unfolding clap_on_literals
at_flag all waiting position = refl

flag_passes : (all : List Row) (waiting : Option (Text × List Text)) (position : ℕ)
    → turn_passes shape [] (read_by all waiting position) (codes "--ranges") ≡ ((settle_passes shape.rules false (read_by all waiting position).held && ((not (has_row (codes "ranges") (settled_rows shape.rules waiting all)) || false) && true)) && true)
unfolding clap_on_literals
flag_passes all waiting position = refl

-- ---- the state after a part

no_more : (name : Valued) (value : Text) → has_part (codes "file") (option_with name value ∷ []) ≡ false
no_more out_option value = refl
no_more save_option value = refl
no_more restart_option value = refl
no_more generate_option value = refl

kept_by_option : (name : Valued) (value : Text) (all : List Argument) → place (has_part (codes "file") all) ≡ place (has_part (codes "file") (all ++ option_with name value ∷ []))
kept_by_option name value all =
    sym (ap place (given_append (codes "file") all (option_with name value ∷ []) ∙ ap (λ (b : Bool). has_part (codes "file") all || b) (no_more name value) ∙ or-false (has_part (codes "file") all)))

kept_by_flag : (all : List Argument) → place (has_part (codes "file") all) ≡ place (has_part (codes "file") (all ++ ranges_flag ∷ []))
kept_by_flag all = sym (ap place (given_append (codes "file") all (ranges_flag ∷ []) ∙ or-false (has_part (codes "file") all)))

after_file : (file : Text) (all : List Argument) → 2 ≡ place (has_part (codes "file") (all ++ file_name file ∷ []))
after_file file all = sym (ap place (given_append (codes "file") all (file_name file ∷ []) ∙ or-true (has_part (codes "file") all)))

option_onward : (name : Valued) (value : Text) (before : List Argument) (last : Option Argument) → Waits last → is_no_option value ≡ true → is_new before last ≡ true
    → walked shape.rules [] (walked shape.rules [] (state before last) (dashed name)) value ≡ state (seen before last) (Some (option_with name value))
option_onward name value before last waits plain new =
    ap (λ (w : Walk). walked shape.rules [] w value) (at_name name before last)
    ∙ at_value name value (settled_rows shape.rules (pending last) (rows before)) (place (has_part (codes "file") (seen before last))) plain
    ∙ ap₂ (λ (all : List Row) (k : ℕ). valued (option_with name value) all k) (settled_as before last waits new) (kept_by_option name value (seen before last))

file_onward : (file : Text) (before : List Argument) (last : Option Argument) → Waits last → is_no_option file ≡ true → is_new before last ≡ true → has_part (codes "file") (seen before last) ≡ false
    → walked shape.rules [] (state before last) file ≡ state (seen before last) (Some (file_name file))
file_onward file before last waits plain new none =
    ap (λ (b : Bool). walked shape.rules [] (read_by (rows before) (pending last) (place b)) file) none
    ∙ at_file file (rows before) (pending last) plain
    ∙ ap₂ (λ (all : List Row) (k : ℕ). valued (file_name file) all k) (settled_as before last waits new) (after_file file (seen before last))

flag_onward : (before : List Argument) (last : Option Argument) → Waits last → is_new before last ≡ true → not (has_part (codes "ranges") (seen before last)) ≡ true
    → walked shape.rules [] (state before last) (codes "--ranges") ≡ state (seen before last ++ ranges_flag ∷ []) None
flag_onward before last waits new first =
    at_flag (rows before) (pending last) (place (has_part (codes "file") (seen before last)))
    ∙ ap₂ (λ (all : List Row) (k : ℕ). read_by all None k) (ap (λ (all : List Row). with_values (codes "ranges") AsWritten CommandLine (codes "true" ∷ []) (without (codes "ranges") all)) (settled_as before last waits new) ∙ gains (seen before last) ranges_flag first) (kept_by_flag (seen before last))

-- ---- the arguments of all parts

are_accepted : (parts before : List Argument) (last : Option Argument) → Waits last → are_plain parts ≡ true
    → ends (state before last) (all_words parts) ≡ (is_new before last && differ_from (seen before last) parts)
unfolding walk_passes
are_accepted [] before last waits plain = settles before last waits ∙ sym (and-true (is_new before last))
are_accepted (option_with name value ∷ parts) before last waits plain =
    let split = and_parts (is_no_option value) (are_plain parts) plain in
    let middle = named name (settled_rows shape.rules (pending last) (rows before)) (place (has_part (codes "file") (seen before last))) in
    ends_after (state before last) (dashed name) (value ∷ all_words parts)
    ∙ ap₂ (λ (t : Bool) (w : Walk). t && ends w (value ∷ all_words parts)) (name_passes name before last ∙ and-true _ ∙ settles before last waits) (at_name name before last)
    ∙ guarded (is_new before last) (ends middle (value ∷ all_words parts)) (differ_from (seen before last) (option_with name value ∷ parts))
    (λ new.
    ends_after middle value (all_words parts)
    ∙ ap (λ (t : Bool). t && ends (walked shape.rules [] middle value) (all_words parts)) (value_passes name value _ _ split.0)
    ∙ ap (λ (w : Walk). ends (walked shape.rules [] w value) (all_words parts)) (sym (at_name name before last))
    ∙ ap (λ (w : Walk). ends w (all_words parts)) (option_onward name value before last waits split.0 new)
    ∙ are_accepted parts (seen before last) (Some (option_with name value)) tt split.1)
are_accepted (ranges_flag ∷ parts) before last waits plain =
    let now = seen before last in
    ends_after (state before last) (codes "--ranges") (all_words parts)
    ∙ ap (λ (t : Bool). t && ends (walked shape.rules [] (state before last) (codes "--ranges")) (all_words parts)) (flag_passes (rows before) (pending last) (place (has_part (codes "file") now)) ∙ and-true _)
    ∙ and_assoc (settle_passes shape.rules false (held before last)) _ _
    ∙ ap (λ (t : Bool). t && (((not (has_row (codes "ranges") (settled_rows shape.rules (pending last) (rows before))) || false) && true) && ends (walked shape.rules [] (state before last) (codes "--ranges")) (all_words parts))) (settles before last waits)
    ∙ guarded (is_new before last) _ (differ_from now (ranges_flag ∷ parts))
    (λ new.
    ap (λ (t : Bool). t && ends (walked shape.rules [] (state before last) (codes "--ranges")) (all_words parts)) (once _ ∙ ap (λ (all : List Row). not (has_row (codes "ranges") all)) (settled_as before last waits new) ∙ ap (λ (b : Bool). not b) (given_row (codes "ranges") now))
    ∙ guarded (not (has_part (codes "ranges") now)) _ (differ_from (now ++ ranges_flag ∷ []) parts)
    (λ first. ap (λ (w : Walk). ends w (all_words parts)) (flag_onward before last waits new first) ∙ are_accepted parts (now ++ ranges_flag ∷ []) None tt (and_parts true (are_plain parts) plain).1))
are_accepted (file_name file ∷ parts) before last waits plain =
    let split = and_parts (is_no_option file) (are_plain parts) plain in
    by_test split.0 (are_accepted parts (seen before last) (Some (file_name file)) tt split.1) (has_part (codes "file") (seen before last)) refl
  where
    by_test : is_no_option file ≡ true → ends (state (seen before last) (Some (file_name file))) (all_words parts) ≡ differ_from (seen before last) (file_name file ∷ parts) → (b : Bool) → has_part (codes "file") (seen before last) ≡ b
        → ends (state before last) (file ∷ all_words parts) ≡ (is_new before last && differ_from (seen before last) (file_name file ∷ parts))
    by_test fine rest true there =
        ends_after (state before last) file (all_words parts)
        ∙ ap (λ (t : Bool). t && ends (walked shape.rules [] (state before last) file) (all_words parts)) (ap (λ (b : Bool). turn_passes shape [] (read_by (rows before) (pending last) (place b)) file) there ∙ second_file file (rows before) (pending last) fine)
        ∙ sym (ap (λ (b : Bool). is_new before last && (not b && differ_from (seen before last ++ file_name file ∷ []) parts)) there ∙ and-false (is_new before last))
    by_test fine rest false none =
        ends_after (state before last) file (all_words parts)
        ∙ ap (λ (t : Bool). t && ends (walked shape.rules [] (state before last) file) (all_words parts)) (ap (λ (b : Bool). turn_passes shape [] (read_by (rows before) (pending last) (place b)) file) none ∙ file_passes file (rows before) (pending last) fine ∙ settles before last waits)
        ∙ guarded (is_new before last) (ends (walked shape.rules [] (state before last) file) (all_words parts)) (differ_from (seen before last) (file_name file ∷ parts))
        (λ new. ap (λ (w : Walk). ends w (all_words parts)) (file_onward file before last waits fine new none) ∙ rest)

append_nothing : (parts : List Argument) → parts ++ [] ≡ parts
append_nothing [] = refl
append_nothing (part ∷ parts) = ap (λ (rest : List Argument). part ∷ rest) (append_nothing parts)

abbrev settled_at : Walk → List Row
settled_at w = settled_rows shape.rules w.held.pending w.held.rows

-- the rows that they leave
rows_left : (parts before : List Argument) (last : Option Argument) → Waits last → are_plain parts ≡ true → (is_new before last && differ_from (seen before last) parts) ≡ true
    → settled_at (fold (walked shape.rules []) (state before last) (all_words parts)) ≡ rows (seen before last ++ parts)
rows_left [] before last waits plain e = settled_as before last waits (and_parts (is_new before last) true e).0 ∙ sym (ap rows (append_nothing (seen before last)))
rows_left (option_with name value ∷ parts) before last waits plain e =
    let split = and_parts (is_no_option value) (are_plain parts) plain in
    let fine = and_parts (is_new before last) (differ_from (seen before last) (option_with name value ∷ parts)) e in
    ap (λ (w : Walk). settled_at (fold (walked shape.rules []) w (all_words parts))) (option_onward name value before last waits split.0 fine.0)
    ∙ rows_left parts (seen before last) (Some (option_with name value)) tt split.1 fine.1
    ∙ ap rows (append_assoc (seen before last) (option_with name value ∷ []) parts)
rows_left (ranges_flag ∷ parts) before last waits plain e =
    let fine = and_parts (is_new before last) (differ_from (seen before last) (ranges_flag ∷ parts)) e in
    let more = and_parts (not (has_part (codes "ranges") (seen before last))) (differ_from (seen before last ++ ranges_flag ∷ []) parts) fine.1 in
    ap (λ (w : Walk). settled_at (fold (walked shape.rules []) w (all_words parts))) (flag_onward before last waits fine.0 more.0)
    ∙ rows_left parts (seen before last ++ ranges_flag ∷ []) None tt plain more.1
    ∙ ap rows (append_assoc (seen before last) (ranges_flag ∷ []) parts)
rows_left (file_name file ∷ parts) before last waits plain e =
    let split = and_parts (is_no_option file) (are_plain parts) plain in
    let fine = and_parts (is_new before last) (differ_from (seen before last) (file_name file ∷ parts)) e in
    let more = and_parts (not (has_part (codes "file") (seen before last))) (differ_from (seen before last ++ file_name file ∷ []) parts) fine.1 in
    ap (λ (w : Walk). settled_at (fold (walked shape.rules []) w (all_words parts))) (file_onward file before last waits split.0 fine.0 (not-true (has_part (codes "file") (seen before last)) more.0))
    ∙ rows_left parts (seen before last) (Some (file_name file)) tt split.1 fine.1
    ∙ ap rows (append_assoc (seen before last) (file_name file ∷ []) parts)

-- ---- what the rows request

first_row : (name : Text) (parts : List Argument) → first_of name (rows parts) ≡ value_of_option name parts
first_row name [] = refl
first_row name (part ∷ parts) = by_test (first_row name parts) (bytes_eq (part_name part) name)
  where
    by_test : first_of name (rows parts) ≡ value_of_option name parts → (b : Bool)
        → option_and_then (λ (r : Row). slice_get r.values 0) (cond b (Some (row part)) (find (λ r. bytes_eq r.id name) (rows parts))) ≡ option_map part_value (cond b (Some part) (find (λ p. bytes_eq (part_name p) name) parts))
    by_test later true = refl
    by_test later false = later

first_before : (name : Text) (all : List Row) (one : Row) → bytes_eq one.id name ≡ false → first_of name (all ++ one ∷ []) ≡ first_of name all
first_before name [] one other = ap (λ (b : Bool). option_and_then (λ (r : Row). slice_get r.values 0) (cond b (Some one) None)) other
first_before name (r ∷ all) one other = by_test (first_before name all one other) (bytes_eq r.id name)
  where
    by_test : first_of name (all ++ one ∷ []) ≡ first_of name all → (b : Bool)
        → option_and_then (λ (x : Row). slice_get x.values 0) (cond b (Some r) (find (λ x. bytes_eq x.id name) (all ++ one ∷ []))) ≡ option_and_then (λ (x : Row). slice_get x.values 0) (cond b (Some r) (find (λ x. bytes_eq x.id name) all))
    by_test later true = refl
    by_test later false = later

first_last : (name : Text) (all : List Row) (one : Row) → bytes_eq one.id name ≡ true → has_row name all ≡ false → first_of name (all ++ one ∷ []) ≡ slice_get one.values 0
first_last name [] one same none = ap (λ (b : Bool). option_and_then (λ (r : Row). slice_get r.values 0) (cond b (Some one) None)) same
first_last name (r ∷ all) one same none = by_test (first_last name all one same) (bytes_eq r.id name) none
  where
    by_test : (has_row name all ≡ false → first_of name (all ++ one ∷ []) ≡ slice_get one.values 0) → (b : Bool) → (b || has_row name all) ≡ false
        → option_and_then (λ (x : Row). slice_get x.values 0) (cond b (Some r) (find (λ x. bytes_eq x.id name) (all ++ one ∷ []))) ≡ slice_get one.values 0
    by_test later true none = absurd (true≢false none)
    by_test later false none = later none

-- the row of the flag by default
abbrev default_row : Row
default_row = record {
  id = codes "ranges";
  values = codes "false" ∷ [];
  count = None;
  source = Some DefaultValue;
  reading = AsWritten;
}

abbrev with_flag : List Row → List Row
with_flag all = if has_row (codes "ranges") all then all else with_values (codes "ranges") AsWritten DefaultValue (codes "false" ∷ []) all

no_default : (all : List Row) (rest : List Rule) (b : Bool) → fold with_default (if b then all else all) rest ≡ fold with_default all rest
no_default all rest b = ap (λ (r : List Row). fold with_default r rest) (either_way b all)

defaults : (all : List Row) → fold with_default all shape.rules ≡ with_flag all
defaults all =
    no_default all (drop 1 shape.rules) (has_row (codes "file") all)
    ∙ no_default all (drop 2 shape.rules) (has_row (codes "generate") all)
    ∙ no_default all (drop 3 shape.rules) (has_row (codes "restart") all)
    ∙ no_default all (drop 4 shape.rules) (has_row (codes "out") all)
    ∙ no_default all (drop 5 shape.rules) (has_row (codes "save") all)
    ∙ no_default (with_flag all) [] (has_row (codes "help") (with_flag all))

-- what they request by the values of the names
abbrev request_by : Option Text → Option Text → Option Text → Option Text → Option Text → Option Text → Option Asked
request_by flag save out file size saved = option_map (asked (is_flag_given flag) save out) (origin_of file size saved)

-- the flag's row says whether it is given
flag_true : (parts : List Argument) → has_part (codes "ranges") parts ≡ true → is_flag_given (value_of_option (codes "ranges") parts) ≡ true
flag_true [] there = absurd (true≢false (sym there))
flag_true (file_name file ∷ parts) there = flag_true parts there
flag_true (option_with out_option value ∷ parts) there = flag_true parts there
flag_true (option_with save_option value ∷ parts) there = flag_true parts there
flag_true (option_with restart_option value ∷ parts) there = flag_true parts there
flag_true (option_with generate_option value ∷ parts) there = flag_true parts there
flag_true (ranges_flag ∷ parts) there = refl

by_rows : (parts : List Argument) → request_in (with_flag (rows parts)) ≡ requested parts
by_rows parts = by_test (has_part (codes "ranges") parts) refl
  where
    given : (name : Text) → first_of name (rows parts) ≡ value_of_option name parts
    given name = first_row name parts

    same : (all : List Row) (flag : Option Text) (b : Bool) → is_flag_given flag ≡ b → first_of (codes "ranges") all ≡ flag
        → ((name : Text) → bytes_eq (codes "ranges") name ≡ false → first_of name all ≡ value_of_option name parts)
        → request_in all ≡ option_map (asked b (value_of_option (codes "save") parts) (value_of_option (codes "out") parts)) (origin_of (value_of_option (codes "file") parts) (value_of_option (codes "generate") parts) (value_of_option (codes "restart") parts))
    same all flag b so is others =
        ap (λ (f : Option Text). request_by f (first_of (codes "save") all) (first_of (codes "out") all) (first_of (codes "file") all) (first_of (codes "generate") all) (first_of (codes "restart") all)) is
        ∙ ap (λ (s : Option Text). request_by flag s (first_of (codes "out") all) (first_of (codes "file") all) (first_of (codes "generate") all) (first_of (codes "restart") all)) (others (codes "save") refl)
        ∙ ap (λ (s : Option Text). request_by flag (value_of_option (codes "save") parts) s (first_of (codes "file") all) (first_of (codes "generate") all) (first_of (codes "restart") all)) (others (codes "out") refl)
        ∙ ap (λ (s : Option Text). request_by flag (value_of_option (codes "save") parts) (value_of_option (codes "out") parts) s (first_of (codes "generate") all) (first_of (codes "restart") all)) (others (codes "file") refl)
        ∙ ap (λ (s : Option Text). request_by flag (value_of_option (codes "save") parts) (value_of_option (codes "out") parts) (value_of_option (codes "file") parts) s (first_of (codes "restart") all)) (others (codes "generate") refl)
        ∙ ap (λ (s : Option Text). request_by flag (value_of_option (codes "save") parts) (value_of_option (codes "out") parts) (value_of_option (codes "file") parts) (value_of_option (codes "generate") parts) s) (others (codes "restart") refl)
        ∙ ap (λ (c : Bool). option_map (asked c (value_of_option (codes "save") parts) (value_of_option (codes "out") parts)) (origin_of (value_of_option (codes "file") parts) (value_of_option (codes "generate") parts) (value_of_option (codes "restart") parts))) so

    by_test : (b : Bool) → has_part (codes "ranges") parts ≡ b → request_in (with_flag (rows parts)) ≡ requested parts
    by_test true there =
        ap (λ (c : Bool). request_in (if c then rows parts else with_values (codes "ranges") AsWritten DefaultValue (codes "false" ∷ []) (rows parts))) (given_row (codes "ranges") parts ∙ there)
        ∙ same (rows parts) (value_of_option (codes "ranges") parts) true (flag_true parts there) (given (codes "ranges")) (λ name other. given name)
        ∙ ap (λ (c : Bool). option_map (asked c (value_of_option (codes "save") parts) (value_of_option (codes "out") parts)) (origin_of (value_of_option (codes "file") parts) (value_of_option (codes "generate") parts) (value_of_option (codes "restart") parts))) (sym there)
    by_test false none =
        ap (λ (c : Bool). request_in (if c then rows parts else with_values (codes "ranges") AsWritten DefaultValue (codes "false" ∷ []) (rows parts))) (given_row (codes "ranges") parts ∙ none)
        ∙ ap request_in (absent (codes "ranges") (more_values DefaultValue (codes "false" ∷ [])) (default_row ∷ []) (rows parts) (given_row (codes "ranges") parts ∙ none))
        ∙ same (rows parts ++ default_row ∷ []) (Some (codes "false")) false refl (first_last (codes "ranges") (rows parts) default_row refl (given_row (codes "ranges") parts ∙ none)) (λ name other. first_before name (rows parts) default_row other ∙ given name)
        ∙ ap (λ (c : Bool). option_map (asked c (value_of_option (codes "save") parts) (value_of_option (codes "out") parts)) (origin_of (value_of_option (codes "file") parts) (value_of_option (codes "generate") parts) (value_of_option (codes "restart") parts))) (sym none)

-- ---- the command

-- a command without subcommands accepts what its own level accepts
leaf_test : (words : List Text) → built_takes (built gams25) nothing_held words ≡ level_passes shape [] nothing_held words false
leaf_test words = by_stop (walk shape.rules [] nothing_held words).stopped
  where
    by_stop : (stop : Option (Text × List Text))
        → (entered_passes (built gams25) stop && level_passes shape [] nothing_held words (is_some (entered (built gams25) stop))) ≡ level_passes shape [] nothing_held words false
    by_stop None = refl
    by_stop (Some p) = refl

takes_when : (words : List Text) → takes gams25 words ≡ ends (walk_from nothing_held) words
takes_when words =
    leaf_test words
    ∙ ap (λ (b : Bool). walk_passes shape [] (walk_from nothing_held) words && b) (and-true (settle_passes shape.rules false (walk shape.rules [] nothing_held words).held))

pub by_parts : IsByParts
by_parts parts plain = by_test (are_once parts) refl
  where
    taken : takes gams25 (all_words parts) ≡ are_once parts
    taken = takes_when (all_words parts) ∙ are_accepted parts [] None tt plain

    by_test : (b : Bool) → are_once parts ≡ b → request_of (all_words parts) ≡ (if are_once parts then requested parts else None)
    by_test true fine =
        ap (λ (t : Bool). option_and_then request_in (if t then Some (finished shape.rules (walk shape.rules [] nothing_held (all_words parts)).held) else None)) (taken ∙ fine)
        ∙ ap (λ (all : List Row). request_in (fold with_default all shape.rules)) (rows_left parts [] None tt plain fine)
        ∙ ap request_in (defaults (rows parts))
        ∙ by_rows parts
        ∙ sym (ap (λ (t : Bool). if t then requested parts else None) fine)
    by_test false twice =
        ap (λ (t : Bool). option_and_then request_in (if t then Some (finished shape.rules (walk shape.rules [] nothing_held (all_words parts)).held) else None)) (taken ∙ twice)
        ∙ sym (ap (λ (t : Bool). if t then requested parts else None) twice)
