-- The command accepts the arguments for which no step of its parse has a fault.
use Rattle.std.proofs.lemmas.Bool.{and_from}
use Rattle.std.proofs.Common.{◌≡◌, ◌⊎◌, ◌∙◌, ◌&&◌, ◌||◌, ◌==◌, ℕ, Bool, true, false, not, zero, suc, inl, inr, ⊎_elim, refl, sym, ap, arith, List, [], ◌∷◌, length, drop, min, codes, Option, Some, None, is_some, true≢false, nat_le, nat_lt, if◌then◌else◌}
use Rattle.std.specs.Prelude.{◌+◌, encode_utf8, slice_get}
use Rattle.std.proofs.lemmas.Bool.Decides.{nat_tests}
use Rattle.std.specs.List.{list_all}
use Rattle.std.specs.Option.{option_map_or}
use Rattle.std.specs.Str.{bytes_eq, chars}
use Rattle.clap.specs.Lexer.{long_of, short_of}
use Rattle.clap.specs.Matches.{count_text}
use Rattle.clap.specs.Facts.{parser_of_value, unwrap_or_range}
use Rattle.clap.specs.ValueTests.{accepts}
use Rattle.clap.specs.Walk.{Held, Names, Row, Rule, Step, Text, Waiting, Walk, action_of, arg_by_id, arg_by_index, arg_by_long, arg_by_short, attached_value, count_of, finished, has_row, is_pending, most_values, next, nothing_held, reacted, settled, subcommand, subcommand_met, takes_several, takes_values, trailing, value, values_or_missing, walk, walk_from, walked, word_met}
use Rattle.clap.specs.Simple.{Shape, built, matches_of}
use Rattle.clap.specs.Takes.{action_passes, bundle_passes, bundle_step_passes, count_passes, default_passes, flag_word_passes, flags_pass, is_valid, level_passes, long_passes, option_passes, other_passes, positional_passes, react_passes, set_passes, settle_passes, short_passes, step_passes, takes, turn_passes, use_passes, values_pass, walk_passes, word_passes}
use Rattle.clap.specs.Kinds.{Kinds, or_else, range_kinds, value_kinds, values_kinds}
use Rattle.clap.specs.Faults.{action_fault, bundle_fault, bundle_step_fault, check_fault, count_fault, defaults_fault, fault_of, flag_word_fault, flags_fault, level_fault, long_fault, option_fault, other_fault, positional_fault, react_fault, repeat_fault, set_fault, settle_fault, short_fault, step_fault, stray_fault, turn_fault, use_fault, values_fault, walk_fault, word_fault}
use Rattle.clap.specs.declared.builder.action.ArgAction.{ArgAction}
use Rattle.clap.specs.declared.builder.action.ArgAction.TheVariants as action
use Rattle.clap.specs.declared.builder.value_parser.ValueParser.{ValueParser}
use Rattle.clap.specs.declared.error.kind.ErrorKind.{ErrorKind}
use Rattle.clap.proofs.TakesLemmas.{leaf_takes}
use Rattle.clap.proofs.FaultLemmas.{leaf_fault}
use Rattle.gms_command.specs.CommandLine.{gams25, rows_taken}

-- ---- lists of kinds, and tests

first_none : (a b : Kinds) → or_else a b ≡ [] → a ≡ []
first_none [] b e = refl
first_none (k ∷ ks) b e = e

-- a list with a kind is not empty
abbrev has_some : Kinds → Bool
has_some [] = false
has_some (k ∷ ks) = true

some_kind : (k : ErrorKind) (ks : Kinds) → k ∷ ks ≡ [] → ⊥
some_kind k ks e = true≢false (ap has_some e)

then_none : (a b : Kinds) → or_else a b ≡ [] → b ≡ []
then_none [] b e = e
then_none (k ∷ ks) b e = absurd (some_kind k ks e)

unless_both : (a b : Bool) (ks : Kinds) (k : ErrorKind) → (if a && not b then k ∷ ks else []) ≡ [] → (not a || b) ≡ true
unless_both true true ks k e = refl
unless_both true false ks k e = absurd (some_kind k ks e)
unless_both false b ks k e = refl

-- the faults of a step that a test skips
or_clean : (a b : Bool) (ks : Kinds) → (ks ≡ [] → b ≡ true) → (if a then [] else ks) ≡ [] → (a || b) ≡ true
or_clean true b ks h e = refl
or_clean false b ks h e = h e

-- ---- one use of an argument

value_clean : (ignore : Bool) (parser : ValueParser) (text : Text) → value_kinds ignore parser text ≡ [] → accepts ignore parser text ≡ true
value_clean ignore parser text e = by_test (accepts ignore parser text) refl
  where
    by_test : (b : Bool) → accepts ignore parser text ≡ b → accepts ignore parser text ≡ true
    by_test true t = t
    by_test false t = absurd (some_kind _ [] (rw t at e))

values_clean : (ignore : Bool) (parser : ValueParser) (values : List Text) → values_kinds ignore parser values ≡ [] → list_all (accepts ignore parser) values ≡ true
values_clean ignore parser [] e = refl
values_clean ignore parser (v ∷ vs) e =
    and_from (accepts ignore parser v) (list_all (accepts ignore parser) vs) (value_clean ignore parser v (first_none (value_kinds ignore parser v) (values_kinds ignore parser vs) e)) (values_clean ignore parser vs (then_none (value_kinds ignore parser v) (values_kinds ignore parser vs) e))

-- the tests of a number of values, none of which has a fault
range_tests : (no same exact few many : Bool) (a b c d : ErrorKind)
    → (if no then a ∷ [] else (if same then (if exact then [] else b ∷ []) else (if few then c ∷ [] else (if many then d ∷ [] else [])))) ≡ []
    → ((same ≡ true) × (exact ≡ true)) ⊎ ((few ≡ false) × (many ≡ false))
range_tests true same exact few many a b c d e = absurd (some_kind a [] e)
range_tests false true true few many a b c d e = inl (refl, refl)
range_tests false true false few many a b c d e = absurd (some_kind b [] e)
range_tests false false exact true many a b c d e = absurd (some_kind c [] e)
range_tests false false exact false true a b c d e = absurd (some_kind d [] e)
range_tests false false exact false false a b c d e = inr (refl, refl)

range_clean : (least most n : ℕ) → range_kinds least most n ≡ [] → (nat_le least n ≡ true) × (nat_le n most ≡ true)
range_clean least most n e =
    ⊎_elim (λ h. by_equals h.0 h.1) (λ h. by_bounds h.0 h.1) (range_tests (nat_lt 0 least && n == 0) (least == most) (least == n) (nat_lt n least) (nat_lt most n) _ _ _ _ e)
  where
    by_equals : (least == most) ≡ true → (least == n) ≡ true → (nat_le least n ≡ true) × (nat_le n most ≡ true)
    by_equals h k = (grind (arith, nat_tests), grind (arith, nat_tests))

    by_bounds : nat_lt n least ≡ false → nat_lt most n ≡ false → (nat_le least n ≡ true) × (nat_le n most ≡ true)
    by_bounds h k = (grind (arith, nat_tests), grind (arith, nat_tests))

module _ (a : Rule) where
  count_clean : (values : List Text) (rows : List Row) → count_fault a values rows ≡ [] → count_passes a values rows ≡ true
  count_clean [] rows e = value_clean a.ignore_case (parser_of_value a.parser) (count_text (min (count_of a.id rows + 1) 255)) e
  count_clean (v ∷ vs) rows e = values_clean a.ignore_case (parser_of_value a.parser) (v ∷ vs) e

  set_clean : (again : Bool) (values : List Text) (rows : List Row) → set_fault again a values rows ≡ [] → set_passes again a values rows ≡ true
  set_clean again values rows e =
      and_from (not (has_row a.id rows) || again) (values_pass a values) (unless_both (has_row a.id rows) again [] _ (first_none (repeat_fault again a.id rows) (values_fault a values) e)) (values_clean a.ignore_case (parser_of_value a.parser) values (then_none (repeat_fault again a.id rows) (values_fault a values) e))

  action_clean : (x : ArgAction) (again : Bool) (values : List Text) (rows : List Row) → action_fault x again a values rows ≡ [] → action_passes x again a values rows ≡ true
  action_clean action.Set again values rows e = set_clean again values rows e
  action_clean action.SetTrue again values rows e = set_clean again values rows e
  action_clean action.SetFalse again values rows e = set_clean again values rows e
  action_clean action.Append again values rows e = values_clean a.ignore_case (parser_of_value a.parser) values e
  action_clean action.Count again values rows e = count_clean values rows e
  action_clean action.Help again values rows e = absurd (some_kind _ [] e)
  action_clean action.HelpShort again values rows e = absurd (some_kind _ [] e)
  action_clean action.HelpLong again values rows e = absurd (some_kind _ [] e)
  action_clean action.Version again values rows e = absurd (some_kind _ [] e)

  use_clean : (again : Bool) (values : List Text) (rows : List Row) → use_fault again a values rows ≡ [] → use_passes again a values rows ≡ true
  use_clean again values rows e =
      let least = (unwrap_or_range a.range).start_inclusive in
      let counts = range_kinds least (most_values a) (length values) in
      let does = action_fault (action_of a) again a (values_or_missing a values) rows in
      let within = range_clean least (most_values a) (length values) (first_none counts does e) in
      and_from (nat_le least (length values)) (nat_le (length values) (most_values a) && action_passes (action_of a) again a (values_or_missing a values) rows) within.0 (and_from (nat_le (length values) (most_values a)) (action_passes (action_of a) again a (values_or_missing a values) rows) within.1 (action_clean (action_of a) again (values_or_missing a values) rows (then_none counts does e)))

-- ---- the arguments

module _ (c : List Rule) (again : Bool) where
  pending_clean : (rows : List Row) (p : Option (Text × List Text))
      → option_map_or (λ q. option_map_or (λ a. use_fault again a q.1 rows) (arg_by_id c q.0) []) p [] ≡ []
      → option_map_or (λ q. option_map_or (λ a. use_passes again a q.1 rows) (arg_by_id c q.0) true) p true ≡ true
  pending_clean rows None e = refl
  pending_clean rows (Some q) e = by_id (arg_by_id c q.0) e
    where
      by_id : (o : Option Rule) → option_map_or (λ a. use_fault again a q.1 rows) o [] ≡ [] → option_map_or (λ a. use_passes again a q.1 rows) o true ≡ true
      by_id None e = refl
      by_id (Some a) e = use_clean a again q.1 rows e

  settle_clean : (h : Held) → settle_fault c again h ≡ [] → settle_passes c again h ≡ true
  settle_clean h e = pending_clean h.rows h.pending e

  react_clean : (a : Rule) (values : List Text) (h : Held) → react_fault c again a values h ≡ [] → react_passes c again a values h ≡ true
  react_clean a values h e =
      and_from (settle_passes c again h) (use_passes again a values (settled c h).rows) (settle_clean h (first_none (settle_fault c again h) (use_fault again a values (settled c h).rows) e)) (use_clean a again values (settled c h).rows (then_none (settle_fault c again h) (use_fault again a values (settled c h).rows) e))

  option_clean : (a : Rule) (v : Option Text) (h : Held) → option_fault c again a v h ≡ [] → option_passes c again a v h ≡ true
  option_clean a (Some v) h e = react_clean a (v ∷ []) h e
  option_clean a None h e = settle_clean h e

  long_clean : (found : Option Rule) (v : Option Text) (h : Held) → long_fault c again found v h ≡ [] → long_passes c again found v h ≡ true
  long_clean None v h e = absurd (some_kind _ [] e)
  long_clean (Some a) v h e = by_test (takes_values a) v _ e
    where
      by_test : (b : Bool) (v : Option Text) (k : ErrorKind) → (if b then option_fault c again a v h else (if is_some v then k ∷ [] else react_fault c again a [] h)) ≡ []
          → (if b then option_passes c again a v h else (not (is_some v) && react_passes c again a [] h)) ≡ true
      by_test true v k e = option_clean a v h e
      by_test false None k e = react_clean a [] h e
      by_test false (Some v) k e = absurd (some_kind k [] e)

  short_clean : (found : Option Rule) (rest : Text) (h : Held) (faults : Held → Kinds) (passes : Held → Bool) → ((now : Held) → faults now ≡ [] → passes now ≡ true)
      → short_fault c again found rest h faults ≡ [] → short_passes c again found rest h passes ≡ true
  short_clean None rest h faults passes after e = absurd (some_kind _ [] e)
  short_clean (Some a) rest h faults passes after e = by_test (takes_values a) e
    where
      by_test : (b : Bool) → (if b then option_fault c again a (attached_value rest) h else or_else (react_fault c again a [] h) (faults (reacted c a [] h))) ≡ []
          → (if b then option_passes c again a (attached_value rest) h else (react_passes c again a [] h && passes (reacted c a [] h))) ≡ true
      by_test true e = option_clean a (attached_value rest) h e
      by_test false e =
          let uses = react_fault c again a [] h in
          let others = faults (reacted c a [] h) in
          and_from (react_passes c again a [] h) (passes (reacted c a [] h)) (react_clean a [] h (first_none uses others e)) (after (reacted c a [] h) (then_none uses others e))

  bundle_step_clean : (o : Option ℕ) (flags : Text) (skip : ℕ) (h : Held) (faults : Text → ℕ → Held → Kinds) (passes : Text → ℕ → Held → Bool)
      → ((rest : Text) (left : ℕ) (now : Held) → faults rest left now ≡ [] → passes rest left now ≡ true)
      → bundle_step_fault c again o flags skip h faults ≡ [] → bundle_step_passes c again o flags skip h passes ≡ true
  bundle_step_clean None flags skip h faults passes after e = refl
  bundle_step_clean (Some x) flags zero h faults passes after e =
      let rest = drop (length (encode_utf8 x)) flags in
      short_clean (arg_by_short c x) rest h (faults rest 0) (passes rest 0) (after rest 0) e
  bundle_step_clean (Some x) flags (suc skip) h faults passes after e = after (drop (length (encode_utf8 x)) flags) skip h e

  flags_clean : (k : ℕ) (flags : Text) (skip : ℕ) (h : Held) → flags_fault c again k flags skip h ≡ [] → flags_pass c again k flags skip h ≡ true
  unfolding flags_fault flags_pass
  flags_clean zero flags skip h e = refl
  flags_clean (suc k) flags skip h e =
      bundle_step_clean (slice_get (chars flags) 0) flags skip h (flags_fault c again k) (flags_pass c again k) (flags_clean k) e

  bundle_clean : (flags : Text) (h : Held) → bundle_fault c again flags h ≡ [] → bundle_passes c again flags h ≡ true
  bundle_clean flags h e = flags_clean (length flags) flags h.skip (record h { skip = 0 }) e

  flag_word_clean : (p : Option (Text × Option Text)) (word : Text) (h : Held) → flag_word_fault c again p word h ≡ [] → flag_word_passes c again p word h ≡ true
  flag_word_clean (Some p) word h e = long_clean (arg_by_long c p.0) p.1 h e
  flag_word_clean None word h e = by_short (short_of word) e
    where
      by_short : (o : Option Text) → option_map_or (λ flags. bundle_fault c again flags h) o [] ≡ [] → option_map_or (λ flags. bundle_passes c again flags h) o true ≡ true
      by_short None e = refl
      by_short (Some flags) e = bundle_clean flags h e

  positional_clean : (a : Rule) (h : Held) → positional_fault c again a h ≡ [] → positional_passes c again a h ≡ true
  positional_clean a h e = or_clean (is_pending a h.pending && takes_several a) (settle_passes c again h) (settle_fault c again h) (settle_clean h) e

module _ (s : Shape) where
  other_clean : (met : Option Text) (word : Text) (h : Held) → other_fault s met word h ≡ [] → other_passes s met word h ≡ true
  other_clean (Some name) word h e = unless_both (bytes_eq name (codes "help")) s.disable_help_subcommand _ _ e
  other_clean None word h e =
      or_clean (bytes_eq word (45 ∷ 45 ∷ [])) (flag_word_passes s.rules s.args_override_self (long_of word) word h) (flag_word_fault s.rules s.args_override_self (long_of word) word h) (flag_word_clean s.rules s.args_override_self (long_of word) word h) e

  word_clean : (names : Names) (is_trailing : Bool) (waiting : Waiting) (word : Text) (h : Held) → word_fault s names is_trailing waiting word h ≡ [] → word_passes s names is_trailing waiting word h ≡ true
  word_clean names is_trailing waiting word h e =
      or_clean is_trailing (other_passes s (subcommand_met names waiting word) word h) (other_fault s (subcommand_met names waiting word) word h) (other_clean (subcommand_met names waiting word) word h) e

  stray : stray_fault s ≡ [] → ⊥
  stray e = by_test s.is_leaf _ _ _ e
    where
      by_test : (b : Bool) (k l m : ErrorKind) → (if b then k ∷ [] else l ∷ m ∷ []) ≡ [] → ⊥
      by_test true k l m e = some_kind k [] e
      by_test false k l m e = some_kind l (m ∷ []) e

  step_clean : (position : ℕ) (h : Held) (step : Step) → step_fault s position h step ≡ [] → step_passes s position h step ≡ true
  step_clean position h value e = by_index (arg_by_index s.rules position) e
    where
      by_index : (o : Option Rule) → option_map_or (λ a. positional_fault s.rules s.args_override_self a h) o (stray_fault s) ≡ []
          → option_map_or (λ a. positional_passes s.rules s.args_override_self a h) o false ≡ true
      by_index None e = absurd (stray e)
      by_index (Some a) e = positional_clean s.rules s.args_override_self a h e
  step_clean position h (next waiting) e = refl
  step_clean position h (trailing place) e = refl
  step_clean position h (subcommand name) e = refl

  turn_clean : (names : Names) (w : Walk) (word : Text) → turn_fault s names w word ≡ [] → turn_passes s names w word ≡ true
  turn_clean names w word e =
      let met = word_met s.rules names w.is_trailing w.waiting w.position word w.held in
      let reads = word_fault s names w.is_trailing w.waiting word w.held in
      let goes = step_fault s w.position met.0 met.1 in
      or_clean (is_some w.stopped) (word_passes s names w.is_trailing w.waiting word w.held && step_passes s w.position met.0 met.1) (or_else reads goes) (λ f. and_from (word_passes s names w.is_trailing w.waiting word w.held) (step_passes s w.position met.0 met.1) (word_clean names w.is_trailing w.waiting word w.held (first_none reads goes f)) (step_clean w.position met.0 met.1 (then_none reads goes f))) e

  traversal_clean : (names : Names) (w : Walk) (words : List Text) → walk_fault s names w words ≡ [] → walk_passes s names w words ≡ true
  unfolding walk_fault walk_passes
  traversal_clean names w [] e = refl
  traversal_clean names w (word ∷ rest) e =
      let turns = turn_fault s names w word in
      let others = walk_fault s names (walked s.rules names w word) rest in
      and_from (turn_passes s names w word) (walk_passes s names (walked s.rules names w word) rest) (turn_clean names w word (first_none turns others e)) (traversal_clean names (walked s.rules names w word) rest (then_none turns others e))

  -- one level without subcommands, where defaults and required values are right for any arguments
  level_clean : (h : Held) (words : List Text) → list_all default_passes s.rules ≡ true → is_valid s (finished s.rules (walk s.rules [] h words).held) false ≡ true
      → level_fault s [] h words false [] ≡ [] → level_passes s [] h words false ≡ true
  level_clean h words defaults valid e =
      let end = (walk s.rules [] h words).held in
      let walks = walk_fault s [] (walk_from h) words in
      let settles = settle_fault s.rules s.args_override_self end in
      let last = or_else (defaults_fault (settled s.rules end).rows s.rules) (check_fault s (finished s.rules end) false) in
      let following : or_else settles last ≡ [] = then_none walks (or_else settles last) e in
      and_from (walk_passes s [] (walk_from h) words) (settle_passes s.rules s.args_override_self end && (list_all default_passes s.rules && is_valid s (finished s.rules end) false)) (traversal_clean [] (walk_from h) words (first_none walks (or_else settles last) e)) (and_from (settle_passes s.rules s.args_override_self end) (list_all default_passes s.rules && is_valid s (finished s.rules end) false) (settle_clean s.rules s.args_override_self end (first_none settles last following)) (and_from (list_all default_passes s.rules) (is_valid s (finished s.rules end) false) defaults valid))

-- the command accepts arguments that have no fault
pub takes_faultless : (words : List Text) → fault_of gams25 words ≡ [] → takes gams25 words ≡ true
takes_faultless words e =
    let level = level_clean (built gams25).top nothing_held words refl refl (sym (leaf_fault (built gams25) nothing_held words refl) ∙ e) in
    leaf_takes (built gams25) nothing_held words refl level

-- what the command finds in arguments that it accepts, and in others
pub rows_found : (words : List Text) (rows : List Row) → takes gams25 words ≡ true → rows ≡ matches_of gams25 words → Some rows ≡ rows_taken words
rows_found words rows taken e = rw taken (ap (λ (xs : List Row). Some xs) e)

pub none_found : (words : List Text) → (takes gams25 words ≡ true → ⊥) → None ≡ rows_taken words
none_found words refused = by_test (takes gams25 words) refl
  where
    by_test : (b : Bool) → takes gams25 words ≡ b → None ≡ rows_taken words
    by_test true t = absurd (refused t)
    by_test false t = rw t refl
