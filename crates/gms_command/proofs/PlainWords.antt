-- What one word means that does not begin with `-`.
use Rattle.std.proofs.lemmas.Bool.{not-true}
use Rattle.std.proofs.Common.{◌≡◌, ◌∙◌, ◌&&◌, ◌||◌, ◌==◌, ℕ, Bool, true, false, List, [], ◌∷◌, Option, Some, None, refl, ap, ap₂, if◌then◌else◌}
use Rattle.std.specs.Prelude.{option_and_then}
use Rattle.std.specs.Option.{option_map_or}
use Rattle.std.specs.List.{list_all}
use Rattle.std.specs.Str.{bytes_eq}
use Rattle.clap.specs.Lexer.{long_of, short_of}
use Rattle.clap.specs.Walk.{Held, Row, Rule, Step, Text, Walk, after_step, finished, idle, long_or_other, nothing_held, short_or_plain, trailing, value, walk_from, walked, word_met}
use Rattle.clap.specs.Simple.{Shape, built}
use Rattle.clap.specs.Takes.{bundle_passes, default_passes, flag_word_passes, is_valid, level_passes, settle_passes, step_passes, takes, turn_passes, walk_passes, word_passes}
use Rattle.clap.proofs.TakesLemmas.{leaf_takes}
use Rattle.gms_command.specs.CommandLine.{gams25, request_in}
use Rattle.gms_command.specs.Laws.{is_no_option, IsFile}

pub no_dashes : (word : Text) → is_no_option word ≡ true → bytes_eq word (45 ∷ 45 ∷ []) ≡ false
no_dashes [] plain = refl
no_dashes (b ∷ word) plain = rw (not-true (b == 45) plain) refl

pub no_long : (word : Text) → is_no_option word ≡ true → long_of word ≡ None
no_long [] plain = refl
no_long (b ∷ word) plain = rw (not-true (b == 45) plain) refl

pub no_short : (word : Text) → is_no_option word ≡ true → short_of word ≡ None
no_short [] plain = refl
no_short (b ∷ word) plain = rw (not-true (b == 45) plain) refl

-- such a word is a value
met : (c : List Rule) (position : ℕ) (word : Text) (h : Held) → is_no_option word ≡ true → word_met c [] false idle position word h ≡ (h, value)
met c position word h plain =
    ap₂ (λ (d : Bool) (l : Option (Text × Option Text)). if d then (h, trailing position) else long_or_other c idle word l h) (no_dashes word plain) (no_long word plain) ∙ ap (λ (s : Option Text). short_or_plain c idle word s h) (no_short word plain)

passes : (s : Shape) (word : Text) (h : Held) → is_no_option word ≡ true → word_passes s [] false idle word h ≡ true
passes s word h plain =
    ap₂ (λ (d : Bool) (l : Option (Text × Option Text)). d || flag_word_passes s.rules s.args_override_self l word h) (no_dashes word plain) (no_long word plain) ∙ ap (λ (o : Option Text). option_map_or (λ flags. bundle_passes s.rules s.args_override_self flags h) o true) (no_short word plain)

-- the command as it is built
abbrev pub shape : Shape
shape = (built gams25).top

turn : (word : Text) → is_no_option word ≡ true → turn_passes shape [] (walk_from nothing_held) word ≡ true
turn word plain =
    ap₂ (λ (p : Bool) (m : Held × Step). p && step_passes shape 1 m.0 m.1) (passes shape word nothing_held plain) (met shape.rules 1 word nothing_held plain)

stepped : (word : Text) → is_no_option word ≡ true → walked shape.rules [] (walk_from nothing_held) word ≡ after_step shape.rules word (walk_from nothing_held) nothing_held value
unfolding walked
stepped word plain = ap (λ (m : Held × Step). after_step shape.rules word (walk_from nothing_held) m.0 m.1) (met shape.rules 1 word nothing_held plain)

walks : (word : Text) → is_no_option word ≡ true → walk_passes shape [] (walk_from nothing_held) (word ∷ []) ≡ true
unfolding walk_passes
walks word plain = ap (λ (b : Bool). b && true) (turn word plain)

taken : (word : Text) → is_no_option word ≡ true → takes gams25 (word ∷ []) ≡ true
taken word plain =
    let level : level_passes shape [] nothing_held (word ∷ []) false ≡ true = ap₂ (λ (p : Bool) (w : Walk). p && (settle_passes shape.rules shape.args_override_self w.held && (list_all default_passes shape.rules && is_valid shape (finished shape.rules w.held) false))) (walks word plain) (stepped word plain) in
    leaf_takes (built gams25) nothing_held (word ∷ []) refl level

pub is_file : IsFile
is_file word plain =
    ap₂ (λ (t : Bool) (rows : List Row). option_and_then request_in (if t then Some rows else None)) (taken word plain) (ap (λ (w : Walk). finished shape.rules w.held) (stepped word plain))
