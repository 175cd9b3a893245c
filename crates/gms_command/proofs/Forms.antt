-- Single forms of arguments, and parts that are given twice.
use mathlib.Core.Bool.{and-false, or-true}
use Rattle.std.proofs.Common.{◌≡◌, ◌∙◌, ◌&&◌, ◌||◌, ℕ, Bool, true, false, not, List, [], ◌∷◌, ◌++◌, Option, Some, None, option_map, refl, ap, if◌then◌else◌}
use Rattle.std.proofs.lemmas.Slice.Eq.{bytes_eq-Decides}
use Rattle.gms_command.specs.CommandLine.{asked, generated, size_of}
use Rattle.gms_command.specs.Laws.{Argument, differ_from, file_name, has_part, is_no_option, option_with, part_name, ranges_flag, requested, run_of_model, IsOut, IsSave, NamesRestart, IsRanges, IsGenerate, IsRefusedEmpty, IsRefusedBesideGenerate, IsRefusedTwice}
use Rattle.gms_command.specs.Laws.{out_option, save_option, restart_option, generate_option}
use Rattle.gms_command.proofs.Parts.{by_parts, given_append}

-- ---- single forms

one_plain : (a : List ℕ) → is_no_option a ≡ true → (is_no_option a && true) ≡ true
one_plain a h = ap (λ (x : Bool). x && true) h

two_plain : (a b : List ℕ) → is_no_option a ≡ true → is_no_option b ≡ true → (is_no_option a && (is_no_option b && true)) ≡ true
two_plain a b h k = ap (λ (x : Bool). x && (is_no_option b && true)) h ∙ one_plain b k

pub out : IsOut
out name file p q = by_parts (option_with out_option name ∷ file_name file ∷ []) (two_plain name file p q)

pub save : IsSave
save name file p q = by_parts (option_with save_option name ∷ file_name file ∷ []) (two_plain name file p q)

pub restart : NamesRestart
restart saved file p q = by_parts (option_with restart_option saved ∷ file_name file ∷ []) (two_plain saved file p q)

pub ranges : IsRanges
ranges file p = by_parts (ranges_flag ∷ file_name file ∷ []) (one_plain file p)

model_of : (size : Option ℕ) → option_map (asked false None None) (option_map generated size) ≡ option_map run_of_model size
model_of None = refl
model_of (Some size) = refl

pub generate : IsGenerate
generate text p = by_parts (option_with generate_option text ∷ []) (one_plain text p) ∙ model_of (size_of text)

pub empty : IsRefusedEmpty
empty = by_parts [] refl

pub beside_generate : IsRefusedBesideGenerate
beside_generate text other p q =
    (by_parts (option_with generate_option text ∷ file_name other ∷ []) (two_plain text other p q), by_parts (option_with generate_option text ∷ option_with restart_option other ∷ []) (two_plain text other p q))

-- ---- a part that is given twice

seen_later : (between seen after : List Argument) (other : Argument) → has_part (part_name other) seen ≡ true → differ_from seen (between ++ other ∷ after) ≡ false
seen_later [] seen after other there = ap (λ (b : Bool). not b && differ_from (seen ++ other ∷ []) after) there
seen_later (part ∷ between) seen after other there =
    ap (λ (b : Bool). not (has_part (part_name part) seen) && b) (seen_later between (seen ++ part ∷ []) after other (given_append (part_name other) seen (part ∷ []) ∙ ap (λ (b : Bool). b || has_part (part_name other) (part ∷ [])) there))
    ∙ and-false (not (has_part (part_name part) seen))

named_alike : (one other : Argument) (seen : List Argument) → part_name one ≡ part_name other → has_part (part_name other) (seen ++ one ∷ []) ≡ true
named_alike one other seen same =
    given_append (part_name other) seen (one ∷ [])
    ∙ ap (λ (b : Bool). has_part (part_name other) seen || (b || false)) ((bytes_eq-Decides (part_name one) (part_name other)).1 same)
    ∙ or-true (has_part (part_name other) seen)

not_once : (before seen between after : List Argument) (one other : Argument) → part_name one ≡ part_name other → differ_from seen (before ++ one ∷ (between ++ other ∷ after)) ≡ false
not_once [] seen between after one other same =
    ap (λ (b : Bool). not (has_part (part_name one) seen) && b) (seen_later between (seen ++ one ∷ []) after other (named_alike one other seen same))
    ∙ and-false (not (has_part (part_name one) seen))
not_once (part ∷ before) seen between after one other same =
    ap (λ (b : Bool). not (has_part (part_name part) seen) && b) (not_once before (seen ++ part ∷ []) between after one other same)
    ∙ and-false (not (has_part (part_name part) seen))

pub twice : IsRefusedTwice
twice before between after one other same plain =
    by_parts (before ++ one ∷ (between ++ other ∷ after)) plain
    ∙ ap (λ (b : Bool). if b then requested (before ++ one ∷ (between ++ other ∷ after)) else None) (not_once before [] between after one other same)
