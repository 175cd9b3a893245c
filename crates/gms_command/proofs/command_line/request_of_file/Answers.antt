use Rattle.std.proofs.Common.{◌≡◌, ◌∙◌, ◌≤◌, ◌<◌, ℕ, List, [], ◌∷◌, length, get_or, sym, subst, ap, arith, true, false, Some, None}
use Rattle.std.specs.Prelude.{string_bytes}
use Rattle.std.specs.declared.string.String.{String}
use Rattle.gms_command.specs.CommandLine.{asked, in_file, request_of, texts}
use Rattle.gms_command.specs.Laws.{is_no_option}
use Rattle.gms_command.proofs.PlainWords.{is_file}
use Rattle.gms_command.proofs.command_line.request_of_file.Goals as goal

-- one word that does not begin with `-` is the name of a file
only_word : {A : Type 0} (words : List (String A)) (word : String A) (tested file : List ℕ) → 1 ≤ length words → length words < 2 → word ≡ get_or words 0 word →
    tested ≡ string_bytes word → file ≡ string_bytes word → is_no_option tested ≡ true → request_of (texts words) ≡ Some (asked false None None (in_file file))
only_word [] word tested file some one is t f plain = absurd (omega (arith, some))
only_word (w ∷ []) word tested file some one is t f plain =
    rw (f ∙ ap string_bytes is) (is_file (string_bytes w) (subst (λ text. is_no_option text ≡ true) (t ∙ ap string_bytes is) plain))
only_word (w ∷ v ∷ ws) word tested file some one is t f plain = absurd (omega (arith, one))

pub returns-in-len1 : goal.returns-in-len1
returns-in-len1 c =
    only_word c.args.words.now c.file-item.result c.deref.result.now c.deref-in-len1.result.now c.in-len1.len_at_least c.in-len1.len_below c.file-item.is c.deref.ensures c.deref-in-len1.ensures (sym c.is_plain.ensures ∙ c.if-is_plain.true)
