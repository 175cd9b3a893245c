use Rattle.std.proofs.Common.{◌≡◌, drop}
use Rattle.std.specs.List.{list_any}
use Rattle.std.specs.Str.{str_eq_ignore_ascii_case}
use Rattle.gms_grammar.specs.Keywords.{statement_words, kind_among}
use Rattle.gms_grammar.proofs.Tables.{first_told}
use Rattle.gms_grammar.proofs.keyword.statement_word.Given as goal

-- the entries before the next one do not have the word
abbrev pub invariant-loop-keyword : goal.invariant-loop-keyword
invariant-loop-keyword l =
    kind_among l.word statement_words ≡ first_told (λ entry. list_any (λ other. str_eq_ignore_ascii_case l.word other.now) entry.words.now) (λ entry. entry.kind) (drop l.keyword-index l.keyword-items)
