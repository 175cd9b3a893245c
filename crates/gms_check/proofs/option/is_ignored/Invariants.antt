use Rattle.std.proofs.Common.{◌≡◌, drop}
use Rattle.std.specs.List.{list_any}
use Rattle.std.specs.Str.{str_eq_ignore_ascii_case}
use Rattle.gms_check.specs.OptionWords.{ignored}
use Rattle.gms_check.proofs.option.is_ignored.Given as goal

abbrev pub invariant-loop-ignored : goal.invariant-loop-ignored
invariant-loop-ignored l =
    list_any (λ w. str_eq_ignore_ascii_case l.word w.now) (drop l.ignored-index l.ignored-items) ≡ list_any (λ w. str_eq_ignore_ascii_case l.word w) ignored
