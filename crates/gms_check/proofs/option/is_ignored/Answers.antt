use Rattle.std.proofs.Common.{◌≡◌, ◌∙◌, ◌+◌, ◌<◌, ◌||◌, ℕ, Bool, false, List, length, get_or, drop, sym, ap, Bor}
use Rattle.std.specs.List.{list_any}
use Rattle.std.specs.Str.{str_eq_ignore_ascii_case}
use Rattle.std.proofs.lemmas.List.{at_drop_more}
use Rattle.gms_check.proofs.option.is_ignored.Goals as goal

-- one that is not the word, and others
any-step : {X : Type 0} (test : X → Bool) (xs : List X) (i : ℕ) (d : X) (t : Bool) → i < length xs → test (get_or xs i d) ≡ false → list_any test (drop i xs) ≡ t → list_any test (drop (i + 1) xs) ≡ t
any-step test xs i d t l e f =
    ap (λ (b : Bool). b || list_any test (drop (i + 1) xs)) (sym e) ∙ sym (at_drop_more (list_any test) xs i d l) ∙ f

pub loop-ignored-preserved : goal.loop-ignored-preserved
loop-ignored-preserved c =
    any-step (λ (w : Bor (List ℕ)). str_eq_ignore_ascii_case c.args.word.now w.now) _ c.loop-ignored.ignored-index _ _ c.loop-ignored-test.true (sym c.is_word.ensures ∙ c.if-is_word.false) c.loop-ignored.invariant
