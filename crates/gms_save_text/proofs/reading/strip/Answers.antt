use Rattle.std.proofs.Common.{◌≡◌, ◌≢◌, ◌∙◌, ◌++◌, List, ℕ, sym, subst, Option, Bor}
use Rattle.std.specs.Prelude.{MatchOption}
use Rattle.std.proofs.lemmas.Bool.Decides.{Decides-eqb}
use Rattle.std.proofs.lemmas.List.{append_cancel_left}
use Rattle.std.proofs.lemmas.Slice.Eq.{strip_prefix_is}
use Rattle.gms_save_text.proofs.reading.strip.Goals as goal

pub returns-in-Some : goal.returns-in-Some
returns-in-Some c rest is =
    let text = c.args.text.now in
    let prefix = c.args.prefix.now in
    let found = subst (λ (r : Option (Bor (List ℕ))). MatchOption r ((rest : List ℕ) → text ≢ prefix ++ rest) (λ x. text ≡ prefix ++ x.now)) c.in-Some.is (strip_prefix_is Decides-eqb text prefix c.strip_prefix.result c.strip_prefix.ensures.cases) in
    append_cancel_left prefix c.in-Some.rest.now rest (sym found ∙ is)

pub returns-in-None : goal.returns-in-None
returns-in-None c rest is =
    let text = c.args.text.now in
    let prefix = c.args.prefix.now in
    let found = subst (λ (r : Option (Bor (List ℕ))). MatchOption r ((rest : List ℕ) → text ≢ prefix ++ rest) (λ x. text ≡ prefix ++ x.now)) c.in-None.is (strip_prefix_is Decides-eqb text prefix c.strip_prefix.result c.strip_prefix.ensures.cases) in
    found rest is
