use Rattle.std.proofs.Common.{List, ℕ, sym, subst, Option, Bor}
use Rattle.std.proofs.lemmas.Bool.Decides.{Decides-eqb}
use Rattle.std.proofs.lemmas.Slice.Eq.{strip_prefix_is}
use Rattle.gms_save_text.specs.Reading.{IsPast}
use Rattle.gms_save_text.proofs.comparing.past.Goals as goal

pub returns-in-Some : goal.returns-in-Some
returns-in-Some c =
    let piece = c.args.piece.now in
    subst (λ (l : Option (Bor (List ℕ))). IsPast piece l c.strip_prefix.result) (sym c.in-Some.is) (strip_prefix_is Decides-eqb c.in-Some.text.now piece c.strip_prefix.result c.strip_prefix.ensures.cases)
