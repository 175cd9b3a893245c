use Rattle.std.proofs.Common.{◌≡◌, ◌==◌, ◌∙◌, true, false, arith, ap, max, length}
use Rattle.std.proofs.lemmas.Bool.Decides.{nat_tests}
use Rattle.gms_fmt.specs.ElementTexts.{element_text}
use Rattle.gms_list.proofs.AppendedPieces.{chosen, other}
use Rattle.gms_list.proofs.solution.wider.Goals as goal

pub returns-then-key-symbol : goal.returns-then-key-symbol
returns-then-key-symbol g c = let differs : (c.args.key.now.symbol == c.args.symbol) ≡ false = grind (arith, nat_tests) in other (c.args.key.now.symbol == c.args.symbol) (max (length (element_text c.args.p.now.names c.args.p.now.labels c.args.key.now.symbol c.args.key.now.tuple)) c.args.width) c.args.width differs

pub returns : goal.returns
returns g c =
    let same : (c.args.key.now.symbol == c.args.symbol) ≡ true = grind (arith, nat_tests) in
    c.max.ensures ∙ ap (λ n. max n c.args.width) (ap length (c.as_str.ensures.value ∙ c.in_ok-text.ensures)) ∙ chosen (c.args.key.now.symbol == c.args.symbol) (max (length (element_text c.args.p.now.names c.args.p.now.labels c.args.key.now.symbol c.args.key.now.tuple)) c.args.width) c.args.width same
