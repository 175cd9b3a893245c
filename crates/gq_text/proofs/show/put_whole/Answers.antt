use Rattle.std.proofs.Common.{◌^◌, ◌<◌, List, ◌++◌, ℕ, ap, ◌∙◌, arith}
use Rattle.gq_text.proofs.Exacts.{numeral_only}
use Rattle.gq_text.proofs.show.put_whole.Goals as goal

pub returns : goal.returns
returns c =
    let numeral = c.push_numeral.ensures.numeral.numeral in
    let small : c.args.n < 10 ^ 64 = let fits = c.ranges.n.fits in omega (arith, fits) in
    c.push_numeral.ensures.numeral.appended ∙ ap (λ (l : List ℕ). l ++ numeral) c.clear.ensures ∙ numeral_only c.args.n numeral small c.push_numeral.ensures.numeral.is_numeral
