use Rattle.std.proofs.Common.{◌≡◌, ◌<◌, ap, arith, refl, length, []}
use Rattle.gms_grammar.specs.Lines.{lines}
use Rattle.gms_list.specs.ListingText.{numbered_from}
use Rattle.std.proofs.lemmas.Bool.Decides.{nat_tests}
use Rattle.gms_list.proofs.Echoes.{next_line, no_lines}
use Rattle.gms_list.proofs.AppendedPieces.{traversal, step, broke, all, rest_is}
use Rattle.gms_list.proofs.listing.Listing.echo_from.Goals as goal

pub loop-number-init : goal.loop-number-init
loop-number-init c = (traversal _ refl, omega arith)

pub loop-number-preserved : goal.loop-number-preserved
loop-number-preserved c =
    (step _ _ (rest_is _ (ap (numbered_from c.loop-number.number) c.text_after_line-rest.ensures.lines) c.loop-number.invariant.0) c.in_ok-push_line.ensures, omega (arith, c.text_after_line-rest.ensures.shorter, c.loop-number.invariant.1))

pub returns-in_err-push_line : goal.returns-in_err-push_line
returns-in_err-push_line c =
    let some : 0 < length c.loop-number.rest.now = grind (arith, nat_tests) in
    broke c.from_residual.result c.from_residual.ensures.0 _ _ (rest_is _ (next_line c.loop-number.number c.loop-number.rest.now c.content_length-length.result some c.content_length-length.ensures.value) c.loop-number.invariant.0) c.in_err-push_line.ensures

pub returns-then-is_empty : goal.returns-then-is_empty
returns-then-is_empty c =
    let none : length c.loop-number.rest.now ≡ 0 = grind (arith, nat_tests) in
    all (rest_is [] (no_lines c.loop-number.number c.loop-number.rest.now none) c.loop-number.invariant.0)

pub returns-after-loop-number : goal.returns-after-loop-number
returns-after-loop-number c =
    all (rest_is [] (no_lines c.loop-number.number c.loop-number.rest.now (omega (arith, c.loop-number.invariant.1))) c.loop-number.invariant.0)
