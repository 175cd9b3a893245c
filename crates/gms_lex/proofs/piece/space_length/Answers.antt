-- One more byte that is blank.
use Rattle.std.proofs.Common.{◌≡◌, false, drop, sym, ap, ◌∙◌, arith}
use Rattle.std.proofs.lemmas.List.{take_rest}
use Rattle.gms_lex.specs.Pieces.{begins_other}
use Rattle.gms_grammar.proofs.LineLemmas.{before_goes}
use Rattle.gms_lex.proofs.piece.space_length.Goals as goal

pub loop-count-preserved : goal.loop-count-preserved
loop-count-preserved c =
    let text = c.args.text.now in
    let goes : begins_other (drop c.loop-count.count text) ≡ false = ap begins_other (sym (take_rest text c.loop-count.count)) ∙ sym c.begins_other.ensures ∙ c.if-not-begins_other.true in
    (omega arith, omega (arith, before_goes begins_other text c.loop-count.count (omega arith) goes, c.loop-count.invariant.1))
