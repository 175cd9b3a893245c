-- One more byte before the first line end.
use Rattle.std.proofs.Common.{◌≡◌, false, drop, sym, ap, ◌∙◌, arith}
use Rattle.std.proofs.lemmas.List.{take_rest}
use Rattle.gms_grammar.specs.Lines.{is_line_end}
use Rattle.gms_grammar.proofs.LineLemmas.{before_goes}
use Rattle.gms_grammar.proofs.line.content_length.Goals as goal

pub loop-count-preserved : goal.loop-count-preserved
loop-count-preserved c =
    let text = c.args.text.now in
    let goes : is_line_end (drop c.loop-count.count text) ≡ false = ap is_line_end (sym (take_rest text c.loop-count.count)) ∙ sym c.is_line_end.ensures ∙ c.if-not-is_line_end.true in
    (omega arith, omega (arith, before_goes is_line_end text c.loop-count.count (omega arith) goes, c.loop-count.invariant.1))
