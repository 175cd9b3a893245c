use Rattle.std.proofs.Common.{refl, sym, ◌∙◌, arith}
use Rattle.gms_grammar.proofs.Tables.{told, told_by_none}
use Rattle.gms_grammar.proofs.keyword.statement_word.Goals as goal

pub loop-keyword-init : goal.loop-keyword-init
loop-keyword-init c = refl

pub returns-then-is_among : goal.returns-then-is_among
returns-then-is_among c = sym (c.loop-keyword.invariant ∙ told _ _ _ c.loop-keyword.keyword-index _ c.loop-keyword-test.true _ (sym c.is_among.ensures ∙ c.if-is_among.true))

pub loop-keyword-preserved : goal.loop-keyword-preserved
loop-keyword-preserved c = c.loop-keyword.invariant ∙ told _ _ _ c.loop-keyword.keyword-index _ c.loop-keyword-test.true _ (sym c.is_among.ensures ∙ c.if-is_among.false)

pub returns : goal.returns
returns c = sym (c.loop-keyword.invariant ∙ told_by_none _ _ _ c.loop-keyword.keyword-index (omega arith))
