use Rattle.lp_integer_dict.specs.Pairs.{ArePairsFit}
use Rattle.lp_integer_dict.proofs.pairs.pairs_fit.Given as goal

abbrev pub invariant-loop-i : goal.invariant-loop-i
invariant-loop-i l = ArePairsFit l.lines l.deferred l.leaving l.column l.bound l.i
