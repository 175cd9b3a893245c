use Rattle.std.proofs.Common.{◌-◌}
use Rattle.gms_expressions.proofs.grammar.+nested.Given as goal

abbrev pub decreases-nested : goal.decreases-nested
decreases-nested g l = 100 - l.reader.unclosed
