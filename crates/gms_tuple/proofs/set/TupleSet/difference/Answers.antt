use Rattle.gms_tuple.specs.declared.merge.Operation.TheVariants.{Difference}
use Rattle.gms_tuple.proofs.Combined.{result-is}
use Rattle.gms_tuple.proofs.set.TupleSet.difference.Goals as goal

pub returns-clause-value : goal.returns-clause-value
returns-clause-value c = result-is Difference c.args.self.now c.args.o.now c.combined.ensures.first c.combined.result c.combined.ensures.members c.combined.ensures.ordered
