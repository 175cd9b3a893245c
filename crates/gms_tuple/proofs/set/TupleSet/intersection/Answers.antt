use Rattle.gms_tuple.specs.declared.merge.Operation.TheVariants.{Intersection}
use Rattle.gms_tuple.proofs.Combined.{result-is}
use Rattle.gms_tuple.proofs.set.TupleSet.intersection.Goals as goal

pub returns-clause-value : goal.returns-clause-value
returns-clause-value c = result-is Intersection c.args.self.now c.args.o.now c.combined.ensures.first c.combined.result c.combined.ensures.members c.combined.ensures.ordered
