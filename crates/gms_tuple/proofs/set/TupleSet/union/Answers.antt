use Rattle.gms_tuple.specs.declared.merge.Operation.TheVariants.{Union}
use Rattle.gms_tuple.proofs.Combined.{only-result}
use Rattle.gms_tuple.proofs.set.TupleSet.union.Goals as goal

pub returns-clause-only : goal.returns-clause-only
returns-clause-only c = only-result Union c.args.self.now c.args.o.now c.combined.result c.combined.ensures.members c.combined.ensures.ordered
