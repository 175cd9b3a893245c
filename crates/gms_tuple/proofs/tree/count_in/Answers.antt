use Rattle.std.proofs.Common.{[], refl, sym, rules}
use Rattle.std.proofs.lemmas.List.Sorted.{IsPartitionPoint-from_clause}
use Rattle.gms_tuple.specs.TupleSet.{is_within}
use Rattle.gms_tuple.proofs.Lines.{partitioned, counted-point}
use Rattle.gms_tuple.proofs.tree.count_in.Goals as goal

pub returns : goal.returns
returns c =
    let xs = c.args.tuples.now in
    let parted = partitioned c.args.through c.args.t.now xs [] xs [] refl c.requires in
    let point = IsPartitionPoint-from_clause (is_within c.args.through c.args.t.now) xs c.partition_point.result c.partition_point.ensures.partitioned parted (λ a r f k. search rules) in
    sym (counted-point c.args.through c.args.t.now xs c.partition_point.result c.requires point c.partition_point.ensures.bound)
