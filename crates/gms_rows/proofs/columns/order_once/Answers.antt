use Rattle.std.proofs.lemmas.List.Filters.{dedup_is}
use Rattle.gms_rows.proofs.ColumnKeys.{deduplicated}
use Rattle.gms_rows.proofs.columns.order_once.Goals as goal

pub returns : goal.returns
returns g c =
    rw (dedup_is _ _ _ c.dedup.ensures.filtered) (deduplicated g.met.T.Ord.total g.met.T.Ord.matches_eq c.args.values.now.items c.sort.new.self.items c.sort.ensures.permutation c.in_ok-sort.ensures.sorted)
