-- The headings from the place on that the search finds.
use Rattle.std.proofs.Common.{◌≡◌, true, false, nat_le, rules, subst, sym}
use Rattle.std.proofs.lemmas.List.{take_rest}
use Rattle.std.proofs.lemmas.List.Sorted.{IsPartitionPoint-from_clause}
use Rattle.std.specs.List.Sorted.{IsPartitionPoint}
use Rattle.gms_table.specs.declared.heading.Heading.{Heading}
use Rattle.gms_table.proofs.HeadingLemmas.{ends_partitioned, left_over}
use Rattle.gms_table.proofs.heading.ending_after.Goals as goal

pub returns : goal.returns
returns c = λ table names number are spaced at.
    let column = c.args.column in
    let point = IsPartitionPoint-from_clause (λ (h : Heading). nat_le h.end column) c.args.headings.now c.partition_point-first.result c.partition_point-first.ensures.partitioned (ends_partitioned table 0 names c.args.headings.now column spaced are) (λ a r f k. search rules) in
    left_over table names c.args.headings.now number c.partition_point-first.result _ spaced are (subst (λ column. IsPartitionPoint (λ (h : Heading). nat_le h.end column ≡ true) (λ (h : Heading). nat_le h.end column ≡ false) c.args.headings.now c.partition_point-first.result) (sym at) point) (take_rest c.args.headings.now c.partition_point-first.result)
