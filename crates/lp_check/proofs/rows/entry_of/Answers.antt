use Rattle.std.proofs.Common.{nat_lt, rules, arith, sym}
use Rattle.std.proofs.lemmas.List.Sorted.{IsPartitionPoint-from_clause}
use Rattle.std.proofs.lemmas.Bool.Decides.{nat_tests}
use Rattle.lp_check.proofs.Found.{partitioned, found, another, past_end}
use Rattle.lp_check.proofs.rows.entry_of.Goals as goal
use Rattle.lp_check.proofs.rows.entry_of.Goals.{in_default-via-in-Some+else-place-column, in_default-via-in_default}

pub returns-in-Some : goal.returns-in-Some
returns-in-Some g c =
    let point = IsPartitionPoint-from_clause (λ e. nat_lt e.0 c.args.column) c.args.entries.now c.partition_point-first.result c.partition_point-first.ensures.partitioned (partitioned g.F.ExactField.value c.args.column c.args.entries.now c.requires) (λ a r f k. search rules) in
    sym (found g.F.ExactField.value c.args.column c.args.entries.now c.partition_point-first.result c.in-Some.field-0.now point (grind (arith, nat_tests)) c.in-Some.ensures.lookup.1 c.if-place-column.true)

pub returns-in_default : goal.returns-in_default
returns-in_default g c =
    let point = IsPartitionPoint-from_clause (λ e. nat_lt e.0 c.args.column) c.args.entries.now c.partition_point-first.result c.partition_point-first.ensures.partitioned (partitioned g.F.ExactField.value c.args.column c.args.entries.now c.requires) (λ a r f k. search rules) in
    elim c.in_default.branch [
      | in_default-via-in-Some+else-place-column w ↦
          sym (another g.F.ExactField.value c.args.column c.args.entries.now c.partition_point-first.result w.in-Some.field-0.now c.requires point (grind (arith, nat_tests)) w.in-Some.ensures.lookup.1 w.if-place-column.false)
      | in_default-via-in_default w ↦
          sym (past_end g.F.ExactField.value c.args.column c.args.entries.now c.partition_point-first.result point (grind (arith, nat_tests)))
    ]
