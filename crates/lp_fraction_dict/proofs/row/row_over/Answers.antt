use Rattle.std.proofs.Common.{arith}
use Rattle.lp_fraction_dict.proofs.Division.{division_stops, division_goes, division_ends}
use Rattle.lp_fraction_dict.proofs.row.row_over.Goals as goal

pub returns-in_default-div : goal.returns-in_default-div
returns-in_default-div g c =
    λ high h. (tt, division_stops g.F.ExactField.value g.F.ExactField.limit high c.args.row.now (g.F.ExactField.value c.args.divisor) (omega (arith, g.met.F.ExactField.limit_range.0)) c.loop-entry.left.now c.loop-entry.made.items c.in-Some.entry.now c.in-Some.rest.now (c.loop-entry.invariant high h) c.in-Some.ensures.cases.0 c.in_default-div.ensures)

pub loop-entry-preserved : goal.loop-entry-preserved
loop-entry-preserved g c =
    λ high h. division_goes g.F.ExactField.value g.F.ExactField.limit high c.args.row.now (g.F.ExactField.value c.args.divisor) (omega (arith, g.met.F.ExactField.limit_range.0)) c.loop-entry.left.now c.loop-entry.made.items c.in-Some.entry.now c.in-Some.rest.now (c.loop-entry.invariant high h) c.in-Some.ensures.cases.0 c.in-Ok.number c.push.new.self.items c.requires c.in-Ok.ensures.0 c.in-Ok.ensures.1 c.in_ok-push.ensures.items

pub returns : goal.returns
returns g c =
    λ high h. (division_ends g.F.ExactField.value g.F.ExactField.limit high c.args.row.now (g.F.ExactField.value c.args.divisor) (omega (arith, g.met.F.ExactField.limit_range.0)) c.loop-entry.left.now c.loop-entry.made.items (c.loop-entry.invariant high h) c.in_default.ensures.cases, tt)
