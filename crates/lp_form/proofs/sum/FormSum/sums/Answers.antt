use Rattle.std.proofs.Common.{◌≡◌, ◌∙◌, ◌≤◌, true, false, ap, subst, arith}
use Rattle.gq_number.specs.Number.{◌+ℚ◌}
use Rattle.gq_field.specs.Fits.{sum_fits}
use Rattle.lp_form.specs.Forms.{coefficient}
use Rattle.lp_form.proofs.Merged.{number_at-fits}
use Rattle.lp_form.proofs.Sums.{summing-start, summing-turn, summing-stop, summing-end}
use Rattle.lp_form.proofs.sum.FormSum.sums.Goals as goal

pub loop-i-init : goal.loop-i-init
loop-i-init g c =
    summing-start g.F.ExactField.value g.F.ExactField.limit (coefficient g.F.ExactField.value c.args.self.now) c.args.keys.now c.args.numbers.now c.new-sums.result.items c.new-sums.ensures.items c.requires.ordered

pub returns-in_default : goal.returns-in_default
returns-in_default g c =
    let v = g.F.ExactField.value in
    let limit = g.F.ExactField.limit in
    let some : 1 ≤ limit = omega (arith, g.met.F.ExactField.limit_range.0) in
    let fits = number_at-fits v limit g.met.F.ExactField.within some c.args.self.now.keys c.args.self.now.numbers in
    summing-stop v limit (coefficient v c.args.self.now) fits c.args.keys.now c.args.numbers.now c.loop-i.i c.loop-i.sums.items c.index-keys-i.result c.index-numbers-i.result (omega arith) c.requires.paired c.index-keys-i.is c.index-numbers-i.is c.loop-i.invariant c.in_ok-at.at c.in_ok-at.ensures (subst (λ n. sum_fits limit n (v c.index-numbers-i.result) ≡ false) c.get.ensures c.in_default.ensures)

pub loop-i-preserved : goal.loop-i-preserved
loop-i-preserved g c =
    let v = g.F.ExactField.value in
    let limit = g.F.ExactField.limit in
    let some : 1 ≤ limit = omega (arith, g.met.F.ExactField.limit_range.0) in
    let fits = number_at-fits v limit g.met.F.ExactField.within some c.args.self.now.keys c.args.self.now.numbers in
    summing-turn v limit (coefficient v c.args.self.now) fits c.args.keys.now c.args.numbers.now c.loop-i.i c.loop-i.sums.items c.index-keys-i.result c.index-numbers-i.result (omega arith) c.requires.paired c.index-keys-i.is c.index-numbers-i.is c.loop-i.invariant c.in-Ok.sum c.push.new.self.items c.in_ok-push.ensures.items (subst (λ n. sum_fits limit n (v c.index-numbers-i.result) ≡ true) c.get.ensures c.in-Ok.ensures.0) (c.in-Ok.ensures.1 ∙ ap (λ n. n +ℚ v c.index-numbers-i.result) c.get.ensures)

pub returns : goal.returns
returns g c =
    let v = g.F.ExactField.value in
    let limit = g.F.ExactField.limit in
    let some : 1 ≤ limit = omega (arith, g.met.F.ExactField.limit_range.0) in
    let fits = number_at-fits v limit g.met.F.ExactField.within some c.args.self.now.keys c.args.self.now.numbers in
    summing-end v limit (coefficient v c.args.self.now) fits c.args.keys.now c.args.numbers.now c.loop-i.i c.loop-i.sums.items (omega arith) c.loop-i.invariant
