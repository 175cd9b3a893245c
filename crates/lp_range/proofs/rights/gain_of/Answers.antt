use Rattle.std.proofs.Common.{◌≡◌, true, false, arith, sym, subst}
use Rattle.lp_dict.specs.Tableau.{dictionary}
use Rattle.lp_range.specs.Ranges.{right_gain}
use Rattle.lp_range.proofs.Loops.{pair_fits, pair_gains}
use Rattle.lp_range.proofs.rights.gain_of.Goals as goal

pub overflow_add-slack : goal.overflow_add-slack
overflow_add-slack g c = omega (arith, c.keeps.ensures.sized, c.requires.within_bound)

pub overflow_add-slack-in-E : goal.overflow_add-slack-in-E
overflow_add-slack-in-E g c = omega (arith, c.keeps.ensures.sized, c.requires.within_bound)

pub overflow_add-slack-in-L : goal.overflow_add-slack-in-L
overflow_add-slack-in-L g c = omega (arith, c.keeps.ensures.sized, c.requires.within_bound)

pub overflow_add-slack-in-G : goal.overflow_add-slack-in-G
overflow_add-slack-in-G g c = omega (arith, c.keeps.ensures.sized, c.requires.within_bound)

pub returns-in-Ok : goal.returns-in-Ok
returns-in-Ok g c =
    let d = dictionary g.F.ExactField.value c.args.dict.now in
    let x = g.F.ExactField.value c.number.result in
    let y = g.F.ExactField.value c.number-in-E.result in
    let z = g.F.ExactField.value c.in-Ok.difference in (
      subst (λ s. (right_gain g.F.ExactField.limit d s c.args.slack c.args.row).fits ≡ true) (sym c.in-E.is) (pair_fits g.F.ExactField.limit d c.args.slack c.args.row x y c.number.ensures c.number-in-E.ensures true c.in-Ok.ensures.0),
      subst (λ s. z ≡ (right_gain g.F.ExactField.limit d s c.args.slack c.args.row).each) (sym c.in-E.is) (pair_gains g.F.ExactField.limit d c.args.slack c.args.row x y c.number.ensures c.number-in-E.ensures z c.in-Ok.ensures.1),
    )

pub returns-in-Err : goal.returns-in-Err
returns-in-Err g c =
    let d = dictionary g.F.ExactField.value c.args.dict.now in
    let x = g.F.ExactField.value c.number.result in
    let y = g.F.ExactField.value c.number-in-E.result in
    subst (λ s. (right_gain g.F.ExactField.limit d s c.args.slack c.args.row).fits ≡ false) (sym c.in-E.is) (pair_fits g.F.ExactField.limit d c.args.slack c.args.row x y c.number.ensures c.number-in-E.ensures false c.in-Err.ensures)
