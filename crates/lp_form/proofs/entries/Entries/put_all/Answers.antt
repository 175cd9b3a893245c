use Rattle.std.proofs.Common.{◌∙◌, refl, arith}
use Rattle.lp_form.specs.Forms.{coefficient}
use Rattle.lp_form.proofs.Updates.{put-turn, put-end}
use Rattle.lp_form.proofs.entries.Entries.put_all.Goals as goal

pub loop-i-init : goal.loop-i-init
loop-i-init g c = (λ key. refl, c.requires.ordered, refl)

pub loop-i-preserved : goal.loop-i-preserved
loop-i-preserved g c =
    let v = g.F.ExactField.value in
    let turn = put-turn v (coefficient v c.args.self.now) (coefficient v c.loop-i.self) (coefficient v c.put.new.self) c.args.keys.now c.args.numbers.now c.loop-i.i c.index-keys-i.result c.in_ok-copy.copy c.index-numbers-i.result (omega arith) c.requires.paired c.index-keys-i.is c.index-numbers-i.is c.in_ok-copy.ensures c.in_ok-put.ensures.numbers c.loop-i.invariant.1 c.loop-i.invariant.0 in
    (turn.0, turn.1, c.put.ensures.constant ∙ c.loop-i.invariant.2)

pub returns-clause-constant : goal.returns-clause-constant
returns-clause-constant g c = c.loop-i.invariant.2

pub returns-clause-numbers : goal.returns-clause-numbers
returns-clause-numbers g c =
    put-end g.F.ExactField.value (coefficient g.F.ExactField.value c.args.self.now) (coefficient g.F.ExactField.value c.loop-i.self) c.args.keys.now c.args.numbers.now c.loop-i.i (omega arith) c.loop-i.invariant.0
