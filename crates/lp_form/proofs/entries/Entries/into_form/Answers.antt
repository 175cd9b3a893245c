use Rattle.std.proofs.Common.{◌∙◌, ap}
use Rattle.lp_form.specs.Forms.{number_at, coefficient}
use Rattle.lp_form.proofs.SumTerms.{making-start, making-absent, making-turn, making-end}
use Rattle.lp_form.proofs.entries.Entries.into_form.Goals as goal

pub loop-key-init : goal.loop-key-init
loop-key-init g c =
    let v = g.F.ExactField.value in
    (tt, tt, making-start v (coefficient v c.args.self) (coefficient v c.constant-form.result) c.into_iter-key-iterator.result c.self.inside.numbers.entries c.into_iter-key-iterator.ensures.into_iter_gives.0 (λ key. ap (λ ks. number_at v ks c.constant-form.result.numbers key) c.constant-form.ensures.keys) c.self.invariant.ordered (λ key. ap (λ a. coefficient v a key) c.self.view_is), ap v c.constant-form.ensures.constant ∙ ap (λ a. v a.constant) c.self.view_is)

pub add_term-requires : goal.add_term-requires
add_term-requires g c =
    let v = g.F.ExactField.value in
    record { absent = making-absent v (coefficient v c.args.self) (coefficient v c.loop-key.form) c.loop-key.key-iterator c.next.new.self c.in-Some.key c.in-Some.number c.in-Some.ensures.steps c.loop-key.invariant.2 }

pub loop-key-preserved : goal.loop-key-preserved
loop-key-preserved g c =
    let v = g.F.ExactField.value in
    (tt, tt, making-turn v (coefficient v c.args.self) (coefficient v c.loop-key.form) (coefficient v c.add_term.new.form) c.loop-key.key-iterator c.next.new.self c.in-Some.key c.in-Some.number c.in-Some.ensures.steps c.in_ok-add_term.ensures.numbers c.loop-key.invariant.2, c.in_ok-add_term.ensures.constant ∙ c.loop-key.invariant.3)

pub returns-clause-constant : goal.returns-clause-constant
returns-clause-constant g c = c.loop-key.invariant.3

pub returns-clause-numbers : goal.returns-clause-numbers
returns-clause-numbers g c =
    let v = g.F.ExactField.value in
    making-end v (coefficient v c.args.self) (coefficient v c.loop-key.form) c.loop-key.key-iterator c.in-None.ensures.steps.0 c.loop-key.invariant.2
