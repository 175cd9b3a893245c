use Rattle.std.proofs.Common.{◌∙◌, ap, sym}
use Rattle.gms_list.proofs.Once.{has, once_has, once_new}
use Rattle.gms_list.proofs.equations.push_once.Goals as goal

pub returns-then-contains : goal.returns-then-contains
returns-then-contains c = once_has c.args.numbers.now.items c.args.n (ap (λ ns. has ns c.args.n) (sym c.deref.ensures.value) ∙ sym c.contains.ensures.value ∙ c.if-contains.true)

pub returns : goal.returns
returns c = c.in_ok-push.ensures.items ∙ once_new c.args.numbers.now.items c.args.n (ap (λ ns. has ns c.args.n) (sym c.deref.ensures.value) ∙ sym c.contains.ensures.value ∙ c.if-contains.false)
