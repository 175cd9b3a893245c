use Rattle.std.proofs.Common.{sym, rules}
use Rattle.gms_exec.specs.InnerContracts.{given_in}
use Rattle.gms_exec.proofs.GivenStates.{after_given-none}
use Rattle.gms_exec.proofs.Putting.{tidied, put-more, put-end}
use Rattle.gms_exec.proofs.given.put_all.Goals as goal

pub loop-t-init : goal.loop-t-init
loop-t-init g c =
    sym (after_given-none c.args.suffix c.args.name c.args.store.now (tidied c.args.store.now c.args.name c.given-given.result.now c.given-given.ensures.value c.given-given.ensures.differs c.given-given.ensures.ordered))

pub returns-in_err-put_given : goal.returns-in_err-put_given
returns-in_err-put_given g c = search rules

pub loop-t-preserved : goal.loop-t-preserved
loop-t-preserved g c =
    put-more (λ given. (given.0, given_in g.F.ExactField.value given.1)) c.args.suffix c.args.name c.args.all.now c.args.store.now c.loop-t.store c.put_given.new.store c.loop-t.t-index c.loop-t-item.result c.loop-t-test.true c.loop-t-item.is c.loop-t.invariant c.in_ok-put_given.ensures

pub returns : goal.returns
returns g c =
    put-end (λ given. (given.0, given_in g.F.ExactField.value given.1)) c.args.suffix c.args.name c.args.all.now c.args.store.now c.loop-t.store c.loop-t.t-index c.loop-t-test.false c.loop-t.invariant
