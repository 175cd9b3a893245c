use Rattle.std.proofs.Common.{ap}
use Rattle.gq_extended.specs.Meaning.{extended}
use Rattle.gms_exec.specs.InnerContracts.{given_in}
use Rattle.gms_exec.proofs.Putting.{tidied, puts-member, puts-given}
use Rattle.gms_exec.proofs.given.put_given.Goals as goal

pub returns-in-Member : goal.returns-in-Member
returns-in-Member g c =
    puts-member c.set_member.result c.args.suffix c.args.name c.args.t.now c.in-Member.on c.args.store.now c.set_member.new.self (tidied c.args.store.now c.args.name c.given-given.result.now c.given-given.ensures.value c.given-given.ensures.differs c.given-given.ensures.ordered) (given_in g.F.ExactField.value c.args.given) (ap (given_in g.F.ExactField.value) c.in-Member.is) c.set_member.ensures.ok

pub returns-in-Value : goal.returns-in-Value
returns-in-Value g c =
    puts-given c.put_value.result c.args.suffix c.args.name c.args.t.now (extended g.F.ExactField.value c.in-Value.value) c.args.store.now c.put_value.new.store (tidied c.args.store.now c.args.name c.given-given.result.now c.given-given.ensures.value c.given-given.ensures.differs c.given-given.ensures.ordered) (given_in g.F.ExactField.value c.args.given) (ap (given_in g.F.ExactField.value) c.in-Value.is) c.put_value.ensures
