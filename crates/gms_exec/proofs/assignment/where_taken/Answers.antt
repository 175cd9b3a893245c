use Rattle.gq_extended.specs.Meaning.{extended}
use Rattle.gms_eval.proofs.Marks.{stops-shown}
use Rattle.gms_exec.proofs.Assigning.{taken-so, taken-not}
use Rattle.gms_exec.proofs.assignment.where_taken.Goals as goal

pub returns-then-takes : goal.returns-then-takes
returns-then-takes g c = taken-so c.args.suffix c.args.at c.args.b.now (extended g.F.ExactField.value c.args.value) c.takes.result c.takes.ensures c.if-takes.true

pub returns : goal.returns
returns g c =
    stops-shown g.F.ExactField.value c.at_step.result _ _ (taken-not c.args.suffix c.args.at c.args.b.now (extended g.F.ExactField.value c.args.value) (extended g.F.ExactField.value c.zero-right.result) c.takes.result c.takes.ensures c.if-takes.false c.zero-right.ensures) c.at_step.ensures
