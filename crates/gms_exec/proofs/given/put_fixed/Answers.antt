use Rattle.std.proofs.Common.{rules}
use Rattle.gq_extended.specs.Meaning.{extended}
use Rattle.gms_ast.specs.declared.expression.Suffix.TheVariants.{Fx}
use Rattle.gms_exec.proofs.Putting.{tidied, puts-fixed-level}
use Rattle.gms_exec.proofs.given.put_fixed.Goals as goal

pub returns-in_err-put_lower : goal.returns-in_err-put_lower
returns-in_err-put_lower g c = search rules

pub returns-in_err-put_upper : goal.returns-in_err-put_upper
returns-in_err-put_upper g c = search rules

pub returns : goal.returns
returns g c =
    puts-fixed-level c.put_level.result Fx c.args.name c.args.t.now (extended g.F.ExactField.value c.args.value) c.args.store.now c.put_level.new.self (tidied c.args.store.now c.args.name c.given-given.result.now c.given-given.ensures.value c.given-given.ensures.differs c.given-given.ensures.ordered) (g.F.ExactField.value c.number-x.result) c.put_lower.new.self c.put_upper.new.self c.number-x.ensures c.in_ok-put_lower.ensures.ok c.in_ok-put_upper.ensures.ok c.put_level.ensures.ok
