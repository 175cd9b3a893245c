use Rattle.std.proofs.Common.{option_map}
use Rattle.gq_extended.specs.Meaning.{extended}
use Rattle.gms_exec.proofs.Putting.{tidied, puts-value, puts-lower, puts-upper, puts-level, puts-marginal, puts-fixed, leaves-model, leaves-solver}
use Rattle.gms_exec.proofs.given.put_value.Goals as goal

pub returns-in-None : goal.returns-in-None
returns-in-None g c =
    puts-value c.put.result c.args.suffix c.args.name c.args.t.now (extended g.F.ExactField.value c.args.value) c.args.store.now c.put.new.self (tidied c.args.store.now c.args.name c.given-given.result.now c.given-given.ensures.value c.given-given.ensures.differs c.given-given.ensures.ordered) c.in-None.is c.put.ensures.ok

pub returns-in-Lo : goal.returns-in-Lo
returns-in-Lo g c =
    puts-lower c.put_lower.result c.args.suffix c.args.name c.args.t.now (extended g.F.ExactField.value c.args.value) c.args.store.now c.put_lower.new.self (tidied c.args.store.now c.args.name c.given-given.result.now c.given-given.ensures.value c.given-given.ensures.differs c.given-given.ensures.ordered) (option_map g.F.ExactField.value c.bound.result) c.in-Lo.is c.bound.ensures c.put_lower.ensures.ok

pub returns-in-Up : goal.returns-in-Up
returns-in-Up g c =
    puts-upper c.put_upper.result c.args.suffix c.args.name c.args.t.now (extended g.F.ExactField.value c.args.value) c.args.store.now c.put_upper.new.self (tidied c.args.store.now c.args.name c.given-given.result.now c.given-given.ensures.value c.given-given.ensures.differs c.given-given.ensures.ordered) (option_map g.F.ExactField.value c.bound-in-Up.result) c.in-Up.is c.bound-in-Up.ensures c.put_upper.ensures.ok

pub returns-in-L : goal.returns-in-L
returns-in-L g c =
    puts-level c.put_level.result c.args.suffix c.args.name c.args.t.now (extended g.F.ExactField.value c.args.value) c.args.store.now c.put_level.new.self (tidied c.args.store.now c.args.name c.given-given.result.now c.given-given.ensures.value c.given-given.ensures.differs c.given-given.ensures.ordered) (g.F.ExactField.value c.number.result) c.in-L.is c.number.ensures c.put_level.ensures.ok

pub returns-in-M : goal.returns-in-M
returns-in-M g c =
    puts-marginal c.put_marginal.result c.args.suffix c.args.name c.args.t.now (extended g.F.ExactField.value c.args.value) c.args.store.now c.put_marginal.new.self (tidied c.args.store.now c.args.name c.given-given.result.now c.given-given.ensures.value c.given-given.ensures.differs c.given-given.ensures.ordered) (g.F.ExactField.value c.number-in-M.result) c.in-M.is c.number-in-M.ensures c.put_marginal.ensures.ok

pub returns-in-Fx : goal.returns-in-Fx
returns-in-Fx g c =
    puts-fixed c.put_fixed.result c.args.suffix c.args.name c.args.t.now (extended g.F.ExactField.value c.args.value) c.args.store.now c.put_fixed.new.store (tidied c.args.store.now c.args.name c.given-given.result.now c.given-given.ensures.value c.given-given.ensures.differs c.given-given.ensures.ordered) c.in-Fx.is c.put_fixed.ensures

pub returns-in-ModelStat : goal.returns-in-ModelStat
returns-in-ModelStat g c =
    leaves-model c.args.suffix c.args.name c.args.t.now (extended g.F.ExactField.value c.args.value) c.args.store.now (tidied c.args.store.now c.args.name c.given-given.result.now c.given-given.ensures.value c.given-given.ensures.differs c.given-given.ensures.ordered) c.in-ModelStat.is

pub returns-in-SolveStat : goal.returns-in-SolveStat
returns-in-SolveStat g c =
    leaves-solver c.args.suffix c.args.name c.args.t.now (extended g.F.ExactField.value c.args.value) c.args.store.now (tidied c.args.store.now c.args.name c.given-given.result.now c.given-given.ensures.value c.given-given.ensures.differs c.given-given.ensures.ordered) c.in-SolveStat.is
