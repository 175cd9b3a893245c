use Rattle.std.proofs.Common.{◌∙◌, sym, ap, subst, length}
use Rattle.lp_form.specs.Keys.{AreOrdered}
use Rattle.lp_form.proofs.Updates.{from-none}
use Rattle.lp_form.proofs.entries.Entries.of_form.Goals as goal

pub put_all-requires-clause-ordered : goal.put_all-requires-clause-ordered
put_all-requires-clause-ordered g c = subst AreOrdered (sym c.keys.ensures.keys) c.keys.ensures.form.ordered

pub put_all-requires-clause-paired : goal.put_all-requires-clause-paired
put_all-requires-clause-paired g c =
    ap length c.numbers.ensures.numbers ∙ c.keys.ensures.form.paired ∙ sym (ap length c.keys.ensures.keys)

pub returns-clause-constant : goal.returns-clause-constant
returns-clause-constant g c = c.put_all.ensures.constant ∙ c.new-entries.ensures.constant ∙ c.offset.ensures

pub returns-clause-numbers : goal.returns-clause-numbers
returns-clause-numbers g c =
    λ key. c.in_ok-put_all.ensures.numbers key ∙ from-none g.F.ExactField.value c.new-entries.result.keys c.keys.result.now c.args.form.now.keys c.new-entries.result.numbers c.numbers.result.now c.args.form.now.numbers key c.new-entries.ensures.keys c.keys.ensures.keys c.numbers.ensures.numbers
