use Rattle.lp_form.proofs.Results.{no_entries}
use Rattle.lp_form.proofs.form.Form.constant.Goals as goal

pub invariant_of-result : goal.invariant_of-result
invariant_of-result g c = no_entries g.F.ExactField.value c.args.v c.new.result.items c.new-2.result.items c.new.ensures.items c.new-2.ensures.items

pub returns-clause-form : goal.returns-clause-form
returns-clause-form g c = no_entries g.F.ExactField.value c.args.v c.new.result.items c.new-2.result.items c.new.ensures.items c.new-2.ensures.items
