use Rattle.std.proofs.Common.{ap}
use Rattle.std.specs.Map.{keys_of, values_of}
use Rattle.lp_form.proofs.Results.{no_entries}
use Rattle.lp_form.proofs.entries.Entries.new.Goals as goal

pub invariant_of-result : goal.invariant_of-result
invariant_of-result g c =
    no_entries g.F.ExactField.value c.args.constant (keys_of c.new.result.entries) (values_of c.new.result.entries) (ap keys_of c.new.ensures.empty) (ap values_of c.new.ensures.empty)

pub returns-clause-keys : goal.returns-clause-keys
returns-clause-keys g c = ap keys_of c.new.ensures.empty
