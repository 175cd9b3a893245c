use Rattle.std.proofs.Common.{ap}
use Rattle.lp_form.proofs.entries.Entries.set_offset.Goals as goal

pub invariant_of-self : goal.invariant_of-self
invariant_of-self g c =
    record { ordered = c.self.invariant.ordered; paired = c.self.invariant.paired; not_zero = c.self.invariant.not_zero }

pub returns-clause-keys : goal.returns-clause-keys
returns-clause-keys g c = ap (λ a. a.keys) c.self.view_is

pub returns-clause-numbers : goal.returns-clause-numbers
returns-clause-numbers g c = ap (λ a. a.numbers) c.self.view_is

pub returns-clause-form : goal.returns-clause-form
returns-clause-form g c =
    record { ordered = c.self.invariant.ordered; paired = c.self.invariant.paired; not_zero = c.self.invariant.not_zero }
