use Rattle.std.proofs.Common.{◌∙◌, sym, ap, not, List, ℕ, remove}
use Rattle.gms_tuple.specs.TupleOrder.{same_tuple}
use Rattle.gms_tuple.proofs.Members.{remove-at, removed-absent, has-place, IsOrdered-filter, has-removed}
use Rattle.gms_tuple.proofs.set.TupleSet.remove.Goals as goal

pub returns-in_default-clause-rest : goal.returns-in_default-clause-rest
returns-in_default-clause-rest c = sym (removed-absent c.args.self.now c.args.t.now c.in_default.ensures.absent.0)

pub returns-clause-had : goal.returns-clause-had
returns-clause-had c = sym (has-place c.args.self.now c.args.t.now c.in-Ok.place c.in-Ok.ensures.member)

pub returns-clause-rest : goal.returns-clause-rest
returns-clause-rest c =
    c.remove.ensures ∙ ap (λ xs. remove xs c.in-Ok.place) c.self.view_is ∙ remove-at c.args.self.now c.args.t.now c.in-Ok.place c.in-Ok.ensures.ordered c.in-Ok.ensures.member

pub invariant_of-self : goal.invariant_of-self
invariant_of-self c = rw (returns-clause-rest c) (IsOrdered-filter (λ (member : List ℕ). not (same_tuple member c.args.t.now)) c.args.self.now c.in-Ok.ensures.ordered)

pub returns-clause-members : goal.returns-clause-members
returns-clause-members c = λ other. rw (returns-clause-rest c) (has-removed c.args.self.now c.args.t.now other)

pub returns-clause-ordered : goal.returns-clause-ordered
returns-clause-ordered c = invariant_of-self c
