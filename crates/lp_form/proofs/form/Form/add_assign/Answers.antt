use Rattle.std.proofs.Common.{◌≤◌, subst₂, arith, Ok, Err}
use Rattle.std.proofs.lemmas.Result.{err_from_is_err_and}
use Rattle.lp_form.specs.Forms.{of_two, sum_form_step, IsEntrywiseAnswer}
use Rattle.lp_form.specs.InnerMerging.{OnOutcome, Merges}
use Rattle.lp_form.proofs.Results.{merged-IsForm, merged-Gives, merged-Gives_fault}
use Rattle.lp_form.proofs.form.Form.add_assign.Goals as goal

pub returns-in_err-join-clause-value : goal.returns-in_err-join-clause-value
returns-in_err-join-clause-value g c =
    let p = err_from_is_err_and c.from_residual.result c.from_residual.ensures.1 in
    let some : 1 ≤ g.F.ExactField.limit = omega (arith, g.met.F.ExactField.limit_range.0) in
    let merges = subst₂ (λ keys numbers. OnOutcome (Merges g.F.ExactField.value g.F.ExactField.limit c.self.inside.keys.items c.self.inside.numbers.items keys numbers) (Err c.in_err-join.field-0.0)) c.as_slice.ensures.value c.as_slice-2.ensures.value c.in_err-join.ensures.joined in
    rw (p.1, p.2) (subst₂ (λ a b. IsEntrywiseAnswer g.F.ExactField.value (of_two (sum_form_step g.F.ExactField.limit) g.F.ExactField.value a b) (Err c.in_err-join.field-0.0)) c.self.view_is c.o.view_is
    (merged-Gives_fault g.F.ExactField.value g.F.ExactField.limit g.met.F.ExactField.within some (record { constant = c.self.inside.constant; keys = c.self.inside.keys.items; numbers = c.self.inside.numbers.items }) (record { constant = c.o.inside.constant; keys = c.o.inside.keys.items; numbers = c.o.inside.numbers.items }) c.in_err-join.field-0.0 c.self.invariant c.o.invariant merges c.in-Ok.ensures.0))

pub invariant_of-self-2 : goal.invariant_of-self-2
invariant_of-self-2 g c =
    let merges = subst₂ (λ keys numbers. Merges g.F.ExactField.value g.F.ExactField.limit c.self.inside.keys.items c.self.inside.numbers.items keys numbers (Ok (record { keys = c.join.new.keys.items; numbers = c.join.new.numbers.items }))) c.as_slice.ensures.value c.as_slice-2.ensures.value c.in_ok-join.ensures.joined in
    merged-IsForm g.F.ExactField.value g.F.ExactField.limit c.in-Ok.constant (record { constant = c.self.inside.constant; keys = c.self.inside.keys.items; numbers = c.self.inside.numbers.items }) (record { constant = c.o.inside.constant; keys = c.o.inside.keys.items; numbers = c.o.inside.numbers.items }) c.join.new.keys.items c.join.new.numbers.items c.self.invariant c.o.invariant merges

pub returns-clause-value : goal.returns-clause-value
returns-clause-value g c =
    let some : 1 ≤ g.F.ExactField.limit = omega (arith, g.met.F.ExactField.limit_range.0) in
    let merges = subst₂ (λ keys numbers. Merges g.F.ExactField.value g.F.ExactField.limit c.self.inside.keys.items c.self.inside.numbers.items keys numbers (Ok (record { keys = c.join.new.keys.items; numbers = c.join.new.numbers.items }))) c.as_slice.ensures.value c.as_slice-2.ensures.value c.in_ok-join.ensures.joined in
    subst₂ (λ a b. IsEntrywiseAnswer g.F.ExactField.value (of_two (sum_form_step g.F.ExactField.limit) g.F.ExactField.value a b) (Ok (record { constant = c.in-Ok.constant; keys = c.join.new.keys.items; numbers = c.join.new.numbers.items }))) c.self.view_is c.o.view_is
    (merged-Gives g.F.ExactField.value g.F.ExactField.limit g.met.F.ExactField.within some c.in-Ok.constant (record { constant = c.self.inside.constant; keys = c.self.inside.keys.items; numbers = c.self.inside.numbers.items }) (record { constant = c.o.inside.constant; keys = c.o.inside.keys.items; numbers = c.o.inside.numbers.items }) c.join.new.keys.items c.join.new.numbers.items c.self.invariant c.o.invariant merges c.in-Ok.ensures.0 c.in-Ok.ensures.1)
