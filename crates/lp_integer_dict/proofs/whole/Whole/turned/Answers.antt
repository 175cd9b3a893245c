use Rattle.std.proofs.Common.{◌≡◌, ℕ, Some, sym, ap, ◌∙◌, subst}
use Rattle.std.specs.Prelude.{slice_get, Contains, IfOk, IfErr}
use Rattle.lp_core.specs.Dictionary.{exchanged}
use Rattle.lp_integer_dict.specs.Whole.{WholeTableau, IsWhole, AreCrowded, IsPivoted, integer_dictionary}
use Rattle.lp_integer_dict.proofs.Answering.{must_be, legal_at, exchanged_at, bound_at, same_at, cause_at}
use Rattle.lp_integer_rows.proofs.Results.{if_ok}
use Rattle.lp_integer_dict.proofs.whole.Whole.turned.Goals as goal

pub unreachable-requires : goal.unreachable-requires
unreachable-requires c =
    must_be c.args.self (subst IsWhole c.self.view_is c.self.invariant) c.args.p c.requires (subst (λ b. ¬ (Contains b c.args.p.leave)) (c.as_slice.ensures.value ∙ (ap (λ (t : WholeTableau). t.basic) c.self.view_is)) c.in_default.ensures)

pub open-requires-clause-legal : goal.open-requires-clause-legal
open-requires-clause-legal c =
    legal_at c.args.self (subst IsWhole c.self.view_is c.self.invariant) c.args.p c.requires c.in-Some.place (subst (λ b. slice_get b c.in-Some.place ≡ Some c.args.p.leave) (c.as_slice.ensures.value ∙ (ap (λ (t : WholeTableau). t.basic) c.self.view_is)) c.in-Some.ensures)

pub step_plain-requires-clause-legal : goal.step_plain-requires-clause-legal
step_plain-requires-clause-legal c =
    legal_at c.args.self (subst IsWhole c.self.view_is c.self.invariant) c.args.p c.requires c.in-Some.place (subst (λ b. slice_get b c.in-Some.place ≡ Some c.args.p.leave) (c.as_slice.ensures.value ∙ (ap (λ (t : WholeTableau). t.basic) c.self.view_is)) c.in-Some.ensures)

pub step_plain-requires-clause-later : goal.step_plain-requires-clause-later
step_plain-requires-clause-later c =
    c.if-p-eq0.false

pub step_out-requires-clause-legal : goal.step_out-requires-clause-legal
step_out-requires-clause-legal c =
    legal_at c.args.self (subst IsWhole c.self.view_is c.self.invariant) c.args.p c.requires c.in-Some.place (subst (λ b. slice_get b c.in-Some.place ≡ Some c.args.p.leave) (c.as_slice.ensures.value ∙ (ap (λ (t : WholeTableau). t.basic) c.self.view_is)) c.in-Some.ensures)

pub step_out-requires-clause-later : goal.step_out-requires-clause-later
step_out-requires-clause-later c =
    c.if-p-eq0.false

pub step_other-requires-clause-legal : goal.step_other-requires-clause-legal
step_other-requires-clause-legal c =
    legal_at c.args.self (subst IsWhole c.self.view_is c.self.invariant) c.args.p c.requires c.in-Some.place (subst (λ b. slice_get b c.in-Some.place ≡ Some c.args.p.leave) (c.as_slice.ensures.value ∙ (ap (λ (t : WholeTableau). t.basic) c.self.view_is)) c.in-Some.ensures)

pub step_other-requires-clause-later : goal.step_other-requires-clause-later
step_other-requires-clause-later c =
    c.if-p-eq0.false

pub step_plain-requires-clause-plain : goal.step_plain-requires-clause-plain
step_plain-requires-clause-plain c =
    sym (ap (λ (t : WholeTableau). t.deferred) c.self.view_is) ∙ c.in_default-deferred.is

pub step_out-requires-clause-out : goal.step_out-requires-clause-out
step_out-requires-clause-out c =
    sym (ap (λ (t : WholeTableau). t.deferred) c.self.view_is) ∙ c.in-Some-deferred.is ∙ ap Some (sym c.if-place-k.true)

pub step_other-requires-clause-off : goal.step_other-requires-clause-off
step_other-requires-clause-off c =
    sym (ap (λ (t : WholeTableau). t.deferred) c.self.view_is) ∙ c.in-Some-deferred.is

pub returns-then-p-eq0-clause-exchanged : goal.returns-then-p-eq0-clause-exchanged
returns-then-p-eq0-clause-exchanged c =
    exchanged_at c.args.self (subst IsWhole c.self.view_is c.self.invariant) c.args.p c.requires c.in-Some.place (subst (λ b. slice_get b c.in-Some.place ≡ Some c.args.p.leave) (c.as_slice.ensures.value ∙ (ap (λ (t : WholeTableau). t.basic) c.self.view_is)) c.in-Some.ensures) c.open.result c.open.ensures

pub returns-then-p-eq0-clause-bound : goal.returns-then-p-eq0-clause-bound
returns-then-p-eq0-clause-bound c =
    bound_at c.args.self c.args.p c.in-Some.place c.open.result c.open.ensures

pub returns-then-p-eq0-clause-same : goal.returns-then-p-eq0-clause-same
returns-then-p-eq0-clause-same c =
    same_at c.args.self c.args.p c.in-Some.place c.open.result c.open.ensures

pub returns-in_default-deferred-clause-exchanged : goal.returns-in_default-deferred-clause-exchanged
returns-in_default-deferred-clause-exchanged c =
    if_ok (IsPivoted c.args.self c.args.p c.in-Some.place) (λ r. IfOk r (λ after. (k : ℕ) → slice_get c.args.self.basic k ≡ Some c.args.p.leave → integer_dictionary after ≡ exchanged (integer_dictionary c.args.self) c.args.p.enter k)) c.step_plain.result (exchanged_at c.args.self (subst IsWhole c.self.view_is c.self.invariant) c.args.p c.requires c.in-Some.place (subst (λ b. slice_get b c.in-Some.place ≡ Some c.args.p.leave) (c.as_slice.ensures.value ∙ (ap (λ (t : WholeTableau). t.basic) c.self.view_is)) c.in-Some.ensures)) c.step_plain.ensures

pub returns-in_default-deferred-clause-bound : goal.returns-in_default-deferred-clause-bound
returns-in_default-deferred-clause-bound c =
    if_ok (IsPivoted c.args.self c.args.p c.in-Some.place) (λ r. IfOk r (λ after. after.bound ≡ c.args.self.bound)) c.step_plain.result (bound_at c.args.self c.args.p c.in-Some.place) c.step_plain.ensures

pub returns-in_default-deferred-clause-same : goal.returns-in_default-deferred-clause-same
returns-in_default-deferred-clause-same c =
    if_ok (IsPivoted c.args.self c.args.p c.in-Some.place) (λ r. IfErr r (λ same. (integer_dictionary same ≡ integer_dictionary c.args.self) × (same.bound ≡ c.args.self.bound))) c.step_plain.result (same_at c.args.self c.args.p c.in-Some.place) c.step_plain.ensures

pub returns-then-place-k-clause-exchanged : goal.returns-then-place-k-clause-exchanged
returns-then-place-k-clause-exchanged c =
    if_ok (IsPivoted c.args.self c.args.p c.in-Some.place) (λ r. IfOk r (λ after. (k : ℕ) → slice_get c.args.self.basic k ≡ Some c.args.p.leave → integer_dictionary after ≡ exchanged (integer_dictionary c.args.self) c.args.p.enter k)) c.step_out.result (exchanged_at c.args.self (subst IsWhole c.self.view_is c.self.invariant) c.args.p c.requires c.in-Some.place (subst (λ b. slice_get b c.in-Some.place ≡ Some c.args.p.leave) (c.as_slice.ensures.value ∙ (ap (λ (t : WholeTableau). t.basic) c.self.view_is)) c.in-Some.ensures)) c.step_out.ensures

pub returns-then-place-k-clause-bound : goal.returns-then-place-k-clause-bound
returns-then-place-k-clause-bound c =
    if_ok (IsPivoted c.args.self c.args.p c.in-Some.place) (λ r. IfOk r (λ after. after.bound ≡ c.args.self.bound)) c.step_out.result (bound_at c.args.self c.args.p c.in-Some.place) c.step_out.ensures

pub returns-then-place-k-clause-same : goal.returns-then-place-k-clause-same
returns-then-place-k-clause-same c =
    if_ok (IsPivoted c.args.self c.args.p c.in-Some.place) (λ r. IfErr r (λ same. (integer_dictionary same ≡ integer_dictionary c.args.self) × (same.bound ≡ c.args.self.bound))) c.step_out.result (same_at c.args.self c.args.p c.in-Some.place) c.step_out.ensures

pub returns-clause-exchanged : goal.returns-clause-exchanged
returns-clause-exchanged c =
    if_ok (IsPivoted c.args.self c.args.p c.in-Some.place) (λ r. IfOk r (λ after. (k : ℕ) → slice_get c.args.self.basic k ≡ Some c.args.p.leave → integer_dictionary after ≡ exchanged (integer_dictionary c.args.self) c.args.p.enter k)) c.step_other.result (exchanged_at c.args.self (subst IsWhole c.self.view_is c.self.invariant) c.args.p c.requires c.in-Some.place (subst (λ b. slice_get b c.in-Some.place ≡ Some c.args.p.leave) (c.as_slice.ensures.value ∙ (ap (λ (t : WholeTableau). t.basic) c.self.view_is)) c.in-Some.ensures)) c.step_other.ensures

pub returns-clause-bound : goal.returns-clause-bound
returns-clause-bound c =
    if_ok (IsPivoted c.args.self c.args.p c.in-Some.place) (λ r. IfOk r (λ after. after.bound ≡ c.args.self.bound)) c.step_other.result (bound_at c.args.self c.args.p c.in-Some.place) c.step_other.ensures

pub returns-clause-same : goal.returns-clause-same
returns-clause-same c =
    if_ok (IsPivoted c.args.self c.args.p c.in-Some.place) (λ r. IfErr r (λ same. (integer_dictionary same ≡ integer_dictionary c.args.self) × (same.bound ≡ c.args.self.bound))) c.step_other.result (same_at c.args.self c.args.p c.in-Some.place) c.step_other.ensures

pub returns-then-p-eq0-clause-none : goal.returns-then-p-eq0-clause-none
returns-then-p-eq0-clause-none c =
    cause_at c.args.self (subst IsWhole c.self.view_is c.self.invariant) c.args.p c.requires c.in-Some.place (subst (λ b. slice_get b c.in-Some.place ≡ Some c.args.p.leave) (c.as_slice.ensures.value ∙ (ap (λ (t : WholeTableau). t.basic) c.self.view_is)) c.in-Some.ensures) c.open.result c.open.ensures

pub returns-in_default-deferred-clause-none : goal.returns-in_default-deferred-clause-none
returns-in_default-deferred-clause-none c =
    if_ok (IsPivoted c.args.self c.args.p c.in-Some.place) (λ r. IfErr r (λ same. (k : ℕ) → slice_get c.args.self.basic k ≡ Some c.args.p.leave → AreCrowded same c.args.p k)) c.step_plain.result (cause_at c.args.self (subst IsWhole c.self.view_is c.self.invariant) c.args.p c.requires c.in-Some.place (subst (λ b. slice_get b c.in-Some.place ≡ Some c.args.p.leave) (c.as_slice.ensures.value ∙ (ap (λ (t : WholeTableau). t.basic) c.self.view_is)) c.in-Some.ensures)) c.step_plain.ensures

pub returns-then-place-k-clause-none : goal.returns-then-place-k-clause-none
returns-then-place-k-clause-none c =
    if_ok (IsPivoted c.args.self c.args.p c.in-Some.place) (λ r. IfErr r (λ same. (k : ℕ) → slice_get c.args.self.basic k ≡ Some c.args.p.leave → AreCrowded same c.args.p k)) c.step_out.result (cause_at c.args.self (subst IsWhole c.self.view_is c.self.invariant) c.args.p c.requires c.in-Some.place (subst (λ b. slice_get b c.in-Some.place ≡ Some c.args.p.leave) (c.as_slice.ensures.value ∙ (ap (λ (t : WholeTableau). t.basic) c.self.view_is)) c.in-Some.ensures)) c.step_out.ensures

pub returns-clause-none : goal.returns-clause-none
returns-clause-none c =
    if_ok (IsPivoted c.args.self c.args.p c.in-Some.place) (λ r. IfErr r (λ same. (k : ℕ) → slice_get c.args.self.basic k ≡ Some c.args.p.leave → AreCrowded same c.args.p k)) c.step_other.result (cause_at c.args.self (subst IsWhole c.self.view_is c.self.invariant) c.args.p c.requires c.in-Some.place (subst (λ b. slice_get b c.in-Some.place ≡ Some c.args.p.leave) (c.as_slice.ensures.value ∙ (ap (λ (t : WholeTableau). t.basic) c.self.view_is)) c.in-Some.ensures)) c.step_other.ensures
