use Rattle.std.proofs.Common.{◌≡◌, ℕ, ◌≤◌, inl, Some, sym, subst}
use Rattle.std.specs.Prelude.{slice_get, IfOk, IfErr}
use Rattle.lp_core.specs.Dictionary.{Dictionary}
use Rattle.lp_core.specs.Steps.{AllFit, exchange_steps}
use Rattle.lp_integer_dict.specs.Whole.{integer_dictionary, IsPivotCrowded}
use Rattle.lp_integer_dict.proofs.Answering.{pivot_crowded}
use Rattle.lp_integer_rows.proofs.Results.{ok_ok_anyway}
use Rattle.lp_integer_dict.proofs.whole.Whole.pivot.Goals as goal

pub returns-then-fits-clause-fits : goal.returns-then-fits-clause-fits
returns-then-fits-clause-fits c =
    ok_ok_anyway ((limit pivot k : ℕ) → c.args.self.bound ≤ limit → slice_get c.args.self.basic k ≡ Some c.args.p.leave → AllFit (exchange_steps limit pivot (integer_dictionary c.args.self) c.args.p.enter k)) c.turned.result (c.fits.ensures.fits c.if-fits.true)

pub returns-then-fits-2-clause-fits : goal.returns-then-fits-2-clause-fits
returns-then-fits-2-clause-fits c =
    ok_ok_anyway ((limit pivot k : ℕ) → c.args.self.bound ≤ limit → slice_get c.args.self.basic k ≡ Some c.args.p.leave → AllFit (exchange_steps limit pivot (integer_dictionary c.args.self) c.args.p.enter k)) c.turned-then-fits-2.result
    (λ limit pivot k within_bound at.
    subst (λ d. AllFit (exchange_steps limit pivot d c.args.p.enter k)) c.in_ok-same.ensures.same
    (c.fits-2.ensures.fits c.if-fits-2.true limit pivot k (subst (λ b. b ≤ limit) (sym c.in_ok-same.ensures.bound) within_bound)
    (subst (λ (d : Dictionary). slice_get d.basic k ≡ Some c.args.p.leave) (sym c.in_ok-same.ensures.same) at)))

pub returns-then-fits-clause-none : goal.returns-then-fits-clause-none
returns-then-fits-clause-none c = pivot_crowded c.args.self.basic c.args.p c.turned.result c.turned.ensures.none

pub returns-then-fits-2-clause-none : goal.returns-then-fits-2-clause-none
returns-then-fits-2-clause-none c =
    subst (λ (d : Dictionary). IfOk c.turned-then-fits-2.result (λ s. IfErr s (λ same. (k : ℕ) → slice_get d.basic k ≡ Some c.args.p.leave → IsPivotCrowded same c.args.p k))) c.in_ok-same.ensures.same
    (pivot_crowded _ c.args.p c.turned-then-fits-2.result c.turned-then-fits-2.ensures.none)

pub returns-clause-none : goal.returns-clause-none
returns-clause-none c = λ k at.
    inl (c.fits-2.ensures.none c.if-fits-2.false k (subst (λ (d : Dictionary). slice_get d.basic k ≡ Some c.args.p.leave) (sym c.in_ok-same.ensures.same) at))
