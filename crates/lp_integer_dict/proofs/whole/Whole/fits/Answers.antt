use Rattle.std.proofs.Common.{◌≡◌, ◌+◌, length, Some, ap, ◌∙◌, subst}
use Rattle.std.specs.Prelude.{slice_get, Contains}
use Rattle.lp_integer_dict.specs.Pairs.{ArePairsFit, IsSomePairCrowded}
use Rattle.lp_integer_dict.specs.Whole.{WholeTableau, IsWhole}
use Rattle.lp_integer_dict.proofs.Answering.{must_be, fits_at, crowded_at}
use Rattle.lp_integer_dict.proofs.whole.Whole.fits.Goals as goal

pub returns-clause-fits : goal.returns-clause-fits
returns-clause-fits c = λ told.
    fits_at c.args.self.now (subst IsWhole c.self.view_is c.self.invariant) c.args.p c.requires c.in-Some.place
    (subst (λ b. slice_get b c.in-Some.place ≡ Some c.args.p.leave) (c.as_slice.ensures.value ∙ ap (λ (t : WholeTableau). t.basic) c.self.view_is) c.in-Some.ensures)
    (subst (λ (t : WholeTableau). ArePairsFit t.lines t.deferred c.in-Some.place (c.args.p.enter + 1) t.bound (length t.lines)) c.self.view_is
    (subst (λ ls. ArePairsFit ls c.self.inside.deferred c.in-Some.place (c.args.p.enter + 1) c.self.inside.bound (length ls)) c.as_slice-2.ensures.value (c.pairs_fit.ensures.fits told)))

pub returns-clause-none : goal.returns-clause-none
returns-clause-none c = λ told.
    crowded_at c.args.self.now (subst IsWhole c.self.view_is c.self.invariant) c.args.p c.requires c.in-Some.place
    (subst (λ b. slice_get b c.in-Some.place ≡ Some c.args.p.leave) (c.as_slice.ensures.value ∙ ap (λ (t : WholeTableau). t.basic) c.self.view_is) c.in-Some.ensures)
    (subst (λ (t : WholeTableau). IsSomePairCrowded t.lines t.deferred c.in-Some.place (c.args.p.enter + 1) t.bound) c.self.view_is
    (subst (λ ls. IsSomePairCrowded ls c.self.inside.deferred c.in-Some.place (c.args.p.enter + 1) c.self.inside.bound) c.as_slice-2.ensures.value (c.pairs_fit.ensures.none told)))

pub returns-in_default-clause-none : goal.returns-in_default-clause-none
returns-in_default-clause-none c = λ told k at.
    absurd (must_be c.args.self.now (subst IsWhole c.self.view_is c.self.invariant) c.args.p c.requires (subst (λ b. ¬ (Contains b c.args.p.leave)) (c.as_slice.ensures.value ∙ ap (λ (t : WholeTableau). t.basic) c.self.view_is) c.in_default.ensures))
