use Rattle.std.proofs.Common.{◌≢◌, ℕ, ◌≤◌, subst}
use Rattle.std.specs.Prelude.{MatchOption}
use Rattle.lp_core.specs.Dictionary.{basic_at, OpeningIsRequired, IsLeast, IsOpening}
use Rattle.lp_dict.specs.declared.body.Body.TheVariants as body
use Rattle.lp_dict.specs.Tableau.{kept, upcoming_of}
use Rattle.lp_dict.proofs.Kept.{kept_is}
use Rattle.lp_dict.proofs.dict.Dict.opening.Goals as goal

pub returns-in-Whole : goal.returns-in-Whole
returns-in-Whole g c =
    subst (λ d. MatchOption c.opening_of.result (¬ (OpeningIsRequired d)) (λ p. ((k : ℕ) × IsOpening d p k) × ((i : ℕ) → IsLeast d i → p.leave ≤ basic_at d i)))
    (kept_is g.F.ExactField.value c.args.self.now c.self.inside.body c.self.view_is (body.Whole c.in-Whole.rows c.in-Whole.upcoming) c.in-Whole.is) c.opening_of.ensures

pub returns-in-Exact : goal.returns-in-Exact
returns-in-Exact g c =
    subst (λ d. MatchOption c.opening.result (¬ (OpeningIsRequired d)) (λ p. ((k : ℕ) × IsOpening d p k) × ((i : ℕ) → IsLeast d i → p.leave ≤ basic_at d i)))
    (kept_is g.F.ExactField.value c.args.self.now c.self.inside.body c.self.view_is (body.Exact c.in-Exact.dict) c.in-Exact.is) c.opening.ensures

pub opening_of-requires : goal.opening_of-requires
opening_of-requires g c =
    subst (λ b. upcoming_of b ≢ 1 → ¬ (OpeningIsRequired (kept g.F.ExactField.value b))) c.in-Whole.is c.self.invariant.opened
