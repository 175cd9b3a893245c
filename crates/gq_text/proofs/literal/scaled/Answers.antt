-- Parts within the limit make a fraction within it, and where one is not the literal rule fails.
use Rattle.std.proofs.Common.{◌≡◌, ℕ, zero, suc, ◌-◌, ◌*◌, ◌/◌, ◌^◌, ◌<◌, ◌≤◌, true, inl, inr, ap, ◌∙◌, sym, subst, arith, ℤ, pos, true≢false}
use Rattle.std.proofs.Math.Nat.{div-le_self}
use Rattle.std.proofs.lemmas.Bool.{cases_lt}
use Rattle.std.proofs.lemmas.Bool.Decides.{nat_tests}
use Rattle.std.proofs.lemmas.Int.{to_z_pos}
use mir.Val.{to_z}
use mir.Syntax.{w128}
use Rattle.gq_number.specs.Number.{ratio, gcd}
use Rattle.gq_field.specs.Fits.{fits}
use Rattle.gq_text.proofs.Literals.{HasParts, HasParts-from, below_some, parts_small, parts_fit, parts_there}
use Rattle.gq_text.proofs.literal.scaled.Goals as goal

fits-ratio : (n d limit : ℕ) → n ≤ limit → d ≤ limit → 0 < d → fits limit (ratio (pos n) d) ≡ true
unfolding ratio
fits-ratio n zero limit n_small d_small some = absurd (omega arith)
fits-ratio n (suc d) limit n_small d_small some =
    let above : n / gcd n (suc d) ≤ limit = omega (arith, div-le_self n (gcd n (suc d))) in
    let below : suc d / gcd n (suc d) ≤ limit = omega (arith, div-le_self (suc d) (gcd n (suc d))) in
    grind (arith, nat_tests)

abbrev SamePair : ℕ → ℕ → ℕ → ℕ → Type 0
SamePair a b c d = let p : ℕ × ℕ = (a, b) in let q : ℕ × ℕ = (c, d) in p ≡ q

has_parts : (digits up down above below : ℕ) (P Q : Type 0) → (down ≤ up → P × SamePair above below (digits * 10 ^ (up - down)) 1) → (up < down → Q × SamePair above below digits (10 ^ (down - up))) → HasParts digits up down above below
has_parts digits up down above below P Q h k =
    HasParts-from digits up down above below
    (λ more. let e = (h more).1 in (ap (λ (p : ℕ × ℕ). p.0) e, ap (λ (p : ℕ × ℕ). p.1) e))
    (λ less. let e = (k less).1 in (ap (λ (p : ℕ × ℕ). p.0) e, ap (λ (p : ℕ × ℕ). p.1) e))

pub from_parts-requires : goal.from_parts-requires
from_parts-requires g c =
    below_some c.args.digits c.args.up c.args.down c.in-Some.above c.in-Some.below (has_parts _ _ _ _ _ _ _ c.in-Some.ensures.whole c.in-Some.ensures.fraction)

pub returns-in_err-from_parts-in-Some : goal.returns-in_err-from_parts-in-Some
returns-in_err-from_parts-in-Some g c =
    let range = g.met.F.ExactField.limit_range in
    let parts = has_parts c.args.digits c.args.up c.args.down c.in-Some.above c.in-Some.below _ _ c.in-Some.ensures.whole c.in-Some.ensures.fraction in
    let small = parts_small g.F.ExactField.limit c.limit.result c.args.digits c.args.up c.args.down c.in-Some.above c.in-Some.below range.0 c.limit.ensures parts (λ more. (c.in-Some.ensures.whole more).0) (λ less. (c.in-Some.ensures.fraction less).0) in
    let read : to_z w128 c.in-Some.above ≡ pos c.in-Some.above = to_z_pos w128 c.in-Some.above (omega (arith, small.0)) in
    let fit : fits g.F.ExactField.limit (ratio (to_z w128 c.in-Some.above) c.in-Some.below) ≡ true = subst (λ (n : ℤ). fits g.F.ExactField.limit (ratio n c.in-Some.below) ≡ true) (sym read) (fits-ratio c.in-Some.above c.in-Some.below g.F.ExactField.limit small.0 small.1 (below_some c.args.digits c.args.up c.args.down c.in-Some.above c.in-Some.below parts)) in
    absurd (true≢false (sym fit ∙ c.in_err-from_parts-in-Some.ensures))

pub returns-in_ok-from_parts-in-Some : goal.returns-in_ok-from_parts-in-Some
returns-in_ok-from_parts-in-Some g c =
    let range = g.met.F.ExactField.limit_range in
    let parts = has_parts c.args.digits c.args.up c.args.down c.in-Some.above c.in-Some.below _ _ c.in-Some.ensures.whole c.in-Some.ensures.fraction in
    let small = parts_small g.F.ExactField.limit c.limit.result c.args.digits c.args.up c.args.down c.in-Some.above c.in-Some.below range.0 c.limit.ensures parts (λ more. (c.in-Some.ensures.whole more).0) (λ less. (c.in-Some.ensures.fraction less).0) in
    let read : to_z w128 c.in-Some.above ≡ pos c.in-Some.above = to_z_pos w128 c.in-Some.above (omega (arith, small.0)) in
    let fit = parts_fit g.F.ExactField.limit c.args.digits c.args.up c.args.down c.in-Some.above c.in-Some.below c.requires.shortest parts small.0 small.1 in
    (fit.0, c.in_ok-from_parts-in-Some.ensures.1 ∙ ap (λ (n : ℤ). ratio n c.in-Some.below) read ∙ fit.1)

pub returns-in-None : goal.returns-in-None
returns-in-None g c f =
    let there = parts_there g.F.ExactField.limit c.limit.result c.args.digits c.args.up c.args.down c.limit.ensures c.requires.some c.requires.shortest f in
    elim (cases_lt c.args.up c.args.down) [ inl less ↦ c.in-None.ensures.fraction less (there.1 less) | inr more ↦ c.in-None.ensures.whole more (there.0 more) ]
