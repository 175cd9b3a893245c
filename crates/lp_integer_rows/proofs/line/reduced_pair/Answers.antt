use Rattle.std.proofs.Common.{pos, nat_abs, ◌≡◌, sym, ap₂, ◌∙◌, subst₂}
use Rattle.std.specs.Int.{w128}
use Rattle.std.proofs.lemmas.Int.{to_z-of_z, fits_signed_from_abs}
use Rattle.gq_number.specs.Gcd.{gcd}
use Rattle.lp_integer_rows.specs.Form.{AreFactors}
use Rattle.lp_integer_rows.proofs.Updating.{shared_is, divided_by, above_factor, once_factors}
use Rattle.lp_integer_rows.proofs.line.reduced_pair.Goals as goal

pub overflow_cast-divisor : goal.overflow_cast-divisor
overflow_cast-divisor c =
    let f_is = to_z-of_z w128 c.args.f c.ranges.f in
    let p_is = to_z-of_z w128 c.args.p c.ranges.p in
    let first : c.unsigned_abs.result ≡ nat_abs c.args.f = cc in
    let second : c.unsigned_abs-2.result ≡ nat_abs c.args.p = cc in
    let s = shared_is c.args.f c.args.p c.gcd-shared.result c.ranges.p c.requires (c.gcd-shared.ensures ∙ ap₂ gcd first second) in
    fits_signed_from_abs w128 (pos c.gcd-shared.result) s.small

pub nonzero_div-result : goal.nonzero_div-result
nonzero_div-result c =
    let f_is = to_z-of_z w128 c.args.f c.ranges.f in
    let p_is = to_z-of_z w128 c.args.p c.ranges.p in
    let first : c.unsigned_abs.result ≡ nat_abs c.args.f = cc in
    let second : c.unsigned_abs-2.result ≡ nat_abs c.args.p = cc in
    let s = shared_is c.args.f c.args.p c.gcd-shared.result c.ranges.p c.requires (c.gcd-shared.ensures ∙ ap₂ gcd first second) in
    (s.positive, (divided_by c.args.p c.gcd-shared.result c.ranges.p s.positive s.small s.second).fits)

pub nonzero_div-result-2 : goal.nonzero_div-result-2
nonzero_div-result-2 c =
    let f_is = to_z-of_z w128 c.args.f c.ranges.f in
    let p_is = to_z-of_z w128 c.args.p c.ranges.p in
    let first : c.unsigned_abs.result ≡ nat_abs c.args.f = cc in
    let second : c.unsigned_abs-2.result ≡ nat_abs c.args.p = cc in
    let s = shared_is c.args.f c.args.p c.gcd-shared.result c.ranges.p c.requires (c.gcd-shared.ensures ∙ ap₂ gcd first second) in
    (s.positive, (divided_by c.args.f c.gcd-shared.result c.ranges.f s.positive s.small s.first).fits)

pub returns-then-shared-eq1 : goal.returns-then-shared-eq1
returns-then-shared-eq1 c =
    let f_is = to_z-of_z w128 c.args.f c.ranges.f in
    let p_is = to_z-of_z w128 c.args.p c.ranges.p in
    let first : c.unsigned_abs.result ≡ nat_abs c.args.f = cc in
    let second : c.unsigned_abs-2.result ≡ nat_abs c.args.p = cc in
    subst₂ (AreFactors c.args.f c.args.p) (sym p_is) (sym f_is) (once_factors c.args.f c.args.p c.requires (sym c.if-shared-eq1.true ∙ c.gcd-shared.ensures ∙ ap₂ gcd first second))

pub returns : goal.returns
returns c =
    let f_is = to_z-of_z w128 c.args.f c.ranges.f in
    let p_is = to_z-of_z w128 c.args.p c.ranges.p in
    let first : c.unsigned_abs.result ≡ nat_abs c.args.f = cc in
    let second : c.unsigned_abs-2.result ≡ nat_abs c.args.p = cc in
    let s = shared_is c.args.f c.args.p c.gcd-shared.result c.ranges.p c.requires (c.gcd-shared.ensures ∙ ap₂ gcd first second) in
    let a = divided_by c.args.p c.gcd-shared.result c.ranges.p s.positive s.small s.second in
    let b = divided_by c.args.f c.gcd-shared.result c.ranges.f s.positive s.small s.first in
    record {
      shared = c.gcd-shared.result;
      greatest = c.gcd-shared.ensures ∙ ap₂ gcd first second;
      positive = s.positive;
      above = above_factor _ c.args.p c.gcd-shared.result s.positive a.value c.requires;
      first = a.value;
      second = b.value;
    }
