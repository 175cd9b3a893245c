use Rattle.std.proofs.Common.{◌≡◌, ◌+◌, ◌<◌, length, Some, None, inl, inr, refl, sym, ap, ◌∙◌, subst, arith}
use Rattle.std.specs.Prelude.{slice_get, Contains}
use Rattle.lp_fraction_dict.specs.Tableau.{IsPlace}
use Rattle.lp_integer_dict.specs.WithinBound.{AreWhole}
use Rattle.lp_integer_dict.specs.Whole.{WholeTableau, IsWhole}
use Rattle.lp_integer_rows.proofs.Plans.{get_within, index_get}
use Rattle.lp_integer_dict.proofs.Wholes.{sign_plain, sign_off, entering_tells}
use Rattle.lp_integer_dict.proofs.whole.Whole.entering.Goals as goal

pub index-requires : goal.index-requires
index-requires c =
    let w : AreWhole c.self.inside.lines.items (Some c.in-Some.k) (c.self.inside.variables + 2) c.self.inside.bound = subst (λ o. AreWhole c.self.inside.lines.items o (c.self.inside.variables + 2) c.self.inside.bound) c.in-Some.is c.self.invariant.are_whole in
    let within = get_within c.self.inside.lines.items c.in-Some.k w.within_bound.pivot w.within_bound.there in
    omega (arith, c.self.inside.lines.ok.0)

pub first_above-requires : goal.first_above-requires
first_above-requires c =
    let w : AreWhole c.self.inside.lines.items (Some c.in-Some.k) (c.self.inside.variables + 2) c.self.inside.bound = subst (λ o. AreWhole c.self.inside.lines.items o (c.self.inside.variables + 2) c.self.inside.bound) c.in-Some.is c.self.invariant.are_whole in
    let within = get_within c.self.inside.lines.items c.in-Some.k w.within_bound.pivot w.within_bound.there in
    let there : slice_get c.self.inside.lines.items c.in-Some.k ≡ Some c.index.result.now = index_get c.self.inside.lines.items c.in-Some.k c.index.result.now c.index.result.now within (sym c.index.ensures) in
    let wide = (c.self.invariant.are_whole.are_lines c.in-Some.k c.index.result.now there).1 in
    let sized = c.self.invariant.sized in
    omega arith

pub returns-in-Some : goal.returns-in-Some
returns-in-Some c =
    let w : AreWhole c.self.inside.lines.items (Some c.in-Some.k) (c.self.inside.variables + 2) c.self.inside.bound = subst (λ o. AreWhole c.self.inside.lines.items o (c.self.inside.variables + 2) c.self.inside.bound) c.in-Some.is c.self.invariant.are_whole in
    let within = get_within c.self.inside.lines.items c.in-Some.k w.within_bound.pivot w.within_bound.there in
    let there : slice_get c.args.self.now.lines c.in-Some.k ≡ Some c.index.result.now = subst (λ ls. slice_get ls c.in-Some.k ≡ Some c.index.result.now) (ap (λ (t : WholeTableau). t.lines) c.self.view_is) (index_get c.self.inside.lines.items c.in-Some.k c.index.result.now c.index.result.now within (sym c.index.ensures)) in
    let is : c.args.self.now.deferred ≡ Some c.in-Some.k = sym (ap (λ (t : WholeTableau). t.deferred) c.self.view_is) ∙ c.in-Some.is in
    let at : slice_get c.args.self.now.basic c.in-Some.k ≡ Some 0 = subst (λ o. IsPlace c.args.self.now.basic 0 o) is (subst IsWhole c.self.view_is c.self.invariant).is_deferred in
    entering_tells c.args.self.now (subst IsWhole c.self.view_is c.self.invariant) c.in-Some.k (inl at) c.index.result.now there (sign_off c.args.self.now (subst IsWhole c.self.view_is c.self.invariant) c.in-Some.k is c.index.result.now there) c.first_above.result c.first_above.ensures

pub returns-in-None : goal.returns-in-None
returns-in-None c =
    let t : WholeTableau = c.args.self.now in
    let len : c.len.result ≡ length c.self.inside.basic.items = let told = c.len.ensures in omega (arith, c.self.inside.basic.ok.0) in
    let row : c.len.result ≡ length t.basic = len ∙ ap length (ap (λ (t : WholeTableau). t.basic) c.self.view_is) in
    let within : c.len.result < length c.self.inside.lines.items = let paired = c.self.invariant.paired in omega arith in
    let there : slice_get t.lines (length t.basic) ≡ Some c.index-in-None.result.now =
    subst (λ n. slice_get t.lines n ≡ Some c.index-in-None.result.now) row (subst (λ ls. slice_get ls c.len.result ≡ Some c.index-in-None.result.now) (ap (λ (t : WholeTableau). t.lines) c.self.view_is) (index_get c.self.inside.lines.items c.len.result c.index-in-None.result.now c.index-in-None.result.now within (sym c.index-in-None.ensures))) in
    let is : t.deferred ≡ None = sym (ap (λ (t : WholeTableau). t.deferred) c.self.view_is) ∙ c.in-None.is in
    let none : ¬ (Contains t.basic 0) = subst (λ o. IsPlace t.basic 0 o) is (subst IsWhole c.self.view_is c.self.invariant).is_deferred in
    entering_tells t (subst IsWhole c.self.view_is c.self.invariant) (length t.basic) (inr (none, refl)) c.index-in-None.result.now there (sign_plain t (subst IsWhole c.self.view_is c.self.invariant) is c.index-in-None.result.now there) c.first_above-in-None.result c.first_above-in-None.ensures

pub first_above-requires-in-None : goal.first_above-requires-in-None
first_above-requires-in-None c =
    let len : c.len.result ≡ length c.self.inside.basic.items = let told = c.len.ensures in omega (arith, c.self.inside.basic.ok.0) in
    let within : c.len.result < length c.self.inside.lines.items = let paired = c.self.invariant.paired in omega arith in
    let there : slice_get c.self.inside.lines.items c.len.result ≡ Some c.index-in-None.result.now = index_get c.self.inside.lines.items c.len.result c.index-in-None.result.now c.index-in-None.result.now within (sym c.index-in-None.ensures) in
    let wide = (c.self.invariant.are_whole.are_lines c.len.result c.index-in-None.result.now there).1 in
    let sized = c.self.invariant.sized in
    omega arith
