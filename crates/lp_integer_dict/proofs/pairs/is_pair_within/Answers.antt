use Rattle.std.proofs.Common.{rules, ℤ, nat_abs, ◌≡◌, ◌+◌, ◌*◌, ◌<◌, FitsSigned, to_z, of_z, sym, ◌∙◌, subst₂}
use Rattle.std.specs.Int.{w128}
use Rattle.std.proofs.lemmas.Int.{to_z-of_z}
use Rattle.lp_integer_rows.specs.Form.{AreFactors}
use Rattle.lp_integer_dict.proofs.Pairing.{found_past}
use Rattle.lp_integer_dict.proofs.pairs.is_pair_within.Goals as goal

pub returns-clause-none : goal.returns-clause-none
returns-clause-none c = λ told.
    let f : ℤ = to_z w128 (of_z w128 c.args.row.number) in
    let p : ℤ = to_z w128 (of_z w128 c.args.leaving.number) in
    let a : ℤ = to_z w128 (of_z w128 c.reduced_pair-a.result.0) in
    let b : ℤ = to_z w128 (of_z w128 c.reduced_pair-a.result.1) in
    let fits_f : FitsSigned w128 c.args.row.number = search rules in
    let fits_p : FitsSigned w128 c.args.leaving.number = search rules in
    let fits_a : FitsSigned w128 c.reduced_pair-a.result.0 = search rules in
    let fits_b : FitsSigned w128 c.reduced_pair-a.result.1 = search rules in
    let f_is : f ≡ c.args.row.number = to_z-of_z w128 c.args.row.number fits_f in
    let p_is : p ≡ c.args.leaving.number = to_z-of_z w128 c.args.leaving.number fits_p in
    let plain : c.args.bound < nat_abs p * c.args.row.most + nat_abs f * c.args.leaving.most =
    found_past c.within_bound.result (nat_abs p * c.args.row.most + nat_abs f * c.args.leaving.most) c.args.bound c.within_bound.ensures (sym c.is_some.ensures ∙ c.if-is_some.false) in
    record {
      plain = subst₂ (λ x y. c.args.bound < nat_abs x * c.args.row.most + nat_abs y * c.args.leaving.most) p_is f_is plain;
      reduced = λ above. record {
        of_row = a;
        of_leaving = b;
        factors = subst₂ (λ x y. AreFactors c.args.row.number c.args.leaving.number x y) (sym (to_z-of_z w128 c.reduced_pair-a.result.0 fits_a)) (sym (to_z-of_z w128 c.reduced_pair-a.result.1 fits_b))
            (subst₂ (λ x y. AreFactors x y c.reduced_pair-a.result.0 c.reduced_pair-a.result.1) f_is p_is c.reduced_pair-a.ensures);
        no_bound = found_past c.within_bound-2.result (nat_abs a * c.args.row.most + nat_abs b * c.args.leaving.most) c.args.bound c.within_bound-2.ensures (sym c.is_some-2.ensures ∙ told);
      };
    }
