use Rattle.std.proofs.Common.{rules, ℤ, ◌≡◌, FitsSigned, to_z, of_z, sym, ◌∙◌, subst₂}
use Rattle.std.specs.Int.{w128}
use Rattle.std.proofs.lemmas.Int.{to_z-of_z}
use Rattle.lp_integers.specs.Lines.{whole_at}
use Rattle.lp_integer_rows.specs.Form.{wholes, AreFactors}
use Rattle.lp_integer_rows.proofs.line.plan_some.Goals as goal

pub returns-in-None : goal.returns-in-None
returns-in-None c =
    let a : ℤ = to_z w128 (of_z w128 c.reduced_pair-a.result.0) in
    let b : ℤ = to_z w128 (of_z w128 c.reduced_pair-a.result.1) in
    let fits_a : FitsSigned w128 c.reduced_pair-a.result.0 = search rules in
    let fits_b : FitsSigned w128 c.reduced_pair-a.result.1 = search rules in
    let fits_f : FitsSigned w128 c.number_at.result = search rules in
    let fits_p : FitsSigned w128 c.number_at-2.result = search rules in
    let f_is : to_z w128 (of_z w128 c.number_at.result) ≡ whole_at (wholes c.args.line.now) c.args.column =
    to_z-of_z w128 c.number_at.result fits_f ∙ c.number_at.ensures in
    let p_is : to_z w128 (of_z w128 c.number_at-2.result) ≡ whole_at (wholes c.args.pivot.now) c.args.column =
    to_z-of_z w128 c.number_at-2.result fits_p ∙ c.number_at-2.ensures in
    let factors : AreFactors (whole_at (wholes c.args.line.now) c.args.column) (whole_at (wholes c.args.pivot.now) c.args.column) a b =
    subst₂ (λ x y. AreFactors (whole_at (wholes c.args.line.now) c.args.column) (whole_at (wholes c.args.pivot.now) c.args.column) x y) (sym (to_z-of_z w128 c.reduced_pair-a.result.0 fits_a)) (sym (to_z-of_z w128 c.reduced_pair-a.result.1 fits_b))
    (subst₂ (λ x y. AreFactors x y c.reduced_pair-a.result.0 c.reduced_pair-a.result.1) f_is p_is c.reduced_pair-a.ensures) in
    record { of_line = a; of_pivot = b; factors = factors; no_bound = c.in-None.ensures }

pub returns-in-Some : goal.returns-in-Some
returns-in-Some c =
    let a : ℤ = to_z w128 (of_z w128 c.reduced_pair-a.result.0) in
    let b : ℤ = to_z w128 (of_z w128 c.reduced_pair-a.result.1) in
    let fits_a : FitsSigned w128 c.reduced_pair-a.result.0 = search rules in
    let fits_b : FitsSigned w128 c.reduced_pair-a.result.1 = search rules in
    let fits_f : FitsSigned w128 c.number_at.result = search rules in
    let fits_p : FitsSigned w128 c.number_at-2.result = search rules in
    let f_is : to_z w128 (of_z w128 c.number_at.result) ≡ whole_at (wholes c.args.line.now) c.args.column =
    to_z-of_z w128 c.number_at.result fits_f ∙ c.number_at.ensures in
    let p_is : to_z w128 (of_z w128 c.number_at-2.result) ≡ whole_at (wholes c.args.pivot.now) c.args.column =
    to_z-of_z w128 c.number_at-2.result fits_p ∙ c.number_at-2.ensures in
    let factors : AreFactors (whole_at (wholes c.args.line.now) c.args.column) (whole_at (wholes c.args.pivot.now) c.args.column) a b =
    subst₂ (λ x y. AreFactors (whole_at (wholes c.args.line.now) c.args.column) (whole_at (wholes c.args.pivot.now) c.args.column) x y) (sym (to_z-of_z w128 c.reduced_pair-a.result.0 fits_a)) (sym (to_z-of_z w128 c.reduced_pair-a.result.1 fits_b))
    (subst₂ (λ x y. AreFactors x y c.reduced_pair-a.result.0 c.reduced_pair-a.result.1) f_is p_is c.reduced_pair-a.ensures) in
    record { factors = factors; most = c.in-Some.ensures.0; within = c.in-Some.ensures.1 }
