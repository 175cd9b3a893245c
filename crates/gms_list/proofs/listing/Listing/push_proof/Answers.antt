use Rattle.std.proofs.Common.{◌∙◌, ◌≢◌, ap, sym, codes, map, refl, length, subst, true, false, None}
use Rattle.lp_check.specs.BoundSteps.{objective_bound}
use Rattle.gms_list.specs.Conditions.{HasProof}
use Rattle.gms_list.proofs.AppendedPieces.{traversal, step, broke, last, untouched}
use Rattle.gms_list.proofs.ProofLines.{optimal_ends, infeasible_ends, unbounded_ends, interrupted_ends, refused_ends}
use Rattle.gms_list.proofs.ProvedEnds.{optimal_duals, infeasible_duals}
use Rattle.gms_list.proofs.listing.Listing.push_proof.Goals as goal

-- ---- optimal

pub push_optimal-requires-clause-sized : goal.push_optimal-requires-clause-sized
push_optimal-requires-clause-sized g c =
    let proved = subst (HasProof g.F.ExactField.value c.args.lp.now) c.in-Optimal.is c.requires.proved in
    ap length c.as_slice-in-Optimal.ensures ∙ (optimal_duals g.F.ExactField.value c.args.lp.now c.in-Optimal.levels c.in-Optimal.row_levels c.in-Optimal.duals c.in-Optimal.reduced proved).0

pub push_optimal-requires-clause-there : goal.push_optimal-requires-clause-there
push_optimal-requires-clause-there g c =
    let proved = subst (HasProof g.F.ExactField.value c.args.lp.now) c.in-Optimal.is c.requires.proved in
    subst (λ ds. objective_bound g.F.ExactField.value true c.args.lp.now (map g.F.ExactField.value ds) ≢ None) (sym c.as_slice-in-Optimal.ensures) (optimal_duals g.F.ExactField.value c.args.lp.now c.in-Optimal.levels c.in-Optimal.row_levels c.in-Optimal.duals c.in-Optimal.reduced proved).1

pub returns-in_err-push-in-Optimal : goal.returns-in_err-push-in-Optimal
returns-in_err-push-in-Optimal g c =
    broke c.from_residual.result c.from_residual.ensures.0 (codes "PROOF Optimal\n") _
    (traversal _ (optimal_ends g.F.ExactField.value c.args.p.now.names c.args.p.now.labels g.F.ExactField.limit c.args.lp.now c.args.pivots c.args.end.now c.in-Optimal.levels c.in-Optimal.row_levels c.in-Optimal.duals c.in-Optimal.reduced c.in-Optimal.levels c.in-Optimal.duals c.in-Optimal.reduced c.in-Optimal.is refl refl refl)) c.in_err-push-in-Optimal.ensures

pub returns-in_ok-push-in-Optimal : goal.returns-in_ok-push-in-Optimal
returns-in_ok-push-in-Optimal g c =
    last _ _ c.push_optimal.result (step (codes "PROOF Optimal\n") _
    (traversal _ (optimal_ends g.F.ExactField.value c.args.p.now.names c.args.p.now.labels g.F.ExactField.limit c.args.lp.now c.args.pivots c.args.end.now c.in-Optimal.levels c.in-Optimal.row_levels c.in-Optimal.duals c.in-Optimal.reduced c.as_slice.result.now c.as_slice-in-Optimal.result.now c.as_slice-in-Optimal-2.result.now c.in-Optimal.is c.as_slice.ensures c.as_slice-in-Optimal.ensures c.as_slice-in-Optimal-2.ensures)) c.in_ok-push-in-Optimal.ensures) c.push_optimal.ensures

-- ---- infeasible

pub push_infeasible-requires-clause-sized : goal.push_infeasible-requires-clause-sized
push_infeasible-requires-clause-sized g c =
    let proved = subst (HasProof g.F.ExactField.value c.args.lp.now) c.in-Infeasible.is c.requires.proved in
    λ none. ap length c.as_slice-in-Infeasible.ensures ∙ (infeasible_duals g.F.ExactField.value c.args.lp.now c.in-Infeasible.duals c.in-Infeasible.crossed proved none).0

pub push_infeasible-requires-clause-there : goal.push_infeasible-requires-clause-there
push_infeasible-requires-clause-there g c =
    let proved = subst (HasProof g.F.ExactField.value c.args.lp.now) c.in-Infeasible.is c.requires.proved in
    λ none. subst (λ ds. objective_bound g.F.ExactField.value false c.args.lp.now (map g.F.ExactField.value ds) ≢ None) (sym c.as_slice-in-Infeasible.ensures) (infeasible_duals g.F.ExactField.value c.args.lp.now c.in-Infeasible.duals c.in-Infeasible.crossed proved none).1

pub returns-in_err-push-in-Infeasible : goal.returns-in_err-push-in-Infeasible
returns-in_err-push-in-Infeasible g c =
    broke c.from_residual-in_err-push-in-Infeasible.result c.from_residual-in_err-push-in-Infeasible.ensures.0 (codes "PROOF Infeasible\n") _
    (traversal _ (infeasible_ends g.F.ExactField.value c.args.p.now.names c.args.p.now.labels g.F.ExactField.limit c.args.lp.now c.args.pivots c.args.end.now c.in-Infeasible.duals c.in-Infeasible.duals c.in-Infeasible.crossed c.in-Infeasible.is refl)) c.in_err-push-in-Infeasible.ensures

pub returns-in_ok-push-in-Infeasible : goal.returns-in_ok-push-in-Infeasible
returns-in_ok-push-in-Infeasible g c =
    last _ _ c.push_infeasible.result (step (codes "PROOF Infeasible\n") _
    (traversal _ (infeasible_ends g.F.ExactField.value c.args.p.now.names c.args.p.now.labels g.F.ExactField.limit c.args.lp.now c.args.pivots c.args.end.now c.in-Infeasible.duals c.as_slice-in-Infeasible.result.now c.in-Infeasible.crossed c.in-Infeasible.is c.as_slice-in-Infeasible.ensures)) c.in_ok-push-in-Infeasible.ensures) c.push_infeasible.ensures

-- ---- unbounded

pub returns-in_err-push-in-Unbounded : goal.returns-in_err-push-in-Unbounded
returns-in_err-push-in-Unbounded g c =
    broke c.from_residual-in_err-push-in-Unbounded.result c.from_residual-in_err-push-in-Unbounded.ensures.0 (codes "PROOF Unbounded\n") _
    (traversal _ (unbounded_ends g.F.ExactField.value c.args.p.now.names c.args.p.now.labels g.F.ExactField.limit c.args.lp.now c.args.pivots c.args.end.now c.in-Unbounded.levels c.in-Unbounded.row_levels c.in-Unbounded.ray c.in-Unbounded.levels c.in-Unbounded.ray c.in-Unbounded.is refl refl)) c.in_err-push-in-Unbounded.ensures

pub returns-in_err-push_column_numbers-in-Unbounded : goal.returns-in_err-push_column_numbers-in-Unbounded
returns-in_err-push_column_numbers-in-Unbounded g c =
    broke c.from_residual-in_err-push_column_numbers-in-Unbounded.result c.from_residual-in_err-push_column_numbers-in-Unbounded.ensures.0 _ _ (step (codes "PROOF Unbounded\n") _
    (traversal _ (unbounded_ends g.F.ExactField.value c.args.p.now.names c.args.p.now.labels g.F.ExactField.limit c.args.lp.now c.args.pivots c.args.end.now c.in-Unbounded.levels c.in-Unbounded.row_levels c.in-Unbounded.ray c.as_slice-in-Unbounded.result.now c.in-Unbounded.ray c.in-Unbounded.is c.as_slice-in-Unbounded.ensures refl)) c.in_ok-push-in-Unbounded.ensures) c.in_err-push_column_numbers-in-Unbounded.ensures

pub returns-in_ok-push_column_numbers-in-Unbounded : goal.returns-in_ok-push_column_numbers-in-Unbounded
returns-in_ok-push_column_numbers-in-Unbounded g c =
    last _ _ c.push_column_numbers-in-Unbounded.result (step _ _ (step (codes "PROOF Unbounded\n") _
    (traversal _ (unbounded_ends g.F.ExactField.value c.args.p.now.names c.args.p.now.labels g.F.ExactField.limit c.args.lp.now c.args.pivots c.args.end.now c.in-Unbounded.levels c.in-Unbounded.row_levels c.in-Unbounded.ray c.as_slice-in-Unbounded.result.now c.as_slice-in-Unbounded-2.result.now c.in-Unbounded.is c.as_slice-in-Unbounded.ensures c.as_slice-in-Unbounded-2.ensures)) c.in_ok-push-in-Unbounded.ensures) c.in_ok-push_column_numbers-in-Unbounded.ensures) c.push_column_numbers-in-Unbounded.ensures

-- ---- interrupted

pub returns-in_err-head-in-Interrupted : goal.returns-in_err-head-in-Interrupted
returns-in_err-head-in-Interrupted g c = untouched _ _ c.from_residual-in_err-head-in-Interrupted.result c.from_residual-in_err-head-in-Interrupted.ensures.0

pub returns-in_err-push-in-Interrupted : goal.returns-in_err-push-in-Interrupted
returns-in_err-push-in-Interrupted g c =
    broke c.from_residual-in_err-push-in-Interrupted.result c.from_residual-in_err-push-in-Interrupted.ensures.0 c.as_str.result.now _
    (traversal _ (interrupted_ends g.F.ExactField.value c.args.p.now.names c.args.p.now.labels g.F.ExactField.limit c.args.lp.now c.args.pivots c.args.end.now c.as_str.result.now c.in-Interrupted.phase c.in-Interrupted.levels c.in-Interrupted.row_levels c.in-Interrupted.levels c.in-Interrupted.is refl (c.as_str.ensures.value ∙ c.in_ok-head-in-Interrupted.ensures.ok))) c.in_err-push-in-Interrupted.ensures

pub returns-in_ok-push-in-Interrupted : goal.returns-in_ok-push-in-Interrupted
returns-in_ok-push-in-Interrupted g c =
    last _ _ c.push_column_numbers-in-Interrupted.result (step c.as_str.result.now _
    (traversal _ (interrupted_ends g.F.ExactField.value c.args.p.now.names c.args.p.now.labels g.F.ExactField.limit c.args.lp.now c.args.pivots c.args.end.now c.as_str.result.now c.in-Interrupted.phase c.in-Interrupted.levels c.in-Interrupted.row_levels c.as_slice-in-Interrupted.result.now c.in-Interrupted.is c.as_slice-in-Interrupted.ensures (c.as_str.ensures.value ∙ c.in_ok-head-in-Interrupted.ensures.ok))) c.in_ok-push-in-Interrupted.ensures) c.push_column_numbers-in-Interrupted.ensures

-- ---- refused

pub returns-in_err-step-in-Refused : goal.returns-in_err-step-in-Refused
returns-in_err-step-in-Refused g c = untouched _ _ c.from_residual-in_err-step-in-Refused.result c.from_residual-in_err-step-in-Refused.ensures.0

pub returns-in_err-push-in-Refused : goal.returns-in_err-push-in-Refused
returns-in_err-push-in-Refused g c =
    broke c.from_residual-in_err-push-in-Refused.result c.from_residual-in_err-push-in-Refused.ensures.0 (codes "PROOF Refused\n") _
    (traversal _ (refused_ends g.F.ExactField.value c.args.p.now.names c.args.p.now.labels g.F.ExactField.limit c.args.lp.now c.args.pivots c.args.end.now _ c.in-Refused.step c.in-Refused.is c.in_ok-step-in-Refused.ensures)) c.in_err-push-in-Refused.ensures

pub returns-in_ok-push-in-Refused : goal.returns-in_ok-push-in-Refused
returns-in_ok-push-in-Refused g c =
    last _ _ c.push-in-Refused-2.result (step (codes "PROOF Refused\n") _
    (traversal _ (refused_ends g.F.ExactField.value c.args.p.now.names c.args.p.now.labels g.F.ExactField.limit c.args.lp.now c.args.pivots c.args.end.now c.as_str-in-Refused.result.now c.in-Refused.step c.in-Refused.is (c.as_str-in-Refused.ensures.value ∙ c.in_ok-step-in-Refused.ensures))) c.in_ok-push-in-Refused.ensures) c.push-in-Refused-2.ensures
