use Rattle.std.proofs.Common.{◌∙◌, ◌++◌, ap, sym, map, refl}
use Rattle.std.specs.Prelude.{slice_get}
use Rattle.std.proofs.lemmas.List.{append-nil}
use Rattle.std.proofs.lemmas.Option.{slice_get_read, slice_get_past}
use Rattle.lp_core.specs.Numbers.{lp_numbers}
use Rattle.gms_list.proofs.AppendedPieces.{traversal, step, broke, last, reshaped}
use Rattle.gms_list.proofs.ProofLines.{rows_are, crossed_is, crossed_nowhere}
use Rattle.gms_list.proofs.listing.Listing.push_infeasible.Goals as goal

pub push_dual_bound-requires-clause-sized : goal.push_dual_bound-requires-clause-sized
push_dual_bound-requires-clause-sized g c = c.requires.sized c.in-None.is

pub push_dual_bound-requires-clause-there : goal.push_dual_bound-requires-clause-there
push_dual_bound-requires-clause-there g c = c.requires.there c.in-None.is

pub returns-in-Some-get : goal.returns-in-Some-get
returns-in-Some-get g c =
    reshaped _ _ _ _ c.push_crossed.result (crossed_is g.F.ExactField.value c.args.p.now.names c.args.p.now.labels g.F.ExactField.limit c.args.lp.now (map g.F.ExactField.value c.args.duals.now) c.args.crossed c.in-Some.j c.in-Some.is c.in-Some-get.column.now
    (ap (λ xs. slice_get xs c.in-Some.j) (sym c.as_slice.ensures) ∙ slice_get_read c.as_slice.result.now _ c.in-Some.j c.in-Some-get.column.now refl c.in-Some-get.ensures.lookup.3.0 c.in-Some-get.ensures.lookup.1)) c.push_crossed.ensures

pub returns-in-None-get : goal.returns-in-None-get
returns-in-None-get g c =
    sym (append-nil c.args.self.now) ∙ ap (λ t. c.args.self.now ++ t) (crossed_nowhere g.F.ExactField.value c.args.p.now.names c.args.p.now.labels g.F.ExactField.limit c.args.lp.now (map g.F.ExactField.value c.args.duals.now) c.args.crossed c.in-Some.j c.in-Some.is
    (ap (λ xs. slice_get xs c.in-Some.j) (sym c.as_slice.ensures) ∙ slice_get_past c.as_slice.result.now c.in-Some.j c.in-None-get.ensures.lookup.3))

pub returns-in_err-push_row_numbers-in-None : goal.returns-in_err-push_row_numbers-in-None
returns-in_err-push_row_numbers-in-None g c =
    broke c.from_residual.result c.from_residual.ensures.0 _ _ (traversal _ (rows_are c.args.p.now.names c.args.p.now.labels g.F.ExactField.limit (lp_numbers g.F.ExactField.value c.args.lp.now) (map g.F.ExactField.value c.args.duals.now) c.args.crossed c.in-None.is)) c.in_err-push_row_numbers-in-None.ensures

pub returns-in_ok-push_row_numbers-in-None : goal.returns-in_ok-push_row_numbers-in-None
returns-in_ok-push_row_numbers-in-None g c =
    last _ _ c.push_dual_bound.result (step _ _ (traversal _ (rows_are c.args.p.now.names c.args.p.now.labels g.F.ExactField.limit (lp_numbers g.F.ExactField.value c.args.lp.now) (map g.F.ExactField.value c.args.duals.now) c.args.crossed c.in-None.is)) c.in_ok-push_row_numbers-in-None.ensures) c.push_dual_bound.ensures
