use Rattle.std.proofs.Common.{arith, ap, flat_map}
use Rattle.gms_list.proofs.AppendedPieces.{traversal, placed, placed_step, placed_broke, placed_end}
use Rattle.std.proofs.Common.{ℕ, map}
use Rattle.gq_number.specs.Number.{Number}
use Rattle.lp_core.specs.declared.program.Row.{Row}
use Rattle.lp_core.specs.Numbers.{lp_numbers, row_numbers}
use Rattle.std.proofs.Common.{◌++◌, ◌∙◌, subst}
use Rattle.gms_fmt.specs.Columns.{IsExtendedByPrefix}
use Rattle.gms_list.specs.SolveText.{number_line, number_at_place}
use Rattle.gms_list.proofs.listing.Listing.push_row_numbers.Goals as goal

pub loop-place-init : goal.loop-place-init
loop-place-init g c = traversal _ (ap (λ xs. flat_map (λ (q : ℕ × Row Number). number_line c.args.p.now.names c.args.p.now.labels g.F.ExactField.limit (lp_numbers g.F.ExactField.value c.args.lp.now) c.args.word.now q.1.key (number_at_place (map g.F.ExactField.value c.args.numbers.now) q.0)) (placed (row_numbers g.F.ExactField.value) 0 xs)) c.as_slice-rows.ensures)

pub loop-place-preserved : goal.loop-place-preserved
loop-place-preserved g c = placed_step (λ (q : ℕ × Row Number). number_line c.args.p.now.names c.args.p.now.labels g.F.ExactField.limit (lp_numbers g.F.ExactField.value c.args.lp.now) c.args.word.now q.1.key (number_at_place (map g.F.ExactField.value c.args.numbers.now) q.0)) (row_numbers g.F.ExactField.value) c.as_slice-rows.result.now c.loop-place.place (c.index-rows-place.result) (omega arith) (c.index-rows-place.is) c.loop-place.invariant (c.in_ok-push_number.ensures ∙ ap (λ x. c.loop-place.self ++ number_line c.args.p.now.names c.args.p.now.labels g.F.ExactField.limit (lp_numbers g.F.ExactField.value c.args.lp.now) c.args.word.now c.index-rows-place.result.key x) c.number_at.ensures)

pub returns-in_err-push_number : goal.returns-in_err-push_number
returns-in_err-push_number g c =
    placed_broke (λ (q : ℕ × Row Number). number_line c.args.p.now.names c.args.p.now.labels g.F.ExactField.limit (lp_numbers g.F.ExactField.value c.args.lp.now) c.args.word.now q.1.key (number_at_place (map g.F.ExactField.value c.args.numbers.now) q.0)) (row_numbers g.F.ExactField.value) c.as_slice-rows.result.now c.loop-place.place (c.index-rows-place.result) (omega arith) (c.index-rows-place.is) c.loop-place.invariant c.from_residual.result c.from_residual.ensures.0 (subst (λ x. IsExtendedByPrefix c.loop-place.self (number_line c.args.p.now.names c.args.p.now.labels g.F.ExactField.limit (lp_numbers g.F.ExactField.value c.args.lp.now) c.args.word.now c.index-rows-place.result.key x) c.push_number.new.self) c.number_at.ensures c.in_err-push_number.ensures)

pub returns : goal.returns
returns g c = placed_end (λ (q : ℕ × Row Number). number_line c.args.p.now.names c.args.p.now.labels g.F.ExactField.limit (lp_numbers g.F.ExactField.value c.args.lp.now) c.args.word.now q.1.key (number_at_place (map g.F.ExactField.value c.args.numbers.now) q.0)) (row_numbers g.F.ExactField.value) c.as_slice-rows.result.now c.loop-place.place (omega arith) c.loop-place.invariant
