use Rattle.std.proofs.Common.{arith, ap, flat_map}
use Rattle.gms_list.proofs.AppendedPieces.{traversal, placed, placed_step, placed_broke, placed_end}
use Rattle.std.proofs.Common.{ℕ, map}
use Rattle.gq_number.specs.Number.{Number}
use Rattle.lp_core.specs.declared.program.Column.{Column}
use Rattle.lp_core.specs.Numbers.{lp_numbers, column_numbers}
use Rattle.std.proofs.Common.{◌++◌, ◌∙◌, subst}
use Rattle.gms_fmt.specs.Columns.{IsExtendedByPrefix}
use Rattle.gms_list.specs.SolveText.{number_line, number_at_place}
use Rattle.gms_list.proofs.listing.Listing.push_column_numbers.Goals as goal

pub loop-j-init : goal.loop-j-init
loop-j-init g c = traversal _ (ap (λ xs. flat_map (λ (q : ℕ × Column Number). number_line c.args.p.now.names c.args.p.now.labels g.F.ExactField.limit (lp_numbers g.F.ExactField.value c.args.lp.now) c.args.word.now q.1.key (number_at_place (map g.F.ExactField.value c.args.numbers.now) q.0)) (placed (column_numbers g.F.ExactField.value) 0 xs)) c.as_slice-columns.ensures)

pub loop-j-preserved : goal.loop-j-preserved
loop-j-preserved g c = placed_step (λ (q : ℕ × Column Number). number_line c.args.p.now.names c.args.p.now.labels g.F.ExactField.limit (lp_numbers g.F.ExactField.value c.args.lp.now) c.args.word.now q.1.key (number_at_place (map g.F.ExactField.value c.args.numbers.now) q.0)) (column_numbers g.F.ExactField.value) c.as_slice-columns.result.now c.loop-j.j (c.index-columns-j.result) (omega arith) (c.index-columns-j.is) c.loop-j.invariant (c.in_ok-push_number.ensures ∙ ap (λ x. c.loop-j.self ++ number_line c.args.p.now.names c.args.p.now.labels g.F.ExactField.limit (lp_numbers g.F.ExactField.value c.args.lp.now) c.args.word.now c.index-columns-j.result.key x) c.number_at.ensures)

pub returns-in_err-push_number : goal.returns-in_err-push_number
returns-in_err-push_number g c =
    placed_broke (λ (q : ℕ × Column Number). number_line c.args.p.now.names c.args.p.now.labels g.F.ExactField.limit (lp_numbers g.F.ExactField.value c.args.lp.now) c.args.word.now q.1.key (number_at_place (map g.F.ExactField.value c.args.numbers.now) q.0)) (column_numbers g.F.ExactField.value) c.as_slice-columns.result.now c.loop-j.j (c.index-columns-j.result) (omega arith) (c.index-columns-j.is) c.loop-j.invariant c.from_residual.result c.from_residual.ensures.0 (subst (λ x. IsExtendedByPrefix c.loop-j.self (number_line c.args.p.now.names c.args.p.now.labels g.F.ExactField.limit (lp_numbers g.F.ExactField.value c.args.lp.now) c.args.word.now c.index-columns-j.result.key x) c.push_number.new.self) c.number_at.ensures c.in_err-push_number.ensures)

pub returns : goal.returns
returns g c = placed_end (λ (q : ℕ × Column Number). number_line c.args.p.now.names c.args.p.now.labels g.F.ExactField.limit (lp_numbers g.F.ExactField.value c.args.lp.now) c.args.word.now q.1.key (number_at_place (map g.F.ExactField.value c.args.numbers.now) q.0)) (column_numbers g.F.ExactField.value) c.as_slice-columns.result.now c.loop-j.j (omega arith) c.loop-j.invariant
