use Rattle.std.proofs.Common.{◌==◌, ◌∙◌, ◌++◌, ℕ, arith, ap, flat_map, codes}
use Rattle.gq_number.specs.Number.{Number}
use Rattle.lp_core.specs.Numbers.{lp_numbers, entries_numbers}
use Rattle.gms_list.specs.Amounts.{line_of}
use Rattle.gms_list.specs.SolveText.{amount, key_text}
use Rattle.gms_list.proofs.AppendedPieces.{traversal, loop_step, loop_broke, loop_done, filtered, where_kept}
use Rattle.gms_list.proofs.listing.Listing.push_coefficients.Goals as goal

pub loop-column-init : goal.loop-column-init
loop-column-init g c =
    traversal _ (ap (λ es. flat_map (λ (e : ℕ × Number). where_kept (e.0 == c.args.j) (line_of (codes "  " ++ amount e.1 ++ codes " " ++ key_text c.args.p.now.names c.args.p.now.labels g.F.ExactField.limit (lp_numbers g.F.ExactField.value c.args.lp.now) c.args.row.now.key))) (entries_numbers g.F.ExactField.value es)) c.as_slice-entries.ensures ∙ filtered (λ (e : ℕ × Number). line_of (codes "  " ++ amount e.1 ++ codes " " ++ key_text c.args.p.now.names c.args.p.now.labels g.F.ExactField.limit (lp_numbers g.F.ExactField.value c.args.lp.now) c.args.row.now.key)) (λ (e : ℕ × Number). e.0 == c.args.j) (entries_numbers g.F.ExactField.value c.args.row.now.entries))

pub loop-column-preserved : goal.loop-column-preserved
loop-column-preserved g c = loop_step (λ (e : ℕ × Number). where_kept (e.0 == c.args.j) (line_of (codes "  " ++ amount e.1 ++ codes " " ++ key_text c.args.p.now.names c.args.p.now.labels g.F.ExactField.limit (lp_numbers g.F.ExactField.value c.args.lp.now) c.args.row.now.key))) (λ e. (e.0, g.F.ExactField.value e.1)) c.as_slice-entries.result.now c.loop-column.column-index c.loop-column-item.result (omega arith) c.loop-column-item.is c.loop-column.invariant c.in_ok-push_entry_of.ensures

pub returns-in_err-push_entry_of : goal.returns-in_err-push_entry_of
returns-in_err-push_entry_of g c = loop_broke (λ (e : ℕ × Number). where_kept (e.0 == c.args.j) (line_of (codes "  " ++ amount e.1 ++ codes " " ++ key_text c.args.p.now.names c.args.p.now.labels g.F.ExactField.limit (lp_numbers g.F.ExactField.value c.args.lp.now) c.args.row.now.key))) (λ e. (e.0, g.F.ExactField.value e.1)) c.as_slice-entries.result.now c.loop-column.column-index c.loop-column-item.result (omega arith) c.loop-column-item.is c.loop-column.invariant c.from_residual.result c.from_residual.ensures.0 c.in_err-push_entry_of.ensures

pub returns : goal.returns
returns g c = loop_done (λ (e : ℕ × Number). where_kept (e.0 == c.args.j) (line_of (codes "  " ++ amount e.1 ++ codes " " ++ key_text c.args.p.now.names c.args.p.now.labels g.F.ExactField.limit (lp_numbers g.F.ExactField.value c.args.lp.now) c.args.row.now.key))) (λ e. (e.0, g.F.ExactField.value e.1)) c.as_slice-entries.result.now c.loop-column.column-index (omega arith) c.loop-column.invariant
