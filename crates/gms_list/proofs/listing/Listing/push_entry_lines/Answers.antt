use Rattle.std.proofs.Common.{arith, refl}
use Rattle.gms_list.proofs.AppendedPieces.{traversal, loop_step, loop_broke, loop_done}
use Rattle.gq_extended.specs.Meaning.{extended}
use Rattle.gms_list.specs.ListingText.{entry_text}
use Rattle.gms_list.proofs.listing.Listing.push_entry_lines.Goals as goal

pub loop-t-init : goal.loop-t-init
loop-t-init g c = traversal _ refl

pub loop-t-preserved : goal.loop-t-preserved
loop-t-preserved g c =
    loop_step (entry_text c.args.labels.now c.args.width c.args.decimals) (λ entry. (entry.0, extended g.F.ExactField.value entry.1)) c.args.entries.now c.loop-t.t-index (c.loop-t-item.result) (omega arith) (c.loop-t-item.is) c.loop-t.invariant c.in_ok-push_entry.ensures

pub returns-in_err-push_entry : goal.returns-in_err-push_entry
returns-in_err-push_entry g c =
    loop_broke (entry_text c.args.labels.now c.args.width c.args.decimals) (λ entry. (entry.0, extended g.F.ExactField.value entry.1)) c.args.entries.now c.loop-t.t-index (c.loop-t-item.result) (omega arith) (c.loop-t-item.is) c.loop-t.invariant c.from_residual.result c.from_residual.ensures.0 c.in_err-push_entry.ensures

pub returns : goal.returns
returns g c = loop_done (entry_text c.args.labels.now c.args.width c.args.decimals) (λ entry. (entry.0, extended g.F.ExactField.value entry.1)) c.args.entries.now c.loop-t.t-index (omega arith) c.loop-t.invariant
