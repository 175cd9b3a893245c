use Rattle.gms_fmt.proofs.Appending.{failed, begins_first, appended, by_items}
use Rattle.gms_fmt.specs.Columns.{blanks}
use Rattle.gms_fmt.proofs.columns.right.Goals as goal

pub returns-in_err-push_blanks : goal.returns-in_err-push_blanks
returns-in_err-push_blanks c =
    rw (← c.saturating_sub.ensures) (failed _ _ _ c.from_residual.result c.from_residual.ensures.0 (begins_first _ _ (blanks c.saturating_sub.result) c.args.text.now c.in_err-push_blanks.ensures))

pub returns : goal.returns
returns c =
    rw (← c.saturating_sub.ensures, ← c.as_bytes.ensures.value) (appended c.args.into.now.items c.push_blanks.new.into.items c.extend_from_slice.new.self.items (blanks c.saturating_sub.result) c.as_bytes.result.now c.extend_from_slice.result c.in_ok-push_blanks.ensures (by_items _ _ _ c.extend_from_slice.result c.extend_from_slice.ensures.items))
