use Rattle.gms_fmt.proofs.Appending.{appended}
use Rattle.gms_fmt.specs.Columns.{blanks}
use Rattle.gms_fmt.proofs.columns.left.Goals as goal

pub returns : goal.returns
returns c =
    rw (← c.saturating_sub.ensures, ← c.as_bytes.ensures.value) (appended c.args.into.now.items c.extend_from_slice.new.self.items c.push_blanks.new.into.items c.as_bytes.result.now (blanks c.saturating_sub.result) c.push_blanks.result c.in_ok-extend_from_slice.ensures.items c.push_blanks.ensures)
