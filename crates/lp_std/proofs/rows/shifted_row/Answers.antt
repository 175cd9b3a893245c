use Rattle.std.proofs.Common.{◌≡◌, None, subst}
use Rattle.lp_core.specs.Steps.{row_steps}
use Rattle.lp_std.specs.Meaning.{entries_value}
use Rattle.lp_std.specs.InnerSteps.{first_stop, placed_value, right_after, spread_entries}
use Rattle.lp_std.proofs.RowSteps.{shifted_row_is}
use Rattle.lp_std.proofs.rows.shifted_row.Goals as goal

pub returns-clause-ok : goal.returns-clause-ok
returns-clause-ok g c =
    let value = g.F.ExactField.value in
    let columns = placed_value g.F.ExactField.value c.args.columns.now in (
      subst (λ es. first_stop (row_steps value g.F.ExactField.limit columns c.args.number (value c.args.row.now.right) es) ≡ None) c.as_slice.ensures c.in_ok-right.ensures.ok.0,
      rw c.new.ensures (shifted_row_is value columns c.args.i c.args.row.now c.in_ok-right.right c.in_ok-entries.entries.items (subst (λ es. value c.in_ok-right.right ≡ right_after value columns (value c.args.row.now.right) es) c.as_slice.ensures c.in_ok-right.ensures.ok.1) (subst (λ es. entries_value value c.in_ok-entries.entries.items ≡ spread_entries value columns es) c.as_slice-2.ensures c.in_ok-entries.ensures)),
    )
