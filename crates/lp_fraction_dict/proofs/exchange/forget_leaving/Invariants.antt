use Rattle.std.proofs.Common.{◌≡◌, length}
use Rattle.lp_fraction_dict.specs.Lines.{entries_of_rows}
use Rattle.lp_fraction_dict.proofs.Exchanging.{ForgottenTo}
use Rattle.lp_fraction_dict.proofs.exchange.forget_leaving.Given as goal

abbrev pub invariant-loop-place : goal.invariant-loop-place
invariant-loop-place g l =
    (length l.rows.items ≡ length l.initial.rows.items) × ForgottenTo (entries_of_rows l.initial.rows.items) (entries_of_rows l.rows.items) l.place
