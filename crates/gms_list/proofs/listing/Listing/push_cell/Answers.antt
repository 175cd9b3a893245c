use Rattle.std.proofs.Common.{◌≡◌, ◌∙◌, ◌++◌, ap, sym, codes, if◌then◌else◌, true, false}
use Rattle.gms_fmt.specs.Columns.{right_in}
use Rattle.gms_list.proofs.AppendedPieces.{reshaped}
use Rattle.gms_list.proofs.Signs.{zero_told}
use Rattle.gms_list.specs.SolveText.{amount, is_zero_amount}
use Rattle.gms_list.proofs.listing.Listing.push_cell.Goals as goal

pub returns-then-is_zero : goal.returns-then-is_zero
returns-then-is_zero g c =
    let told : is_zero_amount (g.F.ExactField.value c.args.x) ≡ true = zero_told c.is_zero.result (g.F.ExactField.value c.args.x) c.is_zero.ensures ∙ c.if-is_zero.true in
    reshaped _ _ _ _ c.push_right.result (ap (λ b. codes " " ++ right_in 12 (if b then codes "." else amount (g.F.ExactField.value c.args.x))) (sym told)) c.push_right.ensures

pub returns-else-is_zero : goal.returns-else-is_zero
returns-else-is_zero g c =
    let told : is_zero_amount (g.F.ExactField.value c.args.x) ≡ false = zero_told c.is_zero.result (g.F.ExactField.value c.args.x) c.is_zero.ensures ∙ c.if-is_zero.false in
    reshaped _ _ _ _ c.push_right-else-is_zero.result (ap (λ t. codes " " ++ right_in 12 t) c.amount.ensures ∙ ap (λ b. codes " " ++ right_in 12 (if b then codes "." else amount (g.F.ExactField.value c.args.x))) (sym told)) c.push_right-else-is_zero.ensures
