use Rattle.std.proofs.Common.{◌≡◌, ◌++◌, codes, decimal, ap, ◌∙◌}
use Rattle.gms_fmt.specs.Columns.{right_in}
use Rattle.gms_list.proofs.AppendedPieces.{traversal, step, broke, last, untouched}
use Rattle.gms_list.proofs.Echoes.{styled_decimal-right, numbered}
use Rattle.gms_list.proofs.listing.Listing.push_line.Goals as goal

pub returns-in_err-number : goal.returns-in_err-number
returns-in_err-number c = untouched _ _ c.from_residual.result c.from_residual.ensures.0

pub returns-in_err-push : goal.returns-in_err-push
returns-in_err-push c =
    let head : c.as_str.result.now ≡ right_in 6 (decimal c.args.number) ++ codes "  " = c.as_str.ensures.value ∙ (rw c.laid_out.ensures at c.in_ok-number.ensures.ok) ∙ ap (λ t. t ++ codes "  ") (styled_decimal-right c.args.number) in
    broke c.from_residual-in_err-push.result c.from_residual-in_err-push.ensures.0 _ _ (traversal _ (numbered c.as_str.result.now c.args.line.now c.args.number head)) c.in_err-push.ensures

pub returns-in_err-push_bytes : goal.returns-in_err-push_bytes
returns-in_err-push_bytes c =
    let head : c.as_str.result.now ≡ right_in 6 (decimal c.args.number) ++ codes "  " = c.as_str.ensures.value ∙ (rw c.laid_out.ensures at c.in_ok-number.ensures.ok) ∙ ap (λ t. t ++ codes "  ") (styled_decimal-right c.args.number) in
    broke c.from_residual-in_err-push_bytes.result c.from_residual-in_err-push_bytes.ensures.0 _ _ (step _ _ (traversal _ (numbered c.as_str.result.now c.args.line.now c.args.number head)) c.in_ok-push.ensures) c.in_err-push_bytes.ensures

pub returns : goal.returns
returns c =
    let head : c.as_str.result.now ≡ right_in 6 (decimal c.args.number) ++ codes "  " = c.as_str.ensures.value ∙ (rw c.laid_out.ensures at c.in_ok-number.ensures.ok) ∙ ap (λ t. t ++ codes "  ") (styled_decimal-right c.args.number) in
    last _ _ c.push-2.result (step _ _ (step _ _ (traversal _ (numbered c.as_str.result.now c.args.line.now c.args.number head)) c.in_ok-push.ensures) c.in_ok-push_bytes.ensures) c.push-2.ensures
