use Rattle.std.proofs.Common.{arith, refl, ap, ◌∙◌, ◌++◌, subst}
use Rattle.gms_fmt.specs.Columns.{IsExtendedByPrefix}
use Rattle.gms_list.proofs.AppendedPieces.{traversal, loop_step, loop_broke, loop_done}
use Rattle.gq_extended.specs.Meaning.{extended}
use Rattle.gms_list.specs.ListingText.{number_text}
use Rattle.gms_list.proofs.listing.Listing.push_numbers.Goals as goal

pub loop-value-init : goal.loop-value-init
loop-value-init g c = traversal _ refl

pub loop-value-preserved : goal.loop-value-preserved
loop-value-preserved g c =
    loop_step (number_text c.args.decimals) (λ entry. (entry.0, extended g.F.ExactField.value entry.1)) c.args.entries.now c.loop-value.value-index (c.loop-value-item.result) (omega arith) (c.loop-value-item.is) c.loop-value.invariant (c.in_ok-push.ensures ∙ ap (λ t. c.loop-value.self ++ t) c.value_text.ensures)

pub returns-in_err-push : goal.returns-in_err-push
returns-in_err-push g c =
    loop_broke (number_text c.args.decimals) (λ entry. (entry.0, extended g.F.ExactField.value entry.1)) c.args.entries.now c.loop-value.value-index (c.loop-value-item.result) (omega arith) (c.loop-value-item.is) c.loop-value.invariant c.from_residual.result c.from_residual.ensures.0 (subst (λ t. IsExtendedByPrefix c.loop-value.self t c.push.new.self) c.value_text.ensures c.in_err-push.ensures)

pub returns : goal.returns
returns g c = loop_done (number_text c.args.decimals) (λ entry. (entry.0, extended g.F.ExactField.value entry.1)) c.args.entries.now c.loop-value.value-index (omega arith) c.loop-value.invariant
