use Rattle.gms_list.proofs.AppendedPieces.{traversal, step, broke, stop, last, untouched}
use Rattle.std.proofs.Common.{◌∙◌, ap}
use Rattle.gms_list.specs.ListingText.{count_text, pairs_text}
use Rattle.gms_list.proofs.Shapes.{stop_line}
use Rattle.gms_list.proofs.listing.Listing.push_stop.Goals as goal

pub returns-in_err-head : goal.returns-in_err-head
returns-in_err-head g c = untouched _ _ c.from_residual.result c.from_residual.ensures.0

pub returns-in_err-end : goal.returns-in_err-end
returns-in_err-end g c = untouched _ _ c.from_residual-in_err-end.result c.from_residual-in_err-end.ensures.0

pub returns-in_err-push : goal.returns-in_err-push
returns-in_err-push g c =
    broke c.from_residual-in_err-push.result c.from_residual-in_err-push.ensures.0 _ _ (traversal _ (stop_line _ _ _ _ (pairs_text c.args.p.now.names c.args.p.now.labels c.args.stop.now.binding) _ (count_text c.args.stop.now.kind c.args.stop.now.count) c.code-code.result c.args.stop.now.at.line c.args.stop.now.at.column _ (ap (pairs_text c.args.p.now.names c.args.p.now.labels) c.pairs-pairs.ensures) (c.as_str.ensures.value ∙ c.in_ok-head.ensures.ok) c.code-code.ensures c.name-name.ensures (c.in_ok-end.ensures))) c.in_err-push.ensures

pub returns-in_err-push_pairs : goal.returns-in_err-push_pairs
returns-in_err-push_pairs g c =
    broke c.from_residual-in_err-push_pairs.result c.from_residual-in_err-push_pairs.ensures.0 _ _ (step _ _ (traversal _ (stop_line _ _ _ _ (pairs_text c.args.p.now.names c.args.p.now.labels c.args.stop.now.binding) _ (count_text c.args.stop.now.kind c.args.stop.now.count) c.code-code.result c.args.stop.now.at.line c.args.stop.now.at.column _ (ap (pairs_text c.args.p.now.names c.args.p.now.labels) c.pairs-pairs.ensures) (c.as_str.ensures.value ∙ c.in_ok-head.ensures.ok) c.code-code.ensures c.name-name.ensures (c.in_ok-end.ensures))) c.in_ok-push.ensures) c.in_err-push_pairs.ensures

pub returns : goal.returns
returns g c =
    last _ _ c.push-2.result (step _ _ (step _ _ (traversal _ (stop_line _ _ _ _ (pairs_text c.args.p.now.names c.args.p.now.labels c.args.stop.now.binding) _ (count_text c.args.stop.now.kind c.args.stop.now.count) c.code-code.result c.args.stop.now.at.line c.args.stop.now.at.column _ (ap (pairs_text c.args.p.now.names c.args.p.now.labels) c.pairs-pairs.ensures) (c.as_str.ensures.value ∙ c.in_ok-head.ensures.ok) c.code-code.ensures c.name-name.ensures (c.as_str-2.ensures.value ∙ c.in_ok-end.ensures))) c.in_ok-push.ensures) c.in_ok-push_pairs.ensures) c.push-2.ensures
