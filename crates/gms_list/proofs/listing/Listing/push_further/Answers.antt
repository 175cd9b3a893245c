use Rattle.std.proofs.Common.{arith, get_or, ap, flat_map}
use Rattle.gms_list.proofs.AppendedPieces.{traversal, map_same, same_at, loop_step, loop_broke, loop_done}
use Rattle.std.proofs.Common.{ℕ, codes, ◌++◌}
use Rattle.gms_list.specs.ListingText.{pair_text}
use Rattle.gms_list.proofs.listing.Listing.push_further.Goals as goal

pub loop-set-init : goal.loop-set-init
loop-set-init g c = traversal _ (ap (flat_map (λ (pair : ℕ × ℕ). codes "," ++ pair_text c.args.p.now.names c.args.p.now.labels pair)) (map_same c.args.pairs.now))

pub loop-set-preserved : goal.loop-set-preserved
loop-set-preserved g c =
    loop_step (λ (pair : ℕ × ℕ). codes "," ++ pair_text c.args.p.now.names c.args.p.now.labels pair) (λ (pair : ℕ × ℕ). pair) c.args.pairs.now c.loop-set.set-index (get_or c.args.pairs.now c.loop-set.set-index (0, 0)) (omega arith) (same_at c.args.pairs.now c.loop-set.set-index (0, 0) _ (omega arith)) c.loop-set.invariant c.in_ok-push_pair.ensures

pub returns-in_err-push_pair : goal.returns-in_err-push_pair
returns-in_err-push_pair g c =
    loop_broke (λ (pair : ℕ × ℕ). codes "," ++ pair_text c.args.p.now.names c.args.p.now.labels pair) (λ (pair : ℕ × ℕ). pair) c.args.pairs.now c.loop-set.set-index (get_or c.args.pairs.now c.loop-set.set-index (0, 0)) (omega arith) (same_at c.args.pairs.now c.loop-set.set-index (0, 0) _ (omega arith)) c.loop-set.invariant c.from_residual.result c.from_residual.ensures.0 c.in_err-push_pair.ensures

pub returns : goal.returns
returns g c = loop_done (λ (pair : ℕ × ℕ). codes "," ++ pair_text c.args.p.now.names c.args.p.now.labels pair) (λ (pair : ℕ × ℕ). pair) c.args.pairs.now c.loop-set.set-index (omega arith) c.loop-set.invariant
