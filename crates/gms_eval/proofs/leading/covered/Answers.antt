use Rattle.std.proofs.Common.{◌∙◌, ap, sym, is_some, refl, ◌+◌, [], ◌∷◌, ◌++◌, length, take, get_or, true, false, arith}
use Rattle.std.proofs.lemmas.List.{take_more, take_all, length_push}
use Rattle.gms_eval.specs.Bindings.{controlled}
use Rattle.gms_eval.specs.InnerLeading.{indices_tree}
use Rattle.gms_eval.specs.Leaders.{free_after}
use Rattle.gms_eval.proofs.Entries.{indices-length}
use Rattle.gms_eval.proofs.Reaching.{free-told, free-more, free-end}
use Rattle.gms_eval.proofs.Simple.{element-length, element-label, freed-start, freed-index, freed-free, freed-as, freed-end}
use Rattle.gms_eval.proofs.leading.covered.Goals as goal

pub loop-position-init : goal.loop-position-init
loop-position-init g c =
    (ap length c.new-places.ensures.items, omega (arith, ap length c.new-free.ensures.items), λ state element tuple there e. freed-start state c.new-free.result.items c.new-places.result.items tuple [] c.new-free.ensures.items c.new-places.ensures.items refl, ap (λ free. free ++ free_after c.args.b.now (indices_tree c.args.indices.now) [] c.args.sets.now) c.new-free.ensures.items)

pub returns-clause-spreads : goal.returns-clause-spreads
returns-clause-spreads g c =
    λ state element tuple there e. let long = element-length state c.args.sets.now element there in freed-end state c.loop-position.free.items c.loop-position.places.items tuple (take c.loop-position.position element) element (omega (arith, c.loop-position.invariant.1, c.loop-position.auto.position-end, c.requires.few_sets)) (take_all c.loop-position.position element (omega (arith, long, c.loop-position-test.false))) (c.loop-position.invariant.2 state element tuple there e)

pub loop-position-preserved-in-Some : goal.loop-position-preserved-in-Some
loop-position-preserved-in-Some g c =
    (ap length c.in_ok-push.ensures.items ∙ length_push c.loop-position.places.items c.in-Some.place ∙ ap (λ n. n + 1) c.loop-position.invariant.0, omega (arith, c.loop-position.invariant.1), λ state element tuple there e. let long = element-length state c.args.sets.now element there in let same = indices-length g.F.ExactField.value g.F.ExactField.limit state (controlled c.args.b.now c.args.sets.now element) c.args.indices.now tuple e in freed-as state c.loop-position.free.items c.loop-position.free.items (c.loop-position.places.items ++ c.in-Some.place ∷ []) c.push.new.self.items tuple (take c.loop-position.position element ++ get_or element c.loop-position.position 0 ∷ []) (take (c.loop-position.position + 1) element) refl c.in_ok-push.ensures.items (take_more element c.loop-position.position 0 (omega (arith, long, c.loop-position-test.true))) (freed-index state c.loop-position.free.items c.loop-position.places.items tuple (take c.loop-position.position element) c.in-Some.place (get_or element c.loop-position.position 0) (omega (arith, same, c.in-Some.ensures.within)) (c.in-Some.ensures.label state element tuple long e) (c.loop-position.invariant.2 state element tuple there e)), free-told c.args.b.now (indices_tree c.args.indices.now) c.args.sets.now c.loop-position.position c.loop-position.free.items (free_after c.args.b.now (indices_tree c.args.indices.now) [] c.args.sets.now) true refl c.in-Some.ensures.told c.loop-position-test.true c.loop-position.invariant.3)

pub loop-position-preserved : goal.loop-position-preserved
loop-position-preserved g c =
    (ap length c.in_ok-push-2.ensures.items ∙ length_push c.loop-position.places.items (length c.args.indices.now + c.len.result) ∙ ap (λ n. n + 1) c.loop-position.invariant.0, (let more = ap length c.in_ok-push-3.ensures.items ∙ length_push c.loop-position.free.items (get_or c.args.sets.now c.loop-position.position 0) in omega (arith, more, c.loop-position.invariant.1)), λ state element tuple there e. let long = element-length state c.args.sets.now element there in let same = indices-length g.F.ExactField.value g.F.ExactField.limit state (controlled c.args.b.now c.args.sets.now element) c.args.indices.now tuple e in freed-as state (c.loop-position.free.items ++ get_or c.args.sets.now c.loop-position.position 0 ∷ []) c.push-in-loop-position-2.new.self.items (c.loop-position.places.items ++ (length c.args.indices.now + c.len.result) ∷ []) c.push-in-loop-position.new.self.items tuple (take c.loop-position.position element ++ get_or element c.loop-position.position 0 ∷ []) (take (c.loop-position.position + 1) element) c.in_ok-push-3.ensures.items c.in_ok-push-2.ensures.items (take_more element c.loop-position.position 0 (omega (arith, long, c.loop-position-test.true))) (freed-free state c.loop-position.free.items c.loop-position.places.items tuple (take c.loop-position.position element) (length c.args.indices.now + c.len.result) (get_or c.args.sets.now c.loop-position.position 0) (get_or element c.loop-position.position 0) (omega (arith, same, c.len.ensures)) (element-label state c.args.sets.now element c.loop-position.position there c.loop-position-test.true) (c.loop-position.invariant.2 state element tuple there e)), free-more c.args.b.now (indices_tree c.args.indices.now) c.args.sets.now c.loop-position.position c.loop-position.free.items _ (free_after c.args.b.now (indices_tree c.args.indices.now) [] c.args.sets.now) false c.in_ok-push-3.ensures.items refl (ap is_some (sym c.in_default.is) ∙ c.place_at.ensures.told) c.loop-position-test.true c.loop-position.invariant.3)

pub returns-clause-free : goal.returns-clause-free
returns-clause-free g c =
    free-end c.args.b.now (indices_tree c.args.indices.now) c.args.sets.now c.loop-position.position c.loop-position.free.items (free_after c.args.b.now (indices_tree c.args.indices.now) [] c.args.sets.now) c.loop-position-test.false c.loop-position.invariant.3
