use Rattle.std.proofs.Common.{◌≡◌, ◌<◌, ◌+◌, ◌++◌, ◌∷◌, [], ℕ, List, Option, length, sym, ap, ◌∙◌, subst, arith}
use Rattle.std.specs.Prelude.{slice_index_or}
use Rattle.std.proofs.Math.ListN.{set}
use Rattle.std.proofs.lemmas.List.{get_or_default, length-append}
use Rattle.gms_scope.specs.declared.order.Node.{Node}
use Rattle.gms_scope.specs.Order.{IsNodeStep, names_of_nodes, node_at, order_of}
use Rattle.gms_scope.proofs.Orders.{names-length, names-more, places-again, places-new, steps-more}
use Rattle.gms_scope.proofs.order.Order.declare.Goals as goal

pub returns-then-index-eq0-clause-order : goal.returns-then-index-eq0-clause-order
returns-then-index-eq0-clause-order c =
    let old = c.args.self.now.nodes.items in
    let first = c.args.self.now.first.items in
    let node = c.new_node-node.result in
    let pushed : c.push.new.self.items ≡ old ++ node ∷ [] = c.in_ok-push.ensures.items in
    let there : c.args.name < length first = omega (arith, c.len.ensures) in
    let none : slice_index_or first c.args.name 0 ≡ 0 = get_or_default first c.args.name 0 c.index.result.now there ∙ sym c.index.ensures ∙ c.if-index-eq0.true in
    let named : names_of_nodes c.push.new.self.items ≡ names_of_nodes old ++ c.args.name ∷ [] = ap names_of_nodes pushed ∙ names-more old node ∙ ap (λ n. names_of_nodes old ++ n ∷ []) (ap (λ (e : ℕ × Option ℕ). e.0) c.new_node-node.ensures.entry) in
    let count : c.len-then-index-eq0.result ≡ length (names_of_nodes old) + 1 = omega (arith, c.len-then-index-eq0.ensures, ap length pushed, length-append old (node ∷ []), names-length old) in
    record {
      places = λ other. ap (λ v. slice_index_or (set first c.args.name v) other 0) count ∙ places-new first (names_of_nodes old) c.args.name c.requires.places there none other ∙ sym (ap (λ names. order_of names other) named);
      steps = subst (λ (nodes : List Node). (place : ℕ) → place < length nodes → IsNodeStep nodes place (node_at nodes place)) (sym pushed) (steps-more old node c.requires.steps c.new_node-node.ensures.step);
    }

pub returns-else-index-eq0-clause-order : goal.returns-else-index-eq0-clause-order
returns-else-index-eq0-clause-order c =
    let old = c.args.self.now.nodes.items in
    let first = c.args.self.now.first.items in
    let node = c.new_node-node.result in
    let pushed : c.push.new.self.items ≡ old ++ node ∷ [] = c.in_ok-push.ensures.items in
    let there : c.args.name < length first = omega (arith, c.len.ensures) in
    let named : names_of_nodes c.push.new.self.items ≡ names_of_nodes old ++ c.args.name ∷ [] = ap names_of_nodes pushed ∙ names-more old node ∙ ap (λ n. names_of_nodes old ++ n ∷ []) (ap (λ (e : ℕ × Option ℕ). e.0) c.new_node-node.ensures.entry) in
    record {
      places = λ other. places-again first (names_of_nodes old) c.args.name c.requires.places (λ none. c.if-index-eq0.false (c.index.ensures ∙ get_or_default first c.args.name c.index.result.now 0 there ∙ none)) other ∙ sym (ap (λ names. order_of names other) named);
      steps = subst (λ (nodes : List Node). (place : ℕ) → place < length nodes → IsNodeStep nodes place (node_at nodes place)) (sym pushed) (steps-more old node c.requires.steps c.new_node-node.ensures.step);
    }
