use Rattle.std.proofs.Common.{◌≡◌, ◌∙◌, ◌+◌, ◌∷◌, [], ap, sym, arith, length}
use Rattle.std.specs.Prelude.{slice_index_or}
use Rattle.std.proofs.Math.ListN.{set}
use Rattle.std.proofs.lemmas.List.{get_or_default, length-append}
use Rattle.gms_scope.specs.Order.{order_of}
use Rattle.gms_scope.proofs.Orders.{places-again, places-new}
use Rattle.gms_check.proofs.controlled.Controlled.push.Goals as goal

pub invariant_of-self-then-index-eq0 : goal.invariant_of-self-then-index-eq0
invariant_of-self-then-index-eq0 c =
    let firsts = c.reach.new.firsts.items in
    let names = c.self.inside.sets.items in
    let none : slice_index_or firsts c.args.set 0 ≡ 0 = get_or_default firsts c.args.set 0 c.index.result.now c.in_ok-reach.ensures.there ∙ sym c.index.ensures ∙ c.if-index-eq0.true in
    let count : c.len.result ≡ length names + 1 = omega (arith, c.len.ensures, ap length c.in_ok-push.ensures.items, length-append names (c.args.set ∷ [])) in
    λ other.
    ap (λ v. slice_index_or (set firsts c.args.set v) other 0) count
    ∙ places-new firsts names c.args.set (λ n. c.in_ok-reach.ensures.same n ∙ c.self.invariant n) c.in_ok-reach.ensures.there none other
    ∙ sym (ap (λ names. order_of names other) c.in_ok-push.ensures.items)

pub invariant_of-self-else-index-eq0 : goal.invariant_of-self-else-index-eq0
invariant_of-self-else-index-eq0 c =
    let firsts = c.reach.new.firsts.items in
    let names = c.self.inside.sets.items in
    λ other.
    places-again firsts names c.args.set (λ n. c.in_ok-reach.ensures.same n ∙ c.self.invariant n) (λ none. c.if-index-eq0.false (c.index.ensures ∙ get_or_default firsts c.args.set c.index.result.now 0 c.in_ok-reach.ensures.there ∙ none)) other
    ∙ sym (ap (λ names. order_of names other) c.in_ok-push.ensures.items)
