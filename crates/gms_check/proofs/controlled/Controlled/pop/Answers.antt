use Rattle.std.proofs.Common.{◌≡◌, ◌<◌, ◌≤◌, ◌∙◌, ◌+◌, ◌++◌, ◌∷◌, [], ap, sym, arith, length, ℕ}
use Rattle.std.specs.Prelude.{slice_index_or}
use Rattle.std.proofs.lemmas.List.{get_or_default, get_or_past, length-append}
use Rattle.gms_scope.specs.Order.{order_of}
use Rattle.gms_check.proofs.Controlling.{fewer-first, fewer-later}
use Rattle.gms_check.proofs.controlled.Controlled.pop.Goals as goal

pub invariant_of-self : goal.invariant_of-self
invariant_of-self c =
    let firsts = c.self.inside.firsts.items in
    let names = c.pop.new.self.items in
    let set = c.in-Some.set in
    let kept : (other : ℕ) → slice_index_or firsts other 0 ≡ order_of (names ++ set ∷ []) other = λ other. c.self.invariant other ∙ ap (λ names. order_of names other) c.in-Some.ensures.items in
    let there : set < length firsts = omega (arith, c.len.ensures, c.if-at-len.true) in
    let count : c.len-count.result ≡ length names + 1 = omega (arith, c.len-count.ensures, ap length c.in-Some.ensures.items, length-append names (set ∷ [])) in
    fewer-first firsts names set kept there (get_or_default firsts set 0 c.index.result.now there ∙ sym c.index.ensures ∙ c.if-index-count.true ∙ count)

pub invariant_of-self-else-index-count : goal.invariant_of-self-else-index-count
invariant_of-self-else-index-count c =
    let firsts = c.self.inside.firsts.items in
    let names = c.pop.new.self.items in
    let set = c.in-Some.set in
    let kept : (other : ℕ) → slice_index_or firsts other 0 ≡ order_of (names ++ set ∷ []) other = λ other. c.self.invariant other ∙ ap (λ names. order_of names other) c.in-Some.ensures.items in
    let there : set < length firsts = omega (arith, c.len.ensures, c.if-at-len.true) in
    let count : c.len-count.result ≡ length names + 1 = omega (arith, c.len-count.ensures, ap length c.in-Some.ensures.items, length-append names (set ∷ [])) in
    fewer-later firsts names set kept (λ e. c.if-index-count.false (c.index.ensures ∙ get_or_default firsts set c.index.result.now 0 there ∙ e ∙ sym count))

pub invariant_of-self-else-at-len : goal.invariant_of-self-else-at-len
invariant_of-self-else-at-len c =
    let firsts = c.self.inside.firsts.items in
    let names = c.pop.new.self.items in
    let set = c.in-Some.set in
    let kept : (other : ℕ) → slice_index_or firsts other 0 ≡ order_of (names ++ set ∷ []) other = λ other. c.self.invariant other ∙ ap (λ names. order_of names other) c.in-Some.ensures.items in
    let past : length firsts ≤ set = omega (arith, c.len.ensures, c.if-at-len.false) in
    let read : slice_index_or firsts set 0 ≡ 0 = get_or_past firsts set 0 past in
    fewer-later firsts names set kept (λ e. absurd (omega (arith, read, e)))
