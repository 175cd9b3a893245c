use Rattle.std.proofs.Common.{◌∙◌, ap, refl, min, length, arith}
use Rattle.gms_tuple.specs.TupleSet.{those_with}
use Rattle.gms_store.specs.State.{given_of}
use Rattle.gms_eval.specs.Domain.{elements}
use Rattle.gms_eval.specs.InnerLeading.{indices_tree}
use Rattle.gms_eval.proofs.Entries.{leads-by}
use Rattle.gms_eval.proofs.Reaching.{span-count, reach-many, reach-wide, reach-is}
use Rattle.gms_eval.proofs.leading.traversal_by.Goals as goal
use Rattle.gms_eval.proofs.leading.traversal_by.Goals.{then-spread-gt-MOST_ELEMENTS-via-then-spread-gt-MOST_ELEMENTS, then-spread-gt-MOST_ELEMENTS-via-else-spread-gt-MOST_ELEMENTS+then-saturating_mul-bound}

pub returns-clause-leads : goal.returns-clause-leads
returns-clause-leads g c =
    leads-by g.F.ExactField.value g.F.ExactField.limit c.args.store.now c.args.b.now c.args.sets.now c.args.name c.args.indices.now _ c.in_ok-prefix.prefix c.given.result.now refl c.given.ensures.value c.given.ensures.differs (omega (arith, c.span-from.ensures.upto)) c.span-from.ensures.within c.span-from.ensures.range c.in_ok-places.ensures.few c.if-sets-gt-MOST_LABELS.false (let many = c.count-spread.ensures ∙ ap (λ free. min (length (elements c.args.store.now free)) 18446744073709551615) c.as_slice.ensures.value in omega (arith, many, c.if-spread-gt-MOST_ELEMENTS.false)) c.requires (λ more t e. c.in_ok-prefix.ensures.begins c.args.store.now more t e) (λ x t there e. c.in_ok-places.ensures.spreads c.args.store.now x t there e)

-- more stored tuples than the bound
pub returns-then-upto-from-clause-reach : goal.returns-then-upto-from-clause-reach
returns-then-upto-from-clause-reach g c =
    λ below small few. reach-many c.args.store.now c.args.b.now c.args.sets.now c.args.name (indices_tree c.args.indices.now) c.args.bound _ c.if-sets-gt-MOST_LABELS.false below c.if-upto-from.true (span-count c.given.result.now c.in_ok-prefix.prefix _ _ c.span-from.ensures.upto ∙ ap (λ given. length (those_with given c.in_ok-prefix.prefix)) c.given.ensures.value ∙ ap (λ beginning. length (those_with (given_of c.args.store.now c.args.name) beginning)) (c.in_ok-prefix.ensures.beginning few))

-- too many elements of free sets, or more in all than the bound
pub returns-then-spread-gt-MOST_ELEMENTS-clause-reach : goal.returns-then-spread-gt-MOST_ELEMENTS-clause-reach
returns-then-spread-gt-MOST_ELEMENTS-clause-reach g c =
    λ below small few.
    let store = c.args.store.now in
    let tree = indices_tree c.args.indices.now in
    let free_is = c.as_slice.ensures.value ∙ c.in_ok-places.ensures.free in
    let many = c.count-spread.ensures ∙ ap (λ free. min (length (elements store free)) 18446744073709551615) free_is in
    let tuples = span-count c.given.result.now c.in_ok-prefix.prefix _ _ c.span-from.ensures.upto ∙ ap (λ given. length (those_with given c.in_ok-prefix.prefix)) c.given.ensures.value ∙ ap (λ beginning. length (those_with (given_of store c.args.name) beginning)) (c.in_ok-prefix.ensures.beginning few) in
    elim c.then-spread-gt-MOST_ELEMENTS.branch [
      | then-spread-gt-MOST_ELEMENTS-via-then-spread-gt-MOST_ELEMENTS w ↦ reach-wide store c.args.b.now c.args.sets.now c.args.name tree c.args.bound c.count-spread.result c.if-sets-gt-MOST_LABELS.false below small w.if-spread-gt-MOST_ELEMENTS.true (omega (arith, many))
      | then-spread-gt-MOST_ELEMENTS-via-else-spread-gt-MOST_ELEMENTS+then-saturating_mul-bound w ↦ let whole = reach-is store c.args.b.now c.args.sets.now c.args.name tree _ c.count-spread.result tuples (omega (arith, many, w.if-spread-gt-MOST_ELEMENTS.false)) in omega (arith, whole, w.saturating_mul.ensures, w.if-saturating_mul-bound.true)
    ]
