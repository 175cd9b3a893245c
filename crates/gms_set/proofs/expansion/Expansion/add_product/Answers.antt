use Rattle.std.proofs.lemmas.Bool.{not-false}
use Rattle.std.proofs.Common.{◌≡◌, ◌∙◌, ◌<◌, ◌++◌, ◌∷◌, [], true, false, not, ap, sym, length, get_or, take, arith}
use Rattle.std.proofs.lemmas.List.{take_all}
use Rattle.std.proofs.lemmas.Option.{get_or_from_slice_get}
use Rattle.gms_tuple.specs.TupleSet.{has}
use Rattle.gms_tuple.specs.Products.{tuple_product}
use Rattle.gms_set.specs.Expansion.{has_repeat, tuples_of, tuples_with_value}
use Rattle.gms_set.proofs.Repeats.{repeat-at, tuples_of-with, with_value-more}
use Rattle.gms_set.proofs.expansion.Expansion.add_product.Goals as goal

pub returns-then-not-branch-clause-new : goal.returns-then-not-branch-clause-new
returns-then-not-branch-clause-new g c =
    let tuples = tuple_product c.args.parts.now in
    let l : c.loop-place.place < length tuples = omega (arith, c.loop-place-test.true, c.requires.count) in
    let at : get_or tuples c.loop-place.place [] ≡ c.in_ok-tuple.tuple = get_or_from_slice_get tuples c.loop-place.place c.in_ok-tuple.tuple [] c.in_ok-tuple.ensures in
    let there : has (tuples_of c.loop-place.self) c.in_ok-tuple.tuple ≡ true = not-false (has (tuples_of c.loop-place.self) c.in_ok-tuple.tuple) (sym c.in_ok-add_tuple.ensures.new ∙ c.if-not-branch.true) in
    let repeated = repeat-at c.args.self.now c.args.value tuples c.loop-place.place l (ap (has (tuples_of (c.args.self.now ++ tuples_with_value c.args.value (take c.loop-place.place tuples)))) at ∙ ap (λ given. has (tuples_of given) c.in_ok-tuple.tuple) (sym c.loop-place.invariant.given) ∙ there) in
    sym (ap not repeated)

pub loop-place-preserved : goal.loop-place-preserved
loop-place-preserved g c =
    let tuples = tuple_product c.args.parts.now in
    let l : c.loop-place.place < length tuples = omega (arith, c.loop-place-test.true, c.requires.count) in
    let at : get_or tuples c.loop-place.place [] ≡ c.in_ok-tuple.tuple = get_or_from_slice_get tuples c.loop-place.place c.in_ok-tuple.tuple [] c.in_ok-tuple.ensures in
    record {
      given = c.in_ok-add_tuple.ensures.given c.if-not-branch.false ∙ ap (λ given. given ++ (c.in_ok-tuple.tuple, c.args.value) ∷ []) c.loop-place.invariant.given
          ∙ ap (λ t. (c.args.self.now ++ tuples_with_value c.args.value (take c.loop-place.place tuples)) ++ (t, c.args.value) ∷ []) (sym at) ∙ with_value-more c.args.self.now c.args.value tuples c.loop-place.place l;
      distinct = c.in_ok-add_tuple.ensures.distinct;
    }

pub returns-clause-new : goal.returns-clause-new
returns-clause-new g c =
    let tuples = tuple_product c.args.parts.now in
    let whole : take c.loop-place.place tuples ≡ tuples = take_all c.loop-place.place tuples (omega (arith, c.loop-place-test.false, c.requires.count)) in
    let all : tuples_of c.loop-place.self ≡ tuples_of c.args.self.now ++ tuples = ap tuples_of c.loop-place.invariant.given ∙ tuples_of-with c.args.self.now c.args.value (take c.loop-place.place tuples) ∙ ap (λ ts. tuples_of c.args.self.now ++ ts) whole in
    sym (ap not (ap has_repeat (sym all) ∙ c.loop-place.invariant.distinct))
