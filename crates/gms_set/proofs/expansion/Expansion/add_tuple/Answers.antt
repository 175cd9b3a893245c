use Rattle.std.proofs.Common.{◌≡◌, ◌∙◌, ◌++◌, ◌∷◌, [], false, ap, sym, subst}
use Rattle.std.proofs.lemmas.Bool.{not-true}
use Rattle.gms_tuple.specs.TupleSet.{has}
use Rattle.gms_set.specs.Expansion.{tuples_of}
use Rattle.gms_set.specs.InnerGiven.{AreGiven}
use Rattle.gms_set.proofs.Repeats.{tuples_of-push, distinct-more}
use Rattle.gms_set.proofs.expansion.Expansion.add_tuple.Goals as goal

pub invariant_of-self-2 : goal.invariant_of-self-2
invariant_of-self-2 g c =
    let given = c.self.inside.given.items in
    let items : c.push.new.self.items ≡ given ++ (c.args.tuple, c.args.value) ∷ [] = c.in_ok-push.ensures.items ∙ ap (λ xs. xs ++ (c.args.tuple, c.args.value) ∷ []) c.in_ok-reserve.ensures.items in
    let slice : c.deref.result.now ≡ given = c.deref.ensures.value ∙ c.in_ok-reserve.ensures.items in
    let new : has (tuples_of given) c.args.tuple ≡ false = ap (λ xs. has (tuples_of xs) c.args.tuple) (sym slice) ∙ not-true (has (tuples_of c.deref.result.now) c.args.tuple) (sym c.in_ok-see.ensures.new ∙ c.if-not-branch.false) in
    let seen : AreGiven c.see.new.seen (tuples_of given ++ c.args.tuple ∷ []) = subst (λ xs. AreGiven c.see.new.seen (tuples_of xs ++ c.args.tuple ∷ [])) slice (c.in_ok-see.ensures.more c.if-not-branch.false) in
    rw items (subst (AreGiven c.see.new.seen) (sym (tuples_of-push given c.args.tuple c.args.value)) seen, distinct-more given c.args.tuple c.args.value c.self.invariant.1 new)

pub returns-clause-distinct : goal.returns-clause-distinct
returns-clause-distinct g c = (invariant_of-self-2 g c).1
