use Rattle.std.proofs.Common.{◌≡◌, ◌∙◌, ◌||◌, true, not, ap, sym}
use Rattle.std.proofs.lemmas.Bool.{not-false}
use Rattle.gms_tuple.specs.TupleOrder.{same_tuple}
use Rattle.gms_tuple.specs.TupleSet.{has}
use Rattle.gms_tuple.proofs.Members.{inserted-known}
use Rattle.gms_set.specs.Expansion.{tuples_of}
use Rattle.gms_set.proofs.LaterTuples.{new-following, seen-more}
use Rattle.gms_set.proofs.seen.see.Goals as goal

pub returns-then-is_after-clause-new : goal.returns-then-is_after-clause-new
returns-then-is_after-clause-new g c = sym (ap not (new-following (tuples_of c.args.given.now) c.args.tuple.now (c.is_after.ensures c.if-is_after.true)))

pub returns-clause-more : goal.returns-clause-more
returns-clause-more g c = λ new.
    seen-more c.in_ok-set.set c.insert-2.new.self (tuples_of c.args.given.now) c.args.tuple.now c.in_ok-set.ensures (λ other. c.in_ok-new.ensures.members other ∙ ap (λ t. same_tuple t other || has c.in_ok-set.set other) c.in_ok-member-2.ensures)

pub returns-clause-known : goal.returns-clause-known
returns-clause-known g c = λ known. λ other.
    let there : has c.in_ok-set.set c.in_ok-member-2.member ≡ true = not-false (has c.in_ok-set.set c.in_ok-member-2.member) (sym c.in_ok-new.ensures.new ∙ known) in
    ap (λ set. has set other) (c.in_ok-new.ensures.ok ∙ sym (inserted-known c.in_ok-set.set c.in_ok-member-2.member there)) ∙ c.in_ok-set.ensures other
