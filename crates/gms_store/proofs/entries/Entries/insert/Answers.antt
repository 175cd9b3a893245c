use Rattle.std.proofs.lemmas.Bool.{not-false, not-true}
use Rattle.std.proofs.Common.{◌∙◌, ap, sym, not, true, false}
use Rattle.std.specs.FinMap as finite
use Rattle.gms_tuple.specs.TupleSet.{has, inserted}
use Rattle.gms_store.proofs.Parts.{keys-insert, keys-back, keys-known}
use Rattle.gms_store.proofs.entries.Entries.insert.Goals as goal

pub invariant_of-self-in-Ok : goal.invariant_of-self-in-Ok
invariant_of-self-in-Ok g c =
    c.in_ok-new.ensures.ok
    ∙ ap (inserted c.self.inside.given) c.in_ok-member.ensures
    ∙ ap (λ members. inserted members c.args.t.now) c.self.invariant
    ∙ keys-insert c.self.inside.values c.args.t.now c.args.value
    ∙ ap finite.keys (sym c.in-Ok.ensures.ok)

pub invariant_of-self-then-new : goal.invariant_of-self-then-new
invariant_of-self-then-new g c =
    c.remove.ensures.rest
    ∙ keys-back c.self.inside.values c.args.t.now c.insert.new.self (c.in_ok-new.ensures.ok ∙ ap (inserted c.self.inside.given) c.in_ok-member.ensures ∙ ap (λ members. inserted members c.args.t.now) c.self.invariant) (not-true _ (sym (c.in_ok-new.ensures.new ∙ ap (λ key. not (has c.self.inside.given key)) c.in_ok-member.ensures ∙ ap (λ members. not (has members c.args.t.now)) c.self.invariant) ∙ c.if-new.true))
    ∙ ap finite.keys (sym c.in-Err.ensures.err)

pub invariant_of-self-else-new : goal.invariant_of-self-else-new
invariant_of-self-else-new g c =
    keys-known c.self.inside.values c.args.t.now c.insert.new.self (c.in_ok-new.ensures.ok ∙ ap (inserted c.self.inside.given) c.in_ok-member.ensures ∙ ap (λ members. inserted members c.args.t.now) c.self.invariant) (not-false _ (sym (c.in_ok-new.ensures.new ∙ ap (λ key. not (has c.self.inside.given key)) c.in_ok-member.ensures ∙ ap (λ members. not (has members c.args.t.now)) c.self.invariant) ∙ c.if-new.false))
    ∙ ap finite.keys (sym c.in-Err.ensures.err)
