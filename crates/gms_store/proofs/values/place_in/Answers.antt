use Rattle.std.proofs.Common.{◌≡◌, rules}
use Rattle.std.proofs.lemmas.Fn.{always_returns_same}
use Rattle.gms_tuple.specs.TupleOrder.{tuple_cmp}
use Rattle.gms_tuple.proofs.Ordered.{tuple_cmp-Equal}
use Rattle.gms_store.proofs.Parts.{find-missing}
use Rattle.gms_store.proofs.values.place_in.Goals as goal

pub returns-in-Ok-clause-there : goal.returns-in-Ok-clause-there
returns-in-Ok-clause-there g c =
    let equal = c.in-Ok.ensures.position (λ e. tuple_cmp e.0 c.args.t.now) (always_returns_same _ (λ a r. r ≡ tuple_cmp a.0.now.0 c.args.t.now) _ (λ a r f k. search rules)) in
    (c.in-Ok.ensures.bound, λ d. tuple_cmp-Equal _ c.args.t.now (equal d))

pub returns-in-Err-clause-absent : goal.returns-in-Err-clause-absent
returns-in-Err-clause-absent g c =
    find-missing c.args.following.now c.args.t.now c.in-Err.field-0 c.requires (c.in-Err.ensures.position (λ e. tuple_cmp e.0 c.args.t.now) (always_returns_same _ (λ a r. r ≡ tuple_cmp a.0.now.0 c.args.t.now) _ (λ a r f k. search rules)))
