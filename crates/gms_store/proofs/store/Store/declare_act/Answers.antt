use Rattle.std.proofs.Common.{inl, inr, OnErr, Result, Ok, Err, sym, ap, ◌∙◌}
use Rattle.gms_store.specs.Declarations.{declared_first}
use Rattle.gms_store.proofs.store.Store.declare_act.Goals as goal

-- a property of an error, restated
on_err : {X E P Q : Type 0} (r : Result X E) → (P → Q) → OnErr r P → OnErr r Q
on_err (Ok x) f h = tt
on_err (Err e) f h = f h

pub returns-in-Alias-clause-err : goal.returns-in-Alias-clause-err
returns-in-Alias-clause-err g c =
    on_err c.declare_alias.result (λ kept. elim kept [
      | inl same ↦ (0, same ∙ sym (ap (declared_first 0 c.args.self.now) c.in-Alias.is))
      | inr first ↦ (1, first ∙ sym (ap (declared_first 1 c.args.self.now) c.in-Alias.is))
    ]) c.declare_alias.ensures.err
