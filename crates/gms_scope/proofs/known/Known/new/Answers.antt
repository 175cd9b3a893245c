use Rattle.std.proofs.Common.{◌≡◌, ◌∙◌, sym, ap, subst, length}
use Rattle.std.proofs.lemmas.List.{length-replicate}
use Rattle.gms_scope.specs.Models.{AreCounted}
use Rattle.gms_scope.proofs.known.Known.new.Goals as goal

pub invariant_of-result : goal.invariant_of-result
invariant_of-result g c =
    let size : length c.in_ok-new-3.field-0 ≡ c.len-names.result = ap length c.in_ok-new-3.ensures ∙ length-replicate _ _ in
    record {
      ordered = c.in_ok-new.ensures.0;
      listed = c.in_ok-new-4.ensures.0;
      counted = subst (λ models. AreCounted c.in_ok-new-3.field-0 c.in_ok-new-4.field-0.equations.items models) (sym c.in_ok-new-4.ensures.2) tt;
      names = c.in_ok-new.ensures.2 ∙ sym size;
      places = c.in_ok-new-4.ensures.3 ∙ sym size;
    }
