use Rattle.std.proofs.Common.{◌≡◌, ◌∙◌, sym, ap, subst, length}
use Rattle.std.proofs.lemmas.List.{length-set}
use Rattle.gms_scope.specs.Models.{AreModelsCounted}
use Rattle.gms_scope.proofs.Listed.{counted-defined}
use Rattle.gms_scope.proofs.known.Known.define.Goals as goal

pub invariant_of-self : goal.invariant_of-self
invariant_of-self g c =
    let k = c.self.invariant in
    let size : length c.set.new.self ≡ length c.self.inside.defined = ap length c.set.ensures ∙ length-set _ _ _ in
    record {
      ordered = k.ordered;
      listed = k.listed;
      counted = subst (λ defined. AreModelsCounted defined c.self.inside.models) (sym c.set.ensures) (counted-defined c.self.inside.defined c.args.equation _ _ k.counted);
      names = k.names ∙ sym size;
      places = k.places ∙ sym size;
    }
