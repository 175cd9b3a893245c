use Rattle.std.proofs.Common.{◌∙◌}
use Rattle.gms_scope.proofs.known.Known.declare.Goals as goal

pub invariant_of-self-in_err-declare_equation : goal.invariant_of-self-in_err-declare_equation
invariant_of-self-in_err-declare_equation g c =
    let k = c.self.invariant in
    record { ordered = c.declare-2.ensures.order; listed = c.declare_equation.ensures.listed; counted = c.declare_equation.ensures.counted c.self.inside.defined k.counted; names = c.declare-2.ensures.names ∙ k.names; places = c.declare_equation.ensures.places ∙ k.places }

pub invariant_of-self-then-eq-2 : goal.invariant_of-self-then-eq-2
invariant_of-self-then-eq-2 g c =
    let k = c.self.invariant in
    record { ordered = c.declare-2.ensures.order; listed = c.declare_equation.ensures.listed; counted = c.declare_equation.ensures.counted c.self.inside.defined k.counted; names = c.declare-2.ensures.names ∙ k.names; places = c.declare_equation.ensures.places ∙ k.places }
