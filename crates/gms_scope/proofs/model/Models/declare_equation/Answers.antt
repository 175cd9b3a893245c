use Rattle.std.proofs.Common.{◌∙◌, ap, sym, subst}
use Rattle.gms_scope.specs.Models.{AreAllThere, AreCounted, models_within}
use Rattle.gms_scope.proofs.Listed.{counted-more, models-more, there-more}
use Rattle.gms_scope.proofs.model.Models.declare_equation.Goals as goal

pub returns-clause-listed : goal.returns-clause-listed
returns-clause-listed c =
    record { places = c.requires.places; there = subst (λ equations. AreAllThere equations c.args.self.now.models.items) (sym c.in_ok-push.ensures.items) (there-more _ c.args.equation _ c.requires.there) }

pub returns-clause-counted : goal.returns-clause-counted
returns-clause-counted c defined counted =
    subst (λ equations. AreCounted defined equations c.args.self.now.models.items) (sym c.in_ok-push.ensures.items) (counted-more defined _ c.args.equation _ c.requires.there counted)

pub returns-clause-models : goal.returns-clause-models
returns-clause-models c =
    ap (λ equations. models_within equations c.args.self.now.models.items) c.in_ok-push.ensures.items ∙ models-more _ c.args.equation _ c.requires.there
