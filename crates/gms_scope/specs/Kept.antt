-- The invariant of what is known before a statement, as it is stored.
use Rattle.std.specs.Prelude.{◌≡◌, Bool, List, length}
use Rattle.gms_scope.specs.declared.order.Order.{Order}
use Rattle.gms_scope.specs.declared.model.Models.{Models}
use Rattle.gms_scope.specs.Order.{IsOrder}
use Rattle.gms_scope.specs.Models.{AreModelsCounted, AreModelsListed}

-- The order of names (the list of their declarations), the marks of defined equations and the
-- models are for the same number of names. The order and the models satisfy their invariants. Each
-- model stores how many of its first equations are known to be defined; these exist and are marked.
pub record IsConsistent (order : Order) (defined : List Bool) (models : Models) : Type 0 where
  pub ordered : IsOrder order
  pub listed : AreModelsListed models
  pub counted : AreModelsCounted defined models
  pub names : length order.first.items ≡ length defined
  pub places : length models.places.items ≡ length defined
