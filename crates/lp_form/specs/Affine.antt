-- Affine forms as contracts view them.
use Rattle.std.specs.Prelude.{◌≡◌, ◌≢◌, pos, List, length}
use Rattle.std.specs.List.{All}
use Rattle.gq_number.specs.Number.{Number, whole}
use Rattle.lp_form.specs.declared.key.Key.{Key}
use Rattle.lp_form.specs.Keys.{AreOrdered}

-- An affine form: a constant, and for each of its keys a number, the coefficient. A key is an
-- element of a symbol, such as `x(seattle,chicago)`.
pub record Affine (F : Type 0) : Type 0 where
  pub constant : F
  pub keys : List Key
  -- the numbers, in the order of the keys
  pub numbers : List F

-- The keys are strictly ascending, each has its number, and none of the numbers is 0. `value` gives
-- the number that a value of the field `F` means.
pub record IsForm {F : Type 0} (value : F → Number) (form : Affine F) : Type 0 where
  pub ordered : AreOrdered form.keys
  pub paired : length form.numbers ≡ length form.keys
  pub not_zero : All (λ x. value x ≢ whole (pos 0)) form.numbers
