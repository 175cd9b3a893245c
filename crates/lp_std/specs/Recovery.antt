-- What the recovery gives (Chvatal, Linear Programming, chapters 1, 3, 5 and 9).
use Rattle.std.specs.Prelude.{◌≡◌, ℕ, None}
use Rattle.gq_number.specs.Number.{Number}
use Rattle.lp_core.specs.declared.program.Lp.{Lp}
use Rattle.lp_core.specs.Proofs.{FirstCrossed}
use Rattle.lp_core.specs.StandardForm as form
use Rattle.lp_core.specs.Steps.{FirstStop, steps_back}
use Rattle.lp_std.specs.declared.types.Standard.{Standard}
use Rattle.lp_core.specs.declared.answer.EndKind.{EndKind}
use Rattle.lp_std.specs.declared.stop.Stop.{Stop}
use Rattle.lp_std.specs.declared.stop.Stop.TheVariants as stop
use Rattle.lp_std.specs.Meaning.{standard_value}

module _ {F : Type 0} (value : F → Number) (lp : Lp F) where
  -- no bounds of the program cross, and s is its standard form
  abbrev pub IsFormOf : Standard F → Type 0
  IsFormOf s = FirstCrossed value lp.columns None × (standard_value value s ≡ form.standard_form value lp)

module _ {F : Type 0} (value : F → Number) (limit : ℕ) (lp : Lp F) where
  -- Why the program's answer cannot be recovered from `last`, what is read from a final dictionary,
  -- for an end of the kind k. Limit: this step of the recovery is the first that exceeds the limit
  -- on the size of numbers. Memory makes no claim. Crossed does not occur.
  abbrev pub HasNoRecovery : EndKind → form.Last → Stop → Type 0
  HasNoRecovery k last (stop.Limit step) = FirstStop (steps_back value limit lp k last) step
  HasNoRecovery k last (stop.Crossed j) = ⊥
  HasNoRecovery k last stop.Memory = Unit {0}
