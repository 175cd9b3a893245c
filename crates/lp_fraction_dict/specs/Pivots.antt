-- Why a pivot leads to no dictionary: the first of its steps that does not fit.
use Rattle.std.specs.Prelude.{List}
use Rattle.lp_core.specs.Steps.{ExpectedStep, FirstStop}
use Rattle.lp_std.specs.declared.stop.Stop.{Stop}
use Rattle.lp_std.specs.declared.stop.Stop.TheVariants as stop
-- passed on: the invariant of a dictionary of a program, and which variable leaves
pub use Rattle.lp_core.specs.Dictionary.{IsProper, IsLeaving}

-- the stop is Limit with the first of these steps that does not fit
abbrev pub IsLimit : List ExpectedStep → Stop → Type 0
IsLimit steps (stop.Limit step) = FirstStop steps step
IsLimit steps (stop.Crossed j) = ⊥
IsLimit steps stop.Memory = ⊥

-- the stop is Limit with the first of these steps that does not fit, or it is Memory, which makes
-- no claim
abbrev pub StopsAtStep : List ExpectedStep → Stop → Type 0
StopsAtStep steps (stop.Limit step) = FirstStop steps step
StopsAtStep steps (stop.Crossed j) = ⊥
StopsAtStep steps stop.Memory = Unit {0}
