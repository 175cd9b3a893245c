-- Which ends are Refused.
use Rattle.lp_core.specs.declared.answer.End.{End}
use Rattle.lp_core.specs.declared.answer.End.TheVariants.{Refused}

-- the end is Refused: a step exceeds the limit of the size of numbers; any `step` will do here
abbrev pub IsRefusedEnd : {F : Type 0} → End F → Type 0
IsRefusedEnd (Refused step) = Unit {0}
IsRefusedEnd other = ⊥
