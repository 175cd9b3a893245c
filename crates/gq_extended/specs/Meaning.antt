-- The extended numbers that values of `Ext` over a field mean.
use Rattle.std.specs.Prelude.{Result, Ok, Err}
use Rattle.gq_number.specs.Number
use Rattle.gq_extended.specs.Extended.{Extended, number, plus_infinity, minus_infinity, na, Outcome}
use Rattle.gq_extended.specs.declared.extended.Ext.{Ext}
use Rattle.gq_extended.specs.declared.extended.Ext.TheVariants.{Number, PlusInf, MinusInf, Na}
use Rattle.gq_extended.specs.declared.fault.ExtendedFault.{ExtendedFault}

-- the extended number that a value of `Ext F` means, where `value` gives the number that a value of
-- F means
abbrev pub extended : {F : Type 0} → (F → Number.Number) → Ext F → Extended
extended value (Number x) = number (value x)
extended value PlusInf = plus_infinity
extended value MinusInf = minus_infinity
extended value Na = na

-- the result of a call as an outcome: the extended number that its `Ext F` means, where `value`
-- gives the number that a value of F means; or the fault of the call
abbrev pub outcome : {F : Type 0} → (F → Number.Number) → Result (Ext F) ExtendedFault → Outcome
outcome value (Ok x) = Ok (extended value x)
outcome value (Err fault) = Err fault
