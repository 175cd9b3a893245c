-- What the same step answers over 63 bits and over 127.
use Rattle.std.specs.Prelude.{◌≡◌, Result, IfOk, IsOkAnd}
use Rattle.gq_field.specs.declared.field.Limit.{Limit}
use Rattle.gq_field.specs.declared.half.Half.{Half}
use Rattle.gq_field.specs.Values.{half_value}
use Rattle.gq_frac.specs.declared.frac.Frac.{Frac}
use Rattle.gq_frac.specs.Frac.{frac_value}

-- if `narrow`, the result of an operation on fractions whose numerators and denominators have at
-- most 63 bits, is a number, then `wide`, that of the operation on those of at most 127 bits, is
-- the same number
abbrev pub KeepsAnswer : Result Half Limit → Result Frac Limit → Type 0
KeepsAnswer narrow wide = IfOk narrow (λ h. IsOkAnd wide (λ f. frac_value f ≡ half_value h))
