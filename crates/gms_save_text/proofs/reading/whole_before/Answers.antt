use Rattle.std.proofs.Common.{arith, decimal}
use Rattle.gms_save_text.proofs.Finding.{handed_on}
use Rattle.gms_save_text.proofs.Numbers.{none-decimal}
use Rattle.gms_save_text.proofs.reading.whole_before.Goals as goal

pub returns-in_err-digits : goal.returns-in_err-digits
returns-in_err-digits c n rest small is =
    handed_on _ _ _ _ c.from_residual.ensures.1 (c.in_err-digits.ensures (decimal n) rest (none-decimal c.args.byte n c.requires (omega (arith, small))) is)

pub returns-in-Some : goal.returns-in-Some
returns-in-Some c n rest small is =
    let found = c.in_ok-digits.ensures (decimal n) rest (none-decimal c.args.byte n c.requires (omega (arith, small))) is in
    (c.in-Some.ensures.found n small found.0, found.1)

pub returns-in-None : goal.returns-in-None
returns-in-None c n rest small is =
    let found = c.in_ok-digits.ensures (decimal n) rest (none-decimal c.args.byte n c.requires (omega (arith, small))) is in
    c.in-None.ensures.found n small found.0
