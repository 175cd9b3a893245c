use Rattle.std.specs.Prelude.{◌-◌, ◌^◌}
use Rattle.lp_integers.specs.Lines.{AreWithin}
use Rattle.lp_integer_rows.specs.Parts.{AreFilled}
use Rattle.lp_integer_rows.proofs.parts.fill_words.Given as goal

abbrev pub invariant-loop-i : goal.invariant-loop-i
invariant-loop-i l = AreFilled l.parts l.multiple l.width l.i l.words.items × AreWithin l.words.items (2 ^ 63 - 1)
