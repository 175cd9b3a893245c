-- Integers as callers view them, and the ways in which they are stored: only those that are not 0,
-- or all, in one word each or in two.
use Rattle.std.specs.Prelude.{◌-◌, ◌^◌, ℤ, List}
use Rattle.lp_integers.specs.declared.kept.Kept.{Kept}
use Rattle.lp_integers.specs.declared.kept.Kept.TheVariants as kept
use Rattle.lp_integers.specs.Lines.{AreWithin}

-- The list of all the integers, those that are 0 included, which `list` has in each case. `Few`
-- stores only those that are not 0, in one word each, `Narrow` stores all, in one word each, and
-- `Wide` all, in two words each.
abbrev pub listed : Kept → List ℤ
listed (kept.Few list) = list
listed (kept.Narrow list) = list.items
listed (kept.Wide list) = list.items

-- If the numbers are stored in at most one word each (`Few` and `Narrow`), their magnitudes have at
-- most 63 bits. If they are stored in two words each (`Wide`), nothing is required.
abbrev pub AreWithinWidth : Kept → Type 0
AreWithinWidth (kept.Few list) = AreWithin list (2 ^ 63 - 1)
AreWithinWidth (kept.Narrow list) = AreWithin list.items (2 ^ 63 - 1)
AreWithinWidth (kept.Wide list) = Unit {0}
