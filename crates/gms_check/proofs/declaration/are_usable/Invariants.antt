use Rattle.std.proofs.Common.{◌≡◌, drop}
use Rattle.std.specs.List.{list_all}
use Rattle.gms_check.specs.DeclarationUses.{is_usable_in}
use Rattle.gms_check.proofs.declaration.are_usable.Given as goal

abbrev pub invariant-loop-position : goal.invariant-loop-position
invariant-loop-position g l =
    list_all (is_usable_in l.known.state) (drop l.position-index l.positions) ≡ list_all (is_usable_in l.known.state) l.positions
