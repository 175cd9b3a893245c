use Rattle.std.proofs.Common.{◌≡◌, drop}
use Rattle.gms_scope.specs.Entries.{above_of}
use Rattle.gms_scope.specs.Facts.{names}
use Rattle.gms_scope.specs.Names.{positions}
use Rattle.gms_check.specs.IndexList.{have_unfit_set}
use Rattle.gms_check.specs.StatementUses.{index_list}
use Rattle.gms_check.proofs.indices.has_unfit_set.Given as goal

abbrev pub invariant-loop-place : goal.invariant-loop-place
invariant-loop-place g l = have_unfit_set l.known.state (names l.known) (above_of l.known.declared) l.name (drop l.place (positions l.known.state l.name)) (index_list (drop l.place l.indices)) ≡ have_unfit_set l.known.state (names l.known) (above_of l.known.declared) l.name (positions l.known.state l.name) (index_list l.indices)
