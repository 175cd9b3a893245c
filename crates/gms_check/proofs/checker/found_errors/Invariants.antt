use Rattle.std.proofs.Common.{◌≡◌, ◌++◌, drop, flat_map}
use Rattle.std.specs.Prelude.{option_to_list}
use Rattle.gms_check.proofs.checker.found_errors.Given as goal

abbrev pub invariant-loop-error : goal.invariant-loop-error
invariant-loop-error l = l.errors.items ++ flat_map option_to_list (drop l.error-index l.each) ≡ flat_map option_to_list l.each
