use Rattle.std.proofs.Common.{◌≡◌, ◌||◌, drop, take}
use Rattle.gms_check.specs.InnerChecking.{seen, with_controlled}
use Rattle.gms_check.specs.Controls.{is_controlled_twice}
use Rattle.gms_check.proofs.checker.Checker.push_sets.Given as goal

abbrev pub invariant-loop-set : goal.invariant-loop-set
invariant-loop-set g l = record {
  controlled : seen l.self ≡ with_controlled (seen l.fn.self) (take l.set-index l.sets);
  twice : (l.twice || is_controlled_twice (seen l.self).controlled (drop l.set-index l.sets)) ≡ is_controlled_twice (seen l.fn.self).controlled l.sets;
}
