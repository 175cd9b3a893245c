use Rattle.std.proofs.Common.{◌≡◌, map, length, drop}
use Rattle.gms_eval.proofs.Sizes.{IsMade}
use Rattle.gms_exec.specs.Showing.{labels_at}
use Rattle.gms_exec.proofs.name_domains.NameDomain.element.Given as goal

abbrev pub invariant-loop-position : goal.invariant-loop-position
invariant-loop-position g l =
    IsMade (map (labels_at l.self.labels l.self.store.now) l.self.positions.now) l.initial.number (map (labels_at l.self.labels l.self.store.now) (drop l.position-index l.self.positions.now)) l.element l.size l.number
    × (length l.element ≡ l.position-index)
