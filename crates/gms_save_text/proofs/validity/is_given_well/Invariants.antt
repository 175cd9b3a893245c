use Rattle.std.proofs.Common.{◌≡◌, ◌≤◌, true, All, length, take}
use Rattle.gms_store.specs.State.{given_in, symbol_at}
use Rattle.gms_save_text.specs.Validity.{fits_domain}
use Rattle.gms_save_text.proofs.validity.is_given_well.Given as goal

abbrev pub invariant-loop-place : goal.invariant-loop-place
invariant-loop-place g l = record {
  occur : All (λ t. fits_domain l.labels l.store (symbol_at l.store l.name).domain t ≡ true) (take l.place (given_in (symbol_at l.store l.name).content));
  few : All (λ t. length t ≤ 10) (take l.place (given_in (symbol_at l.store l.name).content));
}
