use Rattle.std.proofs.Common.{◌≡◌, take}
use Rattle.gms_store.specs.State.{members_of}
use Rattle.gms_save_text.proofs.validity.has_same_members.Given as goal

abbrev pub invariant-loop-place : goal.invariant-loop-place
invariant-loop-place g l = take l.place (members_of l.store l.set) ≡ take l.place (members_of l.other l.set)
