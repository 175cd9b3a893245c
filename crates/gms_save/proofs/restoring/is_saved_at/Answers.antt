use Rattle.std.proofs.lemmas.Bool.{both_ways}
use Rattle.std.proofs.Common.{true, false, refl}
use Rattle.gms_save.proofs.restoring.is_saved_at.Goals as goal

pub returns-then-not-branch : goal.returns-then-not-branch
returns-then-not-branch c =
    (λ e. absurd (both_ways false refl e), λ saved. absurd (both_ways c.in_ok-is_given_well.field-0 c.if-not-branch.true (c.in_ok-is_given_well.ensures.1 saved.given)))

pub returns : goal.returns
returns c =
    (λ e. record { given = c.in_ok-is_given_well.ensures.0 c.if-not-branch.false; static = c.keeps_members.ensures.0 e }, λ saved. c.keeps_members.ensures.1 saved.static)
