use Rattle.std.proofs.Common.{◌∙◌, sym}
use Rattle.gms_save_text.proofs.FittingTuples.{member_at}
use Rattle.gms_save_text.proofs.validity.is_near.Goals as goal

pub returns : goal.returns
returns c = λ same. member_at c.args.members.now _ _ c.args.tuple.now c.get-2.ensures (sym c.eq.ensures ∙ same)
