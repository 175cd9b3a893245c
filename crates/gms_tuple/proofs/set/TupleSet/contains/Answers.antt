use Rattle.std.proofs.Common.{◌∙◌, sym}
use Rattle.gms_tuple.proofs.Members.{has-searched, Contains-has, has-Contains}
use Rattle.gms_tuple.proofs.set.TupleSet.contains.Goals as goal

pub returns-clause-value : goal.returns-clause-value
returns-clause-value c = c.is_ok.ensures.value ∙ has-searched c.args.self.now c.args.t.now c.place.result c.place.ensures.member c.place.ensures.absent

pub returns-clause-member : goal.returns-clause-member
returns-clause-member c =
    (λ there. Contains-has c.args.self.now c.args.t.now (sym (returns-clause-value c) ∙ there), λ at. returns-clause-value c ∙ has-Contains c.args.self.now c.args.t.now at)
