use Rattle.std.proofs.Common.{◌∙◌, ap, not, arith, nat_eq}
use Rattle.std.specs.Prelude.{slice_index_or}
use Rattle.gms_check.specs.Past.{is_among}
use Rattle.gms_check.proofs.Controlling.{among-order}
use Rattle.gms_check.proofs.controlled.Controlled.has.Goals as goal

pub returns-in-Some : goal.returns-in-Some
returns-in-Some c =
    ap (λ n. not (nat_eq n 0)) (c.in-Some.ensures.lookup.4 (omega arith) 0 ∙ ap (λ firsts. slice_index_or firsts c.args.set 0) c.deref.ensures.value ∙ c.self.invariant c.args.set)
    ∙ among-order c.self.inside.sets.items c.args.set ∙ ap (λ names. is_among names c.args.set) c.self.view_is

pub returns-in-None : goal.returns-in-None
returns-in-None c =
    ap (λ n. not (nat_eq n 0)) (c.in-None.ensures.lookup.4 (omega arith) 0 ∙ ap (λ firsts. slice_index_or firsts c.args.set 0) c.deref.ensures.value ∙ c.self.invariant c.args.set)
    ∙ among-order c.self.inside.sets.items c.args.set ∙ ap (λ names. is_among names c.args.set) c.self.view_is
