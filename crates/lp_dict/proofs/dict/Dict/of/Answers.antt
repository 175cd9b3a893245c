use Rattle.std.proofs.Common.{sym, subst, ◌∙◌}
use Rattle.lp_core.specs.Dictionary.{InPhaseOne}
use Rattle.lp_std.specs.Meaning.{standard_value}
use Rattle.lp_std.specs.Last.{IsDictionaryOf}
use Rattle.lp_dict.proofs.Opens.{none_in_first}
use Rattle.lp_dict.proofs.dict.Dict.of.Goals as goal

pub begun-requires-clause-phase : goal.begun-requires-clause-phase
begun-requires-clause-phase g c = subst (λ d. ¬ (InPhaseOne d)) (sym c.in_ok-dict.ensures.first) (none_in_first (standard_value g.F.ExactField.value c.args.s.now))

pub returns-clause-first : goal.returns-clause-first
returns-clause-first g c = c.in_ok-body.ensures.same ∙ c.in_ok-dict.ensures.first

pub returns-clause-of_form : goal.returns-clause-of_form
returns-clause-of_form g c = subst (IsDictionaryOf (standard_value g.F.ExactField.value c.args.s.now)) (sym c.in_ok-body.ensures.same) c.in_ok-dict.ensures.of_form
