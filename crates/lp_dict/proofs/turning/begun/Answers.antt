use Rattle.std.proofs.Common.{◌≡◌, ◌≤◌, length, refl, sym, subst}
use Rattle.std.specs.Prelude.{IfSome}
use Rattle.lp_core.specs.Dictionary.{Dictionary}
use Rattle.lp_fraction_dict.specs.Pivots.{IsProper}
use Rattle.lp_fraction_dict.specs.Tableau as exact
use Rattle.lp_integer_dict.specs.Whole.{WholeTableau, integer_dictionary as dictionary_of}
use Rattle.lp_dict.proofs.turning.begun.Goals as goal

pub returns-in-Some-clause-is_kept : goal.returns-in-Some-clause-is_kept
returns-in-Some-clause-is_kept g c =
    let same = subst (λ o. IfSome o (λ (w : WholeTableau). dictionary_of w ≡ exact.fraction_dictionary g.F.ExactField.value c.args.dict)) c.in-Some.is c.in_ok-rows.ensures.same in
    record {
      proper = subst IsProper (sym same) c.keeps.ensures.proper;
      few = subst (λ (d : Dictionary). length d.basic ≤ d.variables) (sym same) c.keeps.ensures.few;
      bounded = subst (λ o. IfSome o (λ (w : WholeTableau). w.bound ≤ g.F.ExactField.limit)) c.in-Some.is c.in_ok-rows.ensures.bounded;
      opened = λ later. absurd (later refl);
    }
