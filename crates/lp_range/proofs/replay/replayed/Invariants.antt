use Rattle.std.proofs.Common.{◌≡◌, ◌+◌, ◌-◌, ◌^◌, [], min, drop}
use Rattle.lp_core.specs.declared.answer.Rule.TheVariants.{Legal}
use Rattle.lp_core.specs.StandardForm.{Standard}
use Rattle.lp_core.specs.Dictionary.{Dictionary}
use Rattle.lp_core.specs.Pivots.{ByRule, LeadsWithin}
use Rattle.lp_std.specs.Last.{IsDictionaryOf}
use Rattle.lp_dict.specs.Tableau.{dictionary}
use Rattle.lp_range.proofs.replay.replayed.Given as goal

abbrev pub invariant-loop-pivot : goal.invariant-loop-pivot
invariant-loop-pivot g l =
    record {
      same : (last : Dictionary) → LeadsWithin (ByRule Legal) g.F.ExactField.limit 1 [] (dictionary g.F.ExactField.value l.fn.first) l.pivots last → LeadsWithin (ByRule Legal) g.F.ExactField.limit (l.pivot-index + 1) [] (dictionary g.F.ExactField.value l.dict) (drop l.pivot-index l.pivots) last;
      of_form : (s : Standard) → IsDictionaryOf s (dictionary g.F.ExactField.value l.fn.first) → IsDictionaryOf s (dictionary g.F.ExactField.value l.dict);
      upcoming : l.dict.upcoming ≡ min (l.pivot-index + 1) (2 ^ 64 - 1);
    }
