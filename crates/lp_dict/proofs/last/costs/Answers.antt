use Rattle.std.proofs.Common.{◌≡◌, ◌+◌, ◌<◌, ◌≤◌, length, map, sym, ap, subst, subst₂}
use Rattle.std.specs.Prelude.{Vec}
use Rattle.std.specs.declared.alloc.Global.{Global}
use Rattle.lp_core.specs.Pivots.{last_of}
use Rattle.lp_integer_dict.specs.Whole.{integer_dictionary as dictionary_of}
use Rattle.lp_dict.specs.InnerReading.{AreOfRow}
use Rattle.lp_dict.proofs.Finals.{costs_of_row, costs_of_objective}
use Rattle.lp_dict.proofs.last.costs.Goals.{then-row-basic, else-row-basic}
use Rattle.lp_dict.proofs.last.costs.Goals as goal

pub returns : goal.returns
returns g c =
    let d = dictionary_of c.args.rows.now in
    let list = c.in_ok-costs.costs.items in
    let made = subst (λ r. AreOfRow g.F.ExactField.value d r (d.variables + 1) list) c.priced-row.ensures c.in_ok-costs.ensures in
    elim c.if-row-basic.branch [
      | then-row-basic w ↦
          costs_of_row d c.keeps.ensures.proper g.F.ExactField.value list c.if-row-basic.costs.items w.zero.result (subst₂ (λ r n. r < n) c.priced-row.ensures (ap length c.basic.ensures) w.if-row-basic.true) made w.zero.ensures (ap (λ (v : Vec _ Global). v.items) w.costs-is)
      | else-row-basic w ↦
          subst (λ (v : Vec _ Global). map g.F.ExactField.value v.items ≡ (last_of d).costs) (sym w.costs-is)
          (costs_of_objective d c.keeps.ensures.proper g.F.ExactField.value list (subst₂ (λ r n. n ≤ r) c.priced-row.ensures (ap length c.basic.ensures) w.if-row-basic.false) made)
    ]
