use Rattle.std.proofs.Common.{◌≡◌, ◌+◌, length, map}
use Rattle.std.specs.Prelude.{Vec}
use Rattle.std.specs.declared.alloc.Global.{Global}
use Rattle.std.proofs.lemmas.Result.{IfOk-weaker}
use Rattle.lp_core.specs.Pivots.{last_of}
use Rattle.lp_integer_dict.specs.Whole.{integer_dictionary as dictionary_of}
use Rattle.lp_dict.specs.InnerReading.{AreByVariable}
use Rattle.lp_dict.proofs.Finals.{values_are}
use Rattle.lp_dict.proofs.last.values.Goals as goal

pub returns : goal.returns
returns g c =
    let d = dictionary_of c.args.rows.now in
    IfOk-weaker c.by_variable.result (λ (list : Vec _ Global). AreByVariable g.F.ExactField.value d (d.variables + 1) 0 (length d.basic) list.items) (λ (list : Vec _ Global). map g.F.ExactField.value list.items ≡ (last_of d).values)
    (λ list h. values_are d c.keeps.ensures.proper g.F.ExactField.value list.items h) c.by_variable.ensures
