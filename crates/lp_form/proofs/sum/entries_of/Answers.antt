use Rattle.std.proofs.Common.{◌≡◌, sym, ap, subst, IfOk}
use Rattle.lp_form.specs.declared.key.Key.{Key}
use Rattle.lp_form.specs.Forms.{coefficient}
use Rattle.lp_form.specs.Shown.{shown}
use Rattle.lp_form.proofs.sum.entries_of.Goals as goal

pub returns-in-List : goal.returns-in-List
returns-in-List g c =
    subst (λ kept. IfOk c.of_form.result (λ entries. (key : Key) → coefficient g.F.ExactField.value entries key ≡ coefficient g.F.ExactField.value (shown kept) key)) (sym c.in-List.is) c.of_form.ensures.numbers

pub returns-in-Map : goal.returns-in-Map
returns-in-Map g c =
    λ key. ap (λ kept. coefficient g.F.ExactField.value (shown kept) key) (sym c.in-Map.is)
