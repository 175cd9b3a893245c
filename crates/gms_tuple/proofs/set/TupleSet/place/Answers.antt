use Rattle.std.proofs.Common.{◌≡◌, ◌∙◌, Some, false, sym, ap, subst, length, slice_get, arith}
use Rattle.std.specs.List.{count_by}
use Rattle.gms_tuple.specs.TupleOrder.{IsOrdered, same_tuple}
use Rattle.gms_tuple.specs.TupleSet.{is_within}
use Rattle.gms_tuple.proofs.Forks.{found-at, absent-at}
use Rattle.gms_tuple.proofs.set.TupleSet.place.Goals as goal
use Rattle.gms_tuple.proofs.set.TupleSet.place.Goals.{else-place-len-via-then-place-len+else-eq, else-place-len-via-else-place-len}

pub returns-then-eq-clause-member : goal.returns-then-eq-clause-member
returns-then-eq-clause-member c =
    let ordered : IsOrdered c.args.self.now = subst IsOrdered c.self.view_is c.self.invariant in
    let is : c.count-place.result ≡ count_by (is_within false c.args.t.now) c.args.self.now = c.count-place.ensures ∙ ap (count_by (is_within false c.args.t.now)) c.self.view_is in
    let at : slice_get c.args.self.now c.count-place.result ≡ Some c.get.result.now = ap (λ xs. slice_get xs c.count-place.result) (sym c.self.view_is) ∙ c.get.ensures in
    found-at c.args.self.now c.args.t.now c.get.result.now c.count-place.result ordered is at (sym c.if-eq.ensures)

pub returns-else-place-len-clause-absent : goal.returns-else-place-len-clause-absent
returns-else-place-len-clause-absent c =
    let ordered : IsOrdered c.args.self.now = subst IsOrdered c.self.view_is c.self.invariant in
    let is : c.count-place.result ≡ count_by (is_within false c.args.t.now) c.args.self.now = c.count-place.ensures ∙ ap (count_by (is_within false c.args.t.now)) c.self.view_is in
    absent-at c.args.self.now c.args.t.now c.count-place.result ordered is (elim c.else-place-len.branch [
      | else-place-len-via-then-place-len+else-eq w ↦ λ l member at.
          let occurs : slice_get c.args.self.now c.count-place.result ≡ Some w.get.result.now = ap (λ xs. slice_get xs c.count-place.result) (sym c.self.view_is) ∙ w.get.ensures in
          let same : member ≡ w.get.result.now = cc in
          ap (λ m. same_tuple m c.args.t.now) same ∙ sym w.if-eq.ensures
      | else-place-len-via-else-place-len w ↦ λ l member at. absurd (omega (arith, w.if-place-len.false, c.len.ensures, ap length c.self.view_is, l))
    ])
