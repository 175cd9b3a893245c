-- A member leaves the set as it is; another tuple goes to the place that its order has.
use Rattle.std.proofs.Common.{◌≡◌, ℕ, ◌+◌, ◌<◌, ◌≤◌, ◌∙◌, true, length, ap, not, refl, sym, subst, insert, arith}
use Rattle.std.proofs.lemmas.Bool.{both_ways}
use Rattle.std.proofs.lemmas.List.Sums.{count_by-le-length}
use Rattle.gms_tuple.specs.TupleOrder.{is_before, IsOrdered}
use Rattle.gms_tuple.specs.TupleSet.{has, inserted, count_before}
use Rattle.gms_tuple.proofs.Members.{has-place, inserted-known, has-inserted, insert-counted, IsOrdered-inserted}
use Rattle.gms_tuple.proofs.Steps.{no_value, not_ok, if_err}
use Rattle.gms_tuple.proofs.set.TupleSet.insert.Goals as goal

-- a number of 64 bits other than the greatest has a successor of 64 bits
more_fits : (n m : ℕ) → n ≡ m → n < 18446744073709551616 → (n ≡ 18446744073709551615 → ⊥) → m + 1 < 18446744073709551616
more_fits n m e fits other = omega arith

made-is : (c : goal.In_ok-insert) → c.insert.new.self ≡ inserted c.args.self.now c.args.t
made-is c =
    c.in_ok-insert.ensures.ok ∙ ap (λ xs. insert xs c.in-Err.place c.args.t) c.self.view_is ∙ ap (λ n. insert c.args.self.now n c.args.t) c.in-Err.ensures.absent.1
    ∙ insert-counted c.args.self.now c.args.t c.in-Err.ensures.ordered c.in-Err.ensures.absent.0

pub returns-in_default : goal.returns-in_default
returns-in_default c =
    let there : has c.args.self.now c.args.t ≡ true = has-place c.args.self.now c.args.t c.in_default.field-0 c.in_default.ensures.member in
    let same = inserted-known c.args.self.now c.args.t there in
    record {
      new = sym (ap not there);
      ok = same;
      err = tt;
      known = λ _. refl;
      members = λ other. ap (λ xs. has xs other) same ∙ has-inserted c.args.self.now c.args.t other;
      ordered = c.in_default.ensures.ordered;
    }

pub returns-then-len : goal.returns-then-len
returns-then-len c = record {
  new = tt;
  ok = tt;
  err = refl;
  known = λ there. absurd (both_ways (has c.args.self.now c.args.t) c.in-Err.ensures.absent.0 there);
  members = tt;
  ordered = c.in-Err.ensures.ordered;
}

pub insert-requires : goal.insert-requires
insert-requires c = record {
  place = subst (λ n. n ≤ length c.self.inside.line) (sym c.in-Err.ensures.absent.1) (subst (λ xs. count_before c.args.self.now c.args.t ≤ length xs) (sym c.self.view_is) (count_by-le-length (λ member. is_before member c.args.t) c.args.self.now));
  within_bound = more_fits c.len.result (length c.self.inside.line) c.len.ensures c.len.type_inv c.if-len.false;
}

pub invariant_of-self : goal.invariant_of-self
invariant_of-self c = subst IsOrdered (sym (c.in_err-insert.ensures.err ∙ c.self.view_is)) c.in-Err.ensures.ordered

pub returns-in_err-insert : goal.returns-in_err-insert
returns-in_err-insert c = record {
  new = no_value c.from_residual.result _ c.from_residual.ensures.0;
  ok = not_ok c.from_residual.result _ c.from_residual.ensures.0;
  err = if_err c.from_residual.result _ (c.in_err-insert.ensures.err ∙ c.self.view_is);
  known = λ there. absurd (both_ways (has c.args.self.now c.args.t) c.in-Err.ensures.absent.0 there);
  members = not_ok c.from_residual.result _ c.from_residual.ensures.0;
  ordered = invariant_of-self c;
}

pub invariant_of-self-2 : goal.invariant_of-self-2
invariant_of-self-2 c = subst IsOrdered (sym (made-is c)) (IsOrdered-inserted c.args.self.now c.args.t c.in-Err.ensures.ordered)

pub returns : goal.returns
returns c = record {
  new = sym (ap not c.in-Err.ensures.absent.0);
  ok = made-is c;
  err = tt;
  known = λ _. refl;
  members = λ other. ap (λ xs. has xs other) (made-is c) ∙ has-inserted c.args.self.now c.args.t other;
  ordered = invariant_of-self-2 c;
}
