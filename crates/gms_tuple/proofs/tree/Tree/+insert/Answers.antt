-- The tuple goes into the left side, the block or the right side; if memory runs out there, the
-- tree keeps its tuples.
use Rattle.std.proofs.Common.{◌≡◌, ℕ, ◌-◌, ◌+◌, ◌<◌, ◌≤◌, ◌++◌, ◌∷◌, [], ◌∙◌, zero, suc, List, Result, Ok, Err, OnOk, OnErr, Fits, w64, refl, sym, ap, subst, length, insert, arith}
use Rattle.std.specs.Vec.{vec_len}
use Rattle.std.proofs.lemmas.List.Edits.{length-insert}
use Rattle.std.proofs.lemmas.Result.{on_ok_weaker, on_err_weaker}
use Rattle.gms_tuple.specs.declared.tree.Fork.{Fork}
use Rattle.gms_tuple.specs.InnerTrees.{listed}
use Rattle.gms_tuple.proofs.Forks.{insert-left, insert-own, insert-right, length-block}
use Rattle.gms_tuple.proofs.Steps.{not_ok, if_err, fewer-part, fewer-part_right}
use Rattle.gms_tuple.proofs.tree.Tree.+insert.Goals as goal
use Rattle.gms_tuple.proofs.tree.Tree.+insert.Goals.{in-Less, in-Equal, in-Greater}

-- into no tuples, a tuple is inserted at any index
insert-none : (made all : List (List ℕ)) (n : ℕ) (t : List ℕ) → made ≡ t ∷ [] → [] ≡ all → made ≡ insert all n t
insert-none made all zero t is none = is ∙ ap (λ xs. insert xs zero t) none
insert-none made all (suc n) t is none = is ∙ ap (λ xs. insert xs (suc n) t) none

-- ---- sizes

fits_less : (n : ℕ) → n + 1 < 18446744073709551616 → n < 18446744073709551616
fits_less n bound = omega arith

-- an index in the block is an index of the whole without those to the left of it
in_block : (n before l m : ℕ) → before ≡ l → n ≤ l + m → n - before ≤ m
in_block n before l m is upto = omega arith

module _ (whole l m r : ℕ) (is : whole ≡ l + (m + r)) (bound : whole + 1 < 18446744073709551616) where
  left_bound : l + 1 < 18446744073709551616
  left_bound = omega arith

  right_bound : r + 1 < 18446744073709551616
  right_bound = omega arith

  upto_fits : (a b : ℕ) → a ≡ l → b ≡ m → Fits w64 (a + b)
  upto_fits a b p q = omega arith

from_upto : (n a b l m : ℕ) → a ≡ l → b ≡ m → l + m ≤ n → a + b ≤ n
from_upto n a b l m p q from = omega arith

right_place : (n a b whole l m r : ℕ) → whole ≡ l + (m + r) → n ≤ whole → a ≡ l → b ≡ m → n - (a + b) ≤ r
right_place n a b whole l m r is within p q = omega arith

-- one more tuple, or none if memory runs out
put_fits : {E : Type 0} (r : Result (Unit {0}) E) (xs ys : List (List ℕ)) (n : ℕ) (t : List ℕ) → OnOk r (xs ≡ insert ys n t) → OnErr r (xs ≡ ys) → n ≤ length ys → length ys + 1 < 18446744073709551616 → length xs < 18446744073709551616
put_fits (Ok u) xs ys n t ok err le bound = subst (λ k. k < 18446744073709551616) (sym (ap length ok ∙ length-insert ys n t le)) bound
put_fits (Err e) xs ys n t ok err le bound = subst (λ xs. length xs < 18446744073709551616) (sym err) (fits_less (length ys) bound)

-- ---- the tuples of the fork `h`, of which one part is written

abbrev Put : {E : Type 0} → Result (Unit {0}) E → Fork → List (List ℕ) → ℕ → List ℕ → Type 0
Put r h all place new = OnOk r (listed h ≡ insert all place new) × OnErr r (listed h ≡ all)

module _ {E : Type 0} (r s : Result (Unit {0}) E) (f g h : Fork) (all : List (List ℕ)) (place : ℕ) (new : List ℕ) (same : g ≡ f) (is : listed f ≡ all) (result : r ≡ s) where
  put-by : (part old done : List (List ℕ)) (wrap : List (List ℕ) → List (List ℕ)) → listed h ≡ wrap part → OnOk s (part ≡ done) → OnErr s (part ≡ old) → wrap old ≡ listed g → wrap done ≡ insert (listed f) place new → Put r h all place new
  put-by part old done wrap put ok err before after =
      subst (λ r. Put r h all place new) (sym result) (
        on_ok_weaker s (λ e. put ∙ ap wrap e ∙ after ∙ ap (λ xs. insert xs place new) is) ok,
        on_err_weaker s (λ e. put ∙ ap wrap e ∙ before ∙ ap listed same ∙ is) err,
      )

  put-left : (left : List (List ℕ)) → listed h ≡ left ++ (g.own.items ++ g.right) → OnOk s (left ≡ insert g.left place new) → OnErr s (left ≡ g.left) → place ≤ length f.left → Put r h all place new
  put-left left put ok err le =
      put-by left g.left (insert g.left place new) (λ left. left ++ (g.own.items ++ g.right)) put ok err refl
      (ap (λ (g : Fork). insert g.left place new ++ (g.own.items ++ g.right)) same ∙ sym (insert-left f.left f.own.items f.right place new le))

  put-own : (whole : List (List ℕ)) (before : ℕ) → before ≡ length f.left → listed h ≡ whole → OnOk s (whole ≡ g.left ++ (insert g.own.items (place - before) new ++ g.right)) → OnErr s (whole ≡ listed g) → length f.left ≤ place → place ≤ length f.left + length f.own.items → Put r h all place new
  put-own whole before counted put ok err from upto =
      put-by whole (listed g) (g.left ++ (insert g.own.items (place - before) new ++ g.right)) (λ whole. whole) put ok err refl
      (ap (λ (g : Fork). g.left ++ (insert g.own.items (place - before) new ++ g.right)) same
      ∙ ap (λ n. f.left ++ (insert f.own.items (place - n) new ++ f.right)) counted ∙ sym (insert-own f.left f.own.items f.right place new from upto))

  put-right : (right : List (List ℕ)) (upto : ℕ) → upto ≡ length f.left + length f.own.items → listed h ≡ g.left ++ (g.own.items ++ right) → OnOk s (right ≡ insert g.right (place - upto) new) → OnErr s (right ≡ g.right) → length f.left + length f.own.items ≤ place → Put r h all place new
  put-right right upto counted put ok err from =
      put-by right g.right (insert g.right (place - upto) new) (λ right. g.left ++ (g.own.items ++ right)) put ok err refl
      (ap (λ (g : Fork). g.left ++ (g.own.items ++ insert g.right (place - upto) new)) same
      ∙ ap (λ n. f.left ++ (f.own.items ++ insert f.right (place - n) new)) counted ∙ sym (insert-right f.left f.own.items f.right place new from))

-- ---- answers

pub returns-in_err-self : goal.returns-in_err-self
returns-in_err-self t c = record {
  ok = not_ok c.from_residual.result _ c.from_residual.ensures.0;
  err = if_err c.from_residual.result _ (c.take.ensures.none ∙ c.in_default.ensures.tuples ∙ c.take.ensures.all);
}

pub returns-in_default : goal.returns-in_default
returns-in_default t c = record {
  ok = insert-none c.in_ok-self.field-0 c.args.self.now c.args.place c.args.tuple c.in_ok-self.ensures (c.in_default.ensures.tuples ∙ c.take.ensures.all);
  err = tt;
}

pub side-requires : goal.side-requires
side-requires t c =
    subst (λ n. n < 18446744073709551616) (sym (ap (λ (g : Fork). length (listed g)) c.deref.ensures ∙ ap length (c.in-Fork.ensures.tuples ∙ c.take.ensures.all))) (fits_less (length c.args.self.now) c.requires.within_bound)

pub insert-put-requires : goal.insert-put-requires
insert-put-requires t c =
    let f = c.in-Fork.fork.value in
    let whole = ap length (sym (c.in-Fork.ensures.tuples ∙ c.take.ensures.all)) ∙ length-block f.left f.own.items f.right in
    let left = ap (λ (g : Fork). length g.left) c.deref_mut.ensures.value in (
      fewer-part t (length c.args.self.now) (length c.deref_mut.result.now.left) (length f.left) (length f.own.items) (length f.right) c.decreases whole c.in-Fork.ensures.counted.1 left,
      (
        subst (λ (g : Fork). c.args.place ≤ length g.left) (c.deref.ensures ∙ sym c.deref_mut.ensures.value) (c.side.ensures.left c.in-Less.is),
        subst (λ n. n + 1 < 18446744073709551616) (sym left) (left_bound (length c.args.self.now) (length f.left) (length f.own.items) (length f.right) whole c.requires.within_bound),
      ),
    )

pub overflow_sub-place : goal.overflow_sub-place
overflow_sub-place t c =
    subst (λ n. n ≤ c.args.place) (sym (c.len-before.ensures ∙ ap (λ (g : Fork). length g.left) (c.deref-in-Equal.ensures ∙ sym c.deref.ensures))) (c.side.ensures.own c.in-Equal.is).0

pub insert_own-put-requires : goal.insert_own-put-requires
insert_own-put-requires t c =
    let same = c.deref_mut-in-Equal.ensures.value in
    let before = c.len-before.ensures ∙ ap (λ (g : Fork). length g.left) (c.deref-in-Equal.ensures ∙ sym c.deref.ensures) in
    record {
      at = subst (λ (g : Fork). c.args.place - c.len-before.result ≤ length g.own.items) (c.deref.ensures ∙ sym same) (in_block c.args.place c.len-before.result (length c.deref.result.now.left) (length c.deref.result.now.own.items) before (c.side.ensures.own c.in-Equal.is).1);
      within_bound = subst (λ n. n + 1 < 18446744073709551616) (sym (ap (λ (g : Fork). length (listed g)) same ∙ ap length (c.in-Fork.ensures.tuples ∙ c.take.ensures.all))) c.requires.within_bound;
    }

pub overflow_add-upto : goal.overflow_add-upto
overflow_add-upto t c =
    let f = c.in-Fork.fork.value in
    let whole = ap length (sym (c.in-Fork.ensures.tuples ∙ c.take.ensures.all)) ∙ length-block f.left f.own.items f.right in
    let left = c.len.ensures ∙ ap (λ (g : Fork). length g.left) c.deref-in-Greater.ensures in
    let own = c.len-in-Greater.ensures ∙ ap (λ (g : Fork). vec_len g.own) c.deref-in-Greater-2.ensures ∙ c.in-Fork.fork.value.own.ok.0 in
    upto_fits (length c.args.self.now) (length f.left) (length f.own.items) (length f.right) whole c.requires.within_bound c.len.result c.len-in-Greater.result left own

pub overflow_sub-place-in-Greater : goal.overflow_sub-place-in-Greater
overflow_sub-place-in-Greater t c =
    let left = c.len.ensures ∙ ap (λ (g : Fork). length g.left) c.deref-in-Greater.ensures in
    let own = c.len-in-Greater.ensures ∙ ap (λ (g : Fork). vec_len g.own) c.deref-in-Greater-2.ensures ∙ c.in-Fork.fork.value.own.ok.0 in
    from_upto c.args.place c.len.result c.len-in-Greater.result _ _ left own (subst (λ (g : Fork). length g.left + length g.own.items ≤ c.args.place) c.deref.ensures (c.side.ensures.right c.in-Greater.is))

pub insert-put-requires-in-Greater : goal.insert-put-requires-in-Greater
insert-put-requires-in-Greater t c =
    let f = c.in-Fork.fork.value in
    let whole = ap length (sym (c.in-Fork.ensures.tuples ∙ c.take.ensures.all)) ∙ length-block f.left f.own.items f.right in
    let right = ap (λ (g : Fork). length g.right) c.deref_mut-in-Greater.ensures.value in
    let left = c.len.ensures ∙ ap (λ (g : Fork). length g.left) c.deref-in-Greater.ensures in
    let own = c.len-in-Greater.ensures ∙ ap (λ (g : Fork). vec_len g.own) c.deref-in-Greater-2.ensures ∙ c.in-Fork.fork.value.own.ok.0 in (
      fewer-part_right t (length c.args.self.now) (length c.deref_mut-in-Greater.result.now.right) (length f.left) (length f.own.items) (length f.right) c.decreases whole c.in-Fork.ensures.counted.1 right,
      (
        subst (λ n. c.args.place - (c.len.result + c.len-in-Greater.result) ≤ n) (sym right) (right_place c.args.place c.len.result c.len-in-Greater.result (length c.args.self.now) (length f.left) (length f.own.items) (length f.right) whole c.requires.place left own),
        subst (λ n. n + 1 < 18446744073709551616) (sym right) (right_bound (length c.args.self.now) (length f.left) (length f.own.items) (length f.right) whole c.requires.within_bound),
      ),
    )

pub made-requires : goal.made-requires
made-requires t c =
    let f = c.in-Fork.fork.value in
    let is : listed f ≡ c.args.self.now = c.in-Fork.ensures.tuples ∙ c.take.ensures.all in
    let put : Put c.match-side.put c.match-side.fork.value c.args.self.now c.args.place c.args.tuple = elim c.match-side.branch [
      | in-Less w ↦
          put-left c.match-side.put w.insert-put.result f w.deref_mut.result.now c.match-side.fork.value c.args.self.now c.args.place c.args.tuple w.deref_mut.ensures.value is w.put-is w.insert-put.new.self (ap (λ g. listed g.value) w.fork-is)
          w.insert-put.ensures.ok w.insert-put.ensures.err (subst (λ (g : Fork). c.args.place ≤ length g.left) c.deref.ensures (c.side.ensures.left w.in-Less.is))
      | in-Equal w ↦
          let at = c.side.ensures.own w.in-Equal.is in
          put-own c.match-side.put w.insert_own-put.result f w.deref_mut-in-Equal.result.now c.match-side.fork.value c.args.self.now c.args.place c.args.tuple w.deref_mut-in-Equal.ensures.value is w.put-is (listed w.insert_own-put.new.self) w.len-before.result
          (w.len-before.ensures ∙ ap (λ (g : Fork). length g.left) w.deref-in-Equal.ensures) (ap (λ g. listed g.value) w.fork-is) w.insert_own-put.ensures.ok w.insert_own-put.ensures.err
          (subst (λ (g : Fork). length g.left ≤ c.args.place) c.deref.ensures at.0) (subst (λ (g : Fork). c.args.place ≤ length g.left + length g.own.items) c.deref.ensures at.1)
      | in-Greater w ↦
          let left = w.len.ensures ∙ ap (λ (g : Fork). length g.left) w.deref-in-Greater.ensures in
          let own = w.len-in-Greater.ensures ∙ ap (λ (g : Fork). vec_len g.own) w.deref-in-Greater-2.ensures ∙ f.own.ok.0 in
          put-right c.match-side.put w.insert-put-in-Greater.result f w.deref_mut-in-Greater.result.now c.match-side.fork.value c.args.self.now c.args.place c.args.tuple w.deref_mut-in-Greater.ensures.value is w.put-is w.insert-put-in-Greater.new.self (w.len.result + w.len-in-Greater.result)
          (ap (λ n. n + w.len-in-Greater.result) left ∙ ap (λ n. length f.left + n) own) (ap (λ g. listed g.value) w.fork-is) w.insert-put-in-Greater.ensures.ok w.insert-put-in-Greater.ensures.err
          (subst (λ (g : Fork). length g.left + length g.own.items ≤ c.args.place) c.deref.ensures (c.side.ensures.right w.in-Greater.is))
    ] in
    put_fits c.match-side.put (listed c.match-side.fork.value) c.args.self.now c.args.place c.args.tuple put.0 put.1 c.requires.place c.requires.within_bound

pub returns : goal.returns
returns t c =
    let f = c.in-Fork.fork.value in
    let is : listed f ≡ c.args.self.now = c.in-Fork.ensures.tuples ∙ c.take.ensures.all in
    let put : Put c.match-side.put c.match-side.fork.value c.args.self.now c.args.place c.args.tuple = elim c.match-side.branch [
      | in-Less w ↦
          put-left c.match-side.put w.insert-put.result f w.deref_mut.result.now c.match-side.fork.value c.args.self.now c.args.place c.args.tuple w.deref_mut.ensures.value is w.put-is w.insert-put.new.self (ap (λ g. listed g.value) w.fork-is)
          w.insert-put.ensures.ok w.insert-put.ensures.err (subst (λ (g : Fork). c.args.place ≤ length g.left) c.deref.ensures (c.side.ensures.left w.in-Less.is))
      | in-Equal w ↦
          let at = c.side.ensures.own w.in-Equal.is in
          put-own c.match-side.put w.insert_own-put.result f w.deref_mut-in-Equal.result.now c.match-side.fork.value c.args.self.now c.args.place c.args.tuple w.deref_mut-in-Equal.ensures.value is w.put-is (listed w.insert_own-put.new.self) w.len-before.result
          (w.len-before.ensures ∙ ap (λ (g : Fork). length g.left) w.deref-in-Equal.ensures) (ap (λ g. listed g.value) w.fork-is) w.insert_own-put.ensures.ok w.insert_own-put.ensures.err
          (subst (λ (g : Fork). length g.left ≤ c.args.place) c.deref.ensures at.0) (subst (λ (g : Fork). c.args.place ≤ length g.left + length g.own.items) c.deref.ensures at.1)
      | in-Greater w ↦
          let left = w.len.ensures ∙ ap (λ (g : Fork). length g.left) w.deref-in-Greater.ensures in
          let own = w.len-in-Greater.ensures ∙ ap (λ (g : Fork). vec_len g.own) w.deref-in-Greater-2.ensures ∙ f.own.ok.0 in
          put-right c.match-side.put w.insert-put-in-Greater.result f w.deref_mut-in-Greater.result.now c.match-side.fork.value c.args.self.now c.args.place c.args.tuple w.deref_mut-in-Greater.ensures.value is w.put-is w.insert-put-in-Greater.new.self (w.len.result + w.len-in-Greater.result)
          (ap (λ n. n + w.len-in-Greater.result) left ∙ ap (λ n. length f.left + n) own) (ap (λ g. listed g.value) w.fork-is) w.insert-put-in-Greater.ensures.ok w.insert-put-in-Greater.ensures.err
          (subst (λ (g : Fork). length g.left + length g.own.items ≤ c.args.place) c.deref.ensures (c.side.ensures.right w.in-Greater.is))
    ] in
    record {
      ok = on_ok_weaker c.match-side.put (λ e. c.made.ensures ∙ e) put.0;
      err = on_err_weaker c.match-side.put (λ e. c.made.ensures ∙ e) put.1;
    }
