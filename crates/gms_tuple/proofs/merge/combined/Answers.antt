use Rattle.std.proofs.Common.{◌≡◌, ◌∙◌, ◌+◌, ◌-◌, ◌*◌, ◌<◌, ◌≤◌, ◌++◌, ◌∷◌, [], ℕ, Bool, cond, not, true, false, List, Fits, w64, refl, sym, ap, subst, length, get_or, take, drop, arith}
use Rattle.std.specs.declared.cmp.Ordering.{Ordering}
use Rattle.std.specs.declared.cmp.Ordering.TheVariants.{Less, Equal, Greater}
use Rattle.std.specs.Ordering.{is_lt, is_gt}
use Rattle.std.proofs.lemmas.List.{take_rest, length-drop}
use mir.Val.{bool_byte}
use Rattle.gms_tuple.specs.TupleOrder.{tuple_cmp, IsOrdered}
use Rattle.gms_tuple.specs.InnerOperations.{takes, turn}
use Rattle.gms_tuple.specs.declared.merge.Operation.{Operation}
use Rattle.gms_tuple.proofs.Combined.{IsTraversed, combine, IsTraversed-all, IsTraversed-turn, turn-within, turn-other, first-of-rest, has-combine, IsOrdered-combine, one_if}
use Rattle.gms_tuple.proofs.Steps.{no_value}
use Rattle.gms_tuple.proofs.merge.combined.Goals as goal
use Rattle.gms_tuple.proofs.merge.combined.Goals.{then-i-first, else-i-first+then-j-second, then-in_first, else-in_first, then-takes+in_ok-copy+in_ok-push, else-takes}

-- ---- a turn, as numbers

none-within : (n : ℕ) → 0 ≤ n
none-within n = omega arith

before-end : (i n k : ℕ) → k ≡ 1 → k ≤ n - i → i < n
before-end i n k one within = omega arith

before-end_some : (i n : ℕ) → 0 < n - i → i < n
before-end_some i n some = omega arith

some-first : (i n m : ℕ) → i < n → 0 < n - i + m
some-first i n m l = omega arith

some-second : (j m n : ℕ) → j < m → 0 < n + (m - j)
some-second j m n l = omega arith

-- what is left of two lists gets shorter by what a turn takes
less-left : (i j n m a b p q : ℕ) → a ≤ n - i → b ≤ m - j → 0 < a + b → p ≡ a → q ≡ b → n - (i + p) + (m - (j + q)) < n - i + (m - j)
less-left i j n m a b p q first second some e f = omega arith

-- an index within a slice of elements of 32 bytes, as an offset and as a number
offset_fits : (i n : ℕ) → i ≤ n → n * 32 < 9223372036854775808 → Fits w64 (i * 32)
offset_fits i n within bound = omega arith

next_fits : (i n a p : ℕ) → p ≡ a → a ≤ n - i → i ≤ n → n < 18446744073709551616 → Fits w64 (i + p)
next_fits i n a p e within upto bound = omega arith

byte-is : (b : Bool) → bool_byte b ≡ one_if b
byte-is true = refl
byte-is false = refl

-- a turn takes the first tuple of a list, if either has one
turn-some : (xs ys : List (List ℕ)) → 0 < length xs + length ys → 0 < one_if (turn xs ys).0 + one_if (turn xs ys).1
turn-some [] [] some = some
turn-some (x ∷ xs) [] some = omega arith
turn-some [] (y ∷ ys) some = omega arith
turn-some (x ∷ xs) (y ∷ ys) some = by (tuple_cmp x y)
  where
    by : (o : Ordering) → 0 < one_if (not (is_gt o)) + one_if (not (is_lt o))
    by Less = omega arith
    by Equal = omega arith
    by Greater = omega arith

module _ (first second : List (List ℕ)) (i j : ℕ) (turns : Bool × Bool) (is : turns ≡ turn (take (length first - i) (drop i first)) (take (length second - j) (drop j second))) where
  turn-rest : turns ≡ turn (drop i first) (drop j second)
  turn-rest = is ∙ ap (λ xs. turn xs (take (length second - j) (drop j second))) (take_rest first i) ∙ ap (turn (drop i first)) (take_rest second j)

  first-left : one_if turns.0 ≤ length first - i
  first-left = subst (λ n. one_if turns.0 ≤ n) (length-drop i first) (subst (λ turns. one_if turns.0 ≤ length (drop i first)) (sym turn-rest) (turn-within (drop i first) (drop j second)).0)

  second-left : one_if turns.1 ≤ length second - j
  second-left = subst (λ n. one_if turns.1 ≤ n) (length-drop j second) (subst (λ turns. one_if turns.1 ≤ length (drop j second)) (sym turn-rest) (turn-within (drop i first) (drop j second)).1)

  module _ (some : 0 < length first - i + (length second - j)) where
    some-rest : 0 < length (drop i first) + length (drop j second)
    some-rest = subst (λ n. 0 < n + length (drop j second)) (sym (length-drop i first)) (subst (λ m. 0 < length first - i + m) (sym (length-drop j second)) some)

    other-left : turns.0 ≡ false → j < length second
    other-left past = before-end_some j (length second) (subst (λ m. 0 < m) (length-drop j second) (turn-other (drop i first) (drop j second) some-rest (ap (λ (turns : Bool × Bool). turns.0) (sym turn-rest) ∙ past)))

    turn-smaller : (p q : ℕ) → p ≡ bool_byte turns.0 → q ≡ bool_byte turns.1 → length first - (i + p) + (length second - (j + q)) < length first - i + (length second - j)
    turn-smaller p q e f =
        less-left i j (length first) (length second) (one_if turns.0) (one_if turns.1) p q first-left second-left
        (subst (λ turns. 0 < one_if turns.0 + one_if turns.1) (sym turn-rest) (turn-some (drop i first) (drop j second) some-rest)) (e ∙ byte-is turns.0) (f ∙ byte-is turns.1)

IsTraversed-none : (op : Operation) (first second made : List (List ℕ)) → made ≡ [] → IsTraversed op first second made 0 0
IsTraversed-none op first second made none = record {
  first_in = none-within (length first);
  second_in = none-within (length second);
  whole = ap (λ xs. xs ++ combine op first second) none;
}

-- ---- answers

pub loop-i-init : goal.loop-i-init
loop-i-init c = IsTraversed-none c.args.operation c.args.first.now c.args.second.now c.new-made.result.items c.new-made.ensures.items

pub offset_bounds-first-i : goal.offset_bounds-first-i
offset_bounds-first-i c = offset_fits c.loop-i.i (length c.args.first.now) c.loop-i.invariant.first_in c.well_formed.1.1.0.1

pub offset_bounds-second-j : goal.offset_bounds-second-j
offset_bounds-second-j c = offset_fits c.loop-i.j (length c.args.second.now) c.loop-i.invariant.second_in c.well_formed.1.1.1.0.1

pub offset_bounds-first-i-then-in_first : goal.offset_bounds-first-i-then-in_first
offset_bounds-first-i-then-in_first c = offset_fits c.loop-i.i (length c.args.first.now) c.loop-i.invariant.first_in c.well_formed.1.1.0.1

pub offset_bounds-second-j-else-in_first : goal.offset_bounds-second-j-else-in_first
offset_bounds-second-j-else-in_first c = offset_fits c.loop-i.j (length c.args.second.now) c.loop-i.invariant.second_in c.well_formed.1.1.1.0.1

pub slice_bounds-turn-count : goal.slice_bounds-turn-count
slice_bounds-turn-count c = c.loop-i.invariant.first_in

pub slice_bounds-turn-count-in-loop-i : goal.slice_bounds-turn-count-in-loop-i
slice_bounds-turn-count-in-loop-i c = c.loop-i.invariant.second_in

pub bounds-first-i : goal.bounds-first-i
bounds-first-i c =
    before-end c.loop-i.i (length c.args.first.now) (one_if c.turn-in_first.result.0) (ap one_if c.if-in_first.true) (first-left c.args.first.now c.args.second.now c.loop-i.i c.loop-i.j c.turn-in_first.result c.turn-in_first.ensures)

pub bounds-second-j : goal.bounds-second-j
bounds-second-j c =
    let n = length c.args.first.now in
    let m = length c.args.second.now in
    let some : 0 < n - c.loop-i.i + (m - c.loop-i.j) = elim c.if-i-first.branch [
      | then-i-first w ↦ some-first c.loop-i.i n (m - c.loop-i.j) w.if-i-first.true
      | else-i-first+then-j-second w ↦ some-second c.loop-i.j m (n - c.loop-i.i) w.if-j-second.true
    ] in
    other-left c.args.first.now c.args.second.now c.loop-i.i c.loop-i.j c.turn-in_first.result c.turn-in_first.ensures some c.if-in_first.false

pub overflow_add-i : goal.overflow_add-i
overflow_add-i c =
    next_fits c.loop-i.i (length c.args.first.now) (one_if c.turn-in_first.result.0) c.from.result (c.from.ensures ∙ byte-is c.turn-in_first.result.0)
    (first-left c.args.first.now c.args.second.now c.loop-i.i c.loop-i.j c.turn-in_first.result c.turn-in_first.ensures) c.loop-i.invariant.first_in c.well_formed.1.1.0.0

pub overflow_add-j : goal.overflow_add-j
overflow_add-j c =
    next_fits c.loop-i.j (length c.args.second.now) (one_if c.turn-in_first.result.1) c.from-in-loop-i.result (c.from-in-loop-i.ensures ∙ byte-is c.turn-in_first.result.1)
    (second-left c.args.first.now c.args.second.now c.loop-i.i c.loop-i.j c.turn-in_first.result c.turn-in_first.ensures) c.loop-i.invariant.second_in c.well_formed.1.1.1.0.0

pub returns-in_err-copy : goal.returns-in_err-copy
returns-in_err-copy c = record {
  members = no_value c.from_residual.result _ c.from_residual.ensures.0;
  ordered = no_value c.from_residual.result (λ made. IsOrdered made.items) c.from_residual.ensures.0;
}

pub returns-in_err-push : goal.returns-in_err-push
returns-in_err-push c = record {
  members = no_value c.from_residual-in_err-push.result _ c.from_residual-in_err-push.ensures.0;
  ordered = no_value c.from_residual-in_err-push.result (λ made. IsOrdered made.items) c.from_residual-in_err-push.ensures.0;
}

pub loop-i-smaller : goal.loop-i-smaller
loop-i-smaller c =
    let n = length c.args.first.now in
    let m = length c.args.second.now in
    let some : 0 < n - c.loop-i.i + (m - c.loop-i.j) = elim c.if-i-first.branch [
      | then-i-first w ↦ some-first c.loop-i.i n (m - c.loop-i.j) w.if-i-first.true
      | else-i-first+then-j-second w ↦ some-second c.loop-i.j m (n - c.loop-i.i) w.if-j-second.true
    ] in
    turn-smaller c.args.first.now c.args.second.now c.loop-i.i c.loop-i.j c.turn-in_first.result c.turn-in_first.ensures some c.from.result c.from-in-loop-i.result c.from.ensures c.from-in-loop-i.ensures

pub returns-clause-members : goal.returns-clause-members
returns-clause-members c =
    let made = IsTraversed-all c.args.operation c.args.first.now c.args.second.now c.loop-i.made.items c.loop-i.i c.loop-i.j c.if-i-first.false c.if-j-second.false c.loop-i.invariant in
    λ t. rw made (has-combine c.args.operation c.args.first.now c.args.second.now t)

pub returns-clause-ordered : goal.returns-clause-ordered
returns-clause-ordered c =
    let made = IsTraversed-all c.args.operation c.args.first.now c.args.second.now c.loop-i.made.items c.loop-i.i c.loop-i.j c.if-i-first.false c.if-j-second.false c.loop-i.invariant in
    rw made (IsOrdered-combine c.args.operation c.args.first.now c.args.second.now c.requires.first)

pub loop-i-preserved : goal.loop-i-preserved
loop-i-preserved c =
    let xs = drop c.loop-i.i c.args.first.now in
    let ys = drop c.loop-i.j c.args.second.now in
    let n = length-drop c.loop-i.i c.args.first.now in
    let m = length-drop c.loop-i.j c.args.second.now in
    let some : 0 < length xs + length ys = elim c.if-i-first.branch [
      | then-i-first w ↦ (let l = w.if-i-first.true in omega arith)
      | else-i-first+then-j-second w ↦ (let l = w.if-j-second.true in omega arith)
    ] in
    let turned : c.turn-in_first.result ≡ turn xs ys = c.turn-in_first.ensures ∙ ap (λ zs. turn zs (take (length c.args.second.now - c.loop-i.j) ys)) (take_rest c.args.first.now c.loop-i.i) ∙ ap (turn xs) (take_rest c.args.second.now c.loop-i.j) in
    let in_first : one_if c.turn-in_first.result.0 ≤ length xs = subst (λ turns. one_if turns.0 ≤ length xs) (sym turned) (turn-within xs ys).0 in
    let next : c.if-in_first.next.now ≡ cond c.turn-in_first.result.0 (get_or xs 0 []) (get_or ys 0 []) = elim c.if-in_first.branch [
      | then-in_first w ↦
          (let t : c.turn-in_first.result.0 ≡ true = w.if-in_first.true in
          let one = ap one_if t in
          let l : c.loop-i.i < length c.args.first.now = omega (arith, in_first, one, n) in
          ap (λ (r : _). r.now) w.next-is ∙ first-of-rest c.args.first.now c.loop-i.i w.index-first-i.result l w.index-first-i.is ∙ sym (ap (λ b. cond b (get_or xs 0 []) (get_or ys 0 [])) t))
      | else-in_first w ↦
          (let t : c.turn-in_first.result.0 ≡ false = w.if-in_first.false in
          let other = turn-other xs ys some (ap (λ (turns : Bool × Bool). turns.0) (sym turned) ∙ t) in
          let l : c.loop-i.j < length c.args.second.now = omega (arith, other, m) in
          ap (λ (r : _). r.now) w.next-is ∙ first-of-rest c.args.second.now c.loop-i.j w.index-second-j.result l w.index-second-j.is ∙ sym (ap (λ b. cond b (get_or xs 0 []) (get_or ys 0 [])) t))
    ] in
    let more = c.loop-i.made.items ++ c.if-in_first.next.now ∷ [] in
    let pushed : c.if-takes.made.items ≡ cond (takes c.args.operation c.turn-in_first.result.0 c.turn-in_first.result.1) more c.loop-i.made.items = elim c.if-takes.branch [
      | then-takes+in_ok-copy+in_ok-push w ↦
          ap (λ (made : _). made.items) w.made-is ∙ w.in_ok-push.ensures.items ∙ ap (λ t. c.loop-i.made.items ++ t ∷ []) w.in_ok-copy.ensures
          ∙ sym (ap (λ b. cond b more c.loop-i.made.items) (sym c.takes.ensures ∙ w.if-takes.true))
      | else-takes w ↦ ap (λ (made : _). made.items) w.made-is ∙ sym (ap (λ b. cond b more c.loop-i.made.items) (sym c.takes.ensures ∙ w.if-takes.false))
    ] in
    IsTraversed-turn c.args.operation c.args.first.now c.args.second.now c.loop-i.made.items c.loop-i.i c.loop-i.j c.turn-in_first.result c.if-in_first.next.now c.if-takes.made.items (c.loop-i.i + c.from.result) (c.loop-i.j + c.from-in-loop-i.result) c.requires.first c.requires.second c.loop-i.invariant some turned next pushed
    (ap (λ n. c.loop-i.i + n) (c.from.ensures ∙ byte-is c.turn-in_first.result.0)) (ap (λ n. c.loop-i.j + n) (c.from-in-loop-i.ensures ∙ byte-is c.turn-in_first.result.1))
