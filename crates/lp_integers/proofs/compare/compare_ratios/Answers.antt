-- Both are below 0 or neither is, and their magnitudes decide; or one is, and it is the lesser.
use Rattle.std.proofs.Common.{◌≡◌, ◌<◌, ◌*◌, ℕ, ℤ, true, false, pos, negsuc, ◌*ℤ◌, neg_ℤ, nat_abs, int_cmp, nat_cmp, refl, sym, ap, ap₂, ◌∙◌, subst, arith}
use Rattle.std.specs.Prelude.{◌<ℤ◌}
use Rattle.std.specs.Int.{w128}
use Rattle.std.specs.Int.Signed.{lt_z}
use Rattle.std.specs.Cmp.{int_cmp_is}
use Rattle.std.specs.declared.cmp.Ordering.{Ordering}
use Rattle.std.specs.declared.cmp.Ordering.TheVariants.{Less, Equal, Greater}
use Rattle.std.specs.Ordering.{MatchOrdering}
use Rattle.std.proofs.lemmas.Int.{ints, to_z-of_z}
use Rattle.std.proofs.lemmas.Cmp.{ranked}
use Rattle.lp_integers.proofs.Lines.{times_grow}
use Rattle.lp_integers.proofs.compare.compare_ratios.Goals as goal

-- a product in terms of the magnitude
times_below : (z : ℤ) (b : ℕ) → lt_z z (pos 0) ≡ true → z *ℤ pos b ≡ neg_ℤ (pos (nat_abs z * b))
times_below (pos n) b below = absurd (omega (arith, ints))
times_below (negsuc n) b below = refl

times_above : (z : ℤ) (b : ℕ) → lt_z z (pos 0) ≡ false → z *ℤ pos b ≡ pos (nat_abs z * b)
times_above (pos n) b above = refl
times_above (negsuc n) b above = absurd (cc)

some_below : (z : ℤ) → lt_z z (pos 0) ≡ true → 0 < nat_abs z
some_below (pos n) below = absurd (omega (arith, ints))
some_below (negsuc n) below = omega arith

cmp_above : (x y : ℕ) (o : Ordering) → o ≡ nat_cmp x y → o ≡ int_cmp (pos x) (pos y)
cmp_above x y o is = int_cmp_is (pos x) (pos y) o (go o (ranked x y o is))
  where
    go : (r : Ordering) → MatchOrdering r (x < y) (x ≡ y) (y < x) → MatchOrdering r (pos x <ℤ pos y) (pos x ≡ pos y) (pos y <ℤ pos x)
    go Less h = omega (arith, ints)
    go Equal h = ap pos h
    go Greater h = omega (arith, ints)

cmp_below : (x y : ℕ) (o : Ordering) → o ≡ nat_cmp y x → o ≡ int_cmp (neg_ℤ (pos x)) (neg_ℤ (pos y))
cmp_below x y o is = int_cmp_is (neg_ℤ (pos x)) (neg_ℤ (pos y)) o (go o (ranked y x o is))
  where
    go : (r : Ordering) → MatchOrdering r (y < x) (y ≡ x) (x < y) →
        MatchOrdering r (neg_ℤ (pos x) <ℤ neg_ℤ (pos y)) (neg_ℤ (pos x) ≡ neg_ℤ (pos y)) (neg_ℤ (pos y) <ℤ neg_ℤ (pos x))
    go Less h = omega (arith, ints)
    go Equal h = ap (λ n. neg_ℤ (pos n)) (sym h)
    go Greater h = omega (arith, ints)

lower : (m k : ℕ) → 0 < m → neg_ℤ (pos m) <ℤ pos k
lower m k some = omega (arith, ints)

product_some : (m b : ℕ) → 0 < m → 0 < b → 0 < m * b
product_some m b some also = let e = times_grow m b also in omega arith

module _ (r s : ℤ) (a b : ℕ) where
  both_below : (o : Ordering) → lt_z r (pos 0) ≡ true → lt_z s (pos 0) ≡ true → o ≡ nat_cmp (nat_abs s * a) (nat_abs r * b) →
      o ≡ int_cmp (r *ℤ pos b) (s *ℤ pos a)
  both_below o first second is = cmp_below (nat_abs r * b) (nat_abs s * a) o is ∙ ap₂ int_cmp (sym (times_below r b first)) (sym (times_below s a second))

  none_below : (o : Ordering) → lt_z r (pos 0) ≡ false → lt_z s (pos 0) ≡ false → o ≡ nat_cmp (nat_abs r * b) (nat_abs s * a) →
      o ≡ int_cmp (r *ℤ pos b) (s *ℤ pos a)
  none_below o first second is = cmp_above (nat_abs r * b) (nat_abs s * a) o is ∙ ap₂ int_cmp (sym (times_above r b first)) (sym (times_above s a second))

  first_below : 0 < b → lt_z r (pos 0) ≡ true → lt_z s (pos 0) ≡ false → Less ≡ int_cmp (r *ℤ pos b) (s *ℤ pos a)
  first_below some first second =
      int_cmp_is (neg_ℤ (pos (nat_abs r * b))) (pos (nat_abs s * a)) Less
      (lower (nat_abs r * b) (nat_abs s * a) (product_some (nat_abs r) b (some_below r first) some))
      ∙ ap₂ int_cmp (sym (times_below r b first)) (sym (times_above s a second))

  second_below : 0 < a → lt_z r (pos 0) ≡ false → lt_z s (pos 0) ≡ true → Greater ≡ int_cmp (r *ℤ pos b) (s *ℤ pos a)
  second_below some first second =
      int_cmp_is (pos (nat_abs r * b)) (neg_ℤ (pos (nat_abs s * a))) Greater
      (lower (nat_abs s * a) (nat_abs r * b) (product_some (nat_abs s) a (some_below s second) some))
      ∙ ap₂ int_cmp (sym (times_above r b first)) (sym (times_below s a second))

pub returns-then-s-lt0 : goal.returns-then-s-lt0
returns-then-s-lt0 c =
    let r_is = to_z-of_z w128 c.args.r c.ranges.r in
    let s_is = to_z-of_z w128 c.args.s c.ranges.s in
    both_below c.args.r c.args.s c.args.a c.args.b c.compare_magnitudes.result (subst (λ z. lt_z z (pos 0) ≡ true) r_is c.if-r-lt0.true)
    (subst (λ z. lt_z z (pos 0) ≡ true) s_is c.if-s-lt0.true)
    (c.compare_magnitudes.ensures
    ∙ ap₂ (λ x y. nat_cmp (x * c.args.a) (y * c.args.b)) (c.unsigned_abs-right.ensures.value ∙ ap nat_abs s_is)
    (c.unsigned_abs-left.ensures.value ∙ ap nat_abs r_is))

pub returns-else-s-lt0 : goal.returns-else-s-lt0
returns-else-s-lt0 c =
    let r_is = to_z-of_z w128 c.args.r c.ranges.r in
    let s_is = to_z-of_z w128 c.args.s c.ranges.s in
    first_below c.args.r c.args.s c.args.a c.args.b c.requires.second (subst (λ z. lt_z z (pos 0) ≡ true) r_is c.if-r-lt0.true)
    (subst (λ z. lt_z z (pos 0) ≡ false) s_is c.if-s-lt0.false)

pub returns-then-s-lt0-2 : goal.returns-then-s-lt0-2
returns-then-s-lt0-2 c =
    let r_is = to_z-of_z w128 c.args.r c.ranges.r in
    let s_is = to_z-of_z w128 c.args.s c.ranges.s in
    second_below c.args.r c.args.s c.args.a c.args.b c.requires.first (subst (λ z. lt_z z (pos 0) ≡ false) r_is c.if-r-lt0.false)
    (subst (λ z. lt_z z (pos 0) ≡ true) s_is c.if-s-lt0-2.true)

pub returns-else-s-lt0-2 : goal.returns-else-s-lt0-2
returns-else-s-lt0-2 c =
    let r_is = to_z-of_z w128 c.args.r c.ranges.r in
    let s_is = to_z-of_z w128 c.args.s c.ranges.s in
    none_below c.args.r c.args.s c.args.a c.args.b c.compare_magnitudes-else-s-lt0-2.result
    (subst (λ z. lt_z z (pos 0) ≡ false) r_is c.if-r-lt0.false) (subst (λ z. lt_z z (pos 0) ≡ false) s_is c.if-s-lt0-2.false)
    (c.compare_magnitudes-else-s-lt0-2.ensures
    ∙ ap₂ (λ x y. nat_cmp (x * c.args.b) (y * c.args.a)) (c.unsigned_abs-left.ensures.value ∙ ap nat_abs r_is)
    (c.unsigned_abs-right.ensures.value ∙ ap nat_abs s_is))
