-- The laws of the order, and of sums and products under it.
use Rattle.std.proofs.Common.{◌≡◌, ◌≢◌, ◌↔◌, ℕ, ◌+◌, ◌*◌, ◌<◌, ◌≤◌, ℤ, pos, ◌*ℤ◌, ◌≤ℤ◌, ◌<ℤ◌, ◌⊎◌, inl, inr, sym, ap, ◌∙◌, subst, subst₂, arith, mul-pos, mul_comm, mul-le-mul_right}
use Rattle.std.proofs.lemmas.Int.{ints, by_lt_z}
use Rattle.std.proofs.Math.Nat.{le_of_mul-le-mul_right}
use Rattle.gq_number.specs.Number.{Number, whole, ◌+ℚ◌, ◌-ℚ◌, neg_ℚ}
use Rattle.gq_number.specs.Order.{◌≤ℚ◌, ◌<ℚ◌}
use Rattle.gq_number.proofs.Whole.{Less, from_less, less_pos, reads, less-+ℤ, less-*ℤ}
use Rattle.gq_number.proofs.Means.{Means, means_itself, number_from_cross}
use Rattle.gq_number.proofs.Field.{+ℚ_comm, -ℚ_is, means-+ℚ}
use Rattle.gq_number.proofs.Ring.{ring_ℚ, back, neg_neg, zero-+ℚ}

-- ---- whole numbers

pub le_out : {z w : ℤ} {p n q m : ℕ} → Less z p n → Less w q m → z ≤ℤ w → p + m ≤ q + n
le_out x y h = let f = x.adds in let g = y.adds in omega (arith, ints)

pub le_in : {z w : ℤ} {p n q m : ℕ} → Less z p n → Less w q m → p + m ≤ q + n → z ≤ℤ w
le_in x y h = let f = x.adds in let g = y.adds in omega (arith, ints)

pub lt_in : {z w : ℤ} {p n q m : ℕ} → Less z p n → Less w q m → p + m < q + n → z <ℤ w
lt_in x y h = let f = x.adds in let g = y.adds in omega (arith, ints)

-- a factor above 0 on both sides
pub times_le : (a b : ℤ) (k : ℕ) → a ≤ℤ b → (a *ℤ pos k) ≤ℤ (b *ℤ pos k)
times_le a b k h =
    let x = reads a in let y = reads b in
    le_in (less-*ℤ x.2 (less_pos k)) (less-*ℤ y.2 (less_pos k)) (omega (arith, mul-le-mul_right k (le_out x.2 y.2 h)))

grouped : (p n q m k : ℕ) → p * k + n * 0 + (q * 0 + m * k) ≤ q * k + m * 0 + (p * 0 + n * k) → (p + m) * k ≤ (q + n) * k
grouped p n q m k h = omega arith

pub cancel_le : (a b : ℤ) (k : ℕ) → 0 < k → (a *ℤ pos k) ≤ℤ (b *ℤ pos k) → a ≤ℤ b
cancel_le a b k pos_k h =
    let x = reads a in let y = reads b in
    le_in x.2 y.2 (le_of_mul-le-mul_right (grouped x.0 x.1 y.0 y.1 k (le_out (less-*ℤ x.2 (less_pos k)) (less-*ℤ y.2 (less_pos k)) h)) pos_k)

-- ---- the order of two fractions

turn : (a : ℤ) (f d e : ℕ) → a *ℤ pos f *ℤ pos (d * e) ≡ a *ℤ pos d *ℤ pos (f * e)
turn a f d e =
    let x = reads a in
    from_less (less-*ℤ (less-*ℤ x.2 (less_pos f)) (less_pos (d * e))) (less-*ℤ (less-*ℤ x.2 (less_pos d)) (less_pos (f * e))) (omega arith)

turn_back : (n : ℤ) (c f e : ℕ) → n *ℤ pos c *ℤ pos (f * e) ≡ n *ℤ pos e *ℤ pos (c * f)
turn_back n c f e =
    let x = reads n in
    from_less (less-*ℤ (less-*ℤ x.2 (less_pos c)) (less_pos (f * e))) (less-*ℤ (less-*ℤ x.2 (less_pos e)) (less_pos (c * f))) (omega arith)

regrouped : (a n : ℤ) (c f d e : ℕ) → a *ℤ pos d ≡ n *ℤ pos c → a *ℤ pos f *ℤ pos (d * e) ≡ n *ℤ pos e *ℤ pos (c * f)
regrouped a n c f d e h = turn a f d e ∙ ap (λ z. z *ℤ pos (f * e)) h ∙ turn_back n c f e

swapped : (a : ℤ) (m n : ℕ) → a *ℤ pos (m * n) ≡ a *ℤ pos (n * m)
swapped a m n = ap (λ k. a *ℤ pos k) (mul_comm m n)

-- each of the two orders from the other
pub means_le : {x y : Number} {n m : ℤ} {d e : ℕ} → Means x n d → Means y m e → (n *ℤ pos e) ≤ℤ (m *ℤ pos d) → x ≤ℚ y
means_le {x} {y} {n} {m} {d} {e} p q h =
    let c = x.denominator in let f = y.denominator in
    record {
      cross = cancel_le _ _ (d * e) (mul-pos p.positive q.positive) (subst₂ (λ z w. z ≤ℤ w)
          (sym (regrouped x.numerator n c f d e p.cross))
          (sym (swapped (y.numerator *ℤ pos c) d e ∙ regrouped y.numerator m f c e d q.cross ∙ swapped (m *ℤ pos d) f c))
          (times_le (n *ℤ pos e) (m *ℤ pos d) (c * f) h));
    }

pub le_means : {x y : Number} {n m : ℤ} {d e : ℕ} → Means x n d → Means y m e → x ≤ℚ y → (n *ℤ pos e) ≤ℤ (m *ℤ pos d)
le_means {x} {y} {n} {m} {d} {e} p q h =
    let c = x.denominator in let f = y.denominator in
    cancel_le _ _ (c * f) (mul-pos x.reduced.positive y.reduced.positive) (subst₂ (λ z w. z ≤ℤ w)
    (regrouped x.numerator n c f d e p.cross)
    (swapped (y.numerator *ℤ pos c) d e ∙ regrouped y.numerator m f c e d q.cross ∙ swapped (m *ℤ pos d) f c)
    (times_le (x.numerator *ℤ pos f) (y.numerator *ℤ pos c) (d * e) h.cross))

-- ---- an order

pub ≤ℚ_refl : (x : Number) → x ≤ℚ x
≤ℚ_refl x = record { cross = omega (arith, ints) }

pub ≤ℚ_from_≡ : (x y : Number) → x ≡ y → x ≤ℚ y
≤ℚ_from_≡ x y e = subst (λ z. x ≤ℚ z) e (≤ℚ_refl x)

pub ≤ℚ_antisymm : (x y : Number) → x ≤ℚ y → y ≤ℚ x → x ≡ y
≤ℚ_antisymm x y h k =
    number_from_cross x y (let f = h.cross in let g = k.cross in omega (arith, ints))

-- of two numbers one is at most the other, or above it
pub ≤ℚ_or_above : (x y : Number) → (x ≤ℚ y) ⊎ (y <ℚ x)
≤ℚ_or_above x y =
    by_lt_z (y.numerator *ℤ pos x.denominator) (x.numerator *ℤ pos y.denominator) (λ h. inr (record { cross = h })) (λ h. inl (record { cross = h }))

pub ≤ℚ_from_<ℚ : (x y : Number) → x <ℚ y → x ≤ℚ y
≤ℚ_from_<ℚ x y h = record { cross = let f = h.cross in omega (arith, ints) }

pub ≤ℚ_total : (x y : Number) → (x ≤ℚ y) ⊎ (y ≤ℚ x)
≤ℚ_total x y = elim (≤ℚ_or_above x y) [ inl h ↦ inl h | inr h ↦ inr (≤ℚ_from_<ℚ y x h) ]

pub not_above : (x y : Number) → x ≤ℚ y → ¬ (y <ℚ x)
not_above x y h k = let f = h.cross in let g = k.cross in omega (arith, ints)

pub means_lt : {x y : Number} {n m : ℤ} {d e : ℕ} → Means x n d → Means y m e → (n *ℤ pos e) <ℤ (m *ℤ pos d) → x <ℚ y
means_lt {x} {y} p q h =
    elim (≤ℚ_or_above y x) [ inl k ↦ absurd (let l = le_means q p k in omega (arith, ints)) | inr k ↦ k ]

pub lt_means : {x y : Number} {n m : ℤ} {d e : ℕ} → Means x n d → Means y m e → x <ℚ y → (n *ℤ pos e) <ℤ (m *ℤ pos d)
lt_means {x} {y} {n} {m} {d} {e} p q h =
    by_lt_z (n *ℤ pos e) (m *ℤ pos d) (λ l. l) (λ l. absurd (not_above y x (means_le q p l) h))

pub ≤ℚ_from_not_above : (x y : Number) → ¬ (y <ℚ x) → x ≤ℚ y
≤ℚ_from_not_above x y h = elim (≤ℚ_or_above x y) [ inl k ↦ k | inr k ↦ absurd (h k) ]

pub <ℚ_from_not_≤ℚ : (x y : Number) → ¬ (y ≤ℚ x) → x <ℚ y
<ℚ_from_not_≤ℚ x y h = elim (≤ℚ_or_above y x) [ inl k ↦ absurd (h k) | inr k ↦ k ]

pub <ℚ_irrefl : (x : Number) → ¬ (x <ℚ x)
<ℚ_irrefl x = not_above x x (≤ℚ_refl x)

pub ≢_from_<ℚ : (x y : Number) → x <ℚ y → x ≢ y
≢_from_<ℚ x y h e = <ℚ_irrefl y (subst (λ z. z <ℚ y) e h)

pub <ℚ_from_≤ℚ : (x y : Number) → x ≤ℚ y → x ≢ y → x <ℚ y
<ℚ_from_≤ℚ x y h other = <ℚ_from_not_≤ℚ x y (λ k. other (≤ℚ_antisymm x y h k))

chained : (pa qa pb qb pc qc c f h : ℕ) → pa * f + qa * 0 + (pb * 0 + qb * c) ≤ pb * c + qb * 0 + (pa * 0 + qa * f) → pb * h + qb * 0 + (pc * 0 + qc * f) ≤ pc * f + qc * 0 + (pb * 0 + qb * h) → (pa * h + qc * c) * f ≤ (pc * c + qa * h) * f
chained pa qa pb qb pc qc c f h k l = omega (arith, mul-le-mul_right h k, mul-le-mul_right c l)

pub ≤ℚ_trans : (x y z : Number) → x ≤ℚ y → y ≤ℚ z → x ≤ℚ z
≤ℚ_trans x y z h k =
    let a = reads x.numerator in let b = reads y.numerator in let g = reads z.numerator in
    let c = x.denominator in let f = y.denominator in let e = z.denominator in
    let l = le_of_mul-le-mul_right (chained a.0 a.1 b.0 b.1 g.0 g.1 c f e
    (le_out (less-*ℤ a.2 (less_pos f)) (less-*ℤ b.2 (less_pos c)) h.cross)
    (le_out (less-*ℤ b.2 (less_pos e)) (less-*ℤ g.2 (less_pos f)) k.cross)) y.reduced.positive in
    record { cross = le_in (less-*ℤ a.2 (less_pos e)) (less-*ℤ g.2 (less_pos c)) (omega arith) }

pub ≤ℚ-<ℚ_trans : (x y z : Number) → x ≤ℚ y → y <ℚ z → x <ℚ z
≤ℚ-<ℚ_trans x y z h k = <ℚ_from_not_≤ℚ x z (λ l. not_above z y (≤ℚ_trans z x y l h) k)

pub <ℚ-≤ℚ_trans : (x y z : Number) → x <ℚ y → y ≤ℚ z → x <ℚ z
<ℚ-≤ℚ_trans x y z h k = <ℚ_from_not_≤ℚ x z (λ l. not_above y x (≤ℚ_trans y z x k l) h)

pub <ℚ_trans : (x y z : Number) → x <ℚ y → y <ℚ z → x <ℚ z
<ℚ_trans x y z h k = ≤ℚ-<ℚ_trans x y z (≤ℚ_from_<ℚ x y h) k

-- ---- sums

added : (pa qa pb qb pg qg c f h : ℕ) → pa * f + qa * 0 + (pb * 0 + qb * c) ≤ pb * c + qb * 0 + (pa * 0 + qa * f) → (pa * h + pg * c) * (f * h) + (qb * h + qg * f) * (c * h) ≤ (pb * h + pg * f) * (c * h) + (qa * h + qg * c) * (f * h)
added pa qa pb qb pg qg c f h k = omega (arith, mul-le-mul_right (h * h) k)

pub +ℚ-≤ℚ_right : (x y z : Number) → x ≤ℚ y → x +ℚ z ≤ℚ y +ℚ z
+ℚ-≤ℚ_right x y z h =
    let a = reads x.numerator in let b = reads y.numerator in let g = reads z.numerator in
    let c = x.denominator in let f = y.denominator in let e = z.denominator in
    let l = added a.0 a.1 b.0 b.1 g.0 g.1 c f e (le_out (less-*ℤ a.2 (less_pos f)) (less-*ℤ b.2 (less_pos c)) h.cross) in
    means_le (means-+ℚ (means_itself x) (means_itself z)) (means-+ℚ (means_itself y) (means_itself z))
    (le_in (less-*ℤ (less-+ℤ (less-*ℤ a.2 (less_pos e)) (less-*ℤ g.2 (less_pos c))) (less_pos (f * e))) (less-*ℤ (less-+ℤ (less-*ℤ b.2 (less_pos e)) (less-*ℤ g.2 (less_pos f))) (less_pos (c * e))) (omega arith))

pub +ℚ-≤ℚ_left : (x y z : Number) → x ≤ℚ y → z +ℚ x ≤ℚ z +ℚ y
+ℚ-≤ℚ_left x y z h = subst₂ (λ a b. a ≤ℚ b) (+ℚ_comm x z) (+ℚ_comm y z) (+ℚ-≤ℚ_right x y z h)

pub +ℚ-≤ℚ : (x y z w : Number) → x ≤ℚ y → z ≤ℚ w → x +ℚ z ≤ℚ y +ℚ w
+ℚ-≤ℚ x y z w h k = ≤ℚ_trans _ (y +ℚ z) _ (+ℚ-≤ℚ_right x y z h) (+ℚ-≤ℚ_left z w y k)

taken : (x z : Number) → x +ℚ z -ℚ z ≡ x
taken x z = simp ring_ℚ

pub ≤ℚ_cancel_right : (x y z : Number) → x +ℚ z ≤ℚ y +ℚ z → x ≤ℚ y
≤ℚ_cancel_right x y z h =
    subst₂ (λ a b. a ≤ℚ b) (sym (-ℚ_is _ z) ∙ taken x z) (sym (-ℚ_is _ z) ∙ taken y z) (+ℚ-≤ℚ_right (x +ℚ z) (y +ℚ z) (neg_ℚ z) h)

pub +ℚ-<ℚ_right : (x y z : Number) → x <ℚ y → x +ℚ z <ℚ y +ℚ z
+ℚ-<ℚ_right x y z h = <ℚ_from_not_≤ℚ _ _ (λ k. not_above y x (≤ℚ_cancel_right y x z k) h)

pub +ℚ-<ℚ_left : (x y z : Number) → x <ℚ y → z +ℚ x <ℚ z +ℚ y
+ℚ-<ℚ_left x y z h = subst₂ (λ a b. a <ℚ b) (+ℚ_comm x z) (+ℚ_comm y z) (+ℚ-<ℚ_right x y z h)

pub <ℚ_cancel_right : (x y z : Number) → x +ℚ z <ℚ y +ℚ z → x <ℚ y
<ℚ_cancel_right x y z h = <ℚ_from_not_≤ℚ x y (λ k. not_above _ _ (+ℚ-≤ℚ_right y x z k) h)

pub +ℚ-<ℚ : (x y z w : Number) → x <ℚ y → z <ℚ w → x +ℚ z <ℚ y +ℚ w
+ℚ-<ℚ x y z w h k = <ℚ_trans _ (y +ℚ z) _ (+ℚ-<ℚ_right x y z h) (+ℚ-<ℚ_left z w y k)

pub +ℚ-<ℚ-≤ℚ : (x y z w : Number) → x <ℚ y → z ≤ℚ w → x +ℚ z <ℚ y +ℚ w
+ℚ-<ℚ-≤ℚ x y z w h k = <ℚ-≤ℚ_trans _ (y +ℚ z) _ (+ℚ-<ℚ_right x y z h) (+ℚ-≤ℚ_left z w y k)

pub +ℚ-≤ℚ-<ℚ : (x y z w : Number) → x ≤ℚ y → z <ℚ w → x +ℚ z <ℚ y +ℚ w
+ℚ-≤ℚ-<ℚ x y z w h k = ≤ℚ-<ℚ_trans _ (y +ℚ z) _ (+ℚ-≤ℚ_right x y z h) (+ℚ-<ℚ_left z w y k)

pub neg-≤ℚ : (x y : Number) → x ≤ℚ y → neg_ℚ y ≤ℚ neg_ℚ x
neg-≤ℚ x y h =
    ≤ℚ_cancel_right (neg_ℚ y) (neg_ℚ x) (x +ℚ y) (subst₂ (λ a b. a ≤ℚ b) (let e : x ≡ neg_ℚ y +ℚ (x +ℚ y) = simp ring_ℚ in e) (let e : y ≡ neg_ℚ x +ℚ (x +ℚ y) = simp ring_ℚ in e) h)

pub neg-<ℚ : (x y : Number) → x <ℚ y → neg_ℚ y <ℚ neg_ℚ x
neg-<ℚ x y h =
    <ℚ_from_not_≤ℚ _ _ (λ k. not_above y x (subst₂ (λ a b. a ≤ℚ b) (neg_neg y) (neg_neg x) (neg-≤ℚ (neg_ℚ x) (neg_ℚ y) k)) h)

-- an order with a difference on one side, without it
pub -ℚ-≤ℚ : (x y z : Number) → (x -ℚ y ≤ℚ z) ↔ (x ≤ℚ z +ℚ y)
-ℚ-≤ℚ x y z =
    (λ h. subst (λ a. a ≤ℚ z +ℚ y) (back x y) (+ℚ-≤ℚ_right (x -ℚ y) z y h), λ h. ≤ℚ_cancel_right (x -ℚ y) z y (subst (λ a. a ≤ℚ z +ℚ y) (sym (back x y)) h))

pub ≤ℚ--ℚ : (x y z : Number) → (x ≤ℚ y -ℚ z) ↔ (x +ℚ z ≤ℚ y)
≤ℚ--ℚ x y z =
    (λ h. subst (λ a. x +ℚ z ≤ℚ a) (back y z) (+ℚ-≤ℚ_right x (y -ℚ z) z h), λ h. ≤ℚ_cancel_right x (y -ℚ z) z (subst (λ a. x +ℚ z ≤ℚ a) (sym (back y z)) h))

pub -ℚ-<ℚ : (x y z : Number) → (x -ℚ y <ℚ z) ↔ (x <ℚ z +ℚ y)
-ℚ-<ℚ x y z =
    (λ h. subst (λ a. a <ℚ z +ℚ y) (back x y) (+ℚ-<ℚ_right (x -ℚ y) z y h), λ h. <ℚ_cancel_right (x -ℚ y) z y (subst (λ a. a <ℚ z +ℚ y) (sym (back x y)) h))

pub <ℚ--ℚ : (x y z : Number) → (x <ℚ y -ℚ z) ↔ (x +ℚ z <ℚ y)
<ℚ--ℚ x y z =
    (λ h. subst (λ a. x +ℚ z <ℚ a) (back y z) (+ℚ-<ℚ_right x (y -ℚ z) z h), λ h. <ℚ_cancel_right x (y -ℚ z) z (subst (λ a. x +ℚ z <ℚ a) (sym (back y z)) h))

-- the difference of two numbers in order is at least 0
pub gap_≤ℚ : (x y : Number) → x ≤ℚ y → whole (pos 0) ≤ℚ y -ℚ x
gap_≤ℚ x y h = (≤ℚ--ℚ (whole (pos 0)) y x).1 (subst (λ a. a ≤ℚ y) (sym (zero-+ℚ x)) h)

pub gap_<ℚ : (x y : Number) → x <ℚ y → whole (pos 0) <ℚ y -ℚ x
gap_<ℚ x y h = (<ℚ--ℚ (whole (pos 0)) y x).1 (subst (λ a. a <ℚ y) (sym (zero-+ℚ x)) h)

pub ≤ℚ_from_gap : (x y : Number) → whole (pos 0) ≤ℚ y -ℚ x → x ≤ℚ y
≤ℚ_from_gap x y h = subst (λ a. a ≤ℚ y) (zero-+ℚ x) ((≤ℚ--ℚ (whole (pos 0)) y x).0 h)

pub <ℚ_from_gap : (x y : Number) → whole (pos 0) <ℚ y -ℚ x → x <ℚ y
<ℚ_from_gap x y h = subst (λ a. a <ℚ y) (zero-+ℚ x) ((<ℚ--ℚ (whole (pos 0)) y x).0 h)
