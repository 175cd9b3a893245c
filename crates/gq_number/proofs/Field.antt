-- The laws of sums, products, negated numbers and reciprocals.
use Rattle.std.proofs.Common.{◌≡◌, ℕ, ◌+◌, ◌*◌, ◌<◌, ℤ, pos, ◌+ℤ◌, ◌*ℤ◌, neg_ℤ, refl, sym, ap, ap₂, ◌∙◌, arith, mul-pos}
use Rattle.gq_number.specs.Number.{Number, whole, ◌+ℚ◌, ◌-ℚ◌, ◌*ℚ◌, ◌/ℚ◌, neg_ℚ, inv_ℚ}
use Rattle.gq_number.proofs.Whole.{from_less, less_pos, reads, less-+ℤ, less-*ℤ, less-neg, less_out, neg_ℤ-*ℤ, *ℤ_swap, cancel_ℤ}
use Rattle.gq_number.proofs.Means.{Means, same_by_means, means_itself, ratio_means}

-- ---- the operations in the relation "x means n over d"

sum_parts : (pa qa pn qn pb qb pm qm c d f e : ℕ) → pa * d + qa * 0 + (pn * 0 + qn * c) ≡ pn * c + qn * 0 + (pa * 0 + qa * d) → pb * e + qb * 0 + (pm * 0 + qm * f) ≡ pm * f + qm * 0 + (pb * 0 + qb * e) → (pa * f + pb * c) * (d * e) + (qn * e + qm * d) * (c * f) ≡ (pn * e + pm * d) * (c * f) + (qa * f + qb * c) * (d * e)
sum_parts pa qa pn qn pb qb pm qm c d f e h k = omega (arith, ap (λ z. z * (f * e)) h, ap (λ z. z * (c * d)) k)

sum_cross : (a n b m : ℤ) (c d f e : ℕ) → a *ℤ pos d ≡ n *ℤ pos c → b *ℤ pos e ≡ m *ℤ pos f → (a *ℤ pos f +ℤ b *ℤ pos c) *ℤ pos (d * e) ≡ (n *ℤ pos e +ℤ m *ℤ pos d) *ℤ pos (c * f)
sum_cross a n b m c d f e h k =
    let ra = reads a in let rn = reads n in let rb = reads b in let rm = reads m in
    let s = sum_parts ra.0 ra.1 rn.0 rn.1 rb.0 rb.1 rm.0 rm.1 c d f e (less_out (less-*ℤ ra.2 (less_pos d)) (less-*ℤ rn.2 (less_pos c)) h) (less_out (less-*ℤ rb.2 (less_pos e)) (less-*ℤ rm.2 (less_pos f)) k) in
    from_less
    (less-*ℤ (less-+ℤ (less-*ℤ ra.2 (less_pos f)) (less-*ℤ rb.2 (less_pos c))) (less_pos (d * e)))
    (less-*ℤ (less-+ℤ (less-*ℤ rn.2 (less_pos e)) (less-*ℤ rm.2 (less_pos d))) (less_pos (c * f)))
    (omega arith)

times_four : (a b : ℤ) (d e : ℕ) → a *ℤ b *ℤ pos (d * e) ≡ a *ℤ pos d *ℤ (b *ℤ pos e)
times_four a b d e =
    let ra = reads a in let rb = reads b in
    from_less (less-*ℤ (less-*ℤ ra.2 rb.2) (less_pos (d * e))) (less-*ℤ (less-*ℤ ra.2 (less_pos d)) (less-*ℤ rb.2 (less_pos e))) (omega arith)

product_cross : (a n b m : ℤ) (c d f e : ℕ) → a *ℤ pos d ≡ n *ℤ pos c → b *ℤ pos e ≡ m *ℤ pos f → a *ℤ b *ℤ pos (d * e) ≡ n *ℤ m *ℤ pos (c * f)
product_cross a n b m c d f e h k = times_four a b d e ∙ ap₂ (λ z w. z *ℤ w) h k ∙ sym (times_four n m c f)

-- of two fractions that are one, a number means both or none
pub means_same : {x : Number} {n m : ℤ} {d e : ℕ} → Means x n d → 0 < e → n *ℤ pos e ≡ m *ℤ pos d → Means x m e
means_same {x} {n} {m} {d} {e} p pos_e same =
    record {
      positive = pos_e;
      cross = cancel_ℤ _ _ d p.positive (*ℤ_swap x.numerator (pos e) (pos d) ∙ ap (λ z. z *ℤ pos e) p.cross ∙ *ℤ_swap n (pos x.denominator) (pos e) ∙ ap (λ z. z *ℤ pos x.denominator) same ∙ *ℤ_swap m (pos d) (pos x.denominator));
    }

pub means-+ℚ : {x y : Number} {n m : ℤ} {d e : ℕ} → Means x n d → Means y m e → Means (x +ℚ y) (n *ℤ pos e +ℤ m *ℤ pos d) (d * e)
unfolding ◌+ℚ◌
means-+ℚ {x} {y} {n} {m} {d} {e} p q =
    means_same (ratio_means _ (x.denominator * y.denominator) (mul-pos x.reduced.positive y.reduced.positive)) (mul-pos p.positive q.positive)
    (sum_cross x.numerator n y.numerator m x.denominator d y.denominator e p.cross q.cross)

pub means-*ℚ : {x y : Number} {n m : ℤ} {d e : ℕ} → Means x n d → Means y m e → Means (x *ℚ y) (n *ℤ m) (d * e)
unfolding ◌*ℚ◌
means-*ℚ {x} {y} {n} {m} {d} {e} p q =
    means_same (ratio_means _ (x.denominator * y.denominator) (mul-pos x.reduced.positive y.reduced.positive)) (mul-pos p.positive q.positive)
    (product_cross x.numerator n y.numerator m x.denominator d y.denominator e p.cross q.cross)

pub means-neg_ℚ : {x : Number} {n : ℤ} {d : ℕ} → Means x n d → Means (neg_ℚ x) (neg_ℤ n) d
unfolding neg_ℚ
means-neg_ℚ {x} {n} {d} p =
    record { positive = p.positive; cross = neg_ℤ-*ℤ x.numerator (pos d) ∙ ap neg_ℤ p.cross ∙ sym (neg_ℤ-*ℤ n (pos x.denominator)) }

pub means-whole : (n : ℤ) → Means (whole n) n 1
unfolding whole
means-whole n = means_itself (whole n)

-- ---- sums

pub +ℚ_comm : (x y : Number) → x +ℚ y ≡ y +ℚ x
+ℚ_comm x y =
    let a = reads x.numerator in let b = reads y.numerator in let d = x.denominator in let e = y.denominator in
    same_by_means (means-+ℚ (means_itself x) (means_itself y)) (means-+ℚ (means_itself y) (means_itself x))
    (from_less (less-*ℤ (less-+ℤ (less-*ℤ a.2 (less_pos e)) (less-*ℤ b.2 (less_pos d))) (less_pos (e * d))) (less-*ℤ (less-+ℤ (less-*ℤ b.2 (less_pos d)) (less-*ℤ a.2 (less_pos e))) (less_pos (d * e))) (omega arith))

pub +ℚ_assoc : (x y z : Number) → x +ℚ y +ℚ z ≡ x +ℚ (y +ℚ z)
+ℚ_assoc x y z =
    let a = reads x.numerator in let b = reads y.numerator in let c = reads z.numerator in let d = x.denominator in let e = y.denominator in let f = z.denominator in
    same_by_means (means-+ℚ (means-+ℚ (means_itself x) (means_itself y)) (means_itself z)) (means-+ℚ (means_itself x) (means-+ℚ (means_itself y) (means_itself z)))
    (from_less
    (less-*ℤ (less-+ℤ (less-*ℤ (less-+ℤ (less-*ℤ a.2 (less_pos e)) (less-*ℤ b.2 (less_pos d))) (less_pos f)) (less-*ℤ c.2 (less_pos (d * e)))) (less_pos (d * (e * f))))
    (less-*ℤ (less-+ℤ (less-*ℤ a.2 (less_pos (e * f))) (less-*ℤ (less-+ℤ (less-*ℤ b.2 (less_pos f)) (less-*ℤ c.2 (less_pos e))) (less_pos d))) (less_pos (d * e * f)))
    (omega arith))

pub +ℚ-zero : (x : Number) → x +ℚ whole (pos 0) ≡ x
+ℚ-zero x =
    let a = reads x.numerator in let d = x.denominator in
    same_by_means (means-+ℚ (means_itself x) (means-whole (pos 0))) (means_itself x)
    (from_less (less-*ℤ (less-+ℤ (less-*ℤ a.2 (less_pos 1)) (less-*ℤ (less_pos 0) (less_pos d))) (less_pos d)) (less-*ℤ a.2 (less_pos (d * 1))) (omega arith))

pub +ℚ-neg : (x : Number) → x +ℚ neg_ℚ x ≡ whole (pos 0)
+ℚ-neg x =
    let a = reads x.numerator in let d = x.denominator in
    same_by_means (means-+ℚ (means_itself x) (means-neg_ℚ (means_itself x))) (means-whole (pos 0))
    (from_less (less-*ℤ (less-+ℤ (less-*ℤ a.2 (less_pos d)) (less-*ℤ (less-neg a.2) (less_pos d))) (less_pos 1)) (less-*ℤ (less_pos 0) (less_pos (d * d))) (omega arith))

pub -ℚ_is : (x y : Number) → x -ℚ y ≡ x +ℚ neg_ℚ y
unfolding ◌-ℚ◌
-ℚ_is x y = refl

-- ---- products

pub *ℚ_comm : (x y : Number) → x *ℚ y ≡ y *ℚ x
*ℚ_comm x y =
    let a = reads x.numerator in let b = reads y.numerator in let d = x.denominator in let e = y.denominator in
    same_by_means (means-*ℚ (means_itself x) (means_itself y)) (means-*ℚ (means_itself y) (means_itself x))
    (from_less (less-*ℤ (less-*ℤ a.2 b.2) (less_pos (e * d))) (less-*ℤ (less-*ℤ b.2 a.2) (less_pos (d * e))) (omega arith))

pub *ℚ_assoc : (x y z : Number) → x *ℚ y *ℚ z ≡ x *ℚ (y *ℚ z)
*ℚ_assoc x y z =
    let a = reads x.numerator in let b = reads y.numerator in let c = reads z.numerator in let d = x.denominator in let e = y.denominator in let f = z.denominator in
    same_by_means (means-*ℚ (means-*ℚ (means_itself x) (means_itself y)) (means_itself z)) (means-*ℚ (means_itself x) (means-*ℚ (means_itself y) (means_itself z)))
    (from_less (less-*ℤ (less-*ℤ (less-*ℤ a.2 b.2) c.2) (less_pos (d * (e * f)))) (less-*ℤ (less-*ℤ a.2 (less-*ℤ b.2 c.2)) (less_pos (d * e * f))) (omega arith))

pub *ℚ-one : (x : Number) → x *ℚ whole (pos 1) ≡ x
*ℚ-one x =
    let a = reads x.numerator in let d = x.denominator in
    same_by_means (means-*ℚ (means_itself x) (means-whole (pos 1))) (means_itself x)
    (from_less (less-*ℤ (less-*ℤ a.2 (less_pos 1)) (less_pos d)) (less-*ℤ a.2 (less_pos (d * 1))) (omega arith))

pub *ℚ-+ℚ : (x y z : Number) → x *ℚ (y +ℚ z) ≡ x *ℚ y +ℚ x *ℚ z
*ℚ-+ℚ x y z =
    let a = reads x.numerator in let b = reads y.numerator in let c = reads z.numerator in let d = x.denominator in let e = y.denominator in let f = z.denominator in
    same_by_means (means-*ℚ (means_itself x) (means-+ℚ (means_itself y) (means_itself z))) (means-+ℚ (means-*ℚ (means_itself x) (means_itself y)) (means-*ℚ (means_itself x) (means_itself z)))
    (from_less
    (less-*ℤ (less-*ℤ a.2 (less-+ℤ (less-*ℤ b.2 (less_pos f)) (less-*ℤ c.2 (less_pos e)))) (less_pos (d * e * (d * f))))
    (less-*ℤ (less-+ℤ (less-*ℤ (less-*ℤ a.2 b.2) (less_pos (d * f))) (less-*ℤ (less-*ℤ a.2 c.2) (less_pos (d * e)))) (less_pos (d * (e * f))))
    (omega arith))

pub /ℚ_is : (x y : Number) → x /ℚ y ≡ x *ℚ inv_ℚ y
unfolding ◌/ℚ◌
/ℚ_is x y = refl
