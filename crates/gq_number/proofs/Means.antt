-- A number means a fraction, which need not be reduced: the relation in which the laws of numbers
-- are proved.
use Rattle.std.proofs.Common.{◌≡◌, ℕ, zero, suc, ◌*◌, ◌/◌, ◌<◌, ℤ, pos, ◌*ℤ◌, nat_abs, int_div, refl, sym, ap, ◌∙◌, subst, arith}
use Rattle.std.specs.Int.{◌∣◌}
use Rattle.std.proofs.Math.Nat.{dvd_antisymm, dvd-mul_left}
use Rattle.gq_number.specs.Reduced.{IsReduced}
use Rattle.gq_number.specs.Number.{Number, ratio, gcd}
use Rattle.gq_number.proofs.Gcd.{dvd_of_coprime, gcd_comm, gcd-dvd_left, gcd-times_right}
use Rattle.gq_number.proofs.Whole.{*ℤ_assoc, *ℤ_swap, cancel_ℤ, nat_abs-*ℤ, int_div-*ℤ}
use Rattle.std.proofs.Props.{props}

-- x is the fraction n over d
pub record Means (x : Number) (n : ℤ) (d : ℕ) : Type 0 where
  pub positive : 0 < d
  pub cross : x.numerator *ℤ pos d ≡ n *ℤ pos x.denominator

pub reduced_prop : (n : ℤ) (d : ℕ) → IsProp (IsReduced n d)
reduced_prop n d = hlevel props

-- the number with these parts
unfoldable pub number_of : (n : ℤ) (d : ℕ) → IsReduced n d → Number
number_of n d r = record { numerator = n; denominator = d; reduced = r }

same_number : (n m : ℤ) (c d : ℕ) (r : IsReduced n c) (s : IsReduced m d) → n ≡ m → c ≡ d → number_of n c r ≡ number_of m d s
same_number n m c d r s e f =
    let at_numerator : (s : IsReduced m c) → number_of n c r ≡ number_of m c s =
    subst (λ (k : ℤ). (s : IsReduced k c) → number_of n c r ≡ number_of k c s) e (λ s. ap (number_of n c) (reduced_prop n c r s)) in
    subst (λ (k : ℕ). (s : IsReduced m k) → number_of n c r ≡ number_of m k s) f at_numerator s

-- a number is known by its parts
pub number_from_parts : (x y : Number) → x.numerator ≡ y.numerator → x.denominator ≡ y.denominator → x ≡ y
unfolding number_of
number_from_parts x y n d = same_number x.numerator y.numerator x.denominator y.denominator x.reduced y.reduced n d

-- a reduced pair is unique
pub same_denominator : (a b : ℤ) (c d : ℕ) → IsReduced a c → IsReduced b d → a *ℤ pos d ≡ b *ℤ pos c → c ≡ d
same_denominator a b c d left right e =
    let magnitudes : nat_abs a * d ≡ nat_abs b * c = sym (nat_abs-*ℤ a (pos d)) ∙ ap nat_abs e ∙ nat_abs-*ℤ b (pos c) in
    let c_in_d : c ∣ d = dvd_of_coprime c (nat_abs a) d (gcd_comm c (nat_abs a) ∙ left.coprime) (subst (λ n. c ∣ n) (sym magnitudes) (dvd-mul_left c (nat_abs b))) in
    let d_in_c : d ∣ c = dvd_of_coprime d (nat_abs b) c (gcd_comm d (nat_abs b) ∙ right.coprime) (subst (λ n. d ∣ n) magnitudes (dvd-mul_left d (nat_abs a))) in
    dvd_antisymm c_in_d d_in_c

-- two numbers with equal cross products are the same
pub number_from_cross : (x y : Number) → x.numerator *ℤ pos y.denominator ≡ y.numerator *ℤ pos x.denominator → x ≡ y
number_from_cross x y e =
    let d : x.denominator ≡ y.denominator = same_denominator x.numerator y.numerator x.denominator y.denominator x.reduced y.reduced e in
    number_from_parts x y (cancel_ℤ x.numerator y.numerator y.denominator y.reduced.positive (e ∙ ap (λ k. y.numerator *ℤ pos k) d)) d

-- two numbers that mean fractions with equal cross products are the same
pub same_by_means : {x y : Number} {n m : ℤ} {d e : ℕ} → Means x n d → Means y m e → n *ℤ pos e ≡ m *ℤ pos d → x ≡ y
same_by_means {x} {y} {n} {m} {d} {e} p q same =
    let a = x.denominator in
    let b = y.denominator in
    let by = λ (k : ℕ) (z : ℤ). z *ℤ pos k in
    let left : x.numerator *ℤ pos b *ℤ pos d *ℤ pos e ≡ n *ℤ pos a *ℤ pos b *ℤ pos e =
    ap (by e) (*ℤ_swap x.numerator (pos b) (pos d) ∙ ap (by b) p.cross) in
    let middle : n *ℤ pos a *ℤ pos b *ℤ pos e ≡ m *ℤ pos d *ℤ pos a *ℤ pos b =
    *ℤ_swap (n *ℤ pos a) (pos b) (pos e) ∙ ap (by b) (*ℤ_swap n (pos a) (pos e) ∙ ap (by a) same) in
    let right : y.numerator *ℤ pos a *ℤ pos d *ℤ pos e ≡ m *ℤ pos b *ℤ pos a *ℤ pos d =
    *ℤ_swap (y.numerator *ℤ pos a) (pos d) (pos e) ∙ ap (by d) (*ℤ_swap y.numerator (pos a) (pos e) ∙ ap (by a) q.cross) in
    let turned : m *ℤ pos b *ℤ pos a *ℤ pos d ≡ m *ℤ pos d *ℤ pos a *ℤ pos b =
    *ℤ_swap (m *ℤ pos b) (pos a) (pos d) ∙ ap (by a) (*ℤ_swap m (pos b) (pos d)) ∙ *ℤ_swap (m *ℤ pos d) (pos b) (pos a) in
    number_from_cross x y (cancel_ℤ _ _ d p.positive (cancel_ℤ _ _ e q.positive (left ∙ middle ∙ sym (right ∙ turned))))

pub means_itself : (x : Number) → Means x x.numerator x.denominator
means_itself x = record { positive = x.reduced.positive; cross = refl }

pub ratio_means : (n : ℤ) (d : ℕ) → 0 < d → Means (ratio n d) n d
unfolding ratio
ratio_means n zero pos_d = absurd (omega arith)
ratio_means n (suc d) pos_d =
    let g = gcd (nat_abs n) (suc d) in
    let q = int_div n (pos g) in
    let k = suc d / g in
    record {
      positive = pos_d;
      cross = ap (λ m. q *ℤ pos m) (sym (gcd-times_right (nat_abs n) (suc d))) ∙ sym (*ℤ_assoc q (pos k) (pos g)) ∙ *ℤ_swap q (pos k) (pos g) ∙ ap (λ z. z *ℤ pos k) (int_div-*ℤ n g (gcd-dvd_left (nat_abs n) (suc d)));
    }

-- a reduced fraction is its own number
pub ratio_itself : (x : Number) → ratio x.numerator x.denominator ≡ x
ratio_itself x = same_by_means (ratio_means x.numerator x.denominator x.reduced.positive) (means_itself x) refl
