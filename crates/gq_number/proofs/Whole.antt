-- The laws of whole numbers that the other laws need. A whole number is read as one counting number
-- less another, which makes an identity one of counting numbers.
use Rattle.std.proofs.Common.{◌≡◌, ℕ, suc, ◌+◌, ◌*◌, ◌/◌, ◌<◌, ℤ, pos, negsuc, ◌+ℤ◌, ◌*ℤ◌, neg_ℤ, nat_abs, int_div, ap, ◌∙◌, arith}
use Rattle.std.proofs.lemmas.Int.{ints, unsigned_abs-mul}
use Rattle.std.proofs.Math.Nat.{eq_of_mul-eq-mul_right, div-mul_cancel}
use Rattle.std.specs.Int.{◌∣◌}

-- z is p less n
pub record Less (z : ℤ) (p n : ℕ) : Type 0 where
  pub adds : z +ℤ pos n ≡ pos p

pub from_less : {z w : ℤ} {p n q m : ℕ} → Less z p n → Less w q m → p + m ≡ q + n → z ≡ w
from_less {z} {w} {p} {n} {q} {m} x y e = let f = x.adds in let h = y.adds in omega (arith, ints)

pub less_pos : (n : ℕ) → Less (pos n) n 0
less_pos n = record { adds = omega (arith, ints) }

pub less_negsuc : (n : ℕ) → Less (negsuc n) 0 (suc n)
less_negsuc n = record { adds = omega (arith, ints) }

-- each whole number is read so
pub reads : (z : ℤ) → (p : ℕ) × (n : ℕ) × Less z p n
reads (pos k) = (k, 0, less_pos k)
reads (negsuc k) = (0, suc k, less_negsuc k)

pub less-+ℤ : {z w : ℤ} {p n q m : ℕ} → Less z p n → Less w q m → Less (z +ℤ w) (p + q) (n + m)
less-+ℤ x y = let f = x.adds in let h = y.adds in record { adds = omega (arith, ints) }

pub less-neg : {z : ℤ} {p n : ℕ} → Less z p n → Less (neg_ℤ z) n p
less-neg x = let f = x.adds in record { adds = omega (arith, ints) }

-- of the readings of one number, each is the plain one with a number added on both sides
read_pos : (k p n : ℕ) → Less (pos k) p n → p ≡ k + n
read_pos k p n x = let f = x.adds in omega (arith, ints)

read_negsuc : (k p n : ℕ) → Less (negsuc k) p n → n ≡ suc k + p
read_negsuc k p n x = let f = x.adds in omega (arith, ints)

less_same : {z : ℤ} {p n : ℕ} (q m : ℕ) → Less z p n → p + m ≡ q + n → Less z q m
less_same q m x e = let f = x.adds in record { adds = omega (arith, ints) }

same_signs : (a b n m : ℕ) → a * b + ((a + n) * m + n * (b + m)) ≡ (a + n) * (b + m) + n * m + 0
same_signs a b n m = omega arith

other_signs : (a b p m : ℕ) → 0 + (p * m + (a + p) * (b + m)) ≡ p * (b + m) + (a + p) * m + a * b
other_signs a b p m = omega arith

right_sign : (a b n q : ℕ) → 0 + ((a + n) * (b + q) + n * q) ≡ (a + n) * q + n * (b + q) + a * b
right_sign a b n q = omega arith

both_signs : (a b p q : ℕ) → a * b + (p * (b + q) + (a + p) * q) ≡ p * q + (a + p) * (b + q) + 0
both_signs a b p q = omega arith

times : (z w : ℤ) (p n q m : ℕ) → Less z p n → Less w q m → Less (z *ℤ w) (p * q + n * m) (p * m + n * q)
times (pos a) (pos b) p n q m x y =
    rw (read_pos a p n x, read_pos b q m y) (less_same _ _ (less_pos (a * b)) (same_signs a b n m))
times (pos a) (negsuc b) p n q m x y =
    rw (read_pos a p n x, read_negsuc b q m y) (less_same _ _ (less-neg (less_pos (a * suc b))) (right_sign a (suc b) n q))
times (negsuc a) (pos b) p n q m x y =
    rw (read_negsuc a p n x, read_pos b q m y) (less_same _ _ (less-neg (less_pos (suc a * b))) (other_signs (suc a) b p m))
times (negsuc a) (negsuc b) p n q m x y =
    rw (read_negsuc a p n x, read_negsuc b q m y) (less_same _ _ (less_pos (suc a * suc b)) (both_signs (suc a) (suc b) p q))

pub less-*ℤ : {z w : ℤ} {p n q m : ℕ} → Less z p n → Less w q m → Less (z *ℤ w) (p * q + n * m) (p * m + n * q)
less-*ℤ {z} {w} {p} {n} {q} {m} x y = times z w p n q m x y

-- ---- the laws of the product

pub *ℤ_assoc : (a b c : ℤ) → a *ℤ b *ℤ c ≡ a *ℤ (b *ℤ c)
*ℤ_assoc a b c =
    let x = reads a in let y = reads b in let z = reads c in
    from_less (less-*ℤ (less-*ℤ x.2 y.2) z.2) (less-*ℤ x.2 (less-*ℤ y.2 z.2)) (omega arith)

pub *ℤ-+ℤ : (a b c : ℤ) → (a +ℤ b) *ℤ c ≡ a *ℤ c +ℤ b *ℤ c
*ℤ-+ℤ a b c =
    let x = reads a in let y = reads b in let z = reads c in
    from_less (less-*ℤ (less-+ℤ x.2 y.2) z.2) (less-+ℤ (less-*ℤ x.2 z.2) (less-*ℤ y.2 z.2)) (omega arith)

pub neg_ℤ-*ℤ : (a b : ℤ) → neg_ℤ a *ℤ b ≡ neg_ℤ (a *ℤ b)
neg_ℤ-*ℤ a b =
    let x = reads a in let y = reads b in
    from_less (less-*ℤ (less-neg x.2) y.2) (less-neg (less-*ℤ x.2 y.2)) (omega arith)

pub *ℤ_swap : (a b c : ℤ) → a *ℤ b *ℤ c ≡ a *ℤ c *ℤ b
*ℤ_swap a b c =
    let x = reads a in let y = reads b in let z = reads c in
    from_less (less-*ℤ (less-*ℤ x.2 y.2) z.2) (less-*ℤ (less-*ℤ x.2 z.2) y.2) (omega arith)

pub less_out : {z w : ℤ} {p n q m : ℕ} → Less z p n → Less w q m → z ≡ w → p + m ≡ q + n
less_out x y e = let f = x.adds in let h = y.adds in omega (arith, ints)

unlike : (p n q m k : ℕ) → p * k + n * 0 + (q * 0 + m * k) ≡ q * k + m * 0 + (p * 0 + n * k) → (p + m) * k ≡ (q + n) * k
unlike p n q m k e = omega arith

-- a factor above 0 is cancelled
pub cancel_ℤ : (a b : ℤ) (k : ℕ) → 0 < k → a *ℤ pos k ≡ b *ℤ pos k → a ≡ b
cancel_ℤ a b k pos_k e =
    let x = reads a in let y = reads b in
    let left = less-*ℤ x.2 (less_pos k) in
    let right = less-*ℤ y.2 (less_pos k) in
    from_less x.2 y.2 (eq_of_mul-eq-mul_right k pos_k _ _ (unlike x.0 x.1 y.0 y.1 k (less_out left right e)))

-- ---- signs and magnitudes

pub nat_abs-*ℤ : (a b : ℤ) → nat_abs (a *ℤ b) ≡ nat_abs a * nat_abs b
nat_abs-*ℤ = unsigned_abs-mul

-- a quotient without remainder
pub int_div-*ℤ : (n : ℤ) (g : ℕ) → g ∣ nat_abs n → int_div n (pos g) *ℤ pos g ≡ n
int_div-*ℤ (pos a) g h = ap pos (div-mul_cancel g h)
int_div-*ℤ (negsuc a) g h = neg_ℤ-*ℤ (pos (suc a / g)) (pos g) ∙ ap (λ k. neg_ℤ (pos k)) (div-mul_cancel g h)
