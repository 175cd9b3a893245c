-- The literal rule, for digits times one power of ten over another.
use Rattle.std.proofs.Common.{◌≡◌, ◌≢◌, ℕ, zero, suc, ◌+◌, ◌-◌, ◌*◌, ◌%◌, ◌^◌, ◌<◌, ◌≤◌, refl, sym, ap, ap₂, ◌∙◌, subst, arith, inl, inr, pos, mul-pos}
use Rattle.std.proofs.Math.Nat.{pow-succ', one-le-pow, le-mul_of_pos_right}
use Rattle.std.proofs.Math.Pow.{pow-add}
use Rattle.std.proofs.lemmas.Bool.{cases_lt}
use Rattle.gq_number.specs.Number.{whole, ratio}
use Rattle.gq_number.proofs.Naming.{ratio-≡, ratio-one}
use Rattle.gq_text.specs.Literal.{HasNoTrailingZero, FitsLiteral}

-- ---- digits and powers of ten

pub tens_above : (k : ℕ) → 0 < 10 ^ k
tens_above k = one-le-pow k 10 (omega arith)

pub cancel_tens : (a b k : ℕ) → a * 10 ^ k ≡ b * 10 ^ k → a ≡ b
cancel_tens a b zero e = omega arith
cancel_tens a b (suc k) e = cancel_tens a b k (let unit = pow-succ' 10 k in let left : a * 10 ^ suc k ≡ 10 * (a * 10 ^ k) = ap (λ u. a * u) unit ∙ omega arith in let right : b * 10 ^ suc k ≡ 10 * (b * 10 ^ k) = ap (λ u. b * u) unit ∙ omega arith in omega arith)

-- what a ten divides ends in 0
pub ends_in_zero : (n m k : ℕ) → n ≡ m * 10 ^ suc k → n % 10 ≡ 0
ends_in_zero n m k e =
    let f : n ≡ 10 * (m * 10 ^ k) = e ∙ ap (λ u. m * u) (pow-succ' 10 k) ∙ omega arith in
    omega arith

not_zero_after : (n : ℕ) → 0 < n → HasNoTrailingZero n → n % 10 ≢ 0
not_zero_after n some h = elim h [ inl none ↦ absurd (omega arith) | inr last ↦ last ]

-- digits that end in no 0 are known with their power of ten
pub same_shortest : (m n i j : ℕ) → m % 10 ≢ 0 → n % 10 ≢ 0 → m * 10 ^ i ≡ n * 10 ^ j → (m ≡ n) × (i ≡ j)
same_shortest m n zero zero h k e = (omega arith, refl)
same_shortest m n zero (suc j) h k e = absurd (h (ends_in_zero m n j (omega arith)))
same_shortest m n (suc i) zero h k e = absurd (k (ends_in_zero n m i (omega arith)))
same_shortest m n (suc i) (suc j) h k e =
    let left : m * 10 ^ suc i ≡ 10 * (m * 10 ^ i) = ap (λ u. m * u) (pow-succ' 10 i) ∙ omega arith in
    let right : n * 10 ^ suc j ≡ 10 * (n * 10 ^ j) = ap (λ u. n * u) (pow-succ' 10 j) ∙ omega arith in
    let rest = same_shortest m n i j h k (omega arith) in
    (rest.0, ap suc rest.1)

-- ---- fractions of such

pub nat_cross : (a b c d : ℕ) → 0 < b → 0 < d → ratio (pos a) b ≡ ratio (pos c) d → a * d ≡ c * b
nat_cross a b c d some_b some_d e = let f : pos (a * d) ≡ pos (c * b) = (ratio-≡ (pos a) (pos c) b d some_b some_d).0 e in cc

pub cross_nat : (a b c d : ℕ) → 0 < b → 0 < d → a * d ≡ c * b → ratio (pos a) b ≡ ratio (pos c) d
cross_nat a b c d some_b some_d e = (ratio-≡ (pos a) (pos c) b d some_b some_d).1 (ap pos e)

-- with more tens above, the number is whole
whole_is : (m u w k : ℕ) → u ≡ w + k → ratio (pos (m * 10 ^ u)) (10 ^ w) ≡ whole (pos (m * 10 ^ k))
whole_is m u w k e =
    let split : 10 ^ u ≡ 10 ^ w * 10 ^ k = ap (λ n. 10 ^ n) e ∙ pow-add 10 w k in
    cross_nat (m * 10 ^ u) (10 ^ w) (m * 10 ^ k) 1 (tens_above w) (omega arith) (ap (λ t. m * t * 1) split ∙ omega arith) ∙ ratio-one (pos (m * 10 ^ k))

-- and with more powers in the denominator, one remains there
fraction_is : (m u w k : ℕ) → w ≡ u + k → ratio (pos (m * 10 ^ u)) (10 ^ w) ≡ ratio (pos m) (10 ^ k)
fraction_is m u w k e =
    let split : 10 ^ w ≡ 10 ^ u * 10 ^ k = ap (λ n. 10 ^ n) e ∙ pow-add 10 u k in
    cross_nat (m * 10 ^ u) (10 ^ w) m (10 ^ k) (tens_above w) (tens_above k) (omega arith ∙ ap (λ t. m * t) (sym split))

-- ---- what fits

pub fits_whole : (limit m u w k : ℕ) → HasNoTrailingZero m → u ≡ w + k → m * 10 ^ k ≤ limit → FitsLiteral limit (ratio (pos (m * 10 ^ u)) (10 ^ w))
fits_whole limit m u w k h e small = record { m = m; e = k; shortest = h; within = inl (whole_is m u w k e, small) }

pub fits_fraction : (limit m u w k : ℕ) → HasNoTrailingZero m → w ≡ u + k → m ≤ limit → 10 ^ k ≤ limit → FitsLiteral limit (ratio (pos (m * 10 ^ u)) (10 ^ w))
fits_fraction limit m u w k h e small unit_small = record { m = m; e = k; shortest = h; within = inr (fraction_is m u w k e, small, unit_small) }

-- a product of digits and tens is 0 only with no digits
some_digits : (m n i j : ℕ) → 0 < m → m * 10 ^ i ≡ n * 10 ^ j → 0 < n
some_digits m zero i j some e = let p = mul-pos some (tens_above i) in absurd (omega arith)
some_digits m (suc n) i j some e = omega arith

pub whole_fits : (limit m u w k : ℕ) → 0 < m → HasNoTrailingZero m → u ≡ w + k → FitsLiteral limit (ratio (pos (m * 10 ^ u)) (10 ^ w)) → m * 10 ^ k ≤ limit
whole_fits limit m u w k some h e f =
    let n = f.m in let j = f.e in
    let is_whole : ratio (pos (m * 10 ^ u)) (10 ^ w) ≡ ratio (pos (m * 10 ^ k)) 1 = whole_is m u w k e ∙ sym (ratio-one _) in
    elim f.within [
      | inl product ↦
          let same : m * 10 ^ k * 1 ≡ n * 10 ^ j * 1 = nat_cross (m * 10 ^ k) 1 (n * 10 ^ j) 1 (omega arith) (omega arith) (sym is_whole ∙ product.0 ∙ sym (ratio-one _)) in
          omega (arith, product.1)
      | inr over ↦
          let same : m * 10 ^ k * 10 ^ j ≡ n * 1 = nat_cross (m * 10 ^ k) 1 n (10 ^ j) (omega arith) (tens_above j) (sym is_whole ∙ over.0) in
          at_most n j over.1 (omega arith)
    ]
  where
    at_most : (n j : ℕ) → n ≤ limit → m * 10 ^ k * 10 ^ j ≡ n → m * 10 ^ k ≤ limit
    at_most n j small same = let grows : m * 10 ^ k ≤ m * 10 ^ k * 10 ^ j = le-mul_of_pos_right (m * 10 ^ k) (tens_above j) in omega arith

pub fraction_fits : (limit m u w k : ℕ) → 0 < m → HasNoTrailingZero m → w ≡ u + suc k → FitsLiteral limit (ratio (pos (m * 10 ^ u)) (10 ^ w)) → (m ≤ limit) × (10 ^ suc k ≤ limit)
fraction_fits limit m u w k some h e f =
    let n = f.m in let j = f.e in
    let last = not_zero_after m some h in
    let is_fraction = fraction_is m u w (suc k) e in
    elim f.within [
      | inl product ↦
          let same : m * 1 ≡ n * 10 ^ j * 10 ^ suc k = nat_cross m (10 ^ suc k) (n * 10 ^ j) 1 (tens_above (suc k)) (omega arith) (sym is_fraction ∙ product.0 ∙ sym (ratio-one _)) in
          absurd (last (ends_in_zero m (n * 10 ^ j) k (omega arith)))
      | inr over ↦
          let same : m * 10 ^ j ≡ n * 10 ^ suc k = nat_cross m (10 ^ suc k) n (10 ^ j) (tens_above (suc k)) (tens_above j) (sym is_fraction ∙ over.0) in
          let n_last = not_zero_after n (some_digits m n j (suc k) some same) f.shortest in
          let parts = same_shortest m n j (suc k) last n_last same in
          (subst (λ a. a ≤ limit) (sym parts.0) over.1, subst (λ a. 10 ^ a ≤ limit) parts.1 over.2)
    ]

-- ---- the parts that are tested

-- the parts of digits times one power of ten over another
pub HasParts : (digits up down above below : ℕ) → Type 0
HasParts digits up down above below = (down ≤ up → (above ≡ digits * 10 ^ (up - down)) × (below ≡ 1)) × (up < down → (above ≡ digits) × (below ≡ 10 ^ (down - up)))

pub HasParts-from : (digits up down above below : ℕ) → (down ≤ up → (above ≡ digits * 10 ^ (up - down)) × (below ≡ 1)) → (up < down → (above ≡ digits) × (below ≡ 10 ^ (down - up))) → HasParts digits up down above below
unfolding HasParts
HasParts-from digits up down above below h k = (h, k)

pub below_some : (digits up down above below : ℕ) → HasParts digits up down above below → 0 < below
unfolding HasParts
below_some digits up down above below h =
    elim (cases_lt up down) [ inl less ↦ (let p = h.1 less in omega (arith, p.1, tens_above (down - up))) | inr more ↦ (let p = h.0 more in omega (arith, p.1)) ]

pub parts_fit : (limit digits up down above below : ℕ) → HasNoTrailingZero digits → HasParts digits up down above below → above ≤ limit → below ≤ limit → FitsLiteral limit (ratio (pos (digits * 10 ^ up)) (10 ^ down)) × (ratio (pos above) below ≡ ratio (pos (digits * 10 ^ up)) (10 ^ down))
unfolding HasParts
parts_fit limit digits up down above below h p above_small below_small =
    elim (cases_lt up down) [
      | inl less ↦ let q = p.1 less in (
        fits_fraction limit digits up down (down - up) h (omega arith) (omega (arith, q.0)) (omega (arith, q.1)),
        ap₂ (λ a b. ratio (pos a) b) q.0 q.1 ∙ sym (fraction_is digits up down (down - up) (omega arith)),
      )
      | inr more ↦ let q = p.0 more in (
        fits_whole limit digits up down (up - down) h (omega arith) (omega (arith, q.0)),
        ap₂ (λ a b. ratio (pos a) b) q.0 q.1 ∙ ratio-one _ ∙ sym (whole_is digits up down (up - down) (omega arith)),
      )
    ]

-- parts of which each is tested are within the limit
pub parts_small : (limit tested digits up down above below : ℕ) → 127 ≤ limit → tested ≡ limit → HasParts digits up down above below → (down ≤ up → digits * 10 ^ (up - down) ≤ tested) → (up < down → (digits ≤ tested) × (10 ^ (down - up) ≤ tested)) → (above ≤ limit) × (below ≤ limit)
unfolding HasParts
parts_small limit tested digits up down above below wide e p h k =
    elim (cases_lt up down) [
      | inl less ↦ let q = p.1 less in let small = k less in (omega (arith, q.0, small.0), omega (arith, q.1, small.1))
      | inr more ↦ let q = p.0 more in let small = h more in (omega (arith, q.0, small), omega (arith, q.1))
    ]

-- what fits has parts within the limit
pub parts_there : (limit tested digits up down : ℕ) → tested ≡ limit → 0 < digits → HasNoTrailingZero digits → FitsLiteral limit (ratio (pos (digits * 10 ^ up)) (10 ^ down)) → (down ≤ up → digits * 10 ^ (up - down) ≤ tested) × (up < down → (digits ≤ tested) × (10 ^ (down - up) ≤ tested))
parts_there limit tested digits up down e some h f = (
  λ more. let fit = whole_fits limit digits up down (up - down) some h (omega arith) f in omega arith,
  λ less. let unit : suc (down - up - 1) ≡ down - up = omega arith in
      let fit = fraction_fits limit digits up down (down - up - 1) some h (omega arith) f in
      let below_small : 10 ^ (down - up) ≤ limit = subst (λ n. 10 ^ n ≤ limit) unit fit.1 in
      (omega (arith, fit.0), omega arith),
)
