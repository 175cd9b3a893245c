-- Integers over one denominator: what a row becomes in an exchange, and how two ratios compare.
use Rattle.std.proofs.Common.{◌≡◌, ◌≢◌, ◌↔◌, ℕ, zero, suc, ◌*◌, ◌<◌, ℤ, pos, negsuc, ◌-ℤ◌, ◌*ℤ◌, neg_ℤ, nat_abs, ◌≤ℤ◌, ◌<ℤ◌, refl, sym, ap, ap₂, ◌∙◌, subst, subst₂, arith, mul-pos}
use Rattle.gq_number.specs.Number.{Number, whole, ratio, ◌+ℚ◌, ◌-ℚ◌, ◌*ℚ◌, ◌/ℚ◌, neg_ℚ}
use Rattle.gq_number.specs.Order.{◌≤ℚ◌, ◌<ℚ◌, number_cmp}
use Rattle.gq_number.proofs.Means.{Means, ratio_means}
use Rattle.gq_number.proofs.Ring.{neg_neg}
use Rattle.gq_number.proofs.Quotients.{field_ℚ}
use Rattle.gq_number.proofs.Naming.{whole-+ℚ, whole-*ℚ, neg-whole, whole-≢-zero, ratio_is, ratio-≤ℚ, ratio-≡}
use Rattle.gq_number.proofs.Order
use Rattle.gq_number.proofs.Compares.{number_ranks}
use Rattle.std.specs.declared.cmp.Ordering.{Ordering}
use Rattle.std.specs.declared.cmp.Ordering.TheVariants.{Less, Equal, Greater}
use Rattle.std.specs.Ordering.{MatchOrdering, int_cmp}
use Rattle.std.specs.Cmp.{int_cmp_is}
use Rattle.lp_integer_rows.proofs.Turning.{over_same, over_negated}

pub whole--ℚ : (n m : ℤ) → whole n -ℚ whole m ≡ whole (n -ℤ m)
unfolding ◌-ℚ◌
whole--ℚ n m = ap (λ t. whole n +ℚ t) (neg-whole m) ∙ whole-+ℚ n (neg_ℤ m)

-- ---- a line in an exchange

-- two numbers of one line, divided
pub ratios_divided : (x p : ℤ) (e : ℕ) → 0 < e → whole p ≢ whole (pos 0) → ratio x e /ℚ ratio p e ≡ whole x /ℚ whole p
ratios_divided x p e above some =
    ap₂ (λ a b. a /ℚ b) (ratio_is x e) (ratio_is p e) ∙ over_same (whole x) (whole p) (whole (pos e)) some (whole-≢-zero e above)

-- the row of the leaving variable: its integers stay, and the one of the entering variable is the
-- new denominator
pub divided_line : (x : ℤ) (p e : ℕ) → 0 < e → 0 < p → ratio x e /ℚ ratio (pos p) e ≡ ratio x p
divided_line x p e above_e above_p = ratios_divided x (pos p) e above_e (whole-≢-zero p above_p) ∙ sym (ratio_is x p)

lessened_numbers : (n x d a b g : Number) → d ≢ whole (pos 0) → a ≢ whole (pos 0) → g ≢ whole (pos 0) → (a *ℚ n -ℚ b *ℚ x) /ℚ (a *ℚ d) ≡ n /ℚ d -ℚ (b *ℚ g) /ℚ d *ℚ (x /ℚ (a *ℚ g))
lessened_numbers n x d a b g some_d some_a some_g = simp field_ℚ

-- another row: n over d, and f for the entering variable; the row of the leaving variable: x and p
-- over e
pub lessened : (n x f b : ℤ) (d e p a g : ℕ) → 0 < d → 0 < e → 0 < a → 0 < g → p ≡ a * g → f ≡ b *ℤ pos g → ratio (pos a *ℤ n -ℤ b *ℤ x) (a * d) ≡ ratio n d -ℚ ratio f d *ℚ (ratio x e /ℚ ratio (pos p) e)
lessened n x f b d e p a g above_d above_e above_a above_g p_is f_is =
    let some_d = whole-≢-zero d above_d in
    let some_a = whole-≢-zero a above_a in
    let some_g = whole-≢-zero g above_g in
    let top : whole (pos a *ℤ n -ℤ b *ℤ x) ≡ whole (pos a) *ℚ whole n -ℚ whole b *ℚ whole x =
    sym (ap₂ (λ s t. s -ℚ t) (whole-*ℚ (pos a) n) (whole-*ℚ b x) ∙ whole--ℚ (pos a *ℤ n) (b *ℤ x)) in
    let low : whole (pos (a * d)) ≡ whole (pos a) *ℚ whole (pos d) = sym (whole-*ℚ (pos a) (pos d)) in
    let pivot : whole (pos a) *ℚ whole (pos g) ≡ whole (pos p) = whole-*ℚ (pos a) (pos g) ∙ ap (λ k. whole (pos k)) (sym p_is) in
    let factor : whole b *ℚ whole (pos g) ≡ whole f = whole-*ℚ b (pos g) ∙ ap whole (sym f_is) in
    let some_p : whole (pos p) ≢ whole (pos 0) = subst (λ k. whole (pos k) ≢ whole (pos 0)) (sym p_is) (whole-≢-zero (a * g) (mul-pos above_a above_g)) in
    ratio_is (pos a *ℤ n -ℤ b *ℤ x) (a * d) ∙ ap₂ (λ s t. s /ℚ t) top low
    ∙ lessened_numbers (whole n) (whole x) (whole (pos d)) (whole (pos a)) (whole b) (whole (pos g)) some_d some_a some_g
    ∙ ap₂ (λ s t. whole n /ℚ whole (pos d) -ℚ s /ℚ whole (pos d) *ℚ (whole x /ℚ t)) factor pivot
    ∙ sym (ap₂ (λ s t. s -ℚ t *ℚ (ratio x e /ℚ ratio (pos p) e)) (ratio_is n d) (ratio_is f d) ∙ ap (λ t. whole n /ℚ whole (pos d) -ℚ whole f /ℚ whole (pos d) *ℚ t) (ratios_divided x (pos p) e above_e some_p))

-- ---- two ratios

module _ (r s : ℤ) (a b d e : ℕ) (above_a : 0 < a) (above_b : 0 < b) (above_d : 0 < d) (above_e : 0 < e) where
  -- at most: the denominators of the lines drop out
  pub compare_most : (ratio r d /ℚ ratio (pos a) d ≤ℚ ratio s e /ℚ ratio (pos b) e) ↔ ((r *ℤ pos b) ≤ℤ (s *ℤ pos a))
  compare_most =
      subst₂ (λ x y. (x ≤ℚ y) ↔ ((r *ℤ pos b) ≤ℤ (s *ℤ pos a))) (sym (divided_line r a d above_d above_a)) (sym (divided_line s b e above_e above_b)) (ratio-≤ℚ r s a b above_a above_b)

  -- below
  pub compare_below : (ratio r d /ℚ ratio (pos a) d <ℚ ratio s e /ℚ ratio (pos b) e) ↔ ((r *ℤ pos b) <ℤ (s *ℤ pos a))
  compare_below =
      subst₂ (λ x y. (x <ℚ y) ↔ ((r *ℤ pos b) <ℤ (s *ℤ pos a))) (sym (divided_line r a d above_d above_a)) (sym (divided_line s b e above_e above_b)) (λ h. Order.lt_means (ratio_means r a above_a) (ratio_means s b above_b) h, λ h. Order.means_lt (ratio_means r a above_a) (ratio_means s b above_b) h)

-- ---- a quotient of two numbers of one line means a fraction of whole numbers

-- a number with the sign of another
abbrev pub with_sign : ℤ → ℤ → ℤ
with_sign (pos f) n = n
with_sign (negsuc f) n = neg_ℤ n

pub quotient_means : (n f : ℤ) (d : ℕ) → 0 < d → f ≢ pos 0 → Means (ratio n d /ℚ ratio f d) (with_sign f n) (nat_abs f)
quotient_means n (pos zero) d above some = absurd (some refl)
quotient_means n (pos (suc f)) d above some =
    subst (λ x. Means x n (suc f)) (sym (divided_line n (suc f) d above (omega arith))) (ratio_means n (suc f) (omega arith))
quotient_means n (negsuc f) d above some =
    let other : whole (pos (suc f)) ≢ whole (pos 0) = whole-≢-zero (suc f) (omega arith) in
    let turned : neg_ℚ (whole (pos (suc f))) ≡ whole (negsuc f) = neg-whole (pos (suc f)) in
    let over : ratio n d /ℚ ratio (negsuc f) d ≡ ratio (neg_ℤ n) (suc f) =
    ratios_divided n (negsuc f) d above (λ e. other (sym (neg_neg (whole (pos (suc f)))) ∙ ap neg_ℚ (turned ∙ e) ∙ neg-whole (pos 0)))
    ∙ ap₂ (λ x y. x /ℚ y) (sym (neg_neg (whole n)) ∙ ap neg_ℚ (neg-whole n)) (sym turned)
    ∙ over_negated (whole (neg_ℤ n)) (whole (pos (suc f))) ∙ sym (ratio_is (neg_ℤ n) (suc f)) in
    subst (λ x. Means x (neg_ℤ n) (suc f)) (sym over) (ratio_means (neg_ℤ n) (suc f) (omega arith))

pub with_sign_within : (f n : ℤ) → nat_abs (with_sign f n) ≡ nat_abs n
with_sign_within (pos f) n = refl
with_sign_within (negsuc f) (pos zero) = refl
with_sign_within (negsuc f) (pos (suc n)) = refl
with_sign_within (negsuc f) (negsuc n) = refl

-- ---- how two ratios compare

map_ranks : {A B C A' B' C' : Type 0} (o : Ordering) → (A → A') → (B → B') → (C → C') → MatchOrdering o A B C → MatchOrdering o A' B' C'
map_ranks Less f g h m = f m
map_ranks Equal f g h m = g m
map_ranks Greater f g h m = h m

pub compare_is : (r s : ℤ) (a b d e : ℕ) → 0 < a → 0 < b → 0 < d → 0 < e → number_cmp (ratio r d /ℚ ratio (pos a) d) (ratio s e /ℚ ratio (pos b) e) ≡ int_cmp (r *ℤ pos b) (s *ℤ pos a)
compare_is r s a b d e above_a above_b above_d above_e =
    let x : Number = ratio r d /ℚ ratio (pos a) d in
    let y : Number = ratio s e /ℚ ratio (pos b) e in
    int_cmp_is (r *ℤ pos b) (s *ℤ pos a) (number_cmp x y)
    (map_ranks (number_cmp x y) (compare_below r s a b d e above_a above_b above_d above_e).0
    (λ same. (ratio-≡ r s a b above_a above_b).0 (sym (divided_line r a d above_d above_a) ∙ same ∙ divided_line s b e above_e above_b))
    (compare_below s r b a e d above_b above_a above_e above_d).0 (number_ranks x y))
