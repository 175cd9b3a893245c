-- What the laws are for: an exchange step of a dictionary, weak duality, the mean of two numbers.
use Rattle.std.proofs.Common.{◌≡◌, ◌≢◌, pos, List, ◌∙◌, subst, arith}
use Rattle.std.specs.List.{All, AllZip}
use Rattle.gq_number.specs.Number.{Number, whole, ◌+ℚ◌, ◌-ℚ◌, ◌*ℚ◌, ◌/ℚ◌, neg_ℚ}
use Rattle.gq_number.specs.Order.{◌≤ℚ◌, ◌<ℚ◌}
use Rattle.gq_number.specs.Sums.{sum_by_ℚ, inner_ℚ, scaled, added, combined, applied}
use Rattle.gq_number.proofs.Ring.{ring_ℚ}
use Rattle.gq_number.proofs.Quotients.{field_ℚ}
use Rattle.gq_number.proofs.Linear.{order_ℚ, ≤ℚ_from, both, times}
use Rattle.gq_number.proofs.Sums.{sums_ℚ, inner_ℚ-added, inner_ℚ-scaled, inner_ℚ_exchanged, inner_ℚ-≤ℚ, inner_ℚ_comm}
use Rattle.gq_number.proofs.Signs.{≢-zero_above, /ℚ-≤ℚ, ≤ℚ-/ℚ}
use Rattle.gq_number.proofs.Naming.{two_is, whole_above}
use Rattle.gq_number.proofs.Order

-- ---- an identity, an inequality and a finite sum

taken_out : (a b c : Number) → (a +ℚ b) *ℚ c -ℚ b *ℚ c ≡ a *ℚ c
taken_out a b c = simp ring_ℚ

of_shares : (a b : Number) → a +ℚ b ≢ whole (pos 0) → a /ℚ (a +ℚ b) +ℚ b /ℚ (a +ℚ b) ≡ whole (pos 1)
of_shares a b some = simp field_ℚ

scaled_up : (a b c : Number) → a ≤ℚ b → whole (pos 0) <ℚ c → a *ℚ c ≤ℚ b *ℚ c
scaled_up a b c h above_c = search order_ℚ

-- a basic value stays at least 0 where the ratio test chose the leaving row
kept_feasible : (b_i b_r a_i a_r : Number) → whole (pos 0) <ℚ a_i → whole (pos 0) <ℚ a_r → b_r /ℚ a_r ≤ℚ b_i /ℚ a_i → whole (pos 0) ≤ℚ b_i -ℚ a_i *ℚ (b_r /ℚ a_r)
kept_feasible b_i b_r a_i a_r above_i above_r h = ≤ℚ_from (times a_i (search order_ℚ) h) (simp (≢-zero_above, field_ℚ))

-- what the costs sum to at another price
repriced : {X : Type 0} (cost amount : X → Number) (k t : Number) (xs : List X) → sum_by_ℚ (λ x. (cost x +ℚ k) *ℚ amount x) xs -ℚ t ≡ sum_by_ℚ (λ x. cost x *ℚ amount x) xs +ℚ k *ℚ sum_by_ℚ amount xs -ℚ t
repriced cost amount k t xs = simp (ring_ℚ, sums_ℚ)

-- ---- an exchange step

-- the leaving row, solved for the entering variable
pub row_solved : (b a x q : Number) (row xs : List Number) → a ≢ whole (pos 0) → x ≡ b -ℚ (a *ℚ q +ℚ inner_ℚ row xs) → q ≡ b /ℚ a -ℚ (x /ℚ a +ℚ inner_ℚ row xs /ℚ a)
row_solved b a x q row xs some e = simp (e, field_ℚ)

-- another row, with the entering variable replaced
pub row_exchanged : (b_r b_i a_r a_i x_r x_i q : Number) (row other xs : List Number) → a_r ≢ whole (pos 0) → x_r ≡ b_r -ℚ (a_r *ℚ q +ℚ inner_ℚ row xs) → x_i ≡ b_i -ℚ (a_i *ℚ q +ℚ inner_ℚ other xs) → x_i ≡ b_i -ℚ a_i *ℚ (b_r /ℚ a_r) -ℚ (neg_ℚ (a_i /ℚ a_r) *ℚ x_r +ℚ inner_ℚ (added other (scaled (neg_ℚ (a_i /ℚ a_r)) row)) xs)
row_exchanged b_r b_i a_r a_i x_r x_i q row other xs some e f = simp (e, f, inner_ℚ-added, inner_ℚ-scaled, field_ℚ)

-- ---- weak duality

pub weak_duality_of_two : (a b c d p q u v x y s t : Number) → whole (pos 0) ≤ℚ x → whole (pos 0) ≤ℚ y → whole (pos 0) ≤ℚ s → whole (pos 0) ≤ℚ t → a *ℚ x +ℚ b *ℚ y ≤ℚ p → c *ℚ x +ℚ d *ℚ y ≤ℚ q → u ≤ℚ s *ℚ a +ℚ t *ℚ c → v ≤ℚ s *ℚ b +ℚ t *ℚ d → u *ℚ x +ℚ v *ℚ y ≤ℚ s *ℚ p +ℚ t *ℚ q
weak_duality_of_two a b c d p q u v x y s t above_x above_y above_s above_t first second left right =
    ≤ℚ_from (both (both (times s above_s first) (times t above_t second)) (both (times x above_x left) (times y above_y right))) (simp ring_ℚ)

-- of any number of rows: what a feasible point earns is at most what feasible prices cost
pub weak_duality : (rows : List (List Number)) (b c x y : List Number) → All (λ t. whole (pos 0) ≤ℚ t) x → All (λ t. whole (pos 0) ≤ℚ t) y → AllZip ◌≤ℚ◌ (applied rows x) b → AllZip ◌≤ℚ◌ c (combined y rows) → inner_ℚ c x ≤ℚ inner_ℚ b y
weak_duality rows b c x y above_x above_y primal dual =
    Order.≤ℚ_trans _ (inner_ℚ (combined y rows) x) _ (inner_ℚ-≤ℚ c (combined y rows) x above_x dual)
    (subst (λ w. w ≤ℚ inner_ℚ b y) (inner_ℚ_comm (applied rows x) y ∙ inner_ℚ_exchanged y rows x) (inner_ℚ-≤ℚ (applied rows x) b y above_y primal))

-- ---- the mean of two numbers

two_above : whole (pos 0) <ℚ whole (pos 2)
two_above = whole_above 2 (omega arith)

pub mean_between : (a b : Number) → a ≤ℚ b → (a ≤ℚ (a +ℚ b) /ℚ whole (pos 2)) × ((a +ℚ b) /ℚ whole (pos 2) ≤ℚ b)
mean_between a b h =
    ((≤ℚ-/ℚ a (a +ℚ b) (whole (pos 2)) two_above).1 (≤ℚ_from h (simp (two_is, ring_ℚ))), (/ℚ-≤ℚ (a +ℚ b) (whole (pos 2)) b two_above).1 (≤ℚ_from h (simp (two_is, ring_ℚ))))
