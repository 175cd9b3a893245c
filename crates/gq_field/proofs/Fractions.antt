-- The numbers of fractions by sign and magnitude.
use Rattle.std.proofs.Common.{◌≡◌, ℕ, zero, suc, ◌*◌, ◌/◌, ◌<◌, ◌≤◌, Bool, true, false, not, ◌&&◌, nat_le, ℤ, pos, ◌*ℤ◌, neg_ℤ, nat_abs, refl, sym, ap, ◌∙◌, subst, arith, mul_comm, Result, Ok, Err, IsErr, true≢false}
use Rattle.std.proofs.lemmas.Bool.Decides.{nat_tests}
use Rattle.std.proofs.Math.Nat.{dvd-mul_right, pos_of_dvd_of_pos}
use Rattle.std.proofs.Math.IntN.{*ℤ_comm, neg_ℤ-neg_ℤ}
use Rattle.std.specs.Int.{◌∣◌}
use mathlib.Core.Bool.{beq}
use Rattle.gq_number.specs.Gcd.{gcd}
use Rattle.gq_number.specs.Reduced.{IsReduced}
use Rattle.gq_number.specs.Number.{Number, ratio}
use Rattle.gq_number.proofs.Gcd.{gcd-times_left, gcd-times_right}
use Rattle.gq_number.proofs.Whole.{neg_ℤ-*ℤ}
use Rattle.gq_number.proofs.Means.{number_from_parts, same_by_means, means_itself, ratio_means}
use Rattle.gq_field.specs.declared.fraction.Fraction.{Fraction}
use Rattle.gq_field.specs.Fits.{fits, Answers}
use Rattle.gq_field.specs.declared.field.Limit.{Limit}
use Rattle.gq_field.specs.Values.{fraction_value, signed, signed_reduced}

-- the number has this sign, this magnitude above and this denominator
pub record Shows (v : Number) (negative : Bool) (magnitude denominator : ℕ) : Type 0 where
  pub above : v.numerator ≡ signed negative magnitude
  pub below : v.denominator ≡ denominator

pub fraction_shows : (f : Fraction) → Shows (fraction_value f) f.negative f.magnitude f.denominator
unfolding fraction_value
fraction_shows f = record { above = refl; below = refl }

pub value_from_shows : (f : Fraction) (v : Number) → Shows v f.negative f.magnitude f.denominator → fraction_value f ≡ v
unfolding fraction_value
value_from_shows f v h = number_from_parts (fraction_value f) v (sym h.above) (sym h.below)

pub nat_abs-signed : (s : Bool) (m : ℕ) → nat_abs (signed s m) ≡ m
nat_abs-signed false m = refl
nat_abs-signed true zero = refl
nat_abs-signed true (suc m) = refl

pub fits_shown : {v : Number} {s : Bool} {m d : ℕ} (limit : ℕ) → Shows v s m d → fits limit v ≡ (nat_le m limit && nat_le d limit)
fits_shown {v} {s} {m} {d} limit h =
    ap (λ k. nat_le k limit && nat_le v.denominator limit) (ap nat_abs h.above ∙ nat_abs-signed s m) ∙ ap (λ k. nat_le m limit && nat_le k limit) h.below

pub fits_yes : {v : Number} {s : Bool} {m d : ℕ} (limit : ℕ) → Shows v s m d → m ≤ limit → d ≤ limit → fits limit v ≡ true
fits_yes {v} {s} {m} {d} limit h p q = fits_shown limit h ∙ grind (arith, nat_tests)

pub too_high : {v : Number} {s : Bool} {m d : ℕ} (limit : ℕ) → Shows v s m d → ¬ (m ≤ limit) → fits limit v ≡ false
too_high {v} {s} {m} {d} limit h p = fits_shown limit h ∙ grind (arith, nat_tests)

pub too_low : {v : Number} {s : Bool} {m d : ℕ} (limit : ℕ) → Shows v s m d → ¬ (d ≤ limit) → fits limit v ≡ false
too_low {v} {s} {m} {d} limit h q = fits_shown limit h ∙ grind (arith, nat_tests)

-- an answer that gives up is right where the test fails
pub answers_err : {F : Type 0} (value : F → Number) (test : Bool) (x : Number) (r : Result F Limit) → IsErr r → test ≡ false → Answers value r test x
answers_err value test x (Ok y) gave_up fails = absurd (true≢false (sym gave_up))
answers_err value test x (Err e) gave_up fails = fails

-- a fraction that a number means, if it is reduced, shows that number
pub ratio_shows : (s : Bool) (m d : ℕ) (n : ℤ) (e : ℕ) → IsReduced (pos m) d → 0 < e → signed s m *ℤ pos e ≡ n *ℤ pos d → Shows (ratio n e) s m d
ratio_shows s m d n e r pos_e cross =
    let x : Number = record { numerator = signed s m; denominator = d; reduced = signed_reduced s m d r } in
    let same : ratio n e ≡ x = same_by_means (ratio_means n e pos_e) (means_itself x) (sym cross) in
    record { above = ap (λ (v : Number). v.numerator) same; below = ap (λ (v : Number). v.denominator) same }

-- the parts that a number shows are reduced
pub shown_reduced : {v : Number} {s : Bool} {m d : ℕ} → Shows v s m d → IsReduced (pos m) d
shown_reduced {v} {s} {m} {d} h =
    record {
      coprime = ap (λ k. gcd k d) (sym (nat_abs-signed s m) ∙ ap nat_abs (sym h.above)) ∙ ap (λ k. gcd (nat_abs v.numerator) k) (sym h.below) ∙ v.reduced.coprime;
      positive = subst (λ k. 0 < k) h.below v.reduced.positive;
    }

pub signed-times : (s : Bool) (m k : ℕ) → signed s m *ℤ pos k ≡ signed s (m * k)
signed-times false m k = refl
signed-times true m k = neg_ℤ-*ℤ (pos m) (pos k)

pos-times-neg : (m k : ℕ) → pos m *ℤ neg_ℤ (pos k) ≡ neg_ℤ (pos (m * k))
pos-times-neg m k = *ℤ_comm (pos m) (neg_ℤ (pos k)) ∙ neg_ℤ-*ℤ (pos k) (pos m) ∙ ap (λ n. neg_ℤ (pos n)) (mul_comm k m)

pub signed-*ℤ : (s t : Bool) (m k : ℕ) → signed s m *ℤ signed t k ≡ signed (not (beq s t)) (m * k)
signed-*ℤ false false m k = refl
signed-*ℤ false true m k = pos-times-neg m k
signed-*ℤ true false m k = neg_ℤ-*ℤ (pos m) (pos k)
signed-*ℤ true true m k =
    neg_ℤ-*ℤ (pos m) (neg_ℤ (pos k)) ∙ ap neg_ℤ (pos-times-neg m k) ∙ neg_ℤ-neg_ℤ (pos (m * k))

-- ---- what is left of two numbers after their greatest common divisor is taken out divides them

pub rest_left : (a b : ℕ) → a / gcd a b ∣ a
rest_left a b = subst (λ n. a / gcd a b ∣ n) (gcd-times_left a b) (dvd-mul_right (a / gcd a b) (gcd a b))

pub rest_right : (a b : ℕ) → b / gcd a b ∣ b
rest_right a b = subst (λ n. b / gcd a b ∣ n) (gcd-times_right a b) (dvd-mul_right (b / gcd a b) (gcd a b))

pub rest_pos : (a b : ℕ) → 0 < b → 0 < b / gcd a b
rest_pos a b pos_b = pos_of_dvd_of_pos (rest_right a b) pos_b
