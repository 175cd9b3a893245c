-- An exchange of a dictionary with variable 0 deferred is an exchange of the stored rows.
use Rattle.std.proofs.Common.{◌≡◌, ◌≢◌, ℕ, ◌+◌, ◌==◌, ◌&&◌, inl, inr, pos, cond, refl, sym, ap, ap₂, ◌∙◌, subst}
use Rattle.std.proofs.lemmas.Bool.{cases_eq, eq-eqb, ne_eqb}
use Rattle.gq_number.specs.Number.{Number, whole, ◌-ℚ◌, ◌*ℚ◌, ◌/ℚ◌, neg_ℚ, inv_ℚ}
use Rattle.gq_number.proofs.Field.{/ℚ_is}
use Rattle.gq_number.proofs.Ring.{ring_ℚ, neg_neg, neg-*ℚ, *ℚ-neg, zero-*ℚ}
use Rattle.gq_number.proofs.Quotients.{field_ℚ, /ℚ-≡, zero-/ℚ, inv-neg, neg-≢-zero}
use Rattle.lp_core.specs.Dictionary.{Dictionary, basic_at, entry_at, exchanged}
use Rattle.lp_integer_rows.specs.Turning.{turned_at, swapped, with_row_negated, IsDeferredExchange}

-- ---- numbers

-- a divisor that both have is left out
pub over_same : (x y z : Number) → y ≢ whole (pos 0) → z ≢ whole (pos 0) → (x /ℚ z) /ℚ (y /ℚ z) ≡ x /ℚ y
over_same x y z some_y some_z = simp field_ℚ

-- both negated
pub over_negated : (x y : Number) → neg_ℚ x /ℚ neg_ℚ y ≡ x /ℚ y
over_negated x y =
    /ℚ_is (neg_ℚ x) (neg_ℚ y) ∙ ap (λ t. neg_ℚ x *ℚ t) (inv-neg y) ∙ *ℚ-neg (neg_ℚ x) (inv_ℚ y) ∙ ap neg_ℚ (neg-*ℚ x (inv_ℚ y)) ∙ neg_neg (x *ℚ inv_ℚ y) ∙ sym (/ℚ_is x y)

-- a quotient is 0 only where what is divided is
pub quotient_some : (x y : Number) → x ≢ whole (pos 0) → y ≢ whole (pos 0) → x /ℚ y ≢ whole (pos 0)
quotient_some x y some_x some_y e = some_x ((/ℚ-≡ x y (whole (pos 0)) some_y).0 e ∙ zero-*ℚ y)

divided_some : (x y : Number) → x /ℚ y ≢ whole (pos 0) → x ≢ whole (pos 0)
divided_some x y some e = some (ap (λ t. t /ℚ y) e ∙ zero-/ℚ y)

taken : (a b c z : Number) → z ≢ whole (pos 0) → a -ℚ b *ℚ (c /ℚ z) ≡ (a *ℚ z -ℚ b *ℚ c) /ℚ z
taken a b c z some = simp field_ℚ

taken_negated : (a b c z : Number) → z ≢ whole (pos 0) → a -ℚ b *ℚ (c /ℚ z) ≡ neg_ℚ (b *ℚ c -ℚ a *ℚ z) /ℚ z
taken_negated a b c z some = simp field_ℚ

own_other : (kz kq kc iz iq ic : Number) → kz ≢ whole (pos 0) → kq ≢ whole (pos 0) → ic -ℚ iz *ℚ (kc /ℚ kz) -ℚ (iq -ℚ iz *ℚ (kq /ℚ kz)) *ℚ (kc /ℚ kq) ≡ ic -ℚ iq *ℚ (kc /ℚ kq)
own_other kz kq kc iz iq ic some_z some_q = simp field_ℚ

cleared : (a b w e : Number) → e ≢ whole (pos 0) → (a -ℚ b *ℚ (w /ℚ e)) *ℚ e ≡ a *ℚ e -ℚ b *ℚ w
cleared a b w e some = simp field_ℚ

-- the numbers at k and l of the columns z, q and c, by their determinant
module _ (kz kq kc lz lq lc : Number) (some_z : kz ≢ whole (pos 0)) (some_q : kq ≢ whole (pos 0)) where
  abbrev determinant : Number
  determinant = lq *ℚ kz -ℚ lz *ℚ kq

  abbrev first : Number
  first = lc *ℚ kz -ℚ lz *ℚ kc

  abbrev second : Number
  second = lq *ℚ kc -ℚ lc *ℚ kq

  first_parts : first ≡ (kc /ℚ kq) *ℚ determinant -ℚ (kz /ℚ kq) *ℚ second
  first_parts = simp field_ℚ

  second_parts : second ≡ (kc /ℚ kz) *ℚ determinant -ℚ (kq /ℚ kz) *ℚ first
  second_parts = simp field_ℚ

  pub determinant_some : lq -ℚ lz *ℚ (kq /ℚ kz) ≢ whole (pos 0) → determinant ≢ whole (pos 0)
  determinant_some some = divided_some determinant kz (λ e. some (taken lq lz kq kz some_z ∙ e))

  module _ (some : determinant ≢ whole (pos 0)) where
    pub first_by_second : first /ℚ determinant ≡ kc /ℚ kq -ℚ (kz /ℚ kq) *ℚ (second /ℚ determinant)
    first_by_second =
        (/ℚ-≡ first determinant (kc /ℚ kq -ℚ (kz /ℚ kq) *ℚ (second /ℚ determinant)) some).1
        (first_parts ∙ sym (cleared (kc /ℚ kq) (kz /ℚ kq) second determinant some))

    pub second_by_first : second /ℚ determinant ≡ kc /ℚ kz -ℚ (kq /ℚ kz) *ℚ (first /ℚ determinant)
    second_by_first =
        (/ℚ-≡ second determinant (kc /ℚ kz -ℚ (kq /ℚ kz) *ℚ (first /ℚ determinant)) some).1
        (second_parts ∙ sym (cleared (kc /ℚ kz) (kq /ℚ kz) first determinant some))

    -- what row l is divided to, after the exchange in row k of z, and of q
    pub first_is : (lc -ℚ lz *ℚ (kc /ℚ kz)) /ℚ (lq -ℚ lz *ℚ (kq /ℚ kz)) ≡ first /ℚ determinant
    first_is =
        ap₂ (λ x y. x /ℚ y) (taken lc lz kc kz some_z) (taken lq lz kq kz some_z) ∙ over_same first determinant kz some some_z

    pub second_is : (lc -ℚ lq *ℚ (kc /ℚ kq)) /ℚ (lz -ℚ lq *ℚ (kz /ℚ kq)) ≡ second /ℚ determinant
    second_is =
        ap₂ (λ x y. x /ℚ y) (taken_negated lc lq kc kq some_q) (taken_negated lz lq kz kq some_q)
        ∙ over_same (neg_ℚ second) (neg_ℚ determinant) kq (neg-≢-zero determinant some) some_q ∙ over_negated second determinant

    pub entry_some : lz -ℚ lq *ℚ (kz /ℚ kq) ≢ whole (pos 0)
    entry_some e =
        quotient_some (neg_ℚ determinant) kq (neg-≢-zero determinant some) some_q (sym (taken_negated lz lq kz kq some_q) ∙ e)

balanced_left : (ic iz iq u v r : Number) → ic -ℚ iz *ℚ u -ℚ (iq -ℚ iz *ℚ v) *ℚ r ≡ ic -ℚ iz *ℚ (u -ℚ v *ℚ r) -ℚ iq *ℚ r
balanced_left ic iz iq u v r = simp ring_ℚ

balanced_right : (ic iz iq x y s : Number) → ic -ℚ iz *ℚ s -ℚ iq *ℚ (x -ℚ y *ℚ s) ≡ ic -ℚ iq *ℚ x -ℚ (iz -ℚ iq *ℚ y) *ℚ s
balanced_right ic iz iq x y s = simp ring_ℚ

balanced : (ic iz iq u v x y r s : Number) → s ≡ u -ℚ v *ℚ r → r ≡ x -ℚ y *ℚ s → ic -ℚ iz *ℚ u -ℚ (iq -ℚ iz *ℚ v) *ℚ r ≡ ic -ℚ iq *ℚ x -ℚ (iz -ℚ iq *ℚ y) *ℚ s
balanced ic iz iq u v x y r s e f =
    balanced_left ic iz iq u v r ∙ ap₂ (λ a b. ic -ℚ iz *ℚ a -ℚ iq *ℚ b) (sym e) f ∙ balanced_right ic iz iq x y s

-- ---- matrices

same_less : (a b x y a' b' x' y' : Number) → a ≡ a' → b ≡ b' → x ≡ x' → y ≡ y' → a -ℚ b *ℚ (x /ℚ y) ≡ a' -ℚ b' *ℚ (x' /ℚ y')
same_less a b x y a' b' x' y' e f g h =
    ap₂ (λ s t. s -ℚ t *ℚ (x /ℚ y)) e f ∙ ap₂ (λ s t. a' -ℚ b' *ℚ (s /ℚ t)) g h

pub turned_row : (n : ℕ → ℕ → Number) (q k c : ℕ) → turned_at n q k k c ≡ n k c /ℚ n k q
turned_row n q k c = ap (λ b. cond b (n k c /ℚ n k q) (n k c -ℚ n k q *ℚ (n k c /ℚ n k q))) (eq-eqb k k refl)

pub turned_other : (n : ℕ → ℕ → Number) (q k i c : ℕ) → i ≢ k → turned_at n q k i c ≡ n i c -ℚ n i q *ℚ (n k c /ℚ n k q)
turned_other n q k i c other = ap (λ b. cond b (n k c /ℚ n k q) (n i c -ℚ n i q *ℚ (n k c /ℚ n k q))) (ne_eqb i k other)

-- the same numbers are turned to the same
pub turned_same : (n m : ℕ → ℕ → Number) (q k i c : ℕ) → ((j v : ℕ) → n j v ≡ m j v) → turned_at n q k i c ≡ turned_at m q k i c
turned_same n m q k i c e =
    ap₂ (λ x y. cond (i == k) x y) (ap₂ (λ x y. x /ℚ y) (e k c) (e k q)) (same_less (n i c) (n i q) (n k c) (n k q) (m i c) (m i q) (m k c) (m k q) (e i c) (e i q) (e k c) (e k q))

pub swapped_first : (n : ℕ → ℕ → Number) (k l c : ℕ) → swapped n k l k c ≡ n l c
swapped_first n k l c = ap (λ b. n (cond b l (cond (k == l) k k)) c) (eq-eqb k k refl)

pub swapped_second : (n : ℕ → ℕ → Number) (k l c : ℕ) → l ≢ k → swapped n k l l c ≡ n k c
swapped_second n k l c apart =
    ap (λ b. n (cond b l (cond (l == l) k l)) c) (ne_eqb l k apart) ∙ ap (λ b. n (cond b k l) c) (eq-eqb l l refl)

pub swapped_third : (n : ℕ → ℕ → Number) (k l i c : ℕ) → i ≢ k → i ≢ l → swapped n k l i c ≡ n i c
swapped_third n k l i c first second =
    ap (λ b. n (cond b l (cond (i == l) k i)) c) (ne_eqb i k first) ∙ ap (λ b. n (cond b k i) c) (ne_eqb i l second)

-- ---- two exchanges in one row

pub own : (n : ℕ → ℕ → Number) (z q k i c : ℕ) → n k z ≢ whole (pos 0) → n k q ≢ whole (pos 0) → turned_at (turned_at n z k) q k i c ≡ turned_at n q k i c
own n z q k i c some_z some_q =
    let row : turned_at n z k k c /ℚ turned_at n z k k q ≡ n k c /ℚ n k q =
    ap₂ (λ x y. x /ℚ y) (turned_row n z k c) (turned_row n z k q) ∙ over_same (n k c) (n k q) (n k z) some_q some_z in
    elim (cases_eq i k) [
      | inl same ↦ subst (λ j. turned_at (turned_at n z k) q k j c ≡ turned_at n q k j c) (sym same) (turned_row (turned_at n z k) q k c ∙ row ∙ sym (turned_row n q k c))
      | inr other ↦
          turned_other (turned_at n z k) q k i c other
          ∙ ap (λ y. turned_at n z k i c -ℚ turned_at n z k i q *ℚ y) row
          ∙ ap₂ (λ x y. x -ℚ y *ℚ (n k c /ℚ n k q)) (turned_other n z k i c other) (turned_other n z k i q other)
          ∙ own_other (n k z) (n k q) (n k c) (n i z) (n i q) (n i c) some_z some_q ∙ sym (turned_other n q k i c other)
    ]

-- ---- a row that is negated before it is divided

negated_row : (n : ℕ → ℕ → Number) (z k c : ℕ) → with_row_negated n k k c /ℚ with_row_negated n k k z ≡ n k c /ℚ n k z
negated_row n z k c =
    ap₂ (λ x y. x /ℚ y) (ap (λ b. cond b (neg_ℚ (n k c)) (n k c)) (eq-eqb k k refl)) (ap (λ b. cond b (neg_ℚ (n k z)) (n k z)) (eq-eqb k k refl)) ∙ over_negated (n k c) (n k z)

pub turned_negated : (n : ℕ → ℕ → Number) (z k i c : ℕ) → turned_at (with_row_negated n k) z k i c ≡ turned_at n z k i c
turned_negated n z k i c =
    elim (cases_eq i k) [
      | inl same ↦ subst (λ j. turned_at (with_row_negated n k) z k j c ≡ turned_at n z k j c) (sym same) (turned_row (with_row_negated n k) z k c ∙ negated_row n z k c ∙ sym (turned_row n z k c))
      | inr other ↦
          turned_other (with_row_negated n k) z k i c other
          ∙ ap (λ y. with_row_negated n k i c -ℚ with_row_negated n k i z *ℚ y) (negated_row n z k c)
          ∙ ap₂ (λ x y. x -ℚ y *ℚ (n k c /ℚ n k z)) (ap (λ b. cond b (neg_ℚ (n i c)) (n i c)) (ne_eqb i k other)) (ap (λ b. cond b (neg_ℚ (n i z)) (n i z)) (ne_eqb i k other))
          ∙ sym (turned_other n z k i c other)
    ]

-- ---- two exchanges in two rows

module _ (n : ℕ → ℕ → Number) (z q k l : ℕ) (apart : l ≢ k) (some_z : n k z ≢ whole (pos 0)) (some_q : n k q ≢ whole (pos 0)) (some_entry : turned_at n z k l q ≢ whole (pos 0)) where
  abbrev above_all : ℕ → ℕ → Number
  above_all = turned_at n z k

  abbrev below_all : ℕ → ℕ → Number
  below_all = swapped (turned_at n q k) k l

  some : determinant (n k z) (n k q) (whole (pos 0)) (n l z) (n l q) (whole (pos 0)) some_z some_q ≢ whole (pos 0)
  some =
      determinant_some (n k z) (n k q) (whole (pos 0)) (n l z) (n l q) (whole (pos 0)) some_z some_q (λ e. some_entry (turned_other n z k l q apart ∙ e))

  below_some : below_all k z ≢ whole (pos 0)
  below_some e =
      entry_some (n k z) (n k q) (whole (pos 0)) (n l z) (n l q) (whole (pos 0)) some_z some_q some (sym (turned_other n q k l z apart) ∙ sym (swapped_first (turned_at n q k) k l z) ∙ e)

  module _ (c : ℕ) where
    abbrev left : Number
    left = first (n k z) (n k q) (n k c) (n l z) (n l q) (n l c) some_z some_q /ℚ determinant (n k z) (n k q) (n k c) (n l z) (n l q) (n l c) some_z some_q

    abbrev right : Number
    right = second (n k z) (n k q) (n k c) (n l z) (n l q) (n l c) some_z some_q /ℚ determinant (n k z) (n k q) (n k c) (n l z) (n l q) (n l c) some_z some_q

    right_by_left : right ≡ n k c /ℚ n k z -ℚ (n k q /ℚ n k z) *ℚ left
    right_by_left = second_by_first (n k z) (n k q) (n k c) (n l z) (n l q) (n l c) some_z some_q some

    left_by_right : left ≡ n k c /ℚ n k q -ℚ (n k z /ℚ n k q) *ℚ right
    left_by_right = first_by_second (n k z) (n k q) (n k c) (n l z) (n l q) (n l c) some_z some_q some

    above_row : above_all l c /ℚ above_all l q ≡ left
    above_row =
        ap₂ (λ x y. x /ℚ y) (turned_other n z k l c apart) (turned_other n z k l q apart)
        ∙ first_is (n k z) (n k q) (n k c) (n l z) (n l q) (n l c) some_z some_q some

    below_row : below_all k c /ℚ below_all k z ≡ right
    below_row =
        ap₂ (λ x y. x /ℚ y) (swapped_first (turned_at n q k) k l c ∙ turned_other n q k l c apart) (swapped_first (turned_at n q k) k l z ∙ turned_other n q k l z apart)
        ∙ second_is (n k z) (n k q) (n k c) (n l z) (n l q) (n l c) some_z some_q some

    at_first : turned_at above_all q l k c ≡ turned_at below_all z k k c
    at_first =
        turned_other above_all q l k c (λ e. apart (sym e))
        ∙ ap (λ y. above_all k c -ℚ above_all k q *ℚ y) above_row
        ∙ ap₂ (λ x y. x -ℚ y *ℚ left) (turned_row n z k c) (turned_row n z k q)
        ∙ sym right_by_left ∙ sym below_row ∙ sym (turned_row below_all z k c)

    at_second : turned_at above_all q l l c ≡ turned_at below_all z k l c
    at_second =
        turned_row above_all q l c ∙ above_row ∙ left_by_right
        ∙ sym (ap₂ (λ x y. x -ℚ y *ℚ right) (swapped_second (turned_at n q k) k l c apart ∙ turned_row n q k c) (swapped_second (turned_at n q k) k l z apart ∙ turned_row n q k z))
        ∙ sym (ap (λ y. below_all l c -ℚ below_all l z *ℚ y) below_row)
        ∙ sym (turned_other below_all z k l c apart)

    at_third : (i : ℕ) → i ≢ k → i ≢ l → turned_at above_all q l i c ≡ turned_at below_all z k i c
    at_third i not_first not_second =
        turned_other above_all q l i c not_second
        ∙ ap (λ y. above_all i c -ℚ above_all i q *ℚ y) above_row
        ∙ ap₂ (λ x y. x -ℚ y *ℚ left) (turned_other n z k i c not_first) (turned_other n z k i q not_first)
        ∙ balanced (n i c) (n i z) (n i q) (n k c /ℚ n k z) (n k q /ℚ n k z) (n k c /ℚ n k q) (n k z /ℚ n k q) left right right_by_left left_by_right
        ∙ sym (ap₂ (λ x y. x -ℚ y *ℚ right) (swapped_third (turned_at n q k) k l i c not_first not_second ∙ turned_other n q k i c not_first) (swapped_third (turned_at n q k) k l i z not_first not_second ∙ turned_other n q k i z not_first))
        ∙ sym (ap (λ y. below_all i c -ℚ below_all i z *ℚ y) below_row)
        ∙ sym (turned_other below_all z k i c not_first)

  pub other : (i c : ℕ) → turned_at above_all q l i c ≡ turned_at below_all z k i c
  other i c =
      elim (cases_eq i k) [
        | inl same ↦ subst (λ j. turned_at above_all q l j c ≡ turned_at below_all z k j c) (sym same) (at_first c)
        | inr not_first ↦
            elim (cases_eq i l) [
              | inl same ↦ subst (λ j. turned_at above_all q l j c ≡ turned_at below_all z k j c) (sym same) (at_second c)
              | inr not_second ↦ at_third c i not_first not_second
            ]
      ]

  pub other_some : swapped (turned_at n q k) k l k z ≢ whole (pos 0)
  other_some = below_some

-- ---- dictionaries

module _ (d : Dictionary) (kept : ℕ → ℕ → Number) (q k : ℕ) (a : IsDeferredExchange d kept k) (enters : entry_at d k q ≢ whole (pos 0)) where
  kept_some : kept k (q + 1) ≢ whole (pos 0)
  kept_some =
      divided_some (kept k (q + 1)) (kept k 1) (λ e. enters (a.numbers k (q + 1) ∙ turned_row kept 1 k (q + 1) ∙ e))

  pub above : (l : ℕ) → l ≢ k → basic_at d l ≢ 0 → entry_at d l q ≢ whole (pos 0) → IsDeferredExchange (exchanged d q l) (swapped (turned_at kept (q + 1) k) k l) k
  above l apart stays leaves =
      let there : turned_at kept 1 k l (q + 1) ≢ whole (pos 0) = λ e. leaves (a.numbers l (q + 1) ∙ e) in
      record {
        some = other_some kept 1 (q + 1) k l apart a.some kept_some there;
        numbers = λ i c.
            ap (λ b. cond (b && (c == 1)) (whole (pos 0)) (turned_at d.numbers (q + 1) l i c)) (ne_eqb (basic_at d l) 0 stays)
            ∙ turned_same d.numbers (turned_at kept 1 k) (q + 1) l i c a.numbers
            ∙ other kept 1 (q + 1) k l apart a.some kept_some there i c;
      }

  pub leaves : (i c : ℕ) → basic_at d k ≡ 0 → (exchanged d q k).numbers i c ≡ cond (c == 1) (whole (pos 0)) (turned_at kept (q + 1) k i c)
  leaves i c is =
      ap (λ b. cond (b && (c == 1)) (whole (pos 0)) (turned_at d.numbers (q + 1) k i c)) (eq-eqb (basic_at d k) 0 is)
      ∙ ap (λ x. cond (c == 1) (whole (pos 0)) x) (turned_same d.numbers (turned_at kept 1 k) (q + 1) k i c a.numbers ∙ own kept 1 (q + 1) k i c a.some kept_some)
