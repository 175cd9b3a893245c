-- The loops over whole numbers, step by step.
use Rattle.std.proofs.Common.{◌≡◌, ◌≢◌, ℕ, zero, suc, ◌+◌, ◌*◌, ◌<◌, ◌≤◌, ◌^◌, inl, inr, ◌-◌, ◌⊎◌, ℤ, pos, ◌-ℤ◌, ◌*ℤ◌, neg_ℤ, nat_abs, List, [], ◌∷◌, length, set, get_or, length-set, get_or-set_same, get_or-set_other, FitsSigned, to_z, of_z, refl, sym, ap, ap₂, ◌∙◌, subst, subst₂, arith}
use Rattle.std.specs.Int.{Width, w64, w128}
use mir.Val.{hbits}
use Rattle.std.proofs.lemmas.Int.{ints, to_z-of_z, fits_signed_from_abs}
use Rattle.std.proofs.lemmas.Bool.{cases_eq, cases_lt}
use Rattle.gq_number.proofs.Whole.{nat_abs-*ℤ}
use Rattle.lp_integers.specs.Lines.{whole_at, AreWithin, CombinationsStayWithin, AreLessenedTo, AreDividedTo, AreNegatedTo, AreLessened, AreOver, AreNegated}

-- past the end the number is 0
pub whole_past : (numbers : List ℤ) (c : ℕ) → length numbers ≤ c → whole_at numbers c ≡ pos 0
whole_past [] c past = refl
whole_past (n ∷ numbers) zero past = absurd (omega arith)
whole_past (n ∷ numbers) (suc c) past = whole_past numbers c (omega arith)

-- within a list the default is not read
pub read_within : (numbers : List ℤ) (c : ℕ) (default : ℤ) → c < length numbers → get_or numbers c default ≡ whole_at numbers c
read_within [] c default within = absurd (omega arith)
read_within (n ∷ numbers) zero default within = refl
read_within (n ∷ numbers) (suc c) default within = read_within numbers c default (omega arith)

difference_within : (u v : ℤ) → nat_abs (u -ℤ v) ≤ nat_abs u + nat_abs v
difference_within u v = omega (arith, ints)

-- the steps on one number stay below a limit
pub record StepsHaveBound (limit : ℕ) (a b n x : ℤ) : Type 0 where
  pub first : nat_abs (a *ℤ n) < limit
  pub second : nat_abs (b *ℤ x) < limit
  pub left : nat_abs (a *ℤ n -ℤ b *ℤ x) < limit

pub steps_have_bound : (limit : ℕ) (a b n x : ℤ) → nat_abs a * nat_abs n + nat_abs b * nat_abs x < limit → StepsHaveBound limit a b n x
steps_have_bound limit a b n x h =
    let e = nat_abs-*ℤ a n in
    let f = nat_abs-*ℤ b x in
    let k = difference_within (a *ℤ n) (b *ℤ x) in
    record { first = omega arith; second = omega arith; left = omega arith }

below_limit : (limit n : ℕ) → 0 < limit → n ≤ limit - 1 → n < limit
below_limit limit n some h = omega arith

-- what is read back of a number that was stored
abbrev pub stored : Width → ℤ → ℤ
stored w z = to_z w (of_z w z)

-- the product of stored numbers is theirs, and it fits if its magnitude is small
module _ (w : Width) (a n : ℤ) (a_fits : FitsSigned w a) (n_fits : FitsSigned w n) where
  pub stored_product : stored w a *ℤ stored w n ≡ a *ℤ n
  stored_product = ap₂ (λ u v. u *ℤ v) (to_z-of_z w a a_fits) (to_z-of_z w n n_fits)

  module _ (small : nat_abs (a *ℤ n) < 2 ^ hbits w) where
    pub product_fits : FitsSigned w (stored w a *ℤ stored w n)
    product_fits = subst (FitsSigned w) (sym stored_product) (fits_signed_from_abs w (a *ℤ n) small)

    pub product_again : stored w (stored w a *ℤ stored w n) ≡ a *ℤ n
    product_again = to_z-of_z w (stored w a *ℤ stored w n) product_fits ∙ stored_product

-- the difference of stored numbers likewise
module _ (w : Width) (a b : ℤ) (a_fits : FitsSigned w a) (b_fits : FitsSigned w b) where
  stored_difference : stored w a -ℤ stored w b ≡ a -ℤ b
  stored_difference = ap₂ (λ u v. u -ℤ v) (to_z-of_z w a a_fits) (to_z-of_z w b b_fits)

  module _ (small : nat_abs (a -ℤ b) < 2 ^ hbits w) where
    pub difference_fits : FitsSigned w (stored w a -ℤ stored w b)
    difference_fits = subst (FitsSigned w) (sym stored_difference) (fits_signed_from_abs w (a -ℤ b) small)

    pub difference_again : stored w (stored w a -ℤ stored w b) ≡ a -ℤ b
    difference_again = to_z-of_z w (stored w a -ℤ stored w b) difference_fits ∙ stored_difference

-- a number of one word is the same in two
pub fits_wider : (z : ℤ) → FitsSigned w64 z → FitsSigned w128 z
fits_wider z h = let small = h.sfits in record { sfits = omega arith }

module _ (z : ℤ) (fits : FitsSigned w64 z) where
  pub wider_fits : FitsSigned w128 (stored w64 z)
  wider_fits = subst (FitsSigned w128) (sym (to_z-of_z w64 z fits)) (fits_wider z fits)

  pub wider_again : stored w128 (stored w64 z) ≡ z
  wider_again = to_z-of_z w128 (stored w64 z) wider_fits ∙ to_z-of_z w64 z fits

-- a number of two words whose magnitude is below 2^63 is the same in one word
pub small_fits : (z : ℤ) (m : ℕ) → FitsSigned w128 z → m ≡ nat_abs (stored w128 z) → m < 2 ^ 63 → FitsSigned w64 (stored w128 z)
small_fits z m fits is less = fits_signed_from_abs w64 (stored w128 z) (subst (λ n. n < 2 ^ 63) is less)

pub small_again : (z : ℤ) (m : ℕ) → FitsSigned w128 z → m ≡ nat_abs (stored w128 z) → m < 2 ^ 63 → stored w64 (stored w128 z) ≡ z
small_again z m fits is less = to_z-of_z w64 (stored w128 z) (small_fits z m fits is less) ∙ to_z-of_z w128 z fits

-- The steps of `lessen` on one number, on numbers that are stored.
module _ (w : Width) (limit : ℕ) (a b n x : ℤ) (some : 0 < limit) (within : nat_abs a * nat_abs n + nat_abs b * nat_abs x ≤ limit - 1) (a_fits : FitsSigned w a) (n_fits : FitsSigned w n) where
  steps : StepsHaveBound limit a b n x
  steps = steps_have_bound limit a b n x (below_limit limit (nat_abs a * nat_abs n + nat_abs b * nat_abs x) some within)

  pub first_below : nat_abs (stored w a *ℤ stored w n) < limit
  first_below = subst₂ (λ u v. nat_abs (u *ℤ v) < limit) (sym (to_z-of_z w a a_fits)) (sym (to_z-of_z w n n_fits)) steps.first

  module _ (b_fits : FitsSigned w b) (x_fits : FitsSigned w x) where
    pub second_below : nat_abs (stored w b *ℤ stored w x) < limit
    second_below = subst₂ (λ u v. nat_abs (u *ℤ v) < limit) (sym (to_z-of_z w b b_fits)) (sym (to_z-of_z w x x_fits)) steps.second

    module _ (first second : ℤ) (first_fits : FitsSigned w first) (second_fits : FitsSigned w second) (first_is : first ≡ stored w a *ℤ stored w n) (second_is : second ≡ stored w b *ℤ stored w x) where
      first_product : stored w first ≡ a *ℤ n
      first_product = to_z-of_z w first first_fits ∙ first_is ∙ stored_product w a n a_fits n_fits

      second_product : stored w second ≡ b *ℤ x
      second_product = to_z-of_z w second second_fits ∙ second_is ∙ stored_product w b x b_fits x_fits

      pub left_below : nat_abs (stored w first -ℤ stored w second) < limit
      left_below = subst₂ (λ u v. nat_abs (u -ℤ v) < limit) (sym first_product) (sym second_product) steps.left

      pub left_is : (left : ℤ) → FitsSigned w left → left ≡ stored w first -ℤ stored w second → stored w left ≡ stored w a *ℤ n -ℤ stored w b *ℤ x
      left_is left left_fits is =
          to_z-of_z w left left_fits ∙ is
          ∙ ap₂ (λ u v. u -ℤ v) (first_product ∙ ap (λ u. u *ℤ n) (sym (to_z-of_z w a a_fits))) (second_product ∙ ap (λ u. u *ℤ x) (sym (to_z-of_z w b b_fits)))

-- one more number is written
module _ (before after : List ℤ) (n : ℕ) (v : ℤ) (within : n < length after) where
  pub written_here : (c : ℕ) → c ≡ n → whole_at (set after n v) c ≡ v
  written_here c same = subst (λ k. whole_at (set after n v) k ≡ v) (sym same) (get_or-set_same after n v (pos 0) within)

  pub written_other : (c : ℕ) → c ≢ n → whole_at (set after n v) c ≡ whole_at after c
  written_other c other = get_or-set_other after n c v (pos 0) other

pub left_within : (a b n x : ℤ) (m : ℕ) → nat_abs a * nat_abs n + nat_abs b * nat_abs x ≤ m → nat_abs (a *ℤ n -ℤ b *ℤ x) ≤ m
left_within a b n x m h =
    let e = nat_abs-*ℤ a n in
    let f = nat_abs-*ℤ b x in
    let k = difference_within (a *ℤ n) (b *ℤ x) in
    omega arith

-- the greater of an old bound and the magnitude of a difference is within what bounds both
pub greater_within : (a b n x v : ℤ) (old most m : ℕ) → v ≡ a *ℤ n -ℤ b *ℤ x → nat_abs a * nat_abs n + nat_abs b * nat_abs x ≤ m → old ≤ m → (most ≡ old) ⊎ (most ≡ nat_abs v) → most ≤ m
greater_within a b n x v old most m is within before one =
    elim one [
      | inl e ↦ subst (λ k. k ≤ m) (sym e) before
      | inr e ↦ subst (λ k. k ≤ m) (sym e) (subst (λ z. nat_abs z ≤ m) (sym is) (left_within a b n x m within))
    ]

pub lessened_more : (a b : ℤ) (before others after : List ℤ) (n most : ℕ) (v : ℤ) (more : ℕ) → AreLessenedTo a b before others after n most → n < length after → v ≡ a *ℤ whole_at before n -ℤ b *ℤ whole_at others n → most ≤ more → nat_abs v ≤ more → ((m : ℕ) → CombinationsStayWithin m a b before others → more ≤ m) → AreLessenedTo a b before others (set after n v) (n + 1) more
lessened_more a b before others after n most v more h within is grows high small =
    record {
      sized = length-set after n v ∙ h.sized;
      done = λ c below. elim (cases_eq c n) [
        | inl same ↦ written_here before after n v within c same ∙ is ∙ ap (λ k. a *ℤ whole_at before k -ℤ b *ℤ whole_at others k) (sym same)
        | inr other ↦ written_other before after n v within c other ∙ h.done c (omega arith)
      ];
      left = λ c from. written_other before after n v within c (λ same. absurd (omega arith)) ∙ h.left c (omega arith);
      within = λ c below. elim (cases_eq c n) [
        | inl same ↦ subst (λ z. nat_abs z ≤ more) (sym (written_here before after n v within c same)) high
        | inr other ↦ subst (λ z. nat_abs z ≤ more) (sym (written_other before after n v within c other)) (let low = h.within c (omega arith) in omega arith)
      ];
      small = small;
    }

pub divided_more : (divisor : ℕ) (before after : List ℤ) (n : ℕ) (v : ℤ) → AreDividedTo divisor before after n → n < length after → v *ℤ pos divisor ≡ whole_at before n → AreDividedTo divisor before (set after n v) (n + 1)
divided_more divisor before after n v h within is =
    record {
      sized = length-set after n v ∙ h.sized;
      done = λ c below. elim (cases_eq c n) [
        | inl same ↦ ap (λ z. z *ℤ pos divisor) (written_here before after n v within c same) ∙ is ∙ ap (whole_at before) (sym same)
        | inr other ↦ ap (λ z. z *ℤ pos divisor) (written_other before after n v within c other) ∙ h.done c (omega arith)
      ];
      left = λ c from. written_other before after n v within c (λ same. absurd (omega arith)) ∙ h.left c (omega arith);
    }

pub negative : (n : ℤ) → pos 0 -ℤ n ≡ neg_ℤ n
negative n = omega (arith, ints)

pub negated_more : (before after : List ℤ) (n : ℕ) (v : ℤ) → AreNegatedTo before after n → n < length after → v ≡ neg_ℤ (whole_at before n) → AreNegatedTo before (set after n v) (n + 1)
negated_more before after n v h within is =
    record {
      sized = length-set after n v ∙ h.sized;
      done = λ c below. elim (cases_eq c n) [
        | inl same ↦ subst (λ k. whole_at (set after n v) k ≡ neg_ℤ (whole_at before k)) (sym same) (get_or-set_same after n v (pos 0) within ∙ is)
        | inr other ↦ get_or-set_other after n c v (pos 0) other ∙ h.done c (omega arith)
      ];
      left = λ c from. get_or-set_other after n c v (pos 0) (λ same. absurd (omega arith)) ∙ h.left c (omega arith);
    }

-- ---- all of them

pub lessened_all : (a b : ℤ) (before others after : List ℤ) (n most : ℕ) → length before ≤ n → AreLessenedTo a b before others after n most → AreLessened a b before others after most
lessened_all a b before others after n most all h =
    record {
      sized = h.sized;
      numbers = λ c less. h.done c (omega arith);
      within = λ c. elim (cases_lt c (length after)) [
        | inl less ↦ h.within c (let e = h.sized in omega arith)
        | inr past ↦ subst (λ z. nat_abs z ≤ most) (sym (whole_past after c (omega arith))) (omega arith)
      ];
      small = h.small;
    }

pub none_over : (d : ℕ) → pos 0 *ℤ pos d ≡ pos 0
none_over d = ap pos (omega arith)

pub divided_all : (divisor : ℕ) (before after : List ℤ) (n : ℕ) → length before ≤ n → AreDividedTo divisor before after n → AreOver divisor before after
divided_all divisor before after n all h =
    record {
      sized = h.sized;
      numbers = λ c. elim (cases_lt c (length before)) [
        | inl less ↦ h.done c (omega arith)
        | inr past ↦ ap (λ z. z *ℤ pos divisor) (whole_past after c (let e = h.sized in omega arith)) ∙ none_over divisor ∙ sym (whole_past before c (omega arith))
      ];
    }

pub negated_all : (before after : List ℤ) (n : ℕ) → length before ≤ n → AreNegatedTo before after n → AreNegated before after
negated_all before after n all h =
    record {
      sized = h.sized;
      numbers = λ c. elim (cases_lt c (length before)) [
        | inl less ↦ h.done c (omega arith)
        | inr past ↦ whole_past after c (let e = h.sized in omega arith) ∙ sym (ap neg_ℤ (whole_past before c (omega arith)))
      ];
    }

-- ---- what stays below a magnitude

magnitude_negated : (n : ℤ) → nat_abs (neg_ℤ n) ≡ nat_abs n
magnitude_negated n = omega (arith, ints)

pub negative_below : (n : ℤ) (limit : ℕ) → nat_abs n < limit → nat_abs (pos 0 -ℤ n) < limit
negative_below n limit h = subst (λ m. m < limit) (sym (ap nat_abs (negative n) ∙ magnitude_negated n)) h

pub negated_within : (before after : List ℤ) (most : ℕ) → AreNegated before after → AreWithin before most → AreWithin after most
negated_within before after most h within = λ c. subst (λ m. m ≤ most) (sym (ap nat_abs (h.numbers c) ∙ magnitude_negated (whole_at before c))) (within c)

pub times_grow : (m k : ℕ) → 0 < k → m ≤ m * k
times_grow m zero some = absurd (omega arith)
times_grow m (suc k) some = omega arith

pub divided_within : (divisor : ℕ) (before after : List ℤ) (most : ℕ) → 0 < divisor → AreOver divisor before after → AreWithin before most → AreWithin after most
divided_within divisor before after most some h within = λ c.
    let is : nat_abs (whole_at after c) * divisor ≡ nat_abs (whole_at before c) = sym (nat_abs-*ℤ (whole_at after c) (pos divisor)) ∙ ap nat_abs (h.numbers c) in
    let extended = times_grow (nat_abs (whole_at after c)) divisor some in
    let low = within c in
    omega arith

pub lessened_within : (a b : ℤ) (before others after : List ℤ) (most m : ℕ) → AreLessened a b before others after most → CombinationsStayWithin m a b before others → AreWithin after m
lessened_within a b before others after most m h within_bound = λ c. let low = h.within c in let high = h.small m within_bound in omega arith

pub cleared_within : (numbers : List ℤ) (place most : ℕ) → AreWithin numbers most → AreWithin (set numbers place (pos 0)) most
cleared_within numbers place most within = λ c.
    elim (cases_lt place (length numbers)) [
      | inl less ↦
          elim (cases_eq c place) [
            | inl same ↦ subst (λ k. nat_abs (whole_at (set numbers place (pos 0)) k) ≤ most) (sym same) (subst (λ z. nat_abs z ≤ most) (sym (get_or-set_same numbers place (pos 0) (pos 0) less)) (omega arith))
            | inr other ↦ subst (λ z. nat_abs z ≤ most) (sym (get_or-set_other numbers place c (pos 0) (pos 0) other)) (within c)
          ]
      | inr past ↦
          elim (cases_eq c place) [
            | inl same ↦ subst (λ z. nat_abs z ≤ most) (sym (whole_past (set numbers place (pos 0)) c (let e = length-set numbers place (pos 0) in omega arith))) (omega arith)
            | inr other ↦ subst (λ z. nat_abs z ≤ most) (sym (get_or-set_other numbers place c (pos 0) (pos 0) other)) (within c)
          ]
    ]

pub same_lessened : {a b p q : ℤ} {before others after first second third : List ℤ} {most : ℕ} → a ≡ p → b ≡ q → before ≡ first → others ≡ second → after ≡ third → AreLessened a b before others after most → AreLessened p q first second third most
same_lessened {a} {b} {p} {q} {before} {others} {after} {first} {second} {third} {most} a_is b_is before_is others_is after_is h =
    subst₂ (λ x y. AreLessened x y first second third most) a_is b_is
    (subst₂ (λ x y. AreLessened a b x y third most) before_is others_is (subst (λ x. AreLessened a b before others x most) after_is h))
