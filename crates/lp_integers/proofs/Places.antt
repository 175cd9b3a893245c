-- The places at which a list has numbers other than 0, and what is subtracted from numbers there.
use Rattle.std.proofs.Common.{◌≡◌, ◌≢◌, ◌⊎◌, ℕ, zero, suc, ◌+◌, ◌*◌, ◌-◌, ◌<◌, ◌≤◌, ◌^◌, inl, inr, ℤ, pos, negsuc, ◌-ℤ◌, ◌*ℤ◌, neg_ℤ, nat_abs, List, [], ◌∷◌, ◌++◌, length, set, get_or, length-set, Some, refl, sym, ap, ◌∙◌, subst, arith}
use Rattle.std.specs.Prelude.{slice_get}
use Rattle.std.proofs.lemmas.Bool.{cases_eq}
use Rattle.std.proofs.lemmas.Int.{ints}
use Rattle.std.proofs.lemmas.Option.{slice_get_within, slice_get-get_or}
use Rattle.gq_number.proofs.Whole.{nat_abs-*ℤ}
use Rattle.lp_integers.specs.Lines.{whole_at, AreWithin, CombinationsStayWithin, ArePlaces, AreLessenedAt, AreLessenedFrom}
use Rattle.lp_integers.proofs.Lines.{written_here, written_other}

-- ---- the places

same_place : (c d : ℕ) → Some c ≡ Some d → c ≡ d
same_place c d h = cc

-- one more at the end: it is the last, and those before it stay
last_of : (xs : List ℕ) (x : ℕ) → slice_get (xs ++ x ∷ []) (length xs) ≡ Some x
last_of [] x = refl
last_of (y ∷ xs) x = last_of xs x

before_last : (xs : List ℕ) (x i c : ℕ) → slice_get xs i ≡ Some c → slice_get (xs ++ x ∷ []) i ≡ Some c
before_last [] x i c at = absurd (cc)
before_last (y ∷ xs) x zero c at = at
before_last (y ∷ xs) x (suc i) c at = before_last xs x i c at

one_of : (xs : List ℕ) (x i c : ℕ) → slice_get (xs ++ x ∷ []) i ≡ Some c → (slice_get xs i ≡ Some c) ⊎ ((i ≡ length xs) × (c ≡ x))
one_of [] x zero c at = inr (refl, cc)
one_of [] x (suc i) c at = absurd (cc)
one_of (y ∷ xs) x zero c at = inl at
one_of (y ∷ xs) x (suc i) c at =
    elim (one_of xs x i c at) [
      | inl there ↦ inl there
      | inr last ↦ inr (let e = last.0 in omega arith, last.1)
    ]

pub places_none : (numbers : List ℤ) → ArePlaces numbers 0 []
places_none numbers =
    record {
      some = λ i c at. absurd (cc);
      apart = λ i j c at. absurd (cc);
      all = λ c less. absurd (omega arith);
    }

pub places_more : (numbers : List ℤ) (n : ℕ) (places : List ℕ) → ArePlaces numbers n places → whole_at numbers n ≢ pos 0 → ArePlaces numbers (n + 1) (places ++ n ∷ [])
places_more numbers n places h here =
    record {
      some = λ i c at. elim (one_of places n i c at) [
        | inl before ↦ let told = h.some i c before in (let low = told.0 in omega arith, told.1)
        | inr last ↦ (let e = last.1 in omega arith, subst (λ k. whole_at numbers k ≢ pos 0) (sym last.1) here)
      ];
      apart = λ i j c at also. elim (one_of places n i c at) [
        | inl first ↦ elim (one_of places n j c also) [
          | inl second ↦ h.apart i j c first second
          | inr last ↦ absurd (let low = (h.some i c first).0 in let e = last.1 in omega arith)
        ]
        | inr last ↦ elim (one_of places n j c also) [
          | inl second ↦ absurd (let low = (h.some j c second).0 in let e = last.1 in omega arith)
          | inr other ↦ last.0 ∙ sym other.0
        ]
      ];
      all = λ c less some. elim (cases_eq c n) [
        | inl same ↦ (length places, subst (λ k. slice_get (places ++ n ∷ []) (length places) ≡ Some k) (sym same) (last_of places n))
        | inr other ↦ let found = h.all c (omega arith) some in (found.0, before_last places n found.0 c found.1)
      ];
    }

pub places_past : (numbers : List ℤ) (n : ℕ) (places : List ℕ) → ArePlaces numbers n places → whole_at numbers n ≡ pos 0 → ArePlaces numbers (n + 1) places
places_past numbers n places h none =
    record {
      some = λ i c at. let told = h.some i c at in (let low = told.0 in omega arith, told.1);
      apart = h.apart;
      all = λ c less some. elim (cases_eq c n) [
        | inl same ↦ absurd (some (subst (λ k. whole_at numbers k ≡ pos 0) (sym same) none))
        | inr other ↦ h.all c (omega arith) some
      ];
    }

pub place_within : (numbers : List ℤ) (places : List ℕ) (i n : ℕ) → ArePlaces numbers n places → i < length places → get_or places i 0 < n
place_within numbers places i n h less = (h.some i (get_or places i 0) (slice_get-get_or places i 0 less)).0

-- ---- numbers lessened at places

pub one_time : (n : ℕ) → 1 * n ≡ n
one_time n = omega arith

pub one_times : (z : ℤ) → pos 1 *ℤ z ≡ z
one_times (pos n) = ap pos (one_time n)
one_times (negsuc n) = ap (λ m. neg_ℤ (pos m)) (one_time (suc n))

no_times : (n : ℕ) → n * 0 ≡ 0
no_times n = omega arith

pub times_none : (z : ℤ) → z *ℤ pos 0 ≡ pos 0
times_none (pos n) = ap pos (no_times n)
times_none (negsuc n) = ap (λ m. neg_ℤ (pos m)) (no_times (suc n))

pub less_none : (z : ℤ) → z -ℤ pos 0 ≡ z
less_none z = omega (arith, ints)

pub once_less : (n y : ℤ) → n -ℤ y ≡ pos 1 *ℤ n -ℤ y
once_less n y = ap (λ z. z -ℤ y) (sym (one_times n))

-- the product that is subtracted and the difference stay below 2^63
pub second_small : (b n x : ℤ) → nat_abs (pos 1) * nat_abs n + nat_abs b * nat_abs x ≤ 2 ^ 63 - 1 → nat_abs (b *ℤ x) < 2 ^ 63
second_small b n x h = let e = nat_abs-*ℤ b x in omega arith

pub below_half : (n : ℕ) → n ≤ 2 ^ 63 - 1 → n < 2 ^ 63
below_half n h = omega arith

pub lessened_none : (b : ℤ) (before others : List ℤ) (places : List ℕ) (least : ℕ) → AreWithin before least → AreLessenedAt b before others before places 0 least least
lessened_none b before others places least within =
    record {
      sized = refl;
      done = λ i c less. absurd (omega arith);
      left = λ c none. refl;
      within = within;
      extended = omega arith;
      small = λ m within_bound more. more;
    }

-- at a place nothing was done before
pub place_left : (b : ℤ) (before others after : List ℤ) (places : List ℕ) (n w least most c : ℕ) → ArePlaces others w places → AreLessenedAt b before others after places n least most → slice_get places n ≡ Some c → whole_at after c ≡ whole_at before c
place_left b before others after places n w least most c p h there = h.left c (λ i less at. absurd (let e = p.apart i n c at there in omega arith))

pub lessened_at_more : (b : ℤ) (before others after : List ℤ) (places : List ℕ) (n w least most c : ℕ) (v : ℤ) (more : ℕ) → ArePlaces others w places → AreLessenedAt b before others after places n least most → slice_get places n ≡ Some c → c < length after → v ≡ pos 1 *ℤ whole_at before c -ℤ b *ℤ whole_at others c → most ≤ more → nat_abs v ≤ more → ((m : ℕ) → CombinationsStayWithin m (pos 1) b before others → least ≤ m → more ≤ m) → AreLessenedAt b before others (set after c v) places (n + 1) least more
lessened_at_more b before others after places n w least most c v more p h there within is grows high small =
    record {
      sized = length-set after c v ∙ h.sized;
      done = λ i d below at. elim (cases_eq i n) [
        | inl same ↦
            let d_is : d ≡ c = same_place d c (sym (subst (λ k. slice_get places k ≡ Some d) same at) ∙ there) in
            written_here before after c v within d d_is ∙ is ∙ ap (λ k. pos 1 *ℤ whole_at before k -ℤ b *ℤ whole_at others k) (sym d_is)
        | inr other ↦
            written_other before after c v within d (λ d_is. other (p.apart i n c (subst (λ k. slice_get places i ≡ Some k) d_is at) there)) ∙ h.done i d (omega arith) at
      ];
      left = λ d none.
          written_other before after c v within d (λ d_is. none n (omega arith) (subst (λ k. slice_get places n ≡ Some k) (sym d_is) there))
          ∙ h.left d (λ i less. none i (omega arith));
      within = λ d. elim (cases_eq d c) [
        | inl same ↦ subst (λ z. nat_abs z ≤ more) (sym (written_here before after c v within d same)) high
        | inr other ↦ subst (λ z. nat_abs z ≤ more) (sym (written_other before after c v within d other)) (let low = h.within d in omega arith)
      ];
      extended = let low = h.extended in omega arith;
      small = small;
    }

pub lessened_at_all : (b : ℤ) (before others after : List ℤ) (places : List ℕ) (n least most : ℕ) → ArePlaces others (length others) places → length others ≡ length before → length places ≤ n → AreLessenedAt b before others after places n least most → AreLessenedFrom least b before others after most
lessened_at_all b before others after places n least most p sized all h =
    record {
      sized = h.sized;
      numbers = λ c less. elim (cases_eq (nat_abs (whole_at others c)) 0) [
        | inl none ↦
            let is : whole_at others c ≡ pos 0 = omega (arith, ints) in
            h.left c (λ i below at. (p.some i c at).1 is)
            ∙ sym (ap (λ z. pos 1 *ℤ whole_at before c -ℤ b *ℤ z) is ∙ ap (λ z. pos 1 *ℤ whole_at before c -ℤ z) (times_none b) ∙ less_none (pos 1 *ℤ whole_at before c) ∙ one_times (whole_at before c))
        | inr some ↦
            let found = p.all c (omega arith) (λ is. some (ap nat_abs is)) in
            h.done found.0 c (let less = slice_get_within places found.0 c found.1 in omega arith) found.1
      ];
      within = h.within;
      extended = h.extended;
      small = h.small;
    }

pub lessened_from_within : (least : ℕ) (b : ℤ) (before others after : List ℤ) (most m : ℕ) → AreLessenedFrom least b before others after most → CombinationsStayWithin m (pos 1) b before others → least ≤ m → AreWithin after m
lessened_from_within least b before others after most m h within_bound more = λ c. let low = h.within c in let high = h.small m within_bound more in omega arith

pub same_lessened_from : {b q : ℤ} {before others after first second third : List ℤ} {least most : ℕ} → b ≡ q → before ≡ first → others ≡ second → after ≡ third → AreLessenedFrom least b before others after most → AreLessenedFrom least q first second third most
same_lessened_from {b} {q} {before} {others} {after} {first} {second} {third} {least} {most} b_is before_is others_is after_is h =
    subst (λ x. AreLessenedFrom least x first second third most) b_is
    (subst (λ x. AreLessenedFrom least b x second third most) before_is (subst (λ x. AreLessenedFrom least b before x third most) others_is (subst (λ x. AreLessenedFrom least b before others x most) after_is h)))
