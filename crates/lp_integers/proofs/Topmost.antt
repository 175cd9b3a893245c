-- The first place from a start on whose number is above 0, and the one with the greatest number.
use Rattle.std.proofs.Common.{◌≡◌, ◌⊎◌, ℕ, ◌+◌, ◌<◌, ◌≤◌, inl, inr, true, false, ℤ, pos, List, length, Option, Some, None, sym, subst, arith}
use Rattle.std.specs.Prelude.{◌<ℤ◌}
use Rattle.std.specs.Int.Signed.{lt_z}
use Rattle.std.proofs.lemmas.Bool.{cases_lt}
use Rattle.std.proofs.lemmas.Int.{ints}
use Rattle.lp_integers.specs.Lines.{whole_at}
use Rattle.lp_integers.specs.Words.{IsFirstAbove, IsGreatestAbove}
use Rattle.lp_integers.proofs.Lines.{whole_past}
use Rattle.lp_integers.proofs.Picking.{lower, lower_of, not_more, not_above}

-- what a test told
pub less_told : (a b : ℤ) → lt_z a b ≡ true → a <ℤ b
less_told a b told = omega (arith, ints)

pub not_less_told : (a b : ℤ) → lt_z a b ≡ false → ¬ (a <ℤ b)
not_less_told a b told less = omega (arith, ints)

-- no number from the start on below n is above 0
abbrev pub NoneAbove : List ℤ → ℕ → ℕ → Type 0
NoneAbove numbers start n = (c : ℕ) → start ≤ c → c < n → ¬ (pos 0 <ℤ whole_at numbers c)

pub none_yet : (numbers : List ℤ) (start : ℕ) → NoneAbove numbers start start
none_yet numbers start c from less above = omega arith

pub none_more : (numbers : List ℤ) (start n : ℕ) → NoneAbove numbers start n → ¬ (pos 0 <ℤ whole_at numbers n) → NoneAbove numbers start (n + 1)
none_more numbers start n h here c from less =
    elim (cases_lt c n) [
      | inl before ↦ h c from before
      | inr at ↦ let same : n ≡ c = omega arith in subst (λ k. ¬ (pos 0 <ℤ whole_at numbers k)) same here
    ]

pub first_found : (numbers : List ℤ) (start n : ℕ) → NoneAbove numbers start n → start ≤ n → n < length numbers → pos 0 <ℤ whole_at numbers n → IsFirstAbove numbers start (Some n)
first_found numbers start n h from less above = (
  from,
  less,
  above,
  λ c after some. elim (cases_lt c n) [
    | inl early ↦ absurd (h c after early some)
    | inr late ↦ late
  ],
)

pub none_found : (numbers : List ℤ) (start n : ℕ) → NoneAbove numbers start n → length numbers ≤ n → IsFirstAbove numbers start None
none_found numbers start n h all c after some =
    elim (cases_lt c n) [
      | inl less ↦ h c after less some
      | inr past ↦ not_above (whole_at numbers c) (whole_past numbers c (omega arith)) some
    ]

-- the greatest of the numbers above 0 from the start on below n, and its first place; 0 without one
abbrev pub BestBelow : List ℤ → ℕ → ℕ → ℤ → Option ℕ → Type 0
BestBelow numbers start n most None = (most ≡ pos 0) × NoneAbove numbers start n
BestBelow numbers start n most (Some p) =
    (start ≤ p) × (p < n) × (pos 0 <ℤ most) × (whole_at numbers p ≡ most)
    × ((c : ℕ) → start ≤ c → c < n → (whole_at numbers c <ℤ most) ⊎ ((whole_at numbers c ≡ most) × (p ≤ c)))

more_than : (m x : ℤ) → pos 0 <ℤ m → m <ℤ x → pos 0 <ℤ x
more_than m x above more = omega (arith, ints)

module _ (numbers : List ℤ) (start n : ℕ) (from : start ≤ n) where
  -- the number at n is a better one
  pub better : (most : ℤ) (best : Option ℕ) (x : ℤ) → x ≡ whole_at numbers n → BestBelow numbers start n most best → most <ℤ x → BestBelow numbers start (n + 1) x (Some n)
  better most None x is h more = (
    from,
    omega arith,
    subst (λ z. z <ℤ x) h.0 more,
    sym is,
    λ c after less. elim (cases_lt c n) [
      | inl before ↦ inl (lower (whole_at numbers c) most x (subst (λ z. ¬ (z <ℤ whole_at numbers c)) (sym h.0) (h.1 c after before)) more)
      | inr late ↦ let same : n ≡ c = omega arith in inr (subst (λ k. whole_at numbers k ≡ x) same (sym is), omega arith)
    ],
  )
  better most (Some p) x is h more = (
    from,
    omega arith,
    more_than most x h.2 more,
    sym is,
    λ c after less. elim (cases_lt c n) [
      | inl before ↦ inl (lower_of (whole_at numbers c) most x (elim (h.4 c after before) [ inl a ↦ inl a | inr e ↦ inr e.0 ]) more)
      | inr late ↦ let same : n ≡ c = omega arith in inr (subst (λ k. whole_at numbers k ≡ x) same (sym is), omega arith)
    ],
  )

  -- the number at n is no better one
  pub no_better : (most : ℤ) (best : Option ℕ) (x : ℤ) → x ≡ whole_at numbers n → BestBelow numbers start n most best → ¬ (most <ℤ x) → BestBelow numbers start (n + 1) most best
  no_better most None x is h none = (
    h.0,
    none_more numbers start n h.1 (subst (λ z. ¬ (z <ℤ whole_at numbers n)) h.0 (subst (λ z. ¬ (most <ℤ z)) is none)),
  )
  no_better most (Some p) x is h none =
      let below = h.1 in (
        h.0,
        omega arith,
        h.2,
        h.3,
        λ c after less. elim (cases_lt c n) [
          | inl before ↦ h.4 c after before
          | inr late ↦
              let same : n ≡ c = omega arith in
              elim (not_more (whole_at numbers c) most (subst (λ k. ¬ (most <ℤ whole_at numbers k)) same (subst (λ z. ¬ (most <ℤ z)) is none))) [
                | inl a ↦ inl a
                | inr e ↦ inr (e, omega arith)
              ]
        ],
      )

pub best_found : (numbers : List ℤ) (start n : ℕ) (most : ℤ) (best : Option ℕ) → BestBelow numbers start n most best → length numbers ≤ n → IsGreatestAbove numbers start best
best_found numbers start n most None h all = λ c after some.
    elim (cases_lt c n) [
      | inl less ↦ h.1 c after less some
      | inr past ↦ not_above (whole_at numbers c) (whole_past numbers c (omega arith)) some
    ]
best_found numbers start n most (Some p) h all = (
  h.0,
  elim (cases_lt p (length numbers)) [
    | inl less ↦ less
    | inr past ↦ absurd (not_above (whole_at numbers p) (whole_past numbers p past) (subst (λ z. pos 0 <ℤ z) (sym h.3) h.2))
  ],
  subst (λ z. pos 0 <ℤ z) (sym h.3) h.2,
  λ c after. subst (λ z. (whole_at numbers c <ℤ z) ⊎ ((whole_at numbers c ≡ z) × (p ≤ c))) (sym h.3) (elim (cases_lt c n) [
    | inl less ↦ h.4 c after less
    | inr past ↦ inl (subst (λ z. z <ℤ most) (sym (whole_past numbers c (omega arith))) h.2)
  ]),
)
