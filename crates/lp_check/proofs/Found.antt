-- The entry of a column among entries in order.
use Rattle.std.proofs.Common.{◌≡◌, ◌≢◌, ℕ, zero, suc, ◌<◌, ◌≤◌, true, false, nat_lt, List, [], ◌∷◌, length, get_or, Some, None, refl, sym, ap, ◌∙◌, arith, inl, inr}
use Rattle.std.specs.Prelude.{◌==◌, if◌then◌else◌}
use Rattle.std.specs.List.{AllPairs}
use Rattle.std.specs.List.Sorted.{IsPartitionedBy, IsPartitionPoint}
use Rattle.std.proofs.lemmas.Bool.{cases_eq, cases_order}
use Rattle.std.proofs.lemmas.List.{get_or_default}
use Rattle.std.proofs.lemmas.Bool.Decides.{nat_tests}
use Rattle.gq_number.specs.Number.{Number}
use Rattle.lp_check.specs.BoundSteps.{entry_of}

module _ {F : Type 0} (value : F → Number) (j : ℕ) where
  pub passed_over : (e : ℕ × F) (entries : List (ℕ × F)) → e.0 ≢ j → entry_of value (e ∷ entries) j ≡ entry_of value entries j
  passed_over e entries other =
      let h : (e.0 == j) ≡ false = grind (arith, nat_tests) in
      ap (λ b. if b then Some (value e.1) else entry_of value entries j) h

  pub taken_here : (e : ℕ × F) (entries : List (ℕ × F)) → e.0 ≡ j → entry_of value (e ∷ entries) j ≡ Some (value e.1)
  taken_here e entries same =
      let h : (e.0 == j) ≡ true = grind (arith, nat_tests) in
      ap (λ b. if b then Some (value e.1) else entry_of value entries j) h

  -- no entry has the column
  pub not_there : (entries : List (ℕ × F)) → ((k : ℕ) (d : ℕ × F) → k < length entries → (get_or entries k d).0 ≢ j) → entry_of value entries j ≡ None
  not_there [] others = refl
  not_there (e ∷ entries) others =
      passed_over e entries (others 0 e (omega arith)) ∙ not_there entries (λ k d h. others (suc k) d (omega (arith, h)))

  -- the entry at a place has the column, and none before it has
  pub found_at : (entries : List (ℕ × F)) (i : ℕ) (e : ℕ × F) → i < length entries → e ≡ get_or entries i e → ((k : ℕ) (d : ℕ × F) → k < i → (get_or entries k d).0 ≢ j) → e.0 ≡ j → entry_of value entries j ≡ Some (value e.1)
  found_at [] i e h is others same = absurd (omega (arith, h))
  found_at (f ∷ entries) zero e h is others same =
      taken_here f entries (ap (λ (x : ℕ × F). x.0) (sym is) ∙ same) ∙ ap (λ (x : ℕ × F). Some (value x.1)) (sym is)
  found_at (f ∷ entries) (suc i) e h is others same =
      passed_over f entries (others 0 f (omega arith)) ∙ found_at entries i e (omega (arith, h)) is (λ k d below. others (suc k) d (omega (arith, below))) same

  -- the columns below j come first
  pub partitioned : (entries : List (ℕ × F)) → AllPairs (λ (a b : ℕ × F). a.0 < b.0) entries → IsPartitionedBy (λ (e : ℕ × F). nat_lt e.0 j) entries
  partitioned entries ascending = λ a b d before within below. elim (cases_eq a b) [
    | inl same ↦ rw same below
    | inr differs ↦ let less = ascending a b d (omega arith) within in grind (arith, nat_tests)
  ]

  abbrev pub Point : List (ℕ × F) → ℕ → Type 0
  Point entries i = IsPartitionPoint (λ (e : ℕ × F). nat_lt e.0 j ≡ true) (λ (e : ℕ × F). nat_lt e.0 j ≡ false) entries i

  pub found : (entries : List (ℕ × F)) (i : ℕ) (e : ℕ × F) → Point entries i → i < length entries → e ≡ get_or entries i e → e.0 ≡ j → entry_of value entries j ≡ Some (value e.1)
  found entries i e point h is same =
      found_at entries i e h is (λ k d below equal. let before = point.0 k d (omega arith) below in grind (arith, nat_tests)) same

  -- the one at the point is another
  pub another : (entries : List (ℕ × F)) (i : ℕ) (e : ℕ × F) → AllPairs (λ (a b : ℕ × F). a.0 < b.0) entries → Point entries i → i < length entries → e ≡ get_or entries i e → e.0 ≢ j → entry_of value entries j ≡ None
  another entries i e ascending point h is other = not_there entries (λ k d within equal. elim (cases_order k i) [
    | inl same ↦ other (ap (λ (x : ℕ × F). x.0) (is ∙ sym (ap (λ n. get_or entries n e) same) ∙ get_or_default entries k e d within) ∙ equal)
    | inr rest ↦ elim rest [
      | inl below ↦ let before = point.0 k d (omega arith) below in grind (arith, nat_tests)
      | inr following ↦ let up = ascending i k e following within in let at = point.1 i e (omega arith) h in let same_d = get_or_default entries k e d within in grind (arith, nat_tests)
    ]
  ])

  -- none is there
  pub past_end : (entries : List (ℕ × F)) (i : ℕ) → Point entries i → length entries ≤ i → entry_of value entries j ≡ None
  past_end entries i point end = not_there entries (λ k d within equal. let before = point.0 k d (omega arith) (omega (arith, within, end)) in grind (arith, nat_tests))
