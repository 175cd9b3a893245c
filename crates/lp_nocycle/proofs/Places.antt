-- From lists of pivots to functions of the place.
use Rattle.std.proofs.Common.{◌≡◌, ℕ, zero, suc, ◌<◌, List, [], ◌∷◌, ◌++◌, length, refl, sym, subst, arith}
use Rattle.lp_core.specs.declared.answer.Pivot.{Pivot}
use Rattle.lp_core.specs.Pivots.{Leads}
use Rattle.lp_core.specs.Dictionary.{Dictionary, IsLegal, exchanged}
use Rattle.lp_fraction_dict.specs.Pivots.{IsProper}
use Rattle.lp_fraction_dict.proofs.Proper.{proper_after}
use Rattle.lp_nocycle.proofs.Runs.{IsRun}

-- the j-th pivot
pub pivot_at : List Pivot → ℕ → Pivot
pivot_at [] j = record { enter = 0; leave = 0 }
pivot_at (p ∷ pivots) zero = p
pivot_at (p ∷ pivots) (suc j) = pivot_at pivots j

-- the pivots before the j-th, after others
pub done_at : (done pivots : List Pivot) → ℕ → List Pivot
done_at done [] j = done
done_at done (p ∷ pivots) zero = done
done_at done (p ∷ pivots) (suc j) = done_at (done ++ p ∷ []) pivots j

pub none_done : (done pivots : List Pivot) → done_at done pivots 0 ≡ done
unfolding done_at
none_done done [] = refl
none_done done (p ∷ pivots) = refl

pub one_more_done : (done pivots : List Pivot) (j : ℕ) → j < length pivots → done_at done pivots (suc j) ≡ done_at done pivots j ++ pivot_at pivots j ∷ []
unfolding done_at pivot_at
one_more_done done [] j less = absurd (omega arith)
one_more_done done (p ∷ pivots) zero less = none_done (done ++ p ∷ []) pivots
one_more_done done (p ∷ pivots) (suc j) less = one_more_done (done ++ p ∷ []) pivots j (omega arith)

module _ (Allowed : List Pivot → Dictionary → Pivot → ℕ → Type 0) where
  -- the dictionary before the j-th pivot
  pub dictionary_at : (done pivots : List Pivot) (d last : Dictionary) → Leads Allowed done d pivots last → ℕ → Dictionary
  dictionary_at done [] d last f j = d
  dictionary_at done (p ∷ pivots) d last f zero = d
  dictionary_at done (p ∷ pivots) d last f (suc j) = dictionary_at (done ++ p ∷ []) pivots (exchanged d p.enter f.0) last f.2 j

  pub row_at : (done pivots : List Pivot) (d last : Dictionary) → Leads Allowed done d pivots last → ℕ → ℕ
  row_at done [] d last f j = 0
  row_at done (p ∷ pivots) d last f zero = f.0
  row_at done (p ∷ pivots) d last f (suc j) = row_at (done ++ p ∷ []) pivots (exchanged d p.enter f.0) last f.2 j

  pub first_at : (done pivots : List Pivot) (d last : Dictionary) (f : Leads Allowed done d pivots last) → dictionary_at done pivots d last f 0 ≡ d
  unfolding dictionary_at
  first_at done [] d last f = refl
  first_at done (p ∷ pivots) d last f = refl

  pub last_at : (done pivots : List Pivot) (d last : Dictionary) (f : Leads Allowed done d pivots last) → dictionary_at done pivots d last f (length pivots) ≡ last
  unfolding dictionary_at
  last_at done [] d last f = sym f
  last_at done (p ∷ pivots) d last f = last_at (done ++ p ∷ []) pivots (exchanged d p.enter f.0) last f.2

  -- each pivot is allowed, after those before it
  pub allowed_at : (done pivots : List Pivot) (d last : Dictionary) (f : Leads Allowed done d pivots last) (j : ℕ) → j < length pivots → Allowed (done_at done pivots j) (dictionary_at done pivots d last f j) (pivot_at pivots j) (row_at done pivots d last f j)
  unfolding dictionary_at pivot_at row_at done_at
  allowed_at done [] d last f j less = absurd (omega arith)
  allowed_at done (p ∷ pivots) d last f zero less = f.1
  allowed_at done (p ∷ pivots) d last f (suc j) less = allowed_at (done ++ p ∷ []) pivots (exchanged d p.enter f.0) last f.2 j (omega arith)

  next_at : (done pivots : List Pivot) (d last : Dictionary) (f : Leads Allowed done d pivots last) (j : ℕ) → j < length pivots → dictionary_at done pivots d last f (suc j) ≡ exchanged (dictionary_at done pivots d last f j) (pivot_at pivots j).enter (row_at done pivots d last f j)
  unfolding dictionary_at pivot_at row_at
  next_at done [] d last f j less = absurd (omega arith)
  next_at done (p ∷ pivots) d last f zero less = first_at (done ++ p ∷ []) pivots (exchanged d p.enter f.0) last f.2
  next_at done (p ∷ pivots) d last f (suc j) less = next_at (done ++ p ∷ []) pivots (exchanged d p.enter f.0) last f.2 j (omega arith)

  pub variables_at : (done pivots : List Pivot) (d last : Dictionary) (f : Leads Allowed done d pivots last) (j : ℕ) → (dictionary_at done pivots d last f j).variables ≡ d.variables
  unfolding dictionary_at
  variables_at done [] d last f j = refl
  variables_at done (p ∷ pivots) d last f zero = refl
  variables_at done (p ∷ pivots) d last f (suc j) = variables_at (done ++ p ∷ []) pivots (exchanged d p.enter f.0) last f.2 j

  module _ (legal : (done : List Pivot) (d : Dictionary) (p : Pivot) (k : ℕ) → Allowed done d p k → IsLegal d p k) where
    pub run_of : (done pivots : List Pivot) (d last : Dictionary) (f : Leads Allowed done d pivots last) → IsProper d → IsRun (length pivots) (dictionary_at done pivots d last f) (pivot_at pivots) (row_at done pivots d last f)
    run_of done pivots d last f proper =
        record {
          proper = subst IsProper (sym (first_at done pivots d last f)) proper;
          legal = λ j less. legal (done_at done pivots j) (dictionary_at done pivots d last f j) (pivot_at pivots j) (row_at done pivots d last f j) (allowed_at done pivots d last f j less);
          next = next_at done pivots d last f;
        }

    pub proper_along : (done pivots : List Pivot) (d last : Dictionary) → Leads Allowed done d pivots last → IsProper d → IsProper last
    proper_along done [] d last f proper = subst IsProper (sym f) proper
    proper_along done (p ∷ pivots) d last f proper = proper_along (done ++ p ∷ []) pivots (exchanged d p.enter f.0) last f.2 (proper_after d p f.0 proper (legal done d p f.0 f.1))
