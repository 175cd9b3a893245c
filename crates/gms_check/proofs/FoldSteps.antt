-- A fold: its own errors, then its control, then its body under the sets, which are no longer
-- controlled after it.
use Rattle.std.proofs.Common.{◌≡◌, ℕ, Bool, List, [], ◌∷◌, ◌++◌, map, take, length, Option, refl, sym, ap, ◌∙◌}
use Rattle.std.proofs.Math.Seq.{take-append_seam}
use Rattle.gq_number.specs.Number.{Number}
use Rattle.gms_labels.specs.declared.place.Place.{Place}
use Rattle.gms_check.specs.declared.error.ErrorKind.{ErrorKind}
use Rattle.gms_check.specs.declared.error.CompileError.{CompileError}
use Rattle.gms_check.specs.InnerChecking.{Checking, faulted, first_fault, known_of, noted, with_controlled, with_sets}
use Rattle.gms_check.specs.CompileErrors.{checked_kinds, errors_at, errors_of, has_error}
use Rattle.gms_check.specs.Errors.{first_error, sooner}
use Rattle.gms_check.specs.Uses.{Use, Uses}
use Rattle.gms_check.proofs.Noting.{errors-append, noted-around, noted-then, with_first}
use Rattle.gms_check.proofs.Sooner.{first_of-append, sooner-left}

module _ {F : Type 0} (value : F → Number) where
  -- a part between others, before them
  noted-before : (c : Checking) (x : Place × Use F) (xs ys : Uses F) → noted value c (xs ++ x ∷ ys) ≡ noted value c (x ∷ (xs ++ ys))
  noted-before c x xs ys =
      let known = known_of value c in
      let own = first_error (errors_at known x) in
      ap (λ (first : Option CompileError). with_first c (sooner c.first first)) (ap first_error (errors-append known xs (x ∷ ys)) ∙ first_of-append (errors_of known xs) (errors_of known (x ∷ ys)) ∙ ap (sooner (first_error (errors_of known xs))) (first_of-append (errors_at known x) (errors_of known ys)) ∙ sooner-left (first_error (errors_of known xs)) own (first_error (errors_of known ys)) ∙ ap (sooner own) (sym (first_of-append (errors_of known xs) (errors_of known ys)) ∙ ap first_error (sym (errors-append known xs ys))) ∙ sym (first_of-append (errors_at known x) (errors_of known (xs ++ ys))))

  -- a fold except for its control: its own errors, its body, and fewer controlled sets after it
  pub noted-body : (c r t u v : Checking) (at : Place) (used : Use F) (faults late : List (Bool × ErrorKind)) (ys : Uses F) (outer : ℕ) → first_fault at (faults ++ late) ≡ first_fault at (map (λ kind. (has_error (known_of value c) used kind, kind)) checked_kinds) → r ≡ faulted c at faults → t ≡ noted value r ys → u ≡ with_sets t (take outer t.controlled) → v ≡ faulted u at late → v ≡ with_sets (noted value c ((at, used) ∷ ys)) (take outer c.controlled)
  noted-body c r t u v at used faults late ys outer same e f g h =
      h ∙ ap (λ (u : Checking). faulted u at late) g ∙ ap (λ (x : Checking). with_sets x (take outer t.controlled)) (noted-around value c r t (faulted t at late) at used faults late ys same e f refl) ∙ ap (λ (sets : List ℕ). with_sets (noted value c ((at, used) ∷ ys)) (take outer sets)) (ap (λ (x : Checking). x.controlled) f ∙ ap (λ (x : Checking). x.controlled) e)

  -- the whole of a fold: its control, then the rest under the sets, which are no longer controlled
  -- after it
  pub noted-fold : (c s : Checking) (fold : Place × Use F) (xs ys : Uses F) (sets : List ℕ) (outer : ℕ) → outer ≡ length c.controlled → s ≡ with_controlled (noted value c xs) sets → with_sets (noted value s (fold ∷ ys)) (take outer s.controlled) ≡ noted value c (fold ∷ (xs ++ ys))
  noted-fold c s fold xs ys sets outer count e =
      ap (λ (s : Checking). with_sets (noted value s (fold ∷ ys)) (take outer s.controlled)) e ∙ ap (λ (controlled : List ℕ). with_sets (noted value (noted value c xs) (fold ∷ ys)) controlled) (ap (λ n. take n (c.controlled ++ sets)) count ∙ take-append_seam c.controlled sets) ∙ noted-then value c (noted value c xs) (noted value (noted value c xs) (fold ∷ ys)) xs (fold ∷ ys) refl refl ∙ noted-before c fold xs ys

-- how many sets are controlled
pub controlled-counted : (outer : ℕ) (names : List ℕ) (c : Checking) → outer ≡ length names → names ≡ c.controlled → outer ≡ length c.controlled
controlled-counted outer names c e same = e ∙ ap length same
