-- A check in progress: what it finds in parts, in sequence.
use mathlib.Core.Bool.{or-false}
use Rattle.std.proofs.Common.{◌≡◌, ◌<◌, ◌+◌, length, take, get_or, ℕ, Bool, true, false, not, ◌&&◌, ◌||◌, List, [], ◌∷◌, ◌++◌, map, Option, Some, refl, sym, ap, ◌∙◌, append_assoc, if◌then◌else◌, arith}
use Rattle.std.specs.Prelude.{filter, flat_map, nat_le, nat_lt}
use Rattle.std.proofs.lemmas.Bool.Decides.{nat_tests}
use Rattle.std.proofs.lemmas.List.{map-append, take_more}
use Rattle.gq_number.specs.Number.{Number}
use Rattle.gms_labels.specs.declared.place.Place.{Place}
use Rattle.gms_check.specs.declared.error.ErrorKind.{ErrorKind}
use Rattle.gms_check.specs.declared.error.CompileError.{CompileError}
use Rattle.gms_check.specs.InnerChecking.{Checking, error_if, faulted, first_fault, known_of, noted, with_controlled}
use Rattle.gms_check.specs.CompileErrors.{checked_kinds, errors_at, errors_of, has_error}
use Rattle.gms_check.specs.Errors.{first_error, sooner}
use Rattle.gms_check.specs.Past.{Known}
use Rattle.gms_check.specs.Uses.{Use, Uses}
use Rattle.gms_check.proofs.Sooner.{first_of-append, sooner-assoc, sooner-comm, sooner-left, sooner-none}

pub not-and : (a b : Bool) → not (a && b) ≡ (not a || not b)
not-and true b = refl
not-and false b = refl

pub not-or : (a b : Bool) → not (a || b) ≡ (not a && not b)
not-or true b = refl
not-or false b = refl

pub not-either : (a b : Bool) → not (not a || not b) ≡ (a && b)
not-either true true = refl
not-either true false = refl
not-either false b = refl

pub not-not : (a : Bool) → not (not a) ≡ a
not-not true = refl
not-not false = refl

-- a check with another first error
abbrev pub with_first : Checking → Option CompileError → Checking
with_first c first = record c { first = first }

fault-append : (at : Place) (xs ys : List (Bool × ErrorKind)) → first_fault at (xs ++ ys) ≡ sooner (first_fault at xs) (first_fault at ys)
fault-append at [] ys = refl
fault-append at (x ∷ xs) ys =
    ap (sooner (error_if x.0 x.1 at)) (fault-append at xs ys) ∙ sym (sooner-assoc (error_if x.0 x.1 at) (first_fault at xs) (first_fault at ys))

-- faults and others at the place
pub faulted-then : (at : Place) (c s t : Checking) (xs ys : List (Bool × ErrorKind)) → s ≡ faulted c at xs → t ≡ faulted s at ys → t ≡ faulted c at (xs ++ ys)
faulted-then at c s t xs ys e f =
    f ∙ ap (λ s. faulted s at ys) e ∙ ap (with_first c) (sooner-assoc c.first (first_fault at xs) (first_fault at ys) ∙ ap (sooner c.first) (sym (fault-append at xs ys)))

first-at : (at : Place) (test : ErrorKind → Bool) (kinds : List ErrorKind) → first_error (map (λ (kind : ErrorKind). record { kind = kind; at = at }) (filter test kinds)) ≡ first_fault at (map (λ kind. (test kind, kind)) kinds)
first-at at test [] = refl
first-at at test (kind ∷ kinds) = by (test kind) (first-at at test kinds)
  where
    by : (b : Bool) → first_error (map (λ (kind : ErrorKind). record { kind = kind; at = at }) (filter test kinds)) ≡ first_fault at (map (λ kind. (test kind, kind)) kinds) → first_error (map (λ (kind : ErrorKind). record { kind = kind; at = at }) (if b then kind ∷ filter test kinds else filter test kinds)) ≡ sooner (error_if b kind at) (first_fault at (map (λ kind. (test kind, kind)) kinds))
    by true e = ap (sooner (Some (record { kind = kind; at = at }))) e
    by false e = e

no_more : {X : Type 0} (xs : List X) → xs ++ [] ≡ xs
no_more [] = refl
no_more (x ∷ xs) = ap (λ ys. x ∷ ys) (no_more xs)

module _ {F : Type 0} where
  pub errors-append : (known : Known F) (xs ys : Uses F) → errors_of known (xs ++ ys) ≡ errors_of known xs ++ errors_of known ys
  errors-append known [] ys = refl
  errors-append known (x ∷ xs) ys = ap (λ es. errors_at known x ++ es) (errors-append known xs ys) ∙ sym (append_assoc (errors_at known x) (errors_of known xs) (errors_of known ys))

module _ {F : Type 0} (value : F → Number) where
  -- one part
  pub noted-one : (c : Checking) (at : Place) (used : Use F) → noted value c ((at, used) ∷ []) ≡ faulted c at (map (λ kind. (has_error (known_of value c) used kind, kind)) checked_kinds)
  noted-one c at used =
      ap (λ errors. with_first c (sooner c.first (first_error errors))) (no_more (errors_at (known_of value c) (at, used))) ∙ ap (λ first. with_first c (sooner c.first first)) (first-at at (has_error (known_of value c) used) checked_kinds)

  -- parts and others
  pub noted-then : (c s t : Checking) (xs ys : Uses F) → s ≡ noted value c xs → t ≡ noted value s ys → t ≡ noted value c (xs ++ ys)
  noted-then c s t xs ys e f =
      f ∙ ap (λ s. noted value s ys) e ∙ ap (with_first c) (sooner-assoc c.first (first_error (errors_of (known_of value c) xs)) (first_error (errors_of (known_of value c) ys)) ∙ ap (sooner c.first) (sym (first_of-append (errors_of (known_of value c) xs) (errors_of (known_of value c) ys)) ∙ ap first_error (sym (errors-append (known_of value c) xs ys))))

  -- nothing
  pub noted-none : (c : Checking) → c ≡ noted value c []
  noted-none c = ap (with_first c) (sym (sooner-none c.first))

  -- the parts of one element of a list more
  pub noted-more : {X : Type 0} (f : X → Uses F) (xs : List X) (i : ℕ) (x : X) (c s t : Checking) → i < length xs → x ≡ get_or xs i x → s ≡ noted value c (flat_map f (take i xs)) → t ≡ noted value s (f x) → t ≡ noted value c (flat_map f (take (i + 1) xs))
  noted-more f xs i x c s t l is e step =
      noted-then c s t (flat_map f (take i xs)) (f x) e step ∙ ap (noted value c) (whole ∙ ap (flat_map f) (sym (take_more xs i x l ∙ ap (λ y. take i xs ++ y ∷ []) (sym is))))
    where
      joined : {X : Type 0} (f : X → Uses F) (xs ys : List X) → flat_map f (xs ++ ys) ≡ flat_map f xs ++ flat_map f ys
      joined f [] ys = refl
      joined f (x ∷ xs) ys = ap (λ zs. f x ++ zs) (joined f xs ys) ∙ sym (append_assoc (f x) (flat_map f xs) (flat_map f ys))

      whole : flat_map f (take i xs) ++ f x ≡ flat_map f (take i xs ++ x ∷ [])
      whole = ap (λ zs. flat_map f (take i xs) ++ zs) (sym (no_more (f x))) ∙ sym (joined f (take i xs) (x ∷ []))

  -- one part of a list more
  pub noted-mapped : {X : Type 0} (before : Uses F) (f : X → Place × Use F) (xs : List X) (i : ℕ) (x : X) (c s t : Checking) → i < length xs → x ≡ get_or xs i x → s ≡ noted value c (before ++ map f (take i xs)) → t ≡ noted value s (f x ∷ []) → t ≡ noted value c (before ++ map f (take (i + 1) xs))
  noted-mapped before f xs i x c s t l is e step =
      noted-then c s t (before ++ map f (take i xs)) (f x ∷ []) e step ∙ ap (noted value c) (append_assoc before (map f (take i xs)) (f x ∷ []) ∙ ap (λ zs. before ++ zs) (sym (ap (map f) (take_more xs i x l ∙ ap (λ y. take i xs ++ y ∷ []) (sym is)) ∙ map-append f (take i xs) (x ∷ []))))

  -- a part whose errors are these
  pub noted-by : (c t : Checking) (at : Place) (used : Use F) (faults : List (Bool × ErrorKind)) → first_fault at faults ≡ first_fault at (map (λ kind. (has_error (known_of value c) used kind, kind)) checked_kinds) → t ≡ faulted c at faults → t ≡ noted value c ((at, used) ∷ [])
  noted-by c t at used faults same e = e ∙ ap (λ first. with_first c (sooner c.first first)) same ∙ sym (noted-one c at used)

  -- a part as its errors
  pub faulted-by : (c t : Checking) (at : Place) (used : Use F) (faults : List (Bool × ErrorKind)) → first_fault at (map (λ kind. (has_error (known_of value c) used kind, kind)) checked_kinds) ≡ first_fault at faults → t ≡ noted value c ((at, used) ∷ []) → t ≡ faulted c at faults
  faulted-by c t at used faults same e = e ∙ noted-one c at used ∙ ap (λ first. with_first c (sooner c.first first)) same

-- two faults, and so on
pub chain-2 : (at : Place) (c s t : Checking) (f g : Bool × ErrorKind) → s ≡ faulted c at (f ∷ []) → t ≡ faulted s at (g ∷ []) → t ≡ faulted c at (f ∷ g ∷ [])
chain-2 at c s t f g = faulted-then at c s t (f ∷ []) (g ∷ [])

pub chain-3 : (at : Place) (c s t u : Checking) (f g h : Bool × ErrorKind) → s ≡ faulted c at (f ∷ []) → t ≡ faulted s at (g ∷ []) → u ≡ faulted t at (h ∷ []) → u ≡ faulted c at (f ∷ g ∷ h ∷ [])
chain-3 at c s t u f g h p q r = faulted-then at c t u (f ∷ g ∷ []) (h ∷ []) (chain-2 at c s t f g p q) r

pub chain-4 : (at : Place) (c s t u v : Checking) (f g h i : Bool × ErrorKind) → s ≡ faulted c at (f ∷ []) → t ≡ faulted s at (g ∷ []) → u ≡ faulted t at (h ∷ []) → v ≡ faulted u at (i ∷ []) → v ≡ faulted c at (f ∷ g ∷ h ∷ i ∷ [])
chain-4 at c s t u v f g h i p q r o = faulted-then at c u v (f ∷ g ∷ h ∷ []) (i ∷ []) (chain-3 at c s t u f g h p q r) o

pub chain-6 : (at : Place) (c s t u v w x : Checking) (f g h i j k : Bool × ErrorKind) → s ≡ faulted c at (f ∷ []) → t ≡ faulted s at (g ∷ []) → u ≡ faulted t at (h ∷ []) → v ≡ faulted u at (i ∷ []) → w ≡ faulted v at (j ∷ []) → x ≡ faulted w at (k ∷ []) → x ≡ faulted c at (f ∷ g ∷ h ∷ i ∷ j ∷ k ∷ [])
chain-6 at c s t u v w x f g h i j k p q r o m n =
    faulted-then at c v x (f ∷ g ∷ h ∷ i ∷ []) (j ∷ k ∷ []) (chain-4 at c s t u v f g h i p q r o) (chain-2 at v w x j k m n)

pub and-true : (a b s r : Bool) → s ≡ r → r ≡ b → a ≡ true → s ≡ (a && b)
and-true a b s r p q e = p ∙ q ∙ sym (ap (λ a. a && b) e)

pub and-false : (a b s : Bool) → s ≡ a → a ≡ false → s ≡ (a && b)
and-false a b s p e = p ∙ e ∙ sym (ap (λ a. a && b) e)

pub or-true : (a b s : Bool) → s ≡ a → a ≡ true → s ≡ (a || b)
or-true a b s p e = p ∙ e ∙ sym (ap (λ a. a || b) e)

pub or-right : (a b s : Bool) → s ≡ b → a ≡ false → s ≡ (a || b)
or-right a b s p e = p ∙ sym (ap (λ a. a || b) e)

pub alone : (at : Place) (a : Bool) (kind : ErrorKind) (rest : List (Bool × ErrorKind)) → first_fault at ((a, kind) ∷ rest) ≡ first_fault at ((a || false, kind) ∷ rest)
alone at a kind rest = ap (λ b. first_fault at ((b, kind) ∷ rest)) (sym (or-false a))

-- two faults at a place, the other way round
pub turned : (at : Place) (faults : List (Bool × ErrorKind)) (f g : Bool × ErrorKind) (rest : List (Bool × ErrorKind)) → first_fault at (faults ++ f ∷ g ∷ rest) ≡ first_fault at (faults ++ g ∷ f ∷ rest)
turned at [] f g rest = sooner-left (error_if f.0 f.1 at) (error_if g.0 g.1 at) (first_fault at rest)
turned at (x ∷ faults) f g rest = ap (sooner (error_if x.0 x.1 at)) (turned at faults f g rest)

-- one set more that is controlled
pub controlled-more : (sets : List ℕ) (i d : ℕ) (c s t : Checking) → i < length sets → s ≡ with_controlled c (take i sets) → t ≡ with_controlled s (get_or sets i d ∷ []) → t ≡ with_controlled c (take (i + 1) sets)
controlled-more sets i d c s t l e step =
    step ∙ ap (λ s. with_controlled s (get_or sets i d ∷ [])) e ∙ ap (λ (controlled : List ℕ). record c { controlled = controlled }) (append_assoc c.controlled (take i sets) (get_or sets i d ∷ []) ∙ ap (λ ys. c.controlled ++ ys) (sym (take_more sets i d l)))

-- not at most, and more
pub not-within : (n m : ℕ) → not (nat_le n m) ≡ nat_lt m n
not-within n m = grind (arith, nat_tests)

module _ {F : Type 0} (value : F → Number) where
  first-append : (known : Known F) (xs ys : Uses F) → first_error (errors_of known (xs ++ ys)) ≡ sooner (first_error (errors_of known xs)) (first_error (errors_of known ys))
  first-append known xs ys = ap first_error (errors-append known xs ys) ∙ first_of-append (errors_of known xs) (errors_of known ys)

  -- parts and steps that are checked alternately
  pub noted-turned : (c s t u : Checking) (xs ss ys zs : Uses F) → s ≡ noted value c (xs ++ ss) → t ≡ noted value s ys → u ≡ noted value t zs → u ≡ noted value c ((xs ++ ys) ++ (ss ++ zs))
  noted-turned c s t u xs ss ys zs e f g =
      noted-then value c t u ((xs ++ ss) ++ ys) zs (noted-then value c s t (xs ++ ss) ys e f) g ∙ ap (λ first. with_first c (sooner c.first first)) (apart ∙ ap (λ m. sooner m z) (sooner-assoc x m y ∙ ap (sooner x) (sooner-comm m y) ∙ sym (sooner-assoc x y m)) ∙ sooner-assoc (sooner x y) m z ∙ sym together)
    where
      x : Option CompileError
      x = first_error (errors_of (known_of value c) xs)

      m : Option CompileError
      m = first_error (errors_of (known_of value c) ss)

      y : Option CompileError
      y = first_error (errors_of (known_of value c) ys)

      z : Option CompileError
      z = first_error (errors_of (known_of value c) zs)

      apart : first_error (errors_of (known_of value c) (((xs ++ ss) ++ ys) ++ zs)) ≡ sooner (sooner (sooner x m) y) z
      apart = first-append (known_of value c) ((xs ++ ss) ++ ys) zs ∙ ap (λ n. sooner n z) (first-append (known_of value c) (xs ++ ss) ys ∙ ap (λ n. sooner n y) (first-append (known_of value c) xs ss))

      together : first_error (errors_of (known_of value c) ((xs ++ ys) ++ (ss ++ zs))) ≡ sooner (sooner x y) (sooner m z)
      together = first-append (known_of value c) (xs ++ ys) (ss ++ zs) ∙ ap (λ n. sooner n (first_error (errors_of (known_of value c) (ss ++ zs)))) (first-append (known_of value c) xs ys) ∙ ap (sooner (sooner x y)) (first-append (known_of value c) ss zs)

  -- a part of which some errors are looked for before other parts, and some after them
  pub noted-around : (c s t u : Checking) (at : Place) (used : Use F) (faults late : List (Bool × ErrorKind)) (xs : Uses F) → first_fault at (faults ++ late) ≡ first_fault at (map (λ kind. (has_error (known_of value c) used kind, kind)) checked_kinds) → s ≡ faulted c at faults → t ≡ noted value s xs → u ≡ faulted t at late → u ≡ noted value c ((at, used) ∷ xs)
  noted-around c s t u at used faults late xs same e f g =
      g ∙ ap (λ n. faulted n at late) (f ∙ ap (λ n. noted value n xs) e) ∙ ap (with_first c) moved ∙ noted-then value c (faulted c at (faults ++ late)) _ ((at, used) ∷ []) xs (noted-by value c (faulted c at (faults ++ late)) at used (faults ++ late) same refl) refl
    where
      x : Option CompileError
      x = first_error (errors_of (known_of value c) xs)

      before : Option CompileError
      before = sooner c.first (first_fault at faults)

      moved : sooner (sooner before x) (first_fault at late) ≡ sooner (sooner c.first (first_fault at (faults ++ late))) x
      moved = sooner-assoc before x (first_fault at late) ∙ ap (sooner before) (sooner-comm x (first_fault at late)) ∙ sym (sooner-assoc before (first_fault at late) x) ∙ ap (λ n. sooner n x) (sooner-assoc c.first (first_fault at faults) (first_fault at late) ∙ ap (sooner c.first) (sym (fault-append at faults late)))

-- what is not both
pub not-both : (a b r : Bool) → r ≡ not b → a ≡ true → not r ≡ (a && b)
not-both a b r p e = ap not p ∙ not-not b ∙ sym (ap (λ a. a && b) e)

pub not-first : (a b r : Bool) → r ≡ true → a ≡ false → not r ≡ (a && b)
not-first a b r p e = ap not p ∙ sym (ap (λ a. a && b) e)
