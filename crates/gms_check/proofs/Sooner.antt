-- The earlier of errors: the order in which they are compared has no effect.
use Rattle.std.proofs.Common.{◌≡◌, ◌<◌, ℕ, Bool, true, false, ◌&&◌, ◌||◌, ◌==◌, List, [], ◌∷◌, ◌++◌, Option, Some, None, refl, sym, ap, ◌∙◌, arith, inl, inr, eq-eqb, if◌then◌else◌}
use Rattle.std.specs.Prelude.{◌⊎◌, nat_lt, slice_index_or}
use Rattle.std.proofs.lemmas.Bool.{ltb-true, lt-ltb, eqb-true}
use Rattle.std.proofs.lemmas.Bool.Decides.{nat_tests}
use Rattle.gms_labels.specs.declared.place.Place.{Place}
use Rattle.gms_check.specs.declared.error.ErrorKind.{ErrorKind}
use Rattle.gms_check.specs.declared.error.ErrorKind.TheVariants.{UnknownName, Redeclared, WrongKind, WrongArity, DomainOfSet, DomainOfLabel, Uncontrolled, ControlledTwice, NotOrdered, DynamicDomain, Nonlinear, Discrete, ModelType, NotDefined, DefinedTwice, Objective, UnknownSolver, OptionRange, Endogenous, Function, DataFault, Restart}
use Rattle.gms_check.specs.declared.error.CompileError.{CompileError}
use Rattle.gms_check.specs.Errors.{comes_first, error_code, first_error, sooner}

-- an error from its number
abbrev kind_of_code : ℕ → ErrorKind
kind_of_code n = slice_index_or (Restart ∷ UnknownName ∷ Redeclared ∷ WrongKind ∷ WrongArity ∷ DomainOfSet ∷ DomainOfLabel ∷ Uncontrolled ∷ ControlledTwice ∷ NotOrdered ∷ DynamicDomain ∷ Nonlinear ∷ Discrete ∷ ModelType ∷ NotDefined ∷ DefinedTwice ∷ Objective ∷ UnknownSolver ∷ OptionRange ∷ Endogenous ∷ Function ∷ DataFault ∷ []) n Restart

code-back : (kind : ErrorKind) → kind_of_code (error_code kind) ≡ kind
code-back UnknownName = refl
code-back Redeclared = refl
code-back WrongKind = refl
code-back WrongArity = refl
code-back DomainOfSet = refl
code-back DomainOfLabel = refl
code-back Uncontrolled = refl
code-back ControlledTwice = refl
code-back NotOrdered = refl
code-back DynamicDomain = refl
code-back Nonlinear = refl
code-back Discrete = refl
code-back ModelType = refl
code-back NotDefined = refl
code-back DefinedTwice = refl
code-back Objective = refl
code-back UnknownSolver = refl
code-back OptionRange = refl
code-back Endogenous = refl
code-back Function = refl
code-back DataFault = refl
code-back Restart = refl

-- three pairs of numbers, compared in sequence
abbrev before : ℕ → ℕ → ℕ → ℕ → ℕ → ℕ → Bool
before l c k m d j = (nat_lt l m || l == m && nat_lt c d) || (l == m && c == d) && nat_lt k j

total : (l c k m d j : ℕ) → before l c k m d j ≡ false → before m d j l c k ≡ false → (l ≡ m) × (c ≡ d) × (k ≡ j)
total l c k m d j e f = (grind (arith, nat_tests), grind (arith, nat_tests), grind (arith, nat_tests))

-- one triple of numbers comes before another
Comes : ℕ → ℕ → ℕ → ℕ → ℕ → ℕ → Type 0
Comes l c k m d j = (l < m) ⊎ ((l ≡ m) × ((c < d) ⊎ ((c ≡ d) × (k < j))))

comes : (l c k m d j : ℕ) → before l c k m d j ≡ true → Comes l c k m d j
unfolding Comes
comes l c k m d j e = by (nat_lt l m) (l == m) (nat_lt c d) (c == d) (nat_lt k j) refl refl refl refl refl e
  where
    by : (a b x y z : Bool) → nat_lt l m ≡ a → (l == m) ≡ b → nat_lt c d ≡ x → (c == d) ≡ y → nat_lt k j ≡ z → ((a || b && x) || (b && y) && z) ≡ true → (l < m) ⊎ ((l ≡ m) × ((c < d) ⊎ ((c ≡ d) × (k < j))))
    by true b x y z p _ _ _ _ _ = inl (ltb-true l m p)
    by false true true y z _ q r _ _ _ = inr (eqb-true l m q, inl (ltb-true c d r))
    by false true false true true _ q _ s t _ = inr (eqb-true l m q, inr (eqb-true c d s, ltb-true k j t))
    by false true false true false _ _ _ _ _ f = absurd cc
    by false true false false z _ _ _ _ _ f = absurd cc
    by false false x y z _ _ _ _ _ f = absurd cc

told : (l c k m d j : ℕ) → Comes l c k m d j → before l c k m d j ≡ true
unfolding Comes
told l c k m d j (inl p) = rw (lt-ltb l m p) refl
told l c k m d j (inr (p, inl q)) = rw (eq-eqb l m p, lt-ltb c d q) (by (nat_lt l m))
  where
    by : (a : Bool) → ((a || true) || (c == d) && nat_lt k j) ≡ true
    by true = refl
    by false = refl
told l c k m d j (inr (p, inr (q, r))) = rw (eq-eqb l m p, eq-eqb c d q, lt-ltb k j r) (by (nat_lt l m || nat_lt c d))
  where
    by : (a : Bool) → (a || true) ≡ true
    by true = refl
    by false = refl

between : (l c k m d j n e i : ℕ) → Comes l c k m d j → Comes m d j n e i → Comes l c k n e i
unfolding Comes
between l c k m d j n e i (inl p) (inl q) = inl (omega arith)
between l c k m d j n e i (inl p) (inr (q, _)) = inl (omega arith)
between l c k m d j n e i (inr (p, _)) (inl q) = inl (omega arith)
between l c k m d j n e i (inr (p, inl r)) (inr (q, inl s)) = inr (p ∙ q, inl (omega arith))
between l c k m d j n e i (inr (p, inl r)) (inr (q, inr (s, t))) = inr (p ∙ q, inl (omega arith))
between l c k m d j n e i (inr (p, inr (r, u))) (inr (q, inl s)) = inr (p ∙ q, inl (omega arith))
between l c k m d j n e i (inr (p, inr (r, u))) (inr (q, inr (s, t))) = inr (p ∙ q, inr (r ∙ s, omega arith))

trans : (l c k m d j n e i : ℕ) → before l c k m d j ≡ true → before m d j n e i ≡ true → before l c k n e i ≡ true
trans l c k m d j n e i p q = told l c k n e i (between l c k m d j n e i (comes l c k m d j p) (comes m d j n e i q))

anti : (l c k m d j : ℕ) → before l c k m d j ≡ true → before m d j l c k ≡ false
anti l c k m d j e = grind (arith, nat_tests)

-- ---- errors

same_place_error : (a b : CompileError) → a.at.line ≡ b.at.line → a.at.column ≡ b.at.column → error_code a.kind ≡ error_code b.kind → a ≡ b
same_place_error a b l c k =
    let kinds : a.kind ≡ b.kind = sym (code-back a.kind) ∙ ap kind_of_code k ∙ code-back b.kind in
    let places : a.at ≡ b.at = ap (λ (n : ℕ). record { line = n; column = a.at.column }) l ∙ ap (λ (n : ℕ). record { line = b.at.line; column = n }) c in
    ap (λ (at : Place). record { kind = a.kind; at = at }) places ∙ ap (λ (kind : ErrorKind). record { kind = kind; at = b.at }) kinds

abbrev L : CompileError → CompileError → Bool
L a b = comes_first a b

l-total : (a b : CompileError) → L a b ≡ false → L b a ≡ false → a ≡ b
l-total a b e f =
    let t = total a.at.line a.at.column (error_code a.kind) b.at.line b.at.column (error_code b.kind) e f in
    same_place_error a b t.0 t.1 t.2

l-trans : (a b c : CompileError) → L a b ≡ true → L b c ≡ true → L a c ≡ true
l-trans a b c p q = trans a.at.line a.at.column (error_code a.kind) b.at.line b.at.column (error_code b.kind) c.at.line c.at.column (error_code c.kind) p q

l-anti : (a b : CompileError) → L a b ≡ true → L b a ≡ false
l-anti a b p = anti a.at.line a.at.column (error_code a.kind) b.at.line b.at.column (error_code b.kind) p

l-not : (a b c : CompileError) → L b a ≡ false → L c b ≡ false → L c a ≡ false
l-not a b c p q = by (L c a) refl (L a b) refl
  where
    by : (s : Bool) → L c a ≡ s → (t : Bool) → L a b ≡ t → L c a ≡ false
    by false e t f = e
    by true e true f = absurd (let g = l-trans c a b e f in cc)
    by true e false f = absurd (let same = l-total a b f p in let g = ap (L c) same in cc)

abbrev third : CompileError → CompileError → CompileError
third m n = if L m n then m else n

pub sooner-none : (a : Option CompileError) → sooner a None ≡ a
sooner-none None = refl
sooner-none (Some a) = refl

pub sooner-comm : (a b : Option CompileError) → sooner a b ≡ sooner b a
sooner-comm None b = sym (sooner-none b)
sooner-comm (Some a) None = refl
sooner-comm (Some a) (Some b) = ap Some (by (L b a) refl (L a b) refl)
  where
    by : (s : Bool) → L b a ≡ s → (t : Bool) → L a b ≡ t → (if s then b else a) ≡ (if t then a else b)
    by true e true f = absurd (let g = l-anti b a e in cc)
    by true e false f = refl
    by false e true f = refl
    by false e false f = l-total a b f e

pub sooner-assoc : (a b c : Option CompileError) → sooner (sooner a b) c ≡ sooner a (sooner b c)
sooner-assoc None b c = refl
sooner-assoc (Some a) None c = refl
sooner-assoc (Some a) (Some b) None = refl
sooner-assoc (Some a) (Some b) (Some c) = ap Some (by (L b a) refl (L c b) refl)
  where
    by : (s : Bool) → L b a ≡ s → (t : Bool) → L c b ≡ t → third c (if s then b else a) ≡ third (if t then c else b) a
    by true e true f = rw (f, l-trans c b a f e) refl
    by true e false f = rw (f, e) refl
    by false e true f = refl
    by false e false f = rw (e, l-not a b c e f) refl

pub sooner-left : (a b c : Option CompileError) → sooner a (sooner b c) ≡ sooner b (sooner a c)
sooner-left a b c = sym (sooner-assoc a b c) ∙ ap (λ m. sooner m c) (sooner-comm a b) ∙ sooner-assoc b a c

pub sooner-same : (a : Option CompileError) → sooner a a ≡ a
sooner-same None = refl
sooner-same (Some a) = by (L a a)
  where
    by : (s : Bool) → Some (if s then a else a) ≡ Some a
    by true = refl
    by false = refl

-- the first of errors and others
pub first_of-append : (xs ys : List CompileError) → first_error (xs ++ ys) ≡ sooner (first_error xs) (first_error ys)
first_of-append [] ys = refl
first_of-append (x ∷ xs) ys = ap (sooner (Some x)) (first_of-append xs ys) ∙ sym (sooner-assoc (Some x) (first_error xs) (first_error ys))
