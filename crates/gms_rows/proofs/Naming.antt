-- Names without repetition, and the definitions and equations of a program statement by statement.
use Rattle.std.proofs.Common.{◌≡◌, ℕ, ◌+◌, ◌<◌, ◌≤◌, Bool, true, false, not, ◌||◌, ◌==◌, cond, if◌then◌else◌, List, [], ◌∷◌, ◌++◌, map, drop, take, length, get_or, Option, Some, None, refl, sym, ap, ◌∙◌, append-nil, append_assoc}
use Rattle.std.specs.Prelude.{flat_map}
use Rattle.std.specs.List.{filter}
use Rattle.std.proofs.lemmas.Bool.{eqb-true, eq-eqb, eqb-false, ne_eqb}
use Rattle.std.proofs.lemmas.List.{at_drop_more, at_drop_all, take_more}
use Rattle.std.proofs.lemmas.List.Concat.{flat_map-append}
use Rattle.gms_ast.specs.declared.declaration.ModelDecl.{ModelDecl}
use Rattle.gms_ast.specs.declared.program.Stmt.{Stmt}
use Rattle.gms_rows.specs.Rows.{distinct_numbers, Definition, definitions, defined_at, definition_of, listed_equations, found, equations_declared_by, models_of, equations_from}
use Rattle.gms_rows.specs.InnerContracts.{with_once, is_in}

-- ---- without repetition

-- a name that is left out
left_out : (n : ℕ) → not (n == n) ≡ false
left_out n = ap not (eq-eqb n n refl)

filter-append : (p : ℕ → Bool) (xs ys : List ℕ) → filter p (xs ++ ys) ≡ filter p xs ++ filter p ys
filter-append p [] ys = refl
filter-append p (x ∷ xs) ys = by (p x) (filter-append p xs ys)
  where
    by : (b : Bool) → filter p (xs ++ ys) ≡ filter p xs ++ filter p ys → cond b (x ∷ filter p (xs ++ ys)) (filter p (xs ++ ys)) ≡ cond b (x ∷ filter p xs) (filter p xs) ++ filter p ys
    by true rest = ap (λ zs. x ∷ zs) rest
    by false rest = rest

-- whether another name is among those that differ from one
is_in-filter : (n x : ℕ) (xs : List ℕ) → (n == x) ≡ false → is_in (filter (λ m. not (m == n)) xs) x ≡ is_in xs x
is_in-filter n x [] apart = refl
is_in-filter n x (y ∷ ys) apart = by (y == n) refl (is_in-filter n x ys apart)
  where
    by : (b : Bool) → (y == n) ≡ b → is_in (filter (λ m. not (m == n)) ys) x ≡ is_in ys x → is_in (cond (not b) (y ∷ filter (λ m. not (m == n)) ys) (filter (λ m. not (m == n)) ys)) x ≡ ((y == x) || is_in ys x)
    by true e rest = rest ∙ sym (ap (λ b. b || is_in ys x) (ap (λ z. z == x) (eqb-true y n e) ∙ apart))
    by false e rest = ap (λ b. (y == x) || b) rest

-- one more name
pub distinct_numbers-push : (xs : List ℕ) (x : ℕ) → distinct_numbers (xs ++ x ∷ []) ≡ with_once (distinct_numbers xs) x
distinct_numbers-push [] x = refl
distinct_numbers-push (n ∷ xs) x =
    ap (λ those. n ∷ filter (λ m. not (m == n)) those) (distinct_numbers-push xs x) ∙ by (n == x) refl (is_in (distinct_numbers xs) x) refl
  where
    p : ℕ → Bool
    p m = not (m == n)

    by : (same : Bool) → (n == x) ≡ same → (there : Bool) → is_in (distinct_numbers xs) x ≡ there → n ∷ filter (λ m. not (m == n)) (if there then distinct_numbers xs else distinct_numbers xs ++ x ∷ []) ≡ (if same || is_in (filter (λ m. not (m == n)) (distinct_numbers xs)) x then n ∷ filter (λ m. not (m == n)) (distinct_numbers xs) else (n ∷ filter (λ m. not (m == n)) (distinct_numbers xs)) ++ x ∷ [])
    by true e true there = refl
    by true e false there =
        ap (λ those. n ∷ those) (filter-append (λ m. not (m == n)) (distinct_numbers xs) (x ∷ []) ∙ ap (λ b. filter (λ m. not (m == n)) (distinct_numbers xs) ++ cond b (x ∷ []) []) (ap (λ z. not (z == n)) (sym (eqb-true n x e)) ∙ left_out n) ∙ append-nil (filter (λ m. not (m == n)) (distinct_numbers xs)))
    by false e true there =
        sym (ap (λ b. if b then n ∷ filter (λ m. not (m == n)) (distinct_numbers xs) else (n ∷ filter (λ m. not (m == n)) (distinct_numbers xs)) ++ x ∷ []) (is_in-filter n x (distinct_numbers xs) e ∙ there))
    by false e false there =
        let apart : (x == n) ≡ false = ne_eqb x n (λ same. eqb-false n x e (sym same)) in
        ap (λ those. n ∷ those) (filter-append (λ m. not (m == n)) (distinct_numbers xs) (x ∷ []) ∙ ap (λ b. filter (λ m. not (m == n)) (distinct_numbers xs) ++ cond (not b) (x ∷ []) []) apart)
        ∙ sym (ap (λ b. if b then n ∷ filter (λ m. not (m == n)) (distinct_numbers xs) else (n ∷ filter (λ m. not (m == n)) (distinct_numbers xs)) ++ x ∷ []) (is_in-filter n x (distinct_numbers xs) e ∙ there))

map-append : {X : Type 0} (f : X → ℕ) (xs ys : List X) → map f (xs ++ ys) ≡ map f xs ++ map f ys
map-append f [] ys = refl
map-append f (x ∷ xs) ys = ap (λ zs. f x ∷ zs) (map-append f xs ys)

-- one more of a list, without repetition
pub distinct_numbers-at : {X : Type 0} (name : X → ℕ) (before : List ℕ) (xs : List X) (i : ℕ) (d : X) → i < length xs → distinct_numbers (before ++ map name (take (i + 1) xs)) ≡ with_once (distinct_numbers (before ++ map name (take i xs))) (name (get_or xs i d))
distinct_numbers-at name before xs i d here =
    ap (λ ys. distinct_numbers (before ++ map name ys)) (take_more xs i d here)
    ∙ ap (λ names. distinct_numbers (before ++ names)) (map-append name (take i xs) (get_or xs i d ∷ []))
    ∙ ap distinct_numbers (sym (append_assoc before (map name (take i xs)) (name (get_or xs i d) ∷ [])))
    ∙ distinct_numbers-push (before ++ map name (take i xs)) (name (get_or xs i d))

pub distinct_numbers-more : {X : Type 0} (name : X → ℕ) (before : List ℕ) (xs : List X) (i : ℕ) (x : X) → i < length xs → x ≡ get_or xs i x → distinct_numbers (before ++ map name (take (i + 1) xs)) ≡ with_once (distinct_numbers (before ++ map name (take i xs))) (name x)
distinct_numbers-more name before xs i x here is =
    distinct_numbers-at name before xs i x here ∙ ap (λ y. with_once (distinct_numbers (before ++ map name (take i xs))) (name y)) (sym is)

-- ---- definitions

module _ {F : Type 0} (name : ℕ) where
  pub definition-here : (ds es : List (Definition F)) (d : Definition F) → definition_of ds name ≡ d ∷ [] → definition_of (ds ++ es) name ≡ d ∷ []
  definition-here [] es d e = absurd (cc)
  definition-here (x ∷ ds) es d e = by (x.equation == name) e (definition-here ds es d)
    where
      by : (b : Bool) → (if b then x ∷ [] else definition_of ds name) ≡ d ∷ [] → (definition_of ds name ≡ d ∷ [] → definition_of (ds ++ es) name ≡ d ∷ []) → (if b then x ∷ [] else definition_of (ds ++ es) name) ≡ d ∷ []
      by true e rest = e
      by false e rest = rest e

  pub definition-later : (ds es : List (Definition F)) → definition_of ds name ≡ [] → definition_of (ds ++ es) name ≡ definition_of es name
  definition-later [] es e = refl
  definition-later (x ∷ ds) es e = by (x.equation == name) e (definition-later ds es)
    where
      by : (b : Bool) → (if b then x ∷ [] else definition_of ds name) ≡ [] → (definition_of ds name ≡ [] → definition_of (ds ++ es) name ≡ definition_of es name) → (if b then x ∷ [] else definition_of (ds ++ es) name) ≡ definition_of es name
      by true e rest = absurd (cc)
      by false e rest = rest e

  module _ (statements : List (Stmt F)) (i : ℕ) (s : Stmt F) (here : i < length statements) (is : s ≡ get_or statements i s) where
    next : definition_of (definitions (drop i statements)) name ≡ definition_of (defined_at s.at s.act ++ definitions (drop (i + 1) statements)) name
    next =
        at_drop_more (λ those. definition_of (definitions those) name) statements i s here
        ∙ ap (λ (z : Stmt F). definition_of (definitions (z ∷ drop (i + 1) statements)) name) (sym is)

    pub defined-here : (d : Definition F) → definition_of (defined_at s.at s.act) name ≡ d ∷ [] → definition_of (definitions (drop i statements)) name ≡ d ∷ []
    defined-here d e = next ∙ definition-here (defined_at s.at s.act) (definitions (drop (i + 1) statements)) d e

    pub defined-later : definition_of (defined_at s.at s.act) name ≡ [] → definition_of (definitions (drop i statements)) name ≡ definition_of (definitions (drop (i + 1) statements)) name
    defined-later e = next ∙ definition-later (defined_at s.at s.act) (definitions (drop (i + 1) statements)) e

  pub defined-nowhere : (statements : List (Stmt F)) (i : ℕ) → length statements ≤ i → definition_of (definitions (drop i statements)) name ≡ []
  defined-nowhere statements i all = at_drop_all (λ those. definition_of (definitions those) name) statements i all

  -- ---- equations

  -- the equations that these statements declare
  abbrev pub declared_in : List (Stmt F) → List ℕ
  declared_in statements = flat_map (λ (s : Stmt F). equations_declared_by s.act) statements

  module _ (declared : List ℕ) (statements : List (Stmt F)) (i : ℕ) (s : Stmt F) (here : i < length statements) (is : s ≡ get_or statements i s) where
    step : (o : Option (List ℕ)) → found (distinct_numbers declared) name (models_of s.act) ≡ o → equations_from declared name (drop i statements) ≡ (elim o [ Some equations ↦ equations | None ↦ equations_from (declared ++ equations_declared_by s.act) name (drop (i + 1) statements) ])
    step o e =
        at_drop_more (equations_from declared name) statements i s here
        ∙ ap (λ (z : Stmt F). equations_from declared name (z ∷ drop (i + 1) statements)) (sym is)
        ∙ ap (λ (x : Option (List ℕ)). elim x [ Some equations ↦ equations | None ↦ equations_from (declared ++ equations_declared_by s.act) name (drop (i + 1) statements) ]) e

    pub equations-here : (equations : List ℕ) → found (distinct_numbers declared) name (models_of s.act) ≡ Some equations → equations_from declared name (drop i statements) ≡ equations
    equations-here equations e = step (Some equations) e

    pub equations-later : found (distinct_numbers declared) name (models_of s.act) ≡ None → equations_from declared name (drop i statements) ≡ equations_from (declared ++ equations_declared_by s.act) name (drop (i + 1) statements)
    equations-later e = step None e

  pub equations-nowhere : (declared : List ℕ) (statements : List (Stmt F)) (i : ℕ) → length statements ≤ i → equations_from declared name (drop i statements) ≡ []
  equations-nowhere declared statements i all = at_drop_all (equations_from declared name) statements i all

-- ---- models

module _ (declared : List ℕ) (name : ℕ) (models : List ModelDecl) (i : ℕ) (m : ModelDecl) (here : i < length models) (is : m ≡ get_or models i m) where
  next_model : found declared name (drop i models) ≡ found declared name (m ∷ drop (i + 1) models)
  next_model = at_drop_more (found declared name) models i m here ∙ ap (λ z. found declared name (z ∷ drop (i + 1) models)) (sym is)

  pub found-next : (m.named.name ≡ name → ⊥) → found declared name (drop i models) ≡ found declared name (drop (i + 1) models)
  found-next other =
      next_model ∙ ap (λ b. if b then Some (listed_equations declared m) else found declared name (drop (i + 1) models)) (ne_eqb m.named.name name other)

  pub found-here : m.named.name ≡ name → found declared name (drop i models) ≡ Some (listed_equations declared m)
  found-here same =
      next_model ∙ ap (λ b. if b then Some (listed_equations declared m) else found declared name (drop (i + 1) models)) (eq-eqb m.named.name name same)

pub found-nowhere : (declared : List ℕ) (name : ℕ) (models : List ModelDecl) (i : ℕ) → length models ≤ i → found declared name (drop i models) ≡ None
found-nowhere declared name models i all = at_drop_all (found declared name) models i all

-- the equations that one more statement declares
pub declared-more : {F : Type 0} (name : ℕ) (statements : List (Stmt F)) (i : ℕ) (s : Stmt F) → i < length statements → s ≡ get_or statements i s → declared_in name (take (i + 1) statements) ≡ declared_in name (take i statements) ++ equations_declared_by s.act
declared-more {F} name statements i s here is =
    ap (declared_in name) (take_more statements i s here ∙ ap (λ z. take i statements ++ z ∷ []) (sym is))
    ∙ flat_map-append (λ (s : Stmt F). equations_declared_by s.act) (take i statements) (s ∷ [])
    ∙ ap (λ names. declared_in name (take i statements) ++ names) (append-nil (equations_declared_by s.act))
