-- Models, their equations, and how many of these are counted as defined.
use Rattle.std.proofs.Common.{◌≡◌, ◌≢◌, ◌<◌, ◌≤◌, ℕ, zero, suc, Bool, true, false, not, ◌==◌, List, [], ◌∷◌, ◌++◌, length, take, refl, sym, ap, ◌∙◌, arith, subst, eq-eqb, if◌then◌else◌}
use Rattle.std.specs.Prelude.{nat_lt, slice_index_or}
use Rattle.std.specs.List.{list_any}
use Rattle.std.proofs.Math.ListN.{set}
use Rattle.std.proofs.lemmas.List.{map-append, length-append, length-map, take-append-le, set_past, get_or-set_same, get_or-set_other}
use Rattle.std.proofs.lemmas.Bool.{ltb-true, eqb-true, or_parts}
use Rattle.std.proofs.lemmas.Bool.Decides.{nat_tests}
use Rattle.gms_scope.specs.declared.model.Equations.{Equations}
use Rattle.gms_scope.specs.declared.model.Equations.TheVariants.{All, Listed}
use Rattle.gms_scope.specs.declared.model.Model.{Model}
use Rattle.gms_scope.specs.Facts.{declared_equations, is_missing}
use Rattle.gms_scope.specs.Models.{AreAllThere, AreCounted, AreEquationsDeclared, IsCountedModel, equations_within, model_names, models_within, recounted}
use Rattle.gms_scope.specs.Order.{later, order_of}

-- ---- one equation more

within-more : (equations : List ℕ) (e : ℕ) (of : Equations) → AreEquationsDeclared equations of → equations_within (equations ++ e ∷ []) of ≡ equations_within equations of
within-more equations e (All count) there = take-append-le count equations (e ∷ []) there
within-more equations e (Listed listed) there = refl

still-there : (equations : List ℕ) (e : ℕ) (of : Equations) → AreEquationsDeclared equations of → AreEquationsDeclared (equations ++ e ∷ []) of
still-there equations e (All count) there = let l = length-append equations (e ∷ []) in omega arith
still-there equations e (Listed listed) there = tt

pub there-more : (equations : List ℕ) (e : ℕ) (models : List Model) → AreAllThere equations models → AreAllThere (equations ++ e ∷ []) models
there-more equations e [] there = tt
there-more equations e (model ∷ models) there =
    (still-there equations e model.equations there.0, there-more equations e models there.1)

pub models-more : (equations : List ℕ) (e : ℕ) (models : List Model) → AreAllThere equations models → models_within (equations ++ e ∷ []) models ≡ models_within equations models
models-more equations e [] there = refl
models-more equations e (model ∷ models) there =
    ap (λ of. (model.name, of) ∷ models_within (equations ++ e ∷ []) models) (within-more equations e model.equations there.0) ∙ ap (λ ms. (model.name, equations_within equations model.equations) ∷ ms) (models-more equations e models there.1)

pub counted-more : (defined : List Bool) (equations : List ℕ) (e : ℕ) (models : List Model) → AreAllThere equations models → AreCounted defined equations models → AreCounted defined (equations ++ e ∷ []) models
counted-more defined equations e [] there counted = tt
counted-more defined equations e (model ∷ models) there counted =
    let same = within-more equations e model.equations there.0 in
    (record { most = subst (λ of. model.defined ≤ length of) (sym same) counted.0.most; known = ap (λ of. list_any (is_missing defined) (take model.defined of)) same ∙ counted.0.known }, counted-more defined equations e models there.1 counted.1)

-- ---- one model more

pub there-append : (equations : List ℕ) (models : List Model) (model : Model) → AreAllThere equations models → AreEquationsDeclared equations model.equations → AreAllThere equations (models ++ model ∷ [])
there-append equations [] model there this = (this, tt)
there-append equations (m ∷ models) model there this = (there.0, there-append equations models model there.1 this)

pub counted-append : (defined : List Bool) (equations : List ℕ) (models : List Model) (name : ℕ) (of : Equations) → AreCounted defined equations models → AreCounted defined equations (models ++ record { name = name; equations = of; defined = 0 } ∷ [])
counted-append defined equations [] name of counted = (record { most = omega arith; known = refl }, tt)
counted-append defined equations (m ∷ models) name of counted = (counted.0, counted-append defined equations models name of counted.1)

pub model_names-more : (models : List Model) (model : Model) → model_names (models ++ model ∷ []) ≡ model_names models ++ model.name ∷ []
model_names-more models model = map-append (λ (m : Model). m.name) models (model ∷ [])

pub model_names-length : (models : List Model) → length (model_names models) ≡ length models
model_names-length models = length-map models (λ (m : Model). m.name)

-- ---- the model at a place

pub equations-at : (equations : List ℕ) (models : List Model) (name place : ℕ) (d : Model) → order_of (model_names models) name ≡ suc place → declared_equations (models_within equations models) name ≡ equations_within equations (slice_index_or models place d).equations
equations-at equations [] name place d e = absurd (omega arith)
equations-at equations (model ∷ models) name place d e =
    by (model.name == name) (order_of (model_names models) name) (λ p. equations-at equations models name p d) place e
  where
    by : (s : Bool) (o : ℕ) → ((p : ℕ) → o ≡ suc p → declared_equations (models_within equations models) name ≡ equations_within equations (slice_index_or models p d).equations) → (place : ℕ) → (if s then 1 else later o) ≡ suc place → (if s then equations_within equations model.equations else declared_equations (models_within equations models) name) ≡ equations_within equations (slice_index_or (model ∷ models) place d).equations
    by true o _ zero e = refl
    by true o _ (suc place) e = absurd (omega arith)
    by false zero _ place e = absurd (omega arith)
    by false (suc o) _ zero e = absurd (omega arith)
    by false (suc o) rest (suc place) e = rest place (omega arith)

pub equations-none : (equations : List ℕ) (models : List Model) (name : ℕ) → order_of (model_names models) name ≡ 0 → declared_equations (models_within equations models) name ≡ []
equations-none equations [] name e = refl
equations-none equations (model ∷ models) name e =
    by (model.name == name) (order_of (model_names models) name) (equations-none equations models name) e
  where
    by : (s : Bool) (o : ℕ) → (o ≡ 0 → declared_equations (models_within equations models) name ≡ []) → (if s then 1 else later o) ≡ 0 → (if s then equations_within equations model.equations else declared_equations (models_within equations models) name) ≡ []
    by true o _ e = absurd (omega arith)
    by false zero rest e = rest refl
    by false (suc o) _ e = absurd (omega arith)

pub counted-at : (defined : List Bool) (equations : List ℕ) (models : List Model) (place : ℕ) (d : Model) → place < length models → AreCounted defined equations models → IsCountedModel defined equations (slice_index_or models place d)
counted-at defined equations [] place d less counted = absurd (omega arith)
counted-at defined equations (model ∷ models) zero d less counted = counted.0
counted-at defined equations (model ∷ models) (suc place) d less counted = counted-at defined equations models place d (omega arith) counted.1

-- ---- another count of the model at a place

pub names-set : (models : List Model) (place count : ℕ) (d : Model) → place < length models → model_names (set models place (recounted (slice_index_or models place d) count)) ≡ model_names models
names-set [] place count d less = absurd (omega arith)
names-set (model ∷ models) zero count d less = refl
names-set (model ∷ models) (suc place) count d less = ap (λ ms. model.name ∷ ms) (names-set models place count d (omega arith))

pub models-set : (equations : List ℕ) (models : List Model) (place count : ℕ) (d : Model) → place < length models → models_within equations (set models place (recounted (slice_index_or models place d) count)) ≡ models_within equations models
models-set equations [] place count d less = absurd (omega arith)
models-set equations (model ∷ models) zero count d less = refl
models-set equations (model ∷ models) (suc place) count d less =
    ap (λ ms. (model.name, equations_within equations model.equations) ∷ ms) (models-set equations models place count d (omega arith))

pub there-set : (equations : List ℕ) (models : List Model) (place count : ℕ) (d : Model) → place < length models → AreAllThere equations models → AreAllThere equations (set models place (recounted (slice_index_or models place d) count))
there-set equations [] place count d less there = absurd (omega arith)
there-set equations (model ∷ models) zero count d less there = there
there-set equations (model ∷ models) (suc place) count d less there = (there.0, there-set equations models place count d (omega arith) there.1)

pub counted-set : (defined : List Bool) (equations : List ℕ) (models : List Model) (place count : ℕ) (d : Model) → place < length models → AreCounted defined equations models → IsCountedModel defined equations (recounted (slice_index_or models place d) count) → AreCounted defined equations (set models place (recounted (slice_index_or models place d) count))
counted-set defined equations [] place count d less counted this = absurd (omega arith)
counted-set defined equations (model ∷ models) zero count d less counted this = (this, counted.1)
counted-set defined equations (model ∷ models) (suc place) count d less counted this =
    (counted.0, counted-set defined equations models place count d (omega arith) counted.1 this)

-- ---- more names defined

missing-more : (defined : List Bool) (name other : ℕ) → is_missing defined other ≡ false → is_missing (set defined name true) other ≡ false
missing-more defined name other known = by (other == name) refl
  where
    by : (s : Bool) → (other == name) ≡ s → is_missing (set defined name true) other ≡ false
    by false differs =
        let ne : other ≢ name = λ e. absurd (let t = eq-eqb other name e in cc) in
        ap not (get_or-set_other defined name other true false ne) ∙ known
    by true same = there (nat_lt name (length defined)) refl
      where
        there : (b : Bool) → nat_lt name (length defined) ≡ b → is_missing (set defined name true) other ≡ false
        there true less =
            ap (λ n. not (slice_index_or (set defined name true) n false)) (eqb-true other name same) ∙ ap not (get_or-set_same defined name true false (ltb-true name (length defined) less))
        there false past =
            let l : length defined ≤ name = grind (arith, nat_tests) in
            ap (λ marks. is_missing marks other) (set_past defined name true l) ∙ known

known-more : (defined : List Bool) (name : ℕ) (equations : List ℕ) → list_any (is_missing defined) equations ≡ false → list_any (is_missing (set defined name true)) equations ≡ false
known-more defined name [] known = refl
known-more defined name (e ∷ equations) known =
    let parts = or_parts (is_missing defined e) (list_any (is_missing defined) equations) known in
    rw (missing-more defined name e parts.0) (known-more defined name equations parts.1)

pub counted-defined : (defined : List Bool) (name : ℕ) (equations : List ℕ) (models : List Model) → AreCounted defined equations models → AreCounted (set defined name true) equations models
counted-defined defined name equations [] counted = tt
counted-defined defined name equations (model ∷ models) counted =
    (record { most = counted.0.most; known = known-more defined name (take model.defined (equations_within equations model.equations)) counted.0.known }, counted-defined defined name equations models counted.1)
