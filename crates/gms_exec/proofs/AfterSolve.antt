-- What a solve leaves: its elements have their levels and marginals, and all else stays.
use Rattle.gms_exec.proofs.Joining.{get-prefix}
use Rattle.std.proofs.Common.{◌≡◌, ◌⊎◌, ℕ, zero, suc, ◌+◌, ◌<◌, Bool, true, false, not, ◌==◌, List, [], ◌∷◌, ◌++◌, length, map, slice_get, refl, sym, ap, ◌∙◌, cond, subst, Option, Some, None, unwrap_or, option_map, pos, arith, inl, inr}
use Rattle.std.specs.List.{fold}
use Rattle.std.proofs.lemmas.List.{length-set, map-append}
use Rattle.std.proofs.lemmas.Option.{slice_get-map}
use Rattle.gq_number.specs.Number.{Number, whole}
use Rattle.gms_store.specs.State.{Attributes, Content, undeclared, alias_of, set_of, parameter_of, variable_of, equation_of, model_with, Symbol, State, alias_target, base_of, symbol_at, symbol_of, with_content, if_fits, with_attributes, with_statuses, attributes_in, attributes_of, statuses_in, after_statuses, with_level, with_marginal, has_attributes}
use Rattle.gms_store.proofs.Writes.{symbol-after, symbol-changed, reads-same, attributes_after, attributes_elsewhere}
use Rattle.lp_core.specs.declared.program.Lp.{Lp}
use Rattle.lp_core.specs.declared.answer.End.{End}
use Rattle.lp_core.specs.declared.answer.End.TheVariants.{Optimal, Infeasible, Unbounded, Interrupted, Refused}
use Rattle.lp_form.specs.declared.key.Key.{Key}
use Rattle.gms_exec.specs.Solved.{first_or_zero, after_first, Point, points, with_point, keys_of_columns, row_keys, points_of, statuses_of, after_end}
use Rattle.gms_exec.specs.Elements.{IsElement, IsNot, AreElements, program_elements, feasible_levels, has_no_point}
use Rattle.gms_exec.proofs.Symbols.{base-after, symbol-elsewhere}
use Rattle.gms_exec.proofs.Levels.{following-fitted, fits-either}

-- ---- places of lists

some-same : {X : Type 0} (x y : X) → Some x ≡ Some y → x ≡ y
some-same x y e = ap (λ o. unwrap_or o x) e

get-right : {X : Type 0} (xs ys : List X) (i k : ℕ) → i ≡ length xs + k → slice_get (xs ++ ys) i ≡ slice_get ys k
get-right [] ys i k e = let same : i ≡ k = omega arith in ap (slice_get ys) same
get-right (x ∷ xs) ys zero k e = absurd (omega arith)
get-right (x ∷ xs) ys (suc i) k e = get-right xs ys i k (omega arith)

-- ---- the points

first-at : (xs : List Number) (x : Number) → slice_get xs zero ≡ Some x → first_or_zero xs ≡ x
first-at [] x at = absurd cc
first-at (y ∷ ys) x at = some-same y x at

following-at : (xs : List Number) (i : ℕ) (x : Number) → slice_get xs (suc i) ≡ Some x → slice_get (after_first xs) i ≡ Some x
following-at [] i x at = absurd cc
following-at (y ∷ ys) i x at = at

-- the marginal at a place; 0 if there are no marginals
abbrev IsMarginal : List Number → ℕ → Number → Type 0
IsMarginal [] i x = whole (pos 0) ≡ x
IsMarginal (y ∷ ys) i x = slice_get (y ∷ ys) i ≡ Some x

first-marginal : (xs : List Number) (x : Number) → IsMarginal xs zero x → first_or_zero xs ≡ x
first-marginal [] x at = at
first-marginal (y ∷ ys) x at = some-same y x at

following-marginal : (xs : List Number) (i : ℕ) (x : Number) → IsMarginal xs (suc i) x → IsMarginal (after_first xs) i x
following-marginal [] i x at = at
following-marginal (y ∷ []) i x at = absurd cc
following-marginal (y ∷ z ∷ ys) i x at = at

get-marginal : (xs : List Number) (i : ℕ) (x : Number) → slice_get xs i ≡ Some x → IsMarginal xs i x
get-marginal [] i x at = absurd cc
get-marginal (y ∷ ys) i x at = at

-- the point at a place
point-at : (keys : List Key) (levels marginals : List Number) (i : ℕ) (key : Key) (x d : Number) → slice_get keys i ≡ Some key → slice_get levels i ≡ Some x → IsMarginal marginals i d → slice_get (points keys levels marginals) i ≡ Some (record { key = key; level = x; marginal = d })
point-at [] levels marginals i key x d at at_level at_marginal = absurd cc
point-at (k ∷ keys) levels marginals zero key x d at at_level at_marginal =
    ap (λ (k : Key). Some (record { key = k; level = first_or_zero levels; marginal = first_or_zero marginals })) (some-same k key at)
    ∙ ap (λ y. Some (record { key = key; level = y; marginal = first_or_zero marginals })) (first-at levels x at_level)
    ∙ ap (λ y. Some (record { key = key; level = x; marginal = y })) (first-marginal marginals d at_marginal)
point-at (k ∷ keys) levels marginals (suc i) key x d at at_level at_marginal =
    point-at keys (after_first levels) (after_first marginals) i key x d at (following-at levels i x at_level) (following-marginal marginals i d at_marginal)

abbrev key_of : Point → Key
key_of point = point.key

-- points have their keys in order
points-keys : (keys : List Key) (levels marginals : List Number) → map key_of (points keys levels marginals) ≡ keys
points-keys [] levels marginals = refl
points-keys (key ∷ keys) levels marginals = ap (λ ks. key ∷ ks) (points-keys keys (after_first levels) (after_first marginals))

points-length : (keys : List Key) (levels marginals : List Number) → length (points keys levels marginals) ≡ length keys
points-length [] levels marginals = refl
points-length (key ∷ keys) levels marginals = ap suc (points-length keys (after_first levels) (after_first marginals))

-- ---- one point

module _ (state : State) (p : Point) where
  abbrev symbol : Symbol
  symbol = symbol_of state p.key.symbol

  abbrev put : Attributes
  put = with_marginal (with_level (attributes_of state p.key.symbol p.key.tuple) p.level) p.marginal

  abbrev new : Symbol
  new = if_fits symbol p.key.tuple (with_attributes symbol.content p.key.tuple put)

  alike : (n : ℕ) → alias_target n new.content ≡ alias_target n symbol.content
  alike n = following-fitted symbol p.key.tuple put n

  base-point : (other : ℕ) → base_of (with_point state p) other ≡ base_of state other
  base-point other = base-after state p.key.symbol new alike other

  -- what does not depend on attributes is as before
  read-point : {Y : Type 0} (read : Content → Y) → ((c : Content) (t : List ℕ) (a : Attributes) → read (with_attributes c t a) ≡ read c) → (other : ℕ) → read (symbol_of (with_point state p) other).content ≡ read (symbol_of state other).content
  read-point read stays other =
      reads-same state p.key.symbol new alike read other (λ same. fits-either (λ c. read c ≡ read symbol.content) symbol p.key.tuple (with_attributes symbol.content p.key.tuple put) refl (stays symbol.content p.key.tuple put))

  domain-new : new.domain ≡ symbol.domain
  domain-new = by (length p.key.tuple == length symbol.domain)
    where
      by : (b : Bool) → (cond b (with_content symbol (with_attributes symbol.content p.key.tuple put)) symbol).domain ≡ symbol.domain
      by true = refl
      by false = refl

  domain-point : (other : ℕ) → (symbol_of (with_point state p) other).domain ≡ (symbol_of state other).domain
  domain-point other = elim (symbol-after state p.key.symbol new alike other) [
    | inl same ↦ ap (λ (s : Symbol). s.domain) same
    | inr changed ↦ ap (λ (s : Symbol). s.domain) changed.1 ∙ domain-new ∙ ap (λ n. (symbol_at state n).domain) (sym changed.0)
  ]

  kind-stays : (c : Content) (t : List ℕ) (a : Attributes) → has_attributes (with_attributes c t a) ≡ has_attributes c
  kind-stays undeclared t a = refl
  kind-stays (alias_of base) t a = refl
  kind-stays (set_of members) t a = refl
  kind-stays (parameter_of entries) t a = refl
  kind-stays (variable_of type entries) t a = refl
  kind-stays (equation_of entries) t a = refl
  kind-stays (model_with model solver) t a = refl

  element-point : (key : Key) → IsElement state key → IsElement (with_point state p) key
  element-point key is = record {
    declared = subst (λ n. n < length (with_point state p).symbols) (sym (base-point key.symbol)) (subst (λ n. base_of state key.symbol < n) (sym (length-set state.symbols (base_of state p.key.symbol) new)) is.declared);
    kind = read-point has_attributes kind-stays key.symbol ∙ is.kind;
    labels = is.labels ∙ ap length (sym (domain-point key.symbol));
  }

  not-point : (key : Key) (name : ℕ) (t : List ℕ) → IsNot state key name t → IsNot (with_point state p) key name t
  not-point key name t apart = λ same. apart (sym (base-point name) ∙ same ∙ base-point key.symbol)

  elsewhere-point : (name : ℕ) (t : List ℕ) → IsNot state p.key name t → attributes_of (with_point state p) name t ≡ attributes_of state name t
  elsewhere-point name t apart = attributes_elsewhere state p.key.symbol p.key.tuple put name t apart

-- ---- in sequence

-- no point is the element of this name at this tuple
abbrev AreNot : State → List Point → ℕ → List ℕ → Type 0
AreNot state ps name t = (j : ℕ) (q : Point) → slice_get ps j ≡ Some q → IsNot state q.key name t

all-elsewhere : (ps : List Point) (state : State) (name : ℕ) (t : List ℕ) → AreNot state ps name t → attributes_of (fold with_point state ps) name t ≡ attributes_of state name t
all-elsewhere [] state name t apart = refl
all-elsewhere (p ∷ ps) state name t apart =
    all-elsewhere ps (with_point state p) name t (λ j q at. not-point state p q.key name t (apart (suc j) q at))
    ∙ elsewhere-point state p name t (apart zero p refl)

-- if the points at other places are other elements, the element at a place has its level and its
-- marginal
all-here : (ps : List Point) (i : ℕ) (p : Point) (state : State) → slice_get ps i ≡ Some p → IsElement state p.key → ((j : ℕ) (q : Point) → slice_get ps j ≡ Some q → (j ≡ i → ⊥) → IsNot state q.key p.key.symbol p.key.tuple) → attributes_of (fold with_point state ps) p.key.symbol p.key.tuple ≡ with_marginal (with_level (attributes_of state p.key.symbol p.key.tuple) p.level) p.marginal
all-here [] i p state at is apart = absurd cc
all-here (q ∷ ps) zero p state at is apart =
    all-elsewhere ps (with_point state q) p.key.symbol p.key.tuple (λ j r r_at. not-point state q r.key p.key.symbol p.key.tuple (apart (suc j) r r_at (λ e. absurd cc)))
    ∙ ap (λ (r : Point). attributes_of (with_point state r) p.key.symbol p.key.tuple) (some-same q p at)
    ∙ attributes_after state p.key.symbol p.key.tuple (with_marginal (with_level (attributes_of state p.key.symbol p.key.tuple) p.level) p.marginal) is.declared is.kind is.labels
all-here (q ∷ ps) (suc i) p state at is apart =
    all-here ps i p (with_point state q) at (element-point state q p.key is) (λ j r r_at other. not-point state q r.key p.key.symbol p.key.tuple (apart (suc j) r r_at (λ e. other (omega arith))))
    ∙ ap (λ a. with_marginal (with_level a p.level) p.marginal) (elsewhere-point state q p.key.symbol p.key.tuple (apart zero q refl (λ e. absurd cc)))

read-all : {Y : Type 0} (read : Content → Y) → ((c : Content) (t : List ℕ) (a : Attributes) → read (with_attributes c t a) ≡ read c) → (ps : List Point) (state : State) (other : ℕ) → read (symbol_of (fold with_point state ps) other).content ≡ read (symbol_of state other).content
read-all read stays [] state other = refl
read-all read stays (p ∷ ps) state other = read-all read stays ps (with_point state p) other ∙ read-point state p read stays other

-- a name of which no element is written is unchanged
symbol-all : (ps : List Point) (state : State) (other : ℕ) → ((j : ℕ) (q : Point) → slice_get ps j ≡ Some q → base_of state other ≡ base_of state q.key.symbol → ⊥) → symbol_of (fold with_point state ps) other ≡ symbol_of state other
symbol-all [] state other apart = refl
symbol-all (p ∷ ps) state other apart =
    symbol-all ps (with_point state p) other (λ j q at same. apart (suc j) q at (sym (base-point state p other) ∙ same ∙ base-point state p q.key.symbol))
    ∙ symbol-elsewhere state p.key.symbol (new state p) (alike state p) other (apart zero p refl)

settings-all : (ps : List Point) (state : State) → (fold with_point state ps).settings ≡ state.settings
settings-all [] state = refl
settings-all (p ∷ ps) state = settings-all ps (with_point state p)

-- ---- the statuses

following-statuses : (c : Content) (model solver n : ℕ) → alias_target n (with_statuses c model solver) ≡ alias_target n c
following-statuses undeclared model solver n = refl
following-statuses (alias_of base) model solver n = refl
following-statuses (set_of members) model solver n = refl
following-statuses (parameter_of entries) model solver n = refl
following-statuses (variable_of type entries) model solver n = refl
following-statuses (equation_of entries) model solver n = refl
following-statuses (model_with m s) model solver n = refl

attributes-statuses : (c : Content) (model solver : ℕ) (t : List ℕ) → attributes_in (with_statuses c model solver) t ≡ attributes_in c t
attributes-statuses undeclared model solver t = refl
attributes-statuses (alias_of base) model solver t = refl
attributes-statuses (set_of members) model solver t = refl
attributes-statuses (parameter_of entries) model solver t = refl
attributes-statuses (variable_of type entries) model solver t = refl
attributes-statuses (equation_of entries) model solver t = refl
attributes-statuses (model_with m s) model solver t = refl

kind-statuses : (c : Content) (model solver : ℕ) → has_attributes (with_statuses c model solver) ≡ has_attributes c
kind-statuses undeclared model solver = refl
kind-statuses (alias_of base) model solver = refl
kind-statuses (set_of members) model solver = refl
kind-statuses (parameter_of entries) model solver = refl
kind-statuses (variable_of type entries) model solver = refl
kind-statuses (equation_of entries) model solver = refl
kind-statuses (model_with m s) model solver = refl

statuses-stay : (c : Content) (t : List ℕ) (a : Attributes) → statuses_in (with_attributes c t a) ≡ statuses_in c
statuses-stay undeclared t a = refl
statuses-stay (alias_of base) t a = refl
statuses-stay (set_of members) t a = refl
statuses-stay (parameter_of entries) t a = refl
statuses-stay (variable_of type entries) t a = refl
statuses-stay (equation_of entries) t a = refl
statuses-stay (model_with model solver) t a = refl

module _ (state : State) (model m s : ℕ) where
  abbrev begun : State
  begun = after_statuses state model m s

  abbrev changed : Symbol
  changed = with_content (symbol_of state model) (with_statuses (symbol_of state model).content m s)

  alike-statuses : (n : ℕ) → alias_target n changed.content ≡ alias_target n (symbol_of state model).content
  alike-statuses n = following-statuses (symbol_of state model).content m s n

  base-begun : (other : ℕ) → base_of begun other ≡ base_of state other
  base-begun other = base-after state model changed alike-statuses other

  attributes-begun : (name : ℕ) (t : List ℕ) → attributes_of begun name t ≡ attributes_of state name t
  attributes-begun name t = reads-same state model changed alike-statuses (λ c. attributes_in c t) name (λ same. attributes-statuses (symbol_of state model).content m s t)

  domain-begun : (other : ℕ) → (symbol_of begun other).domain ≡ (symbol_of state other).domain
  domain-begun other = elim (symbol-after state model changed alike-statuses other) [
    | inl same ↦ ap (λ (s : Symbol). s.domain) same
    | inr new ↦ ap (λ (s : Symbol). s.domain) new.1 ∙ ap (λ n. (symbol_at state n).domain) (sym new.0)
  ]

  element-begun : (key : Key) → IsElement state key → IsElement begun key
  element-begun key is = record {
    declared = subst (λ n. n < length begun.symbols) (sym (base-begun key.symbol)) (subst (λ n. base_of state key.symbol < n) (sym (length-set state.symbols (base_of state model) changed)) is.declared);
    kind = reads-same state model changed alike-statuses has_attributes key.symbol (λ same. kind-statuses (symbol_of state model).content m s) ∙ is.kind;
    labels = is.labels ∙ ap length (sym (domain-begun key.symbol));
  }

  not-begun : (key : Key) (name : ℕ) (t : List ℕ) → IsNot state key name t → IsNot begun key name t
  not-begun key name t apart = λ same. apart (sym (base-begun name) ∙ same ∙ base-begun key.symbol)

  -- ---- the points, after the statuses

  module _ (ps : List Point) (keys : List Key) (are_keys : map key_of ps ≡ keys) where
    key-at : (j : ℕ) (q : Point) → slice_get ps j ≡ Some q → slice_get keys j ≡ Some q.key
    key-at j q at = ap (λ ks. slice_get ks j) (sym are_keys) ∙ slice_get-map key_of ps j ∙ ap (option_map key_of) at

    -- an element has the level and the marginal of its point
    element-put : AreElements state keys → (i : ℕ) (p : Point) → slice_get ps i ≡ Some p → attributes_of (fold with_point begun ps) p.key.symbol p.key.tuple ≡ with_marginal (with_level (attributes_of state p.key.symbol p.key.tuple) p.level) p.marginal
    element-put are i p at =
        all-here ps i p begun at (element-begun p.key (are.each i p.key (key-at i p at))) (λ j q q_at other. not-begun q.key p.key.symbol p.key.tuple (are.differ j i q.key p.key (key-at j q q_at) (key-at i p at) other))
        ∙ ap (λ a. with_marginal (with_level a p.level) p.marginal) (attributes-begun p.key.symbol p.key.tuple)

    -- any other has what it had
    other-left : (name : ℕ) (t : List ℕ) → ((j : ℕ) (key : Key) → slice_get keys j ≡ Some key → IsNot state key name t) → attributes_of (fold with_point begun ps) name t ≡ attributes_of state name t
    other-left name t apart = all-elsewhere ps begun name t (λ j q at. not-begun q.key name t (apart j q.key (key-at j q at))) ∙ attributes-begun name t

    -- any other name is unchanged
    name-left : (other : ℕ) → (base_of state other ≡ base_of state model → ⊥) → ((j : ℕ) (key : Key) → slice_get keys j ≡ Some key → base_of state other ≡ base_of state key.symbol → ⊥) → symbol_of (fold with_point begun ps) other ≡ symbol_of state other
    name-left other apart none =
        symbol-all ps begun other (λ j q at same. none j q.key (key-at j q at) (sym (base-begun other) ∙ same ∙ base-begun q.key.symbol))
        ∙ symbol-elsewhere state model changed alike-statuses other apart

-- ---- an end

module _ (lp : Lp Number) where
  -- the points of columns and rows have the elements of the program
  both-keys : (levels marginals row_levels row_marginals : List Number) → map key_of (points (keys_of_columns lp) levels marginals ++ points (row_keys lp) row_levels row_marginals) ≡ program_elements lp
  both-keys levels marginals row_levels row_marginals =
      map-append key_of (points (keys_of_columns lp) levels marginals) (points (row_keys lp) row_levels row_marginals)
      ∙ ap (λ ks. ks ++ map key_of (points (row_keys lp) row_levels row_marginals)) (points-keys (keys_of_columns lp) levels marginals)
      ∙ ap (λ ks. keys_of_columns lp ++ ks) (points-keys (row_keys lp) row_levels row_marginals)

  row-place : (levels marginals row_levels row_marginals : List Number) (i : ℕ) (p : Point) → slice_get (points (row_keys lp) row_levels row_marginals) i ≡ Some p → slice_get (points (keys_of_columns lp) levels marginals ++ points (row_keys lp) row_levels row_marginals) (length (points (keys_of_columns lp) levels marginals) + i) ≡ Some p
  row-place levels marginals row_levels row_marginals i p at =
      get-right (points (keys_of_columns lp) levels marginals) (points (row_keys lp) row_levels row_marginals) (length (points (keys_of_columns lp) levels marginals) + i) i refl ∙ at

  module _ (state : State) (model m s : ℕ) (are : AreElements state (program_elements lp)) where
    module _ (levels marginals row_levels row_marginals : List Number) where
      abbrev all : List Point
      all = points (keys_of_columns lp) levels marginals ++ points (row_keys lp) row_levels row_marginals

      column-put : (j : ℕ) (key : Key) (x d : Number) → slice_get (keys_of_columns lp) j ≡ Some key → slice_get levels j ≡ Some x → IsMarginal marginals j d → attributes_of (fold with_point (after_statuses state model m s) all) key.symbol key.tuple ≡ with_marginal (with_level (attributes_of state key.symbol key.tuple) x) d
      column-put j key x d at at_level at_marginal =
          element-put state model m s all (program_elements lp) (both-keys levels marginals row_levels row_marginals) are j (record { key = key; level = x; marginal = d }) (get-prefix (points (keys_of_columns lp) levels marginals) (points (row_keys lp) row_levels row_marginals) j (record { key = key; level = x; marginal = d }) (point-at (keys_of_columns lp) levels marginals j key x d at at_level at_marginal))

      row-put : (i : ℕ) (key : Key) (x d : Number) → slice_get (row_keys lp) i ≡ Some key → slice_get row_levels i ≡ Some x → IsMarginal row_marginals i d → attributes_of (fold with_point (after_statuses state model m s) all) key.symbol key.tuple ≡ with_marginal (with_level (attributes_of state key.symbol key.tuple) x) d
      row-put i key x d at at_level at_marginal =
          element-put state model m s all (program_elements lp) (both-keys levels marginals row_levels row_marginals) are (length (points (keys_of_columns lp) levels marginals) + i) (record { key = key; level = x; marginal = d }) (row-place levels marginals row_levels row_marginals i (record { key = key; level = x; marginal = d }) (point-at (row_keys lp) row_levels row_marginals i key x d at at_level at_marginal))

-- the points of an end have the elements of the program, or there are none
either-keys : (lp : Lp Number) (end : End Number) → (map key_of (points_of lp end) ≡ program_elements lp) ⊎ (points_of lp end ≡ [])
either-keys lp (Optimal levels row_levels duals reduced) = inl (both-keys lp levels reduced row_levels duals)
either-keys lp (Unbounded levels row_levels ray) = inl (both-keys lp levels [] row_levels [])
either-keys lp (Infeasible duals crossed) = inr refl
either-keys lp (Interrupted phase levels row_levels) = by (phase == 2)
  where
    by : (b : Bool) → (map key_of (cond b (points (keys_of_columns lp) levels [] ++ points (row_keys lp) row_levels []) []) ≡ program_elements lp) ⊎ (cond b (points (keys_of_columns lp) levels [] ++ points (row_keys lp) row_levels []) [] ≡ [])
    by true = inl (both-keys lp levels [] row_levels [])
    by false = inr refl
either-keys lp (Refused name) = inr refl

-- what an end with a feasible point writes, and what one without writes
feasible-points : (lp : Lp Number) (end : End Number) (levels row_levels : List Number) → feasible_levels end ≡ Some (levels, row_levels) → points_of lp end ≡ points (keys_of_columns lp) levels [] ++ points (row_keys lp) row_levels []
feasible-points lp (Optimal ls rs duals reduced) levels row_levels e = absurd cc
feasible-points lp (Unbounded ls rs ray) levels row_levels e =
    ap (λ (both : List Number × List Number). points (keys_of_columns lp) both.0 [] ++ points (row_keys lp) both.1 []) (some-same (ls, rs) (levels, row_levels) e)
feasible-points lp (Infeasible duals crossed) levels row_levels e = absurd cc
feasible-points lp (Interrupted phase ls rs) levels row_levels e = by (phase == 2) e
  where
    by : (b : Bool) → cond {A = Option (List Number × List Number)} b (Some (ls, rs)) None ≡ Some (levels, row_levels) → cond b (points (keys_of_columns lp) ls [] ++ points (row_keys lp) rs []) [] ≡ points (keys_of_columns lp) levels [] ++ points (row_keys lp) row_levels []
    by true e = ap (λ (both : List Number × List Number). points (keys_of_columns lp) both.0 [] ++ points (row_keys lp) both.1 []) (some-same (ls, rs) (levels, row_levels) e)
    by false e = absurd cc
feasible-points lp (Refused name) levels row_levels e = absurd cc

no-points : (lp : Lp Number) (end : End Number) → has_no_point end ≡ true → points_of lp end ≡ []
no-points lp (Optimal levels row_levels duals reduced) e = absurd cc
no-points lp (Unbounded levels row_levels ray) e = absurd cc
no-points lp (Infeasible duals crossed) e = refl
no-points lp (Interrupted phase levels row_levels) e = by (phase == 2) e
  where
    by : (b : Bool) → not b ≡ true → cond b (points (keys_of_columns lp) levels [] ++ points (row_keys lp) row_levels []) [] ≡ []
    by true e = absurd cc
    by false e = refl
no-points lp (Refused name) e = refl

-- ---- the laws

pub optimal-column : (state : State) (model : ℕ) (lp : Lp Number) (levels row_levels duals reduced : List Number) (j : ℕ) (key : Key) (x d : Number) → AreElements state (program_elements lp) → slice_get (keys_of_columns lp) j ≡ Some key → slice_get levels j ≡ Some x → slice_get reduced j ≡ Some d → attributes_of (after_end state model lp (Optimal levels row_levels duals reduced)) key.symbol key.tuple ≡ with_marginal (with_level (attributes_of state key.symbol key.tuple) x) d
optimal-column state model lp levels row_levels duals reduced j key x d are at at_level at_marginal =
    column-put lp state model 1 1 are levels reduced row_levels duals j key x d at at_level (get-marginal reduced j d at_marginal)

pub optimal-row : (state : State) (model : ℕ) (lp : Lp Number) (levels row_levels duals reduced : List Number) (i : ℕ) (key : Key) (x d : Number) → AreElements state (program_elements lp) → slice_get (row_keys lp) i ≡ Some key → slice_get row_levels i ≡ Some x → slice_get duals i ≡ Some d → attributes_of (after_end state model lp (Optimal levels row_levels duals reduced)) key.symbol key.tuple ≡ with_marginal (with_level (attributes_of state key.symbol key.tuple) x) d
optimal-row state model lp levels row_levels duals reduced i key x d are at at_level at_marginal =
    row-put lp state model 1 1 are levels reduced row_levels duals i key x d at at_level (get-marginal duals i d at_marginal)

pub feasible-column : (state : State) (model : ℕ) (lp : Lp Number) (end : End Number) (levels row_levels : List Number) (j : ℕ) (key : Key) (x : Number) → AreElements state (program_elements lp) → feasible_levels end ≡ Some (levels, row_levels) → slice_get (keys_of_columns lp) j ≡ Some key → slice_get levels j ≡ Some x → attributes_of (after_end state model lp end) key.symbol key.tuple ≡ with_marginal (with_level (attributes_of state key.symbol key.tuple) x) (whole (pos 0))
feasible-column state model lp end levels row_levels j key x are is at at_level =
    ap (λ ps. attributes_of (fold with_point (after_statuses state model (statuses_of end).0 (statuses_of end).1) ps) key.symbol key.tuple) (feasible-points lp end levels row_levels is)
    ∙ column-put lp state model (statuses_of end).0 (statuses_of end).1 are levels [] row_levels [] j key x (whole (pos 0)) at at_level refl

pub feasible-row : (state : State) (model : ℕ) (lp : Lp Number) (end : End Number) (levels row_levels : List Number) (i : ℕ) (key : Key) (x : Number) → AreElements state (program_elements lp) → feasible_levels end ≡ Some (levels, row_levels) → slice_get (row_keys lp) i ≡ Some key → slice_get row_levels i ≡ Some x → attributes_of (after_end state model lp end) key.symbol key.tuple ≡ with_marginal (with_level (attributes_of state key.symbol key.tuple) x) (whole (pos 0))
feasible-row state model lp end levels row_levels i key x are is at at_level =
    ap (λ ps. attributes_of (fold with_point (after_statuses state model (statuses_of end).0 (statuses_of end).1) ps) key.symbol key.tuple) (feasible-points lp end levels row_levels is)
    ∙ row-put lp state model (statuses_of end).0 (statuses_of end).1 are levels [] row_levels [] i key x (whole (pos 0)) at at_level refl

pub no-point : (state : State) (model : ℕ) (lp : Lp Number) (end : End Number) (name : ℕ) (t : List ℕ) → has_no_point end ≡ true → attributes_of (after_end state model lp end) name t ≡ attributes_of state name t
no-point state model lp end name t none =
    ap (λ ps. attributes_of (fold with_point (after_statuses state model (statuses_of end).0 (statuses_of end).1) ps) name t) (no-points lp end none)
    ∙ attributes-begun state model (statuses_of end).0 (statuses_of end).1 name t

pub other-element : (state : State) (model : ℕ) (lp : Lp Number) (end : End Number) (name : ℕ) (t : List ℕ) → ((i : ℕ) (key : Key) → slice_get (program_elements lp) i ≡ Some key → IsNot state key name t) → attributes_of (after_end state model lp end) name t ≡ attributes_of state name t
other-element state model lp end name t apart = elim (either-keys lp end) [
  | inl are ↦ other-left state model (statuses_of end).0 (statuses_of end).1 (points_of lp end) (program_elements lp) are name t apart
  | inr none ↦ ap (λ ps. attributes_of (fold with_point (after_statuses state model (statuses_of end).0 (statuses_of end).1) ps) name t) none ∙ attributes-begun state model (statuses_of end).0 (statuses_of end).1 name t
]

pub other-name : (state : State) (model : ℕ) (lp : Lp Number) (end : End Number) (other : ℕ) → (base_of state other ≡ base_of state model → ⊥) → ((i : ℕ) (key : Key) → slice_get (program_elements lp) i ≡ Some key → base_of state other ≡ base_of state key.symbol → ⊥) → symbol_of (after_end state model lp end) other ≡ symbol_of state other
other-name state model lp end other apart none = elim (either-keys lp end) [
  | inl are ↦ name-left state model (statuses_of end).0 (statuses_of end).1 (points_of lp end) (program_elements lp) are other apart none
  | inr empty ↦
      ap (λ ps. symbol_of (fold with_point (after_statuses state model (statuses_of end).0 (statuses_of end).1) ps) other) empty
      ∙ symbol-elsewhere state model (changed state model (statuses_of end).0 (statuses_of end).1) (alike-statuses state model (statuses_of end).0 (statuses_of end).1) other apart
]

pub statuses-after : (state : State) (model : ℕ) (lp : Lp Number) (end : End Number) (status solver : ℕ) → base_of state model < length state.symbols → (symbol_of state model).content ≡ model_with status solver → statuses_in (symbol_of (after_end state model lp end) model).content ≡ statuses_of end
statuses-after state model lp end status solver within is =
    read-all statuses_in statuses-stay (points_of lp end) (after_statuses state model (statuses_of end).0 (statuses_of end).1) model
    ∙ ap (λ (s : Symbol). statuses_in s.content) (symbol-changed state model (changed state model (statuses_of end).0 (statuses_of end).1) (alike-statuses state model (statuses_of end).0 (statuses_of end).1) within)
    ∙ ap (λ c. statuses_in (with_statuses c (statuses_of end).0 (statuses_of end).1)) is

pub settings-after : (state : State) (model : ℕ) (lp : Lp Number) (end : End Number) → (after_end state model lp end).settings ≡ state.settings
settings-after state model lp end = settings-all (points_of lp end) (after_statuses state model (statuses_of end).0 (statuses_of end).1)
