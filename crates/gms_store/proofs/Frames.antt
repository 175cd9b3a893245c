-- What each write leaves as it was.
use Rattle.std.proofs.Common.{◌≡◌, ℕ, Bool, true, false, ◌==◌, List, length, refl, sym, ap, ◌∙◌, cond, inl, inr}
use Rattle.std.proofs.lemmas.List.{length-set}
use Rattle.gq_extended.specs.Extended.{Extended}
use Rattle.gms_store.specs.State.{Attributes, Content, undeclared, alias_of, set_of, parameter_of, variable_of, equation_of, model_with, Symbol, State, symbol_at, alias_target, base_of, symbol_of, with_symbol, with_content, if_fits, with_value, with_attributes, with_membership, with_statuses, value_in, attributes_in, members_in, statuses_in, value_of, attributes_of, members_of, after_value, after_attributes, after_membership, after_statuses}
use Rattle.gms_store.specs.Frames.{Keeps}
use Rattle.gms_store.proofs.Writes.{base-after, symbol-after, reads-same, fits-either, following-value, following-attributes, following-membership}

module _ (state : State) (name : ℕ) (new : Symbol) (alike : (n : ℕ) → alias_target n new.content ≡ alias_target n (symbol_of state name).content) (positions : new.domain ≡ (symbol_of state name).domain) where
  keeps-others : (other : ℕ) → (base_of state other ≡ base_of state name → ⊥) → symbol_of (with_symbol state name new) other ≡ symbol_of state other
  keeps-others other apart = elim (symbol-after state name new alike other) [
    | inl same ↦ same
    | inr changed ↦ absurd (apart changed.0)
  ]

  keeps-positions : (other : ℕ) → (symbol_of (with_symbol state name new) other).domain ≡ (symbol_of state other).domain
  keeps-positions other = elim (symbol-after state name new alike other) [
    | inl same ↦ ap (λ (s : Symbol). s.domain) same
    | inr changed ↦ ap (λ (s : Symbol). s.domain) changed.1 ∙ positions ∙ ap (λ n. (symbol_at state n).domain) (sym changed.0)
  ]

  keeps : Keeps state (with_symbol state name new) name
  keeps = record {
    others = keeps-others;
    bases = base-after state name new alike;
    positions = keeps-positions;
    names = length-set state.symbols (base_of state name) new;
    settings = refl;
  }

fitted-positions : (s : Symbol) (t : List ℕ) (c : Content) → (if_fits s t c).domain ≡ s.domain
fitted-positions s t c = by (length t == length s.domain)
  where
    by : (b : Bool) → (cond b (with_content s c) s).domain ≡ s.domain
    by true = refl
    by false = refl

-- a reading of a symbol does not change with a new content that reads the same, whether that fits
-- or not
fitted-read : {Y : Type 0} (read : Content → Y) (s : Symbol) (t : List ℕ) (c : Content) → read c ≡ read s.content → read (if_fits s t c).content ≡ read s.content
fitted-read read s t c same = fits-either (λ new. read new ≡ read s.content) s t c refl same

-- ---- a value

module _ (state : State) (name : ℕ) (t : List ℕ) (x : Extended) where
  abbrev valued : Symbol
  valued = if_fits (symbol_of state name) t (with_value (symbol_of state name).content t x)

  alike-value : (n : ℕ) → alias_target n valued.content ≡ alias_target n (symbol_of state name).content
  alike-value n = fitted-read (alias_target n) (symbol_of state name) t (with_value (symbol_of state name).content t x) (following-value (symbol_of state name).content t x n)

  pub value_keeps : Keeps state (after_value state name t x) name
  value_keeps = keeps state name valued alike-value (fitted-positions (symbol_of state name) t (with_value (symbol_of state name).content t x))

  pub value_leaves : {Y : Type 0} (read : Content → Y) → ((c : Content) → read (with_value c t x) ≡ read c) → (other : ℕ) → read (symbol_of (after_value state name t x) other).content ≡ read (symbol_of state other).content
  value_leaves read stays other =
      reads-same state name valued alike-value read other (λ same. fitted-read read (symbol_of state name) t (with_value (symbol_of state name).content t x) (stays (symbol_of state name).content))

-- ---- a membership

module _ (state : State) (name : ℕ) (t : List ℕ) (on : Bool) where
  abbrev joined : Symbol
  joined = if_fits (symbol_of state name) t (with_membership (symbol_of state name).content t on)

  alike-membership : (n : ℕ) → alias_target n joined.content ≡ alias_target n (symbol_of state name).content
  alike-membership n = fitted-read (alias_target n) (symbol_of state name) t (with_membership (symbol_of state name).content t on) (following-membership (symbol_of state name).content t on n)

  pub membership_keeps : Keeps state (after_membership state name t on) name
  membership_keeps = keeps state name joined alike-membership (fitted-positions (symbol_of state name) t (with_membership (symbol_of state name).content t on))

  pub membership_leaves : {Y : Type 0} (read : Content → Y) → ((c : Content) → read (with_membership c t on) ≡ read c) → (other : ℕ) → read (symbol_of (after_membership state name t on) other).content ≡ read (symbol_of state other).content
  membership_leaves read stays other =
      reads-same state name joined alike-membership read other (λ same. fitted-read read (symbol_of state name) t (with_membership (symbol_of state name).content t on) (stays (symbol_of state name).content))

-- ---- attributes

module _ (state : State) (name : ℕ) (t : List ℕ) (a : Attributes) where
  abbrev attributed : Symbol
  attributed = if_fits (symbol_of state name) t (with_attributes (symbol_of state name).content t a)

  alike-attributes : (n : ℕ) → alias_target n attributed.content ≡ alias_target n (symbol_of state name).content
  alike-attributes n = fitted-read (alias_target n) (symbol_of state name) t (with_attributes (symbol_of state name).content t a) (following-attributes (symbol_of state name).content t a n)

  pub attributes_keep : Keeps state (after_attributes state name t a) name
  attributes_keep = keeps state name attributed alike-attributes (fitted-positions (symbol_of state name) t (with_attributes (symbol_of state name).content t a))

  pub attributes_leave : {Y : Type 0} (read : Content → Y) → ((c : Content) → read (with_attributes c t a) ≡ read c) → (other : ℕ) → read (symbol_of (after_attributes state name t a) other).content ≡ read (symbol_of state other).content
  attributes_leave read stays other =
      reads-same state name attributed alike-attributes read other (λ same. fitted-read read (symbol_of state name) t (with_attributes (symbol_of state name).content t a) (stays (symbol_of state name).content))

-- ---- statuses

module _ (state : State) (name model solver : ℕ) where
  abbrev solved : Symbol
  solved = with_content (symbol_of state name) (with_statuses (symbol_of state name).content model solver)

  following-statuses : (c : Content) (n : ℕ) → alias_target n (with_statuses c model solver) ≡ alias_target n c
  following-statuses undeclared n = refl
  following-statuses (alias_of base) n = refl
  following-statuses (set_of members) n = refl
  following-statuses (parameter_of entries) n = refl
  following-statuses (variable_of type entries) n = refl
  following-statuses (equation_of entries) n = refl
  following-statuses (model_with m s) n = refl

  alike-statuses : (n : ℕ) → alias_target n solved.content ≡ alias_target n (symbol_of state name).content
  alike-statuses n = following-statuses (symbol_of state name).content n

  pub statuses_keep : Keeps state (after_statuses state name model solver) name
  statuses_keep = keeps state name solved alike-statuses refl

  pub statuses_leave : {Y : Type 0} (read : Content → Y) → ((c : Content) → read (with_statuses c model solver) ≡ read c) → (other : ℕ) → read (symbol_of (after_statuses state name model solver) other).content ≡ read (symbol_of state other).content
  statuses_leave read stays other = reads-same state name solved alike-statuses read other (λ same. stays (symbol_of state name).content)

-- ---- what a new value, membership, attributes or statuses leave of a content

value-membership : (t : List ℕ) (x : Extended) (c : Content) → members_in (with_value c t x) ≡ members_in c
value-membership t x undeclared = refl
value-membership t x (alias_of base) = refl
value-membership t x (set_of members) = refl
value-membership t x (parameter_of entries) = refl
value-membership t x (variable_of type entries) = refl
value-membership t x (equation_of entries) = refl
value-membership t x (model_with m s) = refl

value-attributes : (t : List ℕ) (x : Extended) (u : List ℕ) (c : Content) → attributes_in (with_value c t x) u ≡ attributes_in c u
value-attributes t x u undeclared = refl
value-attributes t x u (alias_of base) = refl
value-attributes t x u (set_of members) = refl
value-attributes t x u (parameter_of entries) = refl
value-attributes t x u (variable_of type entries) = refl
value-attributes t x u (equation_of entries) = refl
value-attributes t x u (model_with m s) = refl

value-statuses : (t : List ℕ) (x : Extended) (c : Content) → statuses_in (with_value c t x) ≡ statuses_in c
value-statuses t x undeclared = refl
value-statuses t x (alias_of base) = refl
value-statuses t x (set_of members) = refl
value-statuses t x (parameter_of entries) = refl
value-statuses t x (variable_of type entries) = refl
value-statuses t x (equation_of entries) = refl
value-statuses t x (model_with m s) = refl

membership-value : (t : List ℕ) (on : Bool) (u : List ℕ) (c : Content) → value_in (with_membership c t on) u ≡ value_in c u
membership-value t on u undeclared = refl
membership-value t on u (alias_of base) = refl
membership-value t on u (set_of members) = refl
membership-value t on u (parameter_of entries) = refl
membership-value t on u (variable_of type entries) = refl
membership-value t on u (equation_of entries) = refl
membership-value t on u (model_with m s) = refl

membership-attributes : (t : List ℕ) (on : Bool) (u : List ℕ) (c : Content) → attributes_in (with_membership c t on) u ≡ attributes_in c u
membership-attributes t on u undeclared = refl
membership-attributes t on u (alias_of base) = refl
membership-attributes t on u (set_of members) = refl
membership-attributes t on u (parameter_of entries) = refl
membership-attributes t on u (variable_of type entries) = refl
membership-attributes t on u (equation_of entries) = refl
membership-attributes t on u (model_with m s) = refl

membership-statuses : (t : List ℕ) (on : Bool) (c : Content) → statuses_in (with_membership c t on) ≡ statuses_in c
membership-statuses t on undeclared = refl
membership-statuses t on (alias_of base) = refl
membership-statuses t on (set_of members) = refl
membership-statuses t on (parameter_of entries) = refl
membership-statuses t on (variable_of type entries) = refl
membership-statuses t on (equation_of entries) = refl
membership-statuses t on (model_with m s) = refl

attributes-value : (t : List ℕ) (a : Attributes) (u : List ℕ) (c : Content) → value_in (with_attributes c t a) u ≡ value_in c u
attributes-value t a u undeclared = refl
attributes-value t a u (alias_of base) = refl
attributes-value t a u (set_of members) = refl
attributes-value t a u (parameter_of entries) = refl
attributes-value t a u (variable_of type entries) = refl
attributes-value t a u (equation_of entries) = refl
attributes-value t a u (model_with m s) = refl

attributes-membership : (t : List ℕ) (a : Attributes) (c : Content) → members_in (with_attributes c t a) ≡ members_in c
attributes-membership t a undeclared = refl
attributes-membership t a (alias_of base) = refl
attributes-membership t a (set_of members) = refl
attributes-membership t a (parameter_of entries) = refl
attributes-membership t a (variable_of type entries) = refl
attributes-membership t a (equation_of entries) = refl
attributes-membership t a (model_with m s) = refl

attributes-statuses : (t : List ℕ) (a : Attributes) (c : Content) → statuses_in (with_attributes c t a) ≡ statuses_in c
attributes-statuses t a undeclared = refl
attributes-statuses t a (alias_of base) = refl
attributes-statuses t a (set_of members) = refl
attributes-statuses t a (parameter_of entries) = refl
attributes-statuses t a (variable_of type entries) = refl
attributes-statuses t a (equation_of entries) = refl
attributes-statuses t a (model_with m s) = refl

statuses-value : (model solver : ℕ) (u : List ℕ) (c : Content) → value_in (with_statuses c model solver) u ≡ value_in c u
statuses-value model solver u undeclared = refl
statuses-value model solver u (alias_of base) = refl
statuses-value model solver u (set_of members) = refl
statuses-value model solver u (parameter_of entries) = refl
statuses-value model solver u (variable_of type entries) = refl
statuses-value model solver u (equation_of entries) = refl
statuses-value model solver u (model_with m s) = refl

statuses-membership : (model solver : ℕ) (c : Content) → members_in (with_statuses c model solver) ≡ members_in c
statuses-membership model solver undeclared = refl
statuses-membership model solver (alias_of base) = refl
statuses-membership model solver (set_of members) = refl
statuses-membership model solver (parameter_of entries) = refl
statuses-membership model solver (variable_of type entries) = refl
statuses-membership model solver (equation_of entries) = refl
statuses-membership model solver (model_with m s) = refl

statuses-attributes : (model solver : ℕ) (u : List ℕ) (c : Content) → attributes_in (with_statuses c model solver) u ≡ attributes_in c u
statuses-attributes model solver u undeclared = refl
statuses-attributes model solver u (alias_of base) = refl
statuses-attributes model solver u (set_of members) = refl
statuses-attributes model solver u (parameter_of entries) = refl
statuses-attributes model solver u (variable_of type entries) = refl
statuses-attributes model solver u (equation_of entries) = refl
statuses-attributes model solver u (model_with m s) = refl

-- ---- reads after a write

pub value_leave-members : (state : State) (name : ℕ) (t : List ℕ) (x : Extended) (other : ℕ) → members_of (after_value state name t x) other ≡ members_of state other
value_leave-members state name t x other = value_leaves state name t x (members_in) (value-membership t x) other

pub value_leave-attributes : (state : State) (name : ℕ) (t : List ℕ) (x : Extended) (other : ℕ) (u : List ℕ) → attributes_of (after_value state name t x) other u ≡ attributes_of state other u
value_leave-attributes state name t x other u = value_leaves state name t x (λ c. attributes_in c u) (value-attributes t x u) other

pub value_leave-statuses : (state : State) (name : ℕ) (t : List ℕ) (x : Extended) (other : ℕ) → statuses_in (symbol_of (after_value state name t x) other).content ≡ statuses_in (symbol_of state other).content
value_leave-statuses state name t x other = value_leaves state name t x (statuses_in) (value-statuses t x) other

pub membership_leave-values : (state : State) (name : ℕ) (t : List ℕ) (on : Bool) (other : ℕ) (u : List ℕ) → value_of (after_membership state name t on) other u ≡ value_of state other u
membership_leave-values state name t on other u = membership_leaves state name t on (λ c. value_in c u) (membership-value t on u) other

pub membership_leave-attributes : (state : State) (name : ℕ) (t : List ℕ) (on : Bool) (other : ℕ) (u : List ℕ) → attributes_of (after_membership state name t on) other u ≡ attributes_of state other u
membership_leave-attributes state name t on other u = membership_leaves state name t on (λ c. attributes_in c u) (membership-attributes t on u) other

pub membership_leave-statuses : (state : State) (name : ℕ) (t : List ℕ) (on : Bool) (other : ℕ) → statuses_in (symbol_of (after_membership state name t on) other).content ≡ statuses_in (symbol_of state other).content
membership_leave-statuses state name t on other = membership_leaves state name t on (statuses_in) (membership-statuses t on) other

pub attributes_leave-values : (state : State) (name : ℕ) (t : List ℕ) (a : Attributes) (other : ℕ) (u : List ℕ) → value_of (after_attributes state name t a) other u ≡ value_of state other u
attributes_leave-values state name t a other u = attributes_leave state name t a (λ c. value_in c u) (attributes-value t a u) other

pub attributes_leave-members : (state : State) (name : ℕ) (t : List ℕ) (a : Attributes) (other : ℕ) → members_of (after_attributes state name t a) other ≡ members_of state other
attributes_leave-members state name t a other = attributes_leave state name t a (members_in) (attributes-membership t a) other

pub attributes_leave-statuses : (state : State) (name : ℕ) (t : List ℕ) (a : Attributes) (other : ℕ) → statuses_in (symbol_of (after_attributes state name t a) other).content ≡ statuses_in (symbol_of state other).content
attributes_leave-statuses state name t a other = attributes_leave state name t a (statuses_in) (attributes-statuses t a) other

pub statuses_leave-values : (state : State) (name model solver : ℕ) (other : ℕ) (u : List ℕ) → value_of (after_statuses state name model solver) other u ≡ value_of state other u
statuses_leave-values state name model solver other u = statuses_leave state name model solver (λ c. value_in c u) (statuses-value model solver u) other

pub statuses_leave-members : (state : State) (name model solver : ℕ) (other : ℕ) → members_of (after_statuses state name model solver) other ≡ members_of state other
statuses_leave-members state name model solver other = statuses_leave state name model solver (members_in) (statuses-membership model solver) other

pub statuses_leave-attributes : (state : State) (name model solver : ℕ) (other : ℕ) (u : List ℕ) → attributes_of (after_statuses state name model solver) other u ≡ attributes_of state other u
statuses_leave-attributes state name model solver other u = statuses_leave state name model solver (λ c. attributes_in c u) (statuses-attributes model solver u) other
