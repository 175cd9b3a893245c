-- States that are extended by declarations and data: what is declared keeps its domain, and the
-- members of a set are in order and have a label for each of its positions.
use Rattle.std.proofs.Common.{◌≡◌, ◌⊎◌, ℕ, zero, suc, Bool, true, false, ◌==◌, List, [], ◌∷◌, ◌++◌, length, set, filter, slice_get, refl, sym, ap, ◌∙◌, subst, cond, Option, Some, None, unwrap_or, Result, Ok, Err, inl, inr}
use Rattle.std.specs.List.{All, fold}
use Rattle.std.proofs.lemmas.Bool.{eqb-true, and_parts}
use Rattle.std.proofs.lemmas.List.Elements.{All-nil, All-cons, All-append, All-filter}
use Rattle.gq_number.specs.Number.{Number}
use Rattle.gq_extended.specs.Extended as extended
use Rattle.gq_extended.specs.Meaning.{extended as value_shown}
use Rattle.gq_extended.specs.declared.extended.Ext.{Ext}
use Rattle.gms_ast.specs.declared.declaration.DeclKind.{DeclKind}
use Rattle.gms_ast.specs.declared.declaration.DeclKind.TheVariants as kind
use Rattle.gms_ast.specs.declared.declaration.Decl.{Decl}
use Rattle.gms_ast.specs.declared.declaration.ModelDecl.{ModelDecl}
use Rattle.gms_ast.specs.declared.program.Act.{Act, roll-Act, out-Act, roll-out-Act}
use Rattle.gms_ast.specs.declared.program.Act.TheOpen.{Act-F}
use Rattle.gms_ast.specs.declared.program.Act.TheVariants.{rolls-Declare, rolls-Alias, rolls-Assign, rolls-Define, rolls-Model, rolls-Solve, rolls-Display, rolls-Loop, rolls-Options, rolls-Abort}
use Rattle.gms_ast.specs.declared.program.Stmt.{Stmt}
use Rattle.gms_tuple.specs.TupleOrder.{is_before, IsOrdered}
use Rattle.gms_tuple.specs.TupleSet.{has, inserted}
use Rattle.gms_tuple.proofs.Members.{IsOrdered-inserted}
use Rattle.gms_tuple.proofs.Ordered.{ordered-nil}
use Rattle.gms_store.specs.declared.kind.VariableType.{VariableType}
use Rattle.gms_store.specs.declared.kind.VariableType.TheVariants as type
use Rattle.gms_store.specs.State.{State, Attributes, Entries, Content, undeclared, alias_of, set_of, parameter_of, variable_of, equation_of, model_with, Symbol, no_symbol, symbol_at, alias_target, base_of, symbol_of, members_in, with_content, if_fits, with_membership, with_value, after_membership, after_value}
use Rattle.gms_store.specs.Declarations.{names_of, positions_of, content_of, symbol_of_kind, retyped, is_set, is_undeclared, declared_again, put_at, declare, alias_symbol, model_symbol, join_name, can_join, declare_alias, declare_model, declare_models, declare_each, declared_by, kind_in}
use Rattle.gms_set.specs.declared.fault.SetFault.{SetFault}
use Rattle.gms_set.specs.Expansion.{ExpandedData, expanded}
use Rattle.gms_scope.specs.Data.{with_datum}
use Rattle.gms_check.specs.Past.{Past, with_data, with_name, with_item, after_act, after_statement}

-- what is read of a list after a write: what was there, or at that place the new element
put-read : (xs : List Symbol) (i : ℕ) (v : Symbol) (j : ℕ) → (slice_get (set xs i v) j ≡ slice_get xs j) ⊎ ((j ≡ i) × (slice_get (set xs i v) j ≡ Some v))
put-read [] i v j = inl refl
put-read (x ∷ xs) zero v zero = inr (refl, refl)
put-read (x ∷ xs) zero v (suc j) = inl refl
put-read (x ∷ xs) (suc i) v zero = inl refl
put-read (x ∷ xs) (suc i) v (suc j) = elim (put-read xs i v j) [
  | inl same ↦ inl same
  | inr new ↦ inr (ap suc new.0, new.1)
]

-- the symbol at a number, after a change of a name
pub put-at : (state : State) (name : ℕ) (new : Symbol) (n : ℕ) → (symbol_at (put_at state name new) n ≡ symbol_at state n) ⊎ ((n ≡ name) × (symbol_at (put_at state name new) n ≡ new))
put-at state name new n = elim (put-read state.symbols name new n) [
  | inl same ↦ inl (ap (λ s. unwrap_or s no_symbol) same)
  | inr changed ↦ inr (changed.0, ap (λ s. unwrap_or s no_symbol) changed.1)
]

-- the tuples have as many labels
abbrev pub HaveLength : ℕ → List (List ℕ) → Type 0
HaveLength n tuples = All (λ (t : List ℕ). length t ≡ n) tuples

-- A symbol that has no domain before it is declared, and whose members are in order, each with a
-- label for each of its positions.
pub record IsFitting (symbol : Symbol) : Type 0 where
  pub blank : is_undeclared symbol.content ≡ true → symbol.domain ≡ []
  pub arity : HaveLength (length symbol.domain) (members_in symbol.content)
  pub ordered : IsOrdered (members_in symbol.content)

-- A symbol that is declared and changed: its domain and its kind stay, and an alias stays one of
-- the same set.
pub record IsAfter (old new : Symbol) : Type 0 where
  pub domain : new.domain ≡ old.domain
  pub alike : (n : ℕ) → alias_target n new.content ≡ alias_target n old.content
  pub declared : is_undeclared new.content ≡ false
  pub same_kind : kind_in new.content ≡ kind_in old.content

-- a symbol is later than another: the other was not declared, or it comes after it
abbrev pub IsLater : Symbol → Symbol → Type 0
IsLater old new = (is_undeclared old.content ≡ true) ⊎ IsAfter old new

-- what grows out of a symbol that fits
abbrev pub GrowsTo : Symbol → Symbol → Type 0
GrowsTo old new = IsFitting old → IsFitting new × IsLater old new

-- each name of a state grows
abbrev pub Grows : State → State → Type 0
Grows old new = (n : ℕ) → GrowsTo (symbol_at old n) (symbol_at new n)

later-itself : (s : Symbol) → IsLater s s
later-itself s = by (is_undeclared s.content) refl
  where
    by : (b : Bool) → is_undeclared s.content ≡ b → IsLater s s
    by true none = inl none
    by false there = inr (record { domain = refl; alike = λ n. refl; declared = there; same_kind = refl })

later-both : (a b c : Symbol) → IsLater a b → IsLater b c → IsLater a c
later-both a b c (inl none) second = inl none
later-both a b c (inr first) (inl none) = absurd (let no : true ≡ false = sym none ∙ first.declared in cc)
later-both a b c (inr first) (inr second) =
    inr (record { domain = second.domain ∙ first.domain; alike = λ n. second.alike n ∙ first.alike n; declared = second.declared; same_kind = second.same_kind ∙ first.same_kind })

grows_to-itself : (s : Symbol) → GrowsTo s s
grows_to-itself s fits = (fits, later-itself s)

-- a state grows to itself
pub grows-itself : (s : State) → Grows s s
grows-itself s n = grows_to-itself (symbol_at s n)

-- and one step after another
pub grows-both : (a b c : State) → Grows a b → Grows b c → Grows a c
grows-both a b c first second n fits =
    let one = first n fits in
    let two = second n one.0 in (two.0, later-both (symbol_at a n) (symbol_at b n) (symbol_at c n) one.1 two.1)

grows-put : (state : State) (name : ℕ) (new : Symbol) → GrowsTo (symbol_at state name) new → Grows state (put_at state name new)
grows-put state name new grows n = elim (put-at state name new n) [
  | inl same ↦ subst (GrowsTo (symbol_at state n)) (sym same) (grows_to-itself (symbol_at state n))
  | inr changed ↦ subst (λ s. GrowsTo (symbol_at state n) s) (sym changed.1) (subst (λ m. GrowsTo (symbol_at state m) new) (sym changed.0) grows)
]

grows-fold : {X : Type 0} (f : State → X → State) → ((s : State) (x : X) → Grows s (f s x)) → (xs : List X) (s : State) → Grows s (fold f s xs)
grows-fold f each [] s = grows-itself s
grows-fold f each (x ∷ xs) s = grows-both s (f s x) (fold f (f s x) xs) (each s x) (grows-fold f each xs (f s x))

-- ---- contents that differ in entries alone

-- A content after another: it stands for the same, with the same members.
record IsAlike (old new : Content) : Type 0 where
  after_same : (n : ℕ) → alias_target n new ≡ alias_target n old
  members : members_in new ≡ members_in old
  declared : is_undeclared new ≡ is_undeclared old
  same_kind : kind_in new ≡ kind_in old

alike-itself : (c : Content) → IsAlike c c
alike-itself c = record { after_same = λ n. refl; members = refl; declared = refl; same_kind = refl }

grows-alike : (s : Symbol) (new : Content) → IsAlike s.content new → GrowsTo s (with_content s new)
grows-alike s new alike fits = (
  record {
    blank = λ none. fits.blank (sym alike.declared ∙ none);
    arity = subst (HaveLength (length s.domain)) (sym alike.members) fits.arity;
    ordered = subst IsOrdered (sym alike.members) fits.ordered;
  },
  elim (later-itself s) [
    | inl none ↦ inl none
    | inr after ↦ inr (record { domain = refl; alike = alike.after_same; declared = alike.declared ∙ after.declared; same_kind = alike.same_kind })
  ],
)

alike-variables : (old new : VariableType) (some none : Entries Attributes) → IsAlike (variable_of old some) (variable_of new none)
alike-variables old new some none = record { after_same = λ n. refl; members = refl; declared = refl; same_kind = refl }

alike-free : (entries : Entries Attributes) (later : Content) → IsAlike (variable_of type.Free entries) (retyped (variable_of type.Free entries) later)
alike-free entries undeclared = alike-itself (variable_of type.Free entries)
alike-free entries (alias_of base) = alike-itself (variable_of type.Free entries)
alike-free entries (set_of members) = alike-itself (variable_of type.Free entries)
alike-free entries (parameter_of values) = alike-itself (variable_of type.Free entries)
alike-free entries (variable_of other none) = alike-variables type.Free other entries none
alike-free entries (equation_of others) = alike-itself (variable_of type.Free entries)
alike-free entries (model_with m s) = alike-itself (variable_of type.Free entries)

alike-retyped : (c later : Content) → IsAlike c (retyped c later)
alike-retyped undeclared later = alike-itself undeclared
alike-retyped (alias_of base) later = alike-itself (alias_of base)
alike-retyped (set_of members) later = alike-itself (set_of members)
alike-retyped (parameter_of values) later = alike-itself (parameter_of values)
alike-retyped (variable_of type.Free entries) later = alike-free entries later
alike-retyped (variable_of type.Positive entries) later = alike-itself (variable_of type.Positive entries)
alike-retyped (variable_of type.Negative entries) later = alike-itself (variable_of type.Negative entries)
alike-retyped (variable_of type.Discrete entries) later = alike-itself (variable_of type.Discrete entries)
alike-retyped (equation_of others) later = alike-itself (equation_of others)
alike-retyped (model_with m s) later = alike-itself (model_with m s)

-- ---- declarations

-- what is declared anew fits
fits-new : (k : DeclKind) (domain : List (Option ℕ)) → IsFitting (symbol_of_kind k domain)
fits-new kind.Set domain = record { blank = λ none. cc; arity = All-nil (λ (t : List ℕ). length t ≡ length (positions_of kind.Set domain)); ordered = ordered-nil }
fits-new kind.Parameter domain = record { blank = λ none. cc; arity = All-nil (λ (t : List ℕ). length t ≡ length domain); ordered = ordered-nil }
fits-new kind.Scalar domain = record { blank = λ none. cc; arity = All-nil (λ (t : List ℕ). length t ≡ length domain); ordered = ordered-nil }
fits-new kind.Table domain = record { blank = λ none. cc; arity = All-nil (λ (t : List ℕ). length t ≡ length domain); ordered = ordered-nil }
fits-new kind.Free domain = record { blank = λ none. cc; arity = All-nil (λ (t : List ℕ). length t ≡ length domain); ordered = ordered-nil }
fits-new kind.Positive domain = record { blank = λ none. cc; arity = All-nil (λ (t : List ℕ). length t ≡ length domain); ordered = ordered-nil }
fits-new kind.Negative domain = record { blank = λ none. cc; arity = All-nil (λ (t : List ℕ). length t ≡ length domain); ordered = ordered-nil }
fits-new kind.Discrete domain = record { blank = λ none. cc; arity = All-nil (λ (t : List ℕ). length t ≡ length domain); ordered = ordered-nil }
fits-new kind.Equation domain = record { blank = λ none. cc; arity = All-nil (λ (t : List ℕ). length t ≡ length domain); ordered = ordered-nil }

grows-again : (k : DeclKind) (domain : List (Option ℕ)) (s : Symbol) → GrowsTo s (declared_again k domain s)
grows-again k domain s = by (is_undeclared s.content) refl
  where
    again : Symbol
    again = with_content s (retyped s.content (content_of k))

    by : (b : Bool) → is_undeclared s.content ≡ b → GrowsTo s (cond b (symbol_of_kind k domain) again)
    by true none = λ fits. (fits-new k domain, inl none)
    by false there = grows-alike s (retyped s.content (content_of k)) (alike-retyped s.content (content_of k))

grows-declare : (k : DeclKind) (domain : List (Option ℕ)) (state : State) (name : ℕ) → Grows state (declare k domain state name)
grows-declare k domain state name = grows-put state name (declared_again k domain (symbol_at state name)) (grows-again k domain (symbol_at state name))

-- a name that was not declared becomes one without members
grows-fresh : (old new : Symbol) → is_undeclared old.content ≡ true → is_undeclared new.content ≡ false → members_in new.content ≡ [] → GrowsTo old new
grows-fresh old new none there empty fits = (
  record {
    blank = λ also. absurd (let no : true ≡ false = sym also ∙ there in cc);
    arity = subst (HaveLength (length new.domain)) (sym empty) (All-nil (λ (t : List ℕ). length t ≡ length new.domain));
    ordered = subst IsOrdered (sym empty) ordered-nil;
  },
  inl none,
)

grows-join : (state : State) (old new : ℕ) → can_join state old new ≡ true → Grows state (join_name state old new)
grows-join state old new can =
    grows-put state new (alias_symbol (base_of state old)) (grows-fresh (symbol_at state new) (alias_symbol (base_of state old)) ((and_parts (is_set (symbol_at state old).content) (is_undeclared (symbol_at state new).content) can).1) refl refl)

grows-alias : (state : State) (first second : ℕ) → Grows state (declare_alias state first second)
grows-alias state first second = by (can_join state first second) (can_join state second first) refl refl
  where
    sets : State
    sets = declare kind.Set [] (declare kind.Set [] state first) second

    by : (a b : Bool) → can_join state first second ≡ a → can_join state second first ≡ b → Grows state (cond a (join_name state first second) (cond b (join_name state second first) sets))
    by true b can other = grows-join state first second can
    by false true none can = grows-join state second first can
    by false false none other =
        grows-both state (declare kind.Set [] state first) sets (grows-declare kind.Set [] state first) (grows-declare kind.Set [] (declare kind.Set [] state first) second)

grows-model : (state : State) (name : ℕ) → Grows state (declare_model state name)
grows-model state name = by (is_undeclared (symbol_at state name).content) refl
  where
    by : (b : Bool) → is_undeclared (symbol_at state name).content ≡ b → Grows state (cond b (put_at state name model_symbol) state)
    by true none = grows-put state name model_symbol (grows-fresh (symbol_at state name) model_symbol none refl refl)
    by false there = grows-itself state

grows-models : (state : State) (models : List ModelDecl) → Grows state (declare_models state models)
grows-models state models = grows-fold (λ state (model : ModelDecl). declare_model state model.named.name) (λ state model. grows-model state model.named.name) models state

module _ {F : Type 0} where
  grows-each : (k : DeclKind) (state : State) (items : List (Decl F)) → Grows state (declare_each k state items)
  grows-each k state items =
      grows-fold (λ state (item : Decl F). declare k (names_of item.domain) state item.named.name) (λ state item. grows-declare k (names_of item.domain) state item.named.name) items state

  -- what holds of each act made of its parts holds of each act
  pub by_parts : (P : Act F → Type 0) → ((layer : Act-F F (Act F) (Stmt F)) → P (roll-Act F layer)) → (act : Act F) → P act
  by_parts P each act = subst P (roll-out-Act F act) (each (out-Act F act))

  grows-declared : (state : State) (act : Act F) → Grows state (declared_by state act)
  grows-declared state act = by_parts P by act
    where
      P : Act F → Type 0
      P a = Grows state (declared_by state a)

      by : (layer : Act-F F (Act F) (Stmt F)) → P (roll-Act F layer)
      by (Act-F.Declare k items) = subst P (sym (rolls-Declare k items)) (grows-each k state items)
      by (Act-F.Alias first second) = subst P (sym (rolls-Alias first second)) (grows-alias state first.name second.name)
      by (Act-F.Assign target condition right_at right) = subst P (sym (rolls-Assign target condition right_at right)) (grows-itself state)
      by (Act-F.Define equation indices condition left_at left side right_at right) =
          subst P (sym (rolls-Define equation indices condition left_at left side right_at right)) (grows-itself state)
      by (Act-F.Model models) = subst P (sym (rolls-Model models)) (grows-models state models)
      by (Act-F.Solve model method objective maximize) = subst P (sym (rolls-Solve model method objective maximize)) (grows-itself state)
      by (Act-F.Display items) = subst P (sym (rolls-Display items)) (grows-itself state)
      by (Act-F.Loop control body) = subst P (sym (rolls-Loop control body)) (grows-itself state)
      by (Act-F.Options settings) = subst P (sym (rolls-Options settings)) (grows-itself state)
      by (Act-F.Abort condition items) = subst P (sym (rolls-Abort condition items)) (grows-itself state)

-- ---- data

-- a symbol after a content was put at a fitting tuple, or unchanged
grows-fitted : (s : Symbol) (t : List ℕ) (new : Content) → (length t ≡ length s.domain → GrowsTo s (with_content s new)) → GrowsTo s (if_fits s t new)
grows-fitted s t new grows = by (length t == length s.domain) refl
  where
    by : (b : Bool) → (length t == length s.domain) ≡ b → GrowsTo s (cond b (with_content s new) s)
    by true same = grows (eqb-true (length t) (length s.domain) same)
    by false other = grows_to-itself s

-- members with one more of the same length
length-inserted : (n : ℕ) (members : List (List ℕ)) (t : List ℕ) → length t ≡ n → HaveLength n members → HaveLength n (inserted members t)
length-inserted n members t long all = by (has members t)
  where
    P : List ℕ → Type 0
    P u = length u ≡ n

    below : List (List ℕ)
    below = filter (λ member. is_before member t) members

    above : List (List ℕ)
    above = filter (λ member. is_before t member) members

    by : (b : Bool) → HaveLength n (cond b members (below ++ t ∷ above))
    by true = all
    by false =
        All-append P below (t ∷ above) (All-filter (λ member. is_before member t) P members all) (All-cons P t above long (All-filter (λ member. is_before t member) P members all))

grows-inserted : (domain : List (Option ℕ)) (content : Content) (t : List ℕ) → length t ≡ length domain → GrowsTo (record { domain = domain; content = content }) (record { domain = domain; content = with_membership content t true })
grows-inserted domain undeclared t long = grows_to-itself (record { domain = domain; content = undeclared })
grows-inserted domain (alias_of base) t long = grows_to-itself (record { domain = domain; content = alias_of base })
grows-inserted domain (set_of members) t long =
    λ fits. (record { blank = λ none. cc; arity = length-inserted (length domain) members t long fits.arity; ordered = IsOrdered-inserted members t fits.ordered }, inr (record { domain = refl; alike = λ n. refl; declared = refl; same_kind = refl }))
grows-inserted domain (parameter_of values) t long = grows_to-itself (record { domain = domain; content = parameter_of values })
grows-inserted domain (variable_of type entries) t long = grows_to-itself (record { domain = domain; content = variable_of type entries })
grows-inserted domain (equation_of entries) t long = grows_to-itself (record { domain = domain; content = equation_of entries })
grows-inserted domain (model_with m s) t long = grows_to-itself (record { domain = domain; content = model_with m s })

alike-value : (c : Content) (t : List ℕ) (x : extended.Extended) → IsAlike c (with_value c t x)
alike-value undeclared t x = alike-itself undeclared
alike-value (alias_of base) t x = alike-itself (alias_of base)
alike-value (set_of members) t x = alike-itself (set_of members)
alike-value (parameter_of values) t x = record { after_same = λ n. refl; members = refl; declared = refl; same_kind = refl }
alike-value (variable_of type entries) t x = alike-itself (variable_of type entries)
alike-value (equation_of others) t x = alike-itself (equation_of others)
alike-value (model_with m s) t x = alike-itself (model_with m s)

grows-membership : (state : State) (name : ℕ) (t : List ℕ) → Grows state (after_membership state name t true)
grows-membership state name t =
    let s : Symbol = symbol_of state name in
    grows-put state (base_of state name) (if_fits s t (with_membership s.content t true)) (grows-fitted s t (with_membership s.content t true) (λ long. grows-inserted s.domain s.content t long))

grows-value : (state : State) (name : ℕ) (t : List ℕ) (x : extended.Extended) → Grows state (after_value state name t x)
grows-value state name t x =
    let s : Symbol = symbol_of state name in
    grows-put state (base_of state name) (if_fits s t (with_value s.content t x)) (grows-fitted s t (with_value s.content t x) (λ long. grows-alike s (with_value s.content t x) (alike-value s.content t x)))

module _ {F : Type 0} (value : F → Number) where
  grows-datum : (name : ℕ) (state : State) (datum : List ℕ × Option (Ext F)) → Grows state (with_datum value name state datum)
  grows-datum name state (t, None) = grows-membership state name t
  grows-datum name state (t, Some x) = grows-value state name t (value_shown value x)

  grows-data : (state : State) (name : ℕ) (given : Result (ExpandedData F) SetFault) → Grows state (with_data value state name given)
  grows-data state name (Ok given) = grows-fold (with_datum value name) (grows-datum name) given state
  grows-data state name (Err fault) = grows-itself state

  grows-item : (k : DeclKind) (state : State) (item : Decl F) → Grows state (with_item value k state item)
  grows-item k state item =
      let named : State = with_name value k state item in
      let given : Result (ExpandedData F) SetFault = expanded state (positions_of k (names_of item.domain)) item.items in
      grows-both state named (with_data value named item.named.name given) (grows-declare k (names_of item.domain) state item.named.name) (grows-data named item.named.name given)

  grows-act : (state : State) (act : Act F) → Grows state (after_act value state act)
  grows-act state act = by_parts P by act
    where
      P : Act F → Type 0
      P a = Grows state (after_act value state a)

      by : (layer : Act-F F (Act F) (Stmt F)) → P (roll-Act F layer)
      by (Act-F.Declare k items) = subst P (sym (rolls-Declare k items)) (grows-fold (with_item value k) (grows-item k) items state)
      by (Act-F.Alias first second) = subst P (sym (rolls-Alias first second)) (grows-alias state first.name second.name)
      by (Act-F.Assign target condition right_at right) = subst P (sym (rolls-Assign target condition right_at right)) (grows-itself state)
      by (Act-F.Define equation indices condition left_at left side right_at right) =
          subst P (sym (rolls-Define equation indices condition left_at left side right_at right)) (grows-itself state)
      by (Act-F.Model models) = subst P (sym (rolls-Model models)) (grows-models state models)
      by (Act-F.Solve model method objective maximize) = subst P (sym (rolls-Solve model method objective maximize)) (grows-itself state)
      by (Act-F.Display items) = subst P (sym (rolls-Display items)) (grows-itself state)
      by (Act-F.Loop control body) = subst P (sym (rolls-Loop control body)) (grows-itself state)
      by (Act-F.Options settings) = subst P (sym (rolls-Options settings)) (grows-itself state)
      by (Act-F.Abort condition items) = subst P (sym (rolls-Abort condition items)) (grows-itself state)

  -- a state grows by each statement
  pub grows-statement : (state : State) (p : Stmt F × Bool) → Grows state (after_statement value state p)
  grows-statement state (statement, true) = grows-act state statement.act
  grows-statement state (statement, false) = grows-declared state statement.act

  -- and by all
  pub grows-past : (past : Past F) (state : State) → Grows state (fold (after_statement value) state past)
  grows-past past state = grows-fold (after_statement value) grows-statement past state
