-- In the state in which an accepted program's run begins each label of a tuple with data fits its
-- position.
use Rattle.gms_store.proofs.Views.{has-keys_of_map}
use Rattle.std.proofs.Common.{◌≡◌, ◌⊎◌, ℕ, ◌+◌, Bool, true, false, not, ◌||◌, ◌&&◌, ◌==◌, cond, if◌then◌else◌, List, [], ◌∷◌, ◌++◌, length, map, Option, Some, None, is_some, Result, Ok, Err, refl, sym, ap, ◌∙◌, subst, inl, inr}
use Rattle.std.specs.FinMap as finite
use Rattle.std.specs.Prelude.{flat_map, nat_lt}
use Rattle.std.specs.List.{All, AllByRecursion, fold, list_any}
use Rattle.std.proofs.lemmas.Bool.{both_ways, and_parts}
use Rattle.std.proofs.lemmas.List.Elements.{All-nil, All-cons}
use Rattle.gq_number.specs.Number.{Number}
use Rattle.gq_extended.specs.Extended.{Extended}
use Rattle.gq_extended.specs.Meaning.{extended as value_shown}
use Rattle.gq_extended.specs.declared.extended.Ext.{Ext}
use Rattle.gms_ast.specs.declared.declaration.Decl.{Decl}
use Rattle.gms_ast.specs.declared.declaration.DeclKind.{DeclKind}
use Rattle.gms_ast.specs.declared.declaration.DeclKind.TheVariants as kind
use Rattle.gms_ast.specs.declared.declaration.Item.{Item}
use Rattle.gms_ast.specs.declared.program.Program.{Program}
use Rattle.gms_tuple.specs.Products.{tuple_product}
use Rattle.gms_tuple.specs.TupleOrder.{tuple_cmp, same_tuple}
use Rattle.gms_tuple.specs.TupleSet.{has}
use Rattle.gms_tuple.proofs.Members.{has-inserted}
use Rattle.gms_tuple.specs.OrderLaws.{tuple_cmp-total}
use Rattle.gms_tuple.proofs.Ordered.{same_tuple-Decides, same_tuple_refl}
use Rattle.gms_store.specs.declared.kind.VariableType.{VariableType}
use Rattle.gms_store.specs.declared.kind.VariableType.TheVariants as type
use Rattle.gms_store.specs.State.{State, Attributes, Entries, Content, undeclared, alias_of, set_of, parameter_of, variable_of, equation_of, model_with, Symbol, symbol_at, symbol_of, base_of, alias_target, members_of, members_in, given_in, is_given, with_content, if_fits, with_membership, with_value, entries_after_write}
use Rattle.gms_store.specs.Declarations.{names_of, positions_of, content_of, symbol_of_kind, retyped, is_free, is_set, is_undeclared, declared_again, put_at, declare, alias_symbol, model_symbol, join_name, can_join, declare_alias, declare_model, blank_state}
use Rattle.gms_store.proofs.Maps.{same-tie, tie-sym}
use Rattle.gms_set.specs.declared.fault.SetError.{SetError}
use Rattle.gms_set.specs.declared.fault.SetError.TheVariants.{BadRange, Repeated, Outside, Full}
use Rattle.gms_set.specs.declared.fault.SetFault.{SetFault}
use Rattle.gms_set.specs.Expansion.{ExpandedData, error_of, has_outside, has_repeat, is_outside, tuples_of, unless, with_items, expanded}
use Rattle.gms_set.specs.Expansion as expansion
use Rattle.gms_save_text.specs.Validity.{fits_position}
use Rattle.gms_scope.specs.Data.{with_datum}
use Rattle.gms_scope.specs.Names.{has_no_declaration}
use Rattle.gms_check.specs.declared.error.ErrorKind.TheVariants.{Redeclared}
use Rattle.gms_scope.specs.DynamicSets.{dynamic_sets}
use Rattle.gms_check.specs.CompileErrors.{of_program}
use Rattle.gms_check.specs.DeclarationUses.{item_uses}
use Rattle.gms_check.specs.Loaded.{IsAccepted, loaded}
use Rattle.gms_check.specs.Names.{is_variable, may_be_typed, repeats_domain}
use Rattle.gms_check.specs.Past.{is_among, Known, with_data, with_item, with_name}
use Rattle.gms_scope.specs.Names.{positions}
use Rattle.gms_check.proofs.Growing.{put-at}
use Rattle.gms_check.proofs.IndexSetsStay.{none-declared}
use Rattle.gms_check.proofs.NoErrors.{AreClean}
use Rattle.gms_check.proofs.Soundness.{neither-first, neither-second}
use Rattle.gms_run_laws.specs.LastStates.{FitPositions}
use Rattle.gms_run_laws.proofs.DeclaredStates.{over-accepted}

-- ---- states with more members

-- no set has lost a member
abbrev AreGaining : State → State → Type 0
AreGaining old new = (set : ℕ) (u : List ℕ) → has (members_of old set) u ≡ true → has (members_of new set) u ≡ true

label-gaining : (old new : State) → AreGaining old new → (set : Option ℕ) (label : ℕ) → fits_position old set label ≡ true → fits_position new set label ≡ true
label-gaining old new gain None label e = refl
label-gaining old new gain (Some set) label e = gain set (label ∷ []) e

occur-gaining : (old new : State) → AreGaining old new → (domain : List (Option ℕ)) (t : List ℕ) → FitPositions old domain t → FitPositions new domain t
occur-gaining old new gain [] t occur = tt
occur-gaining old new gain (set ∷ domain) [] occur = tt
occur-gaining old new gain (set ∷ domain) (label ∷ t) occur =
    (label-gaining old new gain set label occur.0, occur-gaining old new gain domain t occur.1)

-- A symbol later: it has lost no member, and was not declared or stands for the same.
pub record Gains (old new : Symbol) : Type 0 where
  members : (u : List ℕ) → has (members_in old.content) u ≡ true → has (members_in new.content) u ≡ true
  pub declared : is_undeclared old.content ≡ false → is_undeclared new.content ≡ false
  pub alike : (is_undeclared old.content ≡ true) ⊎ ((n : ℕ) → alias_target n new.content ≡ alias_target n old.content)

gains-itself : (s : Symbol) → Gains s s
gains-itself s = record { members = λ u there. there; declared = λ e. e; alike = inr (λ n. refl) }

no-members : (c : Content) → is_undeclared c ≡ true → members_in c ≡ []
no-members undeclared e = refl
no-members (alias_of base) e = absurd (cc)
no-members (set_of members) e = absurd (cc)
no-members (parameter_of entries) e = absurd (cc)
no-members (variable_of type entries) e = absurd (cc)
no-members (equation_of entries) e = absurd (cc)
no-members (model_with m s) e = absurd (cc)

own-name : (c : Content) (n : ℕ) → is_undeclared c ≡ true → alias_target n c ≡ n
own-name undeclared n e = refl
own-name (alias_of base) n e = absurd (cc)
own-name (set_of members) n e = refl
own-name (parameter_of entries) n e = refl
own-name (variable_of type entries) n e = refl
own-name (equation_of entries) n e = refl
own-name (model_with m s) n e = refl

has-none : (members : List (List ℕ)) (u : List ℕ) → members ≡ [] → has members u ≡ true → ⊥
has-none members u none there = both_ways (has members u) (ap (λ (ms : List (List ℕ)). has ms u) none) there

pub gains-fresh : (old new : Symbol) → is_undeclared old.content ≡ true → Gains old new
gains-fresh old new none = record {
  members = λ u there. absurd (has-none (members_in old.content) u (no-members old.content none) there);
  declared = λ there. absurd (both_ways (is_undeclared old.content) there none);
  alike = inl none;
}

gaining : (old new : State) → ((n : ℕ) → Gains (symbol_at old n) (symbol_at new n)) → AreGaining old new
gaining old new each set u there = elim (each set).alike [
  | inl none ↦ absurd (has-none (members_of old set) u (ap (λ n. members_in (symbol_at old n).content) (own-name (symbol_at old set).content set none) ∙ no-members (symbol_at old set).content none) there)
  | inr alike ↦ subst (λ n. has (members_in (symbol_at new n).content) u ≡ true) (sym (alike set)) ((each (base_of old set)).members u there)
]

-- each tuple with data of a symbol is in its domain
abbrev IsValidEvent : State → Symbol → Type 0
IsValidEvent state symbol = (t : List ℕ) → has (given_in symbol.content) t ≡ true → FitPositions state symbol.domain t

abbrev AreValidEvents : State → Type 0
AreValidEvents state = (n : ℕ) → IsValidEvent state (symbol_at state n)

module _ (state : State) (name : ℕ) (new : Symbol) (gains : Gains (symbol_at state name) new) where
  pub gains-put : (n : ℕ) → Gains (symbol_at state n) (symbol_at (put_at state name new) n)
  gains-put n = elim (put-at state name new n) [
    | inl same ↦ subst (Gains (symbol_at state n)) (sym same) (gains-itself (symbol_at state n))
    | inr changed ↦ subst (λ (s : Symbol). Gains (symbol_at state n) s) (sym changed.1) (subst (λ m. Gains (symbol_at state m) new) (sym changed.0) gains)
  ]

  gaining-put : AreGaining state (put_at state name new)
  gaining-put = gaining state (put_at state name new) gains-put

  context-put : IsValidEvent state new → AreValidEvents state → AreValidEvents (put_at state name new)
  context-put own all n t there =
      occur-gaining state (put_at state name new) gaining-put (symbol_at (put_at state name new) n).domain t (by (put-at state name new n))
    where
      by : ((symbol_at (put_at state name new) n ≡ symbol_at state n) ⊎ ((n ≡ name) × (symbol_at (put_at state name new) n ≡ new))) → FitPositions state (symbol_at (put_at state name new) n).domain t
      by (inl same) = subst (IsValidEvent state) (sym same) (all n) t there
      by (inr changed) = subst (IsValidEvent state) (sym changed.1) own t there

-- ---- declarations

nothing-there : (X : Type 0) (t : List ℕ) → has (finite.keys (finite.empty {X = X} {R = tuple_cmp})) t ≡ true → ⊥
nothing-there X t there =
    both_ways (has (finite.keys (finite.empty {X = X} {R = tuple_cmp})) t) (has-keys_of_map (finite.empty {X = X} {R = tuple_cmp}) t ∙ ap is_some (finite.get-empty tuple_cmp t)) there

-- A content after a change: no member is removed, an alias stands for the same set, and no tuple
-- with data is added.
record IsQuiet (old new : Content) : Type 0 where
  members : (u : List ℕ) → has (members_in old) u ≡ true → has (members_in new) u ≡ true
  after_same : (n : ℕ) → alias_target n new ≡ alias_target n old
  declared : is_undeclared new ≡ is_undeclared old
  given : (t : List ℕ) → has (given_in new) t ≡ true → has (given_in old) t ≡ true

quiet-itself : (c : Content) → IsQuiet c c
quiet-itself c = record { members = λ u there. there; after_same = λ n. refl; declared = refl; given = λ t there. there }

quiet-typed : (entries : Entries Attributes) (t : VariableType) → IsQuiet (variable_of type.Free entries) (variable_of t finite.empty)
quiet-typed entries t = record { members = λ u there. there; after_same = λ n. refl; declared = refl; given = λ t there. absurd (nothing-there Attributes t there) }

quiet-free : (entries : Entries Attributes) (k : DeclKind) → IsQuiet (variable_of type.Free entries) (retyped (variable_of type.Free entries) (content_of k))
quiet-free entries kind.Set = quiet-itself (variable_of type.Free entries)
quiet-free entries kind.Parameter = quiet-itself (variable_of type.Free entries)
quiet-free entries kind.Scalar = quiet-itself (variable_of type.Free entries)
quiet-free entries kind.Table = quiet-itself (variable_of type.Free entries)
quiet-free entries kind.Free = quiet-typed entries type.Free
quiet-free entries kind.Positive = quiet-typed entries type.Positive
quiet-free entries kind.Negative = quiet-typed entries type.Negative
quiet-free entries kind.Discrete = quiet-typed entries type.Discrete
quiet-free entries kind.Equation = quiet-itself (variable_of type.Free entries)

quiet-retyped : (content : Content) (k : DeclKind) → IsQuiet content (retyped content (content_of k))
quiet-retyped undeclared k = quiet-itself undeclared
quiet-retyped (alias_of base) k = quiet-itself (alias_of base)
quiet-retyped (set_of members) k = quiet-itself (set_of members)
quiet-retyped (parameter_of entries) k = quiet-itself (parameter_of entries)
quiet-retyped (variable_of type.Free entries) k = quiet-free entries k
quiet-retyped (variable_of type.Positive entries) k = quiet-itself (variable_of type.Positive entries)
quiet-retyped (variable_of type.Negative entries) k = quiet-itself (variable_of type.Negative entries)
quiet-retyped (variable_of type.Discrete entries) k = quiet-itself (variable_of type.Discrete entries)
quiet-retyped (equation_of entries) k = quiet-itself (equation_of entries)
quiet-retyped (model_with m s) k = quiet-itself (model_with m s)

-- of what is declared anew nothing is given
none-given : (k : DeclKind) (t : List ℕ) → has (given_in (content_of k)) t ≡ true → ⊥
none-given kind.Set t there = has-none [] t refl there
none-given kind.Parameter t there = nothing-there Extended t there
none-given kind.Scalar t there = nothing-there Extended t there
none-given kind.Table t there = nothing-there Extended t there
none-given kind.Free t there = nothing-there Attributes t there
none-given kind.Positive t there = nothing-there Attributes t there
none-given kind.Negative t there = nothing-there Attributes t there
none-given kind.Discrete t there = nothing-there Attributes t there
none-given kind.Equation t there = nothing-there Attributes t there

pub gains-again : (k : DeclKind) (domain : List (Option ℕ)) (s : Symbol) → Gains s (declared_again k domain s)
gains-again k domain s = by (is_undeclared s.content) refl
  where
    by : (b : Bool) → is_undeclared s.content ≡ b → Gains s (cond b (symbol_of_kind k domain) (with_content s (retyped s.content (content_of k))))
    by true none = gains-fresh s (symbol_of_kind k domain) none
    by false there =
        let quiet = quiet-retyped s.content k in record { members = quiet.members; declared = λ e. quiet.declared ∙ e; alike = inr quiet.after_same }

own-again : (k : DeclKind) (domain : List (Option ℕ)) (state : State) (s : Symbol) → IsValidEvent state s → IsValidEvent state (declared_again k domain s)
own-again k domain state s occur = by (is_undeclared s.content)
  where
    by : (b : Bool) → IsValidEvent state (cond b (symbol_of_kind k domain) (with_content s (retyped s.content (content_of k))))
    by true = λ t there. absurd (none-given k t there)
    by false = λ t there. occur t ((quiet-retyped s.content k).given t there)

context-declare : (k : DeclKind) (domain : List (Option ℕ)) (state : State) (name : ℕ) → AreValidEvents state → AreValidEvents (declare k domain state name)
context-declare k domain state name all =
    let s = symbol_at state name in
    context-put state name (declared_again k domain s) (gains-again k domain s) (own-again k domain state s (all name)) all

context-join : (state : State) (old new : ℕ) → can_join state old new ≡ true → AreValidEvents state → AreValidEvents (join_name state old new)
context-join state old new can all =
    let alias = alias_symbol (base_of state old) in
    context-put state new alias (gains-fresh (symbol_at state new) alias ((and_parts (is_set (symbol_at state old).content) (is_undeclared (symbol_at state new).content) can).1)) (λ t there. absurd (has-none [] t refl there)) all

context-alias : (state : State) (first second : ℕ) → AreValidEvents state → AreValidEvents (declare_alias state first second)
context-alias state first second all = by (can_join state first second) (can_join state second first) refl refl
  where
    by : (a b : Bool) → can_join state first second ≡ a → can_join state second first ≡ b → AreValidEvents (cond a (join_name state first second) (cond b (join_name state second first) (declare kind.Set [] (declare kind.Set [] state first) second)))
    by true b can other = context-join state first second can all
    by false true none can = context-join state second first can all
    by false false none other = context-declare kind.Set [] (declare kind.Set [] state first) second (context-declare kind.Set [] state first all)

context-model : (state : State) (name : ℕ) → AreValidEvents state → AreValidEvents (declare_model state name)
context-model state name all = by (is_undeclared (symbol_at state name).content) refl
  where
    by : (b : Bool) → is_undeclared (symbol_at state name).content ≡ b → AreValidEvents (cond b (put_at state name model_symbol) state)
    by true none = context-put state name model_symbol (gains-fresh (symbol_at state name) model_symbol none) (λ t there. absurd (has-none [] t refl there)) all
    by false there = all

-- ---- data

-- whether data change nothing of a content
abbrev is_deaf : Content → Bool
is_deaf (set_of members) = false
is_deaf (parameter_of entries) = false
is_deaf content = true

-- A content after a datum of a tuple: no member is removed, an alias stands for the same set, and
-- of tuples with data only this one is added.
pub record IsWithDatum (t : List ℕ) (old new : Content) : Type 0 where
  members : (u : List ℕ) → has (members_in old) u ≡ true → has (members_in new) u ≡ true
  after_same : (n : ℕ) → alias_target n new ≡ alias_target n old
  declared : is_undeclared new ≡ is_undeclared old
  deaf : is_deaf new ≡ is_deaf old
  given : (u : List ℕ) → has (given_in new) u ≡ true → ((t ≡ u) × (is_deaf old ≡ false)) ⊎ (has (given_in old) u ≡ true)

datum-none : (t : List ℕ) (c : Content) → IsWithDatum t c c
datum-none t c = record { members = λ u there. there; after_same = λ n. refl; declared = refl; deaf = refl; given = λ u there. inr there }

pub datum-member : (t : List ℕ) (c : Content) → IsWithDatum t c (with_membership c t true)
datum-member t undeclared = datum-none t undeclared
datum-member t (alias_of base) = datum-none t (alias_of base)
datum-member t (set_of members) = record {
  members = λ u there. has-inserted members t u ∙ or-second (same_tuple t u) (has members u) there;
  after_same = λ n. refl;
  declared = refl;
  deaf = refl;
  given = λ u there. by u (same_tuple t u) refl (sym (has-inserted members t u) ∙ there);
}
  where
    or-second : (a b : Bool) → b ≡ true → (a || b) ≡ true
    or-second true b e = refl
    or-second false b e = e

    by : (u : List ℕ) (b : Bool) → same_tuple t u ≡ b → (b || has members u) ≡ true → ((t ≡ u) × (false ≡ false)) ⊎ (has members u ≡ true)
    by u true same there = inl ((same_tuple-Decides t u).0 same, refl)
    by u false other there = inr there
datum-member t (parameter_of entries) = datum-none t (parameter_of entries)
datum-member t (variable_of type entries) = datum-none t (variable_of type entries)
datum-member t (equation_of entries) = datum-none t (equation_of entries)
datum-member t (model_with m s) = datum-none t (model_with m s)

-- a write leaves the entries at other tuples
written-other : {X : Type 0} (b : Bool) (m : Entries X) (t : List ℕ) (x : X) (u : List ℕ) → same_tuple t u ≡ false → finite.get (entries_after_write b m t x) u ≡ finite.get m u
written-other true m t x u apart =
    finite.get-insert tuple_cmp-total m t x u ∙ ap (λ b. cond b (Some x) (finite.get m u)) (tie-sym u t ∙ sym (same-tie t u) ∙ apart)
written-other false m t x u apart =
    finite.get-remove tuple_cmp-total m t u ∙ ap (λ b. cond b None (finite.get m u)) (tie-sym u t ∙ sym (same-tie t u) ∙ apart)

pub datum-value : (t : List ℕ) (x : Extended) (c : Content) → IsWithDatum t c (with_value c t x)
datum-value t x undeclared = datum-none t undeclared
datum-value t x (alias_of base) = datum-none t (alias_of base)
datum-value t x (set_of members) = datum-none t (set_of members)
datum-value t x (parameter_of entries) = record {
  members = λ u there. there;
  after_same = λ n. refl;
  declared = refl;
  deaf = refl;
  given = λ u there. by u (same_tuple t u) refl there;
}
  where
    by : (u : List ℕ) (b : Bool) → same_tuple t u ≡ b → has (finite.keys (entries_after_write (is_given x) entries t x)) u ≡ true → ((t ≡ u) × (false ≡ false)) ⊎ (has (finite.keys entries) u ≡ true)
    by u true same there = inl ((same_tuple-Decides t u).0 same, refl)
    by u false other there =
        inr (has-keys_of_map entries u ∙ sym (ap is_some (written-other (is_given x) entries t x u other)) ∙ sym (has-keys_of_map (entries_after_write (is_given x) entries t x) u) ∙ there)
datum-value t x (variable_of type entries) = datum-none t (variable_of type entries)
datum-value t x (equation_of entries) = datum-none t (equation_of entries)
datum-value t x (model_with m s) = datum-none t (model_with m s)

-- a tuple at which data of a name may be given: its labels are in the name's domain, or data change
-- nothing of the name
abbrev IsReady : State → ℕ → List ℕ → Type 0
IsReady state name t = (is_deaf (symbol_of state name).content ≡ true) ⊎ FitPositions state (symbol_of state name).domain t

-- symbols over one domain, of which data change something or not
abbrev AreSimilar : Symbol → Symbol → Type 0
AreSimilar a b = (a.domain ≡ b.domain) × (is_deaf a.content ≡ is_deaf b.content)

module _ (state : State) (name : ℕ) (t : List ℕ) (new : Content) (datum : IsWithDatum t (symbol_of state name).content new) where
  abbrev old_symbol : Symbol
  old_symbol = symbol_of state name

  abbrev new_symbol : Symbol
  new_symbol = if_fits old_symbol t new

  abbrev next : State
  next = put_at state (base_of state name) new_symbol

  -- what holds of the symbol, and of it with the new content, holds of the new symbol
  pub either-new : (P : Symbol → Type 0) → P (with_content old_symbol new) → P old_symbol → P new_symbol
  either-new P p q = by (length t == length old_symbol.domain)
    where
      by : (b : Bool) → P (cond b (with_content old_symbol new) old_symbol)
      by true = p
      by false = q

  pub gains-new : Gains old_symbol new_symbol
  gains-new = either-new (Gains old_symbol) (record { members = datum.members; declared = λ e. datum.declared ∙ e; alike = inr datum.after_same }) (gains-itself old_symbol)

  similar-new : AreSimilar new_symbol old_symbol
  similar-new = either-new (λ (s : Symbol). AreSimilar s old_symbol) (refl, datum.deaf) (refl, refl)

  following-new : (n : ℕ) → alias_target n new_symbol.content ≡ alias_target n old_symbol.content
  following-new n = either-new (λ (s : Symbol). alias_target n s.content ≡ alias_target n old_symbol.content) (datum.after_same n) refl

  own-new : IsReady state name t → IsValidEvent state old_symbol → IsValidEvent state new_symbol
  own-new ready own = either-new (IsValidEvent state) (λ u there. by u ready (datum.given u there)) own
    where
      by : (u : List ℕ) → IsReady state name t → ((t ≡ u) × (is_deaf old_symbol.content ≡ false)) ⊎ (has (given_in old_symbol.content) u ≡ true) → FitPositions state old_symbol.domain u
      by u (inl deaf) (inl this) = absurd (both_ways (is_deaf old_symbol.content) this.1 deaf)
      by u (inr occur) (inl this) = subst (FitPositions state old_symbol.domain) this.0 occur
      by u ready (inr there) = own u there

  context-datum : IsReady state name t → AreValidEvents state → AreValidEvents next
  context-datum ready all =
      context-put state (base_of state name) new_symbol gains-new (own-new ready (all (base_of state name))) all

  base-next : base_of next name ≡ base_of state name
  base-next = elim (put-at state (base_of state name) new_symbol name) [
    | inl same ↦ ap (λ (s : Symbol). alias_target name s.content) same
    | inr changed ↦ ap (λ (s : Symbol). alias_target name s.content) changed.1 ∙ following-new name ∙ sym (ap (λ n. alias_target name (symbol_at state n).content) changed.0)
  ]

  similar-next : AreSimilar (symbol_of next name) old_symbol
  similar-next =
      subst (λ n. AreSimilar (symbol_at next n) old_symbol) (sym base-next) (by (put-at state (base_of state name) new_symbol (base_of state name)))
    where
      by : ((symbol_at next (base_of state name) ≡ old_symbol) ⊎ ((base_of state name ≡ base_of state name) × (symbol_at next (base_of state name) ≡ new_symbol))) → AreSimilar (symbol_at next (base_of state name)) old_symbol
      by (inl same) = subst (λ (s : Symbol). AreSimilar s old_symbol) (sym same) (refl, refl)
      by (inr changed) = subst (λ (s : Symbol). AreSimilar s old_symbol) (sym changed.1) similar-new

  ready-next : (u : List ℕ) → IsReady state name u → IsReady next name u
  ready-next u (inl deaf) = inl (similar-next.1 ∙ deaf)
  ready-next u (inr occur) =
      inr (subst (λ (domain : List (Option ℕ)). FitPositions next domain u) (sym similar-next.0) (occur-gaining state next (gaining-put state (base_of state name) new_symbol gains-new) old_symbol.domain u occur))

module _ {F : Type 0} where
  -- each tuple of data is ready
  abbrev AreReady : State → ℕ → ExpandedData F → Type 0
  AreReady state name [] = Unit {0}
  AreReady state name (d ∷ ds) = IsReady state name d.0 × AreReady state name ds

  all-ready : (state later : State) (name : ℕ) → ((u : List ℕ) → IsReady state name u → IsReady later name u) → (ds : ExpandedData F) → AreReady state name ds → AreReady later name ds
  all-ready state later name each [] ready = tt
  all-ready state later name each (d ∷ ds) ready = (each d.0 ready.0, all-ready state later name each ds ready.1)

module _ {F : Type 0} (v : F → Number) where
  context-data : (ds : ExpandedData F) (state : State) (name : ℕ) → AreReady state name ds → AreValidEvents state → AreValidEvents (fold (with_datum v name) state ds)
  context-data [] state name ready all = all
  context-data ((t, None) ∷ ds) state name ready all =
      let s = symbol_of state name in
      let new = with_membership s.content t true in
      let datum = datum-member t s.content in
      context-data ds (put_at state (base_of state name) (if_fits s t new)) name (all-ready state (put_at state (base_of state name) (if_fits s t new)) name (ready-next state name t new datum) ds ready.1) (context-datum state name t new datum ready.0 all)
  context-data ((t, Some x) ∷ ds) state name ready all =
      let s = symbol_of state name in
      let new = with_value s.content t (value_shown v x) in
      let datum = datum-value t (value_shown v x) s.content in
      context-data ds (put_at state (base_of state name) (if_fits s t new)) name (all-ready state (put_at state (base_of state name) (if_fits s t new)) name (ready-next state name t new datum) ds ready.1) (context-datum state name t new datum ready.0 all)

-- ---- data that items give

module _ (state : State) (set : Option ℕ) (domain : List (Option ℕ)) where
  occur-with : (label : ℕ) (ts : List (List ℕ)) → is_outside state set label ≡ false → AllByRecursion (FitPositions state domain) ts → AllByRecursion (FitPositions state (set ∷ domain)) (map (λ tuple. label ∷ tuple) ts)
  occur-with label [] inside all = tt
  occur-with label (t ∷ ts) inside all = ((occurs set inside, all.0), occur-with label ts inside all.1)
    where
      occurs : (set : Option ℕ) → is_outside state set label ≡ false → fits_position state set label ≡ true
      occurs None e = refl
      occurs (Some set) e = not-false (has (members_of state set) (label ∷ [])) e
        where
          not-false : (b : Bool) → not b ≡ false → b ≡ true
          not-false true e = refl
          not-false false e = absurd (cc)

  occur-joined : (ts us : List (List ℕ)) → AllByRecursion (FitPositions state (set ∷ domain)) ts → AllByRecursion (FitPositions state (set ∷ domain)) us → AllByRecursion (FitPositions state (set ∷ domain)) (ts ++ us)
  occur-joined [] us a b = b
  occur-joined (t ∷ ts) us a b = (a.0, occur-joined ts us a.1 b)

  occur-pieces : (ts : List (List ℕ)) (labels : List ℕ) → list_any (is_outside state set) labels ≡ false → AllByRecursion (FitPositions state domain) ts → AllByRecursion (FitPositions state (set ∷ domain)) (flat_map (λ label. map (λ tuple. label ∷ tuple) ts) labels)
  occur-pieces ts [] inside all = tt
  occur-pieces ts (label ∷ labels) inside all =
      occur-joined (map (λ tuple. label ∷ tuple) ts) (flat_map (λ label. map (λ tuple. label ∷ tuple) ts) labels) (occur-with label ts (neither-first (is_outside state set label) (list_any (is_outside state set) labels) inside) all) (occur-pieces ts labels (neither-second (is_outside state set label) (list_any (is_outside state set) labels) inside) all)

-- tuples of no position
occur-anywhere : (state : State) (ts : List (List ℕ)) → AllByRecursion (FitPositions state []) ts
occur-anywhere state [] = tt
occur-anywhere state (t ∷ ts) = (tt, occur-anywhere state ts)

occur-product : (state : State) (domain : List (Option ℕ)) (parts : List (List ℕ)) → has_outside state domain parts ≡ false → AllByRecursion (FitPositions state domain) (tuple_product parts)
occur-product state [] parts inside = occur-anywhere state (tuple_product parts)
occur-product state (set ∷ domain) [] inside = (tt, tt)
occur-product state (set ∷ domain) (labels ∷ rest) inside =
    occur-pieces state set domain (tuple_product rest) labels (neither-first (list_any (is_outside state set) labels) (has_outside state domain rest) inside) (occur-product state domain rest (neither-second (list_any (is_outside state set) labels) (has_outside state domain rest) inside))

module _ {F : Type 0} (state : State) (domain : List (Option ℕ)) where
  -- each tuple of data fits these positions
  abbrev AreThere : ExpandedData F → Type 0
  AreThere [] = Unit {0}
  AreThere (d ∷ ds) = FitPositions state domain d.0 × AreThere ds

  there-joined : (ds : ExpandedData F) (x : Option (Ext F)) (ts : List (List ℕ)) → AreThere ds → AllByRecursion (FitPositions state domain) ts → AreThere (ds ++ expansion.tuples_with_value x ts)
  there-joined [] x [] a b = tt
  there-joined [] x (t ∷ ts) a b = (b.0, there-joined [] x ts tt b.1)
  there-joined (d ∷ ds) x ts a b = (a.0, there-joined ds x ts a.1 b)

  ok-same : (ds es : ExpandedData F) → ◌≡◌ {A = Result (ExpandedData F) SetFault} (Ok ds) (Ok es) → ds ≡ es
  ok-same ds es e = ap by e
    where
      by : Result (ExpandedData F) SetFault → ExpandedData F
      by (Ok x) = x
      by (Err fault) = ds

  -- an item without an error has no label outside its set
  none-outside : (before : List (List ℕ)) (item : Item F) → error_of state domain before item ≡ None → has_outside state domain item.parts ≡ false
  none-outside before item e =
      by (has_outside state domain item.parts) item.bad_range (nat_lt 1048576 (length before + length (tuple_product item.parts))) (has_repeat (before ++ tuple_product item.parts)) e
    where
      by : (a b c d : Bool) → (if a then Some Outside else if b then Some BadRange else if c then Some Full else if d then Some Repeated else None) ≡ None → a ≡ false
      by true b c d e = absurd cc
      by false b c d e = refl

  items-there : (items : List (Item F)) (ds given : ExpandedData F) → AreThere ds → with_items state domain ds items ≡ Ok given → AreThere given
  items-there [] ds given all e = subst AreThere (ok-same ds given e) all
  items-there (item ∷ items) ds given all e =
      by (items-there items more given) (error_of state domain (tuples_of ds) item) refl e
    where
      more : ExpandedData F
      more = ds ++ expansion.tuples_with_value item.value (tuple_product item.parts)

      by : (AreThere more → with_items state domain more items ≡ Ok given → AreThere given) → (o : Option SetError) → error_of state domain (tuples_of ds) item ≡ o → unless o item.at (with_items state domain more items) ≡ Ok given → AreThere given
      by later None none rest =
          later (there-joined ds item.value (tuple_product item.parts) all (occur-product state domain item.parts (none-outside (tuples_of ds) item none))) rest
      by later (Some error) is rest = absurd cc

-- ---- a name that is declared, with its data

own-kind : (k : DeclKind) (n : ℕ) → alias_target n (content_of k) ≡ n
own-kind kind.Set n = refl
own-kind kind.Parameter n = refl
own-kind kind.Scalar n = refl
own-kind kind.Table n = refl
own-kind kind.Free n = refl
own-kind kind.Positive n = refl
own-kind kind.Negative n = refl
own-kind kind.Discrete n = refl
own-kind kind.Equation n = refl

deaf-undeclared : (c : Content) → is_undeclared c ≡ true → is_deaf c ≡ true
deaf-undeclared undeclared e = refl
deaf-undeclared (alias_of base) e = absurd (cc)
deaf-undeclared (set_of members) e = absurd (cc)
deaf-undeclared (parameter_of entries) e = absurd (cc)
deaf-undeclared (variable_of type entries) e = refl
deaf-undeclared (equation_of entries) e = refl
deaf-undeclared (model_with m s) e = refl

-- A content that data do not change, and which stands for its own name.
record IsDeaf (c : Content) : Type 0 where
  deaf : is_deaf c ≡ true
  own : (n : ℕ) → alias_target n c ≡ n

deaf-free : (entries : Entries Attributes) (k : DeclKind) → IsDeaf (retyped (variable_of type.Free entries) (content_of k))
deaf-free entries kind.Set = record { deaf = refl; own = λ n. refl }
deaf-free entries kind.Parameter = record { deaf = refl; own = λ n. refl }
deaf-free entries kind.Scalar = record { deaf = refl; own = λ n. refl }
deaf-free entries kind.Table = record { deaf = refl; own = λ n. refl }
deaf-free entries kind.Free = record { deaf = refl; own = λ n. refl }
deaf-free entries kind.Positive = record { deaf = refl; own = λ n. refl }
deaf-free entries kind.Negative = record { deaf = refl; own = λ n. refl }
deaf-free entries kind.Discrete = record { deaf = refl; own = λ n. refl }
deaf-free entries kind.Equation = record { deaf = refl; own = λ n. refl }

deaf-typed : (c : Content) (k : DeclKind) → is_free c ≡ true → IsDeaf c × (IsDeaf (retyped c (content_of k)) × (is_undeclared c ≡ false))
deaf-typed undeclared k e = absurd (cc)
deaf-typed (alias_of base) k e = absurd (cc)
deaf-typed (set_of members) k e = absurd (cc)
deaf-typed (parameter_of entries) k e = absurd (cc)
deaf-typed (variable_of type.Free entries) k e = (record { deaf = refl; own = λ n. refl }, (deaf-free entries k, refl))
deaf-typed (variable_of type.Positive entries) k e = absurd (cc)
deaf-typed (variable_of type.Negative entries) k e = absurd (cc)
deaf-typed (variable_of type.Discrete entries) k e = absurd (cc)
deaf-typed (equation_of entries) k e = absurd (cc)
deaf-typed (model_with m s) k e = absurd (cc)

module _ (k : DeclKind) (domain : List (Option ℕ)) (state : State) (name : ℕ) where
  abbrev named : State
  named = declare k domain state name

  -- the symbol of a name that stands for itself
  own-symbol : (s : Symbol) → symbol_at named name ≡ s → alias_target name s.content ≡ name → symbol_of named name ≡ s
  own-symbol s is own =
      ap (λ n. symbol_at named n) (ap (λ (s : Symbol). alias_target name s.content) is ∙ own) ∙ is

  -- a new name is over the domain in which the data stand
  ready-new : is_undeclared (symbol_at state name).content ≡ true → (t : List ℕ) → FitPositions state (positions_of k domain) t → IsReady named name t
  ready-new none t occur = elim (put-at state name (declared_again k domain (symbol_at state name)) name) [
    | inl same ↦ inl (ap (λ (s : Symbol). is_deaf s.content) (own-symbol (symbol_at state name) same (own-name (symbol_at state name).content name none)) ∙ deaf-undeclared (symbol_at state name).content none)
    | inr changed ↦ inr (subst (λ (s : Symbol). FitPositions named s.domain t) (sym (own-symbol (symbol_of_kind k domain) (changed.1 ∙ ap (λ (b : Bool). cond b (symbol_of_kind k domain) (with_content (symbol_at state name) (retyped (symbol_at state name).content (content_of k)))) none) (own-kind k name))) (occur-gaining state named (gaining-put state name (declared_again k domain (symbol_at state name)) (gains-again k domain (symbol_at state name))) (positions_of k domain) t occur))
  ]

  -- data change nothing of a variable that gets a type
  ready-typed : is_free (symbol_at state name).content ≡ true → (t : List ℕ) → IsReady named name t
  ready-typed free t =
      let typed = deaf-typed (symbol_at state name).content k free in
      let again = with_content (symbol_at state name) (retyped (symbol_at state name).content (content_of k)) in
      elim (put-at state name (declared_again k domain (symbol_at state name)) name) [
        | inl same ↦ inl (ap (λ (s : Symbol). is_deaf s.content) (own-symbol (symbol_at state name) same (typed.0.own name)) ∙ typed.0.deaf)
        | inr changed ↦ inl (ap (λ (s : Symbol). is_deaf s.content) (own-symbol again (changed.1 ∙ ap (λ (b : Bool). cond b (symbol_of_kind k domain) again) typed.1.1) (typed.1.0.own name)) ∙ typed.1.0.deaf)
      ]

  module _ {F : Type 0} where
    all-new : is_undeclared (symbol_at state name).content ≡ true → (ds : ExpandedData F) → AreThere state (positions_of k domain) ds → AreReady named name ds
    all-new none [] all = tt
    all-new none (d ∷ ds) all = (ready-new none d.0 all.0, all-new none ds all.1)

    all-typed : is_free (symbol_at state name).content ≡ true → (ds : ExpandedData F) → AreReady named name ds
    all-typed free [] = tt
    all-typed free (d ∷ ds) = (ready-typed free d.0, all-typed free ds)

module _ {F : Type 0} (k : DeclKind) where
  context-item : (program : Program F) (known : Known F) (item : Decl F) → known.assigned ≡ of_program program (is_among (dynamic_sets program)) → AreClean known (item_uses known k item) → AreValidEvents known.state → AreValidEvents (with_item known.value k known.state item)
  context-item program known item same clean all =
      by (has_no_declaration known.state name) refl (expanded known.state positions_there item.items) refl
    where
      name : ℕ
      name = item.named.name

      domain : List (Option ℕ)
      domain = names_of item.domain

      positions_there : List (Option ℕ)
      positions_there = positions_of k domain

      declared : AreValidEvents (declare k domain known.state name)
      declared = context-declare k domain known.state name all

      first-of-two : (a b : Bool) → not a && not b ≡ false → a ≡ false → b ≡ true
      first-of-two true b e none = absurd (cc)
      first-of-two false true e none = refl
      first-of-two false false e none = absurd (cc)

      first-holds : (a b : Bool) → (a && b) ≡ true → a ≡ true
      first-holds true b e = refl
      first-holds false b e = absurd (cc)

      by : (unknown : Bool) → has_no_declaration known.state name ≡ unknown → (given : Result (ExpandedData F) SetFault) → expanded known.state positions_there item.items ≡ given → AreValidEvents (with_data known.value (with_name known.value k known.state item) name given)
      by unknown is (Err fault) e = declared
      by true none (Ok given) e =
          context-data known.value given (declare k domain known.state name) name (all-new k domain known.state name none given (items-there known.state positions_there item.items [] given tt e)) declared
      by false there (Ok given) e =
          let typed = first-of-two (has_no_declaration known.state name) (may_be_typed known k name domain) (clean.0 Redeclared) there in
          let free = first-holds (is_free (symbol_at known.state name).content) (is_variable (content_of k) && repeats_domain known.state domain (positions known.state name)) typed in
          context-data known.value given (declare k domain known.state name) name (all-typed k domain known.state name free given) declared

-- ---- the state in which a run begins

all-from_has : (P : List ℕ → Type 0) (tuples : List (List ℕ)) → ((t : List ℕ) → has tuples t ≡ true → P t) → All P tuples
all-from_has P [] each = All-nil P
all-from_has P (u ∷ tuples) each =
    All-cons P u tuples (each u (ap (λ b. b || has tuples u) (same_tuple_refl u))) (all-from_has P tuples (λ t there. each t (or-second (same_tuple u t) (has tuples t) there)))
  where
    or-second : (a b : Bool) → b ≡ true → (a || b) ≡ true
    or-second true b e = refl
    or-second false b e = e

-- each label of a tuple with data fits its position
pub loaded-occurs : {F : Type 0} (v : F → Number) (program : Program F) (name : ℕ) → IsAccepted v program → All (FitPositions (loaded v program) (symbol_at (loaded v program) name).domain) (given_in (symbol_at (loaded v program) name).content)
loaded-occurs v program name accepted =
    let blank = blank_state (length program.names) in
    let empty : AreValidEvents blank = λ n. subst (IsValidEvent blank) (sym (none-declared (length program.names) n)) (λ t there. absurd (has-none [] t refl there)) in
    let state = loaded v program in
    all-from_has (FitPositions state (symbol_at state name).domain) (given_in (symbol_at state name).content) (over-accepted program AreValidEvents (λ k. context-item k program) context-alias context-model v accepted empty name)
