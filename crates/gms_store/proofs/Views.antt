-- Laws of what the store shows of its maps and of its symbols.
use Rattle.std.proofs.Common.{◌≡◌, ℕ, Bool, true, false, not, ◌&&◌, List, [], ◌∷◌, length, map, refl, sym, ap, ◌∙◌, cond, Option, Some, None, unwrap_or, option_map, T, subst, ◌||◌, ◌==◌, is_some, pos, ◌≤◌, arith}
use Rattle.std.specs.declared.cmp.Ordering.{Ordering}
use Rattle.std.specs.declared.cmp.Ordering.TheVariants.{Less, Equal, Greater}
use Rattle.std.specs.Ordering.{is_lt, is_eq, eq_by_cmp}
use Rattle.std.specs.Map.{keys_of}
use Rattle.std.specs.List.{AllByRecursion}
use Rattle.std.specs.List.Sorted.{IsStrictlySortedBy}
use Rattle.std.specs.FinMap as finite
use Rattle.std.specs.FinMap.Entries.{is_sorted, below_all}
use Rattle.gq_number.specs.Number.{Number, whole}
use Rattle.gq_number.proofs.Compares.{number_cmp_total}
use Rattle.gq_field.specs.Fits.{fits}
use Rattle.std.proofs.lemmas.Bool.Decides.{nat_tests}
use Rattle.std.proofs.lemmas.Cmp.{tied_itself}
use Rattle.gms_tuple.specs.TupleOrder.{tuple_cmp, IsOrdered}
use Rattle.gms_tuple.specs.OrderLaws.{tuple_cmp-total}
use Rattle.gms_store.specs.declared.content.Content as kept
use Rattle.gms_store.specs.Shown.{entries_mapped, attributes_shown, content_shown}
use Rattle.gms_store.specs.declared.attributes.Attributes as own
use Rattle.gms_store.specs.declared.content.Content.TheVariants as variant
use Rattle.gms_store.specs.declared.kind.VariableType.{VariableType}
use Rattle.gq_extended.specs.declared.extended.Ext.{Ext}
use Rattle.gq_extended.specs.declared.extended.Ext.TheVariants as ext
use Rattle.gq_extended.specs.Meaning.{extended}
use Rattle.std.proofs.lemmas.Bool.{eqb-true, eq-eqb}
use Rattle.gms_store.specs.State.{Entries, Attributes, Content, undeclared, alias_of, set_of, parameter_of, variable_of, equation_of, model_with, Symbol, entries_after_write, if_fits, with_value, with_attributes, with_membership, is_given, zero, same_number, same_bound, same_attributes, absent_variable, unbounded, given_in, differs_in, IsNormalContent, AreDifferent, value_fits, bound_fits, attributes_fit, fits_at}
use Rattle.gms_store.specs.Declarations.{content_of}
use Rattle.gms_store.specs.declared.kind.VariableType.TheVariants as type
use Rattle.gms_ast.specs.declared.declaration.DeclKind.{DeclKind}
use Rattle.gms_ast.specs.declared.declaration.DeclKind.TheVariants.{Set, Parameter, Scalar, Table, Free, Positive, Negative, Discrete, Equation}
use Rattle.gq_extended.specs.Extended.{Extended}
use Rattle.gms_tuple.specs.TupleSet.{has, inserted, removed}
use Rattle.gms_tuple.specs.TupleOrder.{same_tuple}
use Rattle.gms_tuple.proofs.Ordered.{tuple_cmp-Equal, same_tuple-Decides}
use Rattle.gms_tuple.proofs.Members.{has-inserted, has-removed}
use Rattle.gms_store.proofs.Maps.{same_map, keys-from_entries, made, no_entries, has-keys, find-lookup}

-- an entry with its value mapped
abbrev seen_as : {X Y : Type 0} → (X → Y) → List ℕ × X → List ℕ × Y
seen_as f e = (e.0, f e.1)

find-seen_as : {X Y : Type 0} (f : X → Y) (q : List ℕ) (es : List (List ℕ × X)) → finite.find tuple_cmp q (map (seen_as f) es) ≡ option_map f (finite.find tuple_cmp q es)
find-seen_as f q [] = refl
find-seen_as f q (e ∷ es) = by (find-seen_as f q es) (eq_by_cmp tuple_cmp q e.0)
  where
    by : finite.find tuple_cmp q (map (seen_as f) es) ≡ option_map f (finite.find tuple_cmp q es) → (b : Bool) → cond b (Some (f e.1)) (finite.find tuple_cmp q (map (seen_as f) es)) ≡ option_map f (cond b (Some e.1) (finite.find tuple_cmp q es))
    by rest true = refl
    by rest false = rest

-- a map shown has at each tuple what is shown of the map's value there
pub get-shown : {X Y : Type 0} (f : X → Y) (m : Entries X) (q : List ℕ) → finite.get (entries_mapped f m) q ≡ option_map f (finite.get m q)
get-shown f m q =
    finite.get-from_entries tuple_cmp-total (map (seen_as f) (finite.entries m)) q ∙ find-seen_as f q (finite.entries m) ∙ ap (option_map f) (sym (finite.get-entries m q))

-- what a read answers, shown
pub read-shown : {X Y : Type 0} (f : X → Y) (m : Entries X) (t : List ℕ) (d : X) (d' : Y) → f d ≡ d' → f (unwrap_or (finite.get m t) d) ≡ unwrap_or (finite.get (entries_mapped f m) t) d'
read-shown f m t d d' e = by (finite.get m t) ∙ ap (λ o. unwrap_or o d') (sym (get-shown f m t))
  where
    by : (o : Option _) → f (unwrap_or o d) ≡ unwrap_or (option_map f o) d'
    by None = e
    by (Some x) = refl

pub shown-empty : {X Y : Type 0} (f : X → Y) → entries_mapped f finite.empty ≡ finite.empty
shown-empty f = ap (λ es. made (map (seen_as f) es)) no_entries

map-cond : {X Y : Type 0} (f : X → Y) (b : Bool) (x : Option X) (y : Option X) → option_map f (cond b x y) ≡ cond b (option_map f x) (option_map f y)
map-cond f true x y = refl
map-cond f false x y = refl

-- a write, shown, is the write of what is shown
pub shown-write : {X Y : Type 0} (f : X → Y) (b : Bool) (m : Entries X) (t : List ℕ) (x : X) → entries_mapped f (entries_after_write b m t x) ≡ entries_after_write b (entries_mapped f m) t (f x)
shown-write f true m t x =
    same_map (entries_mapped f (finite.insert m t x)) (finite.insert (entries_mapped f m) t (f x)) (λ q. get-shown f (finite.insert m t x) q ∙ ap (option_map f) (finite.get-insert tuple_cmp-total m t x q) ∙ map-cond f (eq_by_cmp tuple_cmp q t) (Some x) (finite.get m q) ∙ ap (cond (eq_by_cmp tuple_cmp q t) (Some (f x))) (sym (get-shown f m q)) ∙ sym (finite.get-insert tuple_cmp-total (entries_mapped f m) t (f x) q))
shown-write f false m t x =
    same_map (entries_mapped f (finite.remove m t)) (finite.remove (entries_mapped f m) t) (λ q. get-shown f (finite.remove m t) q ∙ ap (option_map f) (finite.get-remove tuple_cmp-total m t q) ∙ map-cond f (eq_by_cmp tuple_cmp q t) None (finite.get m q) ∙ ap (cond (eq_by_cmp tuple_cmp q t) None) (sym (get-shown f m q)) ∙ sym (finite.get-remove tuple_cmp-total (entries_mapped f m) t q))

-- ---- order

both_parts : (a b : Bool) → T (a && b) → T a × T b
both_parts true b h = (tt, h)
both_parts false b h = absurd h

less_from : (o : Ordering) → T (is_lt o) → o ≡ Less
less_from Less h = refl
less_from Equal h = absurd h
less_from Greater h = absurd h

before_all : {X : Type 0} (x : List ℕ) (es : List (List ℕ × X)) → T (below_all tuple_cmp x es) → AllByRecursion (λ y. tuple_cmp x y ≡ Less) (keys_of es)
before_all x [] h = tt
before_all x (e ∷ es) h =
    let parts = both_parts (is_lt (tuple_cmp x e.0)) (below_all tuple_cmp x es) h in
    (less_from (tuple_cmp x e.0) parts.0, before_all x es parts.1)

ordered_from : {X : Type 0} (es : List (List ℕ × X)) → T (is_sorted tuple_cmp es) → IsOrdered (keys_of es)
unfolding IsStrictlySortedBy
ordered_from [] h = tt
ordered_from (e ∷ es) h =
    let parts = both_parts (below_all tuple_cmp e.0 es) (is_sorted tuple_cmp es) h in
    (before_all e.0 es parts.0, ordered_from es parts.1)

-- the tuples of a map are in order
pub keys-ordered : {X : Type 0} (m : Entries X) → IsOrdered (finite.keys m)
keys-ordered m = ordered_from (finite.entries m) (finite.entries_sorted m)

keys-seen_as : {X Y : Type 0} (f : X → Y) (es : List (List ℕ × X)) → keys_of (map (seen_as f) es) ≡ keys_of es
keys-seen_as f [] = refl
keys-seen_as f (e ∷ es) = ap (λ ks. e.0 ∷ ks) (keys-seen_as f es)

-- a map shown has the tuples of the map
pub keys-shown : {X Y : Type 0} (f : X → Y) (m : Entries X) → finite.keys (entries_mapped f m) ≡ finite.keys m
keys-shown f m =
    let same = keys-seen_as f (finite.entries m) in
    keys-from_entries (map (seen_as f) (finite.entries m)) (subst IsOrdered (sym same) (keys-ordered m)) ∙ same

-- ---- symbols

-- what a symbol shows of its content
pub content-seen : {F : Type 0} (value : F → Number) (domain : List (Option ℕ)) (inside own : kept.Content F) (s : Symbol) → record { domain = domain; content = content_shown value inside } ≡ s → inside ≡ own → content_shown value own ≡ s.content
content-seen value domain inside own s view is = ap (content_shown value) (sym is) ∙ ap (λ (s : Symbol). s.content) view

pub kept-seen : {F : Type 0} (value : F → Number) (domain : List (Option ℕ)) (inside : kept.Content F) (s : Symbol) → record { domain = domain; content = content_shown value inside } ≡ s → IsNormalContent (length domain) (content_shown value inside) → IsNormalContent (length s.domain) s.content
kept-seen value domain inside s view kept = subst (λ (s : Symbol). IsNormalContent (length s.domain) s.content) view kept

-- ---- what is kept

some_same : {X : Type 0} (x y : X) → Some x ≡ Some y → x ≡ y
some_same x y e = ap (λ o. unwrap_or o x) e

none_some : {X : Type 0} (x : X) → None ≡ Some x → ⊥
none_some x e = absurd (cc)

tied : (q t : List ℕ) → eq_by_cmp tuple_cmp q t ≡ true → q ≡ t
tied q t e = tuple_cmp-Equal q t (equal_from (tuple_cmp q t) e)
  where
    equal_from : (o : Ordering) → is_eq o ≡ true → o ≡ Equal
    equal_from Less e = absurd cc
    equal_from Equal e = refl
    equal_from Greater e = absurd cc

-- what a write keeps
pub kept-after_write : {X : Type 0} (differs : X → Bool) (arity : ℕ) (m : Entries X) (t : List ℕ) (x : X) → length t ≡ arity → AreDifferent differs arity m → AreDifferent differs arity (entries_after_write (differs x) m t x)
kept-after_write {X} differs arity m t x fits kept q y found = by (differs x) refl found
  where
    put_in : (b : Bool) → eq_by_cmp tuple_cmp q t ≡ b → differs x ≡ true → cond b (Some x) (finite.get m q) ≡ Some y → (length q ≡ arity) × (differs y ≡ true)
    put_in true e some found = (ap length (tied q t e) ∙ fits, ap differs (sym (some_same x y found)) ∙ some)
    put_in false e some found = kept q y found

    taken_out : (b : Bool) → cond b None (finite.get m q) ≡ Some y → (length q ≡ arity) × (differs y ≡ true)
    taken_out true found = absurd (none_some y found)
    taken_out false found = kept q y found

    by : (b : Bool) → differs x ≡ b → finite.get (entries_after_write b m t x) q ≡ Some y → (length q ≡ arity) × (differs y ≡ true)
    by true some found = put_in (eq_by_cmp tuple_cmp q t) refl some (sym (finite.get-insert tuple_cmp-total m t x q) ∙ found)
    by false none found = taken_out (eq_by_cmp tuple_cmp q t) (sym (finite.get-remove tuple_cmp-total m t q) ∙ found)

pub kept-empty : {X : Type 0} (differs : X → Bool) (arity : ℕ) → AreDifferent differs arity finite.empty
kept-empty differs arity t x found = absurd (none_some x (sym (finite.get-empty tuple_cmp t) ∙ found))

-- what a declaration declares keeps nothing
pub kept-content_of : (arity : ℕ) (kind : DeclKind) → IsNormalContent arity (content_of kind)
kept-content_of arity Set = λ t member. absurd cc
kept-content_of arity Parameter = kept-empty is_given arity
kept-content_of arity Scalar = kept-empty is_given arity
kept-content_of arity Table = kept-empty is_given arity
kept-content_of arity Free = kept-empty (λ a. not (same_attributes a (absent_variable type.Free))) arity
kept-content_of arity Positive = kept-empty (λ a. not (same_attributes a (absent_variable type.Positive))) arity
kept-content_of arity Negative = kept-empty (λ a. not (same_attributes a (absent_variable type.Negative))) arity
kept-content_of arity Discrete = kept-empty (λ a. not (same_attributes a (absent_variable type.Discrete))) arity
kept-content_of arity Equation = kept-empty (λ a. not (same_attributes a unbounded)) arity

pub kept-with_value : (arity : ℕ) (content : Content) (t : List ℕ) (x : Extended) → length t ≡ arity → IsNormalContent arity content → IsNormalContent arity (with_value content t x)
kept-with_value arity undeclared t x fits kept = kept
kept-with_value arity (alias_of base) t x fits kept = kept
kept-with_value arity (set_of members) t x fits kept = kept
kept-with_value arity (parameter_of entries) t x fits kept = kept-after_write is_given arity entries t x fits kept
kept-with_value arity (variable_of type entries) t x fits kept = kept
kept-with_value arity (equation_of entries) t x fits kept = kept
kept-with_value arity (model_with model solver) t x fits kept = kept

pub kept-with_attributes : (arity : ℕ) (content : Content) (t : List ℕ) (a : Attributes) → length t ≡ arity → IsNormalContent arity content → IsNormalContent arity (with_attributes content t a)
kept-with_attributes arity undeclared t a fits kept = kept
kept-with_attributes arity (alias_of base) t a fits kept = kept
kept-with_attributes arity (set_of members) t a fits kept = kept
kept-with_attributes arity (parameter_of entries) t a fits kept = kept
kept-with_attributes arity (variable_of type entries) t a fits kept =
    kept-after_write (λ a. not (same_attributes a (absent_variable type))) arity entries t a fits kept
kept-with_attributes arity (equation_of entries) t a fits kept = kept-after_write (λ a. not (same_attributes a unbounded)) arity entries t a fits kept
kept-with_attributes arity (model_with model solver) t a fits kept = kept

kept-inserted : (arity : ℕ) (members : List (List ℕ)) (t : List ℕ) → length t ≡ arity → IsNormalContent arity (set_of members) → IsNormalContent arity (set_of (inserted members t))
kept-inserted arity members t fits kept q member = by (same_tuple t q) refl (sym (has-inserted members t q) ∙ member)
  where
    by : (b : Bool) → same_tuple t q ≡ b → (b || has members q) ≡ true → length q ≡ arity
    by true same _ = ap length (sym ((same_tuple-Decides t q).0 same)) ∙ fits
    by false other there = kept q there

kept-removed : (arity : ℕ) (members : List (List ℕ)) (t : List ℕ) → IsNormalContent arity (set_of members) → IsNormalContent arity (set_of (removed members t))
kept-removed arity members t kept q member = kept q (by (has members q) (not (same_tuple t q)) (sym (has-removed members t q) ∙ member))
  where
    by : (a b : Bool) → (a && b) ≡ true → a ≡ true
    by true b e = refl
    by false b e = e

pub kept-with_membership : (arity : ℕ) (content : Content) (t : List ℕ) (on : Bool) → length t ≡ arity → IsNormalContent arity content → IsNormalContent arity (with_membership content t on)
kept-with_membership arity undeclared t on fits kept = kept
kept-with_membership arity (alias_of base) t on fits kept = kept
kept-with_membership arity (set_of members) t true fits kept = kept-inserted arity members t fits kept
kept-with_membership arity (set_of members) t false fits kept = kept-removed arity members t kept
kept-with_membership arity (parameter_of entries) t on fits kept = kept
kept-with_membership arity (variable_of type entries) t on fits kept = kept
kept-with_membership arity (equation_of entries) t on fits kept = kept
kept-with_membership arity (model_with model solver) t on fits kept = kept

-- ---- changes of a symbol

pub fits_from : (fits : Bool) (t : List ℕ) (arity : ℕ) → fits ≡ true → fits ≡ (length t == arity) → length t ≡ arity
fits_from fits t arity e same = eqb-true (length t) arity (sym same ∙ e)

-- a symbol whose content was changed at a tuple that fits
pub after-change : (domain : List (Option ℕ)) (old new : Content) (s : Symbol) (t : List ℕ) (change : Content → Content) → record { domain = domain; content = old } ≡ s → length t ≡ length s.domain → new ≡ change old → record { domain = domain; content = new } ≡ if_fits s t (change s.content)
after-change domain old new s t change view fits e =
    let inside : (length t ≡ length domain) → record { domain = domain; content = new } ≡ if_fits (record { domain = domain; content = old }) t (change old) = λ fits. rw (eq-eqb (length t) (length domain) fits, e) refl in
    subst (λ (s : Symbol). length t ≡ length s.domain → record { domain = domain; content = new } ≡ if_fits s t (change s.content)) view inside fits

-- a parameter whose entries were written
pub value-written : {F : Type 0} (value : F → Number) (inside : kept.Content F) (entries written : Entries (Ext F)) (t : List ℕ) (x : Ext F) (b : Bool) → inside ≡ variant.Parameter entries → b ≡ is_given (extended value x) → written ≡ entries_after_write b entries t x → content_shown value (variant.Parameter written) ≡ with_value (content_shown value inside) t (extended value x)
value-written value inside entries written t x b is given e =
    rw (is, e, given) (ap parameter_of (shown-write (extended value) (is_given (extended value x)) entries t x))

-- a variable whose entries were written
pub variable-written : {F : Type 0} (value : F → Number) (inside : kept.Content F) (type : VariableType) (entries written : Entries (own.Attributes F)) (t : List ℕ) (a : own.Attributes F) (b : Bool) → inside ≡ variant.Variable type entries → b ≡ not (same_attributes (attributes_shown value a) (absent_variable type)) → written ≡ entries_after_write b entries t a → content_shown value (variant.Variable type written) ≡ with_attributes (content_shown value inside) t (attributes_shown value a)
variable-written value inside type entries written t a b is given e =
    rw (is, e, given) (ap (variable_of type) (shown-write (attributes_shown value) (not (same_attributes (attributes_shown value a) (absent_variable type))) entries t a))

-- an equation whose entries were written
pub equation-written : {F : Type 0} (value : F → Number) (inside : kept.Content F) (entries written : Entries (own.Attributes F)) (t : List ℕ) (a : own.Attributes F) (b : Bool) → inside ≡ variant.Equation entries → b ≡ not (same_attributes (attributes_shown value a) unbounded) → written ≡ entries_after_write b entries t a → content_shown value (variant.Equation written) ≡ with_attributes (content_shown value inside) t (attributes_shown value a)
equation-written value inside entries written t a b is given e =
    rw (is, e, given) (ap equation_of (shown-write (attributes_shown value) (not (same_attributes (attributes_shown value a) unbounded)) entries t a))

-- ---- what is given

same_number-refl : (x : Number) → same_number x x ≡ true
same_number-refl x = ap is_eq (tied_itself number_cmp_total x)

same_bound-refl : (x : Option Number) → same_bound x x ≡ true
same_bound-refl None = refl
same_bound-refl (Some x) = same_number-refl x

same_attributes-refl : (a : Attributes) → same_attributes a a ≡ true
same_attributes-refl a = rw (same_bound-refl a.lower, same_bound-refl a.upper, same_number-refl a.level, same_number-refl a.marginal) refl

pub has-keys_of_map : {X : Type 0} (m : Entries X) (t : List ℕ) → has (finite.keys m) t ≡ is_some (finite.get m t)
has-keys_of_map m t =
    has-keys (finite.entries m) t ∙ ap is_some (sym (find-lookup t (finite.entries m)) ∙ sym (finite.get-entries m t))

-- where an entry is kept just if it differs, a tuple has one just if what is read there differs
kept-there : {X : Type 0} (differs : X → Bool) (arity : ℕ) (m : Entries X) (absent : X) → differs absent ≡ false → AreDifferent differs arity m → (t : List ℕ) → has (finite.keys m) t ≡ differs (unwrap_or (finite.get m t) absent)
kept-there differs arity m absent none kept t = has-keys_of_map m t ∙ by (finite.get m t) refl
  where
    by : (o : Option _) → finite.get m t ≡ o → is_some o ≡ differs (unwrap_or o absent)
    by None e = sym none
    by (Some x) e = sym (kept t x e).1

kept-arity : {X : Type 0} (differs : X → Bool) (arity : ℕ) (m : Entries X) → AreDifferent differs arity m → (t : List ℕ) → has (finite.keys m) t ≡ true → length t ≡ arity
kept-arity differs arity m kept t there = by (finite.get m t) refl (sym (has-keys_of_map m t) ∙ there)
  where
    by : (o : Option _) → finite.get m t ≡ o → is_some o ≡ true → length t ≡ arity
    by None e none = absurd cc
    by (Some x) e _ = (kept t x e).0

pub no_difference : (a : Attributes) → not (same_attributes a a) ≡ false
no_difference a = ap not (same_attributes-refl a)

pub zero_is_none : is_given zero ≡ false
zero_is_none = ap not (same_number-refl (whole (pos 0)))

-- a tuple is given just where what is read there differs from what an absent entry reads as
pub given-differs : (arity : ℕ) (content : Content) → IsNormalContent arity content → (t : List ℕ) → has (given_in content) t ≡ differs_in content t
given-differs arity undeclared kept t = sym (no_difference unbounded)
given-differs arity (alias_of base) kept t = sym (no_difference unbounded)
given-differs arity (set_of members) kept t = refl
given-differs arity (parameter_of entries) kept t = kept-there is_given arity entries zero zero_is_none kept t
given-differs arity (variable_of type entries) kept t =
    kept-there (λ a. not (same_attributes a (absent_variable type))) arity entries (absent_variable type) (no_difference (absent_variable type)) kept t
given-differs arity (equation_of entries) kept t =
    kept-there (λ a. not (same_attributes a unbounded)) arity entries unbounded (no_difference unbounded) kept t
given-differs arity (model_with model solver) kept t = sym (no_difference unbounded)

pub given-arity : (arity : ℕ) (content : Content) → IsNormalContent arity content → (t : List ℕ) → has (given_in content) t ≡ true → length t ≡ arity
given-arity arity undeclared kept t there = absurd cc
given-arity arity (alias_of base) kept t there = absurd cc
given-arity arity (set_of members) kept t there = kept t there
given-arity arity (parameter_of entries) kept t there = kept-arity is_given arity entries kept t there
given-arity arity (variable_of type entries) kept t there = kept-arity (λ a. not (same_attributes a (absent_variable type))) arity entries kept t there
given-arity arity (equation_of entries) kept t there = kept-arity (λ a. not (same_attributes a unbounded)) arity entries kept t there
given-arity arity (model_with model solver) kept t there = absurd cc

-- ---- what fits

zero_fits : (limit : ℕ) → 127 ≤ limit → fits limit (whole (pos 0)) ≡ true
unfolding whole
zero_fits limit some = grind (arith, nat_tests)

module _ {F : Type 0} (value : F → Number) (limit : ℕ) (some : 127 ≤ limit) (within : (x : F) → fits limit (value x) ≡ true) where
  extended-fits : (x : Ext F) → value_fits limit (extended value x) ≡ true
  extended-fits (ext.Number x) = within x
  extended-fits ext.PlusInf = refl
  extended-fits ext.MinusInf = refl
  extended-fits ext.Na = refl

  bound-fits : (x : Option F) → bound_fits limit (option_map value x) ≡ true
  bound-fits None = refl
  bound-fits (Some x) = within x

  attributes-fit : (a : own.Attributes F) → attributes_fit limit (attributes_shown value a) ≡ true
  attributes-fit a = rw (bound-fits a.lower, bound-fits a.upper, within a.level, within a.marginal) refl

  -- what a type has where nothing is given
  absent-fits : (type : VariableType) → attributes_fit limit (absent_variable type) ≡ true
  absent-fits type.Free = rw (zero_fits limit some) refl
  absent-fits type.Positive = rw (zero_fits limit some) refl
  absent-fits type.Negative = rw (zero_fits limit some) refl
  absent-fits type.Discrete = rw (zero_fits limit some) refl

  value-at : (o : Option (Ext F)) → value_fits limit (unwrap_or (option_map (extended value) o) zero) ≡ true
  value-at None = zero_fits limit some
  value-at (Some x) = extended-fits x

  attributes-at : (o : Option (own.Attributes F)) (absent : Attributes) → attributes_fit limit absent ≡ true → attributes_fit limit (unwrap_or (option_map (attributes_shown value) o) absent) ≡ true
  attributes-at None absent fit = fit
  attributes-at (Some a) absent fit = attributes-fit a

  -- the numbers of what is shown of a content fit
  pub content-fits : (content : kept.Content F) (t : List ℕ) → fits_at limit (content_shown value content) t ≡ true
  content-fits variant.Undeclared t = refl
  content-fits (variant.Alias base) t = refl
  content-fits (variant.Set members) t = refl
  content-fits (variant.Parameter entries) t = ap (λ o. value_fits limit (unwrap_or o zero)) (get-shown (extended value) entries t) ∙ value-at (finite.get entries t)
  content-fits (variant.Variable kind entries) t =
      ap (λ o. attributes_fit limit (unwrap_or o (absent_variable kind))) (get-shown (attributes_shown value) entries t) ∙ attributes-at (finite.get entries t) (absent_variable kind) (absent-fits kind)
  content-fits (variant.Equation entries) t =
      ap (λ o. attributes_fit limit (unwrap_or o unbounded)) (get-shown (attributes_shown value) entries t) ∙ attributes-at (finite.get entries t) unbounded (absent-fits type.Free)
  content-fits (variant.Model model solver) t = refl

-- the same of a symbol that shows a content
pub fits-seen : {F : Type 0} (value : F → Number) (limit : ℕ) (domain : List (Option ℕ)) (inside : kept.Content F) (s : Symbol) → record { domain = domain; content = content_shown value inside } ≡ s → 127 ≤ limit → ((x : F) → fits limit (value x) ≡ true) → (t : List ℕ) → fits_at limit s.content t ≡ true
fits-seen value limit domain inside s view some within t = subst (λ (s : Symbol). fits_at limit s.content t ≡ true) view (content-fits value limit some within inside t)
