-- What a sequence of data gives at a tuple, where no tuple is given twice.
use Rattle.std.proofs.Common.{◌≡◌, ℕ, zero, suc, ◌+◌, Bool, true, false, ◌||◌, ◌==◌, List, [], ◌∷◌, ◌++◌, length, map, refl, sym, ap, ◌∙◌, subst, Option, Some, None, Result, Ok, Err, if◌then◌else◌, eq-eqb, arith}
use Rattle.std.specs.Prelude.{nat_lt, flat_map}
use Rattle.std.specs.List.{AllByRecursion}
use Rattle.std.proofs.lemmas.List.{map-append}
use Rattle.std.proofs.lemmas.List.Folds.{list_any-append}
use Rattle.gq_number.specs.Number.{Number}
use Rattle.gq_extended.specs.Extended as extended
use Rattle.gq_extended.specs.Meaning.{extended as meaning}
use Rattle.gq_extended.specs.declared.extended.Ext.{Ext}
use Rattle.gms_ast.specs.declared.declaration.Item.{Item}
use Rattle.gms_tuple.specs.Products.{tuple_product}
use Rattle.gms_tuple.specs.TupleOrder.{same_tuple}
use Rattle.gms_tuple.specs.TupleSet.{has, inserted}
use Rattle.gms_tuple.proofs.Members.{has-inserted}
use Rattle.gms_tuple.proofs.Ordered.{same_tuple-Decides}
use Rattle.gms_store.specs.State.{Entries, Content, set_of, parameter_of, Symbol, State, value_of, after_value, value_in, with_content, with_membership, with_value, if_fits, is_given, entries_after_write}
use Rattle.gms_store.specs.Declarations.{first_settings}
use Rattle.gms_store.proofs.Writes.{value_after, value_elsewhere}
use Rattle.gms_set.specs.declared.fault.SetError.{SetError}
use Rattle.gms_set.specs.declared.fault.SetError.TheVariants.{BadRange, Repeated, Outside, Full}
use Rattle.gms_set.specs.declared.fault.SetFault.{SetFault}
use Rattle.gms_set.specs.Expansion.{ExpandedData, error_of, has_outside, has_repeat, tuples_of, unless, with_items, expanded}
use Rattle.gms_set.specs.Expansion as expansion
use Rattle.gms_check.specs.DeclaredData.{datum_at}
use Rattle.gms_check.proofs.Soundness.{neither-first, neither-second}

-- ---- distinct tuples

has-joined : (xs ys : List (List ℕ)) (t : List ℕ) → has (xs ++ ys) t ≡ (has xs t || has ys t)
has-joined xs ys t = list_any-append (λ member. same_tuple member t) xs ys

repeat-following : (xs ys : List (List ℕ)) → has_repeat (xs ++ ys) ≡ false → has_repeat ys ≡ false
repeat-following [] ys e = e
repeat-following (x ∷ xs) ys e = repeat-following xs ys (neither-second (has (xs ++ ys) x) (has_repeat (xs ++ ys)) e)

-- what is among the first is not among the others
apart-following : (xs ys : List (List ℕ)) (t : List ℕ) → has_repeat (xs ++ ys) ≡ false → has xs t ≡ true → has ys t ≡ false
apart-following [] ys t e there = absurd cc
apart-following (x ∷ xs) ys t e there = by (same_tuple x t) refl (apart-following xs ys t (neither-second (has (xs ++ ys) x) (has_repeat (xs ++ ys)) e)) there
  where
    by : (b : Bool) → same_tuple x t ≡ b → (has xs t ≡ true → has ys t ≡ false) → (b || has xs t) ≡ true → has ys t ≡ false
    by true same later h =
        subst (λ t. has ys t ≡ false) ((same_tuple-Decides x t).0 same) (neither-second (has xs x) (has ys x) (sym (has-joined xs ys x) ∙ neither-first (has (xs ++ ys) x) (has_repeat (xs ++ ys)) e))
    by false same later h = later h

-- ---- data of tuples in sequence

module _ {F Y : Type 0} (takes : Option (Ext F) → Y → Y) where
  -- what is read at a tuple after data, where each datum changes what is read
  abbrev pub reads : Y → ExpandedData F → List ℕ → Y
  reads old [] t = old
  reads old (d ∷ ds) t = reads (if same_tuple d.0 t then takes d.1 old else old) ds t

  -- what one datum, or none, does
  abbrev pub taken : Y → Option (Option (Ext F)) → Y
  taken old None = old
  taken old (Some x) = takes x old

  reads-joined : (old : Y) (ds es : ExpandedData F) (t : List ℕ) → reads old (ds ++ es) t ≡ reads (reads old ds t) es t
  reads-joined old [] es t = refl
  reads-joined old (d ∷ ds) es t = reads-joined (if same_tuple d.0 t then takes d.1 old else old) ds es t

  -- where no tuple is this one nothing is done
  reads-none : (old : Y) (ds : ExpandedData F) (t : List ℕ) → has (tuples_of ds) t ≡ false → reads old ds t ≡ old
  reads-none old [] t none = refl
  reads-none old (d ∷ ds) t none =
      ap (λ (b : Bool). reads (if b then takes d.1 old else old) ds t) (neither-first (same_tuple d.0 t) (has (tuples_of ds) t) none) ∙ reads-none old ds t (neither-second (same_tuple d.0 t) (has (tuples_of ds) t) none)

  -- tuples of one value
  tuples-of_value : (x : Option (Ext F)) (ts : List (List ℕ)) → tuples_of (expansion.tuples_with_value x ts) ≡ ts
  tuples-of_value x [] = refl
  tuples-of_value x (t ∷ ts) = ap (λ us. t ∷ us) (tuples-of_value x ts)

  -- each of some distinct tuples is changed once
  reads-once : (old : Y) (x : Option (Ext F)) (ts : List (List ℕ)) (t : List ℕ) → has_repeat ts ≡ false → has ts t ≡ true → reads old (expansion.tuples_with_value x ts) t ≡ takes x old
  reads-once old x [] t once there = absurd cc
  reads-once old x (u ∷ ts) t once there = by (same_tuple u t) refl (reads-once old x ts t (neither-second (has ts u) (has_repeat ts) once)) there
    where
      by : (b : Bool) → same_tuple u t ≡ b → (has ts t ≡ true → reads old (expansion.tuples_with_value x ts) t ≡ takes x old) → (b || has ts t) ≡ true → reads (if b then takes x old else old) (expansion.tuples_with_value x ts) t ≡ takes x old
      by true same later h =
          reads-none (takes x old) (expansion.tuples_with_value x ts) t (ap (λ us. has us t) (tuples-of_value x ts) ∙ subst (λ t. has ts t ≡ false) ((same_tuple-Decides u t).0 same) (neither-first (has ts u) (has_repeat ts) once))
      by false same later h = later h

  tuples-joined : (ds : ExpandedData F) (x : Option (Ext F)) (ts : List (List ℕ)) → tuples_of (ds ++ expansion.tuples_with_value x ts) ≡ tuples_of ds ++ ts
  tuples-joined ds x ts =
      map-append (λ (pair : List ℕ × Option (Ext F)). pair.0) ds (expansion.tuples_with_value x ts) ∙ ap (λ us. tuples_of ds ++ us) (tuples-of_value x ts)

  module _ (old : Y) (t : List ℕ) where
    -- what is read after data, and after an item where they do not have the tuple
    abbrev after_data : Bool → ExpandedData F → Option (Option (Ext F)) → Y
    after_data there ds datum = if there then reads old ds t else taken old datum

    -- one item more
    item-more : (ds : ExpandedData F) (x : Option (Ext F)) (ts : List (List ℕ)) (datum : Option (Option (Ext F))) → has_repeat (tuples_of ds ++ ts) ≡ false → after_data (has (tuples_of (ds ++ expansion.tuples_with_value x ts)) t) (ds ++ expansion.tuples_with_value x ts) datum ≡ after_data (has (tuples_of ds) t) ds (if has ts t then Some x else datum)
    item-more ds x ts datum once =
        ap (λ b. after_data b (ds ++ expansion.tuples_with_value x ts) datum) (ap (λ us. has us t) (tuples-joined ds x ts) ∙ has-joined (tuples_of ds) ts t) ∙ by (has (tuples_of ds) t) (has ts t) refl refl
      where
        by : (a b : Bool) → has (tuples_of ds) t ≡ a → has ts t ≡ b → after_data (a || b) (ds ++ expansion.tuples_with_value x ts) datum ≡ after_data a ds (if b then Some x else datum)
        by true b there second =
            reads-joined old ds (expansion.tuples_with_value x ts) t ∙ reads-none (reads old ds t) (expansion.tuples_with_value x ts) t (ap (λ us. has us t) (tuples-of_value x ts) ∙ apart-following (tuples_of ds) ts t once there)
        by false true none there =
            reads-joined old ds (expansion.tuples_with_value x ts) t ∙ ap (λ y. reads y (expansion.tuples_with_value x ts) t) (reads-none old ds t none) ∙ reads-once old x ts t (repeat-following (tuples_of ds) ts once) there
        by false false none second = refl

-- ---- how long the tuples are

-- tuples of `k` labels
abbrev AreLong : ℕ → List (List ℕ) → Type 0
AreLong k [] = Unit {0}
AreLong k (t ∷ ts) = (length t ≡ k) × AreLong k ts

long-joined : (k : ℕ) (ts us : List (List ℕ)) → AreLong k ts → AreLong k us → AreLong k (ts ++ us)
long-joined k [] us a b = b
long-joined k (t ∷ ts) us a b = (a.0, long-joined k ts us a.1 b)

long-with : (label : ℕ) (part : List ℕ) (parts ts : List (List ℕ)) → AreLong (length parts) ts → AreLong (length (part ∷ parts)) (map (λ tuple. label ∷ tuple) ts)
long-with label part parts [] a = tt
long-with label part parts (t ∷ ts) a = (ap suc a.0, long-with label part parts ts a.1)

long-pieces : (part : List ℕ) (parts : List (List ℕ)) (labels : List ℕ) → AreLong (length parts) (tuple_product parts) → AreLong (length (part ∷ parts)) (flat_map (λ label. map (λ tuple. label ∷ tuple) (tuple_product parts)) labels)
long-pieces part parts [] a = tt
long-pieces part parts (label ∷ labels) a =
    long-joined (length (part ∷ parts)) (map (λ tuple. label ∷ tuple) (tuple_product parts)) (flat_map (λ label. map (λ tuple. label ∷ tuple) (tuple_product parts)) labels) (long-with label part parts (tuple_product parts) a) (long-pieces part parts labels a)

long-product : (parts : List (List ℕ)) → AreLong (length parts) (tuple_product parts)
long-product [] = (refl, tt)
long-product (part ∷ parts) = long-pieces part parts part (long-product parts)

-- ---- data that items give

module _ {F : Type 0} where
  ok-same : (ds es : ExpandedData F) → ◌≡◌ {A = Result (ExpandedData F) SetFault} (Ok ds) (Ok es) → ds ≡ es
  ok-same ds es e = ap by e
    where
      by : Result (ExpandedData F) SetFault → ExpandedData F
      by (Ok x) = x
      by (Err fault) = ds

  -- an item without an error repeats no tuple
  no-repeat : (state : State) (domain : List (Option ℕ)) (before : List (List ℕ)) (item : Item F) → error_of state domain before item ≡ None → has_repeat (before ++ tuple_product item.parts) ≡ false
  no-repeat state domain before item e =
      by (has_outside state domain item.parts) item.bad_range (nat_lt 1048576 (length before + length (tuple_product item.parts))) (has_repeat (before ++ tuple_product item.parts)) e
    where
      by : (a b c d : Bool) → (if a then Some Outside else if b then Some BadRange else if c then Some Full else if d then Some Repeated else None) ≡ None → d ≡ false
      by true b c d e = absurd cc
      by false true c d e = absurd cc
      by false false true d e = absurd cc
      by false false false true e = absurd cc
      by false false false false e = refl

  -- the first of some items without errors has none, and the others follow it
  first-item : (state : State) (domain : List (Option ℕ)) (ds given : ExpandedData F) (item : Item F) (items : List (Item F)) → with_items state domain ds (item ∷ items) ≡ Ok given → (error_of state domain (tuples_of ds) item ≡ None) × (with_items state domain (ds ++ expansion.tuples_with_value item.value (tuple_product item.parts)) items ≡ Ok given)
  first-item state domain ds given item items e = by (error_of state domain (tuples_of ds) item) refl e
    where
      by : (o : Option SetError) → error_of state domain (tuples_of ds) item ≡ o → unless o item.at (with_items state domain (ds ++ expansion.tuples_with_value item.value (tuple_product item.parts)) items) ≡ Ok given → (error_of state domain (tuples_of ds) item ≡ None) × (with_items state domain (ds ++ expansion.tuples_with_value item.value (tuple_product item.parts)) items ≡ Ok given)
      by None none rest = (none, rest)
      by (Some error) is rest = absurd cc

  module _ {Y : Type 0} (takes : Option (Ext F) → Y → Y) (old : Y) (t : List ℕ) (state : State) (domain : List (Option ℕ)) where
    items-read : (items : List (Item F)) (ds given : ExpandedData F) → with_items state domain ds items ≡ Ok given → reads takes old given t ≡ after_data takes old t (has (tuples_of ds) t) ds (datum_at items t)
    items-read [] ds given e = ap (λ es. reads takes old es t) (sym (ok-same ds given e)) ∙ by (has (tuples_of ds) t) refl
      where
        by : (b : Bool) → has (tuples_of ds) t ≡ b → reads takes old ds t ≡ (if b then reads takes old ds t else old)
        by true there = refl
        by false none = reads-none takes old ds t none
    items-read (item ∷ items) ds given e =
        let next = first-item state domain ds given item items e in
        items-read items (ds ++ expansion.tuples_with_value item.value (tuple_product item.parts)) given next.1
        ∙ item-more takes old t ds item.value (tuple_product item.parts) (datum_at items t) (no-repeat state domain (tuples_of ds) item next.0)

    -- what is read after the data of a name is what the item does that has the tuple
    pub expanded-read : (items : List (Item F)) (given : ExpandedData F) → expanded state domain items ≡ Ok given → reads takes old given t ≡ taken takes old (datum_at items t)
    expanded-read items given e = items-read items [] given e

  -- the same of data
  abbrev pub AreFit : ℕ → ExpandedData F → Type 0
  AreFit k [] = Unit {0}
  AreFit k (d ∷ ds) = (length d.0 ≡ k) × AreFit k ds

  fit-joined : (k : ℕ) (ds : ExpandedData F) (x : Option (Ext F)) (ts : List (List ℕ)) → AreFit k ds → AreLong k ts → AreFit k (ds ++ expansion.tuples_with_value x ts)
  fit-joined k [] x [] a b = tt
  fit-joined k [] x (t ∷ ts) a b = (b.0, fit-joined k [] x ts tt b.1)
  fit-joined k (d ∷ ds) x ts a b = (a.0, fit-joined k ds x ts a.1 b)

  items-fit : (state : State) (domain : List (Option ℕ)) (k : ℕ) (items : List (Item F)) (ds given : ExpandedData F) → AllByRecursion (λ (i : Item F). length i.parts ≡ k) items → AreFit k ds → with_items state domain ds items ≡ Ok given → AreFit k given
  items-fit state domain k [] ds given parts fit e = subst (AreFit k) (ok-same ds given e) fit
  items-fit state domain k (item ∷ items) ds given parts fit e =
      items-fit state domain k items (ds ++ expansion.tuples_with_value item.value (tuple_product item.parts)) given parts.1 (fit-joined k ds item.value (tuple_product item.parts) fit (subst (λ k. AreLong k (tuple_product item.parts)) parts.0 (long-product item.parts))) (first-item state domain ds given item items e).1

  pub expanded-fit : (state : State) (domain : List (Option ℕ)) (k : ℕ) (items : List (Item F)) (given : ExpandedData F) → AllByRecursion (λ (i : Item F). length i.parts ≡ k) items → expanded state domain items ≡ Ok given → AreFit k given
  expanded-fit state domain k items given parts e = items-fit state domain k items [] given parts tt e

-- ---- a symbol after data of its name

fitted : (s : Symbol) (t : List ℕ) (c : Content) → length t ≡ length s.domain → if_fits s t c ≡ with_content s c
fitted s t c fits = ap (λ (b : Bool). if b then with_content s c else s) (eq-eqb (length t) (length s.domain) fits)

module _ {F : Type 0} (value : F → Number) where
  -- the symbol after one datum
  abbrev pub with_datum_in : Symbol → List ℕ × Option (Ext F) → Symbol
  with_datum_in s (t, None) = if_fits s t (with_membership s.content t true)
  with_datum_in s (t, Some x) = if_fits s t (with_value s.content t (meaning value x))

  -- the symbol after data
  abbrev pub data_in : Symbol → ExpandedData F → Symbol
  data_in s [] = s
  data_in s (d ∷ ds) = data_in (with_datum_in s d) ds

  -- what a datum makes of a value, and of membership
  abbrev pub value_taken : Option (Ext F) → extended.Extended → extended.Extended
  value_taken None old = old
  value_taken (Some x) old = meaning value x

  abbrev pub member_taken : Option (Ext F) → Bool → Bool
  member_taken None old = true
  member_taken (Some x) old = old

  -- ---- parameters

  module _ (domain : List (Option ℕ)) where
    abbrev pub parameter_symbol : Entries extended.Extended → Symbol
    parameter_symbol entries = record { domain = domain; content = parameter_of entries }

    abbrev entries_with : Entries extended.Extended → List ℕ × Option (Ext F) → Entries extended.Extended
    entries_with entries (t, None) = entries
    entries_with entries (t, Some x) = entries_after_write (is_given (meaning value x)) entries t (meaning value x)

    abbrev pub entries_after : Entries extended.Extended → ExpandedData F → Entries extended.Extended
    entries_after entries [] = entries
    entries_after entries (d ∷ ds) = entries_after (entries_with entries d) ds

    datum-parameter : (entries : Entries extended.Extended) (d : List ℕ × Option (Ext F)) → length d.0 ≡ length domain → with_datum_in (parameter_symbol entries) d ≡ parameter_symbol (entries_with entries d)
    datum-parameter entries (t, None) fits = fitted (parameter_symbol entries) t (parameter_of entries) fits
    datum-parameter entries (t, Some x) fits =
        fitted (parameter_symbol entries) t (parameter_of (entries_after_write (is_given (meaning value x)) entries t (meaning value x))) fits

    pub data-parameter : (ds : ExpandedData F) (entries : Entries extended.Extended) → AreFit (length domain) ds → data_in (parameter_symbol entries) ds ≡ parameter_symbol (entries_after entries ds)
    data-parameter [] entries fit = refl
    data-parameter (d ∷ ds) entries fit =
        ap (λ s. data_in s ds) (datum-parameter entries d fit.0) ∙ data-parameter ds (entries_with entries d) fit.1

    -- a state of this one name
    abbrev alone : Symbol → State
    alone s = record { symbols = s ∷ []; settings = first_settings }

    -- what is read after one value was written
    written-read : (entries : Entries extended.Extended) (u : List ℕ) (y : extended.Extended) (t : List ℕ) → length u ≡ length domain → value_in (parameter_of (entries_after_write (is_given y) entries u y)) t ≡ (if same_tuple u t then y else value_in (parameter_of entries) t)
    written-read entries u y t fits = by (same_tuple u t) refl
      where
        put : (t : List ℕ) → value_of (after_value (alone (parameter_symbol entries)) zero u y) zero t ≡ value_in (parameter_of (entries_after_write (is_given y) entries u y)) t
        put t =
            ap (λ (s : Symbol). value_of (alone s) zero t) (fitted (parameter_symbol entries) u (parameter_of (entries_after_write (is_given y) entries u y)) fits)

        by : (b : Bool) → same_tuple u t ≡ b → value_in (parameter_of (entries_after_write (is_given y) entries u y)) t ≡ (if b then y else value_in (parameter_of entries) t)
        by true same =
            subst (λ t. value_in (parameter_of (entries_after_write (is_given y) entries u y)) t ≡ y) ((same_tuple-Decides u t).0 same) (sym (put u) ∙ value_after (alone (parameter_symbol entries)) zero u y entries (omega arith) refl fits)
        by false apart = sym (put t) ∙ value_elsewhere (alone (parameter_symbol entries)) zero u y zero t (λ _. apart)

    entries-read : (entries : Entries extended.Extended) (d : List ℕ × Option (Ext F)) (t : List ℕ) → length d.0 ≡ length domain → value_in (parameter_of (entries_with entries d)) t ≡ (if same_tuple d.0 t then value_taken d.1 (value_in (parameter_of entries) t) else value_in (parameter_of entries) t)
    entries-read entries (u, None) t fits = by (same_tuple u t)
      where
        by : (b : Bool) → value_in (parameter_of entries) t ≡ (if b then value_in (parameter_of entries) t else value_in (parameter_of entries) t)
        by true = refl
        by false = refl
    entries-read entries (u, Some x) t fits = written-read entries u (meaning value x) t fits

    pub parameter-read : (ds : ExpandedData F) (entries : Entries extended.Extended) (t : List ℕ) → AreFit (length domain) ds → value_in (parameter_of (entries_after entries ds)) t ≡ reads value_taken (value_in (parameter_of entries) t) ds t
    parameter-read [] entries t fit = refl
    parameter-read (d ∷ ds) entries t fit =
        parameter-read ds (entries_with entries d) t fit.1 ∙ ap (λ y. reads value_taken y ds t) (entries-read entries d t fit.0)

    -- ---- sets

    abbrev pub set_symbol : List (List ℕ) → Symbol
    set_symbol members = record { domain = domain; content = set_of members }

    abbrev members_with : List (List ℕ) → List ℕ × Option (Ext F) → List (List ℕ)
    members_with members (t, None) = inserted members t
    members_with members (t, Some x) = members

    abbrev pub members_after : List (List ℕ) → ExpandedData F → List (List ℕ)
    members_after members [] = members
    members_after members (d ∷ ds) = members_after (members_with members d) ds

    datum-set : (members : List (List ℕ)) (d : List ℕ × Option (Ext F)) → length d.0 ≡ length domain → with_datum_in (set_symbol members) d ≡ set_symbol (members_with members d)
    datum-set members (t, None) fits = fitted (set_symbol members) t (set_of (inserted members t)) fits
    datum-set members (t, Some x) fits = fitted (set_symbol members) t (set_of members) fits

    pub data-set : (ds : ExpandedData F) (members : List (List ℕ)) → AreFit (length domain) ds → data_in (set_symbol members) ds ≡ set_symbol (members_after members ds)
    data-set [] members fit = refl
    data-set (d ∷ ds) members fit =
        ap (λ s. data_in s ds) (datum-set members d fit.0) ∙ data-set ds (members_with members d) fit.1

    members-read : (members : List (List ℕ)) (d : List ℕ × Option (Ext F)) (t : List ℕ) → has (members_with members d) t ≡ (if same_tuple d.0 t then member_taken d.1 (has members t) else has members t)
    members-read members (u, None) t = has-inserted members u t ∙ by (same_tuple u t)
      where
        by : (b : Bool) → (b || has members t) ≡ (if b then true else has members t)
        by true = refl
        by false = refl
    members-read members (u, Some x) t = by (same_tuple u t)
      where
        by : (b : Bool) → has members t ≡ (if b then has members t else has members t)
        by true = refl
        by false = refl

    pub set-read : (ds : ExpandedData F) (members : List (List ℕ)) (t : List ℕ) → has (members_after members ds) t ≡ reads member_taken (has members t) ds t
    set-read [] members t = refl
    set-read (d ∷ ds) members t =
        set-read ds (members_with members d) t ∙ ap (λ b. reads member_taken b ds t) (members-read members d t)

  -- ---- other names

  -- data leave a symbol whose content they leave
  pub data-quiet : (ds : ExpandedData F) (s : Symbol) → ((t : List ℕ) (on : Bool) → with_membership s.content t on ≡ s.content) → ((t : List ℕ) (y : extended.Extended) → with_value s.content t y ≡ s.content) → data_in s ds ≡ s
  data-quiet [] s members values = refl
  data-quiet ((t, None) ∷ ds) s members values =
      ap (λ s. data_in s ds) (ap (if_fits s t) (members t true) ∙ by (length t == length s.domain)) ∙ data-quiet ds s members values
    where
      by : (b : Bool) → (if b then with_content s s.content else s) ≡ s
      by true = refl
      by false = refl
  data-quiet ((t, Some x) ∷ ds) s members values =
      ap (λ s. data_in s ds) (ap (if_fits s t) (values t (meaning value x)) ∙ by (length t == length s.domain)) ∙ data-quiet ds s members values
    where
      by : (b : Bool) → (if b then with_content s s.content else s) ≡ s
      by true = refl
      by false = refl
