-- The keys of columns: those of rows and of the objective, in order, without repetition.
use Rattle.std.proofs.Common.{◌≡◌, ℕ, ◌+◌, ◌<◌, Bool, true, false, ◌||◌, cond, List, [], ◌∷◌, ◌++◌, map, length, get_or, take, append-nil, is_some, refl, sym, ap, ◌∙◌, subst, arith}
use Rattle.std.specs.Prelude.{flat_map}
use Rattle.std.specs.List.{All, list_any, dedup, dedup_from}
use Rattle.std.specs.List.Sorted.{IsPermutation, IsSorted, IsStrictlySortedBy}
use Rattle.std.specs.Map.{keys_of}
use Rattle.std.specs.Ordering.{eq_by_cmp, is_eq}
use Rattle.std.specs.Cmp.{IsTotalOrder, alike_right}
use Rattle.std.specs.declared.cmp.Ordering.{Ordering}
use Rattle.std.specs.declared.cmp.Ordering.TheVariants.{Less, Equal, Greater}
use Rattle.std.specs.FinMap as finite
use Rattle.std.specs.FinMap.Entries.{put, is_some-find}
use Rattle.std.proofs.lemmas.Bool.{both_ways}
use Rattle.std.proofs.lemmas.List.{take_more}
use Rattle.std.proofs.lemmas.List.Concat.{flat_map-append}
use Rattle.std.proofs.lemmas.List.Elements.{All-head, All-tail}
use Rattle.std.proofs.lemmas.List.Kept.{IsStrictlySortedBy-dedup}
use Rattle.std.proofs.lemmas.List.Sorted.{list_any-IsPermutation}
use Rattle.gq_number.specs.Number.{Number}
use Rattle.lp_form.specs.declared.key.Key.{Key}
use Rattle.lp_form.specs.Keys.{key_cmp, same_key, AreOrdered}
use Rattle.lp_form.specs.Affine.{Affine, IsForm}
use Rattle.lp_form.proofs.KeyOrder.{key_cmp-total, key_cmp-Equal, key_cmp-flip, same_key_refl, same_key-is, first-before, rest-ordered, before-all}
use Rattle.gms_rows.specs.declared.form_row.FormRow.{FormRow as OwnRow}
use Rattle.gms_rows.specs.Forms.{keyed, form_in}
use Rattle.gms_rows.specs.ProgramLp.{ordered_keys}
use Rattle.gms_rows.specs.InnerContracts.{is_among, OrdersOnce, form_row_in}
use Rattle.gms_rows.proofs.KeyLists.{among-before, keys-ordered}

-- ---- a form shows its keys and numbers in order

-- an entry before all others stays first
put-first : {X : Type 0} (k : Key) (x : X) (es : List (Key × X)) → AreOrdered (k ∷ keys_of es) → put key_cmp k x es ≡ (k, x) ∷ es
unfolding IsStrictlySortedBy
put-first k x [] ordered = refl
put-first k x (e ∷ es) ordered = rw ordered.0.0 refl

no_length : {A : Type 0} (xs : List A) → length xs ≡ 0 → xs ≡ []
no_length [] e = refl
no_length (x ∷ xs) e = absurd (omega arith)

pub no_entries : {X : Type 0} → finite.entries (finite.empty {X = X} {R = key_cmp}) ≡ []
no_entries {X} = no_length (finite.entries (finite.empty {X = X} {R = key_cmp})) (sym (finite.len-entries (finite.empty {X = X} {R = key_cmp})) ∙ finite.len-empty key_cmp X)

-- a map made of entries in order has these entries
pub entries-from_entries : {X : Type 0} (es : List (Key × X)) → AreOrdered (keys_of es) → finite.entries (finite.from_entries {R = key_cmp} es) ≡ es
entries-from_entries [] ordered = no_entries
entries-from_entries (e ∷ es) ordered =
    finite.entries-insert key_cmp-total (finite.from_entries es) e.0 e.1
    ∙ ap (put key_cmp e.0 e.1) (entries-from_entries es (rest-ordered e.0 (keys_of es) ordered))
    ∙ put-first e.0 e.1 es ordered

module _ {F : Type 0} (v : F → Number) where
  keys-keyed : (keys : List Key) (numbers : List F) → length numbers ≡ length keys → keys_of (keyed v keys numbers) ≡ keys
  keys-keyed [] numbers paired = refl
  keys-keyed (k ∷ keys) [] paired = absurd (omega arith)
  keys-keyed (k ∷ keys) (x ∷ numbers) paired = ap (λ ks. k ∷ ks) (keys-keyed keys numbers (omega arith))

  pub entries-form : (form : Affine F) → IsForm v form → finite.entries (form_in v form).numbers ≡ keyed v form.keys form.numbers
  entries-form form is =
      entries-from_entries (keyed v form.keys form.numbers) (subst AreOrdered (sym (keys-keyed form.keys form.numbers is.paired)) is.ordered)

  pub keys-form : (form : Affine F) → IsForm v form → finite.keys (form_in v form).numbers ≡ form.keys
  keys-form form is = ap keys_of (entries-form form is) ∙ keys-keyed form.keys form.numbers is.paired

  -- the keys of rows are those of their forms
  pub keys-rows : (rows : List (OwnRow F)) → All (λ row. IsForm v row.form) rows → flat_map (λ row. finite.keys row.form.numbers) (map (form_row_in v) rows) ≡ flat_map (λ row. row.form.keys) rows
  keys-rows [] all = refl
  keys-rows (row ∷ rows) all =
      ap (λ keys. keys ++ flat_map (λ row. finite.keys row.form.numbers) (map (form_row_in v) rows)) (keys-form row.form (All-head (λ row. IsForm v row.form) row rows all))
      ∙ ap (λ keys. row.form.keys ++ keys) (keys-rows rows (All-tail (λ row. IsForm v row.form) row rows all))

-- ---- ordered keys are determined by their members

among-first : (k : Key) (keys : List Key) → is_among (k ∷ keys) k ≡ true
among-first k keys = ap (λ b. b || is_among keys k) (same_key_refl k)

pub same_keys : (ks ls : List Key) → AreOrdered ks → AreOrdered ls → ((q : Key) → is_among ks q ≡ is_among ls q) → ks ≡ ls
same_keys [] [] up over same = refl
same_keys [] (l ∷ ls) up over same = let e : false ≡ true = same l ∙ among-first l ls in absurd (cc)
same_keys (k ∷ ks) [] up over same = let e : true ≡ false = sym (among-first k ks) ∙ same k in absurd (cc)
same_keys (k ∷ ks) (l ∷ ls) up over same =
    by (key_cmp k l) refl (λ rest. same_keys ks ls (rest-ordered k ks up) (rest-ordered l ls over) rest)
  where
    apart : (a b : Key) (xs bs : List Key) → AreOrdered (b ∷ bs) → key_cmp a b ≡ Less → is_among (a ∷ xs) a ≡ is_among (b ∷ bs) a → ⊥
    apart a b xs bs ordered_keys less e =
        both_ways (is_among (b ∷ bs) a) (among-before a (b ∷ bs) (before-all a b bs less ordered_keys)) (sym e ∙ among-first a xs)

    following : k ≡ l → (q : Key) (b : Bool) → same_key q k ≡ b → is_among ks q ≡ is_among ls q
    following e q true is =
        let at : q ≡ k = same_key-is q k is in
        ap (is_among ks) at ∙ among-before k ks (first-before k ks up) ∙ sym (ap (is_among ls) (at ∙ e) ∙ among-before l ls (first-before l ls over))
    following e q false is =
        let left : is_among (k ∷ ks) q ≡ is_among ks q = ap (λ b. b || is_among ks q) is in
        let right : is_among (l ∷ ls) q ≡ is_among ls q = ap (λ b. b || is_among ls q) (ap (same_key q) (sym e) ∙ is) in
        sym left ∙ same q ∙ right

    by : (o : Ordering) → key_cmp k l ≡ o → (((q : Key) → is_among ks q ≡ is_among ls q) → ks ≡ ls) → k ∷ ks ≡ l ∷ ls
    by Less o rest = absurd (apart k l ks ls over o (same k))
    by Equal o rest =
        let e = key_cmp-Equal k l o in
        let others = rest (λ q. following e q (same_key q k) refl) in
        λ i. e i ∷ others i
    by Greater o rest = absurd (apart l k ls ks up (key_cmp-flip k l Greater o) (sym (same l)))

-- ---- keys in order, without repetition

keys_of-paired : (xs : List Key) → keys_of (map (λ key. (key, true)) xs) ≡ xs
keys_of-paired [] = refl
keys_of-paired (x ∷ xs) = ap (λ keys. x ∷ keys) (keys_of-paired xs)

pub among-ordered : (xs : List Key) (q : Key) → is_among (ordered_keys xs) q ≡ is_among xs q
among-ordered xs q =
    let es = map (λ key. (key, true)) xs in
    sym (finite.contains_key-keys (finite.from_entries {R = key_cmp} es) q)
    ∙ ap is_some (finite.get-from_entries key_cmp-total es q)
    ∙ is_some-find key_cmp q es
    ∙ ap (λ keys. is_among keys q) (keys_of-paired xs)

-- a strictly ascending list with the members of another is the ordered form of that list
pub ordered-is : (xs ks : List Key) → AreOrdered ks → ((q : Key) → is_among ks q ≡ is_among xs q) → ks ≡ ordered_keys xs
ordered-is xs ks up same =
    same_keys ks (ordered_keys xs) up (keys-ordered (finite.from_entries {R = key_cmp} (map (λ key. (key, true)) xs))) (λ q. same q ∙ sym (among-ordered xs q))

-- ---- sorted and without repetitions

module _ {X : Type 0} {R : X → X → Ordering} (o : IsTotalOrder R) {E : X → X → Bool} (ties : (x y : X) → E x y ≡ eq_by_cmp R x y) where
  once : (a b : Bool) → (a || (a || b)) ≡ (a || b)
  once true b = refl
  once false b = refl

  tied : (r : Ordering) → is_eq r ≡ true → r ≡ Equal
  tied Less e = absurd (cc)
  tied Equal e = refl
  tied Greater e = absurd (cc)

  any-dedup_from : (q k : X) (xs : List X) → list_any (eq_by_cmp R q) (dedup_from E k xs) ≡ (eq_by_cmp R q k || list_any (eq_by_cmp R q) xs)
  any-dedup_from q k [] = refl
  any-dedup_from q k (x ∷ xs) = by (any-dedup_from q k xs) (any-dedup_from q x xs) (E x k) refl
    where
      by : list_any (eq_by_cmp R q) (dedup_from E k xs) ≡ (eq_by_cmp R q k || list_any (eq_by_cmp R q) xs) → list_any (eq_by_cmp R q) (dedup_from E x xs) ≡ (eq_by_cmp R q x || list_any (eq_by_cmp R q) xs) → (b : Bool) → E x k ≡ b → list_any (eq_by_cmp R q) (cond b (dedup_from E k xs) (k ∷ dedup_from E x xs)) ≡ (eq_by_cmp R q k || (eq_by_cmp R q x || list_any (eq_by_cmp R q) xs))
      by first rest true e =
          let alike : R q x ≡ R q k = alike_right o x k q (tied (R x k) (sym (ties x k) ∙ e)) in
          first ∙ sym (once (eq_by_cmp R q k) (list_any (eq_by_cmp R q) xs)) ∙ ap (λ r. eq_by_cmp R q k || (is_eq r || list_any (eq_by_cmp R q) xs)) (sym alike)
      by first rest false e = ap (λ b. eq_by_cmp R q k || b) rest

  any-dedup : (q : X) (xs : List X) → list_any (eq_by_cmp R q) (dedup E xs) ≡ list_any (eq_by_cmp R q) xs
  any-dedup q [] = refl
  any-dedup q (x ∷ xs) = any-dedup_from q x xs

  -- what a sort and then `dedup` leave
  pub deduplicated : (xs ys : List X) → IsPermutation xs ys → IsSorted R ys → OrdersOnce R xs (dedup E ys)
  deduplicated xs ys moved sorted =
      record {
        ordered = IsStrictlySortedBy-dedup o ties ys sorted;
        same = λ q. any-dedup q ys ∙ sym (list_any-IsPermutation (eq_by_cmp R q) xs ys moved);
      }

-- ---- the keys of rows, one row more

pub keys-more : {F : Type 0} (rows : List (OwnRow F)) (i : ℕ) (row : OwnRow F) → i < length rows → row ≡ get_or rows i row → flat_map (λ row. row.form.keys) (take i rows) ++ row.form.keys ≡ flat_map (λ row. row.form.keys) (take (i + 1) rows)
keys-more rows i row here is =
    ap (λ keys. flat_map (λ row. row.form.keys) (take i rows) ++ keys) (sym (append-nil row.form.keys))
    ∙ sym (flat_map-append (λ row. row.form.keys) (take i rows) (row ∷ []))
    ∙ sym (ap (flat_map (λ row. row.form.keys)) (take_more rows i row here ∙ ap (λ r. take i rows ++ r ∷ []) (sym is)))
