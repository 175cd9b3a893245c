-- Places of keys among keys in order.
use Rattle.std.proofs.Common.{◌≡◌, ℕ, ◌+◌, ◌<◌, true, false, ◌||◌, cond, nat_lt, List, [], ◌∷◌, ◌++◌, length, get_or, take, length-take, min, Some, None, unwrap_or, Err, refl, sym, ap, ◌∙◌, subst, inl, inr, arith}
use Rattle.std.specs.List.{All, position_or_len}
use Rattle.std.specs.List.Sorted.{IsBinarySearchResult}
use Rattle.std.specs.declared.cmp.Ordering.TheVariants.{Less, Equal}
use Rattle.std.proofs.lemmas.Bool.{cases_lt, lt-ltb}
use Rattle.std.proofs.lemmas.List.{take_more}
use Rattle.std.proofs.lemmas.List.Elements.{All-head, All-tail}
use Rattle.std.proofs.lemmas.List.Sums.{position_or_len_is}
use Rattle.std.proofs.lemmas.Map.Keys.{Less-from_sorted}
use Rattle.lp_form.specs.declared.key.Key.{Key}
use Rattle.lp_form.specs.Keys.{key_cmp, same_key, AreOrdered}
use Rattle.lp_form.proofs.KeyOrder.{key_cmp-Equal, key_cmp-flip, same_key-Less, same_key-Greater, same_key_refl}
use Rattle.lp_form.proofs.Results.{indices_rise}
use Rattle.gms_rows.specs.ProgramLp.{place_of_key}
use Rattle.gms_rows.specs.InnerContracts.{is_among, placed_numbers}
use Rattle.gms_rows.proofs.KeyLists.{tied-turned}

-- the first place at which a key is
place-at : (keys : List Key) (key : Key) (i : ℕ) → position_or_len (same_key key) keys ≡ i → i < length keys → place_of_key keys key ≡ i
place-at keys key i first here =
    ap (λ n. unwrap_or (cond (nat_lt n (length keys)) (Some n) None) 0) first
    ∙ ap (λ b. unwrap_or (cond b (Some i) None) 0) (lt-ltb i (length keys) here)

-- the position of a key in an ordered list is its place
pub place-there : (keys : List Key) (key : Key) (i : ℕ) → AreOrdered keys → i < length keys → key_cmp (get_or keys i key) key ≡ Equal → i ≡ place_of_key keys key
place-there keys key i ordered here equal =
    let is : get_or keys i key ≡ key = key_cmp-Equal (get_or keys i key) key equal in
    let apart : (k : ℕ) → k < i → same_key key (get_or keys k key) ≡ false = λ k less. same_key-Greater key (get_or keys k key) (key_cmp-flip (get_or keys k key) key Less (subst (λ x. key_cmp (get_or keys k key) x ≡ Less) is (Less-from_sorted key_cmp keys k i key ordered less here))) in
    let there : same_key key (get_or keys i key) ≡ true = ap (same_key key) is ∙ same_key_refl key in
    sym (place-at keys key i (position_or_len_is (same_key key) keys i key (omega arith) apart (λ _. there)) here)

-- what a search did not find is not among the keys
pub not-found : (keys : List Key) (key : Key) (i : ℕ) → AreOrdered keys → IsBinarySearchResult (λ k. key_cmp k key) keys (Err i) → is_among keys key ≡ false
not-found keys key i ordered searched =
    let apart = searched (indices_rise keys key ordered) in
    among-none keys (λ k d h. elim (cases_lt k i) [
      | inl before ↦ same_key-Less (get_or keys k d) key (apart.0 k d (omega arith) before)
      | inr following ↦ same_key-Greater (get_or keys k d) key (apart.1 k d following h)
    ])
  where
    among-none : (keys : List Key) → All (λ k. same_key k key ≡ false) keys → is_among keys key ≡ false
    among-none [] all = refl
    among-none (k ∷ keys) all =
        ap (λ b. b || is_among keys key) (tied-turned k key ∙ All-head (λ k. same_key k key ≡ false) k keys all) ∙ among-none keys (All-tail (λ k. same_key k key ≡ false) k keys all)

-- ---- numbers with the places of their keys

module _ {F : Type 0} (columns : List Key) where
  placed-push : (keys : List Key) (numbers : List F) (key : Key) (x : F) → length numbers ≡ length keys → placed_numbers columns (keys ++ key ∷ []) (numbers ++ x ∷ []) ≡ placed_numbers columns keys numbers ++ (place_of_key columns key, x) ∷ []
  placed-push [] [] key x paired = refl
  placed-push [] (y ∷ numbers) key x paired = absurd (omega arith)
  placed-push (k ∷ keys) [] key x paired = absurd (omega arith)
  placed-push (k ∷ keys) (y ∷ numbers) key x paired =
      ap (λ those. (place_of_key columns k, y) ∷ those) (placed-push keys numbers key x (omega arith))

  -- one more number with its place
  pub placed-more : (keys : List Key) (numbers : List F) (i : ℕ) (key : Key) (x : F) → length numbers ≡ length keys → i < length keys → key ≡ get_or keys i key → x ≡ get_or numbers i x → placed_numbers columns (take (i + 1) keys) (take (i + 1) numbers) ≡ placed_numbers columns (take i keys) (take i numbers) ++ (place_of_key columns key, x) ∷ []
  placed-more keys numbers i key x paired here key-is x-is =
      ap (λ ks. placed_numbers columns ks (take (i + 1) numbers)) (take_more keys i key here ∙ ap (λ k. take i keys ++ k ∷ []) (sym key-is))
      ∙ ap (placed_numbers columns (take i keys ++ key ∷ [])) (take_more numbers i x (omega arith) ∙ ap (λ y. take i numbers ++ y ∷ []) (sym x-is))
      ∙ placed-push (take i keys) (take i numbers) key x (length-both keys numbers i paired)
    where
      length-both : (keys : List Key) (numbers : List F) (i : ℕ) → length numbers ≡ length keys → length (take i numbers) ≡ length (take i keys)
      length-both keys numbers i paired = simp length-take (ap (λ n. min i n) paired)
