-- What the entries of a map show at a key, and what a write leaves of them.
use Rattle.std.proofs.Common.{◌≡◌, ◌≢◌, suc, Bool, true, false, cond, if◌then◌else◌, pos, List, [], ◌∷◌, length, Option, Some, None, refl, sym, ap, ◌∙◌, subst}
use Rattle.std.specs.declared.cmp.Ordering.{Ordering}
use Rattle.std.specs.declared.cmp.Ordering.TheVariants.{Less, Equal, Greater}
use Rattle.std.specs.Ordering.{match_ordering}
use Rattle.std.specs.Cmp.{eq_by_cmp_equiv}
use Rattle.std.specs.List.{All}
use Rattle.std.specs.Map.{keys_of, values_of, lookup, remove_entry}
use Rattle.std.specs.BTreeMap.{is_at, insert_entry}
use Rattle.std.proofs.lemmas.List.Elements.{All-head, All-tail, All-cons, All-nil}
use Rattle.gq_number.specs.Number.{Number, whole}
use Rattle.lp_form.specs.declared.key.Key.{Key}
use Rattle.lp_form.specs.Keys.{key_cmp, same_key, AreOrdered}
use Rattle.lp_form.specs.Affine.{IsForm}
use Rattle.lp_form.specs.Forms.{number_at}
use Rattle.lp_form.proofs.KeyOrder.{key_cmp-total}

turned : (a b : Key) → same_key a b ≡ is_at (key_cmp b) a
turned a b = (eq_by_cmp_equiv key_cmp-total).symm a b

module _ {F : Type 0} (value : F → Number) where
  -- the number of what is found, which is 0 where nothing is
  abbrev pub number_of : Option F → Number
  number_of None = whole (pos 0)
  number_of (Some x) = value x

  -- what a map finds at a key is the number there
  pub looked_up : (es : List (Key × F)) (key : Key) → number_at value (keys_of es) (values_of es) key ≡ number_of (lookup (is_at (key_cmp key)) es)
  looked_up [] key = refl
  looked_up (e ∷ es) key =
      ap (λ b. cond b (value e.1) (number_at value (keys_of es) (values_of es) key)) (turned e.0 key) ∙ by (looked_up es key) (is_at (key_cmp key) e.0)
    where
      by : number_at value (keys_of es) (values_of es) key ≡ number_of (lookup (is_at (key_cmp key)) es) → (b : Bool) → cond b (value e.1) (number_at value (keys_of es) (values_of es) key) ≡ number_of (cond b (Some e.1) (lookup (is_at (key_cmp key)) es))
      by rest true = refl
      by rest false = rest

  -- a write leaves this number at its key, and at each other key the one there
  pub after-write : (es written : List (Key × F)) (k : Key) (w : Option F) (x : Number) → number_of w ≡ x → ((q : Key) → lookup (is_at (key_cmp q)) written ≡ cond (is_at (key_cmp k) q) w (lookup (is_at (key_cmp q)) es)) → (key : Key) → number_at value (keys_of written) (values_of written) key ≡ (if same_key k key then x else number_at value (keys_of es) (values_of es) key)
  after-write es written k w x is writes key =
      looked_up written key ∙ ap number_of (writes key) ∙ by (same_key k key)
    where
      by : (b : Bool) → number_of (cond b w (lookup (is_at (key_cmp key)) es)) ≡ cond b x (number_at value (keys_of es) (values_of es) key)
      by true = is
      by false = sym (looked_up es key)

  abbrev IsNotZero : F → Type 0
  IsNotZero x = value x ≢ whole (pos 0)

  inserted-not_zero : (es : List (Key × F)) (k : Key) (x : F) → IsNotZero x → All IsNotZero (values_of es) → All IsNotZero (values_of (insert_entry key_cmp es k x))
  inserted-not_zero [] k x some all = All-cons IsNotZero x [] some (All-nil IsNotZero)
  inserted-not_zero (e ∷ es) k x some all =
      by (inserted-not_zero es k x some (All-tail IsNotZero e.1 (values_of es) all)) (key_cmp k e.0)
    where
      by : All IsNotZero (values_of (insert_entry key_cmp es k x)) → (o : Ordering) → All IsNotZero (values_of (match_ordering o ((k, x) ∷ e ∷ es) ((e.0, x) ∷ es) (e ∷ insert_entry key_cmp es k x)))
      by rest Less = All-cons IsNotZero x (e.1 ∷ values_of es) some all
      by rest Equal = All-cons IsNotZero x (values_of es) some (All-tail IsNotZero e.1 (values_of es) all)
      by rest Greater = All-cons IsNotZero e.1 (values_of (insert_entry key_cmp es k x)) (All-head IsNotZero e.1 (values_of es) all) rest

  removed-not_zero : (test : Key → Bool) (es : List (Key × F)) → All IsNotZero (values_of es) → All IsNotZero (values_of (remove_entry test es))
  removed-not_zero test [] all = All-nil IsNotZero
  removed-not_zero test (e ∷ es) all =
      by (removed-not_zero test es (All-tail IsNotZero e.1 (values_of es) all)) (test e.0)
    where
      by : All IsNotZero (values_of (remove_entry test es)) → (b : Bool) → All IsNotZero (values_of (cond b es (e ∷ remove_entry test es)))
      by rest true = All-tail IsNotZero e.1 (values_of es) all
      by rest false = All-cons IsNotZero e.1 (values_of (remove_entry test es)) (All-head IsNotZero e.1 (values_of es) all) rest

  paired : (es : List (Key × F)) → length (values_of es) ≡ length (keys_of es)
  paired [] = refl
  paired (e ∷ es) = ap suc (paired es)

  -- entries in the order of their keys are a form after a write
  pub inserted-IsForm : (c : F) (es written : List (Key × F)) (k : Key) (x : F) → written ≡ insert_entry key_cmp es k x → AreOrdered (keys_of written) → value x ≢ whole (pos 0) → All (λ x. value x ≢ whole (pos 0)) (values_of es) → IsForm value (record { constant = c; keys = keys_of written; numbers = values_of written })
  inserted-IsForm c es written k x is ordered some all =
      record { ordered = ordered; paired = paired written; not_zero = subst (λ z. All IsNotZero (values_of z)) (sym is) (inserted-not_zero es k x some all) }

  pub removed-IsForm : (c : F) (es written : List (Key × F)) (test : Key → Bool) → written ≡ remove_entry test es → AreOrdered (keys_of written) → All (λ x. value x ≢ whole (pos 0)) (values_of es) → IsForm value (record { constant = c; keys = keys_of written; numbers = values_of written })
  removed-IsForm c es written test is ordered all =
      record { ordered = ordered; paired = paired written; not_zero = subst (λ z. All IsNotZero (values_of z)) (sym is) (removed-not_zero test es all) }
