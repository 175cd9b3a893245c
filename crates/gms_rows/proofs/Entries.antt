-- What a form has at a key, and what steps on forms give entry by entry.
use Rattle.std.proofs.Common.{◌≡◌, ◌≢◌, pos, Bool, true, false, not, ◌||◌, cond, if◌then◌else◌, List, [], ◌∷◌, map, length, Option, Some, None, unwrap_or, Result, Ok, Err, refl, sym, ap, ◌∙◌, arith}
use Rattle.std.specs.List.{All, find}
use Rattle.std.specs.Ordering.{eq_by_cmp, is_eq}
use Rattle.std.specs.declared.cmp.Ordering.{Ordering}
use Rattle.std.specs.declared.cmp.Ordering.TheVariants.{Less, Equal, Greater}
use Rattle.std.specs.FinMap as finite
use Rattle.std.proofs.lemmas.Cmp.{tied_itself}
use Rattle.std.proofs.lemmas.Bool.{both_ways, true_from_ne_false}
use Rattle.std.proofs.lemmas.List.Elements.{All-head, All-tail}
use Rattle.gq_number.specs.Number.{Number, whole}
use Rattle.gq_number.specs.Order.{number_cmp}
use Rattle.gq_number.proofs.Compares.{number_cmp_total, number_cmp_decides}
use Rattle.lp_form.specs.declared.key.Key.{Key}
use Rattle.lp_form.specs.declared.fault.FormFault.{FormFault}
use Rattle.lp_form.specs.declared.fault.FormFault.TheVariants as fault
use Rattle.lp_form.specs.Keys.{key_cmp, same_key, AreOrdered}
use Rattle.lp_form.specs.Affine.{Affine, IsForm}
use Rattle.lp_form.specs.Forms.{Step, Entrywise, number_at, coefficient, IsEntrywiseAnswer}
use Rattle.lp_form.proofs.KeyOrder.{key_cmp-total, key_cmp-Equal, same_key-is}
use Rattle.gms_rows.specs.Forms.{Form, keyed, form_in, number_of_key, is_not_zero, numbers_at, entrywise}
use Rattle.gms_rows.specs.InnerContracts.{Told, is_among}
use Rattle.gms_rows.proofs.KeyLists.{tied-turned, find-none, find-first}

-- ---- numbers that are not 0

pub not_zero-true : (x : Number) → x ≢ whole (pos 0) → is_not_zero x ≡ true
not_zero-true x some = by (number_cmp x (whole (pos 0))) refl
  where
    by : (o : Ordering) → number_cmp x (whole (pos 0)) ≡ o → not (is_eq o) ≡ true
    by Less e = refl
    by Equal e = absurd (some ((number_cmp_decides x (whole (pos 0))).1.0 e))
    by Greater e = refl

pub not_zero-zero : is_not_zero (whole (pos 0)) ≡ false
not_zero-zero = ap (λ o. not (is_eq o)) (tied_itself number_cmp_total (whole (pos 0)))

pub not_zero-false : (x : Number) → is_not_zero x ≡ false → x ≡ whole (pos 0)
not_zero-false x e = by (number_cmp x (whole (pos 0))) refl e
  where
    by : (o : Ordering) → number_cmp x (whole (pos 0)) ≡ o → not (is_eq o) ≡ false → x ≡ whole (pos 0)
    by Less o e = absurd (cc)
    by Equal o e = (number_cmp_decides x (whole (pos 0))).1.0 o
    by Greater o e = absurd (cc)

-- what a form keeps of a number: nothing of 0
abbrev pub unless_zero : Number → Option Number
unless_zero x = if is_not_zero x then Some x else None

unless-zero : unless_zero (whole (pos 0)) ≡ None
unless-zero = ap (λ b. if b then Some (whole (pos 0)) else None) not_zero-zero

unless-some : (x : Number) → x ≢ whole (pos 0) → unless_zero x ≡ Some x
unless-some x some = ap (λ b. if b then Some x else None) (not_zero-true x some)

pub unless-unwrapped : (x : Number) → unwrap_or (unless_zero x) (whole (pos 0)) ≡ x
unless-unwrapped x = by (is_not_zero x) refl
  where
    by : (b : Bool) → is_not_zero x ≡ b → unwrap_or (if b then Some x else None) (whole (pos 0)) ≡ x
    by true e = refl
    by false e = sym (not_zero-false x e)

-- ---- the numbers of a form

module _ {F : Type 0} (v : F → Number) where
  find-keyed : (keys : List Key) (numbers : List F) (q : Key) → length numbers ≡ length keys → All (λ x. v x ≢ whole (pos 0)) numbers → finite.find key_cmp q (keyed v keys numbers) ≡ unless_zero (number_at v keys numbers q)
  find-keyed [] numbers q paired some = sym unless-zero
  find-keyed (k ∷ keys) [] q paired some = absurd (omega arith)
  find-keyed (k ∷ keys) (x ∷ numbers) q paired some =
      ap (λ b. cond b (Some (v x)) (finite.find key_cmp q (keyed v keys numbers))) (tied-turned k q)
      ∙ by (find-keyed keys numbers q (omega arith) (All-tail (λ x. v x ≢ whole (pos 0)) x numbers some)) (same_key k q)
    where
      by : finite.find key_cmp q (keyed v keys numbers) ≡ unless_zero (number_at v keys numbers q) → (b : Bool) → cond b (Some (v x)) (finite.find key_cmp q (keyed v keys numbers)) ≡ unless_zero (cond b (v x) (number_at v keys numbers q))
      by rest true = sym (unless-some (v x) (All-head (λ x. v x ≢ whole (pos 0)) x numbers some))
      by rest false = rest

  -- a form shows its number at each key, where it is not 0
  pub get-form : (form : Affine F) (q : Key) → IsForm v form → finite.get (form_in v form).numbers q ≡ unless_zero (coefficient v form q)
  get-form form q is =
      finite.get-from_entries key_cmp-total (keyed v form.keys form.numbers) q ∙ find-keyed form.keys form.numbers q is.paired is.not_zero

  -- and its number at each key
  pub number-of_key : (form : Affine F) (q : Key) → IsForm v form → number_of_key (form_in v form) q ≡ coefficient v form q
  number-of_key form q is =
      ap (λ o. unwrap_or o (whole (pos 0))) (get-form form q is) ∙ unless-unwrapped (coefficient v form q)

-- ---- the numbers at keys

module _ (number : Key → Number) where
  find-mapped : (keys : List Key) (q : Key) → finite.find key_cmp q (map (λ key. (key, number key)) keys) ≡ (if is_among keys q then Some (number q) else None)
  find-mapped [] q = refl
  find-mapped (k ∷ keys) q = by (find-mapped keys q) (eq_by_cmp key_cmp q k) refl
    where
      by : finite.find key_cmp q (map (λ key. (key, number key)) keys) ≡ (if is_among keys q then Some (number q) else None) → (b : Bool) → eq_by_cmp key_cmp q k ≡ b → cond b (Some (number k)) (finite.find key_cmp q (map (λ key. (key, number key)) keys)) ≡ (if b || is_among keys q then Some (number q) else None)
      by rest true e = ap (λ key. Some (number key)) (sym (same_key-is q k e))
      by rest false e = rest

  pub get-numbers_at : (keys : List Key) (q : Key) → (is_among keys q ≡ false → number q ≡ whole (pos 0)) → finite.get (numbers_at number keys) q ≡ unless_zero (number q)
  get-numbers_at keys q outside =
      finite.get-retain_keys (finite.from_entries {R = key_cmp} (map (λ key. (key, number key)) keys)) (λ key. is_not_zero (number key)) q (λ x tied. ap (λ key. is_not_zero (number key)) (sym (key_cmp-Equal q x tied)))
      ∙ ap (λ o. cond (is_not_zero (number q)) o None) (finite.get-from_entries key_cmp-total (map (λ key. (key, number key)) keys) q ∙ find-mapped keys q)
      ∙ by (is_not_zero (number q)) refl (is_among keys q) refl
    where
      by : (b : Bool) → is_not_zero (number q) ≡ b → (among : Bool) → is_among keys q ≡ among → cond b (if among then Some (number q) else None) None ≡ (if b then Some (number q) else None)
      by true e true a = refl
      by true e false a = absurd (both_ways (is_not_zero (number q)) (ap is_not_zero (outside a) ∙ not_zero-zero) e)
      by false e among a = refl

-- ---- what steps give

entrywise-fits : (constant : Step) (at : Key → Step) (keys : List Key) → constant.fits ≡ true → ((key : Key) → (at key).fits ≡ true) → entrywise constant at keys ≡ Ok (record { constant = constant.number; numbers = numbers_at (λ key. (at key).number) keys })
entrywise-fits constant at keys c all = rw (c, find-none (λ key. (at key).fits) keys all) refl

entrywise-stops : (constant : Step) (at : Key → Step) (keys : List Key) (key : Key) → constant.fits ≡ true → find (λ key. not (at key).fits) keys ≡ Some key → entrywise constant at keys ≡ Err (Some key)
entrywise-stops constant at keys key c first = rw (c, first) refl

entrywise-none : (constant : Step) (at : Key → Step) (keys : List Key) → constant.fits ≡ false → entrywise constant at keys ≡ Err None
entrywise-none constant at keys c = rw c refl

module _ {F : Type 0} (v : F → Number) where
  made-form : (form : Affine F) (constant : Number) (number : Key → Number) (keys : List Key) → IsForm v form → v form.constant ≡ constant → ((key : Key) → coefficient v form key ≡ number key) → ((key : Key) → is_among keys key ≡ false → number key ≡ whole (pos 0)) → ◌≡◌ {A = Form} (record { constant = constant; numbers = numbers_at number keys }) (form_in v form)
  made-form form constant number keys is c same outside =
      let numbers : numbers_at number keys ≡ (form_in v form).numbers = finite.same_map key_cmp-total key_cmp-Equal (numbers_at number keys) (form_in v form).numbers (λ q. get-numbers_at number keys q (outside q) ∙ ap unless_zero (sym (same q)) ∙ sym (get-form v form q is)) in
      λ i. record { constant = sym c i; numbers = numbers i }

  -- the answer of a call on forms is what its steps give, where outside these keys each step is
  -- that of 0
  pub told : (steps : Entrywise) (keys : List Key) (r : Result (Affine F) FormFault) → AreOrdered keys → ((key : Key) → is_among keys key ≡ false → ((steps.at key).number ≡ whole (pos 0)) × ((steps.at key).fits ≡ true)) → IsEntrywiseAnswer v steps r → Told v r (entrywise steps.constant steps.at keys)
  told steps keys (Ok form) ordered outside g =
      entrywise-fits steps.constant steps.at keys g.2 g.3
      ∙ ap Ok (made-form form steps.constant.number (λ key. (steps.at key).number) keys g.4 g.0 g.1 (λ key out. (outside key out).0))
  told steps keys (Err (fault.Limit None)) ordered outside g = entrywise-none steps.constant steps.at keys g
  told steps keys (Err (fault.Limit (Some key))) ordered outside g =
      let there : is_among keys key ≡ true = true_from_ne_false (is_among keys key) (λ out. both_ways (steps.at key).fits g.2 (outside key out).1) in
      entrywise-stops steps.constant steps.at keys key g.0 (find-first (λ key. (steps.at key).fits) key keys ordered there g.1 g.2)
  told steps keys (Err fault.Memory) ordered outside g = tt

-- forms with the same constant and the same number at each key show the same
pub shown-same : {F : Type 0} (v : F → Number) (a b : Affine F) → IsForm v a → IsForm v b → v a.constant ≡ v b.constant → ((key : Key) → coefficient v a key ≡ coefficient v b key) → form_in v a ≡ form_in v b
shown-same v a b form other constant same =
    let numbers : (form_in v a).numbers ≡ (form_in v b).numbers = finite.same_map key_cmp-total key_cmp-Equal (form_in v a).numbers (form_in v b).numbers (λ q. get-form v a q form ∙ ap unless_zero (same q) ∙ sym (get-form v b q other)) in
    λ i. record { constant = constant i; numbers = numbers i }
