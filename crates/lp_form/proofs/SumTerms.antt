-- Forms of one entry, and how they are added to a form that lacks their key.
use Rattle.std.proofs.Common.{◌≡◌, ℕ, ◌≤◌, Bool, true, false, cond, if◌then◌else◌, pos, List, [], ◌∷◌, map, Option, Some, None, Err, refl, sym, ap, ◌∙◌, subst}
use Rattle.std.specs.declared.cmp.Ordering.TheVariants.{Less}
use Rattle.std.specs.List.{All}
use Rattle.std.specs.Map.{keys_of, values_of}
use Rattle.std.proofs.lemmas.Bool.{both_ways}
use Rattle.std.proofs.lemmas.List.Elements.{All-head, All-tail, All-cons, All-nil}
use Rattle.gq_number.specs.Number.{Number, whole, ◌+ℚ◌, ◌*ℚ◌}
use Rattle.gq_number.proofs.Field.{+ℚ-zero}
use Rattle.gq_number.proofs.Ring.{zero-+ℚ, zero-*ℚ, one-*ℚ}
use Rattle.gq_field.specs.Fits.{fits, sum_fits}
use Rattle.lp_form.specs.declared.key.Key.{Key}
use Rattle.lp_form.specs.declared.fault.FormFault.TheVariants as fault
use Rattle.lp_form.specs.Keys.{key_cmp, same_key, AreOrdered}
use Rattle.lp_form.specs.Affine.{Affine}
use Rattle.lp_form.specs.Forms.{number_at, coefficient, sum_form_step, product_form_step, of_two, by_number, IsEntrywiseAnswer}
use Rattle.lp_form.proofs.KeyOrder.{same_key-is, same_key-Less, first-before, rest-ordered}
use Rattle.lp_form.proofs.Zeros.{fits-zero, sum_fits-zero, zero-sum_fits}
use Rattle.lp_form.proofs.Merged.{number_at-fits}
use Rattle.lp_form.specs.Sums.{number_or}
use Rattle.lp_form.proofs.Updates.{or-zero, or-put}

module _ {F : Type 0} (value : F → Number) (column : Affine F) (key : Key) (keys : column.keys ≡ key ∷ []) (number : map value column.numbers ≡ whole (pos 1) ∷ []) where
  only : (k : Key) (xs : List F) → map value xs ≡ whole (pos 1) ∷ [] → number_at value (key ∷ []) xs k ≡ cond (same_key key k) (whole (pos 1)) (whole (pos 0))
  only k [] e = absurd (cc)
  only k (x ∷ xs) e =
      let one : value x ≡ whole (pos 1) = cc in
      ap (λ y. cond (same_key key k) y (whole (pos 0))) one

  times : (y : Number) (b : Bool) → cond b (whole (pos 1)) (whole (pos 0)) *ℚ y ≡ cond b y (whole (pos 0))
  times y true = one-*ℚ y
  times y false = zero-*ℚ y

  -- the number 1 at a key, times a number
  pub column-times : (y : Number) (k : Key) → coefficient value column k *ℚ y ≡ (if same_key key k then y else whole (pos 0))
  column-times y k =
      ap (λ n. n *ℚ y) (ap (λ ks. number_at value ks column.numbers k) keys ∙ only k column.numbers number) ∙ times y (same_key key k)

  either-fits : (limit : ℕ) (some : 1 ≤ limit) (y : Number) → fits limit y ≡ true → (b : Bool) → fits limit (cond b y (whole (pos 0))) ≡ true
  either-fits limit some y fits true = fits
  either-fits limit some y fits false = fits-zero limit some

  -- it fits
  pub column-no_fault : (limit : ℕ) (some : 1 ≤ limit) (y : Number) (at : Option Key) → fits limit y ≡ true → value column.constant ≡ whole (pos 0) → IsEntrywiseAnswer value (by_number (product_form_step limit) value column y) (Err (fault.Limit at)) → ⊥
  column-no_fault limit some y None fit none g =
      both_ways (fits limit (value column.constant *ℚ y)) g (ap (λ z. fits limit (z *ℚ y)) none ∙ ap (fits limit) (zero-*ℚ y) ∙ fits-zero limit some)
  column-no_fault limit some y (Some k) fit none g =
      both_ways (fits limit (coefficient value column k *ℚ y)) g.2 (ap (fits limit) (column-times y k) ∙ either-fits limit some y fit (same_key key k))

-- ---- a term that is added

module _ {F : Type 0} (value : F → Number) (form term : Affine F) (key : Key) (y : Number) (absent : coefficient value form key ≡ whole (pos 0)) (is : (k : Key) → coefficient value term k ≡ (if same_key key k then y else whole (pos 0))) where
  -- the sum has the term's number at its key, and at each other key the form's
  pub term-added : (k : Key) → coefficient value form k +ℚ coefficient value term k ≡ (if same_key key k then y else coefficient value form k)
  term-added k =
      ap (λ z. coefficient value form k +ℚ z) (is k)
      ∙ elim (same_key key k) as (λ b. same_key key k ≡ b → coefficient value form k +ℚ cond b y (whole (pos 0)) ≡ cond b y (coefficient value form k)) [
        | true ↦ λ same. ap (λ z. z +ℚ y) (ap (coefficient value form) (sym (same_key-is key k same)) ∙ absent) ∙ zero-+ℚ y
        | false ↦ λ _. +ℚ-zero (coefficient value form k)
      ] refl

  module _ (limit : ℕ) (within : (x : F) → fits limit (value x) ≡ true) (some : 1 ≤ limit) (fit : fits limit y ≡ true) where
    term-fits : (k : Key) → sum_fits limit (coefficient value form k) (coefficient value term k) ≡ true
    term-fits k =
        ap (sum_fits limit (coefficient value form k)) (is k)
        ∙ elim (same_key key k) as (λ b. same_key key k ≡ b → sum_fits limit (coefficient value form k) (cond b y (whole (pos 0))) ≡ true) [
          | true ↦ λ same. ap (λ z. sum_fits limit z y) (ap (coefficient value form) (sym (same_key-is key k same)) ∙ absent) ∙ zero-sum_fits limit y fit
          | false ↦ λ _. sum_fits-zero limit (coefficient value form k) (number_at-fits value limit within some form.keys form.numbers k)
        ] refl

    -- it fits
    pub term-no_fault : (at : Option Key) → value term.constant ≡ whole (pos 0) → IsEntrywiseAnswer value (of_two (sum_form_step limit) value form term) (Err (fault.Limit at)) → ⊥
    term-no_fault None none g =
        both_ways (sum_fits limit (value form.constant) (value term.constant)) g (ap (sum_fits limit (value form.constant)) none ∙ sum_fits-zero limit (value form.constant) (within form.constant))
    term-no_fault (Some k) none g =
        both_ways (sum_fits limit (coefficient value form k) (coefficient value term k)) g.2 (term-fits k)

-- ---- a form that is made term by term

still-absent : (k : Key) (y : Number) (before now : Key → Number) (ks : List Key) → All (λ q. key_cmp k q ≡ Less) ks → All (λ q. before q ≡ whole (pos 0)) ks → ((q : Key) → now q ≡ (if same_key k q then y else before q)) → All (λ q. now q ≡ whole (pos 0)) ks
still-absent k y before now [] after none is = All-nil (λ q. now q ≡ whole (pos 0))
still-absent k y before now (q ∷ ks) after none is =
    All-cons (λ q. now q ≡ whole (pos 0)) q ks (is q ∙ ap (λ b. cond b y (before q)) (same_key-Less k q (All-head (λ q. key_cmp k q ≡ Less) q ks after)) ∙ All-head (λ q. before q ≡ whole (pos 0)) q ks none) (still-absent k y before now ks (All-tail (λ q. key_cmp k q ≡ Less) q ks after) (All-tail (λ q. before q ≡ whole (pos 0)) q ks none) is)

all-absent : (now : Key → Number) (ks : List Key) → ((q : Key) → now q ≡ whole (pos 0)) → All (λ q. now q ≡ whole (pos 0)) ks
all-absent now [] none = All-nil (λ q. now q ≡ whole (pos 0))
all-absent now (q ∷ ks) none = All-cons (λ q. now q ≡ whole (pos 0)) q ks (none q) (all-absent now ks none)

module _ {F : Type 0} (value : F → Number) (goal : Key → Number) where
  -- the numbers so far and the remaining entries make the numbers of the goal; so far none of these
  -- keys has a number
  pub record Making (now : Key → Number) (es : List (Key × F)) : Type 0 where
    pub made : (key : Key) → number_or value (now key) (keys_of es) (values_of es) key ≡ goal key
    pub ordered : AreOrdered (keys_of es)
    pub absent : All (λ k. now k ≡ whole (pos 0)) (keys_of es)

  pub making-start : (now : Key → Number) (es all : List (Key × F)) → es ≡ all → ((key : Key) → now key ≡ whole (pos 0)) → AreOrdered (keys_of all) → ((key : Key) → number_at value (keys_of all) (values_of all) key ≡ goal key) → Making now es
  making-start now es all is none ordered shown =
      subst (Making now) (sym is) (record {
        made = λ key. ap (λ n. number_or value n (keys_of all) (values_of all) key) (none key) ∙ or-zero value (keys_of all) (values_of all) key ∙ shown key;
        ordered = ordered;
        absent = all-absent now (keys_of all) none;
      })

  pub making-absent : (now : Key → Number) (es rest : List (Key × F)) (k : Key) (x : F) → es ≡ (k, x) ∷ rest → Making now es → now k ≡ whole (pos 0)
  making-absent now es rest k x is making =
      All-head (λ k. now k ≡ whole (pos 0)) k (keys_of rest) (subst (Making now) is making).absent

  pub making-turn : (before now : Key → Number) (es rest : List (Key × F)) (k : Key) (x : F) → es ≡ (k, x) ∷ rest → ((q : Key) → now q ≡ (if same_key k q then value x else before q)) → Making before es → Making now rest
  making-turn before now es rest k x is put making =
      let making : Making before ((k, x) ∷ rest) = subst (Making before) is making in
      record {
        made = λ key. or-put value (before key) (now key) k x (keys_of rest) (values_of rest) key making.ordered (put key) ∙ making.made key;
        ordered = rest-ordered k (keys_of rest) making.ordered;
        absent = still-absent k (value x) before now (keys_of rest) (first-before k (keys_of rest) making.ordered) (All-tail (λ k. before k ≡ whole (pos 0)) k (keys_of rest) making.absent) put;
      }

  pub making-end : (now : Key → Number) (es : List (Key × F)) → es ≡ [] → Making now es → (key : Key) → now key ≡ goal key
  making-end now es is making key = (subst (Making now) is making).made key
