-- A text that is known keeps the table, and one that is new is appended, unless the table is full.
use Rattle.std.proofs.Common.{◌≡◌, ◌≤◌, ◌<◌, ◌∷◌, ◌++◌, ◌∙◌, [], List, ℕ, length, Option, None, Some, IsSome, Result, Ok, Err, IsErrAnd, OnOk, IfOk, OnErr, Fits, w64, is_some, if◌then◌else◌, refl, sym, ap, subst, arith}
use Rattle.gms_labels.specs.declared.fault.LabelFault.{LabelFault}
use Rattle.gms_labels.specs.declared.fault.LabelFault.TheVariants.{Full, Memory}
use Rattle.gms_labels.specs.Labels.{place_of, is_same, entered, AreLabels}
use Rattle.gms_labels.proofs.Places.{position-push_new, position-push_kept, is_same_refl}
use Rattle.gms_labels.proofs.labels.Labels.enter.Goals as goal

entered_known : (texts : List (List ℕ)) (text : List ℕ) (n : ℕ) → place_of texts text ≡ Some n → texts ≡ entered texts text
entered_known texts text n at = sym (ap (λ o. if is_some o then texts else texts ++ text ∷ []) at)

entered_new : (texts : List (List ℕ)) (text : List ℕ) → place_of texts text ≡ None → texts ++ text ∷ [] ≡ entered texts text
entered_new texts text none = sym (ap (λ o. if is_some o then texts else texts ++ text ∷ []) none)

not_known : (o : Option ℕ) → o ≡ None → IsSome o → ⊥
not_known o none some = cc

not_new : (o : Option ℕ) (n : ℕ) → o ≡ Some n → o ≡ None → ⊥
not_new o n at none = cc

is_ok : (r : Result ℕ LabelFault) (n : ℕ) → r ≡ Ok n → r ≡ Err Full → ⊥
is_ok r n ok full = cc

is_memory : (r : Result ℕ LabelFault) → r ≡ Err Memory → r ≡ Err Full → ⊥
is_memory r memory full = cc

-- what a failed `append` returns
passed_on : (r : Result ℕ LabelFault) (fault : LabelFault) → IsErrAnd r (λ e. e ≡ fault) → fault ≡ Memory → r ≡ Err Memory
passed_on (Ok n) fault is memory = absurd is
passed_on (Err e) fault is memory = cc

on_err : (r : Result ℕ LabelFault) (P : Type 0) → r ≡ Err Memory → P → OnErr r P
on_err r P is p = subst (λ r. OnErr r P) (sym is) p

fits_u32 : (n : ℕ) → n < 4294967296 → Fits w64 n
fits_u32 n fits = omega arith

below_most : (n m : ℕ) → n ≡ m → m ≤ 65536 → (n ≡ 65536 → ⊥) → m < 65536
below_most n m is few other = omega arith

pub returns-in-Some : goal.returns-in-Some
returns-in-Some c =
    let place : place_of c.args.self.now c.args.text.now ≡ Some c.in-Some.place = sym c.find.ensures.place ∙ c.in-Some.is in
    record {
      ok = entered_known c.args.self.now c.args.text.now c.in-Some.place place;
      place = place;
      known = λ _. refl;
      full = (
        λ same. absurd (is_ok (Ok c.in-Some.place) c.in-Some.place refl same),
        λ full. absurd (not_new (place_of c.args.self.now c.args.text.now) c.in-Some.place place full.0),
      );
      err = tt;
      keeps = λ _ _ at. at;
      labels = c.find.ensures.labels;
    }

pub overflow_cast-place : goal.overflow_cast-place
overflow_cast-place c = fits_u32 c.len-place.result c.len-place.type_inv

pub returns-then-place-eq-MOST_LABELS : goal.returns-then-place-eq-MOST_LABELS
returns-then-place-eq-MOST_LABELS c =
    let none : place_of c.args.self.now c.args.text.now ≡ None = sym c.in_default.ensures.place in
    record {
      ok = tt;
      place = tt;
      known = λ some. absurd (not_known (place_of c.args.self.now c.args.text.now) none some);
      full = (λ _. (none, sym c.len-place.ensures.len ∙ c.if-place-eq-MOST_LABELS.true), λ _. refl);
      err = refl;
      keeps = λ _ _ at. at;
      labels = c.len-place.ensures.labels;
    }

pub append-requires : goal.append-requires
append-requires c = record {
  short = c.requires;
  new = sym c.in_default.ensures.place;
  within_bound =
      below_most c.len-place.result (length c.args.self.now) c.len-place.ensures.len c.len-place.ensures.labels.few c.if-place-eq-MOST_LABELS.false;
}

pub returns-in_err-append : goal.returns-in_err-append
returns-in_err-append c =
    let result = c.from_residual.result in
    let is : result ≡ Err Memory = passed_on result c.in_err-append.field-0.0 c.from_residual.ensures.1 c.in_err-append.ensures.memory in
    record {
      ok = subst (λ r. OnOk r (c.append.new.self ≡ entered c.args.self.now c.args.text.now)) (sym is) tt;
      place = subst (λ r. IfOk r (λ n. place_of c.append.new.self c.args.text.now ≡ Some n)) (sym is) tt;
      known = λ some. absurd (not_known (place_of c.args.self.now c.args.text.now) (sym c.in_default.ensures.place) some);
      full = (λ same. absurd (is_memory result is same), λ full. absurd (c.if-place-eq-MOST_LABELS.false (c.len-place.ensures.len ∙ full.1)));
      err = on_err result (c.append.new.self ≡ c.args.self.now) is c.in_err-append.ensures.err;
      keeps = λ other n at. subst (λ texts. place_of texts other ≡ Some n) (sym c.in_err-append.ensures.err) at;
      labels = subst AreLabels (sym c.in_err-append.ensures.err) c.len-place.ensures.labels;
    }

pub returns : goal.returns
returns c =
    let none : place_of c.args.self.now c.args.text.now ≡ None = sym c.in_default.ensures.place in
    let last : place_of (c.args.self.now ++ c.args.text.now ∷ []) c.args.text.now ≡ Some (length c.args.self.now) =
    position-push_new (is_same c.args.text.now) c.args.self.now c.args.text.now none (is_same_refl c.args.text.now) in
    record {
      ok = c.in_ok-append.ensures.ok ∙ entered_new c.args.self.now c.args.text.now none;
      place = ap (λ texts. place_of texts c.args.text.now) c.in_ok-append.ensures.ok ∙ last ∙ ap Some (sym c.len-place.ensures.len);
      known = λ _. refl;
      full = (
        λ same. absurd (is_ok (Ok c.len-place.result) c.len-place.result refl same),
        λ full. absurd (c.if-place-eq-MOST_LABELS.false (c.len-place.ensures.len ∙ full.1)),
      );
      err = tt;
      keeps = λ other n at.
          subst (λ texts. place_of texts other ≡ Some n) (sym c.in_ok-append.ensures.ok)
          (position-push_kept (is_same other) c.args.self.now c.args.text.now n at);
      labels = c.in_ok-append.ensures.labels;
    }
