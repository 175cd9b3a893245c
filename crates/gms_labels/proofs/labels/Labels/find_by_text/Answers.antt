use Rattle.std.proofs.Common.{◌≡◌, ◌+◌, ◌<◌, ◌↔◌, ◌⊎◌, inl, inr, ℕ, [], List, get_or, slice_get, Some, Bool, IsTrue, true, false, refl, sym, arith}
use Rattle.std.proofs.lemmas.Bool.{cases_lt}
use Rattle.std.proofs.lemmas.Option.{get_or_from_slice_get}
use Rattle.std.proofs.lemmas.Slice.Eq.{bytes_eq-Decides}
use Rattle.gms_labels.specs.Labels.{lower_case, is_same}
use Rattle.gms_labels.proofs.Places.{place_of-missed}
use Rattle.gms_labels.proofs.labels.Labels.find_by_text.Goals as goal

-- a comparison that fails tells another label
is_other : (text label : List ℕ) (result : Bool) → result ≡ false → (IsTrue result ↔ (lower_case text ≡ lower_case label)) → is_same text label ≡ false
is_other text label result fails test = by (is_same text label) refl
  where
    by : (b : Bool) → is_same text label ≡ b → b ≡ false
    by false _ = refl
    by true same =
        let passes : IsTrue result = test.1 ((bytes_eq-Decides (lower_case text) (lower_case label)).0 same) in
        absurd cc

-- one more label was compared
one_more : (texts : List (List ℕ)) (text label : List ℕ) (n : ℕ) → ((k : ℕ) → k < n → is_same text (get_or texts k []) ≡ false) → slice_get texts n ≡ Some label → is_same text label ≡ false → (k : ℕ) → (k < n) ⊎ (k ≡ n) → is_same text (get_or texts k []) ≡ false
one_more texts text label n before at other k (inl below) = before k below
one_more texts text label n before at other k (inr is) = rw (is, get_or_from_slice_get texts n label [] at) other

below_or_at : (n k : ℕ) → k < n + 1 → (k < n) ⊎ (k ≡ n)
below_or_at n k below = elim (cases_lt k n) [ inl before ↦ inl before | inr past ↦ inr (omega arith) ]

pub loop-place-init : goal.loop-place-init
loop-place-init c = λ k below. absurd (omega arith)

pub loop-place-preserved : goal.loop-place-preserved
loop-place-preserved c = λ k below.
    one_more c.args.self.now c.args.text.now c.text.result.now c.loop-place.place c.loop-place.invariant c.text.ensures.value (is_other c.args.text.now c.text.result.now c.eq_ignore_ascii_case.result c.if-eq_ignore_ascii_case.false c.eq_ignore_ascii_case.ensures.test) k (below_or_at c.loop-place.place k below)

pub returns : goal.returns
returns c =
    sym (place_of-missed c.args.self.now c.args.text.now (λ k below. c.loop-place.invariant k (omega (arith, below, c.loop-place-test.false, c.len-place-end.ensures.len))))
