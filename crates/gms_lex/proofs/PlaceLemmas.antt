-- Places of a source come in the order of its bytes.
use Rattle.std.proofs.Common.{◌≡◌, inl, inr, ℕ, ◌+◌, ◌-◌, ◌==◌, ◌<◌, ◌≤◌, Bool, true, false, if◌then◌else◌, List, [], ◌∷◌, length, take, drop, fold, refl, sym, ap, ◌∙◌, subst, arith}
use Rattle.std.proofs.lemmas.List.Sums.{fold-append}
use Rattle.std.proofs.Math.Seq.{take-add}
use Rattle.std.proofs.lemmas.List.{length-drop, length-take-le}
use Rattle.gms_labels.specs.declared.place.Place.{Place}
use Rattle.gms_grammar.specs.Columns.{column_after}
use Rattle.gms_grammar.proofs.ColumnLemmas.{column_after-bounds}
use Rattle.gms_lex.specs.Places.{IsEarlier, place_after, place_after_bytes, place_of_byte, source_start}

-- the place of a byte further on
pub place_of-add : (source : List ℕ) (n k : ℕ) → place_after_bytes (place_of_byte source n) (take k (drop n source)) ≡ place_of_byte source (n + k)
place_of-add source n k = sym (fold-append place_after source_start (take n source) (take k (drop n source))) ∙ ap (fold place_after source_start) (sym (take-add n k source))

after_by : (at : Place) (feed : Bool) (column : ℕ) → at.column < column → IsEarlier at (if feed then record { line = at.line + 1; column = 1 } else record { line = at.line; column = column })
after_by at true column further = inl (omega arith)
after_by at false column further = inr (refl, further)

earlier_after : (at : Place) (b : ℕ) → IsEarlier at (place_after at b)
earlier_after at b = after_by at (b == 10) (column_after at.column b) (column_after-bounds at.column b).0

earlier_trans : (p q r : Place) → IsEarlier p q → IsEarlier q r → IsEarlier p r
earlier_trans p q r (inl a) (inl b) = inl (omega arith)
earlier_trans p q r (inl a) (inr b) = inl (omega (arith, b.0))
earlier_trans p q r (inr a) (inl b) = inl (omega (arith, a.0))
earlier_trans p q r (inr a) (inr b) = inr (omega (arith, a.0, b.0), omega (arith, a.1, b.1))

later_after : (at : Place) (bytes : List ℕ) → 0 < length bytes → IsEarlier at (place_after_bytes at bytes)
later_after at [] some = absurd (omega arith)
later_after at (b ∷ []) some = earlier_after at b
later_after at (b ∷ c ∷ bytes) some = earlier_trans at (place_after at b) _ (earlier_after at b) (later_after (place_after at b) (c ∷ bytes) (omega arith))

-- places come in the order of bytes
pub places_in_order : (source : List ℕ) (m n : ℕ) → m < n → n ≤ length source → IsEarlier (place_of_byte source m) (place_of_byte source n)
places_in_order source m n below within =
    let more : m + (n - m) ≡ n = omega arith in
    let left : n - m ≤ length (drop m source) = omega (arith, length-drop m source) in
    let some : 0 < length (take (n - m) (drop m source)) = omega (arith, length-take-le (n - m) (drop m source) left) in
    subst (IsEarlier (place_of_byte source m)) (place_of-add source m (n - m) ∙ ap (place_of_byte source) more) (later_after (place_of_byte source m) (take (n - m) (drop m source)) some)
