-- The best of some values, and places that go round.
use Rattle.std.proofs.Common.{◌≡◌, ℕ, ◌+◌, ◌-◌, ◌*◌, ◌/◌, ◌%◌, ◌<◌, ◌≤◌, ℤ, pos, negsuc, ◌+ℤ◌, List, map, fold, drop, get_or, length, unsigned_abs, nat_abs, refl, sym, ap, ◌∙◌, arith, mod-eq_of_lt}
use Rattle.std.specs.Int.{int_rem_euclid}
use Rattle.std.proofs.lemmas.List.{at_drop_more, at_drop_all}
use Rattle.std.proofs.lemmas.Nat.{div-add-mod', mod_below}
use Rattle.std.proofs.Math.Nat.{add-mul-mod_self_right, add-mod_left}
use Rattle.std.proofs.lemmas.Int.{int_rem_euclid_is, ints}

module _ {X Y : Type 0} (better : Y → Y → Y) (shown : X → Y) where
  -- the best of the remaining elements and of the best so far
  abbrev pub best_from : Y → List X → Y
  best_from best xs = fold better best (map shown xs)

  pub best-more : (best : Y) (xs : List X) (i : ℕ) (x : X) → i < length xs → x ≡ get_or xs i x → best_from best (drop i xs) ≡ best_from (better best (shown x)) (drop (i + 1) xs)
  best-more best xs i x l at =
      at_drop_more (best_from best) xs i x l ∙ ap (λ z. best_from (better best (shown z)) (drop (i + 1) xs)) (sym at)

  pub best-end : (best : Y) (xs : List X) (i : ℕ) → length xs ≤ i → best_from best (drop i xs) ≡ best
  best-end best xs i all = at_drop_all (best_from best) xs i all

-- ---- places that go round

-- a place plus a shift, where the sum is below the count
stays : (place shift count : ℕ) → shift < count - place → (place + shift) % count ≡ place + shift
stays place shift count before = mod-eq_of_lt (let l : place + shift < count = omega arith in l)

-- and where it does
passes : (place shift count : ℕ) → place < count → shift < count → count - place ≤ shift → (place + shift) % count ≡ shift - (count - place)
passes place shift count p s past =
    let following : ℕ = shift - (count - place) in
    let e : place + shift ≡ count + following = omega arith in
    ap (λ n. n % count) e ∙ add-mod_left count following ∙ mod-eq_of_lt (let l : following < count = omega arith in l)

-- a place moved by an integer is the place moved by the integer's remainder
turned : (place count : ℕ) (amount : ℤ) (shift : ℕ) → place < count → int_rem_euclid amount (pos count) ≡ pos shift → int_rem_euclid (pos place +ℤ amount) (pos count) ≡ pos ((place + shift) % count)
turned place count (pos a) shift p e =
    let left : a % count ≡ shift = ap unsigned_abs e in
    ap (λ n. pos (n % count)) (let f : place + a ≡ (place + shift) + a / count * count = omega (arith, div-add-mod' a count, left) in f)
    ∙ ap pos (add-mul-mod_self_right (place + shift) (a / count) count)
turned place count (negsuc a) shift p e =
    let left : count - 1 - a % count ≡ shift = ap unsigned_abs e in
    int_rem_euclid_is (pos place +ℤ negsuc a) (pos count) count (a / count + 1) (place + shift) (omega arith) refl (omega (arith, ints, div-add-mod' a count, left, mod_below a count (omega arith)))

pub around-before : (place count : ℕ) (amount : ℤ) (shift : ℕ) → place < count → int_rem_euclid amount (pos count) ≡ pos shift → shift < count - place → pos (place + shift) ≡ int_rem_euclid (pos place +ℤ amount) (pos count)
around-before place count amount shift p e before =
    sym (turned place count amount shift p e ∙ ap pos (stays place shift count before))

pub around-past : (place count : ℕ) (amount : ℤ) (shift : ℕ) → place < count → shift < count → int_rem_euclid amount (pos count) ≡ pos shift → count - place ≤ shift → pos (shift - (count - place)) ≡ int_rem_euclid (pos place +ℤ amount) (pos count)
around-past place count amount shift p s e past =
    sym (turned place count amount shift p e ∙ ap pos (passes place shift count p s past))

-- the remainder of an integer, read from the code's signed numbers
pub shift-is : (count : ℕ) (amount r s : ℤ) → r ≡ int_rem_euclid amount (pos count) → s ≡ r → int_rem_euclid amount (pos count) ≡ pos (nat_abs s)
shift-is count (pos a) r s e f = sym (ap (λ z. pos (nat_abs z)) (f ∙ e))
shift-is count (negsuc a) r s e f = sym (ap (λ z. pos (nat_abs z)) (f ∙ e))

-- it is below the count
pub shift-below : (count : ℕ) (amount : ℤ) (s : ℕ) → 0 < count → int_rem_euclid amount (pos count) ≡ pos s → s < count
shift-below count (pos a) s some e =
    let left : a % count ≡ s = ap unsigned_abs e in omega (arith, mod_below a count some)
shift-below count (negsuc a) s some e =
    let left : count - 1 - a % count ≡ s = ap unsigned_abs e in omega arith
