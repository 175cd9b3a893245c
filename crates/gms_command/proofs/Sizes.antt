-- The size that a text names, found by its place among the texts of the sizes.
use Rattle.std.proofs.Common.{◌≡◌, ◌∙◌, ◌+◌, ℕ, Bool, true, false, zero, suc, List, [], ◌∷◌, map, cond, Some, option_map, refl, sym, ap, arith, position}
use Rattle.std.specs.Prelude.{find, codes, decimal}
use Rattle.std.specs.Fmt.{digits}
use Rattle.std.specs.List.{position_from, range_with_len}
use Rattle.std.specs.Str.{bytes_eq}
use Rattle.std.proofs.lemmas.Iterator.Adapters.{position_from-zero}
use Rattle.gms_command.specs.CommandLine.{size_of}

-- from a number on, where the places are counted from the one before it
by_places : (text : List ℕ) (first place count : ℕ) → first ≡ place + 1
    → option_map (λ i. i + 1) (position_from (λ size. bytes_eq size text) place (map decimal (range_with_len first count))) ≡ find (λ size. bytes_eq (decimal size) text) (range_with_len first count)
by_places text first place zero e = refl
by_places text first place (suc count) e = by_test (bytes_eq (decimal first) text) (by_places text (first + 1) (place + 1) count (omega arith))
  where
    by_test : (b : Bool)
        → option_map (λ i. i + 1) (position_from (λ size. bytes_eq size text) (place + 1) (map decimal (range_with_len (first + 1) count))) ≡ find (λ size. bytes_eq (decimal size) text) (range_with_len (first + 1) count)
        → option_map (λ i. i + 1) (cond b (Some place) (position_from (λ size. bytes_eq size text) (place + 1) (map decimal (range_with_len (first + 1) count)))) ≡ cond b (Some first) (find (λ size. bytes_eq (decimal size) text) (range_with_len (first + 1) count))
    by_test true rest = ap (λ (n : ℕ). Some n) (sym e)
    by_test false rest = rest

-- the texts of the sizes
abbrev pub size_texts : List (List ℕ)
size_texts =
    codes "1" ∷ codes "2" ∷ codes "3" ∷ codes "4" ∷ codes "5" ∷ codes "6" ∷ codes "7" ∷ codes "8" ∷ codes "9" ∷ codes "10"
    ∷ codes "11" ∷ codes "12" ∷ codes "13" ∷ codes "14" ∷ codes "15" ∷ codes "16" ∷ codes "17" ∷ codes "18" ∷ codes "19" ∷ codes "20"
    ∷ codes "21" ∷ codes "22" ∷ codes "23" ∷ codes "24" ∷ codes "25" ∷ codes "26" ∷ codes "27" ∷ codes "28" ∷ codes "29" ∷ codes "30" ∷ []

decimals : map decimal (range_with_len 1 30) ≡ size_texts
unfolding digits
decimals = refl

pub size_by_place : (text : List ℕ) → option_map (λ i. i + 1) (position (λ size. bytes_eq size text) size_texts) ≡ size_of text
size_by_place text =
    ap (λ (xs : List (List ℕ)). option_map (λ i. i + 1) (position (λ size. bytes_eq size text) xs)) (sym decimals) ∙ ap (option_map (λ i. i + 1)) (position_from-zero (λ size. bytes_eq size text) (map decimal (range_with_len 1 30))) ∙ by_places text 1 0 30 refl
