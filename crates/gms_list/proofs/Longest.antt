-- The length of the longest of the elements that are kept, element by element.
use Rattle.std.proofs.Common.{◌≡◌, ℕ, ◌+◌, ◌<◌, ◌≤◌, ◌∙◌, ap, sym, refl, Bool, true, false, List, [], ◌∷◌, map, filter, length, get_or, if◌then◌else◌}
use Rattle.std.specs.List.{fold}
use Rattle.gms_list.proofs.AppendedPieces.{placed, placed_at, placed_done}

fold_by : {Z K : Type 0} (h : ℕ → K → ℕ) (k : Z → K) (w : ℕ) (z : Z) (zs : List Z) (b : Bool) → fold h w (map k (if b then z ∷ zs else zs)) ≡ fold h (if b then h w (k z) else w) (map k zs)
fold_by h k w z zs true = refl
fold_by h k w z zs false = refl

pub longest_step : {X Y K : Type 0} (h : ℕ → K → ℕ) (k : ℕ × Y → K) (q : ℕ × Y → Bool) (v : X → Y) (xs : List X) (i : ℕ) (x : X) (w next all : ℕ) → i < length xs → x ≡ get_or xs i x →
    next ≡ (if q (i, v x) then h w (k (i, v x)) else w) → fold h w (map k (filter q (placed v i xs))) ≡ all → fold h next (map k (filter q (placed v (i + 1) xs))) ≡ all
longest_step h k q v xs i x w next all l e n a =
    ap (λ m. fold h m (map k (filter q (placed v (i + 1) xs)))) n
    ∙ sym (ap (λ ys. fold h w (map k (filter q ys))) (placed_at v xs i x l e) ∙ fold_by h k w (i, v x) (filter q (placed v (i + 1) xs)) (q (i, v x))) ∙ a

pub longest_done : {X Y K : Type 0} (h : ℕ → K → ℕ) (k : ℕ × Y → K) (q : ℕ × Y → Bool) (v : X → Y) (xs : List X) (i : ℕ) (w all : ℕ) → length xs ≤ i →
    fold h w (map k (filter q (placed v i xs))) ≡ all → w ≡ all
longest_done h k q v xs i w all l a = sym (ap (λ ys. fold h w (map k (filter q ys))) (placed_done v xs i l)) ∙ a
