-- Lines, and the text after them.
use Rattle.std.proofs.Common.{◌≡◌, ℕ, List, [], ◌∷◌, ◌++◌, ap, codes, append_assoc}
use Rattle.gms_save_text.specs.SavedState.{saved_line}

-- the end of a line
pub line_end : (a rest : List ℕ) → saved_line a ++ rest ≡ a ++ 10 ∷ rest
line_end a rest = append_assoc a (10 ∷ []) rest

-- a line from a prefix on
pub line_prefix : (a y rest z : List ℕ) → saved_line y ++ rest ≡ z → saved_line (a ++ y) ++ rest ≡ a ++ z
line_prefix [] y rest z e = e
line_prefix (x ∷ a) y rest z e = ap (λ l. x ∷ l) (line_prefix a y rest z e)

-- an item of a line and the blank after it
pub line_item : (a y rest z : List ℕ) → saved_line y ++ rest ≡ z → saved_line (a ++ 32 ∷ y) ++ rest ≡ a ++ 32 ∷ z
line_item a y rest z e = line_prefix a (32 ∷ y) rest (32 ∷ z) (ap (λ l. 32 ∷ l) e)

-- the last item of a line, after another
pub line_last : (a b rest : List ℕ) → saved_line (a ++ 32 ∷ b) ++ rest ≡ a ++ 32 ∷ (b ++ 10 ∷ rest)
line_last a b rest = line_item a b rest (b ++ 10 ∷ rest) (line_end b rest)

-- four items of a line
pub four_items : (a b c d rest : List ℕ) → saved_line (a ++ (codes " " ++ (b ++ (codes " " ++ (c ++ (codes " " ++ d)))))) ++ rest ≡ a ++ 32 ∷ (b ++ 32 ∷ (c ++ 32 ∷ (d ++ 10 ∷ rest)))
four_items a b c d rest =
    line_item a (b ++ 32 ∷ (c ++ 32 ∷ d)) rest (b ++ 32 ∷ (c ++ 32 ∷ (d ++ 10 ∷ rest)))
    (line_item b (c ++ 32 ∷ d) rest (c ++ 32 ∷ (d ++ 10 ∷ rest)) (line_last c d rest))
