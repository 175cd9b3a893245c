-- Tuples and entries that are read in sequence.
use Rattle.std.proofs.Common.{◌≡◌, ℕ, zero, suc, ◌+◌, ◌<◌, ◌≤◌, List, [], ◌∷◌, ◌++◌, length, take, drop, get_or, flat_map, sym, ap, ◌∙◌, arith, codes, decimal, append_assoc}
use Rattle.std.specs.List.{AllByRecursion}
use Rattle.std.proofs.lemmas.List.{take_more, take_all, drop_more, drop_all}

-- what holds of all holds of each
pub all_at : {X : Type 0} (P : X → Type 0) (xs : List X) (i : ℕ) (d : X) → i < length xs → AllByRecursion P xs → P (get_or xs i d)
all_at P [] i d within all = absurd (omega arith)
all_at P (x ∷ xs) zero d within all = all.0
all_at P (x ∷ xs) (suc i) d within all = all_at P xs i d (omega arith) all.1

-- the first `k` of some things were read from a text of their lines, followed by a rest
pub record HasRead {X : Type 0} (line : X → List ℕ) (all : List X) (rest now : List ℕ) (made : List X) (k : ℕ) : Type 0 where
  pub made_is : made ≡ take k all
  pub now_is : now ≡ flat_map line (drop k all) ++ rest

-- the next line of the text that remains to be read
pub next_line : {X : Type 0} (line : X → List ℕ) (all : List X) (rest now : List ℕ) (made : List X) (k : ℕ) (d : X) → k < length all → HasRead line all rest now made k → now ≡ line (get_or all k d) ++ (flat_map line (drop (k + 1) all) ++ rest)
next_line line all rest now made k d within so_far =
    so_far.now_is ∙ ap (λ xs. flat_map line xs ++ rest) (drop_more all k d within) ∙ append_assoc (line (get_or all k d)) (flat_map line (drop (k + 1) all)) rest

-- one more was read
pub one_more : {X : Type 0} (line : X → List ℕ) (all : List X) (rest now next : List ℕ) (made more : List X) (k : ℕ) (x d : X) → k < length all → HasRead line all rest now made k → x ≡ get_or all k d → more ≡ made ++ x ∷ [] → next ≡ flat_map line (drop (k + 1) all) ++ rest → HasRead line all rest next more (k + 1)
one_more line all rest now next made more k x d within so_far is put left =
    record { made_is = put ∙ ap (λ xs. xs ++ x ∷ []) so_far.made_is ∙ ap (λ y. take k all ++ y ∷ []) is ∙ sym (take_more all k d within); now_is = left }

-- all were read
pub all_read : {X : Type 0} (line : X → List ℕ) (all : List X) (rest now : List ℕ) (made : List X) (k : ℕ) → length all ≤ k → HasRead line all rest now made k → (made ≡ all) × (now ≡ rest)
all_read line all rest now made k past so_far =
    (so_far.made_is ∙ take_all k all past, so_far.now_is ∙ ap (λ xs. flat_map line xs ++ rest) (drop_all k all past))

-- a label, and the blank after it
abbrev pub label_text : ℕ → List ℕ
label_text label = decimal label ++ codes " "

pub label_line : (n : ℕ) (rest : List ℕ) → label_text n ++ rest ≡ decimal n ++ 32 ∷ rest
label_line n rest = append_assoc (decimal n) (codes " ") rest
