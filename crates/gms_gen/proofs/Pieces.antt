-- The text of the model, piece by piece as it is written.
use Rattle.std.proofs.Common.{◌≡◌, List, [], ◌∷◌, ◌++◌, ℕ, sym, ap, ◌∙◌, append_assoc}

-- the two lines of the sets, which are written at once
pub sets-written : (plants markets between : List ℕ) → plants ++ 47 ∷ 59 ∷ 10 ∷ (between ++ (markets ++ 47 ∷ 59 ∷ 10 ∷ [])) ≡ ((plants ++ 47 ∷ 59 ∷ []) ++ 10 ∷ []) ++ (((between ++ markets) ++ 47 ∷ 59 ∷ []) ++ 10 ∷ [])
sets-written plants markets between =
    let end : List ℕ = 47 ∷ 59 ∷ [] in
    let feed : List ℕ = 10 ∷ [] in
    let rest : List ℕ = ((between ++ markets) ++ end) ++ feed in
    ap (λ t. plants ++ 47 ∷ 59 ∷ 10 ∷ t) (sym (append_assoc (between ++ markets) end feed ∙ append_assoc between markets (end ++ feed)))
    ∙ sym (append_assoc (plants ++ end) feed rest ∙ append_assoc plants end (feed ++ rest))

-- a piece after others
pub following : (old new piece is : List ℕ) → new ≡ old ++ piece → old ≡ is → new ≡ is ++ piece
following old new piece is more was = more ∙ ap (λ t. t ++ piece) was

-- two lines, which are written at once
pub following-two : (old new one other is : List ℕ) → new ≡ old ++ (one ++ other) → old ≡ is → new ≡ (is ++ one) ++ other
following-two old new one other is more was = more ∙ ap (λ t. t ++ (one ++ other)) was ∙ sym (append_assoc is one other)
