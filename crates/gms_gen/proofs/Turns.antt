-- One turn of a loop: one number drawn, one more line.
use Rattle.std.proofs.Common.{◌≡◌, ℕ, suc, ◌+◌, List, [], ◌∷◌, ◌++◌, sym, ap, ◌∙◌, append_assoc}
use Rattle.std.specs.Prelude.{decimal}
use Rattle.gms_gen.specs.Generator.{next_state, seed_after, drawn_by, drawn, texts_below, sum_below, datum}

-- the state after one more draw
pub state-more : (seed n k old new : ℕ) → old ≡ seed_after seed n → new ≡ next_state old → k ≡ suc n → new ≡ seed_after seed k
state-more seed n k old new was is more = is ∙ ap next_state was ∙ ap (seed_after seed) (sym more)

-- what it gave
pub drawn-more : (seed n k old new below value : ℕ) → old ≡ seed_after seed n → new ≡ next_state old → value ≡ drawn_by new below → k ≡ n → value ≡ drawn seed k below
drawn-more seed n k old new below value was is gives same =
    gives ∙ ap (λ s. drawn_by s below) (is ∙ ap next_state was) ∙ ap (λ i. drawn seed i below) (sym same)

-- a line after the lines so far
pub line-more : (before : List ℕ) (text : ℕ → List ℕ) (n k : ℕ) (line old new : List ℕ) → old ≡ before ++ texts_below n text → new ≡ old ++ line → line ≡ text n → k ≡ suc n → new ≡ before ++ texts_below k text
line-more before text n k line old new was is says more =
    is ∙ ap (λ t. t ++ line) was ∙ append_assoc before (texts_below n text) line
    ∙ ap (λ l. before ++ (texts_below n text ++ l)) says ∙ ap (λ i. before ++ texts_below i text) (sym more)

-- a number more in a sum
pub sum-more : (number : ℕ → ℕ) (n k old value : ℕ) → old ≡ sum_below n number → value ≡ number n → k ≡ suc n → old + value ≡ sum_below k number
sum-more number n k old value was is more = ap (λ s. s + value) was ∙ ap (λ v. sum_below n number + v) is ∙ ap (λ i. sum_below i number) (sym more)

-- a line of data, written at once
pub line-of : (element : List ℕ) (value written : ℕ) → written ≡ value → element ++ 32 ∷ (decimal written ++ 10 ∷ []) ≡ datum element value
line-of element value written same =
    ap (λ n. element ++ 32 ∷ (decimal n ++ 10 ∷ [])) same
    ∙ sym (append_assoc (element ++ 32 ∷ []) (decimal value) (10 ∷ []) ∙ append_assoc element (32 ∷ []) (decimal value ++ 10 ∷ []))

-- and one of two elements
pub line-of-two : (first second : List ℕ) (value written : ℕ) → written ≡ value → first ++ 46 ∷ (second ++ 32 ∷ (decimal written ++ 10 ∷ [])) ≡ datum ((first ++ 46 ∷ []) ++ second) value
line-of-two first second value written same =
    let rest : List ℕ = 32 ∷ (decimal written ++ 10 ∷ []) in
    sym (append_assoc (first ++ 46 ∷ []) second rest ∙ append_assoc first (46 ∷ []) (second ++ rest)) ∙ line-of ((first ++ 46 ∷ []) ++ second) value written same
