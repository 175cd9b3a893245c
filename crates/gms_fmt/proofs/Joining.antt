-- Texts with another between them, one text more.
use Rattle.std.proofs.Common.{◌≡◌, ℕ, ◌+◌, ◌<◌, ◌∙◌, sym, ap, refl, List, [], ◌∷◌, ◌++◌, length, map, take, get_or, zero, suc, arith}
use Rattle.std.proofs.lemmas.List.{append_assoc, map-append, take_more}
use Rattle.gms_fmt.specs.ElementTexts.{joined_by}

pub joined-push : (between x : List ℕ) (xs : List (List ℕ)) (y : List ℕ) → joined_by between (x ∷ (xs ++ y ∷ [])) ≡ joined_by between (x ∷ xs) ++ (between ++ y)
joined-push between x [] y = simp append_assoc
joined-push between x (z ∷ zs) y = ap (λ t. x ++ between ++ t) (joined-push between z zs y) ∙ simp append_assoc

-- the first of these texts alone
pub joined-first : (between : List ℕ) (f : ℕ → List ℕ) (t : List ℕ) (n : ℕ) → n ≡ 0 → n < length t →
    joined_by between (map f (take (n + 1) t)) ≡ joined_by between (map f (take n t)) ++ f (get_or t n 0)
joined-first between f [] n e h = absurd (omega (arith, h))
joined-first between f (x ∷ t) zero e h = refl
joined-first between f (x ∷ t) (suc n) e h = absurd (omega (arith, e))

further : (between y : List ℕ) (f : ℕ → List ℕ) (u v : List ℕ) (last x : ℕ) → y ≡ f x → u ≡ (x ∷ v) ++ last ∷ [] → joined_by between (map f u) ≡ joined_by between (y ∷ map f v) ++ (between ++ f last)
further between y f u v last x same e =
    ap (λ w. joined_by between (map f w)) e
    ∙ ap (λ w. joined_by between (f x ∷ w)) (map-append f v (last ∷ []))
    ∙ joined-push between (f x) (map f v) (f last)
    ∙ ap (λ w. joined_by between (w ∷ map f v) ++ (between ++ f last)) (sym same)

-- a further one, with the text between
pub joined-further : (between : List ℕ) (f : ℕ → List ℕ) (t : List ℕ) (n : ℕ) → 0 < n → n < length t →
    joined_by between (map f (take (n + 1) t)) ≡ joined_by between (map f (take n t)) ++ (between ++ f (get_or t n 0))
joined-further between f [] n e h = absurd (omega (arith, h))
joined-further between f (x ∷ t) zero e h = absurd (omega (arith, e))
joined-further between f (x ∷ t) (suc n) e h =
    further between (f x) f (take (suc n + 1) (x ∷ t)) (take n t) (get_or t n 0) x refl (take_more (x ∷ t) (suc n) 0 h)
