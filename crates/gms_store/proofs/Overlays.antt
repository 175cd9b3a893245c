-- A state over which another is put, symbol by symbol.
use Rattle.std.proofs.Common.{◌≡◌, ℕ, zero, suc, ◌+◌, ◌<◌, ◌≤◌, List, [], ◌∷◌, length, take, set, get_or, refl, sym, ap, ◌∙◌, arith, add-one}
use Rattle.std.proofs.lemmas.List.{take_all, length-set, get_or_default, get_or_read, get_or-set_other, set_past}
use Rattle.gms_store.specs.State.{Symbol, no_symbol}
use Rattle.gms_store.specs.Overlays.{chosen, overlaid_symbols}

-- a symbol at its place
abbrev pub placed : List Symbol → ℕ → Symbol → List Symbol
placed symbols i other = set symbols i (chosen (get_or symbols i other) other)

overlaid-none : (xs : List Symbol) → overlaid_symbols xs [] ≡ xs
overlaid-none [] = refl
overlaid-none (x ∷ xs) = refl

more : (xs others : List Symbol) (i : ℕ) (o : Symbol) → i < length others → o ≡ get_or others i o → overlaid_symbols xs (take (suc i) others) ≡ placed (overlaid_symbols xs (take i others)) i o
more xs [] i o within is = absurd (omega arith)
more [] (p ∷ others) i o within is = refl
more (x ∷ xs) (p ∷ others) zero o within is = ap (λ (q : Symbol). chosen x q ∷ overlaid_symbols xs []) (sym is) ∙ ap (λ (ys : List Symbol). chosen x o ∷ ys) (overlaid-none xs)
more (x ∷ xs) (p ∷ others) (suc i) o within is = ap (λ (ys : List Symbol). chosen x p ∷ ys) (more xs others i o (omega arith) is)

-- Of some symbols those from a place on are as they were.
pub record IsRest (i : ℕ) (others now : List Symbol) : Type 0 where
  pub count : length now ≡ length others
  pub rest : (j : ℕ) (s : Symbol) → i ≤ j → get_or now j s ≡ get_or others j s

-- at first all of them are; those after the first remain when another replaces it, and in any case
pub rest-first : (others : List Symbol) → IsRest 0 others others
rest-first others = record { count = refl; rest = λ j s from. refl }

pub rest-more : (others : List Symbol) (i : ℕ) (s : Symbol) (now next : List Symbol) → IsRest i others now → next ≡ set now i s → IsRest (i + 1) others next
rest-more others i s now next is put = record {
  count = ap length put ∙ length-set now i s ∙ is.count;
  rest = λ j t from. ap (λ ys. get_or ys j t) put ∙ get_or-set_other now i j s t (λ same. omega arith) ∙ is.rest j t (omega arith);
}

pub rest-less : (others : List Symbol) (i : ℕ) (now : List Symbol) → IsRest i others now → IsRest (i + 1) others now
rest-less others i now is = record { count = is.count; rest = λ j t from. is.rest j t (omega arith) }

-- what is put at a place, by what was read there
pub chosen-at : (now others : List Symbol) (i : ℕ) (s o : Symbol) → i < length now → s ≡ get_or now i s → o ≡ get_or others i o → chosen (get_or now i s) (get_or others i o) ≡ chosen (get_or now i o) o
chosen-at now others i s o within is there =
    ap (λ (p : Symbol). chosen p (get_or others i o)) (sym is ∙ get_or_read now i s within is o) ∙ ap (λ (p : Symbol). chosen (get_or now i o) p) (sym there)

-- one symbol more
pub overlaid-more : (xs others : List Symbol) (i : ℕ) (o : Symbol) (now next : List Symbol) → i < length others → o ≡ get_or others i o → now ≡ overlaid_symbols xs (take i others) → next ≡ placed now i o → next ≡ overlaid_symbols xs (take (i + 1) others)
overlaid-more xs others i o now next within is so_far put =
    put ∙ ap (λ ys. placed ys i o) so_far ∙ sym (more xs others i o within is) ∙ ap (λ n. overlaid_symbols xs (take n others)) (sym (add-one i))

-- past the end nothing is put
pub overlaid-past : (xs others : List Symbol) (i : ℕ) (now next : List Symbol) → length now ≤ i → i < length others → now ≡ overlaid_symbols xs (take i others) → next ≡ now → next ≡ overlaid_symbols xs (take (i + 1) others)
overlaid-past xs others i now next past within so_far same =
    let o = get_or others i no_symbol in
    overlaid-more xs others i o now next within (get_or_default others i no_symbol o within) so_far (same ∙ sym (set_past now i (chosen (get_or now i o) o) past))

-- before the first, and after the last
pub overlaid-first : (xs others : List Symbol) → xs ≡ overlaid_symbols xs (take 0 others)
overlaid-first xs others = sym (overlaid-none xs)

pub overlaid-all : (xs others : List Symbol) (i : ℕ) (now : List Symbol) → length others ≤ i → now ≡ overlaid_symbols xs (take i others) → now ≡ overlaid_symbols xs others
overlaid-all xs others i now past so_far = so_far ∙ ap (overlaid_symbols xs) (take_all i others past)
