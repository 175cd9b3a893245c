use Rattle.std.proofs.Common.{◌≡◌, ◌∙◌, ap, sym, min, ℕ, ◌+◌, ◌<◌, ◌≤◌, ◌⊎◌, inl, inr, List, [], ◌∷◌, ◌++◌, length, take, drop, get_or, refl, append-nil, append_assoc, arith}
use Rattle.std.proofs.lemmas.List.{drop_more, drop_all}
use Rattle.std.proofs.lemmas.Bool.{cases_lt}
use Rattle.gms_eval.specs.Bindings.{Pairs, paired}
use Rattle.gms_eval.proofs.binding.Binding.control.Goals as goal

-- one more pair, after the pairs so far
one_more : (done : Pairs) (xs ys : List ℕ) (i : ℕ) → i < length xs → i < length ys → done ++ paired (drop i xs) (drop i ys) ≡ (done ++ (get_or xs i 0, get_or ys i 0) ∷ []) ++ paired (drop (i + 1) xs) (drop (i + 1) ys)
one_more done xs ys i l m =
    ap (λ zs. done ++ paired zs (drop i ys)) (drop_more xs i 0 l)
    ∙ ap (λ zs. done ++ paired (get_or xs i 0 ∷ drop (i + 1) xs) zs) (drop_more ys i 0 m)
    ∙ sym (append_assoc done ((get_or xs i 0, get_or ys i 0) ∷ []) (paired (drop (i + 1) xs) (drop (i + 1) ys)))

none_left : (xs ys : List ℕ) → ys ≡ [] → paired xs ys ≡ []
none_left [] ys e = refl
none_left (x ∷ xs) ys e = ap (paired (x ∷ xs)) e

-- no pair remains where one of the lists ends
ended : (done : Pairs) (xs ys : List ℕ) (i : ℕ) → (length xs ≤ i) ⊎ (length ys ≤ i) → done ++ paired (drop i xs) (drop i ys) ≡ done
ended done xs ys i (inl all) = ap (λ zs. done ++ paired zs (drop i ys)) (drop_all i xs all) ∙ append-nil done
ended done xs ys i (inr all) = ap (λ zs. done ++ zs) (none_left (drop i xs) (drop i ys) (drop_all i ys all)) ∙ append-nil done

either : (n m i : ℕ) → min n m ≤ i → (n ≤ i) ⊎ (m ≤ i)
either n m i past = elim (cases_lt i n) [ inl below ↦ inr (omega arith) | inr all ↦ inl all ]

pub loop-place-init : goal.loop-place-init
loop-place-init c =
    ap (λ pairs. pairs ++ paired c.args.sets.now c.args.labels.now) (ap (take c.args.outer) (sym c.self.view_is) ∙ sym c.truncate.ensures.items)

pub loop-place-preserved : goal.loop-place-preserved
loop-place-preserved c =
    c.loop-place.invariant
    ∙ one_more c.loop-place.self-inside.pairs.items c.args.sets.now c.args.labels.now c.loop-place.place (omega (arith, c.min-count.ensures)) (omega (arith, c.min-count.ensures))
    ∙ ap (λ pairs. pairs ++ paired (drop (c.loop-place.place + 1) c.args.sets.now) (drop (c.loop-place.place + 1) c.args.labels.now)) (sym c.in_ok-push.ensures.items)

pub returns : goal.returns
returns c =
    sym (c.loop-place.invariant ∙ ended c.loop-place.self-inside.pairs.items c.args.sets.now c.args.labels.now c.loop-place.place (either (length c.args.sets.now) (length c.args.labels.now) c.loop-place.place (omega (arith, c.min-count.ensures))))
