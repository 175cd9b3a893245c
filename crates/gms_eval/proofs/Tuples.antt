-- The tuple of indices, filled label by label.
use Rattle.std.proofs.Common.{◌≡◌, ℕ, ◌+◌, ◌<◌, ◌≤◌, suc, nat_le, nat_lt, Bool, true, false, List, [], ◌∷◌, ◌++◌, drop, map, get_or, length, Option, Some, None, option_map, Ok, Err, if◌then◌else◌, refl, sym, ap, ◌∙◌, append-nil, append_assoc, inl, inr, le-leb, lt-ltb, le-ltb, arith}
use Rattle.std.proofs.lemmas.List.{at_drop_more, at_drop_all, length_push}
use Rattle.std.proofs.lemmas.Bool.{cases_lt, lt-leb}
use Rattle.gms_eval.specs.Nodes.{in_order}
use Rattle.gms_eval.specs.Faults.{Answer, Fault, ◌and_then◌}
use Rattle.gms_eval.specs.References.{all_there, tuple_of}
use Rattle.gms_eval.specs.InnerContracts.{with_label}
use Rattle.gms_eval.proofs.Answering.{and_then_assoc}

-- a tuple filled by the labels that are left
abbrev pub filled : Option (List ℕ) → List (Option ℕ) → Option (List ℕ)
filled tuple [] = tuple
filled tuple (label ∷ labels) = filled (with_label tuple label) labels

filled-None : (labels : List (Option ℕ)) → filled None labels ≡ None
filled-None [] = refl
filled-None (label ∷ labels) = filled-None labels

-- a tuple with the labels of further indices, where they fit
abbrev followed : List ℕ → List (Option ℕ) → Option (List ℕ)
followed tuple labels =
    if nat_le (length tuple + length labels) 10 then option_map (λ rest. tuple ++ rest) (all_there labels) else None

nothing_if : (b : Bool) → ◌≡◌ {A = Option (List ℕ)} None (if b then None else None)
nothing_if true = refl
nothing_if false = refl

after_one : (tuple : List ℕ) (label : ℕ) (o : Option (List ℕ)) → option_map (λ rest. (tuple ++ label ∷ []) ++ rest) o ≡ option_map (λ rest. tuple ++ rest) (option_map (λ labels. label ∷ labels) o)
after_one tuple label None = refl
after_one tuple label (Some rest) = ap Some (append_assoc tuple (label ∷ []) rest)

when : (b : Bool) (x : Option (List ℕ)) → b ≡ true → (if b then x else None) ≡ x
when b x e = ap (λ c. if c then x else None) e

unless : (b : Bool) (x : Option (List ℕ)) → b ≡ false → (if b then x else None) ≡ None
unless b x e = ap (λ c. if c then x else None) e

one_longer : (tuple : List ℕ) (label : ℕ) (labels : List (Option ℕ)) → followed (tuple ++ label ∷ []) labels ≡ followed tuple (Some label ∷ labels)
one_longer tuple label labels =
    ap (λ n. if nat_le n 10 then option_map (λ rest. (tuple ++ label ∷ []) ++ rest) (all_there labels) else None) (let p = length_push tuple label in let e : length (tuple ++ label ∷ []) + length labels ≡ length tuple + suc (length labels) = omega arith in e)
    ∙ ap (λ o. if nat_le (length tuple + suc (length labels)) 10 then o else None) (after_one tuple label (all_there labels))

-- the labels of further indices fill a tuple
pub filled-is : (tuple : List ℕ) (labels : List (Option ℕ)) → length tuple ≤ 10 → filled (Some tuple) labels ≡ followed tuple labels
filled-is tuple [] within_bound =
    ap Some (sym (append-nil tuple))
    ∙ sym (when (nat_le (length tuple + 0) 10) (Some (tuple ++ [])) (le-leb (length tuple + 0) 10 (omega arith)))
filled-is tuple (None ∷ labels) within_bound = filled-None labels ∙ nothing_if (nat_le (length tuple + suc (length labels)) 10)
filled-is tuple (Some label ∷ labels) within_bound =
    elim (cases_lt (length tuple) 10) [
      | inl shorter ↦
          ap (λ o. filled o labels) (when (nat_lt (length tuple) 10) (Some (tuple ++ label ∷ [])) (lt-ltb (length tuple) 10 shorter))
          ∙ filled-is (tuple ++ label ∷ []) labels (let p = length_push tuple label in omega arith)
          ∙ one_longer tuple label labels
      | inr full ↦
          ap (λ o. filled o labels) (unless (nat_lt (length tuple) 10) (Some (tuple ++ label ∷ [])) (le-ltb (length tuple) 10 full))
          ∙ filled-None labels
          ∙ sym (unless (nat_le (length tuple + suc (length labels)) 10) (option_map (λ rest. tuple ++ rest) (all_there (Some label ∷ labels))) (lt-leb (length tuple + suc (length labels)) 10 (omega arith)))
    ]

all_of_them : (o : Option (List ℕ)) → option_map (λ rest. [] ++ rest) o ≡ o
all_of_them None = refl
all_of_them (Some labels) = refl

-- the labels of indices fill the tuple of none
pub filled-tuple : (labels : List (Option ℕ)) → tuple_of labels ≡ filled (Some []) labels
filled-tuple labels =
    ap (λ n. if nat_le n 10 then all_there labels else None) (let e : length labels ≡ 0 + length labels = omega arith in e)
    ∙ ap (λ o. if nat_le (0 + length labels) 10 then o else None) (sym (all_of_them (all_there labels)))
    ∙ sym (filled-is [] labels (omega arith))

module _ {X : Type 0} (label_of : X → Answer (Option ℕ)) where
  -- the tuple that the labels of these indices fill
  abbrev pub filling : Option (List ℕ) → List X → Answer (Option (List ℕ))
  filling tuple xs = in_order (map label_of xs) and_then λ labels. Ok (filled tuple labels)

  next_label : (tuple : Option (List ℕ)) (x : X) (xs : List X) (label : Option ℕ) → label_of x ≡ Ok label → filling tuple (x ∷ xs) ≡ filling (with_label tuple label) xs
  next_label tuple x xs label e =
      ap (λ a. (a and_then λ y. in_order (map label_of xs) and_then λ ys. Ok (y ∷ ys)) and_then λ labels. Ok (filled tuple labels)) e
      ∙ and_then_assoc (in_order (map label_of xs)) (λ ys. Ok (label ∷ ys)) (λ labels. Ok (filled tuple labels))

  next_index : (tuple : Option (List ℕ)) (xs : List X) (i : ℕ) (x : X) → i < length xs → x ≡ get_or xs i x → filling tuple (drop i xs) ≡ filling tuple (x ∷ drop (i + 1) xs)
  next_index tuple xs i x l at =
      at_drop_more (filling tuple) xs i x l ∙ ap (λ z. filling tuple (z ∷ drop (i + 1) xs)) (sym at)

  pub filling-more : (tuple : Option (List ℕ)) (xs : List X) (i : ℕ) (x : X) (label : Option ℕ) → i < length xs → x ≡ get_or xs i x → label_of x ≡ Ok label → filling tuple (drop i xs) ≡ filling (with_label tuple label) (drop (i + 1) xs)
  filling-more tuple xs i x label l at e =
      next_index tuple xs i x l at ∙ next_label tuple x (drop (i + 1) xs) label e

  pub filling-fault : (tuple : Option (List ℕ)) (xs : List X) (i : ℕ) (x : X) (fault : Fault) → i < length xs → x ≡ get_or xs i x → label_of x ≡ Err fault → filling tuple (drop i xs) ≡ Err fault
  filling-fault tuple xs i x fault l at e =
      next_index tuple xs i x l at
      ∙ ap (λ a. (a and_then λ y. in_order (map label_of (drop (i + 1) xs)) and_then λ ys. Ok (y ∷ ys)) and_then λ labels. Ok (filled tuple labels)) e

  pub filling-end : (tuple : Option (List ℕ)) (xs : List X) (i : ℕ) → length xs ≤ i → filling tuple (drop i xs) ≡ Ok tuple
  filling-end tuple xs i all = at_drop_all (filling tuple) xs i all

  -- the tuple of all indices is what their labels fill
  pub filling-start : (xs : List X) → (in_order (map label_of xs) and_then λ labels. Ok (tuple_of labels)) ≡ filling (Some []) xs
  filling-start xs = as_filled (in_order (map label_of xs))
    where
      as_filled : (a : Answer (List (Option ℕ))) → (a and_then λ labels. Ok (tuple_of labels)) ≡ (a and_then λ labels. Ok (filled (Some []) labels))
      as_filled (Ok labels) = ap Ok (filled-tuple labels)
      as_filled (Err fault) = refl
