-- The elements for which a test holds, found in sequence.
use Rattle.std.proofs.Common.{◌≡◌, ℕ, ◌+◌, ◌<◌, ◌≤◌, Bool, true, false, List, [], ◌∷◌, ◌++◌, drop, get_or, length, Ok, Err, if◌then◌else◌, refl, sym, ap, ◌∙◌, append-nil, append_assoc}
use Rattle.std.proofs.lemmas.List.{at_drop_more, at_drop_all}
use Rattle.gq_number.specs.Number.{Number}
use Rattle.gms_eval.specs.declared.stop.ExecStopOrMemory.{ExecStopOrMemory}
use Rattle.gms_eval.specs.declared.stop.ExecStopOrMemory.TheVariants.{Memory, Fault as Stop}
use Rattle.gms_eval.specs.Domain.{those_where}
use Rattle.gms_eval.specs.Faults.{Answer, Fault, ◌and_then◌}
use Rattle.gms_eval.specs.Gives.{fault_of, ShowsStop}
use Rattle.gms_eval.specs.InnerContracts.{with_element}
use Rattle.gms_eval.proofs.Answering.{and_then_assoc}

module _ (test : List ℕ → Answer Bool) where
  -- the elements that are found, and those that will be
  abbrev pub choosing : List (List ℕ) → List (List ℕ) → Answer (List (List ℕ))
  choosing done xs = those_where test xs and_then λ rest. Ok (done ++ rest)

  pub choosing-start : (xs : List (List ℕ)) → those_where test xs ≡ choosing [] xs
  choosing-start xs = none_yet (those_where test xs)
    where
      none_yet : (a : Answer (List (List ℕ))) → a ≡ (a and_then λ rest. Ok ([] ++ rest))
      none_yet (Ok rest) = refl
      none_yet (Err fault) = refl

  one_more : (done : List (List ℕ)) (x : List ℕ) (xs : List (List ℕ)) (b : Bool) → test x ≡ Ok b → choosing done (x ∷ xs) ≡ choosing (with_element done x b) xs
  one_more done x xs b e =
      ap (λ a. (a and_then λ holds. those_where test xs and_then λ others. Ok (if holds then x ∷ others else others)) and_then λ rest. Ok (done ++ rest)) e
      ∙ and_then_assoc (those_where test xs) (λ others. Ok (if b then x ∷ others else others)) (λ rest. Ok (done ++ rest))
      ∙ taken b (those_where test xs)
    where
      taken : (b : Bool) (a : Answer (List (List ℕ))) → (a and_then λ others. Ok (done ++ (if b then x ∷ others else others))) ≡ (a and_then λ rest. Ok (with_element done x b ++ rest))
      taken true (Ok others) = ap Ok (sym (append_assoc done (x ∷ []) others))
      taken false (Ok others) = refl
      taken b (Err fault) = refl

  next_element : (done xs : List (List ℕ)) (i : ℕ) (x : List ℕ) → i < length xs → x ≡ get_or xs i [] → choosing done (drop i xs) ≡ choosing done (x ∷ drop (i + 1) xs)
  next_element done xs i x l at =
      at_drop_more (choosing done) xs i [] l ∙ ap (λ z. choosing done (z ∷ drop (i + 1) xs)) (sym at)

  pub choosing-more : (done xs : List (List ℕ)) (i : ℕ) (x : List ℕ) (b : Bool) → i < length xs → x ≡ get_or xs i [] → test x ≡ Ok b → choosing done (drop i xs) ≡ choosing (with_element done x b) (drop (i + 1) xs)
  choosing-more done xs i x b l at e = next_element done xs i x l at ∙ one_more done x (drop (i + 1) xs) b e

  pub choosing-fault : (done xs : List (List ℕ)) (i : ℕ) (x : List ℕ) (fault : Fault) → i < length xs → x ≡ get_or xs i [] → test x ≡ Err fault → choosing done (drop i xs) ≡ Err fault
  choosing-fault done xs i x fault l at e =
      next_element done xs i x l at
      ∙ ap (λ a. (a and_then λ holds. those_where test (drop (i + 1) xs) and_then λ others. Ok (if holds then x ∷ others else others)) and_then λ rest. Ok (done ++ rest)) e

  pub choosing-end : (done xs : List (List ℕ)) (i : ℕ) → length xs ≤ i → choosing done (drop i xs) ≡ Ok done
  choosing-end done xs i all = at_drop_all (choosing done) xs i all ∙ ap Ok (append-nil done)

  -- the same of stops
  pub choosing-stops : {F : Type 0} (v : F → Number) (stop : ExecStopOrMemory F) (whole : Answer (List (List ℕ))) (done xs : List (List ℕ)) (i : ℕ) (x : List ℕ) → whole ≡ choosing done (drop i xs) → i < length xs → x ≡ get_or xs i [] → ShowsStop v stop (test x) → ShowsStop v stop whole
  choosing-stops v Memory whole done xs i x so l at s = tt
  choosing-stops v (Stop stop) whole done xs i x so l at s = so ∙ choosing-fault done xs i x (fault_of v stop) l at s
