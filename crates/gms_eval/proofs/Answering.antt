-- Answers in sequence, and what a stop says of them.
use Rattle.std.proofs.Common.{◌≡◌, ℕ, ◌+◌, ◌<◌, ◌≤◌, List, [], ◌∷◌, ◌++◌, map, drop, get_or, length, Ok, Err, Result, refl, sym, ap, ◌∙◌, append-nil, append_assoc}
use Rattle.std.proofs.lemmas.List.{at_drop_more, at_drop_all}
use Rattle.std.specs.Result.{IsErrAnd}
use Rattle.std.proofs.lemmas.Result.{err_from_is_err_and}
use Rattle.gq_number.specs.Number.{Number}
use Rattle.gms_eval.specs.declared.stop.ExecStopOrMemory.{ExecStopOrMemory}
use Rattle.gms_eval.specs.declared.stop.ExecStopOrMemory.TheVariants.{Memory, Fault as Stop}
use Rattle.gms_eval.specs.Nodes.{in_order}
use Rattle.gms_eval.specs.Faults.{Answer, Fault, ◌and_then◌}
use Rattle.gms_eval.specs.Gives.{fault_of, ShowsStop, Gives}

-- three steps are two and then the third
pub and_then_assoc : {A B C : Type 0} (a : Answer A) (f : A → Answer B) (g : B → Answer C) → ((a and_then f) and_then g) ≡ (a and_then λ x. f x and_then g)
and_then_assoc (Ok x) f g = refl
and_then_assoc (Err fault) f g = refl

module _ {F : Type 0} (v : F → Number) where
  -- a stop says the same of an equal answer
  pub stops-same : {A : Type 0} (stop : ExecStopOrMemory F) (a b : Answer A) → a ≡ b → ShowsStop v stop b → ShowsStop v stop a
  stops-same Memory a b e s = tt
  stops-same (Stop stop) a b e s = e ∙ s

  -- a stop remains one where another step follows
  pub stops-then : {A B : Type 0} (stop : ExecStopOrMemory F) (a : Answer A) (next : A → Answer B) → ShowsStop v stop a → ShowsStop v stop (a and_then next)
  stops-then Memory a next s = tt
  stops-then (Stop stop) a next s = ap (λ b. b and_then next) s

  -- a stop shows a fault of one answer where another answer has the same faults
  pub stops-along : {A B : Type 0} (stop : ExecStopOrMemory F) (a : Answer A) (b : Answer B) → ((fault : Fault) → a ≡ Err fault → b ≡ Err fault) → ShowsStop v stop a → ShowsStop v stop b
  stops-along Memory a b along s = tt
  stops-along (Stop stop) a b along s = along (fault_of v stop) s

-- ---- values in order

module _ {X A : Type 0} (answer : X → Answer A) where
  -- all answers, as those that are done and those that are left
  abbrev pub going_on : List A → List X → Answer (List A)
  going_on done xs = in_order (map answer xs) and_then λ rest. Ok (done ++ rest)

  pub going_on-start : (xs : List X) → in_order (map answer xs) ≡ going_on [] xs
  going_on-start xs = done_none (in_order (map answer xs))
    where
      done_none : (a : Answer (List A)) → a ≡ (a and_then λ rest. Ok ([] ++ rest))
      done_none (Ok rest) = refl
      done_none (Err fault) = refl

  one_more : (done : List A) (x : X) (xs : List X) (y : A) → answer x ≡ Ok y → going_on done (x ∷ xs) ≡ going_on (done ++ y ∷ []) xs
  one_more done x xs y e =
      ap (λ a. (a and_then λ z. in_order (map answer xs) and_then λ zs. Ok (z ∷ zs)) and_then λ rest. Ok (done ++ rest)) e
      ∙ and_then_assoc (in_order (map answer xs)) (λ zs. Ok (y ∷ zs)) (λ rest. Ok (done ++ rest))
      ∙ shifted (in_order (map answer xs))
    where
      shifted : (a : Answer (List A)) → (a and_then λ zs. Ok (done ++ y ∷ zs)) ≡ (a and_then λ zs. Ok ((done ++ y ∷ []) ++ zs))
      shifted (Ok zs) = ap Ok (sym (append_assoc done (y ∷ []) zs))
      shifted (Err fault) = refl

  -- one more answer is a value
  pub going_on-more : (done : List A) (xs : List X) (i : ℕ) (x : X) (y : A) → i < length xs → x ≡ get_or xs i x → answer x ≡ Ok y → going_on done (drop i xs) ≡ going_on (done ++ y ∷ []) (drop (i + 1) xs)
  going_on-more done xs i x y l at e =
      at_drop_more (going_on done) xs i x l
      ∙ ap (λ z. going_on done (z ∷ drop (i + 1) xs)) (sym at)
      ∙ one_more done x (drop (i + 1) xs) y e

  -- one more answer is a fault
  pub going_on-fault : (done : List A) (xs : List X) (i : ℕ) (x : X) (fault : Fault) → i < length xs → x ≡ get_or xs i x → answer x ≡ Err fault → going_on done (drop i xs) ≡ Err fault
  going_on-fault done xs i x fault l at e =
      at_drop_more (going_on done) xs i x l
      ∙ ap (λ z. going_on done (z ∷ drop (i + 1) xs)) (sym at)
      ∙ ap (λ a. (a and_then λ z. in_order (map answer (drop (i + 1) xs)) and_then λ zs. Ok (z ∷ zs)) and_then λ rest. Ok (done ++ rest)) e

  -- no answer is left
  pub going_on-end : (done : List A) (xs : List X) (i : ℕ) → length xs ≤ i → going_on done (drop i xs) ≡ Ok done
  going_on-end done xs i all = at_drop_all (going_on done) xs i all ∙ ap Ok (append-nil done)

-- ---- results that show answers

-- what a call gives of an answer it gives of every equal one
pub gives-same : {F A R : Type 0} (v : F → Number) (shown : R → A) (r : Result R (ExecStopOrMemory F)) (a b : Answer A) → a ≡ b → Gives v shown r b → Gives v shown r a
gives-same v shown (Ok x) a b e g = e ∙ g
gives-same v shown (Err stop) a b e g = stops-same v stop a b e g

-- after a value comes the next step with it
pub then-value : {A B : Type 0} (a : Answer A) (x : A) (next : A → Answer B) → a ≡ Ok x → (a and_then next) ≡ next x
then-value a x next e = ap (λ b. b and_then next) e

-- a stop that is returned as it is
pub handed_on : {F A R : Type 0} (v : F → Number) (shown : R → A) (r : Result R (ExecStopOrMemory F)) (stop : ExecStopOrMemory F) (a : Answer A) → IsErrAnd r (λ e. e ≡ stop) → ShowsStop v stop a → Gives v shown r a
handed_on v shown r stop a h s = let p = err_from_is_err_and r h in rw (p.1, p.2) s
