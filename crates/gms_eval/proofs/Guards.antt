-- Guards from the last to the first.
use Rattle.std.proofs.Common.{◌≡◌, ℕ, zero, suc, ◌+◌, ◌-◌, ◌<◌, ◌≤◌, Bool, true, false, List, [], ◌∷◌, map, drop, get_or, length, Ok, Err, if◌then◌else◌, sym, ap, ◌∙◌, arith}
use Rattle.std.proofs.lemmas.List.{at_drop_more, drop-map}
use Rattle.std.proofs.Math.Seq.{drop-length}
use Rattle.gq_number.specs.Number.{Number}
use Rattle.gq_extended.specs.Extended.{Extended}
use Rattle.gms_eval.specs.declared.stop.ExecStopOrMemory.{ExecStopOrMemory}
use Rattle.gms_eval.specs.declared.stop.ExecStopOrMemory.TheVariants.{Memory, Fault as Stop}
use Rattle.gms_eval.specs.Nodes.{each_holds, is_so}
use Rattle.gms_eval.specs.Faults.{Answer, Fault, nothing, ◌and_then◌}
use Rattle.gms_eval.specs.Gives.{fault_of, ShowsStop}

-- whether a guard holds, where the guards after it do
abbrev pub and_this : Answer Extended → Bool → Answer Bool
and_this guard hold = if hold then guard and_then (λ x. Ok (is_so x)) else Ok false

-- a guard that does not hold decides
pub holds-false : (n : ℕ) (guards : List (Answer Extended)) → each_holds (drop n guards) ≡ Ok false → each_holds guards ≡ Ok false
holds-false zero guards e = e
holds-false (suc n) [] e = e
holds-false (suc n) (guard ∷ guards) e = ap (λ a. a and_then and_this guard) (holds-false n guards e)

-- and so does a fault
pub holds-fault : (n : ℕ) (guards : List (Answer Extended)) (fault : Fault) → each_holds (drop n guards) ≡ Err fault → each_holds guards ≡ Err fault
holds-fault zero guards fault e = e
holds-fault (suc n) [] fault e = e
holds-fault (suc n) (guard ∷ guards) fault e = ap (λ a. a and_then and_this guard) (holds-fault n guards fault e)

module _ {X : Type 0} (answer : X → Answer Extended) where
  -- whether the guards of these hold
  abbrev pub hold_all : List X → Answer Bool
  hold_all xs = each_holds (map answer xs)

  -- the guard at a place, where those after it hold
  pub holds-here : (xs : List X) (n : ℕ) (x : X) → n < length xs → x ≡ get_or xs n x → hold_all (drop (n + 1) xs) ≡ Ok true → hold_all (drop n xs) ≡ (answer x and_then λ y. Ok (is_so y))
  holds-here xs n x l at e =
      at_drop_more hold_all xs n x l
      ∙ ap (λ z. hold_all (z ∷ drop (n + 1) xs)) (sym at)
      ∙ ap (λ a. a and_then and_this (answer x)) e

  -- before the last guard none is evaluated
  pub holds-start : (xs : List X) → hold_all (drop (length xs) xs) ≡ Ok true
  holds-start xs = ap hold_all (drop-length xs)

  -- one more guard is evaluated
  pub holds-next : (xs : List X) (p : ℕ) (x : X) (y : Extended) → 0 < p → p ≤ length xs → x ≡ get_or xs (p - 1) x → hold_all (drop p xs) ≡ Ok true → answer x ≡ Ok y → hold_all (drop (p - 1) xs) ≡ Ok (is_so y)
  holds-next xs p x y some within at e is =
      let n : p - 1 + 1 ≡ p = omega arith in
      holds-here xs (p - 1) x (omega arith) at (ap (λ k. hold_all (drop k xs)) n ∙ e) ∙ ap (λ a. a and_then λ z. Ok (is_so z)) is

  -- all guards are evaluated
  pub all-hold : (xs : List X) (p : ℕ) → p ≡ 0 → hold_all (drop p xs) ≡ Ok true → hold_all xs ≡ Ok true
  all-hold xs p none e = ap (λ k. hold_all (drop k xs)) (sym none) ∙ e

  -- one of them does not hold
  pub one-fails : (xs : List X) (n : ℕ) (b : Bool) → b ≡ false → hold_all (drop n xs) ≡ Ok b → hold_all xs ≡ Ok false
  one-fails xs n b off e = holds-false n (map answer xs) (ap each_holds (drop-map answer n xs) ∙ e ∙ ap Ok off)

  -- one of them is a fault
  pub guard-stops : {F : Type 0} (v : F → Number) (stop : ExecStopOrMemory F) (xs : List X) (p : ℕ) (x : X) → 0 < p → p ≤ length xs → x ≡ get_or xs (p - 1) x → hold_all (drop p xs) ≡ Ok true → ShowsStop v stop (answer x) → ShowsStop v stop (hold_all xs)
  guard-stops v Memory xs p x some within at e s = tt
  guard-stops v (Stop stop) xs p x some within at e s =
      let n : p - 1 + 1 ≡ p = omega arith in
      holds-fault (p - 1) (map answer xs) (fault_of v stop) (ap each_holds (drop-map answer (p - 1) xs) ∙ holds-here xs (p - 1) x (omega arith) at (ap (λ k. hold_all (drop k xs)) n ∙ e) ∙ ap (λ a. a and_then λ z. Ok (is_so z)) s)

-- an operand whose guards hold is evaluated
pub guard-so : (a : Answer Bool) (hold : Bool) (x : Answer Extended) → a ≡ Ok hold → hold ≡ true → (a and_then λ h. if h then x else Ok nothing) ≡ x
guard-so a hold x e so =
    ap (λ b. b and_then λ h. if h then x else Ok nothing) e ∙ ap (λ h. if h then x else Ok nothing) so

-- another is not
pub guard-not : (a : Answer Bool) (hold : Bool) (x : Answer Extended) → a ≡ Ok hold → hold ≡ false → (a and_then λ h. if h then x else Ok nothing) ≡ Ok nothing
guard-not a hold x e so =
    ap (λ b. b and_then λ h. if h then x else Ok nothing) e ∙ ap (λ h. if h then x else Ok nothing) so
