-- Each item that is shown has the decimals of the settings.
use Rattle.std.proofs.Common.{◌≡◌, ℕ, ◌≤◌, List, [], ◌∷◌, map, refl, sym, subst, Ok, Err}
use Rattle.std.specs.Prelude.{IfOk}
use Rattle.std.specs.List.{All}
use Rattle.std.proofs.lemmas.List.Elements.{All-nil, All-cons, All-head, All-tail, All-weaker}
use Rattle.gq_number.specs.Number.{Number}
use Rattle.gms_ast.specs.declared.program.Show.{Show}
use Rattle.gms_ast.specs.declared.program.Show.TheVariants as show
use Rattle.gms_store.specs.State.{State}
use Rattle.gms_eval.specs.Bindings.{Pairs}
use Rattle.gms_eval.specs.Faults.{Answer as Evaluated, ◌and_then◌}
use Rattle.gms_event.specs.Events.{Shown}
use Rattle.gms_event.specs.EventView.{shown_in}
use Rattle.gms_event.specs.declared.event.Shown.{Shown as OwnShown}
use Rattle.gms_exec.specs.Showing.{shown_of, all_shown, tuples_looked_at}

-- the result of a step on a value has the property, if each such result has it
made : {A : Type 0} (state : State) (answer : Evaluated A) (next : A → Shown) → ((x : A) → (next x).decimals ≡ state.settings.decimals) → IfOk (answer and_then λ x. Ok (next x)) (λ (one : Shown). one.decimals ≡ state.settings.decimals)
made state (Ok x) next each = each x
made state (Err fault) next each = tt

-- one value before others
before : {A : Type 0} (P : A → Type 0) (one : Evaluated A) (rest : Evaluated (List A)) → IfOk one P → IfOk rest (All P) → IfOk (one and_then λ x. rest and_then λ xs. Ok (x ∷ xs)) (All P)
before P (Ok x) (Ok xs) p ps = All-cons P x xs p ps
before P (Ok x) (Err fault) p ps = tt
before P (Err fault) rest p ps = tt

module _ (labels : ℕ) (state : State) (binding : Pairs) where
  abbrev Has : Shown → Type 0
  Has one = one.decimals ≡ state.settings.decimals

  one_has : (item : Show) → IfOk (shown_of labels state binding item) Has
  one_has (show.Text word) = refl
  one_has (show.Symbol named suffix) = made state (tuples_looked_at labels state binding named suffix) _ (λ tuples. refl)

  all_have : (items : List Show) → IfOk (all_shown labels state binding items) (All Has)
  all_have [] = All-nil Has
  all_have (item ∷ items) = before Has (shown_of labels state binding item) (all_shown labels state binding items) (one_has item) (all_have items)

  module _ {F : Type 0} (value : F → Number) where
    own : (shown : List (OwnShown F)) → All Has (map (shown_in value) shown) → All (λ (item : OwnShown F). Has (shown_in value item)) shown
    own [] have = All-nil (λ (item : OwnShown F). Has (shown_in value item))
    own (one ∷ shown) have =
        All-cons (λ (item : OwnShown F). Has (shown_in value item)) one shown (All-head Has (shown_in value one) (map (shown_in value) shown) have) (own shown (All-tail Has (shown_in value one) (map (shown_in value) shown) have))

    -- items that are shown have at most 8 decimals, where the settings have
    pub few-decimals : (items : List Show) (shown : List (OwnShown F)) → all_shown labels state binding items ≡ Ok (map (shown_in value) shown) → state.settings.decimals ≤ 8 → All (λ (item : OwnShown F). item.decimals ≤ 8) shown
    few-decimals items shown e few =
        All-weaker (λ (item : OwnShown F). Has (shown_in value item)) (λ (item : OwnShown F). item.decimals ≤ 8) (λ item has. subst (λ n. n ≤ 8) (sym has) few) shown (own shown (subst (λ (r : Evaluated (List Shown)). IfOk r (All Has)) e (all_have items)))
