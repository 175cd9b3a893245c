-- What an event shows that is a solve: the text of its answer, if there is one.
use Rattle.std.proofs.Common.{◌≡◌, ℕ, ◌∙◌, List, [], map, flat_map, sym, ap, ap₂, Some, None, option_map, slice_get}
use Rattle.std.specs.Prelude.{option_to_list}
use Rattle.std.proofs.lemmas.List.{append-nil}
use Rattle.std.proofs.lemmas.Option.{slice_get-map}
use Rattle.gq_number.specs.Number.{Number}
use Rattle.gms_store.specs.declared.settings.Settings.{Settings}
use Rattle.lp_core.specs.declared.answer.Answer.{Answer}
use Rattle.lp_core.specs.declared.program.Lp.{Lp}
use Rattle.lp_core.specs.Numbers.{answer_numbers, lp_numbers}
use Rattle.gms_event.specs.Events.{Solved, solves}
use Rattle.gms_list.specs.ListingText.{event_text}
use Rattle.gms_list.specs.SolveText.{solve_text}

-- the text of the answer at a place, if there is one
answer_there : {F : Type 0} (value : F → Number) (text : Answer Number → List ℕ) (answers : List (Answer F)) (place : ℕ) (answer : Answer F) → slice_get answers place ≡ Some answer →
    text (answer_numbers value answer) ≡ flat_map text (option_to_list (slice_get (map (answer_numbers value) answers) place))
answer_there value text answers place answer e =
    sym (append-nil (text (answer_numbers value answer)))
    ∙ sym (ap (λ o. flat_map text (option_to_list o)) (slice_get-map (answer_numbers value) answers place ∙ ap (option_map (answer_numbers value)) e))

answer_missing : {F : Type 0} (value : F → Number) (text : Answer Number → List ℕ) (answers : List (Answer F)) (place : ℕ) → slice_get answers place ≡ None →
    [] ≡ flat_map text (option_to_list (slice_get (map (answer_numbers value) answers) place))
answer_missing value text answers place e =
    sym (ap (λ o. flat_map text (option_to_list o)) (slice_get-map (answer_numbers value) answers place ∙ ap (option_map (answer_numbers value)) e))

module _ {F : Type 0} (names labels : List (List ℕ)) (limit : ℕ) (value : F → Number) (line model : ℕ) (equations : List ℕ) (lp : Lp F) (place : ℕ) (solver : List ℕ) (settings : Settings) (level : F) (answers : List (Answer F)) where
  -- what is known of the solve
  abbrev known : List ℕ → List ℕ → Solved
  known es name = record { line = line; model = model; equations = es; lp = lp_numbers value lp; answer = place; solver = name; settings = settings; objective_level = value level }

  -- a solve with an answer
  pub solve_shown : (es name : List ℕ) (answer : Answer F) → es ≡ equations → name ≡ solver → slice_get answers place ≡ Some answer →
      solve_text names labels limit (known es name) (answer_numbers value answer) ≡ event_text names labels limit (map (answer_numbers value) answers) (solves (known equations solver))
  solve_shown es name answer e f g =
      ap₂ (λ a b. solve_text names labels limit (known a b) (answer_numbers value answer)) e f
      ∙ answer_there value (solve_text names labels limit (known equations solver)) answers place answer g

  -- a solve without one
  pub solve_missing : slice_get answers place ≡ None → [] ≡ event_text names labels limit (map (answer_numbers value) answers) (solves (known equations solver))
  solve_missing g = answer_missing value (solve_text names labels limit (known equations solver)) answers place g
