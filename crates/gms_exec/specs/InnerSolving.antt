-- What a solve leaves: the contracts of the code that solves.
use Rattle.std.specs.Prelude.{◌≡◌, ℕ, ◌==◌, List, [], ◌∷◌, ◌++◌, length, slice_get, slice_index_or, Some, option_map, if◌then◌else◌}
use Rattle.gq_number.specs.Number.{Number}
use Rattle.gms_store.specs.declared.settings.Settings.{Settings}
use Rattle.gms_store.specs.State.{State, attributes_of}
use Rattle.gms_event.specs.declared.event.Event.{Event}
use Rattle.gms_event.specs.declared.event.Event.TheVariants as event
use Rattle.lp_core.specs.declared.answer.Answer.{Answer}
use Rattle.lp_core.specs.declared.answer.Pivot.{Pivot}
use Rattle.lp_slot.specs.declared.solver.SolverRule.{SolverRule}
use Rattle.lp_core.specs.declared.program.Lp.{Lp}
use Rattle.lp_slot.specs.Under.{IsAnswerUnder}
use Rattle.lp_core.specs.Numbers.{lp_numbers, end_numbers}
use Rattle.gms_exec.specs.Solved.{after_end}
use Rattle.gms_exec.specs.Stepping.{RunView}

-- A list that was extended at its end.
pub record IsExtended {A : Type 0} (old new : List A) : Type 0 where
  pub fresh : List A
  pub is : new ≡ old ++ fresh

-- Solvers give answers by these rules; the answer is one of a program, under the rule of the solver
-- at a place.
pub record AnswersAt {F : Type 0} (value : F → Number) (limit : ℕ) (rules : List SolverRule) (place : ℕ) (lp : Lp F) (iterlim : ℕ) (answer : Answer F) : Type 0 where
  pub rule : SolverRule
  pub chosen : slice_get rules place ≡ Some rule
  pub is_answer : IsAnswerUnder value limit lp iterlim rule answer

-- the pivots of an answer, if it is one of the solver at a place
abbrev pub path_at : ℕ → List Pivot → ℕ → List (List Pivot)
path_at place pivots k = if place == k then pivots ∷ [] else []

-- What a solve is shown as, except for the level of its objective.
pub record SolveShown (F : Type 0) : Type 0 where
  pub line : ℕ
  pub model : ℕ
  pub equations : List ℕ
  pub objective : ℕ
  pub lp : Lp F
  pub answer : Answer F
  pub solver : List ℕ
  pub settings : Settings

module _ {F : Type 0} (value : F → Number) where
  -- A solve was shown in a state: its answer was appended to the answers, and its event to the
  -- events.
  pub record ShowsSolve (solve : SolveShown F) (state : State) (old_answers new_answers : List (Answer F)) (old_events new_events : List (Event F)) : Type 0 where
    pub level : F
    pub is_level : value level ≡ (attributes_of state solve.objective []).level
    pub answers : new_answers ≡ old_answers ++ solve.answer ∷ []
    pub events : new_events ≡ old_events ++ event.Solve solve.line solve.model solve.equations solve.lp (length old_answers) solve.solver solve.settings level ∷ []

module _ {F : Type 0} (value : F → Number) (limit : ℕ) where
  -- A linear program was solved: the chosen solver answered it, its answer was put into the state,
  -- and the solve was shown.
  pub record Solves (names : List (List ℕ)) (rules : List SolverRule) (old_paths new_paths : List (List (List Pivot))) (line model : ℕ) (equations : List ℕ) (objective : ℕ) (lp : Lp F) (old new : RunView F) : Type 0 where
    pub answer : Answer F
    pub is_answer : AnswersAt value limit rules old.state.settings.solver lp old.state.settings.iterlim answer
    pub after : new.state ≡ after_end old.state model (lp_numbers value lp) (end_numbers value answer.end)
    pub paths : (k : ℕ) → slice_get new_paths k ≡ option_map (λ before. before ++ path_at old.state.settings.solver answer.pivots k) (slice_get old_paths k)
    pub shows : ShowsSolve value (record {
      line = line;
      model = model;
      equations = equations;
      objective = objective;
      lp = lp;
      answer = answer;
      solver = slice_index_or names old.state.settings.solver [];
      settings = old.state.settings;
    }) new.state old.answers new.answers old.events new.events
