-- The contracts of assignments, displays and solves.
use Rattle.std.specs.Prelude.{◌≡◌, ℕ, ◌==◌, Bool, true, not, is_none, List, [], ◌∷◌, ◌++◌, map, Option, Some, None, option_map, Result, Ok, Err, if◌then◌else◌}
use Rattle.std.specs.List.{list_any}
use Rattle.gq_number.specs.Number.{Number}
use Rattle.gms_ast.specs.Trees as tree
use Rattle.gms_eval.specs.Bindings.{Pairs, label_of}
use Rattle.gq_extended.specs.Meaning.{extended}
use Rattle.gq_extended.specs.Extended.{Extended}
use Rattle.gq_extended.specs.declared.extended.Ext.{Ext}
use Rattle.gms_ast.specs.declared.program.Act.{Act}
use Rattle.gms_ast.specs.declared.program.Act.TheVariants.{Loop, Solve}
use Rattle.gms_store.specs.State.{State, symbol_at, given_of}
use Rattle.gms_store.specs.Declarations.{kind_in}
use Rattle.gms_store.specs.declared.kind.SymbolKind.TheVariants.{Undeclared}
use Rattle.gms_ast.specs.declared.word.Word.{Word}
use Rattle.gms_ast.specs.declared.expression.Suffix.{Suffix}
use Rattle.gms_ast.specs.declared.expression.Suffix.TheVariants as suffix
use Rattle.gms_event.specs.Events.{Shown}
use Rattle.gms_eval.specs.Nodes.{is_so}
use Rattle.gms_exec.specs.Showing.{is_indexed}
use Rattle.gms_eval.specs.declared.stop.ExecStopOrMemory.{ExecStopOrMemory}
use Rattle.gms_eval.specs.declared.stop.ExecStopOrMemory.TheVariants.{Memory, Fault as Stop}
use Rattle.gms_eval.specs.Faults.{Answer as Evaluated, ◌and_then◌}
use Rattle.gms_eval.specs.Gives.{fault_of}
use Rattle.gms_event.specs.declared.event.Event.{Event}
use Rattle.gms_event.specs.declared.event.Event.TheVariants as event
use Rattle.gms_exec.specs.declared.given.Given.{Given as OwnGiven}
use Rattle.gms_exec.specs.declared.given.Given.TheVariants as own
use Rattle.gms_exec.specs.Given.{Given, member, value_is, AllGiven}

module _ {F : Type 0} (value : F → Number) where
  -- what an element is given, by the numbers that its values mean
  abbrev pub given_in : OwnGiven F → Given
  given_in (own.Member on) = member on
  given_in (own.Value x) = value_is (extended value x)

  -- what all elements are given, by the numbers that their values mean
  abbrev pub all_given_in : List (List ℕ × OwnGiven F) → AllGiven
  all_given_in all = map (λ given. (given.0, given_in given.1)) all

  -- entries, by the numbers that their values mean
  abbrev pub entries_in : List (List ℕ × Ext F) → List (List ℕ × Extended)
  entries_in entries = map (λ entry. (entry.0, extended value entry.1)) entries

  -- The state is the one that an assignment makes of the old one; or a stop has its fault, and the
  -- state is unchanged. Out of memory makes no claim.
  abbrev pub Assigns : {A : Type 0} → Result A (ExecStopOrMemory F) → State → State → Evaluated State → Type 0
  Assigns (Ok x) old new answer = answer ≡ Ok new
  Assigns (Err Memory) old new answer = Unit {0}
  Assigns (Err (Stop stop)) old new answer = (answer ≡ Err (fault_of value stop)) × (new ≡ old)

-- an act that is no loop
abbrev pub IsOnce : {F : Type 0} → Act F → Type 0
IsOnce act = (control : _) (body : _) → act ≡ Loop control body → ⊥

-- an act that is no solve
abbrev pub AsksNoSolver : {F : Type 0} → Act F → Type 0
AsksNoSolver act = (model : _) (method : _) (objective : _) (maximize : _) → act ≡ Solve model method objective maximize → ⊥

-- no event is a solve
abbrev pub HasNoSolve : {F : Type 0} → List (Event F) → Type 0
HasNoSolve [] = Unit {0}
HasNoSolve (event.Solve line model equations lp answer solver settings level ∷ events) = ⊥
HasNoSolve (other ∷ events) = HasNoSolve events

-- Events after others: what was shown is no solve.
pub record ShowsNoSolve {F : Type 0} (old new : List (Event F)) : Type 0 where
  pub shown : List (Event F)
  pub events : new ≡ old ++ shown
  pub quiet : HasNoSolve shown

-- ---- what the left side of an assignment controls, and what its elements are given

-- the set of the first of some indices, if it is a set
abbrev pub first_set : {N : Type 0} → tree.Indices N → Option ℕ
first_set (tree.set set rest) = Some set
first_set (tree.lagged set op at amount rest) = Some set
first_set indices = None

-- sets, and one more if it is not among them
abbrev pub after_others : List ℕ → ℕ → List ℕ
after_others done set = if list_any (λ one. one == set) done then done else done ++ set ∷ []

-- sets, and one more, if it is not among them and no loop controls it
abbrev pub noted : Pairs → List ℕ → Option ℕ → List ℕ
noted binding done None = done
noted binding done (Some set) = if is_none (label_of binding set) then after_others done set else done

-- elements with what they are given, and one more if there is one
abbrev pub with_found : AllGiven → Option (List ℕ × Given) → AllGiven
with_found done None = done
with_found done (Some found) = done ++ found ∷ []

-- an element, if any, with what it is given, by the numbers that its values mean
abbrev pub found_in : {F : Type 0} → (F → Number) → Option (List ℕ × OwnGiven F) → Option (List ℕ × Given)
found_in value found = option_map (λ one. (one.0, given_in value one.1)) found

-- an element, if any, with what the right side gives
abbrev pub found_at : Evaluated Given → Option (List ℕ) → Evaluated (Option (List ℕ × Given))
found_at given None = Ok None
found_at given (Some t) = given and_then λ one. Ok (Some (t, one))

-- ---- what is shown

-- whether an entry is shown: of a name with indices, where it is not 0
abbrev pub is_kept : Bool → Extended → Bool
is_kept indexed value = if indexed then is_so value else true

-- entries appended to others
abbrev pub with_entries : List (List ℕ × Extended) → List (List ℕ × Extended) → List (List ℕ × Extended)
with_entries done more = done ++ more

-- the tuples with data of a name; the empty one if it has no indices
abbrev pub tuples_given : State → ℕ → List (List ℕ)
tuples_given state name = if is_indexed state name then given_of state name else [] ∷ []

-- what is shown of a text
abbrev pub text_shown : State → Word → Shown
text_shown state word =
    record { text = word.text; name = None; kind = Undeclared; suffix = suffix.None; indexed = not true; entries = []; decimals = state.settings.decimals }

-- what is shown of a symbol that has these entries
abbrev pub symbol_shown : State → ℕ → Suffix → List (List ℕ × Extended) → Shown
symbol_shown state name suffix entries =
    record { text = []; name = Some name; kind = kind_in (symbol_at state name).content; suffix = suffix; indexed = is_indexed state name; entries = entries; decimals = state.settings.decimals }
