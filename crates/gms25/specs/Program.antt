-- What the program does with the arguments of its process.
use Rattle.std.specs.Prelude.{◌≡◌, ◌↔◌, ◌⊎◌, ℕ, List, [], ◌∷◌, codes, drop, Result, Ok, Err, Some, None, IfOk}
use Rattle.std.specs.Vec.Iter.{into_iter_items}
use Rattle.std.specs.IoError.{error_kind}
use Rattle.std.specs.declared.alloc.AllocError.{AllocError}
use Rattle.std.specs.declared.alloc.Global.{Global}
use Rattle.std.specs.declared.string.String.{String}
use Rattle.std.specs.declared.vec.IntoIter.{IntoIter}
use Rattle.std.specs.declared.io.Error.{Error}
use Rattle.std.specs.declared.io.ErrorKind.TheVariants.{InvalidData}
use Rattle.gms_host.specs.Meaning.{Meaning}
use Rattle.gms_command.specs.CommandLine.{texts, request_of}
use Rattle.lp_slot.specs.declared.solver.SolverRule.TheVariants.{Bland, LargestCoefficient, Turning, Legal}
use Rattle.gms_run.specs.Solving.{Solvers, Solving}
use Rattle.gms_run.specs.ProgramsToRun.{status_code}
use Rattle.gms_run.specs.Headline.{HasListing, WritesListing, file_alone}
use Rattle.gms_run.specs.Laws.{RunIsAnsweredRightly}
use Rattle.gms_run.specs.Statuses.{CanRun, CountsSo, EndsByNoFault, IsReadyFor, IsRun, IsStopped, MeetsNoFault, NamesProgram, NamesSource}
use Rattle.gms_run.specs.declared.status.Status.{Status}
use Rattle.gms_run.specs.declared.status.Status.TheVariants.{Done, Usage, Compile, Execution}

-- the arguments of the process, by the result of reading them: all after the program's name; none
-- if that is an error
abbrev pub given_words : Result (IntoIter (String Global) Global) Error → List (String Global)
given_words (Ok args) = drop 1 (into_iter_items args)
given_words (Err error) = []

-- the words are the arguments of a run: all after the program's name, or none if these cannot be
-- read because one of them is not UTF-8 (the error `InvalidData`)
abbrev pub HasWords : Result (IntoIter (String Global) Global) Error → List (String Global) → Type 0
HasWords (Ok args) words = words ≡ drop 1 (into_iter_items args)
HasWords (Err error) words = (error_kind error ≡ InvalidData) × (words ≡ [])

-- the solvers that the program gives to a run. The rule of bland is Bland's; of dantzig, the
-- largest coefficient; of steepest, any improving variable; of any, any legal pivot. dantzig and
-- steepest turn to Bland's rule in a phase after as many successive degenerate pivots as there are
-- variables, variable 0 included. `paths` has the pivots of each answer that a solver gave: none
-- yet
abbrev pub lent : Solvers
lent =
    record {
      names = codes "bland" ∷ codes "dantzig" ∷ codes "steepest" ∷ codes "any" ∷ [];
      rules = Bland ∷ LargestCoefficient ∷ Turning ∷ Legal ∷ [];
      paths = [] ∷ [] ∷ [] ∷ [] ∷ [];
    }

-- A run of these arguments with the solvers `lent` ends with this status; the host is in the state
-- `old` before it and `new` after it. `solving` has the solvers before the run, which are `lent`
-- (`lends`), the solvers after it, and their answers to the run's linear programs. The run did what
-- this status says (`run`), and each answer is right if the input was executed (`answers`). For a
-- request of a FILE and no option but an output name, the status Done, Compile or Execution means
-- that the whole listing was written (`headline`). If the arguments request an input that the host
-- has, and no fault of the host was met, then the status is Compile exactly if the input cannot be
-- run (`compile`), and Execution exactly if an execution error stopped its run (`execution`).
pub record RunsWith (status : Status) (words : List (List ℕ)) (old new : Meaning) : Type 0 where
  pub solving : Solving
  pub lends : solving.before ≡ lent
  pub headline : (file output : List ℕ) → request_of words ≡ Some (file_alone file output) → HasListing status →
      WritesListing status solving old.outside new.outside file output
  pub run : IsRun status solving words old new
  pub answers : RunIsAnsweredRightly solving
  pub compile : (source : NamesSource old.outside words) → MeetsNoFault old.counts new.counts →
      (status ≡ Compile) ↔ ¬ (CanRun lent.names source.taken)
  pub execution : (source : NamesSource old.outside words) → MeetsNoFault old.counts new.counts →
      (status ≡ Execution) ↔ IsStopped solving source.taken

-- a run of the process's arguments ends with this status; the host is in the state `old` before the
-- run and `new` after it. If an argument is not UTF-8, the run has no arguments (`HasWords`)
abbrev pub RunsGiven : Status → Result (IntoIter (String Global) Global) Error → Meaning → Meaning → Type 0
RunsGiven status args old new = (words : List (String Global)) × (HasWords args words × RunsWith status (texts words) old new)

-- A run of the process's arguments ends with this status and leads the host from the state `old` to
-- `new`. The host's counts of faults change as the status says (`counts`): that of reading rises
-- with ReadFault, that of writing with WriteFault, and with Done, Compile and Execution neither
-- changes if the host is precise (it counts a fault only in a call that answers with one). If the
-- host is reliable and has the requested files, as far as it exposes its files, the status is not
-- ReadFault or WriteFault (`no_fault`). The status is Usage exactly if the arguments are no request
-- (`usage`). If the requested input can be run, and no fault of the host was met, the status is
-- Done or Execution (`complete`).
pub record EndsGiven (status : Status) (args : Result (IntoIter (String Global) Global) Error) (old new : Meaning) : Type 0 where
  pub run : RunsGiven status args old new
  pub counts : CountsSo status old.counts new.counts
  pub no_fault : IsReadyFor old (texts (given_words args)) → EndsByNoFault status
  pub usage : (status ≡ Usage) ↔ (request_of (texts (given_words args)) ≡ None)
  pub complete : NamesProgram lent.names old.outside (texts (given_words args)) → MeetsNoFault old.counts new.counts → (status ≡ Done) ⊎ (status ≡ Execution)

-- the exit status: that of the run, or 6 if it ran out of memory
abbrev pub exit_of : Result Status AllocError → ℕ
exit_of (Ok status) = status_code status
exit_of (Err e) = 6

-- The process exits with `code`: the status of a run of its arguments, which leads the host from
-- the state `old` to `new`; or 6 if the run ran out of memory, and then nothing is stated of `new`.
abbrev pub ExitsSo : ℕ → Result (IntoIter (String Global) Global) Error → Meaning → Meaning → Type 0
ExitsSo code args old new = (ended : Result Status AllocError) × ((code ≡ exit_of ended) × IfOk ended (λ status. EndsGiven status args old new))
