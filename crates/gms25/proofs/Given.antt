-- A run of the arguments that the process gives.
use Rattle.std.proofs.Common.{◌≡◌, ℕ, List, subst}
use Rattle.std.specs.Prelude.{◌↔◌, ◌⊎◌, Result, Ok, Err, None, IfOk}
use Rattle.std.specs.declared.alloc.AllocError.{AllocError}
use Rattle.std.specs.declared.alloc.Global.{Global}
use Rattle.std.specs.declared.string.String.{String}
use Rattle.std.specs.declared.vec.IntoIter.{IntoIter}
use Rattle.std.specs.declared.io.Error.{Error}
use Rattle.gms_host.specs.Meaning.{Meaning}
use Rattle.gms_command.specs.CommandLine.{texts, request_of}
use Rattle.gms_run.specs.Statuses.{CountsSo, EndsByNoFault, IsReadyFor, MeetsNoFault, NamesProgram}
use Rattle.gms_run.specs.declared.status.Status.{Status}
use Rattle.gms_run.specs.declared.status.Status.TheVariants.{Done, Usage, Execution}
use Rattle.gms25.specs.Program.{EndsGiven, HasWords, RunsWith, lent, given_words}

-- the arguments of a run are those that are given
pub are_given : (args : Result (IntoIter (String Global) Global) Error) (words : List (String Global)) → HasWords args words → words ≡ given_words args
are_given (Ok args) words same = same
are_given (Err error) words has = has.1

-- What holds of the end of a run of some arguments.
pub record Says (result : Result Status AllocError) (words : List (List ℕ)) (old new : Meaning) : Type 0 where
  pub run : IfOk result (λ status. RunsWith status words old new)
  pub counts : IfOk result (λ status. CountsSo status old.counts new.counts)
  pub no_fault : IsReadyFor old words → IfOk result EndsByNoFault
  pub usage : IfOk result (λ status. (status ≡ Usage) ↔ (request_of words ≡ None))
  pub complete : NamesProgram lent.names old.outside words → MeetsNoFault old.counts new.counts → IfOk result (λ status. (status ≡ Done) ⊎ (status ≡ Execution))

-- it is the end of a run of the arguments that are given
pub ends_given : (args : Result (IntoIter (String Global) Global) Error) (words : List (String Global)) (result : Result Status AllocError) (old new : Meaning) →
    HasWords args words → Says result (texts words) old new → IfOk result (λ status. EndsGiven status args old new)
ends_given args words (Ok status) old new has says =
    let same = are_given args words has in
    let there : Says (Ok status) (texts (given_words args)) old new = subst (λ ws. Says (Ok status) (texts ws) old new) same says in record {
      run = (words, (has, says.run));
      counts = says.counts;
      no_fault = there.no_fault;
      usage = there.usage;
      complete = there.complete;
    }
ends_given args words (Err e) old new has says = search
