-- The results of functions of the code, compared with the answers that the definitions give.
use Rattle.std.specs.Prelude.{◌≡◌, Result, Ok, Err, Box}
use Rattle.std.specs.declared.alloc.Global.{Global}
use Rattle.gq_number.specs.Number.{Number}
use Rattle.gq_extended.specs.Meaning.{extended}
use Rattle.gms_eval.specs.declared.stop.ExecStop.{ExecStop}
use Rattle.gms_eval.specs.declared.stop.ExecStopOrMemory.{ExecStopOrMemory}
use Rattle.gms_eval.specs.declared.stop.ExecStopOrMemory.TheVariants.{Memory, Fault as Stop}
use Rattle.gms_eval.specs.Faults.{Fault, Answer}

module _ {F : Type 0} (number_of : F → Number) where
  -- the fault that `stop`, an error of a Rust function, stands for; `number_of` gives the numbers
  -- that its operands mean
  abbrev pub fault_of_stop : ExecStop F → Fault
  fault_of_stop stop =
      record { kind = stop.kind; at = stop.at; binding = stop.binding; left = extended number_of stop.left; right = extended number_of stop.right; count = stop.count }

  -- the fault that a boxed error of a Rust function stands for
  abbrev pub fault_of : Box (ExecStop F) Global → Fault
  fault_of stop = fault_of_stop stop.value

  -- an error stands for this fault; out of memory makes no claim
  abbrev pub Shows : ExecStopOrMemory F → Fault → Type 0
  Shows Memory fault = Unit {0}
  Shows (Stop stop) fault = fault ≡ fault_of stop

  -- the answer is the fault that an error stands for; out of memory makes no claim
  abbrev pub ShowsStop : {A : Type 0} → ExecStopOrMemory F → Answer A → Type 0
  ShowsStop Memory answer = Unit {0}
  ShowsStop (Stop stop) answer = answer ≡ Err (fault_of stop)

  -- The result of a function agrees with the answer that the definitions give: the answer is
  -- `shown` of the function's value, or the fault that the function's error stands for. Out of
  -- memory makes no claim.
  abbrev pub Gives : {A R : Type 0} → (R → A) → Result R (ExecStopOrMemory F) → Answer A → Type 0
  Gives shown (Ok x) answer = answer ≡ Ok (shown x)
  Gives shown (Err stop) answer = ShowsStop stop answer
