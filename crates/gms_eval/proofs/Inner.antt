-- The binding under which the elements of a traversal are tested: the outer one, followed by the
-- element's labels.
use Rattle.std.proofs.Common.{◌≡◌, ◌∙◌, ap, sym, refl, ℕ, Bool, List, ◌++◌, length, take, take_all, take_at, le_refl, Ok}
use Rattle.gq_number.specs.Number.{Number}
use Rattle.gq_extended.specs.Extended.{Extended}
use Rattle.gms_ast.specs.Trees.{Tree}
use Rattle.gms_store.specs.State.{State}
use Rattle.gms_eval.specs.declared.stop.ExecStopOrMemory.{ExecStopOrMemory}
use Rattle.gms_eval.specs.Nodes.{is_so}
use Rattle.gms_eval.specs.Bindings.{Pairs, paired, controlled}
use Rattle.gms_eval.specs.Faults.{◌and_then◌}
use Rattle.gms_eval.specs.Gives.{ShowsStop}
use Rattle.gms_eval.specs.Holds.{holds}
use Rattle.gms_eval.specs.Value.{value}
use Rattle.gms_eval.proofs.Answering.{stops-same, stops-then}

-- it begins as the outer one
pub inner-start : (b inner : Pairs) → inner ≡ b → take (length b) inner ≡ b
inner-start b inner e = ap (take (length b)) e ∙ take_all (length b) b (le_refl (length b))

-- the outer one with an element controls its sets
pub inner-controlled : (b inner next : Pairs) (sets element slice : List ℕ) (outer : ℕ) → take (length b) inner ≡ b → outer ≡ length b → slice ≡ element → next ≡ take outer inner ++ paired sets slice → next ≡ controlled b sets element
inner-controlled b inner next sets element slice outer kept size is e =
    e
    ∙ ap (λ n. take n inner ++ paired sets slice) size
    ∙ ap (λ labels. take (length b) inner ++ paired sets labels) is
    ∙ ap (λ pairs. pairs ++ paired sets element) kept

-- and begins with the outer one again
pub inner-kept : (b next : Pairs) (sets element : List ℕ) → next ≡ controlled b sets element → take (length b) next ≡ b
inner-kept b next sets element e = ap (take (length b)) e ∙ take_at b (paired sets element) (length b) refl

module _ {F : Type 0} (v : F → Number) (limit : ℕ) (state : State) (next controlling : Pairs) (e : Tree F) (is : next ≡ controlling) where
  -- the value under it
  pub inner-value : (x : Extended) → value v limit state next e ≡ Ok x → value v limit state controlling e ≡ Ok x
  inner-value x g = ap (λ pairs. value v limit state pairs e) (sym is) ∙ g

  -- its stop
  pub inner-stops : (stop : ExecStopOrMemory F) → ShowsStop v stop (value v limit state next e) → ShowsStop v stop (value v limit state controlling e)
  inner-stops stop s =
      stops-same v stop (value v limit state controlling e) (value v limit state next e) (ap (λ pairs. value v limit state pairs e) (sym is)) s

  -- whether a condition holds under it
  pub inner-holds : (x : Extended) (so : Bool) → value v limit state next e ≡ Ok x → so ≡ is_so x → holds v limit state controlling e ≡ Ok so
  inner-holds x so g told =
      ap (λ a. a and_then λ y. Ok (is_so y)) (inner-value x g) ∙ ap Ok (sym told)

  pub inner-holds-stops : (stop : ExecStopOrMemory F) → ShowsStop v stop (value v limit state next e) → ShowsStop v stop (holds v limit state controlling e)
  inner-holds-stops stop s = stops-then v stop (value v limit state controlling e) (λ y. Ok (is_so y)) (inner-stops stop s)
