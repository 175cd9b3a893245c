-- What a reader finds, where another that it calls does not.
use Rattle.std.proofs.Common.{◌≡◌, Result, Ok, Err}
use Rattle.std.specs.Prelude.{OnOk}
use Rattle.std.specs.Result.{IsErr, IsErrAnd}
use Rattle.std.proofs.lemmas.Result.{err_from_is_err_and}
use Rattle.gms_save_text.specs.declared.fault.ReadFault.{ReadFault}
use Rattle.gms_save_text.specs.declared.fault.ReadFault.TheVariants.{Memory, Shape}
use Rattle.gms_save_text.specs.Reading.{Finds}

-- a fault that is returned as it is
pub handed_on : {A B : Type 0} (r : Result B ReadFault) (e : ReadFault) (P : A → Type 0) (Q : B → Type 0) → IsErrAnd r (λ f. f ≡ e) → Finds (Err e) P → Finds r Q
handed_on {A} {B} r e P Q h s = let p = err_from_is_err_and r h in rw (p.1, p.2) (by e s)
  where
    by : (e : ReadFault) → Finds (Err e) P → Finds (Err e) Q
    by Memory s = tt
    by Shape s = absurd s

-- what is found has what follows from it
pub found_more : {A : Type 0} (r : Result A ReadFault) (P Q : A → Type 0) → ((x : A) → P x → Q x) → Finds r P → Finds r Q
found_more (Ok x) P Q f h = f x h
found_more (Err Memory) P Q f h = tt
found_more (Err Shape) P Q f h = absurd h

-- what holds on success says nothing of a failure
pub nothing_on : {A E : Type 0} (r : Result A E) (P : Type 0) → IsErr r → OnOk r P
nothing_on (Ok x) P h = absurd cc
nothing_on (Err e) P h = tt

-- what holds on success has what follows from it
pub on_success : {A E : Type 0} (r : Result A E) (P Q : Type 0) → (P → Q) → OnOk r P → OnOk r Q
on_success (Ok x) P Q f h = f h
on_success (Err e) P Q f h = tt
