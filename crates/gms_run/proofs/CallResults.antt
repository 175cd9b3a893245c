-- What a piece of work over the host results in, carried through a call that failed and through two
-- calls in a row.
use Rattle.std.proofs.Common.{◌≡◌, List, ℕ, Result, Ok, Err, refl, subst, arith}
use Rattle.std.specs.Prelude.{IfOk, IsErrOf}
use Rattle.gms_host.specs.declared.host.Failed.{Failed}
use Rattle.gms_host.specs.declared.host.Failed.TheVariants.{Fault, Memory}
use Rattle.gms_host.specs.Meaning.{Counts, Outside}
use Rattle.gms_host.specs.Rules.{CountsReading, CountsWriting, IsCounted, with_output}
use Rattle.gms_host.specs.Spooling.{Passes, PutsThrough, WritesAll, WritesPrefix}
use Rattle.gms_host.proofs.Counting.{done_with, reading_more, writing_more}
use Rattle.gms_host.proofs.WrittenPrefixes.{prefix_on, passes_whole}
use Rattle.gms_run.specs.InnerSteps.{ResultsIn}

-- a result that is this failure
abbrev pub failed_with : (A : Type 0) → Failed → Result A Failed
failed_with A failed = Err failed

-- a property that holds whichever fault ends the work
pub comes_broken : {A : Type 0} (Done : A → Type 0) {X : Type 0} (failed : Failed) → X → ResultsIn (failed_with A failed) Done X
comes_broken Done Fault x = x
comes_broken Done Memory x = tt

-- what a fault of one piece of work says of another
pub comes_err : {A B : Type 0} (Done : A → Type 0) (Other : B → Type 0) {X Y : Type 0} (failed : Failed) → (X → Y) → ResultsIn (failed_with A failed) Done X → ResultsIn (failed_with B failed) Other Y
comes_err Done Other Fault f x = f x
comes_err Done Other Memory f x = tt

-- what work results in, with weaker conclusions
pub comes_as : {A : Type 0} (r : Result A Failed) (Done Other : A → Type 0) {X Y : Type 0} → ((x : A) → Done x → Other x) → (X → Y) → ResultsIn r Done X → ResultsIn r Other Y
comes_as (Ok x) Done Other f b d = f x d
comes_as (Err Fault) Done Other f b d = b d
comes_as (Err Memory) Done Other f b d = tt

-- from what finished work results in, what holds of its value
pub told_as : {A : Type 0} (r : Result A Failed) (Done P Q : A → Type 0) (X : Type 0) → ((x : A) → Done x → P x → Q x) → ResultsIn r Done X → IfOk r P → IfOk r Q
told_as (Ok x) Done P Q X f d p = f x d p
told_as (Err e) Done P Q X f d p = tt

-- what holds anyhow holds where work is done
pub holds_done : {A E : Type 0} (r : Result A E) (P : Type 0) → P → IfOk r (λ x. P)
holds_done (Ok x) P p = p
holds_done (Err e) P p = tt

-- two things that hold where work is done
pub both_of : {A : Type 0} (r : Result A Failed) (P Q : A → Type 0) → IfOk r P → IfOk r Q → IfOk r (λ x. P x × Q x)
both_of (Ok x) P Q p q = (p, q)
both_of (Err e) P Q p q = tt

-- what writing a text through the spool results in
pub comes_put : {A : Type 0} (r : Result A Failed) (old new : Outside) (put expected pending : List ℕ) → put ≡ expected → PutsThrough r old new put pending → ResultsIn r (λ x. Passes old new expected pending) (WritesPrefix old new expected)
comes_put (Ok x) old new put expected pending same p = subst (λ (text : List ℕ). Passes old new text pending) same p
comes_put (Err Fault) old new put expected pending same p = subst (λ (text : List ℕ). WritesPrefix old new text) same p.0
comes_put (Err Memory) old new put expected pending same p = tt

-- work that ends by writing all that is pending
pub comes_flushed : {A : Type 0} (r : Result A Failed) (old mid new : Outside) (expected pending : List ℕ) → Passes old mid expected pending → WritesAll r mid new pending → ResultsIn r (λ x. new ≡ with_output old expected) (WritesPrefix old new expected)
comes_flushed (Ok x) old mid new expected pending p w = passes_whole old mid new expected pending p w
comes_flushed (Err failed) old mid new expected pending p w = comes_broken _ failed (prefix_on old mid new expected pending p w)

-- the same fault in another result
fault_in : {A B : Type 0} (failed : Failed) → IsErrOf (failed_with B failed) Fault → IsErrOf (failed_with A failed) Fault
fault_in Fault e = refl
fault_in Memory e = absurd (let z : ⊥ = cc in z)

own_err : {A B : Type 0} (failed : Failed) {sure precise : Type 0} {a b : ℕ} → IsCounted (failed_with A failed) sure precise a b → IsCounted (failed_with B failed) sure precise a b
own_err failed c =
    record { no_fall = c.no_fall; fault = λ e. c.fault (fault_in failed e); done = λ p. tt; unfailing = λ s e. c.unfailing s (fault_in failed e); steady = c.steady }

-- work that failed counts the same, for any type of result
pub writing_err : {A B : Type 0} (failed : Failed) {a b : Counts} → CountsWriting (failed_with A failed) a b → CountsWriting (failed_with B failed) a b
writing_err failed c = record { rest = c.rest; own = own_err failed c.own }

pub reading_err : {A B : Type 0} {there : Type 0} (failed : Failed) {a b : Counts} → CountsReading (failed_with A failed) there a b → CountsReading (failed_with B failed) there a b
reading_err failed c = record { rest = c.rest; own = own_err failed c.own }

-- the second of two pieces of work fails: its counts
pub writing_failed : {A B : Type 0} (C : Type 0) (x : A) (failed : Failed) {a b c : Counts} → CountsWriting (done_with x) a b → CountsWriting (failed_with B failed) b c → CountsWriting (failed_with C failed) a c
writing_failed C x failed p q = writing_more x p (writing_err failed q)

pub reading_failed : {A B : Type 0} {there later : Type 0} (C : Type 0) (x : A) (failed : Failed) {a b c : Counts} → (there → later) → CountsReading (done_with x) there a b → CountsReading (failed_with B failed) later b c → CountsReading (failed_with C failed) there a c
reading_failed C x failed t p q = reading_more x t p (reading_err failed q)

-- running out of memory counts no fault
no_fault_in : (A : Type 0) → IsErrOf (failed_with A Memory) Fault → ⊥
no_fault_in A e = cc

pub writing_memory : (A : Type 0) (c : Counts) → CountsWriting (failed_with A Memory) c c
writing_memory A c =
    record { rest = refl; own = record { no_fall = omega arith; fault = λ e. absurd (no_fault_in A e); done = λ p. tt; unfailing = λ s e. no_fault_in A e; steady = λ s. refl } }

pub reading_memory : (A there : Type 0) (c : Counts) → CountsReading (failed_with A Memory) there c c
reading_memory A there c =
    record { rest = refl; own = record { no_fall = omega arith; fault = λ e. absurd (no_fault_in A e); done = λ p. tt; unfailing = λ s e. no_fault_in A e; steady = λ s. refl } }
