-- Counts of faults through two pieces of work in sequence.
use Rattle.std.proofs.Common.{◌≡◌, ℕ, ◌≤◌, true, refl, ap, ◌∙◌, arith, Result, Ok, Err}
use Rattle.std.specs.Prelude.{OnOk, IsErrOf}
use Rattle.gms_host.specs.declared.host.Failed.{Failed}
use Rattle.gms_host.specs.declared.host.Failed.TheVariants.{Fault}
use Rattle.gms_host.specs.Meaning.{Counts, Rose}
use Rattle.gms_host.specs.Rules.{IsCounted, CountsReading, CountsWriting}

-- an answer of work that is done
abbrev pub done_with : {A : Type 0} → A → Result A Failed
done_with x = Ok x

-- the answer of work that is done and gives nothing
abbrev pub all_done : Result (Unit {0}) Failed
all_done = Ok tt

-- a count that rose later rose
pub rose_later : (a b c : ℕ) → a ≤ b → Rose b c → Rose a c
rose_later a b c h rose = omega (arith, h, rose)

-- work that is done answers no fault
no_fault : {A : Type 0} (x : A) → IsErrOf (done_with x) Fault → ⊥
no_fault x e = cc

-- nothing was done
own_none : {A : Type 0} (x : A) (sure precise : Type 0) (a : ℕ) → IsCounted (done_with x) sure precise a a
own_none x sure precise a =
    record { no_fall = omega arith; fault = λ e. absurd (no_fault x e); done = λ p. refl; unfailing = λ s e. no_fault x e; steady = λ s. refl }

-- where both counts stay, the later one is the first
both_stay : {B : Type 0} (r : Result B Failed) (a b c : ℕ) → b ≡ a → OnOk r (c ≡ b) → OnOk r (c ≡ a)
both_stay (Ok y) a b c p q = q ∙ p
both_stay (Err failed) a b c p q = tt

-- two counts in sequence
own_more : {A B : Type 0} (x : A) (r : Result B Failed) (sure precise later_sure later_precise : Type 0) (a b c : ℕ) → (sure → later_sure) → (precise → later_precise) →
    IsCounted (done_with x) sure precise a b → IsCounted r later_sure later_precise b c → IsCounted r sure precise a c
own_more x r sure precise later_sure later_precise a b c s d p q =
    record {
      no_fall = let f : a ≤ b = p.no_fall in let g : b ≤ c = q.no_fall in omega (arith, f, g);
      fault = λ e. rose_later a b c p.no_fall (q.fault e);
      done = λ t. both_stay r a b c (p.done t) (q.done (d t));
      unfailing = λ t e. q.unfailing (s t) e;
      steady = λ t. q.steady (s t) ∙ p.steady t;
    }

-- nothing was written
pub writing_none : {A : Type 0} (x : A) (c : Counts) → CountsWriting (done_with x) c c
writing_none x c = record { rest = refl; own = own_none x (c.reliable ≡ true) (c.precise ≡ true) c.write_faults }

-- two pieces of work that write, in sequence
pub writing_more : {A B : Type 0} {r : Result B Failed} {a b c : Counts} (x : A) → CountsWriting (done_with x) a b → CountsWriting r b c → CountsWriting r a c
writing_more {A} {B} {r} {a} {b} {c} x p q =
    record {
      rest = q.rest ∙ ap (λ (k : Counts). record k { write_faults = c.write_faults }) p.rest;
      own = own_more x r (a.reliable ≡ true) (a.precise ≡ true) (b.reliable ≡ true) (b.precise ≡ true) a.write_faults b.write_faults c.write_faults (λ t. ap (λ (k : Counts). k.reliable) p.rest ∙ t) (λ t. ap (λ (k : Counts). k.precise) p.rest ∙ t) p.own q.own;
    }

-- nothing was read
pub reading_none : {A : Type 0} (x : A) (there : Type 0) (c : Counts) → CountsReading (done_with x) there c c
reading_none x there c = record { rest = refl; own = own_none x ((c.reliable ≡ true) × there) (c.precise ≡ true) c.read_faults }

-- two pieces of work that read, in sequence
pub reading_more : {A B : Type 0} {r : Result B Failed} {there later : Type 0} {a b c : Counts} (x : A) → (there → later) → CountsReading (done_with x) there a b → CountsReading r later b c → CountsReading r there a c
reading_more {A} {B} {r} {there} {later} {a} {b} {c} x t p q =
    record {
      rest = q.rest ∙ ap (λ (k : Counts). record k { read_faults = c.read_faults }) p.rest;
      own = own_more x r ((a.reliable ≡ true) × there) (a.precise ≡ true) ((b.reliable ≡ true) × later) (b.precise ≡ true) a.read_faults b.read_faults c.read_faults (λ s. (ap (λ (k : Counts). k.reliable) p.rest ∙ s.0, t s.1)) (λ s. ap (λ (k : Counts). k.precise) p.rest ∙ s) p.own q.own;
    }

-- work that is done counts the same, whatever its answer
pub writing_done : {A B : Type 0} {a b : Counts} (x : A) (y : B) → CountsWriting (done_with x) a b → CountsWriting (done_with y) a b
writing_done {A} {B} {a} {b} x y p =
    writing_more x p (writing_none y b)
