-- What a call that appends has done when one of its parts has failed.
use Rattle.std.proofs.Common.{◌≡◌, ℕ, ◌+◌, ◌-◌, ◌≤◌, ◌∙◌, sym, ap, refl, List, [], ◌++◌, Result, Ok, Err, arith}
use Rattle.std.specs.Prelude.{IsErr, is_ok, if◌then◌else◌}
use Rattle.std.proofs.lemmas.List.{append_assoc, replicate-append-replicate, append-nil}
use Rattle.gms_fmt.specs.Columns.{blanks, IsExtendedByPrefix, Appends}

pub failed : {A E : Type 0} (old new text : List ℕ) (result : Result A E) → IsErr result → IsExtendedByPrefix old text new → Appends result old new text
failed old new text (Ok x) is begins = cc
failed old new text (Err e) is begins = begins

pub prefix_of : {A E : Type 0} (old new text : List ℕ) (result : Result A E) → IsErr result → Appends result old new text → IsExtendedByPrefix old text new
prefix_of old new text (Ok x) is appended = cc
prefix_of old new text (Err e) is appended = appended

pub some_blanks : (few many : ℕ) (old new : List ℕ) → few ≤ many → new ≡ old ++ blanks few → IsExtendedByPrefix old (blanks many) new
some_blanks few many old new fewer e =
    let n : few + (many - few) ≡ many = omega arith in
    (blanks few, blanks (many - few), sym (ap blanks n) ∙ sym (replicate-append-replicate few (many - few) 32), e)

-- a prefix of a first text is a prefix of both
pub begins_first : (old new first second : List ℕ) → IsExtendedByPrefix old first new → IsExtendedByPrefix old (first ++ second) new
begins_first old new first second b = (b.0, b.1 ++ second, ap (λ t. t ++ second) b.2 ∙ append_assoc b.0 b.1 second, b.3)

-- all of a first text, and a prefix of the second
pub begins_second : (old middle new first second : List ℕ) → middle ≡ old ++ first → IsExtendedByPrefix middle second new → IsExtendedByPrefix old (first ++ second) new
begins_second old middle new first second e b =
    (first ++ b.0, b.1, ap (λ t. first ++ t) b.2 ∙ sym (append_assoc first b.0 b.1), b.3 ∙ ap (λ t. t ++ b.0) e ∙ append_assoc old first b.0)

-- a second text is appended to a first
pub appended : {A E : Type 0} (old middle new first second : List ℕ) (result : Result A E) → middle ≡ old ++ first → Appends result middle new second → Appends result old new (first ++ second)
appended old middle new first second (Ok x) e h = h ∙ ap (λ t. t ++ second) e ∙ append_assoc old first second
appended old middle new first second (Err x) e h = begins_second old middle new first second e h

-- what is appended or not, by whether the call answers Ok
pub by_items : {A E : Type 0} (old new text : List ℕ) (result : Result A E) → new ≡ (if is_ok result then old ++ text else old) → Appends result old new text
by_items old new text (Ok x) e = e
by_items old new text (Err x) e = ([], text, refl, e ∙ sym (append-nil old))
