-- Texts that are written over a host in sequence.
use Rattle.std.proofs.Common.{◌≡◌, ℕ, ◌-◌, List, [], ◌++◌, length, take, drop, Option, Some, None, refl, sym, ap, ◌∙◌, append_assoc, append-nil, arith, length-drop, take-append-drop}
use Rattle.std.proofs.lemmas.List.{take_all}
use Rattle.gms_host.specs.Meaning.{Outside}
use Rattle.gms_host.specs.Rules.{told_with, with_output, with_said}
use Rattle.gms_host.specs.Spooling.{Passes, Speaks, WritesPrefix}

-- the part after a place, as a slice
pub rest_from : {X : Type 0} (xs : List X) (k : ℕ) → take (length xs - k) (drop k xs) ≡ drop k xs
rest_from xs k = take_all (length xs - k) (drop k xs) (simp length-drop (omega arith))

-- a text in two parts at a place, where the second is taken as a slice
split_at : (text : List ℕ) (k : ℕ) → text ≡ take k text ++ take (length text - k) (drop k text)
split_at text k = sym (take-append-drop k text) ∙ ap (λ (r : List ℕ). take k text ++ r) (sym (rest_from text k))

told-none : {A : Type 0} (o : Option (List A)) → o ≡ told_with o []
told-none None = refl
told-none (Some b) = ap Some (sym (append-nil b))

told-more : {A : Type 0} (o : Option (List A)) (x y : List A) → told_with (told_with o x) y ≡ told_with o (x ++ y)
told-more None x y = refl
told-more (Some b) x y = ap Some (append_assoc b x y)

-- Nothing was added to the output, or some bytes and then others.
pub output-none : (o : Outside) → o ≡ with_output o []
output-none o = ap (λ (bytes : Option (List ℕ)). record o { output = bytes }) (told-none o.output)

pub output-both : (a b c : Outside) (x y : List ℕ) → b ≡ with_output a x → c ≡ with_output b y → c ≡ with_output a (x ++ y)
output-both a b c x y p q =
    q ∙ ap (λ (o : Outside). with_output o y) p ∙ ap (λ (bytes : Option (List ℕ)). record a { output = bytes }) (told-more a.output x y)

-- Nothing was added to standard output, or some bytes and then others.
pub said-none : (o : Outside) → o ≡ with_said o []
said-none o = ap (λ (bytes : Option (List ℕ)). record o { said = bytes }) (told-none o.said)

pub said-both : (a b c : Outside) (x y : List ℕ) → b ≡ with_said a x → c ≡ with_said b y → c ≡ with_said a (x ++ y)
said-both a b c x y p q =
    q ∙ ap (λ (o : Outside). with_said o y) p ∙ ap (λ (bytes : Option (List ℕ)). record a { said = bytes }) (told-more a.said x y)

-- ---- the output

-- Nothing of the expected text was written.
pub passes_none : (o : Outside) (expected : List ℕ) → Passes o o expected expected
passes_none o expected = record { bytes = []; written = output-none o; split = refl }

-- All of it went out.
pub passes_all : {old new : Outside} {expected left : List ℕ} → new ≡ with_output old expected → left ≡ [] → Passes old new expected left
passes_all {old} {new} {expected} w none = record { bytes = expected; written = w; split = sym (append-nil expected) ∙ ap (λ (r : List ℕ). expected ++ r) (sym none) }

-- Of what is pending more went out.
pub passes_on : (old mid new : Outside) (expected pending left : List ℕ) → Passes old mid expected pending → Passes mid new pending left → Passes old new expected left
passes_on old mid new expected pending left p q =
    record { bytes = p.bytes ++ q.bytes; written = output-both old mid new p.bytes q.bytes p.written q.written; split = p.split ∙ ap (λ (r : List ℕ). p.bytes ++ r) q.split ∙ sym (append_assoc p.bytes q.bytes left) }

-- More may be appended to the expected text and to what is pending.
pub passes_after : {old new : Outside} {expected pending : List ℕ} (more : List ℕ) → Passes old new expected pending → Passes old new (expected ++ more) (pending ++ more)
passes_after {old} {new} {expected} {pending} more p = record { bytes = p.bytes; written = p.written; split = ap (λ (r : List ℕ). r ++ more) p.split ∙ append_assoc p.bytes pending more }

-- The first `k` bytes of what is pending were written.
pub passes_write : (old now next : Outside) (expected rest : List ℕ) (k : ℕ) → Passes old now expected rest → next ≡ with_output now (take k rest) → Passes old next expected (take (length rest - k) (drop k rest))
passes_write old now next expected rest k p w = passes_on old now next expected rest _ p (record { bytes = take k rest; written = w; split = split_at rest k })

-- All that was pending was written.
pub passes_whole : (old mid new : Outside) (expected pending : List ℕ) → Passes old mid expected pending → new ≡ with_output mid pending → new ≡ with_output old expected
passes_whole old mid new expected pending p w = output-both old mid new p.bytes pending p.written w ∙ ap (λ (r : List ℕ). with_output old r) (sym p.split)

-- A prefix of what was pending was written, and so a prefix of the expected text, no shorter than
-- what was written before.
pub prefix_on : (old mid new : Outside) (expected pending : List ℕ) → Passes old mid expected pending → WritesPrefix mid new pending → WritesPrefix old new expected
prefix_on old mid new expected pending p f = (f.0, passes_on old mid new expected pending f.0 p f.1)

-- A prefix of a text is one of a longer text.
pub prefix_longer : {old new : Outside} {expected : List ℕ} (more : List ℕ) → WritesPrefix old new expected → WritesPrefix old new (expected ++ more)
prefix_longer more f = (f.0 ++ more, passes_after more f.1)

-- ---- standard output

-- Nothing of a line was printed.
pub speaks_none : (o : Outside) (line : List ℕ) → Speaks o o line line
speaks_none o line = record { bytes = []; said = said-none o; split = refl }

-- The next `k` bytes of a line were printed.
pub speaks_say : (old now next : Outside) (line rest : List ℕ) (k : ℕ) → Speaks old now line rest → next ≡ with_said now (take k rest) → Speaks old next line (take (length rest - k) (drop k rest))
speaks_say old now next line rest k p w =
    record {
      bytes = p.bytes ++ take k rest;
      said = said-both old now next p.bytes (take k rest) p.said w;
      split = p.split ∙ ap (λ (r : List ℕ). p.bytes ++ r) (split_at rest k) ∙ sym (append_assoc p.bytes (take k rest) (take (length rest - k) (drop k rest)));
    }

-- The whole line was printed.
pub speaks_all : (old new : Outside) (line rest : List ℕ) → Speaks old new line rest → rest ≡ [] → new ≡ with_said old line
speaks_all old new line rest p none = p.said ∙ ap (λ (r : List ℕ). with_said old r) (sym (p.split ∙ ap (λ (r : List ℕ). p.bytes ++ r) none ∙ append-nil p.bytes))
