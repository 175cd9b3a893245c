-- What a spool does to an output: bytes that were written, those that are pending, and the rest of
-- a text that is put.
use Rattle.std.proofs.Common.{◌≡◌, ℕ, ◌-◌, List, [], ◌++◌, length, take, drop, sym, ap, ◌∙◌, subst, append_assoc, append-nil, Result, Err}
use Rattle.std.proofs.lemmas.List.{take-append-drop}
use Rattle.gms_host.specs.declared.host.Failed.{Failed}
use Rattle.gms_host.specs.Meaning.{Outside}
use Rattle.gms_host.specs.Rules.{with_output}
use Rattle.gms_host.specs.Spooling.{Passes, PutsThrough, WritesAll, WritesPrefix}
use Rattle.gms_host.proofs.WrittenPrefixes.{passes_on, passes_after, prefix_on, prefix_longer, rest_from}

-- space was made, and `k` more bytes of the rest are pending
pub put_more : (old now next : Outside) (expected pending left rest new : List ℕ) (k : ℕ) → Passes old now expected (pending ++ rest) → Passes now next pending left → new ≡ left ++ take k rest → Passes old next expected (new ++ take (length rest - k) (drop k rest))
put_more old now next expected pending left rest new k so p e =
    let following : List ℕ = take (length rest - k) (drop k rest) in
    let split : rest ≡ take k rest ++ following = sym (take-append-drop k rest) ∙ ap (λ (r : List ℕ). take k rest ++ r) (sym (rest_from rest k)) in
    let same : left ++ rest ≡ new ++ following = ap (λ (r : List ℕ). left ++ r) split ∙ sym (append_assoc left (take k rest) following) ∙ ap (λ (r : List ℕ). r ++ following) (sym e) in
    subst (Passes old next expected) same (passes_on old now next expected (pending ++ rest) (left ++ rest) so (passes_after rest p))

-- all is put
pub put_all : {old now : Outside} {expected pending rest : List ℕ} → Passes old now expected (pending ++ rest) → rest ≡ [] → Passes old now expected pending
put_all {old} {now} {expected} {pending} {rest} so e = subst (Passes old now expected) (ap (λ (r : List ℕ). pending ++ r) e ∙ append-nil pending) so

-- space could not be made
pub put_short : {A : Type 0} (old now next : Outside) (expected pending left rest : List ℕ) (r : Result A Failed) (failed : Failed) → r ≡ Err failed → Passes old now expected (pending ++ rest) → WritesPrefix now next pending × (left ≡ []) → PutsThrough r old next expected left
put_short {A} old now next expected pending left rest r failed is so f =
    subst (λ (x : Result A Failed). PutsThrough x old next expected left) (sym is) (prefix_on old now next expected (pending ++ rest) so (prefix_longer rest f.0), f.1)

-- if not all was written, a prefix was
pub written_prefix : {A : Type 0} (old new : Outside) (expected left : List ℕ) (r : Result A Failed) (failed : Failed) → r ≡ Err failed → Passes old new expected left → WritesAll r old new expected
written_prefix {A} old new expected left r failed is p = subst (λ (x : Result A Failed). WritesAll x old new expected) (sym is) (left, p)

-- if nothing remains all was written
pub written_all : (old new : Outside) (expected left : List ℕ) → Passes old new expected left → left ≡ [] → new ≡ with_output old expected
written_all old new expected left p none = p.written ∙ ap (λ (r : List ℕ). with_output old r) (sym (p.split ∙ ap (λ (r : List ℕ). p.bytes ++ r) none ∙ append-nil p.bytes))
