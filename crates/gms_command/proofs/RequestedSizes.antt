-- The size of a generated model that arguments request is from 1 to 30.
use Rattle.std.proofs.Common.{◌≡◌, ◌≤◌, ◌<◌, ◌+◌, ℕ, Bool, true, false, zero, suc, List, cond, Option, Some, None, option_map, ap, arith, refl, ◌∙◌}
use Rattle.std.specs.Prelude.{codes, find, decimal}
use Rattle.std.specs.List.{range_with_len}
use Rattle.std.specs.Str.{bytes_eq}
use Rattle.std.proofs.lemmas.Option.{option_and_then_some}
use Rattle.clap.specs.Words.{first_of}
use Rattle.gms_command.specs.CommandLine.{Asked, Origin, asked, generated, is_flag_given, origin_of, request_in, request_of, rows_taken, size_of}

-- a number that a text names among the numbers from a first one on
among : (text : List ℕ) (first count size : ℕ) → find (λ size. bytes_eq (decimal size) text) (range_with_len first count) ≡ Some size → (first ≤ size) × (size < first + count)
among text first zero size e = absurd (let z : ⊥ = cc in z)
among text first (suc count) size e = by (bytes_eq (decimal first) text) (among text (first + 1) count size) e
  where
    by : (b : Bool) → (find (λ size. bytes_eq (decimal size) text) (range_with_len (first + 1) count) ≡ Some size → (first + 1 ≤ size) × (size < first + 1 + count)) → cond b (Some first) (find (λ size. bytes_eq (decimal size) text) (range_with_len (first + 1) count)) ≡ Some size → (first ≤ size) × (size < first + suc count)
    by true later e = let is : first ≡ size = cc in (omega (arith, is), omega (arith, is))
    by false later e =
        let rest = later e in
        let low : first + 1 ≤ size = rest.0 in
        let high : size < first + 1 + count = rest.1 in
        (omega (arith, low), omega (arith, high))

-- a size that a text names is from 1 to 30
size_within : (text : List ℕ) (size : ℕ) → size_of text ≡ Some size → (1 ≤ size) × (size ≤ 30)
size_within text size e =
    let h = among text 1 30 size e in
    let high : size < 31 = h.1 in
    (h.0, omega (arith, high))

-- the size of a generated model that options name is from 1 to 30
origin_within : (file text saved : Option (List ℕ)) (size : ℕ) → origin_of file text saved ≡ Some (generated size) → (1 ≤ size) × (size ≤ 30)
origin_within None (Some text) None size e = by (size_of text) refl e
  where
    by : (o : Option ℕ) → size_of text ≡ o → option_map generated o ≡ Some (generated size) → (1 ≤ size) × (size ≤ 30)
    by (Some found) is e = size_within text size (let same : found ≡ size = cc in is ∙ ap (λ (n : ℕ). Some n) same)
    by None is e = absurd (let z : ⊥ = cc in z)
origin_within None None saved size e = absurd (let z : ⊥ = cc in z)
origin_within None (Some text) (Some saved) size e = absurd (let z : ⊥ = cc in z)
origin_within (Some file) None None size e = absurd (let z : ⊥ = cc in z)
origin_within (Some file) None (Some saved) size e = absurd (let z : ⊥ = cc in z)
origin_within (Some file) (Some text) saved size e = absurd (let z : ⊥ = cc in z)

-- the source of what options request
source_of : (ranges : Bool) (save out : Option (List ℕ)) (o : Option Origin) (request : Asked) → option_map (asked ranges save out) o ≡ Some request → o ≡ Some request.source
source_of ranges save out (Some origin) request e = let same : asked ranges save out origin ≡ request = cc in ap (λ (r : Asked). Some r.source) same
source_of ranges save out None request e = absurd (let z : ⊥ = cc in z)

-- the size of a generated model that arguments request is from 1 to 30
pub requested_within : (words : List (List ℕ)) (request : Asked) (size : ℕ) → request_of words ≡ Some request → request.source ≡ generated size → (1 ≤ size) × (size ≤ 30)
requested_within words request size named is =
    option_and_then_some request_in (rows_taken words) request named
    (λ rows some asks. origin_within (first_of (codes "file") rows) (first_of (codes "generate") rows) (first_of (codes "restart") rows) size (source_of (is_flag_given (first_of (codes "ranges") rows)) (first_of (codes "save") rows) (first_of (codes "out") rows) _ request asks ∙ ap (λ (o : Origin). Some o) is))
