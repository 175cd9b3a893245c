use Rattle.std.proofs.Common.{◌≡◌, ◌∙◌, ◌≤◌, ◌<◌, ◌++◌, ◌∷◌, ℕ, List, length, take, drop, codes, decimal, ap, ap₂, arith, append_assoc, length-append}
use Rattle.gms_save_text.specs.SavedState.{saved_line, source_text}
use Rattle.gms_save_text.proofs.Cuts.{take_prefix, drop_prefix}
use Rattle.gms_save_text.proofs.Finding.{handed_on}
use Rattle.gms_save_text.proofs.Lines.{line_end, line_prefix}
use Rattle.gms_save_text.proofs.whole.read_source.Goals as goal

-- the text after the count
abbrev after_count : List ℕ → List ℕ → List ℕ
after_count source rest = source ++ 10 ∷ rest

-- the source, item by item
line : (source rest : List ℕ) → source_text source ++ rest ≡ codes "source " ++ (decimal (length source) ++ 10 ∷ after_count source rest)
line source rest =
    append_assoc (saved_line (codes "source " ++ decimal (length source))) (saved_line source) rest
    ∙ ap (λ l. saved_line (codes "source " ++ decimal (length source)) ++ l) (line_end source rest)
    ∙ line_prefix (codes "source ") (decimal (length source)) (after_count source rest) (decimal (length source) ++ 10 ∷ after_count source rest) (line_end (decimal (length source)) (after_count source rest))

-- a source is shorter than the text after its count
short : (source rest : List ℕ) → length source < length (after_count source rest)
short source rest = let size = length-append source (10 ∷ rest) in omega (arith, size)

no_longer : (source rest : List ℕ) → length source ≤ length (after_count source rest)
no_longer source rest = let less = short source rest in omega (arith, less)

pub returns-in_err-first : goal.returns-in_err-first
returns-in_err-first c source rest is =
    handed_on _ _ _ _ c.from_residual.ensures.1 (c.in_err-first.ensures (source_text source ++ rest) is)

pub returns-in_err-digits : goal.returns-in_err-digits
returns-in_err-digits c source rest is =
    let first = c.in_ok-first.ensures (source_text source ++ rest) is in
    handed_on _ _ _ _ c.from_residual-in_err-digits.ensures.1 (c.in_err-digits.ensures (decimal (length source) ++ 10 ∷ after_count source rest) (first ∙ line source rest))

pub returns-in_err-count : goal.returns-in_err-count
returns-in_err-count c source rest is =
    let first = c.in_ok-first.ensures (source_text source ++ rest) is in
    let digits = c.in_ok-digits.ensures (decimal (length source) ++ 10 ∷ after_count source rest) (first ∙ line source rest) in
    handed_on _ _ _ _ c.from_residual-in_err-count.ensures.1 (c.in_err-count.ensures (length source) (after_count source rest) (no_longer source rest) digits)

pub returns-then-count-following : goal.returns-then-count-following
returns-then-count-following c source rest is =
    let first = c.in_ok-first.ensures (source_text source ++ rest) is in
    let digits = c.in_ok-digits.ensures (decimal (length source) ++ 10 ∷ after_count source rest) (first ∙ line source rest) in
    let found = c.in_ok-count.ensures (length source) (after_count source rest) (no_longer source rest) digits in
    let count = found.0 in
    let size : length c.in_ok-count.following.now ≡ length (after_count source rest) = ap length found.1 in
    let less = short source rest in
    let test = c.if-count-following.true in
    absurd (omega (arith, count, size, less))

pub returns-in_err-rest : goal.returns-in_err-rest
returns-in_err-rest c source rest is =
    let first = c.in_ok-first.ensures (source_text source ++ rest) is in
    let digits = c.in_ok-digits.ensures (decimal (length source) ++ 10 ∷ after_count source rest) (first ∙ line source rest) in
    let found = c.in_ok-count.ensures (length source) (after_count source rest) (no_longer source rest) digits in
    let end : c.split_at.result.1.now ≡ 10 ∷ rest = c.split_at.ensures.back ∙ ap₂ (λ (n : ℕ) (l : List ℕ). drop n l) found.0 found.1 ∙ drop_prefix source (10 ∷ rest) in
    handed_on _ _ _ _ c.from_residual-in_err-rest.ensures.1 (c.in_err-rest.ensures rest end)

pub returns : goal.returns
returns c source rest is =
    let first = c.in_ok-first.ensures (source_text source ++ rest) is in
    let digits = c.in_ok-digits.ensures (decimal (length source) ++ 10 ∷ after_count source rest) (first ∙ line source rest) in
    let found = c.in_ok-count.ensures (length source) (after_count source rest) (no_longer source rest) digits in
    let end : c.split_at.result.1.now ≡ 10 ∷ rest = c.split_at.ensures.back ∙ ap₂ (λ (n : ℕ) (l : List ℕ). drop n l) found.0 found.1 ∙ drop_prefix source (10 ∷ rest) in
    (c.split_at.ensures.front ∙ ap₂ (λ (n : ℕ) (l : List ℕ). take n l) found.0 found.1 ∙ take_prefix source (10 ∷ rest), c.in_ok-rest.ensures rest end)
