use Rattle.std.proofs.Common.{◌≡◌, ◌∙◌, ◌++◌, ◌∷◌, ℕ, List, codes, decimal}
use Rattle.gms_save_text.specs.SavedState.{saved_line}
use Rattle.gms_save_text.proofs.Finding.{handed_on}
use Rattle.gms_save_text.proofs.Lines.{line_prefix, line_last}
use Rattle.gms_save_text.proofs.parts.head_at.Goals as goal

-- the line, item by item
line : (word name : List ℕ) (n : ℕ) (rest : List ℕ) → saved_line (word ++ (name ++ (codes " " ++ decimal n))) ++ rest ≡ word ++ (name ++ 32 ∷ (decimal n ++ 10 ∷ rest))
line word name n rest = line_prefix word (name ++ 32 ∷ decimal n) rest (name ++ 32 ∷ (decimal n ++ 10 ∷ rest)) (line_last name (decimal n) rest)

pub returns-in_err-following : goal.returns-in_err-following
returns-in_err-following c n rest few is =
    handed_on _ _ _ _ c.from_residual.ensures.1 (c.in_err-following.ensures (32 ∷ (decimal n ++ 10 ∷ rest)) (is ∙ line c.args.word.now c.args.name.now n rest))

pub returns-in_err-digits : goal.returns-in_err-digits
returns-in_err-digits c n rest few is =
    let following = c.in_ok-following.ensures (32 ∷ (decimal n ++ 10 ∷ rest)) (is ∙ line c.args.word.now c.args.name.now n rest) in
    handed_on _ _ _ _ c.from_residual-in_err-digits.ensures.1 (c.in_err-digits.ensures (decimal n ++ 10 ∷ rest) following)

pub returns : goal.returns
returns c n rest few is =
    let following = c.in_ok-following.ensures (32 ∷ (decimal n ++ 10 ∷ rest)) (is ∙ line c.args.word.now c.args.name.now n rest) in
    c.count_line.ensures n rest few (c.in_ok-digits.ensures (decimal n ++ 10 ∷ rest) following)
