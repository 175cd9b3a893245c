-- Quoted texts and labels without their marks.
use Rattle.std.proofs.Common.{◌≡◌, ℕ, suc, ◌+◌, ◌-◌, ◌<◌, ◌≤◌, Bool, true, false, cond, List, [], ◌∷◌, length, take, refl, ap, ◌∙◌, arith, length-take}
use Rattle.std.proofs.lemmas.Str.{IsAscii-take, IsAscii-drop}
use Rattle.std.specs.Str.{IsAscii}
use Rattle.gms_grammar.specs.Lines.{begins}
use Rattle.gms_grammar.specs.Bytes.{is_quote}
use Rattle.gms_lex.specs.TokenTexts.{unquoted}

-- they are no longer
pub unquoted-le : (text : List ℕ) → length (unquoted text) ≤ length text
unquoted-le [] = omega arith
unquoted-le (b ∷ text) = go (is_quote b)
  where
    go : (c : Bool) → length (cond c (take (length text - 1) text) (b ∷ text)) ≤ length (b ∷ text)
    go true = omega (arith, length-take (length text - 1) text)
    go false = omega arith

-- they are of ASCII, where the whole is
pub unquoted_ascii : (text : List ℕ) → IsAscii text → IsAscii (unquoted text)
unquoted_ascii [] h = h
unquoted_ascii (b ∷ text) h = go (is_quote b)
  where
    go : (c : Bool) → IsAscii (cond c (take (length text - 1) text) (b ∷ text))
    go true = IsAscii-take text (length text - 1) (IsAscii-drop (b ∷ text) 1 h)
    go false = h

-- a text that begins with a mark is two bytes shorter without its marks
pub unquoted_short : (text : List ℕ) (n : ℕ) → begins is_quote text ≡ true → length text ≤ n + 2 → length (unquoted text) ≤ n
unquoted_short [] n quote short = omega arith
unquoted_short (b ∷ text) n quote short =
    let marks : length (unquoted (b ∷ text)) ≡ length (take (length text - 1) text) = ap (λ c. length (cond c (take (length text - 1) text) (b ∷ text))) quote in
    omega (arith, marks, length-take (length text - 1) text)

-- a text that begins with no mark is its own
pub unquoted_same : (text : List ℕ) → begins is_quote text ≡ false → unquoted text ≡ text
unquoted_same [] h = refl
unquoted_same (b ∷ text) h = ap (λ c. cond c (take (length text - 1) text) (b ∷ text)) h

-- a text between two marks is the text
pub unquoted_inner : (mark : ℕ) (text : List ℕ) (inner : ℕ) → is_quote mark ≡ true → inner < length text → length (unquoted (take (inner + 2) (mark ∷ text))) ≡ inner
unquoted_inner mark text inner quote some =
    let long : inner + 2 ≡ suc (inner + 1) = omega arith in
    let following : List ℕ = take (inner + 1) text in
    let marks : length (unquoted (mark ∷ following)) ≡ length (take (length following - 1) following) = ap (λ c. length (cond c (take (length following - 1) following) (mark ∷ following))) quote in
    ap (λ n. length (unquoted (take n (mark ∷ text)))) long ∙ marks ∙ omega (arith, length-take (inner + 1) text, length-take (length following - 1) following)
