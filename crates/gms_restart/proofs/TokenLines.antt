-- The lines of the tokens of a saved source, and of those of a file after it.
use Rattle.std.proofs.Common.{◌≡◌, ℕ, ◌+◌, ◌≤◌, ◌==◌, nat_lt, Bool, true, false, List, [], ◌∷◌, ◌++◌, length, take, filter, All, refl, ap, ◌∙◌, subst, arith, inl, inr}
use Rattle.std.specs.Prelude.{if◌then◌else◌}
use Rattle.std.proofs.lemmas.List.{length-append}
use Rattle.std.proofs.lemmas.List.Elements.{All-head, All-tail, filter-append}
use Rattle.std.proofs.Math.Seq.{take-append-add, take-length}
use Rattle.gms_labels.specs.declared.place.Place.{Place}
use Rattle.gms_grammar.proofs.LineLemmas.{below_or}
use Rattle.gms_grammar.specs.Columns.{column_after}
use Rattle.gms_lex.specs.declared.token.Token.{Token}
use Rattle.gms_lex.specs.Places.{IsEarlier, place_after_bytes, place_of_byte, source_start}
use Rattle.gms_lex.specs.TokenTexts.{IsPlaced}
use Rattle.gms_lex.proofs.PlaceLemmas.{places_in_order}
use Rattle.gms_expressions.specs.Outcomes.{kinded_tokens}
use Rattle.gms_parse.specs.ReadStates.{KindedToken}
use Rattle.gms_run_laws.proofs.FormKeys.{EachHas}
use Rattle.gms_run_laws.proofs.Padding.{test-of}
use Rattle.gms_joint_source.specs.JointSources.{first_line, joint_source}

-- ---- the lines of places

-- a line feed
abbrev is_feed : ℕ → Bool
is_feed byte = byte == 10

-- how many line feeds bytes have
abbrev feeds : List ℕ → ℕ
feeds bytes = length (filter is_feed bytes)

-- the line after bytes
line-following : (bytes : List ℕ) (at : Place) → (place_after_bytes at bytes).line ≡ at.line + feeds bytes
line-following [] at = omega arith
line-following (b ∷ bytes) at = by (is_feed b) (line-following bytes)
  where
    by : (c : Bool) → ((p : Place) → (place_after_bytes p bytes).line ≡ p.line + feeds bytes) → (place_after_bytes (if c then record { line = at.line + 1; column = 1 } else record { line = at.line; column = column_after at.column b }) bytes).line ≡ at.line + length (if c then b ∷ filter is_feed bytes else filter is_feed bytes)
    by true rest = omega (arith, rest (record { line = at.line + 1; column = 1 }))
    by false rest = rest (record { line = at.line; column = column_after at.column b })

-- a later byte is on no earlier line
not-above : (source : List ℕ) (m n : ℕ) → m ≤ n → n ≤ length source → (place_of_byte source m).line ≤ (place_of_byte source n).line
not-above source m n le within = elim (below_or m n) [
  | inl before ↦ by (places_in_order source m n before within)
  | inr following ↦ let same : m ≡ n = omega (arith, le, following) in subst (λ k. (place_of_byte source m).line ≤ (place_of_byte source k).line) same (omega arith)
]
  where
    by : IsEarlier (place_of_byte source m) (place_of_byte source n) → (place_of_byte source m).line ≤ (place_of_byte source n).line
    by (inl less) = omega (arith, less)
    by (inr same) = omega (arith, same.0)

-- the line of the end of a source
end-line : (source : List ℕ) → (place_of_byte source (length source)).line ≡ 1 + feeds source
end-line source = ap (λ bytes. (place_after_bytes source_start bytes).line) (take-length source) ∙ line-following source source_start

-- the line of the first byte of a file
file-line : (saved file : List ℕ) → (place_of_byte (joint_source saved file) (length saved + 3)).line ≡ first_line saved
file-line saved file =
    let joining : List ℕ = 10 ∷ 59 ∷ 10 ∷ [] in
    let prefix : take (length saved + 3) (joint_source saved file) ≡ saved ++ joining = take-append-add saved (10 ∷ 59 ∷ 10 ∷ file) 3 in
    let line : (place_after_bytes source_start (saved ++ joining)).line ≡ 1 + feeds (saved ++ joining) = line-following (saved ++ joining) source_start in
    let parts : feeds (saved ++ joining) ≡ length (filter is_feed saved ++ filter is_feed joining) = ap (λ (bytes : List ℕ). length bytes) (filter-append is_feed saved joining) in
    let size : length (filter is_feed saved ++ filter is_feed joining) ≡ feeds saved + feeds joining = length-append (filter is_feed saved) (filter is_feed joining) in
    let two : feeds joining ≡ 2 = refl in
    let first : first_line saved ≡ feeds saved + 3 = refl in
    let there : (place_after_bytes source_start (saved ++ joining)).line ≡ first_line saved = omega (arith, line, parts, size, two, first) in
    ap (λ bytes. (place_after_bytes source_start bytes).line) prefix ∙ there

-- ---- the saved source

-- a token that begins above a line
abbrev pub IsEarly : ℕ → KindedToken → Type 0
IsEarly line t = nat_lt t.1.at.line line ≡ true

pub seen-early : (saved : List ℕ) (tokens : List Token) → All (IsPlaced saved) tokens → EachHas (IsEarly (first_line saved)) (kinded_tokens saved tokens)
seen-early saved [] all = tt
seen-early saved (token ∷ tokens) all =
    let placed : IsPlaced saved token = All-head (IsPlaced saved) token tokens all in
    let within : token.start ≤ length saved = omega (arith, placed.starts, placed.ends) in
    let line : token.at.line ≡ (place_of_byte saved token.start).line = ap (λ (at : Place). at.line) placed.at in
    let most : (place_of_byte saved token.start).line ≤ (place_of_byte saved (length saved)).line = not-above saved token.start (length saved) within (omega arith) in
    let first : first_line saved ≡ feeds saved + 3 = refl in
    (test-of token.at.line (first_line saved) (omega (arith, line, most, end-line saved, first)), seen-early saved tokens (All-tail (IsPlaced saved) token tokens all))

-- ---- the file

-- a token that does not begin above a line
abbrev pub IsLate : ℕ → KindedToken → Type 0
IsLate line t = line ≤ t.1.at.line

pub seen-late : (saved file : List ℕ) (tokens : List Token) → All (IsPlaced (joint_source saved file)) tokens → All (λ (token : Token). length saved + 3 ≤ token.start) tokens → EachHas (IsLate (first_line saved)) (kinded_tokens (joint_source saved file) tokens)
seen-late saved file [] all below = tt
seen-late saved file (token ∷ tokens) all below =
    let joint : List ℕ = joint_source saved file in
    let placed : IsPlaced joint token = All-head (IsPlaced joint) token tokens all in
    let within : token.start ≤ length joint = omega (arith, placed.starts, placed.ends) in
    let line : token.at.line ≡ (place_of_byte joint token.start).line = ap (λ (at : Place). at.line) placed.at in
    let least : (place_of_byte joint (length saved + 3)).line ≤ (place_of_byte joint token.start).line = not-above joint (length saved + 3) token.start (All-head (λ (token : Token). length saved + 3 ≤ token.start) token tokens below) within in
    (omega (arith, line, least, file-line saved file), seen-late saved file tokens (All-tail (IsPlaced joint) token tokens all) (All-tail (λ (token : Token). length saved + 3 ≤ token.start) token tokens below))

-- ---- parts of lists

pub prefix-has : {A : Type 0} (P : A → Type 0) (xs ys : List A) → EachHas P (xs ++ ys) → EachHas P xs
prefix-has P [] ys all = tt
prefix-has P (x ∷ xs) ys all = (all.0, prefix-has P xs ys all.1)

pub rest-has : {A : Type 0} (P : A → Type 0) (xs ys : List A) → EachHas P (xs ++ ys) → EachHas P ys
rest-has P [] ys all = all
rest-has P (x ∷ xs) ys all = rest-has P xs ys all.1

pub all-following : {A : Type 0} (P : A → Type 0) (xs ys : List A) → All P (xs ++ ys) → All P ys
all-following P [] ys all = all
all-following P (x ∷ xs) ys all = all-following P xs ys (All-tail P x (xs ++ ys) all)
