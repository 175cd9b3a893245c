-- How the lines of a text, and what they contain, are found from its start.
use Rattle.std.proofs.Common.{◌≡◌, ◌⊎◌, inl, inr, ℕ, suc, ◌+◌, ◌==◌, ◌<◌, ◌≤◌, Bool, true, false, nat_lt, if◌then◌else◌, List, [], ◌∷◌, length, take, drop, get_or, refl, sym, ap, ◌∙◌, subst, arith, drop-cons}
use Rattle.std.proofs.lemmas.Grind.{common_steps}
use Rattle.std.proofs.lemmas.Bool.Decides.{nat_tests}
use Rattle.gms_grammar.specs.Lines.{put_first, lines, before, line_length}

-- a test is true or false
pub true_or_false : (b : Bool) → (b ≡ true) ⊎ (b ≡ false)
true_or_false true = inl refl
true_or_false false = inr refl

-- a number is below another, or it is not
pub below_or : (a b : ℕ) → (a < b) ⊎ (b ≤ a)
below_or a b = elim (true_or_false (nat_lt a b)) [ inl h ↦ inl (grind (arith, nat_tests, h)) | inr h ↦ inr (grind (arith, nat_tests, h)) ]

-- a line feed is the end of its line
line_length-feed : (b : ℕ) (text : List ℕ) → (b == 10) ≡ true → line_length (b ∷ text) ≡ 1
line_length-feed b text h = grind (arith, nat_tests, common_steps)

-- any other byte makes the line one longer
line_length-cons : (b : ℕ) (text : List ℕ) → (b == 10) ≡ false → line_length (b ∷ text) ≡ suc (line_length text)
line_length-cons b text h = grind (arith, nat_tests, common_steps)

lines-feed : (b : ℕ) (text : List ℕ) → (b == 10) ≡ true → lines (b ∷ text) ≡ (b ∷ []) ∷ lines text
lines-feed b text h = ap (λ v. if v then (b ∷ []) ∷ lines text else put_first b (lines text)) h

lines-cons : (b : ℕ) (text : List ℕ) → (b == 10) ≡ false → lines (b ∷ text) ≡ put_first b (lines text)
lines-cons b text h = ap (λ v. if v then (b ∷ []) ∷ lines text else put_first b (lines text)) h

-- what follows n bytes begins with the next one
pub drop_cons : (text : List ℕ) (n : ℕ) → n < length text → drop n text ≡ get_or text n 0 ∷ drop (n + 1) text
drop_cons text n h = grind (arith, common_steps, drop-cons)

-- this many bytes are the first line of the text
abbrev FirstLine : List ℕ → ℕ → Type 0
FirstLine text n = lines text ≡ take n text ∷ lines (drop n text)

-- a text is its first line followed by the other lines
pub lines_split : (b : ℕ) (text : List ℕ) → FirstLine (b ∷ text) (line_length (b ∷ text))
lines_split b [] = elim (true_or_false (b == 10)) [
  | inl h ↦ subst (FirstLine (b ∷ [])) (sym (line_length-feed b [] h)) (lines-feed b [] h)
  | inr h ↦ subst (FirstLine (b ∷ [])) (sym (line_length-cons b [] h)) (lines-cons b [] h)
]
lines_split b (c ∷ text) = elim (true_or_false (b == 10)) [
  | inl h ↦ subst (FirstLine (b ∷ c ∷ text)) (sym (line_length-feed b (c ∷ text) h)) (lines-feed b (c ∷ text) h)
  | inr h ↦ subst (FirstLine (b ∷ c ∷ text)) (sym (line_length-cons b (c ∷ text) h)) (lines-cons b (c ∷ text) h ∙ ap (put_first b) (lines_split c text))
]

-- if the rest passes the test, no bytes precede it
pub before_stops : (test : List ℕ → Bool) (text : List ℕ) → test text ≡ true → before test text ≡ 0
before_stops test [] h = refl
before_stops test (b ∷ text) h = ap (λ v. if v then 0 else 1 + before test text) h

-- a nonempty text is its first line followed by the other lines
pub first_line : (text : List ℕ) (n : ℕ) → 0 < length text → n ≡ line_length text → FirstLine text n
first_line [] n some e = absurd (omega arith)
first_line (b ∷ text) n some e = subst (FirstLine (b ∷ text)) (sym e) (lines_split b text)

-- if the text does not pass the test, its first byte is one more before the place
pub before_more : (test : List ℕ → Bool) (b : ℕ) (text : List ℕ) → test (b ∷ text) ≡ false → before test (b ∷ text) ≡ 1 + before test text
before_more test b text h = ap (λ v. if v then 0 else 1 + before test text) h

-- if the rest does not pass, its first byte is one more before the place
pub before_goes : (test : List ℕ → Bool) (text : List ℕ) (n : ℕ) → n < length text → test (drop n text) ≡ false → before test (drop n text) ≡ 1 + before test (drop (n + 1) text)
before_goes test text n h e =
    let same : drop n text ≡ get_or text n 0 ∷ drop (n + 1) text = drop_cons text n h in
    ap (before test) same ∙ before_more test (get_or text n 0) (drop (n + 1) text) (ap test (sym same) ∙ e)

-- a text that is not empty has a byte
pub length_some : (text : List ℕ) → (length text == 0) ≡ false → 0 < length text
length_some text h = grind (arith, nat_tests)

-- at most all bytes precede a place
pub before-le-length : (test : List ℕ → Bool) (text : List ℕ) → before test text ≤ length text
before-le-length test [] = omega arith
before-le-length test (b ∷ text) = elim (true_or_false (test (b ∷ text))) [
  | inl h ↦ omega (arith, before_stops test (b ∷ text) h)
  | inr h ↦ omega (arith, before_more test b text h, before-le-length test text)
]
