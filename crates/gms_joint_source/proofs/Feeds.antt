-- What a text begins with is the same with a line feed and more after it.
use Rattle.std.proofs.Common.{◌≡◌, inl, inr, ℕ, zero, suc, ◌+◌, ◌==◌, ◌&&◌, ◌||◌, ◌<◌, Bool, true, false, not, cond, if◌then◌else◌, List, [], ◌∷◌, ◌++◌, length, take, drop, refl, sym, ap, ap₂, ◌∙◌, arith}
use Rattle.std.proofs.lemmas.List.{take-append-le}
use Rattle.std.specs.List.{prefix_len}
use Rattle.gms_grammar.specs.Lines.{begins, is_blank, is_line_end, before, content}
use Rattle.gms_grammar.proofs.LineLemmas.{true_or_false, before-le-length}
use Rattle.gms_lex.specs.Pieces.{begins_other, space_length}

-- a text followed by a line feed and more
abbrev pub fed : List ℕ → List ℕ → List ℕ
fed text rest = text ++ 10 ∷ rest

-- the last byte of a text is a carriage return
abbrev pub ends_in_return : List ℕ → Bool
ends_in_return [] = false
ends_in_return (b ∷ []) = b == 13
ends_in_return (b ∷ c ∷ text) = ends_in_return (c ∷ text)

pub no_return_after : (b : ℕ) (text : List ℕ) → ends_in_return (b ∷ text) ≡ false → ends_in_return text ≡ false
no_return_after b [] h = refl
no_return_after b (c ∷ text) h = h

pub no_return_drop : (n : ℕ) (text : List ℕ) → ends_in_return text ≡ false → ends_in_return (drop n text) ≡ false
no_return_drop zero text h = h
no_return_drop (suc n) [] h = refl
no_return_drop (suc n) (b ∷ text) h = no_return_drop n text (no_return_after b text h)

-- a run of bytes ends before a line feed
pub run_fed : (test : ℕ → Bool) (text rest : List ℕ) → test 10 ≡ false → prefix_len test (fed text rest) ≡ prefix_len test text
run_fed test [] rest h = ap (λ v. cond v (1 + prefix_len test rest) 0) h
run_fed test (b ∷ text) rest h = ap (λ n. cond (test b) (1 + n) 0) (run_fed test text rest h)

pub begins_fed : (test : ℕ → Bool) (text rest : List ℕ) → test 10 ≡ false → begins test (fed text rest) ≡ begins test text
begins_fed test [] rest h = h
begins_fed test (b ∷ text) rest h = refl

pub line_end_fed : (b : ℕ) (text rest : List ℕ) → ends_in_return (b ∷ text) ≡ false → is_line_end (b ∷ fed text rest) ≡ is_line_end (b ∷ text)
line_end_fed b [] rest h = ap (λ v. b == 10 || (v && true)) h ∙ sym (ap (λ v. b == 10 || (v && false)) h)
line_end_fed b (c ∷ text) rest h = refl

pub other_fed : (b : ℕ) (text rest : List ℕ) → ends_in_return (b ∷ text) ≡ false → begins_other (b ∷ fed text rest) ≡ begins_other (b ∷ text)
other_fed b text rest h = ap (λ v. not (is_blank b || v)) (line_end_fed b text rest h)

pub to_line_end_fed : (text rest : List ℕ) → ends_in_return text ≡ false → before is_line_end (fed text rest) ≡ before is_line_end text
to_line_end_fed [] rest h = refl
to_line_end_fed (b ∷ text) rest h =
    ap₂ (λ v n. if v then 0 else 1 + n) (line_end_fed b text rest h) (to_line_end_fed text rest (no_return_after b text h))

pub content_fed : (text rest : List ℕ) → ends_in_return text ≡ false → content (fed text rest) ≡ content text
content_fed text rest h =
    ap (λ n. take n (fed text rest)) (to_line_end_fed text rest h) ∙ take-append-le (before is_line_end text) text (10 ∷ rest) (before-le-length is_line_end text)

-- blanks and line ends that something follows
pub space_fed : (text rest : List ℕ) → ends_in_return text ≡ false → space_length text < length text → space_length (fed text rest) ≡ space_length text
space_fed [] rest h some = absurd (omega arith)
space_fed (b ∷ text) rest h some = elim (true_or_false (begins_other (b ∷ text))) [
  | inl t ↦
      ap (λ v. if v then 0 else 1 + space_length (fed text rest)) (other_fed b text rest h ∙ t) ∙ sym (ap (λ v. if v then 0 else 1 + space_length text) t)
  | inr f ↦
      let here : space_length (b ∷ text) ≡ 1 + space_length text = ap (λ v. if v then 0 else 1 + space_length text) f in
      let more : space_length text < length text = omega (arith, here, some) in
      ap (λ v. if v then 0 else 1 + space_length (fed text rest)) (other_fed b text rest h ∙ f) ∙ ap (λ n. 1 + n) (space_fed text rest (no_return_after b text h) more) ∙ sym here
]

-- blanks and line ends that nothing follows continue with the line feed
pub space_all_fed : (text rest : List ℕ) → ends_in_return text ≡ false → space_length text ≡ length text → space_length (fed text rest) ≡ length text + space_length (10 ∷ rest)
space_all_fed [] rest h all = omega arith
space_all_fed (b ∷ text) rest h all = elim (true_or_false (begins_other (b ∷ text))) [
  | inl t ↦
      let none : space_length (b ∷ text) ≡ 0 = ap (λ v. if v then 0 else 1 + space_length text) t in
      absurd (omega (arith, none, all))
  | inr f ↦
      let here : space_length (b ∷ text) ≡ 1 + space_length text = ap (λ v. if v then 0 else 1 + space_length text) f in
      let others : space_length text ≡ length text = omega (arith, here, all) in
      let there : space_length (b ∷ fed text rest) ≡ 1 + space_length (fed text rest) = ap (λ v. if v then 0 else 1 + space_length (fed text rest)) (other_fed b text rest h ∙ f) in
      omega (arith, there, space_all_fed text rest (no_return_after b text h) others)
]
