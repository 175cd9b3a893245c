-- Bytes of ASCII are a text, and so are those of labels.
use Rattle.std.proofs.Common.{◌≡◌, inl, inr, ℕ, true, false, List, [], ◌∷◌, length, Option, Some, Result, Ok, Err, MatchResult, refl, ap, ◌∙◌, arith}
use Rattle.std.specs.Borrow.{Bor}
use Rattle.std.specs.List.{list_all, prefix_len}
use Rattle.std.specs.Option.{option_copied}
use Rattle.std.specs.Result.{result_ok}
use Rattle.std.specs.Str.{IsAscii, IsUtf8}
use Rattle.std.proofs.lemmas.Bool.Decides.{nat_tests}
use Rattle.std.proofs.lemmas.Str.{IsUtf8-from_ascii}
use Rattle.std.proofs.lemmas.Str.Ascii.{IsAscii-nil, IsAscii-cons}
use Rattle.gms_grammar.proofs.LineLemmas.{true_or_false}
use Rattle.gms_grammar.specs.Bytes.{is_label_byte, is_ascii}

IsAscii-plain : (bytes : List ℕ) → list_all is_ascii bytes ≡ true → IsAscii bytes
IsAscii-plain [] h = IsAscii-nil
IsAscii-plain (b ∷ bytes) h = elim (true_or_false (is_ascii b)) [
  | inl p ↦ IsAscii-cons b bytes (grind (arith, nat_tests, p)) (IsAscii-plain bytes (rw p at h))
  | inr p ↦ absurd (let z : false ≡ true = rw p at h in cc)
]

-- what reading bytes of ASCII as a text answers
pub text_of-plain : {E : Type 0} (P : E → Type 0) (read : Result (Bor (List ℕ)) E) (text : Option (Bor (List ℕ))) (bytes : List ℕ) → MatchResult read (λ s. (s.now ≡ bytes) × IsUtf8 bytes) (λ e. (¬ IsUtf8 bytes) × P e) → text ≡ result_ok read → list_all is_ascii bytes ≡ true → option_copied text ≡ Some bytes
text_of-plain P (Ok s) text bytes read is plain = ap option_copied is ∙ ap Some read.0
text_of-plain P (Err e) text bytes read is plain = absurd (read.0 (IsUtf8-from_ascii bytes (IsAscii-plain bytes plain)))

-- a byte of a label is of ASCII
is_plain-label : (b : ℕ) → is_label_byte b ≡ true → is_ascii b ≡ true
is_plain-label b h = grind (arith, nat_tests)

pub plain-labels : (text : List ℕ) → prefix_len is_label_byte text ≡ length text → list_all is_ascii text ≡ true
plain-labels [] h = refl
plain-labels (b ∷ text) h = elim (true_or_false (is_label_byte b)) [
  | inl p ↦ rw (is_plain-label b p) (plain-labels text (let e = rw p at h in omega arith))
  | inr p ↦ absurd (let e = rw p at h in omega arith)
]
