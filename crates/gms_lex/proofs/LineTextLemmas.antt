-- A text on one line of code is the same in the source.
use Rattle.std.proofs.Common.{◌≡◌, ◌⊎◌, inl, inr, ℕ, zero, suc, ◌+◌, ◌-◌, ◌==◌, ◌||◌, ◌<◌, ◌≤◌, Bool, false, if◌then◌else◌, List, [], ◌∷◌, ◌++◌, length, take, drop, get_or, map, refl, sym, ap, ◌∙◌, subst, arith, length-append}
use Rattle.std.proofs.lemmas.Bool.Decides.{nat_tests}
use Rattle.std.proofs.lemmas.List.{length-map, take-append-le, drop-append-le, get_or-take, get_or-drop, get_or_append_left, length-drop}
use Rattle.std.proofs.Math.Seq.{drop-append-add}
use Rattle.std.specs.Str.{IsAscii}
use Rattle.gms_grammar.specs.declared.line.Class.{Class}
use Rattle.gms_grammar.specs.declared.line.Class.TheVariants.{Comment, Control, Code}
use Rattle.gms_grammar.specs.Lines.{put_first, lines, blanked, read_as, class_of, inside_after, code_of, code_text}
use Rattle.gms_grammar.proofs.LineLemmas.{true_or_false, below_or}
use Rattle.gms_grammar.proofs.FirstLemmas.{length-read_as}

-- a byte that a line without tokens never has as blank
abbrev pub IsSolidByte : ℕ → Type 0
IsSolidByte b = (b ≡ 9 → ⊥) × (b ≡ 10 → ⊥) × (b ≡ 13 → ⊥) × (b ≡ 32 → ⊥)

-- a text on one line, with a byte that is not blank
pub record IsSolid (text : List ℕ) : Type 0 where
  pub ascii : IsAscii text
  pub no_feed : (k : ℕ) → get_or text k 0 ≡ 10 → ⊥
  pub anchor : ℕ
  pub inside : anchor < length text
  pub solid : IsSolidByte (get_or text anchor 0)

-- a line ends with a line feed
abbrev pub HasFeed : List ℕ → Type 0
HasFeed line = (0 < length line) × (get_or line (length line - 1) 0 ≡ 10)

-- each line but the last ends with a line feed
abbrev pub AreEnded : List (List ℕ) → Type 0
AreEnded [] = Unit {0}
AreEnded (line ∷ others) = ((others ≡ []) ⊎ HasFeed line) × AreEnded others

last_of : (b c : ℕ) (line : List ℕ) → get_or (c ∷ line) (length (c ∷ line) - 1) 0 ≡ 10 → get_or (b ∷ c ∷ line) (length (b ∷ c ∷ line) - 1) 0 ≡ 10
last_of b c line h =
    let one : length (c ∷ line) - 1 ≡ length line = omega arith in
    let two : length (b ∷ c ∷ line) - 1 ≡ suc (length line) = omega arith in
    ap (λ k. get_or (b ∷ c ∷ line) k 0) two ∙ sym (ap (λ k. get_or (c ∷ line) k 0) one) ∙ h

put_first-ended : (b : ℕ) (ls : List (List ℕ)) → AreEnded ls → AreEnded (put_first b ls)
put_first-ended b [] ended = (inl refl, tt)
put_first-ended b ([] ∷ others) ended = (elim ended.0 [ inl e ↦ inl e | inr f ↦ absurd (omega (arith, f.0)) ], ended.1)
put_first-ended b ((c ∷ line) ∷ others) ended = (elim ended.0 [ inl e ↦ inl e | inr f ↦ inr (omega arith, last_of b c line f.1) ], ended.1)

pub lines-ended : (text : List ℕ) → AreEnded (lines text)
lines-ended [] = tt
lines-ended (b ∷ text) = elim (true_or_false (b == 10)) [
  | inl h ↦
      let feed : b ≡ 10 = grind (arith, nat_tests, h) in
      subst AreEnded (sym (ap (λ v. if v then (b ∷ []) ∷ lines text else put_first b (lines text)) h)) (inr (omega arith, feed), lines-ended text)
  | inr h ↦ subst AreEnded (sym (ap (λ v. if v then (b ∷ []) ∷ lines text else put_first b (lines text)) h)) (put_first-ended b (lines text) (lines-ended text))
]

-- lines joined
abbrev pub joined : List (List ℕ) → List ℕ
joined [] = []
joined (line ∷ others) = line ++ joined others

joined-put_first : (b : ℕ) (ls : List (List ℕ)) → joined (put_first b ls) ≡ b ∷ joined ls
joined-put_first b [] = refl
joined-put_first b (line ∷ others) = refl

pub joined-lines : (text : List ℕ) → joined (lines text) ≡ text
joined-lines [] = refl
joined-lines (b ∷ text) = elim (true_or_false (b == 10)) [
  | inl h ↦ ap (λ v. joined (if v then (b ∷ []) ∷ lines text else put_first b (lines text))) h ∙ ap (λ t. b ∷ t) (joined-lines text)
  | inr h ↦ ap (λ v. joined (if v then (b ∷ []) ∷ lines text else put_first b (lines text))) h ∙ joined-put_first b (lines text) ∙ ap (λ t. b ∷ t) (joined-lines text)
]

length-code_of : (inside : Bool) (ls : List (List ℕ)) → length (code_of inside ls) ≡ length (joined ls)
length-code_of inside [] = refl
length-code_of inside (line ∷ others) = omega (arith, length-append (read_as (class_of inside line) line) (code_of (inside_after inside line) others), length-append line (joined others), length-read_as (class_of inside line) line, length-code_of (inside_after inside line) others)

-- the text for tokens is as long as the source
pub length-code_text : (source : List ℕ) → length (code_text source) ≡ length source
length-code_text source = length-code_of false (lines source) ∙ ap length (joined-lines source)

other_blanked : (x y z : Bool) (b : ℕ) → x ≡ false → y ≡ false → z ≡ false → (if x || (y || z) then b else 32) ≡ 32
other_blanked x y z b f g h = ap (λ v. if v || (y || z) then b else 32) f ∙ ap (λ v. if v || z then b else 32) g ∙ ap (λ v. if v then b else 32) h

blanked-not-solid : (b : ℕ) → IsSolidByte (blanked b) → ⊥
blanked-not-solid b h = elim (true_or_false (b == 9)) [
  | inl t ↦ let nine : b ≡ 9 = grind (arith, nat_tests, t) in h.0 (subst (λ k. blanked k ≡ 9) (sym nine) refl)
  | inr f ↦ elim (true_or_false (b == 10)) [
    | inl t ↦ let ten : b ≡ 10 = grind (arith, nat_tests, t) in h.1 (subst (λ k. blanked k ≡ 10) (sym ten) refl)
    | inr g ↦ elim (true_or_false (b == 13)) [
      | inl t ↦ let thirteen : b ≡ 13 = grind (arith, nat_tests, t) in h.2 (subst (λ k. blanked k ≡ 13) (sym thirteen) refl)
      | inr k ↦ h.3 (other_blanked (b == 9) (b == 10) (b == 13) b f g k)
    ]
  ]
]

-- a byte of a blank line
pub byte_blanked : (line : List ℕ) (k : ℕ) → k < length line → get_or (map blanked line) k 0 ≡ blanked (get_or line k 0)
byte_blanked [] k below = absurd (omega arith)
byte_blanked (b ∷ line) zero below = refl
byte_blanked (b ∷ line) (suc k) below = byte_blanked line k (omega arith)

feed_blanked : (line : List ℕ) (k : ℕ) → get_or line k 0 ≡ 10 → get_or (map blanked line) k 0 ≡ 10
feed_blanked [] k h = h
feed_blanked (b ∷ line) zero h = subst (λ c. blanked c ≡ 10) (sym h) refl
feed_blanked (b ∷ line) (suc k) h = feed_blanked line k h

-- a line end stays where a line is blank
feed_kept : (class : Class) (line : List ℕ) (k : ℕ) → k < length line → get_or line k 0 ≡ 10 → get_or (read_as class line) k 0 ≡ 10
feed_kept Comment line k below h = feed_blanked line k h
feed_kept Control line k below h = feed_blanked line k h
feed_kept Code line k below h = h

-- a prefix of n bytes has at most n
pub length-take_most : (n : ℕ) (text : List ℕ) → length (take n text) ≤ n
length-take_most zero text = omega arith
length-take_most (suc n) [] = omega arith
length-take_most (suc n) (b ∷ text) = omega (arith, length-take_most n text)

-- a prefix has no more bytes than the text
pub length-take_all : (n : ℕ) (text : List ℕ) → length (take n text) ≤ length text
length-take_all zero text = omega arith
length-take_all (suc n) [] = omega arith
length-take_all (suc n) (b ∷ text) = omega (arith, length-take_all n text)

-- a line without tokens has no byte that is not blank
not_solid : (line : List ℕ) (lo n : ℕ) → IsSolid (take n (drop lo (map blanked line))) → ⊥
not_solid line lo n s =
    let text = take n (drop lo (map blanked line)) in
    let few : length text ≤ n = length-take_most n (drop lo (map blanked line)) in
    let left : length text ≤ length line - lo = omega (arith, length-take_all n (drop lo (map blanked line)), length-drop lo (map blanked line), length-map line blanked) in
    let byte : get_or text s.anchor 0 ≡ blanked (get_or line (lo + s.anchor) 0) =
    get_or-take n (drop lo (map blanked line)) s.anchor 0 (omega (arith, s.inside))
    ∙ get_or-drop lo (map blanked line) s.anchor 0
    ∙ byte_blanked line (lo + s.anchor) (omega (arith, s.inside)) in
    blanked-not-solid (get_or line (lo + s.anchor) 0) (subst IsSolidByte byte s.solid)

line_same : (class : Class) (line : List ℕ) (lo n : ℕ) → IsSolid (take n (drop lo (read_as class line))) → take n (drop lo (read_as class line)) ≡ take n (drop lo line)
line_same Comment line lo n s = absurd (not_solid line lo n s)
line_same Control line lo n s = absurd (not_solid line lo n s)
line_same Code line lo n s = refl

-- n bytes of a line that end on it
pub on_line : (read rest : List ℕ) (lo n : ℕ) → lo + n ≤ length read → take n (drop lo (read ++ rest)) ≡ take n (drop lo read)
on_line read rest lo n le = ap (take n) (drop-append-le lo read rest (omega arith)) ∙ take-append-le n (drop lo read) rest (omega (arith, length-drop lo read))

pub after_line : (read rest : List ℕ) (lo len : ℕ) → length read ≡ len → len ≤ lo → drop lo (read ++ rest) ≡ drop (lo - len) rest
after_line read rest lo len long le =
    let e : length read + (lo - len) ≡ lo = omega arith in
    ap (λ k. drop k (read ++ rest)) (sym e) ∙ drop-append-add read rest (lo - len)

-- a solid text does not go over the end of a line
stays_on : (class : Class) (line rest : List ℕ) (lo n : ℕ) → HasFeed line → lo < length line → IsSolid (take n (drop lo (read_as class line ++ rest))) → lo + n ≤ length line
stays_on class line rest lo n feed below s = elim (below_or (length line) (lo + n)) [
  | inr le ↦ le
  | inl over ↦
      let k = length line - 1 - lo in
      let there : get_or (take n (drop lo (read_as class line ++ rest))) k 0 ≡ 10 =
      get_or-take n (drop lo (read_as class line ++ rest)) k 0 (omega arith)
      ∙ get_or-drop lo (read_as class line ++ rest) k 0
      ∙ ap (λ j. get_or (read_as class line ++ rest) j 0) (let e : lo + k ≡ length line - 1 = omega (arith, feed.0) in e)
      ∙ get_or_append_left (read_as class line) rest 0 (length line - 1) (omega (arith, length-read_as class line, feed.0))
      ∙ feed_kept class line (length line - 1) (omega (arith, feed.0)) feed.1 in
      absurd (s.no_feed k there)
]

-- A text on one line of code is the same in the source.
same_text : (inside : Bool) (ls : List (List ℕ)) (lo n : ℕ) → AreEnded ls → lo + n ≤ length (code_of inside ls) → IsSolid (take n (drop lo (code_of inside ls))) → take n (drop lo (code_of inside ls)) ≡ take n (drop lo (joined ls))
same_text inside [] lo n ended le s = refl
same_text inside (line ∷ others) lo n ended le s =
    let class = class_of inside line in
    let read = read_as class line in
    let rest = code_of (inside_after inside line) others in
    let long : length read ≡ length line = length-read_as class line in
    elim (below_or lo (length line)) [
      | inr ge ↦
          let code_is : drop lo (read ++ rest) ≡ drop (lo - length line) rest = after_line read rest lo (length line) long ge in
          let source_is : drop lo (line ++ joined others) ≡ drop (lo - length line) (joined others) = after_line line (joined others) lo (length line) refl ge in
          ap (take n) code_is
          ∙ same_text (inside_after inside line) others (lo - length line) n ended.1 (omega (arith, length-append read rest, long)) (subst IsSolid (ap (take n) code_is) s)
          ∙ sym (ap (take n) source_is)
      | inl below ↦
          let fits : lo + n ≤ length line = elim ended.0 [
            | inl e ↦ let none : length rest ≡ 0 = ap (λ ls. length (code_of (inside_after inside line) ls)) e in omega (arith, length-append read rest, long, none)
            | inr feed ↦ stays_on class line rest lo n feed below s
          ] in
          let code_is : take n (drop lo (read ++ rest)) ≡ take n (drop lo read) = on_line read rest lo n (omega (arith, long)) in
          code_is ∙ line_same class line lo n (subst IsSolid code_is s) ∙ sym (on_line line (joined others) lo n fits)
    ]

-- a solid text of the code is the same in the source
pub solid_same : (source : List ℕ) (lo n : ℕ) → lo + n ≤ length source → IsSolid (take n (drop lo (code_text source))) → take n (drop lo (code_text source)) ≡ take n (drop lo source)
solid_same source lo n le s =
    same_text false (lines source) lo n (lines-ended source) (omega (arith, length-code_text source)) s ∙ ap (λ t. take n (drop lo t)) (joined-lines source)
