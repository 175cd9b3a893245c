-- The number with which a text begins is spelled as a number, and is the longest.
use Rattle.std.proofs.lemmas.Bool.{and_from, and_parts, not-true}
use Rattle.std.proofs.Common.{◌≡◌, ◌⊎◌, inl, inr, ℕ, suc, ◌+◌, ◌==◌, ◌<◌, ◌≤◌, ◌&&◌, ◌||◌, true, false, not, cond, if◌then◌else◌, List, [], ◌∷◌, ◌++◌, length, take, drop, refl, sym, ap, ◌∙◌, subst, arith, append_assoc, length-append}
use Rattle.std.proofs.lemmas.Bool.Decides.{nat_tests}
use Rattle.std.proofs.lemmas.List.{drop-drop, take-append-drop, length-take-le}
use Rattle.std.proofs.lemmas.List.Folds.{length-prefix_len}
use Rattle.std.proofs.lemmas.List.Sums.{prefix_len-le-length}
use Rattle.std.proofs.Math.Seq.{take-add, drop-append_seam}
use Rattle.std.specs.List.{prefix_len, list_all}
use Rattle.std.specs.Char.{is_ascii_digit}
use Rattle.gms_grammar.specs.Lines.{begins}
use Rattle.gms_grammar.proofs.LineLemmas.{true_or_false}
use Rattle.gms_grammar.specs.Numbers.{digit_count, begins_dot, begins_number, point_length, is_sign, sign_length, exponent_length, decimal_length, number_length}
use Rattle.gms_grammar.proofs.WithinLemmas.{run_within}
use Rattle.gms_lex.specs.Spellings.{AreSomeDigits, IsPoint, IsPower, IsExponentSpelling, IsNumberSpelling}
use Rattle.gms_lex.proofs.LineTextLemmas.{length-take_most}
use Rattle.gms_lex.proofs.PrefixLemmas.{not_both, prefix_all, run_over, run_stops, begins_append}

digit_no_sign : (b : ℕ) → is_ascii_digit b ≡ true → is_sign b ≡ false
digit_no_sign b h = grind (arith, nat_tests, h)

digit_no_dot : (b : ℕ) → is_ascii_digit b ≡ true → (b == 46) ≡ false
digit_no_dot b h = grind (arith, nat_tests, h)

letter_no_digit : (b : ℕ) → (b == 101 || b == 69) ≡ true → is_ascii_digit b ≡ false
letter_no_digit b h = grind (arith, nat_tests, h)

letter_no_dot : (b : ℕ) → (b == 101 || b == 69) ≡ true → (b == 46) ≡ false
letter_no_dot b h = grind (arith, nat_tests, h)

dot_no_digit : (b : ℕ) → b ≡ 46 → is_ascii_digit b ≡ false
dot_no_digit b e = subst (λ c. is_ascii_digit c ≡ false) (sym e) refl

is_dot : (b : ℕ) → b ≡ 46 → (b == 46) ≡ true
is_dot b e = subst (λ c. (c == 46) ≡ true) (sym e) refl

-- ---- the longest

-- how many bytes an exponent takes that is there
exponent_at : (b : ℕ) (text : List ℕ) (sign : ℕ) (digits : List ℕ) → (b == 101 || b == 69) ≡ true → sign_length text ≡ sign → drop sign text ≡ digits → begins is_ascii_digit digits ≡ true → exponent_length (b ∷ text) ≡ 1 + sign + digit_count digits
exponent_at b text sign digits letter signed rest some =
    let following : List ℕ = drop (1 + sign_length text) (b ∷ text) in
    let is : following ≡ digits = ap (λ k. drop k (b ∷ text)) (let e : 1 + sign_length text ≡ suc sign = omega (arith, signed) in e) ∙ rest in
    let test : ((b == 101 || b == 69) && begins is_ascii_digit following) ≡ true = and_from (b == 101 || b == 69) (begins is_ascii_digit following) letter (ap (begins is_ascii_digit) is ∙ some) in
    let long : exponent_length (b ∷ text) ≡ 1 + sign_length text + digit_count following = ap (λ v. if v then 1 + sign_length text + digit_count following else 0) test in
    omega (arith, long, signed, ap digit_count is)

-- an exponent is no longer than that with which the text begins
exponent_most : (exponent following : List ℕ) → IsExponentSpelling exponent → length exponent ≤ exponent_length (exponent ++ following)
exponent_most [] following h = omega arith
exponent_most (b ∷ []) following h = absurd h.1
exponent_most (b ∷ c ∷ digits) following h = elim h.1 [
  | inl plain ↦
      let unsigned : sign_length (c ∷ (digits ++ following)) ≡ 0 = ap (λ v. if v then 1 else 0) (digit_no_sign c plain.0) in
      omega (arith, exponent_at b (c ∷ (digits ++ following)) 0 (c ∷ (digits ++ following)) h.0 unsigned refl plain.0, run_over is_ascii_digit (c ∷ digits) following plain.1)
  | inr signed ↦
      let one : sign_length (c ∷ (digits ++ following)) ≡ 1 = ap (λ v. if v then 1 else 0) signed.0 in
      omega (arith, exponent_at b (c ∷ (digits ++ following)) 1 (digits ++ following) h.0 one refl (begins_append is_ascii_digit digits following signed.1.0), run_over is_ascii_digit digits following signed.1.1)
]

-- how many bytes a number takes, by its parts
number_at : (text : List ℕ) (whole point : ℕ) (rest more : List ℕ) → digit_count text ≡ whole → drop whole text ≡ rest → point_length rest ≡ point → drop point rest ≡ more → number_length text ≡ whole + point + exponent_length more
number_at text whole point rest more digits following dot after =
    let r : drop (digit_count text) text ≡ rest = ap (λ k. drop k text) digits ∙ following in
    let d : decimal_length text ≡ whole + point = omega (arith, digits, ap point_length r, dot) in
    let m : drop (decimal_length text) text ≡ more = ap (λ k. drop k text) d ∙ sym (drop-drop point whole text) ∙ ap (drop point) following ∙ after in
    omega (arith, d, ap exponent_length m)

-- how many bytes a dot takes that no other dot follows, with the digits after it
point_at : (b : ℕ) (rest : List ℕ) → b ≡ 46 → begins_dot rest ≡ false → point_length (b ∷ rest) ≡ 1 + digit_count rest
point_at b rest dot none =
    let test : (begins_dot (b ∷ rest) && not (begins_dot rest)) ≡ true = and_from (begins_dot (b ∷ rest)) (not (begins_dot rest)) (is_dot b dot) (ap not none) in
    ap (λ v. if v then 1 + digit_count rest else 0) test

no_point : (b : ℕ) (rest : List ℕ) → (b == 46) ≡ false → point_length (b ∷ rest) ≡ 0
no_point b rest other = ap (λ v. if v && not (begins_dot rest) then 1 + digit_count rest else 0) other

-- no dot follows digits, of which there may be none
digits_then : (digits rest : List ℕ) → list_all is_ascii_digit digits ≡ true → (digits ≡ [] → begins_dot rest ≡ false) → begins_dot (digits ++ rest) ≡ false
digits_then [] rest h none = none refl
digits_then (d ∷ digits) rest h none = digit_no_dot d (and_parts (is_ascii_digit d) (list_all is_ascii_digit digits) h).0

-- a dot and digits, before an exponent
pointed : (whole : List ℕ) (b : ℕ) (digits exponent following : List ℕ) → list_all is_ascii_digit whole ≡ true → b ≡ 46 → list_all is_ascii_digit digits ≡ true → IsExponentSpelling exponent → begins_dot (digits ++ (exponent ++ following)) ≡ false → length whole + (suc (length digits) + length exponent) ≤ number_length (whole ++ (b ∷ (digits ++ (exponent ++ following))))
pointed whole b digits [] following all dot each power none =
    let rest : List ℕ = digits ++ following in
    let text : List ℕ = whole ++ (b ∷ rest) in
    let count : digit_count text ≡ length whole = omega (arith, run_over is_ascii_digit whole (b ∷ rest) all, run_stops is_ascii_digit b rest (dot_no_digit b dot)) in
    let long : number_length text ≡ length whole + (1 + digit_count rest) + exponent_length (drop (1 + digit_count rest) (b ∷ rest)) = number_at text (length whole) (1 + digit_count rest) (b ∷ rest) (drop (1 + digit_count rest) (b ∷ rest)) count (drop-append_seam whole (b ∷ rest)) (point_at b rest dot none) refl in
    omega (arith, long, run_over is_ascii_digit digits following each)
pointed whole b digits (e ∷ power) following all dot each h none =
    let more : List ℕ = e ∷ (power ++ following) in
    let rest : List ℕ = digits ++ more in
    let text : List ℕ = whole ++ (b ∷ rest) in
    let count : digit_count text ≡ length whole = omega (arith, run_over is_ascii_digit whole (b ∷ rest) all, run_stops is_ascii_digit b rest (dot_no_digit b dot)) in
    let few : digit_count rest ≡ length digits = omega (arith, run_over is_ascii_digit digits more each, run_stops is_ascii_digit e (power ++ following) (letter_no_digit e h.0)) in
    let point : point_length (b ∷ rest) ≡ suc (length digits) = omega (arith, point_at b rest dot none, few) in
    let long : number_length text ≡ length whole + suc (length digits) + exponent_length more = number_at text (length whole) (suc (length digits)) (b ∷ rest) more count (drop-append_seam whole (b ∷ rest)) point (drop-append_seam digits more) in
    omega (arith, long, exponent_most (e ∷ power) following h)

-- digits, before an exponent
unpointed : (whole exponent following : List ℕ) → list_all is_ascii_digit whole ≡ true → IsExponentSpelling exponent → length whole + length exponent ≤ number_length (whole ++ (exponent ++ following))
unpointed whole [] following all power = omega (arith, run_over is_ascii_digit whole following all)
unpointed whole (e ∷ power) following all h =
    let more : List ℕ = e ∷ (power ++ following) in
    let text : List ℕ = whole ++ more in
    let count : digit_count text ≡ length whole = omega (arith, run_over is_ascii_digit whole more all, run_stops is_ascii_digit e (power ++ following) (letter_no_digit e h.0)) in
    let long : number_length text ≡ length whole + 0 + exponent_length more = number_at text (length whole) 0 more more count (drop-append_seam whole more) (no_point e (power ++ following) (letter_no_dot e h.0)) refl in
    omega (arith, long, exponent_most (e ∷ power) following h)

parts_most : (whole point exponent following : List ℕ) → list_all is_ascii_digit whole ≡ true → IsPoint point → IsExponentSpelling exponent → (point ≡ 46 ∷ [] → begins_dot (exponent ++ following) ≡ false) → length whole + (length point + length exponent) ≤ number_length (whole ++ (point ++ (exponent ++ following)))
parts_most whole [] exponent following all fraction power alone = omega (arith, unpointed whole exponent following all power)
parts_most whole (b ∷ digits) exponent following all fraction power alone =
    pointed whole b digits exponent following all fraction.0 fraction.1 power (digits_then digits (exponent ++ following) fraction.1 (λ e. alone (ap (λ c. c ∷ digits) fraction.0 ∙ ap (λ ds. 46 ∷ ds) e)))

-- a text is the number at its start and what follows it
whole_text : (n : ℕ) (text whole point exponent : List ℕ) → take n text ≡ whole ++ (point ++ exponent) → whole ++ (point ++ (exponent ++ drop n text)) ≡ text
whole_text n text whole point exponent e =
    ap (λ t. whole ++ t) (sym (append_assoc point exponent (drop n text))) ∙ sym (append_assoc whole (point ++ exponent) (drop n text)) ∙ ap (λ t. t ++ drop n text) (sym e) ∙ take-append-drop n text

-- no number at the start of a text is longer than the one found there
pub number_most : (n : ℕ) (text : List ℕ) → n ≤ length text → IsNumberSpelling (take n text) (drop n text) → n ≤ number_length text
number_most n text le h =
    let same = whole_text n text h.whole h.point h.exponent h.spelled in
    let long : length (take n text) ≡ length h.whole + (length h.point + length h.exponent) = omega (arith, ap length h.spelled, length-append h.whole (h.point ++ h.exponent), length-append h.point h.exponent) in
    omega (arith, parts_most h.whole h.point h.exponent (drop n text) h.digits h.fraction h.power h.alone, ap number_length same, long, length-take-le n text le)

-- a number begins as one
parts_begin : (whole point rest : List ℕ) → list_all is_ascii_digit whole ≡ true → IsPoint point → (0 < length whole) ⊎ (1 < length point) → begins_number (whole ++ (point ++ rest)) ≡ true
parts_begin (d ∷ whole) point rest all fraction some =
    ap (λ v. v || (d == 46 && begins is_ascii_digit (whole ++ (point ++ rest)))) (and_parts (is_ascii_digit d) (list_all is_ascii_digit whole) all).0
parts_begin [] [] rest all fraction (inl some) = absurd (omega arith)
parts_begin [] [] rest all fraction (inr some) = absurd (omega arith)
parts_begin [] (b ∷ []) rest all fraction (inl some) = absurd (omega arith)
parts_begin [] (b ∷ []) rest all fraction (inr some) = absurd (omega arith)
parts_begin [] (b ∷ d ∷ digits) rest all fraction some =
    let test : (b == 46 && is_ascii_digit d) ≡ true = and_from (b == 46) (is_ascii_digit d) (is_dot b fraction.0) (and_parts (is_ascii_digit d) (list_all is_ascii_digit digits) fraction.1).0 in
    ap (λ v. v || (b == 46 && is_ascii_digit d)) (dot_no_digit b fraction.0) ∙ test

pub number_begins : (n : ℕ) (text : List ℕ) → IsNumberSpelling (take n text) (drop n text) → begins_number text ≡ true
number_begins n text h =
    subst (λ t. begins_number t ≡ true) (whole_text n text h.whole h.point h.exponent h.spelled) (parts_begin h.whole h.point (h.exponent ++ drop n text) h.digits h.fraction h.some)

-- ---- its spelling

digits_begin : (text : List ℕ) → begins is_ascii_digit text ≡ true → begins is_ascii_digit (take (digit_count text) text) ≡ true
digits_begin [] h = h
digits_begin (b ∷ text) h =
    let long : suc (digit_count text) ≡ 1 + digit_count text = omega arith in
    let here : begins is_ascii_digit (take (1 + digit_count text) (b ∷ text)) ≡ true = subst (λ k. begins is_ascii_digit (take k (b ∷ text)) ≡ true) long h in
    subst (λ v. begins is_ascii_digit (take (cond v (1 + prefix_len is_ascii_digit text) 0) (b ∷ text)) ≡ true) (sym h) here

digits_some : (text : List ℕ) → begins is_ascii_digit text ≡ true → AreSomeDigits (take (digit_count text) text)
digits_some text some = (digits_begin text some, prefix_all is_ascii_digit text)

power_plain : (text : List ℕ) → AreSomeDigits text → IsPower text
power_plain [] h = not_both false h.0 refl
power_plain (b ∷ digits) h = inl h

-- a sign and the digits after it, by how many bytes the sign takes
abbrev IsPowerAt : List ℕ → ℕ → Type 0
IsPowerAt text sign = IsPower (take (sign + digit_count (drop sign text)) text)

power_spelled : (text : List ℕ) → begins is_ascii_digit (drop (sign_length text) text) ≡ true → IsPowerAt text (sign_length text)
power_spelled [] h = not_both false h refl
power_spelled (c ∷ more) h = elim (true_or_false (is_sign c)) [
  | inl t ↦
      let one : sign_length (c ∷ more) ≡ 1 = ap (λ v. if v then 1 else 0) t in
      let digits : AreSomeDigits (take (digit_count more) more) = digits_some more (subst (λ k. begins is_ascii_digit (drop k (c ∷ more)) ≡ true) one h) in
      let long : suc (digit_count more) ≡ 1 + digit_count more = omega arith in
      subst (IsPowerAt (c ∷ more)) (sym one) (subst (λ k. IsPower (take k (c ∷ more))) long (inr (t, digits)))
  | inr f ↦
      let none : sign_length (c ∷ more) ≡ 0 = ap (λ v. if v then 1 else 0) f in
      let digits : AreSomeDigits (take (digit_count (c ∷ more)) (c ∷ more)) = digits_some (c ∷ more) (subst (λ k. begins is_ascii_digit (drop k (c ∷ more)) ≡ true) none h) in
      let long : digit_count (c ∷ more) ≡ 0 + digit_count (c ∷ more) = omega arith in
      subst (IsPowerAt (c ∷ more)) (sym none) (subst (λ k. IsPower (take k (c ∷ more))) long (power_plain (take (digit_count (c ∷ more)) (c ∷ more)) digits))
]

exponent_spelled : (text : List ℕ) → IsExponentSpelling (take (exponent_length text) text)
exponent_spelled [] = tt
exponent_spelled (b ∷ text) =
    let sign : ℕ = sign_length text in
    let following : List ℕ = drop (1 + sign) (b ∷ text) in
    let is : following ≡ drop sign text = ap (λ k. drop k (b ∷ text)) (let e : 1 + sign ≡ suc sign = omega arith in e) in
    elim (true_or_false ((b == 101 || b == 69) && begins is_ascii_digit following)) [
      | inl t ↦
          let both = and_parts (b == 101 || b == 69) (begins is_ascii_digit following) t in
          let power : IsPowerAt text sign = power_spelled text (ap (begins is_ascii_digit) (sym is) ∙ both.1) in
          let long : suc (sign + digit_count (drop sign text)) ≡ 1 + sign + digit_count following = omega (arith, ap digit_count is) in
          let here : IsExponentSpelling (take (1 + sign + digit_count following) (b ∷ text)) = subst (λ k. IsExponentSpelling (take k (b ∷ text))) long (both.0, power) in
          subst (λ v. IsExponentSpelling (take (if v then 1 + sign + digit_count following else 0) (b ∷ text))) (sym t) here
      | inr f ↦ subst (λ v. IsExponentSpelling (take (if v then 1 + sign + digit_count following else 0) (b ∷ text))) (sym f) tt
    ]

point_is : (b : ℕ) → (b == 46) ≡ true → b ≡ 46
point_is b h = grind (arith, nat_tests, h)

point_spelled : (text : List ℕ) → IsPoint (take (point_length text) text)
point_spelled [] = tt
point_spelled (b ∷ rest) = elim (true_or_false (begins_dot (b ∷ rest) && not (begins_dot rest))) [
  | inl t ↦
      let both = and_parts (begins_dot (b ∷ rest)) (not (begins_dot rest)) t in
      let long : suc (digit_count rest) ≡ 1 + digit_count rest = omega arith in
      let here : IsPoint (take (1 + digit_count rest) (b ∷ rest)) = subst (λ k. IsPoint (take k (b ∷ rest))) long (point_is b both.0, prefix_all is_ascii_digit rest) in
      subst (λ v. IsPoint (take (if v then 1 + digit_count rest else 0) (b ∷ rest))) (sym t) here
  | inr f ↦ subst (λ v. IsPoint (take (if v then 1 + digit_count rest else 0) (b ∷ rest))) (sym f) tt
]

digit_then_no_dot : (text : List ℕ) → begins is_ascii_digit text ≡ true → begins_dot text ≡ false
digit_then_no_dot [] h = refl
digit_then_no_dot (b ∷ text) h = digit_no_dot b h

-- a dot before a digit takes more than itself
point_some : (text : List ℕ) → begins_dot text ≡ true → begins is_ascii_digit (drop 1 text) ≡ true → 1 < length (take (point_length text) text)
point_some [] dot digit = not_both false dot refl
point_some (b ∷ rest) dot digit =
    let k : ℕ = point_length (b ∷ rest) in
    let long : k ≡ 1 + digit_count rest = point_at b rest (point_is b dot) (digit_then_no_dot rest digit) in
    let some : 0 < digit_count rest = run_within is_ascii_digit is_ascii_digit (λ b g. g) rest digit in
    let few : digit_count rest ≤ length rest = prefix_len-le-length is_ascii_digit rest in
    let le : k ≤ length (b ∷ rest) = omega (arith, long, few) in
    omega (arith, long, some, length-take-le k (b ∷ rest) le)

no_digits : (text : List ℕ) → begins is_ascii_digit text ≡ false → digit_count text ≡ 0
no_digits [] h = refl
no_digits (b ∷ text) h = run_stops is_ascii_digit b text h

-- a digit precedes the exponent
number_some : (text : List ℕ) → begins_number text ≡ true → (0 < length (take (digit_count text) text)) ⊎ (1 < length (take (point_length (drop (digit_count text) text)) (drop (digit_count text) text)))
number_some text h = elim (true_or_false (begins is_ascii_digit text)) [
  | inl d ↦ inl (omega (arith, length-prefix_len is_ascii_digit text, run_within is_ascii_digit is_ascii_digit (λ b g. g) text d))
  | inr d ↦
      let dot : (begins_dot text && begins is_ascii_digit (drop 1 text)) ≡ true = subst (λ v. (v || (begins_dot text && begins is_ascii_digit (drop 1 text))) ≡ true) d h in
      let both = and_parts (begins_dot text) (begins is_ascii_digit (drop 1 text)) dot in
      inr (subst (λ k. 1 < length (take (point_length (drop k text)) (drop k text))) (sym (no_digits text d)) (point_some text both.0 both.1))
]

-- a number takes a byte
pub number_positive : (text : List ℕ) → begins_number text ≡ true → 0 < number_length text
number_positive text h = elim (number_some text h) [
  | inl some ↦ omega (arith, some, length-prefix_len is_ascii_digit text)
  | inr some ↦ omega (arith, some, length-take_most (point_length (drop (digit_count text) text)) (drop (digit_count text) text))
]

point_alone : (text : List ℕ) → take (point_length text) text ≡ 46 ∷ [] → begins_dot (drop (point_length text) text) ≡ false
point_alone [] h = absurd (omega (arith, ap length h))
point_alone (b ∷ rest) h = elim (true_or_false (begins_dot (b ∷ rest) && not (begins_dot rest))) [
  | inl t ↦
      let both = and_parts (begins_dot (b ∷ rest)) (not (begins_dot rest)) t in
      let long : point_length (b ∷ rest) ≡ 1 + digit_count rest = ap (λ v. if v then 1 + digit_count rest else 0) t in
      let le : point_length (b ∷ rest) ≤ length (b ∷ rest) = omega (arith, long, prefix_len-le-length is_ascii_digit rest) in
      let one : point_length (b ∷ rest) ≡ 1 = omega (arith, ap length h, length-take-le (point_length (b ∷ rest)) (b ∷ rest) le) in
      let following : drop (point_length (b ∷ rest)) (b ∷ rest) ≡ rest = ap (λ k. drop k (b ∷ rest)) one in
      ap begins_dot following ∙ not-true (begins_dot rest) both.1
  | inr f ↦
      let none : point_length (b ∷ rest) ≡ 0 = ap (λ v. if v then 1 + digit_count rest else 0) f in
      let empty : length (take (point_length (b ∷ rest)) (b ∷ rest)) ≡ 0 = ap (λ k. length (take k (b ∷ rest))) none in
      absurd (omega (arith, ap length h, empty))
]

-- the number with which a text begins is spelled as one
pub number_spelled : (text : List ℕ) → begins_number text ≡ true → IsNumberSpelling (take (number_length text) text) (drop (number_length text) text)
number_spelled text h =
    let w : ℕ = digit_count text in
    let rest : List ℕ = drop w text in
    let p : ℕ = point_length rest in
    let d : ℕ = decimal_length text in
    let more : List ℕ = drop d text in
    let e : ℕ = exponent_length more in
    let same : drop p rest ≡ take e more ++ drop (d + e) text = drop-drop p w text ∙ sym (take-append-drop e more) ∙ ap (λ t. take e more ++ t) (drop-drop e d text) in
    record {
      whole = take w text;
      point = take p rest;
      exponent = take e more;
      spelled = take-add d e text ∙ ap (λ t. t ++ take e more) (take-add w p text) ∙ append_assoc (take w text) (take p rest) (take e more);
      digits = prefix_all is_ascii_digit text;
      fraction = point_spelled rest;
      power = exponent_spelled more;
      some = number_some text h;
      alone = λ a. subst (λ t. begins_dot t ≡ false) same (point_alone rest a);
    }
