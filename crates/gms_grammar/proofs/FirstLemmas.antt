-- The search finds the first error of the lines.
use Rattle.std.proofs.lemmas.Bool.{not-false}
use Rattle.std.proofs.Common.{◌≡◌, ◌⊎◌, inl, inr, ℕ, suc, ◌+◌, ◌==◌, ◌&&◌, ◌<◌, ◌≤◌, Bool, true, false, not, nat_lt, if◌then◌else◌, List, [], ◌∷◌, ◌++◌, length, Option, Some, None, option_map, refl, sym, ap, ◌∙◌, subst, arith, append_assoc}
use Rattle.std.proofs.lemmas.Bool.Decides.{nat_tests}
use Rattle.std.proofs.lemmas.List.Sums.{prefix_len-le-length, prefix_len_passes, prefix_len_stops}
use Rattle.std.proofs.lemmas.List.{length-take-le, length-map}
use Rattle.std.specs.Option.{option_or}
use Rattle.std.specs.List.{list_any}
use Rattle.gms_grammar.specs.declared.line.Class.{Class}
use Rattle.gms_grammar.specs.declared.line.Class.TheVariants.{Comment, Control, Code}
use Rattle.gms_grammar.specs.declared.fault.LexError.{LexError}
use Rattle.gms_grammar.specs.declared.fault.LexError.TheVariants.{BadByte, OpenQuote, OpenText, LongLabel, LongLine, UnknownControl}
use Rattle.gms_grammar.specs.declared.fault.ByteFault.{ByteFault}
use Rattle.gms_grammar.specs.Errors.{lex_error_code, IsFirstFault}
use Rattle.gms_grammar.specs.Lines.{before, is_line_end, content, class_of, closes, opens, inside_after, blanked, read_as, code_of, lines, put_first}
use Rattle.gms_grammar.specs.LineFaults.{longest_line, is_bad, is_unknown_control, IsLineError, IsInLines, IsLineFault}
use Rattle.gms_grammar.specs.InnerLineSearch.{fault_at, good_length, head_error, first_of_line, first_in_line, first_in_lines}
use Rattle.gms_grammar.proofs.LineLemmas.{true_or_false, below_or, before-le-length}

-- the fault is in a line that begins at this byte
abbrev pub OccursInLine : ℕ → Bool → List ℕ → List (List ℕ) → ByteFault → Type 0
OccursInLine start inside line others fault = (k : ℕ) × (fault.at ≡ start + k) × IsLineError inside line others k fault.error

-- each number is at least that of a bad byte
least_code : (e : LexError) → 1 ≤ lex_error_code e
least_code BadByte = omega arith
least_code OpenQuote = omega arith
least_code OpenText = omega arith
least_code LongLabel = omega arith
least_code LongLine = omega arith
least_code UnknownControl = omega arith

-- the least of three errors that the first byte may have
abbrev head : Bool → Bool → Bool → Option LexError
head a b c = if a then Some OpenText else (if b then Some LongLine else (if c then Some UnknownControl else None))

-- which it is
head_is : (a b c : Bool) (e : LexError) → head a b c ≡ Some e → ((a ≡ true) × (e ≡ OpenText)) ⊎ (((b ≡ true) × (e ≡ LongLine)) ⊎ ((c ≡ true) × (e ≡ UnknownControl)))
head_is true b c e h = inl (refl, cc)
head_is false true c e h = inr (inl (refl, cc))
head_is false false true e h = inr (inr (refl, cc))
head_is false false false e h = cc

-- an error with a number of at most this
abbrev AtMost : Option LexError → ℕ → Type 0
AtMost found n = (d : LexError) × (found ≡ Some d) × (lex_error_code d ≤ n)

head_open : (a b c : Bool) → a ≡ true → AtMost (head a b c) 3
head_open true b c h = (OpenText, refl, omega arith)
head_open false b c h = cc

head_long : (a b c : Bool) → b ≡ true → AtMost (head a b c) 5
head_long true b c h = (OpenText, refl, omega arith)
head_long false true c h = (LongLine, refl, omega arith)
head_long false false c h = cc

head_unknown : (a b c : Bool) → c ≡ true → AtMost (head a b c) 6
head_unknown true b c h = (OpenText, refl, omega arith)
head_unknown false true c h = (LongLine, refl, omega arith)
head_unknown false false true h = (UnknownControl, refl, omega arith)
head_unknown false false false h = cc

both_true : (a b : Bool) → (a && not b) ≡ true → (a ≡ true) × (b ≡ false)
both_true true true h = cc
both_true true false h = (refl, refl)
both_true false b h = cc

true_both : (a b : Bool) → a ≡ true → b ≡ false → (a && not b) ≡ true
true_both a b h g = grind arith

-- the error found for the first byte is an error of the line there
head_occurs : (inside : Bool) (line : List ℕ) (others : List (List ℕ)) (e : LexError) → head_error inside line others ≡ Some e → IsLineError inside line others 0 e
head_occurs inside line others e h =
    elim (head_is (opens inside line && not (list_any closes others)) (nat_lt longest_line (length (content line))) (is_unknown_control (class_of inside line) line) e h) [
      | inl p ↦ let both = both_true (opens inside line) (list_any closes others) p.0 in subst (IsLineError inside line others 0) (sym p.1) (refl, both.0, both.1)
      | inr q ↦ elim q [
        | inl p ↦ let long : longest_line < length (content line) = grind (arith, nat_tests) in subst (IsLineError inside line others 0) (sym p.1) (refl, long)
        | inr p ↦ subst (IsLineError inside line others 0) (sym p.1) (refl, p.0)
      ]
    ]

-- it is the least of the errors at the first byte, bad bytes apart
head_least : (inside : Bool) (line : List ℕ) (others : List (List ℕ)) (k : ℕ) (e : LexError) → IsLineError inside line others k e → (e ≡ BadByte) ⊎ ((k ≡ 0) × AtMost (head_error inside line others) (lex_error_code e))
head_least inside line others k BadByte h = inl refl
head_least inside line others k OpenText h = inr (h.0, head_open _ _ _ (true_both (opens inside line) (list_any closes others) h.1 h.2))
head_least inside line others k LongLine h =
    let long : nat_lt longest_line (length (content line)) ≡ true = grind (arith, nat_tests, h.1) in
    inr (h.0, head_long (opens inside line && not (list_any closes others)) _ _ long)
head_least inside line others k UnknownControl h = inr (h.0, head_unknown (opens inside line && not (list_any closes others)) (nat_lt longest_line (length (content line))) _ h.1)
head_least inside line others k OpenQuote h = absurd h
head_least inside line others k LongLabel h = absurd h

-- what is known of a line's errors: the first `good` bytes are good, and the error at the first
-- byte, bad bytes apart
record Searched (inside : Bool) (line : List ℕ) (others : List (List ℕ)) (good : ℕ) (found : Option LexError) : Type 0 where
  within : good ≤ length (content line)
  clean : (k : ℕ) → IsLineError inside line others k BadByte → good ≤ k
  bad : good < length (content line) → IsLineError inside line others good BadByte
  occurs : (e : LexError) → found ≡ Some e → IsLineError inside line others 0 e
  least : (k : ℕ) (e : LexError) → IsLineError inside line others k e → (e ≡ BadByte) ⊎ ((k ≡ 0) × AtMost found (lex_error_code e))

-- a fault is either a bad byte after the good ones, or at the first byte, with a number no less
-- than that of the error found there
fault_cases : (start : ℕ) (inside : Bool) (line : List ℕ) (others : List (List ℕ)) (good : ℕ) (found : Option LexError) → Searched inside line others good found → (f : ByteFault) → OccursInLine start inside line others f → ((k : ℕ) × (f.at ≡ start + k) × (good ≤ k) × (k < length (content line)) × (lex_error_code f.error ≡ 1)) ⊎ ((f.at ≡ start) × AtMost found (lex_error_code f.error))
fault_cases start inside line others good found s f (k, at, h) = elim (s.least k f.error h) [
  | inl e ↦ let bad : IsLineError inside line others k BadByte = subst (IsLineError inside line others k) e h in inl (k, at, s.clean k bad, bad.0, ap lex_error_code e)
  | inr p ↦ inr (omega (arith, p.0, at), p.1)
]

none_found : (n : ℕ) → AtMost None n → ⊥
none_found n (d, h, le) = let z : ⊥ = cc in z

found_code : (e : LexError) (n : ℕ) → AtMost (Some e) n → lex_error_code e ≤ n
found_code e n (d, h, le) = let same : d ≡ e = cc in subst (λ x. lex_error_code x ≤ n) same le

-- one place is before another, or is it, and so for numbers
before_or : (a b x y : ℕ) → a ≤ b → x ≤ y → (a < b) ⊎ ((a ≡ b) × (x ≤ y))
before_or a b x y le small = elim (below_or a b) [ inl h ↦ inl h | inr h ↦ inr (omega arith, small) ]

-- where each byte is good
first_clean : (start : ℕ) (inside : Bool) (line : List ℕ) (others : List (List ℕ)) (good : ℕ) (found : Option LexError) → Searched inside line others good found → good ≡ length (content line) → IsFirstFault (OccursInLine start inside line others) (option_map (fault_at start) found)
first_clean start inside line others good None s all = λ f h. elim (fault_cases start inside line others good None s f h) [
  | inl (k, at, ge, lt, code) ↦ absurd (omega arith)
  | inr p ↦ none_found _ p.1
]
first_clean start inside line others good (Some e) s all = (
  (0, omega arith, s.occurs e refl),
  λ f h. elim (fault_cases start inside line others good (Some e) s f h) [
    | inl (k, at, ge, lt, code) ↦ absurd (omega arith)
    | inr p ↦ inr (sym p.0, found_code e _ p.1)
  ],
)

-- where the first byte is bad
first_at_once : (start : ℕ) (inside : Bool) (line : List ℕ) (others : List (List ℕ)) (good : ℕ) (found : Option LexError) → Searched inside line others good found → good < length (content line) → good ≡ 0 → IsFirstFault (OccursInLine start inside line others) (Some (fault_at start BadByte))
first_at_once start inside line others good found s more zero = (
  (0, omega arith, subst (λ k. IsLineError inside line others k BadByte) zero (s.bad more)),
  λ f h. elim (fault_cases start inside line others good found s f h) [
    | inl (k, at, ge, lt, code) ↦ before_or start f.at 1 (lex_error_code f.error) (omega arith) (least_code f.error)
    | inr p ↦ inr (sym p.0, least_code f.error)
  ],
)

-- where a later byte is bad
first_later : (start : ℕ) (inside : Bool) (line : List ℕ) (others : List (List ℕ)) (good : ℕ) (found : Option LexError) → Searched inside line others good found → good < length (content line) → 0 < good → IsFirstFault (OccursInLine start inside line others) (option_or (option_map (fault_at start) found) (Some (fault_at (start + good) BadByte)))
first_later start inside line others good None s more some = (
  (good, refl, s.bad more),
  λ f h. elim (fault_cases start inside line others good None s f h) [
    | inl (k, at, ge, lt, code) ↦ before_or (start + good) f.at 1 (lex_error_code f.error) (omega arith) (least_code f.error)
    | inr p ↦ absurd (none_found _ p.1)
  ],
)
first_later start inside line others good (Some e) s more some = (
  (0, omega arith, s.occurs e refl),
  λ f h. elim (fault_cases start inside line others good (Some e) s f h) [
    | inl (k, at, ge, lt, code) ↦ inl (omega arith)
    | inr p ↦ inr (sym p.0, found_code e _ p.1)
  ],
)

-- the first of a line's errors, by what is known
first_of_line-first : (start : ℕ) (inside : Bool) (line : List ℕ) (others : List (List ℕ)) (good : ℕ) (found : Option LexError) → Searched inside line others good found → IsFirstFault (OccursInLine start inside line others) (first_of_line start good (length (content line)) found)
first_of_line-first start inside line others good found s =
    let first = IsFirstFault (OccursInLine start inside line others) in
    let all = length (content line) in
    let now = option_map (fault_at start) found in
    let later = option_or now (Some (fault_at (start + good) BadByte)) in
    elim (true_or_false (good == all)) [
      | inl h ↦ subst first (sym (ap (λ v. if v then now else (if good == 0 then Some (fault_at start BadByte) else later)) h)) (first_clean start inside line others good found s (grind (arith, nat_tests, h)))
      | inr h ↦
          let more : good < all = grind (arith, nat_tests, h, s.within) in
          subst first (sym (ap (λ v. if v then now else (if good == 0 then Some (fault_at start BadByte) else later)) h)) (elim (true_or_false (good == 0)) [
            | inl z ↦ subst first (sym (ap (λ v. if v then Some (fault_at start BadByte) else later) z)) (first_at_once start inside line others good found s more (grind (arith, nat_tests, z)))
            | inr z ↦ subst first (sym (ap (λ v. if v then Some (fault_at start BadByte) else later) z)) (first_later start inside line others good found s more (grind (arith, nat_tests, z)))
          ])
    ]

not_true : (b : Bool) → not b ≡ true → b ≡ true → ⊥
not_true true h g = let z : ⊥ = cc in z
not_true false h g = let z : ⊥ = cc in z

first_in_line-first : (start : ℕ) (inside : Bool) (line : List ℕ) (others : List (List ℕ)) → IsFirstFault (OccursInLine start inside line others) (first_in_line start inside line others)
first_in_line-first start inside line others =
    let class = class_of inside line in
    let found : Searched inside line others (good_length class (content line)) (head_error inside line others) = record {
      within = prefix_len-le-length (λ b. not (is_bad class b)) (content line);
      clean = λ k h. elim (below_or k (good_length class (content line))) [
        | inr le ↦ le
        | inl lt ↦ absurd (not_true _ (prefix_len_passes (λ b. not (is_bad class b)) (content line) k 0 lt) h.1)
      ];
      bad = λ more. (more, not-false _ (prefix_len_stops (λ b. not (is_bad class b)) (content line) 0 more));
      occurs = head_occurs inside line others;
      least = head_least inside line others;
    } in
    first_of_line-first start inside line others _ _ found

-- each line has a byte
abbrev pub AreSome : List (List ℕ) → Type 0
AreSome [] = Unit {0}
AreSome (line ∷ others) = (0 < length line) × AreSome others

put_first-AreSome : (b : ℕ) (ls : List (List ℕ)) → AreSome ls → AreSome (put_first b ls)
put_first-AreSome b [] some = (omega arith, tt)
put_first-AreSome b (line ∷ others) some = (omega arith, some.1)

-- each line of a text has a byte
lines-AreSome : (text : List ℕ) → AreSome (lines text)
lines-AreSome [] = tt
lines-AreSome (b ∷ text) = elim (true_or_false (b == 10)) [
  | inl h ↦ subst AreSome (sym (ap (λ v. if v then (b ∷ []) ∷ lines text else put_first b (lines text)) h)) (omega arith, lines-AreSome text)
  | inr h ↦ subst AreSome (sym (ap (λ v. if v then (b ∷ []) ∷ lines text else put_first b (lines text)) h)) (put_first-AreSome b (lines text) (lines-AreSome text))
]

-- an error of a line is at one of its bytes
error_within : (inside : Bool) (line : List ℕ) (others : List (List ℕ)) (k : ℕ) (e : LexError) → 0 < length line → IsLineError inside line others k e → k < length line
error_within inside line others k BadByte some h = omega (arith, h.0, length-take-le (before is_line_end line) line, before-le-length is_line_end line)
error_within inside line others k OpenText some h = omega (arith, h.0)
error_within inside line others k LongLine some h = omega (arith, h.0)
error_within inside line others k UnknownControl some h = omega (arith, h.0)
error_within inside line others k OpenQuote some h = absurd h
error_within inside line others k LongLabel some h = absurd h

-- an error of lines is at their first byte or after it
occurs_after : (start : ℕ) (inside : Bool) (ls : List (List ℕ)) (f : ByteFault) → IsInLines start inside ls f → start ≤ f.at
occurs_after start inside [] f h = absurd h
occurs_after start inside (line ∷ others) f (inl (k, at, h)) = omega arith
occurs_after start inside (line ∷ others) f (inr h) = omega (arith, occurs_after (start + length line) (inside_after inside line) others f h)

-- the first error of a line, or else of those after it, is the first of all
first_joined : (start : ℕ) (inside : Bool) (line : List ℕ) (others : List (List ℕ)) (a b : Option ByteFault) → 0 < length line → IsFirstFault (OccursInLine start inside line others) a → IsFirstFault (IsInLines (start + length line) (inside_after inside line) others) b → IsFirstFault (IsInLines start inside (line ∷ others)) (option_or a b)
first_joined start inside line others None None some p q = λ f h. elim h [ inl g ↦ p f g | inr g ↦ q f g ]
first_joined start inside line others None (Some y) some p q = (inr q.0, λ f h. elim h [ inl g ↦ absurd (p f g) | inr g ↦ q.1 f g ])
first_joined start inside line others (Some x) b some p q = (
  inl p.0,
  λ f h. elim h [
    | inl g ↦ p.1 f g
    | inr g ↦ inl (omega (arith, p.0.1, error_within inside line others p.0.0 x.error some p.0.2, occurs_after (start + length line) (inside_after inside line) others f g))
  ],
)

-- the first error of lines
first_in_lines-first : (start : ℕ) (inside : Bool) (ls : List (List ℕ)) → AreSome ls → IsFirstFault (IsInLines start inside ls) (first_in_lines start inside ls)
first_in_lines-first start inside [] some = λ f h. h
first_in_lines-first start inside (line ∷ others) some =
    first_joined start inside line others _ _ some.0 (first_in_line-first start inside line others) (first_in_lines-first (start + length line) (inside_after inside line) others some.1)

-- the first error of a source's lines
pub source-first : (source : List ℕ) → IsFirstFault (IsLineFault source) (first_in_lines 0 false (lines source))
source-first source = first_in_lines-first 0 false (lines source) (lines-AreSome source)

-- one line more was read
pub code_step : (code : List ℕ) (inside : Bool) (line : List ℕ) (others ls : List (List ℕ)) (whole : List ℕ) → ls ≡ line ∷ others → code ++ code_of inside ls ≡ whole → (code ++ read_as (class_of inside line) line) ++ code_of (inside_after inside line) others ≡ whole
code_step code inside line others ls whole e h = append_assoc code _ _ ∙ ap (λ l. code ++ code_of inside l) (sym e) ∙ h

option_or_assoc : {X : Type 0} (a b c : Option X) → option_or (option_or a b) c ≡ option_or a (option_or b c)
option_or_assoc None b c = refl
option_or_assoc (Some x) b c = refl

-- one line more was searched
pub fault_step : (fault : Option ByteFault) (start : ℕ) (inside : Bool) (line : List ℕ) (others ls : List (List ℕ)) (whole : Option ByteFault) → ls ≡ line ∷ others → option_or fault (first_in_lines start inside ls) ≡ whole → option_or (option_or fault (first_in_line start inside line others)) (first_in_lines (start + length line) (inside_after inside line) others) ≡ whole
fault_step fault start inside line others ls whole e h = option_or_assoc fault _ _ ∙ ap (λ l. option_or fault (first_in_lines start inside l)) (sym e) ∙ h

option_or-none : {X : Type 0} (a : Option X) → option_or a None ≡ a
option_or-none None = refl
option_or-none (Some x) = refl

-- all lines were searched
pub fault_whole : (fault : Option ByteFault) (start : ℕ) (inside : Bool) (source : List ℕ) → option_or fault (first_in_lines start inside []) ≡ first_in_lines 0 false (lines source) → IsFirstFault (IsLineFault source) fault
fault_whole fault start inside source h = subst (IsFirstFault (IsLineFault source)) (sym h ∙ option_or-none fault) (source-first source)

-- a line is read at its own length
pub length-read_as : (class : Class) (line : List ℕ) → length (read_as class line) ≡ length line
length-read_as Comment line = length-map line blanked
length-read_as Control line = length-map line blanked
length-read_as Code line = refl

-- how many bytes lines take
abbrev total : List (List ℕ) → ℕ
total [] = 0
total (line ∷ others) = length line + total others

total-put_first : (b : ℕ) (ls : List (List ℕ)) → total (put_first b ls) ≡ suc (total ls)
total-put_first b [] = omega arith
total-put_first b (line ∷ others) = omega arith

-- the lines of a text take as many bytes as the text
total-lines : (text : List ℕ) → total (lines text) ≡ length text
total-lines [] = refl
total-lines (b ∷ text) = elim (true_or_false (b == 10)) [
  | inl h ↦ ap (λ v. total (if v then (b ∷ []) ∷ lines text else put_first b (lines text))) h ∙ omega (arith, total-lines text)
  | inr h ↦ ap (λ v. total (if v then (b ∷ []) ∷ lines text else put_first b (lines text))) h ∙ omega (arith, total-put_first b (lines text), total-lines text)
]

occurs_within : (start : ℕ) (inside : Bool) (ls : List (List ℕ)) (f : ByteFault) → AreSome ls → IsInLines start inside ls f → f.at < start + total ls
occurs_within start inside [] f some h = absurd h
occurs_within start inside (line ∷ others) f some (inl (k, at, h)) = omega (arith, error_within inside line others k f.error some.0 h)
occurs_within start inside (line ∷ others) f some (inr h) = omega (arith, occurs_within (start + length line) (inside_after inside line) others f some.1 h)

-- an error of a line is at a byte of the source
pub fault_within : (source : List ℕ) (f : ByteFault) → IsLineFault source f → f.at < length source
fault_within source f h = omega (arith, occurs_within 0 false (lines source) f (lines-AreSome source) h, total-lines source)
