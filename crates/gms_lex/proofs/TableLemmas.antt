-- A line of a table is the same in the source, and is no longer than any line.
use Rattle.std.proofs.Common.{◌≡◌, ◌⊎◌, inl, inr, ℕ, zero, suc, ◌+◌, ◌-◌, ◌==◌, ◌&&◌, ◌||◌, ◌<◌, ◌≤◌, Bool, true, false, if◌then◌else◌, List, [], ◌∷◌, ◌++◌, length, take, drop, get_or, map, refl, sym, ap, ◌∙◌, subst, arith, length-append}
use Rattle.std.proofs.lemmas.Bool.Decides.{nat_tests}
use Rattle.std.proofs.lemmas.List.{get_or-take, get_or-drop, get_or_append_left, length-drop, drop-drop, length-take-le}
use Rattle.std.specs.Str.{IsAscii}
use Rattle.gms_grammar.specs.declared.fault.ByteFault.{ByteFault}
use Rattle.gms_grammar.specs.declared.fault.LexError.TheVariants.{BadByte, LongLine}
use Rattle.gms_grammar.specs.declared.line.Class.{Class}
use Rattle.gms_grammar.specs.declared.line.Class.TheVariants.{Comment, Control, Code}
use Rattle.gms_grammar.specs.Lines.{put_first, lines, is_blank, is_line_end, before, content, blanked, read_as, class_of, inside_after, code_of, code_text}
use Rattle.gms_grammar.specs.LineFaults.{longest_line, is_control_byte, is_bad, IsInLines, IsLineFault}
use Rattle.gms_grammar.proofs.LineLemmas.{true_or_false, below_or, before_stops, before_more, before-le-length}
use Rattle.gms_grammar.proofs.FirstLemmas.{length-read_as}
use Rattle.gms_lex.proofs.LineTextLemmas.{HasFeed, AreEnded, lines-ended, joined, joined-lines, byte_blanked, on_line, after_line}

-- the first n bytes of a text, all ASCII, come before its first line end, and one of them is not
-- blank
pub record IsTableText (n : ℕ) (text : List ℕ) : Type 0 where
  pub ascii : IsAscii (take n text)
  pub within : n ≤ before is_line_end text
  pub anchor : ℕ
  pub inside : anchor < n
  pub solid : is_blank (get_or text anchor 0) ≡ false

-- a line has a line feed at its end alone
abbrev IsFedOnce : List ℕ → Type 0
IsFedOnce line = (k : ℕ) → get_or line k 0 ≡ 10 → length line ≡ suc k

abbrev AreFedOnce : List (List ℕ) → Type 0
AreFedOnce [] = Unit {0}
AreFedOnce (line ∷ others) = IsFedOnce line × AreFedOnce others

not_feed : (b : ℕ) → (b == 10) ≡ false → b ≡ 10 → ⊥
not_feed b h e = let no : ⊥ = grind (arith, nat_tests, h, e) in no

fed_cons : (b : ℕ) (line : List ℕ) → (b == 10) ≡ false → IsFedOnce line → IsFedOnce (b ∷ line)
fed_cons b line h fed zero e = absurd (not_feed b h e)
fed_cons b line h fed (suc k) e = ap suc (fed k e)

none_fed : IsFedOnce []
none_fed k e = let no : ⊥ = omega (arith, e) in absurd no

feed_alone : (b : ℕ) → IsFedOnce (b ∷ [])
feed_alone b zero e = refl
feed_alone b (suc k) e = let no : ⊥ = omega (arith, e) in absurd no

put_first-fed : (b : ℕ) (ls : List (List ℕ)) → (b == 10) ≡ false → AreFedOnce ls → AreFedOnce (put_first b ls)
put_first-fed b [] h fed = (fed_cons b [] h none_fed, tt)
put_first-fed b (line ∷ others) h fed = (fed_cons b line h fed.0, fed.1)

lines-fed : (text : List ℕ) → AreFedOnce (lines text)
lines-fed [] = tt
lines-fed (b ∷ text) = elim (true_or_false (b == 10)) [
  | inl h ↦ subst AreFedOnce (sym (ap (λ v. if v then (b ∷ []) ∷ lines text else put_first b (lines text)) h)) (feed_alone b, lines-fed text)
  | inr h ↦ subst AreFedOnce (sym (ap (λ v. if v then (b ∷ []) ∷ lines text else put_first b (lines text)) h)) (put_first-fed b (lines text) h (lines-fed text))
]

-- the bytes of a line end
abbrev IsEndAt : List ℕ → ℕ → Type 0
IsEndAt text k = (get_or text k 0 ≡ 10) ⊎ ((get_or text k 0 ≡ 13) × (get_or text (suc k) 0 ≡ 10))

return_alone : (b : ℕ) → (b == 10 || (b == 13 && false)) ≡ true → b ≡ 10
return_alone b h = grind (arith, nat_tests, h)

feed_or_return : (b c : ℕ) → (b == 10 || (b == 13 && c == 10)) ≡ true → (b ≡ 10) ⊎ ((b ≡ 13) × (c ≡ 10))
feed_or_return b c h = elim (true_or_false (b == 10)) [
  | inl e ↦ inl (grind (arith, nat_tests, e))
  | inr e ↦ inr (grind (arith, nat_tests, e, h), grind (arith, nat_tests, e, h))
]

end_bytes : (text : List ℕ) (k : ℕ) → is_line_end (drop k text) ≡ true → IsEndAt text k
end_bytes [] zero h = let no : ⊥ = cc in absurd no
end_bytes [] (suc k) h = let no : ⊥ = cc in absurd no
end_bytes (b ∷ []) zero h = inl (return_alone b h)
end_bytes (b ∷ c ∷ text) zero h = feed_or_return b c h
end_bytes (b ∷ text) (suc k) h = end_bytes text k h

feed_ends : (b : ℕ) (x : Bool) → b ≡ 10 → (b == 10 || x) ≡ true
feed_ends b x e = grind (arith, nat_tests, e)

return_ends : (b c : ℕ) → b ≡ 13 → c ≡ 10 → (b == 10 || (b == 13 && c == 10)) ≡ true
return_ends b c e f = grind (arith, nat_tests, e, f)

bytes_end : (text : List ℕ) (k : ℕ) → IsEndAt text k → is_line_end (drop k text) ≡ true
bytes_end [] k (inl h) = let no : ⊥ = omega (arith, h) in absurd no
bytes_end [] k (inr h) = let no : ⊥ = omega (arith, h.1) in absurd no
bytes_end (b ∷ text) zero (inl h) = feed_ends b _ h
bytes_end (b ∷ []) zero (inr h) = let no : ⊥ = omega (arith, h.1) in absurd no
bytes_end (b ∷ c ∷ text) zero (inr h) = return_ends b c h.0 h.1
bytes_end (b ∷ text) (suc k) h = bytes_end text k h

-- a byte past the end of a text reads as 0
none_after : (text : List ℕ) (k : ℕ) → length text ≤ k → get_or text k 0 ≡ 0
none_after [] k le = refl
none_after (b ∷ text) zero le = absurd (omega arith)
none_after (b ∷ text) (suc k) le = none_after text k (omega arith)

-- a byte of a line end stays where the line is read
byte_kept : (class : Class) (line rest : List ℕ) (k c : ℕ) → blanked c ≡ c → 0 < c → get_or line k 0 ≡ c → get_or (read_as class line ++ rest) k 0 ≡ c
byte_kept class line rest k c same some h = elim (below_or k (length line)) [
  | inr ge ↦ let no : ⊥ = omega (arith, h, none_after line k ge, some) in absurd no
  | inl below ↦ get_or_append_left (read_as class line) rest 0 k (omega (arith, length-read_as class line, below)) ∙ in_line class below
] where
  in_line : (class : Class) → k < length line → get_or (read_as class line) k 0 ≡ c
  in_line Comment below = byte_blanked line k below ∙ ap blanked h ∙ same
  in_line Control below = byte_blanked line k below ∙ ap blanked h ∙ same
  in_line Code below = h

end_kept : (class : Class) (line rest : List ℕ) (k : ℕ) → is_line_end (drop k line) ≡ true → is_line_end (drop k (read_as class line ++ rest)) ≡ true
end_kept class line rest k h = elim (end_bytes line k h) [
  | inl feed ↦ bytes_end (read_as class line ++ rest) k (inl (byte_kept class line rest k 10 refl (omega arith) feed))
  | inr both ↦ bytes_end (read_as class line ++ rest) k (inr (byte_kept class line rest k 13 refl (omega arith) both.0, byte_kept class line rest (suc k) 10 refl (omega arith) both.1))
]

-- if the text from byte k on passes the test, at most k bytes come before the place
before_most : (test : List ℕ → Bool) (text : List ℕ) (k : ℕ) → test (drop k text) ≡ true → before test text ≤ k
before_most test [] k h = omega arith
before_most test (b ∷ text) zero h = omega (arith, before_stops test (b ∷ text) h)
before_most test (b ∷ text) (suc k) h = elim (true_or_false (test (b ∷ text))) [
  | inl e ↦ omega (arith, before_stops test (b ∷ text) e)
  | inr e ↦ omega (arith, before_more test b text e, before_most test text k h)
]

-- if the place is within the text, the rest passes the test there
before_ends : (test : List ℕ → Bool) (text : List ℕ) → before test text < length text → test (drop (before test text) text) ≡ true
before_ends test [] lt = absurd (omega arith)
before_ends test (b ∷ text) lt = elim (true_or_false (test (b ∷ text))) [
  | inl e ↦ subst (λ k. test (drop k (b ∷ text)) ≡ true) (sym (before_stops test (b ∷ text) e)) e
  | inr e ↦
      let more : before test (b ∷ text) ≡ suc (before test text) = omega (arith, before_more test b text e) in
      subst (λ k. test (drop k (b ∷ text)) ≡ true) (sym more) (before_ends test text (omega (arith, more, lt)))
]

-- a text of a table that begins on a line is within its content
stays_in : (class : Class) (line rest : List ℕ) (lo n : ℕ) → ((rest ≡ []) ⊎ HasFeed line) → IsFedOnce line → lo < length line → IsTableText n (drop lo (read_as class line ++ rest)) → lo + n ≤ before is_line_end line
stays_in class line rest lo n last fed below t =
    let p = before is_line_end line in
    let text = read_as class line ++ rest in
    let some : 0 < n = omega (arith, t.inside) in
    elim (below_or p (length line)) [
      | inl short ↦
          let stop : is_line_end (drop p line) ≡ true = before_ends is_line_end line short in
          elim (below_or p lo) [
            | inr ahead ↦
                let there : is_line_end (drop (p - lo) (drop lo text)) ≡ true = ap is_line_end (drop-drop (p - lo) lo text ∙ ap (λ k. drop k text) (let e : lo + (p - lo) ≡ p = omega arith in e)) ∙ end_kept class line rest p stop in
                omega (arith, t.within, before_most is_line_end (drop lo text) (p - lo) there, ahead)
            | inl following ↦ elim (end_bytes line p stop) [
              | inl feed ↦ absurd (omega (arith, fed p feed, below, following))
              | inr both ↦
                  let at : lo ≡ suc p = omega (arith, fed (suc p) both.1, below, following) in
                  let end : is_line_end (drop lo text) ≡ true = end_kept class line rest lo (bytes_end line lo (inl (ap (λ k. get_or line k 0) at ∙ both.1))) in
                  absurd (omega (arith, t.within, before_stops is_line_end (drop lo text) end, some))
            ]
          ]
      | inr whole ↦ elim last [
        | inl none ↦ omega (arith, t.within, before-le-length is_line_end (drop lo text), length-drop lo text, length-append (read_as class line) rest, length-read_as class line, ap length none, whole, below)
        | inr feed ↦
            let end : is_line_end (drop (length line - 1) line) ≡ true = bytes_end line (length line - 1) (inl feed.1) in
            absurd (omega (arith, feed.0, whole, before_most is_line_end line (length line - 1) end))
      ]
    ]

-- a byte that a line may contain is blank if the line is read as blank
blank_of : (b : ℕ) → is_control_byte b ≡ false → is_blank (blanked b) ≡ true
blank_of b h = grind (arith, nat_tests, h)

control_of_bad : (x y : Bool) → (x || y) ≡ false → x ≡ false
control_of_bad true y h = h
control_of_bad false y h = refl

-- a line that is read as blank has no text of a table
not_table : (line rest : List ℕ) (lo n : ℕ) → lo + n ≤ length line → ((k : ℕ) → k < lo + n → is_control_byte (get_or line k 0) ≡ false) → IsTableText n (drop lo (map blanked line ++ rest)) → ⊥
not_table line rest lo n fits good t =
    let k = lo + t.anchor in
    let byte : get_or (drop lo (map blanked line ++ rest)) t.anchor 0 ≡ blanked (get_or line k 0) =
    get_or-drop lo (map blanked line ++ rest) t.anchor 0
    ∙ get_or_append_left (map blanked line) rest 0 k (omega (arith, t.inside, fits, length-read_as Comment line))
    ∙ byte_blanked line k (omega (arith, t.inside, fits)) in
    let blank : true ≡ false = sym (blank_of (get_or line k 0) (good k (omega (arith, t.inside)))) ∙ sym (ap is_blank byte) ∙ t.solid in
    let no : ⊥ = cc in no

same_class : (class : Class) (line rest : List ℕ) (lo n : ℕ) → lo + n ≤ length line → ((k : ℕ) → k < lo + n → is_bad class (get_or line k 0) ≡ false) → IsTableText n (drop lo (read_as class line ++ rest)) → take n (drop lo (read_as class line)) ≡ take n (drop lo line)
same_class Comment line rest lo n fits good t = absurd (not_table line rest lo n fits good t)
same_class Control line rest lo n fits good t = absurd (not_table line rest lo n fits (λ k lt. control_of_bad _ _ (good k lt)) t)
same_class Code line rest lo n fits good t = refl

-- what a line of a table is in the source
abbrev IsSame : ℕ → List ℕ → List ℕ → Type 0
IsSame n text source = (take n text ≡ take n source) × (n ≤ longest_line)

in_lines : (start : ℕ) (inside : Bool) (ls : List (List ℕ)) (lo n : ℕ) → AreEnded ls → AreFedOnce ls → ((fault : ByteFault) → IsInLines start inside ls fault → ⊥) → IsTableText n (drop lo (code_of inside ls)) → IsSame n (drop lo (code_of inside ls)) (drop lo (joined ls))
in_lines start inside [] lo n ended fed sound t =
    let none : before is_line_end (drop lo []) ≤ 0 = omega (arith, before-le-length is_line_end (drop {A = ℕ} lo []), length-drop {A = ℕ} lo []) in
    absurd (omega (arith, t.within, t.inside, none))
in_lines start inside (line ∷ others) lo n ended fed sound t =
    let class = class_of inside line in
    let read = read_as class line in
    let rest = code_of (inside_after inside line) others in
    let long : length read ≡ length line = length-read_as class line in
    elim (below_or lo (length line)) [
      | inr ge ↦
          let code_is : drop lo (read ++ rest) ≡ drop (lo - length line) rest = after_line read rest lo (length line) long ge in
          let source_is : drop lo (line ++ joined others) ≡ drop (lo - length line) (joined others) = after_line line (joined others) lo (length line) refl ge in
          let following = in_lines (start + length line) (inside_after inside line) others (lo - length line) n ended.1 fed.1 (λ fault h. sound fault (inr h)) (subst (IsTableText n) code_is t) in
          (ap (take n) code_is ∙ following.0 ∙ sym (ap (take n) source_is), following.1)
      | inl below ↦
          let last : (rest ≡ []) ⊎ HasFeed line = elim ended.0 [ inl e ↦ inl (ap (code_of (inside_after inside line)) e) | inr feed ↦ inr feed ] in
          let stays : lo + n ≤ before is_line_end line = stays_in class line rest lo n last fed.0 below t in
          let within : before is_line_end line ≤ length line = before-le-length is_line_end line in
          let size : length (content line) ≡ before is_line_end line = length-take-le (before is_line_end line) line within in
          let good : (k : ℕ) → k < lo + n → is_bad class (get_or line k 0) ≡ false = λ k lt. elim (true_or_false (is_bad class (get_or line k 0))) [
            | inr h ↦ h
            | inl h ↦ absurd (sound record { at = start + k; error = BadByte } (inl (k, refl, (omega (arith, lt, stays, size), ap (is_bad class) (get_or-take (before is_line_end line) line k 0 (omega (arith, lt, stays))) ∙ h))))
          ] in
          let short : length (content line) ≤ longest_line = elim (below_or longest_line (length (content line))) [
            | inl over ↦ absurd (sound record { at = start + 0; error = LongLine } (inl (0, refl, (refl, over))))
            | inr le ↦ le
          ] in
          (on_line read rest lo n (omega (arith, long, stays, within)) ∙ same_class class line rest lo n (omega (arith, stays, within)) good t ∙ sym (on_line line (joined others) lo n (omega (arith, stays, within))), omega (arith, short, size, stays))
    ]

-- a line of a table is the same in a source without faults of lines, and is no longer than any line
pub table_same : (source : List ℕ) (lo n : ℕ) → ((fault : ByteFault) → IsLineFault source fault → ⊥) → IsTableText n (drop lo (code_text source)) → IsSame n (drop lo (code_text source)) (drop lo source)
table_same source lo n sound t =
    let h = in_lines 0 false (lines source) lo n (lines-ended source) (lines-fed source) sound t in
    (h.0 ∙ ap (λ s. take n (drop lo s)) (joined-lines source), h.1)
