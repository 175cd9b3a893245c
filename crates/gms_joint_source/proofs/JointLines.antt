-- The lines of a source with a line feed and more after it, and what remains of them for tokens.
use Rattle.std.proofs.lemmas.Bool.{and_parts}
use Rattle.std.proofs.Common.{◌≡◌, ℕ, suc, ◌+◌, ◌==◌, ◌&&◌, ◌||◌, ◌<◌, Bool, true, false, not, if◌then◌else◌, List, [], ◌∷◌, ◌++◌, length, take, map, get_or, take_while, refl, sym, ap, ap₂, ◌∙◌, subst, arith, append_assoc, append-nil, inl, inr}
use Rattle.std.proofs.lemmas.Bool.Decides.{nat_tests}
use Rattle.std.proofs.lemmas.List.{map-append}
use Rattle.std.proofs.Math.Seq.{take-length}
use Rattle.std.specs.List.{list_any}
use Rattle.std.specs.Char.{to_ascii_lowercase}
use Rattle.std.specs.Str.{str_eq_ignore_ascii_case}
use Rattle.gms_grammar.specs.declared.line.Class.{Class}
use Rattle.gms_grammar.specs.declared.line.Class.TheVariants.{Comment, Control, Code}
use Rattle.gms_grammar.specs.declared.fault.LexError.TheVariants.{BadByte, OpenText}
use Rattle.gms_grammar.specs.declared.fault.ByteFault.{ByteFault}
use Rattle.gms_grammar.specs.ControlWords.{block_word, block_end}
use Rattle.gms_grammar.specs.LineFaults.{is_bad, IsLineError, IsInLines}
use Rattle.gms_grammar.specs.Lines.{put_first, lines, is_line_end, before, content, is_blank, class_of, closes, opens, inside_after, blanked, read_as, code_of, code_text}
use Rattle.gms_grammar.proofs.LineLemmas.{true_or_false}
use Rattle.gms_joint_source.proofs.Feeds.{fed, ends_in_return, content_fed}
use Rattle.gms_joint_source.proofs.FedTokens.{no_feed, first_false}

-- ---- lines

-- no byte of a text is a line feed
abbrev no_ten : List ℕ → Bool
no_ten [] = true
no_ten (b ∷ text) = not (b == 10) && no_ten text

-- Lines, and the same lines with a line feed after them: it ends the last line, or is a separate
-- line if that line has an end.
data IsClosed : List (List ℕ) → List (List ℕ) → Type 0 where
  empty : IsClosed [] ((10 ∷ []) ∷ [])
  last : (b : ℕ) (line : List ℕ) → no_ten (b ∷ line) ≡ true → IsClosed ((b ∷ line) ∷ []) ((b ∷ (line ++ 10 ∷ [])) ∷ [])
  ended : (b : ℕ) (line : List ℕ) {one other : List (List ℕ)} → ends_in_return (b ∷ line) ≡ false → IsClosed one other → IsClosed ((b ∷ line) ∷ one) ((b ∷ line) ∷ other)

put_closed : (b : ℕ) {one other : List (List ℕ)} → (b == 10) ≡ false → IsClosed one other → IsClosed (put_first b one) (put_first b other)
put_closed b f empty = last b [] (ap (λ v. not v && true) f)
put_closed b f (last c line h) = last b (c ∷ line) (ap (λ v. not v && no_ten (c ∷ line)) f ∙ h)
put_closed b f (ended c line h k) = ended b (c ∷ line) h k

feed_no_return : (b : ℕ) → (b == 10) ≡ true → (b == 13) ≡ false
feed_no_return b h = grind (arith, nat_tests, h)

closed : (text : List ℕ) → IsClosed (lines text) (lines (fed text []))
closed [] = empty
closed (b ∷ text) = elim (true_or_false (b == 10)) [
  | inl t ↦
      subst (λ v. IsClosed (if v then (b ∷ []) ∷ lines text else put_first b (lines text)) (if v then (b ∷ []) ∷ lines (fed text []) else put_first b (lines (fed text [])))) (sym t)
      (ended b [] (feed_no_return b t) (closed text))
  | inr f ↦
      subst (λ v. IsClosed (if v then (b ∷ []) ∷ lines text else put_first b (lines text)) (if v then (b ∷ []) ∷ lines (fed text []) else put_first b (lines (fed text [])))) (sym f)
      (put_closed b f (closed text))
]

put_append : (b : ℕ) {one other : List (List ℕ)} (more : List (List ℕ)) → IsClosed one other → put_first b (other ++ more) ≡ put_first b other ++ more
put_append b more empty = refl
put_append b more (last c line h) = refl
put_append b more (ended c line h k) = refl

lines_fed : (text rest : List ℕ) → lines (fed text rest) ≡ lines (fed text []) ++ lines rest
lines_fed [] rest = refl
lines_fed (b ∷ text) rest = elim (true_or_false (b == 10)) [
  | inl t ↦
      ap (λ v. if v then (b ∷ []) ∷ lines (fed text rest) else put_first b (lines (fed text rest))) t
      ∙ ap (λ ls. (b ∷ []) ∷ ls) (lines_fed text rest)
      ∙ sym (ap (λ v. (if v then (b ∷ []) ∷ lines (fed text []) else put_first b (lines (fed text []))) ++ lines rest) t)
  | inr f ↦
      ap (λ v. if v then (b ∷ []) ∷ lines (fed text rest) else put_first b (lines (fed text rest))) f
      ∙ ap (put_first b) (lines_fed text rest)
      ∙ put_append b (lines rest) (closed text)
      ∙ sym (ap (λ v. (if v then (b ∷ []) ∷ lines (fed text []) else put_first b (lines (fed text []))) ++ lines rest) f)
]

-- ---- no fault of lines

-- lines of which the first begins at this byte have no fault
abbrev AreGood : ℕ → Bool → List (List ℕ) → Type 0
AreGood start inside ls = (fault : ByteFault) → IsInLines start inside ls fault → ⊥

good_after : (start : ℕ) (inside : Bool) (line : List ℕ) (others : List (List ℕ)) → AreGood start inside (line ∷ others) → AreGood (start + length line) (inside_after inside line) others
good_after start inside line others good fault h = good fault (inr h)

no_end : (b : ℕ) (text : List ℕ) → no_ten (b ∷ text) ≡ true → is_line_end (b ∷ text) ≡ false
no_end b [] h = no_end_by (b == 10) (b == 13) false true h (λ k. k)
  where
    no_end_by : (ten return next others : Bool) → (not ten && others) ≡ true → (next ≡ true → false ≡ true) → (ten || (return && next)) ≡ false
    no_end_by true return next others h k = cc
    no_end_by false true true others h k = sym (k refl)
    no_end_by false true false others h k = refl
    no_end_by false false next others h k = refl
no_end b (c ∷ text) h = no_end_by (b == 10) (b == 13) (c == 10) (no_ten text) h
  where
    no_end_by : (ten return next others : Bool) → (not ten && (not next && others)) ≡ true → (ten || (return && next)) ≡ false
    no_end_by true return next others h = cc
    no_end_by false true true others h = cc
    no_end_by false true false others h = refl
    no_end_by false false next others h = refl

before_none : (text : List ℕ) → no_ten text ≡ true → before is_line_end text ≡ length text
before_none [] h = refl
before_none (b ∷ text) h =
    let more : before is_line_end (b ∷ text) ≡ 1 + before is_line_end text = ap (λ v. if v then 0 else 1 + before is_line_end text) (no_end b text h) in
    omega (arith, more, before_none text ((and_parts (not (b == 10)) (no_ten text) h).1))

content_none : (text : List ℕ) → no_ten text ≡ true → content text ≡ text
content_none text h = ap (λ n. take n text) (before_none text h) ∙ take-length text

bad_return : (class : Class) → is_bad class 13 ≡ true
bad_return Comment = refl
bad_return Control = refl
bad_return Code = refl

-- where a text ends in a carriage return
last_return : (b : ℕ) (text : List ℕ) → ends_in_return (b ∷ text) ≡ true → (k : ℕ) × (k < length (b ∷ text)) × (get_or (b ∷ text) k 0 ≡ 13)
last_return b [] h = (0, omega arith, (let e : b ≡ 13 = grind (arith, nat_tests, h) in e))
last_return b (c ∷ text) h = let r = last_return c text h in (suc r.0, omega (arith, r.1), r.2)

-- the last line, which has no end, ends in no carriage return
last_good : (start : ℕ) (inside : Bool) (b : ℕ) (line : List ℕ) (others : List (List ℕ)) → no_ten (b ∷ line) ≡ true → AreGood start inside ((b ∷ line) ∷ others) → ends_in_return (b ∷ line) ≡ false
last_good start inside b line others h good = elim (true_or_false (ends_in_return (b ∷ line))) [
  | inl t ↦
      let r = last_return b line t in
      let whole : b ∷ line ≡ content (b ∷ line) = sym (content_none (b ∷ line) h) in
      let bad : IsLineError inside (b ∷ line) others r.0 BadByte = (
        subst (λ (text : List ℕ). r.0 < length text) whole r.1,
        subst (λ (text : List ℕ). is_bad (class_of inside (b ∷ line)) (get_or text r.0 0) ≡ true) whole (ap (is_bad (class_of inside (b ∷ line))) r.2 ∙ bad_return (class_of inside (b ∷ line))),
      ) in
      absurd (good (record { at = start + r.0; error = BadByte }) (inl (r.0, refl, bad)))
  | inr f ↦ f
]

-- ---- comments

-- whether the line after these lines is inside a block of comment
abbrev inside_later : Bool → List (List ℕ) → Bool
inside_later inside [] = inside
inside_later inside (line ∷ others) = inside_later (inside_after inside line) others

code_append : (inside : Bool) (one other : List (List ℕ)) → code_of inside (one ++ other) ≡ code_of inside one ++ code_of (inside_later inside one) other
code_append inside [] other = refl
code_append inside (line ∷ one) other =
    let read : List ℕ = read_as (class_of inside line) line in
    ap (λ t. read ++ t) (code_append (inside_after inside line) one other) ∙ sym (append_assoc read (code_of (inside_after inside line) one) (code_of (inside_later (inside_after inside line) one) other))

continues : (one other : Bool) → (one || other) ≡ true → not one ≡ true → other ≡ true
continues true other h k = cc
continues false other h k = h

still_closed : (start : ℕ) (inside : Bool) (line : List ℕ) (others : List (List ℕ)) → AreGood start inside (line ∷ others) → (inside ≡ true → list_any closes (line ∷ others) ≡ true) → inside_after inside line ≡ true → list_any closes others ≡ true
still_closed start true line others good closing h = continues (closes line) (list_any closes others) (closing refl) h
still_closed start false line others good closing h = elim (true_or_false (list_any closes others)) [
  | inl t ↦ t
  | inr f ↦ absurd (good (record { at = start + 0; error = OpenText }) (inl (0, refl, (refl, h, f))))
]

-- after the last line no block of comment is open
ends_outside : (start : ℕ) (inside : Bool) (ls : List (List ℕ)) → AreGood start inside ls → (inside ≡ true → list_any closes ls ≡ true) → inside_later inside ls ≡ false
ends_outside start true [] good closing = let e : false ≡ true = closing refl in cc
ends_outside start false [] good closing = refl
ends_outside start inside (line ∷ others) good closing =
    ends_outside (start + length line) (inside_after inside line) others (good_after start inside line others good) (still_closed start inside line others good closing)

-- a text begins with these bytes, or not, whatever follows a line feed
prefix_fed : (prefix text rest : List ℕ) → no_feed prefix ≡ true → str_eq_ignore_ascii_case (take (length prefix) (fed text rest)) prefix ≡ str_eq_ignore_ascii_case (take (length prefix) text) prefix
prefix_fed [] text rest h = refl
prefix_fed (c ∷ prefix) [] rest h = first_false (10 == to_ascii_lowercase c) (no_feed prefix) (str_eq_ignore_ascii_case (take (length prefix) rest) prefix) h
prefix_fed (c ∷ prefix) (b ∷ text) rest h =
    ap (λ v. (to_ascii_lowercase b == to_ascii_lowercase c) && v) (prefix_fed prefix text rest ((and_parts (not (10 == to_ascii_lowercase c)) (no_feed prefix) h).1))

closes_fed : (text : List ℕ) → closes (fed text []) ≡ closes text
closes_fed text = prefix_fed block_end text [] refl

opens_fed : (text : List ℕ) → ends_in_return text ≡ false → opens false (fed text []) ≡ opens false text
opens_fed text h = ap (λ t. str_eq_ignore_ascii_case (take_while (λ b. not (is_blank b)) t) block_word) (content_fed text [] h)

after_fed : (inside : Bool) (text : List ℕ) → ends_in_return text ≡ false → inside_after inside (fed text []) ≡ inside_after inside text
after_fed true text h = ap not (closes_fed text)
after_fed false text h = opens_fed text h

after_feed : (inside : Bool) → inside_after inside (10 ∷ []) ≡ inside
after_feed true = refl
after_feed false = refl

inside_closed : (start : ℕ) (inside : Bool) {one other : List (List ℕ)} → AreGood start inside one → IsClosed one other → inside_later inside other ≡ inside_later inside one
inside_closed start inside good empty = after_feed inside
inside_closed start inside good (last b line h) = after_fed inside (b ∷ line) (last_good start inside b line [] h good)
inside_closed start inside good (ended b line {one = one} h k) =
    inside_closed (start + length (b ∷ line)) (inside_after inside (b ∷ line)) (good_after start inside (b ∷ line) one good) k

-- ---- what remains for tokens

read_fed : (class : Class) (text : List ℕ) → read_as class (fed text []) ≡ read_as class text ++ 10 ∷ []
read_fed Comment text = map-append blanked text (10 ∷ [])
read_fed Control text = map-append blanked text (10 ∷ [])
read_fed Code text = refl

class_fed : (inside : Bool) (b : ℕ) (one other : List ℕ) → class_of inside (b ∷ one) ≡ class_of inside (b ∷ other)
class_fed true b one other = refl
class_fed false b one other = refl

feed_read : (inside : Bool) → read_as (class_of inside (10 ∷ [])) (10 ∷ []) ≡ 10 ∷ []
feed_read true = refl
feed_read false = refl

code_closed : (inside : Bool) {one other : List (List ℕ)} → IsClosed one other → code_of inside other ≡ code_of inside one ++ 10 ∷ []
code_closed inside empty = append-nil (read_as (class_of inside (10 ∷ [])) (10 ∷ [])) ∙ feed_read inside
code_closed inside (last b line h) =
    append-nil (read_as (class_of inside (b ∷ fed line [])) (b ∷ fed line []))
    ∙ ap (λ (class : Class). read_as class (b ∷ fed line [])) (class_fed inside b (fed line []) line)
    ∙ read_fed (class_of inside (b ∷ line)) (b ∷ line)
    ∙ ap (λ t. t ++ 10 ∷ []) (sym (append-nil (read_as (class_of inside (b ∷ line)) (b ∷ line))))
code_closed inside (ended b line {one = one} h k) =
    let read : List ℕ = read_as (class_of inside (b ∷ line)) (b ∷ line) in
    ap (λ t. read ++ t) (code_closed (inside_after inside (b ∷ line)) k) ∙ sym (append_assoc read (code_of (inside_after inside (b ∷ line)) one) (10 ∷ []))

return_kept : (b : ℕ) → (b == 13) ≡ false → (blanked b == 13) ≡ false
return_kept b h = elim (true_or_false (b == 9 || (b == 10 || b == 13))) [
  | inl t ↦ ap (λ v. (if v then b else 32) == 13) t ∙ h
  | inr f ↦ ap (λ v. (if v then b else 32) == 13) f
]

blanked_return : (text : List ℕ) → ends_in_return text ≡ false → ends_in_return (map blanked text) ≡ false
blanked_return [] h = refl
blanked_return (b ∷ []) h = return_kept b h
blanked_return (b ∷ c ∷ text) h = blanked_return (c ∷ text) h

read_return : (class : Class) (text : List ℕ) → ends_in_return text ≡ false → ends_in_return (read_as class text) ≡ false
read_return Comment text h = blanked_return text h
read_return Control text h = blanked_return text h
read_return Code text h = h

return_append : (one other : List ℕ) → ends_in_return one ≡ false → ends_in_return other ≡ false → ends_in_return (one ++ other) ≡ false
return_append [] other h k = k
return_append (b ∷ []) [] h k = h
return_append (b ∷ []) (c ∷ other) h k = k
return_append (b ∷ c ∷ one) other h k = return_append (c ∷ one) other h k

code_return : (start : ℕ) (inside : Bool) {one other : List (List ℕ)} → AreGood start inside one → IsClosed one other → ends_in_return (code_of inside one) ≡ false
code_return start inside good empty = refl
code_return start inside good (last b line h) =
    return_append (read_as (class_of inside (b ∷ line)) (b ∷ line)) [] (read_return (class_of inside (b ∷ line)) (b ∷ line) (last_good start inside b line [] h good)) refl
code_return start inside good (ended b line {one = one} h k) =
    return_append (read_as (class_of inside (b ∷ line)) (b ∷ line)) (code_of (inside_after inside (b ∷ line)) one) (read_return (class_of inside (b ∷ line)) (b ∷ line) h)
    (code_return (start + length (b ∷ line)) (inside_after inside (b ∷ line)) (good_after start inside (b ∷ line) one good) k)

-- ---- sources

module _ (source : List ℕ) (good : AreGood 0 false (lines source)) where
  -- the text for tokens of a source without faults of lines ends in no carriage return
  pub code_no_return : ends_in_return (code_text source) ≡ false
  code_no_return = code_return 0 false good (closed source)

  -- the text for tokens, if a line feed and more follow the source
  pub code_text_fed : (rest : List ℕ) → code_text (fed source rest) ≡ fed (code_text source) (code_text rest)
  code_text_fed rest =
      let outside : inside_later false (lines (fed source [])) ≡ false = inside_closed 0 false good (closed source) ∙ ends_outside 0 false (lines source) good (λ e. let z : false ≡ true = e in cc) in
      ap (code_of false) (lines_fed source rest)
      ∙ code_append false (lines (fed source [])) (lines rest)
      ∙ ap₂ (λ t inside. t ++ code_of inside (lines rest)) (code_closed false (closed source)) outside
      ∙ append_assoc (code_text source) (10 ∷ []) (code_text rest)

  -- and where that begins with `;` and another line feed
  pub code_text_joint : (file : List ℕ) → code_text (fed source (59 ∷ 10 ∷ file)) ≡ fed (code_text source) (59 ∷ 10 ∷ code_text file)
  code_text_joint file = code_text_fed (59 ∷ 10 ∷ file)
