-- The lines of a source without their ends, from the first on, and a line after its number.
use Rattle.gq_text.proofs.Exacts.{either}
use Rattle.std.proofs.lemmas.Bool.{and_parts}
use Rattle.std.proofs.Common.{◌≡◌, ℕ, zero, suc, ◌+◌, ◌-◌, ◌<◌, ◌≤◌, ◌==◌, ◌&&◌, ◌||◌, Bool, true, false, List, [], ◌∷◌, ◌++◌, length, take, drop, map, refl, sym, ap, ◌∙◌, arith, if◌then◌else◌, codes, decimal, length-drop, get_or, ◌≢◌}
use Rattle.std.proofs.lemmas.Bool.Decides.{nat_tests}
use Rattle.std.proofs.lemmas.List.{append_assoc, take_all}
use Rattle.std.proofs.Padding.{padded_integral_right}
use Rattle.std.specs.Fmt.{format_spec, styled_decimal}
use Rattle.gms_fmt.specs.Columns.{right_in}
use Rattle.gms_grammar.specs.Lines.{put_first, lines, begins, is_line_end, before, content}
use Rattle.gms_grammar.proofs.LineLemmas.{before_stops, before_more}
use Rattle.gms_list.specs.InnerLineEnds.{text_after_end}
use Rattle.gms_list.specs.ListingText.{numbered_line, numbered_from}

content_ended : (b : ℕ) (t : List ℕ) → is_line_end (b ∷ t) ≡ true → content (b ∷ t) ≡ []
content_ended b t e = ap (λ n. take n (b ∷ t)) (before_stops is_line_end (b ∷ t) e)

lines_feed : (b : ℕ) (t : List ℕ) → (b == 10) ≡ true → lines (b ∷ t) ≡ (b ∷ []) ∷ lines t
lines_feed b t e = ap (λ c. if c then (b ∷ []) ∷ lines t else put_first b (lines t)) e

lines_other : (b : ℕ) (t : List ℕ) → (b == 10) ≡ false → lines (b ∷ t) ≡ put_first b (lines t)
lines_other b t e = ap (λ c. if c then (b ∷ []) ∷ lines t else put_first b (lines t)) e

feed_is_end : (b : ℕ) (t : List ℕ) → (b == 10) ≡ true → is_line_end (b ∷ t) ≡ true
feed_is_end b t e = ap (λ c. c || (b == 13 && begins (λ c. c == 10) t)) e

after_end_feed : (b : ℕ) (t : List ℕ) → (b == 10) ≡ true → text_after_end (b ∷ t) ≡ t
after_end_feed b t e = ap (λ c. if c then t else (if b == 13 && begins (λ c. c == 10) t then drop 1 t else [])) e

after_end_return : (b : ℕ) (t : List ℕ) → (b == 10) ≡ false → (b == 13 && begins (λ c. c == 10) t) ≡ true → text_after_end (b ∷ t) ≡ drop 1 t
after_end_return b t e f =
    ap (λ c. if c then t else (if b == 13 && begins (λ c. c == 10) t then drop 1 t else [])) e ∙ ap (λ c. if c then drop 1 t else []) f

after_end_none : (b : ℕ) (t : List ℕ) → (b == 10) ≡ false → (b == 13 && begins (λ c. c == 10) t) ≡ false → text_after_end (b ∷ t) ≡ []
after_end_none b t e f =
    ap (λ c. if c then t else (if b == 13 && begins (λ c. c == 10) t then drop 1 t else [])) e ∙ ap (λ c. if c then drop 1 t else []) f

or_second : (a b c : Bool) → a ≡ false → (a || b) ≡ c → b ≡ c
or_second true b c e f = cc
or_second false b c e f = f

ended : (b : ℕ) (t : List ℕ) → is_line_end (b ∷ t) ≡ true → map content (lines (b ∷ t)) ≡ [] ∷ map content (lines (text_after_end (b ∷ t)))
ended b t e =
    either (b == 10) _
    (λ feed. ap (map content) (lines_feed b t feed) ∙ ap (λ l. l ∷ map content (lines t)) (content_ended b [] (feed_is_end b [] feed)) ∙ ap (λ r. [] ∷ map content (lines r)) (sym (after_end_feed b t feed)))
    (λ other. by_return b t e other (or_second (b == 10) (b == 13 && begins (λ c. c == 10) t) true other e))
  where
    by_return : (b : ℕ) (t : List ℕ) → is_line_end (b ∷ t) ≡ true → (b == 10) ≡ false → (b == 13 && begins (λ c. c == 10) t) ≡ true → map content (lines (b ∷ t)) ≡ [] ∷ map content (lines (text_after_end (b ∷ t)))
    by_return b [] e other f = let g : false ≡ true = (and_parts (b == 13) false f).1 in cc
    by_return b (c ∷ r) e other f =
        let feed : (c == 10) ≡ true = (and_parts (b == 13) (c == 10) f).1 in
        ap (map content) (lines_other b (c ∷ r) other ∙ ap (put_first b) (lines_feed c r feed))
        ∙ ap (λ l. l ∷ map content (lines r)) (content_ended b (c ∷ []) e)
        ∙ ap (λ r. [] ∷ map content (lines r)) (sym (after_end_return b (c ∷ r) other f))

-- the first line of a text that is not empty, by its first byte
record First (c : ℕ) (t : List ℕ) : Type 0 where
  pub rest : List ℕ
  pub others : List (List ℕ)
  pub is : lines (c ∷ t) ≡ (c ∷ rest) ∷ others

put_is : (c : ℕ) (t : List ℕ) (ls : List (List ℕ)) → lines (c ∷ t) ≡ put_first c ls → First c t
put_is c t [] e = record { rest = []; others = []; is = e }
put_is c t (l ∷ ls) e = record { rest = l; others = ls; is = e }

first_of : (c : ℕ) (t : List ℕ) → First c t
first_of c t =
    either (c == 10) (First c t)
    (λ feed. record { rest = []; others = lines t; is = lines_feed c t feed })
    (λ other. put_is c t (lines t) (lines_other c t other))

head_of : (x y : List ℕ) (xs ys : List (List ℕ)) → x ∷ xs ≡ y ∷ ys → x ≡ y
head_of x y xs ys e = cc

tail_of : (x y : List ℕ) (xs ys : List (List ℕ)) → x ∷ xs ≡ y ∷ ys → xs ≡ ys
tail_of x y xs ys e = cc

one_more : (b n : ℕ) (t : List ℕ) → take (1 + n) (b ∷ t) ≡ b ∷ take n t
one_more b n t = grind (arith)

one_less : (b n : ℕ) (t : List ℕ) → drop (1 + n) (b ∷ t) ≡ drop n t
one_less b n t = grind (arith)

-- The lines without their ends: the text before the first line end, and the lines after it.
pub content_lines : (text : List ℕ) → 0 < length text →
    map content (lines text) ≡ take (before is_line_end text) text ∷ map content (lines (text_after_end (drop (before is_line_end text) text)))
content_lines [] h = absurd (omega arith)
content_lines (b ∷ t) h = either (is_line_end (b ∷ t)) _
    (λ e. ended b t e ∙ ap (λ n. take n (b ∷ t) ∷ map content (lines (text_after_end (drop n (b ∷ t))))) (sym (before_stops is_line_end (b ∷ t) e)))
    (λ e. more b t e (content_lines t) ∙ ap (λ n. take n (b ∷ t) ∷ map content (lines (text_after_end (drop n (b ∷ t))))) (sym (before_more is_line_end b t e)))
  where
    not_feed : (b : ℕ) (t : List ℕ) → is_line_end (b ∷ t) ≡ false → (b == 10) ≡ false
    not_feed b t e = either (b == 10) _ (λ f. let g : true ≡ false = sym (feed_is_end b t f) ∙ e in cc) (λ f. f)

    more : (b : ℕ) (t : List ℕ) → is_line_end (b ∷ t) ≡ false → (0 < length t → map content (lines t) ≡ take (before is_line_end t) t ∷ map content (lines (text_after_end (drop (before is_line_end t) t)))) →
        map content (lines (b ∷ t)) ≡ take (1 + before is_line_end t) (b ∷ t) ∷ map content (lines (text_after_end (drop (1 + before is_line_end t) (b ∷ t))))
    more b [] e known =
        ap (map content) (lines_other b [] (not_feed b [] e)) ∙ ap (λ n. take n (b ∷ []) ∷ []) (before_more is_line_end b [] e)
    more b (c ∷ t) e known =
        let f = first_of c t in
        let k = known (omega arith) in
        let split : content (c ∷ f.rest) ∷ map content f.others ≡ take (before is_line_end (c ∷ t)) (c ∷ t) ∷ map content (lines (text_after_end (drop (before is_line_end (c ∷ t)) (c ∷ t)))) = ap (map content) (sym f.is) ∙ k in
        let line : content (b ∷ (c ∷ f.rest)) ≡ b ∷ content (c ∷ f.rest) =
        ap (λ n. take n (b ∷ (c ∷ f.rest))) (before_more is_line_end b (c ∷ f.rest) e) ∙ one_more b (before is_line_end (c ∷ f.rest)) (c ∷ f.rest) in
        ap (map content) (lines_other b (c ∷ t) (not_feed b (c ∷ t) e) ∙ ap (put_first b) f.is)
        ∙ ap (λ l. l ∷ map content f.others) (line ∙ ap (λ l. b ∷ l) (head_of _ _ _ _ split) ∙ sym (one_more b (before is_line_end (c ∷ t)) (c ∷ t)))
        ∙ ap (λ ls. take (1 + before is_line_end (c ∷ t)) (b ∷ (c ∷ t)) ∷ ls) (tail_of _ _ _ _ split ∙ ap (λ r. map content (lines (text_after_end r))) (sym (one_less b (before is_line_end (c ∷ t)) (c ∷ t))))

-- ---- the text after a line end

-- all of a slice from a place on
rest_from : (xs : List ℕ) (k : ℕ) → take (length xs - k) (drop k xs) ≡ drop k xs
rest_from xs k = take_all (length xs - k) (drop k xs) (omega (arith, length-drop k xs))

pub after_return : (t : List ℕ) → 2 ≤ length t → get_or t 0 0 ≡ 13 → get_or t 1 0 ≡ 10 → take (length t - 2) (drop 2 t) ≡ text_after_end t
after_return [] h e f = absurd (omega (arith, h))
after_return (b ∷ []) h e f = absurd (omega (arith, h))
after_return (b ∷ (c ∷ t)) h e f =
    let other : (b == 10) ≡ false = grind (arith, nat_tests) in
    let both : (b == 13 && c == 10) ≡ true = grind (arith, nat_tests) in
    rest_from (b ∷ (c ∷ t)) 2 ∙ sym (after_end_return b (c ∷ t) other both)

pub after_feed : (t : List ℕ) → 1 ≤ length t → get_or t 0 0 ≡ 10 → take (length t - 1) (drop 1 t) ≡ text_after_end t
after_feed [] h e = absurd (omega (arith, h))
after_feed (b ∷ t) h e =
    let feed : (b == 10) ≡ true = grind (arith, nat_tests) in
    rest_from (b ∷ t) 1 ∙ sym (after_end_feed b t feed)

pub after_nothing : (t : List ℕ) → length t < 1 → [] ≡ text_after_end t
after_nothing [] h = refl
after_nothing (b ∷ t) h = absurd (omega (arith, h))

pub after_one : (t : List ℕ) → length t < 2 → get_or t 0 0 ≢ 10 → [] ≡ text_after_end t
after_one [] h e = refl
after_one (b ∷ []) h e =
    let other : (b == 10) ≡ false = grind (arith, nat_tests) in sym (after_end_none b [] other (grind (arith, nat_tests)))
after_one (b ∷ (c ∷ t)) h e = absurd (omega (arith, h))

pub after_other : (t : List ℕ) → get_or t 0 0 ≢ 10 → get_or t 0 0 ≢ 13 → [] ≡ text_after_end t
after_other [] e f = refl
after_other (b ∷ t) e f =
    let other : (b == 10) ≡ false = grind (arith, nat_tests) in
    let no : (b == 13) ≡ false = grind (arith, nat_tests) in
    sym (after_end_none b t other (ap (λ x. x && begins (λ c. c == 10) t) no))

pub after_lone : (t : List ℕ) → get_or t 0 0 ≢ 10 → get_or t 1 0 ≢ 10 → [] ≡ text_after_end t
after_lone [] e f = refl
after_lone (b ∷ []) e f =
    let other : (b == 10) ≡ false = grind (arith, nat_tests) in sym (after_end_none b [] other (grind (arith, nat_tests)))
after_lone (b ∷ (c ∷ t)) e f =
    let other : (b == 10) ≡ false = grind (arith, nat_tests) in
    let no : (c == 10) ≡ false = grind (arith, nat_tests) in
    sym (after_end_none b (c ∷ t) other (grind (arith, nat_tests)))

-- the text after the first line is shorter
shorter : (t : List ℕ) → length (text_after_end t) ≤ length t
shorter [] = omega arith
shorter (b ∷ t) =
    either (b == 10) _
    (λ e. let l : length (text_after_end (b ∷ t)) ≡ length t = ap length (after_end_feed b t e) in omega (arith, l))
    (λ e. either (b == 13 && begins (λ c. c == 10) t) _
    (λ f. let l : length (text_after_end (b ∷ t)) ≡ length (drop 1 t) = ap length (after_end_return b t e f) in omega (arith, l, length-drop 1 t))
    (λ f. let l : length (text_after_end (b ∷ t)) ≡ length {A = ℕ} [] = ap length (after_end_none b t e f) in omega (arith, l)))

strictly : (b : ℕ) (t : List ℕ) → length (text_after_end (b ∷ t)) ≤ length t
strictly b t =
    either (b == 10) _
    (λ e. let l : length (text_after_end (b ∷ t)) ≡ length t = ap length (after_end_feed b t e) in omega (arith, l))
    (λ e. either (b == 13 && begins (λ c. c == 10) t) _
    (λ f. let l : length (text_after_end (b ∷ t)) ≡ length (drop 1 t) = ap length (after_end_return b t e f) in omega (arith, l, length-drop 1 t))
    (λ f. let l : length (text_after_end (b ∷ t)) ≡ length {A = ℕ} [] = ap length (after_end_none b t e f) in omega (arith, l)))

pub after_shorter : (text : List ℕ) (k : ℕ) → 0 < length text → length (text_after_end (take (length text - k) (drop k text))) < length text
after_shorter [] k h = absurd (omega (arith, h))
after_shorter (b ∷ t) zero h = let e : length (text_after_end (take (length (b ∷ t) - 0) (b ∷ t))) ≡ length (text_after_end (b ∷ t)) = ap (λ x. length (text_after_end x)) (rest_from (b ∷ t) 0) in omega (arith, e, strictly b t)
after_shorter (b ∷ t) (suc k) h =
    let e : length (text_after_end (take (length (b ∷ t) - suc k) (drop (suc k) (b ∷ t)))) ≡ length (text_after_end (drop (suc k) (b ∷ t))) = ap (λ x. length (text_after_end x)) (rest_from (b ∷ t) (suc k)) in
    omega (arith, e, shorter (drop (suc k) (b ∷ t)), length-drop (suc k) (b ∷ t))

pub after_lines : (text rest : List ℕ) (k : ℕ) → 0 < length text → k ≡ before is_line_end text → rest ≡ text_after_end (take (length text - k) (drop k text)) →
    map content (lines text) ≡ take k text ∷ map content (lines rest)
after_lines text rest k h e f =
    content_lines text h ∙ ap (λ n. take n text ∷ map content (lines (text_after_end (drop n text)))) (sym e) ∙ ap (λ r. take k text ∷ map content (lines r)) (sym (f ∙ ap text_after_end (rest_from text k)))

-- a number right in 6 places
pub styled_decimal-right : (n : ℕ) → styled_decimal (format_spec 32 3 0 6 18446744073709551615) n ≡ right_in 6 (decimal n)
styled_decimal-right n = padded_integral_right (format_spec 32 3 0 6 18446744073709551615) (decimal n) refl refl (λ h. cc) (λ h. cc) (omega arith)

-- a line after its number, by its three pieces
pub numbered : (head line : List ℕ) (n : ℕ) → head ≡ right_in 6 (decimal n) ++ codes "  " → head ++ (line ++ 10 ∷ []) ≡ numbered_line n line
numbered head line n e = rw e (simp append_assoc)

-- no text has no line
pub no_lines : (n : ℕ) (text : List ℕ) → length text ≡ 0 → numbered_from n (map content (lines text)) ≡ []
no_lines n [] h = refl
no_lines n (b ∷ t) h = absurd (omega (arith, h))

-- the first line after its number, and the later lines
pub next_line : (n : ℕ) (text : List ℕ) (k : ℕ) → 0 < length text → k ≡ before is_line_end text →
    numbered_from n (map content (lines text)) ≡ numbered_line n (take k text) ++ numbered_from (n + 1) (map content (lines (text_after_end (take (length text - k) (drop k text)))))
next_line n text k h e = ap (numbered_from n) (after_lines text (text_after_end (take (length text - k) (drop k text))) k h e refl)
