-- The symbol with which a text begins is the longest, and begins as no other token does.
use Rattle.std.proofs.lemmas.Bool.{and_from, and_parts}
use Rattle.std.proofs.Common.{◌≡◌, ◌⊎◌, inl, inr, ℕ, zero, suc, ◌+◌, ◌==◌, ◌≤◌, ◌&&◌, ◌||◌, Bool, true, false, not, nat_lt, nat_le, cond, List, [], ◌∷◌, length, take, drop, Some, None, find, refl, sym, ap, ◌∙◌, subst, arith}
use Rattle.std.proofs.lemmas.Bool.Decides.{nat_tests}
use Rattle.std.proofs.lemmas.List.{length-take-le}
use Rattle.std.specs.Char.{is_ascii_alphanumeric, is_ascii_digit, to_ascii_lowercase}
use Rattle.std.specs.Str.{str_eq_ignore_ascii_case}
use Rattle.gms_grammar.specs.Lines.{begins}
use Rattle.gms_grammar.proofs.LineLemmas.{true_or_false}
use Rattle.gms_grammar.specs.declared.kind.Sym.{Sym}
use Rattle.gms_grammar.specs.declared.kind.Sym.TheVariants.{EqE, EqL, EqG, EqN, Power, DotDot, LessEq, GreaterEq, NotEq, PlusPlus, MinusMinus, Plus, Minus, Star, Slash, Equals, Less, Greater, LeftParen, RightParen, Comma, Semicolon, Dot, Dollar}
use Rattle.gms_grammar.specs.Bytes.{is_quote}
use Rattle.gms_grammar.specs.Symbols.{written_symbol, symbols, begins_with_word}
use Rattle.gms_lex.specs.Spellings.{IsSymbol}
use Rattle.gms_lex.proofs.PrefixLemmas.{not_both}

-- ---- how symbols begin

-- neither a letter, nor a digit, nor a quotation mark
abbrev pub is_outside : ℕ → Bool
is_outside b = not (is_ascii_alphanumeric b || is_quote b)

letter_inside : (b c : ℕ) → nat_lt b 65 ≡ false → nat_lt b 91 ≡ true → (b + 32 == c) ≡ true → is_outside c ≡ true → ⊥
letter_inside b c high letter same out = grind (arith, nat_tests, high, letter, same, out)

lower_same : (b c : ℕ) → is_outside c ≡ true → (to_ascii_lowercase b == c) ≡ true → b ≡ c
lower_same b c out h = elim (true_or_false (nat_lt b 65)) [
  | inl low ↦
      let same : (b == c) ≡ true = ap (λ v. cond v b (cond (nat_lt b 91) (b + 32) b) == c) (sym low) ∙ h in
      grind (arith, nat_tests, same)
  | inr high ↦ elim (true_or_false (nat_lt b 91)) [
    | inl letter ↦
        let same : (b + 32 == c) ≡ true = ap (λ v. cond v (b + 32) b == c) (sym letter) ∙ ap (λ v. cond v b (cond (nat_lt b 91) (b + 32) b) == c) (sym high) ∙ h in
        absurd (letter_inside b c high letter same out)
    | inr other ↦
        let same : (b == c) ≡ true = ap (λ v. cond v (b + 32) b == c) (sym other) ∙ ap (λ v. cond v b (cond (nat_lt b 91) (b + 32) b) == c) (sym high) ∙ h in
        grind (arith, nat_tests, same)
  ]
]

-- texts that differ only in letter case have equal lengths
folded_long : (xs ys : List ℕ) → str_eq_ignore_ascii_case xs ys ≡ true → length xs ≡ length ys
folded_long [] [] h = refl
folded_long [] (y ∷ ys) h = cc
folded_long (x ∷ xs) [] h = cc
folded_long (x ∷ xs) (y ∷ ys) h = omega (arith, folded_long xs ys (and_parts _ _ h).1)

prefix_outside : (c : ℕ) (rest text : List ℕ) → to_ascii_lowercase c ≡ c → is_outside c ≡ true → str_eq_ignore_ascii_case text (c ∷ rest) ≡ true → begins is_outside text ≡ true
prefix_outside c rest [] low out h = cc
prefix_outside c rest (b ∷ text) low out h =
    let first : (to_ascii_lowercase b == to_ascii_lowercase c) ≡ true = (and_parts _ _ h).0 in
    let same : b ≡ c = lower_same b c out (ap (λ k. to_ascii_lowercase b == k) (sym low) ∙ first) in
    ap is_outside same ∙ out

-- a symbol begins with neither a letter, nor a digit, nor a quotation mark
pub symbol_outside : (s : Sym) (text : List ℕ) → IsSymbol s text → begins is_outside text ≡ true
symbol_outside EqE text h = prefix_outside 61 (101 ∷ 61 ∷ []) text refl refl h
symbol_outside EqL text h = prefix_outside 61 (108 ∷ 61 ∷ []) text refl refl h
symbol_outside EqG text h = prefix_outside 61 (103 ∷ 61 ∷ []) text refl refl h
symbol_outside EqN text h = prefix_outside 61 (110 ∷ 61 ∷ []) text refl refl h
symbol_outside Power text h = prefix_outside 42 (42 ∷ []) text refl refl h
symbol_outside DotDot text h = prefix_outside 46 (46 ∷ []) text refl refl h
symbol_outside LessEq text h = prefix_outside 60 (61 ∷ []) text refl refl h
symbol_outside GreaterEq text h = prefix_outside 62 (61 ∷ []) text refl refl h
symbol_outside NotEq text h = prefix_outside 60 (62 ∷ []) text refl refl h
symbol_outside PlusPlus text h = prefix_outside 43 (43 ∷ []) text refl refl h
symbol_outside MinusMinus text h = prefix_outside 45 (45 ∷ []) text refl refl h
symbol_outside Plus text h = prefix_outside 43 [] text refl refl h
symbol_outside Minus text h = prefix_outside 45 [] text refl refl h
symbol_outside Star text h = prefix_outside 42 [] text refl refl h
symbol_outside Slash text h = prefix_outside 47 [] text refl refl h
symbol_outside Equals text h = prefix_outside 61 [] text refl refl h
symbol_outside Less text h = prefix_outside 60 [] text refl refl h
symbol_outside Greater text h = prefix_outside 62 [] text refl refl h
symbol_outside LeftParen text h = prefix_outside 40 [] text refl refl h
symbol_outside RightParen text h = prefix_outside 41 [] text refl refl h
symbol_outside Comma text h = prefix_outside 44 [] text refl refl h
symbol_outside Semicolon text h = prefix_outside 59 [] text refl refl h
symbol_outside Dot text h = prefix_outside 46 [] text refl refl h
symbol_outside Dollar text h = prefix_outside 36 [] text refl refl h

digit_no_dot : (d : ℕ) → is_ascii_digit d ≡ true → (to_ascii_lowercase d == 46) ≡ true → ⊥
digit_no_dot d digit h =
    let same : d ≡ 46 = lower_same d 46 refl h in
    let no : is_ascii_digit d ≡ false = ap is_ascii_digit same in
    not_both (is_ascii_digit d) digit no

-- no symbol is a dot that a digit follows
point_no_symbol : (s : Sym) (d : ℕ) (text : List ℕ) → is_ascii_digit d ≡ true → IsSymbol s (46 ∷ d ∷ text) → ⊥
point_no_symbol EqE d text digit h = not_both false h refl
point_no_symbol EqL d text digit h = not_both false h refl
point_no_symbol EqG d text digit h = not_both false h refl
point_no_symbol EqN d text digit h = not_both false h refl
point_no_symbol Power d text digit h = not_both false h refl
point_no_symbol DotDot d text digit h = digit_no_dot d digit (and_parts _ _ h).0
point_no_symbol LessEq d text digit h = not_both false h refl
point_no_symbol GreaterEq d text digit h = not_both false h refl
point_no_symbol NotEq d text digit h = not_both false h refl
point_no_symbol PlusPlus d text digit h = not_both false h refl
point_no_symbol MinusMinus d text digit h = not_both false h refl
point_no_symbol Plus d text digit h = not_both false h refl
point_no_symbol Minus d text digit h = not_both false h refl
point_no_symbol Star d text digit h = not_both false h refl
point_no_symbol Slash d text digit h = not_both false h refl
point_no_symbol Equals d text digit h = not_both false h refl
point_no_symbol Less d text digit h = not_both false h refl
point_no_symbol Greater d text digit h = not_both false h refl
point_no_symbol LeftParen d text digit h = not_both false h refl
point_no_symbol RightParen d text digit h = not_both false h refl
point_no_symbol Comma d text digit h = not_both false h refl
point_no_symbol Semicolon d text digit h = not_both false h refl
point_no_symbol Dot d text digit h = not_both false h refl
point_no_symbol Dollar d text digit h = not_both false h refl

-- where a number begins with a dot, a symbol takes no more than the dot
pub point_symbol : (s : Sym) (n : ℕ) (text : List ℕ) → n ≤ length text → begins (λ b. b == 46) text ≡ true → begins is_ascii_digit (drop 1 text) ≡ true → IsSymbol s (take n text) → n ≤ 1
point_symbol s zero text le dot digit h = omega arith
point_symbol s (suc zero) text le dot digit h = omega arith
point_symbol s (suc (suc n)) [] le dot digit h = absurd (omega arith)
point_symbol s (suc (suc n)) (b ∷ []) le dot digit h = absurd (omega arith)
point_symbol s (suc (suc n)) (b ∷ d ∷ text) le dot digit h =
    let is : b ≡ 46 = grind (arith, nat_tests, dot) in
    absurd (point_no_symbol s d (take n text) digit (subst (λ c. IsSymbol s (c ∷ d ∷ take n text)) is h))

-- ---- the longest

-- a symbol is in a list
abbrev Occurs : Sym → List Sym → Type 0
Occurs s [] = ⊥
Occurs s (x ∷ xs) = (x ≡ s) ⊎ Occurs s xs

each_occurs : (s : Sym) → Occurs s symbols
each_occurs EqE = inl refl
each_occurs EqL = inr (inl refl)
each_occurs EqG = inr (inr (inl refl))
each_occurs EqN = inr (inr (inr (inl refl)))
each_occurs Power = inr (inr (inr (inr (inl refl))))
each_occurs DotDot = inr (inr (inr (inr (inr (inl refl)))))
each_occurs LessEq = inr (inr (inr (inr (inr (inr (inl refl))))))
each_occurs GreaterEq = inr (inr (inr (inr (inr (inr (inr (inl refl)))))))
each_occurs NotEq = inr (inr (inr (inr (inr (inr (inr (inr (inl refl))))))))
each_occurs PlusPlus = inr (inr (inr (inr (inr (inr (inr (inr (inr (inl refl)))))))))
each_occurs MinusMinus = inr (inr (inr (inr (inr (inr (inr (inr (inr (inr (inl refl))))))))))
each_occurs Plus = inr (inr (inr (inr (inr (inr (inr (inr (inr (inr (inr (inl refl)))))))))))
each_occurs Minus = inr (inr (inr (inr (inr (inr (inr (inr (inr (inr (inr (inr (inl refl))))))))))))
each_occurs Star = inr (inr (inr (inr (inr (inr (inr (inr (inr (inr (inr (inr (inr (inl refl)))))))))))))
each_occurs Slash = inr (inr (inr (inr (inr (inr (inr (inr (inr (inr (inr (inr (inr (inr (inl refl))))))))))))))
each_occurs Equals = inr (inr (inr (inr (inr (inr (inr (inr (inr (inr (inr (inr (inr (inr (inr (inl refl)))))))))))))))
each_occurs Less = inr (inr (inr (inr (inr (inr (inr (inr (inr (inr (inr (inr (inr (inr (inr (inr (inl refl))))))))))))))))
each_occurs Greater = inr (inr (inr (inr (inr (inr (inr (inr (inr (inr (inr (inr (inr (inr (inr (inr (inr (inl refl)))))))))))))))))
each_occurs LeftParen = inr (inr (inr (inr (inr (inr (inr (inr (inr (inr (inr (inr (inr (inr (inr (inr (inr (inr (inl refl))))))))))))))))))
each_occurs RightParen = inr (inr (inr (inr (inr (inr (inr (inr (inr (inr (inr (inr (inr (inr (inr (inr (inr (inr (inr (inl refl)))))))))))))))))))
each_occurs Comma = inr (inr (inr (inr (inr (inr (inr (inr (inr (inr (inr (inr (inr (inr (inr (inr (inr (inr (inr (inr (inl refl))))))))))))))))))))
each_occurs Semicolon = inr (inr (inr (inr (inr (inr (inr (inr (inr (inr (inr (inr (inr (inr (inr (inr (inr (inr (inr (inr (inr (inl refl)))))))))))))))))))))
each_occurs Dot = inr (inr (inr (inr (inr (inr (inr (inr (inr (inr (inr (inr (inr (inr (inr (inr (inr (inr (inr (inr (inr (inr (inl refl))))))))))))))))))))))
each_occurs Dollar = inr (inr (inr (inr (inr (inr (inr (inr (inr (inr (inr (inr (inr (inr (inr (inr (inr (inr (inr (inr (inr (inr (inr (inl refl)))))))))))))))))))))))

-- how many bytes a symbol takes
abbrev pub symbol_length : Sym → ℕ
symbol_length s = length (written_symbol s)

-- each symbol of a list has at most n bytes
abbrev at_most : ℕ → List Sym → Bool
at_most n [] = true
at_most n (x ∷ xs) = nat_le (symbol_length x) n && at_most n xs

-- the longer symbols of a list come first
abbrev longer_first : List Sym → Bool
longer_first [] = true
longer_first (x ∷ xs) = at_most (symbol_length x) xs && longer_first xs

at_most_each : (n : ℕ) (xs : List Sym) (s : Sym) → at_most n xs ≡ true → Occurs s xs → symbol_length s ≤ n
at_most_each n [] s h there = absurd there
at_most_each n (x ∷ xs) s h (inl e) =
    let first : nat_le (symbol_length x) n ≡ true = (and_parts (nat_le (symbol_length x) n) (at_most n xs) h).0 in
    let le : symbol_length x ≤ n = grind (arith, nat_tests, first) in
    subst (λ t. symbol_length t ≤ n) e le
at_most_each n (x ∷ xs) s h (inr there) = at_most_each n xs s (and_parts (nat_le (symbol_length x) n) (at_most n xs) h).1 there

-- what is found first in such a list is no shorter than any that passes
found_longest : (test : Sym → Bool) (xs : List Sym) (x s : Sym) → longer_first xs ≡ true → find test xs ≡ Some x → Occurs s xs → test s ≡ true → symbol_length s ≤ symbol_length x
found_longest test [] x s sorted found there passes = absurd there
found_longest test (y ∷ ys) x s sorted found there passes = elim (true_or_false (test y)) [
  | inl t ↦
      let first : Some y ≡ Some x = ap (λ v. cond v (Some y) (find test ys)) (sym t) ∙ found in
      let same : y ≡ x = cc in
      let all = and_parts (at_most (symbol_length y) ys) (longer_first ys) sorted in
      let le : symbol_length s ≤ symbol_length y = elim there [
        | inl e ↦ let long : symbol_length y ≡ symbol_length s = ap symbol_length e in omega (arith, long)
        | inr following ↦ at_most_each (symbol_length y) ys s all.0 following
      ] in
      subst (λ z. symbol_length s ≤ symbol_length z) same le
  | inr f ↦
      let all = and_parts (at_most (symbol_length y) ys) (longer_first ys) sorted in
      let rest : find test ys ≡ Some x = ap (λ v. cond v (Some y) (find test ys)) (sym f) ∙ found in
      elim there [
        | inl e ↦ not_both (test s) passes (ap test (sym e) ∙ f)
        | inr following ↦ found_longest test ys x s all.1 rest following passes
      ]
]

-- a symbol that is a prefix of a text is one with which it begins
prefix_begins : (s : Sym) (n : ℕ) (text : List ℕ) → n ≤ length text → IsSymbol s (take n text) → (n ≡ symbol_length s) × (begins_with_word text (written_symbol s) ≡ true)
prefix_begins s n text le h =
    let long : n ≡ symbol_length s = omega (arith, folded_long (take n text) (written_symbol s) h, length-take-le n text le) in
    let fits : nat_le (symbol_length s) (length text) ≡ true = grind (arith, nat_tests, long, le) in
    (long, and_from (nat_le (symbol_length s) (length text)) (str_eq_ignore_ascii_case (take (symbol_length s) text) (written_symbol s)) fits (subst (λ k. str_eq_ignore_ascii_case (take k text) (written_symbol s) ≡ true) long h))

-- The symbol that is found is spelled so, and none that the text begins with is longer.
pub record IsFirstSymbol (text : List ℕ) (found : Sym) : Type 0 where
  pub spelled : IsSymbol found (take (symbol_length found) text)
  pub longest : (s : Sym) (n : ℕ) → n ≤ length text → IsSymbol s (take n text) → n ≤ symbol_length found

found_passes : (test : Sym → Bool) (xs : List Sym) (x : Sym) → find test xs ≡ Some x → test x ≡ true
found_passes test [] x h = cc
found_passes test (y ∷ xs) x h = elim (true_or_false (test y)) [
  | inl t ↦ let found : Some y ≡ Some x = ap (λ v. cond v (Some y) (find test xs)) (sym t) ∙ h in let same : y ≡ x = cc in subst (λ z. test z ≡ true) same t
  | inr t ↦ found_passes test xs x (ap (λ v. cond v (Some y) (find test xs)) (sym t) ∙ h)
]

pub found_first : (text : List ℕ) (found : Sym) → find (λ s. begins_with_word text (written_symbol s)) symbols ≡ Some found → IsFirstSymbol text found
found_first text found e = record {
  spelled = (and_parts (nat_le (symbol_length found) (length text)) (str_eq_ignore_ascii_case (take (symbol_length found) text) (written_symbol found)) (found_passes (λ s. begins_with_word text (written_symbol s)) symbols found e)).1;
  longest = λ s n le h.
      let begin = prefix_begins s n text le h in
      let most : symbol_length s ≤ symbol_length found = found_longest (λ s. begins_with_word text (written_symbol s)) symbols found s refl e (each_occurs s) begin.1 in
      omega (arith, begin.0, most);
}

found_none : (test : Sym → Bool) (xs : List Sym) (s : Sym) → find test xs ≡ None → Occurs s xs → test s ≡ true → ⊥
found_none test [] s h there passes = absurd there
found_none test (y ∷ ys) s h there passes = elim (true_or_false (test y)) [
  | inl t ↦ let found : Some y ≡ None = ap (λ v. cond v (Some y) (find test ys)) (sym t) ∙ h in absurd (cc)
  | inr f ↦ elim there [
    | inl e ↦ not_both (test s) passes (ap test (sym e) ∙ f)
    | inr following ↦ found_none test ys s (ap (λ v. cond v (Some y) (find test ys)) (sym f) ∙ h) following passes
  ]
]

-- where none is found, the text begins with none
pub none_first : (text : List ℕ) → find (λ s. begins_with_word text (written_symbol s)) symbols ≡ None → (s : Sym) (n : ℕ) → n ≤ length text → IsSymbol s (take n text) → ⊥
none_first text e s n le h = found_none (λ s. begins_with_word text (written_symbol s)) symbols s e (each_occurs s) (prefix_begins s n text le h).1
