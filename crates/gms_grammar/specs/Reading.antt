-- Reading tokens by a grammar that one token decides, without backtracking (Aho, Lam, Sethi and
-- Ullman, "Compilers", section 4.4: predictive parsing).
use Rattle.std.specs.Prelude.{◌≡◌, Bool, true, false, List, [], ◌∷◌, ◌++◌}
use Rattle.gms_grammar.specs.Grammar.{Part, one, the, ◌·◌, ◌∣◌, opt, many, DerivationTree, leaf, pair, left, right, none, some, more, node, yield}
use Rattle.gms_grammar.specs.LookAhead.{LookAhead, may_begin}

-- What a reader finds for a part: a tree, or a token at which it is stuck.
pub data Found (T : Type 0) : Type 0 where
  -- a tree, and the tokens after it
  read : DerivationTree T → List T → Found T
  -- the tokens that are read before an unexpected one or the end, and those that remain
  stuck : List T → List T → Found T

module _ {C N D : Type 0} (production : N → Part C N) (ahead : LookAhead C N) where
  -- whether the part can begin, by the table `ahead`, with the first of the tokens; false without
  -- tokens
  abbrev pub leads : Part C N → List (C × D) → Bool
  leads p [] = false
  leads p (token ∷ tokens) = may_begin ahead p token.0

  -- What a predictive reader finds for a part at the start of the tokens. It enters an alternative,
  -- or what may be left out or repeated, only if that can begin with the next token. It is stuck
  -- where no alternative can, and where no next token passes the test of a single token.
  pub data Reads : Part C N → List (C × D) → Found (C × D) → Type 0 where
    taken : {test : C → Bool} {token : C × D} {rest : List (C × D)} →
        test token.0 ≡ true → Reads (one test) (token ∷ rest) (read (leaf token) rest)
    refused : {test : C → Bool} {tokens : List (C × D)} → leads (one test) tokens ≡ false → Reads (one test) tokens (stuck [] tokens)
    entered : {n : N} {tokens rest : List (C × D)} {tree : DerivationTree (C × D)} →
        Reads (production n) tokens (read tree rest) → Reads (the n) tokens (read (node tree) rest)
    entered_stuck : {n : N} {tokens prefix rest : List (C × D)} →
        Reads (production n) tokens (stuck prefix rest) → Reads (the n) tokens (stuck prefix rest)
    both : {p q : Part C N} {tokens between rest : List (C × D)} {a b : DerivationTree (C × D)} →
        Reads p tokens (read a between) → Reads q between (read b rest) → Reads (p · q) tokens (read (pair a b) rest)
    first_stuck : {p q : Part C N} {tokens prefix rest : List (C × D)} →
        Reads p tokens (stuck prefix rest) → Reads (p · q) tokens (stuck prefix rest)
    second_stuck : {p q : Part C N} {tokens between prefix rest : List (C × D)} {a : DerivationTree (C × D)} →
        Reads p tokens (read a between) → Reads q between (stuck prefix rest) → Reads (p · q) tokens (stuck (yield a ++ prefix) rest)
    in_left : {p q : Part C N} {tokens rest : List (C × D)} {tree : DerivationTree (C × D)} →
        leads p tokens ≡ true → Reads p tokens (read tree rest) → Reads (p ∣ q) tokens (read (left tree) rest)
    in_left_stuck : {p q : Part C N} {tokens prefix rest : List (C × D)} →
        leads p tokens ≡ true → Reads p tokens (stuck prefix rest) → Reads (p ∣ q) tokens (stuck prefix rest)
    in_right : {p q : Part C N} {tokens rest : List (C × D)} {tree : DerivationTree (C × D)} →
        leads p tokens ≡ false → leads q tokens ≡ true → Reads q tokens (read tree rest) → Reads (p ∣ q) tokens (read (right tree) rest)
    in_right_stuck : {p q : Part C N} {tokens prefix rest : List (C × D)} →
        leads p tokens ≡ false → leads q tokens ≡ true → Reads q tokens (stuck prefix rest) → Reads (p ∣ q) tokens (stuck prefix rest)
    in_neither : {p q : Part C N} {tokens : List (C × D)} →
        leads p tokens ≡ false → leads q tokens ≡ false → Reads (p ∣ q) tokens (stuck [] tokens)
    left_out : {p : Part C N} {tokens : List (C × D)} → leads p tokens ≡ false → Reads (opt p) tokens (read none tokens)
    there : {p : Part C N} {tokens rest : List (C × D)} {tree : DerivationTree (C × D)} →
        leads p tokens ≡ true → Reads p tokens (read tree rest) → Reads (opt p) tokens (read (some tree) rest)
    there_stuck : {p : Part C N} {tokens prefix rest : List (C × D)} →
        leads p tokens ≡ true → Reads p tokens (stuck prefix rest) → Reads (opt p) tokens (stuck prefix rest)
    no_more : {p : Part C N} {tokens : List (C × D)} → leads p tokens ≡ false → Reads (many p) tokens (read none tokens)
    again : {p : Part C N} {tokens between rest : List (C × D)} {a b : DerivationTree (C × D)} →
        leads p tokens ≡ true → Reads p tokens (read a between) → Reads (many p) between (read b rest) → Reads (many p) tokens (read (more a b) rest)
    again_stuck : {p : Part C N} {tokens prefix rest : List (C × D)} →
        leads p tokens ≡ true → Reads p tokens (stuck prefix rest) → Reads (many p) tokens (stuck prefix rest)
    later_stuck : {p : Part C N} {tokens between prefix rest : List (C × D)} {a : DerivationTree (C × D)} →
        leads p tokens ≡ true →
        Reads p tokens (read a between) → Reads (many p) between (stuck prefix rest) → Reads (many p) tokens (stuck (yield a ++ prefix) rest)

  -- While it reads a part from the tokens, a reader has at some time read `prefix`, which is at
  -- least one token; `rest` follows it. It has read each earlier part as in `Reads`, but no test of
  -- the next token decides here whether it enters a part.
  pub data Takes : Part C N → List (C × D) → List (C × D) → List (C × D) → Type 0 where
    takes_one : {test : C → Bool} {token : C × D} {rest : List (C × D)} →
        test token.0 ≡ true → Takes (one test) (token ∷ rest) (token ∷ []) rest
    takes_the : {n : N} {tokens prefix rest : List (C × D)} → Takes (production n) tokens prefix rest → Takes (the n) tokens prefix rest
    takes_first : {p q : Part C N} {tokens prefix rest : List (C × D)} → Takes p tokens prefix rest → Takes (p · q) tokens prefix rest
    takes_second : {p q : Part C N} {tokens between prefix rest : List (C × D)} {a : DerivationTree (C × D)} →
        Reads p tokens (read a between) → Takes q between prefix rest → Takes (p · q) tokens (yield a ++ prefix) rest
    takes_left : {p q : Part C N} {tokens prefix rest : List (C × D)} → Takes p tokens prefix rest → Takes (p ∣ q) tokens prefix rest
    takes_right : {p q : Part C N} {tokens prefix rest : List (C × D)} → Takes q tokens prefix rest → Takes (p ∣ q) tokens prefix rest
    takes_opt : {p : Part C N} {tokens prefix rest : List (C × D)} → Takes p tokens prefix rest → Takes (opt p) tokens prefix rest
    takes_many : {p : Part C N} {tokens prefix rest : List (C × D)} → Takes p tokens prefix rest → Takes (many p) tokens prefix rest
    takes_later : {p : Part C N} {tokens between prefix rest : List (C × D)} {a : DerivationTree (C × D)} →
        Reads p tokens (read a between) → Takes (many p) between prefix rest → Takes (many p) tokens (yield a ++ prefix) rest
