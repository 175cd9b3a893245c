-- When one token of look-ahead decides a grammar (Aho, Lam, Sethi and Ullman, "Compilers", section
-- 4.4: first and follow, LL(1)).
use Rattle.std.specs.Prelude.{◌≡◌, ℕ, nat_lt, Bool, true, false, not, ◌&&◌, ◌||◌}
use Rattle.gms_grammar.specs.Grammar.{Part, one, the, ◌·◌, ◌∣◌, opt, many}

-- What a table for predictive parsing claims of each nonterminal.
pub record LookAhead (C N : Type 0) : Type 0 where
  -- whether the nonterminal can begin with a token of the kind
  pub first : N → C → Bool
  -- whether a token of the kind can follow the nonterminal
  pub follow : N → C → Bool
  -- whether the nonterminal derives the empty list of tokens
  pub empty : N → Bool
  -- a depth: some tree of the nonterminal has, below its root, only nonterminals of less depth
  pub depth : N → ℕ
  -- a rank: the nonterminals with which it can begin have a lower one
  pub rank : N → ℕ

module _ {C N : Type 0} (ahead : LookAhead C N) where
  -- whether a part derives the empty list of tokens; for a nonterminal the table `ahead` decides
  abbrev pub may_be_empty : Part C N → Bool
  may_be_empty (one test) = false
  may_be_empty (the n) = ahead.empty n
  may_be_empty (p · q) = may_be_empty p && may_be_empty q
  may_be_empty (p ∣ q) = may_be_empty p || may_be_empty q
  may_be_empty (opt p) = true
  may_be_empty (many p) = true

  -- whether a part can begin with a token of a kind; for a nonterminal the table `ahead` decides
  abbrev pub may_begin : Part C N → C → Bool
  may_begin (one test) c = test c
  may_begin (the n) c = ahead.first n c
  may_begin (p · q) c = may_begin p c || (may_be_empty p && may_begin q c)
  may_begin (p ∣ q) c = may_begin p c || may_begin q c
  may_begin (opt p) c = may_begin p c
  may_begin (many p) c = may_begin p c

  -- whether a token of a kind can be the next one before the part `q`: `q` can begin with it, or
  -- `q` can be empty and the kind passes `after`, the test of the tokens that can follow `q`
  abbrev pub may_come_next : Part C N → (C → Bool) → C → Bool
  may_come_next q after c = may_begin q c || (may_be_empty q && after c)

  -- no kind of token passes both tests
  abbrev pub Apart : (C → Bool) → (C → Bool) → Type 0
  Apart f g = (c : C) → f c ≡ true → g c ≡ true → ⊥

  -- One token decides how to read a part; a token that may follow the part passes the test `after`.
  -- No alternative derives the empty text, and no token begins both. What may be left out or
  -- repeated derives no empty text, and no token that begins it may follow it. Some kind of token
  -- passes the test of a single token. A token that may follow a nonterminal passes `follow`.
  abbrev pub IsDecided : Part C N → (C → Bool) → Type 0
  IsDecided (one test) after = (c : C) × (test c ≡ true)
  IsDecided (the n) after = (c : C) → after c ≡ true → ahead.follow n c ≡ true
  IsDecided (p · q) after = IsDecided p (may_come_next q after) × IsDecided q after
  IsDecided (p ∣ q) after =
      (may_be_empty p ≡ false) × (may_be_empty q ≡ false) × Apart (may_begin p) (may_begin q) × IsDecided p after × IsDecided q after
  IsDecided (opt p) after = (may_be_empty p ≡ false) × Apart (may_begin p) after × IsDecided p after
  IsDecided (many p) after = (may_be_empty p ≡ false) × Apart (may_begin p) after × IsDecided p (λ c. may_begin p c || after c)

  -- whether some tree of the part has, at its outermost level, only nonterminals with a depth
  -- (`ahead.depth`) below the bound
  abbrev pub ends_below : ℕ → Part C N → Bool
  ends_below bound (one test) = true
  ends_below bound (the n) = nat_lt (ahead.depth n) bound
  ends_below bound (p · q) = ends_below bound p && ends_below bound q
  ends_below bound (p ∣ q) = ends_below bound p || ends_below bound q
  ends_below bound (opt p) = true
  ends_below bound (many p) = true

  -- whether all nonterminals with which the part can begin have a rank (`ahead.rank`) below the
  -- bound
  abbrev pub ranks_below : ℕ → Part C N → Bool
  ranks_below bound (one test) = true
  ranks_below bound (the n) = nat_lt (ahead.rank n) bound
  ranks_below bound (p · q) = ranks_below bound p && (not (may_be_empty p) || ranks_below bound q)
  ranks_below bound (p ∣ q) = ranks_below bound p && ranks_below bound q
  ranks_below bound (opt p) = ranks_below bound p
  ranks_below bound (many p) = ranks_below bound p

  -- What `ahead` claims of each nonterminal holds for these productions; only `ahead.follow` may
  -- allow more tokens than can follow. One token decides each production, where `ahead.follow` is
  -- the test of the tokens after it.
  pub record DecidesEach (production : N → Part C N) : Type 0 where
    pub first_is : (n : N) (c : C) → may_begin (production n) c ≡ ahead.first n c
    pub empty_is : (n : N) → may_be_empty (production n) ≡ ahead.empty n
    pub decided : (n : N) → IsDecided (production n) (ahead.follow n)
    pub ends : (n : N) → ends_below (ahead.depth n) (production n) ≡ true
    pub descends : (n : N) → ranks_below (ahead.rank n) (production n) ≡ true
