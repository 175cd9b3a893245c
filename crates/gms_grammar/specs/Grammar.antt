-- Grammars as data: which token lists a production derives, by which tree, and where tokens cease
-- to begin any (Aho, Lam, Sethi and Ullman, "Compilers", sections 2.2 and 4.2, derivations and
-- parse trees; viable prefixes).
use Rattle.std.specs.Prelude.{◌≡◌, Bool, true, List, [], ◌∷◌, ◌++◌, ⊤}

-- A part of a production, over kinds of tokens C and nonterminals N.
pub data Part (C N : Type 0) : Type 0 where
  -- one token, of a kind that passes a test
  one : (C → Bool) → Part C N
  -- the production of a nonterminal
  the : N → Part C N
  -- one part and then another
  ◌·◌ : Part C N → Part C N → Part C N
  -- one part or another
  ◌∣◌ : Part C N → Part C N → Part C N
  -- a part or nothing
  opt : Part C N → Part C N
  -- a part any number of times
  many : Part C N → Part C N

infixr 5 ◌·◌
infixr 4 ◌∣◌
-- A derivation tree over tokens of T, with a node for each part of a production.
pub data DerivationTree (T : Type 0) : Type 0 where
  -- of one token
  leaf : T → DerivationTree T
  -- of one part and then another
  pair : DerivationTree T → DerivationTree T → DerivationTree T
  -- of the first of two alternatives
  left : DerivationTree T → DerivationTree T
  -- of the second
  right : DerivationTree T → DerivationTree T
  -- of an optional part that is left out, and of no further repetition
  none : DerivationTree T
  -- of an optional part that is present
  some : DerivationTree T → DerivationTree T
  -- of a repetition and those after it
  more : DerivationTree T → DerivationTree T → DerivationTree T
  -- of a nonterminal
  node : DerivationTree T → DerivationTree T

-- the tokens of a tree, in order
abbrev pub yield : {T : Type 0} → DerivationTree T → List T
yield (leaf token) = token ∷ []
yield (pair a b) = yield a ++ yield b
yield (left tree) = yield tree
yield (right tree) = yield tree
yield none = []
yield (some tree) = yield tree
yield (more a b) = yield a ++ yield b
yield (node tree) = yield tree

-- Below, each nonterminal has one production, and a token is its kind with what else is known of
-- it.
module _ {C N D : Type 0} (production : N → Part C N) where
  -- the tree is a derivation tree of the part: it has the form of the part, and each of its tokens
  -- passes the test of its place
  abbrev pub IsTree : Part C N → DerivationTree (C × D) → Type 0
  IsTree (one test) (leaf token) = test token.0 ≡ true
  IsTree (the n) (node tree) = IsTree (production n) tree
  IsTree (p · q) (pair a b) = IsTree p a × IsTree q b
  IsTree (p ∣ q) (left tree) = IsTree p tree
  IsTree (p ∣ q) (right tree) = IsTree q tree
  IsTree (opt p) none = ⊤
  IsTree (opt p) (some tree) = IsTree p tree
  IsTree (many p) none = ⊤
  IsTree (many p) (more a b) = IsTree p a × IsTree (many p) b
  IsTree _ _ = ⊥

  -- The part derives the tokens: they are the tokens of a derivation tree of it.
  pub record Derives (part : Part C N) (tokens : List (C × D)) : Type 0 where
    pub tree : DerivationTree (C × D)
    pub is_tree : IsTree part tree
    pub yields : yield tree ≡ tokens

  -- The tokens are a prefix of a list that the part derives; `further` is the rest of that list,
  -- which may be empty.
  pub record Begins (part : Part C N) (tokens : List (C × D)) : Type 0 where
    pub further : List (C × D)
    pub derives : Derives part (tokens ++ further)

  -- the first of the tokens after `prefix` is unexpected there: no list that the part derives
  -- begins with `prefix` and that token; true if no token comes after `prefix`
  abbrev pub IsUnexpected : Part C N → List (C × D) → List (C × D) → Type 0
  IsUnexpected part prefix [] = ⊤
  IsUnexpected part prefix (next ∷ rest) = Begins part (prefix ++ next ∷ []) → ⊥

  -- `prefix` is the longest prefix of the tokens that begins a list that the part derives, and
  -- `rest` follows it.
  pub record Stops (part : Part C N) (tokens prefix rest : List (C × D)) : Type 0 where
    pub parts : tokens ≡ prefix ++ rest
    pub begins : Begins part prefix
    pub ends : IsUnexpected part prefix rest
