-- Which kinds of tokens occur anywhere in a part of the grammar.
use Rattle.std.proofs.lemmas.Bool.{and_parts}
use Rattle.std.proofs.Common.{◌≡◌, Bool, true, not, ◌&&◌, ◌||◌, List, [], ◌∷◌, ◌++◌}
use Rattle.std.specs.Bool.{⊤}
use Rattle.gms_grammar.specs.declared.terminal.Terminal.{Terminal}
use Rattle.gms_grammar.specs.Grammar.{one, the, ◌·◌, ◌∣◌, opt, many, leaf, pair, left, right, none, some, more, node, yield, IsTree}
use Rattle.gms_grammar.specs.GamsGrammar.{Nonterminal, productions}
use Rattle.gms_grammar.proofs.Checks.{right_and, implied}
use Rattle.gms_expressions.proofs.TokenKinds.{implies, also}
use Rattle.gms_parse.specs.ReadStates.{KindedToken}
use Rattle.gms_parse.specs.InnerReadings.{Derivation, GamsPart}

-- the kind of each token passes a test
abbrev pub AllPass : (Terminal → Bool) → List KindedToken → Type 0
AllPass test [] = ⊤
AllPass test (t ∷ ts) = (test t.0 ≡ true) × AllPass test ts

pub pass_append : (test : Terminal → Bool) (u v : List KindedToken) → AllPass test u → AllPass test v → AllPass test (u ++ v)
pass_append test [] v h k = k
pass_append test (t ∷ u) v h k = (h.0, pass_append test u v h.1 k)

pub pass_prefix : (test : Terminal → Bool) (u v : List KindedToken) → AllPass test (u ++ v) → AllPass test u
pass_prefix test [] v h = tt
pass_prefix test (t ∷ u) v h = (h.0, pass_prefix test u v h.1)

pub pass_rest : (test : Terminal → Bool) (u v : List KindedToken) → AllPass test (u ++ v) → AllPass test v
pass_rest test [] v h = h
pass_rest test (t ∷ u) v h = pass_rest test u v h.1

-- each test in a part implies this one, and its nonterminals are known to
abbrev pub only : (Nonterminal → Bool) → (Terminal → Bool) → GamsPart → Bool
only known test (one t) = implies t test
only known test (the n) = known n
only known test (p · q) = only known test p && only known test q
only known test (p ∣ q) = only known test p && only known test q
only known test (opt p) = only known test p
only known test (many p) = only known test p

module _ (known : Nonterminal → Bool) (test : Terminal → Bool) (check : (n : Nonterminal) → (not (known n) || only known test (productions n)) ≡ true) where
  -- each token of a tree passes the test
  pub all_pass : (p : GamsPart) (tree : Derivation) → IsTree productions p tree → only known test p ≡ true → AllPass test (yield tree)
  all_pass (one t) (leaf token) h k = (also t test k token.0 h, tt)
  all_pass (the n) (node tree) h k = all_pass (productions n) tree h (implied _ _ (check n) k)
  all_pass (p · q) (pair a b) h k =
      pass_append test (yield a) (yield b) (all_pass p a h.0 ((and_parts _ _ k).0)) (all_pass q b h.1 (right_and (only known test p) _ k))
  all_pass (p ∣ q) (left tree) h k = all_pass p tree h ((and_parts _ _ k).0)
  all_pass (p ∣ q) (right tree) h k = all_pass q tree h (right_and (only known test p) _ k)
  all_pass (opt p) none h k = tt
  all_pass (opt p) (some tree) h k = all_pass p tree h k
  all_pass (many p) none h k = tt
  all_pass (many p) (more a b) h k = pass_append test (yield a) (yield b) (all_pass p a h.0 k) (all_pass (many p) b h.1 k)
  all_pass _ _ h k = absurd h
