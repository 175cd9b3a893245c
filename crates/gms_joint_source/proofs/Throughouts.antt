-- What is known at each point of reading a program, by the states of a small machine that goes from
-- token to token. For each nonterminal it is claimed in which states it is entered and left, and
-- the claims are checked by computing.
use Rattle.std.proofs.lemmas.Bool.{and_parts}
use Rattle.std.proofs.Common.{◌≡◌, Bool, true, false, not, ◌&&◌, ◌||◌, List, [], ◌∷◌, ◌++◌, reverse, ℕ, sym, ap, ◌∙◌, inl, inr, append_assoc}
use Rattle.std.proofs.lemmas.List.{reverse-append}
use Rattle.gms_grammar.proofs.LineLemmas.{true_or_false}
use Rattle.gms_grammar.specs.declared.terminal.Terminal.{Terminal}
use Rattle.gms_grammar.specs.declared.terminal.Terminal.TheVariants.{End}
use Rattle.gms_grammar.specs.Grammar.{one, the, ◌·◌, ◌∣◌, opt, many, leaf, pair, left, right, some, more, node}
use Rattle.gms_grammar.specs.Reading.{read, Reads, taken, entered, both, in_left, in_right, left_out, there, no_more, again}
use Rattle.gms_grammar.specs.GamsGrammar.{Nonterminal, productions}
use Rattle.gms_grammar.specs.GamsLookAhead.{look_ahead}
use Rattle.gms_grammar.proofs.Basics.{and_both}
use Rattle.gms_grammar.proofs.Checks.{right_and, implied}
use Rattle.gms_expressions.proofs.TokenKinds.{implies, also}
use Rattle.gms_parse.specs.ReadStates.{KindedToken, ReaderState, reader_after, reader_after_all, kind_of}
use Rattle.gms_parse.specs.InnerReadings.{Derivation, GamsPart}
use Rattle.gms_joint_source.proofs.StatePrefixes.{AreAlike}

-- a claim for each token of a derivation, and one for each nonterminal
abbrev pub Throughout : ((Terminal → Bool) → KindedToken → Type 0) → (Nonterminal → Derivation → Type 0) → GamsPart → Derivation → Type 0
Throughout L M (one test) (leaf t) = L test t
Throughout L M (the n) (node tree) = Throughout L M (productions n) tree × M n (node tree)
Throughout L M (p · q) (pair a b) = Throughout L M p a × Throughout L M q b
Throughout L M (p ∣ q) (left tree) = Throughout L M p tree
Throughout L M (p ∣ q) (right tree) = Throughout L M q tree
Throughout L M (opt p) (some tree) = Throughout L M p tree
Throughout L M (many p) (more a b) = Throughout L M p a × Throughout L M (many p) b
Throughout L M _ _ = Unit {0}

-- no claim for a nonterminal
abbrev pub NoMore : Nonterminal → Derivation → Type 0
NoMore n tree = Unit {0}

-- The point of a reader among all tokens of a source: after the tokens that it has traversed, and
-- before these tokens, which lead to these names and labels at the end, and have the same bytes in
-- another source.
pub record Occurs (first second : List ℕ) (names labels : List (List ℕ)) (whole : List KindedToken) (w : ReaderState) (tokens : List KindedToken) : Type 0 where
  pub names_are : names ≡ (reader_after_all first w tokens End).names
  pub labels_are : labels ≡ (reader_after_all first w tokens End).labels
  pub parts : whole ≡ reverse w.before ++ tokens
  pub alike : AreAlike first second tokens

-- after the next token
pub occurs_on : (first second : List ℕ) (names labels : List (List ℕ)) (whole : List KindedToken) (w : ReaderState) (t : KindedToken) (rest : List KindedToken) → Occurs first second names labels whole w (t ∷ rest) → Occurs first second names labels whole (reader_after first w t (kind_of rest)) rest
occurs_on first second names labels whole w t rest s = record {
  names_are = s.names_are;
  labels_are = s.labels_are;
  parts = s.parts ∙ sym (ap (λ (u : List KindedToken). u ++ rest) (reverse-append (t ∷ []) w.before) ∙ append_assoc (reverse w.before) (t ∷ []) rest);
  alike = s.alike.1;
}

-- ---- machines

-- A machine whose states are finitely many, and which moves by the kinds of tokens; some tests of
-- tokens are allowed in some states. A part may be an atom: of it there is a claim only on what it
-- leaves.
module _ {S : Type 0} (each : (S → Bool) → Bool) (each_is : (f : S → Bool) → each f ≡ true → (s : S) → f s ≡ true) (next : S → Terminal → S) (allowed : (Terminal → Bool) → S → Bool) (entry : Nonterminal → S → Bool) (exit : Nonterminal → S → S → Bool) (atom : Nonterminal → Bool) where
  -- each state that passes one test passes another
  abbrev pub follows : (S → Bool) → (S → Bool) → Bool
  follows f g = each (λ s. not (f s) || g s)

  -- a part that is begun in a state moves as is claimed, and ends in one that passes a test
  abbrev pub passes : GamsPart → (S → Bool) → S → Bool
  passes (one test) ok s = allowed test s && implies test (λ kind. ok (next s kind))
  passes (the n) ok s = entry n s && follows (exit n s) ok
  passes (p · q) ok s = passes p (λ t. passes q ok t) s
  passes (p ∣ q) ok s = passes p ok s && passes q ok s
  passes (opt p) ok s = ok s && passes p ok s
  passes (many p) ok s = ok s && follows ok (λ t. passes p ok t)

  -- the claims for a nonterminal hold
  abbrev pub is_right : Nonterminal → Bool
  is_right n = atom n || follows (entry n) (λ s. passes (productions n) (exit n s) s)

  follows_has : (f g : S → Bool) → follows f g ≡ true → (s : S) → f s ≡ true → g s ≡ true
  follows_has f g h s k = implied (f s) (g s) (each_is (λ t. not (f t) || g t) h s) k

  right_has : (a : Bool) (n : Nonterminal) → (a || follows (entry n) (λ s. passes (productions n) (exit n s) s)) ≡ true → a ≡ false → (s : S) → entry n s ≡ true → passes (productions n) (exit n s) s ≡ true
  right_has true n h k s e = cc
  right_has false n h k s e = follows_has (entry n) (λ t. passes (productions n) (exit n t) t) h s e

  module _ (first second : List ℕ) (names labels : List (List ℕ)) (whole : List KindedToken) (At : S → ReaderState → Type 0) (L : (Terminal → Bool) → KindedToken → Type 0) (M : Nonterminal → Derivation → Type 0) where
    abbrev pub Here : ReaderState → List KindedToken → Type 0
    Here w tokens = Occurs first second names labels whole w tokens

    -- a reader is after a part
    pub record Passed (ok : S → Bool) (p : GamsPart) (tree : Derivation) (rest : List KindedToken) : Type 0 where
      pub state : S
      pub read_state : ReaderState
      pub is_ok : ok state ≡ true
      pub at : At state read_state
      pub occurs : Here read_state rest
      pub all : Throughout L M p tree

    -- a token leads from state to state
    abbrev pub Steps : Type 0
    Steps = (s : S) (w : ReaderState) (t : KindedToken) (ahead : Terminal) → At s w → At (next s t.0) (reader_after first w t ahead)

    -- the claim for a token holds where its test is allowed
    abbrev pub HoldsOfTokens : Type 0
    HoldsOfTokens = (test : Terminal → Bool) (s : S) (w : ReaderState) (t : KindedToken) (rest : List KindedToken) → allowed test s ≡ true → test t.0 ≡ true → At s w → Here w (t ∷ rest) → L test t

    -- the claim for a nonterminal holds where it is entered
    abbrev pub HoldsOfNodes : Type 0
    HoldsOfNodes = (n : Nonterminal) (tree : Derivation) (s : S) (w : ReaderState) (tokens rest : List KindedToken) → entry n s ≡ true → At s w → Here w tokens → Reads productions look_ahead (the n) tokens (read (node tree) rest) → M n (node tree)

    -- the claims for atoms hold
    abbrev pub HoldsOfAtoms : Type 0
    HoldsOfAtoms = (n : Nonterminal) (tree : Derivation) (s : S) (w : ReaderState) (tokens rest : List KindedToken) → atom n ≡ true → entry n s ≡ true → At s w → Here w tokens → Reads productions look_ahead (productions n) tokens (read tree rest) → Passed (exit n s) (productions n) tree rest

    module _ (step : Steps) (of_tokens : HoldsOfTokens) (of_nodes : HoldsOfNodes) (of_atoms : HoldsOfAtoms) (right_claims : (n : Nonterminal) → is_right n ≡ true) where
      -- the claims hold throughout what is read
      pub passed : {p : GamsPart} {tokens rest : List KindedToken} {tree : Derivation} → Reads productions look_ahead p tokens (read tree rest) → (ok : S → Bool) (s : S) (w : ReaderState) → passes p ok s ≡ true → At s w → Here w tokens → Passed ok p tree rest
      passed (taken {test = test} {token = t} {rest = rest} h) ok s w k a e = record {
        state = next s t.0;
        read_state = reader_after first w t (kind_of rest);
        is_ok = also test (λ kind. ok (next s kind)) (right_and (allowed test s) _ k) t.0 h;
        at = step s w t (kind_of rest) a;
        occurs = occurs_on first second names labels whole w t rest e;
        all = of_tokens test s w t rest ((and_parts (allowed test s) _ k).0) h a e;
      }
      passed (entered {n = n} {tokens = tokens} {rest = rest} {tree = tree} r) ok s w k a e =
          let enters : entry n s ≡ true = (and_parts (entry n s) _ k).0 in
          let inner : Passed (exit n s) (productions n) tree rest = elim (true_or_false (atom n)) [
            | inl y ↦ of_atoms n tree s w tokens rest y enters a e r
            | inr x ↦ passed r (exit n s) s w (right_has (atom n) n (right_claims n) x s enters) a e
          ] in
          record {
            state = inner.state;
            read_state = inner.read_state;
            is_ok = follows_has (exit n s) ok (right_and (entry n s) _ k) inner.state inner.is_ok;
            at = inner.at;
            occurs = inner.occurs;
            all = (inner.all, of_nodes n tree s w tokens rest enters a e (entered r));
          }
      passed (both {q = q} r x) ok s w k a e =
          let one = passed r (λ t. passes q ok t) s w k a e in
          let other = passed x ok one.state one.read_state one.is_ok one.at one.occurs in
          record { state = other.state; read_state = other.read_state; is_ok = other.is_ok; at = other.at; occurs = other.occurs; all = (one.all, other.all) }
      passed (in_left {p = p} l r) ok s w k a e =
          let one = passed r ok s w ((and_parts (passes p ok s) _ k).0) a e in
          record { state = one.state; read_state = one.read_state; is_ok = one.is_ok; at = one.at; occurs = one.occurs; all = one.all }
      passed (in_right {p = p} l m r) ok s w k a e =
          let one = passed r ok s w (right_and (passes p ok s) _ k) a e in
          record { state = one.state; read_state = one.read_state; is_ok = one.is_ok; at = one.at; occurs = one.occurs; all = one.all }
      passed (left_out l) ok s w k a e = record { state = s; read_state = w; is_ok = (and_parts (ok s) _ k).0; at = a; occurs = e; all = tt }
      passed (there l r) ok s w k a e =
          let one = passed r ok s w (right_and (ok s) _ k) a e in
          record { state = one.state; read_state = one.read_state; is_ok = one.is_ok; at = one.at; occurs = one.occurs; all = one.all }
      passed (no_more l) ok s w k a e = record { state = s; read_state = w; is_ok = (and_parts (ok s) _ k).0; at = a; occurs = e; all = tt }
      passed (again {p = p} l r x) ok s w k a e =
          let one = passed r ok s w (follows_has ok (λ t. passes p ok t) (right_and (ok s) _ k) s ((and_parts (ok s) _ k).0)) a e in
          let other = passed x ok one.state one.read_state (and_both (ok one.state) _ one.is_ok (right_and (ok s) _ k)) one.at one.occurs in
          record { state = other.state; read_state = other.read_state; is_ok = other.is_ok; at = other.at; occurs = other.occurs; all = (one.all, other.all) }
