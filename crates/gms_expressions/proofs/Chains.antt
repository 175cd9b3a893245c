-- Chains of operands with operators between them, read in a loop.
use Rattle.std.proofs.Common.{◌≡◌, ℕ, Bool, true, false, List, [], ◌∷◌, ◌++◌, refl, sym, ap, ◌∙◌, subst, arith}
use Rattle.gq_number.specs.Number.{Number}
use Rattle.gms_ast.specs.declared.expression.Expr.{Expr}
use Rattle.gms_ast.specs.Trees.{Mark, Tree as Syntax, Parts, no_part, part}
use Rattle.gms_ast.specs.TreeView.{parts_of}
use Rattle.gms_lex.specs.declared.token.Token.{Token}
use Rattle.gms_grammar.specs.declared.terminal.Terminal.{Terminal}
use Rattle.gms_grammar.specs.Grammar.{one, the, ◌·◌, many, leaf, pair, none, more, node, yield, IsTree}
use Rattle.gms_grammar.specs.LookAhead.{may_be_empty}
use Rattle.gms_grammar.specs.Reading.{leads}
use Rattle.gms_grammar.specs.GamsGrammar.{Nonterminal, productions}
use Rattle.gms_grammar.specs.GamsLookAhead.{look_ahead}
use Rattle.std.proofs.lemmas.Bool.{both_ways}
use Rattle.gms_grammar.specs.Rules as rules
use Rattle.gms_grammar.proofs.Sound.{sound}
use Rattle.gms_grammar.proofs.Starts.{Starts, starts}
use Rattle.gms_grammar.proofs.Decided.{gams_decided}
use Rattle.gms_expressions.specs.declared.fault.SyntaxFaultOrMemory.{SyntaxFaultOrMemory}
use Rattle.gms_expressions.specs.declared.reader.Reader.{Reader}
use Rattle.gms_expressions.specs.declared.reader.Tables.{Tables}
use Rattle.gms_expressions.specs.ExpressionTrees.{or_alone, first_place, place_in}
use Rattle.gms_expressions.specs.Outcomes.{next_place}
use Rattle.gms_expressions.specs.InnerNodes.{view}
use Rattle.gms_expressions.specs.InnerReadings.{Seen, Derivation, GamsPart, Meaning, Refuses, Sense, IsGot, IsMeant, IsNext, seen_from, read_state_of}
use Rattle.gms_expressions.proofs.TokenKinds.{is_plain, implies}
use Rattle.gms_expressions.proofs.Steps.{Within, within_the, within_second, within_then, gives_both, refuses_second}
use Rattle.gms_expressions.proofs.Nexts.{gives_next, leads_next, unled_next}
use Rattle.gms_expressions.proofs.Loops.{Looping, loop_on, loop_got, loop_refuses}

-- where a tree begins is where the next token stood
place_begun : (source : List ℕ) (p : GamsPart) {ts : List Seen} (rest : List Seen) (tree : Derivation) → may_be_empty look_ahead p ≡ false → IsTree productions p tree × (ts ≡ yield tree ++ rest) → place_in tree ≡ next_place source ts
place_begun source p {ts = ts} rest tree some found = go (yield tree) (starts productions look_ahead gams_decided p tree found.0) found.1
  where
    go : (u : List Seen) → Starts productions look_ahead gams_decided p u → ts ≡ u ++ rest → first_place u ≡ next_place source ts
    go [] s e = cc
    go (t ∷ u) s e = sym (ap (next_place source) e)

pub place_read : {W E R : Type 0} {rule : ℕ × List ℕ → rules.Rule Token W E R} {limit : ℕ} {source : List ℕ} (p : GamsPart) {w v : W} {ts rest : List Seen} {tree : Derivation} → may_be_empty look_ahead p ≡ false → rules.IsPartRead rule (limit, source) p w ts tree v rest → place_in tree ≡ next_place source ts
place_read {source = source} p some g = place_begun source p _ _ some (sound productions look_ahead g.reads)

-- parts before others
abbrev pub parts_before : {N : Type 0} → List (Mark × Syntax N) → Parts N → Parts N
parts_before [] rest = rest
parts_before (p ∷ ps) rest = part p.0 p.1 (parts_before ps rest)

pub parts_before_push : {N : Type 0} (ps : List (Mark × Syntax N)) (mark : Mark) (x : Syntax N) (rest : Parts N) → parts_before ps (part mark x rest) ≡ parts_before (ps ++ (mark, x) ∷ []) rest
parts_before_push [] mark x rest = refl
parts_before_push (p ∷ ps) mark x rest = ap (part p.0 p.1) (parts_before_push ps mark x rest)

pub parts_before_all : {N : Type 0} (ps : List (Mark × Syntax N)) → parts_before ps no_part ≡ parts_of ps
parts_before_all [] = refl
parts_before_all (p ∷ ps) = ap (part p.0 p.1) (parts_before_all ps)

-- a meaning, in a sense
abbrev pub in_sense : {X : Type 0} → List ℕ → Meaning X → Sense → Derivation → X
in_sense source meaning sense tree = meaning source sense.names sense.labels tree

-- what a chain is, of which a first part and some others were read
abbrev pub chain_made : (Parts Number → Syntax Number) → Mark → Syntax Number → List (Mark × Syntax Number) → Parts Number → Syntax Number
chain_made make mark first others rest = or_alone first (λ r. make (part mark first r)) (parts_before others rest)

-- the first part of a chain was read
pub record ChainFirst (limit : ℕ) (part q : GamsPart) (whole : Meaning (Syntax Number)) (others : Meaning (Parts Number)) (make : Parts Number → Syntax Number) (mark : Mark) (first : Syntax Number)
    (reader : Reader) (start : ℕ) (old new : Tables) (at : ℕ) : Type 0 where
  pub looping : Looping limit part q (in_sense reader.source.now whole) (in_sense reader.source.now others) (chain_made make mark first []) reader start old new at

-- a chain, of which some parts were read
pub record Chain (limit : ℕ) (part q : GamsPart) (whole : Meaning (Syntax Number)) (others : Meaning (Parts Number)) (make : Parts Number → Syntax Number) (views : List (Mark × Syntax Number))
    (reader : Reader) (start : ℕ) (old new : Tables) (at : ℕ) : Type 0 where
  pub mark : Mark
  pub first : Syntax Number
  pub read : List (Mark × Syntax Number)
  pub views_are : views ≡ (mark, first) ∷ read
  pub looping : Looping limit part q (in_sense reader.source.now whole) (in_sense reader.source.now others) (chain_made make mark first read) reader start old new at
  pub begun : read ≡ [] → leads productions look_ahead q (seen_from reader at) ≡ true

not_nil : {X : Type 0} (xs : List X) (x : X) → xs ++ x ∷ [] ≡ [] → ⊥
not_nil [] x e = cc
not_nil (y ∷ xs) x e = cc

pub or_some : {N : Type 0} (first : Syntax N) (f : Parts N → Syntax N) (read : List (Mark × Syntax N)) → (read ≡ [] → ⊥) → f (parts_of read) ≡ or_alone first f (parts_of read)
or_some first f [] h = absurd (h refl)
or_some first f (p ∷ read) h = refl

-- an operator follows the first part
pub chain_start : {limit : ℕ} {P q : GamsPart} {whole : Meaning (Syntax Number)} {others : Meaning (Parts Number)} {make : Parts Number → Syntax Number} {mark : Mark} {first : Syntax Number} {reader : Reader} {start : ℕ} {old new : Tables} {at : ℕ} →
    ChainFirst limit P q whole others make mark first reader start old new at → leads productions look_ahead q (seen_from reader at) ≡ true →
    (views : List (Mark × Syntax Number)) → views ≡ (mark, first) ∷ [] → Chain limit P q whole others make views reader start old new at
chain_start {mark = mark} {first = first} c led views is = record { mark = mark; first = first; read = []; views_are = is; looping = c.looping; begun = λ _. led }

module _ {F : Type 0} {value : F → Number} {limit : ℕ} {whole : Meaning (Syntax Number)} {others : Meaning (Parts Number)} {make : Parts Number → Syntax Number} {reader : Reader} {start : ℕ} {old new : Tables} {at : ℕ} where
  -- a first part
  pub chain_first : (n : Nonterminal) {p q : GamsPart} {inner : Meaning (Syntax Number)} {e : Expr F} (mark : Mark) → productions n ≡ p · many q → (got : IsGot limit (IsMeant value reader.source.now inner) p reader start old new e at) →
      ((sense : Sense) (b : Derivation) → in_sense reader.source.now whole sense (node (pair got.tree b)) ≡ or_alone (in_sense reader.source.now inner sense got.tree) (λ r. make (part mark (in_sense reader.source.now inner sense got.tree) r)) (in_sense reader.source.now others sense b)) →
      ChainFirst limit (the n) q whole others make mark (view value e) reader start old new at
  chain_first n {p} {q} mark is got shape = record {
    looping = record {
      context = λ b. node (pair got.tree b);
      within = within_then (within_the n) (subst (λ (x : GamsPart). Within limit reader.source.now x (read_state_of reader.unclosed old) (seen_from reader start) (many q) (read_state_of reader.unclosed new) (seen_from reader at) (λ b. pair got.tree b)) (sym is) (within_second got.gives));
      means = λ sense s b. shape sense b ∙ ap (λ x. or_alone x (λ r. make (part mark x r)) (in_sense reader.source.now others sense b)) (sym (got.means sense s).is);
      further = got.further;
    };
  }

  module _ {P : GamsPart} {mark : Mark} {q : GamsPart} {e : Expr F} where
    -- no operator follows it
    pub chain_alone : ChainFirst limit P q whole others make mark (view value e) reader start old new at → leads productions look_ahead q (seen_from reader at) ≡ false →
        ((sense : Sense) → in_sense reader.source.now others sense none ≡ no_part) → IsGot limit (IsMeant value reader.source.now whole) P reader start old new e at
    chain_alone c unled empty = loop_got c.looping unled (IsMeant value reader.source.now whole) e (λ sense tree h. record { is = sym (h ∙ ap (or_alone (view value e) (λ r. make (part mark (view value e) r))) (empty sense)) })

  module _ {P : GamsPart} {test : Terminal → Bool} {sub : GamsPart} {views : List (Mark × Syntax Number)} where
    -- an operator and another part were read
    pub chain_on : Chain limit P (one test · sub) whole others make views reader start old new at → {newer : Tables} {following after : ℕ} {token : Token} {inner : Meaning (Syntax Number)} {e : Expr F} (n : IsNext test reader at token following) → implies test is_plain ≡ true →
        (got : IsGot limit (IsMeant value reader.source.now inner) sub reader following new newer e after) (m : Mark) →
        ((sense : Sense) (b : Derivation) → in_sense reader.source.now others sense (more (pair (leaf (n.kind, token)) got.tree) b) ≡ part m (in_sense reader.source.now inner sense got.tree) (in_sense reader.source.now others sense b)) →
        (now : List (Mark × Syntax Number)) → now ≡ views ++ (m, view value e) ∷ [] → Chain limit P (one test · sub) whole others make now reader start old newer after
    chain_on l {e = e} n plain got m shape now pushed = record {
      mark = l.mark;
      first = l.first;
      read = l.read ++ (m, view value e) ∷ [];
      views_are = pushed ∙ ap (λ vs. vs ++ (m, view value e) ∷ []) l.views_are;
      looping =
          loop_on l.looping (leads_next sub n) (gives_both (gives_next new n plain) got.gives) (let f = got.further in let g = n.further in omega arith) (λ z. part m (view value e) z)
          (λ sense s b. shape sense b ∙ ap (λ x. part m x (in_sense reader.source.now others sense b)) (sym (got.means sense s).is))
          (chain_made make l.mark l.first (l.read ++ (m, view value e) ∷ []))
          (λ z. ap (or_alone l.first (λ r. make (part l.mark l.first r))) (parts_before_push l.read m (view value e) z));
      begun = λ e. absurd (not_nil l.read _ e);
    }

    -- no operator comes next
    pub chain_got : Chain limit P (one test · sub) whole others make views reader start old new at → {e : Expr F} → leads productions look_ahead (one test) (seen_from reader at) ≡ false →
        ((sense : Sense) → in_sense reader.source.now others sense none ≡ no_part) → view value e ≡ make (parts_of views) → IsGot limit (IsMeant value reader.source.now whole) P reader start old new e at
    chain_got l {e} unled empty is =
        let none_led : leads productions look_ahead (one test · sub) (seen_from reader at) ≡ false = unled_next test sub _ unled in
        let some : l.read ≡ [] → ⊥ = λ e. both_ways _ none_led (l.begun e) in
        loop_got l.looping none_led (IsMeant value reader.source.now whole) e (λ sense tree h. record {
          is = is ∙ ap (λ vs. make (parts_of vs)) l.views_are ∙ or_some l.first (λ r. make (part l.mark l.first r)) l.read some
              ∙ sym (h ∙ ap (or_alone l.first (λ r. make (part l.mark l.first r))) (ap (parts_before l.read) (empty sense) ∙ parts_before_all l.read));
        })

-- the part after an operator is refused
pub chain_refuses : {limit : ℕ} {whole : Meaning (Syntax Number)} {others : Meaning (Parts Number)} {make : Parts Number → Syntax Number} {reader : Reader} {start : ℕ} {old new : Tables} {at : ℕ} {P : GamsPart} {test : Terminal → Bool} {sub : GamsPart} {views : List (Mark × Syntax Number)} →
    Chain limit P (one test · sub) whole others make views reader start old new at → {following : ℕ} {token : Token} {last : Tables} {e : SyntaxFaultOrMemory} (n : IsNext test reader at token following) → implies test is_plain ≡ true →
    Refuses limit reader.source.now sub last (read_state_of reader.unclosed new) (seen_from reader following) e → Refuses limit reader.source.now P last (read_state_of reader.unclosed old) (seen_from reader start) e
chain_refuses {new = new} {sub = sub} l n plain r = loop_refuses l.looping (leads_next sub n) (refuses_second (gives_next new n plain) r)
