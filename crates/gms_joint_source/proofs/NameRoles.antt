-- Each name that a derivation of a program has is one that the traversal of its tokens enters: it
-- comes after no dot and no `using`, and is in no option. So it has the same number if more names
-- were entered after it.
use Rattle.std.proofs.lemmas.Bool.{and_parts}
use Rattle.std.proofs.Common.{◌≡◌, ℕ, Bool, true, false, not, ◌&&◌, ◌||◌, if◌then◌else◌, List, [], ◌∷◌, Option, Some, None, is_some, IsSome, refl, sym, ap, ◌∙◌}
use Rattle.gms_labels.specs.Labels.{place_of, entered}
use Rattle.gms_labels.proofs.Places.{place_of-entered}
use Rattle.gms_lex.specs.TokenTexts.{token_text}
use Rattle.gms_grammar.specs.declared.terminal.Terminal.{Terminal}
use Rattle.gms_grammar.specs.declared.terminal.Terminal.TheVariants as terminal
use Rattle.gms_grammar.specs.Terminals.{is, is_terminal_among}
use Rattle.gms_grammar.specs.Reading.{read, Reads}
use Rattle.gms_grammar.specs.GamsGrammar.{Nonterminal, Expression, Program, Segment, KeywordStatement, SetStatement, ParameterStatement, ScalarStatement, TableStatement, VariableStatement, EquationStatement, ModelStatement, AliasStatement, DisplayStatement, OptionStatement, SolveStatement, AbortStatement, LoopStatement, LoopBody, InnerStatement, Setting, ElementPart, Range, productions}
use Rattle.gms_grammar.specs.GamsLookAhead.{look_ahead}
use Rattle.gms_grammar.proofs.Basics.{and_both}
use Rattle.gms_grammar.proofs.Checks.{right_and, implied}
use Rattle.gms_expressions.proofs.TokenKinds.{also}
use Rattle.gms_parse.specs.ReadStates.{KindedToken, ReaderState, last_kind, is_name, reader_after, kind_of, start}
use Rattle.gms_parse.specs.InnerReadings.{Derivation}
use Rattle.gms_parse.proofs.TokenKinds.{begins}
use Rattle.gms_parse.proofs.StateLemmas.{names_kept}
use Rattle.gms_joint_source.proofs.Tests.{IsNameTest, is_name_test}
use Rattle.gms_joint_source.proofs.Throughouts.{Throughout, NoMore, Occurs, is_right, passed}

-- what a name would be here: one that is entered, a suffix after a dot, the word after `using`, or
-- a word of an option
pub data Role : Type 0 where
  bare dotted used opted : Role

abbrev is_bare : Role → Bool
is_bare bare = true
is_bare _ = false

abbrev is_dotted : Role → Bool
is_dotted dotted = true
is_dotted _ = false

abbrev is_opted : Role → Bool
is_opted opted = true
is_opted _ = false

abbrev each : (Role → Bool) → Bool
each f = f bare && (f dotted && (f used && f opted))

each_is : (f : Role → Bool) → each f ≡ true → (r : Role) → f r ≡ true
each_is f h bare = (and_parts (f bare) _ h).0
each_is f h dotted = (and_parts (f dotted) _ (right_and (f bare) _ h)).0
each_is f h used = (and_parts (f used) _ (right_and (f dotted) _ (right_and (f bare) _ h))).0
each_is f h opted = right_and (f used) _ (right_and (f dotted) _ (right_and (f bare) _ h))

-- after a keyword and a last token
abbrev role_by : Bool → Bool → Bool → Role
role_by option dot using = if option then opted else (if dot then dotted else (if using then used else bare))

abbrev role_of : Terminal → Terminal → Role
role_of keyword last = role_by (is terminal.Option keyword) (is last terminal.Dot) (is last terminal.Using)

-- after a token within a statement
abbrev within : Role → Terminal → Role
within opted kind = opted
within _ kind = role_by false (is kind terminal.Dot) (is kind terminal.Using)

abbrev next : Role → Terminal → Role
next role kind = if begins kind then role_by (is terminal.Option kind) false false else within role kind

-- ---- the traversal

abbrev Has : Role → ReaderState → Type 0
Has role w = role_of w.keyword (last_kind w.before) ≡ role

begun : (kind : Terminal) → begins kind ≡ true → role_of kind kind ≡ role_by (is terminal.Option kind) false false
begun terminal.Dot h = cc
begun terminal.Using h = cc
begun _ h = refl

on : (option dot using : Bool) (kind : Terminal) → role_by option (is kind terminal.Dot) (is kind terminal.Using) ≡ within (role_by option dot using) kind
on true dot using kind = refl
on false true using kind = refl
on false false true kind = refl
on false false false kind = refl

step : (first : List ℕ) (role : Role) (w : ReaderState) (t : KindedToken) (ahead : Terminal) → Has role w → Has (next role t.0) (reader_after first w t ahead)
step first role w t ahead h = by (begins t.0) refl
  where
    by : (b : Bool) → begins t.0 ≡ b → role_of (if b then t.0 else w.keyword) t.0 ≡ (if b then role_by (is terminal.Option t.0) false false else within role t.0)
    by true e = begun t.0 e
    by false e = on (is terminal.Option w.keyword) (is (last_kind w.before) terminal.Dot) (is (last_kind w.before) terminal.Using) t.0 ∙ ap (λ (r : Role). within r t.0) h

-- ---- the claims: after `using` any word may follow, `using` itself too

abbrev allowed : (Terminal → Bool) → Role → Bool
allowed test role = not (is_name_test test) || is_bare role

abbrev between : Role → Bool
between role = not (is_dotted role)

abbrev entry : Nonterminal → Role → Bool
entry KeywordStatement role = between role
entry SetStatement role = between role
entry ParameterStatement role = between role
entry ScalarStatement role = between role
entry TableStatement role = between role
entry VariableStatement role = between role
entry EquationStatement role = between role
entry ModelStatement role = between role
entry AliasStatement role = between role
entry DisplayStatement role = between role
entry OptionStatement role = between role
entry SolveStatement role = between role
entry AbortStatement role = between role
entry LoopStatement role = between role
entry Setting role = is_opted role
entry ElementPart role = is_bare role || is_dotted role
entry Range role = is_bare role || is_dotted role
entry _ role = is_bare role

abbrev exit : Nonterminal → Role → Role → Bool
exit Program role last = between last
exit Segment role last = between last
exit KeywordStatement role last = between last
exit OptionStatement role last = is_opted last
exit LoopStatement role last = between last
exit SolveStatement role last = between last
exit LoopBody role last = between last
exit InnerStatement role last = between last
exit Setting role last = is_opted last
exit _ role last = is_bare last

abbrev atom : Nonterminal → Bool
atom n = false

all_right : (n : Nonterminal) → is_right each each_is next allowed entry exit atom n ≡ true
all_right Expression = refl
all_right _ = refl

-- ---- a name

bare_role : (role : Role) → is_bare role ≡ true → role ≡ bare
bare_role bare h = refl
bare_role dotted h = cc
bare_role used h = cc
bare_role opted h = cc

entered_here : (option dot using : Bool) → role_by option dot using ≡ bare → not ((dot || (using || false)) || option) ≡ true
entered_here true dot using h = absurd (let z : false ≡ true = ap is_bare h in cc)
entered_here false true using h = absurd (let z : false ≡ true = ap is_bare h in cc)
entered_here false false true h = absurd (let z : false ≡ true = ap is_bare h in cc)
entered_here false false false h = refl

place_if : (b : Bool) (texts : List (List ℕ)) (text : List ℕ) → b ≡ true → IsSome (place_of (if b then entered texts text else texts) text)
place_if true texts text h = place_of-entered texts text
place_if false texts text h = cc

module _ (first second : List ℕ) (names labels wider : List (List ℕ)) (whole : List KindedToken) (keep : (text : List ℕ) (n : ℕ) → place_of names text ≡ Some n → place_of wider text ≡ Some n) where
  -- a name has the same number in both
  abbrev pub SameName : (Terminal → Bool) → KindedToken → Type 0
  SameName test t = IsNameTest test → place_of names (token_text first t.1) ≡ place_of wider (token_text second t.1)

  kept : (text other : List ℕ) → other ≡ text → (o : Option ℕ) → place_of names text ≡ o → IsSome o → place_of names text ≡ place_of wider other
  kept text other e (Some n) h s = h ∙ sym (ap (place_of wider) e ∙ keep text n h)
  kept text other e None h s = cc

  there : (w : ReaderState) (t : KindedToken) (rest : List KindedToken) → is_name w t.0 ≡ true → Occurs first second names labels whole w (t ∷ rest) → (o : Option ℕ) → place_of (reader_after first w t (kind_of rest)).names (token_text first t.1) ≡ o → IsSome o → IsSome (place_of names (token_text first t.1))
  there w t rest named e (Some n) h s = ap is_some (ap (λ (ns : List (List ℕ)). place_of ns (token_text first t.1)) e.names_are ∙ names_kept first (reader_after first w t (kind_of rest)) rest terminal.End (token_text first t.1) n h)
  there w t rest named e None h s = cc

  of_token : (test : Terminal → Bool) (role : Role) (w : ReaderState) (t : KindedToken) (rest : List KindedToken) → allowed test role ≡ true → test t.0 ≡ true → Has role w → Occurs first second names labels whole w (t ∷ rest) → SameName test t
  of_token test role w t rest free pass h e named =
      let is_bare_here : is_bare role ≡ true = implied (is_name_test test) (is_bare role) free (and_both (test terminal.Name) _ named.0 named.1) in
      let at : role_of w.keyword (last_kind w.before) ≡ bare = h ∙ bare_role role is_bare_here in
      let kind : is_terminal_among (terminal.Name ∷ terminal.Suffix ∷ []) t.0 ≡ true = also test (is_terminal_among (terminal.Name ∷ terminal.Suffix ∷ [])) named.1 t.0 pass in
      let enters : is_name w t.0 ≡ true = and_both (is_terminal_among (terminal.Name ∷ terminal.Suffix ∷ []) t.0) _ kind (entered_here (is terminal.Option w.keyword) (is (last_kind w.before) terminal.Dot) (is (last_kind w.before) terminal.Using) at) in
      let here : IsSome (place_of (reader_after first w t (kind_of rest)).names (token_text first t.1)) = place_if (is_name w t.0) w.names (token_text first t.1) enters in
      kept (token_text first t.1) (token_text second t.1) e.alike.0 (place_of names (token_text first t.1)) refl
      (there w t rest enters e (place_of (reader_after first w t (kind_of rest)).names (token_text first t.1)) refl here)

  -- each name of a program that is read from its start has the same number in both
  pub names_throughout : (tree : Derivation) → Reads productions look_ahead (productions Program) whole (read tree []) → Occurs first second names labels whole start whole → Throughout SameName NoMore (productions Program) tree
  names_throughout tree r e =
      (passed each each_is next allowed entry exit atom first second names labels whole Has SameName NoMore (step first) of_token (λ n inner role w tokens rest k h s x. tt)
      (λ n inner role w tokens rest k h s x y. absurd (let z : false ≡ true = k in cc)) all_right r (λ role. between role) bare start refl refl e).all
