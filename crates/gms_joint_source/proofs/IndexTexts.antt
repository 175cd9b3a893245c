-- Each text of an index in a derivation of a program is one that the traversal of its tokens
-- enters: it is in parentheses of its statement. So it has the same number if more labels were
-- entered after it.
use Rattle.std.proofs.Common.{◌≡◌, ℕ, ◌+◌, ◌-◌, ◌<◌, ◌≤◌, Bool, true, false, not, ◌&&◌, ◌||◌, ◌==◌, if◌then◌else◌, List, [], ◌∷◌, Option, Some, None, is_some, IsSome, refl, sym, ap, ◌∙◌, subst, inl, inr, arith}
use Rattle.std.proofs.lemmas.Bool.{not-true, eqb-true, and_parts}
use Rattle.gms_grammar.proofs.LineLemmas.{true_or_false}
use Rattle.gms_labels.specs.Labels.{place_of}
use Rattle.gms_labels.proofs.Places.{place_of-entered}
use Rattle.gms_lex.specs.TokenTexts.{token_text, unquoted}
use Rattle.gms_grammar.specs.declared.terminal.Terminal.{Terminal}
use Rattle.gms_grammar.specs.declared.terminal.Terminal.TheVariants as terminal
use Rattle.gms_grammar.specs.Terminals.{is, is_terminal_among}
use Rattle.gms_grammar.specs.Grammar.{one, the, some, node, yield, IsTree}
use Rattle.gms_grammar.specs.Reading.{read, Reads, taken, entered as entered_by, both, in_left, in_right, left_out, there, no_more, again}
use Rattle.gms_grammar.specs.GamsGrammar.{Nonterminal, Expression, Program, Segment, NamedStatement, AfterName, HeadIndices, AfterHeadName, AfterHeadIndex, AfterLag, AfterHead, AfterTarget, Sides, InnerStatement, Assignment, LoopBody, ShownList, Shown, productions}
use Rattle.gms_grammar.specs.GamsLookAhead.{look_ahead}
use Rattle.gms_grammar.proofs.Basics.{and_both, not_true}
use Rattle.gms_grammar.proofs.Checks.{right_and, implied}
use Rattle.gms_grammar.proofs.Sound.{sound}
use Rattle.gms_expressions.specs.Outcomes.{open_after}
use Rattle.gms_expressions.proofs.TokenKinds.{also}
use Rattle.gms_table.specs.WordLabels.{all_entered}
use Rattle.gms_parse.specs.ReadStates.{KindedToken, ReaderState, is_index, new_labels, reader_after, kind_of, start}
use Rattle.gms_parse.specs.InnerReadings.{Derivation, GamsPart}
use Rattle.gms_parse.proofs.TokenKinds.{begins, same_kind}
use Rattle.gms_parse.proofs.StateLemmas.{labels_kept}
use Rattle.gms_parse.proofs.Alphabet.{AllPass, pass_prefix, pass_rest, only, all_pass}
use Rattle.gms_parse.proofs.Depths.{TextsAbove, depth_after, depth_append, above_prefix, above_rest, is_deep, is_shallow, fits_the, fits_index, Closes, closes}
use Rattle.gms_joint_source.proofs.Tests.{IsTextTest, is_text_test}
use Rattle.gms_joint_source.proofs.Throughouts.{Throughout, NoMore, Occurs, occurs_on, Passed, is_right, passed}

-- ---- depths

-- How many parentheses of its statement a token is in: none, one, or it is not known.
pub data Depth : Type 0 where
  even inside unknown : Depth

abbrev is_even : Depth → Bool
is_even even = true
is_even _ = false

abbrev is_inside : Depth → Bool
is_inside inside = true
is_inside _ = false

abbrev is_known : Depth → Bool
is_known unknown = false
is_known _ = true

abbrev same : Depth → Depth → Bool
same even last = is_even last
same inside last = is_inside last
same unknown last = true

abbrev each : (Depth → Bool) → Bool
each f = f even && (f inside && f unknown)

each_is : (f : Depth → Bool) → each f ≡ true → (d : Depth) → f d ≡ true
each_is f h even = (and_parts (f even) _ h).0
each_is f h inside = (and_parts (f inside) _ (right_and (f even) _ h)).0
each_is f h unknown = right_and (f inside) _ (right_and (f even) _ h)

-- after a token within a statement
abbrev on : Depth → Terminal → Depth
on even terminal.LeftParen = inside
on even terminal.RightParen = unknown
on even _ = even
on inside terminal.LeftParen = unknown
on inside terminal.RightParen = even
on inside _ = inside
on unknown _ = unknown

abbrev next : Depth → Terminal → Depth
next depth kind = if begins kind then even else on depth kind

-- a text of an index is in a parenthesis
abbrev allowed : (Terminal → Bool) → Depth → Bool
allowed test depth = not (is_text_test test) || is_inside depth

abbrev Counts : Depth → ℕ → ℕ → Type 0
Counts even level n = n ≡ level
Counts inside level n = n ≡ level + 1
Counts unknown level n = Unit {0}

abbrev Has : Depth → ReaderState → Type 0
Has depth w = Counts depth w.level w.open_count

counts_on : (depth : Depth) (kind : Terminal) (level n : ℕ) → Counts depth level n → Counts (on depth kind) level (open_after n kind)
counts_on even terminal.LeftParen level n h = ap (λ m. m + 1) h
counts_on even terminal.RightParen level n h = tt
counts_on even _ level n h = h
counts_on inside terminal.LeftParen level n h = tt
counts_on inside terminal.RightParen level n h = ap (λ m. m - 1) h ∙ (let e : level + 1 - 1 ≡ level = omega arith in e)
counts_on inside _ level n h = h
counts_on unknown kind level n h = tt

begun : (kind : Terminal) (n : ℕ) → begins kind ≡ true → open_after n kind ≡ n
begun terminal.LeftParen n h = cc
begun terminal.RightParen n h = cc
begun _ n h = refl

step : (first : List ℕ) (depth : Depth) (w : ReaderState) (t : KindedToken) (ahead : Terminal) → Has depth w → Has (next depth t.0) (reader_after first w t ahead)
step first depth w t ahead h = by (begins t.0) refl
  where
    by : (b : Bool) → begins t.0 ≡ b → Counts (if b then even else on depth t.0) (if b then w.open_count else w.level) (open_after w.open_count t.0)
    by true e = begun t.0 w.open_count e
    by false e = counts_on depth t.0 w.level w.open_count h

-- ---- the claims

-- the nonterminals of expressions and indices, which leave as many parentheses open as there were
abbrev is_formula : Nonterminal → Bool
is_formula n = is_deep n || is_shallow n

-- in which depths other nonterminals begin
abbrev begun_in : Nonterminal → Depth → Bool
begun_in Program depth = is_even depth
begun_in Segment depth = is_even depth
begun_in NamedStatement depth = is_even depth
begun_in AfterName depth = is_even depth
begun_in AfterHead depth = is_even depth
begun_in Sides depth = is_even depth
begun_in HeadIndices depth = is_inside depth
begun_in AfterHeadName depth = is_inside depth
begun_in AfterHeadIndex depth = is_inside depth
begun_in AfterLag depth = is_inside depth
begun_in AfterTarget depth = is_known depth
begun_in Assignment depth = is_known depth
begun_in InnerStatement depth = is_known depth
begun_in LoopBody depth = is_known depth
begun_in ShownList depth = is_known depth
begun_in Shown depth = is_known depth
begun_in _ depth = true

abbrev entry : Nonterminal → Depth → Bool
entry n depth = (not (is_deep n) || is_known depth) && ((not (is_shallow n) || is_inside depth) && begun_in n depth)

-- and in which they end
abbrev left_in : Nonterminal → Depth → Depth → Bool
left_in HeadIndices depth last = is_even last
left_in AfterHeadName depth last = is_even last
left_in AfterHeadIndex depth last = is_even last
left_in AfterLag depth last = is_even last
left_in NamedStatement depth last = same depth last
left_in AfterName depth last = same depth last
left_in AfterHead depth last = same depth last
left_in Sides depth last = same depth last
left_in AfterTarget depth last = same depth last
left_in Assignment depth last = same depth last
left_in ShownList depth last = same depth last
left_in Shown depth last = same depth last
left_in _ depth last = true

abbrev exit : Nonterminal → Depth → Depth → Bool
exit n depth last = if is_formula n then same depth last else left_in n depth last

all_right : (n : Nonterminal) → is_right each each_is next allowed entry exit is_formula n ≡ true
all_right Expression = refl
all_right _ = refl

-- a token that begins no statement
abbrev is_inner : Terminal → Bool
is_inner kind = not (begins kind)

formulas_inner : (n : Nonterminal) → (not (is_formula n) || only is_formula is_inner (productions n)) ≡ true
formulas_inner Expression = refl
formulas_inner _ = refl

known_at : (depth : Depth) (level n : ℕ) → is_known depth ≡ true → Counts depth level n → level ≤ n
known_at even level n k h = omega (arith, h)
known_at inside level n k h = omega (arith, h)
known_at unknown level n k h = cc

inside_at : (depth : Depth) (level n : ℕ) → is_inside depth ≡ true → Counts depth level n → level + 1 ≤ n
inside_at even level n k h = cc
inside_at inside level n k h = omega (arith, h)
inside_at unknown level n k h = cc

counts_same : (depth : Depth) (level n m k : ℕ) → m ≡ level → k ≡ n → Counts depth level n → Counts depth m k
counts_same even level n m k e f h = f ∙ h ∙ sym e
counts_same inside level n m k e f h = f ∙ h ∙ ap (λ l. l + 1) (sym e)
counts_same unknown level n m k e f h = tt

same_self : (b : Bool) (depth : Depth) (other : Bool) → b ≡ true → (if b then same depth depth else other) ≡ true
same_self true even other h = refl
same_self true inside other h = refl
same_self true unknown other h = refl
same_self false depth other h = cc

second_of : (a b : Bool) → (a || b) ≡ true → a ≡ false → b ≡ true
second_of true b h k = cc
second_of false b h k = h

-- in an expression texts are in parentheses, which close
closing : (n : Nonterminal) (tree : Derivation) (depth : Depth) (w : ReaderState) → IsTree productions (productions n) tree → is_formula n ≡ true → entry n depth ≡ true → Has depth w → Closes w.level w.open_count (yield tree)
closing n tree depth w k formula enters h = elim (true_or_false (is_deep n)) [
  | inl deep ↦
      let known : is_known depth ≡ true = implied (is_deep n) (is_known depth) ((and_parts (not (is_deep n) || is_known depth) _ enters).0) deep in
      closes false (fits_the {b = false} deep) (node tree) k w.level w.open_count (known_at depth w.level w.open_count known h)
  | inr other ↦
      let shallow : is_shallow n ≡ true = second_of (is_deep n) (is_shallow n) formula other in
      let some : is_inside depth ≡ true = implied (is_shallow n) (is_inside depth) ((and_parts (not (is_shallow n) || is_inside depth) _ (right_and (not (is_deep n) || is_known depth) _ enters)).0) shallow in
      closes true (fits_index shallow) (node tree) k w.level w.open_count (inside_at depth w.level w.open_count some h)
]

-- ---- a text

-- texts that are entered are found
pub found_in : (texts : List (List ℕ)) (text : List ℕ) → IsSome (place_of (all_entered texts (text ∷ [])) text)
found_in texts text = place_of-entered texts text

deep_index : (w : ReaderState) → w.level < w.open_count → is_index w terminal.Text ≡ true
deep_index w l = ap not (ap (λ b. is_terminal_among (terminal.Display ∷ terminal.Abort ∷ []) w.keyword && b) (differ w.open_count w.level l) ∙ and_false _)
  where
    differ : (m n : ℕ) → n < m → (m == n) ≡ false
    differ m n l = not_true (m == n) (λ e. let k = eqb-true m n e in omega (arith, l, k))

    and_false : (b : Bool) → (b && false) ≡ false
    and_false true = refl
    and_false false = refl

index_if : (b : Bool) (text : List ℕ) (others : List (List ℕ)) → b ≡ true → (if b then text ∷ [] else others) ≡ text ∷ []
index_if true text others h = refl
index_if false text others h = cc

module _ (first second : List ℕ) (names labels larger : List (List ℕ)) (whole : List KindedToken) (keep : (text : List ℕ) (n : ℕ) → place_of labels text ≡ Some n → place_of larger text ≡ Some n) where
  abbrev Here : ReaderState → List KindedToken → Type 0
  Here w tokens = Occurs first second names labels whole w tokens

  -- a label that was entered has the same number in both
  pub kept : (text other : List ℕ) → other ≡ text → (o : Option ℕ) → place_of labels text ≡ o → IsSome o → place_of labels text ≡ place_of larger other
  kept text other e (Some n) h s = h ∙ sym (ap (place_of larger) e ∙ keep text n h)
  kept text other e None h s = cc

  -- what the traversal has entered stays
  pub stays : (w : ReaderState) (tokens : List KindedToken) (text : List ℕ) (o : Option ℕ) → Here w tokens → place_of w.labels text ≡ o → IsSome o → IsSome (place_of labels text)
  stays w tokens text (Some n) e h s = ap is_some (ap (λ (ls : List (List ℕ)). place_of ls text) e.labels_are ∙ labels_kept first w tokens terminal.End text n h)
  stays w tokens text None e h s = cc

  -- a text of an index has the same number in both
  abbrev pub SameText : (Terminal → Bool) → KindedToken → Type 0
  SameText test t = IsTextTest test → place_of labels (unquoted (token_text first t.1)) ≡ place_of larger (unquoted (token_text second t.1))

  of_deep : (test : Terminal → Bool) (w : ReaderState) (t : KindedToken) (rest : List KindedToken) → (t.0 ≡ terminal.Text → w.level < w.open_count) → test t.0 ≡ true → Here w (t ∷ rest) → SameText test t
  of_deep test w t rest deep pass e text_test =
      let kind : terminal.Text ≡ t.0 = same_kind terminal.Text t.0 (also test (is terminal.Text) text_test.1 t.0 pass) in
      let text : List ℕ = unquoted (token_text first t.1) in
      let index : is_index w t.0 ≡ true = ap (is_index w) (sym kind) ∙ deep_index w (deep (sym kind)) in
      let new : new_labels first w t (kind_of rest) ≡ text ∷ [] = index_if (is_index w t.0) text _ index in
      let here : IsSome (place_of (reader_after first w t (kind_of rest)).labels text) = subst (λ (ts : List (List ℕ)). IsSome (place_of (all_entered w.labels ts) text)) (sym new) (found_in w.labels text) in
      kept text (unquoted (token_text second t.1)) (ap unquoted e.alike.0) (place_of labels text) refl
      (stays (reader_after first w t (kind_of rest)) rest text (place_of (reader_after first w t (kind_of rest)).labels text) (occurs_on first second names labels whole w t rest e) refl here)

  -- ---- expressions

  -- a reader is after a part of an expression, and `n` parentheses are open
  record After (least n : ℕ) (p : GamsPart) (tree : Derivation) (rest : List KindedToken) : Type 0 where
    read_state : ReaderState
    level : read_state.level ≡ least
    open_count : read_state.open_count ≡ n
    occurs : Here read_state rest
    all : Throughout SameText NoMore p tree

  -- parts of an expression in which each text is in parentheses
  within : {p : GamsPart} {tokens rest : List KindedToken} {tree : Derivation} → Reads productions look_ahead p tokens (read tree rest) → (least n : ℕ) (w : ReaderState) → w.level ≡ least → w.open_count ≡ n → AllPass is_inner (yield tree) → TextsAbove least n (yield tree) → Here w tokens →
      After least (depth_after n (yield tree)) p tree rest
  within (taken {test = test} {token = t} {rest = rest} h) least n w l o i d e = record {
    read_state = reader_after first w t (kind_of rest);
    level = ap (λ b. if b then w.open_count else w.level) (not-true (begins t.0) i.0) ∙ l;
    open_count = ap (λ m. open_after m t.0) o;
    occurs = occurs_on first second names labels whole w t rest e;
    all = of_deep test w t rest (λ k. let deep = d.0 k in omega (arith, deep, l, o)) h e;
  }
  within (entered_by r) least n w l o i d e =
      let one = within r least n w l o i d e in
      record { read_state = one.read_state; level = one.level; open_count = one.open_count; occurs = one.occurs; all = (one.all, tt) }
  within (both {a = a} {b = b} r x) least n w l o i d e =
      let one = within r least n w l o (pass_prefix is_inner (yield a) (yield b) i) (above_prefix least n (yield a) (yield b) d) e in
      let other = within x least (depth_after n (yield a)) one.read_state one.level one.open_count (pass_rest is_inner (yield a) (yield b) i) (above_rest least n (yield a) (yield b) d) one.occurs in
      record { read_state = other.read_state; level = other.level; open_count = other.open_count ∙ sym (depth_append n (yield a) (yield b)); occurs = other.occurs; all = (one.all, other.all) }
  within (in_left k r) least n w l o i d e =
      let one = within r least n w l o i d e in
      record { read_state = one.read_state; level = one.level; open_count = one.open_count; occurs = one.occurs; all = one.all }
  within (in_right k m r) least n w l o i d e =
      let one = within r least n w l o i d e in
      record { read_state = one.read_state; level = one.level; open_count = one.open_count; occurs = one.occurs; all = one.all }
  within (left_out k) least n w l o i d e = record { read_state = w; level = l; open_count = o; occurs = e; all = tt }
  within (there k r) least n w l o i d e =
      let one = within r least n w l o i d e in
      record { read_state = one.read_state; level = one.level; open_count = one.open_count; occurs = one.occurs; all = one.all }
  within (no_more k) least n w l o i d e = record { read_state = w; level = l; open_count = o; occurs = e; all = tt }
  within (again {a = a} {b = b} k r x) least n w l o i d e =
      let one = within r least n w l o (pass_prefix is_inner (yield a) (yield b) i) (above_prefix least n (yield a) (yield b) d) e in
      let other = within x least (depth_after n (yield a)) one.read_state one.level one.open_count (pass_rest is_inner (yield a) (yield b) i) (above_rest least n (yield a) (yield b) d) one.occurs in
      record { read_state = other.read_state; level = other.level; open_count = other.open_count ∙ sym (depth_append n (yield a) (yield b)); occurs = other.occurs; all = (one.all, other.all) }

  -- what remains after a part of an expression
  of_formula : (n : Nonterminal) (tree : Derivation) (depth : Depth) (w : ReaderState) (tokens rest : List KindedToken) → is_formula n ≡ true → entry n depth ≡ true → Has depth w → Here w tokens → Reads productions look_ahead (productions n) tokens (read tree rest) →
      Passed each each_is next allowed entry exit is_formula first second names labels whole Has SameText NoMore (exit n depth) (productions n) tree rest
  of_formula n tree depth w tokens rest formula enters h e r =
      let k : IsTree productions (productions n) tree = (sound productions look_ahead r).0 in
      let c = closing n tree depth w k formula enters h in
      let one = within r w.level w.open_count w refl refl (all_pass is_formula is_inner formulas_inner (the n) (node tree) k formula) c.above e in
      record {
        state = depth;
        read_state = one.read_state;
        is_ok = same_self (is_formula n) depth (left_in n depth depth) formula;
        at = counts_same depth w.level w.open_count one.read_state.level one.read_state.open_count one.level (one.open_count ∙ c.closed) h;
        occurs = one.occurs;
        all = one.all;
      }

  of_token : (test : Terminal → Bool) (depth : Depth) (w : ReaderState) (t : KindedToken) (rest : List KindedToken) → allowed test depth ≡ true → test t.0 ≡ true → Has depth w → Here w (t ∷ rest) → SameText test t
  of_token test depth w t rest free pass h e text_test =
      let in_one : is_inside depth ≡ true = implied (is_text_test test) (is_inside depth) free (and_both (test terminal.Text) _ text_test.0 text_test.1) in
      of_deep test w t rest (λ k. let deep = inside_at depth w.level w.open_count in_one h in omega (arith, deep)) pass e text_test

  -- each text of an index in a program that is read from its start has the same number in both
  pub texts_throughout : (tree : Derivation) → Reads productions look_ahead (productions Program) whole (read tree []) → Here start whole → Throughout SameText NoMore (productions Program) tree
  texts_throughout tree r e =
      (passed each each_is next allowed entry exit is_formula first second names labels whole Has SameText NoMore (step first) of_token (λ n inner depth w tokens rest k h s x. tt) of_formula all_right r (λ depth. true) even start refl refl e).all
