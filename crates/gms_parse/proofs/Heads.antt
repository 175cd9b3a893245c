-- Assignments and definitions begin alike: what a reader finds of a target it finds of the
-- statement that begins with its name.
use Rattle.std.proofs.Common.{◌≡◌, ◌⊎◌, inl, inr, ℕ, Bool, true, false, not, cond, List, [], ◌∷◌, ◌++◌, codes, refl, sym, ap, ◌∙◌, subst, append_assoc}
use Rattle.gq_number.specs.Number.{Number}
use Rattle.gms_ast.specs.declared.expression.Suffix.{Suffix}
use Rattle.gms_ast.specs.declared.expression.Suffix.TheVariants as suffix
use Rattle.gms_ast.specs.Trees.{Indices, no_index}
use Rattle.gms_ast.specs.StatementTrees.{Target as TargetTree}
use Rattle.gms_grammar.specs.declared.terminal.Terminal.TheVariants.{Name, Suffix as SuffixWord, Text, Comma, LeftParen, RightParen, Equals, DotDot}
use Rattle.gms_grammar.specs.Grammar.{the, ◌·◌, ◌∣◌, opt, many, leaf, pair, left, right, none, some, more, node, yield}
use Rattle.gms_grammar.specs.Reading.{read, stuck, leads, Reads, Takes, taken, refused, entered, entered_stuck, both, first_stuck, second_stuck, in_left, in_left_stuck, in_right, in_right_stuck, in_neither, left_out, there, there_stuck, no_more, again, again_stuck, later_stuck, takes_one, takes_the, takes_first, takes_second, takes_left, takes_right, takes_opt, takes_many, takes_later}
use Rattle.gms_grammar.specs.Terminals.{is, is_terminal_among}
use Rattle.gms_grammar.specs.Alternatives.{name_suffixed, name_indexed, name_alone, head_label, head_set, head_lag, head_lagless, head_comma, head_closed}
use Rattle.gms_grammar.specs.GamsGrammar.{Nonterminal, Expression, Condition, Target, Attribute, IndexList, Index, Lag, NamedStatement, AfterName, HeadIndices, AfterHeadName, AfterHeadIndex, AfterLag, AfterHead, AfterTarget, Sides, productions, token, name, bracketed}
use Rattle.gms_grammar.specs.GamsLookAhead.{look_ahead}
use Rattle.gms_grammar.proofs.Basics.{and_first, both_ways, end_nil}
use Rattle.gms_lex.specs.TokenTexts.{token_text}
use Rattle.gms_expressions.specs.ExpressionTrees.{is_word, suffix_of, suffix_in, token_of, index, more_indices}
use Rattle.gms_expressions.proofs.TokenKinds.{same_test}
use Rattle.gms_parse.specs.Statements.{target_at, target_in, head_indices, act_of_head, after_head, after_target, named_act}
use Rattle.gms_parse.specs.ReadStates.{KindedToken}
use Rattle.gms_parse.specs.InnerReadings.{Derivation, GamsPart, Sense}
use Rattle.gms_parse.specs.InnerMeanings.{has_lag, is_unsuffixed, is_plain_target}
use Rattle.gms_parse.proofs.TokenKinds.{leads_alike, unled_less, led_more, unled_next, led_first, unled_either}

-- ---- a part that continues with another after some tokens

pub record Leading (part : GamsPart) (ts prefix : List KindedToken) (inner : GamsPart) (rest : List KindedToken) (context : Derivation → Derivation) : Type 0 where
  pub reads : (a : Derivation) (following : List KindedToken) → Reads productions look_ahead inner rest (read a following) → Reads productions look_ahead part ts (read (context a) following)
  pub yields : (a : Derivation) → yield (context a) ≡ prefix ++ yield a
  pub sticks : (u following : List KindedToken) → Reads productions look_ahead inner rest (stuck u following) → Reads productions look_ahead part ts (stuck (prefix ++ u) following)
  pub takes : (u following : List KindedToken) → Takes productions look_ahead inner rest u following → Takes productions look_ahead part ts (prefix ++ u) following

lead_here : {p : GamsPart} {ts : List KindedToken} → Leading p ts [] p ts (λ a. a)
lead_here = record { reads = λ a following r. r; yields = λ a. refl; sticks = λ u following r. r; takes = λ u following t. t }

lead_the : (n : Nonterminal) {inner : GamsPart} {ts prefix rest : List KindedToken} {c : Derivation → Derivation} → Leading (productions n) ts prefix inner rest c → Leading (the n) ts prefix inner rest (λ a. node (c a))
lead_the n l = record {
  reads = λ a following r. entered (l.reads a following r);
  yields = λ a. l.yields a;
  sticks = λ u following r. entered_stuck (l.sticks u following r);
  takes = λ u following t. takes_the (l.takes u following t);
}

lead_left : {p q inner : GamsPart} {ts prefix rest : List KindedToken} {c : Derivation → Derivation} → leads productions look_ahead p ts ≡ true → Leading p ts prefix inner rest c → Leading (p ∣ q) ts prefix inner rest (λ a. left (c a))
lead_left h l = record {
  reads = λ a following r. in_left h (l.reads a following r);
  yields = λ a. l.yields a;
  sticks = λ u following r. in_left_stuck h (l.sticks u following r);
  takes = λ u following t. takes_left (l.takes u following t);
}

lead_right : {p q inner : GamsPart} {ts prefix rest : List KindedToken} {c : Derivation → Derivation} → leads productions look_ahead p ts ≡ false → leads productions look_ahead q ts ≡ true → Leading q ts prefix inner rest c → Leading (p ∣ q) ts prefix inner rest (λ a. right (c a))
lead_right h k l = record {
  reads = λ a following r. in_right h k (l.reads a following r);
  yields = λ a. l.yields a;
  sticks = λ u following r. in_right_stuck h k (l.sticks u following r);
  takes = λ u following t. takes_right (l.takes u following t);
}

lead_second : {p q inner : GamsPart} {ts between prefix rest : List KindedToken} {a : Derivation} {c : Derivation → Derivation} → Reads productions look_ahead p ts (read a between) → Leading q between prefix inner rest c → Leading (p · q) ts (yield a ++ prefix) inner rest (λ b. pair a (c b))
lead_second {p} {q} {ts = ts} {prefix = prefix} {a = a} r l = record {
  reads = λ b following s. both r (l.reads b following s);
  yields = λ b. ap (λ w. yield a ++ w) (l.yields b) ∙ sym (append_assoc (yield a) prefix (yield b));
  sticks = λ u following s. subst (λ (w : List KindedToken). Reads productions look_ahead (p · q) ts (stuck w following)) (sym (append_assoc (yield a) prefix u)) (second_stuck r (l.sticks u following s));
  takes = λ u following t. subst (λ (w : List KindedToken). Takes productions look_ahead (p · q) ts w following) (sym (append_assoc (yield a) prefix u)) (takes_second r (l.takes u following t));
}

lead_then : {p q inner : GamsPart} {ts between u v rest : List KindedToken} {c d : Derivation → Derivation} → Leading p ts u q between c → Leading q between v inner rest d → Leading p ts (u ++ v) inner rest (λ a. c (d a))
lead_then {p} {ts = ts} {u = u} {v = v} {d = d} l m = record {
  reads = λ a following r. l.reads (d a) following (m.reads a following r);
  yields = λ a. l.yields (d a) ∙ ap (λ w. u ++ w) (m.yields a) ∙ sym (append_assoc u v (yield a));
  sticks = λ x following s. subst (λ (w : List KindedToken). Reads productions look_ahead p ts (stuck w following)) (sym (append_assoc u v x)) (l.sticks (v ++ x) following (m.sticks x following s));
  takes = λ x following t. subst (λ (w : List KindedToken). Takes productions look_ahead p ts w following) (sym (append_assoc u v x)) (l.takes (v ++ x) following (m.takes x following t));
}

lead_same : {p inner : GamsPart} {ts rest u v : List KindedToken} {c : Derivation → Derivation} → u ≡ v → Leading p ts u inner rest c → Leading p ts v inner rest c
lead_same {p} {inner} {ts} {rest} {c = c} e l = subst (λ (w : List KindedToken). Leading p ts w inner rest c) e l

-- ---- which tokens lead where

name_led : (ts : List KindedToken) → leads productions look_ahead (name · opt (the Lag)) ts ≡ true → leads productions look_ahead (name · the AfterHeadName) ts ≡ true
name_led ts h = led_more (name · opt (the Lag)) (name · the AfterHeadName) ts refl refl refl h

lag_alike : (ts : List KindedToken) → leads productions look_ahead (the Lag) ts ≡ leads productions look_ahead (the Lag · the AfterLag) ts
lag_alike ts = leads_alike (the Lag) (the Lag · the AfterLag) ts refl refl (same_test _ _ refl)

comma_alike : (ts : List KindedToken) → leads productions look_ahead (token Comma · the Index) ts ≡ leads productions look_ahead (token Comma · the HeadIndices) ts
comma_alike ts = leads_alike (token Comma · the Index) (token Comma · the HeadIndices) ts refl refl (same_test _ _ refl)

abbrev suffixed_rest : GamsPart
suffixed_rest = the Attribute · opt (bracketed (the IndexList)) · the AfterTarget

abbrev plain_rest : GamsPart
plain_rest = token LeftParen · the HeadIndices ∣ the AfterHead

dotted_alike : (ts : List KindedToken) → leads productions look_ahead (the Attribute) ts ≡ leads productions look_ahead suffixed_rest ts
dotted_alike ts = leads_alike (the Attribute) suffixed_rest ts refl refl (same_test _ _ refl)

paren_alike : (ts : List KindedToken) → leads productions look_ahead (bracketed (the IndexList)) ts ≡ leads productions look_ahead (token LeftParen · the HeadIndices) ts
paren_alike ts = leads_alike (bracketed (the IndexList)) (token LeftParen · the HeadIndices) ts refl refl (same_test _ _ refl)

plain_led : (ts : List KindedToken) → leads productions look_ahead (bracketed (the IndexList)) ts ≡ true → leads productions look_ahead plain_rest ts ≡ true
plain_led ts h = led_more (bracketed (the IndexList)) plain_rest ts refl refl refl h

-- ---- an index

-- after a name without a lag
after_name : (ts : List KindedToken) → leads productions look_ahead (the Lag) ts ≡ false → Leading (the AfterHeadName) ts [] (the AfterHeadIndex) ts (λ b. node (head_lagless b))
after_name ts h = record {
  reads = λ a following r. entered (in_right (sym (lag_alike ts) ∙ h) (led r) r);
  yields = λ a. refl;
  sticks = λ u following r. entered_stuck (sticks_on r);
  takes = λ u following t. takes_the (takes_right t);
}
  where
    led : {a : Derivation} {following : List KindedToken} → Reads productions look_ahead (the AfterHeadIndex) ts (read a following) → leads productions look_ahead (the AfterHeadIndex) ts ≡ true
    led (entered (in_left k r)) = led_more (token Comma · the HeadIndices) (the AfterHeadIndex) ts refl refl refl k
    led (entered (in_right j k r)) = led_more (token RightParen · the AfterHead) (the AfterHeadIndex) ts refl refl refl k

    alike : leads productions look_ahead (the AfterHeadIndex) ts ≡ leads productions look_ahead (productions AfterHeadIndex) ts
    alike = leads_alike (the AfterHeadIndex) (productions AfterHeadIndex) ts refl refl (same_test _ _ refl)

    sticks_on : {u following : List KindedToken} → Reads productions look_ahead (the AfterHeadIndex) ts (stuck u following) → Reads productions look_ahead (productions AfterHeadName) ts (stuck u following)
    sticks_on (entered_stuck (in_left_stuck k r)) = in_right_stuck (sym (lag_alike ts) ∙ h) (led_more (token Comma · the HeadIndices) (the AfterHeadIndex) ts refl refl refl k) (entered_stuck (in_left_stuck k r))
    sticks_on (entered_stuck (in_right_stuck j k r)) = in_right_stuck (sym (lag_alike ts) ∙ h) (led_more (token RightParen · the AfterHead) (the AfterHeadIndex) ts refl refl refl k) (entered_stuck (in_right_stuck j k r))
    sticks_on (entered_stuck (in_neither j k)) = in_neither (sym (lag_alike ts) ∙ h) (alike ∙ unled_either (token Comma · the HeadIndices) (token RightParen · the AfterHead) ts j k)

-- an index without a lag: a comma and a further index, or the closing parenthesis, follow it
record PlainIndex (first : Derivation) (ts between : List KindedToken) : Type 0 where
  wrap : Derivation → Derivation
  leading : Leading (the HeadIndices) ts (yield first) (the AfterHeadIndex) between wrap
  act_on : (source : List ℕ) (s : Sense) (target : TargetTree Number) (comma t : Derivation) → act_of_head source s.names s.labels target (wrap (node (head_comma (pair comma t)))) ≡ act_of_head source s.names s.labels target t
  act_closed : (source : List ℕ) (s : Sense) (target : TargetTree Number) (closing t : Derivation) → act_of_head source s.names s.labels target (wrap (node (head_closed (pair closing t)))) ≡ after_head source s.names s.labels target t
  indices_on : (source : List ℕ) (s : Sense) (comma t : Derivation) → head_indices source s.names s.labels (wrap (node (head_comma (pair comma t)))) ≡ index source s.names s.labels first (head_indices source s.names s.labels t)
  indices_closed : (source : List ℕ) (s : Sense) (closing t : Derivation) → head_indices source s.names s.labels (wrap (node (head_closed (pair closing t)))) ≡ index source s.names s.labels first no_index
  lagless : (source : List ℕ) (s : Sense) (rest : Indices Number) → has_lag (index source s.names s.labels first rest) ≡ has_lag rest

-- an index with a lag, after which an assignment continues
record LaggedIndex (first : Derivation) (ts between : List KindedToken) : Type 0 where
  wrap : Derivation → Derivation
  leading : Leading (the HeadIndices) ts (yield first) (the AfterLag) between wrap
  act_is : (source : List ℕ) (s : Sense) (target : TargetTree Number) (others closing t : Derivation) → act_of_head source s.names s.labels target (wrap (node (pair others (pair closing t)))) ≡ after_target source s.names s.labels target t
  indices_are : (source : List ℕ) (s : Sense) (others t : Derivation) → head_indices source s.names s.labels (wrap (node (pair others t))) ≡ index source s.names s.labels first (more_indices source s.names s.labels others)
  lagged : (source : List ℕ) (s : Sense) (rest : Indices Number) → has_lag (index source s.names s.labels first rest) ≡ true

index_goes : {ts between : List KindedToken} {first : Derivation} → Reads productions look_ahead (the Index) ts (read first between) → PlainIndex first ts between ⊎ LaggedIndex first ts between
index_goes {ts} (entered (in_left h (taken {token = t} k))) = inl (record {
  wrap = λ b. node (head_label (pair (leaf t) b));
  leading = lead_the HeadIndices (lead_left (led_first (is Text) (the AfterHeadIndex) ts h) (lead_second (taken k) lead_here));
  act_on = λ source s target comma b. refl;
  act_closed = λ source s target closing b. refl;
  indices_on = λ source s comma b. refl;
  indices_closed = λ source s closing b. refl;
  lagless = λ source s rest. refl;
})
index_goes {ts} {between} (entered (in_right h k (both {a = w} r (left_out l)))) = inl (record {
  wrap = λ b. node (head_set (pair w (node (head_lagless b))));
  leading = lead_the HeadIndices (lead_right (unled_next (is Text) (the AfterHeadIndex) ts h) (name_led ts k) (lead_second r (after_name between l)));
  act_on = λ source s target comma b. refl;
  act_closed = λ source s target closing b. refl;
  indices_on = λ source s comma b. refl;
  indices_closed = λ source s closing b. refl;
  lagless = λ source s rest. refl;
})
index_goes {ts} (entered (in_right h k (both {between = us} {a = w} r (there l (entered (both {a = sign} {b = amount} p q)))))) = inr (record {
  wrap = λ b. node (head_set (pair w (node (head_lag (pair (node (pair sign amount)) b)))));
  leading = lead_same (ap (λ v. yield w ++ v) (end_nil (yield sign ++ yield amount)))
      (lead_the HeadIndices (lead_right (unled_next (is Text) (the AfterHeadIndex) ts h) (name_led ts k) (lead_second r (lead_the AfterHeadName (lead_left (sym (lag_alike us) ∙ l) (lead_second (entered (both p q)) lead_here))))));
  act_is = λ source s target others closing b. refl;
  indices_are = λ source s others b. refl;
  lagged = λ source s rest. refl;
})

-- ---- indices

-- indices of which none has a lag, where no further one follows
record PlainList (first others : Derivation) (ts rest : List KindedToken) : Type 0 where
  wrap : Derivation → Derivation
  leading : Leading (the HeadIndices) ts (yield first ++ yield others) (the AfterHeadIndex) rest wrap
  over : leads productions look_ahead (token Comma · the Index) rest ≡ false
  act_closed : (source : List ℕ) (s : Sense) (target : TargetTree Number) (closing t : Derivation) → act_of_head source s.names s.labels target (wrap (node (head_closed (pair closing t)))) ≡ after_head source s.names s.labels target t
  indices_are : (source : List ℕ) (s : Sense) (closing t : Derivation) → head_indices source s.names s.labels (wrap (node (head_closed (pair closing t)))) ≡ index source s.names s.labels first (more_indices source s.names s.labels others)
  lagless : (source : List ℕ) (s : Sense) → has_lag (index source s.names s.labels first (more_indices source s.names s.labels others)) ≡ false

-- indices of which some has a lag
record LaggedList (first others : Derivation) (ts rest : List KindedToken) : Type 0 where
  wrap : Derivation → Derivation
  leading : Leading (the HeadIndices) ts (yield first ++ yield others) (token RightParen · the AfterTarget) rest wrap
  act_closed : (source : List ℕ) (s : Sense) (target : TargetTree Number) (closing t : Derivation) → act_of_head source s.names s.labels target (wrap (pair closing t)) ≡ after_target source s.names s.labels target t
  indices_are : (source : List ℕ) (s : Sense) (t : Derivation) → head_indices source s.names s.labels (wrap t) ≡ index source s.names s.labels first (more_indices source s.names s.labels others)
  lagged : (source : List ℕ) (s : Sense) → has_lag (index source s.names s.labels first (more_indices source s.names s.labels others)) ≡ true

-- others are listed after an index with a lag
lag_goes : {ts between rest : List KindedToken} (first others : Derivation) → LaggedIndex first ts between → Reads productions look_ahead (many (token Comma · the Index)) between (read others rest) → LaggedList first others ts rest
lag_goes first others l m = record {
  wrap = λ b. l.wrap (node (pair others b));
  leading = lead_same (ap (λ v. yield first ++ v) (end_nil (yield others))) (lead_then l.leading (lead_the AfterLag (lead_second m lead_here)));
  act_closed = λ source s target closing b. l.act_is source s target others closing b;
  indices_are = λ source s b. l.indices_are source s others b;
  lagged = λ source s. l.lagged source s (more_indices source s.names s.labels others);
}

-- one more index before others
before_plain : {ts between us rest : List KindedToken} {comma : KindedToken} (first second others : Derivation) → PlainIndex first ts between → leads productions look_ahead (token Comma · the Index) between ≡ true → Reads productions look_ahead (token Comma) between (read (leaf comma) us) →
    PlainList second others us rest → PlainList first (more (pair (leaf comma) second) others) ts rest
before_plain {between = between} {comma = comma} first second others p h c l = record {
  wrap = λ b. p.wrap (node (head_comma (pair (leaf comma) (l.wrap b))));
  leading = lead_then p.leading (lead_the AfterHeadIndex (lead_left (sym (comma_alike between) ∙ h) (lead_second c l.leading)));
  over = l.over;
  act_closed = λ source s target closing b. p.act_on source s target (leaf comma) (l.wrap (node (head_closed (pair closing b)))) ∙ l.act_closed source s target closing b;
  indices_are = λ source s closing b. p.indices_on source s (leaf comma) (l.wrap (node (head_closed (pair closing b)))) ∙ ap (index source s.names s.labels first) (l.indices_are source s closing b);
  lagless = λ source s. p.lagless source s (index source s.names s.labels second (more_indices source s.names s.labels others)) ∙ l.lagless source s;
}

before_lagged : {ts between us rest : List KindedToken} {comma : KindedToken} (first second others : Derivation) → PlainIndex first ts between → leads productions look_ahead (token Comma · the Index) between ≡ true → Reads productions look_ahead (token Comma) between (read (leaf comma) us) →
    LaggedList second others us rest → LaggedList first (more (pair (leaf comma) second) others) ts rest
before_lagged {between = between} {comma = comma} first second others p h c l = record {
  wrap = λ b. p.wrap (node (head_comma (pair (leaf comma) (l.wrap b))));
  leading = lead_then p.leading (lead_the AfterHeadIndex (lead_left (sym (comma_alike between) ∙ h) (lead_second c l.leading)));
  act_closed = λ source s target closing b. p.act_on source s target (leaf comma) (l.wrap (pair closing b)) ∙ l.act_closed source s target closing b;
  indices_are = λ source s b. p.indices_on source s (leaf comma) (l.wrap b) ∙ ap (index source s.names s.labels first) (l.indices_are source s b);
  lagged = λ source s. p.lagless source s (index source s.names s.labels second (more_indices source s.names s.labels others)) ∙ l.lagged source s;
}

last_plain : {ts rest : List KindedToken} (first : Derivation) → PlainIndex first ts rest → leads productions look_ahead (token Comma · the Index) rest ≡ false → PlainList first none ts rest
last_plain first p h = record {
  wrap = p.wrap;
  leading = lead_same (sym (end_nil (yield first))) p.leading;
  over = h;
  act_closed = p.act_closed;
  indices_are = p.indices_closed;
  lagless = λ source s. p.lagless source s no_index;
}

list_goes : {ts between rest : List KindedToken} {first others : Derivation} → Reads productions look_ahead (the Index) ts (read first between) → Reads productions look_ahead (many (token Comma · the Index)) between (read others rest) → PlainList first others ts rest ⊎ LaggedList first others ts rest
list_goes {first = first} r (no_more h) = elim (index_goes r) [
  | inl p ↦ inl (last_plain first p h)
  | inr l ↦ inr (lag_goes first none l (no_more h))
]
list_goes {first = first} r (again {b = others} h (both {b = second} (taken k) s) m) = elim (index_goes r) [
  | inl p ↦ elim (list_goes s m) [ inl l ↦ inl (before_plain first second others p h (taken k) l) | inr l ↦ inr (before_lagged first second others p h (taken k) l) ]
  | inr l ↦ inr (lag_goes first _ l (again h (both (taken k) s) m))
]

-- ---- where indices are not read to their end

index_stuck : {ts u following : List KindedToken} → Reads productions look_ahead (the Index) ts (stuck u following) → Reads productions look_ahead (the HeadIndices) ts (stuck u following)
index_stuck {ts} (entered_stuck (in_left_stuck h (refused k))) = absurd (both_ways _ h k)
index_stuck {ts} (entered_stuck (in_right_stuck h k (first_stuck (refused l)))) = absurd (both_ways _ k (unled_next (is_terminal_among (Name ∷ SuffixWord ∷ [])) (opt (the Lag)) ts l))
index_stuck {ts} (entered_stuck (in_right_stuck h k (second_stuck {between = us} r (there_stuck l s)))) =
    entered_stuck (in_right_stuck (unled_next (is Text) (the AfterHeadIndex) ts h) (name_led ts k) (second_stuck r (entered_stuck (in_left_stuck (sym (lag_alike us) ∙ l) (first_stuck s)))))
index_stuck {ts} (entered_stuck (in_neither h k)) =
    entered_stuck (in_neither (unled_next (is Text) (the AfterHeadIndex) ts h) (unled_less (name · the AfterHeadName) (name · opt (the Lag)) ts refl refl refl k))

index_taken : {ts u following : List KindedToken} → Takes productions look_ahead (the Index) ts u following → Takes productions look_ahead (the HeadIndices) ts u following
index_taken (takes_the (takes_left (takes_one h))) = takes_the (takes_left (takes_first (takes_one h)))
index_taken (takes_the (takes_right (takes_first (takes_one h)))) = takes_the (takes_right (takes_first (takes_one h)))
index_taken (takes_the (takes_right (takes_second r (takes_opt t)))) = takes_the (takes_right (takes_second r (takes_the (takes_left (takes_first t)))))

-- after an index: either form continues
stuck_after : {ts between u following : List KindedToken} {first : Derivation} → Reads productions look_ahead (the Index) ts (read first between) → Reads productions look_ahead (the AfterHeadIndex) between (stuck u following) → Reads productions look_ahead (many (token Comma · the Index)) between (stuck u following) →
    Reads productions look_ahead (the HeadIndices) ts (stuck (yield first ++ u) following)
stuck_after {u = u} {following = following} r a m = elim (index_goes r) [ inl p ↦ p.leading.sticks u following a | inr l ↦ l.leading.sticks u following (entered_stuck (first_stuck m)) ]

taken_after : {ts between u following : List KindedToken} {first : Derivation} → Reads productions look_ahead (the Index) ts (read first between) → Takes productions look_ahead (the AfterHeadIndex) between u following → Takes productions look_ahead (many (token Comma · the Index)) between u following →
    Takes productions look_ahead (the HeadIndices) ts (yield first ++ u) following
taken_after {u = u} {following = following} r a m = elim (index_goes r) [ inl p ↦ p.leading.takes u following a | inr l ↦ l.leading.takes u following (takes_the (takes_first m)) ]

others_stuck : {ts between u following : List KindedToken} {first : Derivation} → Reads productions look_ahead (the Index) ts (read first between) → Reads productions look_ahead (many (token Comma · the Index)) between (stuck u following) → Reads productions look_ahead (the HeadIndices) ts (stuck (yield first ++ u) following)
others_stuck {between = between} r (again_stuck h (first_stuck (refused k))) = absurd (both_ways _ h (unled_next (is Comma) (the Index) between k))
others_stuck {between = between} r (again_stuck h (second_stuck c s)) = stuck_after r (entered_stuck (in_left_stuck (sym (comma_alike between) ∙ h) (second_stuck c (index_stuck s)))) (again_stuck h (second_stuck c s))
others_stuck {between = between} r (later_stuck h (both (taken k) s) m) = stuck_after r (entered_stuck (in_left_stuck (sym (comma_alike between) ∙ h) (second_stuck (taken k) (others_stuck s m)))) (later_stuck h (both (taken k) s) m)

others_taken : {ts between u following : List KindedToken} {first : Derivation} → Reads productions look_ahead (the Index) ts (read first between) → Takes productions look_ahead (many (token Comma · the Index)) between u following → Takes productions look_ahead (the HeadIndices) ts (yield first ++ u) following
others_taken r (takes_many (takes_first (takes_one h))) = taken_after r (takes_the (takes_left (takes_first (takes_one h)))) (takes_many (takes_first (takes_one h)))
others_taken r (takes_many (takes_second c t)) = taken_after r (takes_the (takes_left (takes_second c (index_taken t)))) (takes_many (takes_second c t))
others_taken r (takes_later (both (taken k) s) t) = taken_after r (takes_the (takes_left (takes_second (taken k) (others_taken s t)))) (takes_later (both (taken k) s) t)

list_stuck : {ts u following : List KindedToken} → Reads productions look_ahead (the IndexList) ts (stuck u following) → Reads productions look_ahead (the HeadIndices) ts (stuck u following)
list_stuck (entered_stuck (first_stuck r)) = index_stuck r
list_stuck (entered_stuck (second_stuck r m)) = others_stuck r m

list_taken : {ts u following : List KindedToken} → Takes productions look_ahead (the IndexList) ts u following → Takes productions look_ahead (the HeadIndices) ts u following
list_taken (takes_the (takes_first t)) = index_taken t
list_taken (takes_the (takes_second r t)) = others_taken r t

-- no parenthesis closes them
unclosed : {ts rest : List KindedToken} {list : Derivation} → Reads productions look_ahead (the IndexList) ts (read list rest) → leads productions look_ahead (token RightParen) rest ≡ false → Reads productions look_ahead (the HeadIndices) ts (stuck (yield list ++ []) rest)
unclosed {rest = rest} (entered (both r m)) h = elim (list_goes r m) [
  | inl p ↦ p.leading.sticks [] rest (entered_stuck (in_neither (sym (comma_alike rest) ∙ p.over) (unled_next (is RightParen) (the AfterHead) rest h)))
  | inr l ↦ l.leading.sticks [] rest (first_stuck (refused h))
]

closed_taken : {ts rest u following : List KindedToken} {list : Derivation} → Reads productions look_ahead (the IndexList) ts (read list rest) → Takes productions look_ahead (token RightParen) rest u following → Takes productions look_ahead (the HeadIndices) ts (yield list ++ u) following
closed_taken {u = u} {following = following} (entered (both r m)) t = elim (list_goes r m) [
  | inl p ↦ p.leading.takes u following (takes_the (takes_right (takes_first t)))
  | inr l ↦ l.leading.takes u following (takes_first t)
]

-- ---- what is assigned or defined

pub target_stuck : {ts u following : List KindedToken} → Reads productions look_ahead (the Target) ts (stuck u following) → Reads productions look_ahead (the NamedStatement) ts (stuck u following)
target_stuck (entered_stuck (first_stuck r)) = entered_stuck (first_stuck r)
target_stuck (entered_stuck (second_stuck {between = us} r (first_stuck (there_stuck h s)))) = entered_stuck (second_stuck r (entered_stuck (in_left_stuck (sym (dotted_alike us) ∙ h) (first_stuck s))))
target_stuck (entered_stuck (second_stuck {between = us} r (second_stuck (there h s) m))) = entered_stuck (second_stuck r (entered_stuck (in_left_stuck (sym (dotted_alike us) ∙ h) (second_stuck s (first_stuck m)))))
target_stuck (entered_stuck (second_stuck {between = us} r (second_stuck (left_out h) (there_stuck k (first_stuck (refused l)))))) = absurd (both_ways _ k (unled_next (is LeftParen) (the IndexList · token RightParen) us l))
target_stuck (entered_stuck (second_stuck {between = us} r (second_stuck (left_out h) (there_stuck k (second_stuck (taken l) (first_stuck m)))))) =
    entered_stuck (second_stuck r (entered_stuck (in_right_stuck (sym (dotted_alike us) ∙ h) (plain_led us k) (in_left_stuck (sym (paren_alike us) ∙ k) (second_stuck (taken l) (list_stuck m))))))
target_stuck (entered_stuck (second_stuck {between = us} r (second_stuck (left_out h) (there_stuck k (second_stuck (taken l) (second_stuck m (refused j))))))) =
    entered_stuck (second_stuck r (entered_stuck (in_right_stuck (sym (dotted_alike us) ∙ h) (plain_led us k) (in_left_stuck (sym (paren_alike us) ∙ k) (second_stuck (taken l) (unclosed m j))))))

pub target_taken : {ts u following : List KindedToken} → Takes productions look_ahead (the Target) ts u following → Takes productions look_ahead (the NamedStatement) ts u following
target_taken (takes_the (takes_first t)) = takes_the (takes_first t)
target_taken (takes_the (takes_second r (takes_first (takes_opt t)))) = takes_the (takes_second r (takes_the (takes_left (takes_first t))))
target_taken (takes_the (takes_second r (takes_second (there h s) t))) = takes_the (takes_second r (takes_the (takes_left (takes_second s (takes_first t)))))
target_taken (takes_the (takes_second r (takes_second (left_out h) (takes_opt (takes_first t))))) = takes_the (takes_second r (takes_the (takes_right (takes_left (takes_first t)))))
target_taken (takes_the (takes_second r (takes_second (left_out h) (takes_opt (takes_second s (takes_first t)))))) = takes_the (takes_second r (takes_the (takes_right (takes_left (takes_second s (list_taken t))))))
target_taken (takes_the (takes_second r (takes_second (left_out h) (takes_opt (takes_second s (takes_second m t)))))) = takes_the (takes_second r (takes_the (takes_right (takes_left (takes_second s (closed_taken m t))))))

-- the statement continues as an assignment or a definition: the target has no suffix and no lag
pub record Headed (tree : Derivation) (ts rest : List KindedToken) : Type 0 where
  pub wrap : Derivation → Derivation
  pub leading : Leading (the NamedStatement) ts (yield tree) (the AfterHead) rest wrap
  pub acts : (source : List ℕ) (s : Sense) (b : Derivation) → named_act source s.names s.labels (wrap b) ≡ after_head source s.names s.labels (target_in source s.names s.labels tree) b
  pub plain : (source : List ℕ) (s : Sense) → is_plain_target (target_in source s.names s.labels tree) ≡ true

-- it continues as an assignment
pub record Aimed (tree : Derivation) (ts rest : List KindedToken) : Type 0 where
  pub wrap : Derivation → Derivation
  pub leading : Leading (the NamedStatement) ts (yield tree) (the AfterTarget) rest wrap
  pub acts : (source : List ℕ) (s : Sense) (b : Derivation) → named_act source s.names s.labels (wrap b) ≡ after_target source s.names s.labels (target_in source s.names s.labels tree) b
  pub other : (source : List ℕ) (s : Sense) → is_plain_target (target_in source s.names s.labels tree) ≡ false

either_suffixed : (c : Bool) (a b : Suffix) → is_unsuffixed a ≡ false → is_unsuffixed b ≡ false → is_unsuffixed (cond c a b) ≡ false
either_suffixed true a b h k = h
either_suffixed false a b h k = k

-- a word after a dot is a suffix
suffixed : (text : List ℕ) → is_unsuffixed (suffix_of text) ≡ false
unfolding suffix_of
suffixed text =
    either_suffixed (is_word text (codes "lo")) _ _ refl (either_suffixed (is_word text (codes "up")) _ _ refl (either_suffixed (is_word text (codes "l")) _ _ refl (either_suffixed (is_word text (codes "m")) _ _ refl (either_suffixed (is_word text (codes "fx")) _ _ refl (either_suffixed (is_word text (codes "modelstat")) _ _ refl refl)))))

-- and so has a reference that continues with one
attributed : {ts rest : List KindedToken} {attribute : Derivation} → Reads productions look_ahead (the Attribute) ts (read attribute rest) → (source : List ℕ) (s : Sense) → is_unsuffixed (suffix_in source s.names s.labels (some attribute)) ≡ false
attributed (entered (both {b = word} p q)) source s = suffixed (token_text source (token_of word))

abbrev unconditioned : GamsPart
unconditioned = the Condition ∣ token Equals · the Expression ∣ token DotDot · the Sides

-- neither a suffix nor indices
bare : (ts : List KindedToken) → leads productions look_ahead (the Attribute) ts ≡ false → leads productions look_ahead (bracketed (the IndexList)) ts ≡ false → Leading (the AfterName) ts [] (the AfterHead) ts (λ b. node (name_alone b))
bare ts h k = record {
  reads = λ a following r. entered (in_right (sym (dotted_alike ts) ∙ h) (led_more (the AfterHead) plain_rest ts refl refl refl (led r)) (in_right (sym (paren_alike ts) ∙ k) (led r) r));
  yields = λ a. refl;
  sticks = λ u following r. sticks_on r;
  takes = λ u following t. takes_the (takes_right (takes_right t));
}
  where
    led : {a : Derivation} {following : List KindedToken} → Reads productions look_ahead (the AfterHead) ts (read a following) → leads productions look_ahead (the AfterHead) ts ≡ true
    led (entered (both (there l r) s)) = led_more (the Condition) (the AfterHead) ts refl refl refl l
    led (entered (both (left_out l) (in_left j s))) = led_more (token Equals · the Expression) (the AfterHead) ts refl refl refl j
    led (entered (both (left_out l) (in_right i j s))) = led_more (token DotDot · the Sides) (the AfterHead) ts refl refl refl j

    sticks_led : {u following : List KindedToken} → leads productions look_ahead (the AfterHead) ts ≡ true → Reads productions look_ahead (the AfterHead) ts (stuck u following) → Reads productions look_ahead (the AfterName) ts (stuck u following)
    sticks_led l r = entered_stuck (in_right_stuck (sym (dotted_alike ts) ∙ h) (led_more (the AfterHead) plain_rest ts refl refl refl l) (in_right_stuck (sym (paren_alike ts) ∙ k) l r))

    alike : leads productions look_ahead plain_rest ts ≡ leads productions look_ahead (token LeftParen · the HeadIndices ∣ unconditioned) ts
    alike = leads_alike plain_rest (token LeftParen · the HeadIndices ∣ unconditioned) ts refl refl (same_test _ _ refl)

    sticks_on : {u following : List KindedToken} → Reads productions look_ahead (the AfterHead) ts (stuck u following) → Reads productions look_ahead (the AfterName) ts (stuck u following)
    sticks_on (entered_stuck (first_stuck (there_stuck l r))) = sticks_led (led_more (the Condition) (the AfterHead) ts refl refl refl l) (entered_stuck (first_stuck (there_stuck l r)))
    sticks_on (entered_stuck (second_stuck (there l r) s)) = sticks_led (led_more (the Condition) (the AfterHead) ts refl refl refl l) (entered_stuck (second_stuck (there l r) s))
    sticks_on (entered_stuck (second_stuck (left_out l) (in_left_stuck j s))) = sticks_led (led_more (token Equals · the Expression) (the AfterHead) ts refl refl refl j) (entered_stuck (second_stuck (left_out l) (in_left_stuck j s)))
    sticks_on (entered_stuck (second_stuck (left_out l) (in_right_stuck i j s))) = sticks_led (led_more (token DotDot · the Sides) (the AfterHead) ts refl refl refl j) (entered_stuck (second_stuck (left_out l) (in_right_stuck i j s)))
    sticks_on (entered_stuck (second_stuck (left_out l) (in_neither i j))) =
        let neither = unled_either (the Condition) (token Equals · the Expression ∣ token DotDot · the Sides) ts l (unled_either (token Equals · the Expression) (token DotDot · the Sides) ts i j) in
        entered_stuck (in_neither (sym (dotted_alike ts) ∙ h) (alike ∙ unled_either (token LeftParen · the HeadIndices) unconditioned ts (sym (paren_alike ts) ∙ k) neither))

-- indices in parentheses
headed : {ts us vs rest : List KindedToken} {opening closing : KindedToken} (word first others : Derivation) → Reads productions look_ahead name ts (read word us) → leads productions look_ahead (the Attribute) us ≡ false → leads productions look_ahead (bracketed (the IndexList)) us ≡ true →
    Reads productions look_ahead (token LeftParen) us (read (leaf opening) vs) → is RightParen closing.0 ≡ true → PlainList first others vs (closing ∷ rest) → Headed (node (pair word (pair none (some (pair (leaf opening) (pair (node (pair first others)) (leaf closing))))))) ts rest
headed {us = us} {rest = rest} {opening = opening} {closing = closing} word first others r h k o c l = record {
  wrap = λ b. node (pair word (node (name_indexed (pair (leaf opening) (l.wrap (node (head_closed (pair (leaf closing) b))))))));
  leading = lead_the NamedStatement (lead_second r (lead_the AfterName (lead_right (sym (dotted_alike us) ∙ h) (plain_led us k) (lead_left (sym (paren_alike us) ∙ k) (lead_second o (lead_then l.leading
      (lead_the AfterHeadIndex (lead_right (sym (comma_alike (closing ∷ rest)) ∙ l.over) (led_first (is RightParen) (the AfterHead) (closing ∷ rest) c) (lead_second (taken c) lead_here)))))))));
  acts = λ source s b.
      let inner = l.wrap (node (head_closed (pair (leaf closing) b))) in
      l.act_closed source s (target_at source s.names s.labels word suffix.None (head_indices source s.names s.labels inner)) (leaf closing) b
      ∙ ap (λ is. after_head source s.names s.labels (target_at source s.names s.labels word suffix.None is) b) (l.indices_are source s (leaf closing) b);
  plain = λ source s. ap not (l.lagless source s);
}

aimed : {ts us vs rest : List KindedToken} {opening closing : KindedToken} (word first others : Derivation) → Reads productions look_ahead name ts (read word us) → leads productions look_ahead (the Attribute) us ≡ false → leads productions look_ahead (bracketed (the IndexList)) us ≡ true →
    Reads productions look_ahead (token LeftParen) us (read (leaf opening) vs) → is RightParen closing.0 ≡ true → LaggedList first others vs (closing ∷ rest) → Aimed (node (pair word (pair none (some (pair (leaf opening) (pair (node (pair first others)) (leaf closing))))))) ts rest
aimed {us = us} {rest = rest} {opening = opening} {closing = closing} word first others r h k o c l = record {
  wrap = λ b. node (pair word (node (name_indexed (pair (leaf opening) (l.wrap (pair (leaf closing) b))))));
  leading = lead_the NamedStatement (lead_second r (lead_the AfterName (lead_right (sym (dotted_alike us) ∙ h) (plain_led us k) (lead_left (sym (paren_alike us) ∙ k) (lead_second o (lead_then l.leading (lead_second (taken c) lead_here)))))));
  acts = λ source s b.
      let inner = l.wrap (pair (leaf closing) b) in
      l.act_closed source s (target_at source s.names s.labels word suffix.None (head_indices source s.names s.labels inner)) (leaf closing) b
      ∙ ap (λ is. after_target source s.names s.labels (target_at source s.names s.labels word suffix.None is) b) (l.indices_are source s (pair (leaf closing) b));
  other = λ source s. ap not (l.lagged source s);
}

dotted : {ts us vs rest : List KindedToken} (word attribute indices : Derivation) → Reads productions look_ahead name ts (read word us) → leads productions look_ahead (the Attribute) us ≡ true → Reads productions look_ahead (the Attribute) us (read attribute vs) → Reads productions look_ahead (opt (bracketed (the IndexList))) vs (read indices rest) →
    Aimed (node (pair word (pair (some attribute) indices))) ts rest
dotted {us = us} word attribute indices r h a m = record {
  wrap = λ b. node (pair word (node (name_suffixed (pair attribute (pair indices b)))));
  leading = lead_same (ap (λ v. yield word ++ (yield attribute ++ v)) (end_nil (yield indices))) (lead_the NamedStatement (lead_second r (lead_the AfterName (lead_left (sym (dotted_alike us) ∙ h) (lead_second a (lead_second m lead_here))))));
  acts = λ source s b. refl;
  other = λ source s. and_first _ _ (attributed a source s);
}

pub target_goes : {ts rest : List KindedToken} {tree : Derivation} → Reads productions look_ahead (the Target) ts (read tree rest) → Headed tree ts rest ⊎ Aimed tree ts rest
target_goes (entered (both {a = word} r (both (there {tree = attribute} h a) m))) = inr (dotted word attribute _ r h a m)
target_goes (entered (both {between = us} {a = word} r (both (left_out h) (left_out k)))) = inl (record {
  wrap = λ b. node (pair word (node (name_alone b)));
  leading = lead_the NamedStatement (lead_second r (bare us h k));
  acts = λ source s b. refl;
  plain = λ source s. refl;
})
target_goes (entered (both {a = word} r (both (left_out h) (there k (both (taken o) (both (entered (both {a = first} {b = others} i m)) (taken c))))))) = elim (list_goes i m) [
  | inl l ↦ inl (headed word first others r h k (taken o) c l)
  | inr l ↦ inr (aimed word first others r h k (taken o) c l)
]
