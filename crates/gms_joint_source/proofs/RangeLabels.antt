-- Each range of labels in a derivation of a program has members that the traversal of its tokens
-- enters, and each table of a program has items. So they mean the same if more labels were entered
-- after them.
use Rattle.std.proofs.lemmas.Bool.{and_parts}
use Rattle.std.proofs.Common.{◌≡◌, ◌≢◌, ℕ, Bool, true, false, ◌&&◌, ◌||◌, if◌then◌else◌, List, [], ◌∷◌, ◌++◌, map, reverse, All, Option, Some, None, is_some, IsSome, refl, sym, ap, ap₂, ◌∙◌, subst, append_assoc}
use Rattle.std.proofs.lemmas.List.Elements.{All-nil, All-cons}
use Rattle.gq_number.specs.Number.{Number as Rational}
use Rattle.gms_labels.specs.Labels.{place_of, entered}
use Rattle.gms_labels.proofs.Places.{place_of-entered}
use Rattle.gms_lex.specs.declared.token.Token.{Token}
use Rattle.gms_lex.specs.TokenTexts.{token_text, unquoted}
use Rattle.gms_grammar.specs.declared.terminal.Terminal.{Terminal}
use Rattle.gms_grammar.specs.declared.terminal.Terminal.TheVariants as terminal
use Rattle.gms_grammar.specs.Terminals.{is}
use Rattle.gms_grammar.specs.Grammar.{the, ◌·◌, many, leaf, pair, none, some, more, node, yield}
use Rattle.gms_grammar.specs.Reading.{read, leads, Reads, taken, entered as entered_by, both, left_out, there, no_more, again}
use Rattle.gms_grammar.specs.GamsGrammar.{Nonterminal, Expression, Program, SetList, Element, ElementPart, Range, RangeList, Value, TableStatement, productions, token}
use Rattle.gms_grammar.specs.GamsLookAhead.{look_ahead}
use Rattle.gms_grammar.proofs.Basics.{and_both}
use Rattle.gms_grammar.proofs.Checks.{right_and}
use Rattle.gms_grammar.proofs.Sound.{sound}
use Rattle.gms_set.specs.Ranges.{is_range, members}
use Rattle.gms_table.specs.declared.entry.Entry.{Entry}
use Rattle.gms_table.specs.Words.{Word, words_of}
use Rattle.gms_table.specs.WordLabels.{all_entered}
use Rattle.gms_table.specs.TableEntries.{AreEntries, table_of}
use Rattle.gms_table.proofs.LabelLemmas.{Stay-all_entered}
use Rattle.gms_expressions.specs.ExpressionTrees.{or_0}
use Rattle.gms_parse.specs.DataLists.{range_labels, number_of_label}
use Rattle.gms_parse.specs.Outcomes.{IsTableOf, HaveItems}
use Rattle.gms_parse.specs.Tables.{parts_of_tokens, item_of_entry, entries_in, items_given}
use Rattle.gms_parse.specs.ReadStates.{KindedToken, ReaderState, last_kind, is_index, range_start, range_texts, list_labels, new_labels, reader_after, kind_of, start}
use Rattle.gms_parse.specs.InnerReadings.{Derivation, GamsPart}
use Rattle.gms_parse.proofs.TableItems.{items_only}
use Rattle.gms_parse.proofs.TokenKinds.{same_kind}
use Rattle.gms_joint_source.proofs.StatePrefixes.{AreAlike}
use Rattle.gms_joint_source.proofs.IndexTexts.{kept, stays}
use Rattle.gms_joint_source.proofs.Kin.{Alike}
use Rattle.gms_joint_source.proofs.Throughouts.{Throughout, Occurs, occurs_on, is_right, passed}

-- ---- what the last tokens are

-- after a label, after a label and a `*`, or after other tokens
pub data Mark : Type 0 where
  clear labelled starred : Mark

abbrev is_clear : Mark → Bool
is_clear clear = true
is_clear _ = false

abbrev is_unstarred : Mark → Bool
is_unstarred starred = false
is_unstarred _ = true

abbrev each : (Mark → Bool) → Bool
each f = f clear && (f labelled && f starred)

each_is : (f : Mark → Bool) → each f ≡ true → (m : Mark) → f m ≡ true
each_is f h clear = (and_parts (f clear) _ h).0
each_is f h labelled = (and_parts (f labelled) _ (right_and (f clear) _ h)).0
each_is f h starred = right_and (f labelled) _ (right_and (f clear) _ h)

abbrev is_labelled : Mark → Bool
is_labelled labelled = true
is_labelled _ = false

abbrev next : Mark → Terminal → Mark
next mark kind = if is terminal.Label kind then labelled else (if is_labelled mark && is terminal.Star kind then starred else clear)

abbrev allowed : (Terminal → Bool) → Mark → Bool
allowed test mark = true

-- no range begins with the last tokens
abbrev Starts : Mark → List KindedToken → Type 0
Starts clear before = (range_start before ≡ None) × (is terminal.Label (last_kind before) ≡ false)
Starts labelled before = range_start before ≡ None
Starts starred before = is terminal.Label (last_kind before) ≡ false

abbrev Has : Mark → ReaderState → Type 0
Has mark w = Starts mark w.before

-- a token that is no `*` begins no range
no_star : (t : KindedToken) (before : List KindedToken) → is terminal.Star t.0 ≡ false → range_start (t ∷ before) ≡ None
no_star t [] h = refl
no_star t (u ∷ before) h = ap (λ b. if b && is terminal.Label u.0 then Some u.1 else None) h

-- nor does one after a token that is no label
no_label : (t : KindedToken) (before : List KindedToken) → is terminal.Label (last_kind before) ≡ false → range_start (t ∷ before) ≡ None
no_label t [] h = refl
no_label t (u ∷ before) h = ap (λ b. if is terminal.Star t.0 && b then Some u.1 else None) h ∙ by (is terminal.Star t.0)
  where
    by : (b : Bool) → ◌≡◌ {A = Option Token} (if b && false then Some u.1 else None) None
    by true = refl
    by false = refl

unlabelled : (mark : Mark) (star : Bool) (t : KindedToken) (before : List KindedToken) → is terminal.Star t.0 ≡ star → is terminal.Label t.0 ≡ false → Starts mark before → Starts (if is_labelled mark && star then starred else clear) (t ∷ before)
unlabelled clear star t before e f h = (no_label t before h.1, f)
unlabelled labelled true t before e f h = f
unlabelled labelled false t before e f h = (no_star t before e, f)
unlabelled starred star t before e f h = (no_label t before h, f)

step : (first : List ℕ) (mark : Mark) (w : ReaderState) (t : KindedToken) (ahead : Terminal) → Has mark w → Has (next mark t.0) (reader_after first w t ahead)
step first mark w t ahead h = by (is terminal.Label t.0) refl
  where
    by : (b : Bool) → is terminal.Label t.0 ≡ b → Starts (if b then labelled else (if is_labelled mark && is terminal.Star t.0 then starred else clear)) (t ∷ w.before)
    by true e = no_star t w.before (ap (is terminal.Star) (sym (same_kind terminal.Label t.0 e)))
    by false e = unlabelled mark (is terminal.Star t.0) t w.before refl e h

-- ---- the claims

abbrev entry : Nonterminal → Mark → Bool
entry Value mark = is_unstarred mark
entry _ mark = is_clear mark

abbrev exit : Nonterminal → Mark → Mark → Bool
exit SetList mark last = is_unstarred last
exit Element mark last = is_unstarred last
exit ElementPart mark last = is_unstarred last
exit Range mark last = is_unstarred last
exit RangeList mark last = is_unstarred last
exit _ mark last = is_clear last

abbrev atom : Nonterminal → Bool
atom n = false

all_right : (n : Nonterminal) → is_right each each_is next allowed entry exit atom n ≡ true
all_right Expression = refl
all_right _ = refl

-- where a range may begin, none has begun
none_begun : (mark : Mark) (before : List KindedToken) → is_clear mark ≡ true → Starts mark before → range_start before ≡ None
none_begun clear before k h = h.0
none_begun labelled before k h = cc
none_begun starred before k h = cc

-- ---- labels

if_skipped : {A : Type 0} (b : Bool) (x y : A) → b ≡ false → (if b then x else y) ≡ y
if_skipped true x y h = cc
if_skipped false x y h = refl

if_taken : {A : Type 0} (b : Bool) (x y : A) → b ≡ true → (if b then x else y) ≡ x
if_taken true x y h = refl
if_taken false x y h = cc

-- what a label of a list enters
label_enters : (first : List ℕ) (w : ReaderState) (t : KindedToken) (ahead : Terminal) (begins : Option Token) → terminal.Label ≡ t.0 → range_start w.before ≡ begins → new_labels first w t ahead ≡ list_labels first begins ahead t.1
label_enters first w t ahead begins e h =
    if_skipped (is_index w t.0) _ _ (ap (is_index w) (sym e))
    ∙ if_taken (is terminal.Label t.0) _ _ (ap (is terminal.Label) (sym e))
    ∙ ap (λ (o : Option Token). list_labels first o ahead t.1) h

-- no `*` comes after a label alone
no_star_ahead : (rest : List KindedToken) → leads productions look_ahead (token terminal.Star · token terminal.Label) rest ≡ false → is terminal.Star (kind_of rest) ≡ false
no_star_ahead [] h = refl
no_star_ahead (u ∷ rest) h = by (is terminal.Star u.0) (false && is terminal.Label u.0) h
  where
    by : (a b : Bool) → (a || b) ≡ false → a ≡ false
    by true b h = cc
    by false b h = refl

-- each of these texts has a place
abbrev AreIn : List (List ℕ) → List (List ℕ) → Type 0
AreIn labels [] = Unit {0}
AreIn labels (text ∷ texts) = IsSome (place_of labels text) × AreIn labels texts

entered_stays : (table texts : List (List ℕ)) (text : List ℕ) (o : Option ℕ) → place_of table text ≡ o → IsSome o → IsSome (place_of (all_entered table texts) text)
entered_stays table texts text (Some n) h s = ap is_some ((Stay-all_entered table texts).stays text n h)
entered_stays table texts text None h s = cc

all_in : (table texts : List (List ℕ)) → AreIn (all_entered table texts) texts
all_in table [] = tt
all_in table (text ∷ texts) =
    (entered_stays (entered table text) texts text (place_of (entered table text) text) refl (place_of-entered table text), all_in (entered table text) texts)

module _ (first second : List ℕ) (names wider labels larger : List (List ℕ)) (whole : List KindedToken) (keep : (text : List ℕ) (n : ℕ) → place_of labels text ≡ Some n → place_of larger text ≡ Some n) where
  abbrev Here : ReaderState → List KindedToken → Type 0
  Here w tokens = Occurs first second names labels whole w tokens

  -- a token has the same bytes in both
  abbrev pub SameBytes : (Terminal → Bool) → KindedToken → Type 0
  SameBytes test t = token_text first t.1 ≡ token_text second t.1

  all_stay : (w : ReaderState) (tokens : List KindedToken) (texts : List (List ℕ)) → Here w tokens → AreIn w.labels texts → AreIn labels texts
  all_stay w tokens [] e a = tt
  all_stay w tokens (text ∷ texts) e a = (stays first second names labels larger whole keep w tokens text (place_of w.labels text) e refl a.0, all_stay w tokens texts e a.1)

  numbers_same : (texts : List (List ℕ)) → AreIn labels texts → map (number_of_label first labels) texts ≡ map (number_of_label second larger) texts
  numbers_same [] a = refl
  numbers_same (text ∷ texts) a = ap₂ (λ (o : Option ℕ) (ns : List ℕ). or_0 o ∷ ns) (kept first second names labels larger whole keep text text refl (place_of labels text) refl a.0) (numbers_same texts a.1)

  range_same : (b : Bool) (texts : List (List ℕ)) → AreIn labels (if b then texts else []) → (if b then map (number_of_label first labels) texts else []) ≡ (if b then map (number_of_label second larger) texts else [])
  range_same true texts a = numbers_same texts a
  range_same false texts a = refl

  -- a label alone
  one_label : (w : ReaderState) (t : KindedToken) (rest : List KindedToken) → is terminal.Label t.0 ≡ true → range_start w.before ≡ None → is terminal.Star (kind_of rest) ≡ false → Here w (t ∷ rest) →
      Alike first second names wider labels larger Range (node (pair (leaf t) none))
  one_label w t rest h none_before none_after e =
      let text : List ℕ = unquoted (token_text first t.1) in
      let new : new_labels first w t (kind_of rest) ≡ text ∷ [] =
      label_enters first w t (kind_of rest) None (same_kind terminal.Label t.0 h) none_before ∙ if_skipped (is terminal.Star (kind_of rest)) [] (text ∷ []) none_after in
      let following : Here (reader_after first w t (kind_of rest)) rest = occurs_on first second names labels whole w t rest e in
      let here : IsSome (place_of (reader_after first w t (kind_of rest)).labels text) =
      subst (λ (ts : List (List ℕ)). IsSome (place_of (all_entered w.labels ts) text)) (sym new) (place_of-entered w.labels text) in
      ap (λ (o : Option ℕ). or_0 o ∷ [])
      (kept first second names labels larger whole keep text (unquoted (token_text second t.1)) (ap unquoted e.alike.0) (place_of labels text) refl
      (stays first second names labels larger whole keep (reader_after first w t (kind_of rest)) rest text (place_of (reader_after first w t (kind_of rest)).labels text) following refl here))

  -- two labels with a `*` between them
  two_labels : (w : ReaderState) (t star last : KindedToken) (rest : List KindedToken) → is terminal.Label t.0 ≡ true → is terminal.Star star.0 ≡ true → is terminal.Label last.0 ≡ true → Here w (t ∷ star ∷ last ∷ rest) →
      Alike first second names wider labels larger Range (node (pair (leaf t) (some (pair (leaf star) (leaf last)))))
  two_labels w t star last rest h k l e =
      let from : List ℕ = unquoted (token_text first t.1) in
      let to : List ℕ = unquoted (token_text first last.1) in
      let one : ReaderState = reader_after first w t (kind_of (star ∷ last ∷ rest)) in
      let two : ReaderState = reader_after first one star (kind_of (last ∷ rest)) in
      let three : ReaderState = reader_after first two last (kind_of rest) in
      let e_one : Here one (star ∷ last ∷ rest) = occurs_on first second names labels whole w t (star ∷ last ∷ rest) e in
      let e_two : Here two (last ∷ rest) = occurs_on first second names labels whole one star (last ∷ rest) e_one in
      let e_three : Here three rest = occurs_on first second names labels whole two last rest e_two in
      let begun : range_start two.before ≡ Some t.1 = if_taken (is terminal.Star star.0 && is terminal.Label t.0) (Some t.1) None (and_both (is terminal.Star star.0) (is terminal.Label t.0) k h) in
      let new : new_labels first two last (kind_of rest) ≡ range_texts first from to = label_enters first two last (kind_of rest) (Some t.1) (same_kind terminal.Label last.0 l) begun in
      let there : AreIn three.labels (range_texts first from to) =
      subst (λ (ts : List (List ℕ)). AreIn (all_entered two.labels ts) (range_texts first from to)) (sym new) (all_in two.labels (range_texts first from to)) in
      range_same (is_range from to) (members from to) (all_stay three rest (range_texts first from to) e_three there)
      ∙ ap₂ (range_labels second larger) (ap unquoted (sym e.alike.0)) (ap unquoted (sym e.alike.1.1.0))

  of_range : (tree : Derivation) (w : ReaderState) {tokens rest : List KindedToken} → range_start w.before ≡ None → Here w tokens → Reads productions look_ahead (productions Range) tokens (read tree rest) →
      Alike first second names wider labels larger Range (node tree)
  of_range tree w none_before e (both (taken {token = t} h) (left_out {tokens = rest} l)) = one_label w t rest h none_before (no_star_ahead rest l) e
  of_range tree w none_before e (both (taken {token = t} h) (there m (both (taken {token = star} k) (taken {token = last} {rest = rest} l)))) = two_labels w t star last rest h k l e

  -- ---- tables

  alike_after : (u v : List KindedToken) → AreAlike first second (u ++ v) → AreAlike first second v
  alike_after [] v a = a
  alike_after (t ∷ u) v a = alike_after u v a.1

  lines_same : (lines rest : List KindedToken) → AreAlike first second (lines ++ rest) → map (λ (line : KindedToken). words_of line.1.at.line (token_text second line.1)) lines ≡ map (λ (line : KindedToken). words_of line.1.at.line (token_text first line.1)) lines
  lines_same [] rest a = refl
  lines_same (line ∷ lines) rest a = ap₂ (λ (text : List ℕ) (ws : List (List Word)). words_of line.1.at.line text ∷ ws) a.0 (lines_same lines rest a.1)

  items_same : (limit : ℕ) (lines rest : List KindedToken) → AreAlike first second (lines ++ rest) → (entries : List (Entry Rational)) → AreEntries limit (λ (x : Rational). x) labels (parts_of_tokens first lines) entries → items_given first labels lines ≡ items_given second larger lines
  items_same limit lines rest a entries are =
      sym (items_only limit (λ (x : Rational). x) labels labels (λ text n h. h) (parts_of_tokens first lines) entries are)
      ∙ items_only limit (λ (x : Rational). x) labels larger keep (parts_of_tokens first lines) entries are
      ∙ ap (λ (ws : List (List Word)). map item_of_entry (entries_in larger (table_of ws))) (sym (lines_same lines rest a))

-- ---- the lines of a table

ends_same : {T : Type 0} (u v : List T) (x y : T) → u ++ x ∷ [] ≡ v ++ y ∷ [] → x ≡ y
ends_same [] [] x y e = cc
ends_same [] (b ∷ []) x y e = cc
ends_same [] (b ∷ c ∷ v) x y e = cc
ends_same (a ∷ []) [] x y e = cc
ends_same (a ∷ b ∷ u) [] x y e = cc
ends_same (a ∷ u) (b ∷ v) x y e =
    let others : u ++ x ∷ [] ≡ v ++ y ∷ [] = cc in
    ends_same u v x y others

regroup : {T : Type 0} (r f : List T) (x : T) (y z : List T) → r ++ (f ++ x ∷ (y ++ z)) ≡ (((r ++ f) ++ x ∷ []) ++ y) ++ z
regroup r f x y z = sym (append_assoc ((r ++ f) ++ x ∷ []) y z ∙ append_assoc (r ++ f) (x ∷ []) (y ++ z) ∙ append_assoc r f (x ∷ (y ++ z)))

abbrev Lines : GamsPart
Lines = many (token terminal.TableLine)

unled : (tokens : List KindedToken) → leads productions look_ahead (token terminal.TableLine) tokens ≡ false → kind_of tokens ≡ terminal.TableLine → ⊥
unled [] h e = let z : terminal.End ≡ terminal.TableLine = e in cc
unled (t ∷ tokens) h e = let z : false ≡ true = sym h ∙ ap (is terminal.TableLine) e in cc

none_ahead : {tokens rest : List KindedToken} {lines : Derivation} → Reads productions look_ahead Lines tokens (read lines rest) → kind_of rest ≡ terminal.TableLine → ⊥
none_ahead (no_more {tokens = tokens} l) e = unled tokens l e
none_ahead (again l r x) e = none_ahead x e

all_lines : {tokens rest : List KindedToken} {lines : Derivation} → Reads productions look_ahead Lines tokens (read lines rest) → All (λ (t : KindedToken). t.0 ≡ terminal.TableLine) (yield lines)
all_lines (no_more l) = All-nil (λ (t : KindedToken). t.0 ≡ terminal.TableLine)
all_lines (again {b = b} l (taken {token = t} h) x) = All-cons (λ (t : KindedToken). t.0 ≡ terminal.TableLine) t (yield b) (sym (same_kind terminal.TableLine t.0 h)) (all_lines x)

-- they come after the parenthesis that closes the domain
table_of_lines : (whole prefix : List KindedToken) (closes : KindedToken) {tokens rest : List KindedToken} {lines : Derivation} → whole ≡ ((prefix ++ closes ∷ []) ++ yield lines) ++ rest → is terminal.RightParen closes.0 ≡ true → yield lines ≢ [] → Reads productions look_ahead Lines tokens (read lines rest) → IsTableOf whole (yield lines)
table_of_lines whole prefix closes {rest = rest} parts h not_empty r = record {
  before = prefix ++ closes ∷ [];
  following = rest;
  parts = parts;
  are_lines = all_lines r;
  some = not_empty;
  none_before = λ others t e k.
      let last : closes ≡ t = ends_same prefix others closes t e in
      let wrong : terminal.RightParen ≡ terminal.TableLine = same_kind terminal.RightParen closes.0 h ∙ ap (λ (s : KindedToken). s.0) last ∙ k in
      cc;
  none_after = none_ahead r;
}

module _ (limit : ℕ) (first second : List ℕ) (names wider labels larger : List (List ℕ)) (whole : List KindedToken) (keep : (text : List ℕ) (n : ℕ) → place_of labels text ≡ Some n → place_of larger text ≡ Some n) (tables : HaveItems limit first labels whole) where
  abbrev Stood : ReaderState → List KindedToken → Type 0
  Stood w tokens = Occurs first second names labels whole w tokens

  abbrev SameAt : Nonterminal → Derivation → Type 0
  SameAt n tree = Alike first second names wider labels larger n tree

  abbrev Bytes : (Terminal → Bool) → KindedToken → Type 0
  Bytes test t = SameBytes first second names wider labels larger whole keep test t

  -- the lines of a table mean the same items
  of_lines : (w : ReaderState) (prefix : List KindedToken) (closes : KindedToken) {tokens rest : List KindedToken} {lines : Derivation} → is terminal.RightParen closes.0 ≡ true → whole ≡ reverse w.before ++ (prefix ++ closes ∷ tokens) → AreAlike first second tokens → Reads productions look_ahead Lines tokens (read lines rest) →
      items_given first labels (yield lines) ≡ items_given second larger (yield lines)
  of_lines w prefix closes h parts a (no_more l) = refl
  of_lines w prefix closes {tokens = tokens} {rest = rest} h parts a (again {b = others} l (taken {token = line} g) x) =
      let lines : Derivation = more (leaf line) others in
      let r : Reads productions look_ahead Lines tokens (read lines rest) = again l (taken g) x in
      let split : tokens ≡ yield lines ++ rest = (sound productions look_ahead r).1 in
      let not_empty : yield lines ≢ [] = λ e. let z : line ∷ yield others ≡ [] = e in cc in
      let table : IsTableOf whole (yield lines) =
      table_of_lines whole (reverse w.before ++ prefix) closes (parts ∙ ap (λ (ts : List KindedToken). reverse w.before ++ (prefix ++ closes ∷ ts)) split ∙ regroup (reverse w.before) prefix closes (yield lines) rest) h not_empty r in
      let are = tables (yield lines) table in
      items_same first second names wider labels larger whole keep limit (yield lines) rest (subst (AreAlike first second) split a) are.0 are.1

  of_table : (tree : Derivation) (w : ReaderState) {tokens rest : List KindedToken} → Stood w tokens → Reads productions look_ahead (productions TableStatement) tokens (read tree rest) → SameAt TableStatement (node tree)
  of_table tree w e (both (taken {token = word} h) (both (taken {token = name} k) (both (entered_by (both (taken {token = opens} l) (both {a = list} d (taken {token = closes} {rest = following} m)))) r))) =
      let inner = (sound productions look_ahead d).1 in
      of_lines w (word ∷ name ∷ opens ∷ yield list) closes m
      (e.parts ∙ ap (λ (ts : List KindedToken). reverse w.before ++ (word ∷ name ∷ opens ∷ ts)) inner)
      (alike_after first second names wider labels larger whole keep (yield list) (closes ∷ following) (subst (AreAlike first second) inner e.alike.1.1.1)).1 r

  of_node : (n : Nonterminal) (tree : Derivation) (mark : Mark) (w : ReaderState) (tokens rest : List KindedToken) → entry n mark ≡ true → Has mark w → Stood w tokens → Reads productions look_ahead (the n) tokens (read (node tree) rest) → SameAt n (node tree)
  of_node Range tree mark w tokens rest k h e (entered_by r) = of_range first second names wider labels larger whole keep tree w (none_begun mark w.before k h) e r
  of_node TableStatement tree mark w tokens rest k h e (entered_by r) = of_table tree w e r
  of_node _ tree mark w tokens rest k h e r = tt

  -- each token of a program that is read from its start has the same bytes in both, each range the
  -- same labels, and each table the same items
  pub ranges_throughout : (tree : Derivation) → Reads productions look_ahead (productions Program) whole (read tree []) → Stood start whole → Throughout Bytes SameAt (productions Program) tree
  ranges_throughout tree r e =
      (passed each each_is next allowed entry exit atom first second names labels whole Has Bytes SameAt (step first) (λ test mark w t rest k h s x. sym x.alike.0) of_node
      (λ n inner mark w tokens rest k h s x y. absurd (let z : false ≡ true = k in cc)) all_right r (λ mark. is_clear mark) clear start refl (refl, refl) e).all
