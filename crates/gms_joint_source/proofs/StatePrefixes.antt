-- The result of the tokens of a saved source is the same in a joint source, and later tokens only
-- add names and labels.
use Rattle.std.proofs.Common.{◌≡◌, ℕ, suc, ◌+◌, cond, take, Bool, true, false, not, ◌&&◌, ◌||◌, if◌then◌else◌, List, [], ◌∷◌, ◌++◌, map, reverse, take_while, All, Option, Some, None, refl, sym, ap, ap₂, ◌∙◌, subst, arith, append_assoc}
use Rattle.std.specs.List.{prefix_len}
use Rattle.std.proofs.lemmas.List.{map-append, reverse-append}
use Rattle.std.proofs.lemmas.List.Elements.{All-head, All-tail}
use Rattle.gms_grammar.specs.declared.kind.Sym.TheVariants as sym
use Rattle.gms_grammar.specs.declared.kind.Kind.{Kind}
use Rattle.gms_grammar.specs.declared.kind.Kind.TheVariants as token_kind
use Rattle.gms_lex.specs.declared.token.Token.{Token}
use Rattle.gms_lex.specs.TokenTexts.{token_text, unquoted, IsPlaced}
use Rattle.gms_lex.specs.Tokens.{IsTokens, end_token}
use Rattle.gms_lex.proofs.PlacedLemmas.{tokens_placed}
use Rattle.gms_labels.specs.Labels.{entered}
use Rattle.gms_grammar.specs.declared.terminal.Terminal.{Terminal}
use Rattle.gms_grammar.specs.declared.terminal.Terminal.TheVariants as terminal
use Rattle.gms_grammar.specs.Terminals.{is}
use Rattle.gms_grammar.proofs.Rules.{read_state_append, all_keep}
use Rattle.gms_table.specs.Words.{Word, words_of}
use Rattle.gms_table.specs.TableEntries.{table_of, label_texts}
use Rattle.gms_table.specs.WordLabels.{all_entered, IsPrefix}
use Rattle.gms_table.proofs.LabelLemmas.{GoesOn-refl, GoesOn-trans, GoesOn-entered, GoesOn-all_entered}
use Rattle.gms_expressions.specs.Outcomes.{open_after, kinded_tokens}
use Rattle.gms_expressions.specs.Words.{terminal_of}
use Rattle.gms_parse.specs.Tables.{labels_of_lines}
use Rattle.gms_parse.specs.ReadStates.{KindedToken, ReaderState, start, kind_ahead, is_keyword, is_name, is_index, range_start, range_texts, list_labels, lines_with, new_labels, reader_after, reader_after_all}
use Rattle.gms_joint_source.specs.JointSources.{joint_source, HaveJointPrefix}
use Rattle.gms_joint_source.proofs.FedTokens.{if_alike}
use Rattle.gms_joint_source.proofs.JointDerivations.{text_same, own_seen, last_same}

-- what is mapped backwards
map_reverse : {A B : Type 0} (f : A → B) (xs : List A) → map f (reverse xs) ≡ reverse (map f xs)
map_reverse f [] = refl
map_reverse f (x ∷ xs) =
    ap (map f) (reverse-append (x ∷ []) xs) ∙ map-append f (reverse xs) (x ∷ []) ∙ ap (λ ys. ys ++ f x ∷ []) (map_reverse f xs) ∙ sym (reverse-append (f x ∷ []) (map f xs))

-- the first elements that pass, one by one
take_while_step : {A : Type 0} (test : A → Bool) (x : A) (xs : List A) → take_while test (x ∷ xs) ≡ (if test x then x ∷ take_while test xs else [])
take_while_step {A} test x xs = by (test x)
  where
    by : (b : Bool) → take (cond b (1 + prefix_len test xs) 0) (x ∷ xs) ≡ (if b then x ∷ take_while test xs else [])
    by true = let one_more : 1 + prefix_len test xs ≡ suc (prefix_len test xs) = omega arith in ap (λ n. take n (x ∷ xs)) one_more
    by false = refl

-- ---- two sources

module _ (saved joint : List ℕ) where
  -- tokens have the same bytes in both
  abbrev pub AreAlike : List KindedToken → Type 0
  AreAlike [] = Unit {0}
  AreAlike (token ∷ tokens) = (token_text joint token.1 ≡ token_text saved token.1) × AreAlike tokens

  no_first : (ahead : Terminal) (token : Token) → token_text joint token ≡ token_text saved token → list_labels joint None ahead token ≡ list_labels saved None ahead token
  no_first ahead token h = ap (λ text. if is terminal.Star ahead then [] else unquoted text ∷ []) h

  chosen_first : (b : Bool) (first : Token) (ahead : Terminal) (token : Token) → token_text joint first ≡ token_text saved first → token_text joint token ≡ token_text saved token → list_labels joint (if b then Some first else None) ahead token ≡ list_labels saved (if b then Some first else None) ahead token
  chosen_first true first ahead token h k = ap₂ (λ a b. range_texts saved (unquoted a) (unquoted b)) h k
  chosen_first false first ahead token h k = no_first ahead token k

  list_alike : (before : List KindedToken) (ahead : Terminal) (token : Token) → AreAlike before → token_text joint token ≡ token_text saved token → list_labels joint (range_start before) ahead token ≡ list_labels saved (range_start before) ahead token
  list_alike [] ahead token a h = no_first ahead token h
  list_alike (star ∷ []) ahead token a h = no_first ahead token h
  list_alike (star ∷ (first ∷ others)) ahead token a h = chosen_first (is terminal.Star star.0 && is terminal.Label first.0) first.1 ahead token a.1.0 h

  -- the words of a line of a table
  abbrev Line : List ℕ → KindedToken → List Word
  Line source line = words_of line.1.at.line (token_text source line.1)

  taken_alike : (test : KindedToken → Bool) (lines : List KindedToken) → AreAlike lines → map (Line joint) (take_while test lines) ≡ map (Line saved) (take_while test lines)
  taken_alike test [] a = refl
  taken_alike test (line ∷ lines) a = ap (map (Line joint)) (take_while_step test line lines) ∙ by (taken_alike test lines a.1) (test line) ∙ sym (ap (map (Line saved)) (take_while_step test line lines))
    where
      by : map (Line joint) (take_while test lines) ≡ map (Line saved) (take_while test lines) → (b : Bool) → map (Line joint) (if b then line ∷ take_while test lines else []) ≡ map (Line saved) (if b then line ∷ take_while test lines else [])
      by others true = ap₂ (λ text ls. words_of line.1.at.line text ∷ ls) a.0 others
      by others false = refl

  lines_alike : (before : List KindedToken) (line : KindedToken) → AreAlike before → token_text joint line.1 ≡ token_text saved line.1 → labels_of_lines joint (lines_with joint before line) ≡ labels_of_lines saved (lines_with saved before line)
  lines_alike before line a h =
      let prefix : List KindedToken = line ∷ take_while (λ token. is terminal.TableLine token.0) before in
      ap (λ ls. label_texts (table_of ls))
      (map_reverse (Line joint) prefix
      ∙ ap reverse (ap₂ (λ text ls. words_of line.1.at.line text ∷ ls) h (taken_alike (λ token. is terminal.TableLine token.0) before a))
      ∙ sym (map_reverse (Line saved) prefix))

  labels_alike : (read_state : ReaderState) (token : KindedToken) (ahead : Terminal) → AreAlike read_state.before → token_text joint token.1 ≡ token_text saved token.1 → new_labels joint read_state token ahead ≡ new_labels saved read_state token ahead
  labels_alike read_state token ahead a h =
      if_alike (is_index read_state token.0) _ _ _ _ (λ _. ap (λ text. unquoted text ∷ []) h)
      (λ _. if_alike (is terminal.Label token.0) _ _ _ _ (λ _. list_alike read_state.before ahead token.1 a h)
      (λ _. if_alike (is terminal.TableLine token.0 && not (is terminal.TableLine ahead)) _ _ _ _ (λ _. lines_alike read_state.before token a h) (λ _. refl)))

  -- a token leaves the same in both
  after_alike : (read_state : ReaderState) (token : KindedToken) (ahead : Terminal) → AreAlike read_state.before → token_text joint token.1 ≡ token_text saved token.1 → reader_after joint read_state token ahead ≡ reader_after saved read_state token ahead
  after_alike read_state token ahead a h =
      ap₂ (λ (ns ls : List (List ℕ)). (let r : ReaderState = record {
        open_count = open_after read_state.open_count token.0;
        names = ns;
        labels = ls;
        before = token ∷ read_state.before;
        keyword = if is_keyword token.0 || is terminal.Semicolon token.0 then token.0 else read_state.keyword;
        level = if is_keyword token.0 || is terminal.Semicolon token.0 then read_state.open_count else read_state.level;
      } in r))
      (ap (λ text. if is_name read_state token.0 then entered read_state.names text else read_state.names) h)
      (ap (all_entered read_state.labels) (labels_alike read_state token ahead a h))

  -- tokens leave the same in both
  pub read_state_alike : (read_state : ReaderState) (tokens : List KindedToken) (ahead : Terminal) → AreAlike read_state.before → AreAlike tokens → reader_after_all joint read_state tokens ahead ≡ reader_after_all saved read_state tokens ahead
  read_state_alike read_state [] ahead a h = refl
  read_state_alike read_state (token ∷ tokens) ahead a h =
      ap (λ (w : ReaderState). reader_after_all joint w tokens ahead) (after_alike read_state token (kind_ahead tokens ahead) a h.0)
      ∙ read_state_alike (reader_after saved read_state token (kind_ahead tokens ahead)) tokens ahead (h.0, a) h.1

-- ---- the token ahead

module _ (source : List ℕ) where
  list_ahead : (first : Option Token) (ahead : Terminal) (token : Token) → is terminal.Star ahead ≡ false → list_labels source first ahead token ≡ list_labels source first terminal.End token
  list_ahead (Some first) ahead token h = refl
  list_ahead None ahead token h = ap (λ v. if v then [] else unquoted (token_text source token) ∷ []) h

  labels_ahead : (read_state : ReaderState) (token : KindedToken) (ahead : Terminal) → is terminal.Star ahead ≡ false → is terminal.TableLine ahead ≡ false → new_labels source read_state token ahead ≡ new_labels source read_state token terminal.End
  labels_ahead read_state token ahead h k =
      if_alike (is_index read_state token.0) _ _ _ _ (λ _. refl)
      (λ _. if_alike (is terminal.Label token.0) _ _ _ _ (λ _. list_ahead (range_start read_state.before) ahead token.1 h)
      (λ _. ap (λ v. if is terminal.TableLine token.0 && not v then labels_of_lines source (lines_with source read_state.before token) else []) k))

  after_ahead : (read_state : ReaderState) (token : KindedToken) (ahead : Terminal) → is terminal.Star ahead ≡ false → is terminal.TableLine ahead ≡ false → reader_after source read_state token ahead ≡ reader_after source read_state token terminal.End
  after_ahead read_state token ahead h k =
      ap (λ (ls : List (List ℕ)). (let r : ReaderState = record (reader_after source read_state token terminal.End) { labels = all_entered read_state.labels ls } in r)) (labels_ahead read_state token ahead h k)

  -- tokens leave the same before the end and before a token that is no `*` and no line of a table
  pub read_state_ahead : (read_state : ReaderState) (tokens : List KindedToken) (ahead : Terminal) → is terminal.Star ahead ≡ false → is terminal.TableLine ahead ≡ false → reader_after_all source read_state tokens ahead ≡ reader_after_all source read_state tokens terminal.End
  read_state_ahead read_state [] ahead h k = refl
  read_state_ahead read_state (token ∷ []) ahead h k = after_ahead read_state token ahead h k
  read_state_ahead read_state (token ∷ next ∷ tokens) ahead h k = read_state_ahead (reader_after source read_state token next.0) (next ∷ tokens) ahead h k

  -- ---- names and labels are only added

  if_goes : (table : List (List ℕ)) (b : Bool) (x y : List (List ℕ)) → IsPrefix table x → IsPrefix table y → IsPrefix table (if b then x else y)
  if_goes table true x y h k = h
  if_goes table false x y h k = k

  pub names_go_on : (read_state : ReaderState) (tokens : List KindedToken) (ahead : Terminal) → IsPrefix read_state.names (reader_after_all source read_state tokens ahead).names
  names_go_on read_state tokens ahead =
      all_keep (reader_after source) (λ (w : ReaderState). IsPrefix read_state.names w.names)
      (λ w token k h. GoesOn-trans read_state.names w.names _ h (if_goes w.names (is_name w token.0) _ _ (GoesOn-entered w.names (token_text source token.1)) (GoesOn-refl w.names)))
      read_state tokens ahead (GoesOn-refl read_state.names)

  pub labels_go_on : (read_state : ReaderState) (tokens : List KindedToken) (ahead : Terminal) → IsPrefix read_state.labels (reader_after_all source read_state tokens ahead).labels
  labels_go_on read_state tokens ahead =
      all_keep (reader_after source) (λ (w : ReaderState). IsPrefix read_state.labels w.labels)
      (λ w token k h. GoesOn-trans read_state.labels w.labels _ h (GoesOn-all_entered w.labels (new_labels source w token k)))
      read_state tokens ahead (GoesOn-refl read_state.labels)

-- ---- a saved source, and the joint one

-- tokens of a source that are placed in it
own_alike : (source more : List ℕ) (own rest : List Token) → All (IsPlaced source) (own ++ rest) → AreAlike source (source ++ more) (kinded_tokens source own)
own_alike source more [] rest all = tt
own_alike source more (token ∷ own) rest all = (text_same source more token (All-head (IsPlaced source) token (own ++ rest) all), own_alike source more own rest (All-tail (IsPlaced source) token (own ++ rest) all))

-- `whole` is `prefix` followed by a list, and `following` is that list followed by an element
pub record Parted {T : Type 0} (prefix following whole : List T) (x : T) : Type 0 where
  pub middle : List T
  pub whole_is : whole ≡ prefix ++ middle
  pub after_is : following ≡ middle ++ x ∷ []

parted : {T : Type 0} (prefix following whole : List T) (y x : T) (others : List T) → following ≡ y ∷ others → prefix ++ following ≡ whole ++ x ∷ [] → Parted prefix following whole x
parted [] following whole y x others some e = record { middle = whole; whole_is = refl; after_is = e }
parted (a ∷ prefix) following [] y x others some e =
    let none : prefix ++ following ≡ [] = cc in
    absurd (nothing prefix following y others some none)
  where
    nothing : {T : Type 0} (u v : List T) (y : T) (others : List T) → v ≡ y ∷ others → u ++ v ≡ [] → ⊥
    nothing [] v y others some e = let z : y ∷ others ≡ [] = sym some ∙ e in cc
    nothing (b ∷ u) v y others some e = cc
parted (a ∷ prefix) following (b ∷ whole) y x others some e =
    let same : a ≡ b = cc in
    let rest : prefix ++ following ≡ whole ++ x ∷ [] = cc in
    let p = parted prefix following whole y x others some rest in
    record { middle = p.middle; whole_is = ap₂ (λ c w. c ∷ w) (sym same) p.whole_is; after_is = p.after_is }

-- a token that is no `*` and no line of a table
abbrev IsQuiet : Terminal → Type 0
IsQuiet kind = (is terminal.Star kind ≡ false) × (is terminal.TableLine kind ≡ false)

told : (kind other : Kind) (text : List ℕ) → kind ≡ other → IsQuiet (terminal_of other text) → IsQuiet (terminal_of kind text)
told kind other text e h = (ap (λ (c : Kind). is terminal.Star (terminal_of c text)) e ∙ h.0, ap (λ (c : Kind). is terminal.TableLine (terminal_of c text)) e ∙ h.1)

-- the first token after those of a saved source
pub record FirstAfter (source : List ℕ) (following : List Token) : Type 0 where
  pub first : Token
  pub others : List Token
  pub is : following ≡ first ∷ others
  pub quiet : IsQuiet (terminal_of first.kind (token_text source first))

first_after : (source : List ℕ) (ends : List Token) (semicolon : Token) (others : List Token) → All (λ (token : Token). token.kind ≡ token_kind.Break) ends → semicolon.kind ≡ token_kind.Symbol sym.Semicolon → FirstAfter source (ends ++ semicolon ∷ others)
first_after source [] semicolon others all e =
    record { first = semicolon; others = others; is = refl; quiet = told semicolon.kind (token_kind.Symbol sym.Semicolon) (token_text source semicolon) e (refl, refl) }
first_after source (end ∷ ends) semicolon others all e = record {
  first = end;
  others = ends ++ semicolon ∷ others;
  is = refl;
  quiet = told end.kind token_kind.Break (token_text source end) (All-head (λ (token : Token). token.kind ≡ token_kind.Break) end ends all) (refl, refl);
}

quiet_ahead : (source : List ℕ) (following : List Token) (f : FirstAfter source following) (middle : List KindedToken) (x : KindedToken) → kinded_tokens source following ≡ middle ++ x ∷ [] → IsQuiet (kind_ahead middle terminal.End)
quiet_ahead source following f [] x e = (refl, refl)
quiet_ahead source following f (y ∷ middle) x e =
    let see : KindedToken = (terminal_of f.first.kind (token_text source f.first), f.first) in
    let both : see ∷ kinded_tokens source f.others ≡ y ∷ (middle ++ x ∷ []) = ap (kinded_tokens source) (sym f.is) ∙ e in
    let same : see ≡ y = cc in
    subst (λ (s : KindedToken). IsQuiet s.0) same f.quiet

-- The tokens of a joint source in the grammar's view: those of the saved source, and those after
-- them.
pub record PrefixSeen (saved file : List ℕ) (first whole : List KindedToken) : Type 0 where
  pub middle : List KindedToken
  pub whole_is : whole ≡ first ++ middle
  pub quiet : IsQuiet (kind_ahead middle terminal.End)
  pub alike : AreAlike saved (joint_source saved file) first

pub prefix_seen : (saved file : List ℕ) (tokens joint : List Token) (first whole : List KindedToken) (end last : Token) → IsTokens saved tokens → HaveJointPrefix saved tokens joint → kinded_tokens saved tokens ≡ first ++ (terminal.End, end) ∷ [] → kinded_tokens (joint_source saved file) joint ≡ whole ++ (terminal.End, last) ∷ [] → PrefixSeen saved file first whole
prefix_seen saved file tokens joint first whole end last is_tokens h first_are whole_are =
    let source : List ℕ = joint_source saved file in
    let more : List ℕ = 10 ∷ 59 ∷ 10 ∷ file in
    let see : List ℕ → Token → KindedToken = λ text token. (terminal_of token.kind (token_text text token), token) in
    let placed : All (IsPlaced saved) (h.own ++ end_token saved ∷ []) = subst (All (IsPlaced saved)) h.tokens_are (tokens_placed saved tokens is_tokens) in
    let own : kinded_tokens saved h.own ≡ first =
    last_same (kinded_tokens saved h.own) first (terminal.End, end_token saved) (terminal.End, end)
    (sym (map-append (see saved) h.own (end_token saved ∷ [])) ∙ ap (kinded_tokens saved) (sym h.tokens_are) ∙ first_are) in
    let following : List Token = h.ends ++ h.semicolon ∷ h.others in
    let f = first_after source h.ends h.semicolon h.others h.are_ends h.is_semicolon in
    let all : first ++ kinded_tokens source following ≡ whole ++ (terminal.End, last) ∷ [] =
    ap (λ ts. ts ++ kinded_tokens source following) (sym (own_seen saved more h.own (end_token saved ∷ []) placed ∙ own))
    ∙ sym (map-append (see source) h.own following)
    ∙ ap (kinded_tokens source) (sym (append_assoc h.own h.ends (h.semicolon ∷ h.others)) ∙ sym h.joint_are)
    ∙ whole_are in
    let p = parted first (kinded_tokens source following) whole (see source f.first) (terminal.End, last) (kinded_tokens source f.others) (ap (kinded_tokens source) f.is) all in
    record {
      middle = p.middle;
      whole_is = p.whole_is;
      quiet = quiet_ahead source following f p.middle (terminal.End, last) p.after_is;
      alike = subst (AreAlike saved source) own (own_alike saved more h.own (end_token saved ∷ []) placed);
    }

module _ (saved file : List ℕ) (first whole : List KindedToken) (f : PrefixSeen saved file first whole) where
  abbrev Joint : List ℕ
  Joint = joint_source saved file

  -- what the tokens of the saved source leave in the joint one
  abbrev pub between : ReaderState
  between = reader_after_all Joint start first (kind_ahead f.middle terminal.End)

  -- is what they leave in the saved source
  pub prefix_read_state : between ≡ reader_after_all saved start first terminal.End
  prefix_read_state =
      read_state_alike saved Joint start first (kind_ahead f.middle terminal.End) tt f.alike
      ∙ read_state_ahead saved start first (kind_ahead f.middle terminal.End) f.quiet.0 f.quiet.1

  last_read_state : reader_after_all Joint start whole terminal.End ≡ reader_after_all Joint between f.middle terminal.End
  last_read_state = ap (λ (ts : List KindedToken). reader_after_all Joint start ts terminal.End) f.whole_is ∙ read_state_append (reader_after Joint) start first f.middle terminal.End

  -- the names and the labels of a joint source begin with those of the saved one
  pub prefix_names : IsPrefix (reader_after_all saved start first terminal.End).names (reader_after_all Joint start whole terminal.End).names
  prefix_names =
      subst (λ (w : ReaderState). IsPrefix (reader_after_all saved start first terminal.End).names w.names) (sym last_read_state)
      (subst (λ (w : ReaderState). IsPrefix w.names (reader_after_all Joint between f.middle terminal.End).names) prefix_read_state (names_go_on Joint between f.middle terminal.End))

  pub prefix_labels : IsPrefix (reader_after_all saved start first terminal.End).labels (reader_after_all Joint start whole terminal.End).labels
  prefix_labels =
      subst (λ (w : ReaderState). IsPrefix (reader_after_all saved start first terminal.End).labels w.labels) (sym last_read_state)
      (subst (λ (w : ReaderState). IsPrefix w.labels (reader_after_all Joint between f.middle terminal.End).labels) prefix_read_state (labels_go_on Joint between f.middle terminal.End))
