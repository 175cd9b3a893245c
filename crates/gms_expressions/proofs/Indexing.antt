-- Indices, made of what was read of their parts.
use Rattle.std.proofs.Common.{◌≡◌, ℕ, ◌≤◌, true, false, List, [], ◌∷◌, ◌++◌, Vec, map, Some, None, Box, Result, Ok, Err, refl, sym, ap, ◌∙◌, arith}
use Rattle.std.specs.declared.alloc.Global.{Global}
use Rattle.gq_number.specs.Number.{Number}
use Rattle.gms_labels.specs.declared.place.Place.{Place}
use Rattle.gms_lex.specs.declared.token.Token.{Token}
use Rattle.gms_ast.specs.declared.expression.Expr.{Expr}
use Rattle.gms_ast.specs.declared.expression.Expr.TheOpen.{Index-F}
use Rattle.gms_ast.specs.declared.expression.Expr.TheFolds.{fold-roll-Index}
use Rattle.gms_ast.specs.declared.expression.Index.{Index as IndexNode, Label, Set}
use Rattle.gms_ast.specs.declared.expression.Index.TheVariants.{rolls-Label, rolls-Set}
use Rattle.gms_ast.specs.declared.expression.LagOp.{LagOp}
use Rattle.gms_ast.specs.Trees.{Tree as Syntax, Indices, no_index, label, set, lagged, Control as Over}
use Rattle.gms_ast.specs.TreeView.{tree_step, index_step, control_step, tree_of, indices_of, index_tree}
use Rattle.gms_grammar.specs.declared.terminal.Terminal.TheVariants.{Name, Suffix, Text, Sign, Circular, Comma}
use Rattle.gms_grammar.specs.Grammar.{the, ◌·◌, opt, many, leaf, pair, none, some, more, node}
use Rattle.gms_grammar.specs.Reading.{leads}
use Rattle.gms_grammar.specs.Terminals.{is, is_terminal_among}
use Rattle.gms_grammar.specs.LookAhead.{may_begin}
use Rattle.gms_grammar.specs.GamsGrammar.{Index, IndexList, Lag, productions, token, name, any_of, bracketed}
use Rattle.gms_grammar.specs.GamsLookAhead.{look_ahead}
use Rattle.gms_expressions.specs.declared.fault.SyntaxFaultOrMemory.{SyntaxFaultOrMemory}
use Rattle.gms_expressions.specs.declared.reader.Reader.{Reader}
use Rattle.gms_expressions.specs.declared.reader.Tables.{Tables}
use Rattle.gms_expressions.specs.ExpressionTrees.{index as index_in, indices as indices_in, more_indices, lag as lag_in_tree}
use Rattle.gms_ast.specs.Numbers.{indices_in_numbers}
use Rattle.gms_expressions.specs.InnerReadings.{Seen, Derivation, GamsPart, Refuses, Sense, IsSense, IsGot, IsAnswer, IsNext, IsName, IsLabel, IsLag, IsIndex, AreIndices, seen_from, read_state_of, kind_of}
use Rattle.gms_expressions.proofs.TokenKinds.{leads_by_kind, same_test}
use Rattle.gms_expressions.proofs.Steps.{got_by, Within, within_the, within_second, within_then, within_again, gives_both, gives_the, gives_left, gives_right, gives_none, gives_some, gives_no_more, refuses_the, refuses_right, refuses_second, refuses_some, refuses_again}
use Rattle.gms_expressions.proofs.Nexts.{gives_next, leads_next, unled_next, earlier}
use Rattle.gms_expressions.proofs.Grows.{some_led}
use Rattle.gms_grammar.proofs.Eithers.{led_given}
use Rattle.gms_expressions.proofs.Chains.{in_sense}

-- the indices that the reader makes
module _ {F : Type 0} where
  pub index_tree-Label : (n : ℕ) (rest : Indices F) → index_tree {F = F} (Label n) rest ≡ label n rest
  index_tree-Label n rest = ap (λ i. index_tree {F = F} i rest) (sym (rolls-Label n)) ∙ ap (λ f. f rest) (fold-roll-Index F (Syntax F) (Indices F → Indices F) (Over F) tree_step index_step control_step (Index-F.Label n))

  pub index_tree-alone : (n : ℕ) (rest : Indices F) → index_tree {F = F} (Set n None) rest ≡ set n rest
  index_tree-alone n rest = ap (λ i. index_tree {F = F} i rest) (sym (rolls-Set n None)) ∙ ap (λ f. f rest) (fold-roll-Index F (Syntax F) (Indices F → Indices F) (Over F) tree_step index_step control_step (Index-F.Set n None))

  pub index_tree-lagged : (n : ℕ) (lag : LagOp × Place × Box (Expr F) Global) (rest : Indices F) → index_tree (Set n (Some lag)) rest ≡ lagged n lag.0 lag.1 (tree_of lag.2.value) rest
  index_tree-lagged n lag rest = ap (λ i. index_tree i rest) (sym (rolls-Set n (Some lag))) ∙ ap (λ f. f rest) (fold-roll-Index F (Syntax F) (Indices F → Indices F) (Over F) tree_step index_step control_step (Index-F.Set n (Some lag)))

-- a sign leads into a lag
pub leads_lag : (ts : List Seen) → leads productions look_ahead (the Lag) ts ≡ leads productions look_ahead (any_of (Sign ∷ Circular ∷ [])) ts
leads_lag ts = leads_by_kind (the Lag) ts refl ∙ same_test (may_begin look_ahead (the Lag)) (is_terminal_among (Sign ∷ Circular ∷ [])) refl (kind_of ts) ∙ sym (leads_by_kind (any_of (Sign ∷ Circular ∷ [])) ts refl)

module _ {F : Type 0} (value : F → Number) {limit : ℕ} {reader : Reader} {at next : ℕ} {old middle : Tables} {n : ℕ} where
  -- a label
  pub label_got : IsGot limit (IsLabel reader.source.now) (token Text) reader at old middle n next → IsGot limit (IsIndex {F = F} value reader.source.now) (the Index) reader at old middle (Label n) next
  label_got got = got_by (gives_the Index (gives_left (led_given got.gives) got.gives)) (λ sense s rest. ap (indices_in_numbers value) (index_tree-Label n rest) ∙ ap (λ m. label m (indices_in_numbers value rest)) (got.means sense s)) got.further

  module _ {place : Place} where
    -- a set, without a lag
    pub set_got : leads productions look_ahead (token Text) (seen_from reader at) ≡ false → IsGot limit (IsName reader.source.now) name reader at old middle (n, place) next → leads productions look_ahead (any_of (Sign ∷ Circular ∷ [])) (seen_from reader next) ≡ false →
        IsGot limit (IsIndex {F = F} value reader.source.now) (the Index) reader at old middle (Set n None) next
    set_got other got unled = got_by
        (gives_the Index (gives_right other (some_led (is_terminal_among (Name ∷ Suffix ∷ [])) (opt (the Lag)) (seen_from reader at) (sym (led_given got.gives)) refl) (gives_both got.gives (gives_none (leads_lag (seen_from reader next) ∙ unled)))))
        (λ sense s rest. ap (indices_in_numbers value) (index_tree-alone n rest) ∙ ap (λ m. set m (indices_in_numbers value rest)) (got.means sense s).0) got.further

    -- a set, with a lag
    pub lagged_got : {new : Tables} {following : ℕ} {lag : LagOp × Place × Box (Expr F) Global} → leads productions look_ahead (token Text) (seen_from reader at) ≡ false → IsGot limit (IsName reader.source.now) name reader at old middle (n, place) next →
        leads productions look_ahead (any_of (Sign ∷ Circular ∷ [])) (seen_from reader next) ≡ true → IsGot limit (IsLag value reader.source.now) (the Lag) reader next middle new lag following → IsGot limit (IsIndex value reader.source.now) (the Index) reader at old new (Set n (Some lag)) following
    lagged_got {lag = lag} other got led lags = got_by
        (gives_the Index (gives_right other (some_led (is_terminal_among (Name ∷ Suffix ∷ [])) (opt (the Lag)) (seen_from reader at) (sym (led_given got.gives)) refl) (gives_both got.gives (gives_some (leads_lag (seen_from reader next) ∙ led) lags.gives))))
        (λ sense s rest. ap (indices_in_numbers value) (index_tree-lagged n lag rest) ∙ lags.means sense s n (indices_in_numbers value rest)
        ∙ ap (λ m. lag_in_tree reader.source.now sense.names sense.labels m lags.tree (indices_in_numbers value rest)) (got.means sense (earlier lags.gives s)).0)
        (let f = got.further in let g = lags.further in omega arith)

    -- the lag of a set is refused
    pub lag_refuses : {last : Tables} {e : SyntaxFaultOrMemory} → leads productions look_ahead (token Text) (seen_from reader at) ≡ false → IsGot limit (IsName reader.source.now) name reader at old middle (n, place) next → leads productions look_ahead (any_of (Sign ∷ Circular ∷ [])) (seen_from reader next) ≡ true →
        Refuses limit reader.source.now (the Lag) last (read_state_of reader.unclosed middle) (seen_from reader next) e → Refuses limit reader.source.now (the Index) last (read_state_of reader.unclosed old) (seen_from reader at) e
    lag_refuses other got led r = refuses_the Index (refuses_right other (some_led (is_terminal_among (Name ∷ Suffix ∷ [])) (opt (the Lag)) (seen_from reader at) (sym (led_given got.gives)) refl) (refuses_second got.gives (refuses_some (leads_lag (seen_from reader next) ∙ led) r)))

-- indices put before others
abbrev pub put_before : {F : Type 0} → List (IndexNode F) → Indices F → Indices F
put_before [] rest = rest
put_before (i ∷ is) rest = index_tree i (put_before is rest)

put_before_push : {F : Type 0} (items : List (IndexNode F)) (i : IndexNode F) (rest : Indices F) → put_before (items ++ i ∷ []) rest ≡ put_before items (index_tree i rest)
put_before_push [] i rest = refl
put_before_push (x ∷ xs) i rest = ap (index_tree x) (put_before_push xs i rest)

put_before_all : {F : Type 0} (items : List (IndexNode F)) → put_before items no_index ≡ indices_of (map index_tree items)
put_before_all [] = refl
put_before_all (x ∷ xs) = ap (index_tree x) (put_before_all xs)

-- some indices of a list were read
pub record SomeIndices {F : Type 0} (value : F → Number) (limit : ℕ) (items : List (IndexNode F)) (reader : Reader) (start : ℕ) (old new : Tables) (at : ℕ) : Type 0 where
  pub context : Derivation → Derivation
  pub within : Within limit reader.source.now (the IndexList) (read_state_of reader.unclosed old) (seen_from reader start) (many (token Comma · the Index)) (read_state_of reader.unclosed new) (seen_from reader at) context
  pub means : (sense : Sense) → IsSense new sense → (b : Derivation) (rest : Indices F) → in_sense reader.source.now more_indices sense b ≡ indices_in_numbers value rest →
      in_sense reader.source.now indices_in sense (context b) ≡ indices_in_numbers value (put_before items rest)
  pub further : start ≤ at

-- the indices of a list
abbrev pub AreListed : {F : Type 0} → (F → Number) → List ℕ → Sense → Derivation → Vec (IndexNode F) Global → Type 0
AreListed value source sense tree indices = indices_in_numbers value (indices_of (map index_tree indices.items)) ≡ in_sense source indices_in sense tree

module _ {F : Type 0} {value : F → Number} {limit : ℕ} {reader : Reader} {start : ℕ} {old new : Tables} {at : ℕ} where
  pub indices_start : {i : IndexNode F} → IsGot limit (IsIndex value reader.source.now) (the Index) reader start old new i at → (items : List (IndexNode F)) → items ≡ i ∷ [] → SomeIndices value limit items reader start old new at
  indices_start {i = i} got items is = record {
    context = λ b. node (pair got.tree b);
    within = within_then (within_the IndexList) (within_second got.gives);
    means = λ sense s b rest h. ap (index_in reader.source.now sense.names sense.labels got.tree) h ∙ sym (got.means sense s rest) ∙ ap (λ xs. indices_in_numbers value (put_before xs rest)) (sym is);
    further = got.further;
  }

  pub indices_on : {items : List (IndexNode F)} → SomeIndices value limit items reader start old new at → {newer : Tables} {following after : ℕ} {t : Token} {i : IndexNode F} (next : IsNext (is Comma) reader at t following) →
      IsGot limit (IsIndex value reader.source.now) (the Index) reader following new newer i after → (now : List (IndexNode F)) → now ≡ items ++ i ∷ [] → SomeIndices value limit now reader start old newer after
  indices_on {items = items} l {i = i} next got now is = record {
    context = λ b. l.context (more (pair (leaf (next.kind, _)) got.tree) b);
    within = within_then l.within (within_again (leads_next (the Index) next) (gives_both (gives_next new next refl) got.gives));
    means = λ sense s b rest h. l.means sense (earlier (gives_both (gives_next new next refl) got.gives) s) (more (pair (leaf (next.kind, _)) got.tree) b) (index_tree i rest)
        (ap (index_in reader.source.now sense.names sense.labels got.tree) h ∙ sym (got.means sense s rest))
        ∙ ap (indices_in_numbers value) (sym (put_before_push items i rest)) ∙ ap (λ xs. indices_in_numbers value (put_before xs rest)) (sym is);
    further = (let a = l.further in let f = got.further in let g = next.further in omega arith);
  }

  pub indices_got : (v : Vec (IndexNode F) Global) → SomeIndices value limit v.items reader start old new at → leads productions look_ahead (token Comma) (seen_from reader at) ≡ false → IsGot limit (AreListed value reader.source.now) (the IndexList) reader start old new v at
  indices_got v l unled = got_by (l.within.gives none _ _ (gives_no_more (unled_next (is Comma) (the Index) (seen_from reader at) unled)))
      (λ sense s. ap (indices_in_numbers value) (sym (put_before_all v.items)) ∙ sym (l.means sense s none no_index refl)) l.further

  pub indices_refuses : {items : List (IndexNode F)} → SomeIndices value limit items reader start old new at → {following : ℕ} {t : Token} {last : Tables} {e : SyntaxFaultOrMemory} → IsNext (is Comma) reader at t following →
      Refuses limit reader.source.now (the Index) last (read_state_of reader.unclosed new) (seen_from reader following) e → Refuses limit reader.source.now (the IndexList) last (read_state_of reader.unclosed old) (seen_from reader start) e
  indices_refuses l next r = l.within.refuses _ _ (refuses_again (leads_next (the Index) next) (refuses_second (gives_next new next refl) r))

-- what was read or refused as a part that is there
pub some_answer : {T : Type 0} (limit : ℕ) {Means : Sense → Derivation → T → Type 0} (p : GamsPart) (reader : Reader) (at : ℕ) (old new : Tables) (r : Result (T × ℕ) SyntaxFaultOrMemory) → leads productions look_ahead p (seen_from reader at) ≡ true →
    IsAnswer limit Means p reader at old new r → (Says : Sense → Derivation → T → Type 0) → ((sense : Sense) (tree : Derivation) (x : T) → Means sense tree x → Says sense (some tree) x) → IsAnswer limit Says (opt p) reader at old new r
some_answer limit p reader at old new (Ok b) led got Says says = got_by (gives_some led got.gives) (λ sense s. says sense got.tree b.0 (got.means sense s)) got.further
some_answer limit p reader at old new (Err e) led refuses Says says = refuses_some led refuses

-- no indices are there
pub no_indices : {F : Type 0} (value : F → Number) {limit : ℕ} {reader : Reader} {at : ℕ} {tables : Tables} (v : Vec (IndexNode F) Global) → v.items ≡ [] → leads productions look_ahead (bracketed (the IndexList)) (seen_from reader at) ≡ false →
    IsGot limit (AreIndices value reader.source.now) (opt (bracketed (the IndexList))) reader at tables tables v at
no_indices value v is unled = got_by (gives_none unled) (λ sense s. ap (λ xs. indices_in_numbers value (indices_of (map index_tree xs))) is) (omega arith)
