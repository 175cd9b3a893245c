-- Calls, folds and references, made of what was read of their parts.
use Rattle.std.proofs.Common.{◌≡◌, ℕ, ◌+◌, if◌then◌else◌, [], ◌∷◌, Vec, map, codes, refl, ap, ap₂, ◌∙◌, subst, arith}
use Rattle.std.specs.declared.alloc.Global.{Global}
use Rattle.gq_number.specs.Number.{Number}
use Rattle.gms_labels.specs.declared.place.Place.{Place}
use Rattle.gms_lex.specs.declared.token.Token.{Token}
use Rattle.gms_lex.specs.TokenTexts.{token_text}
use Rattle.gms_ast.specs.declared.expression.Suffix.{Suffix as SuffixNode}
use Rattle.gms_ast.specs.declared.expression.Suffix.TheVariants as suffix
use Rattle.gms_ast.specs.declared.expression.FoldOp.{FoldOp as FoldNode}
use Rattle.gms_ast.specs.declared.expression.Function.{Function as FunctionNode}
use Rattle.gms_ast.specs.declared.expression.Index.{Index as IndexNode}
use Rattle.gms_ast.specs.declared.expression.Control.{Control as ControlNode}
use Rattle.gms_ast.specs.declared.expression.Expr.{Expr, Ref, Call as CallNode}
use Rattle.gms_ast.specs.declared.program.Target.{Target as TargetNode}
use Rattle.gms_ast.specs.Trees.{plain, reference, call, fold_over, place_in_set, size_of_set, no_index}
use Rattle.gms_ast.specs.TreeView.{tree_of, indices_of, index_tree, control_tree}
use Rattle.gms_ast.proofs.TreeEquations.{tree_of-Ref, tree_of-Call}
use Rattle.gms_grammar.specs.declared.terminal.Terminal.TheVariants.{Function, OrdCard, FoldOp, RightParen, Comma}
use Rattle.gms_grammar.specs.Grammar.{the, ◌·◌, ◌∣◌, opt}
use Rattle.gms_grammar.specs.Terminals.{is}
use Rattle.gms_grammar.specs.GamsGrammar.{Expression, ExpressionList, NameList, IndexList, Target, Attribute, Fold, Control, token, name, bracketed}
use Rattle.gms_expressions.specs.declared.fault.SyntaxFaultOrMemory.{SyntaxFaultOrMemory}
use Rattle.gms_expressions.specs.declared.reader.Reader.{Reader}
use Rattle.gms_expressions.specs.declared.reader.Tables.{Tables}
use Rattle.gms_expressions.specs.ExpressionTrees.{is_word, token_of, name_in, function_of, fold_op_of, function_call, set_call, fold_of, scalar, target as target_in_tree, expression}
use Rattle.gms_ast.specs.Numbers.{in_numbers, indices_in_numbers, control_in_numbers}
use Rattle.gms_expressions.specs.InnerNodes.{view}
use Rattle.gms_expressions.specs.InnerReadings.{Derivation, GamsPart, Refuses, Sense, IsGot, IsMeant, IsNext, IsBefore, IsOpened, IsName, IsSuffix, AreSets, AreArguments, AreIndices, IsControl, IsTarget, inside, seen_from, read_state_of}
use Rattle.gms_expressions.proofs.Made.{numbers_in_parts}
use Rattle.gms_expressions.proofs.Steps.{got_by, gives_both, gives_the, gives_left}
use Rattle.gms_expressions.proofs.Nexts.{gives_next, gives_bracketed, earlier}
use Rattle.gms_grammar.proofs.Eithers.{led_given}
use Rattle.gms_expressions.proofs.Closings.{next_inside}

-- what was read inside a parenthesis, by the reader inside it
pub at_inside : {T : Type 0} {limit : ℕ} (Means : Reader → Sense → Derivation → T → Type 0) {p : GamsPart} {reader : Reader} {at start from : ℕ} {inner : Reader} {old new : Tables} {x : T} {next : ℕ} (o : IsOpened reader at inner start) →
    IsGot limit (Means inner) p inner from old new x next → IsGot limit (Means (inside reader (reader.unclosed + 1))) p (inside reader (reader.unclosed + 1)) from old new x next
at_inside {limit = limit} Means {p} {from = from} {old = old} {new} {x} {next} o got = subst (λ (r : Reader). IsGot limit (Means r) p r from old new x next) o.inner_is got

-- what the reader inside a parenthesis refused
pub refused_inside : {limit : ℕ} {p : GamsPart} {reader : Reader} {at start : ℕ} {inner : Reader} {old last : Tables} {e : SyntaxFaultOrMemory} (o : IsOpened reader at inner start) (from : ℕ) → Refuses limit inner.source.now p last (read_state_of inner.unclosed old) (seen_from inner from) e →
    Refuses limit reader.source.now p last (read_state_of (reader.unclosed + 1) old) (seen_from reader from) e
refused_inside {limit = limit} {p} {old = old} {last} {e} o from refuses = subst (λ (r : Reader). Refuses limit r.source.now p last (read_state_of r.unclosed old) (seen_from r from) e) o.inner_is refuses

module _ {F : Type 0} {value : F → Number} {limit : ℕ} {reader : Reader} {at : ℕ} {old new : Tables} where
  -- a call of a function
  pub call_got : {opening next : ℕ} {word : Token} (args : Vec (Expr F) Global) (function : FunctionNode) → IsNext (is Function) reader at word opening → IsGot limit (AreArguments value reader.source.now) (bracketed (the ExpressionList)) reader opening old new args next →
      function ≡ function_of (token_text reader.source.now word) → IsGot limit (IsMeant value reader.source.now function_call) (token Function · bracketed (the ExpressionList)) reader at old new (CallNode word.at function args) next
  call_got {word = word} args function n got is = got_by (gives_both (gives_next old n refl) got.gives)
      (λ sense s. record {
        is = ap (in_numbers value) (tree_of-Call word.at function args) ∙ ap (call word.at function) (numbers_in_parts value (λ p. plain) tree_of args.items) ∙ ap₂ (λ f ps. call word.at f ps) is (got.means sense s);
      })
      (let f = got.further in let g = n.further in omega arith)

  -- `ord` or `card` of a set
  pub set_call_got : {opening start next following n : ℕ} {word close : Token} {inner : Reader} {place : Place} {e : Expr F} (w : IsNext (is OrdCard) reader at word opening) (o : IsOpened reader opening inner start) →
      IsGot limit (IsName reader.source.now) name (inside reader (reader.unclosed + 1)) start old new (n, place) next → IsNext (is RightParen) reader next close following →
      view value e ≡ (if is_word (token_text reader.source.now word) (codes "ord") then place_in_set word.at n else size_of_set word.at n) → IsGot limit (IsMeant value reader.source.now set_call) (token OrdCard · bracketed name) reader at old new e following
  set_call_got {word = word} {close = close} w o got closed is = got_by (gives_both (gives_next old w refl) (gives_bracketed o got.gives closed))
      (λ sense s. record {
        is = is ∙ ap (λ k. if is_word (token_text reader.source.now word) (codes "ord") then place_in_set word.at k else size_of_set word.at k) (got.means sense s).0;
      })
      (let f = got.further in let g = w.further in let h = o.next.further in let k = closed.further in omega arith)

  -- the name of a scalar
  pub scalar_got : {next n : ℕ} {place : Place} (indices : Vec (IndexNode F) Global) → IsGot limit (IsName reader.source.now) name reader at old new (n, place) next → indices.items ≡ [] →
      IsGot limit (IsMeant value reader.source.now scalar) name reader at old new (Ref place n suffix.None indices) next
  scalar_got {n = n} {place = place} indices got none = got_by got.gives
      (λ sense s. record {
        is = ap (in_numbers value) (tree_of-Ref place n suffix.None indices) ∙ ap (λ is. reference place n suffix.None (indices_in_numbers value (indices_of (map index_tree is)))) none
            ∙ ap₂ (λ p m. reference p m suffix.None no_index) (got.means sense s).1 (got.means sense s).0;
      })
      got.further

  -- what a reference refers to
  pub target_got : {middle : Tables} {dot opening next n : ℕ} {place : Place} {found : SuffixNode} (indices : Vec (IndexNode F) Global) (target : TargetNode F) → IsGot limit (IsName reader.source.now) name reader at old middle (n, place) dot →
      IsGot limit (IsSuffix reader.source.now) (opt (the Attribute)) reader dot middle middle found opening → IsGot limit (AreIndices value reader.source.now) (opt (bracketed (the IndexList))) reader opening middle new indices next →
      target ≡ record { at = place; name = n; suffix = found; indices = indices.items } → IsGot limit (IsTarget value reader.source.now) (the Target) reader at old new target next
  target_got {n = n} {place = place} {found = found} indices target named dotted indexed is = got_by (gives_the Target (gives_both named.gives (gives_both dotted.gives indexed.gives)))
      (λ sense s.
      let s' = earlier indexed.gives s in
      let m = named.means sense (earlier dotted.gives s') in
      ap (λ (t : TargetNode F). reference t.at t.name t.suffix (indices_in_numbers value (indices_of (map index_tree t.indices)))) is
      ∙ ap₂ (λ p k. reference p k found (indices_in_numbers value (indices_of (map index_tree indices.items)))) m.1 m.0
      ∙ ap₂ (λ f k. reference (token_of named.tree).at (name_in reader.source.now sense.names sense.labels named.tree) f k) (dotted.means sense s') (indexed.means sense s))
      (let f = named.further in let g = dotted.further in let h = indexed.further in omega arith)

  -- a reference
  pub reference_got : {next : ℕ} (target : TargetNode F) (indices : Vec (IndexNode F) Global) → IsGot limit (IsTarget value reader.source.now) (the Target) reader at old new target next → indices.items ≡ target.indices →
      IsGot limit (IsMeant value reader.source.now target_in_tree) (the Target) reader at old new (Ref target.at target.name target.suffix indices) next
  reference_got target indices got is = got_by got.gives
      (λ sense s. record {
        is = ap (in_numbers value) (tree_of-Ref target.at target.name target.suffix indices) ∙ ap (λ is. reference target.at target.name target.suffix (indices_in_numbers value (indices_of (map index_tree is)))) is ∙ got.means sense s;
      })
      got.further

  -- a fold
  pub fold_got : {opening start comma start' next following : ℕ} {middle : Tables} {word : Token} {inner : Reader} {control control' : ControlNode F} {body body' e : Expr F} (op : FoldNode) (n : IsNext (is FoldOp) reader at word opening) (o : IsOpened reader opening inner start) →
      IsGot limit (IsControl value reader.source.now) (the Control) (inside reader (reader.unclosed + 1)) start old middle control comma → IsBefore Comma reader comma control control' start' →
      IsGot limit (IsMeant value reader.source.now expression) (the Expression) (inside reader (reader.unclosed + 1)) start' middle new body next → IsBefore RightParen reader next body body' following →
      op ≡ fold_op_of (token_text reader.source.now word) → view value e ≡ fold_over word.at op (control_in_numbers value (control_tree control')) (view value body') → IsGot limit (IsMeant value reader.source.now fold_of) (the Fold) reader at old new e following
  fold_got {middle = middle} {word = word} {control = control} {body' = body'} op n o sets comma got close op_is is = got_by
      (gives_the Fold (gives_both (gives_next old n refl) (gives_bracketed o (gives_both sets.gives (gives_both (gives_next middle (next_inside (reader.unclosed + 1) comma.next) refl) got.gives)) close.next)))
      (λ sense s.
      record {
        is = is ∙ ap₂ (λ f k. fold_over word.at f (control_in_numbers value (control_tree k)) (view value body')) op_is comma.is ∙ ap (λ b. fold_over word.at (fold_op_of (token_text reader.source.now word)) (control_in_numbers value (control_tree control)) (view value b)) close.is
            ∙ ap₂ (λ k b. fold_over word.at (fold_op_of (token_text reader.source.now word)) k b) (sets.means sense (earlier got.gives s)) (got.means sense s).is;
      })
      (let f = sets.further in let g = got.further in let h = n.further in let i = o.next.further in let j = comma.next.further in let k = close.next.further in omega arith)

-- one set
pub sets_one : {limit : ℕ} {reader : Reader} {at next n : ℕ} {place : Place} {old new : Tables} (v : Vec ℕ Global) → IsGot limit (IsName reader.source.now) name reader at old new (n, place) next → v.items ≡ n ∷ [] →
    IsGot limit (AreSets reader.source.now) (name ∣ bracketed (the NameList)) reader at old new v next
sets_one v got is = got_by (gives_left (led_given got.gives) got.gives) (λ sense s. is ∙ ap (λ m. m ∷ []) (got.means sense s).0) got.further
