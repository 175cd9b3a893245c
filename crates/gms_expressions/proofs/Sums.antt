-- The first part of a sum, and operands under conditions.
use Rattle.std.proofs.Common.{◌≡◌, ℕ, Bool, true, false, cond, List, [], ◌∷◌, ◌++◌, refl, sym, ap, ◌∙◌, arith}
use Rattle.gq_number.specs.Number.{Number}
use Rattle.gms_labels.specs.declared.place.Place.{Place}
use Rattle.gms_ast.specs.declared.expression.Expr.{Expr}
use Rattle.gms_ast.specs.Trees.{Mark, plain, signed, Tree as Syntax, Parts, part, negated, sum as sum_node, guarded as guarded_node}
use Rattle.gms_ast.specs.TreeView.{parts_of}
use Rattle.gms_grammar.specs.declared.terminal.Terminal.TheVariants.{Sign, Dollar}
use Rattle.gms_grammar.specs.Grammar.{the, ◌·◌, opt, pair, node}
use Rattle.gms_grammar.specs.Reading.{leads}
use Rattle.gms_grammar.specs.Terminals.{is, is_terminal_among}
use Rattle.gms_grammar.specs.GamsGrammar.{Sum, Product, Guarded, Primary, Condition, productions, token}
use Rattle.gms_grammar.specs.GamsLookAhead.{look_ahead}
use Rattle.gms_expressions.specs.declared.reader.Reader.{Reader}
use Rattle.gms_expressions.specs.declared.reader.Tables.{Tables}
use Rattle.gms_expressions.specs.declared.fault.SyntaxFaultOrMemory.{SyntaxFaultOrMemory}
use Rattle.gms_expressions.specs.ExpressionTrees.{or_alone, with_sign, place_in, sum_tree, terms, product_tree, guarded_of, guards, primary, condition}
use Rattle.gms_expressions.specs.Outcomes.{next_place}
use Rattle.gms_expressions.specs.InnerNodes.{view}
use Rattle.gms_expressions.specs.InnerReadings.{Seen, IsGot, IsMeant, IsSigned, Refuses, seen_from, read_state_of, kind_of}
use Rattle.gms_expressions.proofs.TokenKinds.{leads_by_kind, same_test}
use Rattle.gms_expressions.proofs.Steps.{within_the, within_second, within_then, gives_both}
use Rattle.gms_expressions.proofs.Loops.{Looping, loop_on, loop_got, loop_refuses}
use Rattle.gms_expressions.proofs.Chains.{ChainFirst, in_sense, place_read, parts_before, parts_before_push, parts_before_all, or_some}

module _ {F : Type 0} {value : F → Number} {limit : ℕ} {reader : Reader} {at : ℕ} {old new : Tables} where
  -- the first part of a sum, perhaps after a sign
  pub sum_first : {start next : ℕ} {minus : Bool} {operand : Expr F} {place : Place} (first : Expr F) (s : IsSigned reader at minus start) (got : IsGot limit (IsMeant value reader.source.now product_tree) (the Product) reader start old new operand next) →
      view value first ≡ cond minus (negated (view value operand)) (view value operand) → place ≡ next_place reader.source.now (seen_from reader at) →
      ChainFirst limit (the Sum) (token Sign · the Product) sum_tree terms sum_node (signed place false) (view value first) reader at old new next
  sum_first {operand = operand} {place = place} first s got is there =
      let from : place_in (pair s.tree got.tree) ≡ place = place_read (opt (token Sign) · the Product) refl (gives_both (s.gives limit old) got.gives) ∙ sym there in
      record {
        looping = record {
          context = λ b. node (pair s.tree (pair got.tree b));
          within = within_then (within_the Sum) (within_then (within_second (s.gives limit old)) (within_second got.gives));
          means = λ sense k b.
              let x : with_sign s.tree (in_sense reader.source.now product_tree sense got.tree) ≡ view value first = ap (with_sign s.tree) (sym (got.means sense k).is) ∙ s.means (view value operand) ∙ sym is in
              ap (λ y. or_alone y (λ r. sum_node (part (signed (place_in (pair s.tree got.tree)) false) y r)) (in_sense reader.source.now terms sense b)) x
              ∙ ap (λ p. or_alone (view value first) (λ r. sum_node (part (signed p false) (view value first) r)) (in_sense reader.source.now terms sense b)) from;
          further = (let f = got.further in let g = s.further in omega arith);
        };
      }

-- a `$` leads into a condition
pub leads_condition : (ts : List Seen) → leads productions look_ahead (the Condition) ts ≡ leads productions look_ahead (token Dollar) ts
leads_condition ts =
    leads_by_kind (the Condition) ts refl ∙ same_test (is_terminal_among (Dollar ∷ [])) (is Dollar) refl (kind_of ts) ∙ sym (leads_by_kind (token Dollar) ts refl)

-- what an operand under conditions is, of which some were read
abbrev pub guarded_made : Syntax Number → List (Mark × Syntax Number) → Parts Number → Syntax Number
guarded_made operand read rest = or_alone operand (guarded_node operand) (parts_before read rest)

-- an operand, and some conditions
pub record Guards (limit : ℕ) (operand : Syntax Number) (views : List (Mark × Syntax Number)) (reader : Reader) (start : ℕ) (old new : Tables) (at : ℕ) : Type 0 where
  pub looping : Looping limit (the Guarded) (the Condition) (in_sense reader.source.now guarded_of) (in_sense reader.source.now guards) (guarded_made operand views) reader start old new at

module _ {F : Type 0} {value : F → Number} {limit : ℕ} {reader : Reader} {start : ℕ} {old new : Tables} {at : ℕ} where
  -- the operand was read
  pub guards_none : {e : Expr F} → IsGot limit (IsMeant value reader.source.now primary) (the Primary) reader start old new e at → Guards limit (view value e) [] reader start old new at
  guards_none {e = e} got = record {
    looping = record {
      context = λ b. node (pair got.tree b);
      within = within_then (within_the Guarded) (within_second got.gives);
      means = λ sense s b. ap (λ x. or_alone x (guarded_node x) (in_sense reader.source.now guards sense b)) (sym (got.means sense s).is);
      further = got.further;
    };
  }

  -- no condition follows
  pub guards_alone : {e : Expr F} → Guards limit (view value e) [] reader start old new at → leads productions look_ahead (token Dollar) (seen_from reader at) ≡ false → IsGot limit (IsMeant value reader.source.now guarded_of) (the Guarded) reader start old new e at
  guards_alone {e = e} l unled = loop_got l.looping (leads_condition (seen_from reader at) ∙ unled) (IsMeant value reader.source.now guarded_of) e (λ sense tree h. record { is = sym h })

  -- one more condition
  pub guards_on : {operand : Syntax Number} {views : List (Mark × Syntax Number)} → Guards limit operand views reader start old new at → {newer : Tables} {after : ℕ} {e : Expr F} → leads productions look_ahead (token Dollar) (seen_from reader at) ≡ true →
      IsGot limit (IsMeant value reader.source.now condition) (the Condition) reader at new newer e after → (now : List (Mark × Syntax Number)) → now ≡ views ++ (plain, view value e) ∷ [] → Guards limit operand now reader start old newer after
  guards_on {operand = operand} {views = views} l {e = e} led got now pushed = record {
    looping = loop_on l.looping (leads_condition (seen_from reader at) ∙ led) got.gives got.further (λ z. part plain (view value e) z)
        (λ sense s b. ap (λ x. part plain x (in_sense reader.source.now guards sense b)) (sym (got.means sense s).is))
        (guarded_made operand now)
        (λ z. ap (or_alone operand (guarded_node operand)) (parts_before_push views plain (view value e) z ∙ ap (λ vs. parts_before vs z) (sym pushed)));
  }

  -- no more conditions, and there are some
  pub guards_got : {operand : Syntax Number} {views : List (Mark × Syntax Number)} → Guards limit operand views reader start old new at → {e : Expr F} → leads productions look_ahead (token Dollar) (seen_from reader at) ≡ false → (views ≡ [] → ⊥) →
      view value e ≡ guarded_node operand (parts_of views) → IsGot limit (IsMeant value reader.source.now guarded_of) (the Guarded) reader start old new e at
  guards_got {operand = operand} {views = views} l {e} unled some is = loop_got l.looping (leads_condition (seen_from reader at) ∙ unled) (IsMeant value reader.source.now guarded_of) e (λ sense tree h. record {
    is = is ∙ or_some operand (guarded_node operand) views some ∙ sym (h ∙ ap (or_alone operand (guarded_node operand)) (parts_before_all views));
  })

-- the next condition is refused
pub guards_refuses : {limit : ℕ} {operand : Syntax Number} {views : List (Mark × Syntax Number)} {reader : Reader} {start : ℕ} {old new last : Tables} {at : ℕ} {e : SyntaxFaultOrMemory} → Guards limit operand views reader start old new at → leads productions look_ahead (token Dollar) (seen_from reader at) ≡ true →
    Refuses limit reader.source.now (the Condition) last (read_state_of reader.unclosed new) (seen_from reader at) e → Refuses limit reader.source.now (the Guarded) last (read_state_of reader.unclosed old) (seen_from reader start) e
guards_refuses {reader = reader} {at = at} l led r = loop_refuses l.looping (leads_condition (seen_from reader at) ∙ led) r
