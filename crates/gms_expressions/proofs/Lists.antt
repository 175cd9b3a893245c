-- Lists with commas between their parts: names, arguments and indices.
use Rattle.std.proofs.Common.{◌≡◌, ℕ, false, List, [], ◌∷◌, ◌++◌, Vec, refl, sym, ap, ◌∙◌, arith, append_assoc}
use Rattle.std.proofs.lemmas.List.{append-nil}
use Rattle.std.specs.declared.alloc.Global.{Global}
use Rattle.gq_number.specs.Number.{Number}
use Rattle.gms_labels.specs.declared.place.Place.{Place}
use Rattle.gms_lex.specs.declared.token.Token.{Token}
use Rattle.gms_ast.specs.declared.expression.Expr.{Expr}
use Rattle.gms_ast.specs.Trees.{Mark, plain, Tree as Syntax, part}
use Rattle.gms_grammar.specs.declared.terminal.Terminal.TheVariants.{Comma}
use Rattle.gms_grammar.specs.Grammar.{the, ◌·◌, pair, node}
use Rattle.gms_grammar.specs.Reading.{leads}
use Rattle.gms_grammar.specs.Terminals.{is}
use Rattle.gms_grammar.specs.GamsGrammar.{NameList, ExpressionList, Expression, productions, token, name}
use Rattle.gms_grammar.specs.GamsLookAhead.{look_ahead}
use Rattle.gms_expressions.specs.declared.fault.SyntaxFaultOrMemory.{SyntaxFaultOrMemory}
use Rattle.gms_expressions.specs.declared.reader.Reader.{Reader}
use Rattle.gms_expressions.specs.declared.reader.Tables.{Tables}
use Rattle.gms_expressions.specs.ExpressionTrees.{names_in, following_names, arguments, more_arguments, expression}
use Rattle.gms_expressions.specs.InnerNodes.{view}
use Rattle.gms_expressions.specs.InnerReadings.{Derivation, Refuses, Sense, IsGot, IsMeant, IsName, AreNames, IsNext, seen_from, read_state_of}
use Rattle.gms_expressions.proofs.Steps.{within_the, within_second, within_then, gives_both, refuses_second}
use Rattle.gms_expressions.proofs.Nexts.{gives_next, leads_next, unled_next}
use Rattle.gms_expressions.proofs.Loops.{Looping, loop_on, loop_got, loop_refuses}
use Rattle.gms_expressions.proofs.Chains.{in_sense, parts_before, parts_before_push}

-- the names of a list, as a derivation means them
abbrev pub names_whole : List ℕ → Sense → Derivation → List ℕ
names_whole source sense tree = names_in source sense.names sense.labels tree

abbrev pub names_others : List ℕ → Sense → Derivation → List ℕ
names_others source sense tree = following_names source sense.names sense.labels tree

-- some names of a list were read
pub record Names (limit : ℕ) (items : List ℕ) (reader : Reader) (start : ℕ) (old new : Tables) (at : ℕ) : Type 0 where
  pub looping : Looping limit (the NameList) (token Comma · name) (names_whole reader.source.now) (names_others reader.source.now) (λ rest. items ++ rest) reader start old new at

module _ {limit : ℕ} {reader : Reader} {start : ℕ} {old new : Tables} {at : ℕ} where
  pub names_start : {n : ℕ} {place : Place} → IsGot limit (IsName reader.source.now) name reader start old new (n, place) at → (items : List ℕ) → items ≡ n ∷ [] → Names limit items reader start old new at
  names_start {n = n} got items is = record {
    looping = record {
      context = λ b. node (pair got.tree b);
      within = within_then (within_the NameList) (within_second got.gives);
      means = λ sense s b. ap (λ m. m ∷ names_others reader.source.now sense b) (sym (got.means sense s).0) ∙ ap (λ ns. ns ++ names_others reader.source.now sense b) (sym is);
      further = got.further;
    };
  }

  pub names_on : {items : List ℕ} → Names limit items reader start old new at → {newer : Tables} {following after : ℕ} {t : Token} {n : ℕ} {place : Place} (next : IsNext (is Comma) reader at t following) → IsGot limit (IsName reader.source.now) name reader following new newer (n, place) after →
      (now : List ℕ) → now ≡ items ++ n ∷ [] → Names limit now reader start old newer after
  names_on {items = items} l {n = n} next got now is = record {
    looping =
        loop_on l.looping (leads_next name next) (gives_both (gives_next new next refl) got.gives) (let f = got.further in let g = next.further in omega arith) (λ z. n ∷ z)
        (λ sense s b. ap (λ m. m ∷ names_others reader.source.now sense b) (sym (got.means sense s).0))
        (λ rest. now ++ rest)
        (λ z. sym (append_assoc items (n ∷ []) z) ∙ ap (λ ns. ns ++ z) (sym is));
  }

  pub names_got : (v : Vec ℕ Global) → Names limit v.items reader start old new at → leads productions look_ahead (token Comma) (seen_from reader at) ≡ false → IsGot limit (AreNames reader.source.now) (the NameList) reader start old new v at
  names_got v l unled = loop_got l.looping (unled_next (is Comma) name (seen_from reader at) unled) (AreNames reader.source.now) v (λ sense tree h. sym (h ∙ append-nil v.items))

  pub names_refuses : {items : List ℕ} → Names limit items reader start old new at → {following : ℕ} {t : Token} {last : Tables} {e : SyntaxFaultOrMemory} → IsNext (is Comma) reader at t following → Refuses limit reader.source.now name last (read_state_of reader.unclosed new) (seen_from reader following) e →
      Refuses limit reader.source.now (the NameList) last (read_state_of reader.unclosed old) (seen_from reader start) e
  names_refuses l next r = loop_refuses l.looping (leads_next name next) (refuses_second (gives_next new next refl) r)

-- some arguments were read
pub record Arguments (limit : ℕ) (views : List (Mark × Syntax Number)) (reader : Reader) (start : ℕ) (old new : Tables) (at : ℕ) : Type 0 where
  pub looping : Looping limit (the ExpressionList) (token Comma · the Expression) (in_sense reader.source.now arguments) (in_sense reader.source.now more_arguments) (parts_before views) reader start old new at

module _ {F : Type 0} {value : F → Number} {limit : ℕ} {reader : Reader} {start : ℕ} {old new : Tables} {at : ℕ} where
  pub arguments_start : {e : Expr F} → IsGot limit (IsMeant value reader.source.now expression) (the Expression) reader start old new e at → (views : List (Mark × Syntax Number)) → views ≡ (plain, view value e) ∷ [] → Arguments limit views reader start old new at
  arguments_start got views is = record {
    looping = record {
      context = λ b. node (pair got.tree b);
      within = within_then (within_the ExpressionList) (within_second got.gives);
      means = λ sense s b. ap (λ x. part plain x (in_sense reader.source.now more_arguments sense b)) (sym (got.means sense s).is) ∙ ap (λ vs. parts_before vs (in_sense reader.source.now more_arguments sense b)) (sym is);
      further = got.further;
    };
  }

  pub arguments_on : {views : List (Mark × Syntax Number)} → Arguments limit views reader start old new at → {newer : Tables} {following after : ℕ} {t : Token} {e : Expr F} (next : IsNext (is Comma) reader at t following) →
      IsGot limit (IsMeant value reader.source.now expression) (the Expression) reader following new newer e after → (now : List (Mark × Syntax Number)) → now ≡ views ++ (plain, view value e) ∷ [] → Arguments limit now reader start old newer after
  arguments_on {views = views} l {e = e} next got now is = record {
    looping =
        loop_on l.looping (leads_next (the Expression) next) (gives_both (gives_next new next refl) got.gives) (let f = got.further in let g = next.further in omega arith) (λ z. part plain (view value e) z)
        (λ sense s b. ap (λ x. part plain x (in_sense reader.source.now more_arguments sense b)) (sym (got.means sense s).is))
        (parts_before now)
        (λ z. parts_before_push views plain (view value e) z ∙ ap (λ vs. parts_before vs z) (sym is));
  }
