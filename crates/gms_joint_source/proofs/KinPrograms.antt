-- A program means the same statements in two sources that its derivation is kin in.
use Rattle.std.proofs.Common.{◌≡◌, ℕ, List, refl, ap₂}
use Rattle.gq_number.specs.Number.{Number as Rational}
use Rattle.gms_ast.specs.Trees.{Control}
use Rattle.gms_ast.specs.StatementTrees.{Act, loops, Statements, statement, followed_by}
use Rattle.gms_grammar.specs.declared.terminal.Terminal.TheVariants as terminal
use Rattle.gms_grammar.specs.Grammar.{the, ◌·◌, ◌∣◌, opt, many, node}
use Rattle.gms_grammar.specs.GamsGrammar.{Nonterminal, Program, Segment, KeywordStatement, InnerStatement, LoopStatement, LoopBody, DisplayStatement, OptionStatement, SolveStatement, AbortStatement, productions, token}
use Rattle.gms_expressions.specs.ExpressionTrees.{place_in}
use Rattle.gms_parse.specs.Programs.{loop_act, loop_body, after_semicolon, inner_act, display_or_other, keyword_act, keyword_statements, segment, segments, statements_of}
use Rattle.gms_joint_source.proofs.Kin.{Derivation, GamsPart, Kin, of_node, of_both, of_left, of_right, of_none, of_some, of_nil, of_more, Within, Rule, everywhere, Same, all_same}
use Rattle.gms_joint_source.proofs.KinDeclarations.{SaysDeclared, declared_same}
use Rattle.gms_joint_source.proofs.KinStatements.{SaysActed, acted_same}

module _ (first second : List ℕ) (names wider labels larger : List (List ℕ)) where
  abbrev K : GamsPart → Derivation → Type 0
  K part tree = Kin first second names wider labels larger part tree

  abbrev Inside : (Nonterminal → Derivation → Type 0) → {p : GamsPart} {tree : Derivation} → K p tree → Type 0
  Inside Says k = Within first second names wider labels larger Says k

  -- the claims for the expressions, the declarations and the other statements within
  abbrev Terms : {p : GamsPart} {tree : Derivation} → K p tree → Type 0
  Terms k = Within first second names wider labels larger (Same first second names wider labels larger) k

  abbrev Declared : {p : GamsPart} {tree : Derivation} → K p tree → Type 0
  Declared k = Within first second names wider labels larger (SaysDeclared first second names wider labels larger) k

  abbrev Acted : {p : GamsPart} {tree : Derivation} → K p tree → Type 0
  Acted k = Within first second names wider labels larger (SaysActed first second names wider labels larger) k

  -- ---- claims for programs

  abbrev pub SaysRun : Nonterminal → Derivation → Type 0
  SaysRun LoopStatement tree = loop_act first names labels tree ≡ loop_act second wider larger tree
  SaysRun LoopBody tree = loop_body first names labels tree ≡ loop_body second wider larger tree
  SaysRun InnerStatement tree = inner_act first names labels tree ≡ inner_act second wider larger tree
  SaysRun KeywordStatement tree = keyword_act first names labels tree ≡ keyword_act second wider larger tree
  SaysRun Segment tree = segment first names labels tree ≡ segment second wider larger tree
  SaysRun Program tree = statements_of first names labels tree ≡ statements_of second wider larger tree
  SaysRun _ tree = Unit {0}

  -- ---- loops

  of_loop : {tree : Derivation} (k : K (productions LoopStatement) tree) → Terms k → Inside SaysRun k → SaysRun LoopStatement (node tree)
  of_loop (of_both sign (of_both opening (of_both (of_both (of_node sets _) (of_both comma (of_node body _))) closing))) e w =
      ap₂ (λ (c : Control Rational) (s : Statements Rational). loops c s) e.1.1.0.0.1 w.1.1.0.1.1.1

  after_same : {tree : Derivation} (k : K (opt (token terminal.Semicolon · opt (the LoopBody))) tree) → Inside SaysRun k → after_semicolon first names labels tree ≡ after_semicolon second wider larger tree
  after_same of_none w = refl
  after_same (of_some (of_both sign of_none)) w = refl
  after_same (of_some (of_both sign (of_some (of_node it _)))) w = w.1.1

  of_body : {tree : Derivation} (k : K (productions LoopBody) tree) → Inside SaysRun k → SaysRun LoopBody (node tree)
  of_body (of_both (of_node {tree = tree} it _) others) w =
      ap₂ (λ (act : Act Rational) (rest : Statements Rational). statement (place_in (node tree)) act rest) w.0.1 (after_same others w.1)

  -- a display, options, a solve, an abort, or a loop
  other_same : {tree : Derivation} (k : K (the DisplayStatement ∣ the OptionStatement ∣ the SolveStatement ∣ the AbortStatement ∣ the LoopStatement) tree) → Acted k → Inside SaysRun k → display_or_other first names labels tree ≡ display_or_other second wider larger tree
  other_same (of_left (of_node it _)) s w = s.1
  other_same (of_right (of_left (of_node it _))) s w = s.1
  other_same (of_right (of_right (of_left (of_node it _)))) s w = s.1
  other_same (of_right (of_right (of_right (of_left (of_node it _))))) s w = s.1
  other_same (of_right (of_right (of_right (of_right (of_node it _))))) s w = w.1

  of_inner : {tree : Derivation} (k : K (productions InnerStatement) tree) → Acted k → Inside SaysRun k → SaysRun InnerStatement (node tree)
  of_inner (of_left (of_node it _)) s w = s.1
  of_inner (of_right k) s w = other_same k s w

  -- ---- programs

  of_keyword : {tree : Derivation} (k : K (productions KeywordStatement) tree) → Declared k → Acted k → Inside SaysRun k → SaysRun KeywordStatement (node tree)
  of_keyword (of_left (of_node it _)) d s w = d.1
  of_keyword (of_right (of_left (of_node it _))) d s w = d.1
  of_keyword (of_right (of_right (of_left (of_node it _)))) d s w = d.1
  of_keyword (of_right (of_right (of_right (of_left (of_node it _))))) d s w = d.1
  of_keyword (of_right (of_right (of_right (of_right (of_left (of_node it _)))))) d s w = d.1
  of_keyword (of_right (of_right (of_right (of_right (of_right (of_left (of_node it _))))))) d s w = d.1
  of_keyword (of_right (of_right (of_right (of_right (of_right (of_right (of_left (of_node it _)))))))) d s w = d.1
  of_keyword (of_right (of_right (of_right (of_right (of_right (of_right (of_right (of_left (of_node it _))))))))) d s w = s.1
  of_keyword (of_right (of_right (of_right (of_right (of_right (of_right (of_right (of_right k)))))))) d s w = other_same k s w

  keywords_same : {tree : Derivation} (k : K (many (the KeywordStatement)) tree) → Inside SaysRun k → keyword_statements first names labels tree ≡ keyword_statements second wider larger tree
  keywords_same of_nil w = refl
  keywords_same (of_more (of_node {tree = tree} it _) others) w =
      ap₂ (λ (act : Act Rational) (rest : Statements Rational). statement (place_in (node tree)) act rest) w.0.1 (keywords_same others w.1)

  of_segment : {tree : Derivation} (k : K (productions Segment) tree) → Acted k → Inside SaysRun k → SaysRun Segment (node tree)
  of_segment (of_both of_none others) s w = keywords_same others w.1
  of_segment (of_both (of_some (of_node {tree = tree} it _)) others) s w =
      ap₂ (λ (act : Act Rational) (rest : Statements Rational). statement (place_in (node tree)) act rest) s.0.1 (keywords_same others w.1)

  segments_same : {tree : Derivation} (k : K (many (token terminal.Semicolon · the Segment)) tree) → Inside SaysRun k → segments first names labels tree ≡ segments second wider larger tree
  segments_same of_nil w = refl
  segments_same (of_more (of_both sign (of_node it _)) others) w =
      ap₂ (λ (s rest : Statements Rational). followed_by s rest) w.0.1.1 (segments_same others w.1)

  of_program : {tree : Derivation} (k : K (productions Program) tree) → Inside SaysRun k → SaysRun Program (node tree)
  of_program (of_both (of_node it _) others) w = ap₂ (λ (s rest : Statements Rational). followed_by s rest) w.0.1 (segments_same others w.1)

  -- ---- all of them

  pub run_rule : Rule first second names wider labels larger SaysRun
  run_rule LoopStatement tree k a w = of_loop k (all_same first second names wider labels larger k) w
  run_rule LoopBody tree k a w = of_body k w
  run_rule InnerStatement tree k a w = of_inner k (acted_same first second names wider labels larger k) w
  run_rule KeywordStatement tree k a w = of_keyword k (declared_same first second names wider labels larger k) (acted_same first second names wider labels larger k) w
  run_rule Segment tree k a w = of_segment k (acted_same first second names wider labels larger k) w
  run_rule Program tree k a w = of_program k w
  run_rule _ tree k a w = tt

  said_at : {tree : Derivation} (k : K (the Program) tree) → Inside SaysRun k → SaysRun Program tree
  said_at (of_node k a) w = w.1

  -- a program means the same statements in both
  pub statements_same : {tree : Derivation} → K (the Program) tree → statements_of first names labels tree ≡ statements_of second wider larger tree
  statements_same k = said_at k (everywhere first second names wider labels larger SaysRun run_rule k)
