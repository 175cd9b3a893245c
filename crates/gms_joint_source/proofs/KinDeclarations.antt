-- Declarations mean the same in two sources that a derivation is kin in.
use Rattle.std.proofs.Common.{◌≡◌, ℕ, Bool, false, List, [], ◌∷◌, Option, Some, refl, ap, ap₂}
use Rattle.gq_number.specs.Number.{Number as Rational}
use Rattle.gq_extended.specs.declared.extended.Ext.{Ext}
use Rattle.gms_labels.specs.declared.place.Place.{Place}
use Rattle.gms_lex.specs.TokenTexts.{token_text}
use Rattle.gms_ast.specs.declared.word.Named.{Named}
use Rattle.gms_ast.specs.declared.declaration.DeclKind.{DeclKind}
use Rattle.gms_ast.specs.declared.declaration.DeclKind.TheVariants as kind
use Rattle.gms_ast.specs.declared.declaration.Decl.{Decl}
use Rattle.gms_ast.specs.declared.declaration.Item.{Item}
use Rattle.gms_ast.specs.declared.declaration.ModelDecl.{ModelDecl}
use Rattle.gms_ast.specs.StatementTrees.{declares, declares_models}
use Rattle.gms_grammar.specs.declared.terminal.Terminal.{Terminal}
use Rattle.gms_grammar.specs.declared.terminal.Terminal.TheVariants as terminal
use Rattle.gms_grammar.specs.Grammar.{one, the, ◌·◌, ◌∣◌, opt, many, node}
use Rattle.gms_grammar.specs.GamsGrammar.{Nonterminal, Value, SetList, ParameterList, SetStatement, SetItems, SetItem, ParameterStatement, ParameterItems, ParameterItem, ScalarStatement, ScalarItems, ScalarItem, TableStatement, VariableStatement, EquationStatement, PlainItems, PlainItem, ModelStatement, ModelItems, ModelItem, ModelList, Domain, DomainList, DomainPosition, productions, token, name, items}
use Rattle.gms_expressions.specs.ExpressionTrees.{token_of, second_in, inside, place_in}
use Rattle.gms_parse.specs.DataLists.{each_in, listed_in, optional_in, between, elements_in, parameter_items, scalar_in}
use Rattle.gms_parse.specs.Declarations.{items_in, further_items, variable_kind, named_in, position_in, domain_in, optional_domain, plain_in, has_all, equations_in, model_in, variable_act, equation_act, model_act, set_in, parameter_in, scalar_item_in, set_act, parameter_act, scalar_act, table_act}
use Rattle.gms_joint_source.proofs.Kin.{ap₃, Derivation, GamsPart, Kin, of_node, of_both, of_left, of_right, of_none, of_some, of_nil, of_more, Within, Rule, everywhere, text_kin, name_kin}
use Rattle.gms_joint_source.proofs.KinLists.{item_at, list_kin, SaysData, data_same}

-- a name at a place
abbrev pub named_at : Place → ℕ → Named
named_at at name = record { at = at; name = name }

-- a name that is declared
abbrev pub declared_so : Named → List (Option Named) → List (Item Rational) → Decl Rational
declared_so named domain items = record { named = named; domain = domain; items = items }

-- a model that is declared
abbrev modelled_so : Named → Bool → List Named → ModelDecl
modelled_so named all equations = record { named = named; all = all; equations = equations }

module _ (first second : List ℕ) (names wider labels larger : List (List ℕ)) where
  abbrev K : GamsPart → Derivation → Type 0
  K part tree = Kin first second names wider labels larger part tree

  abbrev Inside : (Nonterminal → Derivation → Type 0) → {p : GamsPart} {tree : Derivation} → K p tree → Type 0
  Inside Says k = Within first second names wider labels larger Says k

  -- the claims for the data within
  abbrev Data : {p : GamsPart} {tree : Derivation} → K p tree → Type 0
  Data k = Within first second names wider labels larger (SaysData first second names wider labels larger) k

  -- ---- claims for declarations

  abbrev pub SaysDeclared : Nonterminal → Derivation → Type 0
  SaysDeclared DomainPosition tree = position_in first names labels tree ≡ position_in second wider larger tree
  SaysDeclared DomainList tree = listed_in (position_in first names labels) (inside tree) ≡ listed_in (position_in second wider larger) (inside tree)
  SaysDeclared Domain tree = domain_in first names labels tree ≡ domain_in second wider larger tree
  SaysDeclared SetItem tree = set_in first names labels tree ≡ set_in second wider larger tree
  SaysDeclared SetItems tree = items_in (set_in first names labels) tree ≡ items_in (set_in second wider larger) tree
  SaysDeclared SetStatement tree = set_act first names labels tree ≡ set_act second wider larger tree
  SaysDeclared ParameterItem tree = parameter_in first names labels tree ≡ parameter_in second wider larger tree
  SaysDeclared ParameterItems tree = items_in (parameter_in first names labels) tree ≡ items_in (parameter_in second wider larger) tree
  SaysDeclared ParameterStatement tree = parameter_act first names labels tree ≡ parameter_act second wider larger tree
  SaysDeclared ScalarItem tree = scalar_item_in first names labels tree ≡ scalar_item_in second wider larger tree
  SaysDeclared ScalarItems tree = items_in (scalar_item_in first names labels) tree ≡ items_in (scalar_item_in second wider larger) tree
  SaysDeclared ScalarStatement tree = scalar_act first names labels tree ≡ scalar_act second wider larger tree
  SaysDeclared TableStatement tree = table_act first names labels tree ≡ table_act second wider larger tree
  SaysDeclared PlainItem tree = plain_in first names labels tree ≡ plain_in second wider larger tree
  SaysDeclared PlainItems tree = items_in (plain_in first names labels) tree ≡ items_in (plain_in second wider larger) tree
  SaysDeclared VariableStatement tree = variable_act first names labels tree ≡ variable_act second wider larger tree
  SaysDeclared EquationStatement tree = equation_act first names labels tree ≡ equation_act second wider larger tree
  SaysDeclared ModelList tree =
      (has_all first names labels (inside tree) ≡ has_all second wider larger (inside tree)) × (equations_in first names labels (inside tree) ≡ equations_in second wider larger (inside tree))
  SaysDeclared ModelItem tree = model_in first names labels tree ≡ model_in second wider larger tree
  SaysDeclared ModelItems tree = items_in (model_in first names labels) tree ≡ items_in (model_in second wider larger) tree
  SaysDeclared ModelStatement tree = model_act first names labels tree ≡ model_act second wider larger tree
  SaysDeclared _ tree = Unit {0}

  -- ---- names, lists of names, and items

  pub named_kin : {tree : Derivation} → K name tree → named_in first names labels tree ≡ named_in second wider larger tree
  named_kin {tree = tree} k = ap (λ n. named_at (token_of tree).at n) (name_kin first second names wider labels larger k)

  more_named : {test : Terminal → Bool} {tree : Derivation} → K (many (one test · name)) tree → each_in (λ other. named_in first names labels (second_in other)) tree ≡ each_in (λ other. named_in second wider larger (second_in other)) tree
  more_named of_nil = refl
  more_named (of_more (of_both sign it) others) = ap₂ (λ x xs. x ∷ xs) (named_kin it) (more_named others)

  -- items after an item
  further_kin : {A : Type 0} {again : Nonterminal} (f g : Derivation → A) → ((t : Derivation) → SaysDeclared again t → items_in f t ≡ items_in g t) → {tree : Derivation} (k : K (opt (token terminal.Comma · the again ∣ token terminal.Break · opt (the again))) tree) → Inside SaysDeclared k → further_items f tree ≡ further_items g tree
  further_kin f g h of_none w = refl
  further_kin f g h (of_some (of_left (of_both comma (of_node k _)))) w = h _ w.1.1
  further_kin f g h (of_some (of_right (of_both end of_none))) w = refl
  further_kin f g h (of_some (of_right (of_both end (of_some (of_node k _))))) w = h _ w.1.1

  -- items mean the same, where each does
  items_kin : {A : Type 0} {item again : Nonterminal} (f g : Derivation → A) → ((t : Derivation) → SaysDeclared item t → f t ≡ g t) → ((t : Derivation) → SaysDeclared again t → items_in f t ≡ items_in g t) → {tree : Derivation} (k : K (items item again) tree) → Inside SaysDeclared k → items_in f (node tree) ≡ items_in g (node tree)
  items_kin f g single all (of_both (of_node it _) others) w = ap₂ (λ x xs. x ∷ xs) (single _ w.0.1) (further_kin f g all others w.1)

  -- ---- domains

  of_position : {tree : Derivation} (k : K (productions DomainPosition) tree) → SaysDeclared DomainPosition (node tree)
  of_position (of_left k) = refl
  of_position (of_right k) = ap Some (named_kin k)

  of_domain_list : {tree : Derivation} (k : K (productions DomainList) tree) → Inside SaysDeclared k → SaysDeclared DomainList (node tree)
  of_domain_list k w = list_kin first second names wider labels larger SaysDeclared (position_in first names labels) (position_in second wider larger) (λ t s. s) k w

  of_domain : {tree : Derivation} (k : K (productions Domain) tree) → Inside SaysDeclared k → SaysDeclared Domain (node tree)
  of_domain (of_both opening (of_both (of_node it _) closing)) w = w.1.0.1

  domain_kin : {tree : Derivation} (k : K (opt (the Domain)) tree) → Inside SaysDeclared k → optional_domain first names labels tree ≡ optional_domain second wider larger tree
  domain_kin of_none w = refl
  domain_kin (of_some (of_node it _)) w = w.1

  -- ---- sets, parameters and scalars

  -- data between slashes
  set_data : {tree : Derivation} (k : K (opt (token terminal.Slash · the SetList · token terminal.Slash)) tree) → Data k → optional_in [] (λ list. elements_in first labels (between list)) tree ≡ optional_in [] (λ list. elements_in second larger (between list)) tree
  set_data of_none d = refl
  set_data (of_some (of_both opening (of_both (of_node it _) closing))) d = d.1.0.1

  parameter_data : {tree : Derivation} (k : K (opt (token terminal.Slash · the ParameterList · token terminal.Slash)) tree) → Data k → optional_in [] (λ list. parameter_items first labels (between list)) tree ≡ optional_in [] (λ list. parameter_items second larger (between list)) tree
  parameter_data of_none d = refl
  parameter_data (of_some (of_both opening (of_both (of_node it _) closing))) d = d.1.0.1

  scalar_data : {tree : Derivation} (k : K (opt (token terminal.Slash · the Value · token terminal.Slash)) tree) → Data k → optional_in [] (λ list. scalar_in first labels (between list)) tree ≡ optional_in [] (λ list. scalar_in second larger (between list)) tree
  scalar_data of_none d = refl
  scalar_data (of_some (of_both opening (of_both {a = it} (of_node k _) closing))) d = ap (λ (v : Ext Rational). item_at (place_in it) [] (Some v) false ∷ []) d.1.0.1

  of_set_item : {tree : Derivation} (k : K (productions SetItem) tree) → Data k → Inside SaysDeclared k → SaysDeclared SetItem (node tree)
  of_set_item (of_both it (of_both domain list)) d w = ap₃ declared_so (named_kin it) (domain_kin domain w.1.0) (set_data list d.1.1)

  of_parameter_item : {tree : Derivation} (k : K (productions ParameterItem) tree) → Data k → Inside SaysDeclared k → SaysDeclared ParameterItem (node tree)
  of_parameter_item (of_both it (of_both domain list)) d w = ap₃ declared_so (named_kin it) (domain_kin domain w.1.0) (parameter_data list d.1.1)

  of_scalar_item : {tree : Derivation} (k : K (productions ScalarItem) tree) → Data k → SaysDeclared ScalarItem (node tree)
  of_scalar_item (of_both it list) d = ap₂ (λ (n : Named) (is : List (Item Rational)). declared_so n [] is) (named_kin it) (scalar_data list d.1)

  of_set_statement : {tree : Derivation} (k : K (productions SetStatement) tree) → Inside SaysDeclared k → SaysDeclared SetStatement (node tree)
  of_set_statement (of_both word (of_node it _)) w = ap (λ (is : List (Decl Rational)). declares kind.Set is) w.1.1

  of_parameter_statement : {tree : Derivation} (k : K (productions ParameterStatement) tree) → Inside SaysDeclared k → SaysDeclared ParameterStatement (node tree)
  of_parameter_statement (of_both word (of_node it _)) w = ap (λ (is : List (Decl Rational)). declares kind.Parameter is) w.1.1

  of_scalar_statement : {tree : Derivation} (k : K (productions ScalarStatement) tree) → Inside SaysDeclared k → SaysDeclared ScalarStatement (node tree)
  of_scalar_statement (of_both word (of_node it _)) w = ap (λ (is : List (Decl Rational)). declares kind.Scalar is) w.1.1

  -- the items of a table are given
  of_table : {tree : Derivation} (k : K (productions TableStatement) tree) → SaysData first second names wider labels larger TableStatement (node tree) → Inside SaysDeclared k → SaysDeclared TableStatement (node tree)
  of_table (of_both word (of_both it (of_both (of_node domain _) lines))) given w =
      ap₃ (λ (n : Named) (d : List (Option Named)) (is : List (Item Rational)). declares kind.Table (declared_so n d is ∷ [])) (named_kin it) w.1.1.0.1 given

  -- ---- variables, equations and models

  of_plain_item : {tree : Derivation} (k : K (productions PlainItem) tree) → Inside SaysDeclared k → SaysDeclared PlainItem (node tree)
  of_plain_item (of_both it domain) w = ap₂ (λ (n : Named) (d : List (Option Named)). declared_so n d []) (named_kin it) (domain_kin domain w.1)

  -- the kind that a type before the keyword gives
  kind_kin : {test : Terminal → Bool} {tree : Derivation} → K (opt (one test)) tree → optional_in kind.Free (λ word. variable_kind (token_text first (token_of word))) tree ≡ optional_in kind.Free (λ word. variable_kind (token_text second (token_of word))) tree
  kind_kin of_none = refl
  kind_kin (of_some k) = ap variable_kind (text_kin first second names wider labels larger k)

  of_variable : {tree : Derivation} (k : K (productions VariableStatement) tree) → Inside SaysDeclared k → SaysDeclared VariableStatement (node tree)
  of_variable (of_both type (of_both word (of_node it _))) w = ap₂ (λ (c : DeclKind) (is : List (Decl Rational)). declares c is) (kind_kin type) w.1.1.1

  of_equation : {tree : Derivation} (k : K (productions EquationStatement) tree) → Inside SaysDeclared k → SaysDeclared EquationStatement (node tree)
  of_equation (of_both word (of_node it _)) w = ap (λ (is : List (Decl Rational)). declares kind.Equation is) w.1.1

  of_model_list : {tree : Derivation} (k : K (productions ModelList) tree) → SaysDeclared ModelList (node tree)
  of_model_list (of_left k) = (refl, refl)
  of_model_list (of_right (of_both it others)) = (refl, ap₂ (λ x xs. x ∷ xs) (named_kin it) (more_named others))

  -- the part between the slashes of a model
  model_data : {tree : Derivation} (k : K (opt (token terminal.Slash · the ModelList · token terminal.Slash)) tree) → Inside SaysDeclared k →
      (optional_in false (λ list. has_all first names labels (inside (between list))) tree ≡ optional_in false (λ list. has_all second wider larger (inside (between list))) tree)
      × (optional_in [] (λ list. equations_in first names labels (inside (between list))) tree ≡ optional_in [] (λ list. equations_in second wider larger (inside (between list))) tree)
  model_data of_none w = (refl, refl)
  model_data (of_some (of_both opening (of_both (of_node it _) closing))) w = w.1.0.1

  of_model_item : {tree : Derivation} (k : K (productions ModelItem) tree) → Inside SaysDeclared k → SaysDeclared ModelItem (node tree)
  of_model_item (of_both it list) w = let d = model_data list w.1 in ap₃ modelled_so (named_kin it) d.0 d.1

  of_model : {tree : Derivation} (k : K (productions ModelStatement) tree) → Inside SaysDeclared k → SaysDeclared ModelStatement (node tree)
  of_model (of_both word (of_node it _)) w = ap (λ (is : List ModelDecl). declares_models is) w.1.1

  -- ---- all of them

  pub declared_rule : Rule first second names wider labels larger SaysDeclared
  declared_rule DomainPosition tree k a w = of_position k
  declared_rule DomainList tree k a w = of_domain_list k w
  declared_rule Domain tree k a w = of_domain k w
  declared_rule SetItem tree k a w = of_set_item k (data_same first second names wider labels larger k) w
  declared_rule SetItems tree k a w = items_kin {item = SetItem} {again = SetItems} (set_in first names labels) (set_in second wider larger) (λ t s. s) (λ t s. s) k w
  declared_rule SetStatement tree k a w = of_set_statement k w
  declared_rule ParameterItem tree k a w = of_parameter_item k (data_same first second names wider labels larger k) w
  declared_rule ParameterItems tree k a w = items_kin {item = ParameterItem} {again = ParameterItems} (parameter_in first names labels) (parameter_in second wider larger) (λ t s. s) (λ t s. s) k w
  declared_rule ParameterStatement tree k a w = of_parameter_statement k w
  declared_rule ScalarItem tree k a w = of_scalar_item k (data_same first second names wider labels larger k)
  declared_rule ScalarItems tree k a w = items_kin {item = ScalarItem} {again = ScalarItems} (scalar_item_in first names labels) (scalar_item_in second wider larger) (λ t s. s) (λ t s. s) k w
  declared_rule ScalarStatement tree k a w = of_scalar_statement k w
  declared_rule TableStatement tree k a w = of_table k a w
  declared_rule PlainItem tree k a w = of_plain_item k w
  declared_rule PlainItems tree k a w = items_kin {item = PlainItem} {again = PlainItems} (plain_in first names labels) (plain_in second wider larger) (λ t s. s) (λ t s. s) k w
  declared_rule VariableStatement tree k a w = of_variable k w
  declared_rule EquationStatement tree k a w = of_equation k w
  declared_rule ModelList tree k a w = of_model_list k
  declared_rule ModelItem tree k a w = of_model_item k w
  declared_rule ModelItems tree k a w = items_kin {item = ModelItem} {again = ModelItems} (model_in first names labels) (model_in second wider larger) (λ t s. s) (λ t s. s) k w
  declared_rule ModelStatement tree k a w = of_model k w
  declared_rule _ tree k a w = tt

  -- declarations within a derivation mean the same in both
  pub declared_same : {p : GamsPart} {tree : Derivation} (k : K p tree) → Inside SaysDeclared k
  declared_same k = everywhere first second names wider labels larger SaysDeclared declared_rule k
