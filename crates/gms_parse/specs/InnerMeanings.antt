-- What was read of a part is what its derivation means.
use Rattle.std.specs.Prelude.{◌≡◌, ◌⊎◌, ℕ, Bool, true, false, not, ◌&&◌, ◌||◌, if◌then◌else◌, List, [], ◌∷◌, ◌++◌, map, Option, Some, None, option_map, Vec}
use Rattle.std.specs.declared.alloc.Global.{Global}
use Rattle.gms_labels.specs.declared.place.Place.{Place}
use Rattle.gms_labels.specs.Labels.{place_of}
use Rattle.gms_grammar.specs.declared.kind.Kind.TheVariants as token_kind
use Rattle.gms_lex.specs.declared.token.Token.{Token}
use Rattle.gms_lex.specs.TokenTexts.{token_text, unquoted, IsPlaced}
use Rattle.gms_set.specs.Ranges.{is_range}
use Rattle.gq_number.specs.Number.{Number}
use Rattle.gq_extended.specs.declared.extended.Ext.{Ext}
use Rattle.gms_grammar.specs.Grammar.{the, ◌∣◌}
use Rattle.gms_grammar.specs.GamsGrammar.{Nonterminal, DisplayStatement, OptionStatement, SolveStatement, AbortStatement, LoopStatement, Element, Entry, SetList, ParameterList, SetItem, SetItems, ParameterItem, ParameterItems, ScalarItem, ScalarItems, PlainItem, PlainItems, token}
use Rattle.gms_ast.specs.declared.word.Named.{Named}
use Rattle.gms_ast.specs.declared.word.Word.{Word}
use Rattle.gms_ast.specs.declared.expression.Expr.{Expr}
use Rattle.gms_ast.specs.declared.expression.Control.{Control as ControlNode}
use Rattle.gms_ast.specs.declared.expression.Suffix.{Suffix}
use Rattle.gms_ast.specs.declared.expression.Suffix.TheVariants as suffix
use Rattle.gms_ast.specs.declared.declaration.Decl.{Decl}
use Rattle.gms_ast.specs.declared.declaration.DeclKind.{DeclKind}
use Rattle.gms_ast.specs.declared.declaration.DeclKind.TheVariants as decl_kind
use Rattle.gms_ast.specs.declared.declaration.Item.{Item}
use Rattle.gms_ast.specs.declared.declaration.ModelDecl.{ModelDecl}
use Rattle.gms_ast.specs.declared.program.Act.{Act as ActNode}
use Rattle.gms_ast.specs.declared.program.Act.TheFolds.{fold-Act}
use Rattle.gms_ast.specs.declared.program.Setting.{Setting}
use Rattle.gms_ast.specs.declared.program.Side.{Side}
use Rattle.gms_ast.specs.declared.program.Show.{Show}
use Rattle.gms_ast.specs.declared.program.Stmt.{Stmt}
use Rattle.gms_ast.specs.declared.program.Target.{Target as TargetNode}
use Rattle.gms_ast.specs.Trees.{Tree as Syntax, not_so, Indices, no_index, label, set, lagged}
use Rattle.gms_ast.specs.TreeView.{control_tree}
use Rattle.gms_ast.specs.Numbers.{control_in_numbers}
use Rattle.gms_ast.specs.StatementTrees.{Act, declares, assigns, defines, Statements, Target, Sides}
use Rattle.gms_ast.specs.StatementView.{extended_in, item_in, declared_in, setting_in, shown_tree, shown_indices, shown_target, statements_in_order, act_view_step, statement_view_step, statement_view}
use Rattle.gms_expressions.specs.ExpressionTrees.{or_0, negated_by, negated_primary, expression, primary, control, suffix_in, first_in, second_in, inside as inside_of, place_in, token_of}
use Rattle.gms_parse.specs.declared.fault.SourceError.TheVariants.{Syntax as in_syntax}
use Rattle.gms_expressions.specs.declared.fault.SyntaxError.TheVariants.{TooManyLabels}
use Rattle.gms_parse.specs.declared.fault.SourceFaultOrMemory.{SourceFaultOrMemory}
use Rattle.gms_parse.specs.declared.fault.SourceFaultOrMemory.TheVariants.{Fault, Memory}
use Rattle.gms_parse.specs.declared.assign.Relation.{Relation}
use Rattle.gms_parse.specs.declared.reader.Tables.{Tables}
use Rattle.gms_parse.specs.declared.data.ListOf.{ListOf}
use Rattle.gms_parse.specs.declared.data.ListOf.TheVariants as list
use Rattle.gms_parse.specs.declared.data.Part.{Part as Position}
use Rattle.gms_parse.specs.declared.data.Element.{Element as ElementNode}
use Rattle.gms_parse.specs.declared.declaration.Form.{Form}
use Rattle.gms_parse.specs.declared.declaration.Form.TheVariants as form
use Rattle.gms_parse.specs.DataLists.{listed_in, optional_in, between, any_true, opposed, signed_value, labels_in_range, is_bad_range, labels_in_part, has_bad_range, value_of_token, parsed_value, item_of, parameter_item, elements_in, parameter_items, scalar_in}
use Rattle.gms_parse.specs.Declarations.{variable_kind, items_in, named_in, position_in, domain_in, optional_domain, plain_in, has_all, equations_in, model_in, set_in, parameter_in, scalar_item_in}
use Rattle.gms_parse.specs.Statements.{bytes_in, word_in, parsed_shown, shown_list, parsed_setting as setting_of, condition_in, target_in, side_of, sides_in, is_maximizing}
use Rattle.gms_parse.specs.Programs.{loop_body, inner_act, named_first, segment, statements_of}
use Rattle.gms_table.specs.WordLabels.{all_entered}
use Rattle.gms_parse.specs.ReadStates.{ExceedsTable, range_texts}
use Rattle.gms_parse.specs.InnerReadings.{Derivation, GamsPart, Sense}

module _ (source : List ℕ) (sense : Sense) (tree : Derivation) where
  -- ---- names and words

  abbrev pub IsNamed : Named → Type 0
  IsNamed named = named ≡ named_in source sense.names sense.labels tree

  abbrev pub IsWord : Word → Type 0
  IsWord word = word ≡ word_in source sense.names sense.labels tree

  -- the word after `using`
  abbrev pub IsMethod : Word → Type 0
  IsMethod word = word ≡ word_in source sense.names sense.labels (second_in tree)

  -- a direction, and what is optimized
  abbrev pub IsObjective : Bool × Named → Type 0
  IsObjective found =
      (found.0 ≡ is_maximizing (bytes_in source sense.names sense.labels (first_in tree))) × (found.1 ≡ named_in source sense.names sense.labels (second_in tree))

  abbrev pub IsSuffix : Suffix → Type 0
  IsSuffix suffix = suffix ≡ suffix_in source sense.names sense.labels tree

  abbrev pub IsShown : Show → Type 0
  IsShown show = show ≡ parsed_shown source sense.names sense.labels tree

  abbrev pub AreShown : List Show → Type 0
  AreShown shows = shows ≡ shown_list source sense.names sense.labels tree

  -- ---- domains and models

  abbrev pub IsPosition : Option Named → Type 0
  IsPosition position = position ≡ position_in source sense.names sense.labels tree

  abbrev pub IsDomain : Vec (Option Named) Global → Type 0
  IsDomain positions = positions.items ≡ domain_in source sense.names sense.labels tree

  abbrev pub IsOptionalDomain : Vec (Option Named) Global → Type 0
  IsOptionalDomain positions = positions.items ≡ optional_domain source sense.names sense.labels tree

  abbrev pub AreEquations : Vec Named Global → Type 0
  AreEquations equations = equations.items ≡ listed_in (named_in source sense.names sense.labels) tree

  -- whether a model has all equations, and which are named
  abbrev pub IsModelList : Bool × Vec Named Global → Type 0
  IsModelList found =
      (found.0 ≡ optional_in false (λ list. has_all source sense.names sense.labels (inside_of (between list))) tree) × (found.1.items ≡ optional_in [] (λ list. equations_in source sense.names sense.labels (inside_of (between list))) tree)

  abbrev pub IsModel : ModelDecl → Type 0
  IsModel model = model ≡ model_in source sense.names sense.labels tree

  -- ---- elements of data

  -- the second position is the first one with a range added
  abbrev pub IsAdded : Position → Position → Type 0
  IsAdded old new =
      (new.labels.items ≡ old.labels.items ++ labels_in_range source sense.labels tree) × (new.bad_range ≡ (old.bad_range || is_bad_range source sense.labels tree))

  abbrev pub IsPart : Position → Type 0
  IsPart part = (part.labels.items ≡ labels_in_part source sense.labels tree) × (part.bad_range ≡ has_bad_range source sense.labels tree)

  abbrev pub IsElement : ElementNode → Type 0
  IsElement element =
      (element.at ≡ place_in tree) × (element.parts.items ≡ listed_in (labels_in_part source sense.labels) (inside_of tree)) × (element.bad_range ≡ any_true (listed_in (has_bad_range source sense.labels) (inside_of tree)))

-- a token that is a label
pub record IsLabelToken (source : List ℕ) (token : Token) : Type 0 where
  pub placed : IsPlaced source token
  pub is : token.kind ≡ token_kind.Label

-- the text of a label
abbrev pub text_of_label : List ℕ → Token → List ℕ
text_of_label source token = unquoted (token_text source token)

-- each of these texts has a place in a table
abbrev pub AreThere : List (List ℕ) → List (List ℕ) → Type 0
AreThere labels [] = Unit {0}
AreThere labels (text ∷ texts) = ((n : ℕ) × (place_of labels text ≡ Some n)) × AreThere labels texts

-- the members of a range were entered and added to a position, which is marked if the range is
-- invalid
pub record IsEnteredRange (source : List ℕ) (old new : Tables) (was now : Position) (first last : Token) : Type 0 where
  pub table : new.labels ≡ all_entered old.labels (range_texts source (text_of_label source first) (text_of_label source last))
  pub within_bound : ExceedsTable old.labels (range_texts source (text_of_label source first) (text_of_label source last)) → ⊥
  pub labels : now.labels.items ≡ was.labels.items ++ map (λ text. or_0 (place_of new.labels text)) (range_texts source (text_of_label source first) (text_of_label source last))
  pub are_there : AreThere new.labels (range_texts source (text_of_label source first) (text_of_label source last))
  pub bad_range : now.bad_range ≡ (was.bad_range || not (is_range (text_of_label source first) (text_of_label source last)))

-- the table is full for a member of a range, or out of memory
pub record IsNotEnteredRange (source : List ℕ) (old : Tables) (first last : Token) (refusal : SourceFaultOrMemory) : Type 0 where
  pub why : (refusal ≡ Memory) ⊎ ((refusal ≡ Fault (record { error = in_syntax TooManyLabels; at = last.at })) × ExceedsTable old.labels (range_texts source (text_of_label source first) (text_of_label source last)))

-- a sign, if any
abbrev pub IsSign : Sense → Derivation → Bool → Type 0
IsSign sense tree minus = (v : Ext Number) → signed_value tree v ≡ (if minus then opposed v else v)

-- whether `not` was read
abbrev pub IsNot : Sense → Derivation → Bool → Type 0
IsNot sense tree not = (operand : Syntax Number) → negated_by tree operand ≡ (if not then not_so operand else operand)

-- ---- lists of data

-- the nonterminal of an item of the list
abbrev pub listed_part : ListOf → Nonterminal
listed_part list.Elements = Element
listed_part list.Entries = Entry

-- the nonterminal of the list
abbrev pub list_part : ListOf → Nonterminal
list_part list.Elements = SetList
list_part list.Entries = ParameterList

-- what an item of the list means
abbrev pub listed_meaning : ListOf → List ℕ → List (List ℕ) → Derivation → Item Number
listed_meaning list.Elements source labels tree = item_of source labels tree None
listed_meaning list.Entries source labels tree = parameter_item source labels tree

-- the items of a list
abbrev pub list_meaning : ListOf → List ℕ → List (List ℕ) → Derivation → List (Item Number)
list_meaning list.Elements source labels tree = elements_in source labels tree
list_meaning list.Entries source labels tree = parameter_items source labels tree

-- ---- declarations

-- the type before `variable`, if any
abbrev pub IsVariableType : List ℕ → Sense → Derivation → DeclKind → Type 0
IsVariableType source sense tree kind = kind ≡ optional_in decl_kind.Free (λ word. variable_kind (token_text source (token_of word))) tree

-- the form of declaration that has such a list
abbrev pub form_of : ListOf → Form
form_of list.Elements = form.Set
form_of list.Entries = form.Parameter

-- the part of the grammar of an item
abbrev pub item_part : Form → Nonterminal
item_part form.Set = SetItem
item_part form.Parameter = ParameterItem
item_part form.Scalar = ScalarItem
item_part form.Plain = PlainItem

-- the part of the grammar of the items
abbrev pub items_part : Form → Nonterminal
items_part form.Set = SetItems
items_part form.Parameter = ParameterItems
items_part form.Scalar = ScalarItems
items_part form.Plain = PlainItems

-- what an item means, for any declaration except a table
abbrev pub item_meaning : Form → List ℕ → List (List ℕ) → List (List ℕ) → Derivation → Decl Number
item_meaning form.Set source names labels tree = set_in source names labels tree
item_meaning form.Parameter source names labels tree = parameter_in source names labels tree
item_meaning form.Scalar source names labels tree = scalar_item_in source names labels tree
item_meaning form.Plain source names labels tree = plain_in source names labels tree

-- the statements that a loop may have besides assignments
abbrev pub other_statement : GamsPart
other_statement = the DisplayStatement ∣ the OptionStatement ∣ the SolveStatement ∣ the AbortStatement ∣ the LoopStatement

-- statements before others
abbrev pub put_before : {F : Type 0} → (F → Number) → List (Stmt F) → Statements Number → Statements Number
put_before value [] others = others
put_before value (x ∷ xs) others = statement_view value x (put_before value xs others)

-- what a statement does
abbrev pub act_view : {F : Type 0} → (F → Number) → ActNode F → Act Number
act_view {F} value act = fold-Act F (Act Number) (Statements Number → Statements Number) (act_view_step value) (statement_view_step value) act

-- ---- assignments and definitions

-- the two sides of a definition, over numbers
abbrev pub shown_sides : {F : Type 0} → (F → Number) → Relation F → Sides Number
shown_sides value relation = record {
  left_at = relation.left_at;
  left = shown_tree value relation.left;
  side = relation.side;
  right_at = relation.right_at;
  right = shown_tree value relation.right;
}

-- some index has a lag
abbrev pub has_lag : {N : Type 0} → Indices N → Bool
has_lag no_index = false
has_lag (label n rest) = has_lag rest
has_lag (set n rest) = has_lag rest
has_lag (lagged name op at amount rest) = true

-- the suffix is absent
abbrev pub is_unsuffixed : Suffix → Bool
is_unsuffixed suffix.None = true
is_unsuffixed _ = false

-- a target that may be defined: it has no suffix, and no index with a lag
abbrev pub is_plain_target : {N : Type 0} → Target N → Bool
is_plain_target target = is_unsuffixed target.suffix && not (has_lag target.indices)

-- Over the numbers of a field.
module _ {F : Type 0} (value : F → Number) (source : List ℕ) where
  abbrev pub IsExpression : Sense → Derivation → Expr F → Type 0
  IsExpression sense tree e = shown_tree value e ≡ expression source sense.names sense.labels tree

  abbrev pub IsOperand : Sense → Derivation → Expr F → Type 0
  IsOperand sense tree e = shown_tree value e ≡ primary source sense.names sense.labels tree

  abbrev pub IsGuard : Sense → Derivation → Expr F → Type 0
  IsGuard sense tree e = shown_tree value e ≡ negated_primary source sense.names sense.labels tree

  abbrev pub IsControl : Sense → Derivation → ControlNode F → Type 0
  IsControl sense tree sets = control_in_numbers value (control_tree sets) ≡ control source sense.names sense.labels tree

  abbrev pub IsTarget : Sense → Derivation → TargetNode F → Type 0
  IsTarget sense tree target = shown_target value target ≡ target_in source sense.names sense.labels tree

  abbrev pub IsCondition : Sense → Derivation → Option (Expr F) → Type 0
  IsCondition sense tree condition = option_map (shown_tree value) condition ≡ condition_in source sense.names sense.labels tree

  -- the value of an item of data
  abbrev pub IsGiven : Sense → Derivation → Ext F → Type 0
  IsGiven sense tree v = extended_in value v ≡ parsed_value source sense.labels (inside_of tree)

  -- the value of an item of data, without a sign
  abbrev pub IsUnsigned : Sense → Derivation → Ext F → Type 0
  IsUnsigned sense tree v = extended_in value v ≡ value_of_token source sense.labels tree

  abbrev pub IsListed : ListOf → Sense → Derivation → Item F → Type 0
  IsListed list sense tree item = item_in value item ≡ listed_meaning list source sense.labels tree

  -- the items of a list, if any
  abbrev pub AreListed : ListOf → Sense → Derivation → Vec (Item F) Global → Type 0
  AreListed list sense tree items = map (item_in value) items.items ≡ optional_in [] (λ tree. list_meaning list source sense.labels (between tree)) tree

  -- the item of a scalar, if it has a value
  abbrev pub IsScalarValue : Sense → Derivation → Vec (Item F) Global → Type 0
  IsScalarValue sense tree items = map (item_in value) items.items ≡ optional_in [] (λ tree. scalar_in source sense.labels (between tree)) tree

  abbrev pub IsDeclared : Form → Sense → Derivation → Decl F → Type 0
  IsDeclared form sense tree declared = declared_in value declared ≡ item_meaning form source sense.names sense.labels tree

  abbrev pub AreDeclared : Form → Sense → Derivation → List (Decl F) → Type 0
  AreDeclared form sense tree declared = map (declared_in value) declared ≡ items_in (item_meaning form source sense.names sense.labels) tree

  -- a keyword and the items after it, as names of this kind
  abbrev pub IsDeclaration : DeclKind → Form → Sense → Derivation → ActNode F → Type 0
  IsDeclaration kind form sense tree act = act_view value act ≡ declares kind (items_in (item_meaning form source sense.names sense.labels) (second_in tree))

  -- a word of options, and what it is set to
  abbrev pub IsSetting : Sense → Derivation → Word × Setting F → Type 0
  IsSetting sense tree found = (found.0, setting_in value found.1) ≡ setting_of source sense.names sense.labels tree

  -- a statement does what its derivation means
  abbrev pub IsAct : (List ℕ → List (List ℕ) → List (List ℕ) → Derivation → Act Number) → Sense → Derivation → ActNode F → Type 0
  IsAct meaning sense tree act = act_view value act ≡ meaning source sense.names sense.labels tree

  -- a right side after its `=`, and its place
  abbrev pub IsRightSide : Sense → Derivation → Place × Expr F → Type 0
  IsRightSide sense tree found = (found.0 ≡ place_in (second_in tree)) × (shown_tree value found.1 ≡ expression source sense.names sense.labels (second_in tree))

  -- how two sides relate, and the right one, with its place
  abbrev pub IsRelated : Sense → Derivation → Side × Place × Expr F → Type 0
  IsRelated sense tree found = (found.0 ≡ side_of (token_of (first_in tree)).kind) × IsRightSide sense tree (found.1, found.2)

  -- the two sides of a definition
  abbrev pub IsRelation : Sense → Derivation → Relation F → Type 0
  IsRelation sense tree relation = shown_sides value relation ≡ sides_in source sense.names sense.labels tree

  -- the assignment to a target, under a condition, of a right side after its `=`
  abbrev pub IsAssigned : TargetNode F → Option (Expr F) → Sense → Derivation → ActNode F → Type 0
  IsAssigned target condition sense tree act =
      act_view value act ≡ assigns (shown_target value target) (option_map (shown_tree value) condition) (place_in (second_in tree)) (expression source sense.names sense.labels (second_in tree))

  -- the definition of an equation, under a condition, by two sides
  abbrev pub IsDefined : TargetNode F → Option (Expr F) → Sense → Derivation → ActNode F → Type 0
  IsDefined equation condition sense tree act =
      act_view value act ≡ defines (record { at = equation.at; name = equation.name }) (shown_indices value equation.indices) (option_map (shown_tree value) condition) (sides_in source sense.names sense.labels tree)

  -- a statement of a loop, at its place
  abbrev pub IsInner : Sense → Derivation → Stmt F → Type 0
  IsInner sense tree statement = (statement.at ≡ place_in tree) × (act_view value statement.act ≡ inner_act source sense.names sense.labels tree)

  abbrev pub IsBody : Sense → Derivation → Vec (Stmt F) Global → Type 0
  IsBody sense tree statements = statements_in_order value (map {B = Statements Number → Statements Number} (statement_view value) statements.items) ≡ loop_body source sense.names sense.labels tree

  -- a statement that begins with a name, if any, appended to these
  abbrev pub IsNamedFirst : Vec (Stmt F) Global → Sense → Derivation → Vec (Stmt F) Global → Type 0
  IsNamedFirst old sense tree new =
      (added : List (Stmt F)) × (new.items ≡ old.items ++ added) × ((others : Statements Number) → put_before value added others ≡ named_first source sense.names sense.labels tree others)

  -- statements that were appended to these
  abbrev pub IsSegment : Vec (Stmt F) Global → Sense → Derivation → Vec (Stmt F) Global → Type 0
  IsSegment old sense tree new =
      (added : List (Stmt F)) × (new.items ≡ old.items ++ added) × (statements_in_order value (map {B = Statements Number → Statements Number} (statement_view value) added) ≡ segment source sense.names sense.labels tree)

  abbrev pub AreStatements : Sense → Derivation → Vec (Stmt F) Global → Type 0
  AreStatements sense tree statements = statements_in_order value (map {B = Statements Number → Statements Number} (statement_view value) statements.items) ≡ statements_of source sense.names sense.labels tree
