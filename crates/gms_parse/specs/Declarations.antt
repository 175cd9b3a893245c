-- What the derivations of declarations mean: names of a kind, each with its domain and its data;
-- and models with their equations (GAMS User's Guide, "Sets", "Data Entry", "Variables",
-- "Equations", "Model and Solve Statements").
use Rattle.std.specs.Prelude.{ℕ, Bool, true, false, if◌then◌else◌, List, [], ◌∷◌, Option, Some, None, codes}
use Rattle.gq_number.specs.Number.{Number}
use Rattle.gms_lex.specs.declared.token.Token.{Token}
use Rattle.gms_grammar.specs.declared.terminal.Terminal.{Terminal}
use Rattle.gms_grammar.specs.Grammar.{DerivationTree, pair, some, node, yield}
use Rattle.gms_grammar.specs.Alternatives.{items_comma, items_line, model_all, model_named, position_set}
use Rattle.gms_ast.specs.declared.word.Named.{Named}
use Rattle.gms_ast.specs.declared.declaration.DeclKind.{DeclKind}
use Rattle.gms_ast.specs.declared.declaration.DeclKind.TheVariants as kind
use Rattle.gms_ast.specs.declared.declaration.Decl.{Decl}
use Rattle.gms_ast.specs.declared.declaration.Item.{Item}
use Rattle.gms_ast.specs.declared.declaration.ModelDecl.{ModelDecl}
use Rattle.gms_lex.specs.TokenTexts.{token_text}
use Rattle.gms_expressions.specs.ExpressionTrees.{is_word, token_of, first_in, second_in, inside, name_in}
use Rattle.gms_ast.specs.StatementTrees.{Act, declares, declares_models}
use Rattle.gms_parse.specs.DataLists.{listed_in, optional_in, between, elements_in, parameter_items, scalar_in}
use Rattle.gms_parse.specs.Tables.{items_given}

-- What the items of a declaration statement mean, in order. An item declares one name, and
-- `meaning` gives what it means. The grammar nests the items: after an item there may be a comma
-- and further items, or a line end and perhaps further items.
abbrev mutual
  pub items_in : {A T : Type 0} → (DerivationTree T → A) → DerivationTree T → List A
  items_in meaning (node (pair item others)) = meaning item ∷ further_items meaning others
  items_in meaning _ = []

  pub further_items : {A T : Type 0} → (DerivationTree T → A) → DerivationTree T → List A
  further_items meaning (some (items_comma (pair _ tree))) = items_in meaning tree
  further_items meaning (some (items_line (pair _ (some tree)))) = items_in meaning tree
  further_items meaning _ = []

-- the kind of variables that `variable` declares after this word: free, positive, negative, or for
-- any other word discrete
abbrev pub variable_kind : List ℕ → DeclKind
variable_kind word =
    if is_word word (codes "free") then kind.Free else (if is_word word (codes "positive") then kind.Positive else (if is_word word (codes "negative") then kind.Negative else kind.Discrete))

-- The meaning of derivation trees in a source with these names and labels.
module _ (source : List ℕ) (names labels : List (List ℕ)) where
  -- the number of a name, with its place
  abbrev pub named_in : DerivationTree (Terminal × Token) → Named
  named_in tree = record { at = (token_of tree).at; name = name_in source names labels tree }

  -- a position of a domain: None for `*`, or a set
  abbrev pub position_in : DerivationTree (Terminal × Token) → Option Named
  position_in (node (position_set name)) = Some (named_in name)
  position_in _ = None

  -- the positions of a domain in parentheses
  abbrev pub domain_in : DerivationTree (Terminal × Token) → List (Option Named)
  domain_in (node (pair _ (pair (node list) _))) = listed_in position_in list
  domain_in _ = []

  -- the positions of the domain after a name; none without a domain
  abbrev pub optional_domain : DerivationTree (Terminal × Token) → List (Option Named)
  optional_domain tree = optional_in [] domain_in tree

  -- the declaration of one variable or equation: its name and its domain
  abbrev pub plain_in : DerivationTree (Terminal × Token) → Decl Number
  plain_in item =
      record {
        named = named_in (first_in (inside item));
        domain = optional_domain (second_in (inside item));
        items = [];
      }

  -- whether the list of a model is the word `all`
  abbrev pub has_all : DerivationTree (Terminal × Token) → Bool
  has_all (model_all all) = true
  has_all _ = false

  -- the equations that the list of a model names; none for `all`
  abbrev pub equations_in : DerivationTree (Terminal × Token) → List Named
  equations_in (model_named list) = listed_in named_in list
  equations_in _ = []

  -- the declaration of one model: its name, whether the list between slashes is `all`, and the
  -- equations that it names; without a list `false` and no equations
  abbrev pub model_in : DerivationTree (Terminal × Token) → ModelDecl
  model_in item =
      record {
        named = named_in (first_in (inside item));
        all = optional_in false (λ list. has_all (inside (between list))) (second_in (inside item));
        equations = optional_in [] (λ list. equations_in (inside (between list))) (second_in (inside item));
      }

  -- the statement that declares variables, of the kind that the word before the keyword names; free
  -- without such a word
  abbrev pub variable_act : DerivationTree (Terminal × Token) → Act Number
  variable_act statement =
      declares (optional_in kind.Free (λ word. variable_kind (token_text source (token_of word))) (first_in (inside statement))) (items_in plain_in (second_in (second_in (inside statement))))

  -- the statement that declares equations
  abbrev pub equation_act : DerivationTree (Terminal × Token) → Act Number
  equation_act statement = declares kind.Equation (items_in plain_in (second_in (inside statement)))

  -- the statement that declares models
  abbrev pub model_act : DerivationTree (Terminal × Token) → Act Number
  model_act statement = declares_models (items_in model_in (second_in (inside statement)))

-- The meaning of declarations with data, which are numbers.
module _ (source : List ℕ) (names labels : List (List ℕ)) where
  -- the declaration of one set or parameter: its name, its domain, and the items that `meaning`
  -- gives for its data between slashes
  abbrev pub data_in : (DerivationTree (Terminal × Token) → List (Item Number)) → DerivationTree (Terminal × Token) → Decl Number
  data_in meaning item =
      record {
        named = named_in source names labels (first_in (inside item));
        domain = optional_domain source names labels (between (inside item));
        items = optional_in [] (λ list. meaning (between list)) (second_in (second_in (inside item)));
      }

  -- the declaration of one set: its name, its domain, and its elements between slashes, if any
  abbrev pub set_in : DerivationTree (Terminal × Token) → Decl Number
  set_in item = data_in (elements_in source labels) item

  -- the declaration of one parameter: its name, its domain, and its items between slashes, if any
  abbrev pub parameter_in : DerivationTree (Terminal × Token) → Decl Number
  parameter_in item = data_in (parameter_items source labels) item

  -- the declaration of one scalar: its name, and its value between slashes, if any
  abbrev pub scalar_item_in : DerivationTree (Terminal × Token) → Decl Number
  scalar_item_in item =
      record {
        named = named_in source names labels (first_in (inside item));
        domain = [];
        items = optional_in [] (λ list. scalar_in source labels (between list)) (second_in (inside item));
      }

  -- the statement that declares sets
  abbrev pub set_act : DerivationTree (Terminal × Token) → Act Number
  set_act statement = declares kind.Set (items_in set_in (second_in (inside statement)))

  -- the statement that declares parameters
  abbrev pub parameter_act : DerivationTree (Terminal × Token) → Act Number
  parameter_act statement = declares kind.Parameter (items_in parameter_in (second_in (inside statement)))

  -- the statement that declares scalars
  abbrev pub scalar_act : DerivationTree (Terminal × Token) → Act Number
  scalar_act statement = declares kind.Scalar (items_in scalar_item_in (second_in (inside statement)))

  -- the statement that declares a table: its name, its domain, and the items that its lines give
  abbrev pub table_act : DerivationTree (Terminal × Token) → Act Number
  table_act statement =
      let following = second_in (inside statement) in
      declares kind.Table (record {
        named = named_in source names labels (first_in following);
        domain = domain_in source names labels (between following);
        items = items_given source labels (yield (second_in (second_in following)));
      } ∷ [])
