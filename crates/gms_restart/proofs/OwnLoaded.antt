-- The labels of the data of an accepted program are those that its declarations write.
use Rattle.gms_store.proofs.Views.{has-keys_of_map}
use Rattle.std.proofs.Common.{◌≡◌, ℕ, nat_lt, Bool, true, false, ◌||◌, ◌==◌, cond, List, [], ◌∷◌, ◌++◌, length, map, Option, Some, None, is_some, Result, Ok, Err, refl, sym, ap, ◌∙◌, subst, inl, inr}
use Rattle.std.specs.FinMap as finite
use Rattle.std.specs.Prelude.{flat_map}
use Rattle.std.specs.List.{fold}
use Rattle.std.proofs.lemmas.Bool.{both_ways}
use Rattle.gq_number.specs.Number.{Number}
use Rattle.gq_extended.specs.Extended.{Extended}
use Rattle.gq_extended.specs.Meaning.{extended as value_shown}
use Rattle.gq_extended.specs.declared.extended.Ext.{Ext}
use Rattle.gq_frac.specs.declared.frac.Frac.{Frac}
use Rattle.gq_frac.specs.Frac.{frac_value}
use Rattle.gms_labels.specs.declared.place.Place.{Place}
use Rattle.gms_ast.specs.declared.declaration.Decl.{Decl}
use Rattle.gms_ast.specs.declared.declaration.DeclKind.{DeclKind}
use Rattle.gms_ast.specs.declared.declaration.DeclKind.TheVariants as declaring
use Rattle.gms_ast.specs.declared.declaration.Item.{Item}
use Rattle.gms_ast.specs.declared.declaration.ModelDecl.{ModelDecl}
use Rattle.gms_ast.specs.declared.program.Act.{Act, roll-Act}
use Rattle.gms_ast.specs.declared.program.Act.TheOpen.{Act-F}
use Rattle.gms_ast.specs.declared.program.Act.TheVariants.{rolls-Declare, rolls-Alias, rolls-Assign, rolls-Define, rolls-Model, rolls-Solve, rolls-Display, rolls-Loop, rolls-Options, rolls-Abort}
use Rattle.gms_ast.specs.declared.program.Program.{Program}
use Rattle.gms_ast.specs.declared.program.Stmt.{Stmt}
use Rattle.gms_parse.specs.Outcomes.{IsProgram}
use Rattle.gms_set.specs.declared.fault.SetError.{SetError}
use Rattle.gms_set.specs.declared.fault.SetFault.{SetFault}
use Rattle.gms_set.specs.Expansion.{ExpandedData, error_of, expanded, tuples_of, unless, with_items}
use Rattle.gms_set.specs.Expansion as expansion
use Rattle.gms_tuple.specs.Products.{tuple_product}
use Rattle.gms_tuple.specs.TupleOrder.{same_tuple, tuple_cmp}
use Rattle.gms_tuple.specs.TupleSet.{has}
use Rattle.gms_tuple.proofs.Members.{has-inserted}
use Rattle.gms_tuple.proofs.Ordered.{same_tuple-Decides}
use Rattle.gms_store.specs.declared.kind.VariableType.{VariableType}
use Rattle.gms_store.specs.declared.kind.VariableType.TheVariants as type
use Rattle.gms_store.specs.Declarations.{names_of, positions_of, content_of, symbol_of_kind, retyped, is_undeclared, put_at, declare, alias_symbol, can_join, join_name, declare_alias, model_symbol, declare_model, blank_state}
use Rattle.gms_store.specs.State.{State, Attributes, Entries, Content, undeclared, alias_of, set_of, parameter_of, variable_of, equation_of, model_with, Symbol, symbol_at, symbol_of, base_of, given_in, is_given, with_content, if_fits, with_membership, with_value}
use Rattle.gms_scope.specs.Data.{with_datum}
use Rattle.gms_check.specs.Loaded.{loaded, sound}
use Rattle.gms_check.specs.Past.{with_data, with_item, with_name, after_act, after_statement}
use Rattle.gms_check.proofs.Growing.{put-at, by_parts}
use Rattle.gms_check.proofs.IndexSetsStay.{none-declared}
use Rattle.gms_run_laws.specs.Names.{Each}
use Rattle.gms_run_laws.proofs.FormKeys.{EachHas}
use Rattle.gms_restart.specs.Labels.{HasItsLabels}
use Rattle.gms_restart.proofs.OwnData.{DeclHas, ItemHas}
use Rattle.gms_restart.proofs.OwnProgram.{statements-own}
use Rattle.gms_restart.proofs.OwnWritten.{data_of}
use Rattle.gms_restart.proofs.Writing.{written-has}

nothing-there : (X : Type 0) (t : List ℕ) → has (finite.keys (finite.empty {X = X} {R = tuple_cmp})) t ≡ true → ⊥
nothing-there X t there =
    both_ways (has (finite.keys (finite.empty {X = X} {R = tuple_cmp})) t) (has-keys_of_map (finite.empty {X = X} {R = tuple_cmp}) t ∙ ap is_some (finite.get-empty tuple_cmp t)) there

module _ (test : ℕ → Bool) where
  -- the labels of what a content has given pass the test
  abbrev Passes : Content → Type 0
  Passes c = (u : List ℕ) → has (given_in c) u ≡ true → Each test u

  -- and those of each name of a state
  abbrev AllPass : State → Type 0
  AllPass s = (n : ℕ) → Passes (symbol_at s n).content

  pass-put : (s : State) (name : ℕ) (new : Symbol) → Passes new.content → AllPass s → AllPass (put_at s name new)
  pass-put s name new own all n = elim (put-at s name new n) [
    | inl same ↦ subst (λ (x : Symbol). Passes x.content) (sym same) (all n)
    | inr changed ↦ subst (λ (x : Symbol). Passes x.content) (sym changed.1) own
  ]

  -- ---- declarations

  pass-nothing : Passes undeclared
  pass-nothing u there = absurd (cc)

  pass-alias : (base : ℕ) → Passes (alias_of base)
  pass-alias base u there = absurd (cc)

  pass-model : (m s : ℕ) → Passes (model_with m s)
  pass-model m s u there = absurd (cc)

  pass-set : Passes (set_of [])
  pass-set u there = absurd (cc)

  pass-parameter : Passes (parameter_of finite.empty)
  pass-parameter u there = absurd (nothing-there Extended u there)

  pass-variable : (t : VariableType) → Passes (variable_of t finite.empty)
  pass-variable t u there = absurd (nothing-there Attributes u there)

  pass-equation : Passes (equation_of finite.empty)
  pass-equation u there = absurd (nothing-there Attributes u there)

  pass-kind : (k : DeclKind) → Passes (content_of k)
  pass-kind declaring.Set = pass-set
  pass-kind declaring.Parameter = pass-parameter
  pass-kind declaring.Scalar = pass-parameter
  pass-kind declaring.Table = pass-parameter
  pass-kind declaring.Free = pass-variable type.Free
  pass-kind declaring.Positive = pass-variable type.Positive
  pass-kind declaring.Negative = pass-variable type.Negative
  pass-kind declaring.Discrete = pass-variable type.Discrete
  pass-kind declaring.Equation = pass-equation

  pass-free : (entries : Entries Attributes) (k : DeclKind) → Passes (variable_of type.Free entries) → Passes (retyped (variable_of type.Free entries) (content_of k))
  pass-free entries declaring.Set all = all
  pass-free entries declaring.Parameter all = all
  pass-free entries declaring.Scalar all = all
  pass-free entries declaring.Table all = all
  pass-free entries declaring.Free all = pass-variable type.Free
  pass-free entries declaring.Positive all = pass-variable type.Positive
  pass-free entries declaring.Negative all = pass-variable type.Negative
  pass-free entries declaring.Discrete all = pass-variable type.Discrete
  pass-free entries declaring.Equation all = all

  pass-retyped : (c : Content) (k : DeclKind) → Passes c → Passes (retyped c (content_of k))
  pass-retyped undeclared k all = all
  pass-retyped (alias_of base) k all = all
  pass-retyped (set_of members) k all = all
  pass-retyped (parameter_of entries) k all = all
  pass-retyped (variable_of type.Free entries) k all = pass-free entries k all
  pass-retyped (variable_of type.Positive entries) k all = all
  pass-retyped (variable_of type.Negative entries) k all = all
  pass-retyped (variable_of type.Discrete entries) k all = all
  pass-retyped (equation_of entries) k all = all
  pass-retyped (model_with m s) k all = all

  pass-declare : (k : DeclKind) (domain : List (Option ℕ)) (s : State) (i : ℕ) → AllPass s → AllPass (declare k domain s i)
  pass-declare k domain s i all = by (is_undeclared (symbol_at s i).content)
    where
      by : (c : Bool) → AllPass (put_at s i (cond c (symbol_of_kind k domain) (with_content (symbol_at s i) (retyped (symbol_at s i).content (content_of k)))))
      by true = pass-put s i (symbol_of_kind k domain) (pass-kind k) all
      by false =
          pass-put s i (with_content (symbol_at s i) (retyped (symbol_at s i).content (content_of k))) (pass-retyped (symbol_at s i).content k (all i)) all

  pass-join : (s : State) (old new : ℕ) → AllPass s → AllPass (join_name s old new)
  pass-join s old new all = pass-put s new (alias_symbol (base_of s old)) (pass-alias (base_of s old)) all

  pass-aliases : (s : State) (one two : ℕ) → AllPass s → AllPass (declare_alias s one two)
  pass-aliases s one two all = by (can_join s one two) (can_join s two one)
    where
      by : (a c : Bool) → AllPass (cond a (join_name s one two) (cond c (join_name s two one) (declare declaring.Set [] (declare declaring.Set [] s one) two)))
      by true c = pass-join s one two all
      by false true = pass-join s two one all
      by false false = pass-declare declaring.Set [] (declare declaring.Set [] s one) two (pass-declare declaring.Set [] s one all)

  pass-named : (s : State) (name : ℕ) → AllPass s → AllPass (declare_model s name)
  pass-named s name all = by (is_undeclared (symbol_at s name).content)
    where
      by : (c : Bool) → AllPass (cond c (put_at s name model_symbol) s)
      by true = pass-put s name model_symbol (pass-model 0 0) all
      by false = all

  pass-models : (models : List ModelDecl) (s : State) → AllPass s → AllPass (fold (λ state (model : ModelDecl). declare_model state model.named.name) s models)
  pass-models [] s all = all
  pass-models (model ∷ models) s all = pass-models models (declare_model s model.named.name) (pass-named s model.named.name all)

  -- ---- data

  pass-fitted : (x : Symbol) (u : List ℕ) (new : Content) → Passes new → Passes x.content → Passes (if_fits x u new).content
  pass-fitted x u new own all = by (length u == length x.domain)
    where
      by : (c : Bool) → Passes (cond c (with_content x new) x).content
      by true = own
      by false = all

  pass-member : (c : Content) (t : List ℕ) → Each test t → Passes c → Passes (with_membership c t true)
  pass-member undeclared t own all = all
  pass-member (alias_of base) t own all = all
  pass-member (set_of members) t own all = λ u there. by u (same_tuple t u) refl (sym (has-inserted members t u) ∙ there)
    where
      by : (u : List ℕ) (b : Bool) → same_tuple t u ≡ b → (b || has members u) ≡ true → Each test u
      by u true same there = subst (Each test) ((same_tuple-Decides t u).0 same) own
      by u false other there = all u there
  pass-member (parameter_of entries) t own all = all
  pass-member (variable_of type entries) t own all = all
  pass-member (equation_of entries) t own all = all
  pass-member (model_with m s) t own all = all

  pass-number : (c : Content) (t : List ℕ) (x : Extended) → Each test t → Passes c → Passes (with_value c t x)
  pass-number undeclared t x own all = all
  pass-number (alias_of base) t x own all = all
  pass-number (set_of members) t x own all = all
  pass-number (parameter_of entries) t x own all = written-has (Each test) (is_given x) entries t x own all
  pass-number (variable_of type entries) t x own all = all
  pass-number (equation_of entries) t x own all = all
  pass-number (model_with m s) t x own all = all

  -- ---- what items give

  abbrev Tuples : List (List ℕ) → Type 0
  Tuples = EachHas (Each test)

  with-label : (label : ℕ) → test label ≡ true → (ts : List (List ℕ)) → Tuples ts → Tuples (map (λ tuple. label ∷ tuple) ts)
  with-label label own [] all = tt
  with-label label own (t ∷ ts) all = ((own, all.0), with-label label own ts all.1)

  joined : (ts us : List (List ℕ)) → Tuples ts → Tuples us → Tuples (ts ++ us)
  joined [] us one other = other
  joined (t ∷ ts) us one other = (one.0, joined ts us one.1 other)

  pieces : (ts : List (List ℕ)) → Tuples ts → (labels : List ℕ) → Each test labels → Tuples (flat_map (λ label. map (λ tuple. label ∷ tuple) ts) labels)
  pieces ts all [] own = tt
  pieces ts all (label ∷ labels) own =
      joined (map (λ tuple. label ∷ tuple) ts) (flat_map (λ label. map (λ tuple. label ∷ tuple) ts) labels) (with-label label own.0 ts all) (pieces ts all labels own.1)

  products : (parts : List (List ℕ)) → EachHas (Each test) parts → Tuples (tuple_product parts)
  products [] own = (tt, tt)
  products (labels ∷ rest) own = pieces (tuple_product rest) (products rest own.1) labels own.0

  module _ {F : Type 0} where
    -- each tuple of data passes
    abbrev Data : ExpandedData F → Type 0
    Data [] = Unit {0}
    Data (d ∷ ds) = Each test d.0 × Data ds

    -- what items give passes, where they have no fault
    abbrev OkData : Result (ExpandedData F) SetFault → Type 0
    OkData (Ok given) = Data given
    OkData (Err fault) = Unit {0}

    with-all : (ds : ExpandedData F) (x : Option (Ext F)) (ts : List (List ℕ)) → Data ds → Tuples ts → Data (ds ++ expansion.tuples_with_value x ts)
    with-all [] x [] one other = tt
    with-all [] x (t ∷ ts) one other = (other.0, with-all [] x ts tt other.1)
    with-all (d ∷ ds) x ts one other = (one.0, with-all ds x ts one.1 other)

    unless-data : (o : Option SetError) (at : Place) (rest : Result (ExpandedData F) SetFault) → OkData rest → OkData (unless o at rest)
    unless-data None at rest all = all
    unless-data (Some error) at rest all = tt

    items-give : (state : State) (domain : List (Option ℕ)) (items : List (Item F)) (ds : ExpandedData F) → Data ds → EachHas (ItemHas test) items → OkData (with_items state domain ds items)
    items-give state domain [] ds all own = all
    items-give state domain (item ∷ items) ds all own =
        let more = ds ++ expansion.tuples_with_value item.value (tuple_product item.parts) in
        unless-data (error_of state domain (tuples_of ds) item) item.at (with_items state domain more items) (items-give state domain items more (with-all ds item.value (tuple_product item.parts) all (products item.parts own.0)) own.1)

  -- ---- states

  module _ {F : Type 0} (v : F → Number) where
    pass-data : (ds : ExpandedData F) (s : State) (name : ℕ) → Data ds → AllPass s → AllPass (fold (with_datum v name) s ds)
    pass-data [] s name own all = all
    pass-data ((u, None) ∷ ds) s name own all =
        let x = symbol_of s name in
        let new = with_membership x.content u true in
        pass-data ds (put_at s (base_of s name) (if_fits x u new)) name own.1 (pass-put s (base_of s name) (if_fits x u new) (pass-fitted x u new (pass-member x.content u own.0 (all (base_of s name))) (all (base_of s name))) all)
    pass-data ((u, Some value) ∷ ds) s name own all =
        let x = symbol_of s name in
        let new = with_value x.content u (value_shown v value) in
        pass-data ds (put_at s (base_of s name) (if_fits x u new)) name own.1 (pass-put s (base_of s name) (if_fits x u new) (pass-fitted x u new (pass-number x.content u (value_shown v value) own.0 (all (base_of s name))) (all (base_of s name))) all)

    pass-given : (s : State) (name : ℕ) (given : Result (ExpandedData F) SetFault) → OkData given → AllPass s → AllPass (with_data v s name given)
    pass-given s name (Ok given) own all = pass-data given s name own all
    pass-given s name (Err fault) own all = all

    pass-items : (k : DeclKind) (items : List (Decl F)) (s : State) → EachHas (DeclHas test) items → AllPass s → AllPass (fold (with_item v k) s items)
    pass-items k [] s own all = all
    pass-items k (item ∷ items) s own all =
        pass-items k items (with_item v k s item) own.1 (pass-given (with_name v k s item) item.named.name (expanded s (positions_of k (names_of item.domain)) item.items) (items-give s (positions_of k (names_of item.domain)) item.items [] tt own.0) (pass-declare k (names_of item.domain) s item.named.name all))

    pass-act : (s : State) → AllPass s → (act : Act F) → EachHas (DeclHas test) (data_of act) → AllPass (after_act v s act)
    pass-act s all act = by_parts Q by act
      where
        Q : Act F → Type 0
        Q a = EachHas (DeclHas test) (data_of a) → AllPass (after_act v s a)

        by : (layer : Act-F F (Act F) (Stmt F)) → Q (roll-Act F layer)
        by (Act-F.Declare k items) = subst Q (sym (rolls-Declare k items)) (λ own. pass-items k items s own all)
        by (Act-F.Alias one two) = subst Q (sym (rolls-Alias one two)) (λ own. pass-aliases s one.name two.name all)
        by (Act-F.Assign target condition right_at right) = subst Q (sym (rolls-Assign target condition right_at right)) (λ own. all)
        by (Act-F.Define equation indices condition left_at left side right_at right) =
            subst Q (sym (rolls-Define equation indices condition left_at left side right_at right)) (λ own. all)
        by (Act-F.Model models) = subst Q (sym (rolls-Model models)) (λ own. pass-models models s all)
        by (Act-F.Solve model method objective maximize) = subst Q (sym (rolls-Solve model method objective maximize)) (λ own. all)
        by (Act-F.Display items) = subst Q (sym (rolls-Display items)) (λ own. all)
        by (Act-F.Loop control body) = subst Q (sym (rolls-Loop control body)) (λ own. all)
        by (Act-F.Options settings) = subst Q (sym (rolls-Options settings)) (λ own. all)
        by (Act-F.Abort condition items) = subst Q (sym (rolls-Abort condition items)) (λ own. all)

    pass-sound : (statements : List (Stmt F)) (s : State) → EachHas (λ (statement : Stmt F). EachHas (DeclHas test) (data_of statement.act)) statements → AllPass s → AllPass (fold (after_statement v) s (sound statements))
    pass-sound [] s own all = all
    pass-sound (statement ∷ statements) s own all =
        pass-sound statements (after_act v s statement.act) own.1 (pass-act s all statement.act own.0)

pub has-its-labels : (limit : ℕ) (source : List ℕ) (program : Program Frac) → IsProgram limit source frac_value program → HasItsLabels (length program.labels) program.statements.items (loaded frac_value program)
has-its-labels limit source program is =
    let test : ℕ → Bool = λ n. nat_lt n (length program.labels) in
    let count = length program.names in
    let own = statements-own limit source program is in
    let blank : AllPass test (blank_state count) = λ n. subst (λ (x : Symbol). Passes test x.content) (sym (none-declared count n)) (pass-nothing test) in
    record {
      written = own.written;
      given = λ name tuple there. pass-sound test frac_value program.statements.items (blank_state count) own.given blank name tuple there;
    }
