-- What a program without errors loads: each name is what its declaration makes it, with its data.
use Rattle.gms_check.proofs.Faultless.{none-first, none-left, none-right}
use Rattle.std.proofs.Common.{◌≡◌, ◌≢◌, ◌<◌, ◌≤◌, ℕ, zero, suc, Bool, true, false, ◌||◌, ◌==◌, List, [], ◌∷◌, ◌++◌, length, map, refl, sym, ap, ◌∙◌, subst, append_assoc, append-nil, Option, Some, None, Ok, unwrap_or, if◌then◌else◌, eq-eqb, arith}
use Rattle.std.specs.Prelude.{nat_lt}
use Rattle.std.specs.List.{fold}
use Rattle.std.specs.FinMap as finite
use Rattle.std.proofs.lemmas.Bool.{eqb-true}
use Rattle.std.proofs.lemmas.Bool.Decides.{nat_tests}
use Rattle.std.proofs.lemmas.List.{get_or_past, length-replicate, length-set, map-append}
use Rattle.std.proofs.lemmas.List.Elements.{recursion_from_All}
use Rattle.std.proofs.lemmas.List.Sums.{fold-append}
use Rattle.gq_number.specs.Number.{Number}
use Rattle.gq_extended.specs.declared.extended.Ext.{Ext}
use Rattle.gms_ast.specs.declared.declaration.DeclKind.{DeclKind}
use Rattle.gms_ast.specs.declared.declaration.DeclKind.TheVariants as declaring
use Rattle.gms_ast.specs.declared.declaration.Decl.{Decl}
use Rattle.gms_ast.specs.declared.declaration.Item.{Item}
use Rattle.gms_ast.specs.declared.declaration.ModelDecl.{ModelDecl}
use Rattle.gms_ast.specs.declared.program.Act.{Act}
use Rattle.gms_ast.specs.declared.program.Act.TheVariants.{Declare, Alias, Model}
use Rattle.gms_ast.specs.declared.program.Program.{Program}
use Rattle.gms_ast.specs.declared.program.Stmt.{Stmt}
use Rattle.gms_tuple.specs.TupleOrder.{tuple_cmp}
use Rattle.gms_tuple.specs.TupleSet.{has}
use Rattle.gms_store.specs.declared.kind.VariableType.{VariableType}
use Rattle.gms_store.specs.declared.kind.VariableType.TheVariants as type
use Rattle.gms_store.specs.State.{Content, set_of, parameter_of, variable_of, equation_of, Symbol, State, no_symbol, symbol_at, symbol_of, alias_target, base_of, value_in, members_in, attributes_in, value_of, members_of, attributes_of, absent_variable, unbounded}
use Rattle.gms_store.specs.State as state_words
use Rattle.gms_store.specs.Declarations.{alias_symbol, blank_state, can_join, content_of, declare, declare_alias, declare_model, declare_models, declared_again, is_free, is_undeclared, model_symbol, names_of, positions_of, put_at, symbol_of_kind}
use Rattle.gms_set.specs.Expansion.{ExpandedData, expanded}
use Rattle.gms_scope.specs.Names.{has_no_declaration}
use Rattle.gms_check.specs.Checked.{FollowsIn}
use Rattle.gms_check.specs.CompileErrors.{act_errors, declaration_errors, errors_after, errors_of, known_after, known_after_item, known_in, is_faultless, statement_error}
use Rattle.gms_check.specs.declared.error.CompileError.{CompileError}
use Rattle.gms_check.specs.DeclarationUses.{item_uses, kind_uses}
use Rattle.gms_check.specs.DeclaredData.{Declares, IsFree, IsUndeclared, datum_at, has_values, is_put_in, type_of, value_put}
use Rattle.gms_check.specs.Errors.{first_error}
use Rattle.gms_check.specs.Loaded.{IsAccepted, loaded, sound}
use Rattle.gms_check.specs.Names.{is_variable}
use Rattle.gms_check.specs.Past.{Known, after_act, after_statement, is_among, names_declared, state_after, with_item, with_name}
use Rattle.gms_check.proofs.DeclaredNames.{IsApart, IsBare, alias-other, clean-bare, clean-new, given, item-other, item-own, item-size, model-other, new-symbol, set-other, typed-content, variable-quiet}
use Rattle.gms_check.proofs.GivenData.{AreFit, data-parameter, data-set, data_in, data-quiet, entries_after, expanded-fit, expanded-read, member_taken, members_after, parameter-read, parameter_symbol, reads, set-read, set_symbol, taken, value_taken}
use Rattle.gms_check.proofs.LoadedData.{item-loadable}
use Rattle.gms_check.proofs.NoErrors.{AreClean, are-clean}
use Rattle.gms_check.proofs.Outlines.{read-at}
use Rattle.gms_check.proofs.Soundness.{after-sound, neither-first, neither-second}

-- ---- names of a declaration in sequence

-- a declaration without errors: its first names have none, and later names have none after these
module _ {F : Type 0} (kind : DeclKind) where
  -- what is known after names that have no error
  abbrev known_later : Known F → List (Decl F) → Known F
  known_later known items = known_in known (fold (with_item known.value kind) known.state items)

  next-known : (known : Known F) (item : Decl F) (items : List (Decl F)) → declaration_errors known kind (item ∷ items) ≡ [] → AreClean known (item_uses known kind item) × (declaration_errors (known_later known (item ∷ [])) kind items ≡ [])
  next-known known item items e =
      let errors = errors_of known (item_uses known kind item) in
      let none : errors ≡ [] = none-left errors (declaration_errors (known_after_item known kind item) kind items) e in
      let next : known_after_item known kind item ≡ known_in known (with_item known.value kind known.state item) = ap (λ (es : List CompileError). known_in known (if is_faultless es then with_item known.value kind known.state item else with_name known.value kind known.state item)) none in
      (are-clean known (item_uses known kind item) none, sym (ap (λ (k : Known F). declaration_errors k kind items) next) ∙ none-right errors (declaration_errors (known_after_item known kind item) kind items) e)

  -- the names after some
  following-items : (known : Known F) (first rest : List (Decl F)) → declaration_errors known kind (first ++ rest) ≡ [] → declaration_errors (known_later known first) kind rest ≡ []
  following-items known [] rest e = e
  following-items known (item ∷ first) rest e =
      following-items (known_later known (item ∷ [])) first rest (next-known known item (first ++ rest) e).1

  size-prefix : (known : Known F) (first rest : List (Decl F)) → declaration_errors known kind (first ++ rest) ≡ [] → length (fold (with_item known.value kind) known.state first).symbols ≡ length known.state.symbols
  size-prefix known [] rest e = refl
  size-prefix known (item ∷ first) rest e =
      let next = next-known known item (first ++ rest) e in
      size-prefix (known_later known (item ∷ [])) first rest next.1 ∙ item-size known kind item next.0

  size-items : (known : Known F) (items : List (Decl F)) → declaration_errors known kind items ≡ [] → length (fold (with_item known.value kind) known.state items).symbols ≡ length known.state.symbols
  size-items known [] e = refl
  size-items known (item ∷ items) e =
      let next = next-known known item items e in
      size-items (known_later known (item ∷ [])) items next.1 ∙ item-size known kind item next.0

-- the names of a declaration, of a statement without an error
declaration-clean : {F : Type 0} (known : Known F) (statement : Stmt F) (kind : DeclKind) (items : List (Decl F)) → statement.act ≡ Declare kind items → statement_error known statement ≡ None → declaration_errors known kind items ≡ []
declaration-clean known statement kind items is e =
    none-right (errors_of known (kind_uses statement.at kind)) (declaration_errors known kind items) (none-first (act_errors known statement (Declare kind items)) (sym (ap (λ (act : Act _). first_error (act_errors known statement act)) is) ∙ e))

-- before the first statement no name is declared
blank-at : (k n : ℕ) → symbol_at (blank_state k) n ≡ no_symbol
blank-at zero n = refl
blank-at (suc k) zero = refl
blank-at (suc k) (suc n) = blank-at k n

-- ---- how many names there are

size-alias : (state : State) (first second : ℕ) → length (declare_alias state first second).symbols ≡ length state.symbols
size-alias state first second = by (can_join state first second) (can_join state second first)
  where
    put : (s : State) (m : ℕ) (symbol : Symbol) → length (put_at s m symbol).symbols ≡ length s.symbols
    put s m symbol = length-set s.symbols m symbol

    by : (a b : Bool) → length (if a then put_at state second (alias_symbol (base_of state first)) else if b then put_at state first (alias_symbol (base_of state second)) else declare declaring.Set [] (declare declaring.Set [] state first) second).symbols ≡ length state.symbols
    by true b = put state second (alias_symbol (base_of state first))
    by false true = put state first (alias_symbol (base_of state second))
    by false false =
        put (declare declaring.Set [] state first) second (declared_again declaring.Set [] (symbol_at (declare declaring.Set [] state first) second)) ∙ put state first (declared_again declaring.Set [] (symbol_at state first))

size-models : (models : List ModelDecl) (state : State) → length (declare_models state models).symbols ≡ length state.symbols
size-models [] state = refl
size-models (model ∷ models) state =
    size-models models (declare_model state model.named.name) ∙ by (is_undeclared (symbol_at state model.named.name).content)
  where
    by : (b : Bool) → length (if b then put_at state model.named.name model_symbol else state).symbols ≡ length state.symbols
    by true = length-set state.symbols model.named.name model_symbol
    by false = refl

size-act : {F : Type 0} (known : Known F) (statement : Stmt F) → statement_error known statement ≡ None → length (after_act known.value known.state statement.act).symbols ≡ length known.state.symbols
size-act known statement = by statement.act refl
  where
    by : (act : Act _) → statement.act ≡ act → statement_error known statement ≡ None → length (after_act known.value known.state act).symbols ≡ length known.state.symbols
    by (Declare kind items) is e = size-items kind known items (declaration-clean known statement kind items is e)
    by (Alias first second) is e = size-alias known.state first.name second.name
    by (Model models) is e = size-models models known.state
    by act is e = refl

-- ---- what holds of a name after each statement

-- What holds of the symbol of a name, whatever is declared of these kinds and names.
pub record IsKept (F : Type 0) (n : ℕ) (P : Symbol → Type 0) (Of : DeclKind → Decl F → Type 0) (Named : ℕ → Type 0) : Type 0 where
  pub item : (known : Known F) (kind : DeclKind) (item : Decl F) → AreClean known (item_uses known kind item) → Of kind item → P (symbol_at known.state n) → P (symbol_at (with_item known.value kind known.state item) n)
  pub apart : (state : State) (m : ℕ) → Named m → P (symbol_at state n) → IsApart state n m

-- names of which this holds
abbrev AllNamed : (ℕ → Type 0) → List ℕ → Type 0
AllNamed Named [] = Unit {0}
AllNamed Named (n ∷ ns) = Named n × AllNamed Named ns

module _ {F : Type 0} (n : ℕ) (P : Symbol → Type 0) (Of : DeclKind → Decl F → Type 0) (Named : ℕ → Type 0) (kept : IsKept F n P Of Named) where
  items-keep : (kind : DeclKind) (known : Known F) (items : List (Decl F)) → declaration_errors known kind items ≡ [] → ((first rest : List (Decl F)) (item : Decl F) → items ≡ first ++ item ∷ rest → Of kind item) → P (symbol_at known.state n) → P (symbol_at (fold (with_item known.value kind) known.state items) n)
  items-keep kind known [] e those p = p
  items-keep kind known (item ∷ items) e those p =
      let next = next-known kind known item items e in
      items-keep kind (known_later kind known (item ∷ [])) items next.1 (λ first rest other is. those (item ∷ first) rest other (ap (λ xs. item ∷ xs) is)) (kept.item known kind item next.0 (those [] items item refl) p)

  models-keep : (models : List ModelDecl) (state : State) → AllNamed Named (map (λ (model : ModelDecl). model.named.name) models) → P (symbol_at state n) → P (symbol_at (declare_models state models) n)
  models-keep [] state those p = p
  models-keep (model ∷ models) state those p =
      models-keep models (declare_model state model.named.name) those.1 (subst P (sym (model-other state n model.named.name (kept.apart state model.named.name those.0 p))) p)

  alias-keeps : (state : State) (first second : ℕ) → Named first → Named second → P (symbol_at state n) → P (symbol_at (declare_alias state first second) n)
  alias-keeps state first second one other p =
      subst P (sym (alias-other state n first second (kept.apart state first one p) (kept.apart (declare declaring.Set [] state first) second other (subst P (sym (set-other state n first (kept.apart state first one p))) p)) (kept.apart state second other p))) p

  -- an act of a statement without an error, whose declarations are of these
  act-keeps : (known : Known F) (statement : Stmt F) → statement_error known statement ≡ None → ((kind : DeclKind) (first rest : List (Decl F)) (item : Decl F) → statement.act ≡ Declare kind (first ++ item ∷ rest) → Of kind item) → AllNamed Named (names_declared statement.act) → P (symbol_at known.state n) → P (symbol_at (after_act known.value known.state statement.act) n)
  act-keeps known statement e those all p = by statement.act refl all
    where
      by : (act : Act F) → statement.act ≡ act → AllNamed Named (names_declared act) → P (symbol_at (after_act known.value known.state act) n)
      by (Declare kind items) is all =
          items-keep kind known items (declaration-clean known statement kind items is e) (λ first rest item parts. those kind first rest item (is ∙ ap (Declare kind) parts)) p
      by (Alias first second) is all = alias-keeps known.state first.name second.name all.0 all.1.0 p
      by (Model models) is all = models-keep models known.state all p
      by act is all = p

-- a symbol that no declaration changes stays
settled : (F : Type 0) (n : ℕ) (made : Symbol) → is_undeclared made.content ≡ false → is_free made.content ≡ false → IsKept F n (λ s. s ≡ made) (λ kind item. Unit {0}) (λ m. Unit {0})
settled F n made old fixed = record { item = by; apart = λ state m named p new. λ e. absurd (known state m p new e) }
  where
    clash : (s : Symbol) → s ≡ made → IsBare s.content → ⊥
    clash s is bare =
        let e : (false || false) ≡ true = sym (ap (λ b. b || false) old) ∙ sym (ap (λ b. is_undeclared made.content || b) fixed) ∙ sym (ap (λ (s : Symbol). is_undeclared s.content || is_free s.content) is) ∙ bare in
        cc

    known : (state : State) (m : ℕ) → symbol_at state n ≡ made → has_no_declaration state m ≡ true → n ≡ m → ⊥
    known state m p new e =
        let f : false ≡ true = sym old ∙ sym (ap (λ (s : Symbol). is_undeclared s.content) p) ∙ ap (has_no_declaration state) e ∙ new in
        cc

    by : (known : Known F) (kind : DeclKind) (item : Decl F) → AreClean known (item_uses known kind item) → Unit {0} → symbol_at known.state n ≡ made → symbol_at (with_item known.value kind known.state item) n ≡ made
    by known kind item clean _ p = go (n == item.named.name) refl
      where
        go : (b : Bool) → (n == item.named.name) ≡ b → symbol_at (with_item known.value kind known.state item) n ≡ made
        go true same =
            absurd (clash (symbol_at known.state n) p (subst (λ m. IsBare (symbol_at known.state m).content) (sym (eqb-true n item.named.name same)) (clean-bare known kind item clean)))
        go false other =
            item-other known kind item clean n (λ e. absurd (let t = eq-eqb n item.named.name e in let f : false ≡ true = sym other ∙ t in cc)) ∙ p

-- past the names nothing is declared
symbol-past : (state : State) (n : ℕ) → nat_lt n (length state.symbols) ≡ false → symbol_at state n ≡ no_symbol
symbol-past state n past =
    let least : length state.symbols ≤ n = grind (arith, nat_tests) in
    read-at state.symbols n ∙ get_or_past state.symbols n no_symbol least

-- a variable that every declaration leaves free stays free
free-kept : (F : Type 0) (n : ℕ) → IsKept F n (λ s. s.content ≡ variable_of type.Free finite.empty) (λ kind item. item.named.name ≡ n → type_of kind ≡ Some type.Free) (λ m. Unit {0})
free-kept F n = record { item = by; apart = λ state m named p new. λ e. absurd (known state m p new e) }
  where
    known : (state : State) (m : ℕ) → (symbol_at state n).content ≡ variable_of type.Free finite.empty → has_no_declaration state m ≡ true → n ≡ m → ⊥
    known state m p new e =
        let f : false ≡ true = sym (ap is_undeclared p) ∙ ap (has_no_declaration state) e ∙ new in
        cc

    by : (known : Known F) (kind : DeclKind) (item : Decl F) → AreClean known (item_uses known kind item) → (item.named.name ≡ n → type_of kind ≡ Some type.Free) → (symbol_at known.state n).content ≡ variable_of type.Free finite.empty → (symbol_at (with_item known.value kind known.state item) n).content ≡ variable_of type.Free finite.empty
    by known kind item clean left p = go (n == item.named.name) refl
      where
        there : (m : ℕ) → m ≡ n → nat_lt m (length known.state.symbols) ≡ true
        there m e = at (nat_lt m (length known.state.symbols)) refl
          where
            at : (b : Bool) → nat_lt m (length known.state.symbols) ≡ b → b ≡ true
            at true l = refl
            at false past =
                let f : false ≡ true = sym (ap is_undeclared (ap (λ (m : ℕ). (symbol_at known.state m).content) e ∙ p)) ∙ ap (λ (s : Symbol). is_undeclared s.content) (symbol-past known.state m past) in
                absurd cc

        go : (b : Bool) → (n == item.named.name) ≡ b → (symbol_at (with_item known.value kind known.state item) n).content ≡ variable_of type.Free finite.empty
        go true same =
            let e : item.named.name ≡ n = sym (eqb-true n item.named.name same) in
            let s = declared_again kind (names_of item.domain) (symbol_at known.state item.named.name) in
            let content = typed-content kind (names_of item.domain) (symbol_at known.state item.named.name) type.Free (left e) (clean-bare known kind item clean) in
            subst (λ m. (symbol_at (with_item known.value kind known.state item) m).content ≡ variable_of type.Free finite.empty) e (ap (λ (s : Symbol). s.content) (item-own known kind item clean (there item.named.name e) ∙ variable-quiet known.value (given known kind item clean) s type.Free content) ∙ content)
        go false other =
            ap (λ (s : Symbol). s.content) (item-other known kind item clean n (λ e. absurd (let t = eq-eqb n item.named.name e in let f : false ≡ true = sym other ∙ t in cc))) ∙ p

-- a name that no statement declares stays undeclared
absent-kept : (F : Type 0) (n : ℕ) → IsKept F n (λ s. s ≡ no_symbol) (λ kind item. n ≢ item.named.name) (λ m. n ≢ m)
absent-kept F n = record { item = λ known kind item clean ne p. item-other known kind item clean n ne ∙ p; apart = λ state m ne p new. ne }

all-named : (ns : List ℕ) → AllNamed (λ m. Unit {0}) ns
all-named [] = tt
all-named (n ∷ ns) = (tt, all-named ns)

all-apart : (name : ℕ) (ns : List ℕ) → is_among ns name ≡ false → AllNamed (λ m. name ≢ m) ns
all-apart name [] none = tt
all-apart name (n ∷ ns) none =
    ((λ e. absurd (let t = eq-eqb n name (sym e) in let f : false ≡ true = sym (neither-first (n == name) (is_among ns name) none) ∙ t in cc)), all-apart name ns (neither-second (n == name) (is_among ns name) none))

not-named : {F : Type 0} (kind : DeclKind) (item : Decl F) (first rest : List (Decl F)) (name : ℕ) → is_among (names_declared (Declare kind (first ++ item ∷ rest))) name ≡ false → name ≢ item.named.name
not-named kind item [] rest name none =
    λ e. absurd (let t = eq-eqb item.named.name name (sym e) in let f : false ≡ true = sym (neither-first (item.named.name == name) _ none) ∙ t in cc)
not-named kind item (other ∷ first) rest name none = not-named kind item first rest name (neither-second (other.named.name == name) _ none)

is-less : (a b : ℕ) → a < b → nat_lt a b ≡ true
is-less a b l = grind (arith, nat_tests)

-- ---- a program without errors

module _ {F : Type 0} (value : F → Number) (program : Program F) (accepted : IsAccepted value program) where
  abbrev count : ℕ
  count = length program.names

  -- what is known after some of its statements
  abbrev known_after_all : List (Stmt F) → Known F
  known_after_all before = known_after value program accepted.0 (sound before)

  error-none : (before rest : List (Stmt F)) (statement : Stmt F) → program.statements.items ≡ before ++ statement ∷ rest → statement_error (known_after_all before) statement ≡ None
  error-none before rest statement is =
      after-sound value program accepted.0 before [] statement rest (sym (ap (λ (statements : List (Stmt F)). errors_after value program accepted.0 [] statements) is) ∙ accepted.1)

  state-then : (before : List (Stmt F)) (statement : Stmt F) → state_after value count (sound (before ++ statement ∷ [])) ≡ after_act value (state_after value count (sound before)) statement.act
  state-then before statement =
      ap (state_after value count) (map-append {B = Stmt F × Bool} (λ (statement : Stmt F). (statement, true)) before (statement ∷ [])) ∙ fold-append (after_statement value) (blank_state count) (sound before) ((statement, true) ∷ [])

  -- the statements from here on keep what holds of a name
  traversal : (n : ℕ) (P : Symbol → Type 0) → ((before : List (Stmt F)) (statement : Stmt F) → FollowsIn program before statement → statement_error (known_after_all before) statement ≡ None → P (symbol_at (state_after value count (sound before)) n) → P (symbol_at (after_act value (state_after value count (sound before)) statement.act) n)) → (before rest : List (Stmt F)) → program.statements.items ≡ before ++ rest → P (symbol_at (state_after value count (sound before)) n) → P (symbol_at (loaded value program) n)
  traversal n P step before [] is p =
      subst (λ (statements : List (Stmt F)). P (symbol_at (state_after value count (sound statements)) n)) (sym (is ∙ append-nil before)) p
  traversal n P step before (statement ∷ rest) is p =
      traversal n P step (before ++ statement ∷ []) rest (is ∙ sym (append_assoc before (statement ∷ []) rest)) (subst (λ (state : State). P (symbol_at state n)) (sym (state-then before statement)) (step before statement (rest, is) (error-none before rest statement is) p))

  -- each statement leaves the same number of names
  size-traversal : (before done rest : List (Stmt F)) → program.statements.items ≡ before ++ rest → length (state_after value count (sound before)).symbols ≡ count → (prefix following : List (Stmt F)) → rest ≡ prefix ++ following → length (state_after value count (sound (before ++ prefix))).symbols ≡ count
  size-traversal before done rest is size [] following parts =
      ap (λ (statements : List (Stmt F)). length (state_after value count (sound statements)).symbols) (append-nil before) ∙ size
  size-traversal before done rest is size (statement ∷ prefix) following parts =
      let whole : program.statements.items ≡ before ++ statement ∷ (prefix ++ following) = is ∙ ap (λ xs. before ++ xs) parts in
      sym (ap (λ (statements : List (Stmt F)). length (state_after value count (sound statements)).symbols) (append_assoc before (statement ∷ []) prefix))
      ∙ size-traversal (before ++ statement ∷ []) done (prefix ++ following) (whole ∙ sym (append_assoc before (statement ∷ []) (prefix ++ following))) (ap (λ (state : State). length state.symbols) (state-then before statement) ∙ size-act (known_after_all before) statement (error-none before (prefix ++ following) statement whole) ∙ size) prefix following refl

  size-after : (before rest : List (Stmt F)) → program.statements.items ≡ before ++ rest → length (state_after value count (sound before)).symbols ≡ count
  size-after before rest is =
      size-traversal [] [] program.statements.items refl (length-replicate count no_symbol) before rest is

  -- a property of a name that is kept by all that the program declares holds at its end
  module _ (n : ℕ) (P : Symbol → Type 0) (Of : DeclKind → Decl F → Type 0) (Named : ℕ → Type 0) (kept : IsKept F n P Of Named) (those : (kind : DeclKind) (item : Decl F) → Declares program kind item → Of kind item) (all : (before : List (Stmt F)) (statement : Stmt F) → FollowsIn program before statement → AllNamed Named (names_declared statement.act)) where
    step-keeps : (before : List (Stmt F)) (statement : Stmt F) → FollowsIn program before statement → statement_error (known_after_all before) statement ≡ None → P (symbol_at (state_after value count (sound before)) n) → P (symbol_at (after_act value (state_after value count (sound before)) statement.act) n)
    step-keeps before statement occurs none p =
        act-keeps n P Of Named kept (known_after_all before) statement none (λ kind first rest item is. those kind item (record { before = before; statement = statement; occurs = occurs; first = first; rest = rest; act = is })) (all before statement occurs) p

    keeps-all : P no_symbol → P (symbol_at (loaded value program) n)
    keeps-all p = traversal n P step-keeps [] program.statements.items refl (subst P (sym (blank-at count n)) p)

    -- from a declaration on
    keeps-from : (kind : DeclKind) (item : Decl F) (d : Declares program kind item) → P (symbol_at (with_item value kind (fold (with_item value kind) (state_after value count (sound d.before)) d.first) item) n) → P (symbol_at (loaded value program) n)
    keeps-from kind item d p =
        let known = known_after_all d.before in
        let none = error-none d.before d.occurs.0 d.statement d.occurs.1 in
        let errors = declaration-clean known d.statement kind (d.first ++ item ∷ d.rest) d.act none in
        let here = known_later kind known d.first in
        let next = next-known kind here item d.rest (following-items kind known d.first (item ∷ d.rest) errors) in
        let last = items-keep n P Of Named kept kind (known_later kind here (item ∷ [])) d.rest next.1 (λ first rest other is. those kind other (record { before = d.before; statement = d.statement; occurs = d.occurs; first = d.first ++ item ∷ first; rest = rest; act = d.act ∙ ap (λ (xs : List (Decl F)). Declare kind xs) (ap (λ xs. d.first ++ item ∷ xs) is ∙ sym (append_assoc d.first (item ∷ first) (other ∷ rest))) })) p in
        traversal n P step-keeps (d.before ++ d.statement ∷ []) d.occurs.0 (d.occurs.1 ∙ sym (append_assoc d.before (d.statement ∷ []) d.occurs.0)) (subst (λ (state : State). P (symbol_at state n)) (sym (state-then d.before d.statement ∙ ap (after_act value known.state) d.act ∙ fold-append (with_item value kind) known.state d.first (item ∷ d.rest))) last)

  -- ---- the name of a declaration

  module _ (kind : DeclKind) (item : Decl F) (d : Declares program kind item) (within : item.named.name < count) where
    abbrev before_it : Known F
    before_it = known_later kind (known_after_all d.before) d.first

    errors-none : declaration_errors (known_after_all d.before) kind (d.first ++ item ∷ d.rest) ≡ []
    errors-none =
        declaration-clean (known_after_all d.before) d.statement kind (d.first ++ item ∷ d.rest) d.act (error-none d.before d.occurs.0 d.statement d.occurs.1)

    is-clean : AreClean before_it (item_uses before_it kind item)
    is-clean =
        (next-known kind before_it item d.rest (following-items kind (known_after_all d.before) d.first (item ∷ d.rest) errors-none)).0

    is-within : nat_lt item.named.name (length before_it.state.symbols) ≡ true
    is-within =
        ap (nat_lt item.named.name) (size-prefix kind (known_after_all d.before) d.first (item ∷ d.rest) errors-none ∙ size-after d.before (d.statement ∷ d.occurs.0) d.occurs.1) ∙ is-less item.named.name count within

    -- its data
    abbrev own_data : ExpandedData F
    own_data = given before_it kind item is-clean

    data-given : expanded before_it.state (positions_of kind (names_of item.domain)) item.items ≡ Ok own_data
    data-given = (item-loadable before_it kind item is-clean).given.1

    data-fit : AreFit (length (positions_of kind (names_of item.domain))) own_data
    data-fit =
        expanded-fit before_it.state (positions_of kind (names_of item.domain)) (length (positions_of kind (names_of item.domain))) item.items own_data (recursion_from_All (λ (i : Item F). length i.parts ≡ length (positions_of kind (names_of item.domain))) item.items (item-loadable before_it kind item is-clean).parts) data-given

    -- its symbol directly after its declaration
    abbrev made : Symbol
    made = data_in value (declared_again kind (names_of item.domain) (symbol_at before_it.state item.named.name)) own_data

    made-here : symbol_at (with_item value kind before_it.state item) item.named.name ≡ made
    made-here = item-own before_it kind item is-clean is-within

    -- and, where it is no variable
    made-new : is_variable (content_of kind) ≡ false → made ≡ data_in value (symbol_of_kind kind (names_of item.domain)) own_data
    made-new none =
        ap (λ s. data_in value s own_data) (new-symbol kind (names_of item.domain) (symbol_at before_it.state item.named.name) (clean-new before_it kind item is-clean none))

    -- what is settled stays to the end
    settled-all : is_undeclared made.content ≡ false → is_free made.content ≡ false → symbol_at (loaded value program) item.named.name ≡ made
    settled-all old fixed =
        keeps-from item.named.name (λ s. s ≡ made) (λ kind item. Unit {0}) (λ m. Unit {0}) (settled F item.named.name made old fixed) (λ kind item d. tt) (λ before statement occurs. all-named (names_declared statement.act)) kind item d made-here

    settled-as : (s : Symbol) → made ≡ s → is_undeclared s.content ≡ false → is_free s.content ≡ false → symbol_at (loaded value program) item.named.name ≡ s
    settled-as s is old fixed =
        settled-all (ap (λ (s : Symbol). is_undeclared s.content) is ∙ old) (ap (λ (s : Symbol). is_free s.content) is ∙ fixed) ∙ is

    -- a parameter, a set and an equation
    as-parameter : content_of kind ≡ parameter_of finite.empty → symbol_at (loaded value program) item.named.name ≡ parameter_symbol value (positions_of kind (names_of item.domain)) (entries_after value (positions_of kind (names_of item.domain)) finite.empty own_data)
    as-parameter is =
        settled-as (parameter_symbol value (positions_of kind (names_of item.domain)) (entries_after value (positions_of kind (names_of item.domain)) finite.empty own_data)) (made-new (ap is_variable is) ∙ ap (λ (c : Content). data_in value (record { domain = positions_of kind (names_of item.domain); content = c }) own_data) is ∙ data-parameter value (positions_of kind (names_of item.domain)) own_data finite.empty data-fit) refl refl

    as-set : content_of kind ≡ set_of [] → symbol_at (loaded value program) item.named.name ≡ set_symbol value (positions_of kind (names_of item.domain)) (members_after value (positions_of kind (names_of item.domain)) [] own_data)
    as-set is =
        settled-as (set_symbol value (positions_of kind (names_of item.domain)) (members_after value (positions_of kind (names_of item.domain)) [] own_data)) (made-new (ap is_variable is) ∙ ap (λ (c : Content). data_in value (record { domain = positions_of kind (names_of item.domain); content = c }) own_data) is ∙ data-set value (positions_of kind (names_of item.domain)) own_data [] data-fit) refl refl

    as-equation : content_of kind ≡ equation_of finite.empty → symbol_at (loaded value program) item.named.name ≡ record { domain = positions_of kind (names_of item.domain); content = equation_of finite.empty }
    as-equation is =
        settled-as (record { domain = positions_of kind (names_of item.domain); content = equation_of finite.empty }) (made-new (ap is_variable is) ∙ ap (λ (c : Content). data_in value (record { domain = positions_of kind (names_of item.domain); content = c }) own_data) is ∙ data-quiet value own_data (record { domain = positions_of kind (names_of item.domain); content = equation_of finite.empty }) (λ t on. refl) (λ t y. refl)) refl refl

    -- a variable: of a type that is not free, and of a free one
    made-type : (t : VariableType) → type_of kind ≡ Some t → made.content ≡ variable_of t finite.empty
    made-type t is =
        let content = typed-content kind (names_of item.domain) (symbol_at before_it.state item.named.name) t is (clean-bare before_it kind item is-clean) in
        ap (λ (s : Symbol). s.content) (variable-quiet value own_data (declared_again kind (names_of item.domain) (symbol_at before_it.state item.named.name)) t content) ∙ content

    as-typed : (t : VariableType) → type_of kind ≡ Some t → is_free (variable_of t finite.empty) ≡ false → (symbol_at (loaded value program) item.named.name).content ≡ variable_of t finite.empty
    as-typed t is fixed =
        ap (λ (s : Symbol). s.content) (settled-all (ap is_undeclared (made-type t is)) (ap is_free (made-type t is) ∙ fixed)) ∙ made-type t is

    as-free : type_of kind ≡ Some type.Free → IsFree program item.named.name → (symbol_at (loaded value program) item.named.name).content ≡ variable_of type.Free finite.empty
    as-free is free =
        keeps-from item.named.name (λ s. s.content ≡ variable_of type.Free finite.empty) (λ kind other. other.named.name ≡ item.named.name → type_of kind ≡ Some type.Free) (λ m. Unit {0}) (free-kept F item.named.name) (λ kind other d. free kind other d) (λ before statement occurs. all-named (names_declared statement.act)) kind item d (ap (λ (s : Symbol). s.content) made-here ∙ made-type type.Free is)

    as-variable : (t : VariableType) → type_of kind ≡ Some t → (t ≡ type.Free → IsFree program item.named.name) → (symbol_at (loaded value program) item.named.name).content ≡ variable_of t finite.empty
    as-variable type.Free is free = as-free is (free refl)
    as-variable type.Positive is free = as-typed type.Positive is refl
    as-variable type.Negative is free = as-typed type.Negative is refl
    as-variable type.Discrete is free = as-typed type.Discrete is refl

-- ---- what is read

-- a name whose content is no other name's is read by itself
own-symbol : (state : State) (name : ℕ) (c : Content) → (symbol_at state name).content ≡ c → alias_target name c ≡ name → symbol_of state name ≡ symbol_at state name
own-symbol state name c is own = ap (symbol_at state) (ap (alias_target name) is ∙ own)

values-kind : (kind : DeclKind) → has_values kind ≡ true → content_of kind ≡ parameter_of finite.empty
values-kind declaring.Set e = absurd cc
values-kind declaring.Parameter e = refl
values-kind declaring.Scalar e = refl
values-kind declaring.Table e = refl
values-kind declaring.Free e = absurd cc
values-kind declaring.Positive e = absurd cc
values-kind declaring.Negative e = absurd cc
values-kind declaring.Discrete e = absurd cc
values-kind declaring.Equation e = absurd cc

module _ {F : Type 0} (value : F → Number) where
  pub members-loaded : (program : Program F) (item : Decl F) (t : List ℕ) → IsAccepted value program → Declares program declaring.Set item → item.named.name < length program.names → has (members_of (loaded value program) item.named.name) t ≡ is_put_in (datum_at item.items t)
  members-loaded program item t accepted d within =
      let domain = positions_of declaring.Set (names_of item.domain) in
      let ds = own_data value program accepted declaring.Set item d within in
      let is = as-set value program accepted declaring.Set item d within refl in
      ap (λ (s : Symbol). has (members_in s.content) t) (own-symbol (loaded value program) item.named.name (set_of (members_after value domain [] ds)) (ap (λ (s : Symbol). s.content) is) refl ∙ is)
      ∙ set-read value domain ds [] t
      ∙ expanded-read (member_taken value) false t (before_it value program accepted declaring.Set item d within).state domain item.items ds (data-given value program accepted declaring.Set item d within)
      ∙ by (datum_at item.items t)
    where
      by : (o : Option (Option (Ext F))) → taken (member_taken value) false o ≡ is_put_in o
      by None = refl
      by (Some None) = refl
      by (Some (Some x)) = refl

  pub values-loaded : (program : Program F) (kind : DeclKind) (item : Decl F) (t : List ℕ) → IsAccepted value program → Declares program kind item → item.named.name < length program.names → has_values kind ≡ true → value_of (loaded value program) item.named.name t ≡ value_put value (datum_at item.items t)
  values-loaded program kind item t accepted d within valued =
      let domain = positions_of kind (names_of item.domain) in
      let ds = own_data value program accepted kind item d within in
      let is = as-parameter value program accepted kind item d within (values-kind kind valued) in
      ap (λ (s : Symbol). value_in s.content t) (own-symbol (loaded value program) item.named.name (parameter_of (entries_after value domain finite.empty ds)) (ap (λ (s : Symbol). s.content) is) refl ∙ is)
      ∙ parameter-read value domain ds finite.empty t (data-fit value program accepted kind item d within)
      ∙ ap (λ o. reads (value_taken value) (unwrap_or o state_words.zero) ds t) (finite.get-empty tuple_cmp t)
      ∙ expanded-read (value_taken value) state_words.zero t (before_it value program accepted kind item d within).state domain item.items ds (data-given value program accepted kind item d within)
      ∙ by (datum_at item.items t)
    where
      by : (o : Option (Option (Ext F))) → taken (value_taken value) state_words.zero o ≡ value_put value o
      by None = refl
      by (Some None) = refl
      by (Some (Some x)) = refl

  pub bounds-loaded : (program : Program F) (kind : DeclKind) (item : Decl F) (v : VariableType) (t : List ℕ) → IsAccepted value program → Declares program kind item → item.named.name < length program.names → type_of kind ≡ Some v → (v ≡ type.Free → IsFree program item.named.name) → attributes_of (loaded value program) item.named.name t ≡ absent_variable v
  bounds-loaded program kind item v t accepted d within is free =
      let content = as-variable value program accepted kind item d within v is free in
      ap (λ (s : Symbol). attributes_in s.content t) (own-symbol (loaded value program) item.named.name (variable_of v finite.empty) content refl)
      ∙ ap (λ c. attributes_in c t) content
      ∙ ap (λ o. unwrap_or o (absent_variable v)) (finite.get-empty tuple_cmp t)

  pub equations-loaded : (program : Program F) (item : Decl F) (t : List ℕ) → IsAccepted value program → Declares program declaring.Equation item → item.named.name < length program.names → attributes_of (loaded value program) item.named.name t ≡ unbounded
  equations-loaded program item t accepted d within =
      let is = as-equation value program accepted declaring.Equation item d within refl in
      ap (λ (s : Symbol). attributes_in s.content t) (own-symbol (loaded value program) item.named.name (equation_of finite.empty) (ap (λ (s : Symbol). s.content) is) refl ∙ is)
      ∙ ap (λ o. unwrap_or o unbounded) (finite.get-empty tuple_cmp t)

  pub positions-loaded : (program : Program F) (kind : DeclKind) (item : Decl F) → IsAccepted value program → Declares program kind item → item.named.name < length program.names → type_of kind ≡ None → (symbol_of (loaded value program) item.named.name).domain ≡ positions_of kind (names_of item.domain)
  positions-loaded program kind item accepted d within plain = by kind d plain
    where
      from : (s : Symbol) → symbol_at (loaded value program) item.named.name ≡ s → alias_target item.named.name s.content ≡ item.named.name → (symbol_of (loaded value program) item.named.name).domain ≡ s.domain
      from s is own =
          ap (λ (s : Symbol). s.domain) (own-symbol (loaded value program) item.named.name s.content (ap (λ (s : Symbol). s.content) is) own ∙ is)

      by : (kind : DeclKind) → Declares program kind item → type_of kind ≡ None → (symbol_of (loaded value program) item.named.name).domain ≡ positions_of kind (names_of item.domain)
      by declaring.Set d plain = from _ (as-set value program accepted declaring.Set item d within refl) refl
      by declaring.Parameter d plain = from _ (as-parameter value program accepted declaring.Parameter item d within refl) refl
      by declaring.Scalar d plain = from _ (as-parameter value program accepted declaring.Scalar item d within refl) refl
      by declaring.Table d plain = from _ (as-parameter value program accepted declaring.Table item d within refl) refl
      by declaring.Free d plain = absurd cc
      by declaring.Positive d plain = absurd cc
      by declaring.Negative d plain = absurd cc
      by declaring.Discrete d plain = absurd cc
      by declaring.Equation d plain = from _ (as-equation value program accepted declaring.Equation item d within refl) refl

  -- ---- names that nothing declares

  pub undeclared-loaded : (program : Program F) (name : ℕ) → IsAccepted value program → IsUndeclared program name → symbol_at (loaded value program) name ≡ no_symbol
  undeclared-loaded program name accepted none =
      keeps-all value program accepted name (λ s. s ≡ no_symbol) (λ kind item. name ≢ item.named.name) (λ m. name ≢ m) (absent-kept F name)
      (λ kind item d. not-named kind item d.first d.rest name (sym (ap (λ (act : Act F). is_among (names_declared act) name) d.act) ∙ none d.before d.statement d.occurs))
      (λ before statement occurs. all-apart name (names_declared statement.act) (none before statement occurs))
      refl
