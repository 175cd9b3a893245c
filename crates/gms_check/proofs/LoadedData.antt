-- The data of a program without errors can be given.
use Rattle.gms_check.proofs.Faultless.{none-first, none-left, none-right}
use Rattle.std.proofs.lemmas.Bool.{and_from, not-false}
use Rattle.std.proofs.Common.{◌≡◌, ◌≤◌, ◌<◌, ◌+◌, ℕ, Bool, true, not, ◌&&◌, List, [], ◌∷◌, ◌++◌, length, map, take, drop, get_or, refl, sym, ap, ◌∙◌, subst, Option, Some, None, Result, Ok, Err, arith, if◌then◌else◌}
use Rattle.std.specs.Prelude.{flat_map, nat_le, take_while}
use Rattle.std.specs.List.{list_all, AllByRecursion}
use Rattle.std.proofs.lemmas.Bool.Decides.{nat_tests}
use Rattle.std.proofs.lemmas.List.{map-append, take_more, take-append-drop, drop_more}
use Rattle.std.proofs.lemmas.List.Elements.{All-from_recursion}
use Rattle.std.proofs.lemmas.List.Sums.{fold-append, take_while-cons}
use Rattle.gq_number.specs.Number.{Number}
use Rattle.gms_ast.specs.declared.word.Named.{Named}
use Rattle.gms_ast.specs.declared.declaration.DeclKind.{DeclKind}
use Rattle.gms_ast.specs.declared.declaration.DeclKind.TheVariants as declaring
use Rattle.gms_ast.specs.declared.declaration.Decl.{Decl}
use Rattle.gms_ast.specs.declared.declaration.Item.{Item}
use Rattle.gms_ast.specs.declared.program.Act.{Act}
use Rattle.gms_ast.specs.declared.program.Act.TheVariants.{Declare}
use Rattle.gms_ast.specs.declared.program.Stmt.{Stmt}
use Rattle.gms_ast.specs.declared.program.Program.{Program}
use Rattle.gms_store.specs.State.{State}
use Rattle.gms_store.specs.Declarations.{blank_state, names_of, positions_of}
use Rattle.gms_set.specs.declared.fault.SetError.{SetError}
use Rattle.gms_set.specs.declared.fault.SetError.TheVariants.{BadRange, Repeated, Outside, Full}
use Rattle.gms_set.specs.declared.fault.SetFault.{SetFault}
use Rattle.gms_set.specs.Expansion.{ExpandedData, expanded}
use Rattle.gms_scope.specs.Names.{is_index_set}
use Rattle.gms_check.specs.declared.error.ErrorKind.TheVariants.{DataFault, DomainOfLabel, WrongArity, WrongKind}
use Rattle.gms_check.specs.declared.error.CompileError.{CompileError}
use Rattle.gms_check.specs.CompileErrors.{act_errors, declaration_errors, errors_after, errors_of, is_faultless, known_after, known_after_item, known_in, statement_error}
use Rattle.gms_check.specs.DeclarationUses.{are_usable, data_uses, domain_use, expansion_uses, failure, has_all_parts, is_usable_in, item_uses, kind_uses}
use Rattle.gms_check.specs.Errors.{first_error}
use Rattle.gms_check.specs.InnerLoadable.{AreLoadable, IsLoadable, IsLoadableItem}
use Rattle.gms_check.specs.Loaded.{IsAccepted, sound}
use Rattle.gms_check.specs.Past.{Known, after_act, after_statement, state_after, with_item, with_name}
use Rattle.gms_check.specs.Uses.{Uses, failing, placing}
use Rattle.gms_check.proofs.NoErrors.{AreClean, IsClean, are-clean, clean-left, clean-right}
use Rattle.gms_check.proofs.Soundness.{after-sound, at-most, right-count}

positions-usable : (test : Option ℕ → Bool) (kind : DeclKind) (domain : List (Option ℕ)) → test None ≡ true → list_all test domain ≡ true → list_all test (positions_of kind domain) ≡ true
positions-usable test declaring.Set [] n e = ap (λ b. b && true) n
positions-usable test declaring.Set (d ∷ domain) n e = e
positions-usable test declaring.Parameter domain n e = e
positions-usable test declaring.Scalar domain n e = e
positions-usable test declaring.Table domain n e = e
positions-usable test declaring.Free domain n e = e
positions-usable test declaring.Positive domain n e = e
positions-usable test declaring.Negative domain n e = e
positions-usable test declaring.Discrete domain n e = e
positions-usable test declaring.Equation domain n e = e

within : (n m : ℕ) → n ≤ m → nat_le n m ≡ true
within n m l = grind (arith, nat_tests)

module _ {F : Type 0} where
  usable : (known : Known F) (domain : List (Option Named)) → AreClean known (flat_map domain_use domain) → list_all (is_usable_in known.state) (names_of domain) ≡ true
  usable known [] clean = refl
  usable known (None ∷ domain) clean = usable known domain clean
  usable known (Some named ∷ domain) clean =
      and_from (is_index_set known.state named.name) (list_all (is_usable_in known.state) (names_of domain)) (not-false (is_index_set known.state named.name) (clean.0 WrongKind)) (usable known domain clean.1)

  -- the items as parts
  abbrev placed_items : List (Option ℕ) → List (Item F) → Uses F
  placed_items positions items = map (λ (item : Item F). (item.at, placing (length positions) (length item.parts))) items

  all-parts : (known : Known F) (positions : List (Option ℕ)) (items : List (Item F)) → AreClean known (placed_items positions items) → AllByRecursion (λ (i : Item F). length i.parts ≡ length positions) items
  all-parts known positions [] clean = tt
  all-parts known positions (item ∷ items) clean =
      (right-count (length positions) (length item.parts) (clean.0 WrongArity), all-parts known positions items clean.1)

  all-taken : (known : Known F) (positions : List (Option ℕ)) (items : List (Item F)) → AreClean known (placed_items positions items) → take_while (has_all_parts positions) items ≡ items
  all-taken known positions [] clean = refl
  all-taken known positions (item ∷ items) clean =
      take_while-cons (has_all_parts positions) item items ∙ ap (λ (b : Bool). if not b then item ∷ take_while (has_all_parts positions) items else []) (clean.0 WrongArity) ∙ ap (λ (rest : List (Item F)). item ∷ rest) (all-taken known positions items clean.1)

  no-failure : (known : Known F) (r : Result (ExpandedData F) SetFault) → AreClean known (failure r) → (given : ExpandedData F) × (r ≡ Ok given)
  no-failure known (Ok given) clean = (given, refl)
  no-failure known (Err fault) clean = absurd (by fault.error clean.0)
    where
      by : (error : SetError) → IsClean known (failing error) → ⊥
      by Outside clean = let e = clean DomainOfLabel in cc
      by BadRange clean = let e = clean DataFault in cc
      by Repeated clean = let e = clean DataFault in cc
      by Full clean = let e = clean DataFault in cc

  pub item-loadable : (known : Known F) (kind : DeclKind) (item : Decl F) → AreClean known (item_uses known kind item) → IsLoadableItem kind known.state item
  item-loadable known kind item clean =
      let positions = positions_of kind (names_of item.domain) in
      let few : length positions ≤ 10 = at-most 10 (length positions) (clean.0 WrongArity) in
      let domain = clean-left known (flat_map domain_use item.domain) (data_uses known positions item.items) clean.1 in
      let data_clean = clean-right known (flat_map domain_use item.domain) (data_uses known positions item.items) clean.1 in
      let items = clean-left known (placed_items positions item.items) (expansion_uses known positions item.items) data_clean in
      let expansion = clean-right known (placed_items positions item.items) (expansion_uses known positions item.items) data_clean in
      let usable_positions : are_usable known positions ≡ true = and_from (nat_le (length positions) 10) (list_all (is_usable_in known.state) positions) (within (length positions) 10 few) (positions-usable (is_usable_in known.state) kind (names_of item.domain) refl (usable known item.domain domain)) in
      let failed : AreClean known (failure (expanded known.state positions item.items)) = subst (λ (b : Bool). AreClean known (if b then failure (expanded known.state positions item.items) else [])) usable_positions (subst (λ (given : List (Item F)). AreClean known (if are_usable known positions then failure (expanded known.state positions given) else [])) (all-taken known positions item.items items) expansion) in
      record {
        parts = All-from_recursion (λ (i : Item F). length i.parts ≡ length positions) item.items (all-parts known positions item.items items);
        few = few;
        given = no-failure known (expanded known.state positions item.items) failed;
      }

  items-loadable : (kind : DeclKind) (items : List (Decl F)) (known : Known F) → declaration_errors known kind items ≡ [] → AreLoadable known.value kind known.state items
  items-loadable kind [] known e = tt
  items-loadable kind (item ∷ items) known e =
      let errors = errors_of known (item_uses known kind item) in
      let none : errors ≡ [] = none-left errors (declaration_errors (known_after_item known kind item) kind items) e in
      let next : known_after_item known kind item ≡ known_in known (with_item known.value kind known.state item) = ap (λ (es : List CompileError). known_in known (if is_faultless es then with_item known.value kind known.state item else with_name known.value kind known.state item)) none in
      (item-loadable known kind item (are-clean known (item_uses known kind item) none), items-loadable kind items (known_in known (with_item known.value kind known.state item)) (sym (ap (λ (k : Known F). declaration_errors k kind items) next) ∙ none-right errors (declaration_errors (known_after_item known kind item) kind items) e))

  act-loadable : (known : Known F) (statement : Stmt F) → statement_error known statement ≡ None → IsLoadable known.value known.state statement.act
  act-loadable known statement = by statement.act
    where
      by : (act : Act F) → first_error (act_errors known statement act) ≡ None → IsLoadable known.value known.state act
      by (Declare kind items) e =
          items-loadable kind items known (none-right (errors_of known (kind_uses statement.at kind)) (declaration_errors known kind items) (none-first (act_errors known statement (Declare kind items)) e))
      by act e = tt

-- a list around one of its elements
around : {X : Type 0} (xs : List X) (i : ℕ) (x : X) → i < length xs → x ≡ get_or xs i x → xs ≡ take i xs ++ x ∷ drop (i + 1) xs
around xs i x l is =
    sym (take-append-drop i xs) ∙ ap (λ ys. take i xs ++ ys) (drop_more xs i x l ∙ ap (λ y. y ∷ drop (i + 1) xs) (sym is))

module _ {F : Type 0} (value : F → Number) (program : Program F) where
  -- the state after `i` statements
  abbrev pub state_at : ℕ → State
  state_at i = state_after value (length program.names) (sound (take i program.statements.items))

  -- the statement after them can be loaded
  pub statement-loadable : IsAccepted value program → (i : ℕ) (x : Stmt F) → i < length program.statements.items → x ≡ get_or program.statements.items i x → IsLoadable value (state_at i) x.act
  statement-loadable accepted i x l is =
      let before = take i program.statements.items in
      let none = after-sound value program accepted.0 before [] x (drop (i + 1) program.statements.items) (sym (ap (λ (statements : List (Stmt F)). errors_after value program accepted.0 [] statements) (around program.statements.items i x l is)) ∙ accepted.1) in
      act-loadable (known_after value program accepted.0 (sound before)) x none

  -- and makes the state after it
  pub state-more : (i : ℕ) (x : Stmt F) → i < length program.statements.items → x ≡ get_or program.statements.items i x → after_act value (state_at i) x.act ≡ state_at (i + 1)
  state-more i x l is =
      sym (ap (λ (statements : List (Stmt F)). state_after value (length program.names) (sound statements)) (take_more program.statements.items i x l ∙ ap (λ y. take i program.statements.items ++ y ∷ []) (sym is)) ∙ ap (state_after value (length program.names)) (map-append {B = Stmt F × Bool} (λ (statement : Stmt F). (statement, true)) (take i program.statements.items) (x ∷ [])) ∙ fold-append (after_statement value) (blank_state (length program.names)) (sound (take i program.statements.items)) ((x, true) ∷ []))

module _ {F : Type 0} (value : F → Number) where
  -- the next name can be loaded, and the later ones after it
  pub next-item : (kind : DeclKind) (state : State) (items : List (Decl F)) (i : ℕ) (x : Decl F) → i < length items → x ≡ get_or items i x → AreLoadable value kind state (drop i items) → AreLoadable value kind state (x ∷ drop (i + 1) items)
  next-item kind state items i x l is loadable =
      subst (AreLoadable value kind state) (drop_more items i x l ∙ ap (λ y. y ∷ drop (i + 1) items) (sym is)) loadable
