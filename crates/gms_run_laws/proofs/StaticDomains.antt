-- In an accepted program each set of a position is declared, and no statement of the program
-- assigns it.
use Rattle.std.proofs.Common.{◌≡◌, ◌⊎◌, ℕ, Bool, true, false, cond, List, [], ◌∷◌, length, Option, Some, None, Result, Ok, Err, refl, sym, ap, ◌∙◌, subst, inl, inr}
use Rattle.std.specs.Prelude.{flat_map}
use Rattle.std.specs.List.{fold, list_any}
use Rattle.std.proofs.lemmas.Bool.{both_ways, and_parts}
use Rattle.gq_number.specs.Number.{Number}
use Rattle.gq_extended.specs.Meaning.{extended as value_shown}
use Rattle.gms_ast.specs.declared.word.Named.{Named}
use Rattle.gms_ast.specs.declared.declaration.Decl.{Decl}
use Rattle.gms_ast.specs.declared.declaration.DeclKind.{DeclKind}
use Rattle.gms_ast.specs.declared.declaration.DeclKind.TheVariants as kind
use Rattle.gms_ast.specs.declared.program.Program.{Program}
use Rattle.gms_store.specs.State.{State, Content, Symbol, symbol_at, symbol_of, base_of, with_content, if_fits, with_membership, with_value}
use Rattle.gms_store.specs.Declarations.{names_of, positions_of, content_of, symbol_of_kind, retyped, is_set, is_undeclared, declared_again, put_at, declare, alias_symbol, model_symbol, join_name, can_join, declare_alias, declare_model, blank_state}
use Rattle.gms_set.specs.declared.fault.SetFault.{SetFault}
use Rattle.gms_set.specs.Expansion.{ExpandedData, expanded}
use Rattle.gms_scope.specs.Data.{with_datum}
use Rattle.gms_scope.specs.DynamicSets.{dynamic_sets}
use Rattle.gms_scope.specs.Names.{has_no_declaration}
use Rattle.gms_check.specs.declared.error.ErrorKind.TheVariants.{UnknownName, DynamicDomain}
use Rattle.gms_check.specs.CompileErrors.{of_program}
use Rattle.gms_check.specs.DeclarationUses.{domain_use, data_uses, item_uses}
use Rattle.gms_check.specs.Loaded.{IsAccepted, loaded}
use Rattle.gms_check.specs.Past.{is_among, Known, with_data, with_item, with_name}
use Rattle.gms_check.proofs.Growing.{put-at}
use Rattle.gms_check.proofs.IndexSetsStay.{none-declared}
use Rattle.gms_check.proofs.NoErrors.{AreClean, clean-left}
use Rattle.gms_check.proofs.Soundness.{neither-first}
use Rattle.gms_run_laws.specs.LastStates.{IsFixedSet, AreFixed}
use Rattle.gms_run_laws.proofs.DeclaredStates.{over-accepted}
use Rattle.gms_run_laws.proofs.LoadedPositions.{Gains, gains-fresh, gains-put, gains-again, IsWithDatum, datum-member, datum-value, either-new, gains-new}

module _ (assigned : ℕ → Bool) where
  set-later : (old new : State) → ((n : ℕ) → Gains (symbol_at old n) (symbol_at new n)) → (set : ℕ) → IsFixedSet assigned old set → IsFixedSet assigned new set
  set-later old new gains set fixed = record {
    declared = (gains set).declared fixed.declared;
    static = elim (gains set).alike [
      | inl none ↦ absurd (both_ways (is_undeclared (symbol_at old set).content) fixed.declared none)
      | inr alike ↦ ap assigned (alike set) ∙ fixed.static
    ];
  }

  all-later : (old new : State) → ((n : ℕ) → Gains (symbol_at old n) (symbol_at new n)) → (domain : List (Option ℕ)) → AreFixed assigned old domain → AreFixed assigned new domain
  all-later old new gains [] fixed = tt
  all-later old new gains (None ∷ domain) fixed = all-later old new gains domain fixed
  all-later old new gains (Some set ∷ domain) fixed =
      (set-later old new gains set fixed.0, all-later old new gains domain fixed.1)

  -- the positions of each name are
  abbrev HasFixed : State → Type 0
  HasFixed state = (n : ℕ) → AreFixed assigned state (symbol_at state n).domain

  fixed-put : (state : State) (name : ℕ) (new : Symbol) → Gains (symbol_at state name) new → AreFixed assigned state new.domain → HasFixed state → HasFixed (put_at state name new)
  fixed-put state name new gains own all n =
      all-later state (put_at state name new) (gains-put state name new gains) (symbol_at (put_at state name new) n).domain (by (put-at state name new n))
    where
      by : ((symbol_at (put_at state name new) n ≡ symbol_at state n) ⊎ ((n ≡ name) × (symbol_at (put_at state name new) n ≡ new))) → AreFixed assigned state (symbol_at (put_at state name new) n).domain
      by (inl same) = subst (λ (s : Symbol). AreFixed assigned state s.domain) (sym same) (all n)
      by (inr changed) = subst (λ (s : Symbol). AreFixed assigned state s.domain) (sym changed.1) own

  fixed-declare : (k : DeclKind) (domain : List (Option ℕ)) (state : State) (name : ℕ) → AreFixed assigned state (positions_of k domain) → HasFixed state → HasFixed (declare k domain state name)
  fixed-declare k domain state name own all =
      fixed-put state name (declared_again k domain (symbol_at state name)) (gains-again k domain (symbol_at state name)) (by (is_undeclared (symbol_at state name).content)) all
    where
      by : (b : Bool) → AreFixed assigned state (cond b (symbol_of_kind k domain) (with_content (symbol_at state name) (retyped (symbol_at state name).content (content_of k)))).domain
      by true = own
      by false = all name

  fixed-join : (state : State) (old new : ℕ) → can_join state old new ≡ true → HasFixed state → HasFixed (join_name state old new)
  fixed-join state old new can all =
      fixed-put state new (alias_symbol (base_of state old)) (gains-fresh (symbol_at state new) (alias_symbol (base_of state old)) ((and_parts (is_set (symbol_at state old).content) (is_undeclared (symbol_at state new).content) can).1)) tt all

  fixed-alias : (state : State) (first second : ℕ) → HasFixed state → HasFixed (declare_alias state first second)
  fixed-alias state first second all = by (can_join state first second) (can_join state second first) refl refl
    where
      by : (a b : Bool) → can_join state first second ≡ a → can_join state second first ≡ b → HasFixed (cond a (join_name state first second) (cond b (join_name state second first) (declare kind.Set [] (declare kind.Set [] state first) second)))
      by true b can other = fixed-join state first second can all
      by false true none can = fixed-join state second first can all
      by false false none other = fixed-declare kind.Set [] (declare kind.Set [] state first) second tt (fixed-declare kind.Set [] state first tt all)

  fixed-model : (state : State) (name : ℕ) → HasFixed state → HasFixed (declare_model state name)
  fixed-model state name all = by (is_undeclared (symbol_at state name).content) refl
    where
      by : (b : Bool) → is_undeclared (symbol_at state name).content ≡ b → HasFixed (cond b (put_at state name model_symbol) state)
      by true none = fixed-put state name model_symbol (gains-fresh (symbol_at state name) model_symbol none) tt all
      by false there = all

  fixed-datum : (state : State) (name : ℕ) (t : List ℕ) (new : Content) → IsWithDatum t (symbol_of state name).content new → HasFixed state → HasFixed (put_at state (base_of state name) (if_fits (symbol_of state name) t new))
  fixed-datum state name t new datum all =
      fixed-put state (base_of state name) (if_fits (symbol_of state name) t new) (gains-new state name t new datum) (either-new state name t new datum (λ (s : Symbol). AreFixed assigned state s.domain) (all (base_of state name)) (all (base_of state name))) all

  module _ {F : Type 0} (v : F → Number) where
    fixed-data : (ds : ExpandedData F) (state : State) (name : ℕ) → HasFixed state → HasFixed (fold (with_datum v name) state ds)
    fixed-data [] state name all = all
    fixed-data ((t, None) ∷ ds) state name all =
        let s = symbol_of state name in
        fixed-data ds (put_at state (base_of state name) (if_fits s t (with_membership s.content t true))) name (fixed-datum state name t (with_membership s.content t true) (datum-member t s.content) all)
    fixed-data ((t, Some x) ∷ ds) state name all =
        let s = symbol_of state name in
        fixed-data ds (put_at state (base_of state name) (if_fits s t (with_value s.content t (value_shown v x)))) name (fixed-datum state name t (with_value s.content t (value_shown v x)) (datum-value t (value_shown v x) s.content) all)

    fixed-given : (state : State) (name : ℕ) (given : Result (ExpandedData F) SetFault) → HasFixed state → HasFixed (with_data v state name given)
    fixed-given state name (Ok given) all = fixed-data given state name all
    fixed-given state name (Err fault) all = all

  module _ {F : Type 0} (known : Known F) (same : known.assigned ≡ assigned) where
    domain-fixed : (domain : List (Option Named)) → AreClean known (flat_map domain_use domain) → AreFixed assigned known.state (names_of domain)
    domain-fixed [] clean = tt
    domain-fixed (None ∷ domain) clean = domain-fixed domain clean
    domain-fixed (Some named ∷ domain) clean = (
      record {
        declared = neither-first (has_no_declaration known.state named.name) (list_any (has_no_declaration known.state) []) (clean.0 UnknownName);
        static = sym (ap (λ (a : ℕ → Bool). a (base_of known.state named.name)) same) ∙ clean.0 DynamicDomain;
      },
      domain-fixed domain clean.1,
    )

    positions-fixed : (k : DeclKind) (domain : List (Option ℕ)) → AreFixed assigned known.state domain → AreFixed assigned known.state (positions_of k domain)
    positions-fixed kind.Set [] fixed = tt
    positions-fixed kind.Set (position ∷ domain) fixed = fixed
    positions-fixed kind.Parameter domain fixed = fixed
    positions-fixed kind.Scalar domain fixed = fixed
    positions-fixed kind.Table domain fixed = fixed
    positions-fixed kind.Free domain fixed = fixed
    positions-fixed kind.Positive domain fixed = fixed
    positions-fixed kind.Negative domain fixed = fixed
    positions-fixed kind.Discrete domain fixed = fixed
    positions-fixed kind.Equation domain fixed = fixed

    fixed-item : (k : DeclKind) (item : Decl F) → AreClean known (item_uses known k item) → HasFixed known.state → HasFixed (with_item known.value k known.state item)
    fixed-item k item clean all =
        let domain = names_of item.domain in
        let own = positions-fixed k domain (domain-fixed item.domain (clean-left known (flat_map domain_use item.domain) (data_uses known (positions_of k domain) item.items) clean.1)) in
        fixed-given known.value (with_name known.value k known.state item) item.named.name (expanded known.state (positions_of k domain) item.items) (fixed-declare k domain known.state item.named.name own all)

-- the sets of positions in the state in which a run begins
pub loaded-fixed : {F : Type 0} (v : F → Number) (program : Program F) (name : ℕ) → IsAccepted v program → AreFixed (of_program program (is_among (dynamic_sets program))) (loaded v program) (symbol_at (loaded v program) name).domain
loaded-fixed v program name accepted =
    let assigned = of_program program (is_among (dynamic_sets program)) in
    let blank = blank_state (length program.names) in
    let empty : HasFixed assigned blank = λ n. subst (λ (s : Symbol). AreFixed assigned blank s.domain) (sym (none-declared (length program.names) n)) tt in
    over-accepted program (HasFixed assigned) (λ k known item same clean all. fixed-item assigned known same k item clean all) (fixed-alias assigned) (fixed-model assigned) v accepted empty name
