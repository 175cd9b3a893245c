-- What is known before a statement of an accepted program, of the state then and of the one in
-- which its run begins.
use Rattle.std.proofs.Common.{◌≡◌, ℕ, ◌<◌, ◌≤◌, nat_lt, nat_le, Bool, true, false, not, ◌&&◌, ◌||◌, List, [], ◌∷◌, length, map, Option, Some, None, refl, sym, ap, ap₂, ◌∙◌, subst, inl, inr, arith}
use Rattle.std.specs.Prelude.{flat_map}
use Rattle.std.specs.List.{All, fold}
use Rattle.std.proofs.lemmas.Bool.{both_ways, and_from, not-true}
use Rattle.std.proofs.lemmas.Bool.Decides.{nat_tests}
use Rattle.std.proofs.lemmas.List.{map-append, length-map}
use Rattle.std.proofs.lemmas.List.Elements.{All-head, All-tail, All-contains}
use Rattle.std.proofs.lemmas.List.Sums.{fold-append}
use Rattle.gq_number.specs.Number.{Number}
use Rattle.gms_ast.specs.declared.program.Program.{Program}
use Rattle.gms_ast.specs.declared.program.Stmt.{Stmt}
use Rattle.gms_tuple.specs.TupleOrder.{same_tuple}
use Rattle.gms_tuple.specs.TupleSet.{has}
use Rattle.gms_tuple.proofs.Members.{Contains-has}
use Rattle.gms_tuple.proofs.Ordered.{same_tuple-Decides}
use Rattle.gms_store.specs.Declarations.{blank_state, declared_state, is_undeclared}
use Rattle.gms_store.specs.State.{State, Symbol, symbol_at, symbol_of, alias_target, base_of, given_in, members_of, with_content}
use Rattle.gms_scope.specs.DynamicSets.{assigned_names as assigned_by, dynamic_sets}
use Rattle.gms_scope.specs.Names.{is_index_set, has_no_declaration}
use Rattle.gms_check.specs.Checked.{FollowsIn}
use Rattle.gms_check.specs.CompileErrors.{of_program}
use Rattle.gms_check.specs.Loaded.{IsAccepted, loaded, sound}
use Rattle.gms_check.specs.Past.{after_statement, is_among, state_after}
use Rattle.gms_check.proofs.Growing.{IsAfter, Grows, grows-past}
use Rattle.gms_check.proofs.IndexSetsStay.{blank-fits, index-set-loaded}
use Rattle.gms_eval.specs.Domain.{IsSimple}
use Rattle.gms_exec.proofs.Staying.{Stays, follows-of}
use Rattle.gms_run_laws.specs.Names.{Each}
use Rattle.gms_run_laws.proofs.Changing.{within}
use Rattle.gms_run_laws.proofs.Padding.{test-of}
use Rattle.gms_run_laws.specs.LastStates.{AreFixed, IsFixedSet, FitPositions, names_assigned}
use Rattle.gms_run_laws.specs.Reached.{at_first}
use Rattle.gms_run_laws.proofs.FewPositions.{few-given}
use Rattle.gms_run_laws.proofs.LoadedPositions.{loaded-occurs}
use Rattle.gms_run_laws.proofs.StaticDomains.{loaded-fixed}
use Rattle.gms_run_laws.proofs.TidyLoaded.{loaded-well}
use Rattle.gms_run_laws.proofs.Tidying.{has-long}
use Rattle.gms_save.proofs.LoadedNames.{loaded-declares, declared-count, keeps-following, same-read}
use Rattle.gms_save_text.specs.Validity.{emptied, fits_position, fits_domain}
use Rattle.gms_restart.specs.Labels.{HasItsLabels}
use Rattle.gms_restart.proofs.Fitting.{Ground}
use Rattle.gms_restart.proofs.Growth.{Member, member-sound, closed-after}
use Rattle.gms_restart.proofs.Homes.{DataOccur}

-- ---- tuples

-- a tuple of as many labels as the domain has positions, each in the program and fitting its
-- position, is in the domain
occur-all : (count : ℕ) (state : State) (domain : List (Option ℕ)) (t : List ℕ) → length t ≡ length domain → FitPositions state domain t → Each (λ label. nat_lt label count) t → fits_domain count state domain t ≡ true
occur-all count state [] [] long at own = refl
occur-all count state [] (label ∷ t) long at own = absurd (omega (arith, long))
occur-all count state (position ∷ domain) [] long at own = absurd (omega (arith, long))
occur-all count state (position ∷ domain) (label ∷ t) long at own =
    let rest : length t ≡ length domain = omega (arith, long) in
    and_from (nat_lt label count) (fits_position state position label && fits_domain count state domain t) own.0 (and_from (fits_position state position label) (fits_domain count state domain t) at.0 (occur-all count state domain t rest at.1 own.1))

-- what holds of all tuples holds of each member
pub has-all : (P : List ℕ → Type 0) (tuples : List (List ℕ)) (t : List ℕ) → All P tuples → has tuples t ≡ true → P t
has-all P [] t all there = absurd (cc)
has-all P (u ∷ tuples) t all there = by (has-all P tuples t (All-tail P u tuples all)) (same_tuple u t) refl there
  where
    by : (has tuples t ≡ true → P t) → (b : Bool) → same_tuple u t ≡ b → (b || has tuples t) ≡ true → P t
    by rest true same there = subst P ((same_tuple-Decides u t).0 same) (All-head P u tuples all)
    by rest false other there = rest there

pub at-most-ten : (n : ℕ) → n ≤ 10 → nat_le n 10 ≡ true
at-most-ten n le = grind (arith, nat_tests, le)

module _ {F : Type 0} (v : F → Number) (program : Program F) (accepted : IsAccepted v program) where
  abbrev count : ℕ
  count = length program.names

  abbrev first : State
  first = loaded v program

  -- the sets that the program assigns, as the run sees them
  abbrev pub among : ℕ → Bool
  among = is_among (names_assigned first program)

  -- ---- the sets of positions

  same-bases : (ns : List ℕ) → map (base_of first) ns ≡ map (base_of (declared_state program)) ns
  same-bases [] = refl
  same-bases (n ∷ ns) =
      ap₂ (λ (m : ℕ) (ms : List ℕ). m ∷ ms) (same-read (alias_target n) (keeps-following n) first (declared_state program) n (loaded-declares v program)) (same-bases ns)

  pub same-names : names_assigned first program ≡ dynamic_sets program
  same-names = same-bases (flat_map assigned_by program.statements.items)

  -- a declared name is one of the table
  in-table : (n : ℕ) → has_no_declaration first n ≡ false → nat_lt n count ≡ true
  in-table n known =
      let size = sym (length-map first.symbols (λ (symbol : Symbol). with_content symbol (emptied symbol.content))) ∙ ap (λ (symbols : List Symbol). length symbols) (loaded-declares v program) ∙ declared-count program in
      test-of n count (subst (λ m. n < m) size (within first n (ap not known)))

  fixed-set : (set : ℕ) → IsFixedSet (of_program program (is_among (dynamic_sets program))) first set → IsFixedSet among first set
  fixed-set set fixed = record {
    declared = fixed.declared;
    static = by (nat_lt (base_of first set) count) (in-table (base_of first set) (not-true (is_undeclared (symbol_of first set).content) (closed-after v count program.statements.items set (ap not fixed.declared)))) fixed.static;
  }
    where
      by : (b : Bool) → b ≡ true → (b && is_among (dynamic_sets program) (base_of first set)) ≡ false → among (base_of first set) ≡ false
      by true e none = ap (λ (ns : List ℕ). is_among ns (base_of first set)) same-names ∙ none
      by false e none = absurd (cc)

  all-fixed : (domain : List (Option ℕ)) → AreFixed (of_program program (is_among (dynamic_sets program))) first domain → AreFixed among first domain
  all-fixed [] fixed = tt
  all-fixed (None ∷ domain) fixed = all-fixed domain fixed
  all-fixed (Some set ∷ domain) fixed = (fixed-set set fixed.0, all-fixed domain fixed.1)

  pub fixed-positions : (n : ℕ) → AreFixed among first (symbol_at first n).domain
  fixed-positions n = all-fixed (symbol_at first n).domain (loaded-fixed v program n accepted)

  -- ---- data

  pub data-occur : (labels : ℕ) → HasItsLabels labels program.statements.items first → DataOccur labels first
  data-occur labels own n t there =
      and_from (fits_domain labels first (symbol_at first n).domain t) (nat_le (length t) 10)
      (occur-all labels first (symbol_at first n).domain t (has-long (length (symbol_at first n).domain) (given_in (symbol_at first n).content) t ((loaded-well v program).tidy n).long there) (has-all (FitPositions first (symbol_at first n).domain) (given_in (symbol_at first n).content) t (loaded-occurs v program n accepted) there) (own.given n t there))
      (at-most-ten (length t) (has-all (λ (u : List ℕ). length u ≤ 10) (given_in (symbol_at first n).content) t (few-given v 0 (record { program = program; solvers = [] }) first n accepted at_first) there))

  -- ---- the state before a statement

  module _ (before : List (Stmt F)) (statement : Stmt F) (occurs : FollowsIn program before statement) where
    abbrev now : State
    now = state_after v count (sound before)

    abbrev rest : List (Stmt F)
    rest = statement ∷ occurs.0

    goes-on : first ≡ fold (after_statement v) now (sound rest)
    goes-on =
        ap (λ (all : List (Stmt F)). fold (after_statement v) (blank_state count) (sound all)) occurs.1
        ∙ ap (fold (after_statement v) (blank_state count)) (map-append {B = Stmt F × Bool} (λ (s : Stmt F). (s, true)) before rest)
        ∙ fold-append (after_statement v) (blank_state count) (sound before) (sound rest)

    later-then : (n : ℕ) → has_no_declaration now n ≡ false → IsAfter (symbol_at now n) (symbol_at first n)
    later-then n known =
        let fits = (grows-past v (sound before) (blank_state count) n (blank-fits count n)).0 in
        let grows : Grows now first = subst (Grows now) (sym goes-on) (grows-past v (sound rest) now) in
        elim (grows n fits).1 [
          | inl none ↦ absurd (both_ways (has_no_declaration now n) known none)
          | inr after ↦ after
        ]

    members-then : (d : ℕ) (t : List ℕ) → has_no_declaration now d ≡ false → has (members_of now d) t ≡ true → has (members_of first d) t ≡ true
    members-then d t known there =
        subst (λ n. Member n t first) (sym ((later-then d known).alike d)) (subst (Member (base_of now d) t) (sym goes-on) (member-sound (base_of now d) t v rest now there))

    simple-then : (state : State) → Stays first state → (set : ℕ) → is_index_set now set ≡ true → IsSimple state set
    simple-then state stays set index =
        let over = index-set-loaded v program before statement occurs set index in
        let follows = follows-of first state stays set in
        let singles = follows.singles over.position over.labels in
        (follows.ordered over.ordered, λ member there. All-contains (λ (t : List ℕ). length t ≡ 1) (members_of state set) member singles (Contains-has (members_of state set) member there))

    pub ground-then : (labels : ℕ) → HasItsLabels labels program.statements.items first → Ground labels first among now
    ground-then labels own = record {
      starts = data-occur labels own;
      fixed = fixed-positions;
      later = later-then;
      based = λ n known. not-true (is_undeclared (symbol_of now n).content) (closed-after v count before n (ap not known));
      more = members-then;
      simple = simple-then;
    }
