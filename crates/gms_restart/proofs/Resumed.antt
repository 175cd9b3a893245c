-- The state in which a run resumes from a saved state keeps what each state of a run keeps.
use Rattle.std.proofs.Common.{◌≡◌, ℕ, zero, suc, ◌≤◌, nat_lt, nat_le, Bool, true, false, not, ◌&&◌, ◌||◌, ◌==◌, List, [], ◌∷◌, ◌++◌, map, length, get_or, Option, Some, None, refl, sym, ap, ap₂, ◌∙◌, subst, arith}
use Rattle.std.specs.Prelude.{flat_map}
use Rattle.std.specs.List.{All}
use Rattle.std.proofs.lemmas.Bool.{both_ways, eqb-true, and_from, and_parts, not-false, not-true, or_parts}
use Rattle.std.proofs.lemmas.List.{length-map}
use Rattle.std.proofs.lemmas.List.Concat.{flat_map-append}
use Rattle.std.proofs.lemmas.List.Elements.{All-nil}
use Rattle.gq_number.specs.Number.{Number}
use Rattle.gms_ast.specs.declared.program.Program.{Program}
use Rattle.gms_ast.specs.declared.program.Stmt.{Stmt}
use Rattle.gms_tuple.specs.TupleOrder.{IsOrdered}
use Rattle.gms_tuple.specs.TupleSet.{has}
use Rattle.gms_tuple.proofs.Ordered.{ordered-nil}
use Rattle.gms_store.specs.Declarations.{declared_state, is_undeclared}
use Rattle.gms_store.specs.Overlays.{chosen, overlaid, overlaid_symbols}
use Rattle.gms_store.specs.State.{State, Content, undeclared, alias_of, set_of, parameter_of, variable_of, equation_of, model_with, Symbol, symbol_at, alias_target, base_of, given_in, members_in, members_of}
use Rattle.gms_scope.specs.DynamicSets.{assigned_names as assigned_by, dynamic_sets}
use Rattle.gms_check.specs.Loaded.{IsAccepted, loaded}
use Rattle.gms_check.specs.Past.{is_among}
use Rattle.gms_exec.proofs.Staying.{Follows, Stays, stays-itself}
use Rattle.gms_run_laws.specs.Agreeing.{declares}
use Rattle.gms_run_laws.proofs.Changing.{read, over-at, chosen-declared, chosen-undeclared}
use Rattle.gms_run_laws.proofs.Padding.{below-of, test-of}
use Rattle.gms_run_laws.specs.LastStates.{AreFixed, IsTidy}
use Rattle.gms_run_laws.proofs.TidyLoaded.{loaded-well}
use Rattle.gms_save.proofs.LoadedNames.{blanked, keeps-following, keeps-undeclared, loaded-declares, same-at, same-read}
use Rattle.gms_save_text.specs.Validity.{IsSavedOf, declared_symbols, fits_position, fits_domain}
use Rattle.gms_restart.specs.Labels.{WritesItsLabels}
use Rattle.gms_restart.specs.LastStates.{ContinuesSaved}
use Rattle.gms_restart.proofs.Grounds.{among, at-most-ten, data-occur, fixed-positions, has-all, same-names}
use Rattle.gms_restart.proofs.Growth.{closed-after}
use Rattle.gms_restart.proofs.Homes.{occurs_few}
use Rattle.gms_restart.proofs.Kept.{Kept}

-- ---- contents

members-all : (P : List ℕ → Type 0) (c : Content) → All P (given_in c) → All P (members_in c)
members-all P undeclared all = All-nil P
members-all P (alias_of base) all = All-nil P
members-all P (set_of members) all = all
members-all P (parameter_of entries) all = All-nil P
members-all P (variable_of type entries) all = All-nil P
members-all P (equation_of entries) all = All-nil P
members-all P (model_with model solver) all = All-nil P

members-ordered : (c : Content) → IsOrdered (given_in c) → IsOrdered (members_in c)
members-ordered undeclared all = ordered-nil
members-ordered (alias_of base) all = ordered-nil
members-ordered (set_of members) all = all
members-ordered (parameter_of entries) all = ordered-nil
members-ordered (variable_of type entries) all = ordered-nil
members-ordered (equation_of entries) all = ordered-nil
members-ordered (model_with model solver) all = ordered-nil

following-nothing : (n : ℕ) (c : Content) → is_undeclared c ≡ true → alias_target n c ≡ n
following-nothing n undeclared none = refl
following-nothing n (alias_of base) none = absurd (cc)
following-nothing n (set_of members) none = absurd (cc)
following-nothing n (parameter_of entries) none = absurd (cc)
following-nothing n (variable_of type entries) none = absurd (cc)
following-nothing n (equation_of entries) none = absurd (cc)
following-nothing n (model_with model solver) none = absurd (cc)

-- a tuple in a domain has a label for each position
long-in : (count : ℕ) (s : State) (domain : List (Option ℕ)) (t : List ℕ) → fits_domain count s domain t ≡ true → length t ≡ length domain
long-in count s [] [] e = refl
long-in count s [] (l ∷ t) e = absurd (cc)
long-in count s (p ∷ domain) [] e = absurd (cc)
long-in count s (p ∷ domain) (l ∷ t) e =
    let at = and_parts (nat_lt l count) (fits_position s p l && fits_domain count s domain t) e in
    ap suc (long-in count s domain t (and_parts (fits_position s p l) (fits_domain count s domain t) at.1).1)

-- symbols that are overlaid with others of the same declarations declare the same
overlay-declares : (xs ys : List Symbol) → ((n : ℕ) → is_undeclared (read ys n).content ≡ false → blanked (read ys n) ≡ blanked (read xs n)) → map blanked (overlaid_symbols xs ys) ≡ map blanked xs
overlay-declares [] ys same = refl
overlay-declares (x ∷ xs) [] same = refl
overlay-declares (x ∷ xs) (y ∷ ys) same =
    ap₂ (λ (s : Symbol) (ss : List Symbol). s ∷ ss) (by (is_undeclared y.content) refl) (overlay-declares xs ys (λ n. same (suc n)))
  where
    by : (b : Bool) → is_undeclared y.content ≡ b → blanked (chosen x y) ≡ blanked x
    by true none = ap blanked (chosen-undeclared x y none)
    by false there = ap blanked (chosen-declared x y there) ∙ same zero there

-- ---- names among others

prefix-none : (f : ℕ → ℕ) (ns ms : List ℕ) (name : ℕ) → is_among (map f (ns ++ ms)) name ≡ false → is_among (map f ns) name ≡ false
prefix-none f [] ms name e = refl
prefix-none f (n ∷ ns) ms name e =
    let parts = or_parts (f n == name) (is_among (map f (ns ++ ms)) name) e in
    ap (λ (b : Bool). b || is_among (map f ns) name) parts.0 ∙ prefix-none f ns ms name parts.1

module _ {F : Type 0} (v : F → Number) (whole saved : Program F) (firsts others : List (Stmt F)) (accepted : IsAccepted v whole) (accepts : IsAccepted v saved) (own : WritesItsLabels v whole) (continues : ContinuesSaved v saved whole firsts others)
    (state : State) (most : ℕ) (solver : List ℕ) (is : IsSavedOf most (length saved.labels) (declared_state saved) (loaded v saved) (is_among (dynamic_sets saved)) state solver) where
  abbrev first : State
  first = loaded v whole

  abbrev one : State
  one = loaded v saved

  abbrev labels : ℕ
  labels = length whole.labels

  abbrev later : State
  later = overlaid first state

  -- ---- the symbols of both programs

  same-declared : declared_symbols state ≡ declared_symbols one
  same-declared = is.declares ∙ sym (loaded-declares v saved)

  many : length state.symbols ≤ length first.symbols
  many =
      let counts : length state.symbols ≡ length one.symbols = sym (length-map state.symbols blanked) ∙ ap (λ (ss : List Symbol). length ss) same-declared ∙ length-map one.symbols blanked in
      let fewer = continues.has_all.many in
      omega (arith, counts, fewer)

  known-there : (n : ℕ) → declares one n ≡ true → symbol_at first n ≡ symbol_at one n
  known-there n there =
      ap (λ (s : State). symbol_at s n) (sym continues.has_all.same)
      ∙ over-at first.symbols one.symbols n continues.has_all.many
      ∙ chosen-declared (symbol_at first n) (symbol_at one n) (not-true (is_undeclared (symbol_at one n).content) there)

  undeclared-same : (n : ℕ) → is_undeclared (symbol_at state n).content ≡ is_undeclared (symbol_at one n).content
  undeclared-same n = same-read is_undeclared keeps-undeclared state one n same-declared

  later-there : (n : ℕ) → declares one n ≡ true → symbol_at later n ≡ symbol_at state n
  later-there n there =
      over-at first.symbols state.symbols n many
      ∙ chosen-declared (symbol_at first n) (symbol_at state n) (undeclared-same n ∙ not-true (is_undeclared (symbol_at one n).content) there)

  later-elsewhere : (n : ℕ) → declares one n ≡ false → symbol_at later n ≡ symbol_at first n
  later-elsewhere n none =
      over-at first.symbols state.symbols n many
      ∙ chosen-undeclared (symbol_at first n) (symbol_at state n) (undeclared-same n ∙ not-false (is_undeclared (symbol_at one n).content) none)

  domain-same : (n : ℕ) → (symbol_at state n).domain ≡ (symbol_at one n).domain
  domain-same n = ap (λ (s : Symbol). s.domain) (same-at state one n same-declared)

  following-same : (m n : ℕ) → alias_target m (symbol_at state n).content ≡ alias_target m (symbol_at one n).content
  following-same m n = same-read (alias_target m) (keeps-following m) state one n same-declared

  -- ---- what it keeps

  all-long : (n : ℕ) → All (λ (t : List ℕ). length t ≡ length (symbol_at state n).domain) (given_in (symbol_at state n).content)
  all-long n k d below =
      long-in (length saved.labels) state (symbol_at state n).domain (get_or (given_in (symbol_at state n).content) k d) ((is.given n).occur k d below)

  follows-there : (n : ℕ) → Follows (symbol_at one n) (symbol_at state n)
  follows-there n = record {
    domain = domain-same n;
    alike = λ m. following-same m n;
    singles = λ single old. members-all (λ (t : List ℕ). length t ≡ 1) (symbol_at state n).content (λ k d below. all-long n k d below ∙ ap (λ (ds : List (Option ℕ)). length ds) (domain-same n) ∙ single);
    ordered = λ old. members-ordered (symbol_at state n).content (is.given n).ordered;
  }

  stays : Stays first later
  stays n = by (declares one n) refl
    where
      by : (b : Bool) → declares one n ≡ b → Follows (symbol_at first n) (symbol_at later n)
      by true there =
          subst (λ (s : Symbol). Follows s (symbol_at later n)) (sym (known-there n there)) (subst (λ (s : Symbol). Follows (symbol_at one n) s) (sym (later-there n there)) (follows-there n))
      by false none = subst (λ (s : Symbol). Follows (symbol_at first n) s) (sym (later-elsewhere n none)) (stays-itself first n)

  tidy : (n : ℕ) → IsTidy (symbol_at later n)
  tidy n = by (declares one n) refl
    where
      by : (b : Bool) → declares one n ≡ b → IsTidy (symbol_at later n)
      by true there =
          subst IsTidy (sym (later-there n there)) (record { ordered = (is.given n).ordered; long = all-long n; differs = (is.given n).differs; statuses = (is.given n).statuses })
      by false none = subst IsTidy (sym (later-elsewhere n none)) ((loaded-well v whole).tidy n)

  declares-same : declared_symbols later ≡ declared_symbols first
  declares-same =
      overlay-declares first.symbols state.symbols (λ n there. same-at state one n same-declared ∙ ap blanked (sym (known-there n (ap not (sym (undeclared-same n) ∙ there)))))

  -- a set that the whole does not assign is none that the saved program assigns
  not-dynamic : (name : ℕ) → declares one name ≡ true → among v whole accepted name ≡ false → is_among (dynamic_sets saved) name ≡ false
  not-dynamic name there none =
      let prefix = flat_map assigned_by saved.statements.items in
      let parts : flat_map assigned_by whole.statements.items ≡ prefix ++ flat_map assigned_by others = ap (flat_map assigned_by) continues.statements ∙ flat_map-append assigned_by firsts others ∙ ap (λ (ns : List ℕ). ns ++ flat_map assigned_by others) continues.assigns in
      swapped prefix (prefix-none (base_of first) prefix (flat_map assigned_by others) name (sym (ap (λ (ns : List ℕ). is_among (map (base_of first) ns) name) parts) ∙ none))
    where
      base-there : (n : ℕ) → base_of (declared_state saved) n ≡ base_of one n
      base-there n = sym (same-read (alias_target n) (keeps-following n) one (declared_state saved) n (loaded-declares v saved))

      other : (n : ℕ) (b : Bool) → declares one n ≡ b → (base_of first n == name) ≡ false → (base_of (declared_state saved) n == name) ≡ false
      other n true known e =
          ap (λ (m : ℕ). m == name) (base-there n ∙ sym (ap (λ (s : Symbol). alias_target n s.content) (known-there n known))) ∙ e
      other n false unknown e = ap (λ (m : ℕ). m == name) (base-there n ∙ following-nothing n (symbol_at one n).content (not-false (is_undeclared (symbol_at one n).content) unknown)) ∙ apart (n == name) refl
        where
          apart : (b : Bool) → (n == name) ≡ b → (n == name) ≡ false
          apart true same = absurd (both_ways (declares one n) unknown (ap (declares one) (eqb-true n name same) ∙ there))
          apart false not_same = not_same

      swapped : (ns : List ℕ) → is_among (map (base_of first) ns) name ≡ false → is_among (map (base_of (declared_state saved)) ns) name ≡ false
      swapped [] e = refl
      swapped (n ∷ ns) e =
          let parts = or_parts (base_of first n == name) (is_among (map (base_of first) ns) name) e in
          ap (λ (b : Bool). b || is_among (map (base_of (declared_state saved)) ns) name) (other n (declares one n) refl parts.0) ∙ swapped ns parts.1

  static : (n : ℕ) → among v whole accepted n ≡ false → members_in (symbol_at later n).content ≡ members_in (symbol_at first n).content
  static n none = by (declares one n) refl
    where
      by : (b : Bool) → declares one n ≡ b → members_in (symbol_at later n).content ≡ members_in (symbol_at first n).content
      by true there =
          ap (λ (s : Symbol). members_in s.content) (later-there n there) ∙ is.static n (not-dynamic n there none) ∙ sym (ap (λ (s : Symbol). members_in s.content) (known-there n there))
      by false apart = ap (λ (s : Symbol). members_in s.content) (later-elsewhere n apart)

  -- ---- tuples

  -- the sets of positions have in the whole the members that they have in the saved state
  members-same : (set : ℕ) → is_undeclared (symbol_at one set).content ≡ false → among v saved accepts (base_of one set) ≡ false → members_of state set ≡ members_of first set
  members-same set known none =
      let base = base_of one set in
      let declared : declares one set ≡ true = ap not known in
      ap (λ (n : ℕ). members_in (symbol_at state n).content) (following-same set set)
      ∙ is.static base (ap (λ (ns : List ℕ). is_among ns base) (sym (same-names v saved accepts)) ∙ none)
      ∙ sym (ap (λ (s : Symbol). members_in s.content) (known-there base (closed-after v (length saved.names) saved.statements.items set declared)))
      ∙ sym (ap (λ (n : ℕ). members_in (symbol_at first n).content) (ap (λ (s : Symbol). alias_target set s.content) (known-there set declared)))

  further : (l : ℕ) → nat_lt l (length saved.labels) ≡ true → nat_lt l labels ≡ true
  further l e =
      let below = below-of l (length saved.labels) e in let fewer = continues.labels in test-of l labels (omega (arith, below, fewer))

  occurs-more : (domain : List (Option ℕ)) → AreFixed (among v saved accepts) one domain → (t : List ℕ) → fits_domain (length saved.labels) state domain t ≡ true → fits_domain labels first domain t ≡ true
  occurs-more [] fixed [] e = refl
  occurs-more [] fixed (l ∷ t) e = absurd (cc)
  occurs-more (p ∷ domain) fixed [] e = absurd (cc)
  occurs-more (None ∷ domain) fixed (l ∷ t) e =
      let parts = and_parts (nat_lt l (length saved.labels)) (true && fits_domain (length saved.labels) state domain t) e in
      and_from (nat_lt l labels) (true && fits_domain labels first domain t) (further l parts.0) (occurs-more domain fixed t parts.1)
  occurs-more (Some set ∷ domain) fixed (l ∷ t) e =
      let parts = and_parts (nat_lt l (length saved.labels)) (fits_position state (Some set) l && fits_domain (length saved.labels) state domain t) e in
      let here = and_parts (fits_position state (Some set) l) (fits_domain (length saved.labels) state domain t) parts.1 in
      and_from (nat_lt l labels) (fits_position first (Some set) l && fits_domain labels first domain t) (further l parts.0)
      (and_from (fits_position first (Some set) l) (fits_domain labels first domain t) (sym (ap (λ (ms : List (List ℕ)). has ms (l ∷ [])) (members-same set fixed.0.declared fixed.0.static)) ∙ here.0) (occurs-more domain fixed.1 t here.1))

  occur : (n : ℕ) (t : List ℕ) → has (given_in (symbol_at later n).content) t ≡ true → occurs_few labels first (symbol_at first n).domain t ≡ true
  occur n t there = by (declares one n) refl
    where
      by : (b : Bool) → declares one n ≡ b → occurs_few labels first (symbol_at first n).domain t ≡ true
      by true known =
          let tuples = given_in (symbol_at state n).content in
          let given : has tuples t ≡ true = subst (λ (s : Symbol). has (given_in s.content) t ≡ true) (later-there n known) there in
          let stood = has-all (λ (u : List ℕ). fits_domain (length saved.labels) state (symbol_at state n).domain u ≡ true) tuples t (is.given n).occur given in
          let moved = occurs-more (symbol_at one n).domain (fixed-positions v saved accepts n) t (subst (λ (ds : List (Option ℕ)). fits_domain (length saved.labels) state ds t ≡ true) (domain-same n) stood) in
          and_from (fits_domain labels first (symbol_at first n).domain t) (nat_le (length t) 10)
          (subst (λ (ds : List (Option ℕ)). fits_domain labels first ds t ≡ true) (sym (ap (λ (s : Symbol). s.domain) (known-there n known))) moved)
          (at-most-ten (length t) (has-all (λ (u : List ℕ). length u ≤ 10) tuples t (is.given n).few given))
      by false apart = data-occur v whole accepted labels own n t (subst (λ (s : Symbol). has (given_in s.content) t ≡ true) (later-elsewhere n apart) there)

  -- The state that is resumed from the saved one keeps it.
  pub later-kept : Kept labels first (among v whole accepted) later
  later-kept = record {
    lasts = record { stays = stays; later = record { declares = declares-same; given = tidy; static = static; ranges = is.ranges } };
    occur = occur;
  }
