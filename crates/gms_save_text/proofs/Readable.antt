-- That what a saved state has can be read.
use Rattle.std.proofs.Common.{◌≡◌, ◌≢◌, ℕ, suc, ◌<◌, ◌≤◌, ◌^◌, Bool, true, false, ◌&&◌, ◌||◌, List, [], ◌∷◌, length, map, slice_get, refl, sym, ap, ◌∙◌, subst, Option, unwrap_or, arith}
use Rattle.std.specs.Prelude.{nat_lt, nat_le}
use Rattle.std.specs.Char.{is_ascii_alphabetic}
use Rattle.std.specs.List.{AllByRecursion, list_all}
use Rattle.std.proofs.lemmas.Bool.{ltb-true, and_parts}
use Rattle.std.proofs.lemmas.Bool.Decides.{nat_tests}
use Rattle.std.proofs.lemmas.List.Elements.{recursion_from_All}
use Rattle.gms_tuple.specs.TupleSet.{has}
use Rattle.gms_tuple.proofs.Ordered.{same_tuple_refl}
use Rattle.gms_tuple.specs.TupleOrder.{same_tuple}
use Rattle.gms_store.specs.State.{Content, Symbol, State, no_symbol, given_in, differs_in, statuses_in, fits_at}
use Rattle.gms_save_text.specs.Validity.{IsGivenWell, IsSavedOf, are_statuses, emptied, is_solver_byte, is_solver_name, fits_position, fits_domain}
use Rattle.gms_save_text.specs.Reading.{AreReadable, HasNone, IsReadable, IsReadablePart}
use Rattle.gms_save_text.proofs.Declared.{AreBlank, IsBlank, blanked}

-- ---- tuples

record Valid (labels arity : ℕ) (t : List ℕ) : Type 0 where
  pub count : length t ≡ arity
  pub small : AllByRecursion (λ label. label < labels) t

valid : (labels : ℕ) (state : State) (domain : List (Option ℕ)) (t : List ℕ) → fits_domain labels state domain t ≡ true → Valid labels (length domain) t
valid labels state [] [] e = record { count = refl; small = tt }
valid labels state [] (label ∷ t) e = absurd cc
valid labels state (set ∷ domain) [] e = absurd cc
valid labels state (set ∷ domain) (label ∷ t) e =
    let first = and_parts (nat_lt label labels) (fits_position state set label && fits_domain labels state domain t) e in
    let second = and_parts (fits_position state set label) (fits_domain labels state domain t) first.1 in
    let rest = valid labels state domain t second.1 in
    record { count = ap suc rest.count; small = (ltb-true label labels first.0, rest.small) }

smaller : (labels limit : ℕ) (t : List ℕ) → labels ≤ limit → AllByRecursion (λ label. label < labels) t → AllByRecursion (λ label. label < limit) t
smaller labels limit [] few all = tt
smaller labels limit (label ∷ t) few all = (let h = all.0 in omega (arith, h, few), smaller labels limit t few all.1)

-- ---- entries

has_first : (t : List ℕ) (ts : List (List ℕ)) → has (t ∷ ts) t ≡ true
has_first t ts = ap (λ b. b || has ts t) (same_tuple_refl t)

has_more : (t u : List ℕ) (ts : List (List ℕ)) → has ts t ≡ true → has (u ∷ ts) t ≡ true
has_more t u ts e = ap (λ b. same_tuple u t || b) e ∙ by (same_tuple u t)
  where
    by : (b : Bool) → (b || true) ≡ true
    by true = refl
    by false = refl

entries : (limit labels : ℕ) (state : State) (domain : List (Option ℕ)) (content : Content) (tuples : List (List ℕ)) → labels ≤ 2 ^ 32 → AllByRecursion (λ t. length t ≤ 10) tuples → AllByRecursion (λ t. fits_domain labels state domain t ≡ true) tuples → ((t : List ℕ) → fits_at limit content t ≡ true) → ((t : List ℕ) → has tuples t ≡ true → differs_in content t ≡ true) → AllByRecursion (IsReadable limit (length domain) content) tuples
entries limit labels state domain content [] small few occur fit differ = tt
entries limit labels state domain content (t ∷ tuples) small few occur fit differ =
    let here = valid labels state domain t occur.0 in
    let count = here.count in
    let short = few.0 in (
      record {
        tuple = record { count = count; few = omega (arith, count, short); small = smaller labels (2 ^ 32) t small here.small };
        fit = fit t;
        differs = differ t (has_first t tuples);
      },
      entries limit labels state domain content tuples small few.1 occur.1 fit (λ u e. differ u (has_more u t tuples e)),
    )

-- ---- statuses

statuses_small : (model solver : ℕ) → are_statuses model solver ≡ true → (model < 2 ^ 8) × (solver < 2 ^ 8)
statuses_small model solver e = (grind (arith, nat_tests), grind (arith, nat_tests))

-- ---- symbols

same_parts : (a b : Symbol) → blanked a ≡ blanked b → (a.domain ≡ b.domain) × (emptied a.content ≡ emptied b.content)
same_parts a b e = (ap (λ (s : Symbol). s.domain) e, ap (λ (s : Symbol). s.content) e)

module _ (limit labels : ℕ) (state : State) (few : labels ≤ 2 ^ 32) where
  part_readable : (declared symbol : Symbol) → IsBlank declared → blanked symbol ≡ blanked declared → IsGivenWell limit labels state symbol → IsReadablePart limit declared symbol.content
  part_readable declared symbol blank same well =
      let parts = same_parts symbol declared same in
      let small = statuses_small (statuses_in symbol.content).0 (statuses_in symbol.content).1 well.statuses in
      record {
        declared = sym blank ∙ sym parts.1;
        ordered = well.ordered;
        entries = subst (λ (d : List (Option ℕ)). AllByRecursion (IsReadable limit (length d) symbol.content) (given_in symbol.content)) parts.0
            (entries limit labels state symbol.domain symbol.content (given_in symbol.content) few (recursion_from_All (λ t. length t ≤ 10) (given_in symbol.content) well.few) (recursion_from_All (λ t. fits_domain labels state symbol.domain t ≡ true) (given_in symbol.content) well.occur) well.fit (λ t e. sym (well.differs t) ∙ e));
        model = small.0;
        solver = small.1;
      }

  symbols_readable : (names symbols : List Symbol) → AllByRecursion IsBlank names → map blanked symbols ≡ map blanked names → ((n : ℕ) → IsGivenWell limit labels state (unwrap_or (slice_get symbols n) no_symbol)) → AreReadable limit names symbols
  symbols_readable [] [] blank same well = tt
  symbols_readable [] (symbol ∷ symbols) blank same well = absurd cc
  symbols_readable (declared ∷ names) [] blank same well = absurd cc
  symbols_readable (declared ∷ names) (symbol ∷ symbols) blank same well =
      let first : blanked symbol ≡ blanked declared = cc in
      let rest : map blanked symbols ≡ map blanked names = cc in
      (sym (same_parts symbol declared first).0, part_readable declared symbol blank.0 first (well 0), symbols_readable names symbols blank.1 rest (λ n. well (suc n)))

-- a saved state can be read
pub saved_readable : (limit labels : ℕ) (declared loaded : State) (assigned : ℕ → Bool) (state : State) (solver : List ℕ) → labels ≤ 2 ^ 32 → AreBlank declared → IsSavedOf limit labels declared loaded assigned state solver → AreReadable limit declared.symbols state.symbols
saved_readable limit labels declared loaded assigned state solver few blank is =
    symbols_readable limit labels state few declared.symbols state.symbols blank is.declares is.given

-- ---- solvers

byte_none : (b : ℕ) → is_solver_byte b ≡ true → b ≢ 10
byte_none b e same = absurd (grind (arith, nat_tests))

bytes_none : (bs : List ℕ) → list_all is_solver_byte bs ≡ true → HasNone 10 bs
bytes_none [] e = tt
bytes_none (b ∷ bs) e = let parts = and_parts (is_solver_byte b) (list_all is_solver_byte bs) e in (byte_none b parts.0, bytes_none bs parts.1)

letter_none : (b : ℕ) → is_ascii_alphabetic b ≡ true → b ≢ 10
letter_none b e same = absurd (grind (arith, nat_tests))

-- the name of a solver has no line end
pub solver_none : (solver : List ℕ) → is_solver_name solver ≡ true → HasNone 10 solver
solver_none [] e = absurd cc
solver_none (first ∷ rest) e =
    let parts = and_parts (is_ascii_alphabetic first) (list_all is_solver_byte rest && nat_le (length rest) 62) e in
    let more = and_parts (list_all is_solver_byte rest) (nat_le (length rest) 62) parts.1 in
    (letter_none first parts.0, bytes_none rest more.0)
