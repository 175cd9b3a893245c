-- A saved state fits a program that begins with the one that it is of.
use Rattle.std.proofs.Common.{◌≡◌, ℕ, zero, suc, ◌+◌, ◌≤◌, Bool, true, false, cond, List, [], ◌∷◌, ◌++◌, length, map, slice_get, Option, unwrap_or, refl, sym, ap, ap₂, ◌∙◌, subst, arith, inl, inr}
use Rattle.std.specs.Prelude.{replicate}
use Rattle.std.specs.List.{fold}
use Rattle.std.proofs.lemmas.List.{length-map, length-append, length-replicate, replicate-append-replicate}
use Rattle.std.proofs.lemmas.List.Sums.{fold-append}
use Rattle.gq_number.specs.Number.{Number}
use Rattle.gq_frac.specs.declared.frac.Frac.{Frac}
use Rattle.gq_frac.specs.Frac.{frac_value}
use Rattle.gms_ast.specs.declared.program.Program.{Program}
use Rattle.gms_ast.specs.declared.program.Stmt.{Stmt}
use Rattle.gms_ast.specs.StatementTrees.{Statements, no_statement, statement, followed_by}
use Rattle.gms_ast.specs.StatementView.{statements_view}
use Rattle.gms_store.specs.Declarations.{is_undeclared, blank_state, declared_by, declared_by_all, declared_state}
use Rattle.gms_store.specs.Overlays.{chosen, overlaid_symbols}
use Rattle.gms_store.specs.State.{State, Symbol, no_symbol, symbol_at, alias_target, base_of}
use Rattle.gms_table.specs.WordLabels.{IsPrefix}
use Rattle.gms_check.specs.Loaded.{loaded}
use Rattle.gms_check.specs.Past.{after_statement}
use Rattle.gms_check.proofs.Growing.{IsLater, Grows, grows-past}
use Rattle.gms_check.proofs.IndexSetsStay.{blank-fits}
use Rattle.gms_save_text.specs.Validity.{declared_symbols}
use Rattle.gms_save.specs.JointErrors.{resumed}
use Rattle.gms_save.proofs.LoadedNames.{declared-count, keeps-following, keeps-undeclared, loaded-declares, same-at, same-read}
use Rattle.gms_save.proofs.SeenActs.{told_by}
use Rattle.gms_save.proofs.SeenPrograms.{Seen, seen, seen_declared, declared-are, declared-is, listed, listed-is}
use Rattle.gms_restart.specs.Alike.{IsAlike}
use Rattle.gms_restart.proofs.Padding.{EachOwn, HoldsOfAll, IsBelow, padded, at-padded, acts-same}

-- ---- statements one by one, in their views

listed-followed : (a b : Statements Number) → listed (followed_by a b) ≡ listed a ++ listed b
listed-followed no_statement b = refl
listed-followed (statement at act rest) b = ap (λ (vs : List Seen). (at, act) ∷ vs) (listed-followed rest b)

listed-own : (count : ℕ) (a : Statements Number) → HoldsOfAll (IsBelow count) a → EachOwn count (listed a)
listed-own count no_statement own = tt
listed-own count (statement at act rest) own = (own.0, listed-own count rest own.1)

-- a list whose view is two parts splits accordingly
record IsParted (xs : List (Stmt Frac)) (vs : List Seen) : Type 0 where
  prefix : List (Stmt Frac)
  rest : List (Stmt Frac)
  parts : xs ≡ prefix ++ rest
  seen_so : map seen prefix ≡ vs

parted : (xs : List (Stmt Frac)) (vs ws : List Seen) → map seen xs ≡ vs ++ ws → IsParted xs vs
parted xs [] ws e = record { prefix = []; rest = xs; parts = refl; seen_so = refl }
parted [] (v ∷ vs) ws e = absurd (let z : [] ≡ v ∷ (vs ++ ws) = e in cc)
parted (x ∷ xs) (v ∷ vs) ws e =
    let both : seen x ∷ map seen xs ≡ v ∷ (vs ++ ws) = e in
    let here : seen x ≡ v = cc in
    let later : map seen xs ≡ vs ++ ws = cc in
    let r = parted xs vs ws later in
    record {
      prefix = x ∷ r.prefix;
      rest = r.rest;
      parts = ap (λ (ys : List (Stmt Frac)). x ∷ ys) r.parts;
      seen_so = ap₂ (λ (u : Seen) (us : List Seen). u ∷ us) here r.seen_so;
    }

-- ---- what is declared later

-- statements of which nothing but the declarations counts
abbrev bare : List (Stmt Frac) → List (Stmt Frac × Bool)
bare xs = map (λ (x : Stmt Frac). (x, false)) xs

bare-declared : (xs : List (Stmt Frac)) (state : State) → fold (after_statement frac_value) state (bare xs) ≡ declared_by_all state xs
bare-declared [] state = refl
bare-declared (x ∷ xs) state = bare-declared xs (after_statement frac_value state (x, false))

grows-all : (xs : List (Stmt Frac)) (state : State) → Grows state (declared_by_all state xs)
grows-all xs state = subst (λ (s : State). Grows state s) (bare-declared xs state) (grows-past frac_value (bare xs) state)

-- what is declared after all statements is later than what is declared after the first ones
later-than : (count : ℕ) (prefix rest : List (Stmt Frac)) (n : ℕ) → IsLater (symbol_at (declared_by_all (blank_state count) prefix) n) (symbol_at (declared_by_all (blank_state count) (prefix ++ rest)) n)
later-than count prefix rest n =
    subst (λ (s : State). IsLater (symbol_at (declared_by_all (blank_state count) prefix) n) (symbol_at s n)) (sym (fold-append (λ (state : State) (x : Stmt Frac). declared_by state x.act) (blank_state count) prefix rest))
    (grows-all rest (declared_by_all (blank_state count) prefix) n (grows-all prefix (blank_state count) n (blank-fits count n)).0).1

-- ---- one state over another

at-overlaid : (xs ys : List Symbol) (n : ℕ) → length ys ≤ length xs → unwrap_or (slice_get (overlaid_symbols xs ys) n) no_symbol ≡ chosen (unwrap_or (slice_get xs n) no_symbol) (unwrap_or (slice_get ys n) no_symbol)
at-overlaid [] [] n many = refl
at-overlaid [] (y ∷ ys) n many = absurd (omega arith)
at-overlaid (x ∷ xs) [] n many = refl
at-overlaid (x ∷ xs) (y ∷ ys) zero many = refl
at-overlaid (x ∷ xs) (y ∷ ys) (suc n) many = at-overlaid xs ys n (omega arith)

-- Two symbols are of the same form: over the same domain, and as aliases of the same set.
record AreAlike (a b : Symbol) : Type 0 where
  domain : a.domain ≡ b.domain
  occurs : (n : ℕ) → alias_target n a.content ≡ alias_target n b.content

-- states that declare the same have such symbols
same-form : (a b : State) (n : ℕ) → declared_symbols a ≡ declared_symbols b → AreAlike (symbol_at a n) (symbol_at b n)
same-form a b n e = record {
  domain = ap (λ (s : Symbol). s.domain) (same-at a b n e);
  occurs = λ m. same-read (alias_target m) (keeps-following m) a b n e;
}

form-both : (a b c : Symbol) → AreAlike a b → AreAlike b c → AreAlike a c
form-both a b c one two = record { domain = one.domain ∙ two.domain; occurs = λ m. one.occurs m ∙ two.occurs m }

-- a state has as many symbols as its declarations
form-count : (a b : State) → declared_symbols a ≡ declared_symbols b → length a.symbols ≡ length (declared_symbols b)
form-count a b e = sym (length-map a.symbols _) ∙ ap (λ (xs : List Symbol). length xs) e

-- ---- a saved state, and a joint program

module _ (first whole : Program Frac) (saved : State) (declares : declared_symbols saved ≡ declared_symbols (declared_state first)) (names : IsPrefix first.names whole.names) (others : Statements Number) (statements : statements_view frac_value whole.statements.items ≡ followed_by (statements_view frac_value first.statements.items) others) (own : HoldsOfAll (IsBelow (length first.names)) (statements_view frac_value first.statements.items)) where
  abbrev vs : List Seen
  vs = map seen first.statements.items

  -- the joint program's statements begin with some that have the views of the saved ones
  pieces : IsParted whole.statements.items vs
  pieces =
      parted whole.statements.items vs (listed others)
      (sym (listed-is whole.statements.items)
      ∙ ap listed statements
      ∙ listed-followed (statements_view frac_value first.statements.items) others
      ∙ ap (λ (us : List Seen). us ++ listed others) (listed-is first.statements.items))

  abbrev more : ℕ
  more = length names.0

  count-whole : length first.names + more ≡ length whole.names
  count-whole = sym (length-append first.names names.0) ∙ ap (λ (ns : List (List ℕ)). length ns) (sym names.1)

  -- what these declare in the joint program
  prefix : State
  prefix = declared_by_all (blank_state (length whole.names)) pieces.prefix

  blank-padded : blank_state (length whole.names) ≡ padded more (blank_state (length first.names))
  blank-padded =
      ap (λ (xs : List Symbol). (let r : State = record { symbols = xs; settings = (blank_state 0).settings } in r)) (ap (λ n. replicate n no_symbol) (sym count-whole) ∙ sym (replicate-append-replicate (length first.names) more no_symbol))

  -- is what they declare in the saved program
  prefix-is : prefix ≡ padded more (declared_state first)
  unfolding prefix pieces
  prefix-is =
      declared-are pieces.prefix (blank_state (length whole.names))
      ∙ ap (λ (us : List Seen). seen_declared (length whole.names) us) pieces.seen_so
      ∙ ap (λ (s : State). fold (λ (s : State) (v : Seen). (told_by v.1).declared s) s vs) blank-padded
      ∙ acts-same more (length first.names) vs (blank_state (length first.names)) (subst (EachOwn (length first.names)) (listed-is first.statements.items) (listed-own (length first.names) (statements_view frac_value first.statements.items) own)) (length-replicate (length first.names) no_symbol)
      ∙ ap (padded more) (sym (declared-is first))

  -- what the saved source declares is of the same form in the joint program
  declared-form : (n : ℕ) → is_undeclared (symbol_at (declared_state first) n).content ≡ false → AreAlike (symbol_at (declared_state first) n) (symbol_at (declared_state whole) n)
  unfolding prefix pieces
  declared-form n is =
      let at : symbol_at prefix n ≡ symbol_at (declared_state first) n = ap (λ (s : State). symbol_at s n) prefix-is ∙ at-padded more (declared_state first) n in
      let whole-is : declared_by_all (blank_state (length whole.names)) (pieces.prefix ++ pieces.rest) ≡ declared_state whole = ap (λ (xs : List (Stmt Frac)). declared_by_all (blank_state (length whole.names)) xs) (sym pieces.parts) in
      by (subst (λ (s : Symbol). IsLater s (symbol_at (declared_state whole) n)) at (subst (λ (s : State). IsLater (symbol_at prefix n) (symbol_at s n)) whole-is (later-than (length whole.names) pieces.prefix pieces.rest n)))
    where
      by : IsLater (symbol_at (declared_state first) n) (symbol_at (declared_state whole) n) → AreAlike (symbol_at (declared_state first) n) (symbol_at (declared_state whole) n)
      by (inl none) = absurd (let e : ◌≡◌ {A = Bool} true false = sym none ∙ is in cc)
      by (inr after) = record { domain = sym after.domain; occurs = λ m. sym (after.alike m) }

  abbrev now : State
  now = resumed frac_value saved whole

  saved-count : length saved.symbols ≡ length first.names
  saved-count = form-count saved (declared_state first) declares ∙ declared-count first

  loaded-count : length (loaded frac_value whole).symbols ≡ length whole.names
  loaded-count = form-count (loaded frac_value whole) (declared_state whole) (loaded-declares frac_value whole) ∙ declared-count whole

  no-fewer : length saved.symbols ≤ length (loaded frac_value whole).symbols
  no-fewer = fewer more saved-count loaded-count count-whole
    where
      fewer : {a b c d : ℕ} (k : ℕ) → a ≡ c → b ≡ d → c + k ≡ d → a ≤ b
      fewer k p q r = omega (arith, p, q, r)

  -- each name has the form that the joint program gives it
  form-now : (n : ℕ) → AreAlike (symbol_at now n) (symbol_at (declared_state whole) n)
  form-now n =
      subst (λ (s : Symbol). AreAlike s (symbol_at (declared_state whole) n)) (sym (at-overlaid (loaded frac_value whole).symbols saved.symbols n no-fewer))
      (by (is_undeclared (symbol_at saved n).content) refl)
    where
      by : (b : Bool) → is_undeclared (symbol_at saved n).content ≡ b → AreAlike (cond b (symbol_at (loaded frac_value whole) n) (symbol_at saved n)) (symbol_at (declared_state whole) n)
      by true none = same-form (loaded frac_value whole) (declared_state whole) n (loaded-declares frac_value whole)
      by false there =
          let is : is_undeclared (symbol_at (declared_state first) n).content ≡ false = sym (same-read is_undeclared keeps-undeclared saved (declared_state first) n declares) ∙ there in
          form-both (symbol_at saved n) (symbol_at (declared_state first) n) (symbol_at (declared_state whole) n) (same-form saved (declared_state first) n declares)
          (declared-form n is)

  -- The state that is gone on from declares each name as the joint program does.
  pub all-alike : (name : ℕ) → IsAlike now (declared_state whole) name
  all-alike name =
      let base : base_of now name ≡ base_of (declared_state whole) name = (form-now name).occurs name in record {
        base = base;
        positions = ap (λ n. length (symbol_at now n).domain) base ∙ ap (λ (d : List (Option ℕ)). length d) (form-now (base_of (declared_state whole) name)).domain;
      }
