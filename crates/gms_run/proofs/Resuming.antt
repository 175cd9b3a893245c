-- Where a saved state declares the names of a joint program as the program does, its definitions
-- are over sets of dimension one in the state that the run resumes from.
use Rattle.std.proofs.Common.{◌≡◌, ℕ, zero, suc, Bool, true, false, List, [], ◌∷◌, length, slice_get, refl, sym, ap, ◌∙◌, subst, cond, unwrap_or, ◌⊎◌, inl, inr}
use Rattle.std.specs.List.{All}
use Rattle.std.proofs.lemmas.List.Elements.{All-nil, All-cons, All-head, All-tail}
use Rattle.gq_frac.specs.declared.frac.Frac.{Frac}
use Rattle.gq_frac.specs.Frac.{frac_value}
use Rattle.gms_ast.specs.declared.program.Program.{Program}
use Rattle.gms_ast.specs.declared.program.Stmt.{Stmt}
use Rattle.gms_ast.specs.Trees as tree
use Rattle.gms_store.specs.State.{State, Symbol, no_symbol, symbol_at, alias_target, base_of, symbol_of, members_in, members_of}
use Rattle.gms_store.specs.Declarations.{is_undeclared, declared_state}
use Rattle.gms_store.specs.Overlays.{overlaid_symbols}
use Rattle.gms_rows.specs.Plain.{ArePlain}
use Rattle.gms_rows.specs.Rows.{Definition, definitions}
use Rattle.gms_exec.specs.Dimensions.{AreOverOne, AreOneDimensional}
use Rattle.gms_check.specs.Loaded.{loaded}
use Rattle.gms_save.specs.JointErrors.{resumed}
use Rattle.gms_save.proofs.LoadedNames.{loaded-declares, same-at, same-read, keeps-following}
use Rattle.gms_restart.specs.Alike.{IsAlike}

-- a symbol in a list of symbols, by its number; without one, the empty symbol
abbrev at : List Symbol → ℕ → Symbol
at symbols n = unwrap_or (slice_get symbols n) no_symbol

-- a name of a state over another has the symbol that the one or the other has
either : (xs ys : List Symbol) (n : ℕ) → (at (overlaid_symbols xs ys) n ≡ at xs n) ⊎ (at (overlaid_symbols xs ys) n ≡ at ys n)
either [] ys n = inl refl
either (x ∷ xs) [] n = inl refl
either (x ∷ xs) (y ∷ ys) zero = by (is_undeclared y.content)
  where
    by : (b : Bool) → (cond b x y ≡ x) ⊎ (cond b x y ≡ y)
    by true = inl refl
    by false = inr refl
either (x ∷ xs) (y ∷ ys) (suc n) = either xs ys n

module _ (saved : State) (joint : Program Frac) (alike : (name : ℕ) → IsAlike (resumed frac_value saved joint) (declared_state joint) name) (arity : (name : ℕ) → All (λ t. length t ≡ length (symbol_at saved name).domain) (members_in (symbol_at saved name).content)) where
  abbrev first : State
  first = loaded frac_value joint

  abbrev now : State
  now = resumed frac_value saved joint

  -- the set of a name has one position, and members of one label
  abbrev IsOne : State → ℕ → Type 0
  IsOne state set = (length (symbol_of state set).domain ≡ 1) × All (λ t. length t ≡ 1) (members_of state set)

  base-same : (set : ℕ) → base_of now set ≡ base_of first set
  base-same set =
      (alike set).base ∙ sym (same-read (alias_target set) (keeps-following set) first (declared_state joint) set (loaded-declares frac_value joint))

  domain-same : (set : ℕ) → length (symbol_of now set).domain ≡ length (symbol_of first set).domain
  domain-same set =
      let base : base_of first set ≡ base_of (declared_state joint) set = same-read (alias_target set) (keeps-following set) first (declared_state joint) set (loaded-declares frac_value joint) in
      (alike set).positions
      ∙ ap (λ (n : ℕ). length (symbol_at (declared_state joint) n).domain) (sym base)
      ∙ sym (ap (λ (s : Symbol). length s.domain) (same-at first (declared_state joint) (base_of first set) (loaded-declares frac_value joint)))

  -- A set that has dimension one as it is loaded has it where the run resumes.
  stays : (set : ℕ) → IsOne first set → IsOne now set
  stays set (one, members) =
      let still : length (symbol_of now set).domain ≡ 1 = domain-same set ∙ one in
      let base = base-same set in (
        still,
        elim (either first.symbols saved.symbols (base_of now set)) [
          | inl same ↦ subst (λ (s : Symbol). All (λ t. length t ≡ 1) (members_in s.content)) (sym (same ∙ ap (symbol_at first) base)) members
          | inr same ↦ subst (λ (n : ℕ). All (λ t. length t ≡ n) (members_of now set)) still
              (subst (λ (s : Symbol). All (λ t. length t ≡ length s.domain) (members_in s.content)) (sym same) (arity (base_of now set)))
        ],
      )

  indices-stay : (indices : tree.Indices Frac) → ArePlain first indices → AreOverOne first indices → ArePlain now indices × AreOverOne now indices
  indices-stay tree.no_index plain over = (tt, tt)
  indices-stay (tree.label label rest) plain over = indices-stay rest plain over
  indices-stay (tree.set set rest) plain over =
      let here = stays set (over.0, plain.0) in
      let there = indices-stay rest plain.1 over.1 in
      ((here.1, there.0), (here.0, there.1))
  indices-stay (tree.lagged set op at amount rest) plain over = absurd plain

  definitions-stay : (ds : List (Definition Frac)) → All (λ (d : Definition Frac). ArePlain first d.indices) ds → All (λ (d : Definition Frac). AreOverOne first d.indices) ds → All (λ (d : Definition Frac). ArePlain now d.indices) ds × All (λ (d : Definition Frac). AreOverOne now d.indices) ds
  definitions-stay [] plain over = (All-nil (λ (d : Definition Frac). ArePlain now d.indices), All-nil (λ (d : Definition Frac). AreOverOne now d.indices))
  definitions-stay (d ∷ ds) plain over =
      let here = indices-stay d.indices (All-head (λ (d : Definition Frac). ArePlain first d.indices) d ds plain) (All-head (λ (d : Definition Frac). AreOverOne first d.indices) d ds over) in
      let there = definitions-stay ds (All-tail (λ (d : Definition Frac). ArePlain first d.indices) d ds plain) (All-tail (λ (d : Definition Frac). AreOverOne first d.indices) d ds over) in
      (All-cons (λ (d : Definition Frac). ArePlain now d.indices) d ds here.0 there.0, All-cons (λ (d : Definition Frac). AreOverOne now d.indices) d ds here.1 there.1)

  -- The definitions are over sets of one dimension.
  pub resumes-one-dimensional : (statements : List (Stmt Frac)) → AreOneDimensional first statements → AreOneDimensional now statements
  resumes-one-dimensional statements one =
      let both = definitions-stay (definitions statements) one.plain one.declared in record { plain = both.0; declared = both.1 }
