-- The declarations and data of a program give the same where there are more names.
use Rattle.std.proofs.Common.{◌≡◌, ℕ, zero, suc, ◌+◌, ◌<◌, ◌≤◌, nat_lt, Bool, true, false, not, ◌||◌, ◌&&◌, ◌==◌, cond, if◌then◌else◌, List, [], ◌∷◌, ◌++◌, length, map, set, slice_get, Option, Some, None, unwrap_or, Result, Ok, Err, refl, sym, ap, ap₂, ◌∙◌, subst, inl, inr, arith}
use Rattle.std.specs.Prelude.{flat_map, replicate}
use Rattle.std.specs.List.{fold, list_any}
use Rattle.std.proofs.Math.Path.{fun_ext}
use Rattle.std.proofs.lemmas.Bool.{cases_lt, eqb-true, eqb-false}
use Rattle.std.proofs.lemmas.Bool.Decides.{nat_tests}
use Rattle.std.proofs.lemmas.List.{length-set, length-replicate}
use Rattle.std.proofs.lemmas.Option.{slice_get_past}
use Rattle.gq_number.specs.Number.{Number}
use Rattle.gq_extended.specs.Meaning.{extended as value_shown}
use Rattle.gms_ast.specs.declared.declaration.Decl.{Decl}
use Rattle.gms_ast.specs.declared.declaration.DeclKind.{DeclKind}
use Rattle.gms_ast.specs.declared.declaration.DeclKind.TheVariants as kind
use Rattle.gms_ast.specs.declared.declaration.Item.{Item}
use Rattle.gms_ast.specs.declared.declaration.ModelDecl.{ModelDecl}
use Rattle.gms_ast.specs.declared.program.Act.{Act, roll-Act}
use Rattle.gms_ast.specs.declared.program.Act.TheOpen.{Act-F}
use Rattle.gms_ast.specs.declared.program.Act.TheVariants.{rolls-Declare, rolls-Alias, rolls-Assign, rolls-Define, rolls-Model, rolls-Solve, rolls-Display, rolls-Loop, rolls-Options, rolls-Abort}
use Rattle.gms_ast.specs.declared.program.Stmt.{Stmt}
use Rattle.gms_tuple.specs.Products.{tuple_product}
use Rattle.gms_tuple.specs.TupleSet.{has}
use Rattle.gms_store.specs.Declarations.{names_of, positions_of, is_set, is_undeclared, declared_again, put_at, declare, alias_symbol, can_join, join_name, declare_alias, model_symbol, declare_model, blank_state}
use Rattle.gms_store.specs.State.{State, Content, undeclared, Symbol, no_symbol, symbol_at, symbol_of, alias_target, base_of, members_in, members_of, with_content, if_fits, with_membership, with_value}
use Rattle.gms_set.specs.declared.fault.SetError.{SetError}
use Rattle.gms_set.specs.declared.fault.SetError.TheVariants.{BadRange, Repeated, Outside, Full}
use Rattle.gms_set.specs.declared.fault.SetFault.{SetFault}
use Rattle.gms_set.specs.Expansion.{is_outside, has_outside, has_repeat, ExpandedData, tuples_of, error_of, unless, with_items, expanded}
use Rattle.gms_set.specs.Expansion as expansion
use Rattle.gms_scope.specs.Data.{with_datum}
use Rattle.gms_check.specs.Loaded.{sound}
use Rattle.gms_check.specs.Past.{names_declared, with_data, with_item, with_name, after_act, after_statement, state_after}
use Rattle.gms_check.proofs.Growing.{by_parts}
use Rattle.gms_check.proofs.IndexSetsStay.{none-declared}
use Rattle.gms_run_laws.specs.Names.{Each}
use Rattle.gms_run_laws.proofs.Eaches.{each-left, each-right}

-- ---- tests of numbers

pub below-of : (n k : ℕ) → nat_lt n k ≡ true → n < k
below-of n k is = grind (arith, nat_tests)

pub test-of : (n k : ℕ) → n < k → nat_lt n k ≡ true
test-of n k below = grind (arith, nat_tests)

-- ---- one name is written

abbrev read : List Symbol → ℕ → Symbol
read symbols n = unwrap_or (slice_get symbols n) no_symbol

pub put-here : (xs : List Symbol) (i : ℕ) (s : Symbol) → i < length xs → read (set xs i s) i ≡ s
put-here [] i s within = absurd (omega arith)
put-here (x ∷ xs) zero s within = refl
put-here (x ∷ xs) (suc i) s within = put-here xs i s (omega arith)

pub put-elsewhere : (xs : List Symbol) (i n : ℕ) (s : Symbol) → (i ≡ n → ⊥) → read (set xs i s) n ≡ read xs n
put-elsewhere [] i n s apart = refl
put-elsewhere (x ∷ xs) zero zero s apart = absurd (apart refl)
put-elsewhere (x ∷ xs) zero (suc n) s apart = refl
put-elsewhere (x ∷ xs) (suc i) zero s apart = refl
put-elsewhere (x ∷ xs) (suc i) (suc n) s apart = put-elsewhere xs i n s (λ e. apart (ap suc e))

-- a write past the end changes nothing
put-past : (xs : List Symbol) (i : ℕ) (s : Symbol) → length xs ≤ i → set xs i s ≡ xs
put-past [] i s past = refl
put-past (x ∷ xs) zero s past = absurd (omega arith)
put-past (x ∷ xs) (suc i) s past = ap (λ (ys : List Symbol). x ∷ ys) (put-past xs i s (omega arith))

-- Two states, of which the second has more names: each name is the same in both.
pub record Padded (count : ℕ) (s t : State) : Type 0 where
  pub same : (n : ℕ) → symbol_at t n ≡ symbol_at s n
  pub settings : t.settings ≡ s.settings
  pub few : length s.symbols ≤ length t.symbols
  pub size : length s.symbols ≡ count

module _ (count : ℕ) where
  padded-put : (s t : State) (i : ℕ) (new : Symbol) → (length s.symbols ≤ i → new ≡ no_symbol) → Padded count s t → Padded count (put_at s i new) (put_at t i new)
  padded-put s t i new none padded = record {
    same = each;
    settings = padded.settings;
    few = subst (λ n. n ≤ length (set t.symbols i new)) (sym (length-set s.symbols i new)) (subst (λ n. length s.symbols ≤ n) (sym (length-set t.symbols i new)) padded.few);
    size = length-set s.symbols i new ∙ padded.size;
  }
    where
      here : (n : ℕ) → i ≡ n → symbol_at (put_at t i new) n ≡ symbol_at (put_at s i new) n
      here n at = elim (cases_lt i (length s.symbols)) [
        | inl below ↦
            subst (λ m. read (set t.symbols i new) m ≡ read (set s.symbols i new) m) at (put-here t.symbols i new (within below padded.few) ∙ sym (put-here s.symbols i new below))
        | inr past ↦
            subst (λ m. read (set t.symbols i new) m ≡ read (set s.symbols i new) m) at
            (over (none past) ∙ sym (ap (λ (xs : List Symbol). read xs i) (put-past s.symbols i new past) ∙ ap (λ (o : Option Symbol). unwrap_or o no_symbol) (slice_get_past s.symbols i past)))
      ]
        where
          within : i < length s.symbols → length s.symbols ≤ length t.symbols → i < length t.symbols
          within a b = omega (arith, a, b)

          over : new ≡ no_symbol → read (set t.symbols i new) i ≡ no_symbol
          over is = elim (cases_lt i (length t.symbols)) [
            | inl below ↦ put-here t.symbols i new below ∙ is
            | inr past ↦ ap (λ (xs : List Symbol). read xs i) (put-past t.symbols i new past) ∙ ap (λ (o : Option Symbol). unwrap_or o no_symbol) (slice_get_past t.symbols i past)
          ]

      each : (n : ℕ) → symbol_at (put_at t i new) n ≡ symbol_at (put_at s i new) n
      each n = by (i == n) refl
        where
          by : (b : Bool) → (i == n) ≡ b → symbol_at (put_at t i new) n ≡ symbol_at (put_at s i new) n
          by true e = here n (eqb-true i n e)
          by false e =
              let apart : i ≡ n → ⊥ = eqb-false i n e in
              put-elsewhere t.symbols i n new apart ∙ padded.same n ∙ sym (put-elsewhere s.symbols i n new apart)

  -- a name of the first program
  abbrev IsName : ℕ → Bool
  IsName n = nat_lt n count

  named : (s : State) (i : ℕ) (new : Symbol) → length s.symbols ≡ count → IsName i ≡ true → length s.symbols ≤ i → new ≡ no_symbol
  named s i new many is past = absurd (let below = below-of i count is in omega (arith, many, past, below))

  -- a name whose symbol becomes a function of the old one
  padded-change : (s t : State) (i : ℕ) (f : Symbol → Symbol) → (length s.symbols ≤ i → f (symbol_at s i) ≡ no_symbol) → Padded count s t → Padded count (put_at s i (f (symbol_at s i))) (put_at t i (f (symbol_at t i)))
  padded-change s t i f none padded =
      subst (λ (x : Symbol). Padded count (put_at s i (f (symbol_at s i))) (put_at t i (f x))) (sym (padded.same i)) (padded-put s t i (f (symbol_at s i)) none padded)

  -- ---- declarations

  padded-declare : (k : DeclKind) (domain : List (Option ℕ)) (s t : State) (name : ℕ) → IsName name ≡ true → Padded count s t → Padded count (declare k domain s name) (declare k domain t name)
  padded-declare k domain s t name is padded =
      padded-change s t name (declared_again k domain) (named s name (declared_again k domain (symbol_at s name)) padded.size is) padded

  base-same : (s t : State) → Padded count s t → (n : ℕ) → base_of t n ≡ base_of s n
  base-same s t padded n = ap (λ (x : Symbol). alias_target n x.content) (padded.same n)

  padded-join : (s t : State) (old new : ℕ) → IsName new ≡ true → Padded count s t → Padded count (join_name s old new) (join_name t old new)
  padded-join s t old new is padded =
      subst (λ base. Padded count (join_name s old new) (put_at t new (alias_symbol base))) (sym (base-same s t padded old))
      (padded-put s t new (alias_symbol (base_of s old)) (named s new (alias_symbol (base_of s old)) padded.size is) padded)

  can-same : (s t : State) → Padded count s t → (old new : ℕ) → can_join t old new ≡ can_join s old new
  can-same s t padded old new =
      ap₂ (λ (a b : Symbol). is_set a.content && is_undeclared b.content) (padded.same old) (padded.same new)

  padded-alias : (s t : State) (first second : ℕ) → IsName first ≡ true → IsName second ≡ true → Padded count s t → Padded count (declare_alias s first second) (declare_alias t first second)
  padded-alias s t first second one two padded =
      subst (λ (b : Bool). Padded count (declare_alias s first second) (cond b (join_name t first second) (cond (can_join t second first) (join_name t second first) (sets t)))) (sym (can-same s t padded first second))
      (subst (λ (b : Bool). Padded count (declare_alias s first second) (cond (can_join s first second) (join_name t first second) (cond b (join_name t second first) (sets t)))) (sym (can-same s t padded second first))
      (by (can_join s first second) (can_join s second first)))
    where
      sets : State → State
      sets u = declare kind.Set [] (declare kind.Set [] u first) second

      by : (a b : Bool) → Padded count (cond a (join_name s first second) (cond b (join_name s second first) (sets s))) (cond a (join_name t first second) (cond b (join_name t second first) (sets t)))
      by true b = padded-join s t first second two padded
      by false true = padded-join s t second first one padded
      by false false = padded-declare kind.Set [] (declare kind.Set [] s first) (declare kind.Set [] t first) second two (padded-declare kind.Set [] s t first one padded)

  padded-model : (s t : State) (name : ℕ) → IsName name ≡ true → Padded count s t → Padded count (declare_model s name) (declare_model t name)
  padded-model s t name is padded =
      subst (λ (x : Symbol). Padded count (declare_model s name) (cond (is_undeclared x.content) (put_at t name model_symbol) t)) (sym (padded.same name)) (by (is_undeclared (symbol_at s name).content))
    where
      by : (b : Bool) → Padded count (cond b (put_at s name model_symbol) s) (cond b (put_at t name model_symbol) t)
      by true = padded-put s t name model_symbol (named s name model_symbol padded.size is) padded
      by false = padded

  padded-models : (models : List ModelDecl) (s t : State) → Each IsName (map (λ (model : ModelDecl). model.named.name) models) → Padded count s t → Padded count (fold (λ state (model : ModelDecl). declare_model state model.named.name) s models) (fold (λ state (model : ModelDecl). declare_model state model.named.name) t models)
  padded-models [] s t all padded = padded
  padded-models (model ∷ models) s t all padded =
      padded-models models (declare_model s model.named.name) (declare_model t model.named.name) all.1 (padded-model s t model.named.name all.0 padded)

  -- ---- data

  module _ (s t : State) (padded : Padded count s t) where
    members-same : (set : ℕ) → members_of t set ≡ members_of s set
    members-same set =
        ap (λ (x : Symbol). members_in x.content) (ap (symbol_at t) (base-same s t padded set) ∙ padded.same (base_of s set))

    outside-same : (set : Option ℕ) (label : ℕ) → is_outside t set label ≡ is_outside s set label
    outside-same None label = refl
    outside-same (Some set) label = ap (λ (members : List (List ℕ)). not (has members (label ∷ []))) (members-same set)

    all-outside : (sets : List (Option ℕ)) (parts : List (List ℕ)) → has_outside t sets parts ≡ has_outside s sets parts
    all-outside [] parts = refl
    all-outside (set ∷ sets) [] = refl
    all-outside (set ∷ sets) (labels ∷ rest) =
        ap₂ (λ (a b : Bool). a || b) (ap (λ (f : ℕ → Bool). list_any f labels) (fun_ext (outside-same set))) (all-outside sets rest)

    module _ {F : Type 0} where
      error-same : (domain : List (Option ℕ)) (before : List (List ℕ)) (item : Item F) → error_of t domain before item ≡ error_of s domain before item
      error-same domain before item =
          ap (λ (b : Bool). if b then Some Outside else if item.bad_range then Some BadRange else if nat_lt 1048576 (length before + length (tuple_product item.parts)) then Some Full else if has_repeat (before ++ tuple_product item.parts) then Some Repeated else None) (all-outside domain item.parts)

      items-same : (domain : List (Option ℕ)) (items : List (Item F)) (given : ExpandedData F) → with_items t domain given items ≡ with_items s domain given items
      items-same domain [] given = refl
      items-same domain (item ∷ items) given =
          ap (λ (e : Option SetError). unless e item.at (with_items t domain (given ++ expansion.tuples_with_value item.value (tuple_product item.parts)) items)) (error-same domain (tuples_of given) item)
          ∙ ap (unless (error_of s domain (tuples_of given) item) item.at) (items-same domain items (given ++ expansion.tuples_with_value item.value (tuple_product item.parts)))

  -- what stands for a name that there is not
  fitted-none : (t : List ℕ) (f : Content → Content) → f undeclared ≡ undeclared → if_fits no_symbol t (f undeclared) ≡ no_symbol
  fitted-none t f still = by (length t == 0)
    where
      by : (b : Bool) → cond b (with_content no_symbol (f undeclared)) no_symbol ≡ no_symbol
      by true = ap (with_content no_symbol) still
      by false = refl

  padded-content : (s t : State) (name : ℕ) (tuple : List ℕ) (f : Content → Content) → f undeclared ≡ undeclared → Padded count s t → Padded count (put_at s (base_of s name) (if_fits (symbol_of s name) tuple (f (symbol_of s name).content))) (put_at t (base_of t name) (if_fits (symbol_of t name) tuple (f (symbol_of t name).content)))
  padded-content s t name tuple f still padded =
      subst (λ i. Padded count (put_at s (base_of s name) (g (symbol_of s name))) (put_at t i (g (symbol_at t i)))) (sym (base-same s t padded name))
      (padded-change s t (base_of s name) g (λ past. ap g (ap (λ (o : Option Symbol). unwrap_or o no_symbol) (slice_get_past s.symbols (base_of s name) past)) ∙ fitted-none tuple f still) padded)
    where
      g : Symbol → Symbol
      g x = if_fits x tuple (f x.content)

  module _ {F : Type 0} (v : F → Number) where
    padded-data : (ds : ExpandedData F) (s t : State) (name : ℕ) → Padded count s t → Padded count (fold (with_datum v name) s ds) (fold (with_datum v name) t ds)
    padded-data [] s t name padded = padded
    padded-data ((tuple, None) ∷ ds) s t name padded =
        padded-data ds (with_datum v name s (tuple, None)) (with_datum v name t (tuple, None)) name (padded-content s t name tuple (λ c. with_membership c tuple true) refl padded)
    padded-data ((tuple, Some x) ∷ ds) s t name padded =
        padded-data ds (with_datum v name s (tuple, Some x)) (with_datum v name t (tuple, Some x)) name (padded-content s t name tuple (λ c. with_value c tuple (value_shown v x)) refl padded)

    padded-given : (s t : State) (name : ℕ) (given : Result (ExpandedData F) SetFault) → Padded count s t → Padded count (with_data v s name given) (with_data v t name given)
    padded-given s t name (Ok given) padded = padded-data given s t name padded
    padded-given s t name (Err fault) padded = padded

    pub padded-item : (k : DeclKind) (s t : State) (item : Decl F) → IsName item.named.name ≡ true → Padded count s t → Padded count (with_item v k s item) (with_item v k t item)
    padded-item k s t item is padded =
        let domain = positions_of k (names_of item.domain) in
        subst (λ (given : Result (ExpandedData F) SetFault). Padded count (with_item v k s item) (with_data v (with_name v k t item) item.named.name given)) (sym (items-same s t padded domain item.items []))
        (padded-given (with_name v k s item) (with_name v k t item) item.named.name (expanded s domain item.items) (padded-declare k (names_of item.domain) s t item.named.name is padded))

    padded-items : (k : DeclKind) (items : List (Decl F)) (s t : State) → Each IsName (map (λ (item : Decl F). item.named.name) items) → Padded count s t → Padded count (fold (with_item v k) s items) (fold (with_item v k) t items)
    padded-items k [] s t all padded = padded
    padded-items k (item ∷ items) s t all padded =
        padded-items k items (with_item v k s item) (with_item v k t item) all.1 (padded-item k s t item all.0 padded)

    padded-act : (s t : State) → Padded count s t → (act : Act F) → Each IsName (names_declared act) → Padded count (after_act v s act) (after_act v t act)
    padded-act s t padded act = by_parts P by act
      where
        P : Act F → Type 0
        P a = Each IsName (names_declared a) → Padded count (after_act v s a) (after_act v t a)

        by : (layer : Act-F F (Act F) (Stmt F)) → P (roll-Act F layer)
        by (Act-F.Declare k items) = subst P (sym (rolls-Declare k items)) (λ all. padded-items k items s t all padded)
        by (Act-F.Alias first second) = subst P (sym (rolls-Alias first second)) (λ all. padded-alias s t first.name second.name all.0 all.1.0 padded)
        by (Act-F.Assign target condition right_at right) = subst P (sym (rolls-Assign target condition right_at right)) (λ all. padded)
        by (Act-F.Define equation indices condition left_at left side right_at right) =
            subst P (sym (rolls-Define equation indices condition left_at left side right_at right)) (λ all. padded)
        by (Act-F.Model models) = subst P (sym (rolls-Model models)) (λ all. padded-models models s t all padded)
        by (Act-F.Solve model method objective maximize) = subst P (sym (rolls-Solve model method objective maximize)) (λ all. padded)
        by (Act-F.Display items) = subst P (sym (rolls-Display items)) (λ all. padded)
        by (Act-F.Loop control body) = subst P (sym (rolls-Loop control body)) (λ all. padded)
        by (Act-F.Options settings) = subst P (sym (rolls-Options settings)) (λ all. padded)
        by (Act-F.Abort condition items) = subst P (sym (rolls-Abort condition items)) (λ all. padded)

    padded-sound : (statements : List (Stmt F)) (s t : State) → Each IsName (flat_map (λ (statement : Stmt F). names_declared statement.act) statements) → Padded count s t → Padded count (fold (after_statement v) s (sound statements)) (fold (after_statement v) t (sound statements))
    padded-sound [] s t all padded = padded
    padded-sound (statement ∷ statements) s t all padded =
        padded-sound statements (after_act v s statement.act) (after_act v t statement.act) (each-right IsName (names_declared statement.act) (flat_map (λ (statement : Stmt F). names_declared statement.act) statements) all)
        (padded-act s t padded statement.act (each-left IsName (names_declared statement.act) (flat_map (λ (statement : Stmt F). names_declared statement.act) statements) all))

    -- Statements that declare names of a table of `count` names give the same with a longer table.
    pub padded-after : (more : ℕ) → count ≤ more → (statements : List (Stmt F)) → Each IsName (flat_map (λ (statement : Stmt F). names_declared statement.act) statements) → Padded count (state_after v count (sound statements)) (state_after v more (sound statements))
    padded-after more few statements all =
        padded-sound statements (blank_state count) (blank_state more) all (record {
          same = λ n. none-declared more n ∙ sym (none-declared count n);
          settings = refl;
          few = subst (λ n. n ≤ length (replicate more no_symbol)) (sym (length-replicate count no_symbol)) (subst (λ n. count ≤ n) (sym (length-replicate more no_symbol)) few);
          size = length-replicate count no_symbol;
        })
