-- Parts of a declaration that have no error, and what follows for its data.
use Rattle.std.proofs.lemmas.Bool.{and_from, not-false}
use Rattle.std.proofs.Common.{◌≡◌, ◌∙◌, ◌+◌, ◌<◌, ◌≤◌, ◌&&◌, ◌||◌, ℕ, zero, suc, Bool, true, false, not, List, [], ◌∷◌, ◌++◌, length, map, take, All, Option, Some, None, Result, Ok, Err, refl, sym, ap, cond, arith, if◌then◌else◌}
use Rattle.std.specs.Prelude.{filter, flat_map, nat_le, take_while}
use Rattle.std.specs.List.{list_all, prefix_len, slice_index_or}
use Rattle.std.proofs.lemmas.Bool.Decides.{nat_tests}
use Rattle.std.proofs.lemmas.List.{length-take}
use Rattle.std.proofs.lemmas.List.Folds.{length-prefix_len}
use Rattle.gms_labels.specs.declared.place.Place.{Place}
use Rattle.gms_ast.specs.declared.declaration.DeclKind.{DeclKind}
use Rattle.gms_ast.specs.declared.declaration.DeclKind.TheVariants as declaring
use Rattle.gms_ast.specs.declared.declaration.Decl.{Decl}
use Rattle.gms_ast.specs.declared.declaration.Item.{Item}
use Rattle.gms_ast.specs.declared.word.Named.{Named}
use Rattle.gms_store.specs.State.{State, symbol_at}
use Rattle.gms_store.specs.Declarations.{is_free, names_of, positions_of}
use Rattle.gms_set.specs.declared.fault.SetError.{SetError}
use Rattle.gms_set.specs.declared.fault.SetError.TheVariants.{BadRange, Repeated, Outside, Full}
use Rattle.gms_set.specs.declared.fault.SetFault.{SetFault}
use Rattle.gms_set.specs.Expansion.{ExpandedData, expanded}
use Rattle.gms_scope.specs.Names.{is_index_set, has_no_declaration}
use Rattle.gms_check.specs.declared.error.ErrorKind.{ErrorKind}
use Rattle.gms_check.specs.declared.error.CompileError.{CompileError}
use Rattle.gms_check.specs.CompileErrors.{checked_kinds, errors_at, errors_of, has_error, is_faultless}
use Rattle.gms_check.specs.DeclarationUses.{are_usable, domain_use, expansion_uses, failure, has_all_parts, is_usable_in, item_uses}
use Rattle.gms_check.specs.Domains.{is_wrong_count}
use Rattle.gms_check.specs.Errors.{first_error}
use Rattle.gms_check.specs.Names.{may_be_typed}
use Rattle.gms_check.specs.Past.{Known}
use Rattle.gms_check.specs.Uses.{Use, bounding, failing, naming, placing}
use Rattle.gms_check.proofs.Noting.{errors-append, not-within}

-- ---- errors that are none

-- without a first error there is none
pub none-first : (errors : List CompileError) → first_error errors ≡ None → errors ≡ []
none-first [] e = refl
none-first (error ∷ errors) e = absurd cc

pub none-faultless : (errors : List CompileError) → is_faultless errors ≡ true → errors ≡ []
none-faultless [] e = refl
none-faultless (error ∷ errors) e = absurd cc

pub none-left : {X : Type 0} (xs ys : List X) → xs ++ ys ≡ [] → xs ≡ []
none-left [] ys e = refl
none-left (x ∷ xs) ys e = absurd cc

pub none-right : {X : Type 0} (xs ys : List X) → xs ++ ys ≡ [] → ys ≡ []
none-right [] ys e = e
none-right (x ∷ xs) ys e = absurd cc

-- no kind passes a test
abbrev AreNot : (ErrorKind → Bool) → List ErrorKind → Type 0
AreNot test [] = Unit {0}
AreNot test (kind ∷ kinds) = (test kind ≡ false) × AreNot test kinds

none-kind : (at : Place) (test : ErrorKind → Bool) (kinds : List ErrorKind) → map {B = CompileError} (λ kind. record { kind = kind; at = at }) (filter test kinds) ≡ [] → AreNot test kinds
none-kind at test [] e = tt
none-kind at test (kind ∷ kinds) e = by (test kind) refl (none-kind at test kinds) e
  where
    by : (b : Bool) → test kind ≡ b → (map {B = CompileError} (λ kind. record { kind = kind; at = at }) (filter test kinds) ≡ [] → AreNot test kinds) → map {B = CompileError} (λ kind. record { kind = kind; at = at }) (cond b (kind ∷ filter test kinds) (filter test kinds)) ≡ [] → (test kind ≡ false) × AreNot test kinds
    by true is rest e = absurd cc
    by false is rest e = (is, rest e)

not-false-2 : (a b : Bool) → (not a && not b) ≡ false → (a || b) ≡ true
not-false-2 true b e = refl
not-false-2 false true e = refl
not-false-2 false false e = absurd cc

or-weaker : (a b c : Bool) → (a || (b && c)) ≡ true → (a || b) ≡ true
or-weaker true b c e = refl
or-weaker false true c e = refl
or-weaker false false c e = absurd cc

usable-positions : (state : State) (kind : DeclKind) (domain : List (Option ℕ)) → list_all (is_usable_in state) domain ≡ true → list_all (is_usable_in state) (positions_of kind domain) ≡ true
usable-positions state declaring.Set [] e = refl
usable-positions state declaring.Set (p ∷ ps) e = e
usable-positions state declaring.Parameter domain e = e
usable-positions state declaring.Scalar domain e = e
usable-positions state declaring.Table domain e = e
usable-positions state declaring.Free domain e = e
usable-positions state declaring.Positive domain e = e
usable-positions state declaring.Negative domain e = e
usable-positions state declaring.Discrete domain e = e
usable-positions state declaring.Equation domain e = e

module _ {F : Type 0} where
  -- a part that has no error
  faultless-part : (known : Known F) (at : Place) (used : Use F) → errors_at known (at, used) ≡ [] → AreNot (has_error known used) checked_kinds
  faultless-part known at used e = none-kind at (has_error known used) checked_kinds e

  -- an error of data is one
  no-failing : (known : Known F) (at : Place) (error : SetError) → errors_of known ((at, failing error) ∷ []) ≡ [] → ⊥
  no-failing known at BadRange e = cc
  no-failing known at Repeated e = cc
  no-failing known at Outside e = cc
  no-failing known at Full e = cc

  -- a list of data that has no error gives elements
  pub none-failure : (known : Known F) (result : Result (ExpandedData F) SetFault) → errors_of known (failure result) ≡ [] → failure result ≡ []
  none-failure known (Ok given) e = refl
  none-failure known (Err fault) e = absurd (no-failing known fault.at fault.error e)

  none-expansion : (known : Known F) (domain : List (Option ℕ)) (items : List (Item F)) → errors_of known (expansion_uses known domain items) ≡ [] → expansion_uses known domain items ≡ []
  none-expansion known domain items e = by (are_usable known domain) e
    where
      by : (b : Bool) → errors_of known (if b then failure (expanded known.state domain (take_while (has_all_parts domain) items)) else []) ≡ [] → (if b then failure (expanded known.state domain (take_while (has_all_parts domain) items)) else []) ≡ []
      by true e = none-failure known (expanded known.state domain (take_while (has_all_parts domain) items)) e
      by false e = refl

  -- sets of a domain that have no error can be in one
  none-domain : (known : Known F) (domain : List (Option Named)) → errors_of known (flat_map domain_use domain) ≡ [] → list_all (is_usable_in known.state) (names_of domain) ≡ true
  none-domain known [] e = refl
  none-domain known (None ∷ domain) e = none-domain known domain e
  none-domain known (Some named ∷ domain) e =
      let here = faultless-part known named.at (bounding named.name) (none-left (errors_at known (named.at, bounding named.name)) (errors_of known (flat_map domain_use domain)) e) in
      and_from (is_index_set known.state named.name) (list_all (is_usable_in known.state) (names_of domain)) (not-false (is_index_set known.state named.name) here.1.1.0) (none-domain known domain (none-right (errors_at known (named.at, bounding named.name)) (errors_of known (flat_map domain_use domain)) e))

  -- items that have no error have their parts
  none-items : (known : Known F) (domain : List (Option ℕ)) (items : List (Item F)) → errors_of known (map (λ (item : Item F). (item.at, placing (length domain) (length item.parts))) items) ≡ [] → list_all (has_all_parts domain) items ≡ true
  none-items known domain [] e = refl
  none-items known domain (item ∷ items) e =
      let used = placing (length domain) (length item.parts) in
      let rest = errors_of known (map (λ (item : Item F). (item.at, placing (length domain) (length item.parts))) items) in
      let here = faultless-part known item.at used (none-left (errors_at known (item.at, used)) rest e) in
      and_from (has_all_parts domain item) (list_all (has_all_parts domain) items) (ap not here.1.1.1.0) (none-items known domain items (none-right (errors_at known (item.at, used)) rest e))

  -- What holds of a name that is declared without an error.
  pub record IsFaultless (known : Known F) (kind : DeclKind) (item : Decl F) : Type 0 where
    pub new : (has_no_declaration known.state item.named.name || is_free (symbol_at known.state item.named.name).content) ≡ true
    pub usable : are_usable known (positions_of kind (names_of item.domain)) ≡ true
    pub whole : list_all (has_all_parts (positions_of kind (names_of item.domain))) item.items ≡ true
    pub given : expansion_uses known (positions_of kind (names_of item.domain)) item.items ≡ []

  pub faultless-item : (known : Known F) (kind : DeclKind) (item : Decl F) → errors_of known (item_uses known kind item) ≡ [] → IsFaultless known kind item
  faultless-item known kind item e =
      let named = item.named in
      let domain = names_of item.domain in
      let positions = positions_of kind domain in
      let used = naming kind named.name domain in
      let sets = flat_map domain_use item.domain in
      let places = map (λ (item : Item F). (item.at, placing (length positions) (length item.parts))) item.items in
      let elements = expansion_uses known positions item.items in
      let first : errors_at known (named.at, used) ≡ [] = none-left (errors_at known (named.at, used)) (errors_of known (sets ++ (places ++ elements))) e in
      let rest : errors_of known (sets ++ (places ++ elements)) ≡ [] = none-right (errors_at known (named.at, used)) (errors_of known (sets ++ (places ++ elements))) e in
      let both : errors_of known sets ++ errors_of known (places ++ elements) ≡ [] = sym (errors-append known sets (places ++ elements)) ∙ rest in
      let last : errors_of known places ++ errors_of known elements ≡ [] = sym (errors-append known places elements) ∙ none-right (errors_of known sets) (errors_of known (places ++ elements)) both in
      let here = faultless-part known named.at used first in
      let few : nat_le (length positions) 10 ≡ true = not-false (nat_le (length positions) 10) (not-within (length positions) 10 ∙ here.1.1.1.0) in
      record {
        new = or-weaker (has_no_declaration known.state named.name) (is_free (symbol_at known.state named.name).content) _ (not-false-2 (has_no_declaration known.state named.name) (may_be_typed known kind named.name domain) here.1.0);
        usable = and_from (nat_le (length positions) 10) (list_all (is_usable_in known.state) positions) few (usable-positions known.state kind domain (none-domain known item.domain (none-left (errors_of known sets) (errors_of known (places ++ elements)) both)));
        whole = none-items known positions item.items (none-left (errors_of known places) (errors_of known elements) last);
        given = none-expansion known positions item.items (none-right (errors_of known places) (errors_of known elements) last);
      }

-- ---- items that are whole

-- what holds of an element and of each of others
all-more : {X : Type 0} (P : X → Type 0) (x : X) (xs : List X) → P x → All P xs → (k : ℕ) (d : X) → k < length (x ∷ xs) → P (slice_index_or (x ∷ xs) k d)
all-more P x xs here rest zero d l = here
all-more P x xs here rest (suc k) d l = rest k d (omega arith)

module _ {X : Type 0} (test : X → Bool) where
  -- one element, and others
  whole-step : (x : X) (xs : List X) → take_while test (x ∷ xs) ≡ cond (test x) (x ∷ take_while test xs) []
  whole-step x xs = by (test x)
    where
      one-more : (n : ℕ) → 1 + n ≡ suc n
      one-more n = omega arith

      by : (b : Bool) → take (cond b (1 + prefix_len test xs) 0) (x ∷ xs) ≡ cond b (x ∷ take_while test xs) []
      by true = ap (λ n. take n (x ∷ xs)) (one-more (prefix_len test xs))
      by false = refl

  -- all of them, where each passes
  pub whole-all : (xs : List X) → list_all test xs ≡ true → take_while test xs ≡ xs
  whole-all [] e = refl
  whole-all (x ∷ xs) e = whole-step x xs ∙ by (test x) (whole-all xs) e
    where
      by : (b : Bool) → (list_all test xs ≡ true → take_while test xs ≡ xs) → (b && list_all test xs) ≡ true → cond b (x ∷ take_while test xs) [] ≡ x ∷ xs
      by true rest e = ap (λ (ys : List X). x ∷ ys) (rest e)
      by false rest e = absurd cc

  -- the first of them, by their number
  pub whole-taken : (xs : List X) → take (length (take_while test xs)) xs ≡ take_while test xs
  whole-taken xs = ap (λ n. take n xs) (length-prefix_len test xs)

  pub whole-length : (xs : List X) → length (take_while test xs) ≤ length xs
  whole-length xs = omega (arith, length-take (prefix_len test xs) xs)

  -- one element that passes, and others
  pub whole-more : (x : X) (xs : List X) → test x ≡ true → length (take_while test (x ∷ xs)) ≡ suc (length (take_while test xs))
  whole-more x xs e =
      ap length (whole-step x xs) ∙ ap (λ (b : Bool). length (cond b (x ∷ take_while test xs) [])) e

  -- one that does not
  pub whole-none : (x : X) (xs : List X) → test x ≡ false → length (take_while test (x ∷ xs)) ≡ 0
  whole-none x xs e =
      ap length (whole-step x xs) ∙ ap (λ (b : Bool). length (cond b (x ∷ take_while test xs) [])) e

  -- each of the first passes
  pub whole-passes : (P : X → Type 0) → ((x : X) → test x ≡ true → P x) → (xs : List X) → All P (take_while test xs)
  whole-passes P told [] = λ k d l. absurd (omega (arith, l))
  whole-passes P told (x ∷ xs) = rw (whole-step x xs) (by (test x) refl (whole-passes P told xs))
    where
      by : (b : Bool) → test x ≡ b → All P (take_while test xs) → All P (cond b (x ∷ take_while test xs) [])
      by true is rest = all-more P x (take_while test xs) (told x is) rest
      by false is rest = λ k d l. absurd (omega (arith, l))

-- as many parts as there are positions
pub counted : (expected count : ℕ) → not (is_wrong_count expected count) ≡ true → count ≡ expected
counted expected count e = grind (arith, nat_tests)
