-- That a program has no compile error, computed from its view.
use Rattle.std.proofs.lemmas.Bool.{and_parts, not-true}
use Rattle.std.proofs.Common.{◌≡◌, ℕ, Bool, true, false, ◌&&◌, List, [], ◌∷◌, ◌++◌, length, map, Option, Some, None, Result, Ok, cond, if◌then◌else◌, refl, sym, ap, ap₂, ◌∙◌, subst}
use Rattle.std.specs.Prelude.{flat_map, is_none, option_to_list, take_while}
use Rattle.std.specs.List.{fold, list_all}
use Rattle.std.proofs.lemmas.Grind.{flat_map-append, fold-append}
use Rattle.std.proofs.lemmas.List.Elements.{All-from_recursion}
use Rattle.std.proofs.lemmas.List.Sums.{take_while-cons}
use Rattle.gq_number.specs.Number.{Number}
use Rattle.gq_field.specs.Fits.{fits}
use Rattle.gq_frac.specs.declared.frac.Frac.{Frac}
use Rattle.gq_frac.specs.Frac.{frac_value, frac_each_number, frac_limit}
use Rattle.gms_labels.specs.declared.place.Place.{Place}
use Rattle.gms_ast.specs.declared.declaration.Decl.{Decl}
use Rattle.gms_ast.specs.declared.declaration.DeclKind.{DeclKind}
use Rattle.gms_ast.specs.declared.declaration.Item.{Item}
use Rattle.gms_ast.specs.declared.program.Program.{Program}
use Rattle.gms_ast.specs.declared.program.Setting.{Setting}
use Rattle.gms_ast.specs.declared.program.Setting.TheVariants as setting
use Rattle.gms_ast.specs.declared.word.Word.{Word}
use Rattle.gms_ast.specs.StatementTrees.{Act, declares, aliases, assigns, defines, declares_models, solves, displays, loops, sets_options, aborts}
use Rattle.gms_ast.specs.StatementView.{declared_in}
use Rattle.gms_tuple.proofs.Ordered.{filter_none}
use Rattle.gms_parse.specs.Outcomes.{ProgramView, program_view}
use Rattle.gms_store.specs.State.{State, base_of}
use Rattle.gms_store.specs.Declarations.{blank_state, names_of, positions_of}
use Rattle.gms_set.specs.declared.fault.SetFault.{SetFault}
use Rattle.gms_set.specs.Expansion.{ExpandedData, expanded}
use Rattle.gms_scope.specs.Data.{given_to}
use Rattle.gms_scope.specs.DynamicSets.{dynamic_sets}
use Rattle.gms_check.specs.declared.error.CompileError.{CompileError}
use Rattle.gms_check.specs.declared.error.ErrorKind.{ErrorKind}
use Rattle.gms_check.specs.CompileErrors.{checked_kinds, compile_errors, declaration_errors, errors_at, errors_of, has_error, is_faultless, known_after_item, known_in}
use Rattle.gms_check.specs.DeclarationUses.{are_usable, data_uses, domain_use, expansion_uses, failure, has_all_parts, item_uses, kind_uses}
use Rattle.gms_check.specs.Domains.{is_wrong_count}
use Rattle.gms_check.specs.Errors.{first_error}
use Rattle.gms_check.specs.Past.{Known, with_data, with_item, with_name}
use Rattle.gms_check.specs.StatementUses.{option_uses}
use Rattle.gms_check.specs.Uses.{Uses, naming, placing}
use Rattle.gms_save.proofs.FromNumbers.{option_in, value_of, value_back}
use Rattle.gms_save.proofs.SeenActs.{Told, assigned_of, told_by}
use Rattle.gms_save.proofs.SeenPrograms.{Seen, seen, listed, listed-is, after_told, seen_declared, seen_error, seen_errors, known_from, known_told, told_defined, told_models, told_unordered, ToldPast, errors-are, declared-is, assigned-are}
use Rattle.gms_laws.proofs.ShortNumerals.{right}
use Rattle.gms_laws.proofs.OrderedData.{all_data, are_fine, given_all}

abbrev pub is_nil : List CompileError → Bool
is_nil [] = true
is_nil (e ∷ es) = false

nil : (es : List CompileError) → is_nil es ≡ true → es ≡ []
nil [] h = refl
nil (e ∷ es) h = absurd (cc)

none_both : (a b : List CompileError) → a ≡ [] → b ≡ [] → (a ++ b) ≡ []
none_both a b e f = ap₂ (λ (xs ys : List CompileError). xs ++ ys) e f

all_taken : {X : Type 0} (p : X → Bool) (xs : List X) → list_all p xs ≡ true → take_while p xs ≡ xs
all_taken p [] h = refl
all_taken p (x ∷ xs) h =
    take_while-cons p x xs
    ∙ ap (λ (b : Bool). cond b (x ∷ take_while p xs) []) ((and_parts (p x) (list_all p xs) h).0)
    ∙ ap (λ ys. x ∷ ys) (all_taken p xs (right (p x) (list_all p xs) h))

module _ {F : Type 0} where
  both_none : (known : Known F) (us vs : Uses F) → errors_of known us ≡ [] → errors_of known vs ≡ [] → errors_of known (us ++ vs) ≡ []
  both_none known us vs e f =
      flat_map-append (errors_at known) us vs ∙ none_both (flat_map (errors_at known) us) (flat_map (errors_at known) vs) e f

  placed_none : (known : Known F) (at : Place) (expected count : ℕ) → is_wrong_count expected count ≡ false → errors_at known (at, placing expected count) ≡ []
  placed_none known at expected count e =
      ap (λ (kinds : List ErrorKind). map (λ kind. record { kind = kind; at = at }) kinds)
      (filter_none (has_error known (placing expected count)) checked_kinds (All-from_recursion (λ kind. has_error known (placing expected count) kind ≡ false) checked_kinds (refl, (refl, (refl, (e, (refl, (refl, (refl, (refl, (refl, (refl, (refl, (refl, (refl, (refl, (refl, (refl, (refl, (refl, (refl, (refl, (refl, tt)))))))))))))))))))))))

  placing_none : (known : Known F) (domain : List (Option ℕ)) (items : List (Item F)) → list_all (has_all_parts domain) items ≡ true → errors_of known (map (λ (item : Item F). (item.at, placing (length domain) (length item.parts))) items) ≡ []
  placing_none known domain [] h = refl
  placing_none known domain (item ∷ items) h =
      none_both _ _
      (placed_none known item.at (length domain) (length item.parts) (not-true (is_wrong_count (length domain) (length item.parts)) ((and_parts (has_all_parts domain item) (list_all (has_all_parts domain) items) h).0)))
      (placing_none known domain items (right (has_all_parts domain item) (list_all (has_all_parts domain) items) h))

  only_if : (known : Known F) (b : Bool) (r : Result (ExpandedData F) SetFault) (all : ExpandedData F) → r ≡ Ok all → errors_of known (if b then failure r else []) ≡ []
  only_if known true r all e = ap (λ (x : Result (ExpandedData F) SetFault). errors_of known (failure x)) e
  only_if known false r all e = refl

  -- the positions of the data of a declaration
  abbrev domain_of : DeclKind → Decl F → List (Option ℕ)
  domain_of kind item = positions_of kind (names_of item.domain)

  -- a name that is declared has no error
  abbrev fine_item : Known F → DeclKind → Decl F → Bool
  fine_item known kind item =
      is_nil (errors_of known ((item.named.at, naming kind item.named.name (names_of item.domain)) ∷ flat_map domain_use item.domain))
      && (list_all (has_all_parts (domain_of kind item)) item.items && are_fine known.state (domain_of kind item) item.items)

  -- the state after it
  abbrev state_after_item : (F → Number) → DeclKind → State → Decl F → State
  state_after_item value kind state item = given_to value item.named.name (with_name value kind state item) (all_data item.items)

  abbrev fine_items : Known F → DeclKind → List (Decl F) → Bool
  fine_items known kind [] = true
  fine_items known kind (item ∷ items) =
      fine_item known kind item && fine_items (known_in known (state_after_item known.value kind known.state item)) kind items

  module _ (known : Known F) (kind : DeclKind) (item : Decl F) (fine : fine_item known kind item ≡ true) where
    abbrev of_name : Uses F
    of_name = (item.named.at, naming kind item.named.name (names_of item.domain)) ∷ flat_map domain_use item.domain

    tests : (list_all (has_all_parts (domain_of kind item)) item.items && are_fine known.state (domain_of kind item) item.items) ≡ true
    tests = right (is_nil (errors_of known of_name)) _ fine

    parts : list_all (has_all_parts (domain_of kind item)) item.items ≡ true
    parts = (and_parts (list_all (has_all_parts (domain_of kind item)) item.items) _ tests).0

    given : expanded known.state (domain_of kind item) item.items ≡ Ok (all_data item.items)
    given = given_all known.state (domain_of kind item) item.items (right (list_all (has_all_parts (domain_of kind item)) item.items) _ tests)

    data_none : errors_of known (data_uses known (domain_of kind item) item.items) ≡ []
    data_none =
        both_none known (map (λ (i : Item F). (i.at, placing (length (domain_of kind item)) (length i.parts))) item.items) (expansion_uses known (domain_of kind item) item.items)
        (placing_none known (domain_of kind item) item.items parts)
        (only_if known (are_usable known (domain_of kind item)) (expanded known.state (domain_of kind item) (take_while (has_all_parts (domain_of kind item)) item.items)) (all_data item.items)
        (ap (λ (items : List (Item F)). expanded known.state (domain_of kind item) items) (all_taken (has_all_parts (domain_of kind item)) item.items parts) ∙ given))

    item_none : errors_of known (item_uses known kind item) ≡ []
    item_none = both_none known of_name (data_uses known (domain_of kind item) item.items) (nil (errors_of known of_name) ((and_parts (is_nil (errors_of known of_name)) _ fine).0)) data_none

    state_is : with_item known.value kind known.state item ≡ state_after_item known.value kind known.state item
    state_is = ap (λ (r : Result (ExpandedData F) SetFault). with_data known.value (with_name known.value kind known.state item) item.named.name r) given

    after_is : known_after_item known kind item ≡ known_in known (state_after_item known.value kind known.state item)
    after_is =
        ap (λ (errors : List CompileError). known_in known (if is_faultless errors then with_item known.value kind known.state item else with_name known.value kind known.state item)) item_none
        ∙ ap (λ (state : State). known_in known state) state_is

  items_none : (known : Known F) (kind : DeclKind) (items : List (Decl F)) → fine_items known kind items ≡ true → declaration_errors known kind items ≡ []
  items_none known kind [] h = refl
  items_none known kind (item ∷ items) h =
      let next = known_in known (state_after_item known.value kind known.state item) in
      let here = (and_parts (fine_item known kind item) (fine_items next kind items) h).0 in
      let others = items_none next kind items (right (fine_item known kind item) (fine_items next kind items) h) in
      none_both (errors_of known (item_uses known kind item)) (declaration_errors (known_after_item known kind item) kind items) (item_none known kind item here)
      (ap (λ (k : Known F). declaration_errors k kind items) (after_is known kind item here) ∙ others)

  items_given : (known : Known F) (kind : DeclKind) (items : List (Decl F)) → fine_items known kind items ≡ true → fold (with_item known.value kind) known.state items ≡ fold (state_after_item known.value kind) known.state items
  items_given known kind [] h = refl
  items_given known kind (item ∷ items) h =
      let next = known_in known (state_after_item known.value kind known.state item) in
      let here = (and_parts (fine_item known kind item) (fine_items next kind items) h).0 in
      ap (λ (state : State). fold (with_item known.value kind) state items) (state_is known kind item here)
      ∙ items_given next kind items (right (fine_item known kind item) (fine_items next kind items) h)

-- ---- options: numbers determine what they are set to

value_there : (x : Number) → fits frac_limit x ≡ true → frac_value (value_of x) ≡ x
value_there x h =
    let y = frac_each_number x h in
    ap (λ (z : Number). frac_value (value_of z)) (sym y.1) ∙ ap (λ (v : Frac). frac_value v) (value_back y.0) ∙ y.1

-- what is known, over numbers in place of values
abbrev as_numbers : Known Frac → Known Number
as_numbers known =
    record { value = λ x. x; state = known.state; declared = known.declared; above = known.above; assigned = known.assigned; unordered = known.unordered; defined = known.defined; models = known.models; solvers = known.solvers }

-- an option has no error
abbrev option_fine : Known Frac → Word × Setting Number → Bool
option_fine known (word, setting.Number at x) =
    fits frac_limit x && is_nil (errors_of (as_numbers known) (option_uses (word, setting.Number at x)))
option_fine known (word, setting.Name name) =
    is_nil (errors_of (as_numbers known) (option_uses (word, setting.Name name)))

option_none : (known : Known Frac) → known.value ≡ frac_value → (option : Word × Setting Number) → option_fine known option ≡ true → errors_of known (option_uses (option_in value_of option)) ≡ []
option_none known same (word, setting.Number at x) h =
    let is : known.value (value_of x) ≡ x = ap (λ (f : Frac → Number). f (value_of x)) same ∙ value_there x ((and_parts (fits frac_limit x) _ h).0) in
    let over : errors_of known (option_uses (word, setting.Number at (value_of x))) ≡ errors_of (as_numbers known) (option_uses (word, setting.Number at (known.value (value_of x)))) = refl in
    over ∙ ap (λ (y : Number). errors_of (as_numbers known) (option_uses (word, setting.Number at y))) is ∙ nil _ (right (fits frac_limit x) _ h)
option_none known same (word, setting.Name name) h =
    let over : errors_of known (option_uses (word, setting.Name name)) ≡ errors_of (as_numbers known) (option_uses (word, setting.Name name)) = refl in
    over ∙ nil _ h

options_none : (known : Known Frac) → known.value ≡ frac_value → (options : List (Word × Setting Number)) → list_all (option_fine known) options ≡ true → errors_of known (flat_map option_uses (map (option_in value_of) options)) ≡ []
options_none known same [] h = refl
options_none known same (option ∷ options) h =
    both_none known (option_uses (option_in value_of option)) (flat_map option_uses (map (option_in value_of) options))
    (option_none known same option ((and_parts (option_fine known option) (list_all (option_fine known) options) h).0))
    (options_none known same options (right (option_fine known option) (list_all (option_fine known) options) h))

-- ---- statements

-- the names of a declaration that shows these
abbrev declared_items : List (Decl Number) → List (Decl Frac)
declared_items items = map (declared_in value_of) items

-- a statement has no error, by what it shows
abbrev fine_act : Known Frac → Place → Act Number → Bool
fine_act known at (declares kind items) = is_nil (errors_of known (kind_uses at kind)) && fine_items known kind (declared_items items)
fine_act known at (sets_options options) = list_all (option_fine known) options
fine_act known at act = is_none (seen_error known (at, act))

-- the state after it
abbrev given_by : State → Act Number → State
given_by state (declares kind items) = fold (state_after_item frac_value kind) state (declared_items items)
given_by state act = (told_by act).given state

none_of : (e : Option CompileError) → is_none e ≡ true → e ≡ None
none_of None h = refl
none_of (Some e) h = absurd (cc)

module _ (known : Known Frac) (same : known.value ≡ frac_value) (at : Place) where
  fine_none : (act : Act Number) → fine_act known at act ≡ true → seen_error known (at, act) ≡ None
  fine_none (declares kind items) h =
      ap first_error
      (none_both (errors_of known (kind_uses at kind)) (declaration_errors known kind (declared_items items)) (nil (errors_of known (kind_uses at kind)) ((and_parts (is_nil (errors_of known (kind_uses at kind))) _ h).0))
      (items_none known kind (declared_items items) (right (is_nil (errors_of known (kind_uses at kind))) _ h)))
  fine_none (aliases first second) h = none_of _ h
  fine_none (assigns target condition right_at side) h = none_of _ h
  fine_none (defines equation indices condition sides) h = none_of _ h
  fine_none (declares_models models) h = none_of _ h
  fine_none (solves model word objective maximize) h = none_of _ h
  fine_none (displays items) h = none_of _ h
  fine_none (loops control body) h = none_of _ h
  fine_none (sets_options options) h = ap first_error (options_none known same options h)
  fine_none (aborts condition items) h = none_of _ h

  given_is : (act : Act Number) → fine_act known at act ≡ true → (told_by act).given known.state ≡ given_by known.state act
  given_is (declares kind items) h =
      subst (λ (value : Frac → Number). fold (with_item value kind) known.state (declared_items items) ≡ fold (state_after_item value kind) known.state (declared_items items)) same
      (items_given known kind (declared_items items) (right (is_nil (errors_of known (kind_uses at kind))) _ h))
  given_is (aliases first second) h = refl
  given_is (assigns target condition right_at side) h = refl
  given_is (defines equation indices condition sides) h = refl
  given_is (declares_models models) h = refl
  given_is (solves model word objective maximize) h = refl
  given_is (displays items) h = refl
  given_is (loops control body) h = refl
  given_is (sets_options options) h = refl
  given_is (aborts condition items) h = refl

-- what is known in this state, from what is read of the earlier statements
abbrev known_with : ℕ → List (List ℕ) → List ℕ → State → ToldPast → Known Frac
known_with count solvers dynamic state past =
    known_from count solvers dynamic state (flat_map (λ (t : Told × Bool). t.0.names) past) (told_unordered past) (told_defined past) (told_models [] past)

-- no statement has an error
abbrev pub all_fine : ℕ → List (List ℕ) → List ℕ → State → ToldPast → List Seen → Bool
all_fine count solvers dynamic state past [] = true
all_fine count solvers dynamic state past (v ∷ vs) =
    fine_act (known_with count solvers dynamic state past) v.0 v.1 && all_fine count solvers dynamic (given_by state v.1) (past ++ (told_by v.1, true) ∷ []) vs

abbrev are_none : List (Option CompileError) → Bool
are_none errors = list_all (λ (e : Option CompileError). is_none e) errors

module _ (count : ℕ) (solvers : List (List ℕ)) (dynamic : List ℕ) where
  all_none : (state : State) (past : ToldPast) → state ≡ fold after_told (blank_state count) past → (vs : List Seen) → all_fine count solvers dynamic state past vs ≡ true → are_none (seen_errors count solvers dynamic past vs) ≡ true
  all_none state past is [] h = refl
  all_none state past is (v ∷ vs) h =
      let known = known_with count solvers dynamic state past in
      let here = (and_parts (fine_act known v.0 v.1) _ h).0 in
      let later = past ++ (told_by v.1, true) ∷ [] in
      let none : seen_error (known_told count solvers dynamic past) v ≡ None =
      ap (λ (s : State). seen_error (known_with count solvers dynamic s past) v) (sym is) ∙ fine_none known refl v.0 v.1 here in
      let next : given_by state v.1 ≡ fold after_told (blank_state count) later =
      sym (given_is known refl v.0 v.1 here) ∙ ap (λ (s : State). (told_by v.1).given s) is ∙ sym (fold-append after_told (blank_state count) past ((told_by v.1, true) ∷ [])) in
      let others = all_none (given_by state v.1) later next vs (right (fine_act known v.0 v.1) _ h) in
      subst (λ (e : Option CompileError). are_none (e ∷ seen_errors count solvers dynamic (past ++ (told_by v.1, is_none e) ∷ []) vs) ≡ true) (sym none) others

-- ---- programs

-- the sets that statements assign, an alias as its set
abbrev pub dynamic_by : ℕ → List Seen → List ℕ
dynamic_by count vs = map (base_of (seen_declared count vs)) (flat_map (λ (v : Seen). assigned_of v.1) vs)

-- the error of each statement that has one
abbrev pub errors_by : List (List ℕ) → ℕ → List Seen → List (Option CompileError)
errors_by solvers count vs = seen_errors count solvers (dynamic_by count vs) [] vs

abbrev fine_statements : List (List ℕ) → ℕ → List Seen → Bool
fine_statements solvers count vs = all_fine count solvers (dynamic_by count vs) (blank_state count) [] vs

abbrev pub has_no_error : List (List ℕ) → ProgramView → Bool
has_no_error solvers view = fine_statements solvers (length view.names) (listed view.statements)

none_all : (xs : List (Option CompileError)) → list_all (λ (e : Option CompileError). is_none e) xs ≡ true → flat_map option_to_list xs ≡ []
none_all [] h = refl
none_all (None ∷ xs) h = none_all xs (right true (list_all (λ (e : Option CompileError). is_none e) xs) h)
none_all (Some e ∷ xs) h = absurd (cc)

module _ (solvers : List (List ℕ)) (program : Program Frac) where
  dynamic-by : dynamic_sets program ≡ dynamic_by (length program.names) (map seen program.statements.items)
  dynamic-by =
      ap₂ (λ (s : State) (ns : List ℕ). map (base_of s) ns) (declared-is program) (assigned-are program.statements.items)

  errors-by : compile_errors frac_value program solvers ≡ flat_map option_to_list (errors_by solvers (length program.names) (map seen program.statements.items))
  errors-by =
      ap (λ (errors : List (Option CompileError)). flat_map option_to_list errors)
      (errors-are program solvers [] program.statements.items
      ∙ ap (λ (dynamic : List ℕ). seen_errors (length program.names) solvers dynamic [] (map seen program.statements.items)) dynamic-by)

  none_seen : has_no_error solvers (program_view frac_value program) ≡ true → compile_errors frac_value program solvers ≡ []
  none_seen h =
      let count = length program.names in
      let vs = map seen program.statements.items in
      let fine : fine_statements solvers count vs ≡ true =
      subst (λ (us : List Seen). fine_statements solvers count us ≡ true) (listed-is program.statements.items) h in
      errors-by ∙ none_all (errors_by solvers count vs) (all_none count solvers (dynamic_by count vs) (blank_state count) [] refl vs fine)

-- a program with this view has no error
pub no_errors : (solvers : List (List ℕ)) (view : ProgramView) → has_no_error solvers view ≡ true → (program : Program Frac) → program_view frac_value program ≡ view → compile_errors frac_value program solvers ≡ []
no_errors solvers view h program e = none_seen solvers program (subst (λ (v : ProgramView). has_no_error solvers v ≡ true) (sym e) h)
