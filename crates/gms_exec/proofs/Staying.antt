-- States that differ in contents alone: names stand for the same ones, over the same domains, sets
-- of one dimension have members of one label, and members stay in order.
use Rattle.std.proofs.Common.{◌≡◌, ℕ, Bool, true, false, not, ◌||◌, ◌==◌, List, [], ◌∷◌, ◌++◌, map, filter, reverse, length, refl, sym, ap, subst, ◌∙◌, cond, Option, Some, None, unwrap_or, is_some, inl, inr}
use Rattle.std.specs.List.{All, fold}
use Rattle.std.specs.FinMap as finite
use Rattle.std.proofs.lemmas.Bool.{eqb-true, or_right}
use Rattle.std.proofs.lemmas.List.Elements.{All-nil, All-cons, All-head, All-tail}
use Rattle.gms_ast.specs.declared.expression.Suffix.{Suffix}
use Rattle.gms_tuple.specs.TupleOrder.{tuple_cmp, same_tuple, IsOrdered}
use Rattle.gms_tuple.specs.TupleSet.{has}
use Rattle.gms_tuple.proofs.Ordered.{same_tuple-Decides, same_tuple_refl}
use Rattle.gms_store.specs.State.{State, Attributes, Content, undeclared, alias_of, set_of, parameter_of, variable_of, equation_of, model_with, Symbol, symbol_at, alias_target, base_of, symbol_of, members_in, with_symbol, with_content, if_fits, with_attributes, with_statuses, after_attributes, after_statuses}
use Rattle.lp_core.specs.declared.program.Lp.{Lp}
use Rattle.lp_core.specs.declared.answer.End.{End}
use Rattle.gq_number.specs.Number.{Number}
use Rattle.gms_store.proofs.Views.{keys-ordered}
use Rattle.gms_exec.specs.Given.{member, value_is, AllGiven, members_given, is_given_among, with_members, with_given, fitting, after_given}
use Rattle.gms_exec.specs.Reads.{last_at}
use Rattle.gms_exec.specs.Solved.{Point, with_point, statuses_of, points_of, after_end}
use Rattle.gms_exec.proofs.Symbols.{at-after}
use Rattle.gms_exec.proofs.Newest.{has-with_members, last-there}
use Rattle.gms_exec.proofs.Assigned.{following-given}
use Rattle.gms_exec.proofs.Levels.{following-fitted, fits-either}

-- each tuple has one label
abbrev pub AreSingles : List (List ℕ) → Type 0
AreSingles tuples = All (λ (t : List ℕ). length t ≡ 1) tuples

-- A symbol whose content has changed, where its domain, the set of an alias, and that members have
-- one label are kept.
pub record Follows (old new : Symbol) : Type 0 where
  pub domain : new.domain ≡ old.domain
  pub alike : (n : ℕ) → alias_target n new.content ≡ alias_target n old.content
  pub singles : length old.domain ≡ 1 → AreSingles (members_in old.content) → AreSingles (members_in new.content)
  pub ordered : IsOrdered (members_in old.content) → IsOrdered (members_in new.content)

-- each name of a state follows the one of another
abbrev pub Stays : State → State → Type 0
Stays old new = (n : ℕ) → Follows (symbol_at old n) (symbol_at new n)

follows-itself : (s : Symbol) → Follows s s
follows-itself s = record { domain = refl; alike = λ n. refl; singles = λ one are. are; ordered = λ up. up }

follows-both : (a b c : Symbol) → Follows a b → Follows b c → Follows a c
follows-both a b c first second =
    record {
      domain = second.domain ∙ first.domain;
      alike = λ n. second.alike n ∙ first.alike n;
      singles = λ one are. second.singles (ap length first.domain ∙ one) (first.singles one are);
      ordered = λ up. second.ordered (first.ordered up);
    }

pub stays-itself : (s : State) → Stays s s
stays-itself s n = follows-itself (symbol_at s n)

pub stays-both : (a b c : State) → Stays a b → Stays b c → Stays a c
stays-both a b c first second n = follows-both (symbol_at a n) (symbol_at b n) (symbol_at c n) (first n) (second n)

-- a state in which one name has changed
stays-changed : (state : State) (name : ℕ) (new : Symbol) → Follows (symbol_of state name) new → Stays state (with_symbol state name new)
stays-changed state name new follows n = elim (at-after state name new n) [
  | inl same ↦ subst (Follows (symbol_at state n)) (sym same) (follows-itself (symbol_at state n))
  | inr changed ↦ subst (λ s. Follows (symbol_at state n) s) (sym changed.1) (subst (λ n. Follows (symbol_at state n) new) (sym changed.0) follows)
]

-- what a name stands for follows too
pub follows-of : (old new : State) → Stays old new → (name : ℕ) → Follows (symbol_of old name) (symbol_of new name)
follows-of old new stays name =
    subst (λ n. Follows (symbol_of old name) (symbol_at new n)) (sym ((stays name).alike name)) (stays (base_of old name))

-- ---- levels, marginals, statuses

pub members-put : (content : Content) (t : List ℕ) (a : Attributes) → members_in (with_attributes content t a) ≡ members_in content
members-put undeclared t a = refl
members-put (alias_of base) t a = refl
members-put (set_of members) t a = refl
members-put (parameter_of entries) t a = refl
members-put (variable_of type entries) t a = refl
members-put (equation_of entries) t a = refl
members-put (model_with model solver) t a = refl

domain-fitted : (s : Symbol) (t : List ℕ) (new : Content) → (if_fits s t new).domain ≡ s.domain
domain-fitted s t new = by (length t == length s.domain)
  where
    by : (b : Bool) → (cond b (with_content s new) s).domain ≡ s.domain
    by true = refl
    by false = refl

stays-put : (state : State) (name : ℕ) (t : List ℕ) (a : Attributes) → Stays state (after_attributes state name t a)
stays-put state name t a =
    let s : Symbol = symbol_of state name in
    stays-changed state name (if_fits s t (with_attributes s.content t a)) (record {
      domain = domain-fitted s t (with_attributes s.content t a);
      alike = λ n. following-fitted s t a n;
      singles = λ one are. fits-either (λ c. AreSingles (members_in c)) s t (with_attributes s.content t a) are (subst AreSingles (sym (members-put s.content t a)) are);
      ordered = λ up. fits-either (λ c. IsOrdered (members_in c)) s t (with_attributes s.content t a) up (subst IsOrdered (sym (members-put s.content t a)) up);
    })

following-statuses : (content : Content) (model solver n : ℕ) → alias_target n (with_statuses content model solver) ≡ alias_target n content
following-statuses undeclared model solver n = refl
following-statuses (alias_of base) model solver n = refl
following-statuses (set_of members) model solver n = refl
following-statuses (parameter_of entries) model solver n = refl
following-statuses (variable_of type entries) model solver n = refl
following-statuses (equation_of entries) model solver n = refl
following-statuses (model_with m s) model solver n = refl

pub members-statuses : (content : Content) (model solver : ℕ) → members_in (with_statuses content model solver) ≡ members_in content
members-statuses undeclared model solver = refl
members-statuses (alias_of base) model solver = refl
members-statuses (set_of members) model solver = refl
members-statuses (parameter_of entries) model solver = refl
members-statuses (variable_of type entries) model solver = refl
members-statuses (equation_of entries) model solver = refl
members-statuses (model_with m s) model solver = refl

stays-statuses : (state : State) (name model solver : ℕ) → Stays state (after_statuses state name model solver)
stays-statuses state name model solver =
    let s : Symbol = symbol_of state name in
    stays-changed state name (with_content s (with_statuses s.content model solver)) (record {
      domain = refl;
      alike = λ n. following-statuses s.content model solver n;
      singles = λ one are. subst AreSingles (sym (members-statuses s.content model solver)) are;
      ordered = λ up. subst IsOrdered (sym (members-statuses s.content model solver)) up;
    })

stays-points : (points : List Point) (state : State) → Stays state (fold with_point state points)
stays-points [] state = stays-itself state
stays-points (point ∷ points) state =
    stays-both state (with_point state point) (fold with_point (with_point state point) points) (stays-put state point.key.symbol point.key.tuple _) (stays-points points (with_point state point))

-- the state after a solve was answered
pub stays-end : (state : State) (model : ℕ) (lp : Lp Number) (end : End Number) → Stays state (after_end state model lp end)
stays-end state model lp end =
    stays-both state (after_statuses state model (statuses_of end).0 (statuses_of end).1) (after_end state model lp end) (stays-statuses state model (statuses_of end).0 (statuses_of end).1) (stays-points (points_of lp end) (after_statuses state model (statuses_of end).0 (statuses_of end).1))

settings-points : (points : List Point) (state : State) → (fold with_point state points).settings ≡ state.settings
settings-points [] state = refl
settings-points (point ∷ points) state = settings-points points (with_point state point)

one-label : (tuples : List (List ℕ)) (t : List ℕ) → AreSingles tuples → has tuples t ≡ true → length t ≡ 1
one-label [] t are there = absurd cc
one-label (u ∷ tuples) t are there = by (one-label tuples t (All-tail (λ (t : List ℕ). length t ≡ 1) u tuples are)) (same_tuple u t) refl there
  where
    by : (has tuples t ≡ true → length t ≡ 1) → (b : Bool) → same_tuple u t ≡ b → (b || has tuples t) ≡ true → length t ≡ 1
    by rest true same there = ap length (sym ((same_tuple-Decides u t).0 same)) ∙ All-head (λ (t : List ℕ). length t ≡ 1) u tuples are
    by rest false other there = rest there

singles-from_has : (tuples : List (List ℕ)) → ((t : List ℕ) → has tuples t ≡ true → length t ≡ 1) → AreSingles tuples
singles-from_has [] one = All-nil (λ (t : List ℕ). length t ≡ 1)
singles-from_has (u ∷ tuples) one =
    All-cons (λ (t : List ℕ). length t ≡ 1) u tuples (one u (ap (λ b. b || has tuples u) (same_tuple_refl u))) (singles-from_has tuples (λ t there. one t (or_right (same_tuple u t) (has tuples t) there)))

abbrev OneLabel : List ℕ × Bool → Type 0
OneLabel given = length given.0 ≡ 1

given-label : (given : List (List ℕ × Bool)) (t : List ℕ) → All OneLabel given → is_given_among given t ≡ true → length t ≡ 1
given-label [] t are there = absurd cc
given-label (one ∷ given) t are there = by (given-label given t (All-tail OneLabel one given are)) (same_tuple one.0 t) refl there
  where
    by : (is_given_among given t ≡ true → length t ≡ 1) → (b : Bool) → same_tuple one.0 t ≡ b → (b || is_given_among given t) ≡ true → length t ≡ 1
    by rest true same there = ap length (sym ((same_tuple-Decides one.0 t).0 same)) ∙ All-head OneLabel one given are
    by rest false other there = rest there

fitted-members : (s : Symbol) (all : AllGiven) → length s.domain ≡ 1 → All OneLabel (members_given (fitting s all))
fitted-members s [] one = All-nil OneLabel
fitted-members s ((t, value_is x) ∷ all) one = by (fitted-members s all one) (length t == length s.domain)
  where
    by : All OneLabel (members_given (fitting s all)) → (b : Bool) → All OneLabel (members_given (cond b ((t, value_is x) ∷ fitting s all) (fitting s all)))
    by rest true = rest
    by rest false = rest
fitted-members s ((t, member on) ∷ all) one = by (fitted-members s all one) (length t == length s.domain) refl
  where
    by : All OneLabel (members_given (fitting s all)) → (b : Bool) → (length t == length s.domain) ≡ b → All OneLabel (members_given (cond b ((t, member on) ∷ fitting s all) (fitting s all)))
    by rest true fits = All-cons OneLabel (t, on) (members_given (fitting s all)) (eqb-true (length t) (length s.domain) fits ∙ one) rest
    by rest false fits = rest

singles-members : (given : List (List ℕ × Bool)) (members : List (List ℕ)) → All OneLabel given → AreSingles members → AreSingles (with_members given members)
singles-members given members given_one are =
    singles-from_has (with_members given members) (λ t there. by t (last_at given t) (last-there given t) (sym (has-with_members given members t) ∙ there))
  where
    by : (t : List ℕ) (o : Option Bool) → is_given_among given t ≡ is_some o → unwrap_or o (has members t) ≡ true → length t ≡ 1
    by t None among there = one-label members t are there
    by t (Some on) among there = given-label given t given_one among

singles-given : (s : Symbol) (kind : Suffix) (all : AllGiven) → length s.domain ≡ 1 → (content : Content) → AreSingles (members_in content) → AreSingles (members_in (with_given kind (fitting s all) content))
singles-given s kind all one undeclared are = are
singles-given s kind all one (alias_of base) are = are
singles-given s kind all one (set_of members) are = singles-members (members_given (fitting s all)) members (fitted-members s all one) are
singles-given s kind all one (parameter_of entries) are = are
singles-given s kind all one (variable_of type entries) are = are
singles-given s kind all one (equation_of entries) are = are
singles-given s kind all one (model_with model solver) are = are

-- members that are given are put in order
pub members-ordered : (given : List (List ℕ × Bool)) (members : List (List ℕ)) → IsOrdered (with_members given members)
members-ordered given members =
    let last = finite.from_entries {R = tuple_cmp} (reverse given) in
    keys-ordered (finite.from_entries {R = tuple_cmp} (map (λ t. (t, true)) (finite.keys (finite.retain_keys last (λ t. unwrap_or (finite.get last t) false)) ++ filter (λ t. not (is_given_among given t)) members)))

ordered-given : (kind : Suffix) (all : AllGiven) (content : Content) → IsOrdered (members_in content) → IsOrdered (members_in (with_given kind all content))
ordered-given kind all undeclared up = up
ordered-given kind all (alias_of base) up = up
ordered-given kind all (set_of members) up = members-ordered (members_given all) members
ordered-given kind all (parameter_of entries) up = up
ordered-given kind all (variable_of type entries) up = up
ordered-given kind all (equation_of entries) up = up
ordered-given kind all (model_with model solver) up = up

-- the state after an assignment
pub stays-given : (kind : Suffix) (name : ℕ) (all : AllGiven) (state : State) → Stays state (after_given kind name all state)
stays-given kind name all state =
    let s : Symbol = symbol_of state name in
    stays-changed state name (with_content s (with_given kind (fitting s all) s.content)) (record {
      domain = refl;
      alike = λ n. following-given kind (fitting s all) s.content n;
      singles = λ one are. singles-given s kind all one s.content are;
      ordered = λ up. ordered-given kind (fitting s all) s.content up;
    })
