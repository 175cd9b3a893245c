-- What the store does where an element is given something.
use Rattle.gms_rows.proofs.Placing.{map-more}
use Rattle.std.proofs.Common.{◌≡◌, ℕ, ◌+◌, ◌<◌, ◌≤◌, List, [], ◌∷◌, length, map, take, get_or, take_all, sym, ap, subst, ◌∙◌, Bool, Option, Some, OnOk, Result}
use Rattle.std.proofs.lemmas.Result.{on_ok_weaker}
use Rattle.gq_number.specs.Number.{Number}
use Rattle.gq_extended.specs.Extended.{Extended}
use Rattle.gms_ast.specs.declared.expression.Suffix.{Suffix}
use Rattle.gms_ast.specs.declared.expression.Suffix.TheVariants as suffix
use Rattle.gms_tuple.specs.TupleOrder.{IsOrdered}
use Rattle.gms_tuple.specs.TupleSet.{has}
use Rattle.gms_store.specs.State.{State, given_of, differs_in, symbol_of, attributes_of, after_attributes, after_membership, after_value, with_lower, with_upper, with_level, with_marginal}
use Rattle.gms_exec.specs.Given.{Given, member, value_is, number_of_value, bound_of_value, after_given}
use Rattle.gms_exec.proofs.GivenStates.{IsTidy, after_given-append, member-given, value-given, lower-given, upper-given, level-given, marginal-given, fixed-given, model-given, solver-given}

-- what is known of the tuples that are given
pub tidied : (state : State) (name : ℕ) (given : List (List ℕ)) → given ≡ given_of state name → ((t : List ℕ) → has given t ≡ differs_in (symbol_of state name).content t) → IsOrdered given → IsTidy (symbol_of state name).content
tidied state name given is differs ordered =
    record { differs = λ t. ap (λ g. has g t) (sym is) ∙ differs t; is_ordered = subst IsOrdered is ordered }

-- from the suffix that it is
same-suffix : (s is : Suffix) (name : ℕ) (t : List ℕ) (x : Extended) (state : State) → s ≡ is → after_given is name ((t, value_is x) ∷ []) state ≡ after_given s name ((t, value_is x) ∷ []) state
same-suffix s is name t x state e = ap (λ s. after_given s name ((t, value_is x) ∷ []) state) (sym e)

-- a status is given nothing
pub leaves-model : (s : Suffix) (name : ℕ) (t : List ℕ) (x : Extended) (state : State) → IsTidy (symbol_of state name).content → s ≡ suffix.ModelStat → state ≡ after_given s name ((t, value_is x) ∷ []) state
leaves-model s name t x state tidy e = model-given name t x state tidy ∙ same-suffix s suffix.ModelStat name t x state e

pub leaves-solver : (s : Suffix) (name : ℕ) (t : List ℕ) (x : Extended) (state : State) → IsTidy (symbol_of state name).content → s ≡ suffix.SolveStat → state ≡ after_given s name ((t, value_is x) ∷ []) state
leaves-solver s name t x state tidy e = solver-given name t x state tidy ∙ same-suffix s suffix.SolveStat name t x state e

module _ {T E : Type 0} (r : Result T E) (s : Suffix) (name : ℕ) (t : List ℕ) (x : Extended) (state new : State) (tidy : IsTidy (symbol_of state name).content) where
  pub puts-value : s ≡ suffix.None → OnOk r (new ≡ after_value state name t x) → OnOk r (new ≡ after_given s name ((t, value_is x) ∷ []) state)
  puts-value e put = on_ok_weaker r (λ (p : new ≡ after_value state name t x). p ∙ value-given name t x state tidy ∙ same-suffix s suffix.None name t x state e) put

  pub puts-lower : (b : Option Number) → s ≡ suffix.Lo → b ≡ bound_of_value x → OnOk r (new ≡ after_attributes state name t (with_lower (attributes_of state name t) b)) → OnOk r (new ≡ after_given s name ((t, value_is x) ∷ []) state)
  puts-lower b e is put = on_ok_weaker r (λ (p : new ≡ after_attributes state name t (with_lower (attributes_of state name t) b)). p ∙ ap (λ b. after_attributes state name t (with_lower (attributes_of state name t) b)) is ∙ lower-given name t x state tidy ∙ same-suffix s suffix.Lo name t x state e) put

  pub puts-upper : (b : Option Number) → s ≡ suffix.Up → b ≡ bound_of_value x → OnOk r (new ≡ after_attributes state name t (with_upper (attributes_of state name t) b)) → OnOk r (new ≡ after_given s name ((t, value_is x) ∷ []) state)
  puts-upper b e is put = on_ok_weaker r (λ (p : new ≡ after_attributes state name t (with_upper (attributes_of state name t) b)). p ∙ ap (λ b. after_attributes state name t (with_upper (attributes_of state name t) b)) is ∙ upper-given name t x state tidy ∙ same-suffix s suffix.Up name t x state e) put

  pub puts-level : (n : Number) → s ≡ suffix.L → n ≡ number_of_value x → OnOk r (new ≡ after_attributes state name t (with_level (attributes_of state name t) n)) → OnOk r (new ≡ after_given s name ((t, value_is x) ∷ []) state)
  puts-level n e is put = on_ok_weaker r (λ (p : new ≡ after_attributes state name t (with_level (attributes_of state name t) n)). p ∙ ap (λ n. after_attributes state name t (with_level (attributes_of state name t) n)) is ∙ level-given name t x state tidy ∙ same-suffix s suffix.L name t x state e) put

  pub puts-marginal : (n : Number) → s ≡ suffix.M → n ≡ number_of_value x → OnOk r (new ≡ after_attributes state name t (with_marginal (attributes_of state name t) n)) → OnOk r (new ≡ after_given s name ((t, value_is x) ∷ []) state)
  puts-marginal n e is put = on_ok_weaker r (λ (p : new ≡ after_attributes state name t (with_marginal (attributes_of state name t) n)). p ∙ ap (λ n. after_attributes state name t (with_marginal (attributes_of state name t) n)) is ∙ marginal-given name t x state tidy ∙ same-suffix s suffix.M name t x state e) put

  pub puts-fixed : s ≡ suffix.Fx → OnOk r (new ≡ after_given suffix.Fx name ((t, value_is x) ∷ []) state) → OnOk r (new ≡ after_given s name ((t, value_is x) ∷ []) state)
  puts-fixed e put = on_ok_weaker r (λ (p : new ≡ after_given suffix.Fx name ((t, value_is x) ∷ []) state). p ∙ same-suffix s suffix.Fx name t x state e) put

  -- both bounds, one after the other, and then the level
  pub puts-fixed-level : (n : Number) (lower upper : State) → n ≡ number_of_value x → lower ≡ after_attributes state name t (with_lower (attributes_of state name t) (Some n)) → upper ≡ after_attributes lower name t (with_upper (attributes_of lower name t) (Some n)) → OnOk r (new ≡ after_attributes upper name t (with_level (attributes_of upper name t) n)) → OnOk r (new ≡ after_given suffix.Fx name ((t, value_is x) ∷ []) state)
  puts-fixed-level n lower upper is one two put =
      on_ok_weaker r (λ (p : new ≡ after_attributes upper name t (with_level (attributes_of upper name t) n)). fixed-given name t x n state lower upper new tidy is one two p) put

  -- a value that is given
  pub puts-given : (given : Given) → given ≡ value_is x → OnOk r (new ≡ after_given s name ((t, value_is x) ∷ []) state) → OnOk r (new ≡ after_given s name ((t, given) ∷ []) state)
  puts-given given e put = on_ok_weaker r (λ (p : new ≡ after_given s name ((t, value_is x) ∷ []) state). p ∙ ap (λ given. after_given s name ((t, given) ∷ []) state) (sym e)) put

-- a member that is given
pub puts-member : {T E : Type 0} (r : Result T E) (s : Suffix) (name : ℕ) (t : List ℕ) (on : Bool) (state new : State) → IsTidy (symbol_of state name).content → (given : Given) → given ≡ member on → OnOk r (new ≡ after_membership state name t on) → OnOk r (new ≡ after_given s name ((t, given) ∷ []) state)
puts-member r s name t on state new tidy given e put =
    on_ok_weaker r (λ (p : new ≡ after_membership state name t on). p ∙ member-given s name t on state tidy ∙ ap (λ given. after_given s name ((t, given) ∷ []) state) (sym e)) put

module _ {X : Type 0} (f : X → List ℕ × Given) (s : Suffix) (name : ℕ) (all : List X) (old : State) where
  -- one more element is written
  pub put-more : (state new : State) (i : ℕ) (x : X) → i < length all → x ≡ get_or all i x → state ≡ after_given s name (map f (take i all)) old → new ≡ after_given s name (f x ∷ []) state → new ≡ after_given s name (map f (take (i + 1) all)) old
  put-more state new i x l at so put =
      put
      ∙ ap (after_given s name (f x ∷ [])) so
      ∙ after_given-append s name (map f (take i all)) (f x ∷ []) old
      ∙ ap (λ given. after_given s name given old) (sym (map-more f all i x l at))

  -- all are written
  pub put-end : (state : State) (i : ℕ) → length all ≤ i → state ≡ after_given s name (map f (take i all)) old → state ≡ after_given s name (map f all) old
  put-end state i l so = so ∙ ap (λ xs. after_given s name (map f xs) old) (take_all i all l)
