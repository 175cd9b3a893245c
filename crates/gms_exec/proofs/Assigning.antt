-- What the right side of an assignment gives, and the state after it.
use Rattle.std.proofs.Common.{◌≡◌, ℕ, ◌==◌, Bool, true, false, List, [], ◌∷◌, ◌++◌, map, cond, Option, Some, None, Ok, Err, Result, refl, sym, ap, ◌∙◌}
use Rattle.std.specs.Result.{IsErrAnd}
use Rattle.std.proofs.lemmas.Result.{err_from_is_err_and}
use Rattle.std.specs.List.{list_any}
use Rattle.gms_labels.specs.declared.place.Place.{Place}
use Rattle.gq_number.specs.Number.{Number}
use Rattle.gq_extended.specs.Extended.{Extended}
use Rattle.gms_ast.specs.declared.expression.Suffix.{Suffix}
use Rattle.gms_ast.specs.declared.expression.Index.{Index}
use Rattle.gms_ast.specs.declared.program.Target.{Target as TargetNode}
use Rattle.gms_ast.specs.Trees.{Tree}
use Rattle.gms_ast.specs.TreeView.{index_tree, indices_of}
use Rattle.gms_store.specs.declared.kind.SymbolKind.{SymbolKind}
use Rattle.gms_store.specs.declared.kind.SymbolKind.TheVariants as kind
use Rattle.gms_store.specs.Declarations.{kind_in, is_set}
use Rattle.gms_store.specs.State.{State, Content, undeclared, alias_of, set_of, parameter_of, variable_of, equation_of, model_with, symbol_of}
use Rattle.gms_eval.specs.declared.stop.ExecStopOrMemory.{ExecStopOrMemory}
use Rattle.gms_eval.specs.declared.stop.ExecStopOrMemory.TheVariants.{Memory, Fault as Stop}
use Rattle.gms_eval.specs.declared.stop.StopKind.TheVariants.{Undefined}
use Rattle.gms_eval.specs.Nodes.{in_order}
use Rattle.gms_eval.specs.Bindings.{Pairs, controlled}
use Rattle.gms_eval.specs.Faults.{Answer, nothing, faulted, ◌and_then◌}
use Rattle.gms_eval.specs.Gives.{ShowsStop}
use Rattle.gms_eval.specs.References.{tuple_of}
use Rattle.gms_eval.specs.Value.{value, domain, control_over, label_answer}
use Rattle.gms_eval.proofs.Answering.{and_then_assoc, then-value}
use Rattle.gms_eval.proofs.TreeValues.{labels-indices_of}
use Rattle.gms_exec.specs.Given.{Given, member, value_is, AllGiven}
use Rattle.gms_exec.specs.Membership.{membership}
use Rattle.gms_exec.specs.Assignment.{newly_controlled, takes_value, where_taken, target_of, given_under, element_under, given_elements, given_by}
use Rattle.gms_exec.specs.InnerContracts.{after_others, found_at, Assigns}

-- ---- kinds

-- a name that is declared as a set stands for one
pub kind-set : (content : Content) (k : SymbolKind) → k ≡ kind_in content → k ≡ kind.Set → true ≡ is_set content
kind-set undeclared k e s = absurd cc
kind-set (alias_of base) k e s = refl
kind-set (set_of members) k e s = refl
kind-set (parameter_of entries) k e s = absurd cc
kind-set (variable_of type entries) k e s = absurd cc
kind-set (equation_of entries) k e s = absurd cc
kind-set (model_with model solver) k e s = absurd cc

pub kind-other : (content : Content) (k : SymbolKind) → k ≡ kind_in content → (k ≡ kind.Set → ⊥) → false ≡ is_set content
kind-other undeclared k e other = refl
kind-other (alias_of base) k e other = absurd (other e)
kind-other (set_of members) k e other = absurd (other e)
kind-other (parameter_of entries) k e other = refl
kind-other (variable_of type entries) k e other = refl
kind-other (equation_of entries) k e other = refl
kind-other (model_with model solver) k e other = refl

-- ---- sets

pub following-there : (done slice : List ℕ) (n : ℕ) (there : Bool) → slice ≡ done → there ≡ list_any (λ one. one == n) slice → there ≡ true → done ≡ after_others done n
following-there done slice n there same is so =
    sym (ap (λ b. cond b done (done ++ n ∷ [])) (ap (list_any (λ one. one == n)) (sym same) ∙ sym is ∙ so))

pub following-new : (done slice next : List ℕ) (n : ℕ) (there : Bool) → slice ≡ done → there ≡ list_any (λ one. one == n) slice → there ≡ false → next ≡ done ++ n ∷ [] → next ≡ after_others done n
following-new done slice next n there same is so put =
    put ∙ sym (ap (λ b. cond b done (done ++ n ∷ [])) (ap (list_any (λ one. one == n)) (sym same) ∙ sym is ∙ so))

-- ---- what the right side gives

pub taken-so : (s : Suffix) (at : Place) (b : Pairs) (x : Extended) (t : Bool) → t ≡ takes_value s x → t ≡ true → where_taken s at b x ≡ Ok (value_is x)
taken-so s at b x t is so = ap (λ t. cond t (Ok (value_is x)) (Err (faulted Undefined at b x nothing))) (sym is ∙ so)

pub taken-not : (s : Suffix) (at : Place) (b : Pairs) (x right : Extended) (t : Bool) → t ≡ takes_value s x → t ≡ false → right ≡ nothing → where_taken s at b x ≡ Err (faulted Undefined at b x right)
taken-not s at b x right t is so none =
    ap (λ t. cond t (Ok (value_is x)) (Err (faulted Undefined at b x nothing))) (sym is ∙ so) ∙ ap (λ z. Err (faulted Undefined at b x z)) (sym none)

-- two steps that continue alike
and_then-as : {A B : Type 0} (a : Answer A) (f g : A → Answer B) → ((x : A) → f x ≡ g x) → (a and_then f) ≡ (a and_then g)
and_then-as (Ok x) f g same = same x
and_then-as (Err fault) f g same = refl

module _ {F : Type 0} (v : F → Number) (limit : ℕ) (state : State) (target : TargetNode F) (right_at : Place) (right : Tree F) (b : Pairs) where
  -- what the right side gives of a set, and of another name
  pub given-of-set : (s : Bool) → s ≡ is_set (symbol_of state target.name).content → s ≡ true → given_under v limit state (target_of target) right_at right b ≡ (membership v limit state b right and_then λ x. Ok (member x))
  given-of-set s is so =
      ap (λ s. cond s (membership v limit state b right and_then λ x. Ok (member x)) (value v limit state b right and_then where_taken target.suffix right_at b)) (sym is ∙ so)

  pub given-of-value : (s : Bool) → s ≡ is_set (symbol_of state target.name).content → s ≡ false → given_under v limit state (target_of target) right_at right b ≡ (value v limit state b right and_then where_taken target.suffix right_at b)
  given-of-value s is so =
      ap (λ s. cond s (membership v limit state b right and_then λ x. Ok (member x)) (value v limit state b right and_then where_taken target.suffix right_at b)) (sym is ∙ so)

  -- the element under a binding, by its tuple
  pub element-by : (slice : List (Index F)) → slice ≡ target.indices → element_under v limit state (target_of target) right_at right b ≡ ((in_order (map (label_answer v limit state b) slice) and_then λ those. Ok (tuple_of those)) and_then found_at (given_under v limit state (target_of target) right_at right b))
  element-by slice is =
      ap (λ answers. in_order answers and_then λ those. elim (tuple_of those) [ None ↦ Ok None | Some t ↦ given_under v limit state (target_of target) right_at right b and_then λ given. Ok (Some (t, given)) ]) (labels-indices_of v limit state b target.indices ∙ ap (map (label_answer v limit state b)) (sym is))
      ∙ and_then-as (in_order (map (label_answer v limit state b) slice)) _ (λ those. found_at (given_under v limit state (target_of target) right_at right b) (tuple_of those)) (λ those. by (tuple_of those))
      ∙ sym (and_then_assoc (in_order (map (label_answer v limit state b) slice)) (λ those. Ok (tuple_of those)) (found_at (given_under v limit state (target_of target) right_at right b)))
    where
      by : (o : Option (List ℕ)) → elim o as (λ _. Answer (Option (List ℕ × Given))) [ None ↦ Ok None | Some t ↦ given_under v limit state (target_of target) right_at right b and_then λ given. Ok (Some (t, given)) ] ≡ found_at (given_under v limit state (target_of target) right_at right b) o
      by None = refl
      by (Some t) = refl

  -- ---- the elements

  -- those of elements with what they are given
  abbrev pub each_of : List ℕ → List (List ℕ) → Answer AllGiven
  each_of sets elements = in_order (map (λ element. element_under v limit state (target_of target) right_at right (controlled b sets element)) elements) and_then λ given. Ok (given_elements v limit state given)

  pub given-by-sets : (at : Place) (condition : Option (Tree F)) (slice : List (Index F)) (items sets : List ℕ) → slice ≡ target.indices → items ≡ newly_controlled b (indices_of (map index_tree slice)) → sets ≡ items → given_by v limit state at b (target_of target) condition right_at right ≡ (domain v limit state b at (control_over sets condition) and_then each_of sets)
  given-by-sets at condition slice items sets same is as_items =
      ap (λ sets. domain v limit state b at (control_over sets condition) and_then each_of sets) (ap (λ xs. newly_controlled b (indices_of (map index_tree xs))) (sym same) ∙ sym is ∙ sym as_items)

  -- the same where the elements of the domain are found
  pub given-by-found : (at : Place) (condition : Option (Tree F)) (slice : List (Index F)) (items sets those : List ℕ) (found : List (List ℕ)) → slice ≡ target.indices → items ≡ newly_controlled b (indices_of (map index_tree slice)) → sets ≡ items → those ≡ items → domain v limit state b at (control_over sets condition) ≡ Ok found → given_by v limit state at b (target_of target) condition right_at right ≡ each_of those found
  given-by-found at condition slice items sets those found same is as_items those_items e =
      given-by-sets at condition slice items sets same is as_items ∙ then-value (domain v limit state b at (control_over sets condition)) found (each_of sets) e ∙ ap (λ sets. each_of sets found) (as_items ∙ sym those_items)

-- ---- the state

-- a stop that is returned as it is leaves the state unchanged
pub assigns-handed : {F A : Type 0} (v : F → Number) (r : Result A (ExecStopOrMemory F)) (stop : ExecStopOrMemory F) (state : State) (a : Answer State) → IsErrAnd r (λ e. e ≡ stop) → ShowsStop v stop a → Assigns v r state state a
assigns-handed {F = F} {A = A} v r stop state a h s = let p = err_from_is_err_and r h in rw (p.1, p.2) (by stop s)
  where
    by : (stop : ExecStopOrMemory F) → ShowsStop v stop a → Assigns v {A = A} (Err stop) state state a
    by Memory s = tt
    by (Stop one) s = (s, refl)
