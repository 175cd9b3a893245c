-- The result has the tuples of the list that is made, all of which go into its line.
use Rattle.std.proofs.Common.{◌≡◌, ℕ, ◌≤◌, ◌++◌, ◌∷◌, [], ◌∙◌, List, length, sym, ap, subst, arith}
use Rattle.std.proofs.lemmas.List.{length-append}
use Rattle.gms_tuple.specs.TupleOrder.{IsOrdered}
use Rattle.gms_tuple.specs.TupleSet.{has}
use Rattle.gms_tuple.specs.InnerOperations.{takes}
use Rattle.gms_tuple.specs.declared.merge.Operation.{Operation}
use Rattle.gms_tuple.proofs.Steps.{no_value}
use Rattle.gms_tuple.proofs.set.TupleSet.combined.Goals as goal

within-same : (n m : ℕ) → n ≡ m → n ≤ m
within-same n m e = omega arith

-- where as many are taken from the end as there are, all are taken
all-taken : (made rest set : List (List ℕ)) (n : ℕ) → made ≡ rest ++ set → length set ≡ n → n ≡ length made → made ≡ set
all-taken made [] set n is size whole = is
all-taken made (x ∷ rest) set n is size whole = absurd (omega (arith, ap length is, length-append rest set, size, whole))

-- the members, with equal lists in place of each list
members-same : (op : Operation) (made set first own second other : List (List ℕ)) → made ≡ set → first ≡ own → second ≡ other → ((t : List ℕ) → has made t ≡ takes op (has first t) (has second t)) → (t : List ℕ) → has set t ≡ takes op (has own t) (has other t)
members-same op made set first own second other e p q members t =
    sym (ap (λ xs. has xs t) e) ∙ members t ∙ ap (λ xs. takes op (has xs t) (has second t)) p ∙ ap (λ ys. takes op (has own t) (has ys t)) q

pub returns-in_err-first : goal.returns-in_err-first
returns-in_err-first c = record {
  members = no_value c.from_residual.result _ c.from_residual.ensures.0;
  ordered = no_value c.from_residual.result IsOrdered c.from_residual.ensures.0;
  first = c.in_err-first.ensures.ordered;
}

pub returns-in_err-second : goal.returns-in_err-second
returns-in_err-second c = record {
  members = no_value c.from_residual-in_err-second.result _ c.from_residual-in_err-second.ensures.0;
  ordered = no_value c.from_residual-in_err-second.result IsOrdered c.from_residual-in_err-second.ensures.0;
  first = c.in_ok-first.ensures.ordered;
}

pub combined-requires : goal.combined-requires
combined-requires c = record {
  first = subst IsOrdered (sym (c.deref.ensures.value ∙ c.in_ok-first.ensures.value)) c.in_ok-first.ensures.ordered;
  second = subst IsOrdered (sym (c.deref-2.ensures.value ∙ c.in_ok-second.ensures.value)) c.in_ok-second.ensures.ordered;
}

pub returns-in_err-made : goal.returns-in_err-made
returns-in_err-made c = record {
  members = no_value c.from_residual-in_err-made.result _ c.from_residual-in_err-made.ensures.0;
  ordered = no_value c.from_residual-in_err-made.result IsOrdered c.from_residual-in_err-made.ensures.0;
  first = c.in_ok-first.ensures.ordered;
}

pub build-requires : goal.build-requires
build-requires c = within-same c.len-size.result (length c.in_ok-made.made.items) (c.len-size.ensures ∙ c.in_ok-made.made.ok.0)

pub returns-in_err-build : goal.returns-in_err-build
returns-in_err-build c = record {
  members = no_value c.from_residual-in_err-build.result _ c.from_residual-in_err-build.ensures.0;
  ordered = no_value c.from_residual-in_err-build.result IsOrdered c.from_residual-in_err-build.ensures.0;
  first = c.in_ok-first.ensures.ordered;
}

pub invariant_of-result : goal.invariant_of-result
invariant_of-result c =
    let whole : c.in_ok-made.made.items ≡ c.in_ok-build.field-0 = all-taken c.in_ok-made.made.items c.build.new.tuples.items c.in_ok-build.field-0 c.len-size.result c.in_ok-build.ensures.0 c.in_ok-build.ensures.1 (c.len-size.ensures ∙ c.in_ok-made.made.ok.0) in
    subst IsOrdered whole c.in_ok-made.ensures.ordered

pub returns : goal.returns
returns c =
    let whole : c.in_ok-made.made.items ≡ c.in_ok-build.field-0 = all-taken c.in_ok-made.made.items c.build.new.tuples.items c.in_ok-build.field-0 c.len-size.result c.in_ok-build.ensures.0 c.in_ok-build.ensures.1 (c.len-size.ensures ∙ c.in_ok-made.made.ok.0) in
    record {
      members =
          members-same c.args.operation c.in_ok-made.made.items c.in_ok-build.field-0 c.deref.result.now c.args.self.now c.deref-2.result.now c.args.o.now whole
          (c.deref.ensures.value ∙ c.in_ok-first.ensures.value) (c.deref-2.ensures.value ∙ c.in_ok-second.ensures.value) c.in_ok-made.ensures.members;
      ordered = subst IsOrdered whole c.in_ok-made.ensures.ordered;
      first = c.in_ok-first.ensures.ordered;
    }
