-- A place is in the tree, or after it among the tuples that follow.
use Rattle.std.proofs.Common.{◌≡◌, ℕ, ◌+◌, ◌<◌, ◌++◌, ◌∙◌, suc, List, length, remove, sym, ap, subst, arith}
use Rattle.std.specs.Vec.{vec_len}
use Rattle.std.proofs.lemmas.List.{length-append}
use Rattle.std.proofs.lemmas.List.Edits.{remove-append_left, remove-append_right}
use Rattle.gms_tuple.proofs.Forks.{length-removed}
use Rattle.gms_tuple.proofs.Steps.{place_after}
use Rattle.gms_tuple.proofs.line.Line.remove.Goals as goal

part_fits : (l m whole : ℕ) → whole ≡ l + m → whole < 18446744073709551616 → l < 18446744073709551616
part_fits l m whole is bound = omega arith

fewer_fits : (n m : ℕ) → suc n ≡ m → m < 18446744073709551616 → n < 18446744073709551616
fewer_fits n m is bound = omega arith

-- a list without one of its elements is no longer than the list may be
removed_fits : {X : Type 0} (rest before whole : List X) (n : ℕ) → before ≡ whole → rest ≡ remove whole n → n < length whole → length before < 18446744073709551616 → length rest < 18446744073709551616
removed_fits rest before whole n same is within bound =
    subst (λ k. k < 18446744073709551616) (sym (ap length is)) (fewer_fits (length (remove whole n)) (length whole) (length-removed whole n within) (subst (λ xs. length xs < 18446744073709551616) same bound))

pub remove-requires : goal.remove-requires
remove-requires c = record {
  place = subst (λ n. c.args.place < n) c.len-before.ensures c.if-place-before.true;
  within_bound = part_fits (length c.self.inside.tree) (length c.self.inside.following.items) _ (length-append c.self.inside.tree c.self.inside.following.items) c.self.invariant;
}

pub returns-then-place-before : goal.returns-then-place-before
returns-then-place-before c =
    let within : c.args.place < length c.self.inside.tree = subst (λ n. c.args.place < n) c.len-before.ensures c.if-place-before.true in
    ap (λ tree. tree ++ c.self.inside.following.items) c.remove.ensures ∙ sym (remove-append_left c.self.inside.tree c.self.inside.following.items c.args.place within) ∙ ap (λ l. remove l c.args.place) c.self.view_is

pub invariant_of-self : goal.invariant_of-self
invariant_of-self c =
    removed_fits (c.remove.new.self ++ c.self.inside.following.items) (c.self.inside.tree ++ c.self.inside.following.items) c.args.self.now c.args.place c.self.view_is (returns-then-place-before c) c.requires c.self.invariant

pub remove-taken-requires : goal.remove-taken-requires
remove-taken-requires c =
    let whole = ap length (sym c.self.view_is) ∙ length-append c.self.inside.tree c.self.inside.following.items in
    place_after c.args.place (length c.args.self.now) c.len-before.result (length c.self.inside.tree) (length c.self.inside.following.items) (vec_len c.self.inside.following) c.requires whole c.len-before.ensures c.self.inside.following.ok.0 c.if-place-before.false

pub returns-else-place-before : goal.returns-else-place-before
returns-else-place-before c =
    let taken = ap (λ b. c.self.inside.tree ++ b) c.remove-taken.ensures.items ∙ sym (remove-append_right c.self.inside.tree c.self.inside.following.items c.len-before.result c.args.place (sym c.len-before.ensures) c.if-place-before.false) in
    taken ∙ ap (λ l. remove l c.args.place) c.self.view_is

pub invariant_of-self-else-place-before : goal.invariant_of-self-else-place-before
invariant_of-self-else-place-before c =
    removed_fits (c.self.inside.tree ++ c.remove-taken.new.self.items) (c.self.inside.tree ++ c.self.inside.following.items) c.args.self.now c.args.place c.self.view_is (returns-else-place-before c) c.requires c.self.invariant
