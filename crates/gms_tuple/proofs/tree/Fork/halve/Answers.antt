-- The block is cut in two, the tuple goes into a half, and the second half goes before the right
-- side.
use Rattle.std.proofs.Common.{◌≡◌, ℕ, ◌+◌, ◌/◌, ◌<◌, ◌≤◌, ◌++◌, ◌∙◌, List, length, insert, take, drop, refl, sym, ap, subst, arith}
use Rattle.std.proofs.lemmas.List.{length-append, append_assoc, take-append-drop}
use Rattle.std.proofs.lemmas.Result.{on_ok_weaker, on_err_weaker}
use Rattle.gms_tuple.specs.declared.tree.Fork.{Fork}
use Rattle.gms_tuple.proofs.Forks.{length-block}
use Rattle.gms_tuple.proofs.Steps.{not_ok, if_err, half_within}
use Rattle.gms_tuple.proofs.tree.Fork.halve.Goals as goal

-- two parts of a list, from a cut, are the list
parts-whole : {X : Type 0} (n : ℕ) (own first rest : List X) → first ≡ take n own → rest ≡ drop n own → first ++ rest ≡ own
parts-whole n own first rest e d = ap (λ xs. xs ++ rest) e ∙ ap (λ ys. take n own ++ ys) d ∙ take-append-drop n own

parts-length : {X : Type 0} (own first rest : List X) → first ++ rest ≡ own → length first + length rest ≡ length own
parts-length own first rest e = sym (length-append first rest) ∙ ap length e

-- the second half and the right side together are no longer than the whole and one tuple
later_fits : (second rest first l own r whole : ℕ) → second ≤ rest + 1 → first + rest ≡ own → whole ≡ l + (own + r) → whole + 1 < 18446744073709551616 → second + r < 18446744073709551616
later_fits second rest first l own r whole most parts is bound = omega arith

-- the second part of a block is moved into what follows the block
moved : {X : Type 0} (left first second right later block : List X) → later ≡ second ++ right → first ++ second ≡ block → left ++ (first ++ later) ≡ left ++ (block ++ right)
moved left first second right later block e is = ap (λ xs. left ++ (first ++ xs)) e ∙ ap (λ xs. left ++ xs) (sym (append_assoc first second right) ∙ ap (λ xs. xs ++ right) is)

both : {X : Type 0} (a b c d : List X) → (a ≡ c) × (b ≡ d) → a ++ b ≡ c ++ d
both a b c d e = ap (λ xs. xs ++ b) e.0 ∙ ap (λ ys. c ++ ys) e.1

pub returns-in_err-fork : goal.returns-in_err-fork
returns-in_err-fork c = record {
  ok = not_ok c.from_residual.result _ c.from_residual.ensures.0;
  err = if_err c.from_residual.result _ refl;
}

pub split_off-requires : goal.split_off-requires
split_off-requires c = subst (λ n. c.len-half.result / 2 ≤ n) c.len-half.ensures (half_within c.len-half.result)

pub returns-in_err-rest : goal.returns-in_err-rest
returns-in_err-rest c = record {
  ok = not_ok c.from_residual-in_err-rest.result _ c.from_residual-in_err-rest.ensures.0;
  err = if_err c.from_residual-in_err-rest.result _ (ap (λ (v : _). c.args.self.now.left ++ (v.items ++ c.args.self.now.right)) c.in_err-rest.ensures.err);
}

pub insert_in-put-requires : goal.insert_in-put-requires
insert_in-put-requires c =
    let own = c.args.self.now.own.items in
    let is = parts-whole (c.len-half.result / 2) own c.split_off.new.self.items c.in_ok-rest.rest.items c.in_ok-rest.ensures.items c.in_ok-rest.ensures.tail in
    subst (λ n. c.args.at ≤ n) (sym (parts-length own c.split_off.new.self.items c.in_ok-rest.rest.items is)) c.requires.at

pub prepend-requires : goal.prepend-requires
prepend-requires c =
    let f = c.args.self.now in
    let new = c.in_ok-fork.ensures.0 in
    let is = parts-whole (c.len-half.result / 2) f.own.items c.split_off.new.self.items c.in_ok-rest.rest.items c.in_ok-rest.ensures.items c.in_ok-rest.ensures.tail in
    record {
      within_bound =
          later_fits (length c.insert_in-put.new.second.items) (length c.in_ok-rest.rest.items) (length c.split_off.new.self.items) (length f.left) (length f.own.items) (length f.right) _ c.insert_in-put.ensures.most
          (parts-length f.own.items c.split_off.new.self.items c.in_ok-rest.rest.items is) (length-block f.left f.own.items f.right) c.requires.within_bound;
      single = (
        ap (λ (g : Fork). g.left) c.deref_mut-2.ensures.value ∙ ap (λ (g : Fork). g.left) c.deref_mut.ensures.value ∙ new.0,
        ap (λ (g : Fork). g.right) c.deref_mut-2.ensures.value ∙ ap (λ (g : Fork). g.right) c.deref_mut.ensures.value ∙ new.1,
        ap (λ (g : Fork). g.size) c.deref_mut-2.ensures.value ∙ c.len.ensures ∙ c.insert_in-put.new.second.ok.0,
      );
    }

pub returns : goal.returns
returns c =
    let f = c.args.self.now in
    let first = c.insert_in-put.new.first.items in
    let second = c.insert_in-put.new.second.items in
    let is = parts-whole (c.len-half.result / 2) f.own.items c.split_off.new.self.items c.in_ok-rest.rest.items c.in_ok-rest.ensures.items c.in_ok-rest.ensures.tail in
    record {
      ok = on_ok_weaker c.insert_in-put.result (λ done. moved f.left first second f.right c.prepend.new.self (insert f.own.items c.args.at c.args.tuple) c.prepend.ensures (done ∙ ap (λ xs. insert xs c.args.at c.args.tuple) is)) c.insert_in-put.ensures.ok;
      err = on_err_weaker c.insert_in-put.result (λ kept. moved f.left first second f.right c.prepend.new.self f.own.items c.prepend.ensures (both first second c.split_off.new.self.items c.in_ok-rest.rest.items kept ∙ is)) c.insert_in-put.ensures.err;
    }
