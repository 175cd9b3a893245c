-- Each side has fewer tuples than the tree.
use Rattle.std.proofs.Common.{◌≡◌, ◌<◌, ◌++◌, ◌∙◌, [], List, sym, ap, subst, length}
use Rattle.gms_tuple.specs.declared.tree.Fork.{Fork}
use Rattle.gms_tuple.specs.InnerTrees.{listed, tuples, IsFork, IsCounted}
use Rattle.gms_tuple.proofs.Forks.{length-block}
use Rattle.gms_tuple.proofs.Steps.{no_value, fewer-part, fewer-part_right}
use Rattle.gms_tuple.proofs.tree.Tree.+copy.Goals as goal

-- a list that begins empty, with the tuples of a slice after it
copied-list : {X : Type 0} (own list slice items : List X) → own ≡ [] → list ≡ own ++ slice → slice ≡ items → list ≡ items
copied-list own list slice items none is same = is ∙ ap (λ xs. xs ++ slice) none ∙ same

module _ (g f : Fork) (left : g.left ≡ f.left) (own : g.own.items ≡ f.own.items) (right : g.right ≡ f.right) where
  listed-same : listed g ≡ listed f
  listed-same = ap (λ left. left ++ (g.own.items ++ g.right)) left ∙ ap (λ own. f.left ++ (own ++ g.right)) own ∙ ap (λ right. f.left ++ (f.own.items ++ right)) right

  fork-same : g.size ≡ f.size → IsFork f → IsFork g
  fork-same size fork = (size ∙ fork.0 ∙ ap length (sym listed-same), subst (λ xs. 0 < length xs) (sym own) fork.1)

pub returns-in_default : goal.returns-in_default
returns-in_default t c = c.new.ensures ∙ sym (ap tuples c.in_default.is) ∙ c.self.view_is

pub returns-in_err-own : goal.returns-in_err-own
returns-in_err-own t c = no_value c.from_residual.result _ c.from_residual.ensures.0

pub returns-in_err-push_copies : goal.returns-in_err-push_copies
returns-in_err-push_copies t c = no_value c.from_residual-in_err-push_copies.result _ c.from_residual-in_err-push_copies.ensures.0

pub returns-in_err-copy : goal.returns-in_err-copy
returns-in_err-copy t c = no_value c.from_residual-in_err-copy.result _ c.from_residual-in_err-copy.ensures.0

pub returns-in_err-copy-2 : goal.returns-in_err-copy-2
returns-in_err-copy-2 t c = no_value c.from_residual-in_err-copy-2.result _ c.from_residual-in_err-copy-2.ensures.0

pub returns-in_err-new : goal.returns-in_err-new
returns-in_err-new t c = no_value c.from_residual-in_err-new.result _ c.from_residual-in_err-new.ensures.0

pub copy-requires : goal.copy-requires
copy-requires t c =
    let f = c.in-Fork.fork.value in
    let is : listed f ≡ c.args.self.now = sym (ap tuples c.in-Fork.is) ∙ c.self.view_is in
    let fork : IsFork f = subst IsCounted c.in-Fork.is c.self.invariant in
    let left = ap (λ (g : Fork). length g.left) c.deref-4.ensures in
    (fewer-part t (length c.args.self.now) (length c.deref-4.result.now.left) (length f.left) (length f.own.items) (length f.right) c.decreases (ap length (sym is) ∙ length-block f.left f.own.items f.right) fork.1 left, tt)

pub copy-requires-2 : goal.copy-requires-2
copy-requires-2 t c =
    let f = c.in-Fork.fork.value in
    let is : listed f ≡ c.args.self.now = sym (ap tuples c.in-Fork.is) ∙ c.self.view_is in
    let fork : IsFork f = subst IsCounted c.in-Fork.is c.self.invariant in
    let right = ap (λ (g : Fork). length g.right) c.deref-5.ensures in
    (fewer-part_right t (length c.args.self.now) (length c.deref-5.result.now.right) (length f.left) (length f.own.items) (length f.right) c.decreases (ap length (sym is) ∙ length-block f.left f.own.items f.right) fork.1 right, tt)

pub of-requires : goal.of-requires
of-requires t c =
    let f = c.in-Fork.fork.value in
    let g = c.in_ok-new.field-0.value in
    let left : g.left ≡ f.left = ap (λ (g : Fork). g.left) c.in_ok-new.ensures.ok ∙ c.in_ok-copy.ensures ∙ ap (λ (g : Fork). g.left) c.deref-4.ensures in
    let items = copied-list c.in_ok-own.own.items c.push_copies.new.list.items c.deref-3.result.now f.own.items c.in_ok-own.ensures.items c.in_ok-push_copies.ensures (c.deref-3.ensures.value ∙ ap (λ (g : Fork). g.own.items) c.deref-2.ensures) in
    let own : g.own.items ≡ f.own.items = ap (λ (g : Fork). g.own.items) c.in_ok-new.ensures.ok ∙ items in
    let right : g.right ≡ f.right = ap (λ (g : Fork). g.right) c.in_ok-new.ensures.ok ∙ c.in_ok-copy-2.ensures ∙ ap (λ (g : Fork). g.right) c.deref-5.ensures in
    fork-same g f left own right (ap (λ (g : Fork). g.size) c.in_ok-new.ensures.ok ∙ ap (λ (g : Fork). g.size) c.deref-6.ensures) (subst IsCounted c.in-Fork.is c.self.invariant)

pub returns : goal.returns
returns t c =
    let f = c.in-Fork.fork.value in
    let g = c.in_ok-new.field-0.value in
    let left : g.left ≡ f.left = ap (λ (g : Fork). g.left) c.in_ok-new.ensures.ok ∙ c.in_ok-copy.ensures ∙ ap (λ (g : Fork). g.left) c.deref-4.ensures in
    let items = copied-list c.in_ok-own.own.items c.push_copies.new.list.items c.deref-3.result.now f.own.items c.in_ok-own.ensures.items c.in_ok-push_copies.ensures (c.deref-3.ensures.value ∙ ap (λ (g : Fork). g.own.items) c.deref-2.ensures) in
    let own : g.own.items ≡ f.own.items = ap (λ (g : Fork). g.own.items) c.in_ok-new.ensures.ok ∙ items in
    let right : g.right ≡ f.right = ap (λ (g : Fork). g.right) c.in_ok-new.ensures.ok ∙ c.in_ok-copy-2.ensures ∙ ap (λ (g : Fork). g.right) c.deref-5.ensures in
    c.of.ensures ∙ listed-same g f left own right ∙ sym (ap tuples c.in-Fork.is) ∙ c.self.view_is
