use Rattle.std.proofs.Common.{◌≡◌, ◌-◌, ◌+◌, ◌<◌, ◌++◌, ◌∙◌, sym, ap, subst, length, remove, arith}
use Rattle.gms_tuple.specs.declared.tree.Fork.{Fork}
use Rattle.gms_tuple.specs.InnerTrees.{listed}
use Rattle.gms_tuple.proofs.Steps.{none_below, fewer-part, two_fit, part_bound}
use Rattle.gms_tuple.proofs.Forks.{length-block, remove-left, remove-own, remove-right, length-removed}
use Rattle.gms_tuple.proofs.tree.Tree.+remove.Goals as goal
use Rattle.gms_tuple.proofs.tree.Tree.+remove.Goals.{then-place-before, else-place-before+then-place-upto, else-place-before+else-place-upto}

pub made-requires : goal.made-requires
made-requires t c =
    let is : listed c.in-Fork.fork.value ≡ c.args.self.now = c.in-Fork.ensures.tuples ∙ c.take.ensures.all in
    let rest : listed c.if-place-before.fork.value ≡ remove (listed c.in-Fork.fork.value) c.args.place =
    let f = c.in-Fork.fork.value in
    let place = c.args.place in
    let before : c.len-before.result ≡ length f.left = c.len-before.ensures ∙ ap (λ (g : Fork). length g.left) c.deref.ensures in
    let own : c.len.result ≡ length f.own.items = omega (arith, c.len.ensures, ap (λ (g : Fork). length g.own.items) c.deref-2.ensures, c.deref-2.result.now.own.ok) in
    let upto : c.len-before.result + c.len.result ≡ length f.left + length f.own.items = omega (arith, before, own) in
    elim c.if-place-before.branch [
      | then-place-before w ↦
          ap (λ g. listed g.value) w.fork-is ∙ ap (λ left. left ++ (w.deref_mut.result.now.own.items ++ w.deref_mut.result.now.right)) w.remove.ensures
          ∙ ap (λ (g : Fork). remove g.left place ++ (g.own.items ++ g.right)) w.deref_mut.ensures.value
          ∙ sym (remove-left f.left f.own.items f.right place (let lt = w.if-place-before.true in omega (arith, lt, before)))
      | else-place-before+then-place-upto w ↦
          ap (λ g. listed g.value) w.fork-is ∙ ap (λ own. w.deref_mut-then-place-upto.result.now.left ++ (own ++ w.deref_mut-then-place-upto.result.now.right)) w.remove-taken.ensures.items
          ∙ ap (λ (g : Fork). g.left ++ (remove g.own.items (place - c.len-before.result) ++ g.right)) w.deref_mut-then-place-upto.ensures.value
          ∙ ap (λ n. f.left ++ (remove f.own.items (place - n) ++ f.right)) before
          ∙ sym (remove-own f.left f.own.items f.right place (let le = w.if-place-before.false in omega (arith, le, before)) (let lt = w.if-place-upto.true in omega (arith, lt, upto)))
      | else-place-before+else-place-upto w ↦
          ap (λ g. listed g.value) w.fork-is ∙ ap (λ right. w.deref_mut-else-place-upto.result.now.left ++ (w.deref_mut-else-place-upto.result.now.own.items ++ right)) w.remove-else-place-upto.ensures
          ∙ ap (λ (g : Fork). g.left ++ (g.own.items ++ remove g.right (place - (c.len-before.result + c.len.result)))) w.deref_mut-else-place-upto.ensures.value
          ∙ ap (λ n. f.left ++ (f.own.items ++ remove f.right (place - n))) upto
          ∙ sym (remove-right f.left f.own.items f.right place (let le = w.if-place-upto.false in omega (arith, le, upto)))
    ]
    in
    let fewer = length-removed c.args.self.now c.args.place c.requires.place in
    omega (arith, ap length rest, ap (λ xs. length (remove xs c.args.place)) is, fewer, c.requires.within_bound)

pub returns : goal.returns
returns t c =
    let is : listed c.in-Fork.fork.value ≡ c.args.self.now = c.in-Fork.ensures.tuples ∙ c.take.ensures.all in
    let rest : listed c.if-place-before.fork.value ≡ remove (listed c.in-Fork.fork.value) c.args.place =
    let f = c.in-Fork.fork.value in
    let place = c.args.place in
    let before : c.len-before.result ≡ length f.left = c.len-before.ensures ∙ ap (λ (g : Fork). length g.left) c.deref.ensures in
    let own : c.len.result ≡ length f.own.items = omega (arith, c.len.ensures, ap (λ (g : Fork). length g.own.items) c.deref-2.ensures, c.deref-2.result.now.own.ok) in
    let upto : c.len-before.result + c.len.result ≡ length f.left + length f.own.items = omega (arith, before, own) in
    elim c.if-place-before.branch [
      | then-place-before w ↦
          ap (λ g. listed g.value) w.fork-is ∙ ap (λ left. left ++ (w.deref_mut.result.now.own.items ++ w.deref_mut.result.now.right)) w.remove.ensures
          ∙ ap (λ (g : Fork). remove g.left place ++ (g.own.items ++ g.right)) w.deref_mut.ensures.value
          ∙ sym (remove-left f.left f.own.items f.right place (let lt = w.if-place-before.true in omega (arith, lt, before)))
      | else-place-before+then-place-upto w ↦
          ap (λ g. listed g.value) w.fork-is ∙ ap (λ own. w.deref_mut-then-place-upto.result.now.left ++ (own ++ w.deref_mut-then-place-upto.result.now.right)) w.remove-taken.ensures.items
          ∙ ap (λ (g : Fork). g.left ++ (remove g.own.items (place - c.len-before.result) ++ g.right)) w.deref_mut-then-place-upto.ensures.value
          ∙ ap (λ n. f.left ++ (remove f.own.items (place - n) ++ f.right)) before
          ∙ sym (remove-own f.left f.own.items f.right place (let le = w.if-place-before.false in omega (arith, le, before)) (let lt = w.if-place-upto.true in omega (arith, lt, upto)))
      | else-place-before+else-place-upto w ↦
          ap (λ g. listed g.value) w.fork-is ∙ ap (λ right. w.deref_mut-else-place-upto.result.now.left ++ (w.deref_mut-else-place-upto.result.now.own.items ++ right)) w.remove-else-place-upto.ensures
          ∙ ap (λ (g : Fork). g.left ++ (g.own.items ++ remove g.right (place - (c.len-before.result + c.len.result)))) w.deref_mut-else-place-upto.ensures.value
          ∙ ap (λ n. f.left ++ (f.own.items ++ remove f.right (place - n))) upto
          ∙ sym (remove-right f.left f.own.items f.right place (let le = w.if-place-upto.false in omega (arith, le, upto)))
    ]
    in
    c.made.ensures ∙ rest ∙ ap (λ xs. remove xs c.args.place) is

pub unreachable-requires : goal.unreachable-requires
unreachable-requires t c = none_below c.args.place (length c.args.self.now) c.requires.place (ap length (c.in_default.ensures.tuples ∙ c.take.ensures.all))

pub overflow_add-upto : goal.overflow_add-upto
overflow_add-upto t c =
    let f = c.in-Fork.fork.value in
    let is : listed f ≡ c.args.self.now = c.in-Fork.ensures.tuples ∙ c.take.ensures.all in
    let left = c.len-before.ensures ∙ ap (λ (g : Fork). length g.left) c.deref.ensures in
    let own = c.len.ensures ∙ c.deref-2.result.now.own.ok.0 ∙ ap (λ (g : Fork). length g.own.items) c.deref-2.ensures in
    two_fit (length c.args.self.now) (length f.left) (length f.own.items) (length f.right) (ap length (sym is) ∙ length-block f.left f.own.items f.right) c.len-before.result c.len.result c.requires.within_bound left own

pub remove-requires : goal.remove-requires
remove-requires t c =
    let f = c.in-Fork.fork.value in
    let is : listed f ≡ c.args.self.now = c.in-Fork.ensures.tuples ∙ c.take.ensures.all in
    let whole = ap length (sym is) ∙ length-block f.left f.own.items f.right in
    let left = ap (λ (g : Fork). length g.left) c.deref_mut.ensures.value in (
      fewer-part t (length c.args.self.now) (length c.deref_mut.result.now.left) (length f.left) (length f.own.items) (length f.right) c.decreases whole c.in-Fork.ensures.counted.1 left,
      (subst (λ n. c.args.place < n) (c.len-before.ensures ∙ ap (λ (g : Fork). length g.left) c.deref.ensures ∙ sym left) c.if-place-before.true, part_bound (length c.args.self.now) (length f.left) (length f.own.items) (length f.right) whole (length c.deref_mut.result.now.left) c.requires.within_bound left),
    )
