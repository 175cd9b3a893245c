use Rattle.std.proofs.Common.{◌++◌, sym, ap, subst, arith}
use Rattle.std.specs.List.{count_by}
use Rattle.gms_tuple.specs.TupleOrder.{IsOrdered}
use Rattle.gms_tuple.specs.TupleSet.{is_within}
use Rattle.gms_tuple.proofs.Forks.{length-block, is_within-closed, past-some, past-none, own-ordered, ordered-left}
use Rattle.gms_tuple.proofs.tree.Fork.count_past.Goals as goal

pub returns-then-after-gt0 : goal.returns-then-after-gt0
returns-then-after-gt0 c =
    let f = c.args.self.now in
    let p = is_within c.args.through c.args.t.now in
    let some = c.if-after-gt0.true in
    let all = past-some p (is_within-closed c.args.through c.args.t.now) f.left f.own.items f.right c.requires.ordered c.requires.fork.1 c.requires.first (omega (arith, some, c.requires.after)) in
    omega (arith, all, c.requires.after, c.requires.fork.0, length-block f.left f.own.items f.right, c.len.ensures)

pub count_in-requires : goal.count_in-requires
count_in-requires c =
    let f = c.args.self.now in
    subst IsOrdered (sym c.deref.ensures.value) (ordered-left f.own.items f.right (own-ordered f.left (f.own.items ++ f.right) c.requires.ordered))

pub returns : goal.returns
returns c =
    let f = c.args.self.now in
    let p = is_within c.args.through c.args.t.now in
    let none = c.if-after-gt0.false in
    let all = past-none p (is_within-closed c.args.through c.args.t.now) f.left f.own.items f.right c.requires.ordered c.requires.fork.1 c.requires.first (omega (arith, none, c.requires.after)) in
    omega (arith, all, c.requires.fork.0, length-block f.left f.own.items f.right, c.len.ensures, c.len-2.ensures, c.count_in.ensures, ap (count_by p) c.deref.ensures.value, f.own.ok)
