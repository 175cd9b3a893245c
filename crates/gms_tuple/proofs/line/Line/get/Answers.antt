-- A place is in the tree, or after it among the tuples that follow.
use Rattle.std.proofs.Common.{◌∙◌, ◌-◌, ◌<◌, ◌≤◌, refl, sym, ap, subst, length, slice_get}
use Rattle.std.specs.Vec.{vec_len}
use Rattle.std.proofs.lemmas.List.{length-append}
use Rattle.std.proofs.lemmas.Option.{slice_get_read}
use Rattle.gms_tuple.proofs.Steps.{place_after, at-first, at-rest}
use Rattle.gms_tuple.proofs.line.Line.get.Goals as goal

pub get-requires : goal.get-requires
get-requires c = subst (λ n. c.args.place < n) c.len-before.ensures c.if-place-before.true

pub index-requires : goal.index-requires
index-requires c =
    let whole = ap length (sym c.self.view_is) ∙ length-append c.self.inside.tree c.self.inside.following.items in
    place_after c.args.place (length c.args.self.now) c.len-before.result (length c.self.inside.tree) (length c.self.inside.following.items) (vec_len c.self.inside.following) c.requires whole c.len-before.ensures c.self.inside.following.ok.0 c.if-place-before.false

pub returns-then-place-before : goal.returns-then-place-before
returns-then-place-before c =
    let within : c.args.place < length c.self.inside.tree = subst (λ n. c.args.place < n) c.len-before.ensures c.if-place-before.true in
    sym (ap (λ xs. slice_get xs c.args.place) c.self.view_is) ∙ at-first c.self.inside.tree c.self.inside.following.items c.args.place within ∙ c.get.ensures

pub returns-else-place-before : goal.returns-else-place-before
returns-else-place-before c =
    let xs = c.self.inside.following.items in
    let from : length c.self.inside.tree ≤ c.args.place = subst (λ n. n ≤ c.args.place) c.len-before.ensures c.if-place-before.false in
    let whole = ap length (sym c.self.view_is) ∙ length-append c.self.inside.tree xs in
    let here : c.args.place - c.len-before.result < length xs = place_after c.args.place (length c.args.self.now) c.len-before.result (length c.self.inside.tree) (length xs) (length xs) c.requires whole c.len-before.ensures refl c.if-place-before.false in
    sym (ap (λ xs. slice_get xs c.args.place) c.self.view_is) ∙ at-rest c.self.inside.tree xs c.args.place from
    ∙ ap (λ n. slice_get xs (c.args.place - n)) (sym c.len-before.ensures) ∙ slice_get_read xs _ (c.args.place - c.len-before.result) c.index.result.now refl here c.index.ensures
