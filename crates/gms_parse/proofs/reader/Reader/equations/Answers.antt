use Rattle.gms_expressions.proofs.Signs.{handed_on}
use Rattle.std.proofs.Common.{[], ◌∷◌, refl}
use Rattle.std.proofs.lemmas.Slice.{pushed}
use Rattle.gms_parse.proofs.Steps.{refuses_first, refuses_memory}
use Rattle.gms_parse.proofs.Nexts.{falls, starts_somewhere}
use Rattle.gms_parse.proofs.Listing.{listing_start, listing_on, listing_got, listing_refuses, separated_starts}
use Rattle.gms_parse.proofs.Models.{equations_got}
use Rattle.gms_parse.proofs.reader.Reader.equations.Goals as goal

pub returns-in_err-first : goal.returns-in_err-first
returns-in_err-first c limit read_state s = handed_on _ _ c.from_residual.result _ c.from_residual.ensures.1 (refuses_first (c.in_err-first.ensures limit read_state s))

pub returns-in_err-push : goal.returns-in_err-push
returns-in_err-push c limit read_state s = handed_on _ _ c.from_residual-in_err-push.result _ c.from_residual-in_err-push.ensures.1 (refuses_memory refl)

pub loop-following-init : goal.loop-following-init
loop-following-init c limit read_state s = listing_start (c.in_ok-first.ensures limit read_state s) _ (pushed (c.in_ok-first.first ∷ []) c.new-equations.ensures.items c.in_ok-push.was c.push.ensures.items)

pub returns-in_err-equation : goal.returns-in_err-equation
returns-in_err-equation c limit read_state s =
    let l = c.loop-following.invariant limit read_state s in
    handed_on _ _ c.from_residual-in_err-equation.result _ c.from_residual-in_err-equation.ensures.1
    (listing_refuses l c.in-Some.ensures.next refl (c.in_err-equation.ensures limit _ (separated_starts l c.in-Some.ensures.next refl refl s)))

pub returns-in_err-push-2 : goal.returns-in_err-push-2
returns-in_err-push-2 c limit read_state s = handed_on _ _ c.from_residual-in_err-push-2.result _ c.from_residual-in_err-push-2.ensures.1 (refuses_memory refl)

pub loop-following-smaller : goal.loop-following-smaller
loop-following-smaller c = falls c.in-Some.ensures.next _ (c.in_ok-equation.ensures 0 _ (starts_somewhere c.args.self.now c.loop-following.tables)).further

pub loop-following-preserved : goal.loop-following-preserved
loop-following-preserved c limit read_state s =
    let l = c.loop-following.invariant limit read_state s in
    listing_on l c.in-Some.ensures.next refl (c.in_ok-equation.ensures limit _ (separated_starts l c.in-Some.ensures.next refl refl s)) _ c.in_ok-push-2.ensures.items

pub returns : goal.returns
returns c limit read_state s = equations_got (listing_got (c.loop-following.invariant limit read_state s) c.in_default.ensures)
