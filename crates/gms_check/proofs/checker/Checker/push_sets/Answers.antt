use Rattle.std.proofs.Common.{◌≡◌, ◌∙◌, ◌+◌, ap, sym, List, ℕ, get_or, drop, [], ◌∷◌, ◌++◌, ◌||◌}
use Rattle.std.proofs.Math.Bool.{or_assoc}
use Rattle.std.proofs.lemmas.List.{at_drop_more}
use Rattle.gms_check.specs.InnerChecking.{seen}
use Rattle.gms_check.specs.Controls.{is_controlled_twice}
use Rattle.gms_check.specs.Past.{is_among}
use Rattle.gms_check.proofs.Noting.{controlled-more, or-right, or-true}
use Rattle.gms_check.proofs.checker.Checker.push_sets.Goals as goal
use Rattle.gms_check.proofs.checker.Checker.push_sets.Goals.{then-twice, else-twice}

pub loop-set-preserved : goal.loop-set-preserved
loop-set-preserved g c =
    let sets = c.args.sets.now in
    let i = c.loop-set.set-index in
    let controlled = c.loop-set.self.controlled in
    let among = is_among controlled (get_or sets i 0) in
    let twice : c.if-twice.twice ≡ (c.loop-set.twice || among) = elim c.if-twice.branch [
      | then-twice w ↦ or-true _ _ _ w.twice-is w.if-twice.true
      | else-twice w ↦ or-right _ _ _ (w.twice-is ∙ w.has-twice.ensures) w.if-twice.false
    ] in
    record {
      controlled = controlled-more sets i 0 (seen c.args.self.now) (seen c.loop-set.self) _ c.loop-set-test.true c.loop-set.invariant.controlled (ap (λ (names : List ℕ). record (seen c.loop-set.self) { controlled = names }) c.in_ok-push.ensures);
      twice = ap (λ b. b || is_controlled_twice c.push.new.self (drop (i + 1) sets)) twice ∙ ap (λ (names : List ℕ). (c.loop-set.twice || among) || is_controlled_twice names (drop (i + 1) sets)) c.in_ok-push.ensures ∙ or_assoc c.loop-set.twice among (is_controlled_twice (controlled ++ get_or sets i 0 ∷ []) (drop (i + 1) sets)) ∙ ap (λ b. c.loop-set.twice || b) (sym (at_drop_more (is_controlled_twice controlled) sets i 0 c.loop-set-test.true)) ∙ c.loop-set.invariant.twice;
    }
