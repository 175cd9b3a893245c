use Rattle.std.proofs.Common.{rules, ◌≡◌, ◌-◌, ◌^◌, pos, set, sym, ap, ◌∙◌, subst}
use Rattle.std.specs.List.{filter}
use Rattle.std.proofs.lemmas.Fn.{filter_same}
use Rattle.lp_integers.specs.Words.{AreWords, spread_out}
use Rattle.lp_integers.proofs.Clearing.{is_elsewhere, cleared_words, spread_cleared}
use Rattle.lp_integers.proofs.few.Few.clear.Goals as goal

pub invariant_of-self : goal.invariant_of-self
invariant_of-self c =
    let kept : c.retain.new.self.items ≡ filter (is_elsewhere c.args.place) c.self.inside.words.items = filter_same _ (is_elsewhere c.args.place) _ (λ x b f' k. search rules) _ _ c.retain.ensures.filtered in
    subst (AreWords (2 ^ 63 - 1) 0 c.self.inside.len) (sym kept) (cleared_words c.self.inside.words.items (2 ^ 63 - 1) 0 c.self.inside.len c.args.place c.self.invariant)

pub returns : goal.returns
returns c =
    let kept : c.retain.new.self.items ≡ filter (is_elsewhere c.args.place) c.self.inside.words.items = filter_same _ (is_elsewhere c.args.place) _ (λ x b f' k. search rules) _ _ c.retain.ensures.filtered in
    ap (spread_out c.self.inside.len) kept ∙ spread_cleared c.self.inside.len c.self.inside.words.items c.args.place ∙ ap (λ list. set list c.args.place (pos 0)) c.self.view_is
