use Rattle.std.proofs.Common.{◌∙◌, ◌++◌, List, ℕ, length, codes, decimal, ap}
use Rattle.gms_save_text.specs.SavedState.{saved_line}
use Rattle.gms_save_text.proofs.Past.{past_as, past_both}
use Rattle.gms_save_text.proofs.comparing.Comparison.source.Goals as goal

pub returns : goal.returns
returns c =
    let head = saved_line (codes "source " ++ decimal (length c.args.source.now)) in
    let first = past_as c.deref.result.now head c.args.self.now.left c.past-following.result (c.deref.ensures.value ∙ c.in_ok-push_source_head.ensures ∙ ap (λ (l : List ℕ). l ++ head) c.clear.ensures.items) c.past-following.ensures in
    past_both head (saved_line c.args.source.now) c.args.self.now.left c.past-following.result c.past-self.result first (past_both c.args.source.now (codes "\n") c.past-following.result c.past-end.result c.past-self.result c.past-end.ensures c.past-self.ensures)
