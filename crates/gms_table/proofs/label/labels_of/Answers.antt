-- One label more was read.
use Rattle.std.proofs.Common.{ℕ, ◌-◌, List, ◌≤◌, length, take, drop, sym, ap, ◌∙◌, Some}
use Rattle.std.specs.Borrow.{Bor}
use Rattle.std.proofs.lemmas.List.{map_push}
use Rattle.std.proofs.lemmas.List.Elements.{All-push, All-same}
use Rattle.gms_table.specs.InnerNames.{read_all}
use Rattle.gms_table.proofs.LabelLemmas.{joined, labels_from, labels-none, labels-last, labels-more}
use Rattle.gms_table.proofs.label.labels_of.Goals as goal

pub returns-in_default-clause-labels : goal.returns-in_default-clause-labels
returns-in_default-clause-labels c =
    sym (labels-none (read_all c.loop-label.labels.items) c.loop-label.rest.now c.field_length.result c.split_at.result.0.now c.split_at.result.1.now c.field_length.ensures.value c.split_at.ensures.front c.split_at.ensures.back c.in_default.ensures.label) ∙ c.loop-label.invariant.labels

pub returns-in-empty-clause-labels : goal.returns-in-empty-clause-labels
returns-in-empty-clause-labels c =
    ap (λ (ls : List (Bor (List ℕ))). Some (read_all ls)) c.in_ok-push.ensures.items ∙ ap Some (map_push (λ (label : Bor (List ℕ)). label.now) c.loop-label.labels.items c.in-Some.label)
    ∙ sym (labels-last (read_all c.loop-label.labels.items) c.loop-label.rest.now c.field_length.result c.split_at.result.0.now c.split_at.result.1.now c.field_length.ensures.value c.split_at.ensures.front c.split_at.ensures.back c.in-Some.label.now c.in-Some.ensures.label c.in-empty.len_below) ∙ c.loop-label.invariant.labels

pub returns-in-empty-clause-short : goal.returns-in-empty-clause-short
returns-in-empty-clause-short c =
    All-same (λ (label : Bor (List ℕ)). length label.now ≤ 63) _ _ c.in_ok-push.ensures.items (All-push (λ (label : Bor (List ℕ)). length label.now ≤ 63) c.loop-label.labels.items c.in-Some.label c.loop-label.invariant.short c.in-Some.ensures.short)

pub loop-label-preserved : goal.loop-label-preserved
loop-label-preserved c = record {
  labels =
      ap (λ (ls : List (Bor (List ℕ))). joined (read_all ls) (labels_from (take (length c.split_at.result.1.now - 1) (drop 1 c.split_at.result.1.now)))) c.in_ok-push.ensures.items ∙ ap (λ (ls : List (List ℕ)). joined ls (labels_from (take (length c.split_at.result.1.now - 1) (drop 1 c.split_at.result.1.now)))) (map_push (λ (label : Bor (List ℕ)). label.now) c.loop-label.labels.items c.in-Some.label)
      ∙ sym (labels-more (read_all c.loop-label.labels.items) c.loop-label.rest.now c.field_length.result c.split_at.result.0.now c.split_at.result.1.now c.field_length.ensures.value c.split_at.ensures.front c.split_at.ensures.back c.in-Some.label.now c.in-Some.ensures.label c.in-len1-up.len_at_least) ∙ c.loop-label.invariant.labels;
  short = All-same (λ (label : Bor (List ℕ)). length label.now ≤ 63) _ _ c.in_ok-push.ensures.items (All-push (λ (label : Bor (List ℕ)). length label.now ≤ 63) c.loop-label.labels.items c.in-Some.label c.loop-label.invariant.short c.in-Some.ensures.short);
}
