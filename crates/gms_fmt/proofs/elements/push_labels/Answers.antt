use Rattle.std.proofs.Common.{◌≡◌, ◌∙◌, ap, sym, arith, ◌<◌, nat_eq, false, true, get_or, length}
use Rattle.std.proofs.lemmas.List.{append_assoc}
use Rattle.std.proofs.lemmas.Bool.Decides.{nat_tests}
use Rattle.gms_fmt.specs.ElementTexts.{label_in_table}
use Rattle.gms_fmt.proofs.Joining.{joined-first, joined-further}
use Rattle.gms_fmt.proofs.elements.push_labels.Goals as goal
use Rattle.gms_fmt.proofs.elements.push_labels.Goals.{then-not-first+in_ok-push_str, else-not-first}

pub loop-label-preserved : goal.loop-label-preserved
loop-label-preserved c =
    let within : c.loop-label.label-index < length c.args.t.now = rw (← c.as_slice-label-items.ensures.value) (omega arith) in
    let text : c.text_of.result.now ≡ label_in_table c.args.labels.now (get_or c.args.t.now c.loop-label.label-index 0) = c.text_of.ensures ∙ ap (λ t. label_in_table c.args.labels.now (get_or t c.loop-label.label-index 0)) c.as_slice-label-items.ensures.value in
    elim c.if-not-first.branch [
      | then-not-first+in_ok-push_str w ↦
          let following : false ≡ nat_eq c.loop-label.label-index 0 = sym w.if-not-first.true ∙ c.loop-label.invariant.1 in (
            c.in_ok-push_str-2.ensures.bytes
                ∙ rw (w.into-is, w.in_ok-push_str.ensures.bytes, c.loop-label.invariant.0, text, joined-further c.args.between.now (label_in_table c.args.labels.now) c.args.t.now c.loop-label.label-index (grind (arith, nat_tests)) within) (simp append_assoc),
            grind (arith, nat_tests),
          )
      | else-not-first w ↦
          let at_first : true ≡ nat_eq c.loop-label.label-index 0 = sym w.if-not-first.false ∙ c.loop-label.invariant.1 in (
            c.in_ok-push_str-2.ensures.bytes
                ∙ rw (w.into-is, c.loop-label.invariant.0, text, joined-first c.args.between.now (label_in_table c.args.labels.now) c.args.t.now c.loop-label.label-index (grind (arith, nat_tests)) within) (simp append_assoc),
            grind (arith, nat_tests),
          )
    ]
