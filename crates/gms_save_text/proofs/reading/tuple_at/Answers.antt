use Rattle.std.proofs.Common.{◌∙◌, ◌<◌, ◌≤◌, ◌^◌, ◌+◌, ◌++◌, ◌∷◌, [], length, get_or, drop, flat_map, ap, arith, length-append}
use Rattle.gms_save_text.proofs.Finding.{handed_on}
use Rattle.gms_save_text.proofs.Tuples.{all_at, label_line, label_text, next_line, one_more, all_read}
use Rattle.gms_save_text.proofs.reading.tuple_at.Goals as goal

pub loop-place-init : goal.loop-place-init
loop-place-init c = record { count = ap length c.new-tuple.ensures; read = λ t rest readable is. record { made_is = c.new-tuple.ensures; now_is = is } }

pub push-requires : goal.push-requires
push-requires c =
    let count = c.loop-place.invariant.count in
    let few = c.if-arity-gt-MOST_LABELS.false in
    let there = c.loop-place-test.true in
    omega arith

pub returns-in_err-label : goal.returns-in_err-label
returns-in_err-label c t rest readable is =
    let k = c.loop-place._place in
    let count = readable.count in
    let there : k < length t = let test = c.loop-place-test.true in omega (arith, count) in
    let line = next_line label_text t rest c.loop-place.left.now c.loop-place.tuple k 0 there (c.loop-place.invariant.read t rest readable is) in
    handed_on _ _ _ _ c.from_residual.ensures.1 (c.in_err-label.ensures (get_or t k 0) (flat_map label_text (drop (k + 1) t) ++ rest) (all_at (λ n. n < 2 ^ 32) t k 0 there readable.small) (line ∙ label_line (get_or t k 0) (flat_map label_text (drop (k + 1) t) ++ rest)))

pub loop-place-preserved : goal.loop-place-preserved
loop-place-preserved c =
    let k = c.loop-place._place in
    let pushed = c.in_ok-push.ensures.ok in
    record {
      count = let size = length-append c.loop-place.tuple (c.in_ok-label.label ∷ []) in let more = ap length pushed in let count = c.loop-place.invariant.count in omega arith;
      read = λ t rest readable is.
          let count = readable.count in
          let there : k < length t = let test = c.loop-place-test.true in omega (arith, count) in
          let so_far = c.loop-place.invariant.read t rest readable is in
          let line = next_line label_text t rest c.loop-place.left.now c.loop-place.tuple k 0 there so_far in
          let found = c.in_ok-label.ensures (get_or t k 0) (flat_map label_text (drop (k + 1) t) ++ rest) (all_at (λ n. n < 2 ^ 32) t k 0 there readable.small) (line ∙ label_line (get_or t k 0) (flat_map label_text (drop (k + 1) t) ++ rest)) in
          one_more label_text t rest c.loop-place.left.now c.in_ok-label.following.now c.loop-place.tuple c.push.new.self k c.in_ok-label.label 0 there so_far found.0 pushed found.1;
    }

pub returns : goal.returns
returns c t rest readable is =
    let past : length t ≤ c.loop-place._place = let test = c.loop-place-test.false in let count = readable.count in omega arith in
    all_read label_text t rest c.loop-place.left.now c.loop-place.tuple c.loop-place._place past (c.loop-place.invariant.read t rest readable is)
