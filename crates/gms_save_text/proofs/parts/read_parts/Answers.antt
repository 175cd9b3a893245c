use Rattle.std.proofs.Common.{◌∙◌, ◌<◌, ◌≤◌, ◌+◌, ◌++◌, length, drop, refl, arith}
use Rattle.gms_store.specs.State.{symbol_at}
use Rattle.gms_save_text.specs.SavedState.{parts_from}
use Rattle.gms_save_text.proofs.Finding.{handed_on}
use Rattle.gms_save_text.proofs.Mixing.{readable-length, readable-at, next_part, part_more, parts_all, within_now, readable_now}
use Rattle.gms_save_text.proofs.parts.read_parts.Goals as goal

pub loop-number-init : goal.loop-number-init
loop-number-init g c = record { declared = refl; parts = λ state rest count readable is. record { now_is = is; made_is = refl } }

pub returns-in_err-left-clause-parts : goal.returns-in_err-left-clause-parts
returns-in_err-left-clause-parts g c state rest count readable is =
    let k = c.loop-number.number in
    let old = c.args.store.now in
    let names = c.args.names.now in
    let within : k < length old.symbols = let test = c.loop-number-test.true in let size = c.len-number-end.ensures.len in omega (arith, count, size) in
    let same = readable-length g.F.ExactField.limit old.symbols state.symbols readable in
    let so_far = c.loop-number.invariant.parts state rest count readable is in
    let following = parts_from state (k + 1) (drop (k + 1) names) ++ rest in
    let line = next_part old state names c.text.result.now rest c.loop-number.left.now c.loop-number.store k c.text.ensures.value so_far in
    handed_on _ _ _ _ c.from_residual.ensures.1 (c.in_err-left.ensures.part (symbol_at state k).content following (within_now old state names rest c.loop-number.left.now c.loop-number.store k same within so_far) (readable_now g.F.ExactField.limit old state names rest c.loop-number.left.now c.loop-number.store k readable within so_far) line)

pub loop-number-preserved : goal.loop-number-preserved
loop-number-preserved g c = record {
  declared = c.in_ok-left.ensures.declared ∙ c.loop-number.invariant.declared;
  parts = λ state rest count readable is.
      let k = c.loop-number.number in
      let old = c.args.store.now in
      let names = c.args.names.now in
      let within : k < length old.symbols = let test = c.loop-number-test.true in let size = c.len-number-end.ensures.len in omega (arith, count, size) in
      let same = readable-length g.F.ExactField.limit old.symbols state.symbols readable in
      let so_far = c.loop-number.invariant.parts state rest count readable is in
      let following = parts_from state (k + 1) (drop (k + 1) names) ++ rest in
      let line = next_part old state names c.text.result.now rest c.loop-number.left.now c.loop-number.store k c.text.ensures.value so_far in
      let found = c.in_ok-left.ensures.part (symbol_at state k).content following (within_now old state names rest c.loop-number.left.now c.loop-number.store k same within so_far) (readable_now g.F.ExactField.limit old state names rest c.loop-number.left.now c.loop-number.store k readable within so_far) line in
      part_more old state names rest c.loop-number.left.now c.in_ok-left.left.now c.loop-number.store c.read_part.new.store k same within (readable-at g.F.ExactField.limit old.symbols state.symbols k within readable).domain so_far found.0 found.1;
}

pub returns : goal.returns
returns g c = record {
  parts = λ state rest count readable is.
      let old = c.args.store.now in
      let names = c.args.names.now in
      let past : length names ≤ c.loop-number.number = let test = c.loop-number-test.false in let size = c.len-number-end.ensures.len in omega (arith, size) in
      parts_all old state names rest c.loop-number.left.now c.loop-number.store c.loop-number.number (readable-length g.F.ExactField.limit old.symbols state.symbols readable) count past (c.loop-number.invariant.parts state rest count readable is);
  declared = c.loop-number.invariant.declared;
}
