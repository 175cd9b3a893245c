use Rattle.std.proofs.Common.{◌∙◌, ◌<◌, ◌≤◌, ◌+◌, ◌++◌, [], length, get_or, drop, flat_map, refl, arith}
use Rattle.gms_save_text.specs.SavedState.{entry_line}
use Rattle.gms_save_text.specs.Reading.{IsReadable}
use Rattle.gms_save_text.proofs.Finding.{handed_on}
use Rattle.gms_save_text.proofs.Tuples.{all_at}
use Rattle.gms_save_text.proofs.Putting.{next_entry, entry_more, entries_all}
use Rattle.gms_save_text.proofs.entries.read_entries.Goals as goal

pub loop-entry-init : goal.loop-entry-init
loop-entry-init g c = record { declared = refl; put = λ content tuples rest has readable count is. record { now_is = is; state_is = refl } }

pub returns-in_err-left-clause-entries : goal.returns-in_err-left-clause-entries
returns-in_err-left-clause-entries g c content tuples rest has readable count is =
    let k = c.loop-entry._entry in
    let there : k < length tuples = let test = c.loop-entry-test.true in omega (arith, count) in
    let following = flat_map (entry_line content) (drop (k + 1) tuples) ++ rest in
    let line = next_entry c.args.named.name c.args.store.now content tuples rest c.loop-entry.left.now c.loop-entry.store k there (c.loop-entry.invariant.put content tuples rest has readable count is) in
    handed_on _ _ _ _ c.from_residual.ensures.1 (c.in_err-left.ensures.entry content (get_or tuples k []) following has (all_at (IsReadable g.F.ExactField.limit c.args.named.arity content) tuples k [] there readable) line)

pub loop-entry-preserved : goal.loop-entry-preserved
loop-entry-preserved g c =
    let k = c.loop-entry._entry in
    record {
      declared = c.in_ok-left.ensures.declared ∙ c.loop-entry.invariant.declared;
      put = λ content tuples rest has readable count is.
          let there : k < length tuples = let test = c.loop-entry-test.true in omega (arith, count) in
          let following = flat_map (entry_line content) (drop (k + 1) tuples) ++ rest in
          let so_far = c.loop-entry.invariant.put content tuples rest has readable count is in
          let line = next_entry c.args.named.name c.args.store.now content tuples rest c.loop-entry.left.now c.loop-entry.store k there so_far in
          let found = c.in_ok-left.ensures.entry content (get_or tuples k []) following has (all_at (IsReadable g.F.ExactField.limit c.args.named.arity content) tuples k [] there readable) line in
          entry_more c.args.named.name c.args.store.now content tuples rest c.loop-entry.left.now c.in_ok-left.left.now c.loop-entry.store c.read_entry.new.store k there so_far found.0 found.1;
    }

pub returns : goal.returns
returns g c = record {
  entries = λ content tuples rest has readable count is.
      let past : length tuples ≤ c.loop-entry._entry = let test = c.loop-entry-test.false in omega (arith, count) in
      entries_all c.args.named.name c.args.store.now content tuples rest c.loop-entry.left.now c.loop-entry.store c.loop-entry._entry past (c.loop-entry.invariant.put content tuples rest has readable count is);
  declared = c.loop-entry.invariant.declared;
}
