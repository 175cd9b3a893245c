use Rattle.std.proofs.Common.{◌++◌, List, ℕ, ap, codes, Option, Some, Bor}
use Rattle.gms_store.specs.declared.settings.Settings.{Settings}
use Rattle.gms_save_text.specs.SavedState.{saved_line, parts_from, saved_text, settings_line, source_text}
use Rattle.gms_save_text.specs.Reading.{IsPast}
use Rattle.gms_save_text.proofs.Past.{past_as, past_both, past_none}
use Rattle.gms_save_text.proofs.comparing.is_text_of.Goals as goal

pub returns : goal.returns
returns g c =
    let source = c.args.source.now in
    let names = c.args.names.now in
    let store = c.args.store.now in
    let solver = c.args.solver.now in
    let parts = parts_from store 0 names in
    let settings = settings_line store.settings solver in
    let end = saved_line (codes "end") in
    let first = saved_line (codes "gams25 save 1") in
    let begun : Option (Bor (List ℕ)) = Some c.args.bytes in
    let whole : IsPast (saved_text source names store solver) begun c.past-2.result =
    past_both first (source_text source ++ (settings ++ (parts ++ end))) begun c.past.result c.past-2.result c.past.ensures (past_both (source_text source) (settings ++ (parts ++ end)) c.past.result c.source.new.self.left c.past-2.result c.in_ok-source.ensures
    (past_both settings (parts ++ end) c.source.new.self.left c.settings-2.new.self.left c.past-2.result (past_as (settings_line c.settings.result solver) settings c.source.new.self.left c.settings-2.new.self.left (ap (λ (s : Settings). settings_line s solver) c.settings.ensures) c.in_ok-settings.ensures)
    (past_both parts end c.settings-2.new.self.left c.parts.new.self.left c.past-2.result c.in_ok-parts.ensures c.past-2.ensures))) in
    past_none (saved_text source names store solver) c.args.bytes c.past-2.result c.in-None.is whole
