use Rattle.std.proofs.Common.{ap, ◌∙◌}
use Rattle.std.specs.Prelude.{slice_set, Vec}
use Rattle.std.specs.declared.alloc.Global.{Global}
use Rattle.lp_fraction_dict.specs.declared.row.Entry.{Entry}
use Rattle.lp_fraction_dict.specs.Lines.{entries_of_rows}
use Rattle.lp_fraction_dict.proofs.Exchanging.{rows-put}
use Rattle.lp_fraction_dict.proofs.exchange.put_row.Goals as goal

pub returns-clause-put : goal.returns-clause-put
returns-clause-put g c =
    rows-put c.args.rows.now.items c.args.place c.replace.new.dest
    ∙ ap (λ (r : Vec (Entry _) Global). slice_set (entries_of_rows c.args.rows.now.items) c.args.place r.items) c.replace.ensures.after
