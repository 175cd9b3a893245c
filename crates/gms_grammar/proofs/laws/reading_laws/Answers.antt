-- The laws of readers.
use Rattle.gms_grammar.proofs.Language.{gams_finds, gams_read_tree, gams_read_stops, gams_stuck_stops, gams_stuck_none, gams_complete, gams_takes}
use Rattle.gms_grammar.proofs.laws.reading_laws.Goals as goal

pub returns : goal.returns
returns g c = record {
  finds = gams_finds;
  tree = gams_read_tree;
  longest = gams_read_stops;
  unexpected = gams_stuck_stops;
  unfinished = gams_stuck_none;
  complete = gams_complete;
  gone_over = gams_takes;
}
