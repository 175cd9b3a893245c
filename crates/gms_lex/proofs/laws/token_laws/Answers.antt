-- Each source has one meaning.
use Rattle.gms_lex.proofs.PlaceLemmas.{places_in_order}
use Rattle.gms_lex.proofs.AnswerLemmas.{means_one, means_only}
use Rattle.gms_lex.proofs.LongestLemmas.{longest, refused}
use Rattle.gms_lex.proofs.ApartLemmas.{apart, breaks, break_there}
use Rattle.gms_lex.proofs.laws.token_laws.Goals as goal

pub returns : goal.returns
returns c = record {
  there_is_one = means_one;
  only_one = means_only;
  places_in_order = places_in_order;
  longest = longest;
  refused = refused;
  apart = apart;
  breaks = breaks;
  no_other_breaks = break_there;
}
