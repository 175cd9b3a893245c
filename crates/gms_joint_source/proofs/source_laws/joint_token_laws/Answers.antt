-- What a joint source begins with.
use Rattle.std.proofs.Common.{[], ◌∷◌, All, subst}
use Rattle.gms_lex.specs.TokenTexts.{IsPlaced}
use Rattle.gms_lex.specs.Tokens.{end_token}
use Rattle.gms_lex.proofs.PlacedLemmas.{tokens_placed}
use Rattle.gms_joint_source.proofs.JointDerivations.{own_seen, have_prefix, no_ends, begins_with}
use Rattle.gms_joint_source.proofs.source_laws.joint_token_laws.Goals as goal

pub returns : goal.returns
returns c = record {
  tokens = have_prefix;
  seen = λ saved file tokens joint is prefix. own_seen saved (10 ∷ 59 ∷ 10 ∷ file) prefix.own (end_token saved ∷ []) (subst (All (IsPlaced saved)) prefix.tokens_are (tokens_placed saved tokens is));
  no_ends = λ saved file tokens joint tree is are first prefix. no_ends saved file tokens joint is are tree first prefix;
  derivation = λ saved file tokens joint first whole is are one other. begins_with saved file tokens joint is are first one whole other;
}
