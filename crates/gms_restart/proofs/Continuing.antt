-- The statements of a saved program begin above the file that follows it, and those of the file in
-- it; the restarted run of both.
use Rattle.std.proofs.Common.{◌≡◌, ℕ, ◌+◌, ◌<◌, ◌≤◌, nat_lt, true, false, List, [], ◌∷◌, ◌++◌, length, All, None, refl, sym, ap, ◌∙◌, subst, arith, append_assoc, append-nil}
use Rattle.std.proofs.lemmas.Bool.{both_ways}
use Rattle.std.proofs.lemmas.Bool.Decides.{nat_tests}
use Rattle.std.proofs.lemmas.List.{length-append, map-append}
use Rattle.std.proofs.lemmas.List.Elements.{All-tail}
use Rattle.gq_number.specs.Number.{Number}
use Rattle.gq_frac.specs.declared.frac.Frac.{Frac}
use Rattle.gq_frac.specs.Frac.{frac_value}
use Rattle.gms_ast.specs.StatementTrees.{Statements, no_statement, statement, followed_by}
use Rattle.gms_lex.specs.declared.token.Token.{Token}
use Rattle.gms_lex.specs.TokenTexts.{IsPlaced, token_text}
use Rattle.gms_lex.specs.Tokens.{end_token}
use Rattle.gms_lex.proofs.PlacedLemmas.{tokens_placed}
use Rattle.gms_grammar.specs.declared.terminal.Terminal.TheVariants as terminal
use Rattle.gms_grammar.specs.Grammar.{the, ◌·◌, opt, many, leaf, pair, none, some, more, node, yield, IsTree}
use Rattle.gms_grammar.specs.GamsGrammar.{KeywordStatement, NamedStatement, Program, Segment, productions, token}
use Rattle.gms_grammar.specs.GamsLookAhead.{look_ahead}
use Rattle.gms_grammar.specs.LookAhead.{may_be_empty}
use Rattle.gms_grammar.proofs.Decided.{gams_decided}
use Rattle.gms_grammar.proofs.Starts.{Starts, starts}
use Rattle.gms_expressions.specs.ExpressionTrees.{first_place, place_in}
use Rattle.gms_expressions.specs.Outcomes.{kinded_tokens}
use Rattle.gms_expressions.specs.Words.{terminal_of}
use Rattle.gms_parse.specs.Outcomes.{HasProgram, IsProgram, ProgramView, program_view}
use Rattle.gms_parse.specs.Programs.{keyword_statements, named_first, segment, segments, statements_of}
use Rattle.gms_parse.specs.InnerReadings.{Derivation, GamsPart}
use Rattle.gms_parse.specs.ReadStates.{KindedToken}
use Rattle.gms_check.specs.Loaded.{IsAccepted}
use Rattle.gms_exec.specs.Run.{World}
use Rattle.gms_run_laws.proofs.FormKeys.{EachHas}
use Rattle.gms_joint_source.proofs.ProgramPrefixes.{attached, kin, names_go_on}
use Rattle.gms_joint_source.proofs.KinPrograms.{statements_same}
use Rattle.gms_run_laws.proofs.Padding.{test-of}
use Rattle.gms_save.specs.JointErrors.{joint_errors}
use Rattle.gms_joint_source.specs.JointSources.{BeginsWith, DerivesSource, HaveJointPrefix, attach, first_line, joint_source}
use Rattle.gms_joint_source.proofs.JointDerivations.{begins_with, have_prefix, no_ends, own_seen, seen_own}
use Rattle.gms_restart.specs.Restarts.{SaysTheSame, base_run, whole_run}
use Rattle.gms_restart.specs.StatementLines.{SeenNew, SeenSaved}
use Rattle.gms_restart.proofs.Restarted.{restarted}
use Rattle.gms_restart.specs.JointPrograms.{Continues}
use Rattle.gms_restart.proofs.DeclaredNames.{declares-own}
use Rattle.gms_restart.proofs.TokenLines.{IsEarly, IsLate, all-following, prefix-has, rest-has, seen-early, seen-late}
use Rattle.lp_core.specs.declared.answer.Answer.{Answer}

-- ---- lists of segments

abbrev Segments : GamsPart
Segments = many (token terminal.Semicolon · the Segment)

attached-tree : (others tree : Derivation) → IsTree productions Segments others → IsTree productions Segments (attach others tree) → IsTree productions Segments tree
attached-tree none tree is all = all
attached-tree (more one others) tree is all = attached-tree others tree is.1 all.1
attached-tree _ tree is all = absurd is

attached-yield : (others tree : Derivation) → IsTree productions Segments others → yield (attach others tree) ≡ yield others ++ yield tree
attached-yield none tree is = refl
attached-yield (more one others) tree is =
    ap (λ (ts : List KindedToken). yield one ++ ts) (attached-yield others tree is.1) ∙ sym (append_assoc (yield one) (yield others) (yield tree))
attached-yield _ tree is = absurd is

followed-all : (a b c : Statements Number) → followed_by (followed_by a b) c ≡ followed_by a (followed_by b c)
followed-all no_statement b c = refl
followed-all (statement at act a) b c = ap (λ (s : Statements Number). statement at act s) (followed-all a b c)

-- ---- statements above a line

module _ (source : List ℕ) (names labels : List (List ℕ)) (from : ℕ) (some_line : 0 < from) where
  abbrev Early : KindedToken → Type 0
  Early = IsEarly from

  first-early : (tokens : List KindedToken) → EachHas Early tokens → nat_lt (first_place tokens).line from ≡ true
  first-early [] all = test-of 0 from some_line
  first-early (t ∷ tokens) all = all.0

  saved-both : (a b : Statements Number) → SeenSaved from a → SeenSaved from b → SeenSaved from (followed_by a b)
  saved-both no_statement b one other = other
  saved-both (statement at act rest) b one other = (one.0, saved-both rest b one.1 other)

  keywords-early : (tree : Derivation) → EachHas Early (yield tree) → SeenSaved from (keyword_statements source names labels tree)
  keywords-early (more first others) all =
      (first-early (yield first) (prefix-has Early (yield first) (yield others) all), keywords-early others (rest-has Early (yield first) (yield others) all))
  keywords-early tree all = tt

  named-early : (tree : Derivation) (others : Statements Number) → EachHas Early (yield tree) → SeenSaved from others → SeenSaved from (named_first source names labels tree others)
  named-early (some tree) others all rest = (first-early (yield tree) all, rest)
  named-early tree others all rest = rest

  segment-early : (tree : Derivation) → EachHas Early (yield tree) → SeenSaved from (segment source names labels tree)
  segment-early (node (pair named others)) all =
      named-early named (keyword_statements source names labels others) (prefix-has Early (yield named) (yield others) all) (keywords-early others (rest-has Early (yield named) (yield others) all))
  segment-early tree all = tt

  segments-early : (tree : Derivation) → EachHas Early (yield tree) → SeenSaved from (segments source names labels tree)
  segments-early (more (pair mark tree) others) all =
      saved-both (segment source names labels tree) (segments source names labels others) (segment-early tree (rest-has Early (yield mark) (yield tree) (prefix-has Early (yield mark ++ yield tree) (yield others) all))) (segments-early others (rest-has Early (yield mark ++ yield tree) (yield others) all))
  segments-early tree all = tt

  statements-early : (tree : Derivation) → EachHas Early (yield tree) → SeenSaved from (statements_of source names labels tree)
  statements-early (node (pair first others)) all =
      saved-both (segment source names labels first) (segments source names labels others) (segment-early first (prefix-has Early (yield first) (yield others) all)) (segments-early others (rest-has Early (yield first) (yield others) all))
  statements-early tree all = tt

-- ---- statements at a line or below it

module _ (source : List ℕ) (names labels : List (List ℕ)) (from : ℕ) where
  abbrev Late : KindedToken → Type 0
  Late = IsLate from

  not-before : (line : ℕ) → from ≤ line → nat_lt line from ≡ false
  not-before line le = grind (arith, nat_tests, le)

  first-late : (part : GamsPart) (tree : Derivation) → may_be_empty look_ahead part ≡ false → IsTree productions part tree → EachHas Late (yield tree) → nat_lt (place_in tree).line from ≡ false
  first-late part tree something is all = by (yield tree) (starts productions look_ahead gams_decided part tree is) all
    where
      by : (tokens : List KindedToken) → Starts {D = Token} productions look_ahead gams_decided part tokens → EachHas Late tokens → nat_lt (first_place tokens).line from ≡ false
      by [] empty all = absurd (both_ways (may_be_empty look_ahead part) something empty)
      by (t ∷ tokens) begins all = not-before t.1.at.line all.0

  new-both : (a b : Statements Number) → SeenNew from a → SeenNew from b → SeenNew from (followed_by a b)
  new-both no_statement b one other = other
  new-both (statement at act rest) b one other = (one.0, new-both rest b one.1 other)

  keywords-late : (tree : Derivation) → IsTree productions (many (the KeywordStatement)) tree → EachHas Late (yield tree) → SeenNew from (keyword_statements source names labels tree)
  keywords-late (more first others) is all =
      (first-late (the KeywordStatement) first refl is.0 (prefix-has Late (yield first) (yield others) all), keywords-late others is.1 (rest-has Late (yield first) (yield others) all))
  keywords-late tree is all = tt

  named-late : (tree : Derivation) (others : Statements Number) → IsTree productions (opt (the NamedStatement)) tree → EachHas Late (yield tree) → SeenNew from others → SeenNew from (named_first source names labels tree others)
  named-late (some tree) others is all rest = (first-late (the NamedStatement) tree refl is all, rest)
  named-late tree others is all rest = rest

  segment-late : (tree : Derivation) → IsTree productions (the Segment) tree → EachHas Late (yield tree) → SeenNew from (segment source names labels tree)
  segment-late (node (pair named others)) is all =
      named-late named (keyword_statements source names labels others) is.0 (prefix-has Late (yield named) (yield others) all) (keywords-late others is.1 (rest-has Late (yield named) (yield others) all))
  segment-late tree is all = tt

  segments-late : (tree : Derivation) → IsTree productions Segments tree → EachHas Late (yield tree) → SeenNew from (segments source names labels tree)
  segments-late (more (pair mark tree) others) is all =
      new-both (segment source names labels tree) (segments source names labels others) (segment-late tree is.0.1 (rest-has Late (yield mark) (yield tree) (prefix-has Late (yield mark ++ yield tree) (yield others) all))) (segments-late others is.1 (rest-has Late (yield mark ++ yield tree) (yield others) all))
  segments-late tree is all = tt

-- ---- programs

cancelled : (u v w : List KindedToken) → u ++ v ≡ u ++ w → v ≡ w
cancelled [] v w e = e
cancelled (x ∷ u) v w e = let h : u ++ v ≡ u ++ w = cc in cancelled u v w h

module _ (limit : ℕ) (saved file : List ℕ) (first whole : ProgramView) (p : HasProgram limit saved first) (q : HasProgram limit (joint_source saved file) whole) where
  abbrev joint_text : List ℕ
  joint_text = joint_source saved file

  abbrev from : ℕ
  from = first_line saved

  abbrev see : Token → KindedToken
  see t = (terminal_of t.kind (token_text joint_text t), t)

  own-derives : DerivesSource saved p.tokens p.is.tree
  own-derives = record { end = p.is.end; is_tree = p.is.is_tree; yields = p.is.tokens_are }

  begins : BeginsWith q.is.tree p.is.tree
  begins =
      begins_with saved file p.tokens q.tokens p.are_tokens q.are_tokens p.is.tree own-derives q.is.tree (record { end = q.is.end; is_tree = q.is.is_tree; yields = q.is.tokens_are })

  -- the derivation of the text after the saved program
  abbrev after_tree : Derivation
  after_tree = more (pair (leaf begins.semicolon) begins.next) begins.last

  own-tree : IsTree productions (the Program) (node (pair begins.segment begins.others))
  own-tree = subst (λ (t : Derivation). IsTree productions (the Program) t) begins.first_is p.is.is_tree

  whole-tree : IsTree productions (the Program) (node (pair begins.segment (attach begins.others after_tree)))
  whole-tree = subst (λ (t : Derivation). IsTree productions (the Program) t) begins.whole_is q.is.is_tree

  following-is : IsTree productions Segments after_tree
  following-is = attached-tree begins.others after_tree own-tree.1 whole-tree.1

  -- its tokens
  following-yield : yield q.is.tree ≡ yield p.is.tree ++ (begins.semicolon ∷ (yield begins.next ++ yield begins.last))
  following-yield =
      ap (λ (t : Derivation). yield t) begins.whole_is
      ∙ ap (λ (ts : List KindedToken). yield begins.segment ++ ts) (attached-yield begins.others after_tree own-tree.1)
      ∙ sym (append_assoc (yield begins.segment) (yield begins.others) (begins.semicolon ∷ (yield begins.next ++ yield begins.last)))
      ∙ ap (λ (t : Derivation). yield t ++ (begins.semicolon ∷ (yield begins.next ++ yield begins.last))) (sym begins.first_is)

  saved_prefix : HaveJointPrefix saved p.tokens q.tokens
  saved_prefix = have_prefix saved file p.tokens q.tokens p.are_tokens q.are_tokens

  abbrev those_after : List Token
  those_after = saved_prefix.semicolon ∷ saved_prefix.others

  tokens-are : q.tokens ≡ saved_prefix.own ++ those_after
  tokens-are =
      saved_prefix.joint_are
      ∙ ap (λ (es : List Token). (saved_prefix.own ++ es) ++ those_after) (no_ends saved file p.tokens q.tokens p.are_tokens q.are_tokens p.is.tree own-derives saved_prefix)
      ∙ ap (λ (os : List Token). os ++ those_after) (append-nil saved_prefix.own)

  following-late : EachHas (IsLate from) (yield begins.next ++ yield begins.last)
  following-late =
      let last : List KindedToken = (terminal.End, q.is.end) ∷ [] in
      let those : List KindedToken = yield begins.next ++ yield begins.last in
      let others : List KindedToken = kinded_tokens joint_text saved_prefix.others in
      let placed : All (IsPlaced saved) (saved_prefix.own ++ end_token saved ∷ []) = subst (All (IsPlaced saved)) saved_prefix.tokens_are (tokens_placed saved p.tokens p.are_tokens) in
      let own : kinded_tokens joint_text saved_prefix.own ≡ yield p.is.tree = own_seen saved (10 ∷ 59 ∷ 10 ∷ file) saved_prefix.own (end_token saved ∷ []) placed ∙ seen_own saved p.tokens saved_prefix.own p.is.tree saved_prefix.tokens_are own-derives in
      let parts : kinded_tokens joint_text q.tokens ≡ yield p.is.tree ++ (see saved_prefix.semicolon ∷ others) =
      ap (kinded_tokens joint_text) tokens-are ∙ map-append see saved_prefix.own those_after ∙ ap (λ (ts : List KindedToken). ts ++ (see saved_prefix.semicolon ∷ others)) own in
      let agree : see saved_prefix.semicolon ∷ others ≡ begins.semicolon ∷ (those ++ last) =
      cancelled (yield p.is.tree) (see saved_prefix.semicolon ∷ others) (begins.semicolon ∷ (those ++ last))
      (sym parts ∙ q.is.tokens_are ∙ ap (λ (ts : List KindedToken). ts ++ last) following-yield ∙ append_assoc (yield p.is.tree) (begins.semicolon ∷ those) last) in
      let rest : others ≡ those ++ last = cc in
      let is_placed : All (IsPlaced joint_text) (saved_prefix.own ++ those_after) = subst (All (IsPlaced joint_text)) tokens-are (tokens_placed joint_text q.tokens q.are_tokens) in
      let others_placed : All (IsPlaced joint_text) saved_prefix.others = All-tail (IsPlaced joint_text) saved_prefix.semicolon saved_prefix.others (all-following (IsPlaced joint_text) saved_prefix.own those_after is_placed) in
      prefix-has (IsLate from) those last (subst (EachHas (IsLate from)) rest (seen-late saved file saved_prefix.others others_placed saved_prefix.below))

  -- the statements of the file
  abbrev news : Statements Number
  news = followed_by (segment joint_text whole.names whole.labels begins.next) (segments joint_text whole.names whole.labels begins.last)

  whole-statements : whole.statements ≡ followed_by first.statements news
  whole-statements =
      q.is.statements_are
      ∙ ap (statements_of joint_text whole.names whole.labels) begins.whole_is
      ∙ ap (λ (s : Statements Number). followed_by (segment joint_text whole.names whole.labels begins.segment) s) (attached joint_text whole.names whole.labels begins.others after_tree own-tree.1)
      ∙ sym (followed-all (segment joint_text whole.names whole.labels begins.segment) (segments joint_text whole.names whole.labels begins.others) news)
      ∙ ap (λ (t : Derivation). followed_by (statements_of joint_text whole.names whole.labels t) news) (sym begins.first_is)
      ∙ ap (λ (s : Statements Number). followed_by s news) (sym (p.is.statements_are ∙ statements_same saved joint_text first.names whole.names first.labels whole.labels (kin limit saved file first whole p q)))

  pub continues : Continues from first whole
  continues =
      let early : EachHas (IsEarly from) (yield p.is.tree) = prefix-has (IsEarly from) (yield p.is.tree) ((terminal.End, p.is.end) ∷ []) (subst (EachHas (IsEarly from)) p.is.tokens_are (seen-early saved p.tokens (tokens_placed saved p.tokens p.are_tokens))) in
      record {
        others = news;
        statements = whole-statements;
        olds = subst (SeenSaved from) (sym p.is.statements_are) (statements-early saved first.names first.labels from (omega arith) p.is.tree early);
        news = new-both joint_text whole.names whole.labels from (segment joint_text whole.names whole.labels begins.next) (segments joint_text whole.names whole.labels begins.last)
            (segment-late joint_text whole.names whole.labels from begins.next following-is.0.1 (prefix-has (IsLate from) (yield begins.next) (yield begins.last) following-late)) (segments-late joint_text whole.names whole.labels from begins.last following-is.1 (rest-has (IsLate from) (yield begins.next) (yield begins.last) following-late));
      }

-- ---- the restarted run

pub says-the-same : (most limit : ℕ) (source file : List ℕ) (saved joint : World Frac) (answers further : List (Answer Number)) → IsProgram most source frac_value saved.program → IsProgram most (joint_source source file) frac_value joint.program → IsAccepted frac_value saved.program →
    joint_errors frac_value joint.program (first_line source) joint.solvers ≡ [] → joint.solvers ≡ saved.solvers →
    (whole_run frac_value limit saved answers).halted ≡ None → (whole_run frac_value limit saved answers).left ≡ [] → (base_run frac_value limit (first_line source) joint (answers ++ further)).halted ≡ None →
    SaysTheSame frac_value limit (first_line source) saved joint answers further
says-the-same most limit source file saved joint answers further p q accepts none_wrong solvers done left_over reached =
    let first : ProgramView = program_view frac_value saved.program in
    let whole : ProgramView = program_view frac_value joint.program in
    let both : Continues (first_line source) first whole = continues most source file first whole p q in
    let longer = names_go_on most source file first whole p q in
    let size : length joint.program.names ≡ length (saved.program.names ++ longer.0) = ap (λ (ns : List (List ℕ)). length ns) longer.1 in
    let parts : length (saved.program.names ++ longer.0) ≡ length saved.program.names + length longer.0 = length-append saved.program.names longer.0 in
    let few : length saved.program.names ≤ length joint.program.names = omega (arith, size, parts) in
    restarted (first_line source) limit saved joint both.others answers further both.statements both.olds both.news few (declares-own most source saved.program p) accepts none_wrong solvers done left_over reached
