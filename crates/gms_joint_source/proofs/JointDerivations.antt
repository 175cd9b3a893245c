-- The tokens of a joint source as the grammar sees them, and its derivation.
use Rattle.std.proofs.Common.{◌≡◌, ℕ, ◌+◌, ◌-◌, ◌≤◌, true, false, List, [], ◌∷◌, ◌++◌, length, All, refl, sym, ap, ap₂, ◌∙◌, subst, arith, append_assoc}
use Rattle.std.proofs.lemmas.List.{map-append, length-append}
use Rattle.std.proofs.lemmas.List.Elements.{All-head, All-tail, All-nil, All-cons, All-append}
use Rattle.gms_grammar.specs.Lines.{code_text}
use Rattle.gms_grammar.specs.declared.kind.Kind.{Kind}
use Rattle.gms_grammar.specs.declared.kind.Kind.TheVariants.{Break, Symbol}
use Rattle.gms_grammar.specs.declared.kind.Sym.TheVariants.{Semicolon}
use Rattle.gms_lex.specs.declared.token.Token.{Token}
use Rattle.gms_lex.specs.TokenTexts.{token_text, IsPlaced}
use Rattle.gms_lex.specs.Tokens.{IsTokens, end_token, tokens_of}
use Rattle.gms_lex.proofs.LineTextLemmas.{on_line}
use Rattle.gms_lex.proofs.PlacedLemmas.{tokens_placed}
use Rattle.gms_grammar.specs.declared.terminal.Terminal.{Terminal}
use Rattle.gms_grammar.specs.declared.terminal.Terminal.TheVariants as terminal
use Rattle.gms_grammar.specs.Terminals.{is as is_kind}
use Rattle.gms_grammar.specs.Grammar.{DerivationTree, yield}
use Rattle.gms_expressions.specs.Outcomes.{kinded_tokens}
use Rattle.gms_expressions.specs.Words.{terminal_of}
use Rattle.gms_joint_source.specs.JointSources.{joint_source, HaveJointPrefix, DerivesSource, BeginsWith}
use Rattle.gms_joint_source.proofs.Spaces.{in_list_now, StartsFrom}
use Rattle.gms_joint_source.proofs.JointTokens.{PrefixTokens, prefix_tokens}
use Rattle.gms_joint_source.proofs.JointTrees.{divided}
use Rattle.gms_joint_source.proofs.Listless.{no_list}

-- a token as the grammar sees it
abbrev see : List ℕ → Token → Terminal × Token
see source token = (terminal_of token.kind (token_text source token), token)

-- a placed token has its bytes also if more follows the source
pub text_same : (source more : List ℕ) (token : Token) → IsPlaced source token → token_text (source ++ more) token ≡ token_text source token
text_same source more token p = on_line source more token.start (token.end - token.start) (let a = p.starts in let b = p.ends in omega arith)

-- placed tokens are the same to the grammar if more follows the source
pub own_seen : (source more : List ℕ) (own rest : List Token) → All (IsPlaced source) (own ++ rest) → kinded_tokens (source ++ more) own ≡ kinded_tokens source own
own_seen source more [] rest all = refl
own_seen source more (token ∷ own) rest all =
    ap₂ (λ text others. (terminal_of token.kind text, token) ∷ others) (text_same source more token (All-head (IsPlaced source) token (own ++ rest) all))
    (own_seen source more own rest (All-tail (IsPlaced source) token (own ++ rest) all))

pub last_same : {T : Type 0} (u v : List T) (x y : T) → u ++ x ∷ [] ≡ v ++ y ∷ [] → u ≡ v
last_same [] [] x y e = refl
last_same [] (b ∷ []) x y e = cc
last_same [] (b ∷ c ∷ v) x y e = cc
last_same (a ∷ []) [] x y e = cc
last_same (a ∷ b ∷ u) [] x y e = cc
last_same (a ∷ u) (b ∷ v) x y e =
    let first : a ≡ b = cc in
    let others : u ++ x ∷ [] ≡ v ++ y ∷ [] = cc in
    ap₂ (λ c w. c ∷ w) first (last_same u v x y others)

-- the tokens of a source without its end
pub seen_own : (source : List ℕ) (tokens own : List Token) (tree : DerivationTree (Terminal × Token)) → tokens ≡ own ++ end_token source ∷ [] → DerivesSource source tokens tree → kinded_tokens source own ≡ yield tree
seen_own source tokens own tree are d =
    last_same (kinded_tokens source own) (yield tree) (terminal.End, end_token source) (terminal.End, d.end)
    (sym (map-append (see source) own (end_token source ∷ [])) ∙ ap (kinded_tokens source) (sym are) ∙ d.yields)

-- ---- the laws

module _ (saved file : List ℕ) (tokens joint : List Token) (is : IsTokens saved tokens) (are : IsTokens (joint_source saved file) joint) where
  prefix : PrefixTokens (in_list_now is.has.last ≡ false) saved file tokens joint
  prefix = prefix_tokens saved file tokens joint is are

  pub have_prefix : HaveJointPrefix saved tokens joint
  have_prefix = record {
    own = prefix.own;
    tokens_are = prefix.tokens_are;
    ends = prefix.joining.ends;
    semicolon = prefix.joining.semicolon;
    others = prefix.joining.others ++ end_token (joint_source saved file) ∷ [];
    joint_are =
        prefix.all_are
        ∙ ap (λ ts. ts ++ end_token (joint_source saved file) ∷ []) (ap (λ ts. prefix.own ++ ts) prefix.joining.is ∙ sym (append_assoc prefix.own prefix.joining.ends (prefix.joining.semicolon ∷ prefix.joining.others)))
        ∙ append_assoc (prefix.own ++ prefix.joining.ends) (prefix.joining.semicolon ∷ prefix.joining.others) (end_token (joint_source saved file) ∷ []);
    are_ends = prefix.joining.are_ends;
    is_semicolon = prefix.joining.is_semicolon;
    below =
        let three : length saved + 1 + 2 ≡ length saved + 3 = omega arith in
        let end : length saved + 3 ≤ length (joint_source saved file) = omega (arith, length-append saved (10 ∷ 59 ∷ 10 ∷ file)) in
        subst (λ n. All (λ (token : Token). n ≤ token.start) (prefix.joining.others ++ end_token (joint_source saved file) ∷ [])) three
        (All-append (StartsFrom (length saved + 1 + 2)) prefix.joining.others (end_token (joint_source saved file) ∷ []) (prefix.joining.later (code_text file) refl)
        (All-cons (StartsFrom (length saved + 1 + 2)) (end_token (joint_source saved file)) [] (omega (arith, end)) (All-nil (StartsFrom (length saved + 1 + 2)))));
  }

  module _ (tree : DerivationTree (Terminal × Token)) (first : DerivesSource saved tokens tree) where
    -- after a program no line end precedes the `;`
    none : prefix.joining.ends ≡ []
    none = prefix.joining.none (no_list saved tokens is tree first.is_tree (seen_own saved tokens (tokens_of saved 0 is.has.pieces) tree is.has.tokens_are first))

    following : prefix.following ≡ prefix.joining.semicolon ∷ prefix.joining.others
    following = prefix.joining.is ∙ ap (λ ts. ts ++ prefix.joining.semicolon ∷ prefix.joining.others) none

    apart : (one other : Token) → one ≡ other → one.kind ≡ Break → other.kind ≡ Symbol Semicolon → ⊥
    apart one other e h k = let z : ◌≡◌ {A = Kind} Break (Symbol Semicolon) = sym h ∙ ap (λ (t : Token). t.kind) e ∙ k in cc

    no_more : (ends : List Token) (semicolon : Token) (others rest : List Token) → All (λ (token : Token). token.kind ≡ Break) ends → prefix.joining.semicolon ∷ rest ≡ ends ++ semicolon ∷ others → ends ≡ []
    no_more [] semicolon others rest all e = refl
    no_more (end ∷ ends) semicolon others rest all e =
        let same : end ≡ prefix.joining.semicolon = cc in
        absurd (apart end prefix.joining.semicolon same (All-head (λ (token : Token). token.kind ≡ Break) end ends all) prefix.joining.is_semicolon)

    after_own : (u v w : List Token) → u ++ v ≡ u ++ w → v ≡ w
    after_own [] v w e = e
    after_own (x ∷ u) v w e = let h : u ++ v ≡ u ++ w = cc in after_own u v w h

    pub no_ends : (other : HaveJointPrefix saved tokens joint) → other.ends ≡ []
    no_ends other =
        let own : prefix.own ≡ other.own = last_same prefix.own other.own (end_token saved) (end_token saved) (sym prefix.tokens_are ∙ other.tokens_are) in
        let last : List Token = end_token (joint_source saved file) ∷ [] in
        let here : prefix.own ++ (prefix.joining.semicolon ∷ prefix.joining.others ++ last) ≡ joint =
        sym (prefix.all_are ∙ ap (λ ts. prefix.own ++ ts ++ last) following ∙ append_assoc prefix.own (prefix.joining.semicolon ∷ prefix.joining.others) last) in
        no_more other.ends other.semicolon other.others (prefix.joining.others ++ last) other.are_ends
        (after_own prefix.own (prefix.joining.semicolon ∷ prefix.joining.others ++ last) (other.ends ++ other.semicolon ∷ other.others)
        (here ∙ other.joint_are ∙ append_assoc other.own other.ends (other.semicolon ∷ other.others) ∙ ap (λ ts. ts ++ (other.ends ++ other.semicolon ∷ other.others)) (sym own)))

    pub begins_with : (whole : DerivationTree (Terminal × Token)) → DerivesSource (joint_source saved file) joint whole → BeginsWith whole tree
    begins_with whole second =
        let source : List ℕ = joint_source saved file in
        let more : List ℕ = 10 ∷ 59 ∷ 10 ∷ file in
        let placed : All (IsPlaced saved) (prefix.own ++ end_token saved ∷ []) = subst (All (IsPlaced saved)) prefix.tokens_are (tokens_placed saved tokens is) in
        let semicolon : Terminal × Token = see source prefix.joining.semicolon in
        let own : kinded_tokens source prefix.own ≡ yield tree = own_seen saved more prefix.own (end_token saved ∷ []) placed ∙ seen_own saved tokens prefix.own tree prefix.tokens_are first in
        let last : List Token = end_token source ∷ [] in
        let joined : joint ≡ (prefix.own ++ (prefix.joining.semicolon ∷ prefix.joining.others)) ++ last =
        prefix.all_are ∙ ap (λ ts. prefix.own ++ ts ++ last) following in
        let agrees : yield whole ≡ yield tree ++ semicolon ∷ kinded_tokens source prefix.joining.others =
        sym (seen_own source joint (prefix.own ++ (prefix.joining.semicolon ∷ prefix.joining.others)) whole joined second)
        ∙ map-append (see source) prefix.own (prefix.joining.semicolon ∷ prefix.joining.others)
        ∙ ap (λ ts. ts ++ semicolon ∷ kinded_tokens source prefix.joining.others) own in
        let is_semicolon : is_kind terminal.Semicolon semicolon.0 ≡ true = ap (λ (k : Kind). is_kind terminal.Semicolon (terminal_of k (token_text source prefix.joining.semicolon))) prefix.joining.is_semicolon in
        let d = divided prefix.joining.semicolon tree whole semicolon (kinded_tokens source prefix.joining.others) first.is_tree second.is_tree is_semicolon agrees in
        record { segment = d.segment; others = d.others; first_is = d.first_is; semicolon = semicolon; next = d.next; last = d.last; whole_is = d.whole_is }
