-- The derivation of a program whose tokens begin with those of another and a `;`: it is that of the
-- other, the `;`, and that of the rest.
use Rattle.std.proofs.Common.{◌≡◌, Bool, true, false, ◌||◌, ◌&&◌, List, [], ◌∷◌, ◌++◌, refl, sym, ap, ◌∙◌, subst, append_assoc, append-nil}
use Rattle.gms_grammar.specs.declared.terminal.Terminal.{Terminal}
use Rattle.gms_grammar.specs.declared.terminal.Terminal.TheVariants.{Semicolon}
use Rattle.gms_grammar.specs.Terminals.{is}
use Rattle.gms_grammar.specs.Grammar.{Part, the, ◌·◌, many, DerivationTree, leaf, pair, none, more, node, yield, IsTree, Stops}
use Rattle.gms_grammar.specs.LookAhead.{may_begin, may_come_next, IsDecided}
use Rattle.gms_grammar.specs.Reading.{Found, read, stuck, leads, Reads, entered, entered_stuck, both, second_stuck, again, later_stuck}
use Rattle.gms_grammar.specs.GamsGrammar.{Nonterminal, Program, Segment, productions, token}
use Rattle.gms_grammar.specs.GamsLookAhead.{look_ahead}
use Rattle.gms_grammar.proofs.Basics.{or_left, after_same}
use Rattle.gms_joint_source.specs.JointSources.{attach}
use Rattle.gms_grammar.proofs.Starts.{Follows, Starts, starts, led}
use Rattle.gms_grammar.proofs.Sound.{sound}
use Rattle.gms_grammar.proofs.Stopping.{stops_once}
use Rattle.gms_grammar.proofs.Complete.{complete}
use Rattle.gms_grammar.proofs.Total.{finds}
use Rattle.gms_grammar.proofs.Decided.{gams_decided}
use Rattle.gms_grammar.proofs.Language.{gams_unique, gams_complete, gams_read_tree, gams_read_stops, gams_stuck_stops, gams_stuck_none}

-- a `;` and what follows it
abbrev One : Part Terminal Nonterminal
One = token Semicolon · the Segment

-- semicolons, and what follows each
abbrev Others : Part Terminal Nonterminal
Others = many One

-- One token decides how a program continues.
abbrev AfterSegment : Terminal → Bool
AfterSegment = may_come_next look_ahead Others (look_ahead.follow Program)

decided_segment : IsDecided look_ahead (the Segment) AfterSegment
decided_segment = (gams_decided.decided Program).0

decided_others : IsDecided look_ahead Others (look_ahead.follow Program)
decided_others = (gams_decided.decided Program).1

abbrev AfterOne : Terminal → Bool
AfterOne c = may_begin look_ahead One c || look_ahead.follow Program c

decided_one : IsDecided look_ahead One AfterOne
decided_one = decided_others.2

module _ {D : Type 0} where
  -- what is found after semicolons
  abbrev attached : DerivationTree (Terminal × D) → Found (Terminal × D) → Found (Terminal × D)
  attached others (read tree rest) = read (attach others tree) rest
  attached others (stuck prefix rest) = stuck (yield others ++ prefix) rest

  -- a semicolon begins what comes first
  follows_one : (extra : Terminal → Bool) (u : List (Terminal × D)) (semicolon : Terminal × D) (rest : List (Terminal × D)) → Starts {D = D} productions look_ahead gams_decided Others u → is Semicolon semicolon.0 ≡ true → Follows (λ c. may_begin look_ahead One c || extra c) (u ++ semicolon ∷ rest)
  follows_one extra [] semicolon rest s h = or_left (may_begin look_ahead One semicolon.0) (extra semicolon.0) (or_left (is Semicolon semicolon.0) (false && may_begin look_ahead (the Segment) semicolon.0) h)
  follows_one extra (x ∷ u) semicolon rest s h = or_left (may_begin look_ahead One x.0) (extra x.0) s

  -- what follows the semicolons of a program is read after these too
  join : (others : DerivationTree (Terminal × D)) → IsTree productions Others others → (semicolon : Terminal × D) (rest : List (Terminal × D)) → is Semicolon semicolon.0 ≡ true → (found : Found (Terminal × D)) → Reads productions look_ahead Others (semicolon ∷ rest) found → Reads productions look_ahead Others (yield others ++ semicolon ∷ rest) (attached others found)
  join none is_others semicolon rest h (read tree last) r = r
  join none is_others semicolon rest h (stuck prefix last) r = r
  join (more a b) is_others semicolon rest h found r = by found (join b is_others.1 semicolon rest h found r)
    where
      following : List (Terminal × D)
      following = yield b ++ semicolon ∷ rest

      leads_on : leads productions look_ahead One (yield a ++ following) ≡ true
      leads_on = led productions look_ahead gams_decided One (yield a) following (starts productions look_ahead gams_decided One a is_others.0) refl

      first : Reads productions look_ahead One (yield a ++ following) (read a following)
      first = complete productions look_ahead gams_decided One a is_others.0 AfterOne following decided_one (follows_one (look_ahead.follow Program) (yield b) semicolon rest (starts productions look_ahead gams_decided Others b is_others.1) h)

      by : (found : Found (Terminal × D)) → Reads productions look_ahead Others following (attached b found) → Reads productions look_ahead Others ((yield a ++ yield b) ++ semicolon ∷ rest) (attached (more a b) found)
      by (read tree last) s =
          subst (λ w. Reads productions look_ahead Others w (read (more a (attach b tree)) last)) (sym (append_assoc (yield a) (yield b) (semicolon ∷ rest))) (again leads_on first s)
      by (stuck prefix last) s =
          subst (λ w. Reads productions look_ahead Others ((yield a ++ yield b) ++ semicolon ∷ rest) (stuck w last)) (sym (append_assoc (yield a) (yield b) prefix))
          (subst (λ w. Reads productions look_ahead Others w (stuck (yield a ++ (yield b ++ prefix)) last)) (sym (append_assoc (yield a) (yield b) (semicolon ∷ rest))) (later_stuck leads_on first s))
  join _ is_others semicolon rest h found r = absurd is_others

  -- The tree of a program is that of another, followed by this token and more.
  pub record IsDivided (first whole : DerivationTree (Terminal × D)) (semicolon : Terminal × D) : Type 0 where
    pub segment : DerivationTree (Terminal × D)
    pub others : DerivationTree (Terminal × D)
    pub first_is : first ≡ node (pair segment others)
    pub next : DerivationTree (Terminal × D)
    pub last : DerivationTree (Terminal × D)
    pub whole_is : whole ≡ node (pair segment (attach others (more (pair (leaf semicolon) next) last)))

  module _ (known : D) (segment others whole : DerivationTree (Terminal × D)) (semicolon : Terminal × D) (rest : List (Terminal × D)) (is_segment : IsTree productions (the Segment) segment) (is_others : IsTree productions Others others) (is_whole : IsTree productions (the Program) whole) (is_semicolon : is Semicolon semicolon.0 ≡ true) (agrees : yield whole ≡ (yield segment ++ yield others) ++ semicolon ∷ rest) where
    abbrev Whole : List (Terminal × D)
    Whole = yield whole

    -- the first segment is read
    read_segment : Reads productions look_ahead (the Segment) (yield segment ++ (yield others ++ semicolon ∷ rest)) (read segment (yield others ++ semicolon ∷ rest))
    read_segment =
        complete productions look_ahead gams_decided (the Segment) segment is_segment AfterSegment (yield others ++ semicolon ∷ rest) decided_segment (follows_one (λ c. true && look_ahead.follow Program c) (yield others) semicolon rest (starts productions look_ahead gams_decided Others others is_others) is_semicolon)

    regroup : yield segment ++ (yield others ++ semicolon ∷ rest) ≡ Whole
    regroup = sym (append_assoc (yield segment) (yield others) (semicolon ∷ rest)) ∙ sym agrees

    whole_stops : Stops productions (the Program) Whole Whole []
    whole_stops = gams_read_stops known Program Whole [] whole (gams_complete Program whole is_whole)

    -- the part found after the semicolon is all of the rest
    by_found : (found : Found (Terminal × D)) → Reads productions look_ahead Others (semicolon ∷ rest) found → Reads productions look_ahead Others (yield others ++ semicolon ∷ rest) (attached others found) → IsDivided (node (pair segment others)) whole semicolon
    by_found (stuck prefix last) r s =
        let reads : Reads productions look_ahead (the Program) Whole (stuck (yield segment ++ (yield others ++ prefix)) last) = subst (λ w. Reads productions look_ahead (the Program) w (stuck (yield segment ++ (yield others ++ prefix)) last)) regroup (entered_stuck (second_stuck read_segment s)) in
        let all : yield segment ++ (yield others ++ prefix) ≡ Whole = stops_once productions (the Program) Whole (yield segment ++ (yield others ++ prefix)) last Whole [] (gams_stuck_stops known Program Whole (yield segment ++ (yield others ++ prefix)) last reads) whole_stops in
        absurd (gams_stuck_none known Program Whole (yield segment ++ (yield others ++ prefix)) last reads (record { tree = whole; is_tree = is_whole; yields = sym all }))
    by_found (read tree last) r s =
        let joined : DerivationTree (Terminal × D) = node (pair segment (attach others tree)) in
        let reads : Reads productions look_ahead (the Program) Whole (read joined last) = subst (λ w. Reads productions look_ahead (the Program) w (read joined last)) regroup (entered (both read_segment s)) in
        let stops = gams_read_stops known Program Whole last joined reads in
        let all : yield joined ≡ Whole = stops_once productions (the Program) Whole (yield joined) last Whole [] stops whole_stops in
        let same : joined ≡ whole = gams_unique Program joined whole (gams_read_tree Program Whole last joined reads) is_whole all in
        let nothing : [] ≡ last = after_same Whole [] last (append-nil Whole ∙ stops.parts ∙ ap (λ w. w ++ last) all) in
        let tree_is = sound productions look_ahead r in
        by_tree tree tree_is.0 (tree_is.1 ∙ ap (λ w. yield tree ++ w) (sym nothing) ∙ append-nil (yield tree)) (sym same)
      where
        by_sign : (sign next last : DerivationTree (Terminal × D)) → IsTree productions (token Semicolon) sign → semicolon ∷ rest ≡ (yield sign ++ yield next) ++ yield last → whole ≡ node (pair segment (attach others (more (pair sign next) last))) → IsDivided (node (pair segment others)) whole semicolon
        by_sign (leaf sign) next last h e k =
            let same : sign ≡ semicolon = cc in
            record {
              segment = segment;
              others = others;
              first_is = refl;
              next = next;
              last = last;
              whole_is = k ∙ ap (λ (z : Terminal × D). node (pair segment (attach others (more (pair (leaf z) next) last)))) same;
            }
        by_sign _ next last h e k = absurd h

        by_one : (one last : DerivationTree (Terminal × D)) → IsTree productions One one → semicolon ∷ rest ≡ yield one ++ yield last → whole ≡ node (pair segment (attach others (more one last))) → IsDivided (node (pair segment others)) whole semicolon
        by_one (pair sign next) last h e k = by_sign sign next last h.0 e k
        by_one _ last h e k = absurd h

        by_tree : (tree : DerivationTree (Terminal × D)) → IsTree productions Others tree → semicolon ∷ rest ≡ yield tree → whole ≡ node (pair segment (attach others tree)) → IsDivided (node (pair segment others)) whole semicolon
        by_tree none h e k = absurd (let z : semicolon ∷ rest ≡ [] = e in cc)
        by_tree (more one last) h e k = by_one one last h.0 e k
        by_tree _ h e k = absurd h

    divided_pair : IsDivided (node (pair segment others)) whole semicolon
    divided_pair =
        let f = finds D productions look_ahead gams_decided Others (look_ahead.follow Program) decided_others (semicolon ∷ rest) in
        by_found f.found f.reads (join others is_others semicolon rest is_semicolon f.found f.reads)

  -- A program whose tokens are those of another program, a `;` and more has a tree that begins with
  -- the other's.
  pub divided : (known : D) (first whole : DerivationTree (Terminal × D)) (semicolon : Terminal × D) (rest : List (Terminal × D)) → IsTree productions (the Program) first → IsTree productions (the Program) whole → is Semicolon semicolon.0 ≡ true → yield whole ≡ yield first ++ semicolon ∷ rest → IsDivided first whole semicolon
  divided known (node (pair segment others)) whole semicolon rest is_first is_whole is_semicolon agrees =
      divided_pair known segment others whole semicolon rest is_first.0 is_first.1 is_whole is_semicolon agrees
  divided known (node tree) whole semicolon rest is_first is_whole is_semicolon agrees = absurd is_first
  divided known _ whole semicolon rest is_first is_whole is_semicolon agrees = absurd is_first
