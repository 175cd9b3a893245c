-- Each tree is what a reader finds in its tokens, and derivations are unique.
use Rattle.std.proofs.Common.{◌≡◌, Bool, ◌||◌, List, [], ◌++◌, sym, ap, subst, append_assoc}
use Rattle.gms_grammar.specs.Grammar.{Part, one, the, ◌·◌, ◌∣◌, opt, many, DerivationTree, leaf, pair, left, right, none, some, more, node, yield, IsTree}
use Rattle.gms_grammar.specs.LookAhead.{LookAhead, may_begin, may_come_next, IsDecided, DecidesEach}
use Rattle.gms_grammar.specs.Reading.{read, Reads, taken, entered, both, in_left, in_right, left_out, there, no_more, again}
use Rattle.gms_grammar.proofs.Basics.{end_nil}
use Rattle.gms_grammar.proofs.Starts.{Follows, starts, follows_part, follows_more, led, not_led, not_led_after}
use Rattle.gms_grammar.proofs.Only.{only}

module _ {C N D : Type 0} (production : N → Part C N) (ahead : LookAhead C N) (ok : DecidesEach ahead production) where
  -- a reader finds the tree before tokens that may follow
  pub complete : (part : Part C N) (tree : DerivationTree (C × D)) → IsTree production part tree → (after : C → Bool) (following : List (C × D)) → IsDecided ahead part after → Follows after following → Reads production ahead part (yield tree ++ following) (read tree following)
  complete (one test) (leaf token) h after following d f = taken h
  complete (the n) (node tree) h after following d f =
      entered (complete (production n) tree h (ahead.follow n) following (ok.decided n) (follows_more production ahead ok _ _ _ d f))
  complete (p · q) (pair a b) h after following d f =
      subst (λ w. Reads production ahead (p · q) w (read (pair a b) following)) (sym (append_assoc (yield a) (yield b) following))
      (both
      (complete p a h.0 (may_come_next ahead q after) (yield b ++ following) d.0 (follows_part production ahead ok q after (yield b) following (starts production ahead ok q b h.1) f))
      (complete q b h.1 after following d.1 f))
  complete (p ∣ q) (left tree) h after following d f =
      in_left (led production ahead ok p (yield tree) following (starts production ahead ok p tree h) d.0) (complete p tree h after following d.3 f)
  complete (p ∣ q) (right tree) h after following d f =
      let first = starts production ahead ok q tree h in
      in_right (not_led production ahead ok p q (yield tree) following first d.1 d.2) (led production ahead ok q (yield tree) following first d.1)
      (complete q tree h after following d.4 f)
  complete (opt p) none h after following d f = left_out (not_led_after production ahead ok p after following f d.1)
  complete (opt p) (some tree) h after following d f =
      there (led production ahead ok p (yield tree) following (starts production ahead ok p tree h) d.0) (complete p tree h after following d.2 f)
  complete (many p) none h after following d f = no_more (not_led_after production ahead ok p after following f d.1)
  complete (many p) (more a b) h after following d f =
      subst (λ w. Reads production ahead (many p) w (read (more a b) following)) (sym (append_assoc (yield a) (yield b) following))
      (again (led production ahead ok p (yield a) (yield b ++ following) (starts production ahead ok p a h.0) d.0)
      (complete p a h.0 (λ c. may_begin ahead p c || after c) (yield b ++ following) d.2 (follows_part production ahead ok (many p) after (yield b) following (starts production ahead ok (many p) b h.1) f))
      (complete (many p) b h.1 after following d f))
  complete _ _ h after following d f = absurd h

  -- a reader finds the tree in the tokens of a tree alone
  pub complete_alone : (part : Part C N) (tree : DerivationTree (C × D)) → IsTree production part tree → (after : C → Bool) → IsDecided ahead part after → Reads production ahead part (yield tree) (read tree [])
  complete_alone part tree h after d =
      subst (λ w. Reads production ahead part w (read tree [])) (end_nil (yield tree)) (complete part tree h after [] d tt)

  -- two trees of a part over the same tokens are the same
  pub unique : (part : Part C N) (first other : DerivationTree (C × D)) → IsTree production part first → IsTree production part other → (after : C → Bool) → IsDecided ahead part after → yield other ≡ yield first → other ≡ first
  unique part first other h k after d e =
      only production ahead ok (complete_alone part first h after d) after d other [] []
      (record { is_tree = k; follows = tt; goes = tt; agrees = ap (λ w. w ++ []) e })
