-- The production of a statement that begins with a name derives assignments and definitions in
-- their plain form.
use Rattle.std.proofs.Common.{◌↔◌, List, ◌++◌, append_assoc}
use Rattle.gms_grammar.specs.declared.terminal.Terminal.{Terminal}
use Rattle.gms_grammar.specs.declared.terminal.Terminal.TheVariants.{Comma, DotDot, LeftParen, RightParen, Text}
use Rattle.gms_grammar.specs.Grammar.{Part, the, ◌·◌, ◌∣◌, opt, many, Derives}
use Rattle.gms_grammar.specs.GamsGrammar.{Nonterminal, Index, Condition, NamedStatement, HeadIndices, AfterHeadIndex, AfterTarget, Sides, token, name, productions}
use Rattle.gms_grammar.specs.PlainGrammar.{plain_named}
use Rattle.gms_grammar.proofs.Basics.{end_nil}
use Rattle.gms_grammar.proofs.Deriving.{whole, both, first, second, absent, present, over, again, same, derive_alike}
use Rattle.gms_grammar.proofs.Plain.{Gams, one_more}

-- an index of a definition
abbrev plain_index : Part Terminal Nonterminal
plain_index = token Text ∣ name

-- what follows the indices of a definition
abbrev plain_rest : Part Terminal Nonterminal
plain_rest = opt (the Condition) · token DotDot · the Sides

-- indices up to the closing parenthesis, and what follows it
abbrev indexed : Part Terminal Nonterminal → Part Terminal Nonterminal → Part Terminal Nonterminal
indexed index rest = index · many (token Comma · index) · token RightParen · rest

-- those of what is assigned, or of what is defined
abbrev either : Part Terminal Nonterminal
either = indexed (the Index) (the AfterTarget) ∣ indexed plain_index plain_rest

module _ {D : Type 0} where
  -- an index that is plain, in both forms
  abbrev Plain : List (Terminal × D) → Type 0
  Plain tokens = Gams (the Index) tokens × Gams plain_index tokens

  -- one more index at the start
  prefix_of : {u v w : List (Terminal × D)} → Plain u → Gams (token Comma) v → Gams either w → Gams either (u ++ (v ++ w))
  prefix_of index comma (first others) = first (one_more index.0 comma others)
  prefix_of index comma (second others) = second (one_more index.1 comma others)

  plain_name : {tokens : List (Terminal × D)} → Gams name tokens → Plain tokens
  plain_name word = (same productions (whole (second (both word absent))) (simp end_nil), second word)

  mutual
    -- the indices that begin a statement
    heads : {tokens : List (Terminal × D)} → Gams (the HeadIndices) tokens → Gams either tokens
    heads (whole (first (both text following))) = after_index (whole (first text), first text) following
    heads (whole (second (both word (whole (first (both lag (whole rest))))))) = first (same productions (both (whole (second (both word (present lag)))) rest) (simp append_assoc))
    heads (whole (second (both word (whole (second following))))) = after_index (plain_name word) following

    after_index : {u v : List (Terminal × D)} → Plain u → Gams (the AfterHeadIndex) v → Gams either (u ++ v)
    after_index index (whole (first (both comma others))) = prefix_of index comma (heads others)
    after_index index (whole (second (both closing (whole (both condition (first rest)))))) = first (both index.0 (both over (both closing (whole (both condition rest)))))
    after_index index (whole (second (both closing (whole (both condition (second rest)))))) = second (both index.1 (both over (both closing (both condition rest))))

  of_either : {u v w : List (Terminal × D)} → Gams name u → Gams (token LeftParen) v → Gams either w → Gams plain_named (u ++ (v ++ w))
  of_either word opening (first (both a (both others (both closing rest)))) =
      first (whole (same productions (both (whole (both word (both absent (present (both opening (both (whole (both a others)) closing)))))) rest) (simp append_assoc)))
  of_either word opening (second (both a (both others (both closing rest)))) =
      second (same productions (both word (both (present (both opening (both (both a others) closing))) rest)) (simp append_assoc))

  named_plain : {tokens : List (Terminal × D)} → Gams (the NamedStatement) tokens → Gams plain_named tokens
  named_plain (whole (both word (whole (first (both dotted (both indices rest)))))) =
      first (whole (same productions (both (whole (both word (both (present dotted) indices))) rest) (simp append_assoc)))
  named_plain (whole (both word (whole (second (first (both opening indices)))))) = of_either word opening (heads indices)
  named_plain (whole (both word (whole (second (second (whole (both condition (first rest)))))))) =
      first (whole (same productions (both (whole (both word (both absent absent))) (whole (both condition rest))) (simp end_nil)))
  named_plain (whole (both word (whole (second (second (whole (both condition (second rest)))))))) = second (both word (both absent (both condition rest)))

  -- what follows an index, if a comma and another index do
  followed : {u : List (Terminal × D)} (v w x : List (Terminal × D)) → Gams (token Comma) u → Gams (the HeadIndices) (v ++ (w ++ x)) → Gams (the AfterHeadIndex) (((u ++ v) ++ w) ++ x)
  followed v w x comma others = same productions (whole (first (both comma others))) (simp append_assoc)

  -- an index of an assigned symbol before others, in the form of the table
  assigned : {u v w x : List (Terminal × D)} → Gams (the Index) u → Gams (many (token Comma · the Index)) v → Gams (token RightParen) w → Gams (the AfterTarget) x → Gams (the AfterHeadIndex) (v ++ (w ++ x)) → Gams (the HeadIndices) (u ++ (v ++ (w ++ x)))
  assigned (whole (first text)) others closing rest following = whole (first (both text following))
  assigned (whole (second (both word absent))) others closing rest following = same productions (whole (second (both word (whole (second following))))) (simp end_nil)
  assigned (whole (second (both word (present lag)))) others closing rest following =
      same productions (whole (second (both word (whole (first (both lag (whole (both others (both closing rest))))))))) (simp append_assoc)

  assigned_after : {v w x : List (Terminal × D)} → Gams (many (token Comma · the Index)) v → Gams (token RightParen) w → Gams (the AfterTarget) x → Gams (the AfterHeadIndex) (v ++ (w ++ x))
  assigned_after over closing (whole (both condition rest)) = whole (second (both closing (whole (both condition (first rest)))))
  assigned_after (again (both comma a) others) closing rest =
      followed _ _ _ comma (assigned a others closing rest (assigned_after others closing rest))

  -- an index of a defined equation before others
  defined : {u v : List (Terminal × D)} → Gams plain_index u → Gams (the AfterHeadIndex) v → Gams (the HeadIndices) (u ++ v)
  defined (first text) following = whole (first (both text following))
  defined (second word) following = whole (second (both word (whole (second following))))

  defined_after : {v w x : List (Terminal × D)} → Gams (many (token Comma · plain_index)) v → Gams (token RightParen) w → Gams plain_rest x → Gams (the AfterHeadIndex) (v ++ (w ++ x))
  defined_after over closing (both condition rest) = whole (second (both closing (whole (both condition (second rest)))))
  defined_after (again (both comma a) others) closing rest = followed _ _ _ comma (defined a (defined_after others closing rest))

  -- a name with indices before what follows them
  with_heads : {u v w : List (Terminal × D)} → Gams name u → Gams (token LeftParen) v → Gams (the HeadIndices) w → Gams (the NamedStatement) (u ++ (v ++ w))
  with_heads word opening indices = whole (both word (whole (second (first (both opening indices)))))

  named_table : {tokens : List (Terminal × D)} → Gams plain_named tokens → Gams (the NamedStatement) tokens
  named_table (first (whole (both (whole (both word (both (present dotted) indices))) rest))) =
      same productions (whole (both word (whole (first (both dotted (both indices rest)))))) (simp append_assoc)
  named_table (first (whole (both (whole (both word (both absent absent))) (whole (both condition rest))))) =
      same productions (whole (both word (whole (second (second (whole (both condition (first rest)))))))) (simp end_nil)
  named_table (first (whole (both (whole (both word (both absent (present (both opening (both (whole (both a others)) closing)))))) rest))) =
      same productions (with_heads word opening (assigned a others closing rest (assigned_after others closing rest))) (simp append_assoc)
  named_table (second (both word (both absent (both condition rest)))) = whole (both word (whole (second (second (whole (both condition (second rest)))))))
  named_table (second (both word (both (present (both opening (both (both a others) closing))) rest))) =
      same productions (with_heads word opening (defined a (defined_after others closing rest))) (simp append_assoc)

  pub named_derives : (tokens : List (Terminal × D)) → Derives productions (the NamedStatement) tokens ↔ Derives productions plain_named tokens
  named_derives = derive_alike productions (the NamedStatement) plain_named (λ tokens h. named_plain h) (λ tokens h. named_table h)
