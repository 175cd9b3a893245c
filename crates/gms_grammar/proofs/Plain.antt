-- The productions that were brought into another form derive what the plain ones derive.
use Rattle.std.proofs.Common.{◌↔◌, List, ◌++◌, append_assoc}
use Rattle.gms_grammar.specs.declared.terminal.Terminal.{Terminal}
use Rattle.gms_grammar.specs.declared.terminal.Terminal.TheVariants.{Comma, Semicolon, Break}
use Rattle.gms_grammar.specs.Grammar.{Part, the, ◌·◌, ◌∣◌, opt, many, Derives}
use Rattle.gms_grammar.specs.GamsGrammar.{Nonterminal, InnerStatement, LoopBody, SetItems, SetItem, ParameterItems, ParameterItem, ScalarItems, ScalarItem, PlainItems, PlainItem, ModelItems, ModelItem, token, items, productions}
use Rattle.gms_grammar.specs.PlainGrammar.{plain_body, plain_items}
use Rattle.gms_grammar.proofs.Basics.{end_nil}
use Rattle.gms_grammar.proofs.Deriving.{Has, both, first, second, whole, absent, present, over, again, same, derive_alike}

-- the items of a declaration, by what they are items of
pub data ItemsOf : Nonterminal → Nonterminal → Type 0 where
  sets : ItemsOf SetItem SetItems
  parameters : ItemsOf ParameterItem ParameterItems
  scalars : ItemsOf ScalarItem ScalarItems
  plain : ItemsOf PlainItem PlainItems
  models : ItemsOf ModelItem ModelItems

abbrev separator : Part Terminal Nonterminal
separator = token Comma ∣ token Break

module _ {D : Type 0} where
  -- tokens that a part derives
  abbrev pub Gams : Part Terminal Nonterminal → List (Terminal × D) → Type 0
  Gams = Has productions

  -- one more part before others, with a separator between them
  pub one_more : {p joint last : Part Terminal Nonterminal} {u v w : List (Terminal × D)} → Gams p u → Gams joint v → Gams (p · many (joint · p) · last) w → Gams (p · many (joint · p) · last) (u ++ (v ++ w))
  one_more a j (both b (both others end)) = same productions (both a (both (again (both j b) others) end)) (simp append_assoc)

  -- the body of a loop in its plain form
  body_plain : {tokens : List (Terminal × D)} → Gams (the LoopBody) tokens → Gams plain_body tokens
  body_plain (whole (both a absent)) = both a (both over absent)
  body_plain (whole (both a (present (both semicolon absent)))) = same productions (both a (both over (present semicolon))) (simp end_nil)
  body_plain (whole (both a (present (both semicolon (present rest))))) = one_more a semicolon (body_plain rest)

  -- and in the form of the table
  body_from : {v : List (Terminal × D)} → Gams (many (token Semicolon · the InnerStatement)) v → {u w : List (Terminal × D)} → Gams (the InnerStatement) u → Gams (opt (token Semicolon)) w → Gams (the LoopBody) (u ++ (v ++ w))
  body_from over a absent = whole (both a absent)
  body_from over a (present semicolon) = same productions (whole (both a (present (both semicolon absent)))) (simp end_nil)
  body_from (again (both semicolon b) others) a end =
      same productions (whole (both a (present (both semicolon (present (body_from others b end)))))) (simp append_assoc)

  body_table : {tokens : List (Terminal × D)} → Gams plain_body tokens → Gams (the LoopBody) tokens
  body_table (both a (both others end)) = body_from others a end

  pub body_derives : (tokens : List (Terminal × D)) → Derives productions (the LoopBody) tokens ↔ Derives productions plain_body tokens
  body_derives = derive_alike productions (the LoopBody) plain_body (λ tokens h. body_plain h) (λ tokens h. body_table h)

  mutual
    -- items in their plain form
    items_plain : {item more : Nonterminal} {tokens : List (Terminal × D)} → ItemsOf item more → Gams (the more) tokens → Gams (plain_items item) tokens
    items_plain sets (whole h) = items_in sets h
    items_plain parameters (whole h) = items_in parameters h
    items_plain scalars (whole h) = items_in scalars h
    items_plain plain (whole h) = items_in plain h
    items_plain models (whole h) = items_in models h

    items_in : {item more : Nonterminal} {tokens : List (Terminal × D)} → ItemsOf item more → Gams (items item more) tokens → Gams (plain_items item) tokens
    items_in is (both a absent) = both a (both over absent)
    items_in is (both a (present (first (both comma rest)))) = one_more a (first comma) (items_plain is rest)
    items_in is (both a (present (second (both line_end absent)))) = same productions (both a (both over (present line_end))) (simp end_nil)
    items_in is (both a (present (second (both line_end (present rest))))) = one_more a (second line_end) (items_plain is rest)

  -- and in the form of the table
  of_items : {item more : Nonterminal} {tokens : List (Terminal × D)} → ItemsOf item more → Gams (items item more) tokens → Gams (the more) tokens
  of_items sets h = whole h
  of_items parameters h = whole h
  of_items scalars h = whole h
  of_items plain h = whole h
  of_items models h = whole h

  items_from : {item more : Nonterminal} {v : List (Terminal × D)} → ItemsOf item more → Gams (many (separator · the item)) v → {u w : List (Terminal × D)} → Gams (the item) u → Gams (opt (token Break)) w → Gams (items item more) (u ++ (v ++ w))
  items_from is over a absent = both a absent
  items_from is over a (present line_end) = same productions (both a (present (second (both line_end absent)))) (simp end_nil)
  items_from is (again (both (first comma) b) others) a end =
      same productions (both a (present (first (both comma (of_items is (items_from is others b end)))))) (simp append_assoc)
  items_from is (again (both (second line_end) b) others) a end =
      same productions (both a (present (second (both line_end (present (of_items is (items_from is others b end))))))) (simp append_assoc)

  items_table : {item more : Nonterminal} {tokens : List (Terminal × D)} → ItemsOf item more → Gams (plain_items item) tokens → Gams (the more) tokens
  items_table is (both a (both others end)) = of_items is (items_from is others a end)

  pub items_derive : {item more : Nonterminal} → ItemsOf item more → (tokens : List (Terminal × D)) → Derives productions (the more) tokens ↔ Derives productions (plain_items item) tokens
  items_derive {item = item} {more = more} is = derive_alike productions (the more) (plain_items item) (λ tokens h. items_plain is h) (λ tokens h. items_table is h)
