-- The production of a program derives what the plain one derives.
use Rattle.std.proofs.Common.{◌↔◌, List, ◌++◌, append_assoc}
use Rattle.gms_grammar.specs.declared.terminal.Terminal.{Terminal}
use Rattle.gms_grammar.specs.declared.terminal.Terminal.TheVariants.{Semicolon}
use Rattle.gms_grammar.specs.Grammar.{Part, the, ◌·◌, ◌∣◌, opt, many, Derives}
use Rattle.gms_grammar.specs.GamsGrammar.{Nonterminal, Program, Segment, NamedStatement, KeywordStatement, token, productions}
use Rattle.gms_grammar.specs.PlainGrammar.{statement, plain_program}
use Rattle.gms_grammar.proofs.Deriving.{whole, both, first, second, absent, present, over, again, same, derive_alike}
use Rattle.gms_grammar.proofs.Plain.{Gams}

-- what comes again in a program in its plain form
abbrev step : Part Terminal Nonterminal
step = token Semicolon · opt statement ∣ the KeywordStatement

-- what comes again in the form of the table
abbrev segment : Part Terminal Nonterminal
segment = token Semicolon · the Segment

-- statements in the form of the table: some with keywords, and segments after semicolons
abbrev segments : Part Terminal Nonterminal
segments = many (the KeywordStatement) · many segment

module _ {D : Type 0} where
  -- perhaps a statement at the start
  segmented : {u v : List (Terminal × D)} → Gams (opt statement) u → Gams segments v → Gams (the Segment · many segment) (u ++ v)
  segmented absent (both keyworded others) = both (whole (both absent keyworded)) others
  segmented (present (first named)) (both keyworded others) = same productions (both (whole (both (present named) keyworded)) others) (simp append_assoc)
  segmented (present (second keyword)) (both keyworded others) =
      same productions (both (whole (both absent (again keyword keyworded))) others) (simp append_assoc)

  after_semicolon : {u v : List (Terminal × D)} → Gams (token Semicolon) u → Gams (the Segment · many segment) v → Gams segments (u ++ v)
  after_semicolon semicolon (both a others) = same productions (both over (again (both semicolon a) others)) (simp append_assoc)

  with_keyword : {u v : List (Terminal × D)} → Gams (the KeywordStatement) u → Gams segments v → Gams segments (u ++ v)
  with_keyword keyword (both keyworded others) = same productions (both (again keyword keyworded) others) (simp append_assoc)

  -- what comes again, in the form of the table
  steps_segments : {tokens : List (Terminal × D)} → Gams (many step) tokens → Gams segments tokens
  steps_segments over = both over over
  steps_segments (again (first (both semicolon t)) others) =
      same productions (after_semicolon semicolon (segmented t (steps_segments others))) (simp append_assoc)
  steps_segments (again (second keyword) others) = with_keyword keyword (steps_segments others)

  program_table : {tokens : List (Terminal × D)} → Gams plain_program tokens → Gams (the Program) tokens
  program_table (both a others) = whole (segmented a (steps_segments others))

  keyword_steps : {u v : List (Terminal × D)} → Gams (many (the KeywordStatement)) u → Gams (many step) v → Gams (many step) (u ++ v)
  keyword_steps over steps = steps
  keyword_steps (again keyword others) steps = same productions (again (second keyword) (keyword_steps others steps)) (simp append_assoc)

  -- the statement at the start of a segment
  prefix : {tokens : List (Terminal × D)} → Gams (opt (the NamedStatement)) tokens → Gams (opt statement) tokens
  prefix absent = absent
  prefix (present named) = present (first named)

  segment_steps : {tokens : List (Terminal × D)} → Gams (many segment) tokens → Gams (many step) tokens
  segment_steps over = over
  segment_steps (again (both semicolon (whole (both named keyworded))) others) =
      same productions (again (first (both semicolon (prefix named))) (keyword_steps keyworded (segment_steps others))) (simp append_assoc)

  program_plain : {tokens : List (Terminal × D)} → Gams (the Program) tokens → Gams plain_program tokens
  program_plain (whole (both (whole (both named keyworded)) others)) =
      same productions (both (prefix named) (keyword_steps keyworded (segment_steps others))) (simp append_assoc)

  pub program_derives : (tokens : List (Terminal × D)) → Derives productions (the Program) tokens ↔ Derives productions plain_program tokens
  program_derives = derive_alike productions (the Program) plain_program (λ tokens h. program_plain h) (λ tokens h. program_table h)
