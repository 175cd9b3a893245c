-- Joint sources: a saved source, and a file that continues it; what their tokens and their
-- derivation begin with (GAMS User's Guide, "Save and Restart", "GAMS Programs").
use Rattle.std.specs.Prelude.{◌≡◌, ℕ, ◌+◌, ◌≤◌, ◌==◌, List, [], ◌∷◌, ◌++◌, length, filter, All}
use Rattle.gms_grammar.specs.declared.kind.Kind.TheVariants.{Break, Symbol}
use Rattle.gms_grammar.specs.declared.kind.Sym.TheVariants.{Semicolon}
use Rattle.gms_lex.specs.declared.token.Token.{Token}
use Rattle.gms_lex.specs.Tokens.{end_token}
use Rattle.gms_grammar.specs.declared.terminal.Terminal.{Terminal}
use Rattle.gms_grammar.specs.declared.terminal.Terminal.TheVariants.{End}
use Rattle.gms_grammar.specs.Grammar.{the, DerivationTree, leaf, pair, more, node, yield, IsTree}
use Rattle.gms_grammar.specs.GamsGrammar.{Program, productions}
use Rattle.gms_expressions.specs.Outcomes.{kinded_tokens}

-- the joint source of a saved source and a file that continues it: the saved source, a line end, a
-- line with `;`, and the file
abbrev pub joint_source : List ℕ → List ℕ → List ℕ
joint_source saved file = saved ++ (10 ∷ 59 ∷ 10 ∷ file)

-- the number, from 1, of the line of a joint source at which the file that continues the saved
-- source begins
abbrev pub first_line : List ℕ → ℕ
first_line saved = length (filter (λ byte. byte == 10) saved) + 3

-- The tokens `joint` of a joint source begin with the saved source's tokens, `tokens`, without its
-- end token. Line ends that are tokens may follow, then a `;`, and then other tokens. The other
-- tokens begin at byte `length saved + 3` of the joint source, where the file begins that continues
-- the saved source, or later.
pub record HaveJointPrefix (saved : List ℕ) (tokens joint : List Token) : Type 0 where
  pub own : List Token
  pub tokens_are : tokens ≡ own ++ end_token saved ∷ []
  pub ends : List Token
  pub semicolon : Token
  pub others : List Token
  pub joint_are : joint ≡ own ++ ends ++ semicolon ∷ others
  pub are_ends : All (λ (token : Token). token.kind ≡ Break) ends
  pub is_semicolon : semicolon.kind ≡ Symbol Semicolon
  pub below : All (λ (token : Token). length saved + 3 ≤ token.start) others

-- The tokens of a source, with their kinds, are those of `tree`, a derivation tree of a program,
-- followed by the token of the source's end.
pub record DerivesSource (source : List ℕ) (tokens : List Token) (tree : DerivationTree (Terminal × Token)) : Type 0 where
  pub end : Token
  pub is_tree : IsTree productions (the Program) tree
  pub yields : kinded_tokens source tokens ≡ yield tree ++ (End, end) ∷ []

-- a repetition with another one, `tree`, appended. The items of both are a `;` with a segment of
-- statements after it
abbrev pub attach : {T : Type 0} → DerivationTree T → DerivationTree T → DerivationTree T
attach (more first others) tree = more first (attach others tree)
attach _ tree = tree

-- The derivation `whole` of a program begins with the derivation `first` of another: it has the
-- same segments of statements, and then a `;` and further segments. Each segment except the first
-- follows a `;`.
pub record BeginsWith (whole first : DerivationTree (Terminal × Token)) : Type 0 where
  pub segment : DerivationTree (Terminal × Token)
  pub others : DerivationTree (Terminal × Token)
  pub first_is : first ≡ node (pair segment others)
  pub semicolon : Terminal × Token
  pub next : DerivationTree (Terminal × Token)
  pub last : DerivationTree (Terminal × Token)
  pub whole_is : whole ≡ node (pair segment (attach others (more (pair (leaf semicolon) next) last)))
