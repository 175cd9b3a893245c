-- One token decides the grammar of the language: the check is computed.
use Rattle.std.proofs.Common.{◌≡◌, ltb, Bool, true, List, [], ◌∷◌, length, get_or, refl, sym, ap, ◌∙◌, inl, inr, ltb-true}
use Rattle.std.proofs.lemmas.Bool.{eqb-true, or_cases, and_parts}
use Rattle.gms_grammar.specs.declared.terminal.Terminal.{Terminal}
use Rattle.gms_grammar.specs.declared.terminal.Terminal.TheVariants.{Abort}
use Rattle.gms_grammar.specs.LookAhead.{DecidesEach}
use Rattle.gms_grammar.specs.Terminals.{terminal_number, terminals, is, is_terminal_among}
use Rattle.gms_grammar.specs.GamsGrammar.{Nonterminal, Expression, productions}
use Rattle.gms_grammar.specs.GamsLookAhead.{firsts, follows, look_ahead}
use Rattle.gms_grammar.proofs.Checks.{every, every_at, right_and, Covers, IsRight, decides_each}

occurs_at : (kind : Terminal) → get_or terminals (terminal_number kind) Abort ≡ kind
occurs_at Abort = refl
occurs_at _ = refl

is_below : (kind : Terminal) → ltb (terminal_number kind) (length terminals) ≡ true
is_below Abort = refl
is_below _ = refl

-- what holds of each kind of the list holds of each kind
pub all_kinds : (test : Terminal → Bool) → every terminals test ≡ true → (kind : Terminal) → test kind ≡ true
all_kinds test h kind =
    ap test (sym (occurs_at kind)) ∙ every_at terminals test (terminal_number kind) Abort h (ltb-true (terminal_number kind) (length terminals) (is_below kind))

same_kind : (kind other : Terminal) → is kind other ≡ true → kind ≡ other
same_kind kind other h = sym (occurs_at kind) ∙ ap (λ n. get_or terminals n Abort) (eqb-true _ _ h) ∙ occurs_at other

-- what holds of each kind of a list holds of those that are among them
covers_among : (kinds : List Terminal) → Covers (is_terminal_among kinds) kinds
covers_among [] test h kind k = cc
covers_among (x ∷ kinds) test h kind k =
    elim (or_cases (is kind x) (is_terminal_among kinds kind) k) [
      | inl same ↦ ap test (same_kind kind x same) ∙ (and_parts _ _ h).0
      | inr later ↦ covers_among kinds test (right_and (test x) _ h) kind later
    ]

all_right : (n : Nonterminal) → IsRight terminals productions look_ahead firsts follows n
all_right Expression = (refl, refl, refl, refl, refl)
all_right _ = (refl, refl, refl, refl, refl)

-- one token decides each production
pub gams_decided : DecidesEach look_ahead productions
gams_decided =
    decides_each terminals productions look_ahead firsts follows all_kinds (λ n. covers_among (firsts n)) (λ n. covers_among (follows n)) all_right
