-- Kinds of tokens, told apart.
use Rattle.std.proofs.Common.{◌≡◌, Bool, true, false, not, ◌||◌, List, [], ◌∷◌, refl, sym, ap, ◌∙◌, get_or}
use Rattle.gms_grammar.specs.declared.terminal.Terminal.{Terminal}
use Rattle.gms_grammar.specs.declared.terminal.Terminal.TheVariants.{Abort, LeftParen, RightParen, Name, Suffix, Text, Number, Dot, End}
use Rattle.gms_grammar.specs.LookAhead.{may_begin}
use Rattle.gms_grammar.specs.Reading.{leads}
use Rattle.gms_grammar.specs.Terminals.{terminal_number, terminals, is_terminal_among}
use Rattle.gms_grammar.specs.GamsGrammar.{productions}
use Rattle.gms_grammar.specs.GamsLookAhead.{look_ahead}
use Rattle.gms_grammar.proofs.Checks.{every, alike, is_alike, implied}
use Rattle.gms_grammar.proofs.Decided.{all_kinds}
use Rattle.gms_expressions.specs.InnerReadings.{Seen, GamsPart, kind_of}

-- a token of the kind opens and closes nothing, enters nothing, is no dot and no number
abbrev pub is_plain : Terminal → Bool
is_plain kind = not (is_terminal_among (LeftParen ∷ RightParen ∷ Name ∷ Suffix ∷ Text ∷ Number ∷ Dot ∷ []) kind)

-- each kind that passes a test passes another
abbrev pub implies : (Terminal → Bool) → (Terminal → Bool) → Bool
implies test other = every terminals (λ kind. not (test kind) || other kind)

pub also : (test other : Terminal → Bool) → implies test other ≡ true → (kind : Terminal) → test kind ≡ true → other kind ≡ true
also test other h kind k = implied (test kind) (other kind) (all_kinds (λ kind. not (test kind) || other kind) h kind) k

-- two tests are the same
pub same_test : (test other : Terminal → Bool) → every terminals (λ kind. alike (test kind) (other kind)) ≡ true → (kind : Terminal) → test kind ≡ other kind
same_test test other h kind = is_alike _ _ (all_kinds (λ kind. alike (test kind) (other kind)) h kind)

occurs_at : (kind : Terminal) → get_or terminals (terminal_number kind) Abort ≡ kind
occurs_at Abort = refl
occurs_at _ = refl

-- kinds of the same number are the same
pub same_number : (a b : Terminal) → terminal_number a ≡ terminal_number b → a ≡ b
same_number a b e = sym (occurs_at a) ∙ ap (λ n. get_or terminals n Abort) e ∙ occurs_at b

-- the kind of the first token determines whether tokens lead into a part
pub leads_by_kind : (part : GamsPart) (tokens : List Seen) → may_begin look_ahead part End ≡ false → leads productions look_ahead part tokens ≡ may_begin look_ahead part (kind_of tokens)
leads_by_kind part [] h = sym h
leads_by_kind part (token ∷ tokens) h = refl
