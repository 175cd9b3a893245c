-- The numbers of the kinds of tokens are their tags.
use Rattle.std.proofs.Common.{◌≡◌, ℕ, ◌==◌, ◌||◌, List, [], ◌∷◌, refl, sym, ap₂, ◌∙◌}
use Rattle.std.specs.List.{list_any}
use Rattle.std.proofs.lemmas.Bool.{eqb-true, eq-eqb}
use denote.Enum.Declared.{tag_of}
use Rattle.gms_grammar.specs.declared.terminal.Terminal.{Terminal}
use Rattle.gms_grammar.specs.declared.terminal.Terminal.TheVariants.{Abort}
use Rattle.gms_grammar.specs.contracts.terminal.Terminal.{the_type}
use Rattle.gms_grammar.specs.Terminals.{terminal_number, is, is_terminal_among}
use Rattle.gms_grammar.proofs.Checks.{either_way}

tag-number_of : (kind : Terminal) → tag_of the_type kind ≡ terminal_number kind
tag-number_of Abort = refl
tag-number_of _ = refl

-- two kinds have the same tag where they are the same
pub same_tag : (kind other : Terminal) → (tag_of the_type kind == tag_of the_type other) ≡ is kind other
same_tag kind other = ap₂ (λ m n. m == n) (tag-number_of kind) (tag-number_of other)

swapped : (m n : ℕ) → (m == n) ≡ (n == m)
swapped m n = either_way (m == n) (n == m) (λ h. eq-eqb n m (sym (eqb-true m n h))) (λ h. eq-eqb m n (sym (eqb-true n m h)))

-- a kind is among some where one of these has its tag
pub tag_among : (kind : Terminal) (kinds : List Terminal) → list_any (λ other. tag_of the_type other == tag_of the_type kind) kinds ≡ is_terminal_among kinds kind
tag_among kind [] = refl
tag_among kind (other ∷ kinds) =
    ap₂ (λ a b. a || b) (same_tag other kind ∙ swapped (terminal_number other) (terminal_number kind)) (tag_among kind kinds)
