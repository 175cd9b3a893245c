-- The terms of a row that has some, and of one that has none.
use Rattle.std.proofs.Common.{◌≡◌, ℕ, ◌<◌, List, [], ◌∷◌, codes, length, flat_map, refl, arith}
use Rattle.gq_number.specs.Number.{Number}
use Rattle.lp_core.specs.declared.program.Lp.{Lp}
use Rattle.lp_core.specs.Numbers.{entries_numbers}
use Rattle.gms_list.specs.SolveText.{term_text, terms_text}

pub no_terms : {F : Type 0} (names labels : List (List ℕ)) (limit : ℕ) (lp : Lp Number) (value : F → Number) (entries : List (ℕ × F)) → length entries ≡ 0 → codes " 0" ≡ terms_text names labels limit lp (entries_numbers value entries)
no_terms names labels limit lp value [] h = refl
no_terms names labels limit lp value (e ∷ es) h = absurd (omega (arith, h))

pub some_terms : {F : Type 0} (names labels : List (List ℕ)) (limit : ℕ) (lp : Lp Number) (value : F → Number) (entries : List (ℕ × F)) → 0 < length entries →
    flat_map (term_text names labels limit lp) (entries_numbers value entries) ≡ terms_text names labels limit lp (entries_numbers value entries)
some_terms names labels limit lp value [] h = absurd (omega (arith, h))
some_terms names labels limit lp value (e ∷ es) h = refl
