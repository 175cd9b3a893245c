use Rattle.std.proofs.Common.{◌≡◌, ◌∙◌, ◌<◌, ◌^◌, ◌&&◌, ◌++◌, ◌∷◌, ℕ, Bool, true, List, codes, decimal, refl, arith}
use Rattle.std.specs.Prelude.{nat_le}
use Rattle.std.proofs.lemmas.Bool.{leb-true, and_parts}
use Rattle.gms_store.specs.declared.settings.Settings.{Settings}
use Rattle.gms_save_text.specs.SavedState.{switch_text, settings_line}
use Rattle.gms_save_text.specs.Validity.{are_in_range}
use Rattle.gms_save_text.specs.Reading.{unplaced}
use Rattle.gms_save_text.proofs.Finding.{handed_on}
use Rattle.gms_save_text.proofs.Lines.{line_prefix, line_item, line_last}
use Rattle.gms_save_text.proofs.whole.settings_at.Goals as goal

-- the text after the items of the line
abbrev after_solver : List ℕ → List ℕ → List ℕ
after_solver solver rest = solver ++ 10 ∷ rest

abbrev at_solprint : Settings → List ℕ → List ℕ → List ℕ
at_solprint s solver rest = switch_text s.solprint ++ 32 ∷ after_solver solver rest

abbrev at_decimals : Settings → List ℕ → List ℕ → List ℕ
at_decimals s solver rest = decimal s.decimals ++ 32 ∷ at_solprint s solver rest

abbrev at_iterlim : Settings → List ℕ → List ℕ → List ℕ
at_iterlim s solver rest = decimal s.iterlim ++ 32 ∷ at_decimals s solver rest

abbrev at_limcol : Settings → List ℕ → List ℕ → List ℕ
at_limcol s solver rest = decimal s.limcol ++ 32 ∷ at_iterlim s solver rest

abbrev at_limrow : Settings → List ℕ → List ℕ → List ℕ
at_limrow s solver rest = decimal s.limrow ++ 32 ∷ at_limcol s solver rest

-- the line, item by item
line : (s : Settings) (solver rest : List ℕ) → settings_line s solver ++ rest ≡ codes "settings " ++ at_limrow s solver rest
line s solver rest =
    line_prefix (codes "settings ") (decimal s.limrow ++ 32 ∷ (decimal s.limcol ++ 32 ∷ (decimal s.iterlim ++ 32 ∷ (decimal s.decimals ++ 32 ∷ (switch_text s.solprint ++ 32 ∷ solver))))) rest (at_limrow s solver rest)
    (line_item (decimal s.limrow) (decimal s.limcol ++ 32 ∷ (decimal s.iterlim ++ 32 ∷ (decimal s.decimals ++ 32 ∷ (switch_text s.solprint ++ 32 ∷ solver)))) rest (at_limcol s solver rest)
    (line_item (decimal s.limcol) (decimal s.iterlim ++ 32 ∷ (decimal s.decimals ++ 32 ∷ (switch_text s.solprint ++ 32 ∷ solver))) rest (at_iterlim s solver rest)
    (line_item (decimal s.iterlim) (decimal s.decimals ++ 32 ∷ (switch_text s.solprint ++ 32 ∷ solver)) rest (at_decimals s solver rest)
    (line_item (decimal s.decimals) (switch_text s.solprint ++ 32 ∷ solver) rest (at_solprint s solver rest)
    (line_last (switch_text s.solprint) solver rest)))))

-- settings are below what their types hold
record AreSmall (s : Settings) : Type 0 where
  pub limrow : s.limrow < 2 ^ 32
  pub limcol : s.limcol < 2 ^ 32
  pub iterlim : s.iterlim < 2 ^ 32
  pub decimals : s.decimals < 2 ^ 8

are_small : (s : Settings) → are_in_range s ≡ true → AreSmall s
are_small s h =
    let first = and_parts (nat_le s.limrow 2147483647) (nat_le s.limcol 2147483647 && (nat_le s.iterlim 2147483647 && nat_le s.decimals 8)) h in
    let second = and_parts (nat_le s.limcol 2147483647) (nat_le s.iterlim 2147483647 && nat_le s.decimals 8) first.1 in
    let third = and_parts (nat_le s.iterlim 2147483647) (nat_le s.decimals 8) second.1 in
    let rows = leb-true s.limrow 2147483647 first.0 in
    let columns = leb-true s.limcol 2147483647 second.0 in
    let most = leb-true s.iterlim 2147483647 third.0 in
    let places = leb-true s.decimals 8 third.1 in
    record { limrow = omega (arith, rows); limcol = omega (arith, columns); iterlim = omega (arith, most); decimals = omega (arith, places) }

settings_are : (s : Settings) (limrow limcol iterlim decimals : ℕ) (solprint : Bool) → limrow ≡ s.limrow → limcol ≡ s.limcol → iterlim ≡ s.iterlim → decimals ≡ s.decimals → solprint ≡ s.solprint → record { limrow = limrow; limcol = limcol; iterlim = iterlim; decimals = decimals; solprint = solprint; solver = 0 } ≡ unplaced s
settings_are s limrow limcol iterlim decimals solprint a b d e f = rw (a, b, d, e, f) refl

pub returns-in_err-first : goal.returns-in_err-first
returns-in_err-first c s solver rest range none is =
    handed_on _ _ _ _ c.from_residual.ensures.1 (c.in_err-first.ensures (at_limrow s solver rest) (is ∙ line s solver rest))

pub returns-in_err-limrow : goal.returns-in_err-limrow
returns-in_err-limrow c s solver rest range none is =
    let small = are_small s range in
    let first = c.in_ok-first.ensures (at_limrow s solver rest) (is ∙ line s solver rest) in
    handed_on _ _ _ _ c.from_residual-in_err-limrow.ensures.1 (c.in_err-limrow.ensures s.limrow (at_limcol s solver rest) small.limrow first)

pub returns-in_err-limcol : goal.returns-in_err-limcol
returns-in_err-limcol c s solver rest range none is =
    let small = are_small s range in
    let first = c.in_ok-first.ensures (at_limrow s solver rest) (is ∙ line s solver rest) in
    let limrow = c.in_ok-limrow.ensures s.limrow (at_limcol s solver rest) small.limrow first in
    handed_on _ _ _ _ c.from_residual-in_err-limcol.ensures.1 (c.in_err-limcol.ensures s.limcol (at_iterlim s solver rest) small.limcol limrow.1)

pub returns-in_err-iterlim : goal.returns-in_err-iterlim
returns-in_err-iterlim c s solver rest range none is =
    let small = are_small s range in
    let first = c.in_ok-first.ensures (at_limrow s solver rest) (is ∙ line s solver rest) in
    let limrow = c.in_ok-limrow.ensures s.limrow (at_limcol s solver rest) small.limrow first in
    let limcol = c.in_ok-limcol.ensures s.limcol (at_iterlim s solver rest) small.limcol limrow.1 in
    handed_on _ _ _ _ c.from_residual-in_err-iterlim.ensures.1 (c.in_err-iterlim.ensures s.iterlim (at_decimals s solver rest) small.iterlim limcol.1)

pub returns-in_err-decimals : goal.returns-in_err-decimals
returns-in_err-decimals c s solver rest range none is =
    let small = are_small s range in
    let first = c.in_ok-first.ensures (at_limrow s solver rest) (is ∙ line s solver rest) in
    let limrow = c.in_ok-limrow.ensures s.limrow (at_limcol s solver rest) small.limrow first in
    let limcol = c.in_ok-limcol.ensures s.limcol (at_iterlim s solver rest) small.limcol limrow.1 in
    let iterlim = c.in_ok-iterlim.ensures s.iterlim (at_decimals s solver rest) small.iterlim limcol.1 in
    handed_on _ _ _ _ c.from_residual-in_err-decimals.ensures.1 (c.in_err-decimals.ensures s.decimals (at_solprint s solver rest) small.decimals iterlim.1)

pub returns-in_err-solprint : goal.returns-in_err-solprint
returns-in_err-solprint c s solver rest range none is =
    let small = are_small s range in
    let first = c.in_ok-first.ensures (at_limrow s solver rest) (is ∙ line s solver rest) in
    let limrow = c.in_ok-limrow.ensures s.limrow (at_limcol s solver rest) small.limrow first in
    let limcol = c.in_ok-limcol.ensures s.limcol (at_iterlim s solver rest) small.limcol limrow.1 in
    let iterlim = c.in_ok-iterlim.ensures s.iterlim (at_decimals s solver rest) small.iterlim limcol.1 in
    let decimals = c.in_ok-decimals.ensures s.decimals (at_solprint s solver rest) small.decimals iterlim.1 in
    handed_on _ _ _ _ c.from_residual-in_err-solprint.ensures.1 (c.in_err-solprint.ensures s.solprint (after_solver solver rest) decimals.1)

pub returns-in_err-solver : goal.returns-in_err-solver
returns-in_err-solver c s solver rest range none is =
    let small = are_small s range in
    let first = c.in_ok-first.ensures (at_limrow s solver rest) (is ∙ line s solver rest) in
    let limrow = c.in_ok-limrow.ensures s.limrow (at_limcol s solver rest) small.limrow first in
    let limcol = c.in_ok-limcol.ensures s.limcol (at_iterlim s solver rest) small.limcol limrow.1 in
    let iterlim = c.in_ok-iterlim.ensures s.iterlim (at_decimals s solver rest) small.iterlim limcol.1 in
    let decimals = c.in_ok-decimals.ensures s.decimals (at_solprint s solver rest) small.decimals iterlim.1 in
    let solprint = c.in_ok-solprint.ensures s.solprint (after_solver solver rest) decimals.1 in
    handed_on _ _ _ _ c.from_residual-in_err-solver.ensures.1 (c.in_err-solver.ensures solver rest none solprint.1)

pub returns : goal.returns
returns c s solver rest range none is =
    let small = are_small s range in
    let first = c.in_ok-first.ensures (at_limrow s solver rest) (is ∙ line s solver rest) in
    let limrow = c.in_ok-limrow.ensures s.limrow (at_limcol s solver rest) small.limrow first in
    let limcol = c.in_ok-limcol.ensures s.limcol (at_iterlim s solver rest) small.limcol limrow.1 in
    let iterlim = c.in_ok-iterlim.ensures s.iterlim (at_decimals s solver rest) small.iterlim limcol.1 in
    let decimals = c.in_ok-decimals.ensures s.decimals (at_solprint s solver rest) small.decimals iterlim.1 in
    let solprint = c.in_ok-solprint.ensures s.solprint (after_solver solver rest) decimals.1 in
    let last = c.in_ok-solver.ensures solver rest none solprint.1 in
    (settings_are s _ _ _ _ _ limrow.0 limcol.0 iterlim.0 decimals.0 solprint.0, last.0, last.1)
