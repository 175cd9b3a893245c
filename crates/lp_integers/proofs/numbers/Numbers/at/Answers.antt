-- A number that is stored in one word is the same in two.
use Rattle.std.proofs.Common.{◌≡◌, ◌<◌, ◌≤◌, ◌-◌, ◌^◌, ℕ, length, FitsSigned, w64, sym, ap, ◌∙◌, subst, arith}
use Rattle.std.proofs.lemmas.Int.{fits_signed_from_abs}
use Rattle.lp_integers.specs.Lines.{whole_at}
use Rattle.lp_integers.specs.Widths.{listed, AreWithinWidth}
use Rattle.lp_integers.proofs.Lines.{read_within, wider_fits, wider_again}
use Rattle.lp_integers.proofs.numbers.Numbers.at.Goals as goal

below_next : (n : ℕ) → n ≤ 2 ^ 63 - 1 → n < 2 ^ 63
below_next n h = omega arith

pub overflow_cast-result : goal.overflow_cast-result
overflow_cast-result c = wider_fits c.at.result (record { sfits = c.at.type_inv })

pub returns-in-Few : goal.returns-in-Few
returns-in-Few c =
    wider_again c.at.result (record { sfits = c.at.type_inv }) ∙ c.at.ensures ∙ ap (λ l. whole_at l c.args.place) (sym (ap listed c.in-Few.is) ∙ c.self.view_is)

-- the number at the place of a list of one word each
module _ (c : goal.After-result-1) where
  within : c.args.place < length c.in-Narrow.list.items
  within = subst (λ l. c.args.place < length l) (sym (sym (ap listed c.in-Narrow.is) ∙ c.self.view_is)) c.requires

  read : c.index.result.now ≡ whole_at c.in-Narrow.list.items c.args.place
  read = c.index.ensures ∙ read_within c.in-Narrow.list.items c.args.place c.index.result.now within

  fits : FitsSigned w64 c.index.result.now
  fits =
      subst (FitsSigned w64) (sym read)
      (fits_signed_from_abs w64 (whole_at c.in-Narrow.list.items c.args.place)
      (below_next _ (subst AreWithinWidth c.in-Narrow.is c.self.invariant c.args.place)))

pub overflow_cast-result-in-Narrow : goal.overflow_cast-result-in-Narrow
overflow_cast-result-in-Narrow c = wider_fits c.index.result.now (fits c)

pub returns-in-Narrow : goal.returns-in-Narrow
returns-in-Narrow c = wider_again c.index.result.now (fits c) ∙ read c ∙ ap (λ l. whole_at l c.args.place) (sym (ap listed c.in-Narrow.is) ∙ c.self.view_is)

pub index-requires : goal.index-requires
index-requires c = subst (λ n. c.args.place < n) (sym (c.in-Narrow.list.ok.0 ∙ ap length (sym (ap listed c.in-Narrow.is) ∙ c.self.view_is))) c.requires

pub index-requires-in-Wide : goal.index-requires-in-Wide
index-requires-in-Wide c = subst (λ n. c.args.place < n) (sym (c.in-Wide.list.ok.0 ∙ ap length (sym (ap listed c.in-Wide.is) ∙ c.self.view_is))) c.requires
