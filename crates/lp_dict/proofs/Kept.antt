-- What is kept is what callers see.
use Rattle.std.proofs.Common.{◌≡◌, ℕ, ◌≤◌, sym, ap, ◌∙◌, subst}
use Rattle.gq_number.specs.Number.{Number}
use Rattle.lp_dict.specs.declared.body.Body.{Body}
use Rattle.lp_dict.specs.declared.body.Body.TheVariants as body
use Rattle.lp_integer_dict.specs.Whole.{WholeTableau}
use Rattle.lp_dict.specs.Tableau.{Tableau, tableau, dictionary, kept, upcoming_of, IsWithinField, IsDictInvariant}

module _ {F : Type 0} (value : F → Number) (t : Tableau F) (b : Body F) (view : tableau value b ≡ t) (other : Body F) (is : b ≡ other) where
  pub kept_is : kept value other ≡ dictionary value t
  kept_is = ap (kept value) (sym is) ∙ ap (dictionary value) view

  pub upcoming_is : upcoming_of other ≡ t.upcoming
  upcoming_is = ap upcoming_of (sym is) ∙ ap (λ (t : Tableau F). t.upcoming) view

-- what whole numbers keep
pub bounded_whole : {F : Type 0} (value : F → Number) (limit : ℕ) (b : Body F) (w : WholeTableau) (n : ℕ) → IsDictInvariant value limit b → b ≡ body.Whole w n → w.bound ≤ limit
bounded_whole value limit b w n h is = subst (IsWithinField limit) is h.bounded
