-- The points that an answer writes are at elements that pass a test where the columns and rows of
-- the linear program are.
use Rattle.std.proofs.Common.{◌≡◌, ◌==◌, Bool, true, false, cond, List, [], ◌∷◌, ◌++◌}
use Rattle.gq_number.specs.Number.{Number}
use Rattle.lp_core.specs.declared.answer.End.{End}
use Rattle.lp_core.specs.declared.answer.End.TheVariants.{Optimal, Infeasible, Unbounded, Interrupted, Refused}
use Rattle.lp_core.specs.declared.program.Lp.{Lp}
use Rattle.lp_form.specs.declared.key.Key.{Key}
use Rattle.gms_exec.specs.Solved.{Point, points_of, points, keys_of_columns, row_keys, after_first}
use Rattle.gms_run_laws.proofs.FormKeys.{AreKeys, EachHas}
use Rattle.gms_run_laws.proofs.RowElements.{IsOver}

module _ (test : Key → Bool) where
  abbrev pub ArePut : List Point → Type 0
  ArePut = EachHas (λ (point : Point). test point.key ≡ true)

  points-put : (keys : List Key) (levels marginals : List Number) → AreKeys test keys → ArePut (points keys levels marginals)
  points-put [] levels marginals all = tt
  points-put (key ∷ keys) levels marginals all = (all.0, points-put keys (after_first levels) (after_first marginals) all.1)

  both-put : (those others : List Point) → ArePut those → ArePut others → ArePut (those ++ others)
  both-put [] others all more = more
  both-put (point ∷ those) others all more = (all.0, both-put those others all.1 more)

  pub end-put : (lp : Lp Number) → IsOver test lp → (end : End Number) → ArePut (points_of lp end)
  end-put lp keys (Optimal levels row_levels duals reduced) =
      both-put (points (keys_of_columns lp) levels reduced) (points (row_keys lp) row_levels duals) (points-put (keys_of_columns lp) levels reduced keys.0) (points-put (row_keys lp) row_levels duals keys.1)
  end-put lp keys (Infeasible duals crossed) = tt
  end-put lp keys (Unbounded levels row_levels ray) =
      both-put (points (keys_of_columns lp) levels []) (points (row_keys lp) row_levels []) (points-put (keys_of_columns lp) levels [] keys.0) (points-put (row_keys lp) row_levels [] keys.1)
  end-put lp keys (Interrupted phase levels row_levels) = by (phase == 2)
    where
      by : (b : Bool) → ArePut (cond b (points (keys_of_columns lp) levels [] ++ points (row_keys lp) row_levels []) [])
      by true = both-put (points (keys_of_columns lp) levels []) (points (row_keys lp) row_levels []) (points-put (keys_of_columns lp) levels [] keys.0) (points-put (row_keys lp) row_levels [] keys.1)
      by false = tt
  end-put lp keys (Refused name) = tt
