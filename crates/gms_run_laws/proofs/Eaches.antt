-- Names that each pass a test.
use Rattle.std.proofs.Common.{ℕ, Bool, List, [], ◌∷◌, ◌++◌}
use Rattle.gms_run_laws.specs.Names.{Each}

module _ (test : ℕ → Bool) where
  pub each-left : (ns ms : List ℕ) → Each test (ns ++ ms) → Each test ns
  each-left [] ms all = tt
  each-left (n ∷ ns) ms all = (all.0, each-left ns ms all.1)

  pub each-right : (ns ms : List ℕ) → Each test (ns ++ ms) → Each test ms
  each-right [] ms all = all
  each-right (n ∷ ns) ms all = each-right ns ms all.1

  pub each-both : (ns ms : List ℕ) → Each test ns → Each test ms → Each test (ns ++ ms)
  each-both [] ms left right = right
  each-both (n ∷ ns) ms left right = (left.0, each-both ns ms left.1 right)
