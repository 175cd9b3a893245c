-- Each generated model is an accepted source: each passes the tests.
use Rattle.std.proofs.Common.{◌≡◌, inl, inr, ℕ, zero, suc, ◌+◌, ◌<◌, ◌≤◌, true, List, subst, arith}
use Rattle.std.proofs.lemmas.Bool.{cases_lt, and_parts}
use Rattle.gms_gen.specs.Generator.{generated_model_text}
use Rattle.gms_laws.specs.Accepted.{GeneratedAreAccepted}
use Rattle.gms_laws.proofs.AcceptedSources.{accepted}
use Rattle.gms_laws.proofs.SourceTests.{is_accepted, all_accepted}
use Rattle.gms_laws.proofs.ShortNumerals.{right}
use Rattle.gms_laws.proofs.ComputedModels.{accepted_to_12, accepted_to_16, accepted_to_19, accepted_to_21, accepted_to_23, accepted_to_24, accepted_to_25, accepted_to_26, accepted_to_27, accepted_to_28, accepted_to_29, accepted_to_30}

-- of sizes that all pass, each does
each : (solvers : List (List ℕ)) (above count : ℕ) → all_accepted solvers above count ≡ true → (size : ℕ) → above < size → size ≤ above + count → is_accepted solvers size ≡ true
each solvers above zero h size low high = absurd (omega arith)
each solvers above (suc n) h size low high =
    elim (cases_lt (suc above) size) [
      | inl more ↦ each solvers (suc above) n (right (is_accepted solvers (suc above)) (all_accepted solvers (suc above) n) h) size more (omega (arith, high))
      | inr here ↦ (let same : suc above ≡ size = omega (arith, low, here) in subst (λ k. is_accepted solvers k ≡ true) same ((and_parts (is_accepted solvers (suc above)) (all_accepted solvers (suc above) n) h).0))
    ]

all_sizes : (solvers : List (List ℕ)) (size : ℕ) → 1 ≤ size → size ≤ 30 → is_accepted solvers size ≡ true
all_sizes solvers size low high =
    elim (cases_lt 12 size) [
      | inr here ↦ each solvers 0 12 (accepted_to_12 solvers) size (omega (arith, low)) (omega (arith, here))
      | inl above_12 ↦ elim (cases_lt 16 size) [
        | inr here ↦ each solvers 12 4 (accepted_to_16 solvers) size above_12 (omega (arith, here))
        | inl above_16 ↦ elim (cases_lt 19 size) [
          | inr here ↦ each solvers 16 3 (accepted_to_19 solvers) size above_16 (omega (arith, here))
          | inl above_19 ↦ elim (cases_lt 21 size) [
            | inr here ↦ each solvers 19 2 (accepted_to_21 solvers) size above_19 (omega (arith, here))
            | inl above_21 ↦ elim (cases_lt 23 size) [
              | inr here ↦ each solvers 21 2 (accepted_to_23 solvers) size above_21 (omega (arith, here))
              | inl above_23 ↦ elim (cases_lt 24 size) [
                | inr here ↦ each solvers 23 1 (accepted_to_24 solvers) size above_23 (omega (arith, here))
                | inl above_24 ↦ elim (cases_lt 25 size) [
                  | inr here ↦ each solvers 24 1 (accepted_to_25 solvers) size above_24 (omega (arith, here))
                  | inl above_25 ↦ elim (cases_lt 26 size) [
                    | inr here ↦ each solvers 25 1 (accepted_to_26 solvers) size above_25 (omega (arith, here))
                    | inl above_26 ↦ elim (cases_lt 27 size) [
                      | inr here ↦ each solvers 26 1 (accepted_to_27 solvers) size above_26 (omega (arith, here))
                      | inl above_27 ↦ elim (cases_lt 28 size) [
                        | inr here ↦ each solvers 27 1 (accepted_to_28 solvers) size above_27 (omega (arith, here))
                        | inl above_28 ↦ elim (cases_lt 29 size) [
                          | inr here ↦ each solvers 28 1 (accepted_to_29 solvers) size above_28 (omega (arith, here))
                          | inl above_29 ↦ each solvers 29 1 (accepted_to_30 solvers) size above_29 (omega (arith, high))
                        ]
                      ]
                    ]
                  ]
                ]
              ]
            ]
          ]
        ]
      ]
    ]

pub generated : GeneratedAreAccepted
generated = λ size low high solvers. accepted solvers (generated_model_text size size size) (all_sizes solvers size low high)
