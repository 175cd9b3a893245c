-- The generated models pass the tests, computed some sizes at a time.
use Rattle.std.proofs.Common.{◌≡◌, ℕ, true, List, refl}
use Rattle.std.specs.Fmt.{digits}
use Rattle.gq_number.specs.Gcd.{gcd, gcd_in_steps}
use Rattle.gq_number.specs.Number.{whole, ratio, ◌+ℚ◌, ◌*ℚ◌, neg_ℚ, inv_ℚ, ◌/ℚ◌}
use Rattle.gms_grammar.specs.Symbols.{longest_symbol}
use Rattle.gms_lex.specs.Keywords.{keyword_of}
use Rattle.gms_expressions.specs.ExpressionTrees.{suffix_of, fold_op_of, function_of, relation_of_word}
use Rattle.gms_expressions.specs.Valuations.{number_meant}
use Rattle.gms_expressions.specs.Words.{terminal_of_word}
use Rattle.gms_laws.proofs.SourceTests.{all_accepted}

pub accepted_to_12 : (solvers : List (List ℕ)) → all_accepted solvers 0 12 ≡ true
unfolding digits longest_symbol keyword_of terminal_of_word number_meant suffix_of fold_op_of function_of relation_of_word whole ratio ◌+ℚ◌ ◌*ℚ◌ neg_ℚ inv_ℚ ◌/ℚ◌ gcd gcd_in_steps
accepted_to_12 solvers = refl

pub accepted_to_16 : (solvers : List (List ℕ)) → all_accepted solvers 12 4 ≡ true
unfolding digits longest_symbol keyword_of terminal_of_word number_meant suffix_of fold_op_of function_of relation_of_word whole ratio ◌+ℚ◌ ◌*ℚ◌ neg_ℚ inv_ℚ ◌/ℚ◌ gcd gcd_in_steps
accepted_to_16 solvers = refl

pub accepted_to_19 : (solvers : List (List ℕ)) → all_accepted solvers 16 3 ≡ true
unfolding digits longest_symbol keyword_of terminal_of_word number_meant suffix_of fold_op_of function_of relation_of_word whole ratio ◌+ℚ◌ ◌*ℚ◌ neg_ℚ inv_ℚ ◌/ℚ◌ gcd gcd_in_steps
accepted_to_19 solvers = refl

pub accepted_to_21 : (solvers : List (List ℕ)) → all_accepted solvers 19 2 ≡ true
unfolding digits longest_symbol keyword_of terminal_of_word number_meant suffix_of fold_op_of function_of relation_of_word whole ratio ◌+ℚ◌ ◌*ℚ◌ neg_ℚ inv_ℚ ◌/ℚ◌ gcd gcd_in_steps
accepted_to_21 solvers = refl

pub accepted_to_23 : (solvers : List (List ℕ)) → all_accepted solvers 21 2 ≡ true
unfolding digits longest_symbol keyword_of terminal_of_word number_meant suffix_of fold_op_of function_of relation_of_word whole ratio ◌+ℚ◌ ◌*ℚ◌ neg_ℚ inv_ℚ ◌/ℚ◌ gcd gcd_in_steps
accepted_to_23 solvers = refl

pub accepted_to_24 : (solvers : List (List ℕ)) → all_accepted solvers 23 1 ≡ true
unfolding digits longest_symbol keyword_of terminal_of_word number_meant suffix_of fold_op_of function_of relation_of_word whole ratio ◌+ℚ◌ ◌*ℚ◌ neg_ℚ inv_ℚ ◌/ℚ◌ gcd gcd_in_steps
accepted_to_24 solvers = refl

pub accepted_to_25 : (solvers : List (List ℕ)) → all_accepted solvers 24 1 ≡ true
unfolding digits longest_symbol keyword_of terminal_of_word number_meant suffix_of fold_op_of function_of relation_of_word whole ratio ◌+ℚ◌ ◌*ℚ◌ neg_ℚ inv_ℚ ◌/ℚ◌ gcd gcd_in_steps
accepted_to_25 solvers = refl

pub accepted_to_26 : (solvers : List (List ℕ)) → all_accepted solvers 25 1 ≡ true
unfolding digits longest_symbol keyword_of terminal_of_word number_meant suffix_of fold_op_of function_of relation_of_word whole ratio ◌+ℚ◌ ◌*ℚ◌ neg_ℚ inv_ℚ ◌/ℚ◌ gcd gcd_in_steps
accepted_to_26 solvers = refl

pub accepted_to_27 : (solvers : List (List ℕ)) → all_accepted solvers 26 1 ≡ true
unfolding digits longest_symbol keyword_of terminal_of_word number_meant suffix_of fold_op_of function_of relation_of_word whole ratio ◌+ℚ◌ ◌*ℚ◌ neg_ℚ inv_ℚ ◌/ℚ◌ gcd gcd_in_steps
accepted_to_27 solvers = refl

pub accepted_to_28 : (solvers : List (List ℕ)) → all_accepted solvers 27 1 ≡ true
unfolding digits longest_symbol keyword_of terminal_of_word number_meant suffix_of fold_op_of function_of relation_of_word whole ratio ◌+ℚ◌ ◌*ℚ◌ neg_ℚ inv_ℚ ◌/ℚ◌ gcd gcd_in_steps
accepted_to_28 solvers = refl

pub accepted_to_29 : (solvers : List (List ℕ)) → all_accepted solvers 28 1 ≡ true
unfolding digits longest_symbol keyword_of terminal_of_word number_meant suffix_of fold_op_of function_of relation_of_word whole ratio ◌+ℚ◌ ◌*ℚ◌ neg_ℚ inv_ℚ ◌/ℚ◌ gcd gcd_in_steps
accepted_to_29 solvers = refl

pub accepted_to_30 : (solvers : List (List ℕ)) → all_accepted solvers 29 1 ≡ true
unfolding digits longest_symbol keyword_of terminal_of_word number_meant suffix_of fold_op_of function_of relation_of_word whole ratio ◌+ℚ◌ ◌*ℚ◌ neg_ℚ inv_ℚ ◌/ℚ◌ gcd gcd_in_steps
accepted_to_30 solvers = refl
