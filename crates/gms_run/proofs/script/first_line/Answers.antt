-- The line ends are counted.
use Rattle.std.proofs.Common.{ℕ, ◌+◌, ◌==◌, ap, rules, tests}
use Rattle.std.proofs.lemmas.Iterator.{YieldsList-from_slice}
use Rattle.std.proofs.lemmas.Iterator.Consumers.{YieldsList-from_filter, count_from_yields_List}
use Rattle.gms_run.proofs.script.first_line.Goals as goal

pub returns : goal.returns
returns c =
    ap (λ (n : ℕ). n + 3) (count_from_yields_List c.filter.result c.count-ends.result c.count-ends.ensures.ran (YieldsList-from_filter _ (λ byte. byte == 10) (YieldsList-from_slice c.args.saved.now cc) c.filter.ensures.closure (λ x b q k. search (rules, tests))))
