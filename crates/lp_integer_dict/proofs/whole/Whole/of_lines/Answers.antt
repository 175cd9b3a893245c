use Rattle.std.proofs.Common.{ℕ, ◌+◌, ◌<◌, refl, subst, arith}
use Rattle.lp_integer_rows.specs.Form.{AreBounded}
use Rattle.lp_integer_dict.specs.WithinBound.{IsSomeGreat}
use Rattle.lp_integer_dict.proofs.whole.Whole.of_lines.Goals as goal

pub invariant_of-whole : goal.invariant_of-whole
invariant_of-whole c =
    record {
      sized = c.requires.sized;
      paired = c.requires.paired;
      are_whole = record {
        are_lines = c.requires.lines;
        wide = wide c.args.variables;
        small = c.requires.small;
        within_bound = subst (AreBounded c.args.bound) c.as_slice.ensures.value (c.all_within.ensures.within c.if-not-all_within.false);
      };
      is_deferred = c.requires.phase;
      proper = c.requires.proper;
    }
  where
    wide : (n : ℕ) → 1 < n + 2
    wide n = omega arith

pub returns-then-not-all_within-clause-none : goal.returns-then-not-all_within-clause-none
returns-then-not-all_within-clause-none c = subst (IsSomeGreat c.args.bound) c.as_slice.ensures.value (c.all_within.ensures.great c.if-not-all_within.true)

pub returns-clause-none : goal.returns-clause-none
returns-clause-none c = subst (AreBounded c.args.bound) c.as_slice.ensures.value (c.all_within.ensures.within c.if-not-all_within.false)

pub returns-clause-dictionary : goal.returns-clause-dictionary
returns-clause-dictionary c = refl
