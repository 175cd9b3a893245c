use Rattle.std.proofs.Common.{rules, ◌≡◌, ◌+◌, ◌<◌, ◌≤◌, ◌/◌, ℕ, length, FitsSigned, w64, sym, ap, ◌∙◌, arith}
use Rattle.std.proofs.lemmas.Int.{to_z-of_z}
use Rattle.lp_integers.proofs.Words.{search_begins, search_ends, search_after, search_here, search_before, less_by_cmp, equal_by_cmp, greater_by_cmp}
use Rattle.lp_integers.proofs.few.number_at.Goals as goal

pub loop-word-init : goal.loop-word-init
loop-word-init c = search_begins c.args.words.now c.requires.0 c.requires.1 c.args.place c.requires.2

pub loop-word-preserved-in-Less : goal.loop-word-preserved-in-Less
loop-word-preserved-in-Less c =
    search_after c.args.words.now c.loop-word.rest.now _ _ c.in-Some.word.now c.in-Some.after.now c.args.place c.loop-word.invariant c.split_at.ensures.by_index.0 c.in-Some.ensures.cases.0 (less_by_cmp _ _ c.cmp.result c.cmp.ensures c.in-Less.is)

pub returns-in-Equal : goal.returns-in-Equal
returns-in-Equal c =
    let fits : FitsSigned w64 c.in-Some.word.now.number = search rules in
    to_z-of_z w64 c.in-Some.word.now.number fits
    ∙ search_here c.args.words.now c.loop-word.rest.now _ _ c.in-Some.word.now c.in-Some.after.now c.args.place c.loop-word.invariant c.split_at.ensures.by_index.0 c.in-Some.ensures.cases.0 (equal_by_cmp _ _ c.cmp.result c.cmp.ensures c.in-Equal.is)

pub loop-word-preserved : goal.loop-word-preserved
loop-word-preserved c =
    search_before c.args.words.now c.loop-word.rest.now _ _ c.in-Some.word.now c.in-Some.after.now c.args.place c.loop-word.invariant c.split_at.ensures.by_index.0 c.in-Some.ensures.cases.0 (greater_by_cmp _ _ c.cmp.result c.cmp.ensures c.in-Greater.is)

half_within : (n : ℕ) → n / 2 ≤ n
half_within n = omega arith

all_half : (b n : ℕ) → b + n / 2 ≡ n → b ≡ 0 → n ≡ 0
all_half b n split none = omega arith

half_less : (f b n : ℕ) → f ≡ n / 2 → b + n / 2 ≡ n → 0 < b → f < n
half_less f b n half split some = omega arith

pub split_at-requires : goal.split_at-requires
split_at-requires c = half_within (length c.loop-word.rest.now)

pub returns-in_default : goal.returns-in_default
returns-in_default c =
    sym (search_ends c.args.words.now c.loop-word.rest.now c.args.place c.loop-word.invariant
    (all_half (length c.split_at.result.1.now) (length c.loop-word.rest.now) c.split_at.ensures.back_len c.in_default.ensures.cases))

pub loop-word-smaller-in-Less : goal.loop-word-smaller-in-Less
loop-word-smaller-in-Less c = let h = c.in-Some.ensures in omega arith

pub loop-word-smaller : goal.loop-word-smaller
loop-word-smaller c =
    half_less (length c.split_at.result.0.now) (length c.split_at.result.1.now)
    (length c.loop-word.rest.now) c.split_at.ensures.front_len c.split_at.ensures.back_len (let e = ap length c.in-Some.ensures.cases.0 in omega arith)
