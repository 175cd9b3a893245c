use Rattle.std.proofs.Common.{◌≡◌, ◌+◌, ◌*◌, ◌≤◌, inl, inr, nat_abs, true≢false, Some, sym, ◌∙◌, subst, subst₂, arith}
use Rattle.std.specs.Prelude.{slice_get}
use Rattle.std.proofs.lemmas.Bool.{cases_eq}
use Rattle.std.proofs.lemmas.Bool.Decides.{nat_tests}
use Rattle.lp_integer_rows.specs.declared.line.Line.{Line}
use Rattle.lp_integers.specs.Lines.{whole_at}
use Rattle.lp_integer_rows.specs.Form.{wholes}
use Rattle.lp_integer_rows.proofs.Plans.{index_get, get_within, same_some}
use Rattle.lp_integer_dict.proofs.bounds.deferred_stays_within.Goals as goal
use Rattle.lp_integer_dict.proofs.bounds.deferred_stays_within.Goals.{else-i-k-via-then-i-k+else-not-fits, else-i-k-via-else-i-k}

pub magnitude_at-u-requires-clause-line : goal.magnitude_at-u-requires-clause-line
magnitude_at-u-requires-clause-line c = (c.requires.lines.1 c.args.k c.index-lines-k.result (index_get c.args.lines.now c.args.k c.index-lines-k.result c.index-lines-k.result c.requires.within (sym c.index-lines-k.is))).0

pub magnitude_at-u-requires-clause-within : goal.magnitude_at-u-requires-clause-within
magnitude_at-u-requires-clause-within c = let e = (c.requires.lines.1 c.args.k c.index-lines-k.result (index_get c.args.lines.now c.args.k c.index-lines-k.result c.index-lines-k.result c.requires.within (sym c.index-lines-k.is))).1 in let w = c.requires.lines.2 in omega arith

pub magnitude_at-zero-requires-clause-line : goal.magnitude_at-zero-requires-clause-line
magnitude_at-zero-requires-clause-line c = (c.requires.lines.1 c.loop-i.i c.index-lines-i.result (index_get c.args.lines.now c.loop-i.i c.index-lines-i.result c.index-lines-i.result c.loop-i-test.true (sym c.index-lines-i.is))).0

pub magnitude_at-zero-requires-clause-within : goal.magnitude_at-zero-requires-clause-within
magnitude_at-zero-requires-clause-within c = let e = (c.requires.lines.1 c.loop-i.i c.index-lines-i.result (index_get c.args.lines.now c.loop-i.i c.index-lines-i.result c.index-lines-i.result c.loop-i-test.true (sym c.index-lines-i.is))).1 in let w = c.requires.lines.2 in omega arith

pub loop-i-preserved : goal.loop-i-preserved
loop-i-preserved c = λ i x less other at.
    elim (cases_eq i c.loop-i.i) [
      | inl same ↦
          let is : c.index-lines-i.result ≡ x = same_some c.index-lines-i.result x (sym (index_get c.args.lines.now c.loop-i.i c.index-lines-i.result c.index-lines-i.result c.loop-i-test.true (sym c.index-lines-i.is)) ∙ subst (λ j. slice_get c.args.lines.now j ≡ Some x) same at) in
          elim c.else-i-k.branch [
            | else-i-k-via-then-i-k+else-not-fits w ↦
                subst (λ (t : Line). t.most * c.magnitude_at-u.result + nat_abs (whole_at (wholes t) 1) * c.index-lines-k.result.most ≤ c.args.bound) is
                (subst (λ z. c.index-lines-i.result.most * c.magnitude_at-u.result + z * c.index-lines-k.result.most ≤ c.args.bound) c.magnitude_at-zero.ensures.value (w.fits.ensures.0 w.if-not-fits.false))
            | else-i-k-via-else-i-k w ↦ absurd (other (same ∙ w.if-i-k.false))
          ]
      | inr apart ↦ c.loop-i.invariant i x (omega arith) other at
    ]

pub returns : goal.returns
returns c = λ p at.
    let is : c.index-lines-k.result ≡ p = same_some c.index-lines-k.result p (sym (index_get c.args.lines.now c.args.k c.index-lines-k.result c.index-lines-k.result c.requires.within (sym c.index-lines-k.is)) ∙ at) in (
      λ told. record {
        own = subst (λ (t : Line). t.most ≤ c.args.bound) is (grind (arith, nat_tests));
        others = λ i l other there.
            let less = get_within c.args.lines.now i l there in
            let within_bound = c.loop-i.invariant i l (omega arith) other there in
            subst (λ (t : Line). l.most * nat_abs (whole_at (wholes t) 1) + nat_abs (whole_at (wholes l) 1) * t.most ≤ c.args.bound) is
            (subst (λ u. l.most * u + nat_abs (whole_at (wholes l) 1) * c.index-lines-k.result.most ≤ c.args.bound) c.magnitude_at-u.ensures.value within_bound);
      },
      λ h. let low : c.index-lines-k.result.most ≤ c.args.bound = subst (λ (t : Line). t.most ≤ c.args.bound) (sym is) h.own in grind (arith, nat_tests),
    )

pub returns-then-not-fits : goal.returns-then-not-fits
returns-then-not-fits c = λ p at. (
  λ yes. absurd (true≢false (sym yes)),
  λ h.
      let is : c.index-lines-k.result ≡ p = same_some c.index-lines-k.result p (sym (index_get c.args.lines.now c.args.k c.index-lines-k.result c.index-lines-k.result c.requires.within (sym c.index-lines-k.is)) ∙ at) in
      let l : Line = c.index-lines-i.result in
      let there : slice_get c.args.lines.now c.loop-i.i ≡ Some l = index_get c.args.lines.now c.loop-i.i l l c.loop-i-test.true (sym c.index-lines-i.is) in
      let told : l.most * nat_abs (whole_at (wholes c.index-lines-k.result) 1) + nat_abs (whole_at (wholes l) 1) * c.index-lines-k.result.most ≤ c.args.bound =
      subst (λ (t : Line). l.most * nat_abs (whole_at (wholes t) 1) + nat_abs (whole_at (wholes l) 1) * t.most ≤ c.args.bound) (sym is) (h.others c.loop-i.i l c.if-i-k.true there) in
      let within_bound : l.most * c.magnitude_at-u.result + c.magnitude_at-zero.result * c.index-lines-k.result.most ≤ c.args.bound =
      subst₂ (λ u z. l.most * u + z * c.index-lines-k.result.most ≤ c.args.bound) (sym c.magnitude_at-u.ensures.value) (sym c.magnitude_at-zero.ensures.value) told in
      absurd (true≢false (sym (c.fits.ensures.1 within_bound) ∙ c.if-not-fits.true)),
)
