use Rattle.std.proofs.Common.{◌∙◌, ap, sym}
use Rattle.gq_extended.specs.Meaning.{extended}
use Rattle.gms_store.specs.Shown.{attributes_shown}
use Rattle.gms_store.specs.State.{given_in}
use Rattle.gms_store.proofs.Views.{keys-shown, content-seen, kept-seen, fits-seen}
use Rattle.gms_store.proofs.symbol.Symbol.given.Goals as goal

pub returns-in-Parameter-clause-some : goal.returns-in-Parameter-clause-some
returns-in-Parameter-clause-some g c =
    c.given.ensures.value
    ∙ sym (keys-shown (extended g.F.ExactField.value) c.in-Parameter.entries)
    ∙ ap given_in (content-seen g.F.ExactField.value c.self.inside.domain c.self.inside.content _ c.args.self.now c.self.view_is c.in-Parameter.is)

pub returns-in-Variable-clause-some : goal.returns-in-Variable-clause-some
returns-in-Variable-clause-some g c =
    c.given-in-Variable.ensures.value
    ∙ sym (keys-shown (attributes_shown g.F.ExactField.value) c.in-Variable.entries)
    ∙ ap given_in (content-seen g.F.ExactField.value c.self.inside.domain c.self.inside.content _ c.args.self.now c.self.view_is c.in-Variable.is)

pub returns-in-Equation-clause-some : goal.returns-in-Equation-clause-some
returns-in-Equation-clause-some g c =
    c.given-in-Equation.ensures.value
    ∙ sym (keys-shown (attributes_shown g.F.ExactField.value) c.in-Equation.entries)
    ∙ ap given_in (content-seen g.F.ExactField.value c.self.inside.domain c.self.inside.content _ c.args.self.now c.self.view_is c.in-Equation.is)

pub returns-in-Variable-clause-kept : goal.returns-in-Variable-clause-kept
returns-in-Variable-clause-kept g c =
    kept-seen g.F.ExactField.value c.self.inside.domain c.self.inside.content c.args.self.now c.self.view_is c.self.invariant

pub returns-in-Equation-clause-kept : goal.returns-in-Equation-clause-kept
returns-in-Equation-clause-kept g c =
    kept-seen g.F.ExactField.value c.self.inside.domain c.self.inside.content c.args.self.now c.self.view_is c.self.invariant

pub returns-in-Parameter-clause-fit : goal.returns-in-Parameter-clause-fit
returns-in-Parameter-clause-fit g c =
    fits-seen g.F.ExactField.value g.F.ExactField.limit c.self.inside.domain c.self.inside.content c.args.self.now c.self.view_is g.met.F.ExactField.limit_range.0 g.met.F.ExactField.within

pub returns-in-Variable-clause-fit : goal.returns-in-Variable-clause-fit
returns-in-Variable-clause-fit g c =
    fits-seen g.F.ExactField.value g.F.ExactField.limit c.self.inside.domain c.self.inside.content c.args.self.now c.self.view_is g.met.F.ExactField.limit_range.0 g.met.F.ExactField.within

pub returns-in-Equation-clause-fit : goal.returns-in-Equation-clause-fit
returns-in-Equation-clause-fit g c =
    fits-seen g.F.ExactField.value g.F.ExactField.limit c.self.inside.domain c.self.inside.content c.args.self.now c.self.view_is g.met.F.ExactField.limit_range.0 g.met.F.ExactField.within
