use Rattle.gms_expressions.proofs.Signs.{handed_on}
use Rattle.std.proofs.Common.{◌∙◌, ap}
use Rattle.gms_grammar.specs.GamsGrammar.{ModelItem}
use Rattle.gms_grammar.specs.Terminals.{is}
use Rattle.gms_grammar.specs.declared.terminal.Terminal.TheVariants.{Option}
use Rattle.gms_parse.proofs.Steps.{refuses_the, refuses_first, refuses_second}
use Rattle.gms_parse.proofs.Models.{model_got}
use Rattle.gms_parse.proofs.reader.Reader.model.Goals as goal

pub returns-in_err-named : goal.returns-in_err-named
returns-in_err-named c limit read_state s = handed_on _ _ c.from_residual.result _ c.from_residual.ensures.1 (refuses_the ModelItem (refuses_first (c.in_err-named.ensures limit read_state s)))

pub returns-in_err-all : goal.returns-in_err-all
returns-in_err-all c limit read_state s =
    let n = c.in_ok-named.ensures limit read_state s in
    handed_on _ _ c.from_residual-in_err-all.result _ c.from_residual-in_err-all.ensures.1
    (refuses_the ModelItem (refuses_second n.gives (c.in_err-all.ensures limit n.following n.leaves.has (ap (is Option) n.leaves.keyword ∙ s.optionless))))

pub returns : goal.returns
returns c limit read_state s =
    let n = c.in_ok-named.ensures limit read_state s in
    rw c.new.ensures (model_got n (c.in_ok-all.ensures limit n.following n.leaves.has (ap (is Option) n.leaves.keyword ∙ s.optionless)))
