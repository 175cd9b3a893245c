use Rattle.std.proofs.Common.{◌∙◌, ap, sym, List, Option, Result}
use Rattle.std.proofs.lemmas.Result.{on_ok_weaker}
use Rattle.gms_set.specs.declared.fault.SetFault.{SetFault}
use Rattle.gms_set.specs.Expansion.{ExpandedData}
use Rattle.gms_ast.specs.declared.word.Named.{Named}
use Rattle.gms_store.specs.State.{State}
use Rattle.gms_store.specs.Declarations.{declare, names_of}
use Rattle.gms_scope.specs.Data.{given_to}
use Rattle.gms_check.specs.Past.{with_data, with_name}
use Rattle.gms_check.proofs.loading.load_item.Goals as goal

pub returns : goal.returns
returns g c =
    let value = g.F.ExactField.value in
    let item = c.args.item.now in
    on_ok_weaker c.put_data.result (λ e. e ∙ ap (given_to value item.named.name c.declare.new.self) c.deref.ensures.value ∙ ap (λ (state : State). given_to value item.named.name state c.in_ok-data.data.items) (c.in_ok-declare.ensures.ok ∙ ap (λ (domain : List (Option Named)). declare c.args.kind (names_of domain) c.args.store.now item.named.name) c.as_slice.ensures) ∙ sym (ap (λ (r : Result (ExpandedData _) SetFault). with_data value (with_name value c.args.kind c.args.store.now item) item.named.name r) c.in_ok-data.ensures)) c.put_data.ensures
