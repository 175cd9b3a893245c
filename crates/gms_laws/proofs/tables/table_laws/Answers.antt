use Rattle.gms_laws.proofs.OneTable.{seen_so, one_list, one_fault, not_both, not_neither}
use Rattle.gms_laws.proofs.tables.table_laws.Goals as goal

pub returns-clause-seen : goal.returns-clause-seen
returns-clause-seen g c lines before after entries t = seen_so g.F.ExactField.limit g.F.ExactField.value after lines before entries t

pub returns-clause-one_list : goal.returns-clause-one_list
returns-clause-one_list g c limit lines before after later one other t u = one_list limit lines before after later one other t u

pub returns-clause-one_fault : goal.returns-clause-one_fault
returns-clause-one_fault g c limit lines before one other f h = one_fault limit lines before one other f h

pub returns-clause-not_both : goal.returns-clause-not_both
returns-clause-not_both g c limit lines before after entries fault t f = not_both limit lines before after entries fault t f

pub returns-clause-not_neither : goal.returns-clause-not_neither
returns-clause-not_neither g c limit lines before none = not_neither limit lines before none
