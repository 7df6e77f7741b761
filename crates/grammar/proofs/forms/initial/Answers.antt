-- `grammar::initial` meets its contract.
use Rattle.grammar.proofs.Values.{initial_name, initial_number}
use Rattle.grammar.proofs.forms.initial.Goals as goal

pub returns-then-kind-eq-NAME : goal.returns-then-kind-eq-NAME
returns-then-kind-eq-NAME c = initial_name c.requires c.kind.ensures c.if-kind-eq-NAME.true

pub returns-else-kind-eq-NAME : goal.returns-else-kind-eq-NAME
returns-else-kind-eq-NAME c = initial_number c.requires c.kind.ensures c.if-kind-eq-NAME.false c.signed_number.ensures
