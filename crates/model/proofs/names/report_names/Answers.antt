-- Where no name is flawed, nothing is looked through.
use Rattle.model.proofs.PlanStages.{names_clear}
use Rattle.model.proofs.names.report_names.Goals as goal

pub returns : goal.returns
returns c =
    names_clear _ c.requires c.if-flawed.false
