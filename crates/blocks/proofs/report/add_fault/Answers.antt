-- A fault that there is is written behind those before it.
use native.Mathlib.Omega.{arith}
use Rattle.blocks.proofs.FaultsListed.{fault_added, fault_absent}
use Rattle.blocks.proofs.report.add_fault.Goals as goal

pub returns : goal.returns
returns c =
    fault_added c.args.c c.in-Some.is c.into.ensures c.put_fault.ensures c.saturating_add.ensures

pub returns-in_default : goal.returns-in_default
returns-in_default c =
    fault_absent c.args.line c.args.list.now c.in_default.is (omega arith)
