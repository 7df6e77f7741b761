-- The record of each kind of draft, by ranges.
use mathlib.Core.Path.{◌≡◌}
use native.Mathlib.Omega.{arith}
use Rattle.drafts.specs.Kinds.{kind_from}
use Rattle.program.proofs.RoomFilled.{fill_as, fill_none}
use Rattle.program.proofs.StepCases.{step_plain, step_first, step_below, step_above}
use Rattle.program.proofs.put_step.Goals as goal

-- a number is pushed
pub returns-in-3 : goal.returns-in-3
returns-in-3 c =
    rw c.in-3.is c.put_record.ensures

-- TIME is slot 0
pub returns-in-17 : goal.returns-in-17
returns-in-17 c =
    rw c.in-17.is c.put_record-in-17.ensures

-- what is read in a block
pub returns-in-20 : goal.returns-in-20
returns-in-20 c =
    rw c.in-20.is c.put_record-in-20.ensures

-- from what a name holds to a later setting in a block
pub returns-in-4-to-15 : goal.returns-in-4-to-15
returns-in-4-to-15 c =
    let a = c.args in
    fill_as (step_plain a.kind a.arg a.line (omega arith) (omega arith))
    c.put_record-in-4-to-15.ensures

-- the first settings in a block
pub returns-in-18-to-19 : goal.returns-in-18-to-19
returns-in-18-to-19 c =
    let a = c.args in
    fill_as (step_first a.kind a.arg a.line (omega arith) (omega arith))
    c.put_record-in-18-to-19.ensures

-- below, between and above
pub returns-in_default : goal.returns-in_default
returns-in_default c =
    let a = c.args in
    fill_none a.w a.out.now (step_below a.kind a.arg a.line (omega arith))

pub returns-in_default-2 : goal.returns-in_default-2
returns-in_default-2 c =
    let a = c.args in
    let from : a.kind ≡ kind_from = omega arith in
    fill_none a.w a.out.now (rw from)

pub returns-in_default-3 : goal.returns-in_default-3
returns-in_default-3 c =
    let a = c.args in
    fill_none a.w a.out.now (step_above a.kind a.arg a.line (omega arith))
