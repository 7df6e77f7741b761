use lib.Ieee.{binary64, add, sub, mul, div, neg}
use Rattle.records.specs.Shape.{insw_of, limit_of, compar_of}
use Rattle.evaluator.proofs.RunRecord.{constant_step, initial_step, bad_step, store_step, deriv_step, again_step}
use Rattle.evaluator.proofs.RunRecord.{value_step, slot_step, one_step, two_step, three_step}
use Rattle.evaluator.proofs.run.run_step.Goals as goal

pub returns-in-Constant : goal.returns-in-Constant
returns-in-Constant c = search constant_step

pub returns-in-Initial : goal.returns-in-Initial
returns-in-Initial c = search initial_step

pub returns-in-Value : goal.returns-in-Value
returns-in-Value c = search value_step

pub returns-in-Slot : goal.returns-in-Slot
returns-in-Slot c = search slot_step

pub returns-in-Add : goal.returns-in-Add
returns-in-Add c = search (two_step (add binary64))

pub returns-in-Sub : goal.returns-in-Sub
returns-in-Sub c = search (two_step (sub binary64))

pub returns-in-Mul : goal.returns-in-Mul
returns-in-Mul c = search (two_step (mul binary64))

pub returns-in-Div : goal.returns-in-Div
returns-in-Div c = search (two_step (div binary64))

pub returns-in-Neg : goal.returns-in-Neg
returns-in-Neg c = search (one_step neg)

pub returns-in-Insw : goal.returns-in-Insw
returns-in-Insw c = search (three_step insw_of)

pub returns-in-Limit : goal.returns-in-Limit
returns-in-Limit c = search (three_step limit_of)

pub returns-in-Compar : goal.returns-in-Compar
returns-in-Compar c = search (two_step compar_of)

pub returns-in-Store : goal.returns-in-Store
returns-in-Store c = search store_step

pub returns-in-Deriv : goal.returns-in-Deriv
returns-in-Deriv c = search deriv_step

pub returns-in-StoreAgain : goal.returns-in-StoreAgain
returns-in-StoreAgain c = search again_step

pub returns-in-Bad : goal.returns-in-Bad
returns-in-Bad c = search bad_step
