use mathlib.Core.Path.{◌∙◌}
use native.Mathlib.Omega.{arith}
use Rattle.records.proofs.Decoding.{checked_at}
use Rattle.records.proofs.decode.Goals as goal

pub returns-in-Some : goal.returns-in-Some
returns-in-Some c =
    c.checked.ensures ∙ checked_at c.args.program.now c.args.n (omega (arith, c.in-Some.ensures.whole)) c.in-Some.ensures
