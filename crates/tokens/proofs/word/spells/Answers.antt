use mathlib.Core.Path.{refl, sym, ◌∙◌}
use native.Mathlib.Omega.{arith}
use Rattle.laws.proofs.SameBytes.{other_length, same_stop, same_pass, same_end}
use Rattle.tokens.proofs.word.spells.Goals as goal

pub returns-then-name-word : goal.returns-then-name-word
returns-then-name-word c =
    let args = c.args in sym (other_length args.name.now args.word.now c.if-name-word.true)

pub loop-i-init : goal.loop-i-init
loop-i-init c =
    (c.if-name-word.false, refl)

pub returns-then-name-i : goal.returns-then-name-i
returns-then-name-i c =
    let args = c.args in
    sym (same_stop args.name.now args.word.now c.loop-i.i (omega arith) (omega arith) c.if-name-i.true)
    ∙ c.loop-i.invariant.1

pub loop-i-preserved : goal.loop-i-preserved
loop-i-preserved c =
    let args = c.args in
    let pass = same_pass args.name.now args.word.now c.loop-i.i (omega arith) (omega arith) c.if-name-i.false in
    (c.loop-i.invariant.0, sym pass ∙ c.loop-i.invariant.1)

pub returns : goal.returns
returns c =
    let args = c.args in
    sym (same_end args.name.now args.word.now c.loop-i.i (omega arith) (omega arith))
    ∙ c.loop-i.invariant.1
