-- The names before the present draft are defined, and the worst of the initials before it is noted.
use mathlib.Core.Path.{sym, ◌∙◌}
use Rattle.model.proofs.NamesResolved.{undefined_read, unfit_read, seeking_found}
use Rattle.model.proofs.NamesResolved.{seeking_unfit, seeking_pass, seeking_last}
use Rattle.model.proofs.names.flaw_in.Goals as goal
use Rattle.model.proofs.names.flaw_in.Goals.{then-is_unfit, else-is_unfit}

pub returns-then-is_undefined : goal.returns-then-is_undefined
returns-then-is_undefined c =
    let undefined =
    sym
    (undefined_read c.args.places.now c.args.sheet.now.kinds.now c.byte_at-kind.ensures
    c.word_at-slot.ensures) in
    seeking_found c.loop-i.invariant c.loop-i-test.true
    (undefined ∙ sym c.is_undefined.ensures ∙ c.if-is_undefined.true)

pub loop-i-preserved : goal.loop-i-preserved
loop-i-preserved c =
    let undefined =
    sym
    (undefined_read c.args.places.now c.args.sheet.now.kinds.now c.byte_at-kind.ensures
    c.word_at-slot.ensures) in
    let unfit =
    sym
    (unfit_read c.args.places.now c.args.sheet.now.kinds.now c.byte_at-kind.ensures
    c.word_at-slot.ensures) in
    let defined = undefined ∙ sym c.is_undefined.ensures ∙ c.if-is_undefined.false in
    elim c.if-is_unfit.branch [
      | then-is_unfit w ↦
          seeking_unfit c.loop-i.invariant c.loop-i-test.true defined
          (unfit ∙ sym c.is_unfit.ensures ∙ w.if-is_unfit.true) w.flaw-is
      | else-is_unfit w ↦
          seeking_pass c.loop-i.invariant c.loop-i-test.true defined
          (unfit ∙ sym c.is_unfit.ensures ∙ w.if-is_unfit.false) w.flaw-is
    ]

pub returns : goal.returns
returns c =
    seeking_last c.loop-i.invariant c.loop-i-test.false
