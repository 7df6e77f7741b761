-- There is room for its entry, or none; or it defines nothing.
use mathlib.Core.Path.{sym, ◌∙◌}
use native.Mathlib.Omega.{arith}
use Rattle.program.specs.Roster.{entry}
use Rattle.program.specs.Written.{what_kind}
use Rattle.program.proofs.RosterFilled.{enter_one, enter_full, enter_none}
use Rattle.program.proofs.roster.enter.Goals as goal
use Rattle.program.proofs.roster.enter.Goals.{else-is_defining-via-then-is_defining+else-n-out}
use Rattle.program.proofs.roster.enter.Goals.{else-is_defining-via-else-is_defining}

pub returns-then-n-out : goal.returns-then-n-out
returns-then-n-out c =
    let a = c.args in
    rw (sym c.is_defining.ensures ∙ c.if-is_defining.true)
    (enter_one (entry a.key (what_kind a.kind) a.line) a.n a.out.now _ (omega arith)
    (rw (← c.what_kind.ensures) c.put_entry.ensures))

pub returns : goal.returns
returns c =
    let a = c.args in
    elim c.else-is_defining.branch [
      | else-is_defining-via-then-is_defining+else-n-out w ↦ enter_full _ a.n a.out.now w.if-n-out.false
      | else-is_defining-via-else-is_defining w ↦
          rw (sym c.is_defining.ensures ∙ w.if-is_defining.false) (enter_none a.n a.out.now)
    ]
