-- The constants still to be read give what all give; the measure is the count of tokens that are left.
use Rattle.std.proofs.Common.{◌-◌, length}
use Rattle.grammar.specs.Contract.{SameBuffers}
use Rattle.grammar.proofs.Statements.{GoingMany}
use Rattle.grammar.proofs.forms.constants.Given as goal

abbrev pub invariant-loop-equals : goal.invariant-loop-equals
invariant-loop-equals l =
    let o = l.initial.out in
    SameBuffers o l.out
    × GoingMany l.row.kinds.now l.row.args.now l.at o.place o.kinds.now o.args.now l.i l.out.place l.out.kinds.now
    l.out.args.now

abbrev pub decreases-loop-equals : goal.decreases-loop-equals
decreases-loop-equals l = length l.row.kinds.now - l.i
