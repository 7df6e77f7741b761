-- The names still to be read give what all give; the measure is the count of tokens that are left.
use Rattle.std.proofs.Common.{◌-◌, length}
use Rattle.grammar.specs.Contract.{SameBuffers}
use Rattle.grammar.proofs.Headers.{GoingNames}
use Rattle.grammar.proofs.forms.names.Given as goal

abbrev pub invariant-loop-next : goal.invariant-loop-next
invariant-loop-next l =
    let o = l.initial.out in
    SameBuffers o l.out
    × GoingNames l.row.kinds.now l.row.args.now l.kind l.at o.place o.kinds.now o.args.now l.i l.out.place
    l.out.kinds.now l.out.args.now

abbrev pub decreases-loop-next : goal.decreases-loop-next
decreases-loop-next l = length l.row.kinds.now - l.i
