-- The measure is a rank and five for each token that is left, as the count of the parser's calls.
use Rattle.std.proofs.Common.{ℕ, ◌≡◌, ◌≤◌, ◌+◌, ◌-◌, ◌*◌, length}
use Rattle.grammar.specs.Contract.{SameBuffers}
use Rattle.grammar.proofs.Ways.{GoingTerms, GoingFactors}
use Rattle.grammar.proofs.Openings.{GoingList}
use Rattle.grammar.proofs.expressions.+expression_factor_items_opened_term.Given as goal

abbrev pub decreases-expression : goal.decreases-expression
decreases-expression l = 3 + 5 * (length l.row.now.kinds.now - l.at)

abbrev pub decreases-factor : goal.decreases-factor
decreases-factor l = 1 + 5 * (length l.row.now.kinds.now - l.at)

abbrev pub decreases-items : goal.decreases-items
decreases-items l = 4 + 5 * (length l.row.now.kinds.now - l.at)

abbrev pub decreases-opened : goal.decreases-opened
decreases-opened l = 5 * (length l.row.now.kinds.now - l.at)

abbrev pub decreases-term : goal.decreases-term
decreases-term l = 2 + 5 * (length l.row.now.kinds.now - l.at)

-- the terms still to be read give what the whole gives
abbrev pub invariant-expression-loop-next : goal.invariant-expression-loop-next
invariant-expression-loop-next l =
    let o = l.initial.out in
    SameBuffers o l.out
    × GoingTerms l.row.kinds.now l.row.args.now l.allowed l.at o.place o.kinds.now o.args.now l.op l.i l.out.place
    l.out.kinds.now l.out.args.now

abbrev pub decreases-expression-loop-next : goal.decreases-expression-loop-next
decreases-expression-loop-next l = length l.row.kinds.now - l.i

-- the expressions still to be read give what all give
abbrev pub invariant-items-loop-i : goal.invariant-items-loop-i
invariant-items-loop-i l =
    let o = l.initial.out in
    SameBuffers o l.out
    × (l._i ≤ l.count + 1)
    × ((m : ℕ) → m + l._i ≡ l.count + 1
    → GoingList l.row.kinds.now l.row.args.now l.allowed l.at o.place o.kinds.now o.args.now l.count l.kind l.i m
    l.out.place l.out.kinds.now l.out.args.now)

-- the factors still to be read give what the whole gives
abbrev pub invariant-term-loop-next : goal.invariant-term-loop-next
invariant-term-loop-next l =
    let o = l.initial.out in
    SameBuffers o l.out
    × GoingFactors l.row.kinds.now l.row.args.now l.allowed l.at o.place o.kinds.now o.args.now l.op l.i l.out.place
    l.out.kinds.now l.out.args.now

abbrev pub decreases-term-loop-next : goal.decreases-term-loop-next
decreases-term-loop-next l = length l.row.kinds.now - l.i
