-- The invariant: what is read from the present line on is what is read from the first.
use Rattle.std.proofs.Common.{◌≡◌, not, refl, ap, ◌∙◌, rules}
use Rattle.laws.specs.Counts.{once}
use Rattle.deck.proofs.Steps.{running_first, running_next, running_stop, running_end}
use Rattle.deck.proofs.statements.run.Goals as goal
use Rattle.deck.proofs.statements.run.Goals.{then-not-more, else-not-more+in_default}

pub loop-comment-init : goal.loop-comment-init
loop-comment-init c =
    (refl, running_first c.args.text.now c.args.first c.args.start c.args.line.now c.requires.0)

pub loop-comment-preserved : goal.loop-comment-preserved
loop-comment-preserved c =
    let read = c.loop-comment.invariant in
    let asked = c.is_comment-comment in
    let one : c.from-cards.result ≡ once (not asked.result) = search rules in
    let steps = c.in-Some.ensures.steps in
    let line = rw read.0 at steps.1.0 in (
      ap (λ t. t.now) steps.0 ∙ read.0,
      running_next read.1 asked.result c.is_dotted.result c.from-cards.result asked.ensures one c.is_dotted.ensures
          c.next.new.self.at c.in-Some.next.now c.if-not-more.false line steps.1.1,
    )

pub returns : goal.returns
returns c =
    let read = c.loop-comment.invariant in
    let asked = c.is_comment-comment in
    let one : c.from-cards.result ≡ once (not asked.result) = search rules in
    elim c.if-not-more.branch [
      | then-not-more w ↦
          rw (w.ahead-is, w.closed-is)
          (running_stop read.1 asked.result c.is_dotted.result c.from-cards.result asked.ensures one c.is_dotted.ensures
          w.if-not-more.true)
      | else-not-more+in_default w ↦
          let steps = w.in_default.ensures.steps in
          let end = rw read.0 at steps.1.0 in
          rw (w.closed-is, w.ahead-is, steps.1.1)
          (running_end read.1 asked.result c.is_dotted.result c.from-cards.result asked.ensures one c.is_dotted.ensures
          w.if-not-more.false end)
    ]
