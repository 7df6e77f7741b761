-- A setting is sought from the present statement on, up to an end.
use mathlib.Core.Path.{refl, sym, ◌∙◌}
use lib.ListN.{length}
use Rattle.blocks.proofs.NamesPlaced.{leads_shut, below_shut, below_stop, below_pass, below_done}
use Rattle.blocks.proofs.inside.is_set_below.Goals as goal

pub loop-k-init : goal.loop-k-init
loop-k-init c =
    refl

pub leading_kind-requires : goal.leading_kind-requires
leading_kind-requires c =
    c.requires.1 c.loop-k.k c.loop-k-test.true

pub returns-then-leading_kind-eq-ENDING : goal.returns-then-leading_kind-eq-ENDING
returns-then-leading_kind-eq-ENDING c =
    let s = c.args.s.now in
    let n = length s.lines.now in
    let at = c.loop-k in
    let shut = leads_shut s.bounds.now s.kinds.now at.k c.leading_kind.ensures c.if-leading_kind-eq-ENDING.true in
    sym (below_shut s.bounds.now s.kinds.now s.args.now c.args.key n at.k
    c.loop-k-test.true shut)
    ∙ at.invariant

pub returns-then-sets_name : goal.returns-then-sets_name
returns-then-sets_name c =
    let s = c.args.s.now in
    let n = length s.lines.now in
    let at = c.loop-k in
    sym
    (below_stop s.bounds.now s.kinds.now s.args.now c.args.key n at.k
    c.loop-k-test.true
    (λ e. c.if-leading_kind-eq-ENDING.false (c.leading_kind.ensures ∙ e))
    (sym c.sets_name.ensures ∙ c.if-sets_name.true)) ∙ at.invariant

pub loop-k-preserved : goal.loop-k-preserved
loop-k-preserved c =
    let s = c.args.s.now in
    let n = length s.lines.now in
    let at = c.loop-k in
    sym
    (below_pass s.bounds.now s.kinds.now s.args.now c.args.key n at.k
    c.loop-k-test.true
    (λ e. c.if-leading_kind-eq-ENDING.false (c.leading_kind.ensures ∙ e))
    (sym c.sets_name.ensures ∙ c.if-sets_name.false)) ∙ at.invariant

pub returns : goal.returns
returns c =
    let s = c.args.s.now in
    let n = length s.lines.now in
    let at = c.loop-k in
    sym (below_done s.bounds.now s.kinds.now s.args.now c.args.key n at.k c.loop-k-test.false)
    ∙ at.invariant
