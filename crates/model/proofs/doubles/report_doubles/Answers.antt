-- Before statement j as many definitions are passed as stand before it.
use mathlib.Core.Path.{sym, ap, ◌∙◌}
use native.Mathlib.Omega.{arith}
use Rattle.laws.specs.Lists.{concat_map}
use Rattle.sheet.specs.Sheet.{fault_list}
use Rattle.drafts.specs.Places.{begins}
use Rattle.faults.specs.declared.Fault.TheVariants.{Redefined}
use Rattle.model.specs.Working.{before}
use Rattle.model.proofs.ReportedFaults.{reports_test}
use Rattle.model.proofs.RepeatedKeys.{before_le, before_later, repeat_found, repeated_none}
use Rattle.blocks.proofs.FaultsListed.{reports_last}
use Rattle.model.proofs.doubles.report_doubles.Goals as goal

pub returns-then-not-is_repeated : goal.returns-then-not-is_repeated
unfolding concat_map fault_list
returns-then-not-is_repeated c =
    let a = c.args in
    let e = repeated_none a.names.now.keys.now a.lines.now a.bounds.now a.places.now c.requires.0
    (sym c.is_repeated.ensures ∙ c.if-not-is_repeated.true) in
    record { behind = rw e; written = rw e }

pub passed-end-requires : goal.passed-end-requires
passed-end-requires c =
    let j = c.loop-j.j in
    let rise = c.requires.1.rise j c.loop-j-test.true in
    omega (
      arith,
      c.loop-j.invariant.0,
      before_later (begins c.args.bounds.now j) c.short_at-in-loop-j.result c.args.places.now
          (omega (arith, rise, c.short_at-in-loop-j.ensures.0)),
    )

pub is_repeated-requires-in-loop-j : goal.is_repeated-requires-in-loop-j
is_repeated-requires-in-loop-j c =
    let few = before_le c.short_at-in-loop-j.result c.args.places.now in
    omega (arith, c.passed-end.ensures, few, c.requires.0)

pub loop-j-preserved : goal.loop-j-preserved
loop-j-preserved c =
    let s = c.args in
    let bound = c.short_at-in-loop-j.ensures.0 in
    let found = repeat_found s.lines.now s.bounds.now s.names.now.keys.now s.places.now c.loop-j.j
    c.is_repeated-in-loop-j.ensures c.loop-j.invariant.0 c.passed-end.ensures bound in
    let fault = c.then_some-fault.ensures in (
      c.passed-end.ensures ∙ ap (λ b. before b s.places.now) bound,
      reports_test c.loop-j.invariant.1 c.requires.2 c.loop-j-test.true c.add_fault-count.ensures _ Redefined
          fault found,
    )

pub returns : goal.returns
returns c =
    reports_last c.loop-j.invariant.1 c.loop-j-test.false
