-- No place is left, the statement has no byte, or both counts are compared.
use Prim.Native.Nat.{◌-◌}
use mathlib.Core.Path.{refl}
use native.Mathlib.Omega.{arith}
use borrow.Author.Tests.{ltb-true, ltb-false}
use Rattle.laws.proofs.Tests.{not_both}
use Rattle.translator.proofs.lacks_room.Goals as goal

pub returns-then-places-d : goal.returns-then-places-d
returns-then-places-d c =
    record { lacks = λ _. omega (arith, c.if-places-d.true); has = λ e. absurd (not_both refl e) }

pub returns-then-next-start : goal.returns-then-next-start
returns-then-next-start c =
    record {
      lacks = λ e. absurd (not_both e refl);
      has = λ _. omega (arith, c.if-places-d.false, c.if-next-start.true);
    }

pub returns : goal.returns
returns c =
    let a = c.args in
    let left = a.places - a.d in
    let span = a.next - 1 - a.start in
    record {
      lacks = λ e. omega (arith, ltb-true left span e, c.if-places-d.false);
      has = λ e. omega (arith, ltb-false left span e, c.if-places-d.false);
    }
