-- A fault for size is the answer; else what one line says, or what its lines say.
use Prim.Native.Nat.{ℕ}
use mathlib.Core.Path.{◌≡◌, sym, ap, subst, ◌∙◌}
use mathlib.Core.List.{List}
use native.Mathlib.Omega.{arith}
use lib.ListN.{length}
use Rattle.faults.specs.Codes.{code_of}
use Rattle.deck.specs.Next.{cards_at}
use Rattle.tokens.specs.Row.{row_of}
use Rattle.sheet.specs.Reader.{tokened}
use Rattle.faults.proofs.Apart.{fault_code}
use Rattle.translator.specs.Working.{Size, code_at}
use Rattle.translator.proofs.Telling.{tells_of, tells_fault, told_sized, told_joined}
use Rattle.translator.proofs.read_statement.Goals as goal

pub returns-in-Some : goal.returns-in-Some
returns-in-Some c =
    let a = c.args in
    let cards = cards_at a.text.now a.s.start a.s.lines in
    let code : code_of c.in-Some.fault ≡ code_at a.s = rw c.in-Some.is at c.size_fault.ensures in
    let size = subst (Size cards a.s.closed) (sym code) c.requires.size in
    tells_fault _
    (rw c.size_place.ensures
    (told_sized cards a.s.closed (code_of c.in-Some.fault) size (fault_code c.in-Some.fault)))

-- of one line
pub overflow_sub-end : goal.overflow_sub-end
overflow_sub-end c =
    let none : code_at c.args.s ≡ 0 = sym (rw c.in_default.is at c.size_fault.ensures) in
    omega (arith, (c.requires.alone none c.if-s-eq1.true).from)

pub read_joined-requires : goal.read_joined-requires
read_joined-requires c =
    let p = c.requires in
    let none : code_at c.args.s ≡ 0 = sym (rw c.in_default.is at c.size_fault.ensures) in
    let l = ap length (p.alone none c.if-s-eq1.true).same in
    record {
      short = omega (arith, l, p.short none);
      room_kinds = omega (arith, l, p.room_kinds);
      room_args = omega (arith, l, p.room_args);
    }

pub returns-then-s-eq1 : goal.returns-then-s-eq1
returns-then-s-eq1 c =
    let a = c.args in
    let cards = cards_at a.text.now a.s.start a.s.lines in
    let none : code_at a.s ≡ 0 = sym (rw c.in_default.is at c.size_fault.ensures) in
    let stands = c.requires.alone none c.if-s-eq1.true in
    let size : Size cards a.s.closed 0 = subst (Size cards a.s.closed) none c.requires.size in
    let e = told_joined cards a.s.closed size ∙ ap (λ (b : List ℕ). tokened (row_of b)) (sym stands.same) in
    tells_of e c.read_joined.ensures

-- of more
pub returns : goal.returns
returns c =
    let a = c.args in
    let cards = cards_at a.text.now a.s.start a.s.lines in
    let none : code_at a.s ≡ 0 = sym (rw c.in_default.is at c.size_fault.ensures) in
    let size : Size cards a.s.closed 0 = subst (Size cards a.s.closed) none c.requires.size in
    tells_of (told_joined cards a.s.closed size) c.read_cards.ensures
