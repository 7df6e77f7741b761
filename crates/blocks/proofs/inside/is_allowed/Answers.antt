-- A hint first, then inputs, then names set above, then constants and states.
use Prim.Native.Nat.{◌+◌, ◌-◌}
use mathlib.Core.Path.{◌≡◌, ◌∙◌}
use native.Mathlib.Omega.{arith}
use Rattle.std.proofs.lemmas.Bool.Decides.{nat_tests}
use Rattle.blocks.proofs.InsideFound.{allowed_by}
use Rattle.blocks.proofs.Searched.{key_found}
use Rattle.blocks.proofs.inside.is_allowed.Goals as goal

pub returns-then-is_set_above : goal.returns-then-is_set_above
returns-then-is_set_above c =
    let s = c.args.s.now in
    let head = c.args.head in
    let back : head ≡ (head + 1) - 1 = omega arith in
    rw (allowed_by c.args.free.now.keys.now s.bounds.now s.kinds.now s.args.now (head + 1) c.args.j c.args.key)
    (grind (arith, nat_tests, back))

pub returns-else-is_set_above : goal.returns-else-is_set_above
returns-else-is_set_above c =
    let s = c.args.s.now in
    let free = c.args.free.now.keys.now in
    let head = c.args.head in
    let back : head ≡ (head + 1) - 1 = omega arith in
    let found = c.contains.ensures.value ∙ key_found c.args.key free in
    rw (allowed_by free s.bounds.now s.kinds.now s.args.now (head + 1) c.args.j c.args.key)
    (grind (arith, nat_tests, back, found))
