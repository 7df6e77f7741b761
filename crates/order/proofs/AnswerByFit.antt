-- The contract of `sort` is met: a table that fits is answered by its order, any other by none.
use mathlib.Core.Path.{◌≡◌, ap}
use mathlib.Core.Bool.{false}
use mathlib.Core.Logic.{⊎_elim}
use mathlib.Core.List.{List}
use Prim.Native.Nat.{ℕ, ◌≤◌}
use lib.ListN.{length}
use Rattle.std.specs.Prelude.{Some, None}
use Rattle.laws.proofs.Tests.{bool_cases}
use Rattle.order.specs.declared.table.Table.{Table}
use Rattle.order.specs.Table.{Fit, fits}
use Rattle.order.specs.Contract.{Filled, Sorts}
use Rattle.order.proofs.Tables.{fits_iff}

module _ {n : ℕ} {s u lent : List ℕ} where
  -- the answer of a table that fits, if there is room for its order
  pub sorts_placed : (t : Table) → (t.n ≡ n) × (t.starts.now ≡ s) × (t.used.now ≡ u) → n ≤ length lent
      → {out : List ℕ} {k : ℕ} → Filled t.n t.starts.now t.used.now lent out k → Sorts n s u lent (Some k) out
  sorts_placed t e h w =
      let fit : Fit n s u = rw (← e.0, ← e.1, ← e.2) t.fit in
      let f = (fits_iff n s u (length lent)).1 (fit, h) in
      let filled = rw e.0 at rw e.1 at rw e.2 at w in
      record { answer = rw f (ap Some filled.count); content = rw f filled.content }

  -- and of any other
  pub sorts_unfit : (Fit n s u → n ≤ length lent → ⊥) → Sorts n s u lent None lent
  sorts_unfit unfit =
      let there = (fits_iff n s u (length lent)).0 in
      let f : fits n s u (length lent) ≡ false =
      ⊎_elim (λ e. absurd (unfit (there e).0 (there e).1)) (λ e. e) (bool_cases (fits n s u (length lent))) in
      record { answer = rw f; content = rw f }
