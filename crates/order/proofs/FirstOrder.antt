-- Demand 2 on statements that use one another: unsortable exactly if no order has every value set before use; otherwise
-- the order is the first of all such orders.
use mathlib.Core.Bool.{Bool}
use mathlib.Core.Logic.{⊎_elim, ◌↔◌}
use mathlib.Core.List.{List, map}
use Prim.Native.Nat.{ℕ, ◌<◌}
use Rattle.laws.proofs.Tests.{bool_cases, not_both}
use Rattle.order.specs.Order.{◌≼◌, Good, First, unsortable, Sortable}
use Rattle.order.specs.Greedy.{order, LeftOver}
use Rattle.order.proofs.Dictionary.{≼_map}
use Rattle.order.proofs.Sorting.{left_over_iff, order_good, perm_below, good_none_left, order_first}
use Rattle.order.proofs.Chains.{unsortable_iff}

module _ (n : ℕ) (uses : ℕ → ℕ → Bool) where
  -- then none is left over
  none_left : Sortable n uses → (i : ℕ) → LeftOver n uses i → ⊥
  none_left s i o = not_both ((unsortable_iff n uses i).1 ((left_over_iff n uses i).0 o)) (s i o.0)

  -- UNSORTABLE EXACTLY: no statement is unsortable exactly if some order has every value set before use
  pub sortable_iff : Sortable n uses ↔ (q : List ℕ) × Good n uses q
  sortable_iff = (
    λ s. (order n uses, order_good n uses (none_left s)),
    λ g i h.
        ⊎_elim
        (λ t. absurd (good_none_left n uses g.0 g.1 i ((left_over_iff n uses i).1 ((unsortable_iff n uses i).0 t))))
        (λ t. t)
        (bool_cases (unsortable n uses i)),
  )

  -- THE ORDER: if none is unsortable, the greedy order is the first of all such orders
  pub order_is_first : Sortable n uses → First n uses (order n uses)
  order_is_first s = record { good = order_good n uses (none_left s); least = order_first n uses }

  -- first also by the list of first lines, or of other numbers that rise with the statements
  pub first_by_lines : (line : ℕ → ℕ) → ((a b : ℕ) → b < n → a < b → line a < line b)
      → (q : List ℕ) → Good n uses q → map line (order n uses) ≼ map line q
  first_by_lines line up q g =
      ≼_map line (order n uses) q (λ a b h l. up a b (perm_below n uses q g.perm b h) l) (order_first n uses q g)
