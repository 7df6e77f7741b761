-- The order handed out: how its loop writes it, and that it is that of the units.
use Prim.Native.Nat.{ℕ, ◌+◌, ◌≤◌, ◌<◌}
use mathlib.Core.Path.{◌≡◌, refl, sym, ◌∙◌}
use mathlib.Core.List.{List, [], map}
use native.Mathlib.Numerals.{add-one}
use lib.ListN.{length, get_or, set, drop, length-set, drop_of_length-le}
use lib.Seq.{sets, drop-cons}
use Rattle.laws.proofs.Concats.{map_same_in}
use Rattle.laws.proofs.Sets.{sets_out}
use Rattle.blocks.specs.Units.{TextUnit, OrderUnit}
use Rattle.blocks.specs.Layout.{UnitsLaid}
use Rattle.order.proofs.Sorting.{perm_below}
use Rattle.model.specs.Definitions.{unit_at, unit_count}
use Rattle.model.specs.Faults.{uses_in, model_faults, order_of}
use Rattle.model.specs.Places.{ordered_in}
use Rattle.model.proofs.NoModelFault.{no_faults, order_good}
use Rattle.model.proofs.SheetWalk.{unit_lines}
use Rattle.model.proofs.SheetOrdered.{ordered_lines_holds, ordered_at, ordered_length}
use Rattle.translator.specs.Working.{ordered_lines}

-- ---- the loop: the lines before place i are written, and those from it on are left
pub record Hands (equated lines order : List ℕ) (i : ℕ) (buf₀ buf : List ℕ) : Type 0 where
  pub long : length buf ≡ length buf₀
  pub same : sets buf i (ordered_lines equated lines (drop i order)) ≡ sets buf₀ 0 (ordered_lines equated lines order)

pub hands_first : (equated lines order buf : List ℕ) → Hands equated lines order 0 buf buf
hands_first equated lines order buf = record { long = refl; same = refl }

module _ {equated lines order : List ℕ} {i : ℕ} {buf₀ buf : List ℕ} (h : Hands equated lines order i buf₀ buf) where
  -- one line more
  pub hands_next : i < length order → (v : ℕ) → v ≡ get_or lines (get_or equated (get_or order i 0) 0) 0
      → Hands equated lines order (i + 1) buf₀ (set buf i v)
  hands_next l v e =
      record {
        long = length-set buf i v ∙ h.long;
        same = rw (add-one i, e) (rw (drop-cons order i 0 l) at h.same);
      }

  -- no place is left
  pub hands_full : length buf ≤ i → buf ≡ sets buf₀ 0 (ordered_lines equated lines order)
  hands_full l = sym (sets_out buf i (ordered_lines equated lines (drop i order)) l) ∙ h.same

  -- no line is left
  pub hands_last : length order ≤ i → buf ≡ sets buf₀ 0 (ordered_lines equated lines order)
  hands_last l = rw (drop_of_length-le order l) at h.same

-- ---- what it means

-- THE ORDER: of arrays that hold the units us, which have no model fault
pub order_handed : (us : List TextUnit) (kinds args lines bounds ulines ubounds firsts : List ℕ)
    → UnitsLaid us kinds args lines bounds ulines ubounds firsts → model_faults us ≡ []
    → ordered_lines (ordered_in (length ulines) ubounds kinds) ulines (order_of us)
    ≡ map (λ (i : ℕ). (unit_at us i).line) (order_of us)
order_handed us kinds args lines bounds ulines ubounds firsts laid clean =
    let below = perm_below (unit_count us) (uses_in us) (order_of us) (order_good us (no_faults us clean).2).perm in
    rw (laid.kinds_held, laid.unit_lines_held, laid.unit_bounds_held)
    (map_same_in _ _ (order_of us)
    (λ r h. ordered_at us (λ j. get_or (unit_lines us) j 0) (λ (o : OrderUnit). o.line) (ordered_lines_holds us) r
    (rw (ordered_length us) (below r h))))
