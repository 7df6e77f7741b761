-- The table of uses, of any arrays: one that can be ordered.
use Prim.Native.Nat.{ℕ, suc, ◌+◌, ◌<◌}
use mathlib.Core.Path.{◌≡◌, refl, ap}
use mathlib.Core.List.{List, [], ◌∷◌, ◌++◌}
use native.Mathlib.Omega.{arith}
use lib.ListN.{length, get_or, take, drop}
use lib.Seq.{slice, split_at, length-take-le}
use Rattle.laws.specs.Lists.{concat_map}
use Rattle.laws.proofs.Along.{starts_at, part_at}
use Rattle.model.specs.Places.{assigned_slots, used_by_unit, used_in, starts_from}

-- the starts are where the uses of each unit begin
starts_at_holds : (o : ℕ) (assigned : List (List ℕ)) (bounds kinds slots equated : List ℕ)
    → starts_from o assigned bounds kinds slots equated
    ≡ starts_at (used_by_unit assigned bounds kinds slots) o equated
unfolding starts_from starts_at
starts_at_holds o assigned bounds kinds slots [] = refl
starts_at_holds o assigned bounds kinds slots (j ∷ equated) =
    let next = o + length (used_by_unit assigned bounds kinds slots j) in
    ap (◌∷◌ o) (starts_at_holds next assigned bounds kinds slots equated)

-- the uses of all units of the order
used_at_holds : (assigned : List (List ℕ)) (bounds kinds slots equated : List ℕ)
    → used_in assigned bounds kinds slots equated ≡ concat_map (used_by_unit assigned bounds kinds slots) equated
unfolding used_in concat_map
used_at_holds assigned bounds kinds slots [] = refl
used_at_holds assigned bounds kinds slots (j ∷ equated) =
    ap (λ r. used_by_unit assigned bounds kinds slots j ++ r) (used_at_holds assigned bounds kinds slots equated)

module _ (bounds kinds slots equated : List ℕ) where
  abbrev pub assigned_of : List (List ℕ)
  assigned_of = assigned_slots equated bounds kinds slots

  -- what unit j uses
  abbrev pub uses_of : ℕ → List ℕ
  uses_of j = used_by_unit assigned_of bounds kinds slots j

  -- the table: the uses of all units of the order, and where each begins
  abbrev pub table_of : List ℕ
  table_of = used_in assigned_of bounds kinds slots equated

  abbrev pub starts_of : List ℕ
  starts_of = starts_from 0 assigned_of bounds kinds slots equated

  -- what the table says that unit i of the order uses
  abbrev pub used_of : ℕ → List ℕ
  used_of i = slice (get_or starts_of i 0) (get_or starts_of (i + 1) 0) table_of

  starts_eq : starts_of ≡ starts_at uses_of 0 equated
  starts_eq = starts_at_holds 0 assigned_of bounds kinds slots equated

  table_eq : table_of ≡ concat_map uses_of equated
  table_eq = used_at_holds assigned_of bounds kinds slots equated

  module _ (i : ℕ) (h : i < length equated) where
    row_split : equated ≡ take i equated ++ get_or equated i 0 ∷ drop (suc i) equated
    row_split = split_at equated i 0 h

    front : length (take i equated) ≡ i
    front = length-take-le i equated (omega arith)

    -- what the table says of a unit is what it uses
    pub table_equated : used_of i ≡ uses_of (get_or equated i 0)
    table_equated =
        rw (starts_eq, table_eq)
        (rw (← row_split, front) at (part_at uses_of (take i equated) (get_or equated i 0) (drop (suc i) equated)))
