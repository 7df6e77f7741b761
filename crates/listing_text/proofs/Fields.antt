-- Fields read from a place on, and past the end.
use Prim.Native.Nat.{ℕ, ◌-◌, ◌≤◌}
use mathlib.Core.Path.{◌≡◌, ap, ◌∙◌}
use mathlib.Core.List.{List}
use native.Mathlib.Omega.{arith}
use lib.ListN.{length, take, drop, length-drop, drop_of_length-le}
use lib.Seq.{take-nil, take_all}
use Rattle.bits.specs.Low.{low_word}
use Rattle.records.specs.Record.{field}

-- a field that begins past the end is 0
pub field_out : (s : List ℕ) (at n : ℕ) → length s ≤ at → 0 ≡ field s at n
unfolding low_word
field_out s at n h = rw (drop_of_length-le s h, take-nil n)

-- a field is read from what stands from its place on
pub field_part : (s : List ℕ) (at n r : ℕ) → r ≡ low_word (take n (take (length s - at) (drop at s))) → r ≡ field s at n
field_part s at n r e =
    e
    ∙ ap (λ (l : List ℕ). low_word (take n l)) (take_all (length s - at) (drop at s) (omega (arith, length-drop at s)))
