-- The records of a program from record i on, one by one.
use Prim.Native.Nat.{ℕ, suc, ◌+◌, ◌-◌, ◌*◌, ◌/◌, ◌≤◌, ◌<◌}
use mathlib.Core.Path.{◌≡◌}
use mathlib.Core.List.{List, [], ◌∷◌}
use native.Mathlib.Numerals.{add-one}
use native.Mathlib.Omega.{arith}
use lib.ListN.{length}
use Rattle.limits.specs.Limits.{record_bytes}
use Rattle.records.specs.declared.Instr.{Instr}
use Rattle.records.specs.Record.{decode_at, decode_from, decode_from_within, decoded, decoded_within}

abbrev pub left : List ℕ → ℕ → List Instr
left p i = decode_from p i (length p / record_bytes - i)

pub left_all : (p : List ℕ) → left p 0 ≡ decoded p
unfolding decoded_within
left_all p = let e : length p / record_bytes - 0 ≡ length p / record_bytes = omega arith in rw e

pub left_next : (p : List ℕ) (i : ℕ) → i < length p / record_bytes
    → left p i ≡ decode_at p (i * record_bytes) ∷ left p (i + 1)
unfolding decode_from_within
left_next p i h =
    let e : length p / record_bytes - i ≡ suc (length p / record_bytes - (i + 1)) = omega arith in
    rw (e, add-one)

pub left_none : (p : List ℕ) (i : ℕ) → length p / record_bytes ≤ i → left p i ≡ []
unfolding decode_from_within
left_none p i h = let e : length p / record_bytes - i ≡ 0 = omega arith in rw e
