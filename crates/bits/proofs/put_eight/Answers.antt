-- The bytes of the number, as one part where each has its place, and else as other bytes are written.
use Prim.Native.Nat.{ℕ, ◌+◌, ◌≤◌}
use mathlib.Core.Path.{◌≡◌, ap, ◌∙◌}
use mathlib.Core.List.{List}
use native.Mathlib.Omega.{arith}
use lib.ListN.{length}
use lib.Seq.{sets}
use Rattle.bits.specs.Low.{low_bytes}
use Rattle.bits.proofs.Lows.{eight_bytes, length_low}
use Rattle.bits.proofs.Parts.{part_written}
use Rattle.bits.proofs.put_eight.Goals as goal

pub returns-then-room-eq8 : goal.returns-then-room-eq8
returns-then-room-eq8 c =
    let a = c.args in
    let bytes : c.to_le_bytes-bytes.result ≡ low_bytes 8 a.v = c.to_le_bytes-bytes.ensures ∙ eight_bytes a.v in
    let written : c.copy_from_slice.new.self ≡ low_bytes 8 a.v = c.copy_from_slice.ensures.after ∙ bytes in
    let fits : a.at + 8 ≤ length a.buf.now = omega (arith, c.room.ensures) in
    part_written a.buf.now c.copy_from_slice.new.self a.at 8 _ (omega arith) fits
    (ap (λ (row : List ℕ). length row) written ∙ length_low 8 a.v)
    ∙ ap (λ (row : List ℕ). sets a.buf.now a.at row) written

pub returns-else-room-eq8 : goal.returns-else-room-eq8
returns-else-room-eq8 c =
    let a = c.args in
    let bytes = c.to_le_bytes-bytes.ensures ∙ eight_bytes a.v in
    c.put_bytes.ensures ∙ ap (λ (row : List ℕ). sets a.buf.now a.at row) bytes
