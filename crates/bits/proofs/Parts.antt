-- A part of a buffer that is written whole.
use Prim.Native.Nat.{ℕ, ◌+◌, ◌≤◌}
use mathlib.Core.Path.{◌≡◌, sym, ◌∙◌}
use mathlib.Core.List.{List, ◌++◌}
use native.Mathlib.Omega.{arith}
use borrow.Rule.Slice.PartMut.{put_mid}
use lib.ListN.{length, take, drop, take-append-drop}
use lib.Seq.{sets, sets-eq}
use Rattle.std.proofs.lemmas.Slice.{take-put_mid, drop-put_mid}

-- the part of n places from a place on
pub part_written : (buf part : List ℕ) (at n k : ℕ) → k ≡ n → at + n ≤ length buf → length part ≡ n
    → put_mid at k buf part ≡ sets buf at part
part_written buf part at n k e h l =
    let now = put_mid at k buf part in
    let front : take (at + n) now ≡ take at buf ++ part =
    take-put_mid at k buf part (at + n) (omega arith) (omega arith) in
    let back : drop (at + n) now ≡ drop (at + n) buf =
    drop-put_mid at k buf part (at + n) (omega arith) (omega arith) (omega arith) in
    sym (take-append-drop (at + n) now)
    ∙ rw (front, back, sets-eq part buf at (omega arith), l)
