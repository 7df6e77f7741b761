-- A field read in two parts.
use Prim.Native.Nat.{ℕ, ◌+◌, ◌*◌, ◌^◌, ◌≤◌}
use mathlib.Core.Path.{◌≡◌, ◌∙◌}
use mathlib.Core.List.{List, [], ◌∷◌, ◌++◌}
use native.Mathlib.Nat.{pow-suc, mul_assoc, mul_comm}
use native.Mathlib.Omega.{arith}
use lib.ListN.{length, take, drop, length-drop}
use lib.Seq.{drop-drop, take-add, length-take-le}
use Rattle.bits.specs.Low.{low_word}
use Rattle.records.specs.Record.{field}

-- the number of bytes that stand behind others
word_append : (x y : List ℕ) → low_word (x ++ y) ≡ low_word x + 256 ^ length x * low_word y
unfolding low_word
word_append [] y = omega arith
word_append (b ∷ x) y =
    let e : 256 ^ length (b ∷ x) * low_word y ≡ 256 * (256 ^ length x * low_word y) =
    rw (pow-suc, mul_comm (256 ^ length x) 256, mul_assoc) in
    omega (arith, word_append x y, e)

module _ (p : List ℕ) (o : ℕ) where
  -- the first m bytes, and the n behind them
  pub field_parts : (m n : ℕ) → o + m ≤ length p → field p o (m + n) ≡ field p o m + 256 ^ m * field p (o + m) n
  field_parts m n h =
      let front = take m (drop o p) in
      let e : length front ≡ m = length-take-le m (drop o p) (omega (arith, length-drop o p)) in
      let f : take (m + n) (drop o p) ≡ front ++ take n (drop (o + m) p) = take-add m n (drop o p) ∙ rw drop-drop in
      rw f (word_append front (take n (drop (o + m) p)) ∙ rw e)
