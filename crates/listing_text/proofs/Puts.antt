-- Laws of what is put: a byte past the end, what a loop writes.
use Prim.Native.Nat.{ℕ, ◌+◌, ◌-◌, ◌≤◌, ◌<◌}
use mathlib.Core.Path.{refl, sym}
use mathlib.Core.List.{List, [], ◌∷◌}
use native.Mathlib.Nat.{sub-zero}
use lib.ListN.{length}
use lib.Seq.{set_out}
use Rattle.laws.specs.Places.{gather}
use Rattle.laws.specs.Put.{Put}
use Rattle.laws.proofs.Gathers.{Writes, writes_next, writes_count, writes_all}

-- past the end nothing is written
pub put_out : (b at : ℕ) (old : List ℕ) → length old ≤ at → Put (b ∷ []) at (at + 1) old old
put_out b at old h = record { behind = refl; written = sym (set_out old at b h) }

-- ---- a loop that writes
module _ {f : ℕ → List ℕ} {n i w₀ w : ℕ} {buf₀ buf : List ℕ} where
  -- what one place gives
  pub put_next : {a r : ℕ} {last : List ℕ} → Writes f n a i w₀ w buf₀ buf → i < n → Put (f i) w r buf last
      → Writes f n a (i + 1) w₀ r buf₀ last
  put_next {r = r} {last = last} v h p = writes_next v h r last p.behind p.written

  -- what all give
  put_all : {a : ℕ} → Writes f n a i w₀ w buf₀ buf → n ≤ i → Put (gather f (n - a) a) w₀ w buf₀ buf
  put_all v h = record { behind = writes_count v h; written = writes_all v h }

  -- the same from place 0 on
  pub put_whole : Writes f n 0 i w₀ w buf₀ buf → n ≤ i → Put (gather f n 0) w₀ w buf₀ buf
  put_whole v h = rw (sub-zero n) at (put_all v h)
