-- What the contract of a row tells its callers.
use Prim.Native.Nat.{ℕ, ◌≤◌}
use mathlib.Core.Path.{◌≡◌, refl, ap₂}
use mathlib.Core.Bool.{true}
use mathlib.Core.List.{List}
use native.Mathlib.Omega.{arith}
use borrow.Author.Tests.{le-leb}
use lib.ListN.{length}
use lib.Seq.{sets}
use Rattle.std.specs.Prelude.{Result}
use Rattle.tokens.specs.declared.RowError.{RowError}
use Rattle.tokens.specs.Row.{Close, all_good, bad, Row, row_of}
use Rattle.tokens.specs.Contract.{tokens, fault, end_in, close_end, row_end, kinds_of, args_of, row_roomy, WritesRow}

-- with room the row is written
pub written_room : (s ks us : List ℕ) (r : Result ℕ RowError) (ks' us' : List ℕ)
    → length s ≤ length ks → length s ≤ length us
    → WritesRow s ks us r ks' us'
    → (end_in r ≡ row_end (row_of s)) × (ks' ≡ sets ks 0 (kinds_of (row_of s))) × (us' ≡ sets us 0 (args_of (row_of s)))
written_room s ks us r ks' us' h k w = (rw full at w.answer, rw full at w.kinds, rw full at w.args)
  where
    full : row_roomy s ks us ≡ true
    full = rw (le-leb (length s) (length ks) h, le-leb (length s) (length us) k)

-- the count is that of the tokens, and a row that ends well has no bad token
pub ends_well : (r : Row) (n : ℕ) → row_end r ≡ tokens n → (r.close ≡ all_good) × (length r.tokens ≡ n)
ends_well r n e = by_close r.close (length r.tokens) e
  where
    by_close : (c : Close) (k : ℕ) → close_end c k ≡ tokens n → (c ≡ all_good) × (k ≡ n)
    by_close all_good k e = (refl, cc)
    by_close (bad code at) k e = absurd (let z : ◌≡◌ {A = ℕ} 0 1 = cc in omega arith)

-- one that ends badly has the bad token of the answer
pub ends_badly : (r : Row) (code n at : ℕ) → row_end r ≡ fault code n at
    → (r.close ≡ bad code at) × (length r.tokens ≡ n)
ends_badly r code n at e = by_close r.close (length r.tokens) e
  where
    by_close : (c : Close) (k : ℕ) → close_end c k ≡ fault code n at → (c ≡ bad code at) × (k ≡ n)
    by_close all_good k e = absurd (let z : ◌≡◌ {A = ℕ} 0 1 = cc in omega arith)
    by_close (bad code₂ at₂) k e =
        let a : code₂ ≡ code = cc in
        let b : at₂ ≡ at = cc in
        (ap₂ bad a b, cc)
