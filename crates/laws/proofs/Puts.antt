-- Laws of what is put: nothing, and one part behind another.
use Prim.Native.Nat.{ℕ}
use mathlib.Core.Path.{◌≡◌, sym, ap₂, ◌∙◌}
use mathlib.Core.List.{List, [], ◌++◌}
use native.Mathlib.Omega.{arith}
use lib.ListN.{length-append}
use lib.Seq.{sets}
use Rattle.laws.specs.Put.{Put}
use Rattle.laws.proofs.Sets.{sets_append}

-- where there is nothing to write, nothing is
pub put_none : {what : List ℕ} (w : ℕ) (buf : List ℕ) → what ≡ [] → Put what w w buf buf
put_none w buf e = record { behind = rw e (omega arith); written = rw e }

-- one part and then another, where the first ended
pub put_both : {x y : List ℕ} {w m r : ℕ} {b b₁ b₂ : List ℕ} → Put x w m b b₁ → Put y m r b₁ b₂ → Put (x ++ y) w r b b₂
put_both {x} {y} {w} {b = b} p q =
    record {
      behind = omega (arith, p.behind, q.behind, length-append x y);
      written =
          q.written ∙ ap₂ (λ (l : List ℕ) (n : ℕ). sets l n y) p.written p.behind
          ∙ sym (sets_append b w x y);
    }
