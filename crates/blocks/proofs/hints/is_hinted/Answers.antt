-- What stands at a place of the row is one of its keys.
use Prim.Native.Nat.{ℕ}
use mathlib.Core.Path.{ap, ◌∙◌}
use borrow.Author.Tests.{eqb-true}
use Rattle.laws.specs.Counts.{has}
use Rattle.laws.proofs.Members.{in_has, at_in}
use Rattle.blocks.proofs.hints.is_hinted.Goals as goal

pub returns-then-i-row : goal.returns-then-i-row
returns-then-i-row c e =
    let keys = c.args.row.now.keys.now in
    ap (λ (k : ℕ). has k keys) (eqb-true _ _ e) ∙ in_has _ keys (at_in keys c.short_at-i.result c.if-i-row.true)
