-- The ends of the uses of the n are the starts from place 1 on.
use Prim.Native.Nat.{◌+◌, ◌≤◌}
use Rattle.std.specs.Prelude.{◌↔◌, IsTrue, All, slice_range}
use Rattle.std.proofs.Common.{rules}
use Rattle.order.proofs.Tables.{ends_within}
use Rattle.order.proofs.table.uses_end.Goals as goal

pub returns : goal.returns
returns c =
    let s = c.args in
    let all : IsTrue c.all.result ↔ All (λ e. e ≤ s.size) (slice_range s.starts.now 1 (s.n + 1)) = search rules in
    let ends = ends_within s.n s.size s.starts.now c.requires in
    (λ t. ends.0 (all.0 t), λ f. all.1 (ends.1 f))
