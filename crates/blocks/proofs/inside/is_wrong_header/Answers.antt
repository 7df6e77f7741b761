-- A bad output is sought among the places of the header.
use Prim.Native.Nat.{ℕ, ◌+◌, ◌-◌}
use mathlib.Core.Path.{refl, ap₂, ◌∙◌}
use lib.ListN.{length}
use Rattle.std.proofs.Common.{rules}
use Rattle.laws.specs.Places.{any_in}
use Rattle.drafts.specs.Places.{begins}
use Rattle.blocks.specs.InsidePlaces.{set_below}
use Rattle.blocks.specs.InsideWorking.{bad_output_at}
use Rattle.blocks.proofs.InsideFound.{header_found}
use Rattle.blocks.proofs.Searched.{any_found}
use Rattle.blocks.proofs.inside.is_wrong_header.Goals as goal

pub returns : goal.returns
returns c =
    let s = c.args.s.now in
    let j = c.args.j in
    let n = length s.lines.now in
    let bad = bad_output_at s.kinds.now s.args.now
    (set_below s.bounds.now s.kinds.now s.args.now (n - (j + 1)) (j + 1)) (begins s.bounds.now j) in
    any_found c.short_at.result c.short_at-end.result bad c.any.ensures.ran refl (λ x t q k. search rules)
    ∙ ap₂ (λ (a b : ℕ). any_in bad (b - a) a) c.short_at.ensures.0 c.short_at-end.ensures.0
    ∙ header_found n s.bounds.now s.kinds.now s.args.now j
