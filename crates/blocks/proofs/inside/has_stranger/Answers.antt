-- Another name is sought among the places of the statement.
use Prim.Native.Nat.{ℕ, ◌+◌, ◌-◌}
use mathlib.Core.Path.{refl, ap₂, ◌∙◌}
use Rattle.std.proofs.Common.{rules}
use Rattle.laws.specs.Places.{any_in}
use Rattle.drafts.specs.Kinds.{kind_fetch}
use Rattle.blocks.specs.InsideWorking.{outside_at, allowed_at}
use Rattle.blocks.proofs.Searched.{any_found}
use Rattle.blocks.proofs.inside.has_stranger.Goals as goal

pub returns : goal.returns
returns c =
    let s = c.args.s.now in
    let strange = outside_at s.kinds.now s.args.now kind_fetch
    (allowed_at c.args.free.now.keys.now s.bounds.now s.kinds.now s.args.now (c.args.head + 1) c.args.j) in
    any_found c.short_at.result c.short_at-end.result strange c.any.ensures.ran refl (λ x t q k. search rules)
    ∙ ap₂ (λ (a b : ℕ). any_in strange (b - a) a) c.short_at.ensures.0 c.short_at-end.ensures.0
