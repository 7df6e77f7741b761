-- The invariant: what is counted and what is left to count are all.
use Rattle.std.proofs.Common.{List, ℕ, ap, arith, length}
use Rattle.std.specs.Slice.Iter.{chunks_rest}
use Rattle.std.proofs.lemmas.List.{nil_from_length}
use Rattle.blocks.specs.Places.{defining_in}
use Rattle.blocks.proofs.DefiningCounted.{defining_nil, defining_append, defining_le}
use Rattle.blocks.proofs.definitions.count_defining.Goals as goal

pub loop-part-preserved : goal.loop-part-preserved
loop-part-preserved c =
    let steps = c.in-Some.ensures.steps in
    let parts = ap (λ (ks : List ℕ). length (defining_in ks)) steps.1.0 in
    let both = defining_append c.in-Some.part.now (chunks_rest c.next.new.self) in
    let counted = c.loop-part.invariant in
    (omega arith, tt, omega arith, omega arith)

pub overflow_add-n : goal.overflow_add-n
overflow_add-n c =
    let parts = ap (λ (ks : List ℕ). length (defining_in ks)) c.in-Some.ensures.steps.1.0 in
    let both = defining_append c.in-Some.part.now (chunks_rest c.next.new.self) in
    let counted = c.loop-part.invariant in
    let few = defining_le c.args.kinds.now in
    omega arith

pub returns : goal.returns
returns c =
    let none = ap (λ (ks : List ℕ). length (defining_in ks)) (nil_from_length _ c.in-None.ensures.steps.1.0) in
    let nil = defining_nil in
    let counted = c.loop-part.invariant in
    omega arith
