-- Each draft adds 1 or 0, so that the sum is no more than the length.
use Rattle.std.proofs.Common.{◌≡◌, ℕ, ◌<◌, arith, sym, ◌∙◌, sum_by, rules}
use Rattle.std.proofs.iter.runs.Made.{chains}
use Rattle.std.proofs.lemmas.Iterator.{YieldsList-from_slice, YieldsList-from_map}
use Rattle.std.proofs.lemmas.Iterator.Consumers.{fits_by_from_yields_list}
use Rattle.laws.specs.Counts.{once}
use Rattle.drafts.specs.Kinds.{defines}
use Rattle.blocks.proofs.DefiningCounted.{defining_sum, defining_le}
use Rattle.blocks.proofs.definitions.defining_in.Goals as goal

pub sum-requires-clause-fits : goal.sum-requires-clause-fits
sum-requires-clause-fits c =
    let part = c.args.part.now in
    let few : sum_by (λ (k : ℕ). once (defines k)) part < 256 =
    omega (arith, defining_sum part, defining_le part, c.requires) in
    fits_by_from_yields_list _ _ c.map.result _
    (YieldsList-from_map _ (λ (k : ℕ). once (defines k)) (YieldsList-from_slice part cc) c.map.ensures.closure
    (λ x r q k. search rules))
    few

pub returns : goal.returns
returns c =
    let part = c.args.part.now in
    let total : c.sum.result ≡ sum_by (λ (k : ℕ). once (defines k)) part = search (rules, chains) in
    total ∙ sym (defining_sum part)
