use Rattle.std.proofs.Common.{◌≡◌, ◌+◌, ap, ◌∙◌, ◌≤◌, length, drop, rules}
use Rattle.std.proofs.lemmas.Iterator.{YieldsList-from_slice}
use Rattle.std.proofs.lemmas.Iterator.Consumers.{YieldsList-at, count_from_yields_List}
use Rattle.std.proofs.lemmas.Iterator.Search.{YieldsList-from_take_while}
use Rattle.tokens.proofs.Prefixes.{run_taken, run_past, all_behind}
use Rattle.tokens.proofs.bytes.run_end.Goals as goal

pub returns-in_default : goal.returns-in_default
returns-in_default g c =
    let past : length c.args.body.now ≤ c.args.from = search rules in run_past g.test _ _ past

pub returns : goal.returns
returns g c =
    let s = drop c.args.from c.args.body.now in
    let all = all_behind c.args.body.now c.args.from in
    let behind : c.iter.result.rest.now ≡ s = cc (c.iter.ensures.rest, c.in-Some.ensures.lookup.0.2, all) in
    let taken = YieldsList-from_take_while _ g.test
    (YieldsList-at c.take_while.ensures.source (YieldsList-from_slice s behind))
    c.take_while.ensures.closure c.take_while.ensures.done c.requires.1.0 in
    ap (λ n. c.args.from + n)
    (count_from_yields_List _ c.count.result c.count.ensures.ran taken ∙ run_taken g.test s)
