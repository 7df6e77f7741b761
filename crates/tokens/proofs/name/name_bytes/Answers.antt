use Rattle.std.proofs.Common.{◌+◌, ◌∙◌, drop, take, rules, tests}
use Rattle.std.proofs.lemmas.Iterator.{YieldsList-from_slice, YieldsList-from_take}
use Rattle.std.proofs.lemmas.Iterator.Consumers.{YieldsList-at, count_from_yields_List}
use Rattle.std.proofs.lemmas.Iterator.Search.{YieldsList-from_take_while}
use Rattle.limits.specs.Limits.{name_bytes}
use Rattle.tokens.specs.Bytes.{is_word}
use Rattle.tokens.proofs.Prefixes.{run_taken, run_front, all_behind}
use Rattle.tokens.proofs.name.name_bytes.Goals as goal

pub returns : goal.returns
returns c =
    let s = drop c.args.at c.args.body.now in
    let from_here = c.iter.ensures.rest ∙ all_behind c.args.body.now c.args.at in
    count_from_yields_List c.take_while.result c.count.result c.count.ensures.ran
    (YieldsList-from_take_while _ is_word
    (YieldsList-at c.take_while.ensures.source
    (YieldsList-from_take _ (YieldsList-at c.take.ensures.source (YieldsList-from_slice s from_here))
    c.take.ensures.count))
    c.take_while.ensures.closure c.take_while.ensures.done (λ x b f called. search (rules, tests)))
    ∙ run_taken is_word (take (name_bytes + 1) s)
    ∙ run_front is_word (name_bytes + 1) s
