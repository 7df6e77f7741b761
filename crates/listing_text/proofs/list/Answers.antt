-- What is written is the listing of the text.
use Rattle.std.specs.Prelude.{Ok, Err}
use Rattle.listing_text.proofs.ListedMeans.{counts_small, lists_order, lists_refusal}
use Rattle.listing_text.proofs.list.Goals as goal

pub put_order-requires : goal.put_order-requires
put_order-requires c =
    counts_small c.args.text.now (Ok c.in-Ok.done) c.in-Ok.ensures

pub returns-in-Ok : goal.returns-in-Ok
returns-in-Ok c =
    lists_order c.args.text.now c.in-Ok.done c.in-Ok.ensures c.put_order.ensures

pub put_refusal-requires : goal.put_refusal-requires
put_refusal-requires c =
    (counts_small c.args.text.now (Err c.in-Err.refusal) c.in-Err.ensures).0

pub returns-in-Err : goal.returns-in-Err
returns-in-Err c =
    lists_refusal c.args.text.now c.in-Err.refusal c.in-Err.ensures c.put_refusal.ensures
