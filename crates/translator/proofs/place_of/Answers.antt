-- The place of the token, or the end.
use mathlib.Core.Path.{refl, ap}
use borrow.Author.Tests.{lt-ltb, le-ltb}
use Rattle.deck.specs.declared.Place.TheVariants.{AtToken}
use Rattle.translator.proofs.place_of.Goals as goal

pub returns-then-i-count : goal.returns-then-i-count
returns-then-i-count c =
    let a = c.args in
    rw (lt-ltb a.i a.count c.if-i-count.true) (ap AtToken c.token_place.ensures)

pub returns : goal.returns
returns c =
    let a = c.args in rw (le-ltb a.i a.count c.if-i-count.false) refl
