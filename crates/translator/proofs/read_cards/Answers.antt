-- The joined text stands in front of an array that has room for it.
use Prim.Native.Nat.{ℕ, ◌≤◌}
use mathlib.Core.Path.{◌≡◌, sym, ap}
use mathlib.Core.List.{List}
use native.Mathlib.Omega.{arith}
use lib.ListN.{length, take, replicate}
use lib.Seq.{length-take-le}
use Rattle.deck.specs.Codes.{joined_room}
use Rattle.tokens.specs.Row.{row_of}
use Rattle.sheet.specs.Reader.{tokened}
use Rattle.translator.specs.Working.{joined_at}
use Rattle.translator.proofs.Telling.{tells_of, taken}
use Rattle.translator.proofs.read_cards.Goals as goal

pub slice_bounds-body-end : goal.slice_bounds-body-end
slice_bounds-body-end c =
    omega (arith, c.requires.short, c.join-n.ensures.0, c.join-n.auto)

pub slice_bounds-read_joined-end : goal.slice_bounds-read_joined-end
slice_bounds-read_joined-end c =
    let within : c.join-n.result ≤ length c.join-n.new.out =
    omega (arith, c.requires.short, c.join-n.ensures.0, c.join-n.auto) in
    sym (length-take-le c.join-n.result c.join-n.new.out within)

pub read_joined-requires : goal.read_joined-requires
read_joined-requires c =
    let cards = joined_at c.args.text.now c.args.s in
    let body : take c.join-n.result c.join-n.new.out ≡ cards =
    taken (replicate joined_room 0) cards c.join-n.new.out c.join-n.ensures.0 c.requires.short c.join-n.ensures.1 in
    let l = ap length body in
    record {
      short = omega (arith, c.requires.short);
      room_kinds = omega (arith, c.requires.room_kinds);
      room_args = omega (arith, c.requires.room_args);
    }

pub returns : goal.returns
returns c =
    let cards = joined_at c.args.text.now c.args.s in
    let body : take c.join-n.result c.join-n.new.out ≡ cards =
    taken (replicate joined_room 0) cards c.join-n.new.out c.join-n.ensures.0 c.requires.short c.join-n.ensures.1 in
    tells_of (ap (λ (b : List ℕ). tokened (row_of b)) (sym body)) c.read_joined.ensures
