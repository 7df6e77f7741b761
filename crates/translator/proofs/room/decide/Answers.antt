-- A fault stands, or the model decides.
use mathlib.Core.Path.{sym}
use native.Mathlib.Omega.{arith}
use borrow.Author.Rules.{rules}
use lib.ListN.{length}
use Rattle.translator.specs.Working.{asks_names}
use Rattle.translator.proofs.Rooms.{says_five, says_model, statements_few, lines_many, bounds_count, kinds_many}
use Rattle.translator.proofs.Rooms.{kinds_enough, args_many, args_enough, ready_so}
use Rattle.translator.proofs.room.decide.Goals as goal

-- a fault stands
pub returns-then-n-gt0 : goal.returns-then-n-gt0
returns-then-n-gt0 c s =
    let a = c.args in
    says_five s.taken s.few s.read (asks_names (length c.args.rows.now)) a.out.now a.ordered.now c.if-n-gt0.true

pub slice_bounds-conclude-end : goal.slice_bounds-conclude-end
slice_bounds-conclude-end c =
    let s = c.requires in
    sym (lines_many s.taken s.few s.read)

pub overflow_add-s : goal.overflow_add-s
overflow_add-s c =
    let s = c.requires in
    let few = statements_few s.taken s.few s.read in
    search (rules, few)

pub slice_bounds-conclude-end-2 : goal.slice_bounds-conclude-end-2
slice_bounds-conclude-end-2 c =
    let s = c.requires in
    sym (bounds_count s.taken s.few s.read)

pub slice_bounds-conclude-end-3 : goal.slice_bounds-conclude-end-3
slice_bounds-conclude-end-3 c =
    let s = c.requires in
    kinds_enough s.taken s.few s.read

pub slice_bounds-conclude-end-4 : goal.slice_bounds-conclude-end-4
slice_bounds-conclude-end-4 c =
    let s = c.requires in
    sym (kinds_many s.taken s.few s.read)

pub slice_bounds-conclude-end-5 : goal.slice_bounds-conclude-end-5
slice_bounds-conclude-end-5 c =
    let s = c.requires in
    args_enough s.taken s.few s.read

pub slice_bounds-conclude-end-6 : goal.slice_bounds-conclude-end-6
slice_bounds-conclude-end-6 c =
    let s = c.requires in
    sym (args_many s.taken s.few s.read)

pub conclude-requires : goal.conclude-requires
conclude-requires c =
    let s = c.requires in
    ready_so s.taken s.few s.read s.uses_room

-- the model decides
pub returns : goal.returns
returns c s =
    let a = c.args in
    says_model s.taken s.few s.read (omega arith) (asks_names (length c.args.rows.now)) c.conclude.result a.out.now
    a.ordered.now s.uses_room c.conclude.ensures
