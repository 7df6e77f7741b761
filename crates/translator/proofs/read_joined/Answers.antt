-- The tokens go into a row that has a place for each byte; what they tell goes by how their row ends.
use Prim.Native.Nat.{ℕ, ◌≤◌}
use mathlib.Core.Path.{◌≡◌, sym, ap, ◌∙◌}
use mathlib.Core.List.{List}
use native.Mathlib.Omega.{arith}
use lib.ListN.{length}
use lib.Seq.{length-take-le}
use Rattle.std.specs.Prelude.{Result, Ok}
use Rattle.tokens.specs.Row.{row_of}
use Rattle.tokens.specs.Contract.{tokens, row_end, end_in, WritesRow}
use Rattle.tokens.specs.declared.RowError.{RowError}
use Rattle.tokens.proofs.Rows.{row_short}
use Rattle.tokens.proofs.Answers.{written_room, ends_well}
use Rattle.translator.proofs.Telling.{tells_of, tokened_well, row_held}
use Rattle.translator.proofs.read_joined.Goals as goal

-- a row that ends well has at most one token for each byte
few : (s ks us ks' us' : List ℕ) (r : Result ℕ RowError) (n : ℕ) → length s ≤ length ks → length s ≤ length us
    → WritesRow s ks us r ks' us' → r ≡ Ok n → n ≤ length s
few s ks us ks' us' r n h k w e =
    let ends = ends_well (row_of s) n (sym (written_room s ks us r ks' us' h k w).0 ∙ ap end_in e) in
    omega (arith, row_short s, ends.1)

pub shared_ref_as_front-parse : goal.shared_ref_as_front-parse
shared_ref_as_front-parse c =
    let p = c.requires in
    let short = few _ _ _ _ _ _ _ (omega (arith, p.short)) (omega (arith, p.short)) c.row.ensures c.in-Ok.is in
    omega (arith, short, p.short)

pub parse-requires : goal.parse-requires
parse-requires c =
    let p = c.requires in
    let short = few _ _ _ _ _ _ _ (omega (arith, p.short)) (omega (arith, p.short)) c.row.ensures c.in-Ok.is in
    let a = length-take-le c.in-Ok.n c.row.new.kinds (omega (arith, short, p.short, c.row.auto)) in
    let b = length-take-le c.in-Ok.n c.row.new.args (omega (arith, short, p.short, c.row.auto)) in
    record {
      even = b
          ∙ sym a;
      room_kinds = omega (arith, short, a, p.room_kinds);
      room_args = omega (arith, short, a, p.room_args);
    }

pub returns-in-Ok : goal.returns-in-Ok
returns-in-Ok c =
    let e = c.row in
    let p = c.requires in
    let body = c.args.body.now in
    let room_kinds : length body ≤ length c.args.row.now.kinds = omega (arith, p.short) in
    let room_args : length body ≤ length c.args.row.now.args = omega (arith, p.short) in
    let written = written_room body c.args.row.now.kinds c.args.row.now.args e.result e.new.kinds e.new.args
    room_kinds room_args e.ensures in
    let well : row_end (row_of body) ≡ tokens c.in-Ok.n = sym written.0 ∙ ap end_in c.in-Ok.is in
    let many = (ends_well (row_of body) c.in-Ok.n well).1 in
    let few : c.in-Ok.n ≤ length body = omega (arith, row_short body, many) in
    let held =
    row_held body c.args.row.now.kinds c.args.row.now.args e.new.kinds e.new.args well room_kinds
    room_args written.1 written.2 in
    let whole = length-take-le c.in-Ok.n e.new.kinds (omega (arith, few, p.short, e.auto)) in
    tells_of (tokened_well body well) (c.parse.ensures held (many ∙ sym whole))
