use mathlib.Core.Path.{◌∙◌}
use Prim.Native.Nat.{◌≤◌, ◌*◌, ◌-◌}
use native.Mathlib.Omega.{arith}
use lib.ListN.{length, take, drop, length-drop}
use Rattle.std.proofs.lemmas.List.{take_rest}
use Rattle.limits.specs.Limits.{record_bytes}
use Rattle.records.proofs.FieldBytes.{kind_read, slot_read, value_read}
use Rattle.records.proofs.Fields.at.Goals as goal

pub returns : goal.returns
returns c =
    let p = c.args.program.now in
    let o = c.args.n * record_bytes in
    let e = take_rest p o in
    let h : 16 ≤ length (take (length p - o) (drop o p)) = rw e (omega (arith, length-drop o p)) in
    record {
      whole = omega arith;
      kind = c.from_le_bytes.ensures ∙ kind_read p o e h;
      slot = c.from_le_bytes-2.ensures ∙ slot_read p o e h;
      bits = c.from_le_bytes-3.ensures ∙ value_read p o e h;
    }
