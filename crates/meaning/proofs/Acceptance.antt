-- Acceptance: every program from a verdict 0 is accepted, with its units in any good order.
use Prim.Native.Nat.{ℕ, ◌*◌, ◌/◌, ◌%◌, ◌≤◌, ◌<◌}
use mathlib.Core.Path.{◌≡◌, sym, ap, subst, ◌∙◌}
use mathlib.Core.List.{List, Memᴰ}
use native.Mathlib.Omega.{arith}
use borrow.Author.Tests.{le-ltb}
use lib.ListN.{length, take}
use lib.Seq.{sets}
use Rattle.limits.specs.Limits.{slots, most_records, record_bytes}
use Rattle.laws.specs.Counts.{◌∈◌}
use Rattle.laws.proofs.Sets.{sets_back}
use Rattle.sheet.specs.Sheet.{said}
use Rattle.sheet.specs.Reader.{sheet_of}
use Rattle.blocks.specs.Units.{Inner, block, TextUnit}
use Rattle.blocks.specs.Sound.{free_names, UnitsSound}
use Rattle.blocks.proofs.UnitsSound.{units_sound}
use Rattle.model.specs.Definitions.{definitions, keys, unit_at, unit_count}
use Rattle.model.specs.Faults.{outside_keys, GoodOrder, order_of}
use Rattle.model.specs.Text.{text_units}
use Rattle.model.proofs.KeyPlaces.{Once, keys_once}
use Rattle.model.proofs.NoModelFault.{no_faults, order_good, reads_known}
use Rattle.records.specs.Record.{Rec, program_bytes, instrs, decoded}
use Rattle.program.specs.Program.{program}
use Rattle.program.proofs.Counts.{count_of}
use Rattle.translator.specs.Verdict.{translated, verdict_of}
use Rattle.records.proofs.ReadBack.{length_program, program_back}
use Rattle.evaluator.specs.Judge.{answer, judge}
use Rattle.evaluator.specs.Evaluate.{refusal_within}
use Rattle.meaning.specs.Statements.{slot_of}
use Rattle.meaning.specs.BlockFunction.{BlockFunction}
use Rattle.meaning.specs.Faithful.{Accepted}
use Rattle.translator.proofs.Zero.{Clear, clear}
use Rattle.meaning.proofs.BlockFunctions.{blocks_functions}
use Rattle.meaning.proofs.Texts.{units_fit, text_low}
use Rattle.meaning.proofs.Initials.{EachResolved, each_resolved}
use Rattle.meaning.proofs.Readable.{readable}
use Rattle.meaning.proofs.JudgeTakes.{takes_program}

-- ---- what a text with verdict 0 has
module _ {text : List ℕ} {room : ℕ} {rs : List Rec} (c : Clear text room rs) where
  abbrev us : List TextUnit
  us = text_units text

  -- its blocks are sound
  pub sound : UnitsSound us
  sound = units_sound (said (sheet_of text)) c.unblocked

  -- no name twice
  pub once : Once (keys (definitions us))
  once = keys_once us (no_faults us c.clean).0

  -- what a unit reads is known outside blocks
  pub known : (i : ℕ) → i < unit_count us → (k : ℕ) → k ∈ (unit_at us i).reads → k ∈ outside_keys (definitions us)
  known = reads_known us (no_faults us c.clean).1

  -- each unit after all it uses
  pub ordered : GoodOrder us (order_of us)
  ordered = order_good us (no_faults us c.clean).2

  -- each initial has its value
  pub initials : EachResolved us
  initials = each_resolved us (no_faults us c.clean).1

  -- ---- its units in a good order: the records of the program with them so
  module _ (q : List ℕ) (g : GoodOrder us q) where
    abbrev ordered_recs : List Rec
    ordered_recs = program us q

    -- are read as they were written
    pub read_back : decoded (program_bytes ordered_recs) ≡ instrs ordered_recs
    read_back = program_back ordered_recs (readable us once c.few (units_fit text) sound known q g)

    -- and judged good
    pub judged_good : judge (decoded (program_bytes ordered_recs)) ≡ answer 0 0
    judged_good = ap judge read_back ∙ takes_program us once c.few sound known (text_low text) q g

    -- there are as many as in its own program
    as_many : length ordered_recs ≡ length rs
    as_many =
        sym (count_of us q g.perm) ∙ count_of us (order_of us) ordered.perm ∙ ap length (sym c.written)

    -- they are whole records, and not too many
    pub not_refused : Accepted (program_bytes ordered_recs)
    unfolding refusal_within
    not_refused v d roomy =
        let n = length_program ordered_recs in
        let e : length (program_bytes ordered_recs) / record_bytes ≡ length ordered_recs = omega arith in
        let z : length (program_bytes ordered_recs) % record_bytes ≡ 0 = omega arith in
        let few : length ordered_recs ≤ most_records = omega (arith, as_many, c.short) in
        rw (
          le-ltb (length v) slots roomy.values,
          le-ltb (length d) slots roomy.derivs,
          z,
          e,
          le-ltb most_records (length ordered_recs) few,
        )
        judged_good

  -- the lent buffer, cut to what was written, holds them
  pub cut_back : (p : List ℕ) → length p ≡ room
      → take (length rs * record_bytes) (sets p 0 (program_bytes rs)) ≡ program_bytes rs
  cut_back p e =
      let n = length_program rs in
      let m : length (program_bytes rs) ≡ length rs * record_bytes = omega arith in
      rw m at (sets_back p 0 (program_bytes rs) (omega (arith, c.fits)))

-- ACCEPTED: the judge takes every program from a verdict 0
pub accepted : (text : List ℕ) (faults room : ℕ) (rs : List Rec) (ls : List ℕ)
    → verdict_of text faults room ≡ translated rs ls
    → judge (decoded (program_bytes rs)) ≡ answer 0 0
accepted text faults room rs ls e =
    let c = clear text faults room rs ls e in
    subst (λ (x : List Rec). judge (decoded (program_bytes x)) ≡ answer 0 0) (sym c.written)
    (judged_good c (order_of (text_units text)) (ordered c))

-- A BLOCK of a text from a verdict 0 is a function, by the slots of the text
pub block_functions : (text : List ℕ) (faults room : ℕ) (rs : List Rec) (ls : List ℕ)
    → verdict_of text faults room ≡ translated rs ls
    → (u : TextUnit) → Memᴰ u (text_units text) → (os is : List ℕ) (ns : List Inner) (z : ℕ)
    → u.body ≡ block os is ns z
    → BlockFunction (slot_of (text_units text)) (free_names (text_units text)) is ns
block_functions text faults room rs ls e =
    blocks_functions (text_units text) (sound (clear text faults room rs ls e))
