-- Every slot has its name: what a caller finds where names are asked for.
use Prim.Native.Nat.{ℕ, ◌*◌, ◌≤◌, ◌<◌}
use mathlib.Core.Path.{◌≡◌, refl, sym, ap, subst, ◌∙◌}
use mathlib.Core.Logic.{⊎_elim}
use mathlib.Core.List.{List}
use native.Mathlib.Omega.{arith}
use lib.ListN.{length}
use Rattle.std.specs.Prelude.{Ok}
use Rattle.limits.specs.Limits.{program_room, roster_bytes}
use Rattle.laws.proofs.Tests.{lt_or_ge}
use Rattle.records.specs.Record.{Rec}
use Rattle.translator.specs.Verdict.{translated, verdict_of, number_of}
use Rattle.translator.specs.Rules.{records_of, definitions_of, NamesRule}
use Rattle.translator.specs.Names.{NamesGiven, names_given}
use Rattle.translator.specs.Contract.{NamesSlots, named_in_numbers}
use Rattle.translator.proofs.Verdicts.{names_by_number}
use Rattle.translator.proofs.NamesGiven.{names_rule}
use Rattle.translator.proofs.Zero.{clear, zero_translated}
use Rattle.floesedge.specs.declared.CVerdict.{CVerdict}
use Rattle.floesedge.specs.Contract.{NamesFixed}
use Rattle.meaning.specs.EverySlot.{EverySlot, RosterOf}
use Rattle.meaning.proofs.EverySlot as lower

-- EVERY SLOT HAS ITS NAME: for verdict 0 the definitions, in their order, are those of the slots 1, 2, ..; each record
-- of kind 1, 2, 13 or 14 belongs to the name of its slot; each name that a statement sets stands among them exactly
-- once
pub every_slot : (text : List ℕ) (faults room : ℕ) (rs : List Rec) (ls : List ℕ)
    → verdict_of text faults room ≡ translated rs ls → EverySlot text rs
every_slot text faults room rs ls e = lower.every_slot (clear text faults room rs ls e)

-- what is given with number 0
by_answer : (text f o : List ℕ) (g : NamesGiven) → g ≡ names_given text f o → g.number ≡ 0
    → RosterOf text g.count g.roster × EverySlot text (records_of text)
by_answer text f o g e z =
    ⊎_elim (λ h. refused h)
    (λ h. named (omega arith)) (lt_or_ge 0 (number_of (verdict_of text (length f) program_room)))
  where
    rule : NamesRule text f o
    rule = names_rule text f o

    number : (names_given text f o).number ≡ 0
    number = ap (λ (x : NamesGiven). x.number) (sym e) ∙ z

    refused : 0 < number_of (verdict_of text (length f) program_room)
        → RosterOf text g.count g.roster × EverySlot text (records_of text)
    refused h = absurd (omega (arith, number, ap (λ (x : NamesGiven). x.number) (rule.same h)))

    named : number_of (verdict_of text (length f) program_room) ≡ 0
        → RosterOf text g.count g.roster × EverySlot text (records_of text)
    named h = ⊎_elim short room (lt_or_ge (length o) (roster_bytes * length (definitions_of text)))
      where
        short : length o < roster_bytes * length (definitions_of text)
            → RosterOf text g.count g.roster × EverySlot text (records_of text)
        short l = absurd (omega (arith, number, ap (λ (x : NamesGiven). x.number) (rule.short h l)))

        room : roster_bytes * length (definitions_of text) ≤ length o
            → RosterOf text g.count g.roster × EverySlot text (records_of text)
        room l =
            let given = e ∙ rule.named h l in
            let v = zero_translated text (length f) program_room h in
            let c = clear text (length f) program_room v.0 v.1 v.2 in
            let count = ap (λ (x : NamesGiven). x.count) given in (
              record {
                counted = count;
                entries =
                    λ i k. rw (ap (λ (x : NamesGiven). x.roster) given)
                    (lower.roster_found (definitions_of text) o l i (omega (arith, count)));
              },
              subst (EverySlot text) c.written (lower.every_slot c),
            )

-- FROM THE ENTRY: where `names` gives k entries
pub named_slots : (text f o : List ℕ) (k : ℕ) (f' o' : List ℕ) → NamesSlots text f o (Ok k) f' o'
    → RosterOf text k o' × EverySlot text (records_of text)
named_slots text f o k f' o' e =
    by_answer text f o (named_in_numbers (Ok k) f' o') (names_by_number text f o (Ok k) e) refl

-- the same at the boundary to other languages
pub linked_names : (text f o : List ℕ) (r : CVerdict) (f' o' : List ℕ) → NamesFixed text f o r f' o' → r.number ≡ 0
    → RosterOf text r.count o' × EverySlot text (records_of text)
linked_names text f o r f' o' e z =
    by_answer text f o (record { number = r.number; count = r.count; faults = f'; roster = o' }) e z
