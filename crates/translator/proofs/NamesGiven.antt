-- What is given where names are asked for: by the verdict of translating, and by the room.
use Prim.Native.Nat.{ℕ, ◌*◌, ◌≤◌, ◌<◌}
use mathlib.Core.Path.{◌≡◌, refl}
use mathlib.Core.List.{List}
use native.Mathlib.Omega.{arith}
use borrow.Author.Tests.{lt-ltb, le-ltb}
use lib.Dec.{ltb}
use lib.ListN.{length}
use Rattle.limits.specs.Limits.{most_records, program_room, roster_bytes}
use Rattle.laws.proofs.Tests.{cond_ind}
use Rattle.model.specs.Definitions.{Def, definitions}
use Rattle.model.specs.Text.{text_units}
use Rattle.translator.specs.Verdict.{Decision, refused, faulty, translated, verdict_of, number_of, count_of}
use Rattle.translator.specs.Verdict.{faults_after}
use Rattle.translator.specs.Names.{Naming, unnamed, named, naming_by, naming_of, count_naming, names_given_of}
use Rattle.translator.specs.Names.{names_given}
use Rattle.translator.specs.Rules.{NamesRule}
use Rattle.translator.proofs.Counted.{few, count_few}
use Rattle.translator.proofs.Zero.{clear, zero_translated}

-- FEW: the count is at most that of the most records
pub naming_few : (text : List ℕ) (faults room : ℕ) → count_naming (naming_of text faults room) ≤ most_records
naming_few text faults room =
    let v = verdict_of text faults program_room in
    go v refl (count_few v (few text faults program_room))
  where
    ds : List Def
    ds = definitions (text_units text)

    go : (v : Decision) → verdict_of text faults program_room ≡ v → count_of v ≤ most_records
        → count_naming (naming_by v ds room) ≤ most_records
    go (refused n) e h = omega arith
    go (faulty n fs) e h = h
    go (translated rs ls) e h =
        let most = (clear text faults program_room rs ls e).few in
        cond_ind (λ (x : Naming). count_naming x ≤ most_records) (ltb room (roster_bytes * length ds)) (unnamed 10)
        (named ds) (λ _. omega arith) (λ _. omega (arith, most))

-- THE RULE
pub names_rule : (text f o : List ℕ) → NamesRule text f o
unfolding names_given
names_rule text f o =
    record {
      same = same (verdict_of text (length f) program_room);
      short =
          λ z h.
          let e = (zero_translated text (length f) program_room z).2 in
          rw (e, lt-ltb (length o) (roster_bytes * length ds) h);
      named =
          λ z h.
          let e = (zero_translated text (length f) program_room z).2 in
          rw (e, le-ltb (length o) (roster_bytes * length ds) h);
    }
  where
    ds : List Def
    ds = definitions (text_units text)

    same : (v : Decision) → 0 < number_of v
        → names_given_of (naming_by v ds (length o)) f o
        ≡ record { number = number_of v; count = count_of v; faults = faults_after v f; roster = o }
    same (refused n) h = refl
    same (faulty n fs) h = refl
    same (translated rs ls) h = absurd (omega arith)
