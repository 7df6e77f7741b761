-- What the judge has accepted is sound.
use Prim.Native.Nat.{ℕ, zero, suc, ◌+◌, ◌-◌, ◌*◌, ◌/◌, ◌<◌}
use mathlib.Core.Path.{◌≡◌, refl, ◌∙◌}
use mathlib.Core.Bool.{true}
use mathlib.Core.List.{List, ◌∷◌}
use native.Mathlib.Omega.{arith}
use borrow.Author.Tests.{leb-true}
use lib.Dec.{leb}
use lib.ListN.{length}
use Rattle.limits.specs.Limits.{slots, stack_places, record_bytes}
use Rattle.laws.proofs.Tests.{not_both, cond_ind, and_true}
use Rattle.records.specs.declared.Instr.{Instr}
use Rattle.records.specs.declared.Instr.TheVariants.{Bad}
use Rattle.records.specs.Fields.{operand_of}
use Rattle.records.specs.Record.{decode_at, decode_at_within, decode_from_within, decoded_within}
use Rattle.records.specs.Decode.{read_at}
use Rattle.records.proofs.Decoding.{slot_inside, read_at_holds}
use Rattle.records.proofs.LeftRecords.{left, left_next}
use Rattle.evaluator.specs.Judge.{takes, gives, phase_of, Judge, good, judged, judge_begun, answer, judge_from}
use Rattle.evaluator.specs.Judge.{judge_within}
use Rattle.evaluator.specs.Judge.{Answer}
use Rattle.evaluator.specs.Sound.{Fits, Sound, SoundWithin}

-- a good record fits
good_fits : (n : ℕ) (j : Judge) (x : Instr) → operand_of x < n → good j x ≡ true → Fits n j.phase j.height x
unfolding good
good_fits n j x s e =
    let a = and_true (leb (takes x) j.height) _ e in
    let b = and_true (leb (j.height - takes x + gives x) stack_places) _ a.1 in
    let c = and_true (leb j.phase (phase_of x)) _ b.1 in
    record {
      known = λ (q : x ≡ Bad). not_both (rw q at c.1) refl;
      slot = s;
      phase = leb-true j.phase (phase_of x) c.0;
      low = leb-true (takes x) j.height a.0;
      high = leb-true (j.height - takes x + gives x) stack_places b.0;
    }

-- k records from record i on
sound_from : (n : ℕ) → 0 < n → (p : List ℕ) (i k : ℕ) (j : Judge)
    → (judge_from i j (decode_from_within n p i k)).number ≡ 0
    → SoundWithin n j.phase j.height (decode_from_within n p i k)
unfolding SoundWithin judge_from decode_from_within
sound_from n some p i zero j e = tt
sound_from n some p i (suc k) j e =
    let x = decode_at_within n p (i * record_bytes) in
    let xs = decode_from_within n p (suc i) k in
    cond_ind (λ (a : Answer). a.number ≡ 0 → SoundWithin n j.phase j.height (x ∷ xs)) (good j x)
    (judge_from (suc i) (judged j x) xs) (answer 3 i)
    (λ g f.
    (good_fits n j x (slot_inside p n (i * record_bytes) some) g, sound_from n some p (suc i) k (judged j x) f))
    (λ _ f. absurd (omega arith)) e

-- THE LAW. No record of an accepted program finds too few values or no place for its value, or names no slot
pub accepted_sound : (n : ℕ) → 0 < n → (p : List ℕ) → (judge_within n (decoded_within n p)).number ≡ 0
    → SoundWithin n 1 0 (decoded_within n p)
unfolding decoded_within
accepted_sound n some p e = sound_from n some p 0 (length p / record_bytes) (judge_begun n) e

-- ---- the next record

-- record i, and what is left behind it, of a sound program
pub record Next (p : List ℕ) (q h i : ℕ) (x : Instr) : Type 0 where
  pub is : x ≡ decode_at p (i * record_bytes)
  pub fits : Fits slots q h x
  pub sound : Sound (phase_of x) (h - takes x + gives x) (left p (i + 1))

-- it is read as it was decoded, and fits
pub sound_next : {p : List ℕ} {q h i : ℕ} {x : Instr} → Sound q h (left p i) → i < length p / record_bytes
    → x ≡ read_at p i → Next p q h i x
unfolding SoundWithin
sound_next {p} {q} {h} {i} {x} s l e =
    let t : Sound q h (decode_at p (i * record_bytes) ∷ left p (i + 1)) = rw (left_next p i l) at s in
    let f : x ≡ decode_at p (i * record_bytes) = e ∙ read_at_holds p i l t.0.known in
    record { is = f; fits = rw f t.0; sound = rw f t.1 }
