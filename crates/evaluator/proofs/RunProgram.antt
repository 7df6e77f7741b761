-- The run's loop: what is left to do is what the definition leaves.
use Prim.Native.Nat.{ℕ, zero-le, ◌+◌, ◌*◌, ◌/◌, ◌≤◌, ◌<◌}
use mathlib.Core.Path.{◌≡◌, refl, sym, ap, ◌∙◌}
use mathlib.Core.List.{List}
use native.Mathlib.Omega.{arith}
use lib.ListN.{length}
use lib.Ieee.{Float}
use Rattle.limits.specs.Limits.{stack_places, record_bytes}
use Rattle.records.specs.declared.Instr.{Instr}
use Rattle.records.specs.Decode.{read_at}
use Rattle.records.specs.Record.{decode_at}
use Rattle.records.proofs.LeftRecords.{left, left_all, left_next, left_none}
use Rattle.evaluator.specs.Judge.{phase_of}
use Rattle.evaluator.specs.Machine.{Machine, step, run}
use Rattle.evaluator.specs.Evaluate.{ran}
use Rattle.evaluator.specs.Sound.{Sound, Granted}
use Rattle.evaluator.specs.Stack.{down, machine, emptied, FindsRoom, OneStep, Ran}
use Rattle.evaluator.specs.declared.stack.Stack.{Stack}
use Rattle.evaluator.proofs.AcceptedSound.{sound_next}

-- before record i: the stack has n values, and v and d are the values and derivatives there
pub record Running (p : List ℕ) (v₀ d₀ v d l : List Float) (n i : ℕ) : Type 0 where
  pub here : i ≤ length p / record_bytes
  pub tall : n ≤ stack_places
  pub full : length l ≡ stack_places
  pub wide : length v ≡ length v₀
  pub deep : length d ≡ length d₀
  pub phase : ℕ
  pub sound : Sound phase n (left p i)
  pub same : ran p v₀ d₀ ≡ run (machine l n v d) (left p i)

-- before record 0
pub first : {p : List ℕ} {v d : List Float} (s : Stack) → s ≡ emptied → Granted p v d
    → Running p v d v d s.items s.count 0
unfolding down
first {p} {v} {d} s e h =
    rw e
    (record {
      here = zero-le;
      tall = zero-le;
      full = refl;
      wide = refl;
      deep = refl;
      phase = 1;
      sound = rw (left_all p) h.sound;
      same = rw (left_all p);
    })

module _ {p : List ℕ} {v₀ d₀ v d l : List Float} {n i : ℕ} (a : Running p v₀ d₀ v d l n i) where
  module _ {x : Instr} (h : i < length p / record_bytes) (e : x ≡ read_at p i) where
    -- what the next instruction asks
    pub ready : Granted p v₀ d₀ → FindsRoom x l n v d
    ready g =
        let f = (sound_next a.sound h e).fits in
        record {
          slot = f.slot;
          low = f.low;
          high = f.high;
          tall = a.tall;
          full = a.full;
          values = omega (arith, a.wide, g.values);
          derivs = omega (arith, a.deep, g.derivs);
        }

    -- after it
    pub next : {v' d' l' : List Float} {r : ℕ} → OneStep x l n v d l' r v' d' → length v' ≡ length v
        → length d' ≡ length d → Running p v₀ d₀ v' d' l' r (i + 1)
    unfolding run
    next {v'} {d'} {l'} {r} s lv ld =
        let q = sound_next a.sound h e in
        let m : machine l' r v' d' ≡ step (machine l n v d) (decode_at p (i * record_bytes)) = rw q.is at s.same in
        record {
          here = omega arith;
          tall = rw s.count q.fits.high;
          full = s.full;
          wide = lv ∙ a.wide;
          deep = ld ∙ a.deep;
          phase = phase_of x;
          sound = rw s.count q.sound;
          same = a.same ∙ rw (left_next p i h, m);
        }

  -- after all
  pub last : length p / record_bytes ≤ i → machine l n v d ≡ ran p v₀ d₀
  unfolding run
  last h = sym (a.same ∙ rw (left_none p i h))

-- the values and the derivatives of the machine that is left
pub parts : {k v d : List Float} {m : Machine} → record { stack = k; values = v; derivs = d } ≡ m → Ran m v d
parts e = record { values = ap (λ (m : Machine). m.values) e; derivs = ap (λ (m : Machine). m.derivs) e }
