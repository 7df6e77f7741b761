-- The passes of a start and of a step over the states: they do one thing for each initial value, and end where no more
-- can follow.
use Prim.Native.Nat.{ℕ, zero-le, ◌+◌, ◌-◌, ◌/◌, ◌≤◌, ◌<◌}
use mathlib.Core.Path.{◌≡◌, refl, sym, ap, ◌∙◌}
use mathlib.Core.List.{List, [], ◌∷◌}
use native.Mathlib.Omega.{arith}
use denote.Enum.Declared.{tag_of}
use types.Run.{OneOf, miss}
use lib.ListN.{length, get_or, set, length-set}
use lib.Ieee.{Float, nan}
use Rattle.limits.specs.Limits.{slots, record_bytes}
use Rattle.records.specs.contracts.Instr.{the_type}
use Rattle.records.specs.declared.Instr.{Instr}
use Rattle.records.specs.declared.Instr.TheVariants.{Constant, Initial, Value, Slot, Add, Sub, Mul, Div}
use Rattle.records.specs.declared.Instr.TheVariants.{Neg, Insw, Limit, Compar, Store, Deriv, StoreAgain, Bad}
use Rattle.records.specs.Shape.{Shape, constant, initial, push, fold, store, derivative, store_again, bad, shape_of}
use Rattle.records.specs.Decode.{read_at}
use Rattle.records.specs.Record.{decoded}
use Rattle.records.proofs.LeftRecords.{left, left_all, left_next, left_none}
use Rattle.evaluator.specs.Judge.{rule_of, takes, gives, phase_of}
use Rattle.evaluator.specs.Evaluate.{if_initial, each_state}
use Rattle.evaluator.specs.Sound.{Sound, SoundWithin}
use Rattle.evaluator.specs.States.{AnsweredBy, remade}
use Rattle.evaluator.proofs.AcceptedSound.{sound_next}

-- ---- one record

-- what follows the variants of phase 1 and 2
abbrev pub later : List ℕ
later = 2 ∷ 3 ∷ 4 ∷ 5 ∷ 6 ∷ 7 ∷ 8 ∷ 9 ∷ 10 ∷ 11 ∷ 12 ∷ 13 ∷ 14 ∷ 15 ∷ []

-- is of phase 3
later_phase : (x : Instr) → OneOf later (tag_of the_type x) → phase_of x ≡ 3
later_phase (Constant s x) h = absurd (miss later 0 tt h)
later_phase (Initial s x) h = absurd (miss later 1 tt h)
later_phase (Value x) h = refl
later_phase (Slot s) h = refl
later_phase Add h = refl
later_phase Sub h = refl
later_phase Mul h = refl
later_phase Div h = refl
later_phase Neg h = refl
later_phase Insw h = refl
later_phase Limit h = refl
later_phase Compar h = refl
later_phase (Store s) h = refl
later_phase (Deriv s) h = refl
later_phase (StoreAgain s) h = refl
later_phase Bad h = refl

-- so it has no initial value
pub late_shape : (f : ℕ → Float → List Float) (v : List Float) (s : Shape) → 2 < (rule_of s).phase
    → v ≡ if_initial f v s
late_shape f v (constant s x) h = refl
late_shape f v (initial s x) h = absurd (omega arith)
late_shape f v (push p) h = refl
late_shape f v (fold o) h = refl
late_shape f v (store s) h = refl
late_shape f v (derivative s) h = refl
late_shape f v (store_again s) h = refl
late_shape f v bad h = refl

-- after phase 2 nothing is done
late : (f : List Float → ℕ → Float → List Float) (q h : ℕ) (v : List Float) (xs : List Instr) → 2 < q → Sound q h xs
    → v ≡ each_state f v xs
unfolding SoundWithin each_state
late f q h v [] l s = refl
late f q h v (x ∷ xs) l s =
    let m : 2 < phase_of x = omega (arith, s.0.phase) in
    late f (phase_of x) (h - takes x + gives x) v xs m s.1
    ∙ ap (λ (w : List Float). each_state f w xs) (late_shape (f v) v (shape_of x) m)

-- ---- all records

-- before record i, with the values v₀ lent and v there, where P says what the code's function gives
pub record Passing (P : Float → ℕ → Float → Float → Type 0) (p : List ℕ) (v₀ v : List Float) (i : ℕ) : Type 0 where
  pub here : i ≤ length p / record_bytes
  pub wide : length v ≡ length v₀
  pub phase : ℕ
  pub height : ℕ
  pub sound : Sound phase height (left p i)
  pub same : (g : Float → ℕ → Float → Float) → AnsweredBy P g
      → each_state (remade g) v₀ (decoded p) ≡ each_state (remade g) v (left p i)

-- before record 0
pub first : {P : Float → ℕ → Float → Float → Type 0} {p : List ℕ} (v : List Float) → Sound 1 0 (decoded p)
    → Passing P p v v 0
first {P} {p} v s =
    record {
      here = zero-le;
      wide = refl;
      phase = 1;
      height = 0;
      sound = rw (left_all p) s;
      same = λ g m. rw (left_all p);
    }

module _ {P : Float → ℕ → Float → Float → Type 0} {p : List ℕ} {v₀ v : List Float} {i : ℕ} (a : Passing P p v₀ v i)
  where
    module _ (h : i < length p / record_bytes) {s : ℕ} {x : Float} where
      -- record i is a constant
      pub past_constant : Constant s x ≡ read_at p i → Passing P p v₀ v (i + 1)
      unfolding each_state
      past_constant e =
          let n = sound_next a.sound h e in
          record {
            here = omega arith;
            wide = a.wide;
            phase = 1;
            height = a.height - 0 + 0;
            sound = n.sound;
            same = λ g m. a.same g m ∙ rw (left_next p i h, sym n.is);
          }

      -- it is an initial value, whose slot is one of the slots
      pub ready : Initial s x ≡ read_at p i → s < slots
      ready e = (sound_next a.sound h e).fits.slot

      -- the state becomes r
      pub past_initial : {r : Float} → Initial s x ≡ read_at p i → P (get_or v s nan) s x r
          → Passing P p v₀ (set v s r) (i + 1)
      unfolding each_state
      past_initial {r} e b =
          let n = sound_next a.sound h e in
          record {
            here = omega arith;
            wide = length-set v s r ∙ a.wide;
            phase = 2;
            height = a.height - 0 + 0;
            sound = n.sound;
            same = λ g m.
                let q : r ≡ g (get_or v s nan) s x = m (get_or v s nan) s x r b in
                a.same g m ∙ rw (left_next p i h, sym n.is, q);
          }

    -- it is of phase 3, and the pass ends
    pub over : (x : Instr) → i < length p / record_bytes → OneOf later (tag_of the_type x) → x ≡ read_at p i
        → (g : Float → ℕ → Float → Float) → AnsweredBy P g → v ≡ each_state (remade g) v₀ (decoded p)
    unfolding each_state
    over x h o e g m =
        let n = sound_next a.sound h e in
        let l : 2 < phase_of x = omega (arith, later_phase x o) in
        late (remade g) (phase_of x) (a.height - takes x + gives x) v (left p (i + 1)) l n.sound
        ∙ ap (λ (w : List Float). each_state (remade g) w (left p (i + 1))) (late_shape (remade g v) v (shape_of x) l)
        ∙ sym (a.same g m ∙ rw (left_next p i h, sym n.is))

    -- after all
    pub done : length p / record_bytes ≤ i → (g : Float → ℕ → Float → Float) → AnsweredBy P g
        → v ≡ each_state (remade g) v₀ (decoded p)
    unfolding each_state
    done h g m = sym (a.same g m ∙ rw (left_none p i h))
