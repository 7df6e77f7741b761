-- Evaluating reads slot 0 and the state slots, writes constants and stored slots and the derivatives of states; other
-- places stay. Said of every accepted program, whoever wrote it.
use Rattle.std.specs.Prelude.{ℕ, ◌≡◌, ◌⊎◌, length, get_or, Float}
use mathlib.Core.List.{List, map, Memᴰ}
use Rattle.std.specs.Float.{nan}
use Rattle.records.specs.Record.{decoded}
use Rattle.records.specs.Shape.{Shape, constant, initial, store, derivative, store_again, shape_of}
use Rattle.evaluator.specs.Evaluate.{RunOutcome, evaluated}

-- what the records of a program do, one after the other
abbrev pub shapes : List ℕ → List Shape
shapes p = map shape_of (decoded p)

module _ (hs : List Shape) (s : ℕ) where
  -- s is the slot of a state: kind 2
  abbrev pub StateSlot : Type 0
  StateSlot = (x : Float) × Memᴰ (initial s x) hs

  -- .. a stored one: kind 13, or kind 15, which stores again
  abbrev pub StoredSlot : Type 0
  StoredSlot = Memᴰ (store s) hs ⊎ Memᴰ (store_again s) hs

  -- .. of a constant, kind 1, or a stored one
  abbrev pub SetSlot : Type 0
  SetSlot = ((x : Float) × Memᴰ (constant s x) hs) ⊎ StoredSlot

  -- .. one whose derivative is written: kind 14
  abbrev pub DerivedSlot : Type 0
  DerivedSlot = Memᴰ (derivative s) hs

-- v and w hold the same in place s
abbrev pub Same : List Float → List Float → ℕ → Type 0
Same v w s = get_or v s nan ≡ get_or w s nan

-- two starts agree in all that evaluating reads: slot 0 and the state slots
pub record SameRead (hs : List Shape) (v w : List Float) : Type 0 where
  pub time : Same v w 0
  pub states : (s : ℕ) → StateSlot hs s → Same v w s

-- two ends agree in all that evaluating writes
pub record SameWritten (hs : List Shape) (o r : RunOutcome) : Type 0 where
  pub values : (s : ℕ) → SetSlot hs s → Same o.values r.values s
  pub derivs : (s : ℕ) → DerivedSlot hs s → Same o.derivs r.derivs s

-- from the start v and d to the end o: a place is one of those written, or it stays; what is read stays
pub record OthersStay (hs : List Shape) (v d : List Float) (o : RunOutcome) : Type 0 where
  pub long : (length o.values ≡ length v) × (length o.derivs ≡ length d)
  pub values : (s : ℕ) → SetSlot hs s ⊎ Same o.values v s
  pub derivs : (s : ℕ) → DerivedSlot hs s ⊎ Same o.derivs d s
  pub read : (s : ℕ) → (s ≡ 0) ⊎ StateSlot hs s → Same o.values v s

-- of evaluating the program p from two starts, v and d, w and e
pub record ReadsStates (p : List ℕ) (v d w e : List Float) : Type 0 where
  pub alike : SameWritten (shapes p) (evaluated p v d) (evaluated p w e)
  pub stays : OthersStay (shapes p) v d (evaluated p v d)
  pub stays_too : OthersStay (shapes p) w e (evaluated p w e)
