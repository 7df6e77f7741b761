-- Beginnings and steps: what starting and moving leave in the slots of the units.
use Prim.Native.Nat.{ℕ, suc, ◌≤◌}
use mathlib.Core.Path.{◌≡◌, refl, sym, ap, subst, ◌∙◌}
use mathlib.Core.Logic.{inl, inr}
use mathlib.Core.List.{List}
use native.Mathlib.Omega.{arith}
use lib.ListN.{length, get_or, set, length-set}
use lib.Seq.{get_or-set_same, get_or-set_other}
use lib.Ieee.{Float, nan, binary64, add, mul}
use Rattle.limits.specs.Limits.{slots, most_definitions}
use Rattle.laws.specs.Every.{Every}
use Rattle.laws.specs.Counts.{◌∈◌}
use Rattle.laws.proofs.Every.{every_map}
use Rattle.blocks.specs.Units.{Inner, TextUnit}
use Rattle.blocks.specs.Sound.{UnitsSound}
use Rattle.model.specs.Definitions.{definitions, keys, slot_in}
use Rattle.model.proofs.KeyPlaces.{Once}
use Rattle.records.specs.Record.{instrs}
use Rattle.records.specs.Shape.{zero64}
use Rattle.program.specs.Program.{program}
use Rattle.evaluator.specs.Evaluate.{start_all, move_all, advanced}
use Rattle.meaning.specs.Statements.{slot_among, Resolves, EachAsked, Beginning, Stepping}
use Rattle.meaning.proofs.Postfix.{zero_same}
use Rattle.meaning.proofs.Owned.{stored_names}
use Rattle.meaning.proofs.Asked.{asked_two, names_same, names_many, alone_defined, each_name}
use Rattle.meaning.proofs.Initials.{EachResolved}
use Rattle.meaning.proofs.States.{Holds, states_long, states_rest, states_own, states_stored}

module _ (us : List TextUnit) (sound : UnitsSound us) (once : Once (keys (definitions us)))
    (few : length (definitions us) ≤ most_definitions) (q : List ℕ) where
  abbrev slot : ℕ → ℕ
  slot = slot_in (definitions us)

  -- ---- starting
  module _ (resolved : EachResolved us) (v : List Float) (lv : slots ≤ length v) where
    -- TIME is 0
    abbrev v₀ : List Float
    v₀ = set v 0 zero64

    abbrev begun : List Float
    begun = start_all v₀ (instrs (program us q))

    -- as long as before
    long₀ : slots ≤ length v₀
    long₀ = rw length-set lv

    -- a slot that is not TIME's held what it held
    same₀ : (p : ℕ) → get_or v₀ (suc p) nan ≡ get_or v (suc p) nan
    same₀ p = get_or-set_other v 0 (suc p) zero64 nan (λ z. omega arith)

    -- what a slot gets
    abbrev initial : Float → ℕ → Float → Float
    initial a s x = x

    -- what is asked with slots by these names
    abbrev EachBegun : (ℕ → ℕ) → Type 0
    EachBegun at =
        EachAsked (λ l c. get_or begun (at c.key) nan ≡ get_or v (at c.key) nan)
        (λ l k e. get_or begun (at k) nan ≡ get_or v (at k) nan)
        (λ l k i e. Resolves us i (get_or begun (at k) nan))
        (Every (λ (n : Inner). get_or begun (at n.key) nan ≡ get_or v (at n.key) nan)) us

    each_begun : EachBegun slot
    each_begun =
        let own = alone_defined (Holds initial us once few q v₀ long₀) us (states_own initial us once few q v₀ long₀) in
        let stays : (k : ℕ) → k ∈ stored_names (definitions us) → get_or begun (slot k) nan ≡ get_or v (slot k) nan =
        λ k h. states_stored initial us once few q v₀ long₀ k h ∙ same₀ _ in
        asked_two (λ l c t r. t ∙ same₀ _) (λ l k e t r. t)
        (λ l k i e t r. subst (Resolves us i) (sym t) r) (λ ns t r. t) us
        (asked_two (λ l c t n. t) (λ l k e t n. stays k n) (λ l k i e t n. t)
        (λ ns t n. every_map _ _ ns (λ (n : Inner) h. stays n.key h) n) us own (each_name us sound))
        resolved

    -- THE BEGINNING
    pub beginning : Beginning us v begun
    beginning =
        record {
          long = states_long initial us once few q v₀ long₀ ∙ length-set v 0 zero64;
          clock =
              states_rest initial us once few q v₀ long₀ 0 (inl refl)
              ∙ get_or-set_same v 0 zero64 nan (omega arith)
              ∙ sym zero_same;
          each = subst (λ (ns : List ℕ). EachBegun (slot_among ns)) (names_same us) each_begun;
          rest =
              λ p h.
              states_rest initial us once few q v₀ long₀ p (inr (rw (names_many us) h))
              ∙ get_or-set_other v 0 p zero64 nan (λ z. omega arith);
        }

  -- ---- a step
  module _ (h : Float) (u d : List Float) (lu : slots ≤ length u) where
    -- what a state's slot gets
    abbrev to : Float → ℕ → Float → Float
    to a s x = add binary64 a (mul binary64 h (get_or d s nan))

    -- the states moved, and then TIME
    abbrev states : List Float
    states = move_all h d u (instrs (program us q))

    abbrev moved : List Float
    moved = advanced h states

    -- a slot that is not TIME's
    same₁ : (p : ℕ) → get_or moved (suc p) nan ≡ get_or states (suc p) nan
    same₁ p = get_or-set_other states 0 (suc p) _ nan (λ z. omega arith)

    -- what is asked with slots by these names
    abbrev EachMoved : (ℕ → ℕ) → Type 0
    EachMoved at =
        EachAsked (λ l c. get_or moved (at c.key) nan ≡ get_or u (at c.key) nan)
        (λ l k e. get_or moved (at k) nan ≡ get_or u (at k) nan)
        (λ l k i e. get_or moved (at k) nan ≡ add binary64 (get_or u (at k) nan) (mul binary64 h (get_or d (at k) nan)))
        (Every (λ (n : Inner). get_or moved (at n.key) nan ≡ get_or u (at n.key) nan)) us

    each_moved : EachMoved slot
    each_moved =
        let own = alone_defined (Holds to us once few q u lu) us (states_own to us once few q u lu) in
        let stays : (k : ℕ) → k ∈ stored_names (definitions us) → get_or moved (slot k) nan ≡ get_or u (slot k) nan =
        λ k m. same₁ _ ∙ states_stored to us once few q u lu k m in
        asked_two (λ l c t n. same₁ _ ∙ t) (λ l k e t n. stays k n) (λ l k i e t n. same₁ _ ∙ t)
        (λ ns t n. every_map _ _ ns (λ (n : Inner) m. stays n.key m) n) us own (each_name us sound)

    -- THE STEP
    pub stepping : Stepping us h u d moved
    stepping =
        record {
          long = length-set states 0 _ ∙ states_long to us once few q u lu;
          clock =
              get_or-set_same states 0 _ nan (rw (states_long to us once few q u lu) (omega arith))
              ∙ ap (λ (x : Float). add binary64 x h) (states_rest to us once few q u lu 0 (inl refl));
          each = subst (λ (ns : List ℕ). EachMoved (slot_among ns)) (names_same us) each_moved;
          rest =
              λ p m.
              get_or-set_other states 0 p _ nan (λ z. omega arith)
              ∙ states_rest to us once few q u lu p (inr (rw (names_many us) m));
        }
