-- When two accepted programs run alike: the same run, and the same done for each state.
use Prim.Native.Nat.{ℕ, ◌≤◌, ◌<◌}
use mathlib.Core.Path.{◌≡◌, refl, sym, ap, ap₂, ◌∙◌}
use mathlib.Core.Logic.{◌⊎◌, inl, inr, ⊎_elim}
use mathlib.Core.List.{List, [], ◌∷◌}
use lib.ListN.{length, get_or, set, length-set}
use lib.Ieee.{Float, nan, binary64, add, mul}
use Rattle.limits.specs.Limits.{slots}
use Rattle.laws.proofs.Tests.{lt_or_ge}
use Rattle.records.specs.Record.{decoded}
use Rattle.records.specs.Shape.{zero64}
use Rattle.evaluator.specs.Judge.{answer}
use Rattle.evaluator.specs.Machine.{Machine, begun}
use Rattle.evaluator.specs.Evaluate.{RunOutcome, run_outcome, refusal, unless, ran, evaluated, evaluated_within}
use Rattle.evaluator.specs.Evaluate.{each_state, start_all}
use Rattle.evaluator.specs.Evaluate.{started, started_within, move_all, advanced, stepped, stepped_within}
use Rattle.evaluator.proofs.EntryAnswers.{short_values, short_derivs}
use Rattle.meaning.specs.Faithful.{HasSlots, Accepted}
use Rattle.meaning.specs.RunsAlike.{walked, walked_within, RunsAlike}
use Rattle.meaning.proofs.ReadSlots.{run_long}

-- two machines end with the same in both buffers
pub record SameEnds (m n : Machine) : Type 0 where
  pub values : m.values ≡ n.values
  pub derivs : m.derivs ≡ n.derivs

-- a slot gets what `to` gives, from what it holds, the slot and its initial value
abbrev pub put_by : (Float → ℕ → Float → Float) → List Float → ℕ → Float → List Float
put_by to v s x = set v s (to (get_or v s nan) s x)

-- so with all states: the same by both programs
abbrev pub SameStates : List ℕ → List ℕ → Type 0
SameStates p r = (to : Float → ℕ → Float → Float) (v : List Float) → slots ≤ length v
    → each_state (put_by to) v (decoded p) ≡ each_state (put_by to) v (decoded r)

module _ (p r : List ℕ) (taken : Accepted p) (taken_too : Accepted r) where
  -- two buffers are long enough, or one is not
  long_or_short : (v d : List Float) → HasSlots v d
      ⊎ ((length v < slots) ⊎ ((slots ≤ length v) × (length d < slots)))
  long_or_short v d =
      ⊎_elim (λ h. inr (inl h))
      (λ h. ⊎_elim (λ k. inr (inr (h, k))) (λ k. inl (record { values = h; derivs = k })) (lt_or_ge (length d) slots))
      (lt_or_ge (length v) slots)

  -- with short ones either is refused alike
  both_refused : (v d : List Float) (m n : Machine) → refusal p v d ≡ answer 1 0 → refusal r v d ≡ answer 1 0
      → unless (refusal p v d) v d m ≡ unless (refusal r v d) v d n
  both_refused v d m n e f = rw (e, f)

  -- with long ones what is done counts
  both_done : (v d : List Float) (m n : Machine) → HasSlots v d → SameEnds m n
      → unless (refusal p v d) v d m ≡ unless (refusal r v d) v d n
  both_done v d m n h s =
      rw (taken v d h, taken_too v d h)
      (ap₂ (λ (x y : List Float). run_outcome (answer 0 0) x y) s.values s.derivs)

  -- the same outcome
  unless_same : (v d : List Float) (m n : Machine) → (HasSlots v d → SameEnds m n)
      → unless (refusal p v d) v d m ≡ unless (refusal r v d) v d n
  unless_same v d m n f =
      let none = answer 1 0 in
      ⊎_elim (λ h. both_done v d m n h (f h))
      (⊎_elim
      (λ h. both_refused v d m n (sym (short_values p v d none refl h)) (sym (short_values r v d none refl h)))
      (λ h. both_refused v d m n (sym (short_derivs p v d none refl h.0 h.1))
      (sym (short_derivs r v d none refl h.0 h.1))))
      (long_or_short v d)

  module _ (run_same : (v d : List Float) → HasSlots v d → SameEnds (ran p v d) (ran r v d)) (states : SameStates p r)
    where
      evaluate_same : (v d : List Float) → evaluated p v d ≡ evaluated r v d
      unfolding evaluated_within
      evaluate_same v d = unless_same v d (ran p v d) (ran r v d) (run_same v d)

      start_same : (v d : List Float) → started p v d ≡ started r v d
      unfolding started_within
      start_same v d =
          let v₀ = set v 0 zero64 in
          unless_same v d (begun (start_all v₀ (decoded p)) d) (begun (start_all v₀ (decoded r)) d)
          (λ h. record { values = states (λ a s x. x) v₀ (rw length-set h.values); derivs = refl })

      step_same : (h : Float) (v d : List Float) → stepped p h v d ≡ stepped r h v d
      unfolding stepped_within
      step_same h v d =
          let m = ran p v d in
          let n = ran r v d in
          unless_same v d
          (begun (advanced h (move_all h m.derivs m.values (decoded p))) m.derivs)
          (begun (advanced h (move_all h n.derivs n.values (decoded r))) n.derivs)
          (λ roomy.
          let ends = run_same v d roomy in
          let long : slots ≤ length m.values = rw (run_long (decoded p) (begun v d)).0 roomy.values in
          let moved = states (λ a s x. add binary64 a (mul binary64 h (get_or m.derivs s nan))) m.values long in
          let other : move_all h m.derivs m.values (decoded r) ≡ move_all h n.derivs n.values (decoded r) =
          ap₂ (λ (x y : List Float). move_all h x y (decoded r)) ends.derivs ends.values in
          record { values = ap (advanced h) (moved ∙ other); derivs = ends.derivs })

      walk_same : (hs : List Float) (o : RunOutcome) → walked p hs o ≡ walked r hs o
      unfolding walked_within
      walk_same [] o = refl
      walk_same (h ∷ hs) o =
          ap (walked p hs) (step_same h o.values o.derivs) ∙ walk_same hs (stepped r h o.values o.derivs)

      -- THEY RUN ALIKE
      pub runs_alike : RunsAlike p r
      runs_alike =
          record {
            evaluates = evaluate_same;
            starts = start_same;
            steps = step_same;
            walks = walk_same;
            start_walks = λ hs v d. ap (walked p hs) (start_same v d) ∙ walk_same hs (started r v d);
          }
