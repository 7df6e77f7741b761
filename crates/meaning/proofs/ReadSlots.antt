-- What evaluating reads and writes: two runs of an accepted program, side by side.
use Prim.Native.Nat.{ℕ, suc, ◌≤◌, ◌<◌}
use mathlib.Core.Path.{◌≡◌, refl, sym, ap, ◌∙◌}
use mathlib.Core.Logic.{◌⊎◌, inl, inr, ⊎_elim}
use mathlib.Core.List.Memᴰ
use mathlib.Core.List.{List, [], ◌∷◌, map}
use native.Mathlib.Omega.{arith}
use lib.ListN.{length, get_or, replicate, length-set, length-replicate, get_or-replicate, get_or-eq_default}
use lib.Ieee.{Float, nan}
use Rattle.limits.specs.Limits.{slots}
use Rattle.laws.proofs.Tests.{lt_or_ge}
use Rattle.records.specs.declared.Instr.{Instr}
use Rattle.records.specs.Record.{decoded}
use Rattle.records.specs.Shape.{Shape, initial, shape_of}
use Rattle.evaluator.specs.Judge.{Answer}
use Rattle.evaluator.specs.Judge.{unset_mark, given_mark, Judge, judged, judge₀, answer, judge_from, judge}
use Rattle.evaluator.specs.Machine.{Machine, run, begun, act}
use Rattle.evaluator.specs.Evaluate.{run_outcome, refusal, ran, evaluated, evaluated_within}
use Rattle.evaluator.specs.Sound.{Sound, SoundWithin}
use Rattle.evaluator.proofs.EntryAnswers.{answers_zero, granted}
use Rattle.meaning.specs.ReadSlots.{shapes, StateSlot, SetSlot, DerivedSlot, Same, SameRead}
use Rattle.meaning.specs.ReadSlots.{OthersStay, ReadsStates}
use Rattle.meaning.proofs.Acted.{top, run_next, acted_long, acted_stays, Roomy, acted_roomy, Marked}
use Rattle.meaning.proofs.Acted.{Alike, acted_keeps, acted_value, acted_deriv, marked_set, acted_alike}
use Rattle.meaning.proofs.SetApart.{judge_next, good_fine, set_none, unstored_now, marked_apart, state_apart}
use Rattle.meaning.proofs.SetApart.{slot_below}

-- ---- all records

-- a slot that one of these sets is set with one record more in front
set_later : (h : Shape) (hs : List Shape) (q : ℕ) → SetSlot hs q → SetSlot (h ∷ hs) q
set_later h hs q (inl z) = inl (z.0, Memᴰ.tail z.1)
set_later h hs q (inr (inl z)) = inr (inl (Memᴰ.tail z))
set_later h hs q (inr (inr z)) = inr (inr (Memᴰ.tail z))

-- two runs side by side: they agree where they did, and in what they write
pub alike_run : (xs : List Instr) (i p k : ℕ) (j : Judge) (m n : Machine) → (judge_from i j xs).number ≡ 0
    → Sound p k xs → Roomy m n
    → Alike j.marks m n
    → ((s : ℕ) → StateSlot (map shape_of xs) s → Same m.values n.values s)
    → (q : ℕ)
    → (Same m.values n.values q ⊎ SetSlot (map shape_of xs) q → Same (run m xs).values (run n xs).values q)
    × (Same m.derivs n.derivs q ⊎ DerivedSlot (map shape_of xs) q → Same (run m xs).derivs (run n xs).derivs q)
unfolding run SoundWithin
alike_run [] i p k j m n e s r a f q =
    (⊎_elim (λ z. z) (λ z. absurd (set_none q z)), ⊎_elim (λ z. z) (λ z. absurd (Memᴰ.not-nil z)))
alike_run (x ∷ xs) i p k j m n e s r a f q =
    let h = shape_of x in
    let hs = map shape_of xs in
    let b = s.0.slot in
    let g = judge_next i j x xs e in
    let tops : top m ≡ top n = ap (λ t. get_or t 0 nan) a.stack in
    let keeps = acted_keeps m n r tops h b in
    let next = acted_alike j.marks j.height m n r a h b (good_fine j x g.0)
    (λ t y u. f t (y, Memᴰ.head (sym u))) in
    let states : (t : ℕ) → StateSlot hs t → Same (act m h).values (act n h).values t =
    λ t z. (keeps t).0 (f t (z.0, Memᴰ.tail z.1)) in
    let rest = alike_run xs (suc i) _ _ (judged j x) (act m h) (act n h) g.1 s.1 (acted_roomy m n h r) next
    states q in
    rw (run_next m x xs, run_next n x xs) (
      λ z. rest.0 (⊎_elim (λ u. inl ((keeps q).0 u)) (acted_value m n r tops h hs b q) z),
      λ z. rest.1 (⊎_elim (λ u. inl ((keeps q).1 u)) (acted_deriv m n r tops h hs b q) z),
    )

-- one run: the lengths stay
pub run_long : (xs : List Instr) (m : Machine)
    → (length (run m xs).values ≡ length m.values) × (length (run m xs).derivs ≡ length m.derivs)
unfolding run
run_long [] m = (refl, refl)
run_long (x ∷ xs) m =
    let a = acted_long m (shape_of x) in
    let r = run_long xs (act m (shape_of x)) in
    rw (run_next m x xs) (r.0 ∙ a.0, r.1 ∙ a.1)

-- and so does each place that it does not write
pub run_stays : (xs : List Instr) (m : Machine) (q : ℕ)
    → (SetSlot (map shape_of xs) q ⊎ Same (run m xs).values m.values q)
    × (DerivedSlot (map shape_of xs) q ⊎ Same (run m xs).derivs m.derivs q)
unfolding run
run_stays [] m q = (inr refl, inr refl)
run_stays (x ∷ xs) m q =
    let h = shape_of x in
    let hs = map shape_of xs in
    let a = acted_stays m h hs q in
    let r = run_stays xs (act m h) q in
    rw (run_next m x xs) (
      ⊎_elim (λ z. inl (set_later h hs q z)) (λ e. ⊎_elim inl (λ u. inr (e ∙ u)) a.0) r.0,
      ⊎_elim (λ z. inl (Memᴰ.tail z)) (λ e. ⊎_elim inl (λ u. inr (e ∙ u)) a.1) r.1,
    )

-- ---- evaluating

-- an accepted program is accepted by the judge
pub refusal_judge : (p : List ℕ) (v d : List Float) → (refusal p v d).number ≡ 0 → (judge (decoded p)).number ≡ 0
refusal_judge p v d e = (answers_zero slots p v d e).judged

-- at the beginning slot 0 alone is marked
pub begun_marked : (q : ℕ) → Marked judge₀.marks q → q ≡ 0
begun_marked q u =
    marked_set (replicate slots unset_mark) 0 given_mark q u (λ e. e)
    (λ f. absurd (f
    (⊎_elim (λ h. get_or-replicate slots q unset_mark 0 h)
    (λ h.
    let out : length (replicate {A = ℕ} slots unset_mark) ≤ q = rw (length-replicate {A = ℕ} slots unset_mark) h in
    get_or-eq_default (replicate slots unset_mark) 0 out) (lt_or_ge q slots))))

module _ (p : List ℕ) (v d : List Float) (accepted : refusal p v d ≡ answer 0 0) where
  -- evaluating is the run
  pub evaluated_ran : evaluated p v d ≡ run_outcome (answer 0 0) (ran p v d).values (ran p v d).derivs
  unfolding evaluated_within
  evaluated_ran = rw accepted

  -- what is read is not set
  pub read_apart : (s : ℕ) → (s ≡ 0) ⊎ StateSlot (shapes p) s → SetSlot (shapes p) s → ⊥
  read_apart s r z =
      let a = refusal_judge p v d (ap (λ (x : Answer). x.number) accepted) in
      let g = granted {r = answer 0 0} (sym accepted) refl in
      let none = replicate {A = ℕ} slots unset_mark in
      let wide : length none ≡ slots = length-replicate {A = ℕ} slots unset_mark in
      let long : length judge₀.marks ≡ slots = length-set none 0 given_mark ∙ wide in
      let time = unstored_now none 0 given_mark (omega (arith, wide)) (λ t. omega arith) (λ t. omega arith) in
      ⊎_elim
      (λ (e : s ≡ 0). (marked_apart (decoded p) 0 judge₀ a 0).0 time (rw e at z))
      (λ (t : StateSlot (shapes p) s).
      let b : s < slots = slot_below (decoded p) 1 0 g.sound (initial s t.0) t.1 in
      state_apart (decoded p) 0 judge₀ a s (rw long b) t z) r

  -- it writes constants, stored slots and derivatives alone
  pub others_stay : OthersStay (shapes p) v d (evaluated p v d)
  others_stay =
      let stays = run_stays (decoded p) (begun v d) in
      rw evaluated_ran
      (record {
        long = run_long (decoded p) (begun v d);
        values = λ s. (stays s).0;
        derivs = λ s. (stays s).1;
        read = λ s r. ⊎_elim (λ z. absurd (read_apart s r z)) (λ e. e) (stays s).0;
      })

-- EVALUATING READS SLOT 0 AND THE STATE SLOTS: an accepted program ends alike from two starts that agree there, in each
-- place that it writes; each other place stays
pub reads_states : (p : List ℕ) (v d w e : List Float) → refusal p v d ≡ answer 0 0 → refusal p w e ≡ answer 0 0
    → SameRead (shapes p) v w
    → ReadsStates p v d w e
reads_states p v d w e a b r =
    let zero : (refusal p v d).number ≡ 0 = ap (λ (x : Answer). x.number) a in
    let m = granted {r = answer 0 0} (sym a) refl in
    let n = granted {r = answer 0 0} (sym b) refl in
    let roomy : Roomy (begun v d) (begun w e) =
    record { values = m.values; values_too = n.values; derivs = m.derivs; derivs_too = n.derivs } in
    let first : Alike judge₀.marks (begun v d) (begun w e) =
    record { stack = refl; values = λ q u. rw (begun_marked q u) r.time } in
    let ends = alike_run (decoded p) 0 1 0 judge₀ (begun v d) (begun w e) (refusal_judge p v d zero) m.sound roomy
    first r.states in
    record {
      alike =
          rw (evaluated_ran p v d a, evaluated_ran p w e b)
          (record { values = λ s z. (ends s).0 (inr z); derivs = λ s z. (ends s).1 (inr z) });
      stays = others_stay p v d a;
      stays_too = others_stay p w e b;
    }
