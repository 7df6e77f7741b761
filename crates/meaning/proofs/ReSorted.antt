-- A program without kind 15 runs as before when its statements are put into another order, if the judge takes it.
use Prim.Native.Nat.{ℕ, ◌+◌, ◌≤◌, ◌<◌}
use mathlib.Core.Path.{◌≡◌, refl, sym, ap, ◌∙◌}
use mathlib.Core.Bool.{false}
use mathlib.Core.Logic.{◌⊎◌, inl, inr, ⊎_elim}
use mathlib.Core.List.{List, [], ◌∷◌, ◌++◌, Memᴰ}
use native.Mathlib.Omega.{arith}
use lib.ListN.{length, get_or, drop, replicate, length-set, length-replicate}
use lib.Seq.{ext_get_or}
use lib.Ieee.{Float, nan}
use Rattle.limits.specs.Limits.{slots}
use Rattle.laws.specs.Every.{Every}
use Rattle.laws.specs.Lists.{concat_map}
use Rattle.laws.specs.Runs.{front_run}
use Rattle.laws.proofs.Tests.{not_both, cond_ind}
use Rattle.laws.proofs.Every.{every_anywhere, every_part}
use Rattle.laws.proofs.Runs.{run_parts}
use Rattle.order.specs.Order.{Permutation}
use Rattle.records.specs.declared.Instr.{Instr}
use Rattle.records.specs.declared.Instr.TheVariants.{Constant, Initial, Value, Slot, Add, Sub, Mul, Div}
use Rattle.records.specs.declared.Instr.TheVariants.{Neg, Insw, Limit, Compar, Store, Deriv, StoreAgain, Bad}
use Rattle.records.specs.Record.{decoded}
use Rattle.records.specs.Shape.{Shape, constant, store, derivative, store_again, shape_of}
use Rattle.evaluator.specs.Judge.{Answer}
use Rattle.evaluator.specs.Judge.{unset_mark, given_mark, phase_of, judge₀, answer}
use Rattle.evaluator.specs.Machine.{Machine, act, run, begun}
use Rattle.evaluator.specs.Evaluate.{each_state, refusal, ran}
use Rattle.evaluator.specs.Sound.{Sound, SoundWithin}
use Rattle.evaluator.proofs.EntryAnswers.{granted}
use Rattle.evaluator.proofs.StatePasses.{late_shape}
use Rattle.meaning.specs.Faithful.{HasSlots, Accepted}
use Rattle.meaning.specs.RunsAlike.{RunsAlike}
use Rattle.meaning.specs.ReadSlots.{shapes, StateSlot, SetSlot, DerivedSlot, Same}
use Rattle.meaning.specs.ReSorted.{stands_first, ends_statement}
use Rattle.meaning.proofs.Acted.{run_next, Roomy, Alike}
use Rattle.meaning.proofs.SetApart.{NoneAgain}
use Rattle.meaning.proofs.States.{all_append}
use Rattle.meaning.proofs.ReadSlots.{alike_run, run_long, run_stays, refusal_judge, begun_marked, read_apart}
use Rattle.meaning.proofs.ReadSlots.{evaluated_ran, others_stay, reads_states}
use Rattle.meaning.proofs.RunsAlike.{SameEnds, put_by, SameStates, runs_alike}
use Rattle.meaning.proofs.Cut.{behind, parts, moved, part_every, moved_member}
use Rattle.meaning.proofs.Still.{Quiet, Rests, all_rest}

-- ---- the instructions of a program: the constants and initials at the front, what stands behind them, its statements,
-- and these in another order
abbrev firsts : List Instr → List Instr
firsts xs = front_run stands_first xs

abbrev laters : List Instr → List Instr
laters xs = behind stands_first xs

abbrev statements : List Instr → List (List Instr)
statements xs = parts stands_first ends_statement xs

abbrev sorted_by : List ℕ → List Instr → List Instr
sorted_by q xs = moved stands_first ends_statement q xs

-- ---- runs

-- one list after another
run_append : (m : Machine) (x y : List Instr) → run m (x ++ y) ≡ run (run m x) y
unfolding run
run_append m [] y = refl
run_append m (a ∷ x) y =
    run_next m a (x ++ y) ∙ run_append (act m (shape_of a)) x y ∙ ap (λ n. run n y) (sym (run_next m a x))

-- nothing rests
rests_none : (v d : List Float) → run (begun v d) [] ≡ begun v d
unfolding run
rests_none v d = refl

-- lists that rest, one after the other
rests_row : (v d : List Float) (f : ℕ → List Instr) (q : List ℕ)
    → ((i : ℕ) → Rests v d (f i)) → Rests v d (concat_map f q)
unfolding run concat_map
rests_row v d f [] h = refl
rests_row v d f (i ∷ q) h =
    run_append (begun v d) (f i) (concat_map f q)
    ∙ ap (λ n. run n (concat_map f q)) (h i)
    ∙ rests_row v d f q h

-- ---- what is done for each state: initials alone count

-- a record of phase 3, which sets no state
abbrev Late : Instr → Type 0
Late x = 2 < phase_of x

-- many set none
states_none : (f : List Float → ℕ → Float → List Float) (v : List Float) (xs : List Instr) → Every Late xs
    → each_state f v xs ≡ v
unfolding each_state
states_none f v [] l = refl
states_none f v (x ∷ xs) l =
    ap (λ (u : List Float). each_state f u xs) (sym (late_shape (f v) v (shape_of x) l.0)) ∙ states_none f v xs l.1

-- what is no constant and no initial is late
other_late : (x : Instr) → stands_first x ≡ false → Late x
other_late (Constant s x) t = absurd (not_both refl t)
other_late (Initial s x) t = absurd (not_both refl t)
other_late (Value x) t = omega arith
other_late (Slot s) t = omega arith
other_late Add t = omega arith
other_late Sub t = omega arith
other_late Mul t = omega arith
other_late Div t = omega arith
other_late Neg t = omega arith
other_late Insw t = omega arith
other_late Limit t = omega arith
other_late Compar t = omega arith
other_late (Store s) t = omega arith
other_late (Deriv s) t = omega arith
other_late (StoreAgain s) t = omega arith
other_late Bad t = omega arith

-- and so is what stands behind it in a sound program
late_on : (p k : ℕ) (xs : List Instr) → 2 < p → Sound p k xs → Every Late xs
unfolding SoundWithin
late_on p k [] h s = tt
late_on p k (x ∷ xs) h s =
    let l : Late x = omega (arith, s.0.phase) in (l, late_on (phase_of x) _ xs l s.1)

late_behind : (p k : ℕ) (xs : List Instr) → Sound p k xs → Every Late (laters xs)
unfolding SoundWithin front_run
late_behind p k [] s = tt
late_behind p k (x ∷ xs) s =
    cond_ind (λ (l : List Instr). Every Late (drop (length l) (x ∷ xs))) (stands_first x) (x ∷ firsts xs) []
    (λ t. late_behind (phase_of x) _ xs s.1)
    (λ t. let l = other_late x t in (l, late_on (phase_of x) _ xs l s.1))

-- ---- two programs, of which the second has the statements of the first in the order q
module _ (p r q : List ℕ) (sorted : decoded r ≡ sorted_by q (decoded p))
    (once : Permutation (length (statements (decoded p))) q) (kinds : NoneAgain (decoded p))
    (taken : Accepted p) (taken_too : Accepted r) where
  abbrev xs : List Instr
  xs = decoded p

  -- what the first has the second has
  kept : (h : Shape) → Memᴰ h (shapes p) → Memᴰ h (shapes r)
  kept h m = rw sorted (moved_member stands_first ends_statement q xs once shape_of h m)

  kept_set : (s : ℕ) → SetSlot (shapes p) s → SetSlot (shapes r) s
  kept_set s (inl z) = inl (z.0, kept (constant s z.0) z.1)
  kept_set s (inr (inl z)) = inr (inl (kept (store s) z))
  kept_set s (inr (inr z)) = inr (inr (kept (store_again s) z))

  -- for each state the same is done
  states_same : (v d : List Float) → HasSlots v d → SameStates p r
  states_same v d roomy to u lu =
      let g = granted {r = answer 0 0} (sym (taken v d roomy)) refl in
      let late = late_behind 1 0 xs g.sound in
      let first = firsts xs in
      let later = concat_map (λ (i : ℕ). get_or (statements xs) i []) q in
      let moved_late : Every Late later =
      every_part Late (λ (i : ℕ). get_or (statements xs) i []) (part_every stands_first ends_statement Late xs late)
      q in
      let own : each_state (put_by to) u xs ≡ each_state (put_by to) u first =
      ap (each_state (put_by to) u) (sym (run_parts stands_first xs))
      ∙ all_append to u first (laters xs)
      ∙ states_none (put_by to) _ (laters xs) late in
      let other : each_state (put_by to) u (decoded r) ≡ each_state (put_by to) u first =
      ap (each_state (put_by to) u) sorted ∙ all_append to u first later ∙ states_none (put_by to) _ later moved_late in
      own ∙ sym other

  -- ---- with two buffers that are long enough
  module _ (v d : List Float) (roomy : HasSlots v d) where
    -- where the first ends
    abbrev v' : List Float
    v' = (ran p v d).values

    abbrev d' : List Float
    d' = (ran p v d).derivs

    long : (length v' ≡ length v) × (length d' ≡ length d)
    long = run_long xs (begun v d)

    lv : slots ≤ length v'
    lv = rw long.0 roomy.values

    ld : slots ≤ length d'
    ld = rw long.1 roomy.derivs

    -- it is taken there too
    there : refusal p v' d' ≡ answer 0 0
    there = taken v' d' (record { values = lv; derivs = ld })

    -- TIME and the states are as they were
    stays : (s : ℕ) → (s ≡ 0) ⊎ StateSlot (shapes p) s → Same v v' s
    stays s z = sym (rw (evaluated_ran p v d (taken v d roomy)) at ((others_stay p v d (taken v d roomy)).read s z))

    -- evaluated again it ends where it ended
    again : SameEnds (ran p v' d') (begun v' d')
    again =
        let both = reads_states p v d v' d' (taken v d roomy) there
        (record { time = stays 0 (inl refl); states = λ s z. stays s (inr z) }) in
        let alike = rw (evaluated_ran p v d (taken v d roomy), evaluated_ran p v' d' there) at both.alike in
        let rest = rw (evaluated_ran p v' d' there) at both.stays_too in
        record {
          values =
              ext_get_or nan (ran p v' d').values v' rest.long.0
              (λ s _. ⊎_elim (λ z. sym (alike.values s z)) (λ e. e) (rest.values s));
          derivs =
              ext_get_or nan (ran p v' d').derivs d' rest.long.1
              (λ s _. ⊎_elim (λ z. sym (alike.derivs s z)) (λ e. e) (rest.derivs s));
        }

    -- so each of its statements rests there
    quiet : Quiet v' d' lv ld 0 judge₀ (begun v' d') xs
    quiet =
        let none = replicate {A = ℕ} slots unset_mark in
        record {
          taken = refusal_judge p v d (ap (λ (x : Answer). x.number) (taken v d roomy));
          sound = (granted {r = answer 0 0} (sym (taken v d roomy)) refl).sound;
          kinds = kinds;
          long = length-set none 0 given_mark ∙ length-replicate {A = ℕ} slots unset_mark;
          high = refl;
          values = refl;
          derivs = refl;
          last_values = again.values;
          last_derivs = again.derivs;
        }

    -- and the second as a whole
    rests : Rests v' d' (decoded r)
    rests =
        let each = all_rest v' d' lv ld 0 judge₀ xs quiet in
        let ss = statements xs in
        let one : (i : ℕ) → Rests v' d' (get_or ss i []) =
        λ i. every_anywhere (Rests v' d') [] (rests_none v' d') ss i each.1 in
        rw sorted
        (run_append (begun v' d') (firsts xs) _
        ∙ ap (λ n. run n (concat_map (λ (i : ℕ). get_or ss i []) q)) each.0
        ∙ rests_row v' d' (λ (i : ℕ). get_or ss i []) q one)

    -- both runs of the second, from v and d and from where the first ends
    side_by_side : (s : ℕ)
        → (Same v v' s ⊎ SetSlot (shapes r) s → Same (ran r v d).values v' s)
        × (Same d d' s ⊎ DerivedSlot (shapes r) s → Same (ran r v d).derivs d' s)
    side_by_side s =
        let a = refusal_judge r v d (ap (λ (x : Answer). x.number) (taken_too v d roomy)) in
        let g = granted {r = answer 0 0} (sym (taken_too v d roomy)) refl in
        let room : Roomy (begun v d) (begun v' d') =
        record { values = roomy.values; values_too = lv; derivs = roomy.derivs; derivs_too = ld } in
        let first : Alike judge₀.marks (begun v d) (begun v' d') =
        record { stack = refl; values = λ t u. rw (begun_marked t u) (stays 0 (inl refl)) } in
        let states : (t : ℕ) → StateSlot (shapes r) t → Same v v' t =
        λ t z. ⊎_elim (λ y. absurd (read_apart r v d (taken_too v d roomy) t (inr z) (kept_set t y))) (λ e. sym e)
        (run_stays xs (begun v d) t).0 in
        rw rests at (alike_run (decoded r) 0 1 0 judge₀ (begun v d) (begun v' d') a g.sound room first states s)

    -- SO BOTH END ALIKE
    ends_same : SameEnds (ran p v d) (ran r v d)
    ends_same =
        let stay = run_stays xs (begun v d) in
        let n = run_long (decoded r) (begun v d) in
        record {
          values =
              ext_get_or nan v' (ran r v d).values (long.0 ∙ sym n.0)
              (λ s _.
              let end = (side_by_side s).0 in
              sym (end (⊎_elim (λ z. inr (kept_set s z)) (λ e. inl (sym e)) (stay s).0)));
          derivs =
              ext_get_or nan d' (ran r v d).derivs (long.1 ∙ sym n.1)
              (λ s _.
              let end = (side_by_side s).1 in
              sym (end (⊎_elim (λ z. inr (kept (derivative s) z)) (λ e. inl (sym e)) (stay s).1)));
        }

  -- THE SECOND RUNS AS THE FIRST
  pub moved_alike : RunsAlike p r
  moved_alike =
      let v = replicate {A = Float} slots nan in
      let long : slots ≤ length v = rw (length-replicate {A = Float} slots nan) (omega arith) in
      runs_alike p r taken taken_too ends_same (states_same v v (record { values = long; derivs = long }))
