-- What the greedy order is.
use mathlib.Core.Path.{◌≡◌, refl, sym, ap, ◌∙◌}
use mathlib.Core.Bool.{Bool, true, false, not, ◌&&◌, ◌||◌}
use mathlib.Core.Logic.{inl, ⊎_elim, ◌↔◌}
use mathlib.Core.List.{List, [], ◌∷◌, ◌++◌, append_assoc, append-nil}
use Prim.Native.Nat.{ℕ, zero, suc, ◌+◌, ◌-◌, ◌≤◌, ◌<◌}
use native.Mathlib.Nat.{eq-or-lt_of_le}
use native.Mathlib.Omega.{arith}
use borrow.Author.Tests.{ltb-true, ltb-false, not-true, not-false}
use lib.Dec.{ltb}
use lib.ListN.{length, take, length-append, get_or-append}
use lib.Seq.{take-append-le, take_at, get_or_at, take-length}
use Rattle.laws.specs.Counts.{count, ◌∈◌, has}
use Rattle.laws.proofs.Tests.{bool_cases, not_both, lt_or_ge, eq_or_ne, cond_ind, and_true, and_false, or_blocked}
use Rattle.laws.proofs.Counts.{count_append, once_other, count_cons_same, count_snoc_same, count_snoc_other, has_true}
use Rattle.laws.proofs.Counts.{has_false, place_of}
use Rattle.order.specs.Order.{Permutation, ◌≼◌, EachAfter, Good, Chain, Unsortable}
use Rattle.order.specs.Greedy.{all, first, ready, least_ready, place, order, LeftOver}
use Rattle.order.proofs.Dictionary.{≼_prefix, ≼_append}

-- ---- `all` and `first`

-- it holds of each
pub all_true : (k : ℕ) (f : ℕ → Bool) → all k f ≡ true → (j : ℕ) → j < k → f j ≡ true
unfolding all
all_true zero f e j h = absurd (omega arith)
all_true (suc k) f e j h =
    let p = and_true (f k) (all k f) e in
    ⊎_elim (λ q. rw q p.0) (λ l. all_true k f p.1 j l) (eq-or-lt_of_le (omega arith))

-- or of one it does not
all_false : (k : ℕ) (f : ℕ → Bool) → all k f ≡ false → (j : ℕ) × (j < k) × (f j ≡ false)
unfolding all
all_false zero f e = absurd (not_both refl e)
all_false (suc k) f e =
    ⊎_elim (λ q. (k, omega arith, q)) (λ q. let r = all_false k f q in (r.0, omega arith, r.2))
    (and_false (f k) (all k f) e)

-- what holds of each holds of all
pub all_intro : (k : ℕ) (f : ℕ → Bool) → ((j : ℕ) → j < k → f j ≡ true) → all k f ≡ true
all_intro k f h =
    ⊎_elim (λ t. t) (λ e. let r = all_false k f e in absurd (not_both (h r.0 r.1) r.2)) (bool_cases (all k f))

-- where there is one, the test holds there
pub first_hit : (f : ℕ → Bool) (k i : ℕ) → first f k i < i + k → f (first f k i) ≡ true
unfolding first
first_hit f zero i = λ h. absurd (omega arith)
first_hit f (suc k) i =
    cond_ind (λ r. r < i + suc k → f r ≡ true) (f i) i (first f k (suc i)) (λ t h. t)
    (λ t h. first_hit f k (suc i) (omega arith))

-- it holds of none before
pub first_before : (f : ℕ → Bool) (k i j : ℕ) → i ≤ j → j < first f k i → f j ≡ false
unfolding first
first_before f zero i j l = λ h. absurd (omega arith)
first_before f (suc k) i j l =
    cond_ind (λ r. j < r → f j ≡ false) (f i) i (first f k (suc i)) (λ t h. absurd (omega arith))
    (λ t h. ⊎_elim (λ q. rw (← q) t) (λ m. first_before f k (suc i) j m h) (eq-or-lt_of_le l))

-- so the first is the least
first_least : (f : ℕ → Bool) (k i j : ℕ) → i ≤ j → f j ≡ true → first f k i ≤ j
first_least f k i j l t =
    ⊎_elim (λ h. absurd (not_both t (first_before f k i j l h))) (λ h. h) (lt_or_ge j (first f k i))

-- two tests that agree below n have the same first
pub first_same : (f g : ℕ → Bool) (n k i : ℕ) → i + k ≤ n → ((j : ℕ) → j < n → f j ≡ g j) → first f k i ≡ first g k i
unfolding first
first_same f g n zero i h e = refl
first_same f g n (suc k) i h e = rw (e i (omega arith), first_same f g n k (suc i) (omega arith) e)

-- and both hold of all or neither does
pub all_same : (f g : ℕ → Bool) (n k : ℕ) → k ≤ n → ((j : ℕ) → j < n → f j ≡ g j) → all k f ≡ all k g
unfolding all
all_same f g n zero h e = refl
all_same f g n (suc k) h e = rw (e k (omega arith), all_same f g n k (omega arith) e)

-- how many of the numbers below k do not stand in l (in which none stands twice)
free : ℕ → List ℕ → ℕ
free zero l = 0
free (suc k) l = (1 - count k l) + free k l

-- of an empty list all of them
free_nil : (k : ℕ) → free k [] ≡ k
unfolding free count
free_nil zero = refl
free_nil (suc k) = omega (arith, free_nil k)

-- a number that is not below k changes nothing
free_above : (k a : ℕ) (l : List ℕ) → k ≤ a → free k (l ++ (a ∷ [])) ≡ free k l
unfolding free
free_above zero a l h = refl
free_above (suc k) a l h = omega (arith, free_above k a l (omega arith), count_snoc_other k a l (λ e. omega arith))

-- one below k that is new makes one fewer
free_snoc : (k a : ℕ) (l : List ℕ) → a < k → count a l ≡ 0 → suc (free k (l ++ (a ∷ []))) ≡ free k l
unfolding free
free_snoc zero a l h e = absurd (omega arith)
free_snoc (suc k) a l h e =
    ⊎_elim (λ q. rw (← q) (omega (arith, free_above a a l (omega arith), count_snoc_same a l)))
    (λ (m : a < k). omega (arith, free_snoc k a l m e, count_snoc_other k a l (λ q. omega arith)))
    (eq-or-lt_of_le (omega arith))

-- where there are none, each stands in it
free_zero : (k : ℕ) (l : List ℕ) → free k l ≡ 0 → (i : ℕ) → i < k → i ∈ l
unfolding free
free_zero zero l e i h = absurd (omega arith)
free_zero (suc k) l e i h =
    ⊎_elim (λ q. rw q (omega arith)) (λ m. free_zero k l (omega arith) i m) (eq-or-lt_of_le (omega arith))

-- and the other way
free_full : (k : ℕ) (l : List ℕ) → ((i : ℕ) → i < k → i ∈ l) → free k l ≡ 0
unfolding free
free_full zero l h = refl
free_full (suc k) l h = omega (arith, h k (omega arith), free_full k l (λ i m. h i (omega arith)))

-- ---- the greedy order
module _ (n : ℕ) (uses : ℕ → ℕ → Bool) where
  -- what is ready is not placed
  pub ready_free : (l : List ℕ) (i : ℕ) → ready n uses l i ≡ true → count i l ≡ 0
  unfolding ready
  ready_free l i e = has_false i l (not-true (has i l) (and_true (not (has i l)) _ e).0)

  -- and all that it uses is
  ready_after : (l : List ℕ) (i : ℕ) → ready n uses l i ≡ true → (j : ℕ) → j < n → uses i j ≡ true → j ∈ l
  unfolding ready
  ready_after l i e j h u =
      has_true j l (rw u at (all_true n (λ j. not (uses i j) || has j l) (and_true (not (has i l)) _ e).1 j h))

  -- what is neither ready nor placed uses one that is not placed
  ready_blocked : (l : List ℕ) (i : ℕ) → ready n uses l i ≡ false → count i l ≡ 0
      → (j : ℕ) × (j < n) × (uses i j ≡ true) × (count j l ≡ 0)
  unfolding ready
  ready_blocked l i e c =
      ⊎_elim (λ t. absurd (omega (arith, has_true i l (not-false (has i l) t))))
      (λ t.
      let r = all_false n (λ j. not (uses i j) || has j l) t in
      let s = or_blocked (uses i r.0) (has r.0 l) r.2 in
      (r.0, r.1, s.0, has_false r.0 l s.1)) (and_false (not (has i l)) _ e)

  -- what is not placed, and uses only what is, is ready
  ready_intro : (l : List ℕ) (i : ℕ) → count i l ≡ 0 → ((j : ℕ) → j < n → uses i j ≡ true → j ∈ l)
      → ready n uses l i ≡ true
  ready_intro l i c h =
      ⊎_elim (λ t. t) (λ e. let r = ready_blocked l i e c in absurd (omega (arith, h r.0 r.1 r.2, r.3)))
      (bool_cases (ready n uses l i))

  -- the next is ready
  pub next_ready : (l : List ℕ) → least_ready n uses l < n → ready n uses l (least_ready n uses l) ≡ true
  unfolding least_ready
  next_ready l h = first_hit (ready n uses l) n 0 (omega arith)

  -- and the least that is
  next_least : (l : List ℕ) (j : ℕ) → ready n uses l j ≡ true → least_ready n uses l ≤ j
  unfolding least_ready
  next_least l j e = first_least (ready n uses l) n 0 j (omega arith) e

  -- where there is none, none is ready
  next_none : (l : List ℕ) → n ≤ least_ready n uses l → (j : ℕ) → j < n → ready n uses l j ≡ false
  unfolding least_ready
  next_none l h j m = first_before (ready n uses l) n 0 j (omega arith) (omega arith)

  -- what each step keeps holds at the end
  place_keeps : (P : List ℕ → Type 0)
      → ((l : List ℕ) → P l → least_ready n uses l < n → P (l ++ (least_ready n uses l ∷ [])))
      → (k : ℕ) (l : List ℕ) → P l → P (place n uses k l)
  unfolding place
  place_keeps P step zero l p = p
  place_keeps P step (suc k) l p =
      cond_ind P (ltb (least_ready n uses l) n) _ l (λ t. place_keeps P step k _ (step l p (ltb-true _ _ t))) (λ t. p)

  -- ---- what the order keeps

  -- none stands twice, and only the n do
  Distinct : List ℕ → Type 0
  Distinct l = (i : ℕ) → (count i l ≤ 1) × (n ≤ i → count i l ≡ 0)

  -- it is so at first
  distinct_nil : Distinct []
  unfolding Distinct count
  distinct_nil i = (omega arith, λ h. refl)

  -- and with one more
  distinct_step : (l : List ℕ) → Distinct l → least_ready n uses l < n → Distinct (l ++ (least_ready n uses l ∷ []))
  unfolding Distinct
  distinct_step l d h i =
      ⊎_elim
      (λ e. rw e (
        omega (arith, count_snoc_same (least_ready n uses l) l, ready_free l (least_ready n uses l) (next_ready l h)),
        λ g. absurd (omega (arith, h, e)),
      ))
      (λ e. let c = count_snoc_other i (least_ready n uses l) l e in (omega (arith, (d i).0), λ g. c ∙ (d i).1 g))
      (eq_or_ne i (least_ready n uses l))

  -- each stands after all it uses: at first
  after_nil : EachAfter n uses []
  after_nil p j h = absurd (omega arith)

  -- and with one more
  after_step : (l : List ℕ) → EachAfter n uses l → least_ready n uses l < n
      → EachAfter n uses (l ++ (least_ready n uses l ∷ []))
  after_step l a h p j m hj u =
      ⊎_elim
      (λ e.
      rw (take_at l (least_ready n uses l ∷ []) p (sym e))
      (ready_after l _ (next_ready l h) j hj (rw (get_or_at l (least_ready n uses l) [] 0 p (sym e)) at u)))
      (λ g.
      let le : p ≤ length l = omega arith in
      rw (take-append-le p l (least_ready n uses l ∷ []) le)
      (a p j g hj (rw (get_or-append l (least_ready n uses l ∷ []) 0 p g) at u)))
      (eq-or-lt_of_le {n = p} {m = length l} (omega (arith, length-append l (least_ready n uses l ∷ []))))

  -- no more are placed than tried
  pub place_length : (k : ℕ) (l : List ℕ) → length (place n uses k l) ≤ length l + k
  unfolding place
  place_length zero l = omega arith
  place_length (suc k) l =
      cond_ind (λ r. length r ≤ length l + suc k) (ltb (least_ready n uses l) n) _ l
      (λ t. omega (
        arith,
        place_length k (l ++ (least_ready n uses l ∷ [])),
        length-append l
            (least_ready n uses l ∷ []),
      )) (λ t. omega arith)

  -- the numbers not placed and the places make n
  Full : List ℕ → Type 0
  Full l = free n l + length l ≡ n

  -- so they do with one more
  full_step : (l : List ℕ) → Full l → least_ready n uses l < n → Full (l ++ (least_ready n uses l ∷ []))
  unfolding Full
  full_step l f h =
      let x = least_ready n uses l in
      omega (arith, free_snoc n x l h (ready_free l _ (next_ready l h)), length-append l (x ∷ []))

  -- in the end none is ready
  stuck : (k : ℕ) (l : List ℕ) → free n l ≤ k → (i : ℕ) → i < n → ready n uses (place n uses k l) i ≡ false
  unfolding place
  stuck zero l h i hi =
      ⊎_elim (λ t. absurd (omega (arith, ready_free l i t, free_zero n l (omega arith) i hi))) (λ t. t)
      (bool_cases (ready n uses l i))
  stuck (suc k) l h i hi =
      cond_ind (λ r. ready n uses r i ≡ false) (ltb (least_ready n uses l) n) _ l
      (λ t.
      let g = ltb-true (least_ready n uses l) n t in
      stuck k (l ++ (least_ready n uses l ∷ []))
      (omega (arith, free_snoc n (least_ready n uses l) l g (ready_free l _ (next_ready l g)))) i hi)
      (λ t. next_none l (ltb-false _ _ t) i hi)

  -- so it is of the order: none stands twice
  order_distinct : (i : ℕ) → (count i (order n uses) ≤ 1) × (n ≤ i → count i (order n uses) ≡ 0)
  unfolding order Distinct
  order_distinct = place_keeps Distinct distinct_step n [] distinct_nil

  -- each stands after all it uses
  order_after : EachAfter n uses (order n uses)
  unfolding order
  order_after = place_keeps (EachAfter n uses) after_step n [] after_nil

  -- what is not placed and what is make n
  order_full : free n (order n uses) + length (order n uses) ≡ n
  unfolding order Full
  order_full = place_keeps Full full_step n [] (omega (arith, free_nil n))

  -- and none is ready
  order_stuck : (i : ℕ) → i < n → ready n uses (order n uses) i ≡ false
  unfolding order
  order_stuck = stuck n [] (omega (arith, free_nil n))

  -- ---- what is left over is what an endless chain starts at

  -- from what is left over a chain of any length starts
  walk : (k i : ℕ) → LeftOver n uses i → (l : List ℕ) × (length l ≡ k) × Chain n uses i l
  walk zero i o = ([], refl, o.0)
  walk (suc k) i o =
      let b = ready_blocked (order n uses) i (order_stuck i o.0) o.1 in
      let r = walk k b.0 (b.1, b.3) in
      (b.0 ∷ r.0, ap suc r.1, (o.0, b.2, r.2))

  -- a chain starts at one of the n
  chain_head : (i : ℕ) (l : List ℕ) → Chain n uses i l → i < n
  chain_head i [] c = c
  chain_head i (j ∷ l) c = c.0

  -- a chain that starts among the first p of a list in which each stands after all it uses has at most p members
  short : (q : List ℕ) → EachAfter n uses q → (l : List ℕ) (i p : ℕ) → i ∈ take p q → Chain n uses i l → length l < p
  short q a [] i p h c = let r = place_of i p q h in omega (arith, r.1)
  short q a (j ∷ l) i p h c =
      let r = place_of i p q h in
      let hj = chain_head j l c.2 in
      omega (arith, r.1, short q a l j r.0 (a r.0 j r.2 hj (rw r.3 c.1)) c.2)

  -- so no chain of n + 1 starts in the order
  no_endless : (i : ℕ) (l : List ℕ) → length (i ∷ l) ≡ n + 1 → Chain n uses i l → i ∈ order n uses → ⊥
  no_endless i l e c h =
      let q = order n uses in
      let s = short q order_after l i (length q) (rw (take-length q) h) c in
      omega (arith, s, order_full, e)

  -- left over is what is unsortable
  pub left_over_iff : (i : ℕ) → LeftOver n uses i ↔ Unsortable n uses i
  left_over_iff i = (
    λ o. let r = walk n i o in (r.0, omega (arith, r.1), r.2),
    λ w. (
      chain_head i w.0 w.2,
      ⊎_elim (λ h. absurd (no_endless i w.0 w.1 w.2 h)) (λ h. omega arith)
          (lt_or_ge 0 (count i (order n uses))),
    ),
  )

  -- ---- a good order exists exactly if nothing is left over

  -- if nothing is left over, each stands in the order
  in_order_holds : ((i : ℕ) → LeftOver n uses i → ⊥) → (i : ℕ) → i < n → i ∈ order n uses
  in_order_holds h i hi = ⊎_elim (λ g. g) (λ g. absurd (h i (hi, omega arith))) (lt_or_ge 0 (count i (order n uses)))

  -- and the order is good
  pub order_good : ((i : ℕ) → LeftOver n uses i → ⊥) → Good n uses (order n uses)
  order_good h =
      record {
        perm =
            record {
              within = λ i hi. omega (arith, in_order_holds h i hi, (order_distinct i).0);
              beyond = λ i hi. (order_distinct i).1 hi;
            };
        after = order_after;
      }

  -- what a good list has behind a front p: its first uses only what stands in p
  pub after_front : (p : List ℕ) (b : ℕ) (q : List ℕ) → EachAfter n uses (p ++ b ∷ q) → (j : ℕ) → j < n
      → uses b j ≡ true → j ∈ p
  after_front p b q a j hj u =
      rw (take_at p (b ∷ q) (length p) refl) at
      (a (length p) j (omega (arith, length-append p (b ∷ q))) hj (rw (get_or_at p b q 0 (length p) refl) u))

  -- so each member of such a list stands in the order
  placed : (p q : List ℕ) → EachAfter n uses (p ++ q) → ((i : ℕ) → i ∈ p → i ∈ order n uses) → ((i : ℕ) → i ∈ q → i < n)
      → (i : ℕ) → i ∈ q → i ∈ order n uses
  unfolding count
  placed p [] a h w i hi = absurd (omega arith)
  placed p (b ∷ q) a h w i hi =
      let hb : b ∈ order n uses =
      ⊎_elim (λ g. g)
      (λ g.
      let hn = w b (omega (arith, count_cons_same b q)) in
      let r = ready_intro (order n uses) b (omega arith) (λ j hj u. h j (after_front p b q a j hj u)) in
      absurd (not_both r (order_stuck b hn))) (lt_or_ge 0 (count b (order n uses))) in
      ⊎_elim (λ e. rw e hb)
      (λ d.
      placed (p ++ (b ∷ [])) q (rw (append_assoc p (b ∷ []) q) a)
      (λ k m. ⊎_elim (λ e. rw e hb) (λ f. h k (omega (arith, count_snoc_other k b p f))) (eq_or_ne k b))
      (λ k m. w k (omega arith)) i (omega (arith, once_other i b d))) (eq_or_ne i b)

  -- the members of a permutation are below n
  pub perm_below : (q : List ℕ) → Permutation n q → (i : ℕ) → i ∈ q → i < n
  perm_below q g i h = ⊎_elim (λ m. m) (λ m. absurd (omega (arith, g.beyond i m))) (lt_or_ge i n)

  -- with a good list nothing is left over
  pub good_none_left : (q : List ℕ) → Good n uses q → (i : ℕ) → LeftOver n uses i → ⊥
  unfolding count
  good_none_left q g i o =
      omega (
        arith,
        o.1,
        placed [] q g.after (λ k h. absurd (omega arith)) (perm_below q g.perm) i
            (omega (arith, g.perm.within i o.0)),
      )

  -- ---- the order is first of all good ones

  -- what is placed stays at the front
  place_front : (k : ℕ) (l : List ℕ) → (r : List ℕ) × (place n uses k l ≡ l ++ r)
  unfolding place
  place_front zero l = ([], sym (append-nil l))
  place_front (suc k) l =
      cond_ind (λ (x : List ℕ). (r : List ℕ) × (x ≡ l ++ r)) (ltb (least_ready n uses l) n) _ l
      (λ t.
      let r = place_front k (l ++ (least_ready n uses l ∷ [])) in
      (least_ready n uses l ∷ r.0, r.1 ∙ append_assoc l (least_ready n uses l ∷ []) r.0))
      (λ t. ([], sym (append-nil l)))

  -- what is placed on behind the front of a good list comes first
  least : (k : ℕ) (p q : List ℕ) → Good n uses (p ++ q) → place n uses k p ≼ p ++ q
  unfolding place count
  least zero p q g = ≼_prefix p q
  least (suc k) p [] g =
      cond_ind (λ r. r ≼ p ++ []) (ltb (least_ready n uses p) n) _ p
      (λ t.
      let h = ltb-true (least_ready n uses p) n t in
      let c = count_append (least_ready n uses p) p [] in
      absurd (omega (arith, ready_free p _ (next_ready p h), g.perm.within _ h, c)))
      (λ t. ≼_prefix p [])
  least (suc k) p (b ∷ q) g =
      let c = count_append b p (b ∷ q) in
      let d = count_cons_same b q in
      let hb = perm_below (p ++ b ∷ q) g.perm b (omega arith) in
      let r = ready_intro p b (omega (arith, g.perm.within b hb)) (after_front p b q g.after) in
      cond_ind (λ r. r ≼ p ++ b ∷ q) (ltb (least_ready n uses p) n) _ p
      (λ t.
      ⊎_elim
      (λ (e : least_ready n uses p ≡ b). rw (e, ← append_assoc p (b ∷ []) q)
      (least k (p ++ (b ∷ [])) q (rw (append_assoc p (b ∷ []) q) g)))
      (λ l.
      let f = place_front k (p ++ (least_ready n uses p ∷ [])) in
      rw (f.1, append_assoc p (least_ready n uses p ∷ []) f.0)
      (≼_append p (least_ready n uses p ∷ f.0) (b ∷ q) (inl l)))
      (eq-or-lt_of_le (next_least p b r))) (λ t. ≼_prefix p (b ∷ q))

  -- the order is the first of all good ones in dictionary order
  pub order_first : (q : List ℕ) → Good n uses q → order n uses ≼ q
  unfolding order
  order_first q g = least n [] q g

  -- nothing is left over exactly if n are placed
  pub length_order_iff : length (order n uses) ≡ n ↔ ((i : ℕ) → LeftOver n uses i → ⊥)
  length_order_iff = (
    λ e i o. omega (arith, o.1, free_zero n (order n uses) (omega (arith, order_full)) i o.0),
    λ h. omega (arith, order_full, free_full n (order n uses) (in_order_holds h)),
  )

-- ---- the order looks only at what statements use of one another
module _ (n : ℕ) (u v : ℕ → ℕ → Bool) (same : (i j : ℕ) → i < n → j < n → u i j ≡ v i j) where
  -- the next is the same
  next_same : (l : List ℕ) → least_ready n u l ≡ least_ready n v l
  unfolding least_ready ready
  next_same l =
      first_same (ready n u l) (ready n v l) n n 0 (omega arith)
      (λ i h.
      ap (λ b. not (has i l) && b)
      (all_same (λ j. not (u i j) || has j l) (λ j. not (v i j) || has j l) n n (omega arith)
      (λ j m. rw (same i j h m))))

  -- so is what is placed
  place_same : (k : ℕ) (l : List ℕ) → place n u k l ≡ place n v k l
  unfolding place
  place_same zero l = refl
  place_same (suc k) l = rw (next_same l, place_same k (l ++ (least_ready n v l ∷ [])))

  -- and the order
  pub order_same : order n u ≡ order n v
  unfolding order
  order_same = place_same n []
