-- There is one solution. In a solution each group rests; so two solutions from one start agree in what the first unit
-- of the order assigns, then in what the second assigns, and so on: each is a function of what it reads.
use Prim.Native.Nat.{ℕ, zero, suc, ◌<◌}
use mathlib.Core.Path.{◌≡◌, refl, sym, ap, subst, ◌∙◌}
use mathlib.Core.Bool.{true, false}
use mathlib.Core.Logic.{inl, inr, ⊎_elim}
use mathlib.Core.List.{List, [], ◌∷◌, ◌++◌, map, append_assoc, append-nil}
use native.Mathlib.Omega.{arith}
use lib.ListN.{length, get_or}
use lib.Seq.{ext_get_or}
use lib.Ieee.{Float, nan}
use Rattle.laws.specs.Lists.{concat_map}
use Rattle.laws.specs.Every.{Every}
use Rattle.laws.specs.Counts.{count, ◌∈◌}
use Rattle.laws.proofs.Lists.{concat_append}
use Rattle.laws.proofs.Counts.{once_same}
use Rattle.laws.proofs.Members.{Below}
use Rattle.laws.proofs.Tests.{not_both, lt_or_ge}
use Rattle.laws.proofs.Every.{every_at, every_map, every_right}
use Rattle.blocks.specs.Units.{Sets, given, own, anew, Inner, Equation, TextUnit}
use Rattle.blocks.specs.Sound.{free_names, UnitsSound}
use Rattle.order.specs.Order.{EachAfter}
use Rattle.order.proofs.Sorting.{perm_below}
use Rattle.model.specs.Definitions.{What, constant, assigned, hidden, integral, Def, defined_inside, definitions}
use Rattle.model.specs.Definitions.{keys, slot_in, unit_at, unit_count}
use Rattle.model.specs.Faults.{constant_keys, outside_keys, uses_in, GoodOrder}
use Rattle.model.proofs.KeyPlaces.{Once, no_def, is_constant, is_state, constant_keys_holds}
use Rattle.meaning.specs.Meaning.{value_of}
use Rattle.meaning.specs.ReadSlots.{Same}
use Rattle.meaning.specs.Statements.{slot_among, EachAsked, ConstantHolds, AssignmentHolds, StateHolds, BlockHolds}
use Rattle.meaning.specs.Statements.{names_of, Solution}
use Rattle.meaning.proofs.Rows.{every_of, every_both, every_unmapped, every_number, number_every}
use Rattle.meaning.proofs.Settle.{in_either, assigned_keys, assigned_append, Rests, alike_after}
use Rattle.meaning.proofs.Runs.{fixed, ordered_runs}
use Rattle.meaning.proofs.Owned.{is_stored, stored_names, state_names, count_names, named_def, rows_sound, runs_at}
use Rattle.meaning.proofs.Owned.{at_most, assigned_somewhere, assigned_in_all, slot_at_holds}
use Rattle.meaning.proofs.Fairness.{alone}
use Rattle.meaning.proofs.Ready.{IsSet, outside_set}
use Rattle.meaning.proofs.Asked.{asked_map, asked_two, names_same, names_many, to_definitions}
use Rattle.meaning.proofs.Resting.{EachMet, holding_rest}

module _ (us : List TextUnit) (sound : UnitsSound us) (one : Once (keys (definitions us)))
    (known : (i : ℕ) → i < unit_count us → (k : ℕ) → k ∈ (unit_at us i).reads → k ∈ outside_keys (definitions us))
    (q : List ℕ) (g : GoodOrder us q) where
  abbrev ds : List Def
  ds = definitions us

  abbrev slot : ℕ → ℕ
  slot = slot_in ds

  -- ---- of one solution
  module _ (v d v' d' : List Float) (s : Solution us v d v' d') where
    -- each unit holds, with slots by the definitions
    abbrev EachHolds : (ℕ → ℕ) → Type 0
    EachHolds at =
        EachAsked (ConstantHolds at v d v' d') (AssignmentHolds at v d v' d') (StateHolds at v d v' d')
        (BlockHolds at v d v' d') us

    holds : EachHolds slot
    holds = subst (λ (ns : List ℕ). EachHolds (slot_among ns)) (sym (names_same us)) s.each

    met : EachMet slot v' d' us
    met =
        asked_map (λ l c h. h.0) (λ l k e h. h.0) (λ l k i e h. h.1)
        (λ ns h. every_map _ _ ns (λ (n : Inner) t. t.0) h) us holds

    -- so what each unit runs rests
    rests_at : (i : ℕ) → i < unit_count us → Rests slot v' d' (runs_at us i)
    rests_at i h =
        let groups = holding_rest slot v' d' us q g met in
        every_number (λ (i : ℕ). Rests slot v' d' (runs_at us i)) q
        (every_unmapped (Rests slot v' d') (runs_at us) q
        (every_right (Rests slot v' d') (map alone (fixed ds)) (map (runs_at us) q) groups)) i
        (omega (arith, g.perm.within i h))

  -- ---- of two from one start
  module _ (v d v₁ d₁ v₂ d₂ : List Float) (s₁ : Solution us v d v₁ d₁) (s₂ : Solution us v d v₂ d₂) where
    -- they are as long as one another
    long : length v₁ ≡ length v₂
    long = s₁.long.0 ∙ sym s₂.long.0

    long_rate : length d₁ ≡ length d₂
    long_rate = s₁.long.1 ∙ sym s₂.long.1

    -- they agree in TIME and behind the last name's slot
    time : Same v₁ v₂ 0
    time = (s₁.rest 0 (inl refl)).0 ∙ sym (s₂.rest 0 (inl refl)).0

    -- in constants and in states
    abbrev Agrees : Def → Type 0
    Agrees a = is_stored a.what ≡ false → Same v₁ v₂ (slot a.key)

    inside_agrees : (l k : ℕ) (s : Sets) → Every Agrees (defined_inside l k s)
    inside_agrees l k given = (λ e. absurd (not_both refl e), tt)
    inside_agrees l k own = (λ e. absurd (not_both refl e), tt)
    inside_agrees l k anew = tt

    all_agree : Every Agrees ds
    all_agree =
        to_definitions Agrees us
        (asked_two (λ l c a b e. a.0 ∙ sym b.0) (λ l k t a b e. absurd (not_both refl e))
        (λ l k i t a b e. a.0 ∙ sym b.0)
        (λ ns a b. every_map _ _ ns (λ (n : Inner) h. inside_agrees n.line n.key n.sets) a)
        us (holds v d v₁ d₁ s₁) (holds v d v₂ d₂ s₂))

    constant_agrees : (k : ℕ) → k ∈ constant_keys ds → Same v₁ v₂ (slot k)
    constant_agrees k h =
        let r = named_def is_constant ds k (rw (constant_keys_holds ds) at h) in
        subst (λ (j : ℕ). Same v₁ v₂ (slot j)) r.3
        (every_of Agrees ds all_agree r.0 r.1 (free r.0.what r.2))
      where
        free : (w : What) → is_constant w ≡ true → is_stored w ≡ false
        free (constant x) e = refl
        free assigned e = absurd (not_both e refl)
        free hidden e = absurd (not_both e refl)
        free (integral i) e = refl

    state_agrees : (k : ℕ) → k ∈ state_names ds → Same v₁ v₂ (slot k)
    state_agrees k h =
        let r = named_def is_state ds k h in
        subst (λ (j : ℕ). Same v₁ v₂ (slot j)) r.3
        (every_of Agrees ds all_agree r.0 r.1 (free r.0.what r.2))
      where
        free : (w : What) → is_state w ≡ true → is_stored w ≡ false
        free (constant x) e = refl
        free assigned e = absurd (not_both e refl)
        free hidden e = absurd (not_both e refl)
        free (integral i) e = refl

    -- ---- in what the units assign, one unit after the other
    abbrev AgreeIn : List Equation → Type 0
    AgreeIn es = (k : ℕ) → k ∈ assigned_keys es → Same v₁ v₂ (slot k)

    -- so in what is set
    set_agrees : (es : List Equation) → AgreeIn es → (k : ℕ) → IsSet ds es k → Same v₁ v₂ (slot k)
    set_agrees es a k (inl h) = constant_agrees k h
    set_agrees es a k (inr (inl h)) = state_agrees k h
    set_agrees es a k (inr (inr h)) = a k h.1

    -- a unit that reads where they agree: what it leaves they hold
    unit_agrees : (f : List ℕ) (i : ℕ) (q : List ℕ) → EachAfter (unit_count us) (uses_in us) (f ++ i ∷ q)
        → Once (f ++ i ∷ q)
        → (b : Below (unit_count us) (f ++ i ∷ q)) → i < unit_count us
        → AgreeIn (ordered_runs us f)
        → AgreeIn (runs_at us i)
    unit_agrees f i q a c b hi h k m =
        let outside = (unit_at us i).reads ++ free_names us in
        let left = rests_at v d v₁ d₁ s₁ i hi in
        let right = rests_at v d v₂ d₂ s₂ i hi in
        let same = (alike_after slot (runs_at us i) outside v₁ v₂ d₁ d₂
        (rows_sound us sound i).reads long long_rate time
        (λ j n _. set_agrees (ordered_runs us f) h j (outside_set us sound one known f i q a c b j n)) (slot k)).0
        (inr (k, m, refl)) in
        ap (λ (z : List Float). get_or z (slot k) nan) (sym left.0)
        ∙ same
        ∙ ap (λ (z : List Float). get_or z (slot k) nan) right.0

    order_agrees : (f q : List ℕ) → EachAfter (unit_count us) (uses_in us) (f ++ q) → Once (f ++ q)
        → Below (unit_count us) (f ++ q)
        → Below (unit_count us) q
        → AgreeIn (ordered_runs us f)
        → AgreeIn (ordered_runs us (f ++ q))
    unfolding concat_map count
    order_agrees f [] a c b bq h = rw (append-nil f) h
    order_agrees f (i ∷ q) a c b bq h =
        let e = append_assoc f (i ∷ []) q in
        let hi = bq i (omega (arith, once_same i)) in
        let more : ordered_runs us (f ++ (i ∷ [])) ≡ ordered_runs us f ++ runs_at us i =
        concat_append (runs_at us) f (i ∷ [])
        ∙ ap (λ (z : List Equation). ordered_runs us f ++ z) (append-nil (runs_at us i)) in
        let next : AgreeIn (ordered_runs us (f ++ (i ∷ []))) =
        λ k m.
        ⊎_elim (h k) (unit_agrees f i q a c b hi h k)
        (in_either k (assigned_keys (ordered_runs us f)) (assigned_keys (runs_at us i))
        (rw (more, assigned_append (ordered_runs us f) (runs_at us i)) at m)) in
        subst (λ (l : List ℕ). AgreeIn (ordered_runs us l)) e
        (order_agrees (f ++ (i ∷ [])) q (rw e a) (rw e c) (rw e b) (λ m n. bq m (omega arith)) next)

    stored_agrees : (k : ℕ) → k ∈ stored_names ds → Same v₁ v₂ (slot k)
    unfolding concat_map count
    stored_agrees k h =
        let below = perm_below (unit_count us) (uses_in us) q g.perm in
        let r = assigned_somewhere us k h in
        order_agrees [] q g.after (at_most us q g) below below (λ j m. absurd (omega arith)) k
        (assigned_in_all us q r.0 k (omega (arith, g.perm.within r.0 r.1)) r.2)

    -- ---- so in every place
    name_agrees : (k : ℕ) → k ∈ keys ds → Same v₁ v₂ (slot k)
    name_agrees k h =
        let n = count_names k ds in
        ⊎_elim (constant_agrees k)
        (λ a. ⊎_elim (state_agrees k) (λ b. stored_agrees k (omega arith)) (lt_or_ge 0 (count k (state_names ds))))
        (lt_or_ge 0 (count k (constant_keys ds)))

    -- a place is TIME's, a name's, or behind the last name's
    by_place : (P : ℕ → Type 0) → P 0 → Every (λ (a : Def). P (slot a.key)) ds
        → ((p : ℕ) → length ds < p → P p)
        → (p : ℕ) → P p
    by_place P z e r zero = z
    by_place P z e r (suc i) =
        ⊎_elim (λ h. subst P (slot_at_holds us one i h) (every_at (λ (a : Def). P (slot a.key)) ds no_def e i h))
        (λ h. r (suc i) (omega arith)) (lt_or_ge i (length ds))

    same_values : v₁ ≡ v₂
    same_values =
        ext_get_or nan v₁ v₂ long
        (λ p _. by_place (Same v₁ v₂) time
        (every_unmapped (λ (k : ℕ). Same v₁ v₂ (slot k)) (λ (a : Def). a.key) ds
        (number_every (λ (k : ℕ). Same v₁ v₂ (slot k)) (keys ds) name_agrees))
        (λ p h.
        let past : length (names_of us) < p = rw (← (names_many us)) h in
        (s₁.rest p (inr past)).0 ∙ sym (s₂.rest p (inr past)).0) p)

    -- then the derivatives are the same too
    abbrev Rates : Def → Type 0
    Rates a = Same d₁ d₂ (slot a.key)

    inside_rates : (l k : ℕ) (s : Sets) → Same d₁ d₂ (slot k) → Every Rates (defined_inside l k s)
    inside_rates l k given h = (h, tt)
    inside_rates l k own h = (h, tt)
    inside_rates l k anew h = tt

    all_rates : Every Rates ds
    all_rates =
        to_definitions Rates us
        (asked_two (λ l c a b. a.1 ∙ sym b.1) (λ l k t a b. a.1 ∙ sym b.1)
        (λ l k i t a b. a.1 ∙ ap (λ (z : List Float). value_of slot z t) same_values ∙ sym b.1)
        (λ ns a b. every_map _ _ ns
        (λ (n : Inner) h. inside_rates n.line n.key n.sets (h.0.1 ∙ sym h.1.1)) (every_both _ _ ns a b))
        us (holds v d v₁ d₁ s₁) (holds v d v₂ d₂ s₂))

    same_derivs : d₁ ≡ d₂
    same_derivs =
        ext_get_or nan d₁ d₂ long_rate
        (λ p _. by_place (Same d₁ d₂) ((s₁.rest 0 (inl refl)).1 ∙ sym (s₂.rest 0 (inl refl)).1) all_rates
        (λ p h.
        let past : length (names_of us) < p = rw (← (names_many us)) h in
        (s₁.rest p (inr past)).1 ∙ sym (s₂.rest p (inr past)).1) p)

    -- TWO SOLUTIONS ARE THE SAME
    pub only_one : (v₁ ≡ v₂) × (d₁ ≡ d₂)
    only_one = (same_values, same_derivs)
