-- In a good order each equation finds set what it names, and sets its own name in its turn.
use Prim.Native.Nat.{ℕ, ◌+◌, ◌<◌}
use mathlib.Core.Path.{◌≡◌, sym, ap, subst, ◌∙◌}
use mathlib.Core.Bool.{true}
use mathlib.Core.Logic.{◌⊎◌, inl, inr, ⊎_elim}
use mathlib.Core.List.{List, [], ◌∷◌, ◌++◌, append_assoc, append-nil}
use native.Mathlib.Omega.{arith}
use Rattle.laws.specs.Lists.{concat_map}
use Rattle.laws.specs.Counts.{count, ◌∈◌}
use Rattle.laws.proofs.Tests.{lt_or_ge}
use Rattle.laws.proofs.Counts.{count_append, count_cons_same, once_same}
use Rattle.laws.proofs.Lists.{concat_append}
use Rattle.laws.proofs.Members.{Below}
use Rattle.drafts.specs.Tree.{names}
use Rattle.blocks.specs.Units.{Target, stores, restores, rates, Equation, TextUnit}
use Rattle.blocks.specs.Sound.{free_names, UnitsSound}
use Rattle.order.specs.Order.{EachAfter}
use Rattle.order.proofs.Sorting.{after_front}
use Rattle.model.specs.Definitions.{Def, definitions, keys, unit_at, unit_count}
use Rattle.model.specs.Faults.{constant_keys, outside_keys, uses_in}
use Rattle.model.proofs.KeyPlaces.{Once, count_outside}
use Rattle.model.proofs.UnitKeys.{rated_key, rated_keys, rated_defined, rated_same}
use Rattle.meaning.proofs.Settle.{in_either, if_assigned, assigned_keys, assigned_append}
use Rattle.meaning.proofs.Settle.{rated_append, Reads}
use Rattle.meaning.proofs.Runs.{ordered_runs}
use Rattle.meaning.proofs.Owned.{stored_names, state_names, count_names, count_known, Turn, Turns, rows_sound}
use Rattle.meaning.proofs.Owned.{runs_at}
use Rattle.meaning.proofs.Owned.{assigned_from_one, assigned_in_all, rated_from_one, assigned_somewhere}
use Rattle.meaning.proofs.Owned.{assigned_stored, assigned_one, assigned_shown, rated_once}
use Rattle.meaning.proofs.Fairness.{meets_in}

-- one equation behind a row
pub assigned_next : (k : ℕ) (es : List Equation) (e : Equation)
    → count k (assigned_keys (es ++ (e ∷ []))) ≡ count k (assigned_keys es) + count k (if_assigned e.target e.key)
unfolding concat_map
assigned_next k es e =
    ap (count k) (assigned_append es (e ∷ []))
    ∙ count_append k (assigned_keys es) (assigned_keys (e ∷ []))
    ∙ ap (λ (l : List ℕ). count k (assigned_keys es) + count k l) (append-nil (if_assigned e.target e.key))

pub rated_next : (k : ℕ) (es : List Equation) (e : Equation)
    → count k (rated_keys (es ++ (e ∷ []))) ≡ count k (rated_keys es) + count k (rated_key e.target e.key)
unfolding concat_map
rated_next k es e =
    ap (count k) (rated_append es (e ∷ []))
    ∙ count_append k (rated_keys es) (rated_keys (e ∷ []))
    ∙ ap (λ (l : List ℕ). count k (rated_keys es) + count k l) (append-nil (rated_key e.target e.key))

module _ (ds : List Def) where
  -- behind the row es a name is set: it is a constant or a state, or es assigns it
  abbrev pub IsSet : List Equation → ℕ → Type 0
  IsSet es k = (k ∈ constant_keys ds) ⊎ ((k ∈ state_names ds) ⊎ ((k ∈ stored_names ds) × (k ∈ assigned_keys es)))

  -- an equation's name is set in its turn: a stored one for the first time or anew, a state's derivative once
  abbrev pub InTurn : List Equation → ℕ → Target → Type 0
  InTurn es k stores = (k ∈ stored_names ds) × (count k (assigned_keys es) ≡ 0)
  InTurn es k restores = (k ∈ stored_names ds) × (k ∈ assigned_keys es)
  InTurn es k rates = (k ∈ state_names ds) × (count k (rated_keys es) ≡ 0)

  -- so with each equation of a row behind es
  abbrev pub Ready : List Equation → List Equation → Type 0
  Ready es [] = Unit {0}
  Ready es (e ∷ r) =
      ((k : ℕ) → k ∈ names e.tree → IsSet es k) × InTurn es e.key e.target × Ready (es ++ (e ∷ [])) r

  -- of two rows
  ready_append : (es x y : List Equation) → Ready es x → Ready (es ++ x) y → Ready es (x ++ y)
  ready_append es [] y a b = subst (λ (z : List Equation). Ready z y) (append-nil es) b
  ready_append es (e ∷ x) y a b = (
    a.0,
    a.1,
    ready_append (es ++ (e ∷ [])) x y a.2
        (subst (λ (z : List Equation). Ready z y) (sym (append_assoc es (e ∷ []) x)) b),
  )

  -- ---- a unit's row behind es, of which ks are the names that it may read and `above` those set above in the unit
  record Begun (ks above : List ℕ) (es r : List Equation) : Type 0 where
    known : (k : ℕ) → k ∈ ks → IsSet es k
    set_above : (k : ℕ) → k ∈ above → k ∈ assigned_keys es
    not_above : (k : ℕ) → k ∈ assigned_keys r → count k above ≡ 0 → count k (assigned_keys es) ≡ 0
    stored : (k : ℕ) → k ∈ assigned_keys r → k ∈ stored_names ds
    states : (k : ℕ) → k ∈ rated_keys r → k ∈ state_names ds
    unrated : (k : ℕ) → k ∈ rated_keys r → count k (rated_keys es) ≡ 0
    once : Once (rated_keys r)

  -- its first equation is in its turn
  first_turn : (above : List ℕ) (es : List Equation) (k : ℕ) (t : Target)
      → ((j : ℕ) → j ∈ if_assigned t k → (j ∈ stored_names ds) × (count j above ≡ 0 → count j (assigned_keys es) ≡ 0))
      → ((j : ℕ) → j ∈ rated_key t k → (j ∈ state_names ds) × (count j (rated_keys es) ≡ 0))
      → ((j : ℕ) → j ∈ above → j ∈ assigned_keys es)
      → Turn above k t → InTurn es k t
  unfolding count
  first_turn above es k stores a b c t =
      let h = a k (omega (arith, once_same k)) in (h.0, h.1 t)
  first_turn above es k restores a b c t = ((a k (omega (arith, once_same k))).0, c k t)
  first_turn above es k rates a b c t = b k (omega (arith, once_same k))

  -- then the others
  begun_next : (ks above : List ℕ) (es : List Equation) (e : Equation) (r : List Equation) → Begun ks above es (e ∷ r)
      → Begun (ks ++ if_assigned e.target e.key) (above ++ if_assigned e.target e.key) (es ++ (e ∷ [])) r
  unfolding concat_map
  begun_next ks above es e r b =
      let sets = if_assigned e.target e.key in
      let gives = rated_key e.target e.key in
      let later : (k : ℕ) → count k (sets ++ assigned_keys r) ≡ count k sets + count k (assigned_keys r) =
      λ k. count_append k sets (assigned_keys r) in
      let later_rate : (k : ℕ) → count k (gives ++ rated_keys r) ≡ count k gives + count k (rated_keys r) =
      λ k. count_append k gives (rated_keys r) in
      record {
        known =
            λ k h.
            ⊎_elim
            (λ m. further k (b.known k m))
            (λ m. inr (inr (b.stored k (omega (arith, later k)), omega (arith, assigned_next k es e))))
            (in_either k ks sets h);
        set_above =
            λ k h.
            ⊎_elim (λ m. omega (arith, b.set_above k m, assigned_next k es e))
            (λ m. omega (arith, assigned_next k es e))
            (in_either k above sets h);
        not_above =
            λ k h z.
            let a = count_append k above sets in
            let n = b.not_above k (omega (arith, later k)) (omega arith) in
            omega (arith, assigned_next k es e);
        stored = λ k h. b.stored k (omega (arith, later k));
        states = λ k h. b.states k (omega (arith, later_rate k));
        unrated =
            λ k h.
            let n = b.unrated k (omega (arith, later_rate k)) in
            omega (arith, rated_next k es e, b.once k, later_rate k);
        once = λ k. omega (arith, b.once k, later_rate k);
      }
    where
      further : (k : ℕ) → IsSet es k → IsSet (es ++ (e ∷ [])) k
      further k (inl h) = inl h
      further k (inr (inl h)) = inr (inl h)
      further k (inr (inr h)) = inr (inr (h.0, omega (arith, h.1, assigned_next k es e)))

  -- so the row is ready
  row_ready : (ks above : List ℕ) (es r : List Equation) → Reads ks r → Turns above r → Begun ks above es r → Ready es r
  unfolding concat_map
  row_ready ks above es [] reads turns b = tt
  row_ready ks above es (e ∷ r) reads turns b =
      let sets = if_assigned e.target e.key in
      let gives = rated_key e.target e.key in (
        λ k h. b.known k (reads.0 k h),
        first_turn above es e.key e.target
            (λ j m.
            let n = count_append j sets (assigned_keys r) in
            (b.stored j (omega arith), b.not_above j (omega arith)))
            (λ j m.
            let n = count_append j gives (rated_keys r) in
            (b.states j (omega arith), b.unrated j (omega arith)))
            b.set_above turns.0,
        row_ready (ks ++ sets) (above ++ sets) (es ++ (e ∷ [])) r reads.1 turns.1 (begun_next ks above es e r b),
      )

-- ---- the units of a good order
module _ (us : List TextUnit) (sound : UnitsSound us) (one : Once (keys (definitions us)))
    (known : (i : ℕ) → i < unit_count us → (k : ℕ) → k ∈ (unit_at us i).reads → k ∈ outside_keys (definitions us)) where
  abbrev ds : List Def
  ds = definitions us

  -- f is placed, i is next, q follows
  module _ (f : List ℕ) (i : ℕ) (q : List ℕ) (a : EachAfter (unit_count us) (uses_in us) (f ++ i ∷ q))
      (c : Once (f ++ i ∷ q)) (b : Below (unit_count us) (f ++ i ∷ q)) where
    -- none that is placed is i
    placed : (m : ℕ) → m ∈ f → (m < unit_count us) × (m ≡ i → ⊥)
    placed m h = (
      b m (omega (arith, count_append m f (i ∷ q))),
      λ e. let h' : i ∈ f = rw e at h in omega (arith, c i, count_append i f (i ∷ q), count_cons_same i q),
    )

    hi : i < unit_count us
    hi = b i (omega (arith, count_append i f (i ∷ q), count_cons_same i q))

    -- what it reads is set
    read_set : (k : ℕ) → k ∈ (unit_at us i).reads → IsSet ds (ordered_runs us f) k
    read_set k h =
        let out = known i hi k h in
        let n = count_outside k ds in
        let m = count_names k ds in
        let stored : k ∈ stored_names ds → IsSet ds (ordered_runs us f) k =
        λ s.
        let r = assigned_somewhere us k s in
        ⊎_elim
        (λ (t : k ∈ (unit_at us r.0).assigns).
        let u : uses_in us i r.0 ≡ true = meets_in (unit_at us r.0).assigns (unit_at us i).reads k t h in
        let p = after_front (unit_count us) (uses_in us) f i q a r.0 r.1 u in
        inr (inr (s, assigned_in_all us f r.0 k p r.2)))
        (λ t. absurd (omega (arith, one k))) (assigned_shown us sound one r.0 k r.1 r.2) in
        ⊎_elim (λ s. inl s)
        (λ s. ⊎_elim (λ t. inr (inl t)) (λ t. stored (omega arith)) (lt_or_ge 0 (count k (state_names ds))))
        (lt_or_ge 0 (count k (constant_keys ds)))

    -- so is a constant or a state
    free_set : (k : ℕ) → k ∈ free_names us → IsSet ds (ordered_runs us f) k
    free_set k h =
        let n = count_known k us in
        ⊎_elim (λ s. inl s) (λ s. inr (inl (omega arith))) (lt_or_ge 0 (count k (constant_keys ds)))

    -- so is all that it reads from outside
    pub outside_set : (k : ℕ) → k ∈ (unit_at us i).reads ++ free_names us → IsSet ds (ordered_runs us f) k
    outside_set k h = ⊎_elim (read_set k) (free_set k) (in_either k (unit_at us i).reads (free_names us) h)

    -- no unit that is placed sets what it sets
    unset : (k : ℕ) → k ∈ assigned_keys (runs_at us i) → count k (assigned_keys (ordered_runs us f)) ≡ 0
    unset k h =
        ⊎_elim
        (λ m.
        let r = assigned_from_one us f k m in
        let p = placed r.0 r.1 in
        absurd (p.1 (assigned_one us sound one r.0 i k p.0 hi r.2 h)))
        (λ m. omega arith) (lt_or_ge 0 (count k (assigned_keys (ordered_runs us f))))

    unrated : (k : ℕ) → k ∈ rated_keys (runs_at us i) → count k (rated_keys (ordered_runs us f)) ≡ 0
    unrated k h =
        ⊎_elim
        (λ m.
        let r = rated_from_one us f k m in
        let p = placed r.0 r.1 in
        absurd (p.1 (rated_same us one r.0 i k p.0 hi r.2 h)))
        (λ m. omega arith) (lt_or_ge 0 (count k (rated_keys (ordered_runs us f))))

    -- so it is ready
    unit_ready : Ready ds (ordered_runs us f) (runs_at us i)
    unfolding count
    unit_ready =
        let row = rows_sound us sound i in
        row_ready ds ((unit_at us i).reads ++ free_names us) [] (ordered_runs us f) (runs_at us i) row.reads row.turns
        (record {
          known = outside_set;
          set_above = λ k h. absurd (omega arith);
          not_above = λ k h z. unset k h;
          stored = assigned_stored us sound i hi;
          states = λ k h. rated_defined us i k hi h;
          unrated = unrated;
          once = rated_once us one i hi;
        })

  -- EACH IS READY
  pub order_ready : (f q : List ℕ) → EachAfter (unit_count us) (uses_in us) (f ++ q) → Once (f ++ q)
      → Below (unit_count us) (f ++ q)
      → Ready ds (ordered_runs us f) (ordered_runs us q)
  unfolding concat_map
  order_ready f [] a c b = tt
  order_ready f (i ∷ q) a c b =
      let e = append_assoc f (i ∷ []) q in
      let more : ordered_runs us (f ++ (i ∷ [])) ≡ ordered_runs us f ++ runs_at us i =
      concat_append (runs_at us) f (i ∷ [])
      ∙ ap (λ (z : List Equation). ordered_runs us f ++ z) (append-nil (runs_at us i)) in
      ready_append ds (ordered_runs us f) (runs_at us i) (ordered_runs us q) (unit_ready f i q a c b)
      (subst (λ (z : List Equation). Ready ds z (ordered_runs us q)) more
      (order_ready (f ++ (i ∷ [])) q (rw e a) (rw e c) (rw e b)))
