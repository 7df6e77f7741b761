-- Groups of equations worked out one after the other: each is at rest then. `slot` gives each name its slot.
use Prim.Native.Nat.{ℕ, ◌≤◌, ◌<◌}
use mathlib.Core.Path.{◌≡◌, refl, sym, ap, subst, ◌∙◌, ◌≡⟨◌⟩◌, ◌∎}
use mathlib.Core.Logic.{◌⊎◌, inl, inr, ⊎_elim}
use mathlib.Core.List.{List, [], ◌∷◌, ◌++◌}
use native.Mathlib.Omega.{arith}
use lib.ListN.{length, get_or, set, length-set, get_or-eq_default}
use lib.Seq.{get_or-set_same, get_or-set_other, set-get_or, set_out, ext_get_or}
use lib.Ieee.{Float, nan}
use Rattle.laws.specs.Lists.{concat_map}
use Rattle.laws.specs.Every.{Every}
use Rattle.laws.specs.Counts.{count, ◌∈◌}
use Rattle.laws.proofs.Lists.{concat_append}
use Rattle.laws.proofs.Tests.{eq_or_ne, lt_or_ge}
use Rattle.laws.proofs.Counts.{once_same, once_other, count_append}
use Rattle.drafts.specs.Tree.{Tree, names}
use Rattle.blocks.specs.Units.{Target, stores, restores, rates, Equation, equation}
use Rattle.model.proofs.UnitKeys.{rated_key, rated_keys}
use Rattle.meaning.specs.Meaning.{value_of}
use Rattle.meaning.specs.ReadSlots.{Same}
use Rattle.meaning.proofs.Postfix.{value_same}

-- a member of two rows stands in one of them
pub in_either : (k : ℕ) (x y : List ℕ) → k ∈ x ++ y → (k ∈ x) ⊎ (k ∈ y)
in_either k x y h = ⊎_elim (λ m. inl m) (λ m. inr (omega (arith, count_append k x y))) (lt_or_ge 0 (count k x))

-- ---- what an equation sets

-- its key, if it assigns
abbrev pub if_assigned : Target → ℕ → List ℕ
if_assigned stores k = k ∷ []
if_assigned restores k = k ∷ []
if_assigned rates k = []

-- the keys that a row assigns, and those that it names
abbrev pub assigned_keys : List Equation → List ℕ
assigned_keys es = concat_map (λ (e : Equation). if_assigned e.target e.key) es

abbrev pub named_keys : List Equation → List ℕ
named_keys es = concat_map (λ (e : Equation). names e.tree) es

-- of two rows
pub assigned_append : (x y : List Equation) → assigned_keys (x ++ y) ≡ assigned_keys x ++ assigned_keys y
assigned_append x y = concat_append (λ (e : Equation). if_assigned e.target e.key) x y

pub rated_append : (x y : List Equation) → rated_keys (x ++ y) ≡ rated_keys x ++ rated_keys y
rated_append x y = concat_append (λ (e : Equation). rated_key e.target e.key) x y

-- what a group names stands among ks or is assigned above
abbrev pub Reads : List ℕ → List Equation → Type 0
Reads ks [] = Unit {0}
Reads ks (e ∷ es) =
    ((k : ℕ) → k ∈ names e.tree → k ∈ ks) × Reads (ks ++ if_assigned e.target e.key) es

-- the equations of groups, one group after the other
abbrev pub row : List (List Equation) → List Equation
row gs = concat_map (λ (g : List Equation). g) gs

-- the values after x was worked out for the slot s
abbrev pub stored : Target → ℕ → Float → List Float → List Float
stored stores s x v = set v s x
stored restores s x v = set v s x
stored rates s x v = v

-- and the derivatives
abbrev pub derived : Target → ℕ → Float → List Float → List Float
derived stores s x d = d
derived restores s x d = d
derived rates s x d = set d s x

-- ---- one place set in two lists of one length

-- they agree there
same_set : (v w : List Float) (s : ℕ) (x : Float) → length v ≡ length w → Same (set v s x) (set w s x) s
same_set v w s x l =
    ⊎_elim (λ h. get_or-set_same v s x nan h ∙ sym (get_or-set_same w s x nan (rw (← l) h)))
    (λ h.
    let out : length w ≤ s = rw (← l) h in
    rw (set_out v s x h, set_out w s x out)
    (get_or-eq_default v nan {n = s} h ∙ sym (get_or-eq_default w nan {n = s} out)))
    (lt_or_ge s (length v))

-- and wherever they did before
keep_set : (v w : List Float) (s : ℕ) (x : Float) (p : ℕ) → length v ≡ length w → Same v w p
    → Same (set v s x) (set w s x) p
keep_set v w s x p l h =
    ⊎_elim (λ (e : p ≡ s). rw e (same_set v w s x l))
    (λ e. get_or-set_other v s p x nan e ∙ h ∙ sym (get_or-set_other w s p x nan e)) (eq_or_ne p s)

module _ (slot : ℕ → ℕ) where
  -- the values and the derivatives after these equations were worked out one after the other
  unfoldable pub values_after : List Equation → List Float → List Float
  values_after [] v = v
  values_after (e ∷ es) v = values_after es (stored e.target (slot e.key) (value_of slot v e.tree) v)

  unfoldable pub derivs_after : List Equation → List Float → List Float → List Float
  derivs_after [] v d = d
  derivs_after (e ∷ es) v d =
      derivs_after es (stored e.target (slot e.key) (value_of slot v e.tree) v)
      (derived e.target (slot e.key) (value_of slot v e.tree) d)

  -- after two rows
  pub values_append : (x y : List Equation) (v : List Float)
      → values_after (x ++ y) v ≡ values_after y (values_after x v)
  unfolding values_after
  values_append [] y v = refl
  values_append (e ∷ x) y v = values_append x y _

  pub derivs_append : (x y : List Equation) (v d : List Float)
      → derivs_after (x ++ y) v d ≡ derivs_after y (values_after x v) (derivs_after x v d)
  unfolding values_after derivs_after
  derivs_append [] y v d = refl
  derivs_append (e ∷ x) y v d = derivs_append x y _ _

  -- ---- the lengths stay
  long_stored : (t : Target) (s : ℕ) (x : Float) (v : List Float) → length (stored t s x v) ≡ length v
  long_stored stores s x v = length-set v s x
  long_stored restores s x v = length-set v s x
  long_stored rates s x v = refl

  long_derived : (t : Target) (s : ℕ) (x : Float) (d : List Float) → length (derived t s x d) ≡ length d
  long_derived stores s x d = refl
  long_derived restores s x d = refl
  long_derived rates s x d = length-set d s x

  pub long_values : (es : List Equation) (v : List Float) → length (values_after es v) ≡ length v
  unfolding values_after
  long_values [] v = refl
  long_values (e ∷ es) v = long_values es _ ∙ long_stored e.target _ _ v

  pub long_derivs : (es : List Equation) (v d : List Float) → length (derivs_after es v d) ≡ length d
  unfolding derivs_after
  long_derivs [] v d = refl
  long_derivs (e ∷ es) v d = long_derivs es _ _ ∙ long_derived e.target _ _ d

  -- ---- the frame: an equation changes only its own slot

  -- no key among these has the slot p
  abbrev pub Free : List ℕ → ℕ → Type 0
  Free ks p = (j : ℕ) → j ∈ ks → slot j ≡ p → ⊥

  -- one of them has
  abbrev pub Taken : List ℕ → ℕ → Type 0
  Taken ks p = (j : ℕ) × (j ∈ ks) × (slot j ≡ p)

  -- one or the other
  pub taken_or_free : (ks : List ℕ) (p : ℕ) → Taken ks p ⊎ Free ks p
  unfolding count
  taken_or_free [] p = inr (λ j m e. omega arith)
  taken_or_free (k ∷ ks) p =
      ⊎_elim (λ (e : slot k ≡ p). inl (k, omega (arith, once_same k), e))
      (λ n.
      ⊎_elim (λ (t : Taken ks p). inl (t.0, omega (arith, t.1), t.2))
      (λ f. inr (λ j m e. ⊎_elim (λ (z : j ≡ k). n (rw z at e)) (λ z. f j (omega (arith, once_other j k z)) e)
      (eq_or_ne j k)))
      (taken_or_free ks p))
      (eq_or_ne (slot k) p)

  -- a free slot keeps its value
  kept_stored : (t : Target) (k : ℕ) (x : Float) (v : List Float) (ks : List ℕ) (p : ℕ) → Free (if_assigned t k ++ ks) p
      → get_or (stored t (slot k) x v) p nan ≡ get_or v p nan
  unfolding count
  kept_stored stores k x v ks p h = get_or-set_other v (slot k) p x nan (λ e. h k (omega (arith, once_same k)) (sym e))
  kept_stored restores k x v ks p h =
      get_or-set_other v (slot k) p x nan (λ e. h k (omega (arith, once_same k)) (sym e))
  kept_stored rates k x v ks p h = refl

  -- and its derivative
  kept_derived : (t : Target) (k : ℕ) (x : Float) (d : List Float) (ks : List ℕ) (p : ℕ) → Free (rated_key t k ++ ks) p
      → get_or (derived t (slot k) x d) p nan ≡ get_or d p nan
  unfolding count
  kept_derived stores k x d ks p h = refl
  kept_derived restores k x d ks p h = refl
  kept_derived rates k x d ks p h = get_or-set_other d (slot k) p x nan (λ e. h k (omega (arith, once_same k)) (sym e))

  -- so it is after all of them
  pub kept_values : (es : List Equation) (v : List Float) (p : ℕ) → Free (assigned_keys es) p
      → get_or (values_after es v) p nan ≡ get_or v p nan
  unfolding values_after concat_map
  kept_values [] v p h = refl
  kept_values (e ∷ es) v p h =
      let own = if_assigned e.target e.key in
      kept_values es _ p (λ j m. h j (omega (arith, count_append j own (assigned_keys es))))
      ∙ kept_stored e.target e.key _ v (assigned_keys es) p h

  pub kept_derivs : (es : List Equation) (v d : List Float) (p : ℕ) → Free (rated_keys es) p
      → get_or (derivs_after es v d) p nan ≡ get_or d p nan
  unfolding derivs_after concat_map
  kept_derivs [] v d p h = refl
  kept_derivs (e ∷ es) v d p h =
      let own = rated_key e.target e.key in
      kept_derivs es _ _ p (λ j m. h j (omega (arith, count_append j own (rated_keys es))))
      ∙ kept_derived e.target e.key _ d (rated_keys es) p h

  -- ---- a group is a function of TIME and of what it reads from outside

  -- two lists that agree in a place, or in whose place the same is set, agree in it
  set_alike : (k : ℕ) (x : Float) (v w : List Float) (p : ℕ) → length v ≡ length w
      → Same v w p ⊎ Taken (k ∷ []) p → Same (set v (slot k) x) (set w (slot k) x) p
  unfolding count
  set_alike k x v w p l (inl h) = keep_set v w (slot k) x p l h
  set_alike k x v w p l (inr (j, m, e)) =
      ⊎_elim
      (λ (z : j ≡ k). subst (Same (set v (slot k) x) (set w (slot k) x)) (ap slot (sym z) ∙ e)
      (same_set v w (slot k) x l))
      (λ z. absurd (omega (arith, once_other j k z))) (eq_or_ne j k)

  -- where nothing is set they agree as before
  none_taken : {P : Type 0} (p : ℕ) → P ⊎ Taken [] p → P
  unfolding count
  none_taken p (inl h) = h
  none_taken p (inr (j, m, e)) = absurd (omega arith)

  stored_alike : (t : Target) (k : ℕ) (x : Float) (v w : List Float) (p : ℕ) → length v ≡ length w
      → Same v w p ⊎ Taken (if_assigned t k) p → Same (stored t (slot k) x v) (stored t (slot k) x w) p
  stored_alike stores k x v w p l h = set_alike k x v w p l h
  stored_alike restores k x v w p l h = set_alike k x v w p l h
  stored_alike rates k x v w p l h = none_taken p h

  derived_alike : (t : Target) (k : ℕ) (x : Float) (d c : List Float) (p : ℕ) → length d ≡ length c
      → Same d c p ⊎ Taken (rated_key t k) p → Same (derived t (slot k) x d) (derived t (slot k) x c) p
  derived_alike stores k x d c p l h = none_taken p h
  derived_alike restores k x d c p l h = none_taken p h
  derived_alike rates k x d c p l h = set_alike k x d c p l h

  -- THE FUNCTION: from two starts that agree in TIME and in what it reads from outside, a group leaves the same in each
  -- slot that it assigns and in each derivative that it gives; and it leaves the same where the starts agree
  pub alike_after : (g : List Equation) (ks : List ℕ) (v w d c : List Float) → Reads ks g → length v ≡ length w
      → length d ≡ length c
      → Same v w 0
      → ((k : ℕ) → k ∈ ks → k ∈ named_keys g → Same v w (slot k))
      → (p : ℕ)
      → (Same v w p ⊎ Taken (assigned_keys g) p → Same (values_after g v) (values_after g w) p)
      × (Same d c p ⊎ Taken (rated_keys g) p → Same (derivs_after g v d) (derivs_after g w c) p)
  unfolding values_after derivs_after concat_map
  alike_after [] ks v w d c r l m z f p =
      (λ h. none_taken p h, λ h. none_taken p h)
  alike_after (e ∷ es) ks v w d c r l m z f p =
      let t = e.target in
      let k = e.key in
      let x = value_of slot v e.tree in
      let y = value_of slot w e.tree in
      let sets = if_assigned t k in
      let same : x ≡ y =
      value_same slot e.tree v w z
      (λ j h. f j (r.0 j h) (omega (arith, count_append j (names e.tree) (named_keys es)))) in
      let next : (q : ℕ) → Same v w q ⊎ Taken sets q → Same (stored t (slot k) x v) (stored t (slot k) y w) q =
      λ q h. subst (λ (a : Float). Same (stored t (slot k) x v) (stored t (slot k) a w) q) same
      (stored_alike t k x v w q l h) in
      let next_rate : (q : ℕ) → Same d c q ⊎ Taken (rated_key t k) q
      → Same (derived t (slot k) x d) (derived t (slot k) y c) q =
      λ q h. subst (λ (a : Float). Same (derived t (slot k) x d) (derived t (slot k) a c) q) same
      (derived_alike t k x d c q m h) in
      let long : length (stored t (slot k) x v) ≡ length (stored t (slot k) y w) =
      long_stored t (slot k) x v ∙ l ∙ sym (long_stored t (slot k) y w) in
      let long_rate : length (derived t (slot k) x d) ≡ length (derived t (slot k) y c) =
      long_derived t (slot k) x d ∙ m ∙ sym (long_derived t (slot k) y c) in
      let fed : (j : ℕ) → j ∈ ks ++ sets → j ∈ named_keys es
      → Same (stored t (slot k) x v) (stored t (slot k) y w) (slot j) =
      λ j h n.
      next (slot j)
      (⊎_elim (λ a. inl (f j a (omega (arith, count_append j (names e.tree) (named_keys es)))))
      (λ a. inr (j, a, refl)) (in_either j ks sets h)) in
      let rest = alike_after es (ks ++ sets) _ _ _ _ r.1 long long_rate (next 0 (inl z)) fed p in (
        λ h. rest.0
            (⊎_elim (λ s. inl (next p (inl s)))
            (λ (q : Taken (sets ++ assigned_keys es) p).
            ⊎_elim (λ a. inl (next p (inr (q.0, a, q.2)))) (λ a. inr (q.0, a, q.2))
            (in_either q.0 sets (assigned_keys es) q.1)) h),
        λ h. rest.1
            (⊎_elim (λ s. inl (next_rate p (inl s)))
            (λ (q : Taken (rated_key t k ++ rated_keys es) p).
            ⊎_elim (λ a. inl (next_rate p (inr (q.0, a, q.2)))) (λ a. inr (q.0, a, q.2))
            (in_either q.0 (rated_key t k) (rated_keys es) q.1)) h),
      )

  -- ---- a group is at rest if working it out changes nothing
  abbrev pub Rests : List Float → List Float → List Equation → Type 0
  Rests v d g = (values_after g v ≡ v) × (derivs_after g v d ≡ d)

  -- a group comes first: no later equation assigns or derives a slot of it, and neither it nor a later one assigns TIME
  -- or a slot that it reads from outside
  pub record First (g later : List Equation) : Type 0 where
    pub outside : List ℕ
    pub reads : Reads outside g
    pub early : (k : ℕ) → k ∈ outside → Free (assigned_keys (g ++ later)) (slot k)
    pub timeless : Free (assigned_keys (g ++ later)) 0
    pub apart : (k : ℕ) → k ∈ assigned_keys g → Free (assigned_keys later) (slot k)
    pub alone : (k : ℕ) → k ∈ rated_keys g → Free (rated_keys later) (slot k)

  -- so with each of them
  abbrev pub Fair : List (List Equation) → Type 0
  Fair [] = Unit {0}
  Fair (g ∷ gs) = First g (row gs) × Fair gs

  -- the first rests at the end
  settled_first : (g later : List Equation) (v d : List Float) → First g later
      → Rests (values_after (g ++ later) v) (derivs_after (g ++ later) v d) g
  settled_first g later v d f =
      let all = g ++ later in
      let v₁ = values_after g v in
      let d₁ = derivs_after g v d in
      let v' = values_after all v in
      let d' = derivs_after all v d in
      let alike = alike_after g f.outside v' v d' d f.reads (long_values all v) (long_derivs all v d)
      (kept_values all v 0 f.timeless) (λ k h _. kept_values all v (slot k) (f.early k h)) in
      let apart : (p : ℕ) → Taken (assigned_keys g) p → Free (assigned_keys later) p =
      λ p t. subst (Free (assigned_keys later)) t.2 (f.apart t.0 t.1) in
      let alone : (p : ℕ) → Taken (rated_keys g) p → Free (rated_keys later) p =
      λ p t. subst (Free (rated_keys later)) t.2 (f.alone t.0 t.1) in
      let value : (p : ℕ) → Taken (assigned_keys g) p → get_or (values_after g v') p nan ≡ get_or v' p nan =
      λ p t.
      get_or (values_after g v') p nan ≡⟨ (alike p).0 (inr t) ⟩
      get_or v₁ p nan ≡⟨ sym (kept_values later v₁ p (apart p t)) ⟩
      get_or (values_after later v₁) p nan ≡⟨ ap (λ (z : List Float). get_or z p nan) (sym (values_append g later v)) ⟩
      get_or v' p nan ∎ in
      let deriv : (p : ℕ) → Taken (rated_keys g) p → get_or (derivs_after g v' d') p nan ≡ get_or d' p nan =
      λ p t.
      get_or (derivs_after g v' d') p nan ≡⟨ (alike p).1 (inr t) ⟩
      get_or d₁ p nan ≡⟨ sym (kept_derivs later v₁ d₁ p (alone p t)) ⟩
      get_or (derivs_after later v₁ d₁) p nan
      ≡⟨ ap (λ (z : List Float). get_or z p nan) (sym (derivs_append g later v d)) ⟩
      get_or d' p nan ∎ in (
        ext_get_or nan (values_after g v') v' (long_values g v')
            (λ p _. ⊎_elim (value p) (kept_values g v' p) (taken_or_free (assigned_keys g) p)),
        ext_get_or nan (derivs_after g v' d') d' (long_derivs g v' d')
            (λ p _. ⊎_elim (deriv p) (kept_derivs g v' d' p) (taken_or_free (rated_keys g) p)),
      )

  -- EACH rests over the final values
  pub settled : (gs : List (List Equation)) (v d : List Float) → Fair gs
      → Every (Rests (values_after (row gs) v) (derivs_after (row gs) v d)) gs
  unfolding concat_map
  settled [] v d f = tt
  settled (g ∷ gs) v d f = (
    settled_first g (row gs) v d f.0,
    subst (λ (x : List Float). Every (Rests x (derivs_after (g ++ row gs) v d)) gs) (sym (values_append g (row gs) v))
        (subst (λ (y : List Float). Every (Rests (values_after (row gs) (values_after g v)) y) gs)
        (sym (derivs_append g (row gs) v d)) (settled gs (values_after g v) (derivs_after g v d) f.1)),
  )

  -- ---- a group of one: at rest it holds, and back
  module _ (l k : ℕ) (t : Tree) (v d : List Float) where
    pub stored_holds : slot k < length v → Rests v d (equation l k stores t ∷ [])
        → get_or v (slot k) nan ≡ value_of slot v t
    unfolding values_after derivs_after
    stored_holds h r =
        sym (ap (λ (z : List Float). get_or z (slot k) nan) r.0) ∙ get_or-set_same v (slot k) (value_of slot v t) nan h

    pub stored_rests : get_or v (slot k) nan ≡ value_of slot v t → Rests v d (equation l k stores t ∷ [])
    unfolding values_after derivs_after
    stored_rests e = (ap (set v (slot k)) (sym e) ∙ set-get_or v (slot k) nan, refl)

    pub rated_holds : slot k < length d → Rests v d (equation l k rates t ∷ [])
        → get_or d (slot k) nan ≡ value_of slot v t
    unfolding values_after derivs_after
    rated_holds h r =
        sym (ap (λ (z : List Float). get_or z (slot k) nan) r.1) ∙ get_or-set_same d (slot k) (value_of slot v t) nan h

    pub rated_rests : get_or d (slot k) nan ≡ value_of slot v t → Rests v d (equation l k rates t ∷ [])
    unfolding values_after derivs_after
    rated_rests e = (refl, ap (set d (slot k)) (sym e) ∙ set-get_or d (slot k) nan)
