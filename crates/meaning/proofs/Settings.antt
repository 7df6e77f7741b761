-- The judge on the first two parts of a program: each constant and each state sets the mark of its slot.
use Prim.Native.Nat.{ℕ, ◌≤◌, ◌<◌}
use mathlib.Core.Path.{◌≡◌, refl, sym, ◌∙◌}
use mathlib.Core.Logic.{◌⊎◌, inl, inr, ⊎_elim}
use mathlib.Core.List.{List, [], ◌∷◌, ◌++◌}
use native.Mathlib.Omega.{arith}
use borrow.Author.Tests.{eq-eqb}
use lib.ListN.{length, get_or, set, length-set}
use lib.Seq.{get_or-set_same, get_or-set_other}
use Rattle.laws.specs.Lists.{concat_map}
use Rattle.laws.specs.Counts.{count, ◌∈◌}
use Rattle.laws.proofs.Tests.{eq_or_ne}
use Rattle.laws.proofs.Counts.{once_same, once_other}
use Rattle.laws.specs.Places.{only_if}
use Rattle.model.specs.Definitions.{What, constant, assigned, hidden, integral, Def, keys, slot_in}
use Rattle.model.specs.Faults.{constant_key, constant_keys}
use Rattle.model.proofs.KeyPlaces.{Once, place_same, is_state}
use Rattle.records.specs.declared.Instr.{Instr}
use Rattle.records.specs.declared.Instr.TheVariants.{Constant, Initial}
use Rattle.records.specs.Record.{instrs}
use Rattle.program.specs.Program.{initial_value, constant_recs, initial_recs}
use Rattle.evaluator.proofs.JudgedRows.{judge_at, Leads, leads_append, leads_one}
use Rattle.meaning.proofs.Owned.{state_names}
use Rattle.meaning.proofs.Runs.{instrs_append, constant_part, initial_part}

-- the judge takes xs with nothing on the stack, in a phase up to b, and is again in such a phase then
abbrev pub Passes : ℕ → List ℕ → List Instr → List ℕ → Type 0
Passes b l xs l' = (p : ℕ) → p ≤ b → (p' : ℕ) × (p' ≤ b) × Leads (judge_at p 0 l) xs (judge_at p' 0 l')

-- no instruction
pub passes_none : (b : ℕ) (l : List ℕ) → Passes b l [] l
passes_none b l p h = (p, h, refl)

-- one list after another
pub passes_append : (b : ℕ) (l m n : List ℕ) (xs ys : List Instr) → Passes b l xs m → Passes b m ys n
    → Passes b l (xs ++ ys) n
passes_append b l m n xs ys f g p h =
    let r = f p h in
    let s = g r.0 r.1 in
    (s.0, s.1, leads_append (judge_at p 0 l) (judge_at r.0 0 m) (judge_at s.0 0 n) xs ys r.2 s.2)

-- ---- marks
module _ (slot : ℕ → ℕ) where
  -- the mark x at the slots of these keys
  unfoldable pub marks_on : ℕ → List ℕ → List ℕ → List ℕ
  marks_on x [] l = l
  marks_on x (k ∷ ks) l = marks_on x ks (set l (slot k) x)

  -- there are as many marks as before
  pub marks_long : (x : ℕ) (ks l : List ℕ) → length (marks_on x ks l) ≡ length l
  unfolding marks_on
  marks_long x [] l = refl
  marks_long x (k ∷ ks) l = marks_long x ks (set l (slot k) x) ∙ length-set l (slot k) x

  -- other slots keep theirs
  pub marks_other : (x : ℕ) (ks l : List ℕ) (p : ℕ) → ((k : ℕ) → k ∈ ks → slot k ≡ p → ⊥)
      → get_or (marks_on x ks l) p 0 ≡ get_or l p 0
  unfolding marks_on count
  marks_other x [] l p h = refl
  marks_other x (k ∷ ks) l p h =
      marks_other x ks (set l (slot k) x) p (λ j m. h j (omega arith))
      ∙ get_or-set_other l (slot k) p x 0 (λ e. h k (omega (arith, once_same k)) (sym e))

  -- a place with the mark keeps it
  marks_stay : (x : ℕ) (ks l : List ℕ) (p : ℕ) → p < length l → get_or l p 0 ≡ x → get_or (marks_on x ks l) p 0 ≡ x
  unfolding marks_on
  marks_stay x [] l p h e = e
  marks_stay x (k ∷ ks) l p h e =
      marks_stay x ks (set l (slot k) x) p (rw length-set h)
      (⊎_elim (λ (q : p ≡ slot k). rw q (get_or-set_same l (slot k) x 0 (rw q at h)))
      (λ q. get_or-set_other l (slot k) p x 0 q ∙ e) (eq_or_ne p (slot k)))

  -- the slots of these keys have it
  pub marks_same : (x : ℕ) (ks l : List ℕ) (k : ℕ) → k ∈ ks → slot k < length l
      → get_or (marks_on x ks l) (slot k) 0 ≡ x
  unfolding marks_on count
  marks_same x [] l k h m = absurd (omega arith)
  marks_same x (j ∷ ks) l k h m =
      let l' : List ℕ = set l (slot j) x in
      let m' : slot k < length l' = rw length-set m in
      ⊎_elim (λ (e : k ≡ j). marks_stay x ks l' (slot k) m' (rw e (get_or-set_same l (slot j) x 0 (rw e at m))))
      (λ e. marks_same x ks l' k (omega (arith, once_other k j e)) m') (eq_or_ne k j)

  -- a place has its mark from one of the keys, or as before
  pub marks_either : (x : ℕ) (ks l : List ℕ) (p : ℕ)
      → ((k : ℕ) × (k ∈ ks) × (slot k ≡ p)) ⊎ (get_or (marks_on x ks l) p 0 ≡ get_or l p 0)
  unfolding marks_on count
  marks_either x [] l p = inr refl
  marks_either x (k ∷ ks) l p =
      ⊎_elim (λ (e : slot k ≡ p). inl (k, omega (arith, once_same k), e))
      (λ e.
      ⊎_elim (λ (z : (k : ℕ) × (k ∈ ks) × (slot k ≡ p)). inl (z.0, omega (arith, z.1), z.2))
      (λ z. inr (z ∙ get_or-set_other l (slot k) p x 0 (λ s. e (sym s)))) (marks_either x ks (set l (slot k) x) p))
      (eq_or_ne (slot k) p)

-- ---- constants and initials
module _ (ds : List Def) where
  abbrev slot : ℕ → ℕ
  slot = slot_in ds

  -- each of these keys once, and none of their slots set
  pub record Open (ks l : List ℕ) : Type 0 where
    pub once : Once ks
    pub mine : (k : ℕ) → k ∈ ks → k ∈ keys ds
    pub none : (k : ℕ) → k ∈ ks → get_or l (slot k) 0 ≡ 0

  -- the first is set, the others are open
  open_next : (k x : ℕ) (ks l : List ℕ) → Open (k ∷ ks) l → Open ks (set l (slot k) x)
  unfolding count
  open_next k x ks l o =
      record {
        once = λ j. omega (arith, o.once j);
        mine = λ j h. o.mine j (omega arith);
        none =
            λ j h.
            get_or-set_other l (slot k) (slot j) x 0
            (λ e.
            let s : j ≡ k = place_same (keys ds) j k (o.mine k (omega (arith, once_same k))) (omega arith) in
            let h' : k ∈ ks = rw s at h in
            omega (arith, o.once k, once_same k))
            ∙ o.none j (omega arith);
      }

  -- the mark of the first is 0
  open_first : (k : ℕ) (ks l : List ℕ) → Open (k ∷ ks) l → get_or l (slot k) 0 ≡ 0
  unfolding count
  open_first k ks l o = o.none k (omega (arith, once_same k))

  -- one definition more in front
  pass_constant : (a : Def) (w : What) (R : List Instr) (ks l : List ℕ) → Open (constant_key a.key w ++ ks) l
      → ((l : List ℕ) → Open ks l → Passes 1 l R (marks_on slot 1 ks l))
      → Passes 1 l (instrs (constant_recs ds a w) ++ R) (marks_on slot 1 (constant_key a.key w ++ ks) l)
  unfolding marks_on
  pass_constant a (constant x) R ks l o f =
      let s = slot a.key in
      let fine = eq-eqb (get_or l s 0) 0 (open_first a.key ks l o) in
      passes_append 1 l (set l s 1) _ (Constant s x ∷ []) R
      (λ p h. (1, omega arith, leads_one (judge_at p 0 l) (Constant s x) (omega arith) (omega arith) h fine))
      (f (set l s 1) (open_next a.key 1 ks l o))
  pass_constant a assigned R ks l o f = f l o
  pass_constant a hidden R ks l o f = f l o
  pass_constant a (integral i) R ks l o f = f l o

  -- CONSTANTS: each sets mark 1
  pub pass_constants : (es : List Def) (l : List ℕ) → Open (constant_keys es) l
      → Passes 1 l (instrs (constant_part ds es)) (marks_on slot 1 (constant_keys es) l)
  unfolding concat_map marks_on
  pass_constants [] l o = passes_none 1 l
  pass_constants (a ∷ es) l o =
      rw (instrs_append (constant_recs ds a a.what) (constant_part ds es))
      (pass_constant a a.what _ (constant_keys es) l o (pass_constants es))

  -- one definition more in front
  pass_initial : (a : Def) (w : What) (R : List Instr) (ks l : List ℕ) → Open (only_if (is_state w) a.key ++ ks) l
      → ((l : List ℕ) → Open ks l → Passes 2 l R (marks_on slot 2 ks l))
      → Passes 2 l (instrs (initial_recs ds a w) ++ R) (marks_on slot 2 (only_if (is_state w) a.key ++ ks) l)
  unfolding marks_on
  pass_initial a (constant x) R ks l o f = f l o
  pass_initial a assigned R ks l o f = f l o
  pass_initial a hidden R ks l o f = f l o
  pass_initial a (integral i) R ks l o f =
      let s = slot a.key in
      let x = initial_value ds i in
      let fine = eq-eqb (get_or l s 0) 0 (open_first a.key ks l o) in
      passes_append 2 l (set l s 2) _ (Initial s x ∷ []) R
      (λ p h. (2, omega arith, leads_one (judge_at p 0 l) (Initial s x) (omega arith) (omega arith) h fine))
      (f (set l s 2) (open_next a.key 2 ks l o))

  -- INITIALS: each sets mark 2
  pub pass_initials : (es : List Def) (l : List ℕ) → Open (state_names es) l
      → Passes 2 l (instrs (initial_part ds es)) (marks_on slot 2 (state_names es) l)
  unfolding concat_map marks_on
  pass_initials [] l o = passes_none 2 l
  pass_initials (a ∷ es) l o =
      rw (instrs_append (initial_recs ds a a.what) (initial_part ds es))
      (pass_initial a a.what _ (state_names es) l o (pass_initials es))
