-- The records of a kind and a slot in the three parts of a program.
use Prim.Native.Nat.{ℕ, zero, suc, ◌≤◌, ◌<◌}
use mathlib.Core.Path.{◌≡◌, refl, ap, ap₂, ◌∙◌}
use mathlib.Core.Bool.{Bool, true, false, cond, ◌&&◌}
use mathlib.Core.Logic.{◌⊎◌, inl, inr, ⊎_elim}
use mathlib.Core.List.{List, [], ◌∷◌, ◌++◌, map, append-nil}
use native.Mathlib.Omega.{arith}
use borrow.Author.Tests.{eq-eqb, ne_eqb}
use lib.Dec.{eqb}
use lib.ListN.{length, get_or}
use Rattle.laws.specs.Lists.{concat_map}
use Rattle.laws.proofs.Concats.{map_append}
use Rattle.drafts.specs.Kinds.{kind_constant, kind_initial, kind_store, kind_rate, kind_again}
use Rattle.drafts.specs.Tree.{Two, plus, minus, times, over, compar, Three, insw, limit}
use Rattle.drafts.specs.Items.{Item, push, fetch, clock, negate, apply_two, apply_three, postfix}
use Rattle.blocks.specs.Units.{Target, stores, restores, rates, Equation}
use Rattle.model.specs.Definitions.{What, constant, assigned, hidden, integral, Def, slot_in}
use Rattle.records.specs.declared.Instr.{Instr}
use Rattle.records.specs.declared.Instr.TheVariants.{Constant, Initial, Store, Deriv, StoreAgain}
use Rattle.records.specs.Fields.{kind_of, operand_of}
use Rattle.records.specs.Record.{Rec, rec}
use Rattle.program.specs.Program.{instr_item, instr_two, instr_three, initial_value, constant_recs, initial_recs}
use Rattle.program.specs.Program.{last_instr}
use Rattle.program.specs.Program.{equation_recs}
use Rattle.meaning.specs.Recorded.{is_for, records_for}

-- ---- a row to which one member alone adds

-- to which none does
pub none_at : {A B : Type 0} (g : A → List B) (l : List A) (d : A) → ((j : ℕ) → j < length l → g (get_or l j d) ≡ [])
    → concat_map g l ≡ []
unfolding concat_map
none_at g [] d h = refl
none_at g (a ∷ l) d h = rw (h 0 (omega arith)) (none_at g l d (λ j m. h (suc j) (omega arith)))

-- it is what that one adds
pub only_at : {A B : Type 0} (g : A → List B) (l : List A) (d : A) (i : ℕ) → i < length l
    → ((j : ℕ) → j < length l → (j ≡ i → ⊥) → g (get_or l j d) ≡ []) → concat_map g l ≡ g (get_or l i d)
unfolding concat_map
only_at g [] d i m h = absurd (omega arith)
only_at g (a ∷ l) d zero m h =
    ap (λ r. g a ++ r) (none_at g l d (λ j n. h (suc j) (omega arith) (λ e. omega arith))) ∙ append-nil (g a)
only_at g (a ∷ l) d (suc i) m h =
    rw (h 0 (omega arith) (λ e. omega arith))
    (only_at g l d i (omega arith) (λ j n e. h (suc j) (omega arith) (λ q. e (omega arith))))

-- ---- an expression's records have the kinds 3 to 12
abbrev Middle : Instr → Type 0
Middle x = (3 ≤ kind_of x) × (kind_of x ≤ 12)

-- of an operation on two values
middle_two : (o : Two) → Middle (instr_two o)
middle_two plus = (omega arith, omega arith)
middle_two minus = (omega arith, omega arith)
middle_two times = (omega arith, omega arith)
middle_two over = (omega arith, omega arith)
middle_two compar = (omega arith, omega arith)

-- of one on three
middle_three : (o : Three) → Middle (instr_three o)
middle_three insw = (omega arith, omega arith)
middle_three limit = (omega arith, omega arith)

-- of each item
middle : (slot : ℕ → ℕ) (i : Item) → Middle (instr_item slot i)
middle slot (push x) = (omega arith, omega arith)
middle slot (fetch j) = (omega arith, omega arith)
middle slot clock = (omega arith, omega arith)
middle slot negate = (omega arith, omega arith)
middle slot (apply_two o) = middle_two o
middle slot (apply_three o) = middle_three o

-- the kinds that set a slot or a derivative are others
abbrev pub Setting : ℕ → Type 0
Setting k = (k ≤ 2) ⊎ (13 ≤ k)

pub sets_constant : Setting kind_constant
sets_constant = inl (omega arith)

pub sets_initial : Setting kind_initial
sets_initial = inl (omega arith)

pub sets_store : Setting kind_store
sets_store = inr (omega arith)

pub sets_rate : Setting kind_rate
sets_rate = inr (omega arith)

pub sets_again : Setting kind_again
sets_again = inr (omega arith)

-- the last record of an equation
abbrev pub last_rec : List Def → Equation → Rec
last_rec ds e = rec e.line (last_instr ds e.target (slot_in ds e.key))

-- ---- records of a kind and a slot

-- a record is one of its own kind and slot
pub own_record : (r : Rec) → records_for (kind_of r.instr) (operand_of r.instr) (r ∷ []) ≡ r ∷ []
unfolding records_for
own_record r =
    rw (eq-eqb (kind_of r.instr) (kind_of r.instr) refl, eq-eqb (operand_of r.instr) (operand_of r.instr) refl)

module _ (k s : ℕ) where
  -- of two rows
  pub for_append : (x y : List Rec) → records_for k s (x ++ y) ≡ records_for k s x ++ records_for k s y
  unfolding records_for
  for_append [] y = refl
  for_append (r ∷ x) y = go (is_for k s r) (for_append x y)
    where
      go : {z : List Rec} (b : Bool) → z ≡ records_for k s x ++ records_for k s y
          → cond b (r ∷ z) z ≡ cond b (r ∷ records_for k s x) (records_for k s x) ++ records_for k s y
      go true e = ap (λ z. r ∷ z) e
      go false e = e

  -- of each part of a row
  pub for_concat : {A : Type 0} (f : A → List Rec) (l : List A)
      → records_for k s (concat_map f l) ≡ concat_map (λ (a : A). records_for k s (f a)) l
  unfolding concat_map records_for
  for_concat f [] = refl
  for_concat f (a ∷ l) = for_append (f a) (concat_map f l) ∙ ap (λ r. records_for k s (f a) ++ r) (for_concat f l)

  -- a record of another kind, or of another slot, is none
  pub other_kind : (r : Rec) → (kind_of r.instr ≡ k → ⊥) → records_for k s (r ∷ []) ≡ []
  unfolding records_for
  other_kind r h = rw (ne_eqb (kind_of r.instr) k h)

  -- nor is one of another slot
  pub other_slot : (r : Rec) → (operand_of r.instr ≡ s → ⊥) → records_for k s (r ∷ []) ≡ []
  unfolding records_for
  other_slot r h = rw (ne_eqb (operand_of r.instr) s h) (go (eqb (kind_of r.instr) k))
    where
      go : (b : Bool) → cond (b && false) (r ∷ []) [] ≡ []
      go true = refl
      go false = refl

  -- ---- of an equation

  -- an expression's records set nothing
  for_items : (slot : ℕ → ℕ) (l : ℕ) → Setting k → (is : List Item)
      → records_for k s (map (rec l) (map (instr_item slot) is)) ≡ []
  unfolding records_for
  for_items slot l c [] = refl
  for_items slot l c (i ∷ is) =
      let m = middle slot i in
      let h : kind_of (instr_item slot i) ≡ k → ⊥ = λ e. ⊎_elim (λ z. omega arith) (λ z. omega arith) c in
      for_append (rec l (instr_item slot i) ∷ []) (map (rec l) (map (instr_item slot) is))
      ∙ ap₂ ◌++◌ (other_kind (rec l (instr_item slot i)) h) (for_items slot l c is)

  -- of an equation's records the last alone sets something
  pub for_equation : (ds : List Def) (e : Equation) → Setting k
      → records_for k s (equation_recs ds e) ≡ records_for k s (last_rec ds e ∷ [])
  for_equation ds e c =
      let items = map (instr_item (slot_in ds)) (postfix e.tree) in
      let last = last_instr ds e.target (slot_in ds e.key) in
      ap (records_for k s) (map_append (rec e.line) items (last ∷ []))
      ∙ for_append (map (rec e.line) items) (last_rec ds e ∷ [])
      ∙ ap (λ r. r ++ records_for k s (last_rec ds e ∷ [])) (for_items (slot_in ds) e.line c (postfix e.tree))

  -- ---- what has another slot adds none
  pub other_constant : (ds : List Def) (d : Def) (w : What) → (slot_in ds d.key ≡ s → ⊥)
      → records_for k s (constant_recs ds d w) ≡ []
  unfolding records_for
  other_constant ds d (constant x) h = other_slot (rec d.line (Constant (slot_in ds d.key) x)) h
  other_constant ds d assigned h = refl
  other_constant ds d hidden h = refl
  other_constant ds d (integral i) h = refl

  -- nor does its initial
  pub other_initial : (ds : List Def) (d : Def) (w : What) → (slot_in ds d.key ≡ s → ⊥)
      → records_for k s (initial_recs ds d w) ≡ []
  unfolding records_for
  other_initial ds d (constant x) h = refl
  other_initial ds d assigned h = refl
  other_initial ds d hidden h = refl
  other_initial ds d (integral i) h = other_slot (rec d.line (Initial (slot_in ds d.key) (initial_value ds i))) h

  -- nor does an equation's last record
  pub other_last : (ds : List Def) (e : Equation) → (slot_in ds e.key ≡ s → ⊥)
      → records_for k s (last_rec ds e ∷ []) ≡ []
  other_last ds e h = go e.target
    where
      go : (t : Target) → records_for k s (rec e.line (last_instr ds t (slot_in ds e.key)) ∷ []) ≡ []
      go stores = other_slot (rec e.line (Store (slot_in ds e.key))) h
      go restores = other_slot (rec e.line (StoreAgain (slot_in ds e.key))) h
      go rates = other_slot (rec e.line (Deriv (slot_in ds e.key))) h
