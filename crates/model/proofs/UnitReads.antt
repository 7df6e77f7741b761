-- What is read at a unit and at a draft: whether it is one of the order, what it assigns, what it uses.
use Prim.Native.Nat.{ℕ, suc, ◌+◌, ◌-◌, ◌≤◌, ◌<◌}
use mathlib.Core.Path.{◌≡◌, refl, sym, ap, ap₂, ◌∙◌}
use mathlib.Core.Bool.{Bool, true, false}
use mathlib.Core.Logic.{⊎_elim}
use mathlib.Core.List.{List, [], ◌∷◌, append-nil}
use native.Mathlib.Numerals.{add-one}
use native.Mathlib.Omega.{arith}
use borrow.Author.Tests.{eq-eqb, ne_eqb, lt-ltb, le-ltb}
use lib.ListN.{length, get_or, set, length-set}
use lib.Seq.{sets}
use Rattle.laws.specs.Places.{gather, only_if}
use Rattle.laws.proofs.Tests.{lt_or_ge}
use Rattle.laws.proofs.Gathers.{Writes, writes_first, writes_next, whole_count, whole_all}
use Rattle.drafts.specs.Kinds.{kind_store, kind_output, is_use, closes}
use Rattle.drafts.specs.Places.{begins, ends, last_kind}
use Rattle.laws.specs.Put.{Put}
use Rattle.model.specs.Places.{is_ordered, output_slots, assigned_by}
use Rattle.model.specs.Working.{noted, used_here}
use Rattle.model.proofs.SlotOwners.{noted_append}
use Rattle.model.proofs.DefinitionsCollected.{only_length, put_one, put_unless}

module _ (bounds kinds : List ℕ) (j : ℕ) where
  -- the kind of the last draft, as it was read
  pub last_kind_holds : {kind last : ℕ} → kind ≡ get_or kinds last 0 → last ≡ ends bounds j - 1
      → kind ≡ last_kind bounds kinds j
  last_kind_holds k l = k ∙ ap (λ (i : ℕ). get_or kinds i 0) l

  -- a unit without drafts is none of the order
  pub ordered_empty : {a b : ℕ} → a ≡ begins bounds j → b ≡ ends bounds j → b ≤ a → false ≡ is_ordered bounds kinds j
  ordered_empty p q h = rw (le-ltb (begins bounds j) (ends bounds j) (omega arith))

  -- any other is one by its last draft
  pub ordered_last : {a b : ℕ} {t : Bool} → a ≡ begins bounds j → b ≡ ends bounds j → a < b
      → t ≡ closes (last_kind bounds kinds j) → t ≡ is_ordered bounds kinds j
  ordered_last p q h e = rw (lt-ltb (begins bounds j) (ends bounds j) (omega arith)) e

  -- the outputs in front and the store at the end, or the outputs alone
  module _ (slots : List ℕ) (v : ℕ) (owners : List ℕ) {kind a b : ℕ} {owners' : List ℕ}
      (k : kind ≡ last_kind bounds kinds j) (p : a ≡ begins bounds j) (q : b ≡ ends bounds j)
      (o : owners' ≡ noted (output_slots kinds slots (b - a) a) v owners) where
    fronted : owners' ≡ noted (output_slots kinds slots (ends bounds j - begins bounds j) (begins bounds j)) v owners
    fronted = o ∙ ap₂ (λ (x y : ℕ). noted (output_slots kinds slots (y - x) x) v owners) p q

    pub assigned_store : {s last : ℕ} {owners'' : List ℕ} → kind ≡ kind_store → s ≡ get_or slots last 0
        → last ≡ ends bounds j - 1 → owners'' ≡ set owners' s v
        → owners'' ≡ noted (assigned_by bounds kinds slots j) v owners
    unfolding noted
    assigned_store {s} {last} {owners''} e m l w =
        let slot : s ≡ get_or slots (ends bounds j - 1) 0 = m ∙ ap (λ (i : ℕ). get_or slots i 0) l in
        rw (
          eq-eqb (last_kind bounds kinds j) kind_store (sym k ∙ e),
          noted_append (output_slots kinds slots (ends bounds j - begins bounds j) (begins bounds j)) (_ ∷ []) v owners,
        ) (w ∙ ap₂ (λ (x : List ℕ) (y : ℕ). set x y v) fronted slot)

    pub assigned_none : (kind ≡ kind_store → ⊥) → owners' ≡ noted (assigned_by bounds kinds slots j) v owners
    assigned_none n =
        let front = output_slots kinds slots (ends bounds j - begins bounds j) (begins bounds j) in
        rw (ne_eqb (last_kind bounds kinds j) kind_store (λ e. n (k ∙ e)), append-nil front) fronted

-- ---- outputs in front noted: the loop stands at place i, before b
module _ (kinds slots : List ℕ) (from b v : ℕ) (owners₀ : List ℕ) where
  pub record Noting (i : ℕ) (owners : List ℕ) : Type 0 where
    pub long : length owners ≡ length owners₀
    pub left : noted (output_slots kinds slots (b - i) i) v owners
        ≡ noted (output_slots kinds slots (b - from) from) v owners₀

  pub noting_first : Noting from owners₀
  noting_first = record { long = refl; left = refl }

  module _ {i : ℕ} {owners : List ℕ} (n : Noting i owners) where
    -- an output
    pub noting_next : {kind s : ℕ} {owners' : List ℕ} → i < b → kind ≡ get_or kinds i 0 → kind ≡ kind_output
        → s ≡ get_or slots i 0 → owners' ≡ set owners s v → Noting (i + 1) owners'
    unfolding output_slots noted
    noting_next {kind} {s} {owners'} h k e m w =
        let more : b - i ≡ suc (b - (i + 1)) = omega arith in
        let stored : owners' ≡ set owners (get_or slots i 0) v = w ∙ ap (λ (x : ℕ). set owners x v) m in
        let step : noted (output_slots kinds slots (b - i) i) v owners
        ≡ noted (output_slots kinds slots (b - (i + 1)) (i + 1)) v owners' =
        rw (more, eq-eqb (get_or kinds i 0) kind_output (sym k ∙ e), add-one i, stored) in
        record { long = ap length w ∙ length-set owners s v ∙ n.long; left = sym step ∙ n.left }

    -- none: the last
    pub noting_stop : {kind : ℕ} → i < b → kind ≡ get_or kinds i 0 → (kind ≡ kind_output → ⊥)
        → owners ≡ noted (output_slots kinds slots (b - from) from) v owners₀
    unfolding output_slots noted
    noting_stop h k e =
        let more : b - i ≡ suc (b - (i + 1)) = omega arith in
        let none : noted (output_slots kinds slots (b - i) i) v owners ≡ owners =
        rw (more, ne_eqb (get_or kinds i 0) kind_output (λ z. e (k ∙ z))) in
        sym none ∙ n.left

    -- the end
    pub noting_last : b ≤ i → owners ≡ noted (output_slots kinds slots (b - from) from) v owners₀
    unfolding output_slots noted
    noting_last h =
        let done : b - i ≡ 0 = omega arith in
        let none : noted (output_slots kinds slots (b - i) i) v owners ≡ owners = rw done in
        sym none ∙ n.left

-- ---- what a draft uses: nothing, for it is no use; nothing, for no unit assigns the name; the unit that does
module _ (owners : List ℕ) (kind slot w : ℕ) {t : Bool} (u : t ≡ is_use kind) where
  pub use_other : (used : List ℕ) → t ≡ false → Put (used_here owners kind slot) w w used used
  use_other used f = rw (sym u ∙ f) (record { behind = omega arith; written = refl })

  module _ {owner : ℕ} (e : t ≡ true) (o : owner ≡ get_or owners slot 0) where
    pub use_none : (used : List ℕ) → owner ≡ 0 → Put (used_here owners kind slot) w w used used
    use_none used z = rw (sym u ∙ e) (put_unless _ _ w used (le-ltb 0 (get_or owners slot 0) (omega arith)))

    pub use_one : {used used' : List ℕ} → (owner ≡ 0 → ⊥) → used' ≡ set used w (owner - 1)
        → Put (used_here owners kind slot) w (w + 1) used used'
    use_one {used} {used'} n c =
        let some : 0 < get_or owners slot 0 = omega (arith, lt_or_zero) in
        rw (sym u ∙ e)
        (put_one _ _ w (lt-ltb 0 (get_or owners slot 0) some) (c ∙ ap (λ (x : ℕ). set used w (x - 1)) o))
      where
        lt_or_zero : 0 < owner
        lt_or_zero =
            ⊎_elim (λ (l : 0 < owner). l) (λ (g : owner ≤ 0). absurd (n (let z : owner ≡ 0 = omega arith in z)))
            (lt_or_ge 0 owner)

-- ---- the numbers at which a test holds, listed: the loop stands at j, with c of them written
pub record Listing (f : ℕ → Bool) (n j c : ℕ) (equated₀ equated : List ℕ) : Type 0 where
  pub within : j ≤ n
  pub few : c ≤ j
  pub written : Writes (λ i. only_if (f i) i) n 0 j 0 c equated₀ equated

pub listing_first : (f : ℕ → Bool) (n : ℕ) (equated : List ℕ) → Listing f n 0 0 equated equated
listing_first f n equated =
    record { within = omega arith; few = omega arith; written = writes_first (λ i. only_if (f i) i) n 0 0 equated }

module _ {f : ℕ → Bool} {n j c : ℕ} {equated₀ equated : List ℕ} (v : Listing f n j c equated₀ equated) where
  pub listing_next : {b : Bool} {r : ℕ} {equated' : List ℕ} → j < n → b ≡ f j → Put (only_if b j) c r equated equated'
      → Listing f n (j + 1) r equated₀ equated'
  listing_next {b} {r} {equated'} h e put =
      let behind : r ≡ c + length (only_if (f j) j) = put.behind ∙ ap (λ (t : Bool). c + length (only_if t j)) e in
      let content : equated' ≡ sets equated c (only_if (f j) j) =
      put.written ∙ ap (λ (t : Bool). sets equated c (only_if t j)) e in
      record {
        within = omega arith;
        few = omega (arith, v.few, behind, only_length (f j) j);
        written = writes_next v.written h r equated' behind content;
      }

  pub listing_last : n ≤ j → Put (gather (λ i. only_if (f i) i) n 0) 0 c equated₀ equated
  listing_last h = record { behind = omega (arith, whole_count v.written h); written = whole_all v.written h }
