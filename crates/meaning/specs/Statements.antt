-- What the units of a text mean: what evaluating, starting and stepping must leave. us are the units, each with its
-- number and what it is. This knows nothing of definitions, of records or of the machine that runs them.
use Rattle.std.specs.Prelude.{ℕ, suc, ◌<◌, ◌≡◌, ◌⊎◌, length, get_or, set, Float}
use mathlib.Core.List.{List, [], ◌∷◌, map, Memᴰ}
use Rattle.std.specs.Float.{nan, binary64}
use Rattle.std.specs.Float.Ieee.{add, mul}
use Rattle.laws.specs.Lists.{concat_map}
use Rattle.laws.specs.Every.{Every}
use Rattle.drafts.specs.Tree.{Tree, Constant, constant_of, Initial, plain, from}
use Rattle.blocks.specs.Units.{Single, constants, assignment, state, Sets, given, own, anew, Inner, UnitBody, single}
use Rattle.blocks.specs.Units.{block, TextUnit}
use Rattle.model.specs.Definitions.{place_in}
use Rattle.meaning.specs.Meaning.{nought, value_of}

-- ---- names and slots

-- the names that a single statement defines, from left to right
abbrev pub names_alone : Single → List ℕ
names_alone (constants cs) = map (λ (c : Constant). c.key) cs
names_alone (assignment k e) = k ∷ []
names_alone (state k i e) = k ∷ []

-- inside a block a name is defined where it is set first
abbrev pub name_inside : Sets → ℕ → List ℕ
name_inside given k = k ∷ []
name_inside own k = k ∷ []
name_inside anew k = []

-- those of a unit, and those of all units, in text order
abbrev pub names_set : UnitBody → List ℕ
names_set (single x) = names_alone x
names_set (block os is ns z) = concat_map (λ (n : Inner). name_inside n.sets n.key) ns

abbrev pub names_of : List TextUnit → List ℕ
names_of us = concat_map (λ (u : TextUnit). names_set u.body) us

-- slot 0 is TIME; names take 1, 2, .. in the order of their definitions
abbrev pub slot_among : List ℕ → ℕ → ℕ
slot_among ns k = suc (place_in k ns)

abbrev pub slot_of : List TextUnit → ℕ → ℕ
slot_of us = slot_among (names_of us)

-- y is the value of an initial: a number is itself; a name is resolved, to the value that a pair of a constants
-- statement gives it
abbrev pub Resolves : List TextUnit → Initial → Float → Type 0
Resolves us (plain x) y = y ≡ x
Resolves us (from k) y =
    (u : TextUnit) × (cs : List Constant) × Memᴰ u us × (u.body ≡ single (constants cs))
    × Memᴰ (constant_of k y) cs

-- ---- what is asked of a unit with number l, by what it is: of each pair of its constants; of an assignment, its name
-- and its expression; of a state, its name, its initial and its expression; of a block, what stands inside
module _ (C : ℕ → Constant → Type 0) (A : ℕ → ℕ → Tree → Type 0) (S : ℕ → ℕ → Initial → Tree → Type 0)
    (B : List Inner → Type 0) where
  abbrev pub AskedAlone : ℕ → Single → Type 0
  AskedAlone l (constants cs) = Every (C l) cs
  AskedAlone l (assignment k e) = A l k e
  AskedAlone l (state k i e) = S l k i e

  abbrev pub Asked : ℕ → UnitBody → Type 0
  Asked l (single x) = AskedAlone l x
  Asked l (block os is ns z) = B ns

  -- of each unit
  abbrev pub EachAsked : List TextUnit → Type 0
  EachAsked us = Every (λ (u : TextUnit). Asked u.line u.body) us

-- ---- a block's assignments carried out one after the other, from the values v
unfoldable pub carried : (ℕ → ℕ) → List Inner → List Float → List Float
carried slot [] v = v
carried slot (n ∷ ns) v = carried slot ns (set v (slot n.key) (value_of slot v n.tree))

-- ---- evaluating: v and d are the values and the derivatives before it, v' and d' those after it
module _ (slot : ℕ → ℕ) (v d v' d' : List Float) where
  -- a constant's slot holds its value. No derivative changes but a state's
  abbrev pub ConstantHolds : ℕ → Constant → Type 0
  ConstantHolds l c = (get_or v' (slot c.key) nan ≡ c.worth)
      × (get_or d' (slot c.key) nan ≡ get_or d (slot c.key) nan)

  -- an assigned slot the value of its expression over the final values
  abbrev pub AssignmentHolds : ℕ → ℕ → Tree → Type 0
  AssignmentHolds l k e =
      (get_or v' (slot k) nan ≡ value_of slot v' e) × (get_or d' (slot k) nan ≡ get_or d (slot k) nan)

  -- a state's slot what it held, and its derivative the value of its expression over the final values
  abbrev pub StateHolds : ℕ → ℕ → Initial → Tree → Type 0
  StateHolds l k i e = (get_or v' (slot k) nan ≡ get_or v (slot k) nan) × (get_or d' (slot k) nan ≡ value_of slot v' e)

  -- a block's slots what its assignments leave when carried out one after the other over the final values
  abbrev pub BlockHolds : List Inner → Type 0
  BlockHolds ns =
      Every (λ (n : Inner). (get_or v' (slot n.key) nan ≡ get_or (carried slot ns v') (slot n.key) nan)
      × (get_or d' (slot n.key) nan ≡ get_or d (slot n.key) nan)) ns

-- of every place of both buffers: each unit holds; TIME and the places behind the last name's stay
pub record Solution (us : List TextUnit) (v d v' d' : List Float) : Type 0 where
  pub long : (length v' ≡ length v) × (length d' ≡ length d)
  pub each : let slot = slot_of us in
      EachAsked (ConstantHolds slot v d v' d') (AssignmentHolds slot v d v' d') (StateHolds slot v d v' d')
      (BlockHolds slot v d v' d') us
  pub rest : (p : ℕ) → (p ≡ 0) ⊎ (length (names_of us) < p)
      → (get_or v' p nan ≡ get_or v p nan) × (get_or d' p nan ≡ get_or d p nan)

-- ---- starting: v are the values before it, v' those after it

-- a state's slot gets its initial value; any other slot stays
pub record Beginning (us : List TextUnit) (v v' : List Float) : Type 0 where
  pub long : length v' ≡ length v
  pub clock : get_or v' 0 nan ≡ nought
  pub each : let slot = slot_of us in
      EachAsked (λ l c. get_or v' (slot c.key) nan ≡ get_or v (slot c.key) nan)
      (λ l k e. get_or v' (slot k) nan ≡ get_or v (slot k) nan)
      (λ l k i e. Resolves us i (get_or v' (slot k) nan))
      (Every (λ (n : Inner). get_or v' (slot n.key) nan ≡ get_or v (slot n.key) nan)) us
  pub rest : (p : ℕ) → length (names_of us) < p → get_or v' p nan ≡ get_or v p nan

-- ---- a step of h: u and d are the values and the derivatives that evaluating left, v' the values after the step

-- a state's slot gets x + h times its derivative, the product rounded and then the sum; TIME gets itself + h; any other
-- slot stays
pub record Stepping (us : List TextUnit) (h : Float) (u d v' : List Float) : Type 0 where
  pub long : length v' ≡ length u
  pub clock : get_or v' 0 nan ≡ add binary64 (get_or u 0 nan) h
  pub each : let slot = slot_of us in
      EachAsked (λ l c. get_or v' (slot c.key) nan ≡ get_or u (slot c.key) nan)
      (λ l k e. get_or v' (slot k) nan ≡ get_or u (slot k) nan)
      (λ l k i e. get_or v' (slot k) nan
      ≡ add binary64 (get_or u (slot k) nan) (mul binary64 h (get_or d (slot k) nan)))
      (Every (λ (n : Inner). get_or v' (slot n.key) nan ≡ get_or u (slot n.key) nan)) us
  pub rest : (p : ℕ) → length (names_of us) < p → get_or v' p nan ≡ get_or u p nan
