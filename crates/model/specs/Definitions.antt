-- The definitions of a text's units, their slots, and the units that are ordered.
use Rattle.std.specs.Prelude.{ℕ, suc, cond, List, [], ◌∷◌, map, eqb, length, get_or, Float}
use Rattle.laws.specs.Lists.{concat_map}
use Rattle.drafts.specs.Tree.{Constant, Initial}
use Rattle.blocks.specs.Units.{Single, constants, assignment, state, Sets, given, own, anew, TextUnit, Stood, alone}
use Rattle.blocks.specs.Units.{heading, inner, closing, Stated, stated_in, OrderUnit, order_unit, order_units}

-- what a name is: a constant with its value; assigned, by a statement or as an output of a block; a block's own; or a
-- state with its initial
pub data What : Type 0 where
  constant : Float → What
  assigned hidden : What
  integral : Initial → What

-- a definition: the number of its statement, the name's key, what the name is
pub record Def : Type 0 where
  pub line : ℕ
  pub key : ℕ
  pub what : What

abbrev pub defined : ℕ → ℕ → What → Def
defined l k w = record { line = l; key = k; what = w }

-- what a single statement defines
abbrev pub defined_alone : ℕ → Single → List Def
defined_alone l (constants cs) = map (λ (c : Constant). defined l c.key (constant c.worth)) cs
defined_alone l (assignment k e) = defined l k assigned ∷ []
defined_alone l (state k i e) = defined l k (integral i) ∷ []

-- inside a block a name's first setting is its definition
abbrev pub defined_inside : ℕ → ℕ → Sets → List Def
defined_inside l k given = defined l k assigned ∷ []
defined_inside l k own = defined l k hidden ∷ []
defined_inside l k anew = []

-- what a statement defines
abbrev pub defined_by : ℕ → Stood → List Def
defined_by l (alone x) = defined_alone l x
defined_by l (heading os is) = []
defined_by l (inner k e s) = defined_inside l k s
defined_by l closing = []

-- the definitions of the statements of the units, in text order
abbrev pub definitions : List TextUnit → List Def
definitions us = concat_map (λ (t : Stated). defined_by t.line t.stood) (stated_in us)

abbrev pub keys : List Def → List ℕ
keys ds = map (λ (d : Def). d.key) ds

-- the place of k in a list, the list's length where it does not stand there
unfoldable pub place_in : ℕ → List ℕ → ℕ
place_in k [] = 0
place_in k (a ∷ l) =
    let r = suc (place_in k l) in
    cond (eqb k a) 0 r

-- slot 0 is TIME; names take 1, 2, .. in the order of their definitions
abbrev pub slot_in : List Def → ℕ → ℕ
slot_in ds k = suc (place_in k (keys ds))

-- ---- the units of the order, in text order
abbrev pub no_unit : OrderUnit
no_unit = order_unit 0 [] [] []

abbrev pub unit_at : List TextUnit → ℕ → OrderUnit
unit_at us i = get_or (order_units us) i no_unit

abbrev pub unit_count : List TextUnit → ℕ
unit_count us = length (order_units us)
