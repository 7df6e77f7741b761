-- The units of a text: single statements, and procedural blocks with the statements inside. A unit is ordered as one.
use Rattle.std.specs.Prelude.{ℕ, List, [], ◌∷◌, ◌++◌, map}
use Rattle.laws.specs.Lists.{concat_map}
use Rattle.drafts.specs.Tree.{Tree, names, Constant, Initial}

-- a single statement: constants; name = expression; name = INTGRL(initial, expression)
pub data Single : Type 0 where
  constants : List Constant → Single
  assignment : ℕ → Tree → Single
  state : ℕ → Initial → Tree → Single

-- how a statement inside a block sets its name: for the first time, an output or a name of the block's own; or anew
pub data Sets : Type 0 where
  given own anew : Sets

-- a statement inside a block, name = expression: its number, the name's key, the expression, and how the name is set
pub record Inner : Type 0 where
  pub line : ℕ
  pub key : ℕ
  pub tree : Tree
  pub sets : Sets

-- what a unit is: a single statement; a block with its outputs and its inputs, what stands inside, and the number of
-- its
-- end
pub data UnitBody : Type 0 where
  single : Single → UnitBody
  block : List ℕ → List ℕ → List Inner → ℕ → UnitBody

-- a unit of a text: its number, of a block its header's, and what it is
pub record TextUnit : Type 0 where
  pub line : ℕ
  pub body : UnitBody

abbrev pub text_unit : ℕ → UnitBody → TextUnit
text_unit l b = record { line = l; body = b }

-- ---- the statements of a unit, each with its number: of a block its header, those inside, and its end
pub data Stood : Type 0 where
  alone : Single → Stood
  heading : List ℕ → List ℕ → Stood
  inner : ℕ → Tree → Sets → Stood
  closing : Stood

pub record Stated : Type 0 where
  pub line : ℕ
  pub stood : Stood

abbrev pub stated : ℕ → Stood → Stated
stated l x = record { line = l; stood = x }

abbrev pub stated_inner : Inner → Stated
stated_inner n = stated n.line (inner n.key n.tree n.sets)

abbrev pub stated_by : ℕ → UnitBody → List Stated
stated_by l (single x) = stated l (alone x) ∷ []
stated_by l (block os is ns z) = stated l (heading os is) ∷ (map stated_inner ns ++ (stated z closing ∷ []))

-- those of all units, in text order
abbrev pub stated_in : List TextUnit → List Stated
stated_in us = concat_map (λ (u : TextUnit). stated_by u.line u.body) us

-- ---- the unit of order: its number, the names it assigns, the names it reads, and what runs

-- what is done with the value of an expression: stored to the name, stored to it again, taken as the state's derivative
pub data Target : Type 0 where
  stores restores rates : Target

-- an expression that runs, and its target: the number of its statement, the name's key
pub record Equation : Type 0 where
  pub line : ℕ
  pub key : ℕ
  pub target : Target
  pub tree : Tree

abbrev pub equation : ℕ → ℕ → Target → Tree → Equation
equation l k t e = record { line = l; key = k; target = t; tree = e }

pub record OrderUnit : Type 0 where
  pub line : ℕ
  pub assigns : List ℕ
  pub reads : List ℕ
  pub runs : List Equation

abbrev pub order_unit : ℕ → List ℕ → List ℕ → List Equation → OrderUnit
order_unit l ks ns es = record { line = l; assigns = ks; reads = ns; runs = es }

-- a name's first setting stores, a later one stores again
abbrev pub target_of : Sets → Target
target_of given = stores
target_of own = stores
target_of anew = restores

abbrev pub inner_equation : Inner → Equation
inner_equation n = equation n.line n.key (target_of n.sets) n.tree

-- a single statement is a unit of one; constants take no part in the order
abbrev pub unit_of_one : ℕ → Single → List OrderUnit
unit_of_one l (constants cs) = []
unit_of_one l (assignment k e) = order_unit l (k ∷ []) (names e) (equation l k stores e ∷ []) ∷ []
unit_of_one l (state k i e) = order_unit l [] (names e) (equation l k rates e ∷ []) ∷ []

-- a block assigns its outputs and reads its inputs
abbrev pub order_unit_of : ℕ → UnitBody → List OrderUnit
order_unit_of l (single x) = unit_of_one l x
order_unit_of l (block os is ns z) = order_unit l os is (map inner_equation ns) ∷ []

abbrev pub order_units : List TextUnit → List OrderUnit
order_units us = concat_map (λ (u : TextUnit). order_unit_of u.line u.body) us
