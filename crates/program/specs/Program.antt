-- The program: first all of kind 1 in text order, then all of kind 2 likewise, then each ordered unit in postfix.
use Rattle.std.specs.Prelude.{ℕ, cond, List, [], ◌∷◌, ◌++◌, map, eqb, Float}
use Rattle.std.specs.Float.{nan}
use Rattle.laws.specs.Lists.{concat_map}
use Rattle.drafts.specs.Tree.{Two, plus, minus, times, over, compar, Three, insw, limit, Initial, plain, from}
use Rattle.drafts.specs.Items.{Item, push, fetch, clock, negate, apply_two, apply_three, postfix}
use Rattle.blocks.specs.Units.{Target, stores, restores, rates, Equation, TextUnit, OrderUnit}
use Rattle.model.specs.Definitions.{What, constant, assigned, hidden, integral, Def, definitions, slot_in, unit_at}
use Rattle.records.specs.declared.Instr.{Instr}
use Rattle.records.specs.declared.Instr.TheVariants.{Constant, Initial as Start, Value, Slot, Add, Sub, Mul, Div, Neg}
use Rattle.records.specs.declared.Instr.TheVariants.{Insw, Limit, Compar, Store, Deriv, StoreAgain}
use Rattle.records.specs.Record.{Rec, rec}

-- ---- items as instructions

abbrev pub instr_two : Two → Instr
instr_two plus = Add
instr_two minus = Sub
instr_two times = Mul
instr_two over = Div
instr_two compar = Compar

abbrev pub instr_three : Three → Instr
instr_three insw = Insw
instr_three limit = Limit

-- `slot` gives each name its slot; TIME has slot 0
abbrev pub instr_item : (ℕ → ℕ) → Item → Instr
instr_item slot (push x) = Value x
instr_item slot (fetch k) = Slot (slot k)
instr_item slot clock = Slot 0
instr_item slot negate = Neg
instr_item slot (apply_two o) = instr_two o
instr_item slot (apply_three o) = instr_three o

-- ---- an initial's value: a number, or a constant's name resolved

abbrev pub constant_value : ℕ → ℕ → What → Float → Float
constant_value j k (constant x) y = cond (eqb j k) x y
constant_value j k assigned y = y
constant_value j k hidden y = y
constant_value j k (integral i) y = y

-- the value of the constant j
unfoldable pub value_in : List Def → ℕ → Float
value_in [] j = nan
value_in (d ∷ ds) j = constant_value j d.key d.what (value_in ds j)

abbrev pub initial_value : List Def → Initial → Float
initial_value ds (plain x) = x
initial_value ds (from k) = value_in ds k

module _ (ds : List Def) where
  -- kind 1, of a constant (slot, value)
  abbrev pub constant_recs : Def → What → List Rec
  constant_recs d (constant x) = rec d.line (Constant (slot_in ds d.key) x) ∷ []
  constant_recs d assigned = []
  constant_recs d hidden = []
  constant_recs d (integral i) = []

  -- kind 2, of a state (slot, value)
  abbrev pub initial_recs : Def → What → List Rec
  initial_recs d (constant x) = []
  initial_recs d assigned = []
  initial_recs d hidden = []
  initial_recs d (integral i) = rec d.line (Start (slot_in ds d.key) (initial_value ds i)) ∷ []

  -- the last record of an equation: kind 13, kind 15 of a name that is set again, or kind 14 of a state
  abbrev pub last_instr : Target → ℕ → Instr
  last_instr stores s = Store s
  last_instr restores s = StoreAgain s
  last_instr rates s = Deriv s

  -- an equation in postfix, operands left to right, with its store or derivative
  abbrev pub code : Equation → List Instr
  code e = map (instr_item (slot_in ds)) (postfix e.tree) ++ (last_instr e.target (slot_in ds e.key) ∷ [])

  abbrev pub equation_recs : Equation → List Rec
  equation_recs e = map (rec e.line) (code e)

  -- a unit: what runs, in its order
  abbrev pub unit_recs : OrderUnit → List Rec
  unit_recs u = concat_map equation_recs u.runs

-- with the units in the order q
unfoldable pub program : List TextUnit → List ℕ → List Rec
program us q =
    let ds = definitions us in
    concat_map (λ (d : Def). constant_recs ds d d.what) ds
    ++
    (concat_map (λ (d : Def). initial_recs ds d d.what) ds ++ concat_map (λ (i : ℕ). unit_recs ds (unit_at us i)) q)
