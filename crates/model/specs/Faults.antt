-- Model faults, at most one per statement. Known without order: TIME, constants, states.
use Rattle.std.specs.Prelude.{ℕ, Bool, true, false, ◌||◌, List, [], ◌∷◌, ◌++◌}
use Rattle.laws.specs.Lists.{concat_map, numbers}
use Rattle.laws.specs.Counts.{has}
use Rattle.drafts.specs.Tree.{names, Initial, plain, from}
use Rattle.sheet.specs.Sheet.{Fault}
use Rattle.blocks.specs.Tests.{fault_if, or_else, again, within}
use Rattle.blocks.specs.Units.{Single, constants, assignment, state, UnitBody, single, block, TextUnit, Stated}
use Rattle.blocks.specs.Units.{stated_in}
use Rattle.order.specs.Order.{Good, unsortable}
use Rattle.order.specs.Greedy.{order}
use Rattle.model.specs.Definitions.{What, constant, assigned, hidden, integral, Def, defined_by, definitions, keys}
use Rattle.model.specs.Definitions.{unit_at, unit_count}

-- ---- 21: defines a name already defined by an earlier statement, or earlier in itself

unfoldable pub faults21 : List ℕ → List Stated → List Fault
faults21 seen [] = []
faults21 seen (t ∷ ts) =
    let ks = keys (defined_by t.line t.stood) in
    fault_if (again seen ks) t.line 21 ++ faults21 (seen ++ ks) ts

-- ---- 22: its expression or its initial names what nothing defines, or a block's header an input. 23: its initial name
-- is defined, but isn't a constant. 22 comes before 23. These go by units: inside a block nothing is sought

abbrev pub initial_names : Initial → List ℕ
initial_names (plain x) = []
initial_names (from k) = k ∷ []

-- what a single statement names, in its initial and in its expression
abbrev pub named_alone : Single → List ℕ
named_alone (constants cs) = []
named_alone (assignment k e) = names e
named_alone (state k i e) = initial_names i ++ names e

abbrev pub initial_alone : Single → List ℕ
initial_alone (constants cs) = []
initial_alone (assignment k e) = []
initial_alone (state k i e) = initial_names i

-- what a unit names, and the name of its initial
abbrev pub named_by : UnitBody → List ℕ
named_by (single x) = named_alone x
named_by (block os is ns z) = is

abbrev pub initial_of : UnitBody → List ℕ
initial_of (single x) = initial_alone x
initial_of (block os is ns z) = []

-- a name that is known outside blocks: not a block's own
abbrev pub outside_key : ℕ → What → List ℕ
outside_key k (constant x) = k ∷ []
outside_key k assigned = k ∷ []
outside_key k hidden = []
outside_key k (integral i) = k ∷ []

abbrev pub outside_keys : List Def → List ℕ
outside_keys ds = concat_map (λ (d : Def). outside_key d.key d.what) ds

abbrev pub constant_key : ℕ → What → List ℕ
constant_key k (constant x) = k ∷ []
constant_key k assigned = []
constant_key k hidden = []
constant_key k (integral i) = []

-- the names of the constants
abbrev pub constant_keys : List Def → List ℕ
constant_keys ds = concat_map (λ (d : Def). constant_key d.key d.what) ds

-- by whether all names are defined, and whether the initial name is a constant
abbrev pub name_fault : Bool → Bool → ℕ → List Fault
name_fault false b l = fault_if true l 22
name_fault true false l = fault_if true l 23
name_fault true true l = []

abbrev pub name_fault_of : List Def → TextUnit → List Fault
name_fault_of ds u =
    name_fault (within (named_by u.body) (outside_keys ds)) (within (initial_of u.body) (constant_keys ds)) u.line

abbrev pub name_faults : List Def → List TextUnit → List Fault
name_faults ds us = concat_map (name_fault_of ds) us

-- ---- 24: unsortable. A unit uses another if it reads a name which that one assigns

-- one of the first list stands in the second
unfoldable pub meets : List ℕ → List ℕ → Bool
meets [] l = false
meets (k ∷ ks) l = has k l || meets ks l

abbrev pub uses_in : List TextUnit → ℕ → ℕ → Bool
uses_in us i j = meets (unit_at us j).assigns (unit_at us i).reads

-- with n units, a chain of n + 1 of them starts at this one, each using the next
abbrev pub fault24 : List TextUnit → ℕ → List Fault
fault24 us i = fault_if (unsortable (unit_count us) (uses_in us) i) (unit_at us i).line 24

abbrev pub faults24 : List TextUnit → List Fault
faults24 us = concat_map (fault24 us) (numbers (unit_count us) 0)

-- ---- 22 and 23 are sought only if no 21 stands; 24 only if none of them stands

unfoldable pub model_faults : List TextUnit → List Fault
model_faults us =
    or_else (faults21 [] (stated_in us)) (or_else (name_faults (definitions us) us) (faults24 us))

-- ---- the order of the units. Constants take no part in it

-- each after all it uses
abbrev pub GoodOrder : List TextUnit → List ℕ → Type 0
GoodOrder us q = Good (unit_count us) (uses_in us) q

-- the first of all good orders (law `order_is_first` of crate order)
abbrev pub order_of : List TextUnit → List ℕ
order_of us = order (unit_count us) (uses_in us)
