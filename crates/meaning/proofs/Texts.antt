-- What is known of the statements of a text that have no fault: their numbers are doubles, and the stack's places
-- suffice for them.
use Prim.Native.Nat.{ℕ, ◌≤◌}
use mathlib.Core.List.{List, [], ◌∷◌, ◌++◌, map}
use Rattle.laws.specs.Lists.{concat_map}
use Rattle.laws.specs.Every.{Every}
use Rattle.laws.proofs.Every.{every_append, every_anywhere, every_all, every_map, every_concat, every_mapped}
use Rattle.laws.proofs.Concats.{concat_concat}
use Rattle.limits.specs.Limits.{stack_places}
use Rattle.tokens.specs.Symbol.{Symbol, mark, number, name, word}
use Rattle.tokens.specs.Row.{row_of, symbols}
use Rattle.tokens.proofs.Rows.{Fine, symbols_fine}
use Rattle.drafts.specs.Tree.{Tree, Constant, Says, constants as constants_said, assignment as assignment_said}
use Rattle.drafts.specs.Tree.{state as state_said, header, ending}
use Rattle.drafts.specs.Items.{peak, peak_of}
use Rattle.grammar.proofs.Stack.{suffices}
use Rattle.sheet.specs.Sheet.{says, Numbered, said}
use Rattle.sheet.specs.Reader.{sheet_of}
use Rattle.blocks.specs.Units.{Single, constants, assignment, state, Sets, given, own, anew, Inner, UnitBody, single}
use Rattle.blocks.specs.Units.{block, TextUnit, closing, Stated, stated, stated_inner, stated_by, Equation, OrderUnit}
use Rattle.blocks.specs.Units.{inner_equation, order_unit_of, order_units}
use Rattle.blocks.specs.Members.{Pending, idle, partly, inner_of, units_by, pending_by, units_from}
use Rattle.model.specs.Definitions.{What, constant, assigned, hidden, integral, Def, defined_alone, defined_inside}
use Rattle.model.specs.Definitions.{defined_by, definitions, no_unit, unit_at}
use Rattle.model.specs.Text.{text_units}
use Rattle.records.specs.Proper.{Double}
use Rattle.meaning.proofs.Rows.{every_member}
use Rattle.meaning.proofs.EachSaid.{each_said}
use Rattle.meaning.proofs.Numbers.{DoubleToken, Doubles, DoubleInitial, DoubleSays, double_says}

-- ---- rows of tokens

-- a number that is fine is a double
fine_double : (t : Symbol) → Fine t → DoubleToken t
fine_double (mark b) h = tt
fine_double (number x) h = h.1
fine_double (name k) h = tt
fine_double (word w) h = tt

-- so is each number of a row
row_doubles : (s : List ℕ) → Every DoubleToken (symbols (row_of s).tokens)
row_doubles s = every_member DoubleToken (symbols (row_of s).tokens) (λ t m. fine_double t (symbols_fine s t m))

-- ---- statements

-- the numbers are doubles and the stack's places suffice
abbrev pub Fits : Says → Type 0
Fits x = DoubleSays x × (peak_of x ≤ stack_places)

-- EACH STATEMENT of a text
text_fits : (text : List ℕ) → Every (λ (s : Numbered). Fits s.says) (said (sheet_of text))
text_fits = each_said Fits (λ s x a. (double_says a (row_doubles s), suffices a))

-- ---- units, definitions and equations

-- of an expression
abbrev pub FitsTree : Tree → Type 0
FitsTree e = Doubles e × (peak e ≤ stack_places)

-- of a single statement
abbrev FitsAlone : Single → Type 0
FitsAlone (constants cs) = Every (λ (c : Constant). Double c.worth) cs
FitsAlone (assignment k e) = FitsTree e
FitsAlone (state k i e) = DoubleInitial i × FitsTree e

-- of a unit
abbrev FitsUnit : UnitBody → Type 0
FitsUnit (single x) = FitsAlone x
FitsUnit (block os is ns z) = Every (λ (n : Inner). FitsTree n.tree) ns

abbrev pub FitsUnits : List TextUnit → Type 0
FitsUnits us = Every (λ (u : TextUnit). FitsUnit u.body) us

-- of what a name is
abbrev pub FitsWhat : What → Type 0
FitsWhat (constant x) = Double x
FitsWhat assigned = Unit {0}
FitsWhat hidden = Unit {0}
FitsWhat (integral i) = DoubleInitial i

-- of each definition
abbrev FitsDef : Def → Type 0
FitsDef d = FitsWhat d.what

abbrev pub FitsAll : List Def → Type 0
FitsAll ds = Every FitsDef ds

-- of each equation of a row
abbrev pub FitsRow : List Equation → Type 0
FitsRow es = Every (λ (e : Equation). FitsTree e.tree) es

-- of what has been read of a block
abbrev FitsInner : Inner → Type 0
FitsInner n = FitsTree n.tree

abbrev FitsPending : Pending → Type 0
FitsPending idle = Unit {0}
FitsPending (partly h os is ns) = Every FitsInner ns

-- of the units behind what has been read of a block
units_from_holds : (p : Pending) (ss : List Numbered) → FitsPending p → Every (λ (s : Numbered). Fits s.says) ss
    → FitsUnits (units_from p ss)
unfolding units_from
units_from_holds p [] i h = tt
units_from_holds p (s ∷ ss) i h = step (λ q j. units_from_holds q ss j h.1) p s.says i h.0
  where
    l : ℕ
    l = s.line

    step : ((q : Pending) → FitsPending q → FitsUnits (units_from q ss)) → (q : Pending) (x : Says) → FitsPending q
        → Fits x → FitsUnits (units_by q l x ++ units_from (pending_by q l x) ss)
    step on idle (constants_said cs) j f = (f.0, on idle tt)
    step on idle (assignment_said k e) j f = (f, on idle tt)
    step on idle (state_said k i e) j f = ((f.0.0, (f.0.1, f.1)), on idle tt)
    step on idle (header os is) j f = on (partly l os is []) tt
    step on idle ending j f = on idle tt
    step on (partly m os is ns) (constants_said cs) j f = on (partly m os is ns) j
    step on (partly m os is ns) (assignment_said k e) j f =
        on (partly m os is (ns ++ (inner_of os ns l k e ∷ [])))
        (every_append FitsInner ns (inner_of os ns l k e ∷ []) j (f, tt))
    step on (partly m os is ns) (state_said k i e) j f = on (partly m os is ns) j
    step on (partly m os is ns) (header os' is') j f = on (partly l os' is' []) tt
    step on (partly m os is ns) ending j f = (j, on idle tt)

-- EACH UNIT of a text
pub units_fit : (text : List ℕ) → FitsUnits (text_units text)
units_fit text = units_from_holds idle (said (sheet_of text)) tt (text_fits text)

-- what a statement inside a block defines is no constant and no state
inside_fits : (l k : ℕ) (s : Sets) → FitsAll (defined_inside l k s)
inside_fits l k given = (tt, tt)
inside_fits l k own = (tt, tt)
inside_fits l k anew = tt

-- of what a unit defines
defined_fits : (l : ℕ) (x : UnitBody) → FitsUnit x
    → FitsAll (concat_map (λ (t : Stated). defined_by t.line t.stood) (stated_by l x))
unfolding concat_map
defined_fits l (single (constants cs)) f =
    every_append FitsDef (defined_alone l (constants cs)) []
    (every_mapped (λ (c : Constant). Double c.worth) FitsDef _ (λ c h. h) cs f) tt
defined_fits l (single (assignment k e)) f = (tt, tt)
defined_fits l (single (state k i e)) f = (f.0, tt)
defined_fits l (block os is ns z) f =
    every_concat (λ (t : Stated). FitsAll (defined_by t.line t.stood)) FitsDef
    (λ (t : Stated). defined_by t.line t.stood) (λ t h. h) (map stated_inner ns ++ (stated z closing ∷ []))
    (every_append _ (map stated_inner ns) (stated z closing ∷ [])
    (every_mapped (λ (n : Inner). Unit {0}) _ stated_inner (λ n _. inside_fits n.line n.key n.sets) ns
    (every_all (λ (n : Inner). Unit {0}) (λ n. tt) ns)) (tt, tt))

-- EACH DEFINITION
pub definitions_fit : (us : List TextUnit) → FitsUnits us → FitsAll (definitions us)
definitions_fit us f =
    rw (concat_concat (λ (t : Stated). defined_by t.line t.stood)
    (λ (u : TextUnit). stated_by u.line u.body) us)
    (every_concat (λ (u : TextUnit). FitsUnit u.body) FitsDef _ (λ u h. defined_fits u.line u.body h) us f)

-- of what a unit runs
runs_fit : (l : ℕ) (x : UnitBody) → FitsUnit x → Every (λ (o : OrderUnit). FitsRow o.runs) (order_unit_of l x)
runs_fit l (single (constants cs)) f = tt
runs_fit l (single (assignment k e)) f = ((f, tt), tt)
runs_fit l (single (state k i e)) f = ((f.1, tt), tt)
runs_fit l (block os is ns z) f = (
  every_mapped (λ (n : Inner). FitsTree n.tree) (λ (e : Equation). FitsTree e.tree) inner_equation (λ n h. h) ns f,
  tt,
)

-- EACH EQUATION that runs; past the last unit none does
pub rows_fit : (us : List TextUnit) → FitsUnits us → (i : ℕ) → FitsRow (unit_at us i).runs
rows_fit us f i =
    every_anywhere (λ (o : OrderUnit). FitsRow o.runs) no_unit tt (order_units us) i
    (every_concat (λ (u : TextUnit). FitsUnit u.body) (λ (o : OrderUnit). FitsRow o.runs) _
    (λ u h. runs_fit u.line u.body h) us f)

-- THE STACK'S PLACES suffice for each equation of a text
pub text_low : (text : List ℕ) (i : ℕ)
    → Every (λ (e : Equation). peak e.tree ≤ stack_places) (unit_at (text_units text) i).runs
text_low text i =
    every_map (λ (e : Equation). FitsTree e.tree) (λ (e : Equation). peak e.tree ≤ stack_places)
    (unit_at (text_units text) i).runs (λ e h. h.1) (rows_fit (text_units text) (units_fit text) i)
