-- The first lines of a text's units rise, so that the order is first also by the list of first lines.
use Prim.Native.Nat.{ℕ, suc, ◌≤◌, ◌<◌}
use mathlib.Core.List.{List, [], ◌∷◌, ◌++◌, map}
use native.Mathlib.Omega.{arith}
use lib.ListN.{length-map, get_or-map}
use Rattle.laws.specs.Lists.{concat_map}
use Rattle.laws.specs.Rising.{Rising}
use Rattle.laws.proofs.Rising.{rising_le, rising_lt}
use Rattle.deck.specs.Lines.{lines_of}
use Rattle.deck.specs.Reading.{Statement, fresh, reading}
use Rattle.deck.specs.Reports.{Report, report}
use Rattle.deck.proofs.Rising.{firsts, reading_rises}
use Rattle.deck.specs.declared.Spot.{Spot}
use Rattle.drafts.specs.Tree.{Says, constants as constants_said, assignment as assignment_said, state as state_said}
use Rattle.drafts.specs.Tree.{header, ending}
use Rattle.sheet.specs.Sheet.{Told, says, faulty, Sheet, Numbered, said}
use Rattle.sheet.specs.Reader.{told, sheet_of}
use Rattle.blocks.specs.Units.{Single, constants, assignment, state, UnitBody, single, block, TextUnit, OrderUnit}
use Rattle.blocks.specs.Units.{unit_of_one, order_unit_of, order_units}
use Rattle.blocks.specs.Members.{Pending, idle, partly, inner_of, units_by, pending_by, units_from, units_of}
use Rattle.order.specs.Order.{◌≼◌}
use Rattle.order.proofs.FirstOrder.{first_by_lines}
use Rattle.model.specs.Definitions.{no_unit, unit_count}
use Rattle.model.specs.Faults.{uses_in, GoodOrder, order_of}
use Rattle.model.specs.Text.{text_units, line_at}

abbrev numbers_of : List Numbered → List ℕ
numbers_of ss = map (λ (s : Numbered). s.line) ss

abbrev unit_lines : List TextUnit → List ℕ
unit_lines us = map (λ (u : TextUnit). u.line) us

abbrev order_lines : List OrderUnit → List ℕ
order_lines os = map (λ (o : OrderUnit). o.line) os

-- ---- from the reading to the sheet and to the statements without fault
sheet_rises : (b : ℕ) (ss : List Statement) → Rising b (firsts ss)
    → Rising b (map (λ (r : Report (Told Spot)). r.line) (map (report told) ss))
sheet_rises b [] r = tt
sheet_rises b (s ∷ ss) r = (r.0, sheet_rises (suc s.first) ss r.1)

said_rises : (b : ℕ) (rs : Sheet) → Rising b (map (λ (r : Report (Told Spot)). r.line) rs)
    → Rising b (numbers_of (said rs))
unfolding concat_map
said_rises b [] h = tt
said_rises b (r ∷ rs) h = go r.what (said_rises (suc r.line) rs h.1)
  where
    go : (t : Told Spot) → Rising (suc r.line) (numbers_of (said rs))
        → Rising b (numbers_of (said (record { line = r.line; what = t } ∷ rs)))
    go (says x) k = (h.0, k)
    go (faulty c p) k = rising_le (suc r.line) b (numbers_of (said rs)) k (omega (arith, h.0))

-- ---- from the statements to the units: each outside a block is one; a block stands at its header's number

-- what has been read of a block begins at c or later, before the next statement, b
abbrev Since : ℕ → ℕ → Pending → Type 0
Since c b idle = c ≤ b
Since c b (partly h os is ns) = (c ≤ h) × (h < b)

-- the units of what is read from b on, behind what has been read of a block
units_from_holds : (c b : ℕ) (p : Pending) (ss : List Numbered) → Since c b p → Rising b (numbers_of ss)
    → Rising c (unit_lines (units_from p ss))
unfolding units_from
units_from_holds c b p [] i r = tt
units_from_holds c b p (s ∷ ss) i r = step (λ d q j. units_from_holds d (suc s.line) q ss j r.1) p s.says i
  where
    l : ℕ
    l = s.line

    -- all behind this statement rises from d on
    On : Type 0
    On = (d : ℕ) (q : Pending) → Since d (suc l) q → Rising d (unit_lines (units_from q ss))

    step : On → (q : Pending) (x : Says) → Since c b q
        → Rising c (unit_lines (units_by q l x ++ units_from (pending_by q l x) ss))
    step on idle (constants_said cs) j = (omega (arith, r.0), on (suc l) idle (omega arith))
    step on idle (assignment_said k e) j = (omega (arith, r.0), on (suc l) idle (omega arith))
    step on idle (state_said k n e) j = (omega (arith, r.0), on (suc l) idle (omega arith))
    step on idle (header os is) j = on c (partly l os is []) (omega (arith, r.0), omega arith)
    step on idle ending j = on c idle (omega (arith, r.0))
    step on (partly h os is ns) (constants_said cs) j = on c (partly h os is ns) (j.0, omega (arith, r.0, j.1))
    step on (partly h os is ns) (assignment_said k e) j =
        on c (partly h os is (ns ++ (inner_of os ns l k e ∷ []))) (j.0, omega (arith, r.0, j.1))
    step on (partly h os is ns) (state_said k n e) j = on c (partly h os is ns) (j.0, omega (arith, r.0, j.1))
    step on (partly h os is ns) (header os' is') j =
        on c (partly l os' is' []) (omega (arith, r.0, j.0, j.1), omega arith)
    step on (partly h os is ns) ending j = (j.0, on (suc h) idle (omega (arith, r.0, j.1)))

units_rise : (b : ℕ) (ss : List Numbered) → Rising b (numbers_of ss) → Rising b (unit_lines (units_of ss))
units_rise b ss r = units_from_holds b b idle ss (omega arith) r

-- ---- from the units to those that are ordered: constants give none, every other unit gives one
ordered_rise : (b : ℕ) (us : List TextUnit) → Rising b (unit_lines us) → Rising b (order_lines (order_units us))
unfolding concat_map
ordered_rise b [] r = tt
ordered_rise b (u ∷ us) r = body u.body (ordered_rise (suc u.line) us r.1)
  where
    alone : (x : Single) → Rising (suc u.line) (order_lines (order_units us))
        → Rising b (order_lines (unit_of_one u.line x ++ order_units us))
    alone (constants cs) k = rising_le (suc u.line) b (order_lines (order_units us)) k (omega (arith, r.0))
    alone (assignment key e) k = (r.0, k)
    alone (state key i e) k = (r.0, k)

    body : (x : UnitBody) → Rising (suc u.line) (order_lines (order_units us))
        → Rising b (order_lines (order_unit_of u.line x ++ order_units us))
    body (single x) k = alone x k
    body (block os is ns z) k = (r.0, k)

-- ---- of a text
pub unit_lines_rise : (text : List ℕ) (i j : ℕ) → j < unit_count (text_units text) → i < j
    → line_at (text_units text) i < line_at (text_units text) j
unfolding sheet_of
unit_lines_rise text i j h k =
    let us = text_units text in
    let line : OrderUnit → ℕ = λ (o : OrderUnit). o.line in
    let ss = reading fresh 1 (lines_of text) in
    let a = sheet_rises 1 ss (reading_rises fresh 1 (lines_of text) tt) in
    let b = units_rise 1 (said (sheet_of text)) (said_rises 1 (sheet_of text) a) in
    let c = ordered_rise 1 us b in
    let d = rising_lt 1 (order_lines (order_units us)) i j c k (rw (length-map (order_units us) line) h) in
    rw (get_or-map line (order_units us) i no_unit, get_or-map line (order_units us) j no_unit) at d

-- THE ORDER OF A TEXT is first among all good orders also by the list of first lines
pub text_order_first : (text : List ℕ) (q : List ℕ) → GoodOrder (text_units text) q
    → map (line_at (text_units text)) (order_of (text_units text)) ≼ map (line_at (text_units text)) q
text_order_first text q g =
    let us = text_units text in
    first_by_lines (unit_count us) (uses_in us) (line_at us) (λ a b h k. unit_lines_rise text a b h k) q g
