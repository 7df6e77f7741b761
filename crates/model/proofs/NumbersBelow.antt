-- Model faults have the numbers of statements and stand at their first bytes; and the numbers of a text's reports and
-- faults are below a bound.
use Prim.Native.Nat.{ℕ, zero, suc, ◌+◌, ◌≤◌, ◌<◌}
use mathlib.Core.Path.{◌≡◌, refl}
use mathlib.Core.Bool.{Bool, true, false, not}
use mathlib.Core.List.{List, [], ◌∷◌, ◌++◌, map}
use native.Mathlib.Omega.{arith}
use lib.ListN.{length}
use Rattle.laws.specs.Every.{Every}
use Rattle.laws.proofs.Every.{every_append, every_at, every_map, every_mapped, every_concat}
use Rattle.laws.specs.Lists.{numbers}
use Rattle.deck.specs.Lines.{Line, lines_of}
use Rattle.deck.specs.Reading.{cards_of, fresh, reading}
use Rattle.deck.specs.Reports.{Report, report}
use Rattle.deck.specs.Next.{spread}
use Rattle.deck.specs.declared.Place.{Place}
use Rattle.deck.specs.declared.Spot.{Spot}
use Rattle.deck.proofs.Covered.{Covered, text_covered, spot_within, spot_column}
use Rattle.drafts.specs.Tree.{Says, constants as constants_said, assignment as assignment_said, state as state_said}
use Rattle.drafts.specs.Tree.{header, ending}
use Rattle.sheet.specs.Sheet.{Told, says, faulty, Sheet, Numbered, Fault, said_by, fault_by, said, statement_faults}
use Rattle.sheet.specs.Reader.{cards_told, spotted, told, sheet_of}
use Rattle.blocks.specs.Units.{constants, assignment, state, Inner, UnitBody, single, block, TextUnit, text_unit}
use Rattle.blocks.specs.Units.{closing, Stated, stated, stated_inner, stated_by, stated_in, OrderUnit, order_unit_of}
use Rattle.blocks.specs.Units.{order_units}
use Rattle.blocks.specs.Pairing.{Pair, bracket_of, unpaired, faults25_from, pairs, brackets, faults25}
use Rattle.blocks.specs.Inside.{head_wrong, inner_right, Standing, outer, enclosed, set_inside, inner_fault, fault26}
use Rattle.blocks.specs.Inside.{standing_next, free_known, faults26_from, faults26, block_faults}
use Rattle.blocks.specs.Members.{Pending, idle, partly, inner_of, units_by, pending_by, units_from, units_of}
use Rattle.order.specs.Order.{unsortable}
use Rattle.model.specs.Definitions.{Def, defined_by, definitions, keys, no_unit, unit_at, unit_count}
use Rattle.blocks.specs.Tests.{fault_if, again, within}
use Rattle.model.specs.Faults.{faults21, named_by, initial_of, outside_keys, constant_keys}
use Rattle.blocks.specs.Tests.{or_else}
use Rattle.model.specs.Faults.{name_fault, name_fault_of, name_faults, uses_in, fault24, faults24, model_faults}
use Rattle.model.specs.Text.{model_faults_in}

-- the tests behind faults 22, 23 and 24: all names are defined
abbrev defined_all : List Def → TextUnit → Bool
defined_all ds u = within (named_by u.body) (outside_keys ds)

-- the initial name is a constant
abbrev constant_all : List Def → TextUnit → Bool
constant_all ds u = within (initial_of u.body) (constant_keys ds)

-- the unit is unsortable
abbrev stuck : List TextUnit → ℕ → Bool
stuck us i = unsortable (unit_count us) (uses_in us) i

-- the numbers of places
numbers_every : (n k o : ℕ) → o + k ≤ n → Every (λ (i : ℕ). i < n) (numbers k o)
unfolding numbers
numbers_every n zero o h = tt
numbers_every n (suc k) o h = (omega arith, numbers_every n k (suc o) (omega arith))

-- ---- P holds of the number of what a statement says, of a statement of a unit, of a unit of the order; and of a unit,
-- of the numbers of all its statements
module _ (P : ℕ → Type 0) where
  abbrev pub SaidOn : Numbered → Type 0
  SaidOn s = P s.line

  abbrev StatedOn : Stated → Type 0
  StatedOn t = P t.line

  abbrev UnitOn : TextUnit → Type 0
  UnitOn u = Every StatedOn (stated_by u.line u.body)

  abbrev OrderOn : OrderUnit → Type 0
  OrderOn o = P o.line

  -- a fault with such a number whose place is its statement's first byte
  abbrev pub FirstFault : Fault → Type 0
  FirstFault f = P f.line × (f.place ≡ f.line) × (f.column ≡ 1)

  -- of what has been read of a block
  abbrev InnerOn : Inner → Type 0
  InnerOn n = P n.line

  abbrev PendingOn : Pending → Type 0
  PendingOn idle = Unit {0}
  PendingOn (partly h os is ns) = P h × Every InnerOn ns

  -- of a block
  block_on : (h z : ℕ) (os is : List ℕ) (ns : List Inner) → P h → P z → Every InnerOn ns
      → UnitOn (text_unit h (block os is ns z))
  block_on h z os is ns p q r = (
    p,
    every_append StatedOn (map stated_inner ns) (stated z closing ∷ [])
        (every_mapped InnerOn StatedOn stated_inner (λ n p. p) ns r) (q, tt),
  )

  -- of the units behind what has been read of a block
  units_from_holds : (p : Pending) (ss : List Numbered) → PendingOn p → Every SaidOn ss
      → Every UnitOn (units_from p ss)
  unfolding units_from
  units_from_holds p [] i h = tt
  units_from_holds p (s ∷ ss) i h = step (λ q j. units_from_holds q ss j h.1) p s.says i
    where
      l : ℕ
      l = s.line

      step : ((q : Pending) → PendingOn q → Every UnitOn (units_from q ss)) → (q : Pending) (x : Says)
          → PendingOn q
          → Every UnitOn (units_by q l x ++ units_from (pending_by q l x) ss)
      step on idle (constants_said cs) j = ((h.0, tt), on idle tt)
      step on idle (assignment_said k e) j = ((h.0, tt), on idle tt)
      step on idle (state_said k i e) j = ((h.0, tt), on idle tt)
      step on idle (header os is) j = on (partly l os is []) (h.0, tt)
      step on idle ending j = on idle tt
      step on (partly m os is ns) (constants_said cs) j = on (partly m os is ns) j
      step on (partly m os is ns) (assignment_said k e) j =
          on (partly m os is (ns ++ (inner_of os ns l k e ∷ [])))
          (j.0, every_append InnerOn ns (inner_of os ns l k e ∷ []) j.1 (h.0, tt))
      step on (partly m os is ns) (state_said k i e) j = on (partly m os is ns) j
      step on (partly m os is ns) (header os' is') j = on (partly l os' is' []) (h.0, tt)
      step on (partly m os is ns) ending j = (block_on m l os is ns j.0 h.0 j.1, on idle tt)

  -- of its units
  units_on : (ss : List Numbered) → Every SaidOn ss → Every UnitOn (units_of ss)
  units_on ss p = units_from_holds idle ss tt p

  -- the number of a unit
  line_on : (l : ℕ) (x : UnitBody) → Every StatedOn (stated_by l x) → P l
  line_on l (single x) p = p.0
  line_on l (block os is ns z) p = p.0

  -- of the units of the order
  ordered_on : (us : List TextUnit) → Every UnitOn us → Every OrderOn (order_units us)
  ordered_on us p =
      every_concat UnitOn OrderOn (λ (u : TextUnit). order_unit_of u.line u.body)
      (λ u h. one u.line (line_on u.line u.body h) u.body) us p
    where
      one : (l : ℕ) → P l → (x : UnitBody) → Every OrderOn (order_unit_of l x)
      one l h (single (constants cs)) = tt
      one l h (single (assignment k e)) = (h, tt)
      one l h (single (state k i e)) = (h, tt)
      one l h (block os is ns z) = (h, tt)

  -- .. and of the one at each place
  unit_on : (us : List TextUnit) → Every UnitOn us → (i : ℕ) → i < unit_count us → OrderOn (unit_at us i)
  unit_on us p i h = every_at OrderOn (order_units us) no_unit (ordered_on us p) i h

  -- of a model fault
  if_on : (t : Bool) (l c : ℕ) → P l → Every FirstFault (fault_if t l c)
  if_on true l c h = ((h, refl, refl), tt)
  if_on false l c h = tt

  -- of faults 21
  doubled_on : (seen : List ℕ) (ts : List Stated) → Every StatedOn ts → Every FirstFault (faults21 seen ts)
  unfolding faults21
  doubled_on seen [] p = tt
  doubled_on seen (t ∷ ts) p =
      let ks = keys (defined_by t.line t.stood) in
      every_append FirstFault (fault_if (again seen ks) t.line 21) (faults21 (seen ++ ks) ts)
      (if_on (again seen ks) t.line 21 p.0)
      (doubled_on (seen ++ ks) ts p.1)

  -- of faults 22 and 23
  named_on : (ds : List Def) (us : List TextUnit) → Every UnitOn us → Every FirstFault (name_faults ds us)
  named_on ds us p =
      every_concat UnitOn FirstFault (name_fault_of ds)
      (λ u h. one (defined_all ds u) (constant_all ds u) u.line (line_on u.line u.body h)) us p
    where
      one : (t u : Bool) (l : ℕ) → P l → Every FirstFault (name_fault t u l)
      one false u l h = ((h, refl, refl), tt)
      one true false l h = ((h, refl, refl), tt)
      one true true l h = tt

  -- of one list or the other
  or_on : (f g : List Fault) → Every FirstFault f → Every FirstFault g → Every FirstFault (or_else f g)
  or_on [] g p q = q
  or_on (x ∷ f) g p q = p

  -- of all model faults of units
  model_on : (us : List TextUnit) → Every UnitOn us → Every FirstFault (model_faults us)
  unfolding model_faults
  model_on us p =
      let ds = definitions us in
      let ts : Every StatedOn (stated_in us) =
      every_concat UnitOn StatedOn (λ (u : TextUnit). stated_by u.line u.body) (λ u h. h) us p in
      or_on (faults21 [] (stated_in us)) _ (doubled_on [] (stated_in us) ts)
      (or_on (name_faults ds us) (faults24 us) (named_on ds us p)
      (every_concat (λ (i : ℕ). i < unit_count us) FirstFault (fault24 us)
      (λ i h. if_on (stuck us i) (unit_at us i).line 24 (unit_on us p i h)) (numbers (unit_count us) 0)
      (numbers_every (unit_count us) (unit_count us) 0 (omega arith))))

  -- ---- of the faults of blocks
  unpaired_on : (ps : List Pair) (i : ℕ) (ss : List Numbered) → Every SaidOn ss
      → Every FirstFault (faults25_from ps i ss)
  unfolding faults25_from
  unpaired_on ps i [] p = tt
  unpaired_on ps i (s ∷ ss) p =
      let wrong = unpaired ps i (bracket_of s.says) in
      every_append FirstFault (fault_if wrong s.line 25) (faults25_from ps (suc i) ss)
      (if_on wrong s.line 25 p.0) (unpaired_on ps (suc i) ss p.1)

  -- of a statement as it stands
  inner_on : (free : List ℕ) (q : Standing) (s : Numbered) → P s.line → Every FirstFault (inner_fault free q s)
  inner_on free outer s h = tt
  inner_on free (enclosed is above) s h = if_on (not (inner_right free is above s.says)) s.line 26 h

  standing_on : (free ks : List ℕ) (q : Standing) (s : Numbered) (x : Says) → P s.line
      → Every FirstFault (fault26 free ks q s x)
  standing_on free ks q s (constants_said cs) h = inner_on free q s h
  standing_on free ks q s (assignment_said k e) h = inner_on free q s h
  standing_on free ks q s (state_said k i e) h = inner_on free q s h
  standing_on free ks q s (header os is) h = if_on (head_wrong os ks) s.line 26 h
  standing_on free ks q s ending h = tt

  inside_on : (free : List ℕ) (q : Standing) (ss : List Numbered) → Every SaidOn ss
      → Every FirstFault (faults26_from free q ss)
  unfolding faults26_from
  inside_on free q [] p = tt
  inside_on free q (s ∷ ss) p =
      every_append FirstFault (fault26 free (set_inside ss) q s s.says)
      (faults26_from free (standing_next q s.says) ss)
      (standing_on free (set_inside ss) q s s.says p.0) (inside_on free (standing_next q s.says) ss p.1)

  -- EACH model fault is at the first byte of one of the statements
  pub all_first : (ss : List Numbered) → Every SaidOn ss → Every FirstFault (model_faults_in ss)
  unfolding block_faults
  all_first ss p =
      or_on (block_faults ss) (model_faults (units_of ss))
      (or_on (faults25 ss) (faults26 ss) (unpaired_on (pairs (brackets ss)) 0 ss p)
      (inside_on (free_known ss) outer ss p))
      (model_on (units_of ss) (units_on ss p))

-- ---- numbers below b: of a report and of what a statement says, of a fault, its place and its column
module _ (b : ℕ) where
  -- of what is told of a statement with the number l: a fault's place
  abbrev ToldBelow : ℕ → Told Spot → Type 0
  ToldBelow l (says x) = Unit {0}
  ToldBelow l (faulty c p) = (l + p.down < b) × (p.column < b)

  abbrev pub ReportBelow : Report (Told Spot) → Type 0
  ReportBelow r = (r.line < b) × ToldBelow r.line r.what

  abbrev pub SaidBelow : Numbered → Type 0
  SaidBelow = SaidOn (λ (l : ℕ). l < b)

  abbrev pub FaultBelow : Fault → Type 0
  FaultBelow f = (f.line < b) × (f.place < b) × (f.column < b)

  -- of what is told of a statement that ends before line b, of lines with few bytes
  told_below : (l : ℕ) (ls : List Line) (t : Told Place) → l + length ls ≤ b → 0 < length ls → spread ls + 1 < b
      → ToldBelow l (spotted ls t)
  told_below l ls (says x) h some few = tt
  told_below l ls (faulty c p) h some few =
      (omega (arith, spot_within ls p some), omega (arith, spot_column ls p))

  -- of a text's reports
  pub sheet_below : (text : List ℕ) → length (lines_of text) < b → length text + 2 < b
      → Every ReportBelow (sheet_of text)
  unfolding sheet_of told
  sheet_below text h few =
      every_mapped (Covered (1 + length (lines_of text)) (length text + 1)) ReportBelow (report told)
      (λ s w. (
        omega (arith, w.0, w.1),
        told_below s.first s.lines (cards_told (cards_of s.lines) s.closed) (omega (arith, w.0)) w.1
            (omega (arith, w.2)),
      ))
      (reading fresh 1 (lines_of text)) (text_covered text)

  -- of its statement faults
  pub faults_below : (ss : Sheet) → Every ReportBelow ss → Every FaultBelow (statement_faults ss)
  faults_below ss p =
      every_concat ReportBelow FaultBelow (λ r. fault_by r.line r.what) (λ r h. one r.line r.what h) ss p
    where
      one : (l : ℕ) (t : Told Spot) → (l < b) × ToldBelow l t → Every FaultBelow (fault_by l t)
      one l (says x) h = tt
      one l (faulty c q) h = ((h.0, h.1.0, h.1.1), tt)

  -- of what its statements say
  pub said_below : (ss : Sheet) → Every ReportBelow ss → Every SaidBelow (said ss)
  said_below ss p =
      every_concat ReportBelow SaidBelow (λ r. said_by r.line r.what) (λ r h. one r.line h.0 r.what) ss p
    where
      one : (l : ℕ) → l < b → (t : Told Spot) → Every SaidBelow (said_by l t)
      one l h (says x) = (h, tt)
      one l h (faulty c q) = tt

  -- of its model faults
  pub all_below : 1 < b → (ss : List Numbered) → Every SaidBelow ss → Every FaultBelow (model_faults_in ss)
  all_below h ss p =
      every_map (FirstFault (λ (l : ℕ). l < b)) FaultBelow (model_faults_in ss)
      (λ f w. (w.0, omega (arith, w.0, w.1), omega (arith, w.2))) (all_first (λ (l : ℕ). l < b) ss p)
