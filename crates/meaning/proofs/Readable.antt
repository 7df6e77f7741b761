-- Every instruction of a text's program can be held by a record: its slot is one of those that there are, and its value
-- is a double.
use Prim.Native.Nat.{ℕ, ◌≤◌, ◌<◌}
use mathlib.Core.Logic.{inl, inr}
use mathlib.Core.List.{List, [], ◌∷◌, ◌++◌}
use native.Mathlib.Omega.{arith}
use lib.Dec.{eqb, lit<}
use lib.ListN.{length}
use lib.Ieee.{Float, binary64}
use lib.Ieee.Fits.{cond-fits, nan-fits}
use Rattle.laws.specs.Every.{Every}
use Rattle.laws.proofs.Every.{every_append, every_part}
use Rattle.limits.specs.Limits.{slots, most_definitions}
use Rattle.laws.specs.Lists.{concat_map}
use Rattle.laws.specs.Counts.{count, ◌∈◌}
use Rattle.laws.proofs.Counts.{once_same, count_append}
use Rattle.drafts.specs.Tree.{Two, plus, minus, times, over, compar, Three, insw, limit, Tree, value, named, time}
use Rattle.drafts.specs.Tree.{negated, two, three, names}
use Rattle.drafts.specs.Tree.{Initial, plain, from}
use Rattle.order.proofs.Sorting.{perm_below}
use Rattle.blocks.specs.Units.{Target, stores, restores, rates, Equation, TextUnit}
use Rattle.blocks.specs.Sound.{UnitsSound}
use Rattle.model.specs.Definitions.{What, constant, assigned, hidden, integral, Def, definitions, keys, slot_in}
use Rattle.model.specs.Definitions.{unit_at}
use Rattle.model.specs.Definitions.{unit_count}
use Rattle.model.specs.Faults.{outside_keys, uses_in, GoodOrder}
use Rattle.model.proofs.KeyPlaces.{Once}
use Rattle.records.specs.Record.{instrs}
use Rattle.program.specs.Program.{instr_two, instr_three, constant_value, value_in, initial_value, constant_recs}
use Rattle.program.specs.Program.{initial_recs}
use Rattle.program.specs.Program.{last_instr, program}
use Rattle.records.specs.Proper.{Double, Proper}
use Rattle.meaning.proofs.Numbers.{Doubles, DoubleInitial}
use Rattle.meaning.proofs.Texts.{FitsUnits, FitsWhat, FitsAll, FitsRow, definitions_fit, rows_fit}
use Rattle.meaning.proofs.Postfix.{steps}
use Rattle.meaning.proofs.Owned.{count_names, at_most, runs_at, slot_mine}
use Rattle.meaning.proofs.Runs.{instrs_append, ordered_runs, constant_part, initial_part, row_recs, row_first}
use Rattle.meaning.proofs.Runs.{program_parts}
use Rattle.meaning.proofs.Ready.{IsSet, InTurn, Ready, order_ready}

-- ---- expressions

-- operations have neither slot nor value
proper_two : (o : Two) → Proper (instr_two o)
proper_two plus = tt
proper_two minus = tt
proper_two times = tt
proper_two over = tt
proper_two compar = tt

-- nor have those on three values
proper_three : (o : Three) → Proper (instr_three o)
proper_three insw = tt
proper_three limit = tt

module _ (slot : ℕ → ℕ) where
  -- the names of a tree have slots
  abbrev Slotted : Tree → Type 0
  Slotted e = (k : ℕ) → k ∈ names e → slot k < slots

  -- a tree's instructions
  proper_tree : (e : Tree) → Doubles e → Slotted e → Every Proper (steps slot e)
  unfolding steps names count
  proper_tree (value x) d s = (d, tt)
  proper_tree (named k) d s = (s k (omega (arith, once_same k)), tt)
  proper_tree time d s = (lit< tt, tt)
  proper_tree (negated a) d s = every_append Proper (steps slot a) _ (proper_tree a d s) (tt, tt)
  proper_tree (two o a b) d s =
      let sa : Slotted a = λ k h. s k (omega (arith, count_append k (names a) (names b))) in
      let sb : Slotted b = λ k h. s k (omega (arith, count_append k (names a) (names b))) in
      every_append Proper (steps slot a) _ (proper_tree a d.0 sa)
      (every_append Proper (steps slot b) _ (proper_tree b d.1 sb) (proper_two o, tt))
  proper_tree (three o a b c) d s =
      let sa : Slotted a = λ k h. s k (omega (arith, count_append k (names a) (names b ++ names c))) in
      let sb : Slotted b =
      λ k h. s k (omega (arith, count_append k (names a) (names b ++ names c), count_append k (names b) (names c))) in
      let sc : Slotted c =
      λ k h. s k (omega (arith, count_append k (names a) (names b ++ names c), count_append k (names b) (names c))) in
      every_append Proper (steps slot a) _ (proper_tree a d.0 sa)
      (every_append Proper (steps slot b) _ (proper_tree b d.1 sb)
      (every_append Proper (steps slot c) _ (proper_tree c d.2 sc) (proper_three o, tt)))

-- ---- a constant's value is a double
double_one : (j k : ℕ) (w : What) (y : Float) → FitsWhat w → Double y → Double (constant_value j k w y)
double_one j k (constant x) y a b = cond-fits binary64 (eqb j k) x y a b
double_one j k assigned y a b = b
double_one j k hidden y a b = b
double_one j k (integral i) y a b = b

-- so is the value of a name
double_value : (ds : List Def) (j : ℕ) → FitsAll ds → Double (value_in ds j)
unfolding value_in
double_value [] j a = nan-fits binary64
double_value (d ∷ ds) j a = double_one j d.key d.what (value_in ds j) a.0 (double_value ds j a.1)

module _ (us : List TextUnit) (one : Once (keys (definitions us))) (few : length (definitions us) ≤ most_definitions)
    (fit : FitsUnits us) where
  abbrev ds : List Def
  ds = definitions us

  -- a defined name has a slot
  inside : (k : ℕ) → k ∈ keys ds → slot_in ds k < slots
  inside k h = omega (arith, slot_mine us one k h)

  -- an initial's value is a double
  double_initial : (i : Initial) → DoubleInitial i → Double (initial_value ds i)
  double_initial (plain x) a = a
  double_initial (from k) a = double_value ds k (definitions_fit us fit)

  -- the last record of an equation
  proper_last : (t : Target) (s : ℕ) → s < slots → Proper (last_instr ds t s)
  proper_last stores s h = h
  proper_last restores s h = h
  proper_last rates s h = h

  -- what is among the keys of es is defined
  abbrev Among : List Def → Type 0
  Among es = (k : ℕ) → k ∈ keys es → k ∈ keys ds

  -- the constants
  proper_constants : (es : List Def) → FitsAll es → Among es → Every Proper (instrs (constant_part ds es))
  unfolding concat_map count
  proper_constants [] a m = tt
  proper_constants (d ∷ es) a m =
      rw (instrs_append (constant_recs ds d d.what) (constant_part ds es))
      (every_append Proper (instrs (constant_recs ds d d.what)) _
      (by d.what a.0 (inside d.key (m d.key (omega (arith, once_same d.key)))))
      (proper_constants es a.1 (λ k h. m k (omega arith))))
    where
      by : (w : What) → FitsWhat w → slot_in ds d.key < slots → Every Proper (instrs (constant_recs ds d w))
      by (constant x) a h = ((h, a), tt)
      by assigned a h = tt
      by hidden a h = tt
      by (integral i) a h = tt

  -- the initials
  proper_initials : (es : List Def) → FitsAll es → Among es → Every Proper (instrs (initial_part ds es))
  unfolding concat_map count
  proper_initials [] a m = tt
  proper_initials (d ∷ es) a m =
      rw (instrs_append (initial_recs ds d d.what) (initial_part ds es))
      (every_append Proper (instrs (initial_recs ds d d.what)) _
      (by d.what a.0 (inside d.key (m d.key (omega (arith, once_same d.key)))))
      (proper_initials es a.1 (λ k h. m k (omega arith))))
    where
      by : (w : What) → FitsWhat w → slot_in ds d.key < slots → Every Proper (instrs (initial_recs ds d w))
      by (constant x) a h = tt
      by assigned a h = tt
      by hidden a h = tt
      by (integral i) a h = ((h, double_initial i a), tt)

  -- a name that is set, and one that is set in its turn, is defined
  set_mine : (es : List Equation) (k : ℕ) → IsSet ds es k → k ∈ keys ds
  set_mine es k (inl h) = omega (arith, count_names k ds)
  set_mine es k (inr (inl h)) = omega (arith, count_names k ds)
  set_mine es k (inr (inr h)) = omega (arith, h.0, count_names k ds)

  turn_mine : (es : List Equation) (k : ℕ) (t : Target) → InTurn ds es k t → k ∈ keys ds
  turn_mine es k stores h = omega (arith, h.0, count_names k ds)
  turn_mine es k restores h = omega (arith, h.0, count_names k ds)
  turn_mine es k rates h = omega (arith, h.0, count_names k ds)

  -- the equations of a row that is ready
  proper_row : (es r : List Equation) → Ready ds es r → FitsRow r → Every Proper (instrs (row_recs ds r))
  unfolding concat_map
  proper_row es [] a f = tt
  proper_row es (e ∷ r) a f =
      rw (row_first ds e r)
      (every_append Proper (steps (slot_in ds) e.tree) _
      (proper_tree (slot_in ds) e.tree f.0.0 (λ k h. inside k (set_mine es k (a.0 k h)))) (
        proper_last e.target (slot_in ds e.key) (inside e.key (turn_mine es e.key e.target a.1)),
        proper_row (es ++ (e ∷ [])) r a.2 f.1,
      ))

  -- THE PROGRAM of a good order
  pub readable : UnitsSound us
      → ((i : ℕ) → i < unit_count us → (k : ℕ) → k ∈ (unit_at us i).reads → k ∈ outside_keys ds)
      → (q : List ℕ) → GoodOrder us q → Every Proper (instrs (program us q))
  unfolding concat_map
  readable sound known q g =
      let fits = definitions_fit us fit in
      let ready = order_ready us sound one known [] q g.after (at_most us q g)
      (perm_below (unit_count us) (uses_in us) q g.perm) in
      rw (program_parts us q)
      (every_append Proper (instrs (constant_part ds ds)) _ (proper_constants ds fits (λ k h. h))
      (every_append Proper (instrs (initial_part ds ds)) _ (proper_initials ds fits (λ k h. h))
      (proper_row [] (ordered_runs us q) ready (every_part _ (runs_at us) (rows_fit us fit) q))))
