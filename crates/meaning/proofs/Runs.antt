-- What running a program comes to: its constants and its ordered units, worked out one after the other.
use Prim.Native.Nat.{ℕ}
use mathlib.Core.Path.{◌≡◌, refl, sym, ap, ◌∙◌}
use mathlib.Core.List.{List, [], ◌∷◌, ◌++◌, map, append_assoc}
use lib.ListN.{set}
use lib.Ieee.{Float}
use Rattle.laws.specs.Lists.{concat_map}
use Rattle.laws.proofs.Concats.{map_append, concat_concat}
use Rattle.drafts.specs.Tree.{value}
use Rattle.blocks.specs.Units.{Target, stores, restores, rates, Equation, equation, TextUnit}
use Rattle.model.specs.Definitions.{What, constant, assigned, hidden, integral, Def, definitions, slot_in, unit_at}
use Rattle.records.specs.declared.Instr.{Instr}
use Rattle.records.specs.Record.{Rec, rec, instrs}
use Rattle.program.specs.Program.{constant_recs, initial_recs, last_instr, code, equation_recs, unit_recs}
use Rattle.program.specs.Program.{program}
use Rattle.evaluator.specs.Machine.{Machine, step, run, begun}
use Rattle.meaning.specs.Meaning.{value_of}
use Rattle.meaning.proofs.Postfix.{machine_of, steps, steps_of_holds, run_tree}
use Rattle.meaning.proofs.Settle.{stored, derived, values_after, derivs_after, values_append, derivs_append}

-- a constant as an equation: its number
abbrev pub as_equation : ℕ → ℕ → What → List Equation
as_equation l k (constant x) = equation l k stores (value x) ∷ []
as_equation l k assigned = []
as_equation l k hidden = []
as_equation l k (integral i) = []

-- all constants
abbrev pub fixed : List Def → List Equation
fixed es = concat_map (λ (d : Def). as_equation d.line d.key d.what) es

-- the instructions of two rows of records
pub instrs_append : (x y : List Rec) → instrs (x ++ y) ≡ instrs x ++ instrs y
instrs_append x y = map_append (λ (r : Rec). r.instr) x y

-- those of records with one line
pub instrs_of : (l : ℕ) (xs : List Instr) → instrs (map (rec l) xs) ≡ xs
instrs_of l [] = refl
instrs_of l (x ∷ xs) = ap (◌∷◌ x) (instrs_of l xs)

-- what the units in the order q run
abbrev pub ordered_runs : List TextUnit → List ℕ → List Equation
ordered_runs us q = concat_map (λ (i : ℕ). (unit_at us i).runs) q

module _ (ds : List Def) where
  abbrev slot : ℕ → ℕ
  slot = slot_in ds

  -- the three parts of a program
  abbrev pub constant_part : List Def → List Rec
  constant_part es = concat_map (λ (d : Def). constant_recs ds d d.what) es

  -- kind 2
  abbrev pub initial_part : List Def → List Rec
  initial_part es = concat_map (λ (d : Def). initial_recs ds d d.what) es

  -- an equation's instructions: those of its tree, and the last
  code_of : (e : Equation) → code ds e ≡ steps slot e.tree ++ (last_instr ds e.target (slot e.key) ∷ [])
  code_of e = rw (steps_of_holds slot e.tree)

  -- the records of a row of equations
  abbrev pub row_recs : List Equation → List Rec
  row_recs es = concat_map (equation_recs ds) es

  -- the first of them, and the others
  pub row_first : (e : Equation) (es : List Equation)
      → instrs (row_recs (e ∷ es))
      ≡ steps slot e.tree ++ (last_instr ds e.target (slot e.key) ∷ instrs (row_recs es))
  unfolding concat_map
  row_first e es =
      rw (
        instrs_append (equation_recs ds e) (row_recs es),
        instrs_of e.line (code ds e),
        code_of e,
        append_assoc (steps slot e.tree) (last_instr ds e.target (slot e.key) ∷ []) (instrs (row_recs es)),
      )

  -- ---- constants
  run_constant : (a : Def) (w : What) (R : List Rec) (E : List Equation) (r : List Instr) (d : List Float)
      → ((v : List Float) → run (machine_of [] v d) (instrs R ++ r)
      ≡ run (machine_of [] (values_after slot E v) (derivs_after slot E v d)) r)
      → (v : List Float) → run (machine_of [] v d) (instrs (constant_recs ds a w ++ R) ++ r)
      ≡ run
      (machine_of [] (values_after slot (as_equation a.line a.key w ++ E) v)
      (derivs_after slot (as_equation a.line a.key w ++ E) v d)) r
  unfolding run step values_after derivs_after value_of
  run_constant a (constant x) R E r d h v = h (set v (slot a.key) x)
  run_constant a assigned R E r d h v = h v
  run_constant a hidden R E r d h v = h v
  run_constant a (integral i) R E r d h v = h v

  -- they are worked out as their numbers
  run_constants : (es : List Def) (r : List Instr) (d v : List Float)
      → run (machine_of [] v d) (instrs (constant_part es) ++ r)
      ≡ run (machine_of [] (values_after slot (fixed es) v) (derivs_after slot (fixed es) v d)) r
  unfolding concat_map values_after derivs_after
  run_constants [] r d v = refl
  run_constants (a ∷ es) r d v = run_constant a a.what _ (fixed es) r d (run_constants es r d) v

  -- ---- initials
  run_initial : (a : Def) (w : What) (R : List Rec) (r : List Instr) (m : Machine)
      → run m (instrs R ++ r) ≡ run m r → run m (instrs (initial_recs ds a w ++ R) ++ r) ≡ run m r
  unfolding run step
  run_initial a (constant x) R r m h = h
  run_initial a assigned R r m h = h
  run_initial a hidden R r m h = h
  run_initial a (integral i) R r m h = h

  -- they change nothing
  run_initials : (es : List Def) (r : List Instr) (m : Machine) → run m (instrs (initial_part es) ++ r) ≡ run m r
  unfolding concat_map
  run_initials [] r m = refl
  run_initials (a ∷ es) r m = run_initial a a.what _ r m (run_initials es r m)

  -- ---- equations

  -- the last record takes the value from the stack
  run_last : (t : Target) (s : ℕ) (x : Float) (v d : List Float) (r : List Instr)
      → run (machine_of (x ∷ []) v d) (last_instr ds t s ∷ r) ≡ run (machine_of [] (stored t s x v) (derived t s x d)) r
  unfolding run step
  run_last stores s x v d r = refl
  run_last restores s x v d r = refl
  run_last rates s x v d r = refl

  -- they are worked out in their order
  run_row : (es : List Equation) (v d : List Float)
      → run (machine_of [] v d) (instrs (row_recs es))
      ≡ machine_of [] (values_after slot es v) (derivs_after slot es v d)
  unfolding concat_map values_after derivs_after run
  run_row [] v d = refl
  run_row (e ∷ es) v d =
      let r = instrs (row_recs es) in
      let x = value_of slot v e.tree in
      ap (run (machine_of [] v d)) (row_first e es)
      ∙ run_tree slot e.tree [] v d (last_instr ds e.target (slot e.key) ∷ r)
      ∙ run_last e.target (slot e.key) x v d r
      ∙ run_row es (stored e.target (slot e.key) x v) (derived e.target (slot e.key) x d)

module _ (us : List TextUnit) where
  abbrev ds : List Def
  ds = definitions us

  -- the records of the units in the order q
  abbrev pub ordered_part : List ℕ → List Rec
  ordered_part q = concat_map (λ (i : ℕ). unit_recs ds (unit_at us i)) q

  -- are those of what they run
  ordered_row : (q : List ℕ) → ordered_part q ≡ row_recs ds (ordered_runs us q)
  ordered_row q = sym (concat_concat (equation_recs ds) (λ (i : ℕ). (unit_at us i).runs) q)

  -- the three parts, one behind the other
  pub program_parts : (q : List ℕ) → instrs (program us q)
      ≡ instrs (constant_part ds ds) ++ (instrs (initial_part ds ds) ++ instrs (row_recs ds (ordered_runs us q)))
  unfolding program
  program_parts q =
      rw (ordered_row q)
      (instrs_append (constant_part ds ds) (initial_part ds ds ++ row_recs ds (ordered_runs us q))
      ∙ ap (λ z. instrs (constant_part ds ds) ++ z)
      (instrs_append (initial_part ds ds) (row_recs ds (ordered_runs us q))))

  -- THE RUN
  pub run_program : (q : List ℕ) (v d : List Float) → run (begun v d) (instrs (program us q))
      ≡ machine_of [] (values_after (slot_in ds) (fixed ds ++ ordered_runs us q) v)
      (derivs_after (slot_in ds) (fixed ds ++ ordered_runs us q) v d)
  run_program q v d =
      let slot = slot_in ds in
      let es = ordered_runs us q in
      let v₁ = values_after slot (fixed ds) v in
      let d₁ = derivs_after slot (fixed ds) v d in
      let r = instrs (row_recs ds es) in
      rw (values_append slot (fixed ds) es v, derivs_append slot (fixed ds) es v d)
      (ap (run (begun v d)) (program_parts q)
      ∙ run_constants ds ds (instrs (initial_part ds ds) ++ r) d v
      ∙ run_initials ds ds r (machine_of [] v₁ d₁)
      ∙ run_row ds es v₁ d₁)
