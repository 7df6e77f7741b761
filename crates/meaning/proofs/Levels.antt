-- A program leaves the stack as it was, and in between fills at most its places, if those suffice for each of its
-- trees.
use Prim.Native.Nat.{ℕ, ◌+◌, ◌≤◌, max}
use mathlib.Core.Path.{◌≡◌, refl}
use mathlib.Core.List.{List, [], ◌∷◌, ◌++◌, append_assoc}
use native.Mathlib.Omega.{arith}
use Rattle.laws.specs.Lists.{concat_map}
use Rattle.laws.proofs.Concats.{map_concat}
use Rattle.laws.specs.Every.{Every}
use Rattle.laws.proofs.Every.{every_part}
use Rattle.limits.specs.Limits.{stack_places}
use Rattle.drafts.specs.Items.{peak}
use Rattle.blocks.specs.Units.{Target, stores, restores, rates, Equation, TextUnit}
use Rattle.model.specs.Definitions.{What, constant, assigned, hidden, integral, Def, definitions, slot_in, unit_at}
use Rattle.records.specs.declared.Instr.{Instr}
use Rattle.records.specs.Record.{Rec, instrs}
use Rattle.program.specs.Program.{constant_recs, initial_recs, last_instr, code, equation_recs, program}
use Rattle.meaning.specs.Depth.{highest}
use Rattle.meaning.proofs.Heights.{tree_height}
use Rattle.meaning.proofs.Runs.{instrs_append, instrs_of, ordered_runs, constant_part, initial_part, row_recs}
use Rattle.meaning.proofs.Runs.{program_parts}

-- instructions that leave the stack as it was, and in between fill at most its places, whatever follows
abbrev Level : List Instr → Type 0
Level xs = (ys : List Instr) → highest 0 (xs ++ ys) ≤ max stack_places (highest 0 ys)

-- one part and then another
level_append : (x y : List Instr) → Level x → Level y → Level (x ++ y)
level_append x y p q ys = rw (append_assoc x y ys) (omega (arith, p (y ++ ys), q ys))

-- one part after the other
level_concat : {A : Type 0} (f : A → List Instr) → ((a : A) → Level (f a)) → (l : List A) → Level (concat_map f l)
unfolding concat_map
level_concat f p [] = λ ys. omega arith
level_concat f p (a ∷ l) = level_append (f a) (concat_map f l) (p a) (level_concat f p l)

-- the last record takes the one value
last_height : (ds : List Def) (t : Target) (s : ℕ) (ys : List Instr)
    → highest (0 + 1) (last_instr ds t s ∷ ys) ≡ max 1 (highest 0 ys)
unfolding highest
last_height ds stores s ys = refl
last_height ds restores s ys = refl
last_height ds rates s ys = refl

-- a statement's records, if its tree is low
code_level : (ds : List Def) (e : Equation) → peak e.tree ≤ stack_places → Level (code ds e)
code_level ds e h ys =
    let last = last_instr ds e.target (slot_in ds e.key) in
    let t = tree_height (slot_in ds) e.tree 0 (last ∷ ys) in
    rw append_assoc (omega (arith, t, last_height ds e.target (slot_in ds e.key) ys))

-- constants and initials touch no stack
constant_level : (ds : List Def) (d : Def) (w : What) → Level (instrs (constant_recs ds d w))
unfolding highest
constant_level ds d (constant x) ys = omega arith
constant_level ds d assigned ys = omega arith
constant_level ds d hidden ys = omega arith
constant_level ds d (integral i) ys = omega arith

-- nor do initials
initial_level : (ds : List Def) (d : Def) (w : What) → Level (instrs (initial_recs ds d w))
unfolding highest
initial_level ds d (constant x) ys = omega arith
initial_level ds d assigned ys = omega arith
initial_level ds d hidden ys = omega arith
initial_level ds d (integral i) ys = omega arith

-- a row of equations, if all its trees are low
row_level : (ds : List Def) (es : List Equation) → Every (λ (e : Equation). peak e.tree ≤ stack_places) es
    → Level (instrs (row_recs ds es))
unfolding concat_map
row_level ds [] low = λ ys. omega arith
row_level ds (e ∷ es) low =
    rw (instrs_append (equation_recs ds e) (row_recs ds es), instrs_of e.line (code ds e))
    (level_append (code ds e) (instrs (row_recs ds es)) (code_level ds e low.0) (row_level ds es low.1))

-- a program in any order, if all its trees are low
pub program_level : (us : List TextUnit) (q : List ℕ)
    → ((i : ℕ) → Every (λ (e : Equation). peak e.tree ≤ stack_places) (unit_at us i).runs)
    → Level (instrs (program us q))
program_level us q low =
    let ds = definitions us in
    let instr : Rec → Instr = λ (r : Rec). r.instr in
    let a = instrs (constant_part ds ds) in
    let b = instrs (initial_part ds ds) in
    let c = instrs (row_recs ds (ordered_runs us q)) in
    let la : Level a = rw (map_concat instr _ ds) (level_concat _ (λ (d : Def). constant_level ds d d.what) ds) in
    let lb : Level b = rw (map_concat instr _ ds) (level_concat _ (λ (d : Def). initial_level ds d d.what) ds) in
    let lc : Level c = row_level ds (ordered_runs us q) (every_part _ (λ (i : ℕ). (unit_at us i).runs) low q) in
    rw (program_parts us q) (level_append a (b ++ c) la (level_append b c lb lc))
