-- The values that stand at once while a tree's postfix runs are those that its peak counts.
use Prim.Native.Nat.{ℕ, ◌+◌, ◌-◌, ◌≤◌, max}
use mathlib.Core.Path.{◌≡◌, refl, ◌∙◌}
use mathlib.Core.List.{List, [], ◌∷◌, ◌++◌, map, append_assoc, map-append}
use native.Mathlib.Omega.{arith}
use Rattle.drafts.specs.Tree.{Two, plus, minus, times, over, compar, Three, insw, limit, Tree, value, named, time}
use Rattle.drafts.specs.Tree.{negated, two, three}
use Rattle.drafts.specs.Items.{postfix, peak}
use Rattle.records.specs.declared.Instr.{Instr}
use Rattle.records.specs.declared.Instr.TheVariants.{Value, Slot, Neg}
use Rattle.evaluator.specs.Judge.{takes, gives}
use Rattle.program.specs.Program.{instr_two, instr_three, instr_item}
use Rattle.meaning.specs.Depth.{highest}

-- at least those that stand at first
pub from_start : (h : ℕ) (xs : List Instr) → h ≤ highest h xs
unfolding highest
from_start h [] = omega arith
from_start h (x ∷ xs) = omega arith

-- a tree leaves one value, which counts
pub peak_some : (e : Tree) → 1 ≤ peak e
unfolding peak
peak_some (value x) = omega arith
peak_some (named k) = omega arith
peak_some time = omega arith
peak_some (negated a) = peak_some a
peak_some (two o a b) = omega (arith, peak_some a)
peak_some (three o a b c) = omega (arith, peak_some a)

-- an instruction that takes k of h + k values and gives one
taken : (x : Instr) (k h n : ℕ) (xs : List Instr) → takes x ≡ k → gives x ≡ 1 → n ≡ h + k
    → highest n (x ∷ xs) ≡ max n (highest (h + 1) xs)
unfolding highest
taken x k h n xs t g e =
    let m : n - takes x + gives x ≡ h + 1 = omega arith in
    rw m

-- the operations
takes_two : (o : Two) → (takes (instr_two o) ≡ 2) × (gives (instr_two o) ≡ 1)
takes_two plus = (refl, refl)
takes_two minus = (refl, refl)
takes_two times = (refl, refl)
takes_two over = (refl, refl)
takes_two compar = (refl, refl)

-- and those on three values
takes_three : (o : Three) → (takes (instr_three o) ≡ 3) × (gives (instr_three o) ≡ 1)
takes_three insw = (refl, refl)
takes_three limit = (refl, refl)

-- three operands, each above those before it
three_peaks : (h a b c m : ℕ) → max (h + a) (max (h + 1 + b) (max (h + 1 + 1 + c) m))
    ≡ max (h + max a (max (1 + b) (2 + c))) m
three_peaks h a b c m = omega arith

module _ (slot : ℕ → ℕ) where
  -- what stands while a tree runs above h values, and then the rest
  pub tree_height : (e : Tree) (h : ℕ) (xs : List Instr)
      → highest h (map (instr_item slot) (postfix e) ++ xs) ≡ max (h + peak e) (highest (h + 1) xs)
  unfolding postfix peak
  tree_height (value x) h xs = taken (Value x) 0 h h xs refl refl (omega arith) ∙ omega (arith, from_start (h + 1) xs)
  tree_height (named k) h xs =
      taken (Slot (slot k)) 0 h h xs refl refl (omega arith) ∙ omega (arith, from_start (h + 1) xs)
  tree_height time h xs = taken (Slot 0) 0 h h xs refl refl (omega arith) ∙ omega (arith, from_start (h + 1) xs)
  tree_height (negated a) h xs =
      let p = tree_height a h (Neg ∷ xs) in
      let q = taken Neg 1 h (h + 1) xs refl refl refl in
      simp (map-append, append_assoc) (omega (arith, p, q, from_start (h + 1) xs))
  tree_height (two o a b) h xs =
      let x = instr_two o in
      let p = tree_height a h (map (instr_item slot) (postfix b) ++ (x ∷ xs)) in
      let q = tree_height b (h + 1) (x ∷ xs) in
      let z : highest (h + 1 + 1) (x ∷ xs) ≡ max (h + 1 + 1) (highest (h + 1) xs) =
      taken x 2 h (h + 1 + 1) xs (takes_two o).0 (takes_two o).1 (omega arith) in
      simp (map-append, append_assoc) (omega (arith, p, q, z, from_start (h + 1) xs, peak_some b))
  tree_height (three o a b c) h xs =
      let x = instr_three o in
      let p = tree_height a h (map (instr_item slot) (postfix b) ++ (map (instr_item slot) (postfix c) ++ (x ∷ xs))) in
      let q = tree_height b (h + 1) (map (instr_item slot) (postfix c) ++ (x ∷ xs)) in
      let r = tree_height c (h + 1 + 1) (x ∷ xs) in
      let z : highest (h + 1 + 1 + 1) (x ∷ xs) ≡ max (h + 1 + 1 + 1) (highest (h + 1) xs) =
      taken x 3 h (h + 1 + 1 + 1) xs (takes_three o).0 (takes_three o).1 (omega arith) in
      let last : max (h + 1 + 1 + peak c) (highest (h + 1 + 1 + 1) (x ∷ xs))
      ≡ max (h + 1 + 1 + peak c) (highest (h + 1) xs) =
      rw z (omega (arith, peak_some c)) in
      simp (map-append, append_assoc) (p
      ∙ rw (q, r, last) (three_peaks h (peak a) (peak b) (peak c) (highest (h + 1) xs)))
