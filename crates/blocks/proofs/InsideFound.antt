-- Fault 26 as the code finds it, statement by statement.
use Prim.Native.Nat.{ℕ, zero, suc, ◌+◌, ◌-◌, ◌≤◌}
use mathlib.Core.Path.{◌≡◌, sym, ap, ap₂, ◌∙◌}
use mathlib.Core.Bool.{Bool, true, false, not, ◌||◌}
use mathlib.Core.List.{List, ◌++◌}
use native.Mathlib.Numerals.{add-one}
use native.Mathlib.Omega.{arith}
use lib.ListN.{length, get_or}
use Rattle.laws.specs.Counts.{has}
use Rattle.laws.specs.Places.{any_in}
use Rattle.laws.proofs.Members.{has_append}
use Rattle.drafts.specs.Kinds.{kind_input, kind_fetch}
use Rattle.drafts.specs.Places.{begins, ends}
use Rattle.blocks.specs.Tests.{fault_if}
use Rattle.blocks.specs.Pairing.{Bracket, opens, shuts, neither}
use Rattle.blocks.specs.InsidePlaces.{keys_at, is_setting, set_above, set_below, head_wrong_at, right_at}
use Rattle.blocks.specs.Places.{bracket_at}
use Rattle.blocks.specs.InsidePlaces.{wrong_at, standing_behind, standing_at, fault26_at}
use Rattle.blocks.specs.InsideWorking.{outside_at, bad_output_at, allowed_at}
use Rattle.blocks.proofs.NamesPlaced.{within_places, header_places}
use Rattle.blocks.proofs.FaultsListed.{if_length}

-- of a header
pub header_found : (n : ℕ) (bounds kinds args : List ℕ) (j : ℕ)
    → any_in
    (bad_output_at kinds args (set_below bounds kinds args (n - (j + 1)) (j + 1)) (begins bounds j))
    (ends bounds j - begins bounds j) (begins bounds j) ≡ head_wrong_at n bounds kinds args j
header_found n bounds kinds args j =
    sym (header_places kinds args (set_below bounds kinds args (n - (j + 1)) (j + 1)) (begins bounds j)
    (ends bounds j - begins bounds j))

-- ---- a name of the header that stands before statement c
pub at_head : (bounds kinds args : List ℕ) (kind head key : ℕ) {r : Bool}
    → r ≡ has key (keys_at bounds kinds args kind head)
    → r ≡ has key (keys_at bounds kinds args kind ((head + 1) - 1))
at_head bounds kinds args kind head key p =
    let e : head ≡ (head + 1) - 1 = omega arith in p ∙ ap (λ (h : ℕ). has key (keys_at bounds kinds args kind h)) e

-- ---- names that a statement inside may use
module _ (free bounds kinds args : List ℕ) (c j key : ℕ) where
  abbrev inputs : List ℕ
  inputs = keys_at bounds kinds args kind_input (c - 1)

  abbrev above : List ℕ
  above = set_above bounds kinds args c j

  pub allowed_by : has key (allowed_at free bounds kinds args c j) ≡ (has key inputs || (has key free || has key above))
  allowed_by = has_append key inputs (free ++ above) ∙ ap (λ b. has key inputs || b) (has_append key free above)

-- ---- a statement inside
module _ (free bounds kinds args : List ℕ) (c j : ℕ) where
  -- that sets a name, and no input: its names decide
  pub right_names : {b r s : Bool} {i x : ℕ} → b ≡ is_setting bounds kinds j → b ≡ true → i ≡ ends bounds j - 1
      → x ≡ get_or args i 0 → r ≡ has x (keys_at bounds kinds args kind_input (c - 1)) → r ≡ false
      → s
      ≡ any_in (outside_at kinds args kind_fetch (allowed_at free bounds kinds args c j))
      (ends bounds j - begins bounds j) (begins bounds j)
      → not s ≡ right_at free bounds kinds args c j
  right_names {b} {r} {s} {i} {x} p t e q w u z =
      let key : x ≡ get_or args (ends bounds j - 1) 0 = q ∙ ap (λ (n : ℕ). get_or args n 0) e in
      let input = ap (λ (y : ℕ). has y (keys_at bounds kinds args kind_input (c - 1))) (sym key) ∙ sym w ∙ u in
      rw (sym p ∙ t, input)
      (ap not z
      ∙ sym (within_places kinds args kind_fetch (allowed_at free bounds kinds args c j)
      (ends bounds j - begins bounds j) (begins bounds j)))

-- ---- where statements stand
pub standing_low : (bounds kinds : List ℕ) (j : ℕ) → standing_at bounds kinds j ≤ j
unfolding standing_at
standing_low bounds kinds zero = omega arith
standing_low bounds kinds (suc j) = go (bracket_at bounds kinds j) (standing_low bounds kinds j)
  where
    go : (b : Bracket) → standing_at bounds kinds j ≤ j → standing_behind b j (standing_at bounds kinds j) ≤ suc j
    go opens h = omega arith
    go shuts h = omega arith
    go neither h = omega arith

pub standing_next : (bounds kinds : List ℕ) (j : ℕ) {c r : ℕ} → c ≡ standing_at bounds kinds j
    → r ≡ standing_behind (bracket_at bounds kinds j) j c → r ≡ standing_at bounds kinds (j + 1)
unfolding standing_at
standing_next bounds kinds j p q = rw (add-one j) (q ∙ ap (standing_behind (bracket_at bounds kinds j) j) p)

-- ---- 26 at a statement stands once
pub wrong_single : (n : ℕ) (free lines bounds kinds args : List ℕ) (j : ℕ)
    → length (fault26_at n free lines bounds kinds args j) ≤ 1
wrong_single n free lines bounds kinds args j =
    if_length (wrong_at n free bounds kinds args (bracket_at bounds kinds j) (standing_at bounds kinds j) j)
    (get_or lines j 0) 26

-- as it was found
pub wrong_found : (n : ℕ) (free lines bounds kinds args : List ℕ) (j : ℕ) {c line : ℕ} {r : Bool}
    → c ≡ standing_at bounds kinds j → r ≡ wrong_at n free bounds kinds args (bracket_at bounds kinds j) c j
    → line ≡ get_or lines j 0 → fault_if r line 26 ≡ fault26_at n free lines bounds kinds args j
wrong_found n free lines bounds kinds args j p q l =
    ap₂ (λ b m. fault_if b m 26) (q ∙ ap (λ (m : ℕ). wrong_at n free bounds kinds args
    (bracket_at bounds kinds j) m j) p) l
