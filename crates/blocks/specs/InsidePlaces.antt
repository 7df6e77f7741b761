-- Fault 26 and the kinds inside blocks by place, over the arrays of a sheet: kinds and args are its drafts', lines and
-- bounds those of its statements. Every read past an end gives 0, so that each of these says something of every array.
use Rattle.std.specs.Prelude.{ℕ, zero, suc, ◌+◌, ◌-◌, Bool, false, not, cond, ◌&&◌, ◌||◌, List, [], ◌∷◌, ◌++◌, eqb, ltb}
use Rattle.std.specs.Prelude.{length, get_or}
use Rattle.laws.specs.Places.{gather, only_if}
use Rattle.laws.specs.Counts.{has}
use Rattle.drafts.specs.Kinds.{kind_constant, kind_initial, kind_fetch, kind_store, kind_read, kind_output}
use Rattle.drafts.specs.Kinds.{kind_input}
use Rattle.drafts.specs.Places.{begins, ends, in_statement, last_kind}
use Rattle.sheet.specs.Sheet.{Fault}
use Rattle.blocks.specs.Tests.{fault_if, within}
use Rattle.blocks.specs.Pairing.{Bracket, opens, shuts, neither}
use Rattle.blocks.specs.Places.{bracket_at}
use Rattle.blocks.specs.Sound.{sets_for}
use Rattle.blocks.specs.Inside.{head_wrong}
use Rattle.blocks.specs.Layout.{sets_kind}

-- where a statement stands: 0 outside, inside a block one more than the number of its header. Behind statement j with
-- this bracket, which stands at c:
abbrev pub standing_behind : Bracket → ℕ → ℕ → ℕ
standing_behind opens j c = suc j
standing_behind shuts j c = 0
standing_behind neither j c = c

unfoldable pub standing_at : List ℕ → List ℕ → ℕ → ℕ
standing_at bounds kinds zero = 0
standing_at bounds kinds (suc j) = standing_behind (bracket_at bounds kinds j) j (standing_at bounds kinds j)

-- ---- the names of statements

-- the key of place i, if its draft is of a kind
abbrev pub key_at : List ℕ → List ℕ → ℕ → ℕ → List ℕ
key_at kinds args kind i = only_if (eqb (get_or kinds i 0) kind) (get_or args i 0)

-- those of statement j
abbrev pub keys_at : List ℕ → List ℕ → List ℕ → ℕ → ℕ → List ℕ
keys_at bounds kinds args kind j = in_statement bounds (key_at kinds args kind) j

-- the name that statement j sets: that of its last draft, if that is a store
abbrev pub is_setting : List ℕ → List ℕ → ℕ → Bool
is_setting bounds kinds j = ltb (begins bounds j) (ends bounds j) && eqb (last_kind bounds kinds j) kind_store

abbrev pub set_at : List ℕ → List ℕ → List ℕ → ℕ → List ℕ
set_at bounds kinds args j = only_if (is_setting bounds kinds j) (get_or args (ends bounds j - 1) 0)

-- the names set above statement j in the block whose header stands before statement c
abbrev pub set_above : List ℕ → List ℕ → List ℕ → ℕ → ℕ → List ℕ
set_above bounds kinds args c j = gather (set_at bounds kinds args) (j - c) c

-- the names that k statements from i on set before the next end
abbrev pub unless_shut : Bracket → List ℕ → List ℕ
unless_shut opens ks = ks
unless_shut shuts ks = []
unless_shut neither ks = ks

unfoldable pub set_below : List ℕ → List ℕ → List ℕ → ℕ → ℕ → List ℕ
set_below bounds kinds args zero i = []
set_below bounds kinds args (suc k) i =
    let r = set_below bounds kinds args k (suc i) in
    unless_shut (bracket_at bounds kinds i) (set_at bounds kinds args i ++ r)

-- the constants and the states of the whole text
abbrev pub is_free : ℕ → Bool
is_free k = eqb k kind_constant || eqb k kind_initial

unfoldable pub free_args : List ℕ → List ℕ → List ℕ
free_args kinds args = gather (λ i. only_if (is_free (get_or kinds i 0)) (get_or args i 0)) (length kinds) 0

-- ---- 26

-- at header j of n statements
abbrev pub head_wrong_at : ℕ → List ℕ → List ℕ → List ℕ → ℕ → Bool
head_wrong_at n bounds kinds args j =
    head_wrong (keys_at bounds kinds args kind_output j) (set_below bounds kinds args (n - (j + 1)) (j + 1))

-- at a statement with inputs is and the names set above it: `set` is the name that it sets, if it sets one, and `used`
-- those that its expression has
abbrev pub right_with : List ℕ → List ℕ → List ℕ → List ℕ → List ℕ → Bool
right_with free is above [] used = false
right_with free is above (k ∷ ks) used = not (has k is) && within used (is ++ (free ++ above))

-- statement j inside, which stands at c
abbrev pub right_at : List ℕ → List ℕ → List ℕ → List ℕ → ℕ → ℕ → Bool
right_at free bounds kinds args c j =
    right_with free (keys_at bounds kinds args kind_input (c - 1)) (set_above bounds kinds args c j)
    (set_at bounds kinds args j) (keys_at bounds kinds args kind_fetch j)

-- 26 at statement j with this bracket, which stands at c
abbrev pub wrong_at : ℕ → List ℕ → List ℕ → List ℕ → List ℕ → Bracket → ℕ → ℕ → Bool
wrong_at n free bounds kinds args opens c j = head_wrong_at n bounds kinds args j
wrong_at n free bounds kinds args shuts c j = false
wrong_at n free bounds kinds args neither c j = ltb 0 c && not (right_at free bounds kinds args c j)

abbrev pub fault26_at : ℕ → List ℕ → List ℕ → List ℕ → List ℕ → List ℕ → ℕ → List Fault
fault26_at n free lines bounds kinds args j =
    fault_if (wrong_at n free bounds kinds args (bracket_at bounds kinds j) (standing_at bounds kinds j) j)
    (get_or lines j 0) 26

unfoldable pub faults26_in : List ℕ → List ℕ → List ℕ → List ℕ → List Fault
faults26_in lines bounds kinds args =
    gather (fault26_at (length lines) (free_args kinds args) lines bounds kinds args) (length lines) 0

-- ---- the kinds inside

-- what a store becomes in a statement with outputs os and the names set above it; 0 if it sets none
abbrev pub role_with : List ℕ → List ℕ → List ℕ → ℕ
role_with os above [] = 0
role_with os above (k ∷ ks) = sets_kind (sets_for os above k)

-- .. in statement j with this bracket, which stands at c; 0 outside too
abbrev pub role_by : List ℕ → List ℕ → List ℕ → Bracket → ℕ → ℕ → ℕ
role_by bounds kinds args opens c j = 0
role_by bounds kinds args shuts c j = 0
role_by bounds kinds args neither c j =
    cond (ltb 0 c)
    (role_with (keys_at bounds kinds args kind_output (c - 1)) (set_above bounds kinds args c j)
    (set_at bounds kinds args j))
    0

abbrev pub role_at : List ℕ → List ℕ → List ℕ → ℕ → ℕ
role_at bounds kinds args j = role_by bounds kinds args (bracket_at bounds kinds j) (standing_at bounds kinds j) j

-- a draft's kind in a statement whose store becomes `role`: a name fetched is read there
abbrev pub role_kind : ℕ → ℕ → ℕ
role_kind role k = cond (eqb role 0) k (cond (eqb k kind_fetch) kind_read (cond (eqb k kind_store) role k))

-- the kinds of statement j after that, and those of n statements
abbrev pub kinds_with : ℕ → List ℕ → List ℕ → ℕ → List ℕ
kinds_with role bounds kinds j = in_statement bounds (λ i. role_kind role (get_or kinds i 0) ∷ []) j

unfoldable pub rewritten_kinds : ℕ → List ℕ → List ℕ → List ℕ → List ℕ
rewritten_kinds n bounds kinds args = gather (λ j. kinds_with (role_at bounds kinds args j) bounds kinds j) n 0
