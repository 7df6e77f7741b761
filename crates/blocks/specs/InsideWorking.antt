-- What the passes of fault 26 and of the kinds inside blocks keep and leave.
use Rattle.std.specs.Prelude.{ℕ, ◌+◌, ◌-◌, ◌≤◌, ◌<◌, ◌≡◌, Bool, not, ◌&&◌, ◌||◌, List, [], ◌∷◌, ◌++◌, eqb, length}
use Rattle.std.specs.Prelude.{suc, get_or, Option, Some, None}
use Rattle.limits.specs.Limits.{text_bytes, most_statements, most_definitions}
use Rattle.laws.specs.Places.{gather}
use Rattle.laws.specs.Counts.{has}
use Rattle.drafts.specs.Kinds.{kind_again, kind_given, kind_own, kind_output, kind_input}
use Rattle.drafts.specs.Places.{begins, ends}
use Rattle.sheet.specs.Sheet.{Fault}
use Rattle.blocks.specs.declared.rewrite.Role.{Role}
use Rattle.blocks.specs.declared.rewrite.Role.TheVariants.{Again, Given, Own}
use Rattle.blocks.specs.Sound.{sets_for}
use Rattle.blocks.specs.Layout.{sets_kind}
use Rattle.blocks.specs.Places.{defining_in}
use Rattle.blocks.specs.InsidePlaces.{key_at, keys_at, set_above, fault26_at, role_at, role_kind}

-- ---- what the code's answers are in numbers

-- where a statement stands: outside, or in the block of this header
abbrev pub standing_in : Option ℕ → ℕ
standing_in None = 0
standing_in (Some head) = suc head

-- what the store of a statement becomes that sets its name so, 0 if it stays as it is
abbrev pub store_kind : Role → ℕ
store_kind Again = kind_again
store_kind Given = kind_given
store_kind Own = kind_own

abbrev pub role_in : Option Role → ℕ
role_in None = 0
role_in (Some role) = store_kind role

-- ---- place by place

-- place i has a name, in a draft of this kind, that does not stand in l
abbrev pub outside_at : List ℕ → List ℕ → ℕ → List ℕ → ℕ → Bool
outside_at kinds args kind l i = eqb (get_or kinds i 0) kind && not (has (get_or args i 0) l)

-- place i has an output that stands in no setting of ks, or at an earlier place from a on
abbrev pub bad_output_at : List ℕ → List ℕ → List ℕ → ℕ → ℕ → Bool
bad_output_at kinds args ks a i =
    eqb (get_or kinds i 0) kind_output
    && (not (has (get_or args i 0) ks) || has (get_or args i 0) (gather (key_at kinds args kind_output) (i - a) a))

-- the names that statement j inside may use, which stands at c
abbrev pub allowed_at : List ℕ → List ℕ → List ℕ → List ℕ → ℕ → ℕ → List ℕ
allowed_at free bounds kinds args c j =
    keys_at bounds kinds args kind_input (c - 1) ++ (free ++ set_above bounds kinds args c j)

-- 26 of all statements, where the constants and states are known
abbrev pub faults26_with : List ℕ → List ℕ → List ℕ → List ℕ → List ℕ → List Fault
faults26_with free lines bounds kinds args =
    gather (fault26_at (length lines) free lines bounds kinds args) (length lines) 0

-- ---- roles: what a name's store becomes in statement j inside a block, which stands at c
abbrev pub keys_role : List ℕ → List ℕ → List ℕ → ℕ → ℕ → ℕ → ℕ
keys_role bounds kinds args c j k =
    sets_kind (sets_for (keys_at bounds kinds args kind_output (c - 1)) (set_above bounds kinds args c j) k)

-- those of n statements
abbrev pub roles_in : ℕ → List ℕ → List ℕ → List ℕ → List ℕ
roles_in n bounds kinds args = gather (λ j. role_at bounds kinds args j ∷ []) n 0

-- the kinds from a place on, before an end, in a statement whose store becomes `role`
abbrev pub renewed : ℕ → List ℕ → ℕ → ℕ → List ℕ
renewed role kinds from end = gather (λ i. role_kind role (get_or kinds i 0) ∷ []) (end - from) from

-- ---- n statements follow each other from draft 0 to the last, and there is one bound more
pub record Turned (n : ℕ) (bounds kinds : List ℕ) : Type 0 where
  pub few : n ≤ most_statements
  pub rise : (j : ℕ) → j < n → begins bounds j ≤ ends bounds j
  pub first : begins bounds 0 ≡ 0
  pub ended : begins bounds n ≡ length kinds
  pub one_more : length bounds ≡ n + 1

-- few enough statements and drafts, and few enough drafts that define a name
pub record Small (n : ℕ) (kinds : List ℕ) : Type 0 where
  pub few : n ≤ most_statements
  pub small : length kinds ≤ text_bytes
  pub defined : length (defining_in kinds) ≤ most_definitions
