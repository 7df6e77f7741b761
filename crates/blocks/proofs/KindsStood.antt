-- The kinds of a statement as it stands in its unit, and the names that it defines there.
use Prim.Native.Nat.{ℕ, ◌≤◌}
use mathlib.Core.Path.{◌≡◌, refl, ap, ap₂}
use mathlib.Core.Bool.{false}
use mathlib.Core.List.{List, [], ◌∷◌, ◌++◌, map}
use native.Mathlib.Omega.{arith}
use lib.Dec.{eqb}
use lib.ListN.{length, length-append}
use Rattle.laws.specs.Lists.{concat_map}
use Rattle.drafts.specs.Tree.{plus, minus, times, over, compar, insw, limit, Constant, Says}
use Rattle.drafts.specs.Tree.{constants as constants_said, assignment as assignment_said, state as state_said, header}
use Rattle.drafts.specs.Tree.{ending}
use Rattle.drafts.specs.Items.{Item, push, fetch, clock, negate, apply_two, apply_three, postfix}
use Rattle.drafts.specs.Kinds.{kind_store}
use Rattle.drafts.specs.Drafts.{draft, draft_item, drafts_of}
use Rattle.sheet.specs.Sheet.{Numbered}
use Rattle.sheet.specs.Layout.{draft_kinds}
use Rattle.blocks.specs.Inside.{block_faults}
use Rattle.blocks.specs.Units.{constants, assignment, state, Sets, given, own, anew, Stood, alone, heading, inner}
use Rattle.blocks.specs.Units.{closing, Stated, stated_in}
use Rattle.blocks.specs.Sound.{sets_for}
use Rattle.blocks.specs.Members.{settings_by, settings, Pending, idle, partly, keys_inside, pending_by, units_of}
use Rattle.blocks.specs.Layout.{inner_item, sets_kind, drafts_stood}
use Rattle.blocks.specs.InsidePlaces.{role_kind}
use Rattle.blocks.proofs.BlocksShaped.{shaped_text}
use Rattle.blocks.proofs.UnitsStated.{stood_by, stated_from, stated_from_holds}

-- ---- kinds: what the store of a statement becomes
abbrev pub role_of : Pending → Says → ℕ
role_of b (constants_said cs) = 0
role_of idle (assignment_said k e) = 0
role_of (partly h os is ns) (assignment_said k e) = sets_kind (sets_for os (keys_inside ns) k)
role_of b (state_said k i e) = 0
role_of b (header os is) = 0
role_of b ending = 0

item_kind : (r : ℕ) → eqb r 0 ≡ false → (x : Item) → (inner_item x).kind ≡ role_kind r (draft_item x).kind
item_kind r z (push x) = rw z
item_kind r z (fetch k) = rw z
item_kind r z clock = rw z
item_kind r z negate = rw z
item_kind r z (apply_two plus) = rw z
item_kind r z (apply_two minus) = rw z
item_kind r z (apply_two times) = rw z
item_kind r z (apply_two over) = rw z
item_kind r z (apply_two compar) = rw z
item_kind r z (apply_three insw) = rw z
item_kind r z (apply_three limit) = rw z

inner_kinds : (r : ℕ) → eqb r 0 ≡ false → (xs : List Item) (k : ℕ)
    → draft_kinds (map inner_item xs ++ (draft r k ∷ []))
    ≡ map (role_kind r) (draft_kinds (map draft_item xs ++ (draft kind_store k ∷ [])))
inner_kinds r z [] k = rw z
inner_kinds r z (x ∷ xs) k = ap₂ ◌∷◌ (item_kind r z x) (inner_kinds r z xs k)

sets_known : (s : Sets) → eqb (sets_kind s) 0 ≡ false
sets_known given = refl
sets_known own = refl
sets_known anew = refl

-- without a role all kinds stay
kinds_stay : (l : List ℕ) → l ≡ map (role_kind 0) l
kinds_stay [] = refl
kinds_stay (k ∷ l) = ap (◌∷◌ k) (kinds_stay l)

pub stood_kinds : (b : Pending) (x : Says)
    → draft_kinds (drafts_stood (stood_by b x)) ≡ map (role_kind (role_of b x)) (draft_kinds (drafts_of x))
stood_kinds b (constants_said cs) = kinds_stay (draft_kinds (drafts_of (constants_said cs)))
stood_kinds idle (assignment_said k e) = kinds_stay (draft_kinds (drafts_of (assignment_said k e)))
stood_kinds (partly h os is ns) (assignment_said k e) =
    let s = sets_for os (keys_inside ns) k in
    inner_kinds (sets_kind s) (sets_known s) (postfix e) k
stood_kinds b (state_said k i e) = kinds_stay (draft_kinds (drafts_of (state_said k i e)))
stood_kinds b (header os is) = kinds_stay (draft_kinds (drafts_of (header os is)))
stood_kinds b ending = kinds_stay (draft_kinds (drafts_of ending))

-- ---- the names that a statement defines: inside a block its first setting alone
abbrev pub defined_stood : Stood → List ℕ
defined_stood (alone (constants cs)) = map (λ (c : Constant). c.key) cs
defined_stood (alone (assignment k e)) = k ∷ []
defined_stood (alone (state k i e)) = k ∷ []
defined_stood (heading os is) = []
defined_stood (inner k e given) = k ∷ []
defined_stood (inner k e own) = k ∷ []
defined_stood (inner k e anew) = []
defined_stood closing = []

-- they are no more than the settings
defined_few : (b : Pending) (x : Says) → length (defined_stood (stood_by b x)) ≤ length (settings_by x)
defined_few b (constants_said cs) = omega arith
defined_few idle (assignment_said k e) = omega arith
defined_few (partly h os is ns) (assignment_said k e) = go (sets_for os (keys_inside ns) k)
  where
    go : (s : Sets) → length (defined_stood (inner k e s)) ≤ 1
    go given = omega arith
    go own = omega arith
    go anew = omega arith
defined_few b (state_said k i e) = omega arith
defined_few b (header os is) = omega arith
defined_few b ending = omega arith

defined_from : (b : Pending) (ss : List Numbered)
    → length (concat_map (λ (t : Stated). defined_stood t.stood) (stated_from b ss)) ≤ length (settings ss)
unfolding stated_from concat_map
defined_from b [] = omega arith
defined_from b (s ∷ ss) =
    let next = pending_by b s.line s.says in
    let rest = concat_map (λ (t : Stated). defined_stood t.stood) (stated_from next ss) in
    omega (
      arith,
      defined_few b s.says,
      defined_from next ss,
      length-append (defined_stood (stood_by b s.says)) rest,
      length-append (settings_by s.says) (settings ss),
    )

-- THE DEFINITIONS are no more than the settings
pub defined_settings : (ss : List Numbered) → block_faults ss ≡ []
    → length (concat_map (λ (t : Stated). defined_stood t.stood) (stated_in (units_of ss))) ≤ length (settings ss)
defined_settings ss e = rw (stated_from_holds idle ss (shaped_text ss e)) (defined_from idle ss)
