-- Each statement of a text without 25 and 26 stands in exactly one unit, in order.
use Prim.Native.Nat.{ℕ, ◌+◌}
use mathlib.Core.Path.{◌≡◌, refl, sym, ap, ap₂, ◌∙◌}
use mathlib.Core.Bool.{Bool, true, false}
use mathlib.Core.List.{List, [], ◌∷◌, ◌++◌, map, append_assoc, append-nil}
use lib.ListN.{length, length-map}
use Rattle.laws.specs.Lists.{concat_map}
use Rattle.laws.proofs.Lists.{concat_append}
use Rattle.laws.proofs.Concats.{map_append}
use Rattle.drafts.specs.Tree.{Says, constants as constants_said, assignment as assignment_said, state as state_said}
use Rattle.drafts.specs.Tree.{header, ending}
use Rattle.drafts.specs.Items.{Item, push, fetch, clock, negate, apply_two, apply_three, postfix}
use Rattle.drafts.specs.Kinds.{kind_store}
use Rattle.drafts.specs.Drafts.{Draft, draft, draft_item, drafts_of}
use Rattle.sheet.specs.Sheet.{Numbered}
use Rattle.sheet.specs.Layout.{drafts_in, draft_args, bounds_from}
use Rattle.blocks.specs.Units.{constants, assignment, state, TextUnit, Stood, alone, heading, inner}
use Rattle.blocks.specs.Units.{closing, Stated, stated, stated_inner, stated_by, stated_in}
use Rattle.blocks.specs.Sound.{sets_for}
use Rattle.blocks.specs.Pairing.{bracket_of}
use Rattle.blocks.specs.Members.{Pending, idle, partly, keys_inside, inner_of, units_by, pending_by, units_from}
use Rattle.blocks.specs.Members.{units_of}
use Rattle.blocks.specs.Said.{said_of, numbered_back}
use Rattle.blocks.specs.Layout.{inner_item, sets_kind, drafts_stood, drafts_stated, stated_bounds}
use Rattle.blocks.specs.Places.{inside_next}
use Rattle.blocks.proofs.BlocksShaped.{Stands, Shaped}

-- ---- what has been read of a block: whether something has, and its statements
abbrev pub pending_in : Pending → Bool
pending_in idle = false
pending_in (partly h os is ns) = true

abbrev pub pending_stated : Pending → List Stated
pending_stated idle = []
pending_stated (partly h os is ns) = stated h (heading os is) ∷ map stated_inner ns

-- what a statement is in its unit, behind what has been read
abbrev pub stood_by : Pending → Says → Stood
stood_by b (constants_said cs) = alone (constants cs)
stood_by idle (assignment_said k e) = alone (assignment k e)
stood_by (partly h os is ns) (assignment_said k e) = inner k e (sets_for os (keys_inside ns) k)
stood_by b (state_said k i e) = alone (state k i e)
stood_by b (header os is) = heading os is
stood_by b ending = closing

-- statement by statement
unfoldable pub stated_from : Pending → List Numbered → List Stated
stated_from b [] = []
stated_from b (s ∷ ss) =
    stated s.line (stood_by b s.says) ∷ stated_from (pending_by b s.line s.says) ss

-- behind a statement that may stand there: whether the next stands inside
pub pending_next : (b : Pending) (l : ℕ) (x : Says) → Stands (pending_in b) x
    → pending_in (pending_by b l x) ≡ inside_next (pending_in b) (bracket_of x)
pending_next idle l (constants_said cs) h = refl
pending_next idle l (assignment_said k e) h = refl
pending_next idle l (state_said k i e) h = refl
pending_next idle l (header os is) h = refl
pending_next idle l ending h = absurd h
pending_next (partly n os is ns) l (constants_said cs) h = absurd h
pending_next (partly n os is ns) l (assignment_said k e) h = refl
pending_next (partly n os is ns) l (state_said k i e) h = absurd h
pending_next (partly n os is ns) l (header os' is') h = absurd h
pending_next (partly n os is ns) l ending h = refl

-- the statements of the units that it ends and of what has been read then: one more
pub stated_step : (b : Pending) (l : ℕ) (x : Says) → Stands (pending_in b) x
    → stated_in (units_by b l x) ++ pending_stated (pending_by b l x)
    ≡ pending_stated b ++ (stated l (stood_by b x) ∷ [])
unfolding concat_map
stated_step idle l (constants_said cs) h = refl
stated_step idle l (assignment_said k e) h = refl
stated_step idle l (state_said k i e) h = refl
stated_step idle l (header os is) h = refl
stated_step idle l ending h = absurd h
stated_step (partly n os is ns) l (constants_said cs) h = absurd h
stated_step (partly n os is ns) l (assignment_said k e) h =
    ap (◌∷◌ (stated n (heading os is))) (map_append stated_inner ns (inner_of os ns l k e ∷ []))
stated_step (partly n os is ns) l (state_said k i e) h = absurd h
stated_step (partly n os is ns) l (header os' is') h = absurd h
stated_step (partly n os is ns) l ending h =
    ap (◌∷◌ (stated n (heading os is))) (append-nil _ ∙ append-nil (map stated_inner ns ++ (stated l closing ∷ [])))

-- what holds behind the first statement
pub shaped_next : (b : Pending) (s : Numbered) (ss : List Numbered) → Shaped (pending_in b) (s ∷ ss)
    → Stands (pending_in b) s.says × Shaped (pending_in (pending_by b s.line s.says)) ss
shaped_next idle s ss h = (h.0, rw (pending_next idle s.line s.says h.0) h.1)
shaped_next (partly n os is ns) s ss h =
    (h.0, rw (pending_next (partly n os is ns) s.line s.says h.0) h.1)

-- THE STATEMENTS of the units are those of the text, one by one
pub stated_from_holds : (b : Pending) (ss : List Numbered) → Shaped (pending_in b) ss
    → stated_in (units_from b ss) ≡ pending_stated b ++ stated_from b ss
unfolding units_from stated_from concat_map
stated_from_holds idle [] h = refl
stated_from_holds (partly n os is ns) [] h = absurd h
stated_from_holds b (s ∷ ss) h =
    let g = shaped_next b s ss h in
    let next = pending_by b s.line s.says in
    let units = units_by b s.line s.says in
    concat_append (λ (u : TextUnit). stated_by u.line u.body) units (units_from next ss)
    ∙ ap (λ (r : List Stated). stated_in units ++ r) (stated_from_holds next ss g.1)
    ∙ sym (append_assoc (stated_in units) (pending_stated next) (stated_from next ss))
    ∙ ap (λ (r : List Stated). r ++ stated_from next ss) (stated_step b s.line s.says g.0)
    ∙ append_assoc (pending_stated b) (stated s.line (stood_by b s.says) ∷ []) (stated_from next ss)

-- ---- back to what was said
pub said_back : (b : Pending) (x : Says) → said_of (stood_by b x) ≡ x
said_back b (constants_said cs) = refl
said_back idle (assignment_said k e) = refl
said_back (partly h os is ns) (assignment_said k e) = refl
said_back b (state_said k i e) = refl
said_back b (header os is) = refl
said_back b ending = refl

from_back : (b : Pending) (ss : List Numbered) → map numbered_back (stated_from b ss) ≡ ss
unfolding stated_from
from_back b [] = refl
from_back b (s ∷ ss) =
    ap₂ ◌∷◌ (ap (λ (x : Says). record { line = s.line; says = x }) (said_back b s.says))
    (from_back (pending_by b s.line s.says) ss)

-- what the statements of the units said is the text
pub stated_back : (ss : List Numbered) → Shaped false ss → map numbered_back (stated_in (units_of ss)) ≡ ss
stated_back ss h = ap (map numbered_back) (stated_from_holds idle ss h) ∙ from_back idle ss

-- as many, with the same lines
lines_from : (b : Pending) (ss : List Numbered)
    → map (λ (t : Stated). t.line) (stated_from b ss) ≡ map (λ (s : Numbered). s.line) ss
unfolding stated_from
lines_from b [] = refl
lines_from b (s ∷ ss) = ap (◌∷◌ s.line) (lines_from (pending_by b s.line s.says) ss)

pub stated_lines : (ss : List Numbered) → Shaped false ss
    → map (λ (t : Stated). t.line) (stated_in (units_of ss)) ≡ map (λ (s : Numbered). s.line) ss
stated_lines ss h = ap (map (λ (t : Stated). t.line)) (stated_from_holds idle ss h) ∙ lines_from idle ss

-- ---- the drafts of a statement: as many in its unit, with the same arguments
inner_arg : (x : Item) → (inner_item x).arg ≡ (draft_item x).arg
inner_arg (push x) = refl
inner_arg (fetch k) = refl
inner_arg clock = refl
inner_arg negate = refl
inner_arg (apply_two o) = refl
inner_arg (apply_three o) = refl

inner_args : (xs : List Item) (k m n : ℕ)
    → draft_args (map inner_item xs ++ (draft m k ∷ [])) ≡ draft_args (map draft_item xs ++ (draft n k ∷ []))
inner_args [] k m n = refl
inner_args (x ∷ xs) k m n = ap₂ ◌∷◌ (inner_arg x) (inner_args xs k m n)

pub args_stood : (b : Pending) (x : Says) → draft_args (drafts_stood (stood_by b x)) ≡ draft_args (drafts_of x)
args_stood b (constants_said cs) = refl
args_stood idle (assignment_said k e) = refl
args_stood (partly h os is ns) (assignment_said k e) =
    inner_args (postfix e) k (sets_kind (sets_for os (keys_inside ns) k)) kind_store
args_stood b (state_said k i e) = refl
args_stood b (header os is) = refl
args_stood b ending = refl

length_stood : (b : Pending) (x : Says) → length (drafts_stood (stood_by b x)) ≡ length (drafts_of x)
length_stood b x =
    sym (length-map (drafts_stood (stood_by b x)) (λ (d : Draft). d.arg)) ∙ ap length (args_stood b x)
    ∙ length-map (drafts_of x) (λ (d : Draft). d.arg)

-- so the arguments and the bounds are those of the text
args_from : (b : Pending) (ss : List Numbered)
    → draft_args (drafts_stated (stated_from b ss)) ≡ draft_args (drafts_in ss)
unfolding stated_from concat_map
args_from b [] = refl
args_from b (s ∷ ss) =
    let next = pending_by b s.line s.says in
    let arg : Draft → ℕ = λ (d : Draft). d.arg in
    map_append arg (drafts_stood (stood_by b s.says)) (drafts_stated (stated_from next ss))
    ∙ ap₂ ◌++◌ (args_stood b s.says) (args_from next ss)
    ∙ sym (map_append arg (drafts_of s.says) (drafts_in ss))

bounds_from_holds : (o : ℕ) (b : Pending) (ss : List Numbered) → stated_bounds o (stated_from b ss) ≡ bounds_from o ss
unfolding stated_from stated_bounds bounds_from
bounds_from_holds o b [] = refl
bounds_from_holds o b (s ∷ ss) =
    let next = pending_by b s.line s.says in
    ap (◌∷◌ o)
    (ap (λ (n : ℕ). stated_bounds (o + n) (stated_from next ss)) (length_stood b s.says)
    ∙ bounds_from_holds (o + length (drafts_of s.says)) next ss)

pub stated_args : (ss : List Numbered) → Shaped false ss
    → draft_args (drafts_stated (stated_in (units_of ss))) ≡ draft_args (drafts_in ss)
stated_args ss h =
    ap (λ (ts : List Stated). draft_args (drafts_stated ts)) (stated_from_holds idle ss h) ∙ args_from idle ss

pub stated_bounds_holds : (ss : List Numbered) → Shaped false ss
    → stated_bounds 0 (stated_in (units_of ss)) ≡ bounds_from 0 ss
stated_bounds_holds ss h = ap (stated_bounds 0) (stated_from_holds idle ss h) ∙ bounds_from_holds 0 idle ss
