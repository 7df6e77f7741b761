-- Units that are laid out, walked part by part: by statements, and by units.
use Prim.Native.Nat.{ℕ, zero, suc, ◌+◌, ◌-◌}
use mathlib.Core.Path.{◌≡◌, refl, sym, ap, ◌∙◌}
use mathlib.Core.Bool.{Bool}
use mathlib.Core.List.{List, [], ◌∷◌, ◌++◌, map, append_assoc}
use native.Mathlib.Nat.{add-zero}
use native.Mathlib.Omega.{arith}
use lib.ListN.{length, get_or, length-append, length-map, get_or-map}
use lib.Seq.{get_or_at, get_or-append-add}
use Rattle.laws.specs.Lists.{concat_map}
use Rattle.laws.specs.Places.{gather, only_if}
use Rattle.laws.proofs.Lists.{concat_append}
use Rattle.laws.proofs.Concats.{map_append, concat_concat}
use Rattle.laws.proofs.Along.{gather_part, filled, any_filled, starts_at, start_at, end_at}
use Rattle.drafts.specs.Drafts.{Draft}
use Rattle.drafts.specs.Places.{begins, ends, in_statement, any_of}
use Rattle.sheet.specs.Layout.{draft_kinds, draft_args}
use Rattle.blocks.specs.Units.{TextUnit, Stated, stated_by, stated_in}
use Rattle.blocks.specs.Layout.{drafts_stood, drafts_stated, drafts_unit, stated_bounds, unit_bounds}
use Rattle.model.specs.Definitions.{definitions, keys}
use Rattle.model.specs.Places.{places_in, resolved_at, resolved, ordered_in}
use Rattle.model.proofs.StatementDrafts.{no_draft}

-- ---- the arguments of drafts with names resolved by ks, of all drafts and of one
abbrev pub draft_slots : List ℕ → List Draft → List ℕ
draft_slots ks ds = resolved ks (draft_kinds ds) (draft_args ds)

abbrev pub draft_slot : List ℕ → Draft → ℕ
draft_slot ks d = resolved_at ks d.kind d.arg

-- ---- the arrays that hold the units us
abbrev pub sheet_drafts : List TextUnit → List Draft
sheet_drafts us = drafts_stated (stated_in us)

abbrev pub sheet_kinds : List TextUnit → List ℕ
sheet_kinds us = draft_kinds (sheet_drafts us)

abbrev pub sheet_args : List TextUnit → List ℕ
sheet_args us = draft_args (sheet_drafts us)

-- of their statements
abbrev pub stated_lines : List TextUnit → List ℕ
stated_lines us = map (λ (t : Stated). t.line) (stated_in us)

abbrev pub sheet_bounds : List TextUnit → List ℕ
sheet_bounds us = stated_bounds 0 (stated_in us)

-- of the units
abbrev pub unit_lines : List TextUnit → List ℕ
unit_lines us = map (λ (u : TextUnit). u.line) us

-- the keys of their definitions, and what is worked out from the arrays: slots, places of definitions, numbers of the
-- units of the order
abbrev pub sheet_keys : List TextUnit → List ℕ
sheet_keys us = keys (definitions us)

abbrev pub sheet_slots : List TextUnit → List ℕ
sheet_slots us = draft_slots (sheet_keys us) (sheet_drafts us)

abbrev pub sheet_places : List TextUnit → List ℕ
sheet_places us = places_in (sheet_kinds us)

abbrev pub sheet_ordered : List TextUnit → List ℕ
sheet_ordered us = ordered_in (length (unit_lines us)) (unit_bounds 0 us) (sheet_kinds us)

-- ---- what stands at a place: the kind
pub kind_at : (ds : List Draft) (i : ℕ) → get_or (draft_kinds ds) i 0 ≡ (get_or ds i no_draft).kind
kind_at ds i = get_or-map (λ (d : Draft). d.kind) ds i no_draft

-- the argument
pub arg_at : (ds : List Draft) (i : ℕ) → get_or (draft_args ds) i 0 ≡ (get_or ds i no_draft).arg
arg_at ds i = get_or-map (λ (d : Draft). d.arg) ds i no_draft

-- the argument with its name resolved
pub slot_at_holds : (ks : List ℕ) (ds : List Draft) (i : ℕ)
    → get_or (draft_slots ks ds) i 0 ≡ draft_slot ks (get_or ds i no_draft)
unfolding resolved
slot_at_holds ks [] i = refl
slot_at_holds ks (d ∷ ds) zero = refl
slot_at_holds ks (d ∷ ds) (suc i) = slot_at_holds ks ds i

-- ---- drafts part by part: those of all ss one after the other, and where those of each begin
pub record Parted {S : Type 0} (part : S → List Draft) (ss : List S) (ds : List Draft) (bounds : List ℕ) : Type 0 where
  pub drafts_are : ds ≡ concat_map part ss
  pub bounds_are : bounds ≡ starts_at part 0 ss

-- the number that stands at the place of a part
pub line_at : {S : Type 0} (line : S → ℕ) (ss a : List S) (s : S) (b : List S) → ss ≡ a ++ s ∷ b
    → get_or (map line ss) (length a) 0 ≡ line s
line_at line ss a s b p =
    rw (p, map_append line a (s ∷ b)) (get_or_at (map line a) (line s) (map line b) 0 (length a) (length-map a line))

-- ---- part s, with a before it and b behind
module _ {S : Type 0} {part : S → List Draft} {ss : List S} {ds : List Draft} {bounds : List ℕ}
    (w : Parted part ss ds bounds) (a : List S) (s : S) (b : List S) (p : ss ≡ a ++ s ∷ b) where
  abbrev before : List Draft
  before = concat_map part a

  abbrev behind : List Draft
  behind = concat_map part b

  -- its drafts begin behind all before it
  pub begins_at : begins bounds (length a) ≡ length before
  begins_at = rw (w.bounds_are, p) (start_at part 0 a (s ∷ b) ∙ omega arith)

  -- and end with the last of its own
  pub ends_at : ends bounds (length a) ≡ length before + length (part s)
  ends_at = rw (w.bounds_are, p) (end_at part 0 a s b ∙ omega arith)

  -- all drafts: those before, its own, those behind
  pub drafts_split : ds ≡ before ++ (part s ++ behind)
  unfolding concat_map
  drafts_split = w.drafts_are ∙ rw p (concat_append part a (s ∷ b))

  -- the kind of its first draft
  pub first_kind : get_or (draft_kinds ds) (begins bounds (length a)) 0 ≡ (get_or (part s ++ behind) 0 no_draft).kind
  first_kind =
      rw (kind_at ds (begins bounds (length a)), begins_at, drafts_split)
      (ap (λ (d : Draft). d.kind)
      (rw (add-zero (length before)) at (get_or-append-add before (part s ++ behind) 0 no_draft)))

  -- so many are its own
  pub span : ends bounds (length a) - begins bounds (length a) ≡ length (part s)
  span = omega (arith, begins_at, ends_at)

  -- THE WALK: gathering over the places of the part is gathering over its drafts
  pub in_part : {B : Type 0} (f : ℕ → List B) (G : Draft → List B) → ((i : ℕ) → f i ≡ G (get_or ds i no_draft))
      → in_statement bounds f (length a) ≡ concat_map G (part s)
  in_part f G e = rw (span, begins_at) (gather_part f G no_draft before (part s) behind (rw drafts_split at e))

  -- a test at some place of the part
  pub any_part : (f : ℕ → Bool) (G : Draft → Bool) → ((i : ℕ) → f i ≡ G (get_or ds i no_draft))
      → any_of bounds f (length a) ≡ filled (concat_map (λ d. only_if (G d) (tt {0})) (part s))
  any_part f G e =
      any_filled f _ _
      ∙ ap filled (in_part (λ i. only_if (f i) (tt {0})) (λ d. only_if (G d) (tt {0})) (λ i. rw (e i)))

  -- gathering over all places before the part
  pub before_part : {B : Type 0} (f : ℕ → List B) (G : Draft → List B) → ((i : ℕ) → f i ≡ G (get_or ds i no_draft))
      → gather f (begins bounds (length a)) 0 ≡ concat_map G before
  before_part f G e =
      rw begins_at (gather_part f G no_draft [] before (part s ++ behind) (rw drafts_split at e))

  -- the last draft of the part
  pub last_at : (m : List Draft) (z : Draft) → part s ≡ m ++ (z ∷ [])
      → get_or ds (ends bounds (length a) - 1) no_draft ≡ z
  last_at m z e =
      let x = before ++ m in
      let v : ds ≡ x ++ z ∷ behind =
      drafts_split ∙ ap (λ r. before ++ (r ++ behind)) e ∙ ap (λ r. before ++ r) (append_assoc m (z ∷ []) behind)
      ∙ sym (append_assoc before m (z ∷ behind)) in
      rw v
      (get_or_at x z behind no_draft _
      (omega (arith, length-append before m, ends_at, ap length e, length-append m (z ∷ []))))

-- ---- units go by statements
abbrev pub drafts_by : Stated → List Draft
drafts_by t = drafts_stood t.stood

stated_starts : (o : ℕ) (ts : List Stated) → stated_bounds o ts ≡ starts_at drafts_by o ts
unfolding stated_bounds starts_at
stated_starts o [] = refl
stated_starts o (t ∷ ts) = ap (◌∷◌ o) (stated_starts (o + length (drafts_by t)) ts)

pub by_statement : (us : List TextUnit) → Parted drafts_by (stated_in us) (sheet_drafts us) (sheet_bounds us)
by_statement us = record { drafts_are = refl; bounds_are = stated_starts 0 (stated_in us) }

-- ---- and by units
unit_starts : (o : ℕ) (us : List TextUnit) → unit_bounds o us ≡ starts_at drafts_unit o us
unfolding unit_bounds starts_at
unit_starts o [] = refl
unit_starts o (u ∷ us) = ap (◌∷◌ o) (unit_starts (o + length (drafts_unit u)) us)

pub by_unit : (us : List TextUnit) → Parted drafts_unit us (sheet_drafts us) (unit_bounds 0 us)
by_unit us =
    record {
      drafts_are = concat_concat drafts_by (λ (u : TextUnit). stated_by u.line u.body) us;
      bounds_are = unit_starts 0 us;
    }
