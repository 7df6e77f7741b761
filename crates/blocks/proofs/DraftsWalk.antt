-- Drafts that are laid out part by part, one part for each statement; whatever says what a part is.
use Prim.Native.Nat.{ℕ, ◌+◌, ◌-◌}
use mathlib.Core.Path.{◌≡◌, ◌∙◌}
use mathlib.Core.List.{List, ◌∷◌, ◌++◌}
use native.Mathlib.Omega.{arith}
use lib.ListN.{length, get_or, get_or-map}
use lib.Seq.{get_or-append-add}
use Rattle.laws.specs.Lists.{concat_map}
use Rattle.laws.proofs.Lists.{concat_append}
use Rattle.laws.proofs.Along.{gather_part, starts_at, start_at, end_at}
use Rattle.drafts.specs.Drafts.{Draft, draft}
use Rattle.drafts.specs.Places.{begins, ends, in_statement}
use Rattle.sheet.specs.Layout.{draft_kinds, draft_args}

-- what is read past the end
abbrev pub no_draft : Draft
no_draft = draft 0 0

-- what stands at a place: the kind, and the argument
pub kind_at : (ds : List Draft) (i : ℕ) → get_or (draft_kinds ds) i 0 ≡ (get_or ds i no_draft).kind
kind_at ds i = get_or-map (λ (d : Draft). d.kind) ds i no_draft

pub arg_at : (ds : List Draft) (i : ℕ) → get_or (draft_args ds) i 0 ≡ (get_or ds i no_draft).arg
arg_at ds i = get_or-map (λ (d : Draft). d.arg) ds i no_draft

-- ---- statement s, with a before it and b behind
module _ {S : Type 0} (part : S → List Draft) (ss a : List S) (s : S) (b : List S) (p : ss ≡ a ++ s ∷ b) where
  -- its drafts begin behind all before it
  pub begins_at : begins (starts_at part 0 ss) (length a) ≡ length (concat_map part a)
  begins_at = rw p (start_at part 0 a (s ∷ b) ∙ omega arith)

  -- and end with the last of its own
  pub ends_at : ends (starts_at part 0 ss) (length a) ≡ length (concat_map part a) + length (part s)
  ends_at = rw p (end_at part 0 a s b ∙ omega arith)

  -- all drafts: those before, its own, those behind
  pub drafts_split : concat_map part ss ≡ concat_map part a ++ (part s ++ concat_map part b)
  unfolding concat_map
  drafts_split = rw p (concat_append part a (s ∷ b))

  -- so many are its own
  pub span : ends (starts_at part 0 ss) (length a) - begins (starts_at part 0 ss) (length a) ≡ length (part s)
  span = omega (arith, begins_at, ends_at)

  -- the draft at a place from where it begins
  pub draft_at : (i : ℕ) → get_or (concat_map part ss) (begins (starts_at part 0 ss) (length a) + i) no_draft
      ≡ get_or (part s ++ concat_map part b) i no_draft
  draft_at i =
      rw (begins_at, drafts_split) (get_or-append-add (concat_map part a) (part s ++ concat_map part b) i no_draft)

  -- THE WALK: gathering over the places of the statement is gathering over its drafts
  pub in_part : {B : Type 0} (f : ℕ → List B) (G : Draft → List B)
      → ((i : ℕ) → f i ≡ G (get_or (concat_map part ss) i no_draft))
      → in_statement (starts_at part 0 ss) f (length a) ≡ concat_map G (part s)
  in_part f G e =
      rw (span, begins_at)
      (gather_part f G no_draft (concat_map part a) (part s) (concat_map part b) (rw drafts_split at e))
