-- The last draft of each part of drafts that are laid out: the name that the part sets.
use Prim.Native.Nat.{ℕ, ◌+◌, ◌-◌}
use mathlib.Core.Path.{◌≡◌, refl, sym, ap, ap₂, ◌∙◌}
use mathlib.Core.List.{List, [], ◌∷◌, ◌++◌, append_assoc}
use native.Mathlib.Omega.{arith}
use borrow.Author.Tests.{lt-ltb, le-ltb}
use lib.Dec.{eqb}
use lib.ListN.{length, get_or, length-append, length-map}
use lib.Seq.{get_or_at}
use Rattle.laws.specs.Lists.{concat_map}
use Rattle.laws.specs.Places.{gather, only_if}
use Rattle.laws.proofs.Along.{gather_all, starts_at}
use Rattle.drafts.specs.Drafts.{Draft}
use Rattle.drafts.specs.Kinds.{kind_store}
use Rattle.drafts.specs.Places.{begins, ends}
use Rattle.sheet.specs.Layout.{draft_kinds, draft_args}
use Rattle.blocks.specs.InsidePlaces.{set_at}
use Rattle.blocks.proofs.DraftsWalk.{no_draft, kind_at, arg_at, begins_at, ends_at, drafts_split}

-- the name that a draft sets, and the name that a row sets by its last
abbrev pub set_draft : Draft → List ℕ
set_draft d = only_if (eqb d.kind kind_store) d.arg

unfoldable pub set_drafts : List Draft → List ℕ
set_drafts [] = []
set_drafts (d ∷ []) = set_draft d
set_drafts (d ∷ e ∷ ds) = set_drafts (e ∷ ds)

-- by what stands before the last
pub set_last : (m : List Draft) (z : Draft) → set_drafts (m ++ (z ∷ [])) ≡ set_draft z
unfolding set_drafts
set_last [] z = refl
set_last (d ∷ []) z = refl
set_last (d ∷ e ∷ m) z = set_last (e ∷ m) z

-- a row that is not empty has a last
record Ended (ds : List Draft) : Type 0 where
  front : List Draft
  last : Draft
  split : ds ≡ front ++ (last ∷ [])

ended : (d : Draft) (ds : List Draft) → Ended (d ∷ ds)
ended d [] = record { front = []; last = d; split = refl }
ended d (e ∷ ds) =
    let r = ended e ds in
    record { front = d ∷ r.front; last = r.last; split = ap (◌∷◌ d) r.split }

-- ---- the parts of ss, with a before part s and b behind
module _ {S : Type 0} (part : S → List Draft) (ss : List S) where
  abbrev laid : List Draft
  laid = concat_map part ss

  abbrev row_kinds : List ℕ
  row_kinds = draft_kinds laid

  abbrev row_args : List ℕ
  row_args = draft_args laid

  abbrev row_bounds : List ℕ
  row_bounds = starts_at part 0 ss

  -- gathering over all places is gathering over all drafts
  pub in_all : {B : Type 0} (f : ℕ → List B) (G : Draft → List B) → ((i : ℕ) → f i ≡ G (get_or laid i no_draft))
      → gather f (length row_kinds) 0 ≡ concat_map G laid
  in_all f G e =
      ap (λ (n : ℕ). gather f n 0) (length-map laid (λ (d : Draft). d.kind)) ∙ gather_all f G no_draft laid e

  module _ (a : List S) (s : S) (b : List S) (p : ss ≡ a ++ s ∷ b) where
    from : begins row_bounds (length a) ≡ length (concat_map part a)
    from = begins_at part ss a s b p

    to : ends row_bounds (length a) ≡ length (concat_map part a) + length (part s)
    to = ends_at part ss a s b p

    -- its last
    last_at : (m : List Draft) (z : Draft) → part s ≡ m ++ (z ∷ [])
        → get_or laid (ends row_bounds (length a) - 1) no_draft ≡ z
    last_at m z e =
        let x = concat_map part a ++ m in
        let w : laid ≡ x ++ z ∷ concat_map part b =
        drafts_split part ss a s b p ∙ ap (λ r. concat_map part a ++ (r ++ concat_map part b)) e
        ∙ ap (λ r. concat_map part a ++ r) (append_assoc m (z ∷ []) (concat_map part b))
        ∙ sym (append_assoc (concat_map part a) m (z ∷ concat_map part b)) in
        rw w
        (get_or_at x z (concat_map part b) no_draft _
        (omega (arith, length-append (concat_map part a) m, to, ap length e, length-append m (z ∷ []))))

    -- THE NAME that it sets
    pub set_row : set_at row_bounds row_kinds row_args (length a) ≡ set_drafts (part s)
    unfolding set_drafts
    set_row = go (part s) refl
      where
        go : (ds : List Draft) → part s ≡ ds → set_at row_bounds row_kinds row_args (length a) ≡ set_drafts ds
        go [] e =
            rw (le-ltb (begins row_bounds (length a)) (ends row_bounds (length a))
            (omega (arith, from, to, ap length e)))
        go (d ∷ ds) e =
            let r = ended d ds in
            let z = last_at r.front r.last (e ∙ r.split) in
            let i = ends row_bounds (length a) - 1 in
            rw (lt-ltb (begins row_bounds (length a)) (ends row_bounds (length a))
            (omega (arith, from, to, ap length e)))
            (ap₂ (λ (k x : ℕ). only_if (eqb k kind_store) x) (kind_at laid i ∙ ap (λ (x : Draft). x.kind) z)
            (arg_at laid i ∙ ap (λ (x : Draft). x.arg) z)
            ∙ sym (set_last r.front r.last) ∙ ap set_drafts (sym r.split))
