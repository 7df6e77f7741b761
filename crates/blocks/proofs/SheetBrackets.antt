-- The brackets and the faults 25 of a sheet that is laid out.
use Prim.Native.Nat.{ℕ, suc, ◌+◌}
use mathlib.Core.Path.{◌≡◌, refl, sym, ap, ◌∙◌}
use mathlib.Core.List.{List, [], ◌∷◌, ◌++◌, map}
use native.Mathlib.Nat.{add-zero}
use native.Mathlib.Omega.{arith}
use borrow.Author.Tests.{lt-ltb, le-ltb}
use lib.ListN.{length, get_or, length-map, length-append}
use lib.Seq.{get_or_at}
use Rattle.laws.specs.Lists.{concat_map}
use Rattle.laws.proofs.Concats.{map_append}
use Rattle.laws.proofs.Every.{every_inside}
use Rattle.laws.proofs.Along.{starts_at, gather_over, gather_fronts}
use Rattle.drafts.specs.Tree.{plus, minus, times, over, compar, insw, limit, Says, constants, assignment, state, header}
use Rattle.drafts.specs.Tree.{ending}
use Rattle.drafts.specs.Items.{Item, push, fetch, clock, negate, apply_two, apply_three, postfix}
use Rattle.drafts.specs.Kinds.{kind_number, kind_store}
use Rattle.drafts.specs.Drafts.{Draft, draft, draft_item, drafts_of}
use Rattle.drafts.specs.Places.{begins, ends}
use Rattle.sheet.specs.Sheet.{Numbered}
use Rattle.sheet.specs.Layout.{drafts_in, draft_kinds, bounds_from, Laid}
use Rattle.blocks.specs.Pairing.{Bracket, neither, bracket_of, brackets, HeadedBy, Headed}
use Rattle.blocks.specs.Pairing.{pairs, faults25_from, faults25}
use Rattle.blocks.specs.Places.{leading_kind, bracket_kind, bracket_at, brackets_in, fault25_at, faults25_in}
use Rattle.blocks.proofs.DraftsWalk.{no_draft, kind_at, begins_at, ends_at, draft_at}

-- ---- the first draft of a statement
abbrev pub leading_of : List Draft → ℕ
leading_of [] = kind_number
leading_of (d ∷ ds) = d.kind

-- an expression begins neither header nor end
item_neither : (x : Item) → bracket_kind (draft_item x).kind ≡ neither
item_neither (push x) = refl
item_neither (fetch k) = refl
item_neither clock = refl
item_neither negate = refl
item_neither (apply_two plus) = refl
item_neither (apply_two minus) = refl
item_neither (apply_two times) = refl
item_neither (apply_two over) = refl
item_neither (apply_two compar) = refl
item_neither (apply_three insw) = refl
item_neither (apply_three limit) = refl

items_neither : (xs : List Item) (k : ℕ)
    → bracket_kind (leading_of (map draft_item xs ++ (draft kind_store k ∷ []))) ≡ neither
items_neither [] k = refl
items_neither (x ∷ xs) k = item_neither x

-- a statement is the bracket that its first draft is
pub leading_bracket : (x : Says) → HeadedBy x → bracket_kind (leading_of (drafts_of x)) ≡ bracket_of x
unfolding concat_map
leading_bracket (constants []) h = refl
leading_bracket (constants (c ∷ cs)) h = refl
leading_bracket (assignment k e) h = items_neither (postfix e) k
leading_bracket (state k i e) h = refl
leading_bracket (header [] is) h = absurd (omega arith)
leading_bracket (header (o ∷ os) is) h = refl
leading_bracket ending h = refl

-- ---- statement by statement
abbrev pub drafts_by : Numbered → List Draft
drafts_by s = drafts_of s.says

-- the bounds are where the drafts of each begin
pub bounds_starts : (o : ℕ) (ss : List Numbered) → bounds_from o ss ≡ starts_at drafts_by o ss
unfolding bounds_from starts_at
bounds_starts o [] = refl
bounds_starts o (s ∷ ss) = ap (◌∷◌ o) (bounds_starts (o + length (drafts_by s)) ss)

-- brackets one by one
singles : (l : List Numbered) → concat_map (λ (s : Numbered). bracket_of s.says ∷ []) l ≡ brackets l
unfolding concat_map
singles [] = refl
singles (s ∷ l) = ap (◌∷◌ (bracket_of s.says)) (singles l)

module _ {ss : List Numbered} {kinds args lines bounds : List ℕ} (v : Laid ss kinds args lines bounds) where
  pub lines_length : length lines ≡ length ss
  lines_length = ap length v.lines_held ∙ length-map ss (λ (s : Numbered). s.line)

  bounds_so : bounds ≡ starts_at drafts_by 0 ss
  bounds_so = v.bounds_held ∙ bounds_starts 0 ss

  module _ (a : List Numbered) (s : Numbered) (b : List Numbered) (p : ss ≡ a ++ s ∷ b) where
    -- its line
    pub line_at : get_or lines (length a) 0 ≡ s.line
    line_at =
        let f : Numbered → ℕ = λ (s : Numbered). s.line in
        rw (v.lines_held, p, map_append f a (s ∷ b))
        (get_or_at (map f a) s.line (map f b) 0 (length a) (length-map a f))

    -- the kind of its first draft
    pub leading_at : leading_kind bounds kinds (length a) ≡ leading_of (drafts_by s)
    leading_at = rw (bounds_so, v.kinds_held) (go (drafts_by s) refl)
      where
        go : (ds : List Draft) → drafts_by s ≡ ds
            → leading_kind (starts_at drafts_by 0 ss) (draft_kinds (drafts_in ss)) (length a) ≡ leading_of ds
        go [] e =
            rw (le-ltb (begins (starts_at drafts_by 0 ss) (length a)) (ends (starts_at drafts_by 0 ss) (length a))
            (omega (arith, begins_at drafts_by ss a s b p, ends_at drafts_by ss a s b p, ap length e)))
        go (d ∷ ds) e =
            let at = begins (starts_at drafts_by 0 ss) (length a) in
            let first = draft_at drafts_by ss a s b p 0 in
            let here : get_or (drafts_in ss) at no_draft ≡ d =
            ap (λ (i : ℕ). get_or (drafts_in ss) i no_draft) (sym (add-zero at)) ∙ first
            ∙ ap (λ (r : List Draft). get_or (r ++ concat_map drafts_by b) 0 no_draft) e in
            rw (lt-ltb at (ends (starts_at drafts_by 0 ss) (length a))
            (omega (arith, begins_at drafts_by ss a s b p, ends_at drafts_by ss a s b p, ap length e)))
            (kind_at (drafts_in ss) at ∙ ap (λ (d : Draft). d.kind) here)

    pub bracket_laid : HeadedBy s.says → bracket_at bounds kinds (length a) ≡ bracket_of s.says
    bracket_laid h = ap bracket_kind leading_at ∙ leading_bracket s.says h

  module _ (h : Headed ss) where
    -- of each statement
    bracket_each : (a : List Numbered) (s : Numbered) (b : List Numbered) → ss ≡ a ++ s ∷ b
        → bracket_at bounds kinds (length a) ≡ bracket_of s.says
    bracket_each a s b p =
        bracket_laid a s b p (every_inside (λ (s : Numbered). HeadedBy s.says) a s b (rw p at h))

    -- THE BRACKETS of the sheet
    pub brackets_laid : brackets_in (length ss) bounds kinds ≡ brackets ss
    brackets_laid =
        gather_over (λ j. bracket_at bounds kinds j ∷ []) (λ (s : Numbered). bracket_of s.says ∷ []) ss
        (λ a s b p. ap (λ (x : Bracket). x ∷ []) (bracket_each a s b p)) ∙ singles ss

    -- THE FAULTS 25 of the sheet
    pub faults25_laid : faults25_in lines bounds kinds ≡ faults25 ss
    unfolding faults25_in faults25_from
    faults25_laid =
        rw lines_length
        (gather_fronts (fault25_at lines bounds kinds) (λ a b. faults25_from (pairs (brackets ss)) (length a) b) ss
        (λ a. refl)
        one [] ss refl)
      where
        one : (a : List Numbered) (s : Numbered) (b : List Numbered) → ss ≡ a ++ s ∷ b
            → faults25_from (pairs (brackets ss)) (length a) (s ∷ b)
            ≡ fault25_at lines bounds kinds (length a) ++ faults25_from (pairs (brackets ss)) (length (a ++ (s ∷ []))) b
        one a s b p =
            let more : length (a ++ (s ∷ [])) ≡ suc (length a) = omega (arith, length-append a (s ∷ [])) in
            rw (more, lines_length, brackets_laid, bracket_each a s b p, line_at a s b p)
