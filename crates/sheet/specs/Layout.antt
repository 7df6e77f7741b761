-- The sheet as code holds it: the drafts of all statements one after the other, and for each statement its first line
-- and where its drafts begin.
use Rattle.std.specs.Prelude.{ℕ, ◌+◌, ◌≡◌, List, [], ◌∷◌, map, length}
use Rattle.laws.specs.Lists.{concat_map}
use Rattle.drafts.specs.Drafts.{Draft, drafts_of}
use Rattle.sheet.specs.Sheet.{Numbered}

abbrev pub drafts_in : List Numbered → List Draft
drafts_in ss = concat_map (λ (s : Numbered). drafts_of s.says) ss

-- drafts as two arrays: kinds and arguments
abbrev pub draft_kinds : List Draft → List ℕ
draft_kinds ds = map (λ (d : Draft). d.kind) ds

abbrev pub draft_args : List Draft → List ℕ
draft_args ds = map (λ (d : Draft). d.arg) ds

-- where the drafts of each statement begin, and where the last one's end
unfoldable pub bounds_from : ℕ → List Numbered → List ℕ
bounds_from o [] = o ∷ []
bounds_from o (s ∷ ss) = o ∷ bounds_from (o + length (drafts_of s.says)) ss

-- kinds and arguments, lines and bounds hold the statements ss
pub record Laid (ss : List Numbered) (kinds args lines bounds : List ℕ) : Type 0 where
  pub kinds_held : kinds ≡ draft_kinds (drafts_in ss)
  pub args_held : args ≡ draft_args (drafts_in ss)
  pub lines_held : lines ≡ map (λ (s : Numbered). s.line) ss
  pub bounds_held : bounds ≡ bounds_from 0 ss
