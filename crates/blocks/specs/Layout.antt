-- Units as code holds them: the drafts of all statements one after the other, and for each statement and for each unit
-- its number and where its drafts begin.
use Rattle.std.specs.Prelude.{ℕ, ◌+◌, ◌≡◌, List, [], ◌∷◌, ◌++◌, map, length}
use Rattle.laws.specs.Lists.{concat_map}
use Rattle.drafts.specs.Items.{Item, push, fetch, clock, negate, apply_two, apply_three, postfix}
use Rattle.drafts.specs.Kinds.{kind_again, kind_given, kind_own, kind_output, kind_input, kind_ending, kind_read}
use Rattle.drafts.specs.Drafts.{Draft, draft, draft_item, drafts_of}
use Rattle.sheet.specs.Layout.{draft_kinds, draft_args}
use Rattle.blocks.specs.Units.{Sets, given, own, anew}
use Rattle.blocks.specs.Said.{said_alone}
use Rattle.blocks.specs.Units.{TextUnit, Stood, alone, heading, inner, closing, Stated, stated_by, stated_in}

-- ---- the drafts of a statement. A single statement's are those of what it says

-- inside a block what a name holds is read: the name is not asked for there, nor is what assigns it used
abbrev pub inner_item : Item → Draft
inner_item (push x) = draft_item (push x)
inner_item (fetch k) = draft kind_read k
inner_item clock = draft_item clock
inner_item negate = draft_item negate
inner_item (apply_two o) = draft_item (apply_two o)
inner_item (apply_three o) = draft_item (apply_three o)

abbrev pub sets_kind : Sets → ℕ
sets_kind given = kind_given
sets_kind own = kind_own
sets_kind anew = kind_again

abbrev pub drafts_stood : Stood → List Draft
drafts_stood (alone x) = drafts_of (said_alone x)
drafts_stood (heading os is) = map (draft kind_output) os ++ map (draft kind_input) is
drafts_stood (inner k e s) = map inner_item (postfix e) ++ (draft (sets_kind s) k ∷ [])
drafts_stood closing = draft kind_ending 0 ∷ []

-- ---- of all statements and units

abbrev pub drafts_stated : List Stated → List Draft
drafts_stated ts = concat_map (λ (t : Stated). drafts_stood t.stood) ts

abbrev pub drafts_unit : TextUnit → List Draft
drafts_unit u = drafts_stated (stated_by u.line u.body)

-- where the drafts of each begin, and where those of the last end
unfoldable pub stated_bounds : ℕ → List Stated → List ℕ
stated_bounds o [] = o ∷ []
stated_bounds o (t ∷ ts) = o ∷ stated_bounds (o + length (drafts_stood t.stood)) ts

unfoldable pub unit_bounds : ℕ → List TextUnit → List ℕ
unit_bounds o [] = o ∷ []
unit_bounds o (u ∷ us) = o ∷ unit_bounds (o + length (drafts_unit u)) us

-- which statement is the first of each unit, and how many there are
unfoldable pub unit_firsts : ℕ → List TextUnit → List ℕ
unit_firsts o [] = o ∷ []
unit_firsts o (u ∷ us) = o ∷ unit_firsts (o + length (stated_by u.line u.body)) us

-- kinds and arguments, lines and bounds of the statements, and lines, bounds and first statements of the units hold us
pub record UnitsLaid (us : List TextUnit) (kinds args lines bounds ulines ubounds firsts : List ℕ) : Type 0 where
  pub kinds_held : kinds ≡ draft_kinds (drafts_stated (stated_in us))
  pub args_held : args ≡ draft_args (drafts_stated (stated_in us))
  pub lines_held : lines ≡ map (λ (t : Stated). t.line) (stated_in us)
  pub bounds_held : bounds ≡ stated_bounds 0 (stated_in us)
  pub unit_lines_held : ulines ≡ map (λ (u : TextUnit). u.line) us
  pub unit_bounds_held : ubounds ≡ unit_bounds 0 us
  pub firsts_held : firsts ≡ unit_firsts 0 us
