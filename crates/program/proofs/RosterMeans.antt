-- What is entered of arrays that hold units: an entry for each definition.
use Prim.Native.Nat.{ℕ}
use mathlib.Core.Path.{◌≡◌, refl, sym, ap, ◌∙◌}
use mathlib.Core.List.{List, [], ◌∷◌, ◌++◌, map}
use lib.ListN.{length, length-map}
use Rattle.laws.specs.Lists.{concat_map}
use Rattle.laws.specs.Places.{only_if}
use Rattle.laws.proofs.Concats.{map_concat}
use Rattle.laws.proofs.Along.{gather_over}
use Rattle.drafts.specs.Tree.{plain, from}
use Rattle.drafts.specs.Drafts.{Draft, draft}
use Rattle.drafts.specs.Kinds.{kind_store, kind_rate, defines}
use Rattle.blocks.specs.Units.{constants, assignment, state, given, own, anew, TextUnit, Stood, alone, heading}
use Rattle.blocks.specs.Units.{inner, closing, Stated, stated_in}
use Rattle.blocks.specs.Layout.{sets_kind, drafts_stood, UnitsLaid}
use Rattle.model.specs.Definitions.{defined_by, definitions}
use Rattle.model.proofs.StatementDrafts.{Plain, expression_none, inner_none}
use Rattle.model.proofs.SheetWalk.{sheet_drafts, sheet_kinds, sheet_args, stated_lines, sheet_bounds, kind_at, arg_at}
use Rattle.model.proofs.SheetWalk.{line_at, in_part, by_statement}
use Rattle.model.proofs.SheetKeys.{defined_in}
use Rattle.program.specs.Roster.{what_constant, what_state, Entry, entry, entry_for}
use Rattle.program.specs.Written.{what_kind, entry_at, entries_of, entries_in}

-- the entry of a draft in a statement with number l
abbrev draft_entry : ℕ → Draft → List Entry
draft_entry l d = only_if (defines d.kind) (entry d.arg (what_kind d.kind) l)

-- plain drafts have none
plain_none : (l k a : ℕ) → Plain k → draft_entry l (draft k a) ≡ []
plain_none l k a p = rw p.0

-- a header has none
heading_none : (l : ℕ) (os is : List ℕ) → concat_map (draft_entry l) (drafts_stood (heading os is)) ≡ []
unfolding concat_map
heading_none l [] [] = refl
heading_none l [] (k ∷ is) = heading_none l [] is
heading_none l (k ∷ os) is = heading_none l os is

-- a statement has those of its definitions
stood_entries : (l : ℕ) (x : Stood) → concat_map (draft_entry l) (drafts_stood x) ≡ map entry_for (defined_by l x)
unfolding concat_map
stood_entries l (alone (constants [])) = refl
stood_entries l (alone (constants (c ∷ cs))) =
    ap (λ r. entry c.key what_constant l ∷ r) (stood_entries l (alone (constants cs)))
stood_entries l (alone (assignment k t)) = expression_none (draft_entry l) (plain_none l) t (draft kind_store k)
stood_entries l (alone (state k (plain x) t)) =
    ap (λ r. entry k what_state l ∷ r) (expression_none (draft_entry l) (plain_none l) t (draft kind_rate k))
stood_entries l (alone (state k (from c) t)) =
    ap (λ r. entry k what_state l ∷ r) (expression_none (draft_entry l) (plain_none l) t (draft kind_rate k))
stood_entries l (heading os is) = heading_none l os is
stood_entries l (inner k t given) =
    inner_none (draft_entry l) (λ k a p _. plain_none l k a p) t (draft (sets_kind given) k)
stood_entries l (inner k t own) = inner_none (draft_entry l) (λ k a p _. plain_none l k a p) t (draft (sets_kind own) k)
stood_entries l (inner k t anew) =
    inner_none (draft_entry l) (λ k a p _. plain_none l k a p) t (draft (sets_kind anew) k)
stood_entries l closing = refl

module _ (us : List TextUnit) where
  -- of one statement
  entries_at : (a : List Stated) (t : Stated) (b : List Stated) → stated_in us ≡ a ++ t ∷ b
      → entries_of (stated_lines us) (sheet_bounds us) (sheet_kinds us) (sheet_args us) (length a)
      ≡ map entry_for (defined_in t)
  entries_at a t b p =
      let all = sheet_drafts us in
      let own = in_part (by_statement us) a t b p (entry_at (sheet_kinds us) (sheet_args us) t.line)
      (draft_entry t.line) (λ i. rw (kind_at all i, arg_at all i)) in
      rw (line_at (λ (t : Stated). t.line) (stated_in us) a t b p) (own ∙ stood_entries t.line t.stood)

  -- of all
  entries_of_holds : entries_in (stated_lines us) (sheet_bounds us) (sheet_kinds us) (sheet_args us)
      ≡ map entry_for (definitions us)
  unfolding entries_in
  entries_of_holds =
      rw (length-map (stated_in us) (λ (t : Stated). t.line))
      (gather_over (entries_of (stated_lines us) (sheet_bounds us) (sheet_kinds us) (sheet_args us))
      (λ t. map entry_for (defined_in t)) (stated_in us) entries_at
      ∙ sym (map_concat entry_for defined_in (stated_in us)))

-- THE ENTRIES of arrays that hold the units us are those of their definitions
pub entries_meant : (us : List TextUnit) {kinds args lines bounds ulines ubounds firsts : List ℕ}
    → UnitsLaid us kinds args lines bounds ulines ubounds firsts
    → entries_in lines bounds kinds args ≡ map entry_for (definitions us)
entries_meant us laid =
    rw (laid.kinds_held, laid.args_held, laid.lines_held, laid.bounds_held) (entries_of_holds us)
