-- What a statement writes, as code holds it: a row of drafts, each two numbers. A draft is a record to be, with a
-- name's key in the place of its slot; behind a constant's and an initial's stands another with its value.
use Rattle.std.specs.Prelude.{ℕ, List, [], ◌∷◌, ◌++◌, map}
use Rattle.std.specs.Float.{binary64}
use Rattle.std.specs.Float.Ieee.{to_bits}
use Rattle.laws.specs.Lists.{concat_map}
use Rattle.drafts.specs.Tree.{Tree, value, named, time, negated, two, three}
use Rattle.drafts.specs.Tree.{Constant, Initial, plain, from, Says, constants, assignment, state}
use Rattle.drafts.specs.Tree.{header, ending}
use Rattle.drafts.specs.Items.{Item, push, fetch, clock, negate, apply_two, apply_three, postfix}
use Rattle.drafts.specs.Kinds.{kind_constant, kind_initial, kind_number, kind_from, kind_push, kind_fetch, kind_clock}
use Rattle.drafts.specs.Kinds.{kind_two, kind_negate}
use Rattle.drafts.specs.Kinds.{kind_three, kind_store, kind_rate, kind_output, kind_input, kind_ending}

pub record Draft : Type 0 where
  pub kind : ℕ
  pub arg : ℕ

abbrev pub draft : ℕ → ℕ → Draft
draft k a = record { kind = k; arg = a }

abbrev pub draft_item : Item → Draft
draft_item (push x) = draft kind_push (to_bits binary64 x)
draft_item (fetch k) = draft kind_fetch k
draft_item clock = draft kind_clock 0
draft_item negate = draft kind_negate 0
draft_item (apply_two o) = draft (kind_two o) 0
draft_item (apply_three o) = draft (kind_three o) 0

-- an expression's drafts, in postfix (law `drafted_items`: they are those of its items)
unfoldable pub drafted : Tree → List Draft
drafted (value x) = draft kind_push (to_bits binary64 x) ∷ []
drafted (named k) = draft kind_fetch k ∷ []
drafted time = draft kind_clock 0 ∷ []
drafted (negated a) = drafted a ++ (draft kind_negate 0 ∷ [])
drafted (two o a b) = drafted a ++ (drafted b ++ (draft (kind_two o) 0 ∷ []))
drafted (three o a b c) = drafted a ++ (drafted b ++ (drafted c ++ (draft (kind_three o) 0 ∷ [])))

-- a constant, and an initial: the name and the value behind it
abbrev pub constant_drafts : Constant → List Draft
constant_drafts c = draft kind_constant c.key ∷ draft kind_number (to_bits binary64 c.worth) ∷ []

abbrev pub initial_draft : Initial → Draft
initial_draft (plain x) = draft kind_number (to_bits binary64 x)
initial_draft (from k) = draft kind_from k

-- an expression, and what is done with its value; the names of a block's header, and its end
abbrev pub drafts_of : Says → List Draft
drafts_of (constants cs) = concat_map constant_drafts cs
drafts_of (assignment k e) = map draft_item (postfix e) ++ (draft kind_store k ∷ [])
drafts_of (state k i e) =
    draft kind_initial k ∷ initial_draft i ∷ (map draft_item (postfix e) ++ (draft kind_rate k ∷ []))
drafts_of (header os is) = map (draft kind_output) os ++ map (draft kind_input) is
drafts_of ending = draft kind_ending 0 ∷ []
