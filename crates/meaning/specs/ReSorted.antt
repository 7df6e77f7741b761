-- Re-sorting a program, for those who have no text at hand: its statements in another order behind its constants and
-- initials. Said of all bytes as a program, whoever wrote them.
use Rattle.std.specs.Prelude.{ℕ, ◌*◌, ◌/◌, Bool, cond, ◌||◌, ◌≡◌, List, [], ◌∷◌, ◌++◌, map, eqb, length, get_or, take}
use Rattle.std.specs.Prelude.{drop}
use Rattle.limits.specs.Limits.{record_bytes}
use Rattle.laws.specs.Every.{Every}
use Rattle.laws.specs.Lists.{concat_map, numbers}
use Rattle.laws.specs.Runs.{front_run}
use Rattle.drafts.specs.Kinds.{kind_constant, kind_initial, kind_store, kind_rate, kind_again}
use Rattle.records.specs.declared.Instr.{Instr}
use Rattle.records.specs.Fields.{kind_of}
use Rattle.records.specs.Record.{decode_at}
use Rattle.meaning.specs.Faithful.{Accepted}
use Rattle.meaning.specs.RunsAlike.{RunsAlike}

-- ---- a list cut into parts, each up to and including a member that passes a test; what is left behind the last such
-- member is a part too

-- one member before the first part
abbrev pub before_parts : {A : Type 0} → A → List (List A) → List (List A)
before_parts a [] = (a ∷ []) ∷ []
before_parts a (s ∷ ss) = (a ∷ s) ∷ ss

unfoldable pub cut_behind : {A : Type 0} → (A → Bool) → List A → List (List A)
cut_behind t [] = []
cut_behind t (a ∷ l) =
    let parts = cut_behind t l in
    cond (t a) ((a ∷ []) ∷ parts) (before_parts a parts)

-- ---- the kinds of instructions

-- a constant or an initial: kind 1 or 2
abbrev pub stands_first : Instr → Bool
stands_first x = eqb (kind_of x) kind_constant || eqb (kind_of x) kind_initial

-- the end of a statement: kind 13 or 14
abbrev pub ends_statement : Instr → Bool
ends_statement x = eqb (kind_of x) kind_store || eqb (kind_of x) kind_rate

-- not kind 15, which stores again
abbrev pub NotAgain : Instr → Type 0
NotAgain x = kind_of x ≡ kind_again → ⊥

-- ---- the records of a program, each with its bytes
abbrev pub records_in : List ℕ → List (List ℕ)
records_in p = map (λ i. take record_bytes (drop (i * record_bytes) p)) (numbers (length p / record_bytes) 0)

-- what a record holds
abbrev pub instr_in : List ℕ → Instr
instr_in r = decode_at r 0

-- its constants and initials: all of these at its front
abbrev pub settings_in : List ℕ → List (List ℕ)
settings_in p = front_run (λ r. stands_first (instr_in r)) (records_in p)

-- its statements: what stands behind them, each up to and including its 13 or 14
abbrev pub cut_statements : List ℕ → List (List (List ℕ))
cut_statements p = cut_behind (λ r. ends_statement (instr_in r)) (drop (length (settings_in p)) (records_in p))

-- ---- RE-SORTED: the constants and initials as they stand, and behind them the statements in the order q
unfoldable pub re_sorted : List ℕ → List ℕ → List ℕ
re_sorted q p =
    concat_map (λ (r : List ℕ). r) (settings_in p ++ concat_map (λ (i : ℕ). get_or (cut_statements p) i []) q)

-- no record of a program is of kind 15
abbrev pub NoAgain : List ℕ → Type 0
NoAgain p = Every (λ (r : List ℕ). NotAgain (instr_in r)) (records_in p)

-- the program is accepted when it is re-sorted, and runs as before
pub record ReSorts (p q : List ℕ) : Type 0 where
  pub accepted : Accepted (re_sorted q p)
  pub alike : RunsAlike p (re_sorted q p)
