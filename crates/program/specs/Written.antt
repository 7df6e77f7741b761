-- The program as code writes it: by place, over the arrays of a sheet whose names are resolved. Every read past an end
-- gives 0.
use Rattle.std.specs.Prelude.{ℕ, suc, ◌+◌, ◌-◌, ◌*◌, ◌/◌, ◌%◌, min, ◌≡◌, cond, List, [], ◌∷◌, ◌++◌, eqb, length, get_or}
use Rattle.std.specs.Prelude.{take}
use Rattle.std.proofs.lemmas.List.Edits.{sets}
use Rattle.limits.specs.Limits.{record_bytes, roster_bytes}
use Rattle.laws.specs.Places.{gather, only_if}
use Rattle.bits.specs.Low.{low_bytes}
use Rattle.drafts.specs.Kinds.{kind_constant, kind_initial, kind_from, kind_push, kind_fetch, kind_clock, is_step}
use Rattle.drafts.specs.Kinds.{step_kind}
use Rattle.drafts.specs.Kinds.{kind_own, writes, defines}
use Rattle.drafts.specs.Places.{begins, ends, in_statement, first_kind, home_of}
use Rattle.program.specs.Roster.{what_constant, what_state, what_assigned, what_hidden, Entry, entry, entries_from}

-- the sixteen bytes of a record
abbrev pub field_bytes : ℕ → ℕ → ℕ → ℕ → List ℕ
field_bytes kind slot line bits = kind ∷ 0 ∷ (low_bytes 2 slot ++ (low_bytes 4 line ++ low_bytes 8 bits))

-- its first eight bytes as a number, of a kind below 256
abbrev pub head_of : ℕ → ℕ → ℕ → ℕ
head_of kind slot line = kind + 65536 * (slot % 65536) + 4294967296 * (line % 4294967296)

-- ---- how many records drafts write
unfoldable pub record_count : List ℕ → ℕ
record_count [] = 0
record_count (k ∷ kinds) = cond (writes k) (suc (record_count kinds)) (record_count kinds)

-- ---- the value behind a constant or an initial at place i: its bits, or those behind the constant that the name is
abbrev pub value_at : List ℕ → List ℕ → List ℕ → ℕ → ℕ
value_at places kinds slots i = cond (eqb (get_or kinds (i + 1) 0) kind_from)
    (get_or slots (home_of places (get_or slots (i + 1) 0) + 1) 0) (get_or slots (i + 1) 0)

-- the record of a constant or of an initial, of the phase
abbrev pub setting_at : ℕ → List ℕ → List ℕ → List ℕ → ℕ → ℕ → List ℕ
setting_at phase places kinds slots line i =
    cond (eqb (get_or kinds i 0) phase) (field_bytes phase (get_or slots i 0) line (value_at places kinds slots i)) []

-- the record of a draft of an expression, or of a store or derivative
abbrev pub step_bytes : ℕ → ℕ → ℕ → List ℕ
step_bytes kind arg line =
    cond (eqb kind kind_push) (field_bytes kind_push 0 line arg)
    (cond (eqb kind kind_clock) (field_bytes kind_fetch 0 line 0)
    (cond (is_step kind) (field_bytes (step_kind kind) arg line 0) []))

abbrev pub step_at : List ℕ → List ℕ → ℕ → ℕ → List ℕ
step_at kinds slots line i = step_bytes (get_or kinds i 0) (get_or slots i 0) line

-- of n drafts of a statement so many can be a setting of the phase: an initial is only ever the first
abbrev pub reach : ℕ → ℕ → ℕ
reach phase n = cond (eqb phase kind_initial) (min 1 n) n

-- ---- of a statement: its settings of a phase, where it begins with one; its steps
abbrev pub settings_of : ℕ → List ℕ → List ℕ → List ℕ → List ℕ → List ℕ → ℕ → List ℕ
settings_of phase places lines bounds kinds slots j =
    cond (eqb (first_kind bounds kinds j) phase)
    (gather (setting_at phase places kinds slots (get_or lines j 0)) (reach phase (ends bounds j - begins bounds j))
    (begins bounds j)) []

abbrev pub steps_of : List ℕ → List ℕ → List ℕ → List ℕ → ℕ → List ℕ
steps_of lines bounds kinds slots j = in_statement bounds (step_at kinds slots (get_or lines j 0)) j

-- of a unit: those of its statements, of which firsts names the first
abbrev pub unit_steps : List ℕ → List ℕ → List ℕ → List ℕ → List ℕ → ℕ → List ℕ
unit_steps firsts lines bounds kinds slots j = in_statement firsts (steps_of lines bounds kinds slots) j

-- of the ordered units: order gives places in equated
unfoldable pub ordered_steps : List ℕ → List ℕ → List ℕ → List ℕ → List ℕ → List ℕ → List ℕ → List ℕ
ordered_steps equated firsts lines bounds kinds slots [] = []
ordered_steps equated firsts lines bounds kinds slots (r ∷ order) =
    unit_steps firsts lines bounds kinds slots (get_or equated r 0)
    ++ ordered_steps equated firsts lines bounds kinds slots order

-- first all constants in text order, then all initials likewise, then each ordered unit
unfoldable pub written_program : List ℕ → List ℕ → List ℕ → List ℕ → List ℕ → List ℕ → List ℕ → List ℕ → List ℕ
written_program places equated firsts lines bounds kinds slots order =
    gather (settings_of kind_constant places lines bounds kinds slots) (length lines) 0
    ++
    (gather (settings_of kind_initial places lines bounds kinds slots)
    (length lines) 0 ++ ordered_steps equated firsts lines bounds kinds slots order)

-- ---- the roster, before names are resolved

-- what a draft of this kind that defines its name says that it is
abbrev pub what_kind : ℕ → ℕ
what_kind k =
    cond (eqb k kind_constant) what_constant
    (cond (eqb k kind_initial) what_state (cond (eqb k kind_own) what_hidden what_assigned))

-- the entry of the draft at place i, if it defines a name
abbrev pub entry_at : List ℕ → List ℕ → ℕ → ℕ → List Entry
entry_at kinds args line i =
    only_if (defines (get_or kinds i 0)) (entry (get_or args i 0) (what_kind (get_or kinds i 0)) line)

-- of a statement: those of its drafts
abbrev pub entries_of : List ℕ → List ℕ → List ℕ → List ℕ → ℕ → List Entry
entries_of lines bounds kinds args j = in_statement bounds (entry_at kinds args (get_or lines j 0)) j

unfoldable pub entries_in : List ℕ → List ℕ → List ℕ → List ℕ → List Entry
entries_in lines bounds kinds args = gather (entries_of lines bounds kinds args) (length lines) 0

-- of entries as many as there is room for behind n others stand from there on, and r is how many there are then
pub record Enters (es : List Entry) (n r : ℕ) (old new : List ℕ) : Type 0 where
  pub counted : r ≡ n + length (take (length old / roster_bytes - n) es)
  pub written : new ≡ sets old (roster_bytes * n) (entries_from (suc n) (take (length old / roster_bytes - n) es))

-- ---- what a function that writes says of the bytes that it is lent

-- of the bytes of records, those of the whole records for which there is room
abbrev pub fitting : ℕ → List ℕ → List ℕ
fitting room what = take (record_bytes * (room / record_bytes)) what

-- these stand from place w on, and r is the place behind them
pub record Fills (what : List ℕ) (w r : ℕ) (old new : List ℕ) : Type 0 where
  pub behind : r ≡ w + length (fitting (length old - w) what)
  pub written : new ≡ sets old w (fitting (length old - w) what)
