-- What the open entries promise: r is the answer, o the bytes afterwards.
use Rattle.std.specs.Prelude.{ℕ, ◌/◌, ◌≡◌, List, length, take}
use Rattle.std.proofs.lemmas.List.Edits.{sets}
use Rattle.limits.specs.Limits.{roster_bytes}
use Rattle.program.specs.Roster.{entries_from}
use Rattle.program.specs.Written.{record_count, written_program, fitting, entries_in}

-- `count_records`: how many records the drafts of these kinds write
abbrev pub CountsRecords : List ℕ → ℕ → Type 0
CountsRecords kinds r = r ≡ record_count kinds

-- `put_program`: of the program's records as many as there is room for stand at the front, the other bytes are as lent;
-- how many bytes these are
abbrev pub PutsProgram : List ℕ → List ℕ → List ℕ → List ℕ → List ℕ → List ℕ → List ℕ → List ℕ → List ℕ → ℕ → List ℕ
    → Type 0
PutsProgram places equated firsts lines bounds kinds slots order out r o =
    let q = fitting (length out) (written_program places equated firsts lines bounds kinds slots order) in
    (r ≡ length q) × (o ≡ sets out 0 q)

-- `put_roster`: of the roster's entries as many as there is room for stand at the front, the other bytes are as lent;
-- how many these are
abbrev pub PutsRoster : List ℕ → List ℕ → List ℕ → List ℕ → List ℕ → ℕ → List ℕ → Type 0
PutsRoster lines bounds kinds args out r o =
    let es = take (length out / roster_bytes) (entries_in lines bounds kinds args) in
    (r ≡ length es) × (o ≡ sets out 0 (entries_from 1 es))
