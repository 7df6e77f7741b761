-- What the open entry promises: l is the list afterwards.
use Rattle.std.specs.Prelude.{ℕ, ◌*◌, ◌≡◌, List}
use Rattle.std.proofs.lemmas.List.Edits.{sets}
use Rattle.limits.specs.Limits.{fault_bytes}
use Rattle.sheet.specs.Sheet.{entry_of}

-- `put_fault`: the bytes of a fault stand behind so many others, as far as there is room; the other bytes are as lent
abbrev pub PutsFault : List ℕ → ℕ → ℕ → ℕ → ℕ → ℕ → List ℕ → Type 0
PutsFault list count line code place column l =
    l ≡ sets list (fault_bytes * count)
    (entry_of (record { line = line; code = code; place = place; column = column }))
