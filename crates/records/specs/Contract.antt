-- What the open entries promise: r is the answer.
use Rattle.std.specs.Prelude.{ℕ, ◌≡◌, List}
use Rattle.records.specs.declared.Instr.{Instr}
use Rattle.records.specs.Decode.{read_at, decoded_at}

-- `read`: the instruction of record n by its kind; past the last whole record the refusal
abbrev pub ReadsRecord : List ℕ → ℕ → Instr → Type 0
ReadsRecord program n r = r ≡ read_at program n

-- `decode`: the instruction of record n, or the refusal
abbrev pub Decodes : List ℕ → ℕ → Instr → Type 0
Decodes program n r = r ≡ decoded_at program n
