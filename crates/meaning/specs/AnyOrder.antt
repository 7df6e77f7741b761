-- Any good order will do: a text's units in another order in which each stands after all it uses.
use Rattle.std.specs.Prelude.{ℕ, List}
use Rattle.model.specs.Text.{text_units}
use Rattle.records.specs.Record.{program_bytes}
use Rattle.program.specs.Program.{program}
use Rattle.meaning.specs.Faithful.{Accepted, Faithful}
use Rattle.meaning.specs.RunsAlike.{RunsAlike}

-- the program of a text with its units, single statements and whole blocks, in the order q: by the rules of its own,
-- first the constants, then the initials, then each unit in postfix
abbrev pub program_in : List ℕ → List ℕ → List ℕ
program_in text q = program_bytes (program (text_units text) q)

-- OF A TEXT, its own program and an order q: the program in that order is accepted, runs as its own does, and no
-- statement of the text is lost in it
pub record AnyOrder (text own q : List ℕ) : Type 0 where
  pub accepted : Accepted (program_in text q)
  pub alike : RunsAlike own (program_in text q)
  pub faithful : Faithful text (program_in text q)
