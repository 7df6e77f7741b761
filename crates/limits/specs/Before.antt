-- The limits that request 9 changed, taken together, and as they were before it.
use Rattle.std.specs.Prelude.{ℕ}
use Rattle.limits.specs.Limits.{fault_room, text_bytes, text_lines, most_statements, most_definitions}

-- the limits of a text, each by the verdict that it is for: 1 the bytes lent for faults; 2 the text's bytes; 3 its
-- lines; 4 its statements; 6 its definitions
pub record Sizes : Type 0 where
  pub faults : ℕ
  pub bytes : ℕ
  pub lines : ℕ
  pub statements : ℕ
  pub definitions : ℕ

-- as they are
abbrev pub sizes : Sizes
sizes =
    record {
      faults = fault_room;
      bytes = text_bytes;
      lines = text_lines;
      statements = most_statements;
      definitions = most_definitions;
    }

-- as they were
abbrev pub sizes_before : Sizes
sizes_before = record { faults = 2048; bytes = 16384; lines = 512; statements = 256; definitions = 255 }

-- so many places the values and the derivatives had, a place for each slot, 0 to 255
abbrev pub slots_before : ℕ
slots_before = 256
