-- The paper's limits, each named once. No other file has these digits.
use Rattle.std.specs.Prelude.{ℕ}

-- ---- the verdict

-- verdict 1: the lent fault list is shorter
abbrev pub fault_room : ℕ
fault_room = 4096

-- verdict 2: the text has more bytes
abbrev pub text_bytes : ℕ
text_bytes = 32768

-- verdict 3: it has more lines
abbrev pub text_lines : ℕ
text_lines = 1024

-- verdict 4: it has more statements
abbrev pub most_statements : ℕ
most_statements = 512

-- verdict 6: it has more definitions
abbrev pub most_definitions : ℕ
most_definitions = 1023

-- verdict 8, and the evaluator's 2: more records
abbrev pub most_records : ℕ
most_records = 4096

-- ---- a statement

-- fault 12: more lines
abbrev pub most_cards : ℕ
most_cards = 4

-- fault 13: a line of it has more bytes
abbrev pub card_bytes : ℕ
card_bytes = 72

-- fault 15: a name has more characters
abbrev pub name_bytes : ℕ
name_bytes = 6

-- fault 17: m is larger
abbrev pub most_digits : ℕ
most_digits = 999999999999999

-- fault 17: k is further from 0
abbrev pub most_tens : ℕ
most_tens = 22

-- an exponent has one digit, or as many as this
abbrev pub exponent_digits : ℕ
exponent_digits = 2

-- fault 19: one level more
abbrev pub levels : ℕ
levels = 16

-- ---- the program and the evaluator

-- a record's bytes, and a fault's in the fault list
abbrev pub record_bytes : ℕ
record_bytes = 16

abbrev pub fault_bytes : ℕ
fault_bytes = 8

-- values and derivatives: a place for each slot, 0 to 1,023
abbrev pub slots : ℕ
slots = 1024

-- the places of the stack
abbrev pub stack_places : ℕ
stack_places = 67

-- the bytes that the listing program lends for the program; for the fault list it lends faultRoom
abbrev pub program_room : ℕ
program_room = 65536

-- ---- beyond the paper: the roster, a name for every slot

-- an entry's bytes
abbrev pub roster_bytes : ℕ
roster_bytes = 16
