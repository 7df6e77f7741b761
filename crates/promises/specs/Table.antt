-- The texts of the paper's table that are marked P, as the requests moved them, and texts of the requests, with their
-- verdicts and listings;
-- and the texts that are computed for the stack and for demand 2.
use Rattle.std.specs.Prelude.{ℕ, ◌≡◌, List, [], ◌∷◌, ◌++◌, Float}
use Prim.Native.String.{String}
use Rattle.std.specs.Float.{binary64}
use Rattle.std.specs.Float.Ieee.{of_bits}
use Rattle.laws.specs.Text.{bytes}
use Rattle.limits.specs.Limits.{fault_room, program_room}
use Rattle.sheet.specs.Sheet.{Fault, said}
use Rattle.sheet.specs.Reader.{sheet_of}
use Rattle.blocks.specs.Units.{stated_in}
use Rattle.blocks.specs.Inside.{block_faults}
use Rattle.model.specs.Definitions.{definitions}
use Rattle.model.specs.Faults.{faults21, name_faults}
use Rattle.model.specs.Text.{text_units}
use Rattle.records.specs.declared.Instr.TheVariants.{Constant, Initial, Value, Slot, Add, Sub, Mul, Neg, Limit}
use Rattle.records.specs.declared.Instr.TheVariants.{Store, Deriv, StoreAgain}
use Rattle.records.specs.Shape.{zero64, one64}
use Rattle.records.specs.Record.{Rec, rec}
use Rattle.translator.specs.Verdict.{Decision, faulty, translated, verdict_of, number_of}
use Rattle.listing_text.specs.Listing.{listing}

-- the numbers 2 and 3 that the texts have, by their bits
abbrev two64 : Float
two64 = of_bits binary64 0x4000_0000_0000_0000

abbrev three64 : Float
three64 = of_bits binary64 0x4008_0000_0000_0000

-- a fault as the listing prints it: line and code, line and column of its place
abbrev fault : ℕ → ℕ → ℕ → ℕ → Fault
fault l c p k = record { line = l; code = c; place = p; column = k }

-- a trial: a text, its verdict with the fault list or the records and the first lines of the ordered statements, and
-- its listing
pub record Trial : Type 0 where
  pub text : String
  pub verdict : Decision
  pub listing : String

abbrev trial : String → Decision → String → Trial
trial t v l = record { text = t; verdict = v; listing = l }

-- the tank
abbrev pub tank : String
tank = "* TANK\nPARAM K=2\nQ=K*H\nH=INTGRL(1,F-Q)\nF=LIMIT(0,3,TIME)\n"

-- its 15 records: the constant, the initial, then Q (line 3), F (line 5) and H (line 4). The slots are 1 K, 2 Q, 3 H, 4
-- F
abbrev tank_records : List Rec
tank_records =
    rec 2 (Constant 1 two64)
    ∷ rec 4 (Initial 3 one64)
    ∷ rec 3 (Slot 1)
    ∷ rec 3 (Slot 3)
    ∷ rec 3 Mul
    ∷ rec 3 (Store 2)
    ∷ rec 5 (Value zero64)
    ∷ rec 5 (Value three64)
    ∷ rec 5 (Slot 0)
    ∷ rec 5 Limit
    ∷ rec 5 (Store 4)
    ∷ rec 4 (Slot 4)
    ∷ rec 4 (Slot 2)
    ∷ rec 4 Sub
    ∷ rec 4 (Deriv 3)
    ∷ []

-- a block with two outputs, of which one is set twice
abbrev pub valve : String
valve = "PARAM K=2\nPROCED A,B=VALVE(C)\nA=C*K\nB=A+1\nA=A-B\nENDPRO\nC=TIME\nX=INTGRL(0,A+B)\n"

-- its 20 records: the constant, the initial, then C (line 7), the block (lines 3, 4 and 5) and X (line 8). The slots
-- are
-- 1 K, 2 A, 3 B, 4 C, 5 X
abbrev valve_records : List Rec
valve_records =
    rec 1 (Constant 1 two64)
    ∷ rec 8 (Initial 5 zero64)
    ∷ rec 7 (Slot 0)
    ∷ rec 7 (Store 4)
    ∷ rec 3 (Slot 4)
    ∷ rec 3 (Slot 1)
    ∷ rec 3 Mul
    ∷ rec 3 (Store 2)
    ∷ rec 4 (Slot 2)
    ∷ rec 4 (Value one64)
    ∷ rec 4 Add
    ∷ rec 4 (Store 3)
    ∷ rec 5 (Slot 2)
    ∷ rec 5 (Slot 3)
    ∷ rec 5 Sub
    ∷ rec 5 (StoreAgain 2)
    ∷ rec 8 (Slot 2)
    ∷ rec 8 (Slot 3)
    ∷ rec 8 Add
    ∷ rec 8 (Deriv 5)
    ∷ []

-- the texts marked P, the listing's second text, one with a comment inside a statement, those of places, and those of
-- procedural blocks
unfoldable pub trials : List Trial
trials =
    trial "" (translated [] []) "OK 0\n"
    ∷ trial tank (translated tank_records (3 ∷ 5 ∷ 4 ∷ [])) "OK 15\n3\n5\n4\n"
    ∷ trial "* TANK\nPARAM K=2\nQ=K*\nH=INTGRL(1,F-Q)\nF=LIMIT(0,3,TIME)\n"
    (faulty 5 (fault 3 18 3 4 ∷ [])) "NO 5\n3 18 3 4\n"
    ∷ trial "X=INTGRL(1,-X)"
    (translated (rec 1 (Initial 1 one64) ∷ rec 1 (Slot 1) ∷ rec 1 Neg ∷ rec 1 (Deriv 1) ∷ []) (1 ∷ [])) "OK 4\n1\n"
    ∷ trial "A=A+1" (faulty 7 (fault 1 24 1 1 ∷ [])) "NO 7\n1 24 1 1\n"
    ∷ trial "A=B\nB=A\nC=1" (faulty 7 (fault 1 24 1 1 ∷ fault 2 24 2 1 ∷ [])) "NO 7\n1 24 1 1\n2 24 2 1\n"
    ∷ trial "A=B\nB=A\nD=A" (faulty 7 (fault 1 24 1 1 ∷ fault 2 24 2 1 ∷ fault 3 24 3 1 ∷ []))
    "NO 7\n1 24 1 1\n2 24 2 1\n3 24 3 1\n"
    ∷ trial "CONST A=1,A=2" (faulty 7 (fault 1 21 1 1 ∷ [])) "NO 7\n1 21 1 1\n"
    ∷ trial "X=INTGRL(Y,1)\nY=2" (faulty 7 (fault 1 23 1 1 ∷ [])) "NO 7\n1 23 1 1\n"
    ∷ trial "A=1..." (faulty 5 (fault 1 11 1 6 ∷ [])) "NO 5\n1 11 1 6\n"
    ∷ trial "A=3...\n*2" (faulty 5 (fault 1 11 1 6 ∷ [])) "NO 5\n1 11 1 6\n"
    ∷ trial "A=3...\n*2...\n-2"
    (translated (rec 1 (Value three64) ∷ rec 1 (Value two64) ∷ rec 1 Sub ∷ rec 1 (Store 1) ∷ []) (1 ∷ [])) "OK 4\n1\n"
    ∷ trial "ABCDEFG=1" (faulty 5 (fault 1 15 1 1 ∷ [])) "NO 5\n1 15 1 1\n"
    ∷ trial "ABCDEF=1" (translated (rec 1 (Value one64) ∷ rec 1 (Store 1) ∷ []) (1 ∷ [])) "OK 2\n1\n"
    -- places: on later cards, behind a comment, at a parenthesis, at an early end on an empty card, at the first byte
    ∷ trial "A=1...\n+b" (faulty 5 (fault 1 14 2 2 ∷ [])) "NO 5\n1 14 2 2\n"
    ∷ trial "A=1+...\n* C\n 2B" (faulty 5 (fault 1 16 3 2 ∷ [])) "NO 5\n1 16 3 2\n"
    ∷ trial "A=...\n1E99" (faulty 5 (fault 1 17 2 1 ∷ [])) "NO 5\n1 17 2 1\n"
    ∷ trial "A=1...\n 2" (faulty 5 (fault 1 18 2 2 ∷ [])) "NO 5\n1 18 2 2\n"
    ∷ trial "A=1+...\n\n" (faulty 5 (fault 1 18 2 1 ∷ [])) "NO 5\n1 18 2 1\n"
    ∷ trial "A=((((((((((((((((...\nINSW(1,2,3)" (faulty 5 (fault 1 19 2 5 ∷ [])) "NO 5\n1 19 2 5\n"
    ∷ trial " A=1...\n...\n...\n...\n1" (faulty 5 (fault 1 12 1 1 ∷ [])) "NO 5\n1 12 1 1\n"
    -- procedural blocks: sorted as one, what stands inside in its order
    ∷ trial valve (translated valve_records (7 ∷ 2 ∷ 8 ∷ [])) "OK 20\n7\n2\n8\n"
    ∷ trial "D=B\nPROCED B=P(A)\nB=A\nENDPRO\nA=1"
    (translated
    (rec 5 (Value one64)
    ∷ rec 5 (Store 3)
    ∷ rec 3 (Slot 3)
    ∷ rec 3 (Store 2)
    ∷ rec 1 (Slot 2)
    ∷ rec 1 (Store 1)
    ∷ []) (5 ∷ 2 ∷ 1 ∷ [])) "OK 6\n5\n2\n1\n"
    -- 25: an end alone; a header that nothing ends; a header inside a pair
    ∷ trial "ENDPRO" (faulty 7 (fault 1 25 1 1 ∷ [])) "NO 7\n1 25 1 1\n"
    ∷ trial "PROCED A=P(B)\nPROCED C=Q(D)\nENDPRO" (faulty 7 (fault 1 25 1 1 ∷ [])) "NO 7\n1 25 1 1\n"
    ∷ trial "PROCED A=P(B)\nPROCED C=Q(D)\nENDPRO\nENDPRO" (faulty 7 (fault 2 25 2 1 ∷ [])) "NO 7\n2 25 2 1\n"
    -- 26: an output that nothing sets; an input assigned, and a name that is not allowed
    ∷ trial "PROCED A=P(B)\nENDPRO" (faulty 7 (fault 1 26 1 1 ∷ [])) "NO 7\n1 26 1 1\n"
    ∷ trial "PROCED A=P(B)\nB=1\nA=X\nA=A+1\nENDPRO"
    (faulty 7 (fault 2 26 2 1 ∷ fault 3 26 3 1 ∷ [])) "NO 7\n2 26 2 1\n3 26 3 1\n"
    -- 21 at a later statement outside, and none where a name is set again inside
    ∷ trial "PROCED A=P(B)\nA=B\nA=A+B\nENDPRO\nB=1\nA=2" (faulty 7 (fault 6 21 6 1 ∷ [])) "NO 7\n6 21 6 1\n"
    -- 22 at the header for its input, and outside for a name of the block's own
    ∷ trial "PROCED A=P(B)\nC=B\nA=C\nENDPRO\nD=C" (faulty 7 (fault 1 22 1 1 ∷ fault 5 22 5 1 ∷ []))
    "NO 7\n1 22 1 1\n5 22 5 1\n"
    -- 24 at the header alone
    ∷ trial "PROCED A=P(B)\nA=B\nENDPRO\nB=A" (faulty 7 (fault 1 24 1 1 ∷ fault 4 24 4 1 ∷ []))
    "NO 7\n1 24 1 1\n4 24 4 1\n"
    ∷ []

-- a text's verdict, with the room that the listing program lends, and its listing
pub record Shown : Type 0 where
  pub verdict : Decision
  pub listing : List ℕ

abbrev pub shown : Trial → Shown
shown r = record { verdict = verdict_of (bytes r.text) fault_room program_room; listing = listing (bytes r.text) }

abbrev pub wanted : Trial → Shown
wanted r = record { verdict = r.verdict; listing = bytes r.listing }

-- ---- further texts

-- 0+0*INSW(0,0, sixteen times inside one another, and 0+0*0 in the last: a statement of four lines
abbrev pub deck : List ℕ
deck =
    bytes "A=0+0*INSW(0,0,0+0*INSW(0,0,0+0*INSW(0,0,0+0*INSW(0,0,0+0*INSW(0,0,...\n"
    ++ bytes "0+0*INSW(0,0,0+0*INSW(0,0,0+0*INSW(0,0,0+0*INSW(0,0,0+0*INSW(0,0,...\n"
    ++ bytes "0+0*INSW(0,0,0+0*INSW(0,0,0+0*INSW(0,0,0+0*INSW(0,0,0+0*INSW(0,0,...\n"
    ++ bytes "0+0*INSW(0,0,0+0*0))))))))))))))))\n"

-- a loop, and a statement that hangs behind it
abbrev pub loop : List ℕ
loop = bytes "A=B\nB=A\nD=A\n"

-- no fault 25 or 26, no 21, and none of 22 and 23
abbrev pub Plain : List ℕ → Type 0
Plain text =
    (block_faults (said (sheet_of text)) ≡ [])
    × (faults21 [] (stated_in (text_units text)) ≡ [])
    × (name_faults (definitions (text_units text)) (text_units text) ≡ [])

-- the number of a text's verdict, with the room that the listing program lends
abbrev pub number_for : List ℕ → ℕ
number_for text = number_of (verdict_of text fault_room program_room)
