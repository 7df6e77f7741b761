-- The definitions run: rows, and what the parser answers, by computation alone.
use Prim.Native.Nat.{suc, ◌+◌}
use mathlib.Core.Path.{◌≡◌, refl}
use mathlib.Core.Bool.{true, false}
use mathlib.Core.List.{List, [], ◌∷◌, ◌++◌, map}
use lib.Ieee.{Float, fin, neg}
use lib.IntN.{pos}
use lib.ListN.{replicate}
use Rattle.limits.specs.Limits.{levels}
use Rattle.tokens.specs.Symbol.{CONSTANTS, INTGRL, TIME, INSW, COMPAR, PROCED, ENDPRO, Symbol, mark, number}
use Rattle.tokens.specs.Symbol.{name, word}
use Rattle.drafts.specs.Tree.{times, insw, value, named, time, negated, two, three, constant_of, from, constants}
use Rattle.drafts.specs.Tree.{assignment, state, header, ending}
use Rattle.grammar.specs.Look.{next, rest, byte_of, give_to, factor_start, start_of}
use Rattle.grammar.specs.Parser.{Read, read, fault, bind, parse, many, initially, by_signed_number}
use Rattle.grammar.specs.Parser.{assigned, integrated, many_names, headed, statement, entire, read_row}

-- the number 7
abbrev seven : Float
seven = fin false 7 (pos 0)

-- names by a key each; the marks are 40 ( 41 ) 42 * 43 + 44 , 45 - 61 =
rows : List (List Symbol)
rows =
    -- CONST A=7,B=-7
    (word CONSTANTS ∷ name 1 ∷ mark 61 ∷ number seven ∷ mark 44 ∷ name 2 ∷ mark 61 ∷ mark 45 ∷ number seven ∷ [])
    -- A=-B*C
    ∷ (name 1 ∷ mark 61 ∷ mark 45 ∷ name 2 ∷ mark 42 ∷ name 3 ∷ [])
    -- A=INTGRL(B,-A)
    ∷ (name 1 ∷ mark 61 ∷ word INTGRL ∷ mark 40 ∷ name 2 ∷ mark 44 ∷ mark 45 ∷ name 1 ∷ mark 41 ∷ [])
    -- A=INSW(B,7,(TIME))
    ∷
    (name 1 ∷ mark 61 ∷ word INSW ∷ mark 40 ∷ name 2 ∷ mark 44 ∷ number seven ∷ mark 44 ∷ mark 40 ∷ word TIME ∷ mark
    41 ∷ mark 41 ∷ [])
    -- A=TIME*-7
    ∷ (name 1 ∷ mark 61 ∷ word TIME ∷ mark 42 ∷ mark 45 ∷ number seven ∷ [])
    -- TIME=7
    ∷ (word TIME ∷ mark 61 ∷ number seven ∷ [])
    -- A=B*
    ∷ (name 1 ∷ mark 61 ∷ name 2 ∷ mark 42 ∷ [])
    -- nothing
    ∷ []
    -- A= and one opening more than there are levels; the same behind A=INTGRL(7,
    ∷ (name 1 ∷ mark 61 ∷ replicate (suc levels) (mark 40))
    ∷ (name 1 ∷ mark 61 ∷ word INTGRL ∷ mark 40 ∷ number seven ∷ mark 44 ∷ replicate (suc levels) (mark 40))
    -- A= and as many openings as there are levels, INSW+
    ∷ (name 1 ∷ mark 61 ∷ replicate levels (mark 40) ++ word INSW ∷ mark 43 ∷ [])
    -- A=7)
    ∷ (name 1 ∷ mark 61 ∷ number seven ∷ mark 41 ∷ [])
    -- A=COMPAR(B)
    ∷ (name 1 ∷ mark 61 ∷ word COMPAR ∷ mark 40 ∷ name 2 ∷ mark 41 ∷ [])
    -- A=INTGRL(-B
    ∷ (name 1 ∷ mark 61 ∷ word INTGRL ∷ mark 40 ∷ mark 45 ∷ name 2 ∷ [])
    -- PROCED A,B=C(D,A)
    ∷
    (word PROCED ∷ name 1 ∷ mark 44 ∷ name 2 ∷ mark 61 ∷ name 3 ∷ mark 40 ∷ name 4 ∷ mark 44 ∷ name 1 ∷ mark 41 ∷ [])
    -- PROCED A=C()
    ∷ (word PROCED ∷ name 1 ∷ mark 61 ∷ name 3 ∷ mark 40 ∷ mark 41 ∷ [])
    -- PROCED A=C(TIME)
    ∷ (word PROCED ∷ name 1 ∷ mark 61 ∷ name 3 ∷ mark 40 ∷ word TIME ∷ mark 41 ∷ [])
    -- PROCED A,=C(D)
    ∷ (word PROCED ∷ name 1 ∷ mark 44 ∷ mark 61 ∷ name 3 ∷ mark 40 ∷ name 4 ∷ mark 41 ∷ [])
    -- PROCED A=C
    ∷ (word PROCED ∷ name 1 ∷ mark 61 ∷ name 3 ∷ [])
    -- ENDPRO
    ∷ (word ENDPRO ∷ [])
    -- ENDPRO A
    ∷ (word ENDPRO ∷ name 1 ∷ [])
    -- A=ENDPRO
    ∷ (name 1 ∷ mark 61 ∷ word ENDPRO ∷ [])
    ∷ []

-- what they say, or the fault with its code and place
wanted : List Read
wanted =
    read (constants (constant_of 1 seven ∷ constant_of 2 (fin true 7 (pos 0)) ∷ []))
    ∷ read (assignment 1 (negated (two times (named 2) (named 3))))
    ∷ read (state 1 (from 2) (negated (named 1)))
    ∷ read (assignment 1 (three insw (named 2) (value seven) time))
    ∷ fault 18 4
    ∷ fault 18 0
    ∷ fault 18 4
    ∷ fault 18 0
    ∷ fault 19 (2 + levels)
    ∷ fault 19 (6 + levels)
    ∷ fault 18 (3 + levels)
    ∷ fault 18 3
    ∷ fault 18 5
    ∷ fault 18 5
    ∷ read (header (1 ∷ 2 ∷ []) (4 ∷ 1 ∷ []))
    ∷ fault 18 5
    ∷ fault 18 5
    ∷ fault 18 3
    ∷ fault 18 4
    ∷ read ending
    ∷ fault 18 1
    ∷ fault 18 2
    ∷ []

-- each row is answered as wanted
tried : map read_row rows ≡ wanted
unfolding read_row entire statement integrated assigned headed many_names many initially by_signed_number parse bind
    byte_of factor_start start_of give_to next rest rows wanted neg
tried = refl
