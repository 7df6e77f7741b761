-- Demand 1: each refusal has its number, is given exactly when its rule says, and writes only the fault list named for
-- it.
use Prim.Native.Nat.{ℕ}
use mathlib.Core.List.{List}
use lib.Ieee.{Float}
use Rattle.translator.specs.Rules.{Exactly, Writes, NamesRule}
use Rattle.translator.proofs.Rules as rules
use Rattle.translator.proofs.NamesGiven as given
use Rattle.evaluator.specs.Evaluate.{evaluated, started, stepped, RefusedUnwritten}
use Rattle.evaluator.proofs.Refused as refused

-- EXACTLY WHEN: a number is given if its rule holds and none before it; 0 if none does
pub exactly : (text : List ℕ) (f p : ℕ) → Exactly text f p
exactly = rules.exactly

-- WRITES ONLY what is named: the fault list for 5 and for 7, the program for 0. Else both stay as lent
pub writes : (text f p : List ℕ) → Writes text f p
writes = rules.writes

-- NAMES go by the verdict of translating, and then by their room: 10
pub names_rule : (text f o : List ℕ) → NamesRule text f o
names_rule = given.names_rule

-- A REFUSAL WRITES NOTHING: evaluating, starting and stepping
pub unwritten : (p : List ℕ) (h : Float) (v d : List Float)
    → RefusedUnwritten v d (evaluated p v d) × RefusedUnwritten v d (started p v d)
    × RefusedUnwritten v d (stepped p h v d)
unwritten = refused.unwritten
