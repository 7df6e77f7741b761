-- Why an order must be good and a block whole: the tank in two orders, and a block that is taken apart.
use Rattle.std.specs.Prelude.{ℕ, ◌≡◌, List, [], ◌∷◌, get_or, replicate, Float}
use Rattle.std.specs.Float.{nan, binary64}
use Rattle.std.specs.Float.Ieee.{of_bits}
use Rattle.laws.specs.Text.{bytes}
use Rattle.limits.specs.Limits.{slots}
use Rattle.model.specs.Text.{text_units}
use Rattle.records.specs.declared.Instr.TheVariants.{Constant, Slot, Add, Store, StoreAgain}
use Rattle.records.specs.Record.{rec, program_bytes, instrs, decoded}
use Rattle.records.specs.Shape.{zero64, one64}
use Rattle.program.specs.Program.{program}
use Rattle.evaluator.specs.Judge.{Answer}
use Rattle.evaluator.specs.Judge.{answer, judge}
use Rattle.evaluator.specs.Evaluate.{ran}
use Rattle.meaning.specs.ReSorted.{re_sorted}
use Rattle.promises.specs.Table.{tank}

-- ---- the tank. Its units are 0 Q, 1 H and 2 F; H uses Q and F. Its own order is Q, F, H

-- another good order: F, Q, H
abbrev pub tank_sorted : List ℕ
tank_sorted = 2 ∷ 0 ∷ 1 ∷ []

-- H before F, which it uses
abbrev pub tank_early : List ℕ
tank_early = 0 ∷ 1 ∷ 2 ∷ []

-- what the judge says of the tank's records in an order
abbrev pub tank_judged : List ℕ → Answer
tank_judged q = judge (instrs (program (text_units (bytes tank)) q))

-- the good one is taken; the other is refused for record 6, which pushes F before it is set
pub record SortingNeeded : Type 0 where
  pub sorted : tank_judged tank_sorted ≡ answer 0 0
  pub early : tank_judged tank_early ≡ answer 3 6

-- ---- a block that sets a name again: PARAM P=1, PROCED A,B=SPLIT(P), T=P, A=T, T=P+P, B=T, ENDPRO. The slots are 1 P,
-- 2 T, 3 A, 4 B
abbrev pub split : List ℕ
split =
    program_bytes
    (rec 1 (Constant 1 one64)
    ∷ rec 3 (Slot 1)
    ∷ rec 3 (Store 2)
    ∷ rec 4 (Slot 2)
    ∷ rec 4 (Store 3)
    ∷ rec 5 (Slot 1)
    ∷ rec 5 (Slot 1)
    ∷ rec 5 Add
    ∷ rec 5 (StoreAgain 2)
    ∷ rec 6 (Slot 2)
    ∷ rec 6 (Store 4)
    ∷ [])

-- cut behind each 13 it has T=P, then A=T, and then T=P+P with B=T. With the last two exchanged
abbrev pub split_apart : List ℕ
split_apart = re_sorted (0 ∷ 2 ∷ 1 ∷ []) split

-- what evaluating leaves in A, from zeros
abbrev pub left_in_a : List ℕ → Float
left_in_a p =
    let zeros = replicate slots zero64 in
    get_or (ran p zeros zeros).values 3 nan

-- it is taken whole and apart; but A is 1, and apart 2
pub record BlockWhole : Type 0 where
  pub taken : judge (decoded split) ≡ answer 0 0
  pub taken_apart : judge (decoded split_apart) ≡ answer 0 0
  pub whole : left_in_a split ≡ one64
  pub apart : left_in_a split_apart ≡ of_bits binary64 0x4000_0000_0000_0000
