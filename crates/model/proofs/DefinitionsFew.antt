-- There are no more definitions than settings of names.
use Prim.Native.Nat.{ℕ, ◌≤◌}
use mathlib.Core.List.{List}
use native.Mathlib.Omega.{arith}
use lib.ListN.{length, length-map}
use Rattle.drafts.specs.Tree.{Constant, constants as constants_said}
use Rattle.sheet.specs.Sheet.{Numbered}
use Rattle.blocks.specs.Units.{constants, Sets, given, own, anew, alone, Stated}
use Rattle.blocks.specs.Members.{settings_by, settings, units_of}
use Rattle.blocks.proofs.StatedFew.{few_stated}
use Rattle.model.specs.Definitions.{defined, constant, defined_inside, defined_by, definitions}

-- inside a block a setting defines its name at most
inside_few : (l k : ℕ) (s : Sets) → length (defined_inside l k s) ≤ 1
inside_few l k given = omega arith
inside_few l k own = omega arith
inside_few l k anew = omega arith

-- as many definitions as constants
constants_many : (l : ℕ) (cs : List Constant) → length (defined_by l (alone (constants cs))) ≤ length
    (settings_by (constants_said cs))
constants_many l cs =
    omega (
      arith,
      length-map cs (λ (c : Constant). defined l c.key (constant c.worth)),
      length-map cs
          (λ (c : Constant). c.key),
    )

pub definitions_few : (ss : List Numbered) → length (definitions (units_of ss)) ≤ length (settings ss)
definitions_few ss =
    few_stated (λ (t : Stated). defined_by t.line t.stood) settings_by
    (record {
      of_constants = constants_many;
      of_assignment = λ l k e. omega arith;
      of_state = λ l k i e. omega arith;
      of_inner = λ l k e s. inside_few l k s;
      of_header = λ l os is. omega arith;
      of_ending = λ l. omega arith;
    }) ss
