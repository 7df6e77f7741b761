-- The stack: inside d levels at most 3 + 4 · (levels - d) values stand at once, so its places suffice for every text;
-- and one text fills them.
use Prim.Native.Nat.{ℕ, ◌+◌, ◌-◌, ◌*◌, ◌≤◌, max}
use mathlib.Core.Path.{◌≡◌, sym, ap, ◌∙◌}
use mathlib.Core.List.{List, [], ◌++◌, map, append-nil}
use native.Mathlib.Omega.{arith}
use Rattle.limits.specs.Limits.{levels, stack_places, fault_room, program_room}
use Rattle.tokens.specs.Symbol.{Symbol}
use Rattle.drafts.specs.Tree.{Tree}
use Rattle.drafts.specs.Items.{postfix, peak}
use Rattle.grammar.specs.Grammar.{expr, Der, of_assignment}
use Rattle.grammar.proofs.Stack.{stack_of}
use Rattle.model.specs.Faults.{order_of}
use Rattle.model.specs.Text.{text_units}
use Rattle.records.specs.Record.{instrs}
use Rattle.program.specs.Program.{instr_item, program}
use Rattle.translator.specs.Verdict.{Decision, verdict_of}
use Rattle.translator.proofs.Given.{verdict_ind}
use Rattle.meaning.specs.Depth.{highest, height_of}
use Rattle.meaning.proofs.Heights.{tree_height}
use Rattle.meaning.proofs.Levels.{program_level}
use Rattle.meaning.proofs.Texts.{text_low}
use Rattle.promises.specs.Table.{deck}
use Rattle.promises.proofs.Table.{computed}

-- ONE FACT OVER THE DEPTH: an expression inside d levels, of which 16 - d may still be opened
pub depth : (d : ℕ) (w : List Symbol) (e : Tree) → Der expr (levels - d) w e → peak e ≤ 3 + 4 * (levels - d)
depth d w e a = stack_of (of_assignment {k = 0} a)

-- so many values stand at once while its records run
pub depth_height : (d : ℕ) (w : List Symbol) (e : Tree) (slot : ℕ → ℕ) → Der expr (levels - d) w e
    → highest 0 (map (instr_item slot) (postfix e)) ≤ 3 + 4 * (levels - d)
unfolding highest
depth_height d w e slot a =
    let h : highest 0 (map (instr_item slot) (postfix e)) ≡ max (0 + peak e) (highest (0 + 1) []) =
    ap (highest 0) (sym (append-nil (map (instr_item slot) (postfix e)))) ∙ tree_height slot e 0 [] in
    omega (arith, depth d w e a)

-- THE PLACES SUFFICE for every text, whatever is lent
pub enough : (text : List ℕ) (f p : ℕ) → height_of (verdict_of text f p) ≤ stack_places
unfolding highest
enough text f p =
    let us = text_units text in
    let xs = instrs (program us (order_of us)) in
    let h : highest 0 (xs ++ []) ≤ max stack_places 0 = program_level us (order_of us) (text_low text) [] in
    verdict_ind (λ (v : Decision). height_of v ≤ stack_places) (λ n _. omega arith) (λ n x ys _. omega arith) text f p
    (rw append-nil at h)

-- THE DECK fills every place
pub filled : height_of (verdict_of deck fault_room program_room) ≡ stack_places
filled = computed.0
