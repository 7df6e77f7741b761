-- `grammar::add_op` meets its contract: the operators + and -, and no other token.
use Prim.Native.Nat.{ℕ}
use mathlib.Core.Path.{sym, ap}
use native.Mathlib.Omega.{arith}
use borrow.Author.Tests.{ne_eqb}
use Rattle.tokens.specs.Symbol.{mark}
use Rattle.grammar.specs.Look.{byte_of, add_op}
use Rattle.grammar.specs.Codes.{kind_op}
use Rattle.grammar.proofs.faces.add_op.Goals as goal

pub returns-in-43 : goal.returns-in-43
unfolding byte_of
returns-in-43 c =
    sym (ap (λ (k : ℕ). kind_op (add_op (mark k))) c.in-43.is)

pub returns-in-45 : goal.returns-in-45
unfolding byte_of
returns-in-45 c =
    sym (ap (λ (k : ℕ). kind_op (add_op (mark k))) c.in-45.is)

pub returns-in_default : goal.returns-in_default
unfolding byte_of
returns-in_default c =
    simp (ne_eqb c.args.k 43 (omega arith), ne_eqb c.args.k 45 (omega arith))
