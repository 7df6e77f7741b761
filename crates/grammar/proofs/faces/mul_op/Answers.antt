-- `grammar::mul_op` meets its contract: the operators * and /, and no other token.
use Prim.Native.Nat.{ℕ}
use mathlib.Core.Path.{sym, ap}
use native.Mathlib.Omega.{arith}
use borrow.Author.Tests.{ne_eqb}
use Rattle.tokens.specs.Symbol.{mark}
use Rattle.grammar.specs.Look.{byte_of, mul_op}
use Rattle.grammar.specs.Codes.{kind_op}
use Rattle.grammar.proofs.faces.mul_op.Goals as goal

pub returns-in-42 : goal.returns-in-42
unfolding byte_of
returns-in-42 c =
    sym (ap (λ (k : ℕ). kind_op (mul_op (mark k))) c.in-42.is)

pub returns-in-47 : goal.returns-in-47
unfolding byte_of
returns-in-47 c =
    sym (ap (λ (k : ℕ). kind_op (mul_op (mark k))) c.in-47.is)

pub returns-in_default : goal.returns-in_default
unfolding byte_of
returns-in_default c =
    simp (ne_eqb c.args.k 42 (omega arith), ne_eqb c.args.k 47 (omega arith))
