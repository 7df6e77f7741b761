-- `grammar::sign_op` meets its contract: only a minus writes.
use Rattle.std.proofs.Common.{ℕ, sym, ap, arith}
use Rattle.tokens.specs.Symbol.{mark}
use Rattle.grammar.specs.Look.{byte_of, add_op}
use Rattle.grammar.specs.Parser.{sign_drafts}
use Rattle.grammar.proofs.Ways.{plain_sign}
use Rattle.grammar.proofs.faces.sign_op.Goals as goal

pub returns-in-45 : goal.returns-in-45
unfolding byte_of
returns-in-45 c = sym (ap (λ (k : ℕ). sign_drafts (add_op (mark k))) c.in-45.is)

pub returns-in_default : goal.returns-in_default
returns-in_default c = sym (plain_sign _ (omega arith))
