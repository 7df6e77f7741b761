-- `grammar::signed` meets its contract: only a minus negates.
use Rattle.std.proofs.Common.{ℕ, sym, ap}
use Rattle.tokens.specs.Symbol.{mark}
use Rattle.grammar.specs.Look.{byte_of, add_op}
use Rattle.grammar.specs.Parser.{signed_value}
use Rattle.grammar.proofs.Values.{plain_value}
use Rattle.grammar.proofs.forms.signed.Goals as goal

pub returns-then-k-eq45 : goal.returns-then-k-eq45
unfolding byte_of
returns-then-k-eq45 c = sym (ap (λ (k : ℕ). signed_value (add_op (mark k)) c.args.x) c.if-k-eq45.true)

pub returns-else-k-eq45 : goal.returns-else-k-eq45
returns-else-k-eq45 c = sym (plain_value _ _ c.if-k-eq45.false)
