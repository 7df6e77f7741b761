-- `grammar::skip_of` meets its contract: + and - are signs.
use Rattle.std.proofs.Common.{ℕ, sym, ap, arith}
use Rattle.std.proofs.lemmas.Bool.Decides.{nat_tests}
use mathlib.Core.Logic.{⊎_elim}
use Rattle.tokens.specs.Symbol.{mark}
use Rattle.grammar.specs.Look.{byte_of, add_op}
use Rattle.grammar.specs.Codes.{skip_of}
use Rattle.grammar.proofs.faces.skip_of.Goals as goal

pub returns-in-43 : goal.returns-in-43
unfolding byte_of
returns-in-43 c =
    ⊎_elim (λ z. sym (ap (λ (k : ℕ). skip_of (add_op (mark k))) z))
    (λ z. sym (ap (λ (k : ℕ). skip_of (add_op (mark k))) z)) c.in-43.is

pub returns-in_default : goal.returns-in_default
unfolding byte_of
returns-in_default c = grind (arith, nat_tests)
