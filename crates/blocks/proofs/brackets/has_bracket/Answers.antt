-- A header or an end is sought among all statements.
use mathlib.Core.Path.{refl}
use lib.ListN.{length}
use Rattle.std.proofs.Common.{rules}
use Rattle.blocks.specs.Working.{bracketed}
use Rattle.blocks.proofs.Searched.{any_found_all}
use Rattle.blocks.proofs.brackets.has_bracket.Goals as goal

pub returns : goal.returns
returns c =
    let s = c.args.s.now in
    any_found_all (length s.lines.now) (bracketed s.bounds.now s.kinds.now) c.any.ensures.ran refl
    (λ x t q k. search rules)
