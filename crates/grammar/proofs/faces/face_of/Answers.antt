-- `grammar::face_of` meets its contract.
use Prim.Native.Nat.{ℕ}
use mathlib.Core.Path.{sym, ap}
use native.Mathlib.Omega.{arith}
use Rattle.tokens.specs.Held.{symbol_of}
use Rattle.grammar.specs.Look.{factor_start}
use Rattle.grammar.specs.Codes.{face_of}
use Rattle.grammar.proofs.Seen.{no_face}
use Rattle.grammar.proofs.faces.face_of.Goals as goal

pub returns-in-1 : goal.returns-in-1
unfolding factor_start
returns-in-1 c =
    λ a. sym (ap (λ (k : ℕ). face_of (factor_start (symbol_of k a))) c.in-1.is)

pub returns-in-2 : goal.returns-in-2
unfolding factor_start
returns-in-2 c =
    λ a. sym (ap (λ (k : ℕ). face_of (factor_start (symbol_of k a))) c.in-2.is)

pub returns-in-5 : goal.returns-in-5
unfolding factor_start
returns-in-5 c =
    λ a. sym (ap (λ (k : ℕ). face_of (factor_start (symbol_of k a))) c.in-5.is)

pub returns-in-40 : goal.returns-in-40
unfolding factor_start
returns-in-40 c =
    λ a. sym (ap (λ (k : ℕ). face_of (factor_start (symbol_of k a))) c.in-40.is)

pub returns-in-6 : goal.returns-in-6
unfolding factor_start
returns-in-6 c =
    λ a. sym (ap (λ (k : ℕ). face_of (factor_start (symbol_of k a))) c.in-6.is)

pub returns-in-7 : goal.returns-in-7
unfolding factor_start
returns-in-7 c =
    λ a. sym (ap (λ (k : ℕ). face_of (factor_start (symbol_of k a))) c.in-7.is)

pub returns-in-8 : goal.returns-in-8
unfolding factor_start
returns-in-8 c =
    λ a. sym (ap (λ (k : ℕ). face_of (factor_start (symbol_of k a))) c.in-8.is)

pub returns-in_default : goal.returns-in_default
returns-in_default c =
    λ a. no_face c.args.k a (omega arith) (omega arith) (omega arith) (omega arith) (omega arith) (omega arith)
    (omega arith)
