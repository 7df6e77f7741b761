-- Two programs that run alike: whoever evaluates, starts or steps them can't tell the one from the other.
use Rattle.std.specs.Prelude.{ℕ, ◌≡◌, List, [], ◌∷◌, Float}
use Rattle.limits.specs.Limits.{slots}
use Rattle.evaluator.specs.Evaluate.{RunOutcome, evaluated, started, stepped, stepped_within}

-- with n slots, steps of a program one after the other, each of its own h, each from what the one before it left
unfoldable pub walked_within : ℕ → List ℕ → List Float → RunOutcome → RunOutcome
walked_within n p [] o = o
walked_within n p (h ∷ hs) o = walked_within n p hs (stepped_within n p h o.values o.derivs)

-- with the slots that there are
abbrev pub walked : List ℕ → List Float → RunOutcome → RunOutcome
walked p hs o = walked_within slots p hs o

-- from every lent values and derivatives, whatever their lengths: the same answer, and the same in every place of both
pub record RunsAlike (p r : List ℕ) : Type 0 where
  pub evaluates : (v d : List Float) → evaluated p v d ≡ evaluated r v d
  pub starts : (v d : List Float) → started p v d ≡ started r v d
  pub steps : (h : Float) (v d : List Float) → stepped p h v d ≡ stepped r h v d
  -- any number of steps, from whatever there was
  pub walks : (hs : List Float) (o : RunOutcome) → walked p hs o ≡ walked r hs o
  -- and from a start
  pub start_walks : (hs : List Float) (v d : List Float) → walked p hs (started p v d) ≡ walked r hs (started r v d)
