-- What the open entries promise: what `translate`, `names`, `evaluate`, `start` and `step` do, for the answers of fixed
-- layout that other languages get.
use Rattle.std.specs.Prelude.{ℕ, ◌≡◌, List, Float}
use Rattle.translator.specs.Verdict.{Translation, translation}
use Rattle.translator.specs.Names.{NamesGiven, names_given}
use Rattle.evaluator.specs.Judge.{answer}
use Rattle.evaluator.specs.Evaluate.{run_outcome, evaluated, started, stepped}
use Rattle.floesedge.specs.declared.CVerdict.{CVerdict}
use Rattle.floesedge.specs.declared.CAnswer.{CAnswer}

-- `floesedge_translate`: from a text and the lent buffers f and p number, count and the buffers f' and p' are those of
-- the translation
abbrev pub TranslatesFixed : List ℕ → List ℕ → List ℕ → CVerdict → List ℕ → List ℕ → Type 0
TranslatesFixed text f p r f' p' =
    ◌≡◌ {A = Translation} (record { number = r.number; count = r.count; faults = f'; program = p' })
    (translation text f p)

-- `floesedge_names`: with f and o lent, those of the text's naming
abbrev pub NamesFixed : List ℕ → List ℕ → List ℕ → CVerdict → List ℕ → List ℕ → Type 0
NamesFixed text f o r f' o' =
    ◌≡◌ {A = NamesGiven} (record { number = r.number; count = r.count; faults = f'; roster = o' })
    (names_given text f o)

-- `floesedge_evaluate`: on program p, with values v and derivatives d lent, number, record and what the buffers then
-- hold are those of evaluating
abbrev pub EvaluatesFixed : List ℕ → List Float → List Float → CAnswer → List Float → List Float → Type 0
EvaluatesFixed p v d r v' d' = run_outcome (answer r.number r.record) v' d' ≡ evaluated p v d

-- `floesedge_start`: those of starting
abbrev pub StartsFixed : List ℕ → List Float → List Float → CAnswer → List Float → List Float → Type 0
StartsFixed p v d r v' d' = run_outcome (answer r.number r.record) v' d' ≡ started p v d

-- `floesedge_step`: those of a step of h
abbrev pub StepsFixed : List ℕ → Float → List Float → List Float → CAnswer → List Float → List Float → Type 0
StepsFixed p h v d r v' d' = run_outcome (answer r.number r.record) v' d' ≡ stepped p h v d
