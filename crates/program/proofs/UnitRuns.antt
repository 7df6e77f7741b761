-- What runs of each statement; a unit of the order runs what its statements do.
use Prim.Native.Nat.{ℕ}
use mathlib.Core.Path.{◌≡◌, refl, sym, ap, ◌∙◌}
use mathlib.Core.List.{List, [], ◌∷◌, ◌++◌, map, append-nil}
use Rattle.laws.specs.Lists.{concat_map}
use Rattle.laws.proofs.Concats.{concat_concat, concat_same}
use Rattle.blocks.specs.Units.{constants, assignment, state, Inner, UnitBody, single, block, TextUnit, Stood, alone}
use Rattle.blocks.specs.Units.{heading, inner, closing, Stated, stated, stated_inner, stated_by, stated_in, stores}
use Rattle.blocks.specs.Units.{rates}
use Rattle.blocks.specs.Units.{Equation, equation, OrderUnit, target_of, inner_equation, order_unit_of}
use Rattle.model.proofs.UnitKeys.{runs_in}

-- of a statement with number l
abbrev pub runs_stood : ℕ → Stood → List Equation
runs_stood l (alone (constants cs)) = []
runs_stood l (alone (assignment k e)) = equation l k stores e ∷ []
runs_stood l (alone (state k i e)) = equation l k rates e ∷ []
runs_stood l (heading os is) = []
runs_stood l (inner k e s) = equation l k (target_of s) e ∷ []
runs_stood l closing = []

abbrev pub runs_by : Stated → List Equation
runs_by t = runs_stood t.line t.stood

-- of those inside a block and its end
inside_runs : (ns : List Inner) (z : ℕ)
    → concat_map runs_by (map stated_inner ns ++ (stated z closing ∷ [])) ≡ map inner_equation ns
unfolding concat_map
inside_runs [] z = refl
inside_runs (n ∷ ns) z = ap (◌∷◌ (inner_equation n)) (inside_runs ns z)

-- OF A UNIT
pub unit_runs : (l : ℕ) (x : UnitBody)
    → concat_map runs_by (stated_by l x) ≡ concat_map (λ (o : OrderUnit). o.runs) (order_unit_of l x)
unfolding concat_map
unit_runs l (single (constants cs)) = refl
unit_runs l (single (assignment k e)) = refl
unit_runs l (single (state k i e)) = refl
unit_runs l (block os is ns z) = inside_runs ns z ∙ sym (append-nil (map inner_equation ns))

-- OF ALL
pub all_runs : (us : List TextUnit) → concat_map runs_by (stated_in us) ≡ runs_in us
all_runs us =
    let f : TextUnit → List Stated = λ (u : TextUnit). stated_by u.line u.body in
    let g : TextUnit → List OrderUnit = λ (u : TextUnit). order_unit_of u.line u.body in
    let run : OrderUnit → List Equation = λ (o : OrderUnit). o.runs in
    concat_concat runs_by f us
    ∙ concat_same (λ u. concat_map runs_by (f u)) (λ u. concat_map run (g u)) (λ u. unit_runs u.line u.body) us
    ∙ sym (concat_concat run g us)
