-- The statements of the units of a text are statements of the text: what they give is no more than what those give.
use Prim.Native.Nat.{ℕ, suc, ◌+◌, ◌≤◌}
use mathlib.Core.Path.{◌≡◌, refl, ap, ◌∙◌}
use mathlib.Core.List.{List, [], ◌∷◌, ◌++◌, map, append-nil}
use native.Mathlib.Omega.{arith}
use lib.ListN.{length, length-append}
use Rattle.laws.specs.Lists.{concat_map}
use Rattle.laws.proofs.Lists.{concat_append}
use Rattle.laws.proofs.Concats.{map_append}
use Rattle.drafts.specs.Tree.{Tree, Constant, Initial, Says, constants as constants_said, assignment as assignment_said}
use Rattle.drafts.specs.Tree.{state as state_said, header, ending}
use Rattle.sheet.specs.Sheet.{Numbered}
use Rattle.blocks.specs.Units.{constants, assignment, state, Sets, Inner, block, alone, heading, inner}
use Rattle.blocks.specs.Units.{closing, Stated, stated, stated_inner, stated_by, stated_in}
use Rattle.blocks.specs.Members.{Pending, idle, partly, inner_of, units_by, pending_by, units_from, units_of}

-- a row of rows of one
ones : {A B : Type 0} (f : A → B) (l : List A) → length (concat_map (λ (a : A). f a ∷ []) l) ≡ length l
unfolding concat_map
ones f [] = refl
ones f (a ∷ l) = ap suc (ones f l)

-- f gives of a statement of a unit no more than g of what was said
pub record NoMore {A B : Type 0} (f : Stated → List A) (g : Says → List B) : Type 0 where
  pub of_constants : (l : ℕ) (cs : List Constant)
      → length (f (stated l (alone (constants cs)))) ≤ length (g (constants_said cs))
  pub of_assignment : (l k : ℕ) (e : Tree)
      → length (f (stated l (alone (assignment k e)))) ≤ length (g (assignment_said k e))
  pub of_state : (l k : ℕ) (i : Initial) (e : Tree)
      → length (f (stated l (alone (state k i e)))) ≤ length (g (state_said k i e))
  pub of_inner : (l k : ℕ) (e : Tree) (s : Sets)
      → length (f (stated l (inner k e s))) ≤ length (g (assignment_said k e))
  pub of_header : (l : ℕ) (os is : List ℕ) → length (f (stated l (heading os is))) ≤ length (g (header os is))
  pub of_ending : (l : ℕ) → length (f (stated l closing)) ≤ length (g ending)

module _ {A B : Type 0} (f : Stated → List A) (g : Says → List B) (less : NoMore f g) where
  -- what f gives of rows of statements
  abbrev size : List Stated → ℕ
  size ts = length (concat_map f ts)

  -- of what has been read of a block
  abbrev owed : Pending → ℕ
  owed idle = 0
  owed (partly h os is ns) = length (f (stated h (heading os is))) + size (map stated_inner ns)

  -- of two rows
  size_append : (x y : List Stated) → size (x ++ y) ≡ size x + size y
  size_append x y = ap length (concat_append f x y) ∙ length-append (concat_map f x) (concat_map f y)

  -- of one
  size_one : (t : Stated) → size (t ∷ []) ≡ length (f t)
  unfolding concat_map
  size_one t = ap length (append-nil (f t))

  -- with one in front
  size_cons : (t : Stated) (ts : List Stated) → size (t ∷ ts) ≡ length (f t) + size ts
  unfolding concat_map
  size_cons t ts = length-append (f t) (concat_map f ts)

  -- of a block that is ended
  size_block : (h z : ℕ) (os is : List ℕ) (ns : List Inner)
      → size (stated_by h (block os is ns z)) ≡ owed (partly h os is ns) + length (f (stated z closing))
  size_block h z os is ns =
      size_cons (stated h (heading os is)) _
      ∙ ap (λ n. length (f (stated h (heading os is))) + n)
      (size_append (map stated_inner ns) (stated z closing ∷ [])
      ∙ ap (λ n. size (map stated_inner ns) + n) (size_one (stated z closing)))
      ∙ omega arith

  -- one statement more inside
  owed_more : (h : ℕ) (os is : List ℕ) (ns : List Inner) (n : Inner)
      → owed (partly h os is (ns ++ (n ∷ []))) ≡ owed (partly h os is ns) + length (f (stated_inner n))
  owed_more h os is ns n =
      let inside = map_append stated_inner ns (n ∷ []) in
      ap (λ ts. length (f (stated h (heading os is))) + size ts) inside
      ∙ ap (λ k. length (f (stated h (heading os is))) + k)
      (size_append (map stated_inner ns) (stated_inner n ∷ []) ∙ ap (λ k. size (map stated_inner ns) + k)
      (size_one (stated_inner n)))
      ∙ omega arith

  -- what g gives of all that is said
  abbrev all : List Numbered → ℕ
  all ss = length (concat_map (λ (s : Numbered). g s.says) ss)

  -- the units behind what has been read of a block
  few_from : (p : Pending) (ss : List Numbered) → size (stated_in (units_from p ss)) ≤ owed p + all ss
  unfolding units_from concat_map
  few_from p [] = omega arith
  few_from p (s ∷ ss) = step (λ q. few_from q ss) p s.says
    where
      l : ℕ
      l = s.line

      -- what is left to show, of what is said
      Left : Pending → Says → Type 0
      Left q x = size (stated_in (units_by q l x ++ units_from (pending_by q l x) ss))
          ≤ owed q + length (g x ++ concat_map (λ (s : Numbered). g s.says) ss)

      step : ((q : Pending) → size (stated_in (units_from q ss)) ≤ owed q + all ss) → (q : Pending) (x : Says)
          → Left q x
      step on idle (constants_said cs) = omega (
        arith,
        on idle,
        less.of_constants l cs,
        size_cons (stated l (alone (constants cs))) (stated_in (units_from idle ss)),
        length-append (g (constants_said cs)) (concat_map (λ (s : Numbered). g s.says) ss),
      )
      step on idle (assignment_said k e) = omega (
        arith,
        on idle,
        less.of_assignment l k e,
        size_cons (stated l (alone (assignment k e))) (stated_in (units_from idle ss)),
        length-append (g (assignment_said k e)) (concat_map (λ (s : Numbered). g s.says) ss),
      )
      step on idle (state_said k i e) = omega (
        arith,
        on idle,
        less.of_state l k i e,
        size_cons (stated l (alone (state k i e))) (stated_in (units_from idle ss)),
        length-append (g (state_said k i e)) (concat_map (λ (s : Numbered). g s.says) ss),
      )
      step on idle (header os is) = omega (
        arith,
        on (partly l os is []),
        less.of_header l os is,
        length-append (g (header os is)) (concat_map (λ (s : Numbered). g s.says) ss),
      )
      step on idle ending = omega (
        arith,
        on idle,
        length-append (g ending) (concat_map (λ (s : Numbered). g s.says) ss),
      )
      step on (partly h os is ns) (constants_said cs) = omega (
        arith,
        on (partly h os is ns),
        length-append (g (constants_said cs)) (concat_map (λ (s : Numbered). g s.says) ss),
      )
      step on (partly h os is ns) (assignment_said k e) = omega (
        arith,
        on (partly h os is (ns ++ (inner_of os ns l k e ∷ []))),
        owed_more h os is ns (inner_of os ns l k e),
        less.of_inner l k e (inner_of os ns l k e).sets,
        length-append (g (assignment_said k e)) (concat_map (λ (s : Numbered). g s.says) ss),
      )
      step on (partly h os is ns) (state_said k i e) = omega (
        arith,
        on (partly h os is ns),
        length-append (g (state_said k i e)) (concat_map (λ (s : Numbered). g s.says) ss),
      )
      step on (partly h os is ns) (header os' is') = omega (
        arith,
        on (partly l os' is' []),
        less.of_header l os' is',
        length-append (g (header os' is')) (concat_map (λ (s : Numbered). g s.says) ss),
      )
      step on (partly h os is ns) ending = omega (
        arith,
        on idle,
        size_append (stated_by h (block os is ns l)) (stated_in (units_from idle ss)),
        size_block h l os is ns,
        less.of_ending l,
        length-append (g ending) (concat_map (λ (s : Numbered). g s.says) ss),
      )

  -- THE STATEMENTS of all units
  pub few_stated : (ss : List Numbered) → length (concat_map f (stated_in (units_of ss)))
      ≤ length (concat_map (λ (s : Numbered). g s.says) ss)
  few_stated ss = omega (arith, few_from idle ss)

-- there are no more of them than of those
pub stated_few : (ss : List Numbered) → length (stated_in (units_of ss)) ≤ length ss
stated_few ss =
    let few =
    few_stated (λ (t : Stated). t ∷ []) (λ (x : Says). tt {0} ∷ [])
    (record {
      of_constants = λ l cs. omega arith;
      of_assignment = λ l k e. omega arith;
      of_state = λ l k i e. omega arith;
      of_inner = λ l k e s. omega arith;
      of_header = λ l os is. omega arith;
      of_ending = λ l. omega arith;
    }) ss in
    omega (arith, few, ones (λ (t : Stated). t) (stated_in (units_of ss)), ones (λ (s : Numbered). tt {0}) ss)
