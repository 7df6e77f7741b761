-- What the drafts of a statement define, and which names the drafts of a unit ask for.
use Prim.Native.Nat.{ℕ}
use mathlib.Core.Path.{◌≡◌, refl, sym, ap, ap₂, ◌∙◌}
use mathlib.Core.Bool.{false, cond}
use mathlib.Core.List.{List, [], ◌∷◌, ◌++◌, map, append-nil}
use native.Mathlib.Omega.{arith}
use lib.Dec.{eqb}
use lib.ListN.{get_or}
use lib.Ieee.{binary64, to_bits}
use Rattle.laws.specs.Lists.{concat_map}
use Rattle.laws.specs.Places.{only_if}
use Rattle.laws.proofs.Lists.{concat_append}
use Rattle.laws.proofs.Concats.{concat_concat, concat_mapped, concat_same, concat_none}
use Rattle.laws.proofs.Along.{along, along_one}
use Rattle.drafts.specs.Tree.{plus, minus, times, over, compar, insw, limit, Tree, value, named, time, negated, two}
use Rattle.drafts.specs.Tree.{three, names, Constant, plain, from}
use Rattle.drafts.specs.Items.{Item, push, fetch, clock, negate, apply_two, apply_three, postfix}
use Rattle.drafts.specs.Drafts.{Draft, draft, draft_item, constant_drafts}
use Rattle.drafts.specs.Kinds.{kind_number, kind_constant, kind_initial, kind_push, kind_fetch, kind_clock, kind_two}
use Rattle.drafts.specs.Kinds.{kind_negate, kind_three, kind_store, kind_rate, kind_from, kind_given, kind_own}
use Rattle.drafts.specs.Kinds.{kind_read}
use Rattle.drafts.specs.Kinds.{kind_output, kind_input, kind_ending, defines, is_use}
use Rattle.blocks.specs.Units.{Single, constants, assignment, state, Sets, given, own, anew, Inner, UnitBody, single}
use Rattle.blocks.specs.Units.{block, Stood, alone, heading, inner, closing, stated, stated_inner, stated_by}
use Rattle.blocks.specs.Layout.{inner_item, sets_kind, drafts_stood, drafts_stated}
use Rattle.model.specs.Definitions.{What, constant, assigned, hidden, integral, Def, defined_by, keys}
use Rattle.model.specs.Faults.{initial_of, named_by}

-- what is read past the end
abbrev pub no_draft : Draft
no_draft = draft 0 0

-- ---- the drafts of an expression

-- a kind that defines no name, and is not that of an initial's name nor of an output
abbrev pub Plain : ℕ → Type 0
Plain k =
    (defines k ≡ false) × (eqb k kind_from ≡ false) × (eqb k kind_constant ≡ false) × (eqb k kind_initial ≡ false)
    × (eqb k kind_output ≡ false)

-- the name that an item fetches
abbrev fetched : Item → List ℕ
fetched (push x) = []
fetched (fetch k) = k ∷ []
fetched clock = []
fetched negate = []
fetched (apply_two o) = []
fetched (apply_three o) = []

-- what is given for a name's draft and for every other plain one is given for each item
pub by_item : (P : Item → Draft → Type 0) → ((k : ℕ) → Plain kind_fetch → P (fetch k) (draft kind_fetch k))
    → ((x : Item) (k a : ℕ) → Plain k → is_use k ≡ false → fetched x ≡ [] → P x (draft k a)) → (x : Item)
    → P x (draft_item x)
by_item P four rest (push x) = rest (push x) kind_push (to_bits binary64 x) (refl, refl, refl, refl, refl) refl refl
by_item P four rest (fetch k) = four k (refl, refl, refl, refl, refl)
by_item P four rest clock = rest clock kind_clock 0 (refl, refl, refl, refl, refl) refl refl
by_item P four rest negate = rest negate kind_negate 0 (refl, refl, refl, refl, refl) refl refl
by_item P four rest (apply_two plus) = rest (apply_two plus) (kind_two plus) 0 (refl, refl, refl, refl, refl) refl refl
by_item P four rest (apply_two minus) =
    rest (apply_two minus) (kind_two minus) 0 (refl, refl, refl, refl, refl) refl refl
by_item P four rest (apply_two times) =
    rest (apply_two times) (kind_two times) 0 (refl, refl, refl, refl, refl) refl refl
by_item P four rest (apply_two over) = rest (apply_two over) (kind_two over) 0 (refl, refl, refl, refl, refl) refl refl
by_item P four rest (apply_two compar) =
    rest (apply_two compar) (kind_two compar) 0 (refl, refl, refl, refl, refl) refl refl
by_item P four rest (apply_three insw) =
    rest (apply_three insw) (kind_three insw) 0 (refl, refl, refl, refl, refl) refl refl
by_item P four rest (apply_three limit) =
    rest (apply_three limit) (kind_three limit) 0 (refl, refl, refl, refl, refl) refl refl

-- inside a block a name is read
pub by_inner : (P : Draft → Type 0) → ((k a : ℕ) → Plain k → is_use k ≡ false → P (draft k a)) → (x : Item)
    → P (inner_item x)
by_inner P rest x = go x (by_item (λ x d. fetched x ≡ [] → P d) taken (λ x k a p u _ _. rest k a p u) x)
  where
    taken : (k : ℕ) → Plain kind_fetch → fetched (fetch k) ≡ [] → P (draft kind_fetch k)
    taken k p e = absurd (let z : ◌≡◌ {A = ℕ} 0 1 = cc in omega arith)

    go : (x : Item) → (fetched x ≡ [] → P (draft_item x)) → P (inner_item x)
    go (push x) f = f refl
    go (fetch k) f = rest kind_read k (refl, refl, refl, refl, refl) refl
    go clock f = f refl
    go negate f = f refl
    go (apply_two o) f = f refl
    go (apply_three o) f = f refl

-- the names of an expression are those that its items fetch
fetched_names : (e : Tree) → concat_map fetched (postfix e) ≡ names e
unfolding concat_map postfix names
fetched_names (value x) = refl
fetched_names (named k) = refl
fetched_names time = refl
fetched_names (negated a) =
    concat_append fetched (postfix a) (negate ∷ []) ∙ append-nil (concat_map fetched (postfix a)) ∙ fetched_names a
fetched_names (two o a b) =
    concat_append fetched (postfix a) (postfix b ++ (apply_two o ∷ []))
    ∙ ap₂ ◌++◌ (fetched_names a)
    (concat_append fetched (postfix b) (apply_two o ∷ []) ∙ append-nil (concat_map fetched (postfix b))
    ∙ fetched_names b)
fetched_names (three o a b c) =
    concat_append fetched (postfix a) (postfix b ++ (postfix c ++ (apply_three o ∷ [])))
    ∙ ap₂ ◌++◌ (fetched_names a)
    (concat_append fetched (postfix b) (postfix c ++ (apply_three o ∷ []))
    ∙ ap₂ ◌++◌ (fetched_names b)
    (concat_append fetched (postfix c) (apply_three o ∷ []) ∙ append-nil (concat_map fetched (postfix c))
    ∙ fetched_names c))

-- the drafts of an expression, and inside a block
abbrev pub expression_drafts : Tree → List Draft
expression_drafts e = map draft_item (postfix e)

abbrev pub inner_drafts : Tree → List Draft
inner_drafts e = map inner_item (postfix e)

-- a walk that gives nothing for plain drafts gives nothing for items, so that of these and one draft behind them only
-- that one counts
module _ {B : Type 0} (G : List Draft → List B) (none : (k a : ℕ) (l : List Draft) → Plain k → G (draft k a ∷ l) ≡ [])
  where
    along_none : (f : Item → Draft) → ((x : Item) (l : List Draft) → G (f x ∷ l) ≡ []) → (xs : List Item) (z : Draft)
        (q : List Draft) → along G (map f xs ++ (z ∷ [])) q ≡ G (z ∷ q) ++ []
    unfolding along
    along_none f e [] z q = refl
    along_none f e (x ∷ xs) z q = ap₂ ◌++◌ (e x _) (along_none f e xs z q)

    pub along_expression : (e : Tree) (z : Draft) (q : List Draft)
        → along G (expression_drafts e ++ (z ∷ [])) q ≡ G (z ∷ q) ++ []
    along_expression e =
        along_none draft_item
        (λ x l. by_item (λ x d. G (d ∷ l) ≡ []) (λ k p. none kind_fetch k l p) (λ x k a p _ _. none k a l p) x)
        (postfix e)

    pub along_inner : (e : Tree) (z : Draft) (q : List Draft)
        → along G (inner_drafts e ++ (z ∷ [])) q ≡ G (z ∷ q) ++ []
    along_inner e =
        along_none inner_item (λ x l. by_inner (λ d. G (d ∷ l) ≡ []) (λ k a p _. none k a l p) x) (postfix e)

-- the same, draft by draft
module _ {B : Type 0} (G : Draft → List B) where
  pub expression_none : ((k a : ℕ) → Plain k → G (draft k a) ≡ []) → (e : Tree) (z : Draft)
      → concat_map G (expression_drafts e ++ (z ∷ [])) ≡ G z ++ []
  expression_none none e z =
      sym (along_one G no_draft (expression_drafts e ++ (z ∷ [])) [])
      ∙ along_expression (λ l. G (get_or l 0 no_draft)) (λ k a l p. none k a p) e z []

  pub inner_none : ((k a : ℕ) → Plain k → is_use k ≡ false → G (draft k a) ≡ []) → (e : Tree) (z : Draft)
      → concat_map G (inner_drafts e ++ (z ∷ [])) ≡ G z ++ []
  unfolding concat_map
  inner_none none e z =
      concat_append G (inner_drafts e) (z ∷ [])
      ∙ ap (λ r. r ++ (G z ++ []))
      (concat_mapped G inner_item (postfix e)
      ∙ concat_none (λ x. G (inner_item x)) (by_inner (λ d. G d ≡ []) none) (postfix e))

  -- what gives something for names alone gives it for the names of the expression, and then for the draft behind it
  expression_names : (F : ℕ → List B) → ((a : ℕ) → G (draft kind_fetch a) ≡ F a)
      → ((k a : ℕ) → Plain k → is_use k ≡ false → G (draft k a) ≡ []) → (e : Tree) (z : Draft)
      → concat_map G (expression_drafts e ++ (z ∷ [])) ≡ concat_map F (names e) ++ (G z ++ [])
  unfolding concat_map
  expression_names F four rest e z =
      concat_append G (expression_drafts e) (z ∷ [])
      ∙ ap (λ r. r ++ (G z ++ []))
      (concat_mapped G draft_item (postfix e)
      ∙ concat_same (λ x. G (draft_item x)) (λ x. concat_map F (fetched x)) one (postfix e)
      ∙ sym (concat_concat F fetched (postfix e))
      ∙ ap (concat_map F) (fetched_names e))
    where
      one : (x : Item) → G (draft_item x) ≡ concat_map F (fetched x)
      one = by_item (λ x d. G d ≡ concat_map F (fetched x)) (λ k p. four k ∙ sym (append-nil (F k)))
          (λ x k a p q r. rest k a p q ∙ sym (ap (concat_map F) r))

-- ---- what a statement defines

-- the key that a draft defines
abbrev pub key_of : Draft → List ℕ
key_of d = only_if (defines d.kind) d.arg

-- plain drafts define none
key_none : (k a : ℕ) → Plain k → key_of (draft k a) ≡ []
key_none k a p = rw p.0

-- nor does a header
heading_keys : (os is : List ℕ) → concat_map key_of (drafts_stood (heading os is)) ≡ []
heading_keys os is =
    concat_append key_of (map (draft kind_output) os) (map (draft kind_input) is)
    ∙ ap₂ ◌++◌
    (concat_mapped key_of (draft kind_output) os ∙ concat_none (λ k. key_of (draft kind_output k)) (λ k. refl) os)
    (concat_mapped key_of (draft kind_input) is ∙ concat_none (λ k. key_of (draft kind_input k)) (λ k. refl) is)

-- THE KEYS that a statement's drafts define
pub defined_keys : (l : ℕ) (x : Stood) → concat_map key_of (drafts_stood x) ≡ keys (defined_by l x)
unfolding concat_map
defined_keys l (alone (constants [])) = refl
defined_keys l (alone (constants (c ∷ cs))) = ap (◌∷◌ c.key) (defined_keys l (alone (constants cs)))
defined_keys l (alone (assignment k e)) = expression_none key_of key_none e (draft kind_store k)
defined_keys l (alone (state k (plain x) e)) = ap (◌∷◌ k) (expression_none key_of key_none e (draft kind_rate k))
defined_keys l (alone (state k (from c) e)) = ap (◌∷◌ k) (expression_none key_of key_none e (draft kind_rate k))
defined_keys l (heading os is) = heading_keys os is
defined_keys l (inner k e given) = inner_none key_of (λ k a p _. key_none k a p) e (draft kind_given k)
defined_keys l (inner k e own) = inner_none key_of (λ k a p _. key_none k a p) e (draft kind_own k)
defined_keys l (inner k e anew) = inner_none key_of (λ k a p _. key_none k a p) e (draft (sets_kind anew) k)
defined_keys l closing = refl

-- ---- where a name is defined: the draft that defines it, an output's first setting as a store, and, of a constant,
-- the draft behind that
pub record Home : Type 0 where
  pub own : Draft
  pub behind : Draft

abbrev pub home_kind : ℕ → ℕ
home_kind k = cond (eqb k kind_given) kind_store k

-- of a draft and the one behind it
abbrev pub home : Draft → Draft → Home
home d b = record { own = draft (home_kind d.kind) d.arg; behind = cond (eqb d.kind kind_constant) b no_draft }

-- of a draft with all that stands behind it
abbrev pub homes_at : List Draft → List Home
homes_at l = only_if (defines (get_or l 0 no_draft).kind) (home (get_or l 0 no_draft) (get_or l 1 no_draft))

-- of a definition: the kind of its draft
abbrev pub kind_of_what : What → ℕ
kind_of_what (constant x) = kind_constant
kind_of_what assigned = kind_store
kind_of_what hidden = kind_own
kind_of_what (integral i) = kind_initial

-- what stands behind a constant's
abbrev pub behind_what : What → Draft
behind_what (constant x) = draft kind_number (to_bits binary64 x)
behind_what assigned = no_draft
behind_what hidden = no_draft
behind_what (integral i) = no_draft

-- both, with its key
abbrev pub home_of_what : ℕ → What → Home
home_of_what k w = home (draft (kind_of_what w) k) (behind_what w)

abbrev pub home_of_def : Def → Home
home_of_def d = home_of_what d.key d.what

-- plain drafts are no homes
homes_none : (k a : ℕ) (l : List Draft) → Plain k → homes_at (draft k a ∷ l) ≡ []
homes_none k a l p = rw p.0

-- nor are a header's
heading_homes : (os is : List ℕ) (q : List Draft) → along homes_at (drafts_stood (heading os is)) q ≡ []
unfolding along
heading_homes [] [] q = refl
heading_homes [] (k ∷ is) q = heading_homes [] is q
heading_homes (k ∷ os) is q = heading_homes os is q

-- THE HOMES of a statement's definitions
pub defined_homes : (l : ℕ) (x : Stood) (q : List Draft)
    → along homes_at (drafts_stood x) q ≡ map home_of_def (defined_by l x)
unfolding along concat_map
defined_homes l (alone (constants [])) q = refl
defined_homes l (alone (constants (c ∷ cs))) q =
    ap (◌∷◌ (home (draft kind_constant c.key) (draft kind_number (to_bits binary64 c.worth))))
    (defined_homes l (alone (constants cs)) q)
defined_homes l (alone (assignment k e)) q = along_expression homes_at homes_none e (draft kind_store k) q
defined_homes l (alone (state k (plain x) e)) q =
    ap (◌∷◌ (home (draft kind_initial k) no_draft)) (along_expression homes_at homes_none e (draft kind_rate k) q)
defined_homes l (alone (state k (from c) e)) q =
    ap (◌∷◌ (home (draft kind_initial k) no_draft)) (along_expression homes_at homes_none e (draft kind_rate k) q)
defined_homes l (heading os is) q = heading_homes os is q
defined_homes l (inner k e given) q = along_inner homes_at homes_none e (draft kind_given k) q
defined_homes l (inner k e own) q = along_inner homes_at homes_none e (draft kind_own k) q
defined_homes l (inner k e anew) q = along_inner homes_at homes_none e (draft (sets_kind anew) k) q
defined_homes l closing q = refl

-- ---- the names that a unit asks for: those of its expression, of a block its inputs; and that of its initial
abbrev spoken_alone : Single → List ℕ
spoken_alone (constants cs) = []
spoken_alone (assignment k e) = names e
spoken_alone (state k i e) = names e

abbrev pub spoken : UnitBody → List ℕ
spoken (single x) = spoken_alone x
spoken (block os is ns z) = is

-- they are all that it names
pub named_by_holds : (x : UnitBody) → named_by x ≡ initial_of x ++ spoken x
named_by_holds (single (constants cs)) = refl
named_by_holds (single (assignment k e)) = refl
named_by_holds (single (state k i e)) = refl
named_by_holds (block os is ns z) = refl

-- what gives F for a name that is used, I for an initial's name, and nothing for any other draft
module _ {B : Type 0} (G : Draft → List B) (F I : ℕ → List B) (four : (a : ℕ) → G (draft kind_fetch a) ≡ F a)
    (input : (a : ℕ) → G (draft kind_input a) ≡ F a) (initial : (a : ℕ) → G (draft kind_from a) ≡ I a)
    (rest : (k a : ℕ) → is_use k ≡ false → eqb k kind_from ≡ false → G (draft k a) ≡ []) where
  constants_none : (cs : List Constant) → concat_map G (concat_map constant_drafts cs) ≡ []
  unfolding concat_map
  constants_none [] = refl
  constants_none (c ∷ cs) =
      rw (rest kind_constant c.key refl refl, rest kind_number (to_bits binary64 c.worth) refl refl)
      (constants_none cs)

  -- an expression with one draft behind it gives what its names give
  ending_names : (e : Tree) (z k : ℕ) → is_use z ≡ false → eqb z kind_from ≡ false
      → concat_map G (expression_drafts e ++ (draft z k ∷ [])) ≡ concat_map F (names e)
  ending_names e z k p q =
      expression_names G F four (λ k a p q. rest k a q p.1) e (draft z k)
      ∙ rw (rest z k p q) (append-nil (concat_map F (names e)))

  -- a header gives what its inputs give
  heading_names : (os is : List ℕ) → concat_map G (drafts_stood (heading os is)) ≡ concat_map F is
  heading_names os is =
      concat_append G (map (draft kind_output) os) (map (draft kind_input) is)
      ∙ ap₂ ◌++◌
      (concat_mapped G (draft kind_output) os
      ∙ concat_none (λ k. G (draft kind_output k)) (λ k. rest kind_output k refl refl) os)
      (concat_mapped G (draft kind_input) is ∙ concat_same (λ k. G (draft kind_input k)) F input is)

  -- inside a block there is nothing
  setting_none : (k : ℕ) (s : Sets) → G (draft (sets_kind s) k) ≡ []
  setting_none k given = rest (sets_kind given) k refl refl
  setting_none k own = rest (sets_kind own) k refl refl
  setting_none k anew = rest (sets_kind anew) k refl refl

  inside_none : (z : ℕ) (ns : List Inner)
      → concat_map G (drafts_stated (map stated_inner ns ++ (stated z closing ∷ []))) ≡ []
  unfolding concat_map
  inside_none z [] = rw (rest kind_ending 0 refl refl)
  inside_none z (n ∷ ns) =
      concat_append G (drafts_stood (inner n.key n.tree n.sets)) _
      ∙ ap₂ ◌++◌
      (inner_none G (λ k a p u. rest k a u p.1) n.tree (draft (sets_kind n.sets) n.key)
      ∙ ap (λ r. r ++ []) (setting_none n.key n.sets))
      (inside_none z ns)

  -- A UNIT gives what its initial and its names give
  pub unit_names : (l : ℕ) (x : UnitBody)
      → concat_map G (drafts_stated (stated_by l x)) ≡ concat_map I (initial_of x) ++ concat_map F (spoken x)
  unfolding concat_map
  unit_names l (single (constants cs)) = rw (append-nil (concat_map constant_drafts cs)) (constants_none cs)
  unit_names l (single (assignment k e)) =
      rw (append-nil (expression_drafts e ++ (draft kind_store k ∷ []))) (ending_names e kind_store k refl refl)
  unit_names l (single (state k (plain x) e)) =
      rw (
        append-nil (expression_drafts e ++ (draft kind_rate k ∷ [])),
        rest kind_initial k refl refl,
        rest kind_number (to_bits binary64 x) refl refl,
      )
      (ending_names e kind_rate k refl refl)
  unit_names l (single (state k (from c) e)) =
      rw (
        append-nil (expression_drafts e ++ (draft kind_rate k ∷ [])),
        rest kind_initial k refl refl,
        initial c,
        append-nil (I c),
      )
      (ap (λ r. I c ++ r) (ending_names e kind_rate k refl refl))
  unit_names l (block os is ns z) =
      concat_append G (drafts_stood (heading os is)) _
      ∙ ap₂ ◌++◌ (heading_names os is) (inside_none z ns) ∙ append-nil (concat_map F is)
