-- The names of one statement, by its drafts: what it fetches, sets and knows without order; a header's outputs and
-- inputs.
use Prim.Native.Nat.{ℕ}
use mathlib.Core.Path.{◌≡◌, refl, ap, ap₂, ◌∙◌}
use mathlib.Core.Bool.{true, false}
use mathlib.Core.List.{List, [], ◌∷◌, ◌++◌, map, append-nil}
use lib.Dec.{eqb}
use Rattle.laws.specs.Lists.{concat_map}
use Rattle.laws.specs.Places.{only_if}
use Rattle.laws.specs.Every.{Every}
use Rattle.laws.proofs.Lists.{concat_append}
use Rattle.laws.proofs.Concats.{concat_mapped, concat_same, concat_none}
use Rattle.laws.proofs.Every.{every_append, every_part}
use Rattle.drafts.specs.Tree.{plus, minus, times, over, compar, insw, limit, Tree, value, named, time, negated, two}
use Rattle.drafts.specs.Tree.{three, names, Constant, plain, from, Says, constants, assignment, state, header}
use Rattle.drafts.specs.Tree.{ending}
use Rattle.drafts.specs.Items.{Item, push, fetch, clock, negate, apply_two, apply_three, postfix}
use Rattle.drafts.specs.Kinds.{kind_fetch, kind_store, kind_rate, kind_initial, kind_output, kind_input}
use Rattle.drafts.specs.Drafts.{Draft, draft, draft_item, constant_drafts, initial_draft, drafts_of}
use Rattle.blocks.specs.Inside.{free_said, set_by}
use Rattle.blocks.specs.InsidePlaces.{is_free}
use Rattle.blocks.proofs.LastDrafts.{set_drafts, set_last}

-- the key of a draft, if it is of a kind
abbrev pub key_of_kind : ℕ → Draft → List ℕ
key_of_kind kind d = only_if (eqb d.kind kind) d.arg

-- if it names a constant or a state
abbrev pub free_key : Draft → List ℕ
free_key d = only_if (is_free d.kind) d.arg

-- ---- items
abbrev fetched : Item → List ℕ
fetched (push x) = []
fetched (fetch k) = k ∷ []
fetched clock = []
fetched negate = []
fetched (apply_two o) = []
fetched (apply_three o) = []

-- an item names no constant and no state by itself
item_free : (x : Item) → is_free (draft_item x).kind ≡ false
item_free (push x) = refl
item_free (fetch k) = refl
item_free clock = refl
item_free negate = refl
item_free (apply_two plus) = refl
item_free (apply_two minus) = refl
item_free (apply_two times) = refl
item_free (apply_two over) = refl
item_free (apply_two compar) = refl
item_free (apply_three insw) = refl
item_free (apply_three limit) = refl

item_fetch : (x : Item) → key_of_kind kind_fetch (draft_item x) ≡ fetched x
item_fetch (push x) = refl
item_fetch (fetch k) = refl
item_fetch clock = refl
item_fetch negate = refl
item_fetch (apply_two plus) = refl
item_fetch (apply_two minus) = refl
item_fetch (apply_two times) = refl
item_fetch (apply_two over) = refl
item_fetch (apply_two compar) = refl
item_fetch (apply_three insw) = refl
item_fetch (apply_three limit) = refl

-- the names of an expression are those that its items fetch
fetched_names : (e : Tree) → concat_map fetched (postfix e) ≡ names e
unfolding concat_map postfix names
fetched_names (value x) = refl
fetched_names (named k) = refl
fetched_names time = refl
fetched_names (negated a) =
    concat_append fetched (postfix a) (negate ∷ []) ∙ append-nil (concat_map fetched (postfix a)) ∙ fetched_names a
fetched_names (two o a b) =
    concat_append fetched (postfix a) (postfix b ++ (apply_two o ∷ []))
    ∙ ap₂ ◌++◌ (fetched_names a)
    (concat_append fetched (postfix b) (apply_two o ∷ []) ∙ append-nil (concat_map fetched (postfix b))
    ∙ fetched_names b)
fetched_names (three o a b c) =
    concat_append fetched (postfix a) (postfix b ++ (postfix c ++ (apply_three o ∷ [])))
    ∙ ap₂ ◌++◌ (fetched_names a)
    (concat_append fetched (postfix b) (postfix c ++ (apply_three o ∷ []))
    ∙ ap₂ ◌++◌ (fetched_names b)
    (concat_append fetched (postfix c) (apply_three o ∷ []) ∙ append-nil (concat_map fetched (postfix c))
    ∙ fetched_names c))

-- ---- an expression with one draft behind it
module _ {B : Type 0} (G : Draft → List B) (F : Item → List B) (e : (x : Item) → G (draft_item x) ≡ F x) where
  expression_of : (t : Tree) (z : Draft) → concat_map G (map draft_item (postfix t) ++ (z ∷ []))
      ≡ concat_map F (postfix t) ++ (G z ++ [])
  unfolding concat_map
  expression_of t z =
      concat_append G (map draft_item (postfix t)) (z ∷ [])
      ∙ ap (λ r. r ++ (G z ++ []))
      (concat_mapped G draft_item (postfix t) ∙ concat_same (λ x. G (draft_item x)) F e (postfix t))

-- THE NAMES of an assignment's expression
pub assignment_names : (k : ℕ) (t : Tree) → concat_map (key_of_kind kind_fetch) (drafts_of (assignment k t)) ≡ names t
assignment_names k t =
    expression_of (key_of_kind kind_fetch) fetched item_fetch t (draft kind_store k)
    ∙ append-nil (concat_map fetched (postfix t)) ∙ fetched_names t

-- ---- THE CONSTANTS AND STATES
free_item : (x : Item) → free_key (draft_item x) ≡ []
free_item x = rw (item_free x)

free_expression : (t : Tree) (z : Draft)
    → concat_map free_key (map draft_item (postfix t) ++ (z ∷ [])) ≡ free_key z ++ []
free_expression t z =
    expression_of free_key (λ x. []) free_item t z ∙ ap (λ r. r ++ (free_key z ++ []))
    (concat_none (λ x. []) (λ x. refl) (postfix t))

free_none : (kind : ℕ) → is_free kind ≡ false → (ks : List ℕ) → concat_map free_key (map (draft kind) ks) ≡ []
unfolding concat_map
free_none kind f [] = refl
free_none kind f (k ∷ ks) = rw f (free_none kind f ks)

pub free_said_holds : (x : Says) → concat_map free_key (drafts_of x) ≡ free_said x
unfolding concat_map
free_said_holds (constants []) = refl
free_said_holds (constants (c ∷ cs)) = ap (◌∷◌ c.key) (free_said_holds (constants cs))
free_said_holds (assignment k e) = free_expression e (draft kind_store k)
free_said_holds (state k (plain x) e) = ap (◌∷◌ k) (free_expression e (draft kind_rate k))
free_said_holds (state k (from c) e) = ap (◌∷◌ k) (free_expression e (draft kind_rate k))
free_said_holds (header os is) =
    concat_append free_key (map (draft kind_output) os) (map (draft kind_input) is)
    ∙ ap₂ ◌++◌ (free_none kind_output refl os) (free_none kind_input refl is)
free_said_holds ending = refl

-- ---- A HEADER'S outputs and inputs
keys_all : (kind : ℕ) → eqb kind kind ≡ true → (ks : List ℕ) → concat_map (key_of_kind kind) (map (draft kind) ks) ≡ ks
unfolding concat_map
keys_all kind t [] = refl
keys_all kind t (k ∷ ks) = rw t (ap (◌∷◌ k) (keys_all kind t ks))

keys_none : (kind other : ℕ) → eqb other kind ≡ false → (ks : List ℕ)
    → concat_map (key_of_kind kind) (map (draft other) ks) ≡ []
unfolding concat_map
keys_none kind other f [] = refl
keys_none kind other f (k ∷ ks) = rw f (keys_none kind other f ks)

pub header_outputs : (os is : List ℕ) → concat_map (key_of_kind kind_output) (drafts_of (header os is)) ≡ os
header_outputs os is =
    concat_append (key_of_kind kind_output) (map (draft kind_output) os) (map (draft kind_input) is)
    ∙ ap₂ ◌++◌ (keys_all kind_output refl os) (keys_none kind_output kind_input refl is) ∙ append-nil os

pub header_inputs : (os is : List ℕ) → concat_map (key_of_kind kind_input) (drafts_of (header os is)) ≡ is
header_inputs os is =
    concat_append (key_of_kind kind_input) (map (draft kind_output) os) (map (draft kind_input) is)
    ∙ ap₂ ◌++◌ (keys_none kind_input kind_output refl os) (keys_all kind_input refl is)

-- ---- THE NAME that a statement sets
abbrev NoStore : Draft → Type 0
NoStore d = eqb d.kind kind_store ≡ false

set_none : (ds : List Draft) → Every NoStore ds → set_drafts ds ≡ []
unfolding set_drafts
set_none [] h = refl
set_none (d ∷ []) h = rw h.0
set_none (d ∷ e ∷ ds) h = set_none (e ∷ ds) h.1

constants_none : (cs : List Constant) → Every NoStore (concat_map constant_drafts cs)
constants_none cs = every_part NoStore constant_drafts (λ c. (refl, (refl, tt))) cs

kinds_none : (kind : ℕ) → eqb kind kind_store ≡ false → (ks : List ℕ) → Every NoStore (map (draft kind) ks)
kinds_none kind f [] = tt
kinds_none kind f (k ∷ ks) = (f, kinds_none kind f ks)

pub set_said : (x : Says) → set_drafts (drafts_of x) ≡ set_by x
unfolding set_drafts
set_said (constants cs) = set_none (concat_map constant_drafts cs) (constants_none cs)
set_said (assignment k e) = set_last (map draft_item (postfix e)) (draft kind_store k)
set_said (state k i e) =
    set_last (draft kind_initial k ∷ initial_draft i ∷ map draft_item (postfix e)) (draft kind_rate k)
set_said (header os is) =
    set_none (drafts_of (header os is))
    (every_append NoStore (map (draft kind_output) os) (map (draft kind_input) is) (kinds_none kind_output refl os)
    (kinds_none kind_input refl is))
set_said ending = refl
