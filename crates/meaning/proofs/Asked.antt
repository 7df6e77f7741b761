-- What is asked of units: of their names, of their definitions, and of both at once.
use Prim.Native.Nat.{ℕ}
use mathlib.Core.Path.{◌≡◌, refl, sym, ap, subst, ◌∙◌}
use mathlib.Core.Logic.{⊎_elim}
use mathlib.Core.List.Memᴰ
use mathlib.Core.List.{List, [], ◌∷◌, ◌++◌, append-nil, Memᴰ}
use native.Mathlib.Omega.{arith}
use lib.ListN.{length, length-map}
use lib.Ieee.{Float}
use Rattle.laws.specs.Lists.{concat_map}
use Rattle.laws.specs.Every.{Every}
use Rattle.laws.specs.Counts.{count, ◌∈◌}
use Rattle.laws.proofs.Every.{every_append, every_map, every_concat, every_mapped}
use Rattle.laws.proofs.Concats.{map_concat, concat_same}
use Rattle.laws.proofs.Counts.{count_append, once_same}
use Rattle.drafts.specs.Tree.{Tree, Constant, Initial}
use Rattle.blocks.specs.Units.{constants, assignment, state, Sets, given, own, anew, Inner, UnitBody, single}
use Rattle.blocks.specs.Units.{block, TextUnit, OrderUnit, order_unit_of, order_units}
use Rattle.blocks.specs.Sound.{UnitsSound}
use Rattle.model.specs.Definitions.{constant, assigned, integral, Def, defined, defined_alone, defined_inside}
use Rattle.model.specs.Definitions.{definitions}
use Rattle.model.specs.Definitions.{keys, no_unit}
use Rattle.model.specs.Faults.{constant_key, constant_keys}
use Rattle.model.proofs.UnitKeys.{rated_keys, rated_defined}
use Rattle.meaning.specs.Statements.{names_alone, name_inside, names_set, names_of, Asked, EachAsked}
use Rattle.meaning.proofs.Rows.{every_member, every_places, every_both, every_parts, every_unmapped}
use Rattle.meaning.proofs.Rows.{number_every}
use Rattle.meaning.proofs.Settle.{assigned_keys}
use Rattle.meaning.proofs.BlockFunctions.{keys_inside, group_assigned}
use Rattle.meaning.proofs.Owned.{stored_names, state_names, defined_from, defined_in, definitions_parts}
use Rattle.meaning.proofs.Owned.{block_defined, assigned_stored}

-- ---- what is asked by another
module _ {C C' : ℕ → Constant → Type 0} {A A' : ℕ → ℕ → Tree → Type 0} {S S' : ℕ → ℕ → Initial → Tree → Type 0}
    {B B' : List Inner → Type 0} where
  map_unit : ((l : ℕ) (c : Constant) → C l c → C' l c) → ((l k : ℕ) (e : Tree) → A l k e → A' l k e)
      → ((l k : ℕ) (i : Initial) (e : Tree) → S l k i e → S' l k i e) → ((ns : List Inner) → B ns → B' ns)
      → (l : ℕ) (x : UnitBody) → Asked C A S B l x → Asked C' A' S' B' l x
  map_unit c a s b l (single (constants cs)) h = every_map (C l) (C' l) cs (c l) h
  map_unit c a s b l (single (assignment k e)) h = a l k e h
  map_unit c a s b l (single (state k i e)) h = s l k i e h
  map_unit c a s b l (block os is ns z) h = b ns h

  pub asked_map : ((l : ℕ) (c : Constant) → C l c → C' l c) → ((l k : ℕ) (e : Tree) → A l k e → A' l k e)
      → ((l k : ℕ) (i : Initial) (e : Tree) → S l k i e → S' l k i e) → ((ns : List Inner) → B ns → B' ns)
      → (us : List TextUnit) → EachAsked C A S B us → EachAsked C' A' S' B' us
  asked_map c a s b us h =
      every_map (λ (u : TextUnit). Asked C A S B u.line u.body)
      (λ (u : TextUnit). Asked C' A' S' B' u.line u.body) us
      (λ (u : TextUnit) t. map_unit c a s b u.line u.body t) h

-- ---- one by two others
module _ {C C' C'' : ℕ → Constant → Type 0} {A A' A'' : ℕ → ℕ → Tree → Type 0}
    {S S' S'' : ℕ → ℕ → Initial → Tree → Type 0} {B B' B'' : List Inner → Type 0}
    (c : (l : ℕ) (c : Constant) → C l c → C' l c → C'' l c) (a : (l k : ℕ) (e : Tree) → A l k e → A' l k e → A'' l k e)
    (s : (l k : ℕ) (i : Initial) (e : Tree) → S l k i e → S' l k i e → S'' l k i e)
    (b : (ns : List Inner) → B ns → B' ns → B'' ns) where
  two_unit : (l : ℕ) (x : UnitBody) → Asked C A S B l x → Asked C' A' S' B' l x → Asked C'' A'' S'' B'' l x
  two_unit l (single (constants cs)) h g =
      every_map (λ (d : Constant). C l d × C' l d) (C'' l) cs (λ d t. c l d t.0 t.1)
      (every_both (C l) (C' l) cs h g)
  two_unit l (single (assignment k e)) h g = a l k e h g
  two_unit l (single (state k i e)) h g = s l k i e h g
  two_unit l (block os is ns z) h g = b ns h g

  pub asked_two : (us : List TextUnit) → EachAsked C A S B us → EachAsked C' A' S' B' us → EachAsked C'' A'' S'' B'' us
  asked_two us h g =
      let P : TextUnit → Type 0 = λ (u : TextUnit). Asked C A S B u.line u.body in
      let Q : TextUnit → Type 0 = λ (u : TextUnit). Asked C' A' S' B' u.line u.body in
      every_map (λ (u : TextUnit). P u × Q u) _ us (λ (u : TextUnit) t. two_unit u.line u.body t.0 t.1)
      (every_both P Q us h g)

-- ---- the names of units

-- what a unit defines has its names
inside_same : (l k : ℕ) (s : Sets) → keys (defined_inside l k s) ≡ name_inside s k
inside_same l k given = refl
inside_same l k own = refl
inside_same l k anew = refl

set_same : (l : ℕ) (x : UnitBody) → keys (defined_from l x) ≡ names_set x
unfolding concat_map
set_same l (single (constants cs)) = pairs cs
  where
    pairs : (cs : List Constant) → keys (defined_alone l (constants cs) ++ []) ≡ names_alone (constants cs)
    pairs [] = refl
    pairs (c ∷ cs) = ap (◌∷◌ c.key) (pairs cs)
set_same l (single (assignment k e)) = refl
set_same l (single (state k i e)) = refl
set_same l (block os is ns z) =
    ap keys (block_defined l os is ns z)
    ∙ map_concat (λ (d : Def). d.key) (λ (n : Inner). defined_inside n.line n.key n.sets) ns
    ∙ concat_same _ _ (λ (n : Inner). inside_same n.line n.key n.sets) ns

-- so have the definitions of all
pub names_same : (us : List TextUnit) → keys (definitions us) ≡ names_of us
names_same us =
    ap keys (definitions_parts us)
    ∙ map_concat (λ (d : Def). d.key) defined_in us
    ∙ concat_same _ _ (λ (u : TextUnit). set_same u.line u.body) us

-- as many
pub names_many : (us : List TextUnit) → length (definitions us) ≡ length (names_of us)
names_many us = sym (length-map (definitions us) (λ (d : Def). d.key)) ∙ ap length (names_same us)

-- ---- what holds of each definition, by units
pub each_defined : (P : Def → Type 0) (us : List TextUnit) → Every P (definitions us)
    → Every (λ (u : TextUnit). Every P (defined_in u)) us
each_defined P us h = every_parts P defined_in us (subst (Every P) (definitions_parts us) h)

-- of the constants and of the states
pub alone_defined : (P : Def → Type 0) (us : List TextUnit) → Every P (definitions us)
    → EachAsked (λ l c. P (defined l c.key (constant c.worth))) (λ l k e. Unit {0})
    (λ l k i e. P (defined l k (integral i))) (λ ns. Unit {0}) us
unfolding concat_map
alone_defined P us h =
    every_map (λ (u : TextUnit). Every P (defined_in u)) _ us (λ u t. by u.line u.body t) (each_defined P us h)
  where
    by : (l : ℕ) (x : UnitBody) → Every P (defined_from l x)
        → Asked (λ l c. P (defined l c.key (constant c.worth))) (λ l k e. Unit {0})
        (λ l k i e. P (defined l k (integral i))) (λ ns. Unit {0}) l x
    by l (single (constants cs)) t =
        every_unmapped P (λ (c : Constant). defined l c.key (constant c.worth)) cs
        (subst (Every P) (append-nil (defined_alone l (constants cs))) t)
    by l (single (assignment k e)) t = tt
    by l (single (state k i e)) t = t.0
    by l (block os is ns z) t = tt

-- and back
pub to_definitions : (P : Def → Type 0) (us : List TextUnit)
    → EachAsked (λ l c. P (defined l c.key (constant c.worth))) (λ l k e. P (defined l k assigned))
    (λ l k i e. P (defined l k (integral i)))
    (Every (λ (n : Inner). Every P (defined_inside n.line n.key n.sets))) us
    → Every P (definitions us)
unfolding concat_map
to_definitions P us h =
    subst (Every P) (sym (definitions_parts us))
    (every_concat _ P defined_in (λ u t. by u.line u.body t) us h)
  where
    by : (l : ℕ) (x : UnitBody)
        → Asked (λ l c. P (defined l c.key (constant c.worth))) (λ l k e. P (defined l k assigned))
        (λ l k i e. P (defined l k (integral i)))
        (Every (λ (n : Inner). Every P (defined_inside n.line n.key n.sets))) l x
        → Every P (defined_from l x)
    by l (single (constants cs)) t =
        every_append P (defined_alone l (constants cs)) []
        (every_mapped (λ (c : Constant). P (defined l c.key (constant c.worth))) P _ (λ c m. m) cs t) tt
    by l (single (assignment k e)) t = (t, tt)
    by l (single (state k i e)) t = (t, tt)
    by l (block os is ns z) t =
        rw (block_defined l os is ns z)
        (every_concat (λ (n : Inner). Every P (defined_inside n.line n.key n.sets)) P _ (λ n m. m) ns t)

-- ---- EACH NAME of a unit is what its statement makes it: a constant, a state, or stored
module _ (us : List TextUnit) (sound : UnitsSound us) where
  abbrev ds : List Def
  ds = definitions us

  abbrev EachName : Type 0
  EachName = EachAsked (λ l c. c.key ∈ constant_keys ds) (λ l k e. k ∈ stored_names ds) (λ l k i e. k ∈ state_names ds)
      (Every (λ (n : Inner). n.key ∈ stored_names ds)) us

  -- of a constant
  constant_in : (es : List Def) (a : Def) (y : Float) → Memᴰ a es → a.what ≡ constant y → a.key ∈ constant_keys es
  unfolding concat_map count
  constant_in [] a y m e = absurd (Memᴰ.not-nil m)
  constant_in (d ∷ es) a y m e =
      ⊎_elim (λ (z : a ≡ d). rw (← z, e) (omega (arith, once_same a.key)))
      (λ t. omega
      (arith, constant_in es a y t e, count_append a.key (constant_key d.key d.what) (constant_keys es)))
      (Memᴰ.cases_cons m)

  -- of what a unit runs
  record Named (o : OrderUnit) : Type 0 where
    stored : (k : ℕ) → k ∈ assigned_keys o.runs → k ∈ stored_names ds
    states : (k : ℕ) → k ∈ rated_keys o.runs → k ∈ state_names ds

  name_of : (l : ℕ) (x : UnitBody)
      → Asked (λ l c. (y : Float) → constant c.worth ≡ constant y → c.key ∈ constant_keys ds) (λ l k e. Unit {0})
      (λ l k i e. (y : Float) → integral i ≡ constant y → k ∈ constant_keys ds) (λ ns. Unit {0}) l x
      → Every Named (order_unit_of l x)
      → Asked (λ l c. c.key ∈ constant_keys ds) (λ l k e. k ∈ stored_names ds) (λ l k i e. k ∈ state_names ds)
      (Every (λ (n : Inner). n.key ∈ stored_names ds)) l x
  unfolding concat_map count
  name_of l (single (constants cs)) c h = every_map _ _ cs (λ (b : Constant) f. f b.worth refl) c
  name_of l (single (assignment k e)) c h = h.0.stored k (omega (arith, once_same k))
  name_of l (single (state k i e)) c h = h.0.states k (omega (arith, once_same k))
  name_of l (block os is ns z) c h =
      every_unmapped (λ (k : ℕ). k ∈ stored_names ds) (λ (n : Inner). n.key) ns
      (number_every (λ (k : ℕ). k ∈ stored_names ds) (keys_inside ns)
      (λ k m. h.0.stored k (rw (group_assigned ns) m)))

  pub each_name : EachName
  each_name =
      let Fixed : Def → Type 0 = λ (a : Def). (y : Float) → a.what ≡ constant y → a.key ∈ constant_keys ds in
      let rows : Every Named (order_units us) =
      every_places Named no_unit (order_units us)
      (λ i h. record { stored = assigned_stored us sound i h; states = λ k m. rated_defined us i k h m }) in
      every_map _ _ us (λ u t. name_of u.line u.body t.0 t.1)
      (every_both _ _ us (alone_defined Fixed us (every_member Fixed ds (λ a m y e. constant_in ds a y m e)))
      (every_parts Named (λ (u : TextUnit). order_unit_of u.line u.body) us rows))
