-- What the passes of the code keep and leave: tables by which a name's definition and a slot's unit are found without a
-- search, and rows that are written to the front of an array. lines and bounds are those of units, but for 21.
use Rattle.std.specs.Prelude.{ℕ, zero, suc, ◌+◌, ◌-◌, ◌%◌, ◌≤◌, ◌<◌, ◌≡◌, Bool, true, not, cond, ◌&&◌, ◌||◌, List, []}
use Rattle.std.specs.Prelude.{◌∷◌, ◌++◌, eqb, ltb, length, get_or, set, take, drop, replicate, Option, Some, None}
use Rattle.std.proofs.lemmas.List.Edits.{sets}
use Rattle.std.proofs.Math.Seq.{slice}
use Rattle.limits.specs.Limits.{most_statements, most_definitions, text_bytes}
use Rattle.laws.specs.Places.{gather, any_in, only_if}
use Rattle.laws.specs.Counts.{has}
use Rattle.laws.specs.Put.{Put}
use Rattle.faults.specs.declared.Fault.{Fault as FaultKind}
use Rattle.faults.specs.declared.Fault.TheVariants.{Undefined, NoConstant}
use Rattle.sheet.specs.Sheet.{Fault}
use Rattle.blocks.specs.Tests.{again, fault_if}
use Rattle.model.specs.Plan.{own_slots, own_uses}
use Rattle.model.specs.declared.names.Usage.{Usage}
use Rattle.model.specs.declared.stages.Link.{Link}
use Rattle.drafts.specs.Kinds.{kind_constant, kind_from, defines, is_use, asks}
use Rattle.drafts.specs.Places.{begins, ends, home_of}
use Rattle.model.specs.Places.{keys_in, places_in, resolved, unknown, ordered_in, assigned_slots, place_among, used_in}
use Rattle.model.specs.Places.{starts_from}

-- ---- arrays that fit

-- none of n statements or units ends before it begins
pub record Rises (bounds : List ℕ) (n : ℕ) : Type 0 where
  pub rise : (j : ℕ) → j < n → begins bounds j ≤ ends bounds j

-- statements, or units, follow each other from draft 0 to the last, and there is room for all that they use
pub record Follows (lines bounds kinds used : List ℕ) : Type 0 where
  pub few : length lines ≤ most_statements
  pub small : length kinds ≤ text_bytes
  pub room : length kinds ≤ length used
  pub rises : Rises bounds (length lines)
  pub first : begins bounds 0 ≡ 0
  pub ended : begins bounds (length lines) ≡ length kinds

-- an array holds a row of n numbers at its front
pub record Holds (array : List ℕ) (n : ℕ) (row : List ℕ) : Type 0 where
  pub long : n ≡ length row
  pub room : n ≤ length array
  pub front : take n array ≡ row

-- two arrays have room for every statement
pub record Wide (equated order : List ℕ) : Type 0 where
  pub equated_room : most_statements ≤ length equated
  pub order_room : most_statements ≤ length order

-- ---- definitions: the keys and the places of all, as many as there is room for; r is how many there are
pub record Collected (kinds args : List ℕ) (r : ℕ) (keys keys' places places' : List ℕ) : Type 0 where
  pub keys_so : Put (keys_in kinds args) 0 r keys keys'
  pub placed : Put (places_in kinds) 0 r places places'

-- the keys and places of arrays that fit are at hand
pub record Keyed (lines bounds kinds args used keys places : List ℕ) : Type 0 where
  pub sound : Follows lines bounds kinds used
  pub wide : length kinds ≤ length args
  pub few : length keys ≤ most_definitions
  pub keys_so : keys ≡ keys_in kinds args
  pub placed : places ≡ places_in kinds

-- place i, if it defines a name
abbrev pub place_at : List ℕ → ℕ → List ℕ
place_at kinds i = only_if (defines (get_or kinds i 0)) i

-- ---- a name is found by hint and links: the hint of a remainder leads to the first key that has it, the link of a key
-- to the next that
-- has the same
abbrev pub buckets : ℕ
buckets = 2039

-- the first of n places from i on whose key has remainder b, and one more; 0 where none has it
unfoldable pub next_in : List ℕ → ℕ → ℕ → ℕ → ℕ
next_in keys b zero i = 0
next_in keys b (suc n) i =
    let r = next_in keys b n (suc i) in
    cond (eqb (get_or keys i 0 % buckets) b) (suc i) r

-- the same of all keys from place i on
abbrev pub next_from : List ℕ → ℕ → ℕ → ℕ
next_from keys b i = next_in keys b (length keys - i) i

pub record Hinted (keys hints links : List ℕ) : Type 0 where
  pub hint : (b : ℕ) → b < buckets → get_or hints b 0 ≡ next_from keys b 0
  pub link : (d : ℕ) → d < length keys → get_or links d 0 ≡ next_from keys (get_or keys d 0 % buckets) (d + 1)

-- ---- 21 by the keys and places of the definitions

-- how many places in front are below e
unfoldable pub before : ℕ → List ℕ → ℕ
before e [] = 0
before e (p ∷ ps) =
    let r = suc (before e ps) in
    cond (ltb p e) r 0

-- a key from place a on, before b, stands in an earlier place
abbrev pub repeats : List ℕ → ℕ → ℕ → Bool
repeats keys a b = again (take a keys) (slice a b keys)

abbrev pub repeat_at : List ℕ → List ℕ → List ℕ → List ℕ → ℕ → List Fault
repeat_at lines bounds keys places j =
    fault_if (repeats keys (before (begins bounds j) places) (before (ends bounds j) places)) (get_or lines j 0) 21

abbrev pub repeated : List ℕ → List ℕ → List ℕ → List ℕ → List Fault
repeated lines bounds keys places = gather (repeat_at lines bounds keys places) (length lines) 0

-- ---- names resolved, and whether one is undefined or, as an initial, unfit
abbrev pub flawed_by : List ℕ → List ℕ → ℕ → ℕ → Bool
flawed_by places kinds kind slot =
    (asks kind && unknown places kinds slot)
    || (eqb kind kind_from && not (eqb (get_or kinds (home_of places slot) 0) kind_constant))

abbrev pub flawed_at : List ℕ → List ℕ → List ℕ → ℕ → Bool
flawed_at places kinds slots i = flawed_by places kinds (get_or kinds i 0) (get_or slots i 0)

-- ---- 22 or 23, if it is either: by whether a name is undefined and whether an initial is unfit
abbrev pub name_flaw : Bool → Bool → Option FaultKind
name_flaw undefined unfit = cond undefined (Some Undefined) (cond unfit (Some NoConstant) None)

-- ---- a slot's unit: its place among those of the order and one more, 0 where none assigns the slot
abbrev pub owner_in : List (List ℕ) → ℕ → ℕ
owner_in assigned s = cond (ltb (place_among s assigned) (length assigned)) (place_among s assigned + 1) 0

pub record Owned (assigned : List (List ℕ)) (owners : List ℕ) : Type 0 where
  pub owner : (s : ℕ) → s < length owners → get_or owners s 0 ≡ owner_in assigned s

-- none is noted yet, and there is room for the slots of n definitions and for the one behind, which a name without a
-- definition has
pub record Unowned (n : ℕ) (owners : List ℕ) : Type 0 where
  pub room : n + 1 < length owners
  pub none : owners ≡ replicate (length owners) 0

-- v is noted as the owner of each of these slots
unfoldable pub noted : List ℕ → ℕ → List ℕ → List ℕ
noted [] v owners = owners
noted (s ∷ ss) v owners = noted ss v (set owners s v)

-- what place i uses, by the owners
abbrev pub used_owner : List ℕ → ℕ → List ℕ
used_owner owners s = only_if (ltb 0 (get_or owners s 0)) (get_or owners s 0 - 1)

abbrev pub used_here : List ℕ → ℕ → ℕ → List ℕ
used_here owners kind s = cond (is_use kind) (used_owner owners s) []

abbrev pub used_from : List ℕ → List ℕ → List ℕ → ℕ → List ℕ
used_from owners kinds slots i = used_here owners (get_or kinds i 0) (get_or slots i 0)

-- a name that is used has one of n slots
pub record Slotted (n : ℕ) (kinds args : List ℕ) : Type 0 where
  pub slot : (i : ℕ) → is_use (get_or kinds i 0) ≡ true → get_or args i 0 < n

-- ---- names resolved and uses listed, draft by draft

pub record Resolved (keys kinds places args args' : List ℕ) (flawed : Bool) : Type 0 where
  pub same : args' ≡ resolved keys kinds args
  pub found : flawed ≡ any_in (flawed_at places kinds args') (length kinds) 0

-- the drafts before place i are resolved, and flawed tells whether one of them is
pub record Resolving (keys kinds places args₀ : List ℕ) (flawed : Bool) (i : ℕ) (args : List ℕ) : Type 0 where
  pub within : i ≤ length kinds
  pub long : length args ≡ length args₀
  pub same : take i args ++ resolved keys (drop i kinds) (drop i args) ≡ resolved keys kinds args₀
  pub left : (flawed || any_in (flawed_at places kinds (resolved keys kinds args₀)) (length kinds - i) i)
      ≡ any_in (flawed_at places kinds (resolved keys kinds args₀)) (length kinds) 0

-- and what those of them from a place on use is listed behind w numbers
pub record Linking (keys kinds places owners args₀ used₀ : List ℕ) (from w i : ℕ) (n : Usage)
    (args used : List ℕ) : Type 0 where
  pub resolving : Resolving keys kinds places args₀ n.flawed i args
  pub uses : Put (gather (used_from owners kinds (resolved keys kinds args₀)) (i - from) from) w n.count used₀ used

-- what going over the drafts from a place on, before an end, asks; c numbers are listed
pub record Walked (keys kinds args : List ℕ) (from end c : ℕ) : Type 0 where
  pub few : length keys ≤ most_definitions
  pub wide : length kinds ≤ length args
  pub small : length kinds ≤ text_bytes
  pub upward : from ≤ end
  pub inside : end ≤ length kinds
  pub short : c ≤ from

-- what going over all drafts asks
pub record Linkable (lines bounds kinds keys owners args used : List ℕ) : Type 0 where
  pub sound : Follows lines bounds kinds used
  pub few : length keys ≤ most_definitions
  pub wide : length kinds ≤ length args
  pub owned : Owned (own_slots (length lines) bounds kinds (resolved keys kinds args)) owners
  pub slotted : Slotted (length owners) kinds (resolved keys kinds args)

-- the table of uses is written; r is how much is used
pub record Tabled (equated bounds kinds slots : List ℕ) (r : ℕ) (starts starts' used used' : List ℕ) : Type 0 where
  pub uses : Put (used_in (assigned_slots equated bounds kinds slots) bounds kinds slots equated) 0 r used used'
  pub begun : starts' ≡ sets starts 0
      (starts_from 0 (assigned_slots equated bounds kinds slots) bounds kinds slots equated)

-- what it gives
pub record Linked (lines bounds kinds keys places : List ℕ) (n : Usage)
    (args args' starts starts' used used' : List ℕ) : Type 0 where
  pub resolved_so : Resolved keys kinds places args args' n.flawed
  pub tabled_so : Tabled (ordered_in (length lines) bounds kinds) bounds kinds args'
      n.count starts starts' used used'

-- the m units of the order are held in equated, and what they use at the front of starts and used
pub record Weighs (lines bounds kinds slots : List ℕ) (m w : ℕ) (starts used equated : List ℕ) : Type 0 where
  pub few : length lines ≤ most_statements
  pub few_equated : m ≤ most_statements
  pub equated_held : Holds equated m (ordered_in (length lines) bounds kinds)
  pub starts_room : m + 1 ≤ length starts
  pub starts_held : take (m + 1) starts
      ≡ starts_from 0 (own_slots (length lines) bounds kinds slots) bounds kinds slots
      (ordered_in (length lines) bounds kinds)
  pub used_room : w ≤ length used
  pub used_held : take w used ≡ own_uses (length lines) bounds kinds slots

-- what linking gives: the units of the order are at the front of equated, the names are resolved, and what is used is
-- tabled
pub record Links (lines bounds kinds keys places : List ℕ) (r : Link)
    (args args' used used' equated equated' starts' : List ℕ) : Type 0 where
  pub units_put : Put (ordered_in (length lines) bounds kinds) 0 r.units equated equated'
  pub linked : Linked lines bounds kinds keys places r.usage args args'
      (replicate (most_statements + 1) 0) starts' used used'
  pub weighs : Weighs lines bounds kinds args' r.units r.usage.count starts' used' equated'

-- what the search for 22 and 23 asks: no unit ends behind the last draft, and whether a name is flawed is known
pub record Searched (lines bounds kinds slots places : List ℕ) (flawed : Bool) : Type 0 where
  pub few : length lines ≤ most_statements
  pub inside : (j : ℕ) → j < length lines → ends bounds j ≤ length kinds
  pub flaw : flawed ≡ any_in (flawed_at places kinds slots) (length kinds) 0

-- ---- 24: a mark for each unit that is placed
pub record Marked (placed marks : List ℕ) : Type 0 where
  pub long : length marks ≡ most_statements
  pub mark : (r : ℕ) → r < length marks → eqb (get_or marks r 0) 0 ≡ not (has r placed)

abbrev pub unmarked_at : List ℕ → List ℕ → List ℕ → ℕ → List Fault
unmarked_at marks equated lines r = fault_if (eqb (get_or marks r 0) 0) (get_or lines (get_or equated r 0) 0) 24

abbrev pub unmarked : List ℕ → List ℕ → List ℕ → List Fault
unmarked marks equated lines = gather (unmarked_at marks equated lines) (length equated) 0
