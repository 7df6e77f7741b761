-- A block is a function: its assignments, carried out one after the other, are a group that reads its inputs, the
-- constants and states that it names, and TIME.
use Prim.Native.Nat.{ℕ}
use mathlib.Core.Path.{◌≡◌, refl, sym, ap, ap₂, subst, ◌∙◌}
use mathlib.Core.Logic.{inr, ⊎_elim}
use mathlib.Core.List.{List, [], ◌∷◌, ◌++◌, map, append_assoc, append-nil, Memᴰ}
use lib.ListN.{set}
use lib.Ieee.{Float}
use Rattle.laws.specs.Lists.{concat_map}
use Rattle.laws.proofs.Concats.{concat_mapped}
use Rattle.drafts.specs.Tree.{names}
use Rattle.blocks.specs.Units.{Sets, given, own, anew, Inner, target_of, inner_equation, Equation, block}
use Rattle.blocks.specs.Units.{TextUnit}
use Rattle.blocks.specs.Sound.{free_names, InnerSound, BlockSound, BodySound, UnitsSound}
use Rattle.model.proofs.UnitKeys.{rated_key, rated_keys}
use Rattle.meaning.specs.Meaning.{value_of}
use Rattle.meaning.specs.Statements.{carried, slot_of}
use Rattle.meaning.specs.BlockFunction.{names_inside, BlockFunction}
use Rattle.meaning.proofs.Rows.{every_of}
use Rattle.meaning.proofs.Settle.{if_assigned, assigned_keys, named_keys, stored, values_after}
use Rattle.meaning.proofs.Settle.{Reads, alike_after, in_either}

-- ---- the group of a block
abbrev pub group_of : List Inner → List Equation
group_of ns = map inner_equation ns

abbrev pub keys_inside : List Inner → List ℕ
keys_inside ns = map (λ (n : Inner). n.key) ns

-- each of its equations assigns its name, for the first time or anew
inner_stored : (s : Sets) (p : ℕ) (x : Float) (v : List Float) → stored (target_of s) p x v ≡ set v p x
inner_stored given p x v = refl
inner_stored own p x v = refl
inner_stored anew p x v = refl

pub inner_assigned : (s : Sets) (k : ℕ) → if_assigned (target_of s) k ≡ k ∷ []
inner_assigned given k = refl
inner_assigned own k = refl
inner_assigned anew k = refl

inner_rated : (s : Sets) (k : ℕ) → rated_key (target_of s) k ≡ []
inner_rated given k = refl
inner_rated own k = refl
inner_rated anew k = refl

-- so it assigns all its names
pub group_assigned : (ns : List Inner) → assigned_keys (group_of ns) ≡ keys_inside ns
unfolding concat_map
group_assigned [] = refl
group_assigned (n ∷ ns) = ap₂ ◌++◌ (inner_assigned n.sets n.key) (group_assigned ns)

-- and gives no derivative
pub group_rated : (ns : List Inner) → rated_keys (group_of ns) ≡ []
unfolding concat_map
group_rated [] = refl
group_rated (n ∷ ns) = ap₂ ◌++◌ (inner_rated n.sets n.key) (group_rated ns)

-- carrying its assignments out is working it out
pub carried_after : (slot : ℕ → ℕ) (ns : List Inner) (v : List Float)
    → carried slot ns v ≡ values_after slot (group_of ns) v
unfolding carried values_after
carried_after slot [] v = refl
carried_after slot (n ∷ ns) v =
    carried_after slot ns _
    ∙ ap (values_after slot (group_of ns)) (sym (inner_stored n.sets (slot n.key) (value_of slot v n.tree) v))

-- ---- what it reads
module _ (free os is : List ℕ) where
  -- below the names set above
  inner_reads : (above : List ℕ) (ns : List Inner) → InnerSound free os is above ns
      → Reads (is ++ (free ++ above)) (group_of ns)
  inner_reads above [] s = tt
  inner_reads above (n ∷ ns) s =
      let further : is ++ (free ++ (above ++ (n.key ∷ [])))
      ≡ (is ++ (free ++ above)) ++ if_assigned (target_of n.sets) n.key =
      rw (inner_assigned n.sets n.key, append_assoc is (free ++ above) (n.key ∷ []))
      (ap (λ (l : List ℕ). is ++ l) (sym (append_assoc free above (n.key ∷ [])))) in
      (s.2, subst (λ (l : List ℕ). Reads l (group_of ns)) further (inner_reads (above ++ (n.key ∷ [])) ns s.3))

  -- its inputs, constants and states
  pub group_reads : (ns : List Inner) → BlockSound free os is ns → Reads (is ++ free) (group_of ns)
  group_reads ns b =
      subst (λ (l : List ℕ). Reads (is ++ l) (group_of ns)) (append-nil free) (inner_reads [] ns b.inside)

  -- A BLOCK IS A FUNCTION, whatever the slots
  pub block_function : (slot : ℕ → ℕ) (ns : List Inner) → BlockSound free os is ns → BlockFunction slot free is ns
  block_function slot ns b v w fed k h =
      let named : named_keys (group_of ns) ≡ names_inside ns =
      concat_mapped (λ (e : Equation). names e.tree) inner_equation ns in
      rw (carried_after slot ns v, carried_after slot ns w)
      ((alike_after slot (group_of ns) (is ++ free) v w [] [] (group_reads ns b) fed.long refl fed.clock
      (λ j a n. ⊎_elim (λ i. fed.inputs j i) (λ f. fed.known j f (rw named at n)) (in_either j is free a))
      (slot k)).0 (inr (k, rw (group_assigned ns) h, refl)))

-- so each block of a text without faults is one, by the slots of the text
pub blocks_functions : (us : List TextUnit) → UnitsSound us → (u : TextUnit) → Memᴰ u us
    → (os is : List ℕ) (ns : List Inner) (z : ℕ) → u.body ≡ block os is ns z
    → BlockFunction (slot_of us) (free_names us) is ns
blocks_functions us s u m os is ns z e =
    let free = free_names us in
    let b = subst (BodySound free) e (every_of (λ (x : TextUnit). BodySound free x.body) us s u m) in
    block_function free os is (slot_of us) ns b
