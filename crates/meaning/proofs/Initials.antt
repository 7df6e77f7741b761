-- The initial of a state is a number, or the name of a constant with the value that a constants statement gives it.
use Prim.Native.Nat.{ℕ}
use mathlib.Core.Path.{◌≡◌, refl, sym, ap, subst}
use mathlib.Core.Logic.{⊎_elim}
use mathlib.Core.List.{List, [], ◌∷◌, ◌++◌, Memᴰ}
use native.Mathlib.Omega.{arith}
use borrow.Author.Tests.{eq-eqb, ne_eqb}
use lib.Ieee.{Float}
use Rattle.laws.specs.Lists.{concat_map}
use Rattle.laws.specs.Every.{Every}
use Rattle.laws.specs.Counts.{count, ◌∈◌}
use Rattle.laws.proofs.Tests.{eq_or_ne}
use Rattle.laws.proofs.Every.{every_all, every_map, every_concat, every_part}
use Rattle.laws.proofs.Counts.{once_same, once_other}
use Rattle.drafts.specs.Tree.{Constant, constant_of, Initial, plain, from}
use Rattle.blocks.specs.Units.{constants, assignment, state, Sets, given, own, anew, Inner, UnitBody, single}
use Rattle.blocks.specs.Units.{block, TextUnit}
use Rattle.model.specs.Definitions.{What, constant, assigned, hidden, integral, Def, defined_alone, defined_inside}
use Rattle.model.specs.Definitions.{definitions}
use Rattle.model.specs.Faults.{initial_names, constant_key, constant_keys, name_faults}
use Rattle.model.proofs.NoModelFault.{Known, all_known}
use Rattle.program.specs.Program.{constant_value, value_in, initial_value}
use Rattle.meaning.specs.Statements.{Resolves, Asked, EachAsked}
use Rattle.meaning.proofs.Rows.{every_member}
use Rattle.meaning.proofs.Owned.{defined_from, defined_in, definitions_parts, block_defined}

module _ (us : List TextUnit) where
  -- ---- a constant is one of the pairs of a statement
  abbrev Source : Def → Type 0
  Source d = (y : Float) → d.what ≡ constant y → Resolves us (from d.key) y

  -- what is defined inside a block is none
  inside_source : (l k : ℕ) (s : Sets) → Every Source (defined_inside l k s)
  inside_source l k given = (λ y q. absurd (let z : ◌≡◌ {A = ℕ} 0 1 = cc in omega arith), tt)
  inside_source l k own = (λ y q. absurd (let z : ◌≡◌ {A = ℕ} 0 1 = cc in omega arith), tt)
  inside_source l k anew = tt

  -- of what a unit defines
  sources : (u : TextUnit) → Memᴰ u us → (x : UnitBody) → u.body ≡ x → Every Source (defined_from u.line x)
  unfolding concat_map
  sources u m (single (constants cs)) e = mapped cs (every_member (λ (c : Constant). Memᴰ c cs) cs (λ c h. h))
    where
      pair : (c : Constant) (y : Float) → constant c.worth ≡ constant y → c ≡ constant_of c.key y
      pair c y q =
          let w : c.worth ≡ y = cc in
          ap (constant_of c.key) w

      mapped : (bs : List Constant) → Every (λ (c : Constant). Memᴰ c cs) bs
          → Every Source (defined_alone u.line (constants bs) ++ [])
      mapped [] a = tt
      mapped (c ∷ bs) a = (
        λ y q. (u, cs, m, e, subst (λ (z : Constant). Memᴰ z cs) (pair c y q) a.0),
        mapped bs a.1,
      )
  sources u m (single (assignment k t)) e = (λ y q. absurd (let z : ◌≡◌ {A = ℕ} 0 1 = cc in omega arith), tt)
  sources u m (single (state k i t)) e = (λ y q. absurd (let z : ◌≡◌ {A = ℕ} 0 1 = cc in omega arith), tt)
  sources u m (block os is ns z) e =
      rw (block_defined u.line os is ns z)
      (every_part Source (λ (n : Inner). defined_inside n.line n.key n.sets)
      (λ n. inside_source n.line n.key n.sets) ns)

  -- of all
  all_sources : Every Source (definitions us)
  all_sources =
      subst (Every Source) (sym (definitions_parts us))
      (every_concat (λ (u : TextUnit). Memᴰ u us) Source defined_in (λ u m. sources u m u.body refl) us
      (every_member (λ (u : TextUnit). Memᴰ u us) us (λ u m. m)))

  -- ---- so a constant's name is resolved to its value
  resolved_first : (d : Def) (w : What) (es : List Def) (k : ℕ)
      → ((y : Float) → w ≡ constant y → Resolves us (from d.key) y)
      → k ∈ constant_key d.key w ++ constant_keys es
      → (k ∈ constant_keys es → Resolves us (from k) (value_in es k))
      → Resolves us (from k) (constant_value k d.key w (value_in es k))
  unfolding count
  resolved_first d (constant x) es k s h f =
      ⊎_elim (λ (q : k ≡ d.key). rw (eq-eqb k d.key q, q) (s x refl))
      (λ q. rw (ne_eqb k d.key q) (f (omega (arith, once_other k d.key q)))) (eq_or_ne k d.key)
  resolved_first d assigned es k s h f = f h
  resolved_first d hidden es k s h f = f h
  resolved_first d (integral i) es k s h f = f h

  resolved_among : (es : List Def) → Every Source es → (k : ℕ) → k ∈ constant_keys es
      → Resolves us (from k) (value_in es k)
  unfolding concat_map count value_in
  resolved_among [] a k h = absurd (omega arith)
  resolved_among (d ∷ es) a k h = resolved_first d d.what es k a.0 h (resolved_among es a.1 k)

  -- EACH INITIAL is resolved: 23 stands nowhere, so its name is a constant's
  abbrev pub EachResolved : Type 0
  EachResolved =
      EachAsked (λ l c. Unit {0}) (λ l k e. Unit {0}) (λ l k i e. Resolves us i (initial_value (definitions us) i))
      (λ ns. Unit {0}) us

  pub each_resolved : name_faults (definitions us) us ≡ [] → EachResolved
  unfolding count
  each_resolved e =
      every_map (λ (u : TextUnit). Known (definitions us) u.body) _ us (λ u h. by u.line u.body h)
      (all_known (definitions us) us e)
    where
      initial : (i : Initial) → ((k : ℕ) → k ∈ initial_names i → k ∈ constant_keys (definitions us))
          → Resolves us i (initial_value (definitions us) i)
      initial (plain x) f = refl
      initial (from k) f = resolved_among (definitions us) all_sources k (f k (omega (arith, once_same k)))

      by : (l : ℕ) (x : UnitBody) → Known (definitions us) x
          → Asked (λ l c. Unit {0}) (λ l k e. Unit {0}) (λ l k i e. Resolves us i (initial_value (definitions us) i))
          (λ ns. Unit {0}) l x
      by l (single (constants cs)) h = every_all (λ (c : Constant). Unit {0}) (λ c. tt) cs
      by l (single (assignment k t)) h = tt
      by l (single (state k i t)) h = initial i h.initial
      by l (block os is ns z) h = tt
