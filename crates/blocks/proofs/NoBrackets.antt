-- Statements without header and end: no fault of blocks stands, and all kinds stay.
use Prim.Native.Nat.{ℕ, zero, suc, ◌+◌, ◌-◌, ◌≤◌, ◌<◌}
use mathlib.Core.Path.{◌≡◌, refl, sym, ap, ◌∙◌}
use mathlib.Core.Bool.{false}
use mathlib.Core.List.{List, [], ◌∷◌, ◌++◌}
use native.Mathlib.Nat.{sub-zero}
use native.Mathlib.Numerals.{add-one}
use native.Mathlib.Omega.{arith}
use lib.ListN.{length, get_or}
use Rattle.laws.specs.Lists.{concat_map}
use Rattle.laws.specs.Places.{gather, any_in}
use Rattle.laws.proofs.Tests.{not_both}
use Rattle.laws.proofs.Gathers.{any_none, gather_add, gather_more, gather_none, gather_same}
use Rattle.laws.proofs.Along.{gather_all}
use Rattle.drafts.specs.Places.{begins, ends}
use Rattle.blocks.specs.Pairing.{Bracket, opens, shuts, neither}
use Rattle.blocks.specs.Places.{bracket_at, fault25_at, faults25_in}
use Rattle.blocks.specs.InsidePlaces.{standing_at, free_args, fault26_at, faults26_in, role_at, kinds_with}
use Rattle.blocks.specs.InsidePlaces.{rewritten_kinds}
use Rattle.blocks.specs.Grouped.{UnitArrays, GroupOutcome, united, right_inside, paired}
use Rattle.blocks.specs.Working.{is_bracket, bracketed}
use Rattle.blocks.specs.InsideWorking.{Turned}

-- a bracket that is none
no_bracket : (b : Bracket) → is_bracket b ≡ false → b ≡ neither
no_bracket opens e = absurd (not_both refl e)
no_bracket shuts e = absurd (not_both refl e)
no_bracket neither e = refl

-- over no places, whatever is gathered
gather_nothing : (f g : ℕ → List ℕ) → gather f 0 0 ≡ gather g 0 0
unfolding gather
gather_nothing f g = refl

-- a row of one for each member
concat_ones : (l : List ℕ) → concat_map (λ (k : ℕ). k ∷ []) l ≡ l
unfolding concat_map
concat_ones [] = refl
concat_ones (k ∷ l) = ap (◌∷◌ k) (concat_ones l)

module _ (lines bounds kinds args : List ℕ) (none : any_in (bracketed bounds kinds) (length lines) 0 ≡ false) where
  -- no statement is one
  plain : (j : ℕ) → j < length lines → bracket_at bounds kinds j ≡ neither
  plain j h =
      no_bracket (bracket_at bounds kinds j)
      (any_none (bracketed bounds kinds) (length lines) 0 none j (omega arith) (omega arith))

  -- every statement stands outside
  outside : (j : ℕ) → j ≤ length lines → standing_at bounds kinds j ≡ 0
  unfolding standing_at
  outside zero h = refl
  outside (suc j) h = rw (plain j (omega arith)) (outside j (omega arith))

  -- no fault stands
  no_25 : faults25_in lines bounds kinds ≡ []
  unfolding faults25_in
  no_25 =
      gather_none (fault25_at lines bounds kinds) (length lines) 0
      (λ j _ h. let e = plain j (omega arith) in rw e)

  no_26 : faults26_in lines bounds kinds args ≡ []
  unfolding faults26_in
  no_26 =
      gather_none (fault26_at (length lines) (free_args kinds args) lines bounds kinds args) (length lines) 0
      (λ j _ h. let e = plain j (omega arith) in let z = outside j (omega arith) in rw (e, z))

  -- no store becomes another
  no_role : (j : ℕ) → j < length lines → role_at bounds kinds args j ≡ 0
  no_role j h = let e = plain j h in let z = outside j (omega arith) in rw (e, z)

  -- the kinds of the first k statements are those up to where the next one begins
  kept : Turned (length lines) bounds kinds → (k : ℕ) → k ≤ length lines
      → gather (λ j. kinds_with 0 bounds kinds j) k 0 ≡ gather (λ i. get_or kinds i 0 ∷ []) (begins bounds k) 0
  kept t zero h = rw t.first (gather_nothing (λ j. kinds_with 0 bounds kinds j) (λ i. get_or kinds i 0 ∷ []))
  kept t (suc k) h =
      let each : ℕ → List ℕ = λ i. get_or kinds i 0 ∷ [] in
      let b = begins bounds k in
      let e = ends bounds k in
      let z : 0 + b ≡ b = omega arith in
      let whole : b + (e - b) ≡ e = omega (arith, t.rise k (omega arith)) in
      rw (← (add-one k)) (rw (sub-zero, sub-zero) at (gather_more (λ j. kinds_with 0 bounds kinds j) 0 k (omega arith))
      ∙ ap (λ (l : List ℕ). l ++ gather each (e - b) b) (kept t k (omega arith))
      ∙ ap (λ (i : ℕ). gather each b 0 ++ gather each (e - b) i) (sym z)
      ∙ sym (gather_add each b (e - b) 0)
      ∙ ap (λ (n : ℕ). gather each n 0) whole)

  -- THE KINDS are those that they would be made
  pub kinds_kept : Turned (length lines) bounds kinds → kinds ≡ rewritten_kinds (length lines) bounds kinds args
  unfolding rewritten_kinds
  kinds_kept t =
      sym
      (gather_same (λ j. kinds_with (role_at bounds kinds args j) bounds kinds j) (λ j. kinds_with 0 bounds kinds j)
      (length lines) 0 (λ j _ h. ap (λ (r : ℕ). kinds_with r bounds kinds j) (no_role j (omega arith)))
      ∙ kept t (length lines) (omega arith)
      ∙ ap (λ (n : ℕ). gather (λ i. get_or kinds i 0 ∷ []) n 0) t.ended
      ∙ gather_all (λ i. get_or kinds i 0 ∷ []) (λ (k : ℕ). k ∷ []) 0 kinds (λ i. refl)
      ∙ concat_ones kinds)

  -- THE STAGES OF BLOCKS find no fault, and come to the units
  pub unbracketed : {x : GroupOutcome} (faults : List ℕ) (a : UnitArrays) → x ≡ united lines bounds kinds args faults a
      → x ≡ paired lines bounds kinds args faults a
  unfolding paired right_inside
  unbracketed faults a e = rw (no_25, no_26) e
