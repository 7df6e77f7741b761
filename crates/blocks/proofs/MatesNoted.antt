-- The mates noted, statement by statement, with a stack of the headers that have no end yet.
use Prim.Native.Nat.{ℕ, zero, suc, ◌+◌, ◌-◌, ◌≤◌, ◌<◌}
use mathlib.Core.Path.{◌≡◌, refl, sym, ap, ap₂, ◌∙◌}
use mathlib.Core.Logic.{⊎_elim}
use mathlib.Core.List.{List, [], ◌∷◌}
use native.Mathlib.Nat.{sub-zero}
use native.Mathlib.Numerals.{add-one}
use native.Mathlib.Omega.{arith}
use lib.ListN.{length, get_or, set, replicate, length-set, length-replicate}
use lib.Seq.{get_or-set_same, get_or-set_other}
use Rattle.limits.specs.Limits.{most_statements}
use Rattle.laws.proofs.Tests.{eq_or_ne}
use Rattle.laws.proofs.Gathers.{gather_step, gather_done}
use Rattle.blocks.specs.Pairing.{Bracket, opens, shuts, neither, pairs_from, pairs}
use Rattle.blocks.specs.Places.{bracket_at, brackets_from, brackets_in}
use Rattle.blocks.specs.Working.{stacked, Stack, Paired, mates_noted}

-- a store at or above the top leaves the stack
stacked_set : (stack : List ℕ) (e v d : ℕ) → d ≤ e → stacked (set stack e v) d ≡ stacked stack d
unfolding stacked
stacked_set stack e v zero h = refl
stacked_set stack e v (suc d) h =
    ap₂ ◌∷◌ (get_or-set_other stack e d v 0 (λ z. omega arith)) (stacked_set stack e v d (omega arith))

module _ {stack : List ℕ} {depth j : ℕ} (s : Stack stack depth j) (h : j < most_statements) where
  -- those on the stack stand before the next statement too
  later : (d : ℕ) → d < depth → get_or stack d 0 < j + 1
  later d l = omega (arith, s.low d l)

  -- a header is stacked
  pushed : Stack (set stack depth j) (depth + 1) (j + 1)
  pushed =
      record {
        long = length-set stack depth j ∙ s.long;
        deep = omega (arith, s.deep);
        low =
            λ d l.
            ⊎_elim
            (λ (z : d ≡ depth).
            omega (
              arith,
              ap (λ (e : ℕ). get_or (set stack depth j) e 0) z,
              get_or-set_same stack depth j 0 (omega (arith, s.deep, s.long)),
            ))
            (λ z.
            omega (arith, get_or-set_other stack depth d j 0 z, s.low d (let k : d < depth = omega arith in k)))
            (eq_or_ne d depth);
      }

  pub note_header : {stack' : List ℕ} (mates : List ℕ) → stack' ≡ set stack depth j
      → Paired opens j depth (depth + 1) stack stack' mates mates
  unfolding pairs_from stacked
  note_header {stack'} mates e =
      let top : get_or (set stack depth j) depth 0 ≡ j =
      get_or-set_same stack depth j 0 (omega (arith, s.deep, s.long)) in
      rw e
      (record {
        sound = pushed;
        same = λ bs. rw (add-one depth, add-one j, top, stacked_set stack depth j depth (omega arith));
      })

  -- a statement that is neither header nor end
  pub note_other : (mates : List ℕ) → Paired neither j depth depth stack stack mates mates
  unfolding pairs_from
  note_other mates =
      record {
        sound = record { long = s.long; deep = omega (arith, s.deep); low = later };
        same = λ bs. rw (add-one j);
      }

  -- an end without a header
  pub note_lone : (mates : List ℕ) → depth ≡ 0 → Paired shuts j depth 0 stack stack mates mates
  unfolding pairs_from stacked
  note_lone mates z =
      record {
        sound = record { long = s.long; deep = omega arith; low = λ d l. absurd (omega arith) };
        same = λ bs. rw (z, add-one j);
      }

  -- an end with its header
  pub note_pair : {head : ℕ} {mates' : List ℕ} (mates : List ℕ) → (depth ≡ 0 → ⊥) → head ≡ get_or stack (depth - 1) 0
      → mates' ≡ set (set mates head (j + 1)) j (head + 1)
      → Paired shuts j depth (depth - 1) stack stack mates mates'
  unfolding pairs_from stacked mates_noted
  note_pair {head} {mates'} mates z t e =
      let d : depth ≡ suc (depth - 1) = omega arith in
      let top : stacked stack depth ≡ head ∷ stacked stack (depth - 1) =
      ap (stacked stack) d ∙ ap (λ (a : ℕ). a ∷ stacked stack (depth - 1)) (sym t) in
      record {
        sound =
            record { long = s.long; deep = omega (arith, s.deep); low = λ d l. later d (omega arith) };
        same = λ bs. rw (top, e)
            (ap (λ (k : ℕ). mates_noted (pairs_from (stacked stack (depth - 1)) k bs)
            (set (set mates head (j + 1)) j (head + 1))) (sym (add-one j)));
      }

-- ---- the loop over n statements: it stands at statement j
pub record Mating (n : ℕ) (bounds kinds mates₀ stack : List ℕ) (depth j : ℕ) (mates : List ℕ) : Type 0 where
  pub inside : j ≤ n
  pub sound : Stack stack depth j
  pub long : length mates ≡ length mates₀
  pub same : mates_noted (pairs_from (stacked stack depth) j (brackets_from bounds kinds (n - j) j)) mates
      ≡ mates_noted (pairs (brackets_in n bounds kinds)) mates₀

pub mating_first : (n : ℕ) (bounds kinds mates : List ℕ)
    → Mating n bounds kinds mates (replicate most_statements 0) 0 0 mates
unfolding stacked
mating_first n bounds kinds mates =
    record {
      inside = omega arith;
      sound =
          record {
            long = length-replicate {A = ℕ} most_statements 0;
            deep = omega arith;
            low = λ d l. absurd (omega arith);
          };
      long = refl;
      same = rw sub-zero refl;
    }

module _ {n : ℕ} {bounds kinds mates₀ stack : List ℕ} {depth j : ℕ} {mates : List ℕ}
    (v : Mating n bounds kinds mates₀ stack depth j mates) where
  pub mating_next : {b : Bracket} {r : ℕ} {stack' mates' : List ℕ} → j < n → b ≡ bracket_at bounds kinds j
      → length mates' ≡ length mates → Paired b j depth r stack stack' mates mates'
      → Mating n bounds kinds mates₀ stack' r (j + 1) mates'
  mating_next {b} {r} {stack'} {mates'} h e l p =
      let q : Paired (bracket_at bounds kinds j) j depth r stack stack' mates mates' = rw e at p in
      let rest = brackets_from bounds kinds (n - (j + 1)) (j + 1) in
      let step : brackets_from bounds kinds (n - j) j ≡ bracket_at bounds kinds j ∷ rest =
      gather_step (λ i. bracket_at bounds kinds i ∷ []) n j h in
      record {
        inside = omega arith;
        sound = q.sound;
        long = l ∙ v.long;
        same = sym (q.same rest)
            ∙ ap (λ (bs : List Bracket). mates_noted (pairs_from (stacked stack depth) j bs) mates) (sym step) ∙ v.same;
      }

  pub mating_last : n ≤ j → mates ≡ mates_noted (pairs (brackets_in n bounds kinds)) mates₀
  unfolding pairs_from mates_noted
  mating_last h =
      let none : brackets_from bounds kinds (n - j) j ≡ [] = gather_done (λ i. bracket_at bounds kinds i ∷ []) n j h in
      let z = ap (λ (bs : List Bracket). mates_noted (pairs_from (stacked stack depth) j bs) mates) none in
      sym z ∙ v.same
