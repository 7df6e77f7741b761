-- The units written one after the other to the front of three arrays.
use Prim.Native.Nat.{ℕ, ◌+◌, ◌-◌, ◌≤◌, ◌<◌}
use mathlib.Core.Path.{◌≡◌, refl, sym, ap, ◌∙◌}
use mathlib.Core.Bool.{Bool, false}
use mathlib.Core.List.{List, [], ◌∷◌, ◌++◌, map, append_assoc}
use native.Mathlib.Nat.{sub-zero}
use native.Mathlib.Numerals.{add-one}
use native.Mathlib.Omega.{arith}
use lib.ListN.{length, get_or, set, length-append}
use lib.Seq.{sets, length-sets}
use Rattle.laws.specs.Places.{only_if}
use Rattle.laws.specs.Put.{Put}
use Rattle.laws.proofs.Sets.{sets_append}
use Rattle.laws.proofs.Concats.{map_append}
use Rattle.laws.proofs.Along.{map_only}
use Rattle.laws.proofs.Gathers.{gather_step, gather_done}
use Rattle.blocks.specs.Pairing.{Bracket}
use Rattle.blocks.specs.Places.{bracket_at, brackets_from, starts_unit, inside_next, unit_starts, starts_in, firsts_in}
use Rattle.blocks.specs.Places.{unit_lines_in, unit_bounds_in}
use Rattle.blocks.specs.Working.{UnitPut, Listed}
use Rattle.blocks.proofs.DefiningCounted.{once_few, only_once}

-- ---- no unit written
put_none : (x : List ℕ) (a c : ℕ) → Put (only_if false a) c c x x
put_none x a c = record { behind = omega arith; written = refl }

pub unit_unput : (line bound first c : ℕ) (ulines ubounds firsts : List ℕ)
    → UnitPut false line bound first c c ulines ulines ubounds ubounds firsts firsts
unit_unput line bound first c ulines ubounds firsts =
    record {
      line_put = put_none ulines line c;
      bound_put = put_none ubounds bound c;
      first_put = put_none firsts first c;
    }

-- ---- a row that is written: what is left of it, behind c numbers
pub record Row (left all : List ℕ) (c : ℕ) (x₀ x : List ℕ) : Type 0 where
  pub long : length x ≡ length x₀
  pub same : sets x c left ≡ sets x₀ 0 all

row_next : {left all x₀ x x' : List ℕ} {c r : ℕ} (part rest : List ℕ) → Row left all c x₀ x → left ≡ part ++ rest
    → Put part c r x x'
    → Row rest all r x₀ x'
row_next {left} {all} {x₀} {x} {x'} {c} part rest v e p =
    record {
      long = ap length p.written ∙ length-sets x c part ∙ v.long;
      same = rw (p.written, p.behind, ← (sets_append x c part rest), ← e) v.same;
    }

module _ (lines bounds kinds : List ℕ) where
  abbrev line_of : ℕ → ℕ
  line_of j = get_or lines j 0

  abbrev bound_of : ℕ → ℕ
  bound_of j = get_or bounds j 0

  -- the units that begin from statement j on
  abbrev starts_left : Bool → ℕ → List ℕ
  starts_left inside j = unit_starts inside j (brackets_from bounds kinds (length lines - j) j)

  abbrev firsts_left : Bool → ℕ → List ℕ
  firsts_left inside j = starts_left inside j ++ (length lines ∷ [])

  -- ---- the loop: it stands at statement j, inside a block or not, with c units written
  pub record Listing (inside : Bool) (c j : ℕ) (ulines₀ ulines ubounds₀ ubounds firsts₀ firsts : List ℕ) : Type 0 where
    pub within : j ≤ length lines
    pub few : c ≤ j
    pub left : c + length (starts_left inside j) ≡ length (starts_in (length lines) bounds kinds)
    pub lines_row : Row (map line_of (starts_left inside j)) (unit_lines_in lines bounds kinds) c ulines₀ ulines
    pub bounds_row : Row (map bound_of (firsts_left inside j)) (unit_bounds_in (length lines) bounds kinds) c ubounds₀
        ubounds
    pub firsts_row : Row (firsts_left inside j) (firsts_in (length lines) bounds kinds) c firsts₀ firsts

  pub listing_first : (ulines ubounds firsts : List ℕ) → Listing false 0 0 ulines ulines ubounds ubounds firsts firsts
  listing_first ulines ubounds firsts =
      record {
        within = omega arith;
        few = omega arith;
        left = rw sub-zero (omega arith);
        lines_row = record { long = refl; same = rw sub-zero refl };
        bounds_row = record { long = refl; same = rw sub-zero refl };
        firsts_row = record { long = refl; same = rw sub-zero refl };
      }

  -- one statement further
  starts_step : (inside : Bool) (j : ℕ) → j < length lines → starts_left inside j
      ≡ only_if (starts_unit inside (bracket_at bounds kinds j)) j
      ++ starts_left (inside_next inside (bracket_at bounds kinds j)) (j + 1)
  unfolding unit_starts
  starts_step inside j h =
      ap (unit_starts inside j) (gather_step (λ i. bracket_at bounds kinds i ∷ []) (length lines) j h)
      ∙ ap (λ (k : ℕ). only_if (starts_unit inside (bracket_at bounds kinds j)) j
      ++ unit_starts (inside_next inside (bracket_at bounds kinds j)) k
      (brackets_from bounds kinds (length lines - (j + 1)) (j + 1))) (sym (add-one j))

  starts_done : (inside : Bool) (j : ℕ) → length lines ≤ j → starts_left inside j ≡ []
  unfolding unit_starts
  starts_done inside j h =
      ap (unit_starts inside j) (gather_done (λ i. bracket_at bounds kinds i ∷ []) (length lines) j h)

  module _ {inside : Bool} {c j : ℕ} {ulines₀ ulines ubounds₀ ubounds firsts₀ firsts : List ℕ}
      (v : Listing inside c j ulines₀ ulines ubounds₀ ubounds firsts₀ firsts) where
    pub listing_next : {b : Bracket} {t inside' : Bool} {line bound r : ℕ} {ulines' ubounds' firsts' : List ℕ}
        → j < length lines
        → b ≡ bracket_at bounds kinds j → t ≡ starts_unit inside b → inside' ≡ inside_next inside b → line ≡ line_of j
        → bound ≡ bound_of j
        → UnitPut t line bound j c r ulines ulines' ubounds ubounds' firsts firsts'
        → Listing inside' r (j + 1) ulines₀ ulines' ubounds₀ ubounds' firsts₀ firsts'
    listing_next {b} {t} {inside'} {line} {bound} {r} {ulines'} {ubounds'} {firsts'} h e et ei el eb p =
        let here = starts_unit inside (bracket_at bounds kinds j) in
        let q : UnitPut here (line_of j) (bound_of j) j c r ulines ulines' ubounds ubounds' firsts firsts' =
        rw (et, el, eb, e) at p in
        let next = inside_next inside (bracket_at bounds kinds j) in
        let rest = starts_left next (j + 1) in
        let step = starts_step inside j h in
        let mapped : (f : ℕ → ℕ) (y : List ℕ) → map f (only_if here j ++ y) ≡ only_if here (f j) ++ map f y =
        λ f y. map_append f (only_if here j) y ∙ ap (λ (z : List ℕ). z ++ map f y) (map_only f here j) in
        let firsts_step : firsts_left inside j ≡ only_if here j ++ firsts_left next (j + 1) =
        ap (λ (z : List ℕ). z ++ (length lines ∷ [])) step ∙ append_assoc (only_if here j) rest (length lines ∷ []) in
        rw (ei, e)
        (record {
          within = omega arith;
          few = omega (arith, v.few, q.line_put.behind, only_once here (line_of j), once_few here);
          left =
              omega (
                arith,
                v.left,
                ap length step,
                length-append (only_if here j) rest,
                q.first_put.behind,
              );
          lines_row = row_next (only_if here (line_of j)) (map line_of rest) v.lines_row
              (ap (map line_of) step ∙ mapped line_of rest) q.line_put;
          bounds_row = row_next (only_if here (bound_of j)) (map bound_of (firsts_left next (j + 1))) v.bounds_row
              (ap (map bound_of) firsts_step ∙ mapped bound_of (firsts_left next (j + 1))) q.bound_put;
          firsts_row = row_next (only_if here j) (firsts_left next (j + 1)) v.firsts_row firsts_step q.first_put;
        })

    -- behind the last statement: where it ends
    pub listing_last : {bound : ℕ} {ubounds' firsts' : List ℕ} → length lines ≤ j → bound ≡ bound_of (length lines)
        → ubounds' ≡ set ubounds c bound → firsts' ≡ set firsts c (length lines)
        → Listed lines bounds kinds c ulines₀ ulines ubounds₀ ubounds' firsts₀ firsts'
    listing_last {bound} h eb p q =
        let none = starts_done inside j h in
        record {
          count = omega (arith, v.left, ap length none);
          lines_put = rw none at v.lines_row.same;
          bounds_put = p ∙ ap (set ubounds c) eb ∙ rw none at v.bounds_row.same;
          firsts_put = q ∙ rw none at v.firsts_row.same;
        }
