-- What `group` answers for the arrays of a text, in the paper's terms: 6 by the settings, 7 by the faults 25 or 26,
-- else
-- 0 with the units.
use Prim.Native.Nat.{ℕ, suc, ◌+◌, ◌≤◌}
use mathlib.Core.Path.{◌≡◌, refl, sym, ap, ◌∙◌}
use mathlib.Core.Bool.{Bool, true, false, cond}
use mathlib.Core.List.{List, [], ◌∷◌}
use native.Mathlib.Omega.{arith}
use borrow.Author.Tests.{lt-ltb}
use lib.Dec.{ltb}
use lib.ListN.{length, get_or, take, length-map, length-append}
use lib.Seq.{sets}
use Rattle.limits.specs.Limits.{most_definitions}
use Rattle.laws.specs.Places.{only_if}
use Rattle.laws.proofs.Sets.{sets_back}
use Rattle.sheet.specs.Sheet.{Numbered, Fault}
use Rattle.sheet.specs.Layout.{Laid}
use Rattle.blocks.specs.Tests.{or_else}
use Rattle.blocks.specs.Pairing.{Bracket, Headed, faults25}
use Rattle.blocks.specs.Inside.{faults26, block_faults}
use Rattle.blocks.specs.Members.{settings, units_of}
use Rattle.blocks.specs.Layout.{UnitsLaid}
use Rattle.blocks.specs.Places.{brackets_in, starts_unit, inside_next, unit_starts, starts_in, firsts_in, unit_lines_in}
use Rattle.blocks.specs.Places.{unit_bounds_in}
use Rattle.blocks.specs.InsidePlaces.{rewritten_kinds}
use Rattle.blocks.specs.Grouped.{UnitArrays, GroupOutcome, group_outcome, group_refused, group_faulted, some}
use Rattle.blocks.specs.Grouped.{with_units}
use Rattle.blocks.specs.Grouped.{united, right_inside, paired, limited, grouped}
use Rattle.blocks.proofs.DefiningCounted.{once_few, only_once}
use Rattle.blocks.proofs.GroupStages.{fitted, Room, fit_room}
use Rattle.blocks.proofs.Unpaired.{brackets_length}
use Rattle.blocks.proofs.SheetBrackets.{faults25_laid}
use Rattle.blocks.proofs.SheetSettings.{settings_counted}
use Rattle.blocks.proofs.BlocksShaped.{shaped_text}
use Rattle.blocks.proofs.InsideMeans.{inside_meant, kinds_rewritten}
use Rattle.blocks.proofs.UnitsLaidOut.{units_counted, units_held}

-- the one list of faults, or the other if that is empty
either_faults : (x y : List Fault) (kinds faults : List ℕ) (a : UnitArrays) (rest : GroupOutcome)
    → cond (some x) (group_faulted x kinds faults a) (cond (some y) (group_faulted y kinds faults a) rest)
    ≡ cond (some (or_else x y)) (group_faulted (or_else x y) kinds faults a) rest
either_faults [] y kinds faults a rest = refl
either_faults (f ∷ x) y kinds faults a rest =
    let t : some (f ∷ x) ≡ true = lt-ltb 0 (length (f ∷ x)) (omega arith) in rw t

-- a row at the front of an array that has room for it
front_row : (array row : List ℕ) (n : ℕ) → n ≡ length row → length row ≤ length array → take n (sets array 0 row) ≡ row
front_row array row n e h = rw e (sets_back array 0 row (omega arith))

-- not more units begin than there are statements
starts_few : (inside : Bool) (i : ℕ) (bs : List Bracket) → length (unit_starts inside i bs) ≤ length bs
unfolding unit_starts
starts_few inside i [] = omega arith
starts_few inside i (b ∷ bs) =
    let rest = unit_starts (inside_next inside b) (suc i) bs in
    let t = starts_unit inside b in
    omega (
      arith,
      length-append (only_if t i) rest,
      only_once t i,
      once_few t,
      starts_few (inside_next inside b) (suc i) bs,
    )

module _ {ss : List Numbered} {kinds args lines bounds : List ℕ} (v : Laid ss kinds args lines bounds) (h : Headed ss)
    (faults : List ℕ) (a : UnitArrays) (fits : fitted lines bounds kinds args faults a ≡ true) where
  -- THE ANSWER for a text whose arrays fit
  pub grouped_means : grouped lines bounds kinds args faults a
      ≡ cond (ltb most_definitions (length (settings ss))) (group_outcome (group_refused 6 0) kinds faults a)
      (cond (some (block_faults ss)) (group_faulted (block_faults ss) kinds faults a)
      (united lines bounds kinds args faults a))
  unfolding grouped limited paired right_inside block_faults
  grouped_means =
      let rest = united lines bounds kinds args faults a in
      rw (fits, settings_counted v, faults25_laid v h, inside_meant ss kinds args lines bounds v h)
      (ap (cond (ltb most_definitions (length (settings ss))) (group_outcome (group_refused 6 0) kinds faults a))
      (either_faults (faults25 ss) (faults26 ss) kinds faults a rest))

  -- ---- without faults
  module _ (e : block_faults ss ≡ []) where
    abbrev n : ℕ
    n = length (units_of ss)

    -- the arrays after that
    abbrev after : UnitArrays
    after = with_units lines bounds kinds a

    as_many : length (starts_in (length lines) bounds kinds) ≡ n
    as_many = units_counted v h (shaped_text ss e)

    few : n ≤ length lines
    few = omega (
      arith,
      as_many,
      starts_few false 0 (brackets_in (length lines) bounds kinds),
      brackets_length bounds kinds (length lines) 0,
    )

    room : Room (length lines) (length a.lines) (length a.bounds) (length a.firsts)
    room =
        fit_room lines bounds kinds (length args) (length faults) (length a.lines) (length a.bounds)
        (length a.firsts) fits

    lines_long : n ≡ length (unit_lines_in lines bounds kinds)
    lines_long =
        sym (length-map (starts_in (length lines) bounds kinds) (λ (j : ℕ). get_or lines j 0) ∙ as_many)

    firsts_long : n + 1 ≡ length (firsts_in (length lines) bounds kinds)
    firsts_long =
        omega (arith, as_many, length-append (starts_in (length lines) bounds kinds) (length lines ∷ []))

    bounds_long : n + 1 ≡ length (unit_bounds_in (length lines) bounds kinds)
    bounds_long =
        firsts_long ∙ sym (length-map (firsts_in (length lines) bounds kinds) (λ (j : ℕ). get_or bounds j 0))

    -- THE UNITS of the text stand at the fronts of the arrays
    pub units_written : UnitsLaid (units_of ss) (rewritten_kinds (length lines) bounds kinds args) args lines bounds
        (take n after.lines) (take (n + 1) after.bounds) (take (n + 1) after.firsts)
    units_written =
        let held = units_held v h (shaped_text ss e) (kinds_rewritten ss kinds args lines bounds v h e) in
        let at_lines = front_row a.lines (unit_lines_in lines bounds kinds) n lines_long
        (omega (arith, few, lines_long, room.lines_room)) in
        let at_Bounds = front_row a.bounds (unit_bounds_in (length lines) bounds kinds) (n + 1) bounds_long
        (omega (arith, few, bounds_long, room.bounds_room)) in
        let at_firsts = front_row a.firsts (firsts_in (length lines) bounds kinds) (n + 1) firsts_long
        (omega (arith, few, firsts_long, room.firsts_room)) in
        record {
          kinds_held = held.kinds_held;
          args_held = held.args_held;
          lines_held = held.lines_held;
          bounds_held = held.bounds_held;
          unit_lines_held = at_lines ∙ held.unit_lines_held;
          unit_bounds_held = at_Bounds ∙ held.unit_bounds_held;
          firsts_held = at_firsts ∙ held.firsts_held;
        }
