-- The arrays of the units of a text without 25 and 26: what is listed by place holds them.
use Prim.Native.Nat.{ℕ, suc, ◌+◌}
use mathlib.Core.Path.{◌≡◌, refl, sym, ap, ap₂, ◌∙◌}
use mathlib.Core.Bool.{Bool, false}
use mathlib.Core.List.{List, [], ◌∷◌, ◌++◌, map, append_assoc}
use native.Mathlib.Nat.{add-zero}
use native.Mathlib.Omega.{arith}
use lib.ListN.{length, get_or, length-map, length-append}
use Rattle.laws.specs.Lists.{concat_map}
use Rattle.laws.specs.Places.{only_if}
use Rattle.laws.proofs.Along.{starts_at}
use Rattle.drafts.specs.Tree.{Says, constants as constants_said, assignment as assignment_said, state as state_said}
use Rattle.drafts.specs.Tree.{header, ending}
use Rattle.sheet.specs.Sheet.{Numbered}
use Rattle.sheet.specs.Layout.{draft_kinds, Laid}
use Rattle.blocks.specs.Units.{UnitBody, single, block, TextUnit, Stated, stated, stated_by, stated_in}
use Rattle.blocks.specs.Pairing.{bracket_of, brackets, Headed}
use Rattle.blocks.specs.Members.{Pending, idle, partly, units_by, pending_by, units_from, units_of}
use Rattle.blocks.specs.Layout.{drafts_stood, drafts_stated, drafts_unit, stated_bounds, unit_bounds, unit_firsts}
use Rattle.blocks.specs.Layout.{UnitsLaid}
use Rattle.blocks.specs.Places.{starts_unit, inside_next, unit_starts, starts_in, firsts_in, unit_lines_in}
use Rattle.blocks.specs.Places.{unit_bounds_in}
use Rattle.blocks.proofs.StartsNested.{fronts_at, starts_fronts, starts_nested, fronts_told}
use Rattle.blocks.proofs.BlocksShaped.{Stands, Shaped}
use Rattle.blocks.proofs.SheetBrackets.{lines_length, brackets_laid}
use Rattle.blocks.proofs.UnitsStated.{pending_in, pending_stated, stood_by, pending_next, stated_step, shaped_next}
use Rattle.blocks.proofs.UnitsStated.{stated_lines, stated_args, stated_bounds_holds}

-- the statements of a unit
abbrev stated_unit : TextUnit → List Stated
stated_unit u = stated_by u.line u.body

-- ---- first statements and bounds are where parts begin
firsts_starts : (o : ℕ) (us : List TextUnit) → unit_firsts o us ≡ starts_at stated_unit o us
unfolding unit_firsts starts_at
firsts_starts o [] = refl
firsts_starts o (u ∷ us) = ap (◌∷◌ o) (firsts_starts (o + length (stated_unit u)) us)

unit_bounds_starts : (o : ℕ) (us : List TextUnit) → unit_bounds o us ≡ starts_at drafts_unit o us
unfolding unit_bounds starts_at
unit_bounds_starts o [] = refl
unit_bounds_starts o (u ∷ us) = ap (◌∷◌ o) (unit_bounds_starts (o + length (drafts_unit u)) us)

stated_bounds_starts : (o : ℕ) (ts : List Stated)
    → stated_bounds o ts ≡ starts_at (λ (t : Stated). drafts_stood t.stood) o ts
unfolding stated_bounds starts_at
stated_bounds_starts o [] = refl
stated_bounds_starts o (t ∷ ts) = ap (◌∷◌ o) (stated_bounds_starts (o + length (drafts_stood t.stood)) ts)

-- ---- where the units begin: what has been read of a block begins one
abbrev pending_front : Pending → ℕ → List ℕ
pending_front idle o = []
pending_front (partly h os is ns) o = o ∷ []

fronts_append : (o : ℕ) (x y : List TextUnit)
    → fronts_at stated_unit o (x ++ y) ≡ fronts_at stated_unit o x ++ fronts_at stated_unit (o + length (stated_in x)) y
unfolding fronts_at concat_map
fronts_append o [] y = ap (λ (n : ℕ). fronts_at stated_unit n y) (sym (add-zero o))
fronts_append o (u ∷ x) y =
    let e : o + length (stated_unit u) + length (stated_in x) ≡ o + length (stated_unit u ++ stated_in x) =
    omega (arith, length-append (stated_unit u) (stated_in x)) in
    ap (◌∷◌ o)
    (fronts_append (o + length (stated_unit u)) x y
    ∙ ap (λ (n : ℕ). fronts_at stated_unit (o + length (stated_unit u)) x ++ fronts_at stated_unit n y) e)

fronts_step : (b : Pending) (l : ℕ) (x : Says) (o : ℕ) → Stands (pending_in b) x
    → fronts_at stated_unit o (units_by b l x)
    ++ pending_front (pending_by b l x) (o + length (stated_in (units_by b l x)))
    ≡ pending_front b o ++ only_if (starts_unit (pending_in b) (bracket_of x)) (o + length (pending_stated b))
unfolding fronts_at concat_map
fronts_step idle l (constants_said cs) o h = ap (λ (n : ℕ). n ∷ []) (sym (add-zero o))
fronts_step idle l (assignment_said k e) o h = ap (λ (n : ℕ). n ∷ []) (sym (add-zero o))
fronts_step idle l (state_said k i e) o h = ap (λ (n : ℕ). n ∷ []) (sym (add-zero o))
fronts_step idle l (header os is) o h = refl
fronts_step idle l ending o h = absurd h
fronts_step (partly n os is ns) l (constants_said cs) o h = absurd h
fronts_step (partly n os is ns) l (assignment_said k e) o h = ap (λ (m : ℕ). m ∷ []) (add-zero o)
fronts_step (partly n os is ns) l (state_said k i e) o h = absurd h
fronts_step (partly n os is ns) l (header os' is') o h = absurd h
fronts_step (partly n os is ns) l ending o h = refl

-- THE BEGINNINGS of the units are those by brackets
fronts_from : (o : ℕ) (b : Pending) (ss : List Numbered) → Shaped (pending_in b) ss
    → fronts_at stated_unit o (units_from b ss)
    ≡ pending_front b o ++ unit_starts (pending_in b) (o + length (pending_stated b)) (brackets ss)
unfolding fronts_at units_from unit_starts
fronts_from o idle [] h = refl
fronts_from o (partly n os is ns) [] h = absurd h
fronts_from o b (s ∷ ss) h =
    let g = shaped_next b s ss h in
    let x = s.says in
    let units = units_by b s.line x in
    let next = pending_by b s.line x in
    let at = o + length (stated_in units) in
    let more : at + length (pending_stated next) ≡ suc (o + length (pending_stated b)) =
    omega (
      arith,
      ap length (stated_step b s.line x g.0),
      length-append (stated_in units) (pending_stated next),
      length-append (pending_stated b) (stated s.line (stood_by b x) ∷ []),
    ) in
    let rest = unit_starts (inside_next (pending_in b) (bracket_of x)) (suc (o + length (pending_stated b)))
    (brackets ss) in
    let same : unit_starts (pending_in next) (at + length (pending_stated next)) (brackets ss) ≡ rest =
    ap₂ (λ (c : Bool) (n : ℕ). unit_starts c n (brackets ss)) (pending_next b s.line x g.0) more in
    fronts_append o units (units_from next ss)
    ∙ ap (λ (r : List ℕ). fronts_at stated_unit o units ++ r) (fronts_from at next ss g.1)
    ∙ ap (λ (r : List ℕ). fronts_at stated_unit o units ++ (pending_front next at ++ r)) same
    ∙ sym (append_assoc (fronts_at stated_unit o units) (pending_front next at) rest)
    ∙ ap (λ (r : List ℕ). r ++ rest) (fronts_step b s.line x o g.0)
    ∙ append_assoc (pending_front b o)
    (only_if (starts_unit (pending_in b) (bracket_of x)) (o + length (pending_stated b))) rest

fronts_length : (o : ℕ) (us : List TextUnit) → length (fronts_at stated_unit o us) ≡ length us
unfolding fronts_at
fronts_length o [] = refl
fronts_length o (u ∷ us) = ap suc (fronts_length (o + length (stated_unit u)) us)

-- a unit's line is that of its first statement
first_line : (u : TextUnit) (r : List Stated) → get_or (map (λ (t : Stated). t.line) (stated_unit u ++ r)) 0 0 ≡ u.line
first_line u r = go u.body
  where
    go : (b : UnitBody) → get_or (map (λ (t : Stated). t.line) (stated_by u.line b ++ r)) 0 0 ≡ u.line
    go (single x) = refl
    go (block os is ns z) = refl

-- ---- the arrays of a sheet
module _ {ss : List Numbered} {kinds args lines bounds : List ℕ} (v : Laid ss kinds args lines bounds) (h : Headed ss)
    (clear : Shaped false ss) where
  abbrev us : List TextUnit
  us = units_of ss

  starts_so : starts_in (length lines) bounds kinds ≡ fronts_at stated_unit 0 us
  starts_so =
      rw (lines_length v, brackets_laid v h) (sym (fronts_from 0 idle ss clear))

  -- as many as are counted
  pub units_counted : length (starts_in (length lines) bounds kinds) ≡ length us
  units_counted = ap length starts_so ∙ fronts_length 0 us

  as_many : length (stated_in us) ≡ length lines
  as_many =
      sym (length-map (stated_in us) (λ (t : Stated). t.line)) ∙ ap length (stated_lines ss clear ∙ sym v.lines_held)

  firsts_so : firsts_in (length lines) bounds kinds ≡ unit_firsts 0 us
  firsts_so =
      let e : length lines ≡ 0 + length (stated_in us) = omega (arith, as_many) in
      ap₂ (λ (x : List ℕ) (n : ℕ). x ++ (n ∷ [])) starts_so e
      ∙ sym (firsts_starts 0 us ∙ starts_fronts stated_unit 0 us)

  lines_so : unit_lines_in lines bounds kinds ≡ map (λ (u : TextUnit). u.line) us
  lines_so =
      ap₂ (λ (x y : List ℕ). map (λ (j : ℕ). get_or x j 0) y) (v.lines_held ∙ sym (stated_lines ss clear)) starts_so
      ∙ sym (fronts_told stated_unit (λ (u : TextUnit). u.line) (λ (t : Stated). t.line) first_line us)

  bounds_so : unit_bounds_in (length lines) bounds kinds ≡ unit_bounds 0 us
  bounds_so =
      ap₂ (λ (x y : List ℕ). map (λ (j : ℕ). get_or x j 0) y)
      (v.bounds_held ∙ sym (stated_bounds_holds ss clear) ∙ stated_bounds_starts 0 (stated_in us))
      (firsts_so ∙ firsts_starts 0 us)
      ∙ sym (unit_bounds_starts 0 us ∙ starts_nested stated_unit (λ (t : Stated). drafts_stood t.stood) us)

  -- THE UNITS are held, if the kinds are those of the drafts in them
  pub units_held : {kinds' : List ℕ} → kinds' ≡ draft_kinds (drafts_stated (stated_in us))
      → UnitsLaid us kinds' args lines bounds (unit_lines_in lines bounds kinds)
      (unit_bounds_in (length lines) bounds kinds)
      (firsts_in (length lines) bounds kinds)
  units_held e =
      record {
        kinds_held = e;
        args_held = v.args_held ∙ sym (stated_args ss clear);
        lines_held = v.lines_held ∙ sym (stated_lines ss clear);
        bounds_held = v.bounds_held ∙ sym (stated_bounds_holds ss clear);
        unit_lines_held = lines_so;
        unit_bounds_held = bounds_so;
        firsts_held = firsts_so;
      }
