-- What the grouping of statements is worth: by its number 6, the faults of blocks listed, or the units ready for their
-- model.
use Prim.Native.Nat.{ℕ, ◌+◌, ◌*◌, ◌≤◌}
use mathlib.Core.Path.{◌≡◌, refl, sym, ap, subst, ◌∙◌}
use mathlib.Core.Bool.{Bool, true, false, cond}
use mathlib.Core.List.{List, [], ◌∷◌}
use native.Mathlib.Omega.{arith}
use borrow.Author.Tests.{lt-ltb, ltb-false, leb-true}
use lib.Dec.{leb, ltb, eqb}
use lib.ListN.{length, take, replicate, length-map, length-replicate}
use lib.Seq.{sets, length-sets}
use Rattle.std.specs.Prelude.{Result, Ok, Err}
use Rattle.limits.specs.Limits.{most_statements, most_definitions, text_bytes, fault_bytes}
use Rattle.laws.proofs.Tests.{and_true}
use Rattle.drafts.specs.Drafts.{Draft}
use Rattle.sheet.specs.Sheet.{Numbered, Fault, fault_list}
use Rattle.sheet.specs.Layout.{drafts_in}
use Rattle.blocks.specs.declared.answer.Refusal.{Refusal as Unready}
use Rattle.blocks.specs.declared.answer.Refusal.TheVariants.{ManyDefinitions as OverMany, Faults, Unfit}
use Rattle.blocks.specs.Units.{TextUnit, Stated, stated_in}
use Rattle.blocks.specs.Inside.{block_faults}
use Rattle.blocks.specs.Members.{settings, units_of}
use Rattle.blocks.specs.Layout.{UnitsLaid, drafts_stated}
use Rattle.blocks.specs.Places.{firsts_in, unit_lines_in, unit_bounds_in}
use Rattle.blocks.specs.InsidePlaces.{rewritten_kinds}
use Rattle.blocks.specs.Grouped.{Grouping, UnitArrays, unit_arrays, GroupOutcome, group_outcome, group_refused}
use Rattle.blocks.specs.Grouped.{group_faulted, some}
use Rattle.blocks.specs.Grouped.{group_fit}
use Rattle.blocks.specs.Grouped.{with_units, united}
use Rattle.blocks.specs.Contract.{Groups, grouping_in}
use Rattle.blocks.proofs.BlocksShaped.{shaped_text}
use Rattle.blocks.proofs.UnitsLaidOut.{units_counted}
use Rattle.blocks.proofs.UnitsSound.{units_sound}
use Rattle.blocks.proofs.StatedFew.{stated_few}
use Rattle.blocks.proofs.GroupStages.{fitted}
use Rattle.blocks.proofs.GroupMeans.{grouped_means, units_written}
use Rattle.model.proofs.DefinitionsFew.{definitions_few}
use Rattle.model.proofs.LaidFits.{laid_fits}
use Rattle.translator.specs.declared.Refusal.{Refusal}
use Rattle.translator.specs.declared.Refusal.TheVariants.{ManyDefinitions, ModelFaults}
use Rattle.translator.specs.declared.Ordered.{Ordered}
use Rattle.translator.specs.Working.{refusal_from, unitless, ArraysReady, UnitsReady, UnitsConcludeFor, ConcludesFor}
use Rattle.translator.proofs.Counted.{stated_many}

module _ {lines bounds kinds args used faults : List ℕ} (ready : ArraysReady lines bounds kinds args used faults)
    (answer : Result ℕ Unready) {kinds' faults' ulines ubounds firsts : List ℕ}
    (groups : Groups lines bounds kinds args faults unitless answer kinds' faults' (unit_arrays ulines ubounds firsts))
    (b : Bool) (out lent : List ℕ) where
  -- by number, count and units
  abbrev g : Grouping
  g = grouping_in answer

  abbrev ss : List Numbered
  ss = ready.statements

  abbrev us : List TextUnit
  us = units_of ss

  -- the arrays fit
  fits : fitted lines bounds kinds args faults unitless ≡ true
  fits = rw (length-replicate {A = ℕ} (most_statements + 1) 0) ready.fits

  -- every setting counts
  abbrev many : Bool
  many = ltb most_definitions (length (settings ss))

  abbrev reached : GroupOutcome
  reached = group_outcome g kinds' faults' (unit_arrays ulines ubounds firsts)

  -- the units, listed
  abbrev listed : GroupOutcome
  listed = united lines bounds kinds args faults unitless

  -- too many settings; or faults of blocks, listed; or none
  data Grouped : Type 0 where
    over : many ≡ true → g.number ≡ 6 → faults' ≡ faults → Grouped
    flawed : (f : Fault) (fs : List Fault) → many ≡ false → block_faults ss ≡ f ∷ fs → g.number ≡ 7
        → g.count ≡ length (f ∷ fs) → faults' ≡ sets faults 0 (fault_list (f ∷ fs)) → Grouped
    sound : many ≡ false → block_faults ss ≡ [] → reached ≡ listed → Grouped

  -- one of them
  grouped : Grouped
  grouped =
      by many refl (block_faults ss) refl
      (groups ∙ grouped_means ready.laid ready.headed faults unitless fits)
    where
      by : (c : Bool) → many ≡ c → (fs : List Fault) → block_faults ss ≡ fs
          → reached
          ≡ cond c (group_outcome (group_refused 6 0) kinds faults unitless)
          (cond (some fs) (group_faulted fs kinds faults unitless) listed)
          → Grouped
      by true t fs e q =
          over t (ap (λ (o : GroupOutcome). o.grouping.number) q) (ap (λ (o : GroupOutcome). o.faults) q)
      by false t [] e q = sound t e q
      by false t (f ∷ fs) e q =
          let r = rw (lt-ltb 0 (length (f ∷ fs)) (omega arith)) at q in
          flawed f fs t e (ap (λ (o : GroupOutcome). o.grouping.number) r)
          (ap (λ (o : GroupOutcome). o.grouping.count) r) (ap (λ (o : GroupOutcome). o.faults) r)

  -- the number of units that are listed
  listed_zero : listed.grouping.number ≡ 0
  unfolding united
  listed_zero = refl

  pub says_six : g.number ≡ 6 → ConcludesFor b ss faults out lent (Err ManyDefinitions) faults' out lent
  says_six e = go grouped
    where
      go : Grouped → ConcludesFor b ss faults out lent (Err ManyDefinitions) faults' out lent
      go (over t n f) = rw (t, f)
      go (flawed f fs t m n k l) = absurd (omega arith)
      go (sound t m q) = absurd
          (let z : g.number ≡ 0 = ap (λ (o : GroupOutcome). o.grouping.number) q ∙ listed_zero in omega arith)

  pub says_blocks : g.number ≡ 7 → ConcludesFor b ss faults out lent (Err (ModelFaults g.count)) faults' out lent
  says_blocks e = go grouped
    where
      go : Grouped → ConcludesFor b ss faults out lent (Err (ModelFaults g.count)) faults' out lent
      go (over t n f) = absurd (omega arith)
      go (flawed f fs t m n k l) = rw (t, m, k, l)
      go (sound t m q) = absurd
          (let z : g.number ≡ 0 = ap (λ (o : GroupOutcome). o.grouping.number) q ∙ listed_zero in omega arith)

  -- the arrays fit
  pub never_unfit : answer ≡ Err Unfit → ⊥
  never_unfit q = go grouped (ap (λ (r : Result ℕ Unready). (grouping_in r).number) q)
    where
      go : Grouped → g.number ≡ 9 → ⊥
      go (over t n f) e = omega arith
      go (flawed f fs t m n k l) e = omega arith
      go (sound t m z) e =
          let y : g.number ≡ 0 = ap (λ (o : GroupOutcome). o.grouping.number) z ∙ listed_zero in omega arith

  -- so each refusal is the text's
  pub says_refused : (e : Unready) → answer ≡ Err e
      → ConcludesFor b ss faults out lent (Err (refusal_from e)) faults' out lent
  says_refused OverMany q = says_six (ap (λ (r : Result ℕ Unready). (grouping_in r).number) q)
  says_refused (Faults k) q =
      subst (λ (n : ℕ). ConcludesFor b ss faults out lent (Err (ModelFaults n)) faults' out lent)
      (ap (λ (r : Result ℕ Unready). (grouping_in r).count) q)
      (says_blocks (ap (λ (r : Result ℕ Unready). (grouping_in r).number) q))
  says_refused Unfit q = absurd (never_unfit q)

  -- no refusal: the units, n of them, are listed, the fault list untouched
  module _ {n : ℕ} (done : answer ≡ Ok n) where
    none : g.number ≡ 0
    none = ap (λ (r : Result ℕ Unready). (grouping_in r).number) done

    clear : (many ≡ false) × (block_faults ss ≡ []) × (reached ≡ listed)
    clear = go grouped
      where
        go : Grouped → (many ≡ false) × (block_faults ss ≡ []) × (reached ≡ listed)
        go (over t m f) = absurd (omega (arith, none, m))
        go (flawed f fs t m o k l) = absurd (omega (arith, none, o))
        go (sound t m q) = (t, m, q)

    unblocked : block_faults ss ≡ []
    unblocked = clear.1

    -- what is listed
    after : UnitArrays
    after = with_units lines bounds kinds unitless

    units_as : (n ≡ length us) × (kinds' ≡ rewritten_kinds (length lines) bounds kinds args)
        × (faults' ≡ faults) × (unit_arrays ulines ubounds firsts ≡ after)
    unfolding united after
    units_as =
        let q = clear.2 in
        let units = ap (λ (r : Result ℕ Unready). (grouping_in r).units) done in (
          sym units ∙ ap (λ (o : GroupOutcome). o.grouping.units) q
              ∙ units_counted ready.laid ready.headed (shaped_text ss unblocked),
          ap (λ (o : GroupOutcome). o.kinds) q,
          ap (λ (o : GroupOutcome). o.faults) q,
          ap (λ (o : GroupOutcome). o.arrays) q,
        )

    -- there is room for them
    few_statements : length lines ≤ most_statements
    unfolding group_fit
    few_statements = leb-true _ _ (and_true (leb (length lines) most_statements) _ ready.fits).0

    pub units_fit : n ≤ most_statements
    units_fit =
        let same : length lines ≡ length ss = ap length ready.laid.lines_held ∙ length-map ss
        (λ (s : Numbered). s.line) in
        omega (arith, units_as.0, stated_many us, stated_few ss, same, few_statements)

    long_lines : length ulines ≡ most_statements + 1
    unfolding after
    long_lines =
        ap (λ (a : UnitArrays). length a.lines) units_as.3
        ∙ length-sets {A = ℕ} (replicate (most_statements + 1) 0) 0 (unit_lines_in lines bounds kinds)
        ∙ length-replicate {A = ℕ} (most_statements + 1) 0

    long_bounds : length ubounds ≡ most_statements + 1
    unfolding after
    long_bounds =
        ap (λ (a : UnitArrays). length a.bounds) units_as.3
        ∙ length-sets {A = ℕ} (replicate (most_statements + 1) 0) 0 (unit_bounds_in (length lines) bounds kinds)
        ∙ length-replicate {A = ℕ} (most_statements + 1) 0

    long_firsts : length firsts ≡ most_statements + 1
    unfolding after
    long_firsts =
        ap (λ (a : UnitArrays). length a.firsts) units_as.3
        ∙ length-sets {A = ℕ} (replicate (most_statements + 1) 0) 0 (firsts_in (length lines) bounds kinds)
        ∙ length-replicate {A = ℕ} (most_statements + 1) 0

    pub lines_room : n ≤ length ulines
    lines_room = omega (arith, units_fit, long_lines)

    pub bounds_room : n + 1 ≤ length ubounds
    bounds_room = omega (arith, units_fit, long_bounds)

    pub firsts_room : n + 1 ≤ length firsts
    firsts_room = omega (arith, units_fit, long_firsts)

    -- they are laid out
    units_laid : UnitsLaid us kinds' args lines bounds (take n ulines) (take (n + 1) ubounds)
        (take (n + 1) firsts)
    unfolding after
    units_laid =
        let a = units_as.3 in
        rw (
          units_as.0,
          units_as.1,
          ap (λ (x : UnitArrays). x.lines) a,
          ap (λ (x : UnitArrays). x.bounds) a,
          ap (λ (x : UnitArrays). x.firsts) a,
        )
        (units_written ready.laid ready.headed faults unitless fits unblocked)

    -- as many kinds as arguments, before and after
    kinds_many : length kinds' ≡ length args
    kinds_many =
        let ds = drafts_stated (stated_in us) in
        ap length units_laid.kinds_held ∙ length-map ds (λ (d : Draft). d.kind)
        ∙ sym (ap length units_laid.args_held ∙ length-map ds (λ (d : Draft). d.arg))

    kinds_before : length kinds ≡ length args
    kinds_before =
        let ds = drafts_in ss in
        ap length ready.laid.kinds_held ∙ length-map ds (λ (d : Draft). d.kind)
        ∙ sym (ap length ready.laid.args_held ∙ length-map ds (λ (d : Draft). d.arg))

    as_stated : length (stated_in us) ≡ length lines
    as_stated = sym (ap length units_laid.lines_held ∙ length-map (stated_in us) (λ (t : Stated). t.line))

    -- what else fits
    sizes : (length kinds ≤ text_bytes) × (fault_bytes * length lines ≤ length faults)
    unfolding group_fit
    sizes =
        let a = and_true (leb (length lines) most_statements) _ ready.fits in
        let b = and_true (eqb (length bounds) (length lines + 1)) _ a.1 in
        let c = and_true (leb (length kinds) text_bytes) _ b.1 in
        let d = and_true (leb (length kinds) (length args)) _ c.1 in
        let e = and_true (leb (fault_bytes * length lines) (length faults)) _ d.1 in
        (leb-true _ _ c.0, leb-true _ _ e.0)

    -- THE UNITS are ready for their model
    pub units_ready : UnitsReady lines bounds (take n ulines) (take (n + 1) ubounds)
        (take (n + 1) firsts) kinds' args used faults'
    units_ready =
        let few = ltb-false most_definitions (length (settings ss)) clear.0 in
        record {
          units = us;
          laid = units_laid;
          sound = units_sound ss unblocked;
          few = omega (arith, few, definitions_few ss);
          fits =
              laid_fits us kinds' args lines bounds _ _ _ units_laid (length args) (length used) (length faults')
              (omega (arith, as_stated, few_statements)) (omega (arith, kinds_many, kinds_before, sizes.0))
              (omega (arith, kinds_many)) (omega (arith, kinds_many, kinds_before, ready.uses_room))
              (rw (as_stated, units_as.2) sizes.1);
        }

    -- and the verdict is that on their model
    pub says_units : (r : Result Ordered Refusal) {f'' out' lent' : List ℕ}
        → ((s : UnitsReady lines bounds (take n ulines) (take (n + 1) ubounds)
        (take (n + 1) firsts) kinds' args used faults')
        → UnitsConcludeFor b s.units faults' out lent r f'' out' lent')
        → ConcludesFor b ss faults out lent r f'' out' lent'
    unfolding units_ready
    says_units r {f''} {out'} {lent'} w =
        let same : UnitsConcludeFor b us faults out lent r f'' out' lent' =
        subst (λ (f : List ℕ). UnitsConcludeFor b us f out lent r f'' out' lent') units_as.2 (w units_ready) in
        rw (clear.0, unblocked) same
