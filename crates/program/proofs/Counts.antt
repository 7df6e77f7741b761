-- How many records units give.
use Prim.Native.Nat.{ℕ, suc, ◌+◌}
use mathlib.Core.Path.{◌≡◌, refl, sym, ap, ap₂, ◌∙◌}
use mathlib.Core.Bool.{Bool, true, false, cond}
use mathlib.Core.List.{List, [], ◌∷◌, ◌++◌, map, append-nil}
use native.Mathlib.Nat.{zero-add, suc-add}
use native.Mathlib.Omega.{arith}
use lib.ListN.{length, length-append, length-map}
use Rattle.laws.specs.Lists.{concat_map, numbers}
use Rattle.laws.proofs.Lists.{concat_append}
use Rattle.laws.proofs.Concats.{map_append, concat_concat}
use Rattle.laws.proofs.Along.{gather_all, gather_numbers}
use Rattle.laws.proofs.Sums.{lengths_same, numbers_few, numbers_once}
use Rattle.drafts.specs.Kinds.{kind_store, kind_rate, writes}
use Rattle.drafts.specs.Tree.{plus, minus, times, over, compar, insw, limit, plain, from}
use Rattle.drafts.specs.Items.{Item, push, fetch, clock, negate, apply_two, apply_three, postfix}
use Rattle.drafts.specs.Drafts.{Draft, draft, draft_item}
use Rattle.sheet.specs.Layout.{draft_kinds}
use Rattle.blocks.specs.Units.{constants, assignment, state, Sets, given, own, anew, TextUnit, Stood, alone, heading}
use Rattle.blocks.specs.Units.{inner, closing, Stated, stated_in, stores, rates, Equation, equation, OrderUnit}
use Rattle.blocks.specs.Units.{target_of}
use Rattle.blocks.specs.Units.{order_units}
use Rattle.blocks.specs.Layout.{inner_item, sets_kind, drafts_stood, drafts_stated}
use Rattle.records.specs.Record.{Rec, rec}
use Rattle.order.specs.Order.{Permutation}
use Rattle.order.proofs.Sorting.{perm_below}
use Rattle.model.specs.Definitions.{Def, defined_by, definitions, slot_in, no_unit, unit_at, unit_count}
use Rattle.model.specs.Faults.{uses_in}
use Rattle.model.proofs.SheetWalk.{sheet_kinds, drafts_by}
use Rattle.model.proofs.SheetKeys.{defined_in}
use Rattle.model.proofs.UnitKeys.{runs_in}
use Rattle.program.specs.Program.{instr_item, constant_recs, initial_recs, last_instr, code, equation_recs, unit_recs}
use Rattle.program.specs.Program.{program}
use Rattle.program.specs.Written.{record_count}
use Rattle.program.proofs.UnitRuns.{runs_stood, runs_by, all_runs}

-- one row behind another
count_append : (x y : List ℕ) → record_count (x ++ y) ≡ record_count x + record_count y
unfolding record_count
count_append [] y = sym (zero-add (record_count y))
count_append (k ∷ x) y = go (writes k) (count_append x y)
  where
    go : (b : Bool) → record_count (x ++ y) ≡ record_count x + record_count y
        → cond b (suc (record_count (x ++ y))) (record_count (x ++ y))
        ≡ cond b (suc (record_count x)) (record_count x) + record_count y
    go true e = ap suc e ∙ sym (suc-add (record_count x) (record_count y))
    go false e = e

-- every item writes a record
writes_item : (x : Item) → writes (draft_item x).kind ≡ true
writes_item (push x) = refl
writes_item (fetch k) = refl
writes_item clock = refl
writes_item negate = refl
writes_item (apply_two plus) = refl
writes_item (apply_two minus) = refl
writes_item (apply_two times) = refl
writes_item (apply_two over) = refl
writes_item (apply_two compar) = refl
writes_item (apply_three insw) = refl
writes_item (apply_three limit) = refl

-- inside a block too
writes_inner : (x : Item) → writes (inner_item x).kind ≡ true
writes_inner (push x) = refl
writes_inner (fetch k) = refl
writes_inner clock = refl
writes_inner negate = refl
writes_inner (apply_two o) = writes_item (apply_two o)
writes_inner (apply_three o) = writes_item (apply_three o)

-- and so does what sets a name there
writes_sets : (s : Sets) → writes (sets_kind s) ≡ true
writes_sets given = refl
writes_sets own = refl
writes_sets anew = refl

-- items and one more
count_items : (f : Item → Draft) → ((x : Item) → writes (f x).kind ≡ true) → (xs : List Item) (z : ℕ)
    → writes z ≡ true → record_count (draft_kinds (map f xs) ++ (z ∷ [])) ≡ length xs + 1
unfolding record_count
count_items f w [] z e = rw e
count_items f w (x ∷ xs) z e = rw (w x) (ap suc (count_items f w xs z e) ∙ omega arith)

-- a header writes none
count_heading : (os is : List ℕ) → record_count (draft_kinds (drafts_stood (heading os is))) ≡ 0
unfolding record_count
count_heading [] [] = refl
count_heading [] (k ∷ is) = count_heading [] is
count_heading (k ∷ os) is = count_heading os is

module _ (ds : List Def) where
  -- the records of definitions and of what runs, whatever its order
  abbrev total : List Def → List Equation → ℕ
  total es rs =
      length (concat_map (λ (d : Def). constant_recs ds d d.what) es)
      +
      (length (concat_map (λ (d : Def). initial_recs ds d d.what) es) + length (concat_map (equation_recs ds) rs))

  -- one row behind another
  total_append : (x y : List Def) (r s : List Equation) → total (x ++ y) (r ++ s) ≡ total x r + total y s
  total_append x y r s =
      let f : Def → List Rec = λ (d : Def). constant_recs ds d d.what in
      let g : Def → List Rec = λ (d : Def). initial_recs ds d d.what in
      let k = equation_recs ds in
      rw (concat_append f x y, concat_append g x y, concat_append k r s)
      (omega (
        arith,
        length-append (concat_map f x) (concat_map f y),
        length-append (concat_map g x) (concat_map g y),
        length-append (concat_map k r) (concat_map k s),
      ))

  -- an equation has a record for each item, and one more
  length_equation : (e : Equation) → length (equation_recs ds e ++ []) ≡ length (postfix e.tree) + 1
  length_equation e =
      let is = map (instr_item (slot_in ds)) (postfix e.tree) in
      omega (
        arith,
        ap length (append-nil (equation_recs ds e)),
        length-map (code ds e) (rec e.line),
        length-append is (last_instr ds e.target (slot_in ds e.key) ∷ []),
        length-map (postfix e.tree) (instr_item (slot_in ds)),
      )

  -- and as many drafts that write one
  count_ending : (f : Item → Draft) → ((x : Item) → writes (f x).kind ≡ true) → (e : Equation) (z : ℕ)
      → writes z ≡ true
      → record_count (draft_kinds (map f (postfix e.tree) ++ (draft z e.key ∷ [])))
      ≡ length (equation_recs ds e ++ [])
  count_ending f w e z h =
      rw (map_append (λ (d : Draft). d.kind) (map f (postfix e.tree)) (draft z e.key ∷ []))
      (count_items f w (postfix e.tree) z h ∙ sym (length_equation e))

  -- a statement's drafts write the records of its definitions and of what runs of it
  count_statement : (l : ℕ) (x : Stood)
      → record_count (draft_kinds (drafts_stood x)) ≡ total (defined_by l x) (runs_stood l x)
  unfolding record_count concat_map
  count_statement l (alone (constants [])) = refl
  count_statement l (alone (constants (c ∷ cs))) = omega (arith, count_statement l (alone (constants cs)))
  count_statement l (alone (assignment k t)) =
      omega (arith, count_ending draft_item writes_item (equation l k stores t) kind_store refl)
  count_statement l (alone (state k (plain x) t)) =
      omega (arith, count_ending draft_item writes_item (equation l k rates t) kind_rate refl)
  count_statement l (alone (state k (from c) t)) =
      omega (arith, count_ending draft_item writes_item (equation l k rates t) kind_rate refl)
  count_statement l (heading os is) = omega (arith, count_heading os is)
  count_statement l (inner k t s) =
      count_ending inner_item writes_inner (equation l k (target_of s) t) (sets_kind s) (writes_sets s) ∙ go s
    where
      go : (s : Sets) → length (equation_recs ds (equation l k (target_of s) t) ++ [])
          ≡ total (defined_by l (inner k t s)) (runs_stood l (inner k t s))
      go given = omega arith
      go own = omega arith
      go anew = omega arith
  count_statement l closing = refl

  -- and so do those of all statements
  count_stated : (ts : List Stated)
      → record_count (draft_kinds (drafts_stated ts)) ≡ total (concat_map defined_in ts) (concat_map runs_by ts)
  unfolding concat_map record_count
  count_stated [] = refl
  count_stated (t ∷ ts) =
      ap record_count (map_append (λ (d : Draft). d.kind) (drafts_by t) (drafts_stated ts))
      ∙ count_append (draft_kinds (drafts_by t)) (draft_kinds (drafts_stated ts))
      ∙ ap₂ ◌+◌ (count_statement t.line t.stood) (count_stated ts)
      ∙ sym (total_append (defined_in t) (concat_map defined_in ts) (runs_by t) (concat_map runs_by ts))

  -- in every order that is a permutation the units have as many records
  units_count : (us : List TextUnit) (q : List ℕ) → Permutation (unit_count us) q
      → length (concat_map (λ i. unit_recs ds (unit_at us i)) q) ≡ length (concat_map (equation_recs ds) (runs_in us))
  units_count us q p =
      let n = unit_count us in
      let F : ℕ → List Rec = λ i. unit_recs ds (unit_at us i) in
      lengths_same F n q (numbers n 0) (perm_below n (uses_in us) q p) (numbers_few n)
      (λ i h. p.within i h ∙ sym (numbers_once n 0 i (omega arith) (omega arith)))
      ∙ ap length
      (sym (gather_numbers F n 0) ∙ gather_all F (unit_recs ds) no_unit (order_units us) (λ i. refl)
      ∙ sym (concat_concat (equation_recs ds) (λ (o : OrderUnit). o.runs) (order_units us)))

-- THE COUNT of records, in every such order
pub count_of : (us : List TextUnit) (q : List ℕ) → Permutation (unit_count us) q
    → record_count (sheet_kinds us) ≡ length (program us q)
unfolding program
count_of us q p =
    let ds = definitions us in
    let f : Def → List Rec = λ (d : Def). constant_recs ds d d.what in
    let g : Def → List Rec = λ (d : Def). initial_recs ds d d.what in
    let h : ℕ → List Rec = λ i. unit_recs ds (unit_at us i) in
    omega (
      arith,
      rw (all_runs us) at (count_stated ds (stated_in us)),
      units_count ds us q p,
      length-append (concat_map f ds) (concat_map g ds ++ concat_map h q),
      length-append (concat_map g ds) (concat_map h q),
    )
