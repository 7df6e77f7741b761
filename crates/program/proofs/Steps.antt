-- The steps of the units: their records as they are written.
use Prim.Native.Nat.{ℕ, suc, ◌+◌, ◌-◌}
use mathlib.Core.Path.{◌≡◌, refl, sym, ap, ap₂, ◌∙◌}
use mathlib.Core.List.{List, [], ◌∷◌, ◌++◌, map, append_assoc, append-nil}
use native.Mathlib.Omega.{arith}
use lib.ListN.{length, get_or, length-append}
use Rattle.laws.specs.Lists.{concat_map}
use Rattle.laws.specs.Places.{gather}
use Rattle.laws.proofs.Lists.{concat_append}
use Rattle.laws.proofs.Concats.{map_append, concat_concat, concat_mapped, concat_same, concat_same_in, concat_none}
use Rattle.laws.proofs.Along.{starts_at, start_at, end_at}
use Rattle.laws.proofs.Members.{Below}
use Rattle.drafts.specs.Kinds.{kind_store, kind_rate, kind_output, kind_input}
use Rattle.drafts.specs.Tree.{plus, minus, times, over, compar, insw, limit, Constant, Initial, plain, from}
use Rattle.drafts.specs.Items.{Item, push, fetch, clock, negate, apply_two, apply_three, postfix}
use Rattle.drafts.specs.Drafts.{Draft, draft, draft_item, constant_drafts, initial_draft}
use Rattle.drafts.specs.Places.{begins, ends}
use Rattle.blocks.specs.Units.{constants, assignment, state, Sets, given, own, anew, UnitBody, single, block, TextUnit}
use Rattle.blocks.specs.Units.{Stood, alone, heading, inner, closing, Stated, stated_by, stated_in, stores, rates}
use Rattle.blocks.specs.Units.{Equation, equation, target_of, inner_equation, OrderUnit, order_unit_of, order_units}
use Rattle.blocks.specs.Layout.{inner_item, sets_kind, drafts_stood, unit_firsts}
use Rattle.records.specs.Record.{Rec, rec, rec_bytes}
use Rattle.model.specs.Definitions.{Def, definitions, keys, slot_in, unit_at}
use Rattle.model.proofs.StatementDrafts.{expression_drafts}
use Rattle.model.proofs.SheetWalk.{sheet_drafts, sheet_kinds, stated_lines, sheet_bounds, sheet_slots, sheet_ordered}
use Rattle.model.proofs.SheetWalk.{draft_slot, kind_at, slot_at_holds, line_at, in_part, by_statement}
use Rattle.model.proofs.SheetOrdered.{EachUnit, ordered_by, ordered_at}
use Rattle.program.specs.Program.{instr_item, last_instr, code, equation_recs, unit_recs}
use Rattle.program.specs.Written.{step_bytes, step_at, steps_of, unit_steps, ordered_steps}
use Rattle.program.proofs.UnitRuns.{runs_stood, runs_by, unit_runs}

-- ---- what the drafts of a statement with number l write, with names resolved by the definitions
module _ (ds : List Def) (l : ℕ) where
  abbrev step_of : Draft → List ℕ
  step_of d = step_bytes d.kind (draft_slot (keys ds) d) l

  -- the bytes of equations
  abbrev bytes_in : List Equation → List ℕ
  bytes_in es = concat_map rec_bytes (concat_map (equation_recs ds) es)

  -- an item's record
  abbrev item_rec : Item → List ℕ
  item_rec x = rec_bytes (rec l (instr_item (slot_in ds) x))

  -- an item's draft is written as the item's record
  step_item : (x : Item) → step_of (draft_item x) ≡ item_rec x
  unfolding rec_bytes
  step_item (push x) = refl
  step_item (fetch k) = refl
  step_item clock = refl
  step_item negate = refl
  step_item (apply_two plus) = refl
  step_item (apply_two minus) = refl
  step_item (apply_two times) = refl
  step_item (apply_two over) = refl
  step_item (apply_two compar) = refl
  step_item (apply_three insw) = refl
  step_item (apply_three limit) = refl

  -- inside a block too
  step_inner : (x : Item) → step_of (inner_item x) ≡ item_rec x
  unfolding rec_bytes
  step_inner (push x) = step_item (push x)
  step_inner (fetch k) = refl
  step_inner clock = step_item clock
  step_inner negate = step_item negate
  step_inner (apply_two o) = step_item (apply_two o)
  step_inner (apply_three o) = step_item (apply_three o)

  -- and the draft that sets a name inside a block is written as the last record
  step_sets : (k : ℕ) (s : Sets)
      → step_of (draft (sets_kind s) k) ≡ rec_bytes (rec l (last_instr ds (target_of s) (slot_in ds k)))
  unfolding rec_bytes
  step_sets k given = refl
  step_sets k own = refl
  step_sets k anew = refl

  -- an expression's drafts with the last one are written as the equation's records
  step_ending : (f : Item → Draft) → ((x : Item) → step_of (f x) ≡ item_rec x) → (z : Draft) (e : Equation)
      → e.line ≡ l → step_of z ≡ rec_bytes (rec l (last_instr ds e.target (slot_in ds e.key)))
      → concat_map step_of (map f (postfix e.tree) ++ (z ∷ [])) ≡ bytes_in (e ∷ [])
  unfolding concat_map
  step_ending f same z e at last =
      let xs = postfix e.tree in
      let is = map (instr_item (slot_in ds)) xs in
      let i = last_instr ds e.target (slot_in ds e.key) in
      let left = concat_append step_of (map f xs) (z ∷ []) in
      let items =
      concat_mapped step_of f xs ∙ concat_same (λ x. step_of (f x)) item_rec same xs
      ∙ sym (concat_mapped rec_bytes (rec l) is
      ∙ concat_mapped (λ j. rec_bytes (rec l j)) (instr_item (slot_in ds)) xs) in
      let right =
      ap (λ n. concat_map rec_bytes (map (rec n) (code ds e) ++ [])) at
      ∙ ap (concat_map rec_bytes) (append-nil (map (rec l) (code ds e)) ∙ map_append (rec l) is (i ∷ []))
      ∙ concat_append rec_bytes (map (rec l) is) (rec l i ∷ []) in
      left ∙ ap₂ (λ x y. x ++ (y ++ [])) items last ∙ sym right

  -- constants write no step, nor do a state's name and its initial
  constant_steps : (cs : List Constant) → concat_map step_of (concat_map constant_drafts cs) ≡ []
  unfolding concat_map
  constant_steps [] = refl
  constant_steps (c ∷ cs) = constant_steps cs

  initial_steps : (i : Initial) → step_of (initial_draft i) ≡ []
  initial_steps (plain x) = refl
  initial_steps (from k) = refl

  -- nor does a block's header
  heading_steps : (os is : List ℕ) → concat_map step_of (drafts_stood (heading os is)) ≡ []
  heading_steps os is =
      concat_append step_of (map (draft kind_output) os) (map (draft kind_input) is)
      ∙ ap₂ ◌++◌
      (concat_mapped step_of (draft kind_output) os ∙ concat_none (λ k. step_of (draft kind_output k)) (λ k. refl) os)
      (concat_mapped step_of (draft kind_input) is ∙ concat_none (λ k. step_of (draft kind_input k)) (λ k. refl) is)

  -- A STATEMENT writes the records of what runs of it
  statement_steps : (x : Stood) → concat_map step_of (drafts_stood x) ≡ bytes_in (runs_stood l x)
  unfolding concat_map rec_bytes
  statement_steps (alone (constants cs)) = constant_steps cs
  statement_steps (alone (assignment k t)) =
      step_ending draft_item step_item (draft kind_store k) (equation l k stores t) refl refl
  statement_steps (alone (state k i t)) =
      ap (λ r. r ++ concat_map step_of (expression_drafts t ++ (draft kind_rate k ∷ []))) (initial_steps i)
      ∙ step_ending draft_item step_item (draft kind_rate k) (equation l k rates t) refl refl
  statement_steps (heading os is) = heading_steps os is
  statement_steps (inner k t s) =
      step_ending inner_item step_inner (draft (sets_kind s) k) (equation l k (target_of s) t) refl (step_sets k s)
  statement_steps closing = refl

-- ---- a part of a row: h gives for each member what F does
gather_middle : {A : Type 0} (h : ℕ → List ℕ) (F : A → List ℕ) (l : List A)
    → ((a : List A) (s : A) (b : List A) → l ≡ a ++ s ∷ b → h (length a) ≡ F s)
    → (p m q : List A) → l ≡ p ++ (m ++ q) → gather h (length m) (length p) ≡ concat_map F m
unfolding gather concat_map
gather_middle h F l e p [] q w = refl
gather_middle h F l e p (s ∷ m) q w =
    let next : l ≡ (p ++ (s ∷ [])) ++ (m ++ q) = w ∙ sym (append_assoc p (s ∷ []) (m ++ q)) in
    let more : length (p ++ (s ∷ [])) ≡ suc (length p) = omega (arith, length-append p (s ∷ [])) in
    ap₂ ◌++◌ (e p s (m ++ q) w) (rw more at (gather_middle h F l e (p ++ (s ∷ [])) m q next))

-- the statements of a unit, and which of them is the first
abbrev statements : TextUnit → List Stated
statements u = stated_by u.line u.body

firsts_start : (o : ℕ) (us : List TextUnit) → unit_firsts o us ≡ starts_at statements o us
unfolding unit_firsts starts_at
firsts_start o [] = refl
firsts_start o (u ∷ us) = ap (◌∷◌ o) (firsts_start (o + length (statements u)) us)

-- in an order, one unit after the other
ordered_steps_holds : (equated firsts lines bounds kinds slots q : List ℕ)
    → ordered_steps equated firsts lines bounds kinds slots q
    ≡ concat_map (λ r. unit_steps firsts lines bounds kinds slots (get_or equated r 0)) q
unfolding ordered_steps concat_map
ordered_steps_holds equated firsts lines bounds kinds slots [] = refl
ordered_steps_holds equated firsts lines bounds kinds slots (r ∷ q) =
    ap (λ x. unit_steps firsts lines bounds kinds slots (get_or equated r 0) ++ x)
    (ordered_steps_holds equated firsts lines bounds kinds slots q)

module _ (us : List TextUnit) where
  abbrev ds : List Def
  ds = definitions us

  abbrev firsts : List ℕ
  firsts = unit_firsts 0 us

  -- the steps of statement j, and of unit j
  abbrev steps_in : ℕ → List ℕ
  steps_in j = steps_of (stated_lines us) (sheet_bounds us) (sheet_kinds us) (sheet_slots us) j

  abbrev unit_steps_in : ℕ → List ℕ
  unit_steps_in j = unit_steps firsts (stated_lines us) (sheet_bounds us) (sheet_kinds us) (sheet_slots us) j

  -- the bytes of what runs
  abbrev bytes_of : List Equation → List ℕ
  bytes_of es = concat_map rec_bytes (concat_map (equation_recs ds) es)

  -- at each statement stand the records of what runs of it
  steps_at : (a : List Stated) (t : Stated) (b : List Stated) → stated_in us ≡ a ++ t ∷ b
      → steps_in (length a) ≡ bytes_of (runs_by t)
  steps_at a t b p =
      rw (line_at (λ (t : Stated). t.line) (stated_in us) a t b p)
      (in_part (by_statement us) a t b p (step_at (sheet_kinds us) (sheet_slots us) t.line) (step_of ds t.line)
      (λ i. rw (kind_at (sheet_drafts us) i, slot_at_holds (keys ds) (sheet_drafts us) i))
      ∙ statement_steps ds t.line t.stood)

  -- at each unit those of its statements
  unit_at_holds : (a : List TextUnit) (u : TextUnit) (b : List TextUnit) → us ≡ a ++ u ∷ b
      → unit_steps_in (length a) ≡ concat_map (λ t. bytes_of (runs_by t)) (statements u)
  unfolding concat_map
  unit_at_holds a u b p =
      let before = concat_map statements a in
      let split : stated_in us ≡ before ++ (statements u ++ concat_map statements b) =
      ap stated_in p ∙ concat_append statements a (u ∷ b) in
      let first : begins firsts (length a) ≡ length before =
      rw (firsts_start 0 us, p) (start_at statements 0 a (u ∷ b) ∙ omega arith) in
      let last : ends firsts (length a) ≡ length before + length (statements u) =
      rw (firsts_start 0 us, p) (end_at statements 0 a u b ∙ omega arith) in
      let many : ends firsts (length a) - begins firsts (length a) ≡ length (statements u) =
      omega (arith, first, last) in
      rw (many, first)
      (gather_middle steps_in (λ t. bytes_of (runs_by t)) (stated_in us) steps_at before (statements u)
      (concat_map statements b) split)

  -- so of what the unit runs
  unit_steps_holds : (a : List TextUnit) (u : TextUnit) (b : List TextUnit) → us ≡ a ++ u ∷ b
      → unit_steps_in (length a) ≡ bytes_of (concat_map (λ (o : OrderUnit). o.runs) (order_unit_of u.line u.body))
  unit_steps_holds a u b p =
      let recs : Stated → List Rec = λ t. concat_map (equation_recs ds) (runs_by t) in
      unit_at_holds a u b p
      ∙ sym (concat_concat rec_bytes recs (statements u))
      ∙ ap (concat_map rec_bytes) (sym (concat_concat (equation_recs ds) runs_by (statements u)))
      ∙ ap bytes_of (unit_runs u.line u.body)

  -- AT EACH UNIT OF THE ORDER stand its records
  ordered_recs : map unit_steps_in (sheet_ordered us) ≡ map (λ (o : OrderUnit). bytes_of o.runs) (order_units us)
  unfolding concat_map
  ordered_recs =
      ordered_by us unit_steps_in (λ (o : OrderUnit). bytes_of o.runs)
      (λ a u b p x e. one _ u.line x
      (unit_steps_holds a u b p
      ∙ ap (λ (x : UnitBody). bytes_of (concat_map (λ (o : OrderUnit). o.runs) (order_unit_of u.line x))) e))
    where
      one : (n : List ℕ) (l : ℕ) (x : UnitBody)
          → n ≡ bytes_of (concat_map (λ (o : OrderUnit). o.runs) (order_unit_of l x))
          → EachUnit (λ (o : OrderUnit). n ≡ bytes_of o.runs) l x
      one n l (single (constants cs)) e = tt
      one n l (single (assignment k t)) e = (e, tt)
      one n l (single (state k i t)) e = (e, tt)
      one n l (block os is ns z) e = (e ∙ ap bytes_of (append-nil (map inner_equation ns)), tt)

  -- THE STEPS, in an order of the units
  pub steps_of_holds : (q : List ℕ) → Below (length (sheet_ordered us)) q
      → ordered_steps (sheet_ordered us) firsts (stated_lines us) (sheet_bounds us) (sheet_kinds us) (sheet_slots us) q
      ≡ concat_map rec_bytes (concat_map (λ i. unit_recs ds (unit_at us i)) q)
  steps_of_holds q b =
      ordered_steps_holds (sheet_ordered us) firsts (stated_lines us) (sheet_bounds us) (sheet_kinds us)
      (sheet_slots us) q
      ∙ concat_same_in (λ r. unit_steps_in (get_or (sheet_ordered us) r 0)) (λ r. bytes_of (unit_at us r).runs) q
      (λ r h. ordered_at us unit_steps_in (λ (o : OrderUnit). bytes_of o.runs) ordered_recs r (b r h))
      ∙ sym (concat_concat rec_bytes (λ i. unit_recs ds (unit_at us i)) q)
