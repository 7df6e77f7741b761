-- The records of a block's statements: stores and stores again alone, and for each name one store, that of its first
-- setting.
use Prim.Native.Nat.{ℕ, ◌+◌}
use mathlib.Core.Path.{◌≡◌, refl, ap, ap₂, ◌∙◌}
use mathlib.Core.List.{List, [], ◌∷◌, ◌++◌}
use native.Mathlib.Omega.{arith}
use Rattle.laws.specs.Lists.{concat_map}
use Rattle.laws.specs.Every.{Every}
use Rattle.laws.specs.Counts.{count, ◌∈◌}
use Rattle.laws.proofs.Every.{every_map}
use Rattle.laws.proofs.Counts.{count_append, once_same}
use Rattle.drafts.specs.Kinds.{kind_store, kind_again}
use Rattle.blocks.specs.Units.{Sets, given, own, anew, Inner, Target, stores, restores, rates, Equation, TextUnit}
use Rattle.blocks.specs.Units.{target_of, inner_equation}
use Rattle.model.specs.Definitions.{Def, definitions, keys, slot_in}
use Rattle.model.proofs.KeyPlaces.{Once}
use Rattle.model.proofs.UnitKeys.{stored_key, stored_keys}
use Rattle.records.specs.declared.Instr.TheVariants.{Store, StoreAgain}
use Rattle.records.specs.Record.{Rec, rec}
use Rattle.program.specs.Program.{last_instr, equation_recs}
use Rattle.meaning.specs.Recorded.{records_for}
use Rattle.meaning.proofs.Rows.{every_both}
use Rattle.meaning.proofs.BlockFunctions.{group_of}
use Rattle.meaning.proofs.Runs.{row_recs}
use Rattle.meaning.proofs.Owned.{own_slot}
use Rattle.meaning.proofs.Parts.{for_append, Setting, sets_store, last_rec, for_equation, own_record, other_kind}
use Rattle.meaning.proofs.Parts.{other_slot}

module _ (us : List TextUnit) (one : Once (keys (definitions us))) where
  abbrev ds : List Def
  ds = definitions us

  abbrev slot : ℕ → ℕ
  slot = slot_in ds

  -- ---- of a row, one equation after the other
  pub row_records : (n s : ℕ) → Setting n → (e : Equation) (es : List Equation)
      → records_for n s (row_recs ds (e ∷ es))
      ≡ records_for n s (last_rec ds e ∷ []) ++ records_for n s (row_recs ds es)
  unfolding concat_map
  row_records n s c e es =
      for_append n s (equation_recs ds e) (row_recs ds es)
      ∙ ap (λ (r : List Rec). r ++ records_for n s (row_recs ds es)) (for_equation n s ds e c)

  -- ---- stores
  -- an equation that does not store to k for the first time
  last_none : (k : ℕ) → k ∈ keys ds → (l j : ℕ) (t : Target) → count k (stored_key t j) ≡ 0
      → records_for kind_store (slot k) (rec l (last_instr ds t (slot j)) ∷ []) ≡ []
  unfolding records_for count
  last_none k h l j stores n =
      other_slot kind_store (slot k) (rec l (Store (slot j)))
      (λ e. let z : j ≡ k = own_slot us one j k h e in omega (arith, rw z at n, once_same k))
  last_none k h l j restores n = refl
  last_none k h l j rates n = refl

  -- so with a row
  row_none : (k : ℕ) → k ∈ keys ds → (es : List Equation) → count k (stored_keys es) ≡ 0
      → records_for kind_store (slot k) (row_recs ds es) ≡ []
  unfolding concat_map records_for
  row_none k h [] n = refl
  row_none k h (e ∷ es) n =
      let c = count_append k (stored_key e.target e.key) (stored_keys es) in
      row_records kind_store (slot k) sets_store e es
      ∙ ap₂ ◌++◌ (last_none k h e.line e.key e.target (omega arith)) (row_none k h es (omega arith))

  -- ---- a name's first setting in a block
  abbrev pub FirstIn : List Inner → Inner → Sets → Type 0
  FirstIn ns n given = (n.key ∈ stored_keys (group_of ns))
      × (records_for kind_store (slot n.key) (row_recs ds (group_of ns)) ≡ rec n.line (Store (slot n.key)) ∷ [])
  FirstIn ns n own = (n.key ∈ stored_keys (group_of ns))
      × (records_for kind_store (slot n.key) (row_recs ds (group_of ns)) ≡ rec n.line (Store (slot n.key)) ∷ [])
  FirstIn ns n anew = Unit {0}

  -- with one statement more in front: its own
  module _ (m : Inner) (ns : List Inner)
      (o : Once (stored_key (target_of m.sets) m.key ++ stored_keys (group_of ns))) where
    -- what it stores to for the first time, and its last record
    abbrev new : List ℕ
    new = stored_key (target_of m.sets) m.key

    abbrev last : Sets → Rec
    last s = rec m.line (last_instr ds (target_of s) (slot m.key))

    -- if it stores
    first_store : m.key ∈ keys ds → new ≡ m.key ∷ [] → last m.sets ≡ rec m.line (Store (slot m.key))
        → FirstIn (m ∷ ns) m given
    unfolding concat_map count
    first_store h e f =
        let k = m.key in
        let c = count_append k new (stored_keys (group_of ns)) in
        let w : count k new ≡ 1 = rw e (omega (arith, once_same k)) in (
          omega (arith, w, c),
          row_records kind_store (slot k) sets_store (inner_equation m) (group_of ns)
              ∙ ap₂ ◌++◌
              (ap (λ (r : Rec). records_for kind_store (slot k) (r ∷ [])) f ∙ own_record (rec m.line (Store (slot k))))
              (row_none k h (group_of ns) (omega (arith, w, c, o k))),
        )

    first_own : m.key ∈ keys ds → (s : Sets) → m.sets ≡ s → FirstIn (m ∷ ns) m s
    first_own h given e = first_store h (ap (λ (s : Sets). stored_key (target_of s) m.key) e) (ap last e)
    first_own h own e = first_store h (ap (λ (s : Sets). stored_key (target_of s) m.key) e) (ap last e)
    first_own h anew e = tt

    -- that of a later statement
    first_later : (n : Inner) → n.key ∈ keys ds → (s : Sets) → FirstIn ns n s → FirstIn (m ∷ ns) n s
    unfolding concat_map
    first_later n h given f =
        let k = n.key in
        let c = count_append k new (stored_keys (group_of ns)) in (
          omega (arith, f.0, c),
          row_records kind_store (slot k) sets_store (inner_equation m) (group_of ns)
              ∙ ap₂ ◌++◌ (last_none k h m.line m.key (target_of m.sets) (omega (arith, f.0, c, o k))) f.1,
        )
    first_later n h own f =
        let k = n.key in
        let c = count_append k new (stored_keys (group_of ns)) in (
          omega (arith, f.0, c),
          row_records kind_store (slot k) sets_store (inner_equation m) (group_of ns)
              ∙ ap₂ ◌++◌ (last_none k h m.line m.key (target_of m.sets) (omega (arith, f.0, c, o k))) f.1,
        )
    first_later n h anew f = tt

  -- EACH first setting is the one store of its name
  pub first_stores : (ns : List Inner) → Once (stored_keys (group_of ns)) → Every (λ (n : Inner). n.key ∈ keys ds) ns
      → Every (λ (n : Inner). FirstIn ns n n.sets) ns
  unfolding concat_map
  first_stores [] o h = tt
  first_stores (m ∷ ns) o h =
      let rest = first_stores ns
      (λ k. omega (arith, o k, count_append k (stored_key (target_of m.sets) m.key) (stored_keys (group_of ns))))
      h.1 in (
        first_own m ns o h.0 m.sets refl,
        every_map _ _ ns (λ (n : Inner) t. first_later m ns o n t.0 n.sets t.1)
            (every_both _ _ ns h.1 rest),
      )

  -- ---- a block has no record of another kind that sets
  inner_none : (n s : ℕ) → (kind_store ≡ n → ⊥) → (kind_again ≡ n → ⊥) → (l p : ℕ) (w : Sets)
      → records_for n s (rec l (last_instr ds (target_of w) p) ∷ []) ≡ []
  inner_none n s a b l p given = other_kind n s (rec l (Store p)) a
  inner_none n s a b l p own = other_kind n s (rec l (Store p)) a
  inner_none n s a b l p anew = other_kind n s (rec l (StoreAgain p)) b

  pub block_none : (n s : ℕ) → Setting n → (kind_store ≡ n → ⊥) → (kind_again ≡ n → ⊥) → (ns : List Inner)
      → records_for n s (row_recs ds (group_of ns)) ≡ []
  unfolding concat_map records_for
  block_none n s c a b [] = refl
  block_none n s c a b (m ∷ ns) =
      row_records n s c (inner_equation m) (group_of ns)
      ∙ ap₂ ◌++◌ (inner_none n s a b m.line (slot m.key) m.sets) (block_none n s c a b ns)
