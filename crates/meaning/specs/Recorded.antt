-- That a program has the records of each statement, each exactly once, and no other.
use Rattle.std.specs.Prelude.{ℕ, ◌≡◌, Bool, cond, ◌&&◌, List, [], ◌∷◌, ◌++◌, map, eqb, length, get_or, Float}
use Rattle.laws.specs.Lists.{concat_map}
use Rattle.laws.specs.Every.{Every}
use Rattle.deck.specs.Lines.{lines_of}
use Rattle.deck.specs.Reading.{fresh, reading}
use Rattle.deck.specs.Reports.{Report, report}
use Rattle.deck.specs.declared.Spot.{Spot}
use Rattle.drafts.specs.Items.{postfix}
use Rattle.drafts.specs.Kinds.{kind_constant, kind_initial, kind_store, kind_rate, kind_again}
use Rattle.drafts.specs.Tree.{Tree, Constant, Initial}
use Rattle.order.specs.Order.{Permutation}
use Rattle.records.specs.declared.Instr.{Instr}
use Rattle.records.specs.declared.Instr.TheVariants.{Constant as Fixed, Initial as Start, Store, Deriv, StoreAgain}
use Rattle.records.specs.Fields.{kind_of, operand_of}
use Rattle.records.specs.Record.{Rec, rec}
use Rattle.program.specs.Program.{instr_item}
use Rattle.sheet.specs.Sheet.{Told, says, Numbered, said}
use Rattle.sheet.specs.Reader.{told, sheet_of}
use Rattle.blocks.specs.Units.{Single, constants, assignment, state, Sets, given, own, anew, Inner, UnitBody, single}
use Rattle.blocks.specs.Units.{block, TextUnit, text_unit}
use Rattle.model.specs.Text.{text_units}
use Rattle.meaning.specs.Statements.{slot_of, Resolves, EachAsked}

-- ---- the records of a slot

-- the records of kind k with slot s, as they follow one another in a program
abbrev pub is_for : ℕ → ℕ → Rec → Bool
is_for k s r = eqb (kind_of r.instr) k && eqb (operand_of r.instr) s

-- all of them
unfoldable pub records_for : ℕ → ℕ → List Rec → List Rec
records_for k s [] = []
records_for k s (r ∷ rs) = cond (is_for k s r) (r ∷ records_for k s rs) (records_for k s rs)

-- of the kinds that set a slot or its derivative these are all: constants, initials, stores, derivatives, stores again
pub record SlotRecords (rs : List Rec) (s : ℕ) (cs is ss ds as' : List Rec) : Type 0 where
  pub fixed : records_for kind_constant s rs ≡ cs
  pub initials : records_for kind_initial s rs ≡ is
  pub stores : records_for kind_store s rs ≡ ss
  pub derivatives : records_for kind_rate s rs ≡ ds
  pub stores_again : records_for kind_again s rs ≡ as'

-- these records stand in a program one directly behind the other
abbrev pub StandsIn : List Rec → List Rec → Type 0
StandsIn part rs = (before : List Rec) × (after : List Rec) × (rs ≡ before ++ (part ++ after))

-- ---- of one unit. `slot` gives each name its slot
module _ (slot : ℕ → ℕ) where
  -- an expression's records in postfix with the statement's line, and behind them this one
  abbrev pub stretch : ℕ → Tree → Instr → List Rec
  stretch l e x = map (rec l) (map (instr_item slot) (postfix e) ++ (x ∷ []))

  -- inside a block a name's first setting stores, a later one stores again
  abbrev pub set_instr : Sets → ℕ → Instr
  set_instr given s = Store s
  set_instr own s = Store s
  set_instr anew s = StoreAgain s

  -- the records of a statement inside a block, and of all of them, in their order
  abbrev pub inner_stretch : Inner → List Rec
  inner_stretch n = stretch n.line n.tree (set_instr n.sets (slot n.key))

  abbrev pub block_stretch : List Inner → List Rec
  block_stretch ns = concat_map inner_stretch ns

  -- Of the kinds that set a slot the program rs has for a name's slot: for a pair of constants one of kind 1 with its
  -- value, alone
  abbrev pub ConstantRecorded : List Rec → ℕ → Constant → Type 0
  ConstantRecorded rs l c =
      SlotRecords rs (slot c.key) (rec l (Fixed (slot c.key) c.worth) ∷ []) [] [] [] []

  -- for an assignment a store, alone, directly behind its expression
  abbrev pub AssignmentRecorded : List Rec → ℕ → ℕ → Tree → Type 0
  AssignmentRecorded rs l k e =
      SlotRecords rs (slot k) [] [] (rec l (Store (slot k)) ∷ []) [] [] × StandsIn (stretch l e (Store (slot k))) rs

  -- for a state an initial with its value, and a derivative directly behind its expression
  abbrev pub StateRecorded : (Initial → Float → Type 0) → List Rec → ℕ → ℕ → Initial → Tree → Type 0
  StateRecorded Value rs l k i e =
      (x : Float) × Value i x
      × SlotRecords rs (slot k) [] (rec l (Start (slot k) x) ∷ []) [] (rec l (Deriv (slot k)) ∷ []) []
      × StandsIn (stretch l e (Deriv (slot k))) rs

  -- for a block the records of its statements, one directly behind the other; for each of its names no others than
  -- these,
  -- and one store alone, that of its first setting
  abbrev pub FirstStore : List Rec → Inner → Sets → Type 0
  FirstStore rs n given = records_for kind_store (slot n.key) rs ≡ rec n.line (Store (slot n.key)) ∷ []
  FirstStore rs n own = records_for kind_store (slot n.key) rs ≡ rec n.line (Store (slot n.key)) ∷ []
  FirstStore rs n anew = Unit {0}

  abbrev pub InnerRecorded : List Rec → List Inner → Inner → Type 0
  InnerRecorded rs ns n =
      let s = slot n.key in
      SlotRecords rs s [] [] (records_for kind_store s (block_stretch ns)) []
      (records_for kind_again s (block_stretch ns)) × FirstStore rs n n.sets

  abbrev pub BlockRecorded : List Rec → List Inner → Type 0
  BlockRecorded rs ns = StandsIn (block_stretch ns) rs × Every (InnerRecorded rs ns) ns

  -- ---- what each unit adds to the parts of a program

  -- one of kind 1 for each pair of its constants, in their order
  abbrev pub constants_alone : ℕ → Single → List Rec
  constants_alone l (constants cs) = map (λ (c : Constant). rec l (Fixed (slot c.key) c.worth)) cs
  constants_alone l (assignment k e) = []
  constants_alone l (state k i e) = []

  abbrev pub constants_from : ℕ → UnitBody → List Rec
  constants_from l (single x) = constants_alone l x
  constants_from l (block os is ns z) = []

  -- one of kind 2 for its state; `start` gives each initial its value
  abbrev pub initials_alone : (Initial → Float) → ℕ → Single → List Rec
  initials_alone start l (constants cs) = []
  initials_alone start l (assignment k e) = []
  initials_alone start l (state k i e) = rec l (Start (slot k) (start i)) ∷ []

  abbrev pub initials_from : (Initial → Float) → ℕ → UnitBody → List Rec
  initials_from start l (single x) = initials_alone start l x
  initials_from start l (block os is ns z) = []

  -- its expression, and behind it its store or its derivative; of a block those of its statements
  abbrev pub steps_alone : ℕ → Single → List Rec
  steps_alone l (constants cs) = []
  steps_alone l (assignment k e) = stretch l e (Store (slot k))
  steps_alone l (state k i e) = stretch l e (Deriv (slot k))

  abbrev pub steps_from : ℕ → UnitBody → List Rec
  steps_from l (single x) = steps_alone l x
  steps_from l (block os is ns z) = block_stretch ns

-- ---- of all units

-- those of the order: all but constants
abbrev pub equating_alone : ℕ → Single → List TextUnit
equating_alone l (constants cs) = []
equating_alone l (assignment k e) = text_unit l (single (assignment k e)) ∷ []
equating_alone l (state k i e) = text_unit l (single (state k i e)) ∷ []

abbrev pub equating : ℕ → UnitBody → List TextUnit
equating l (single x) = equating_alone l x
equating l (block os is ns z) = text_unit l (block os is ns z) ∷ []

abbrev pub equating_in : List TextUnit → List TextUnit
equating_in us = concat_map (λ (u : TextUnit). equating u.line u.body) us

-- the one at place i
abbrev pub equating_at : List TextUnit → ℕ → TextUnit
equating_at us i = get_or (equating_in us) i (text_unit 0 (single (constants [])))

-- A program is made of units and of nothing else: the constants of all in text order, the initials likewise, and the
-- units of the order, each once, in some order q
pub record MadeOf (us : List TextUnit) (rs : List Rec) : Type 0 where
  pub start : Initial → Float
  pub resolved : EachAsked (λ l c. Unit {0}) (λ l k e. Unit {0}) (λ l k i e. Resolves us i (start i)) (λ ns. Unit {0})
      us
  pub q : List ℕ
  pub once : Permutation (length (equating_in us)) q
  pub made : let slot = slot_of us in
      rs ≡ concat_map (λ (u : TextUnit). constants_from slot u.line u.body) us
      ++ (concat_map (λ (u : TextUnit). initials_from slot start u.line u.body) us
      ++ concat_map (λ (i : ℕ). steps_from slot (equating_at us i).line (equating_at us i).body) q)

-- a statement without fault as the sheet has it
abbrev pub reported : Numbered → Report (Told Spot)
reported s = record { line = s.line; what = says s.says }

-- NOTHING IS LOST of a text: for each statement of the reading there is what it says, and no other; each unit of these
-- has its records, once; and the program has no other record
pub record NothingLost (text : List ℕ) (rs : List Rec) : Type 0 where
  pub taken : map (report told) (reading fresh 1 (lines_of text)) ≡ map reported (said (sheet_of text))
  pub recorded : let us = text_units text in let slot = slot_of us in
      EachAsked (ConstantRecorded slot rs) (AssignmentRecorded slot rs) (StateRecorded slot (Resolves us) rs)
      (BlockRecorded slot rs) us
  pub made_of : MadeOf (text_units text) rs
