-- The keys of the definitions of units that are laid out, their places, and fault 21.
use Prim.Native.Nat.{ℕ, ◌+◌}
use mathlib.Core.Path.{◌≡◌, refl, sym, ap, ap₂, ◌∙◌}
use mathlib.Core.List.{List, [], ◌∷◌, ◌++◌, map, append-nil}
use native.Mathlib.Nat.{add-zero}
use lib.ListN.{length, get_or, drop, length-map}
use lib.Seq.{get_or-drop}
use Rattle.laws.specs.Lists.{concat_map}
use Rattle.laws.specs.Places.{only_if}
use Rattle.laws.proofs.Lists.{concat_append}
use Rattle.laws.proofs.Concats.{map_append, map_concat, concat_concat, concat_same, same_length}
use Rattle.laws.proofs.Along.{along_parts, gather_along, gather_all, gather_fronts, map_gather, map_only}
use Rattle.drafts.specs.Drafts.{Draft}
use Rattle.drafts.specs.Kinds.{defines}
use Rattle.blocks.specs.Units.{TextUnit, Stated, stated_in}
use Rattle.blocks.specs.Layout.{drafts_stated}
use Rattle.model.specs.Definitions.{Def, defined_by, definitions, keys}
use Rattle.blocks.specs.Tests.{fault_if, again}
use Rattle.model.specs.Faults.{faults21}
use Rattle.model.specs.Places.{defined_at, keys_in, places_in, double_at, doubles}
use Rattle.model.proofs.StatementDrafts.{no_draft, key_of, defined_keys, Home, home, homes_at, home_of_def}
use Rattle.model.proofs.StatementDrafts.{defined_homes}
use Rattle.model.proofs.SheetWalk.{sheet_drafts, sheet_kinds, sheet_args, stated_lines, sheet_bounds, sheet_keys}
use Rattle.model.proofs.SheetWalk.{sheet_places, kind_at, arg_at, line_at, in_part, before_part, drafts_by}
use Rattle.model.proofs.SheetWalk.{by_statement}

-- what a statement defines, and what statements define
abbrev pub defined_in : Stated → List Def
defined_in t = defined_by t.line t.stood

abbrev pub defined_all : List Stated → List Def
defined_all ts = concat_map defined_in ts

-- the keys that the drafts of statements define are those of the definitions
drafts_keys : (ts : List Stated) → concat_map key_of (drafts_stated ts) ≡ keys (defined_all ts)
drafts_keys ts =
    concat_concat key_of drafts_by ts
    ∙ concat_same (λ t. concat_map key_of (drafts_by t)) (λ t. keys (defined_in t))
    (λ t. defined_keys t.line t.stood) ts
    ∙ sym (map_concat (λ (d : Def). d.key) defined_in ts)

-- the keys with those of one more statement
keys_snoc : (a : List Stated) (t : Stated)
    → keys (defined_all (a ++ (t ∷ []))) ≡ keys (defined_all a) ++ keys (defined_in t)
unfolding concat_map
keys_snoc a t =
    let e : defined_all (a ++ (t ∷ [])) ≡ defined_all a ++ defined_in t =
    concat_append defined_in a (t ∷ []) ∙ ap (λ r. defined_all a ++ r) (append-nil (defined_in t)) in
    ap keys e ∙ map_append (λ (d : Def). d.key) (defined_all a) (defined_in t)

module _ (us : List TextUnit) where
  abbrev all : List Draft
  all = sheet_drafts us

  -- the key that place i defines
  abbrev key_at : ℕ → List ℕ
  key_at i = defined_at (sheet_kinds us) (sheet_args us) i

  defined_at_holds : (i : ℕ) → key_at i ≡ key_of (get_or all i no_draft)
  defined_at_holds i = rw (kind_at all i, arg_at all i)

  -- THE KEYS
  pub keys_of : keys_in (sheet_kinds us) (sheet_args us) ≡ sheet_keys us
  unfolding keys_in
  keys_of =
      rw (length-map all (λ (d : Draft). d.kind))
      (gather_all key_at key_of no_draft all defined_at_holds ∙ drafts_keys (stated_in us))

  -- ---- what stands at a place: the draft there and, behind a constant's, the next
  abbrev pub home_at : ℕ → Home
  home_at i = home (get_or all i no_draft) (get_or all (i + 1) no_draft)

  homes_at_holds : (i : ℕ) → map home_at (only_if (defines (get_or (sheet_kinds us) i 0)) i)
      ≡ homes_at (drop i (all ++ []))
  homes_at_holds i =
      rw (append-nil all, get_or-drop i all 0 no_draft, get_or-drop i all 1 no_draft, add-zero i)
      (rw (kind_at all i) (map_only home_at (defines (get_or all i no_draft).kind) i))

  -- THE PLACES: at each stands what the definition has there
  pub homes_of : map home_at (sheet_places us) ≡ map home_of_def (definitions us)
  unfolding places_in
  homes_of =
      rw (length-map all (λ (d : Draft). d.kind))
      (map_gather home_at (λ i. only_if (defines (get_or (sheet_kinds us) i 0)) i) (length all) 0
      ∙ gather_along homes_at (λ i. map home_at (only_if (defines (get_or (sheet_kinds us) i 0)) i)) [] all []
      homes_at_holds
      ∙ along_parts homes_at drafts_by (λ t. map home_of_def (defined_in t))
      (λ t q. defined_homes t.line t.stood q) (stated_in us) []
      ∙ sym (map_concat home_of_def defined_in (stated_in us)))

  -- so there are as many
  pub places_length : length (sheet_places us) ≡ length (definitions us)
  places_length = same_length home_at home_of_def (sheet_places us) (definitions us) homes_of

  -- ---- 21, at one statement
  double_at_holds : (a : List Stated) (t : Stated) (b : List Stated) → stated_in us ≡ a ++ t ∷ b
      → double_at (stated_lines us) (sheet_bounds us) (sheet_kinds us) (sheet_args us) (length a)
      ≡ fault_if (again (keys (defined_all a)) (keys (defined_in t))) t.line 21
  double_at_holds a t b p =
      let own = in_part (by_statement us) a t b p key_at key_of defined_at_holds in
      let seen = before_part (by_statement us) a t b p key_at key_of defined_at_holds in
      rw (line_at (λ (t : Stated). t.line) (stated_in us) a t b p, own, seen)
      (rw (drafts_keys a, defined_keys t.line t.stood))

  -- 21
  pub doubles_of : doubles (stated_lines us) (sheet_bounds us) (sheet_kinds us) (sheet_args us)
      ≡ faults21 [] (stated_in us)
  unfolding doubles faults21 concat_map
  doubles_of =
      rw (length-map (stated_in us) (λ (t : Stated). t.line))
      (gather_fronts (double_at (stated_lines us) (sheet_bounds us) (sheet_kinds us) (sheet_args us))
      (λ a b. faults21 (keys (defined_all a)) b) (stated_in us) (λ a. refl)
      (λ a t b p. ap₂ (λ x y. x ++ faults21 y b) (sym (double_at_holds a t b p)) (sym (keys_snoc a t))) []
      (stated_in us) refl)
