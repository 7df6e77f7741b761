-- What is worked out by place over the arrays that hold units is what the definitions say of the units.
use Prim.Native.Nat.{ℕ}
use mathlib.Core.Path.{◌≡◌}
use mathlib.Core.List.{List, []}
use lib.ListN.{length}
use Rattle.laws.specs.Counts.{has}
use Rattle.order.specs.Greedy.{order}
use Rattle.blocks.specs.Units.{TextUnit, stated_in}
use Rattle.blocks.specs.Layout.{UnitsLaid}
use Rattle.blocks.specs.Sound.{UnitsSound}
use Rattle.model.specs.Definitions.{Def, definitions, keys, unit_count}
use Rattle.model.specs.Faults.{faults21, name_faults, faults24, order_of}
use Rattle.model.specs.Places.{keys_in, places_in, doubles, resolved, nameless, ordered_in, loops}
use Rattle.model.proofs.SheetWalk.{sheet_slots}
use Rattle.model.proofs.KeyPlaces.{keys_once}
use Rattle.model.proofs.SheetKeys.{keys_of, places_length, doubles_of}
use Rattle.model.proofs.SheetNames.{names_of}
use Rattle.model.proofs.SheetOrdered.{ordered_length}
use Rattle.model.proofs.UsesFit.{used_of}
use Rattle.model.proofs.SheetUses.{order_of_holds, loops_of}

-- ---- of arrays that hold the units us. That the table of uses is one that can be ordered holds of any arrays (law
-- `table_fit`)
module _ (us : List TextUnit) (kinds args lines bounds ulines ubounds firsts : List ℕ)
    (laid : UnitsLaid us kinds args lines bounds ulines ubounds firsts) where
  abbrev ds : List Def
  ds = definitions us

  abbrev slots : List ℕ
  slots = resolved (keys_in kinds args) kinds args

  abbrev places : List ℕ
  places = places_in kinds

  abbrev ordered : List ℕ
  ordered = ordered_in (length ulines) ubounds kinds

  -- THE KEYS of the definitions
  pub keys_meant : keys_in kinds args ≡ keys ds
  keys_meant = rw (laid.kinds_held, laid.args_held) (keys_of us)

  -- THE SLOTS of names
  pub slots_meant : slots ≡ sheet_slots us
  slots_meant = rw keys_meant (rw (laid.kinds_held, laid.args_held))

  -- THE PLACES: as many as there are definitions
  pub places_meant : length places ≡ length ds
  places_meant = rw laid.kinds_held (places_length us)

  -- 21
  pub doubles_meant : doubles lines bounds kinds args ≡ faults21 [] (stated_in us)
  doubles_meant = rw (laid.kinds_held, laid.args_held, laid.lines_held, laid.bounds_held) (doubles_of us)

  -- 22 AND 23, if there is no 21
  pub names_meant : faults21 [] (stated_in us) ≡ [] → nameless places ulines ubounds kinds slots ≡ name_faults ds us
  names_meant e =
      rw slots_meant
      (rw (laid.kinds_held, laid.unit_lines_held, laid.unit_bounds_held) (names_of us (keys_once us e)))

  -- THE UNITS of the order: as many
  pub ordered_meant : length ordered ≡ unit_count us
  ordered_meant = rw (laid.kinds_held, laid.unit_lines_held, laid.unit_bounds_held) (ordered_length us)

  -- THE ORDER of the table is that of the units, if their blocks are sound: else two might assign one name
  pub order_meant : UnitsSound us → faults21 [] (stated_in us) ≡ []
      → order (length ordered) (λ i j. has j (used_of ubounds kinds slots ordered i)) ≡ order_of us
  order_meant sound e =
      rw slots_meant
      (rw (laid.kinds_held, laid.unit_lines_held, laid.unit_bounds_held) (order_of_holds us sound (keys_once us e)))

  -- 24
  pub loops_meant : loops (order_of us) ordered ulines ≡ faults24 us
  loops_meant = rw (laid.kinds_held, laid.unit_lines_held, laid.unit_bounds_held) (loops_of us)
