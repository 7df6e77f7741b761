-- A fault that is added, or none: what it is in the list, where few stand before it.
use Prim.Native.Nat.{ℕ, ◌+◌, ◌≤◌, ◌<◌}
use mathlib.Core.Path.{◌≡◌}
use mathlib.Core.Bool.{Bool}
use mathlib.Core.List.{List}
use native.Mathlib.Omega.{arith}
use lib.ListN.{length}
use Rattle.std.specs.Prelude.{Option, Some, None}
use Rattle.std.specs.Bool.{then_some}
use Rattle.limits.specs.Limits.{most_statements}
use Rattle.faults.specs.declared.Fault.{Fault as FaultKind}
use Rattle.faults.specs.Codes.{code_of}
use Rattle.sheet.specs.Sheet.{Fault}
use Rattle.blocks.specs.Tests.{fault_if}
use Rattle.blocks.specs.Contract.{fault_of, AddsFault}
use Rattle.blocks.specs.Working.{Reported}
use Rattle.blocks.proofs.FaultsListed.{Reports, reports_next, added_if}

-- one fault, or none
pub fault_length : (f : Option FaultKind) (line : ℕ) → length (fault_of f line) ≤ 1
fault_length None line = omega arith
fault_length (Some f) line = omega arith

-- so the count stays below what 64 bits hold
added : {f : Option FaultKind} {line c r : ℕ} {list list' : List ℕ} → c ≤ most_statements
    → AddsFault f line list c r list' → Reported (fault_of f line) c r list list'
added {f} {line} h a = record { behind = omega (arith, a.behind, fault_length f line); written = a.written }

-- ---- a turn of a loop that reports what f gives at few places
module _ {f : ℕ → List Fault} {n i c : ℕ} {list₀ list : List ℕ} (v : Reports f n i c list₀ list)
    (few : n ≤ most_statements) (h : i < n) {fault : Option FaultKind} {line r : ℕ} {list' : List ℕ}
    (a : AddsFault fault line list c r list') where
  -- by a fault, or none
  pub reports_fault : fault_of fault line ≡ f i → Reports f n (i + 1) r list₀ list'
  reports_fault e = reports_next v h e (added (omega (arith, v.few, v.within)) a)

  -- by a test
  pub reports_test : (stands : Bool) (kind : FaultKind) → fault ≡ then_some stands kind
      → fault_if stands line (code_of kind) ≡ f i → Reports f n (i + 1) r list₀ list'
  reports_test stands kind t e = reports_next v h e (added_if stands kind t (omega (arith, v.few, v.within)) a)
