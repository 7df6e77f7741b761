-- The fault list written: one fault, and a loop that reports what its places give.
use Prim.Native.Nat.{ℕ, ◌+◌, ◌-◌, ◌*◌, ◌^◌, ◌≤◌, ◌<◌, min}
use mathlib.Core.Path.{◌≡◌, refl, sym, ap, ◌∙◌}
use mathlib.Core.Bool.{Bool, true, false}
use mathlib.Core.List.{List, ◌++◌, append-nil}
use native.Mathlib.Nat.{sub-zero}
use native.Mathlib.Omega.{arith}
use lib.ListN.{length, length-append}
use lib.Seq.{sets, length-sets}
use Rattle.std.specs.Bool.{then_some}
use Rattle.std.specs.Prelude.{Option, Some, None}
use Rattle.limits.specs.Limits.{most_statements, fault_bytes}
use Rattle.laws.specs.Lists.{concat_map}
use Rattle.laws.specs.Places.{gather}
use Rattle.laws.proofs.Sets.{sets_append}
use Rattle.laws.proofs.Gathers.{gather_step, gather_done}
use Rattle.faults.specs.declared.Fault.{Fault as FaultKind}
use Rattle.faults.specs.Codes.{code_of}
use Rattle.sheet.specs.Sheet.{Fault, fault_at_first, entry_of, fault_entry, fault_list}
use Rattle.sheet.proofs.Entries.{list_length, list_append}
use Rattle.blocks.specs.Tests.{fault_if}
use Rattle.blocks.specs.Contract.{AddsFault}
use Rattle.blocks.specs.Working.{Reported}

pub if_length : (b : Bool) (line code : ℕ) → length (fault_if b line code) ≤ 1
if_length true line code = omega arith
if_length false line code = omega arith

-- a fault that is written, and none
pub fault_put : (line code c : ℕ) {stands : Bool} {list list' : List ℕ} → stands ≡ true
    → list' ≡ sets list (fault_bytes * c) (entry_of (fault_at_first line code))
    → Reported (fault_if stands line code) c (c + 1) list list'
unfolding fault_list fault_entry concat_map
fault_put line code c {stands} {list} {list'} t e =
    let one = ap (sets list (fault_bytes * c)) (sym (append-nil (entry_of (fault_at_first line code)))) in
    rw t (record { behind = refl; written = e ∙ one })

pub fault_none : (line code c : ℕ) (stands : Bool) (list : List ℕ) → stands ≡ false
    → Reported (fault_if stands line code) c c list list
unfolding fault_list concat_map
fault_none line code c stands list t = rw t (record { behind = omega arith; written = refl })

-- the same for a fault that is there or not
pub fault_added : {f : Option FaultKind} {line code r : ℕ} {x : FaultKind} {list list' : List ℕ} (c : ℕ)
    → f ≡ Some x → code ≡ code_of x
    → list' ≡ sets list (fault_bytes * c) (entry_of (record { line = line; code = code; place = line; column = 1 }))
    → r ≡ min (c + 1) (2 ^ 64 - 1)
    → AddsFault f line list c r list'
unfolding fault_list fault_entry concat_map
fault_added {line = line} {x = x} {list = list} c t k e h =
    let one = ap (sets list (fault_bytes * c)) (sym (append-nil (entry_of (fault_at_first line (code_of x))))) in
    rw t (record { behind = h; written = rw k at e ∙ one })

pub fault_absent : {f : Option FaultKind} {c : ℕ} (line : ℕ) (list : List ℕ) → f ≡ None → c < 2 ^ 64
    → AddsFault f line list c c list
unfolding fault_list concat_map
fault_absent line list t h = rw t (record { behind = omega arith; written = refl })

-- the same for a test of whether it stands, behind a few
pub added_if : (stands : Bool) (kind : FaultKind) {f : Option FaultKind} {line c r : ℕ} {list list' : List ℕ}
    → f ≡ then_some stands kind → c ≤ most_statements → AddsFault f line list c r list'
    → Reported (fault_if stands line (code_of kind)) c r list list'
added_if stands kind {line = line} {c} {r} {list} {list'} t h v =
    go stands (rw t at v)
  where
    go : (b : Bool) → AddsFault (then_some b kind) line list c r list'
        → Reported (fault_if b line (code_of kind)) c r list list'
    go true v = record { behind = omega (arith, v.behind); written = v.written }
    go false v = record { behind = omega (arith, v.behind); written = v.written }

-- ---- a loop over n places that reports what f gives: it stands at place i, with c faults written
pub record Reports (f : ℕ → List Fault) (n i c : ℕ) (list₀ list : List ℕ) : Type 0 where
  pub single : (j : ℕ) → length (f j) ≤ 1
  pub within : i ≤ n
  pub few : c ≤ i
  pub long : length list ≡ length list₀
  pub left : c + length (gather f (n - i) i) ≡ length (gather f n 0)
  pub same : sets list (fault_bytes * c) (fault_list (gather f (n - i) i)) ≡ sets list₀ 0 (fault_list (gather f n 0))

pub reports_first : (f : ℕ → List Fault) (n : ℕ) (list : List ℕ) → ((j : ℕ) → length (f j) ≤ 1)
    → Reports f n 0 0 list list
reports_first f n list one =
    record {
      single = one;
      within = omega arith;
      few = omega arith;
      long = refl;
      left = rw sub-zero (omega arith);
      same = rw sub-zero refl;
    }

module _ {f : ℕ → List Fault} {n i c : ℕ} {list₀ list : List ℕ} (v : Reports f n i c list₀ list) where
  -- a turn that reports one fault, or none
  pub reports_next : {fs : List Fault} {r : ℕ} {list' : List ℕ} → i < n → fs ≡ f i → Reported fs c r list list'
      → Reports f n (i + 1) r list₀ list'
  reports_next {fs} {r} {list'} h e put =
      let w : Reported (f i) c r list list' = rw e at put in
      let rest = gather f (n - (i + 1)) (i + 1) in
      let at : fault_bytes * r ≡ fault_bytes * c + length (fault_list (f i)) =
      omega (arith, w.behind, list_length (f i)) in
      let step : fault_list (gather f (n - i) i) ≡ fault_list (f i) ++ fault_list rest =
      ap fault_list (gather_step f n i h) ∙ list_append (f i) rest in
      record {
        single = v.single;
        within = omega arith;
        few = omega (arith, v.few, w.behind, v.single i);
        long = ap length w.written ∙ length-sets list (fault_bytes * c) (fault_list (f i)) ∙ v.long;
        left = omega (arith, v.left, w.behind, ap length (gather_step f n i h), length-append (f i) rest);
        same = rw (w.written, at, ← (sets_append list (fault_bytes * c) (fault_list (f i)) (fault_list rest)), ← step)
            v.same;
      }

  pub reports_last : n ≤ i → Reported (gather f n 0) 0 c list₀ list
  unfolding fault_list concat_map
  reports_last h =
      record {
        behind = omega (arith, v.left, ap length (gather_done f n i h));
        written = rw (gather_done f n i h) at v.same;
      }
