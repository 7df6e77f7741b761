-- The bytes of a fault, and of a list of faults.
use Prim.Native.Nat.{ℕ, ◌+◌, ◌*◌, ◌/◌, ◌%◌, ◌^◌, ◌≤◌, ◌<◌}
use mathlib.Core.Path.{◌≡◌, refl, sym, ap, ap₂, ◌∙◌, ◌≡⟨◌⟩◌, ◌∎}
use mathlib.Core.List.{List, [], ◌∷◌, ◌++◌, append_assoc}
use native.Mathlib.Omega.{arith}
use lib.ListN.{length, take, drop, length-append}
use lib.Seq.{sets, take-take, take_at, take-add, drop-append_seam}
use Rattle.limits.specs.Limits.{fault_bytes}
use Rattle.laws.specs.Lists.{concat_map}
use Rattle.laws.proofs.Lists.{concat_append}
use Rattle.laws.proofs.Sets.{sets_out}
use Rattle.bits.specs.Low.{low_bytes}
use Rattle.bits.proofs.Lows.{length_low, low_append}
use Rattle.sheet.specs.Sheet.{Fault, entry_of, fault_entry, fault_list}

cons : {a b : ℕ} {x y : List ℕ} → a ≡ b → x ≡ y → a ∷ x ≡ b ∷ y
cons p q = ap₂ ◌∷◌ p q

-- ---- a fault's bytes are those of one number

-- line and code are its lower half
entry_first : (l c s : ℕ) → c < 256
    → low_bytes 4 (l % 65536 + 65536 * c + 4294967296 * s) ≡ low_bytes 2 l ++ (c ∷ 0 ∷ [])
unfolding low_bytes
entry_first l c s k = cons (omega arith) (cons (omega arith) (cons (omega arith) (cons (omega arith) refl)))

-- the place's line and the column are its upper half
entry_second : (p k : ℕ) → low_bytes 4 (p % 65536 + 65536 * (k % 65536)) ≡ low_bytes 2 p ++ low_bytes 2 k
unfolding low_bytes
entry_second p k = cons (omega arith) (cons (omega arith) (cons (omega arith) (cons (omega arith) refl)))

-- so they are all of it
entry_bytes : (l c p k : ℕ) → c < 256
    → low_bytes fault_bytes (l % 65536 + 65536 * c + 4294967296 * (p % 65536 + 65536 * (k % 65536)))
    ≡ entry_of (record { line = l; code = c; place = p; column = k })
entry_bytes l c p k h =
    let s = p % 65536 + 65536 * (k % 65536) in
    let v = l % 65536 + 65536 * c + 4294967296 * s in
    let upper : v / 256 ^ 4 ≡ s = omega arith in
    low_append 4 4 v
    ∙ ap₂ ◌++◌ (entry_first l c s h) (ap (low_bytes 4) upper ∙ entry_second p k)
    ∙ append_assoc (low_bytes 2 l) (c ∷ 0 ∷ []) (low_bytes 2 p ++ low_bytes 2 k)

pub entry_put : (l c p k at : ℕ) (list : List ℕ) {w : ℕ} {list' : List ℕ} → (w ≡ c) × (w < 256)
    → list'
    ≡ sets list at (low_bytes fault_bytes (l % 65536 + 65536 * w + 4294967296 * (p % 65536 + 65536 * (k % 65536))))
    → list' ≡ sets list at (entry_of (record { line = l; code = c; place = p; column = k }))
entry_put l c p k at list {w} {list'} wide put =
    let h : c < 256 = omega (arith, wide.0, wide.1) in
    let upper = 4294967296 * (p % 65536 + 65536 * (k % 65536)) in
    put
    ∙ ap (λ (b : ℕ). sets list at (low_bytes fault_bytes (l % 65536 + 65536 * b + upper))) wide.0
    ∙ ap (sets list at) (entry_bytes l c p k h)

-- where the list has no place for them, nothing is written
pub entry_out : (f : Fault) (count : ℕ) (list : List ℕ) → length list / fault_bytes < count
    → list ≡ sets list (fault_bytes * count) (entry_of f)
entry_out f count list h = sym (sets_out list (fault_bytes * count) (entry_of f) (omega arith))

-- each fault has as many bytes
entry_length : (f : Fault) → length (entry_of f) ≡ fault_bytes
entry_length f =
    let front = low_bytes 2 f.line in
    let place = low_bytes 2 f.place in
    let column = low_bytes 2 f.column in
    omega (
      arith,
      length-append front (f.code ∷ 0 ∷ (place ++ column)),
      length-append place column,
      length_low 2 f.line,
      length_low 2 f.place,
      length_low 2 f.column,
    )

pub list_length : (fs : List Fault) → length (fault_list fs) ≡ fault_bytes * length fs
unfolding fault_list fault_entry concat_map
list_length [] = refl
list_length (f ∷ fs) = omega (arith, length-append (entry_of f) (fault_list fs), entry_length f, list_length fs)

pub list_append : (x y : List Fault) → fault_list (x ++ y) ≡ fault_list x ++ fault_list y
unfolding fault_list
list_append x y = concat_append fault_entry x y

-- ---- a list at the front of a buffer

-- it begins with the entries of its first faults
pub list_front : (fs x y : List Fault) (b : List ℕ) → fs ≡ x ++ y → take (fault_bytes * length fs) b ≡ fault_list fs
    → take (fault_bytes * length x) b ≡ fault_list x
list_front fs x y b e h =
    let long = ap length e ∙ length-append x y in
    let few : fault_bytes * length x ≤ fault_bytes * length fs = omega arith in
    take (fault_bytes * length x) b ≡⟨ sym (take-take (fault_bytes * length x) (fault_bytes * length fs) b few) ⟩
    take (fault_bytes * length x) (take (fault_bytes * length fs) b) ≡⟨
    ap (take (fault_bytes * length x)) (h ∙ ap fault_list e ∙ list_append x y) ⟩
    take (fault_bytes * length x) (fault_list x ++ fault_list y) ≡⟨
    take_at (fault_list x) (fault_list y) (fault_bytes * length x) (list_length x) ⟩
    fault_list x ∎

-- it ends with those of its last faults
pub list_tail : (fs x y : List Fault) (b : List ℕ) → fs ≡ x ++ y → take (fault_bytes * length fs) b ≡ fault_list fs
    → take (fault_bytes * length y) (drop (fault_bytes * length x) b) ≡ fault_list y
list_tail fs x y b e h =
    let n = fault_bytes * length x in
    let m = fault_bytes * length y in
    let long = ap length e ∙ length-append x y in
    let sum : fault_bytes * length fs ≡ n + m = omega arith in
    let parts : take n b ++ take m (drop n b) ≡ fault_list x ++ fault_list y =
    sym (take-add n m b) ∙ ap (λ k. take k b) (sym sum) ∙ h ∙ ap fault_list e ∙ list_append x y in
    let front : take n b ≡ fault_list x = list_front fs x y b e h in
    let same : fault_list x ++ take m (drop n b) ≡ fault_list x ++ fault_list y = rw front at parts in
    take m (drop n b) ≡⟨ sym (drop-append_seam (fault_list x) (take m (drop n b))) ⟩
    drop (length (fault_list x)) (fault_list x ++ take m (drop n b)) ≡⟨ ap (drop (length (fault_list x))) same ⟩
    drop (length (fault_list x)) (fault_list x ++ fault_list y) ≡⟨ drop-append_seam (fault_list x) (fault_list y) ⟩
    fault_list y ∎
