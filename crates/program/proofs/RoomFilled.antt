-- Laws of what is written where there is room: nothing, one part behind another, a record, what a loop writes.
use Prim.Native.Nat.{ℕ, zero, suc, ◌+◌, ◌-◌, ◌*◌, ◌/◌, ◌%◌, ◌≤◌, ◌<◌}
use mathlib.Core.Path.{◌≡◌, refl, sym, ap, ap₂, ◌∙◌}
use mathlib.Core.Logic.{⊎_elim}
use mathlib.Core.List.{List, [], ◌∷◌, ◌++◌, append_assoc, append-nil}
use native.Mathlib.Nat.{sub-zero}
use native.Mathlib.Omega.{arith}
use borrow.Rule.Slice.PartMut.{mid_len, Post-is}
use lib.ListN.{length, take, drop, length-append, length-take, drop_of_length-le}
use lib.Seq.{sets, length-sets, sets-eq, length-take-le, take_all, take-nil, take-append-le, take-append-add}
use Rattle.limits.specs.Limits.{record_bytes}
use Rattle.laws.specs.Places.{gather}
use Rattle.laws.proofs.Tests.{lt_or_ge}
use Rattle.laws.proofs.Sets.{sets_append}
use Rattle.laws.proofs.Gathers.{gather_done, gather_more}
use Rattle.bits.specs.Low.{low_bytes}
use Rattle.bits.proofs.Lows.{length_low}
use Rattle.program.specs.Written.{field_bytes, head_of, fitting, Fills}

-- ---- rows of whole records
abbrev pub WholeRecords : List ℕ → Type 0
WholeRecords x = length x % record_bytes ≡ 0

whole_append : (x y : List ℕ) → WholeRecords x → WholeRecords y → WholeRecords (x ++ y)
whole_append x y p q = omega (arith, length-append x y)

pub whole_gather : (f : ℕ → List ℕ) → ((i : ℕ) → WholeRecords (f i)) → (k i : ℕ) → WholeRecords (gather f k i)
unfolding gather
whole_gather f h zero i = omega arith
whole_gather f h (suc k) i = whole_append (f i) (gather f k (suc i)) (h i) (whole_gather f h k (suc i))

-- of a row and one behind it as much fits as of the first, and behind that of the other
fitting_append : (room : ℕ) (x y : List ℕ) → WholeRecords x
    → fitting room (x ++ y) ≡ fitting room x ++ fitting (room - length (fitting room x)) y
fitting_append room x y h =
    ⊎_elim (λ (l : n < length x). part l) (λ (l : length x ≤ n). all_fit l) (lt_or_ge n (length x))
  where
    -- so many bytes have room
    n : ℕ
    n = record_bytes * (room / record_bytes)

    -- not even all of the first
    part : n < length x → fitting room (x ++ y) ≡ fitting room x ++ fitting (room - length (fitting room x)) y
    part l =
        let m : length (take n x) ≡ n = length-take-le n x (omega arith) in
        let none : record_bytes * ((room - length (take n x)) / record_bytes) ≡ 0 = omega (arith, m) in
        take-append-le n x y (omega arith) ∙ rw none (sym (append-nil (take n x)))

    -- all of it
    all_fit : length x ≤ n → fitting room (x ++ y) ≡ fitting room x ++ fitting (room - length (fitting room x)) y
    all_fit l =
        let e : n ≡ length x + record_bytes * ((room - length x) / record_bytes) = omega arith in
        rw (take_all n x l) (ap (λ (k : ℕ). take k (x ++ y)) e ∙ take-append-add x y _)

-- ---- what fills the bytes from a place on

-- where there is nothing to write, nothing is
pub fill_none : {what : List ℕ} (w : ℕ) (buf : List ℕ) → what ≡ [] → Fills what w w buf buf
fill_none w buf e =
    let none = take-nil {A = ℕ} (record_bytes * ((length buf - w) / record_bytes)) in
    record { behind = rw (e, none) (omega arith); written = rw (e, none) }

-- what is written under another name
pub fill_as : {x y : List ℕ} {w r : ℕ} {b b₁ : List ℕ} → x ≡ y → Fills y w r b b₁ → Fills x w r b b₁
fill_as e p = rw e p

module _ {x : List ℕ} {w m : ℕ} {b b₁ : List ℕ} (p : Fills x w m b b₁) where
  -- there are as many bytes as before, and the place behind is one of theirs or their end
  pub fill_long : length b₁ ≡ length b
  fill_long = ap length p.written ∙ length-sets b w (fitting (length b - w) x)

  pub fill_within : w ≤ length b → m ≤ length b₁
  fill_within h =
      let n = record_bytes * ((length b - w) / record_bytes) in
      omega (arith, p.behind, length-take n x, fill_long)

  -- one behind another
  pub fill_both : {y : List ℕ} {r : ℕ} {b₂ : List ℕ} → WholeRecords x → Fills y m r b₁ b₂ → Fills (x ++ y) w r b b₂
  fill_both {y} {r} {b₂} h q =
      let front = fitting (length b - w) x in
      let rest = fitting ((length b - w) - length front) y in
      let left : length b₁ - m ≡ (length b - w) - length front = omega (arith, p.behind, fill_long) in
      let behind : r ≡ m + length rest = rw left at q.behind in
      let written : b₂ ≡ sets b₁ m rest = rw left at q.written in
      let all = fitting_append (length b - w) x y h in
      record {
        behind = rw all (omega (arith, p.behind, behind, length-append front rest));
        written =
            rw all (written ∙ ap₂ (λ (l : List ℕ) (k : ℕ). sets l k rest) p.written p.behind
            ∙ sym (sets_append b w front rest));
      }

-- ---- a record

-- it has sixteen bytes
pub length_record : (k s l v : ℕ) → length (field_bytes k s l v) ≡ record_bytes
length_record k s l v = simp (length-append, length_low)

-- a number and one larger by a multiple of 256: the same lowest byte, and what is above it
same_low : (x y k : ℕ) → y ≡ x + 256 * k → x % 256 ≡ y % 256
same_low x y k e = omega arith

above : (x y k : ℕ) → y ≡ x + 256 * k → y / 256 ≡ x / 256 + k
above x y k e = omega arith

-- the two lowest bytes of a number and of one larger by a multiple of 65536
two_low : (x y k : ℕ) → y ≡ x + 256 * (256 * k) → (x % 256 ≡ y % 256) × (x / 256 % 256 ≡ y / 256 % 256)
two_low x y k e = (same_low x y (256 * k) e, same_low (x / 256) (y / 256) k (above x y (256 * k) e))

-- the four lowest bytes of a number are in its lowest 32 bits
low_part : (l : ℕ) → low_bytes 4 (l % 4294967296) ≡ low_bytes 4 l
unfolding low_bytes
low_part l =
    let r = l % 4294967296 in
    let q = l / 4294967296 in
    let zero : l ≡ r + 256 * (16777216 * q) = omega arith in
    let one : l / 256 ≡ r / 256 + 256 * (65536 * q) = above r l (16777216 * q) zero ∙ omega arith in
    let two : l / 256 / 256 ≡ r / 256 / 256 + 256 * (256 * q) =
    above (r / 256) (l / 256) (65536 * q) one ∙ omega arith in
    let three : l / 256 / 256 / 256 ≡ r / 256 / 256 / 256 + 256 * q =
    above (r / 256 / 256) (l / 256 / 256) (256 * q) two in
    let a = same_low r l (16777216 * q) zero in
    let b = same_low (r / 256) (l / 256) (65536 * q) one in
    let c = same_low (r / 256 / 256) (l / 256 / 256) (256 * q) two in
    let d = same_low (r / 256 / 256 / 256) (l / 256 / 256 / 256) q three in
    cc

-- the bytes of the first eight as a number: kind and 0, slot, line
pub head_bytes : (k s l : ℕ) → k < 256 → low_bytes 8 (head_of k s l) ≡ k ∷ 0 ∷ (low_bytes 2 s ++ low_bytes 4 l)
unfolding low_bytes
head_bytes k s l h =
    let n = head_of k s l in
    let m = n / 256 / 256 in
    let slot : m ≡ s % 65536 + 65536 * (l % 4294967296) = omega arith in
    let line : m / 256 / 256 ≡ l % 4294967296 = omega (arith, slot) in
    let first : n % 256 ≡ k = omega arith in
    let second : n / 256 % 256 ≡ 0 = omega arith in
    let t = s % 65536 in
    let ours = two_low t m (l % 4294967296) (slot ∙ omega arith) in
    let theirs = two_low t s (s / 65536) (omega arith) in
    let third : m % 256 ≡ s % 256 = sym ours.0 ∙ theirs.0 in
    let fourth : m / 256 % 256 ≡ s / 256 % 256 = sym ours.1 ∙ theirs.1 in
    let rest : low_bytes 4 (l % 4294967296) ≡ low_bytes 4 l = low_part l in
    eight first second third fourth (ap (low_bytes 4) line ∙ rest)
  where
    eight : {a b c d a' b' c' d' : ℕ} {r r' : List ℕ} → a ≡ a' → b ≡ b' → c ≡ c' → d ≡ d' → r ≡ r'
        → a ∷ b ∷ c ∷ d ∷ r ≡ a' ∷ b' ∷ c' ∷ d' ∷ r'
    eight p q t u v = cc

-- kind and 0, slot, line, value, one behind the other
pub fields_put : (k s l v : ℕ) {n : ℕ} (b b₁ b₂ : List ℕ) → k < 256 → n ≡ head_of k s l → b₁ ≡ sets b 0 (low_bytes 8 n)
    → b₂ ≡ sets b₁ 8 (low_bytes 8 v)
    → b₂ ≡ sets b 0 (field_bytes k s l v)
fields_put k s l v b b₁ b₂ h e p q =
    let front = k ∷ 0 ∷ (low_bytes 2 s ++ low_bytes 4 l) in
    let head : b₁ ≡ sets b 0 front =
    p ∙ ap (λ (x : ℕ). sets b 0 (low_bytes 8 x)) e ∙ ap (sets b 0) (head_bytes k s l h) in
    let eight : 8 ≡ 0 + length front =
    omega (arith, length-append (low_bytes 2 s) (low_bytes 4 l), length_low 2 s, length_low 4 l) in
    let same = ap (λ (r : List ℕ). k ∷ 0 ∷ r) (append_assoc (low_bytes 2 s) (low_bytes 4 l) (low_bytes 8 v)) in
    q ∙ ap₂ (λ (x : List ℕ) (n : ℕ). sets x n (low_bytes 8 v)) head eight ∙ sym (sets_append b 0 front (low_bytes 8 v))
    ∙ ap (sets b 0) same

-- a row that is written over from its front to its end
sets_all : (l vs : List ℕ) → length l ≡ length vs → sets l 0 vs ≡ vs
sets_all l vs e =
    let h : length l ≤ 0 + length vs = omega arith in
    rw (sets-eq vs l 0 (omega arith), drop_of_length-le l h) (append-nil vs)

-- a record for which there is room is written over a part of the bytes
pub fill_part : (vs b part : List ℕ) (w e : ℕ) → length vs ≡ record_bytes → e ≡ w + record_bytes → e ≤ length b
    → part ≡ sets (take (e - w) (drop w b)) 0 vs
    → Fills vs w e b (take w b ++ (part ++ drop (e - w) (drop w b)))
fill_part vs b part w e l p h q =
    let n = record_bytes * ((length b - w) / record_bytes) in
    let all_over : part ≡ vs = q ∙ sets_all (take (e - w) (drop w b)) vs (mid_len w e b h ∙ omega arith) in
    let end : e ≡ w + length vs = omega arith in
    let all : take n vs ≡ vs = take_all n vs (omega arith) in
    record {
      behind = rw all end;
      written = rw (all, all_over, Post-is w e b (omega arith), end, ← append_assoc)
          (sym (sets-eq vs b w (omega arith)));
    }

-- one for which there is none is not
pub fill_no_room : (vs b : List ℕ) (w : ℕ) → length b - w < record_bytes → Fills vs w w b b
fill_no_room vs b w h =
    let none : record_bytes * ((length b - w) / record_bytes) ≡ 0 = omega arith in
    record { behind = rw none (omega arith); written = rw none }

-- ---- a loop that writes what f gives at each place from a on, before n, stands at place i
pub record Filling (f : ℕ → List ℕ) (n a i w₀ w : ℕ) (buf₀ buf : List ℕ) : Type 0 where
  pub beyond : a ≤ i
  pub upto : i - a ≤ n - a
  pub within : w ≤ length buf
  pub long : length buf ≡ length buf₀
  pub records_whole : (j : ℕ) → WholeRecords (f j)
  pub so : Fills (gather f (i - a) a) w₀ w buf₀ buf

pub filling_first : (f : ℕ → List ℕ) (n a w : ℕ) (buf : List ℕ) → ((j : ℕ) → WholeRecords (f j)) → w ≤ length buf
    → Filling f n a a w w buf buf
filling_first f n a w buf t h =
    record {
      beyond = omega arith;
      upto = omega arith;
      within = h;
      long = refl;
      records_whole = t;
      so = fill_none w buf (gather_done f a a (omega arith));
    }

module _ {f : ℕ → List ℕ} {n a i w₀ w : ℕ} {buf₀ buf : List ℕ} (v : Filling f n a i w₀ w buf₀ buf) where
  -- what one place gives
  pub filling_next : {r : ℕ} {last : List ℕ} → i < n → Fills (f i) w r buf last → Filling f n a (i + 1) w₀ r buf₀ last
  filling_next h p =
      record {
        beyond = omega (arith, v.beyond);
        upto = omega (arith, v.beyond);
        within = fill_within p v.within;
        long = fill_long p ∙ v.long;
        records_whole = v.records_whole;
        so = fill_as (gather_more f a i v.beyond)
            (fill_both v.so (whole_gather f v.records_whole (i - a) a) p);
      }

  -- what all give
  pub filling_all : n ≤ i → Fills (gather f (n - a) a) w₀ w buf₀ buf
  filling_all h =
      let e : n - a ≡ i - a = omega (arith, v.upto) in
      rw e v.so

-- the same from place 0 on
pub filling_whole : {f : ℕ → List ℕ} {n i w₀ w : ℕ} {buf₀ buf : List ℕ} → Filling f n 0 i w₀ w buf₀ buf → n ≤ i
    → Fills (gather f n 0) w₀ w buf₀ buf
filling_whole {n = n} v h = rw (sub-zero n) at (filling_all v h)
