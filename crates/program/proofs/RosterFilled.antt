-- Laws of the roster as it is written: entries one behind the other, that of a draft, what a loop writes.
use Prim.Native.Nat.{ℕ, suc, ◌+◌, ◌-◌, ◌*◌, ◌/◌, ◌≤◌, ◌<◌}
use mathlib.Core.Path.{◌≡◌, refl, sym, ap, ap₂, ◌∙◌}
use mathlib.Core.Logic.{⊎_elim}
use mathlib.Core.List.{List, [], ◌∷◌, ◌++◌, append_assoc, append-nil}
use native.Mathlib.Nat.{zero-add, add-zero, sub-zero}
use native.Mathlib.Numerals.{add-one}
use native.Mathlib.Omega.{arith}
use lib.ListN.{length, take, length-append, length-take}
use lib.Seq.{sets, length-sets, take_all, take-nil, take-append-le, take-append-add}
use Rattle.limits.specs.Limits.{roster_bytes}
use Rattle.laws.specs.Places.{gather}
use Rattle.laws.proofs.Tests.{lt_or_ge}
use Rattle.laws.proofs.Sets.{sets_append}
use Rattle.laws.proofs.Gathers.{gather_done, gather_more}
use Rattle.bits.specs.Low.{low_bytes}
use Rattle.bits.proofs.Lows.{length_low}
use Rattle.program.specs.Roster.{Entry, entry, entry_bytes, entries_from}
use Rattle.program.specs.Written.{head_of, entries_of, entries_in, Enters}
use Rattle.program.specs.Contract.{PutsRoster}
use Rattle.program.proofs.RoomFilled.{head_bytes}

-- ---- the bytes of entries

-- an entry has sixteen
pub length_entry : (s : ℕ) (e : Entry) → length (entry_bytes s e) ≡ roster_bytes
length_entry s e = simp (length-append, length_low)

pub length_entries : (s : ℕ) (es : List Entry) → length (entries_from s es) ≡ roster_bytes * length es
unfolding entries_from
length_entries s [] = refl
length_entries s (e ∷ es) =
    omega
    (arith, length-append (entry_bytes s e) (entries_from (suc s) es), length_entry s e, length_entries (suc s) es)

-- entries, and others whose slots follow theirs
pub entries_append : (s : ℕ) (xs ys : List Entry)
    → entries_from s (xs ++ ys) ≡ entries_from s xs ++ entries_from (s + length xs) ys
unfolding entries_from
entries_append s [] ys = ap (λ (n : ℕ). entries_from n ys) (sym (add-zero s))
entries_append s (e ∷ xs) ys =
    let slot : suc s + length xs ≡ s + suc (length xs) = omega arith in
    ap (λ r. entry_bytes s e ++ r)
    (entries_append (suc s) xs ys ∙ ap (λ (n : ℕ). entries_from (suc s) xs ++ entries_from n ys) slot)
    ∙ sym (append_assoc (entry_bytes s e) (entries_from (suc s) xs) (entries_from (s + suc (length xs)) ys))

-- the key, and behind it what the name is and 0, slot and line
pub entry_put : (k w l n : ℕ) {h : ℕ} (b b₁ b₂ : List ℕ) → w < 256 → h ≡ head_of w (n + 1) l
    → b₁ ≡ sets b (roster_bytes * n) (low_bytes 8 k) → b₂ ≡ sets b₁ (roster_bytes * n + 8) (low_bytes 8 h)
    → b₂ ≡ sets b (roster_bytes * n) (entry_bytes (n + 1) (entry k w l))
entry_put k w l n b b₁ b₂ small e p q =
    let at = roster_bytes * n in
    let rest = w ∷ 0 ∷ (low_bytes 2 (n + 1) ++ low_bytes 4 l) in
    let eight : at + 8 ≡ at + length (low_bytes 8 k) = omega (arith, length_low 8 k) in
    q ∙ ap (λ (x : ℕ). sets b₁ (at + 8) (low_bytes 8 x)) e
    ∙ ap (sets b₁ (at + 8)) (head_bytes w (n + 1) l small)
    ∙ ap₂ (λ (x : List ℕ) (i : ℕ). sets x i rest) p eight
    ∙ sym (sets_append b at (low_bytes 8 k) rest)

-- ---- as many entries as there is room for

-- the first n of a row and of one behind it
take_both : {A : Type 0} (n : ℕ) (xs ys : List A) → take n (xs ++ ys) ≡ take n xs ++ take (n - length xs) ys
take_both n xs ys = ⊎_elim (λ (l : n < length xs). part l) (λ (l : length xs ≤ n). all l) (lt_or_ge n (length xs))
  where
    part : n < length xs → take n (xs ++ ys) ≡ take n xs ++ take (n - length xs) ys
    part l =
        let none : n - length xs ≡ 0 = omega arith in
        take-append-le n xs ys (omega arith) ∙ rw none (sym (append-nil (take n xs)))

    all : length xs ≤ n → take n (xs ++ ys) ≡ take n xs ++ take (n - length xs) ys
    all l =
        let e : n ≡ length xs + (n - length xs) = omega arith in
        rw (take_all n xs l) (ap (λ (k : ℕ). take k (xs ++ ys)) e ∙ take-append-add xs ys (n - length xs))

-- none are written
pub enter_none : (n : ℕ) (buf : List ℕ) → Enters [] n n buf buf
unfolding entries_from
enter_none n buf =
    let none = take-nil {A = Entry} (length buf / roster_bytes - n) in
    record { counted = rw none (omega arith); written = rw none }

-- there is room for none
pub enter_full : (es : List Entry) (n : ℕ) (buf : List ℕ) → length buf / roster_bytes ≤ n → Enters es n n buf buf
unfolding entries_from
enter_full es n buf h =
    let none : length buf / roster_bytes - n ≡ 0 = omega arith in
    record { counted = rw none (omega arith); written = rw none }

-- one is written
pub enter_one : (e : Entry) (n : ℕ) (b b₁ : List ℕ) → n < length b / roster_bytes
    → b₁ ≡ sets b (roster_bytes * n) (entry_bytes (n + 1) e)
    → Enters (e ∷ []) n (n + 1) b b₁
unfolding entries_from
enter_one e n b b₁ h p =
    let all : take (length b / roster_bytes - n) (e ∷ []) ≡ e ∷ [] =
    take_all (length b / roster_bytes - n) (e ∷ []) (omega arith) in
    record {
      counted = rw all (omega arith);
      written = rw (all, append-nil (entry_bytes (suc n) e)) (rw add-one at p);
    }

-- what is entered under another name
pub enter_as : {x y : List Entry} {n r : ℕ} {b b₁ : List ℕ} → x ≡ y → Enters y n r b b₁ → Enters x n r b b₁
enter_as e p = rw e p

module _ {x : List Entry} {n m : ℕ} {b b₁ : List ℕ} (p : Enters x n m b b₁) where
  -- there are as many bytes as before
  pub enter_long : length b₁ ≡ length b
  enter_long =
      ap length p.written
      ∙ length-sets b (roster_bytes * n) (entries_from (suc n) (take (length b / roster_bytes - n) x))

  -- some behind others
  pub enter_both : {y : List Entry} {r : ℕ} {b₂ : List ℕ} → Enters y m r b₁ b₂ → Enters (x ++ y) n r b b₂
  enter_both {y} {r} {b₂} q =
      let room = length b / roster_bytes in
      let front = take (room - n) x in
      let rest = take ((room - n) - length x) y in
      let left : length b₁ / roster_bytes - m ≡ (room - n) - length x =
      omega (arith, p.counted, length-take (room - n) x, enter_long) in
      let counted : r ≡ m + length rest = rw left at q.counted in
      let written : b₂ ≡ sets b₁ (roster_bytes * m) (entries_from (suc m) rest) = rw left at q.written in
      let all : take (room - n) (x ++ y) ≡ front ++ rest = take_both (room - n) x y in
      let at : roster_bytes * m ≡ roster_bytes * n + length (entries_from (suc n) front) =
      omega (arith, p.counted, length_entries (suc n) front) in
      let slot : suc m ≡ suc n + length front = omega (arith, p.counted) in
      record {
        counted = rw all (omega (arith, p.counted, counted, length-append front rest));
        written =
            rw (all, entries_append (suc n) front rest, ← slot)
            (written ∙ ap₂ (λ (l : List ℕ) (i : ℕ). sets l i (entries_from (suc m) rest)) p.written at
            ∙ sym (sets_append b (roster_bytes * n) (entries_from (suc n) front) (entries_from (suc m) rest)));
      }

-- ---- a loop that enters what f gives at each place from a on, before k, stands at place i
pub record Entering (f : ℕ → List Entry) (k a i n₀ n : ℕ) (buf₀ buf : List ℕ) : Type 0 where
  pub beyond : a ≤ i
  pub upto : i - a ≤ k - a
  pub long : length buf ≡ length buf₀
  pub so : Enters (gather f (i - a) a) n₀ n buf₀ buf

pub entering_first : (f : ℕ → List Entry) (k a n : ℕ) (buf : List ℕ) → Entering f k a a n n buf buf
entering_first f k a n buf =
    record {
      beyond = omega arith;
      upto = omega arith;
      long = refl;
      so = enter_as (gather_done f a a (omega arith)) (enter_none n buf);
    }

module _ {f : ℕ → List Entry} {k a i n₀ n : ℕ} {buf₀ buf : List ℕ} (v : Entering f k a i n₀ n buf₀ buf) where
  -- what one place gives
  pub entering_next : {r : ℕ} {last : List ℕ} → i < k → Enters (f i) n r buf last
      → Entering f k a (i + 1) n₀ r buf₀ last
  entering_next h p =
      record {
        beyond = omega (arith, v.beyond);
        upto = omega (arith, v.beyond);
        long = enter_long p ∙ v.long;
        so = enter_as (gather_more f a i v.beyond) (enter_both v.so p);
      }

  -- what all give
  pub entering_all : k ≤ i → Enters (gather f (k - a) a) n₀ n buf₀ buf
  entering_all h =
      let e : k - a ≡ i - a = omega (arith, v.upto) in
      rw e v.so

-- THE ROSTER: what all statements give, from the front on
pub roster_put : (lines bounds kinds args : List ℕ) {j n : ℕ} {buf₀ buf : List ℕ}
    → Entering (entries_of lines bounds kinds args) (length lines) 0 j 0 n buf₀ buf → length lines ≤ j
    → PutsRoster lines bounds kinds args buf₀ n buf
unfolding entries_in
roster_put lines bounds kinds args {buf₀ = buf₀} v h =
    let so = rw (sub-zero (length lines)) at (entering_all v h) in
    let whole = sub-zero (length buf₀ / roster_bytes) in
    (rw whole at so.counted ∙ zero-add _, rw whole at so.written)
