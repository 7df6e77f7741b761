-- What is written is in reach: the places behind it are numbers of the machine.
use Prim.Native.Nat.{ℕ, zero, suc, ◌+◌, ◌-◌, ◌*◌, ◌^◌, ◌≤◌, ◌<◌}
use mathlib.Core.Path.{ap}
use mathlib.Core.List.{List, [], ◌∷◌, ◌++◌}
use native.Mathlib.Nat.{sub-zero, suc-mul, pow-suc}
use native.Mathlib.Omega.{arith}
use lib.Dec.{lit<}
use lib.ListN.{length, get_or, take, drop, length-append}
use lib.Seq.{get_or-drop}
use Rattle.limits.specs.Limits.{most_records, fault_bytes}
use Rattle.laws.specs.Places.{gather}
use Rattle.laws.specs.Put.{Put}
use Rattle.laws.proofs.Gathers.{Writes, gather_step}
use Rattle.bits.specs.Low.{low_word}
use Rattle.records.specs.Record.{field}
use Rattle.listing_text.specs.Listing.{figures, line, line2, line4}
use Rattle.listing_text.specs.Written.{fault_at, ordered_at, head, InReach}
use Rattle.listing_text.proofs.Figures.{few_figures}

-- ---- what follows what

-- both parts in reach: so is the first
pub reach_first : (x y : List ℕ) (at : ℕ) → InReach (x ++ y) at → InReach x at
reach_first x y at h = omega (arith, length-append x y)

-- .. and behind it the second
pub reach_second : {x : List ℕ} {at r : ℕ} {old new : List ℕ} → Put x at r old new → (y : List ℕ) → InReach (x ++ y) at
    → InReach y r
reach_second {x} p y h = omega (arith, p.behind, length-append x y)

-- what all places give in reach: so is each in its turn
pub reach_turn : {f : ℕ → List ℕ} {n i at w : ℕ} {old new : List ℕ} → Writes f n 0 i at w old new → i < n
    → InReach (gather f n 0) at → InReach (f i) w
reach_turn {f} {n} {i} v h k =
    omega (
      arith,
      v.left,
      ap length (gather_step f n i h),
      length-append (f i) (gather f (n - (i + 1)) (i + 1)),
      ap (λ (m : ℕ). length (gather f m 0)) (sub-zero n),
    )

-- ---- a listing is short

-- each is a byte
abbrev pub Bytes : List ℕ → Type 0
Bytes l = (i : ℕ) → get_or l i 0 < 256

-- each is a number of two bytes
abbrev pub Shorts : List ℕ → Type 0
Shorts l = (i : ℕ) → get_or l i 0 < 65536

-- the number of n bytes
word_small : (n : ℕ) (l : List ℕ) → Bytes l → low_word (take n l) < 256 ^ n
unfolding low_word
word_small zero l b = lit< tt
word_small (suc n) [] b = rw (pow-suc 256 n) (omega (arith, word_small n [] b))
word_small (suc n) (x ∷ l) b = rw (pow-suc 256 n) (omega (arith, b 0, word_small n l (λ i. b (suc i))))

-- a field of n bytes
field_small : (p : List ℕ) (o n : ℕ) → Bytes p → field p o n < 256 ^ n
field_small p o n b = word_small n (drop o p) (λ i. rw (get_or-drop o p i 0) (b (o + i)))

-- a line of one number
line_short : (n : ℕ) → length (line n) ≤ n + 2
line_short n = omega (arith, few_figures n, length-append (figures n) (10 ∷ []))

-- a line of two
pair_short : (m n : ℕ) → length (line2 m n) ≤ m + n + 4
pair_short m n = omega (arith, few_figures m, line_short n, length-append (figures m) (32 ∷ line n))

-- a line of four
four_short : (k l m n : ℕ) → length (line4 k l m n) ≤ k + l + m + n + 8
four_short k l m n =
    let rest = figures l ++ (32 ∷ line2 m n) in
    omega (
      arith,
      few_figures k,
      few_figures l,
      pair_short m n,
      length-append (figures k) (32 ∷ rest),
      length-append (figures l) (32 ∷ line2 m n),
    )

-- a row of short parts
gather_within : (f : ℕ → List ℕ) (m : ℕ) → ((i : ℕ) → length (f i) ≤ m) → (k i : ℕ) → length (gather f k i) ≤ k * m
unfolding gather
gather_within f m h zero i = omega arith
gather_within f m h (suc k) i =
    rw (suc-mul k m) (omega (arith, h i, gather_within f m h k (suc i), length-append (f i) (gather f k (suc i))))

-- the line of a unit
pub unit_short : (o : List ℕ) → Shorts o → (i : ℕ) → length (ordered_at o i) ≤ 196871
unit_short o s i = omega (arith, line_short (get_or o i 0), s i)

-- and of a fault
pub fault_short : (l : List ℕ) → Bytes l → (i : ℕ) → length (fault_at l i) ≤ 196871
fault_short l b i =
    let at = i * fault_bytes in
    omega (
      arith,
      field_small l at 2 b,
      field_small l (at + 2) 1 b,
      field_small l (at + 4) 2 b,
      field_small l (at + 6) 2 b,
      four_short (field l at 2) (field l (at + 2) 1) (field l (at + 4) 2) (field l (at + 6) 2),
    )

-- REACH: the first line, with no more than the most records, and as many lines behind it
pub listing_reach : (f : ℕ → List ℕ) → ((i : ℕ) → length (f i) ≤ 196871) → (a b n count : ℕ) → n ≤ most_records
    → count ≤ most_records
    → InReach (head a b n ++ gather f count 0) 0
listing_reach f short a b n count h few =
    let g = gather_within f 196871 short count 0 in
    omega (arith, line_short n, length-append (head a b n) (gather f count 0))
