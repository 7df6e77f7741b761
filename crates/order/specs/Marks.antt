-- What a desk keeps while statements are placed: a mark for each that is placed, a cursor for each past what it uses
-- that is placed, a flag for each that is ready; any other waits for one that it uses, in a list of those that do.
use Rattle.std.specs.Prelude.{◌≡◌, Bool, true, false, not, cond, ◌&&◌, ◌||◌, List, [], ◌∷◌, ℕ, ◌+◌, ◌≤◌, ◌<◌, eqb, ltb}
use Rattle.std.specs.Prelude.{length, get_or, set, replicate, Option, Some, None}
use Rattle.limits.specs.Limits.{most_statements}
use Rattle.laws.specs.Counts.{once, count, ◌∈◌}
use Rattle.order.specs.declared.Desk.{Desk}
use Rattle.order.specs.declared.table.Table.{Table}
use Rattle.order.specs.Greedy.{all}
use Rattle.order.specs.Table.{uses_by_table}

-- a place, if it stands before an end
abbrev pub below_end : ℕ → ℕ → Option ℕ
below_end end k = cond (ltb k end) (Some k) None

-- j is placed: it has its mark
abbrev pub placed_in : List Bool → ℕ → Bool
placed_in marks j = get_or marks j false

-- none of n is
abbrev pub NonePlaced : ℕ → List Bool → Type 0
NonePlaced n marks = (j : ℕ) → j < n → placed_in marks j ≡ false

-- the statement used at place p is not placed
abbrev pub open_at : List ℕ → List Bool → ℕ → Bool
open_at used marks p = not (placed_in marks (get_or used p 0))

-- all that i uses is placed
abbrev pub free_in : ℕ → List ℕ → List ℕ → List Bool → ℕ → Bool
free_in n starts used marks i = all n (λ j. not (uses_by_table starts used i j) || placed_in marks j)

-- i is not placed, and all that it uses is
unfoldable pub ready_in : ℕ → List ℕ → List ℕ → List Bool → ℕ → Bool
ready_in n starts used marks i = not (placed_in marks i) && free_in n starts used marks i

-- of what i uses the first are placed, as many as its cursor says; there is a mark and a cursor for each of n
pub record Cursors (n : ℕ) (starts used : List ℕ) (marks : List Bool) (cursors : List ℕ) : Type 0 where
  pub marks_size : n ≤ length marks
  pub size : n ≤ length cursors
  pub pass : (i d : ℕ) → i < n → d < get_or cursors i 0 → open_at used marks (get_or starts i 0 + d) ≡ false

-- ---- who waits for whom

-- no statement
abbrev pub none : ℕ
none = most_statements

-- links lead from x through these statements, one after the other, to the end
unfoldable pub Leads : List ℕ → ℕ → List ℕ → Type 0
Leads links x [] = x ≡ none
Leads links x (y ∷ ys) = (x ≡ y) × Leads links (get_or links y 0) ys

-- there is a place for each of n: for the first of its list, for the next behind it, for what it waits for
pub record Room (n : ℕ) (heads links waits : List ℕ) : Type 0 where
  pub heads_size : n ≤ length heads
  pub links_size : n ≤ length links
  pub waits_size : n ≤ length waits

-- who waits for q stands once in the list of q, and nobody else does; the list of p is gone through, and goes on at x
pub record Queues (n : ℕ) (heads links waits : List ℕ) (p x : ℕ) : Type 0 where
  pub room : Room n heads links waits
  pub queue : ℕ → List ℕ
  pub own : p < n → Leads links x (queue p)
  pub shut : p < n → get_or heads p 0 ≡ none
  pub others : (q : ℕ) → q < n → (q ≡ p → ⊥) → Leads links (get_or heads q 0) (queue q)
  pub stands : (i q : ℕ) → i < n → q < n → count i (queue q) ≡ once (eqb (get_or waits i 0) q)
  pub only : (i q : ℕ) → q < n → i ∈ queue q → i < n

-- i is put to the front of the list of those that wait for j
abbrev pub hang : {N : ℕ} → Desk N → ℕ → ℕ → Desk N
hang d i j =
    record d {
      heads = set d.heads j i;
      links = set d.links i (get_or d.heads j 0);
      waits = set d.waits i j;
    }

-- ---- who is ready

-- the flag of i is set
abbrev pub flag : List Bool → ℕ → Bool
flag flags i = get_or flags i false

-- of the statements before k: who is flagged is ready, and waits for none; nor does one that is placed; any other waits
-- for one that it uses and that is not placed, unless that is p; there is a flag for each of n
pub record Flags (n k : ℕ) (starts used : List ℕ) (marks flags : List Bool) (waits : List ℕ) (p : ℕ) : Type 0 where
  pub flags_size : n ≤ length flags
  pub flagged : (i : ℕ) → i < k → flag flags i ≡ true
      → (ready_in n starts used marks i ≡ true) × (get_or waits i 0 ≡ none)
  pub placed : (i : ℕ) → i < k → placed_in marks i ≡ true → get_or waits i 0 ≡ none
  pub blocked : (i : ℕ) → i < k → placed_in marks i ≡ false → flag flags i ≡ false
      → (get_or waits i 0 < n) × (uses_by_table starts used i (get_or waits i 0) ≡ true)
      × ((get_or waits i 0 ≡ p → ⊥) → placed_in marks (get_or waits i 0) ≡ false)

-- all that is known between two steps
pub record Between {N : ℕ} (t : Table) (k : ℕ) (d : Desk N) (p x : ℕ) : Type 0 where
  pub moved : Cursors t.n t.starts.now t.used.now d.marks d.cursors
  pub lists : Queues t.n d.heads d.links d.waits p x
  pub known : Flags t.n k t.starts.now t.used.now d.marks d.ready d.waits p

-- ---- one is settled

-- what `settle` needs of i: it is one of the n, and not placed; there is a place for each of them
pub record MaySettle {N : ℕ} (t : Table) (i : ℕ) (d : Desk N) : Type 0 where
  pub one : i < t.n
  pub unplaced : placed_in d.marks i ≡ false
  pub moved : Cursors t.n t.starts.now t.used.now d.marks d.cursors
  pub room : Room t.n d.heads d.links d.waits

-- what it gives: whether i is ready; if not, i waits for one that it uses and that is not placed, at the front of its
-- list
pub record Settles {N : ℕ} (t : Table) (i : ℕ) (r : Bool) (d d' : Desk N) : Type 0 where
  pub moved : Cursors t.n t.starts.now t.used.now d.marks d'.cursors
  pub flag_is : r ≡ ready_in t.n t.starts.now t.used.now d.marks i
  pub kept : r ≡ true → d' ≡ d
  pub hung : r ≡ false → (j : ℕ) × (j < t.n) × (uses_by_table t.starts.now t.used.now i j ≡ true)
      × (placed_in d.marks j ≡ false) × (d' ≡ hang (record d { cursors = d'.cursors }) i j)

-- ---- at first

-- a desk with room for N statements: none is placed or flagged, none waits, no cursor has moved and every list is empty
abbrev pub empty_desk : (N : ℕ) → Desk N
empty_desk N =
    record {
      marks = replicate N false;
      ready = replicate N false;
      cursors = replicate N 0;
      heads = replicate N none;
      links = replicate N 0;
      waits = replicate N none;
    }

-- the statements before k are settled while none is placed; any other has no flag, and waits for none
pub record Begun {N : ℕ} (t : Table) (k : ℕ) (d : Desk N) : Type 0 where
  pub state : Between t k d none none
  pub unplaced : NonePlaced t.n d.marks
  pub unflagged : (i : ℕ) → k ≤ i → i < t.n → flag d.ready i ≡ false
  pub idle : (i : ℕ) → k ≤ i → i < t.n → get_or d.waits i 0 ≡ none

-- ---- one is placed

-- j is placed, and those that wait for it still do; no flag is set before it
pub record Woken {N : ℕ} (t : Table) (j : ℕ) (d : Desk N) : Type 0 where
  pub one : j < t.n
  pub mark : placed_in d.marks j ≡ true
  pub moved : Cursors t.n t.starts.now t.used.now d.marks d.cursors
  pub lists : Queues t.n d.heads d.links d.waits none none
  pub known : Flags t.n t.n t.starts.now t.used.now d.marks d.ready d.waits j
  pub clear : (i : ℕ) → i < j → flag d.ready i ≡ false

-- nobody does; no flag is set before r; the marks are as they were
pub record Awake {N : ℕ} (t : Table) (j : ℕ) (marks : List Bool) (d : Desk N) (r : ℕ) : Type 0 where
  pub same : d.marks ≡ marks
  pub state : Between t t.n d none none
  pub early : r ≤ j
  pub clear : (i : ℕ) → i < r → flag d.ready i ≡ false
