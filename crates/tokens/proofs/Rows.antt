-- The row of a text: as many cuts as there are bytes are enough, and there are no more tokens than bytes.
use Prim.Native.Nat.{ℕ, zero, suc, zero-le, ◌+◌, ◌-◌, ◌≤◌, ◌<◌}
use mathlib.Core.Path.{◌≡◌, refl, sym, ap, subst}
use mathlib.Core.Bool.{true, false}
use mathlib.Core.List.Memᴰ
use mathlib.Core.List.{List, [], ◌∷◌, Memᴰ}
use mathlib.Core.Logic.{⊎_elim}
use native.Mathlib.Omega.{arith}
use borrow.Author.Tests.{ne_eqb, lt-leb}
use lib.Dec.{T}
use lib.ListN.{length, take, drop}
use lib.Ieee.{binary64, fits}
use lib.Ieee.Scale.{finite}
use Rattle.laws.proofs.Tests.{not_both, lt_or_ge}
use Rattle.tokens.specs.declared.Token.{Token}
use Rattle.tokens.specs.declared.Token.TheVariants.{Name, Mark, Number, End, Bad}
use Rattle.tokens.specs.Bytes.{is_mark}
use Rattle.tokens.specs.Token.{cut_at}
use Rattle.tokens.specs.Symbol.{Symbol, mark, number, name, word, symbol_named}
use Rattle.tokens.specs.Row.{Placed, all_good, Row, bare, onto, ahead, row_from, row_of, symbols}
use Rattle.tokens.proofs.Sound.{Inside, Sound, cut_sound, cut_end}
use Rattle.tokens.proofs.Words.{symbol_ind}

-- ---- how many cuts are made does not matter

-- what follows a good token decides the row that it begins
ahead_same : (s : List ℕ) (lo : ℕ) (t : Token) (at next : ℕ) (r r' : Row) → Sound s lo t next
    → (Inside s lo next → r ≡ r')
    → ahead s t at r ≡ ahead s t at r'
ahead_same s lo (Name p n) at next r r' x f = ap (onto (symbol_named (take n (drop p s))) at) (f x.0)
ahead_same s lo (Mark b) at next r r' x f = ap (onto (mark b) at) (f x.0)
ahead_same s lo (Number v) at next r r' x f = ap (onto (number v) at) (f x.0)
ahead_same s lo End at next r r' x f = refl
ahead_same s lo (Bad fault) at next r r' x f = refl

-- from the end on there is no token
no_more : (f : ℕ) (s : List ℕ) (i : ℕ) → length s ≤ i → row_from f s i ≡ bare all_good
unfolding row_from
no_more zero s i h = refl
no_more (suc f) s i h =
    let c = cut_at s i in ap (λ (t : Token). ahead s t c.at (row_from f s c.next)) (cut_end s i h)

-- any two counts of cuts that reach the end give one row
enough : (f g : ℕ) (s : List ℕ) (i : ℕ) → length s ≤ i + f → length s ≤ i + g → row_from f s i ≡ row_from g s i
unfolding row_from
enough zero g s i h k = sym (no_more g s i (omega arith))
enough (suc f) zero s i h k = no_more (suc f) s i (omega arith)
enough (suc f) (suc g) s i h k =
    let c = cut_at s i in
    ahead_same s i c.token c.at c.next (row_from f s c.next) (row_from g s c.next) (cut_sound s i)
    (λ x. enough f g s c.next (omega arith) (omega arith))

-- the row from a place on
abbrev pub rest : List ℕ → ℕ → Row
rest s i = row_from (suc (length s)) s i

-- it is the cut there before the row behind it
pub rest_next : (s : List ℕ) (i : ℕ) → rest s i ≡ ahead s (cut_at s i).token (cut_at s i).at (rest s (cut_at s i).next)
unfolding row_from
rest_next s i =
    let c = cut_at s i in
    ahead_same s i c.token c.at c.next (row_from (length s) s c.next) (rest s c.next) (cut_sound s i)
    (λ x. enough (length s) (suc (length s)) s c.next (omega arith) (omega arith))

-- ---- how many tokens there are

-- what holds of the tokens behind a good one holds with it
ahead_short : (s : List ℕ) (lo : ℕ) (t : Token) (at next : ℕ) (r : Row) → Sound s lo t next
    → (Inside s lo next → length r.tokens ≤ length s - next)
    → length (ahead s t at r).tokens ≤ length s - lo
ahead_short s lo (Name p n) at next r x f = omega (arith, f x.0, x.0)
ahead_short s lo (Mark b) at next r x f = omega (arith, f x.0, x.0)
ahead_short s lo (Number v) at next r x f = omega (arith, f x.0, x.0)
ahead_short s lo End at next r x f = zero-le
ahead_short s lo (Bad fault) at next r x f = zero-le

-- each token takes a byte or more
from_short : (f : ℕ) (s : List ℕ) (i : ℕ) → length (row_from f s i).tokens ≤ length s - i
unfolding row_from
from_short zero s i = zero-le
from_short (suc f) s i =
    let c = cut_at s i in
    ahead_short s i c.token c.at c.next (row_from f s c.next) (cut_sound s i) (λ _. from_short f s c.next)

-- a row has no more tokens than the text has bytes
pub row_short : (s : List ℕ) → length (row_of s).tokens ≤ length s
unfolding row_of
row_short s = omega (arith, from_short (suc (length s)) s 0)

-- ---- what its tokens are

-- a mark's byte is one of the marks; a number is finite and an f64
abbrev pub Fine : Symbol → Type 0
Fine (mark b) = is_mark b ≡ true
Fine (number x) = T (finite x) × T (fits binary64 x)
Fine (name k) = Unit {0}
Fine (word w) = Unit {0}

-- what holds of the first and of the others holds of each
either : (t : Symbol) (at : ℕ) (r : Row) → Fine t → ((q : Placed) → Memᴰ q r.tokens → Fine q.symbol)
    → (q : Placed) → Memᴰ q (onto t at r).tokens → Fine q.symbol
either t at r h f q m = ⊎_elim (λ e. subst (λ (x : Placed). Fine x.symbol) (sym e) h) (f q) (Memᴰ.cases_cons m)

-- so all tokens of a row are fine where those behind its first are
ahead_fine : (s : List ℕ) (lo : ℕ) (t : Token) (at next : ℕ) (r : Row) → Sound s lo t next
    → ((q : Placed) → Memᴰ q r.tokens → Fine q.symbol) → (q : Placed) → Memᴰ q (ahead s t at r).tokens
    → Fine q.symbol
ahead_fine s lo (Name p n) at next r x f =
    let part = take n (drop p s) in either (symbol_named part) at r (symbol_ind part Fine (λ _. tt) tt) f
ahead_fine s lo (Mark b) at next r x f = either (mark b) at r x.1 f
ahead_fine s lo (Number v) at next r x f = either (number v) at r (x.1, x.2) f
ahead_fine s lo End at next r x f = λ q m. absurd (Memᴰ.not-nil m)
ahead_fine s lo (Bad fault) at next r x f = λ q m. absurd (Memᴰ.not-nil m)

-- from any place on
from_fine : (f : ℕ) (s : List ℕ) (i : ℕ) (q : Placed) → Memᴰ q (row_from f s i).tokens → Fine q.symbol
unfolding row_from
from_fine zero s i q m = absurd (Memᴰ.not-nil m)
from_fine (suc f) s i q m =
    let c = cut_at s i in
    ahead_fine s i c.token c.at c.next (row_from f s c.next) (cut_sound s i)
    (λ p n. from_fine f s c.next p n) q m

-- every token of a row is fine: so every number of it fits an f64
row_fine : (s : List ℕ) (q : Placed) → Memᴰ q (row_of s).tokens → Fine q.symbol
unfolding row_of
row_fine s q m = from_fine (suc (length s)) s 0 q m

-- what holds of each token holds of each symbol
mapped : (ps : List Placed) → ((q : Placed) → Memᴰ q ps → Fine q.symbol) → (t : Symbol)
    → Memᴰ t (symbols ps) → Fine t
mapped [] f t m = absurd (Memᴰ.not-nil m)
mapped (p ∷ ps) f t m =
    ⊎_elim (λ e. subst Fine (sym e) (f p (Memᴰ.head refl))) (mapped ps (λ q n. f q (Memᴰ.tail n)) t)
    (Memᴰ.cases_cons m)

-- the same of what the grammar sees
pub symbols_fine : (s : List ℕ) (t : Symbol) → Memᴰ t (symbols (row_of s).tokens) → Fine t
symbols_fine s t m = mapped (row_of s).tokens (row_fine s) t m

-- a mark's byte is above the other kinds
pub mark_above : (b : ℕ) → Fine (mark b) → 40 ≤ b
mark_above b t = ⊎_elim (λ l. absurd (not_both t (low l))) (λ h. h) (lt_or_ge b 40)
  where
    low : b < 40 → is_mark b ≡ false
    low l = rw (ne_eqb b 47 (λ e. omega arith), ne_eqb b 61 (λ e. omega arith), lt-leb 40 b l)
