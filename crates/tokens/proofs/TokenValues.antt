-- Every number of every text has the value that the paper gives it; names have one key exactly if they are one name.
use Prim.Native.Nat.{ℕ, zero, suc, ◌+◌, ◌-◌, ◌^◌, ◌<◌}
use mathlib.Core.Path.{◌≡◌, refl, sym, ap, subst, ◌∙◌}
use mathlib.Core.Bool.{Bool, true, false, ◌&&◌, ◌||◌, cond}
use mathlib.Core.List.{List, [], ◌∷◌, ◌++◌, append_assoc, append-nil}
use mathlib.Core.List.Memᴰ
use mathlib.Core.List.{Memᴰ}
use mathlib.Core.Logic.{⊎_elim, ◌↔◌}
use native.Mathlib.Nat.{zero-add, lt_of_lt_of_le, pow-le-pow_right}
use native.Mathlib.Numerals.{add-one}
use native.Mathlib.Omega.{arith}
use borrow.Author.Tests.{le-leb, lt-leb, leb-true, eqb-true, eqb-false}
use lib.Dec.{eqb, leb, ltb, lit<}
use lib.ListN.{length, get_or, take, drop, length-append}
use lib.Seq.{drop-cons, drop-drop, take-append_seam}
use lib.Ieee.{Float}
use Rattle.laws.specs.Runs.{front_run}
use Rattle.laws.proofs.Tests.{bool_cases, cond_ind, and_true}
use Rattle.laws.proofs.Runs.{held, run_run, all_pass}
use Rattle.limits.specs.Limits.{name_bytes, exponent_digits}
use Rattle.faults.specs.declared.Fault.TheVariants.{StrayByte, LongName, Malformed, OutOfRange}
use Rattle.tokens.specs.declared.Token.{Token}
use Rattle.tokens.specs.declared.Token.TheVariants.{Name as Named, Mark, Number, End, Bad}
use Rattle.tokens.specs.declared.Cut.{Cut}
use Rattle.tokens.specs.Bytes.{is_letter, is_digit, is_point, is_mark, is_word, word_at, spaces_at, digits_at}
use Rattle.tokens.specs.Number.{decimal, Digits, plain_digits, point_digits, digits_from}
use Rattle.tokens.specs.Number.{Exponent, exponent, wrong, sign_end, exponent_of, exponent_from}
use Rattle.tokens.specs.Number.{scaled, in_range, ranged_number, number_with}
use Rattle.tokens.specs.Token.{cut_of, bad_at, number_end, number_cut, name_at, token_at, cut_at}
use Rattle.tokens.specs.Symbol.{Symbol, mark, number, name, word, key_of, symbol_named}
use Rattle.tokens.specs.Row.{Placed, Row, onto, ahead, row_from, row_of}
use Rattle.tokens.proofs.Values.{range, whole_exact, ten_exact, scaled_round, scaled_fine}
use Rattle.tokens.proofs.Words.{name_key, symbol_ind}
use Rattle.tokens.proofs.Keys.{key_injective, key_below}
use Rattle.tokens.specs.Values.{InRange, RoundedOnce, PointPart, no_point, point, Sign, no_sign, plus_sign}
use Rattle.tokens.specs.Values.{minus_sign, ExponentPart, no_exponent, raised_by, NumberParts}
use Rattle.tokens.specs.Values.{point_bytes, sign_bytes, exponent_bytes, number_bytes, after_point, FewDigits}
use Rattle.tokens.specs.Values.{exponent_up, exponent_down, IsValue, Apart, NumberAt, Name}

-- ---- numbers

-- the test says the range
in_range_holds : (m up down : ℕ) → in_range m up down ≡ true → InRange m up down
in_range_holds m up down t =
    let r = range m up down t in
    record { digits = r.0; most = r.1; least = r.2 }

-- A VALUE IN RANGE is rounded once, from exact operands, and finite
pub rounded_once : (m up down : ℕ) → in_range m up down ≡ true → RoundedOnce m up down
rounded_once m up down t =
    let r = in_range_holds m up down t in
    let s = scaled_round m up down t in
    record {
      whole_exact = whole_exact m r.digits;
      times_exact = ten_exact (up - down) (omega arith);
      over_exact = ten_exact (down - up) (omega arith);
      times = λ h. rw (le-leb down up h) at s;
      over = λ h. rw (lt-leb down up h) at s;
      bounded = (scaled_fine m up down t).0;
    }

-- ---- what stands in a text: the bytes w, from the place i up to the place j
record Stands (s : List ℕ) (i : ℕ) (w : List ℕ) (j : ℕ) : Type 0 where
  bytes : drop i s ≡ w ++ drop j s
  end : j ≡ i + length w

-- nothing
stands_none : (s : List ℕ) (i : ℕ) → Stands s i [] i
stands_none s i = record { bytes = refl; end = omega arith }

-- one part behind another
stands_both : (s : List ℕ) (i j k : ℕ) (w x : List ℕ) → Stands s i w j → Stands s j x k → Stands s i (w ++ x) k
stands_both s i j k w x a b =
    record {
      bytes = a.bytes ∙ ap (λ r. w ++ r) b.bytes ∙ sym (append_assoc w x (drop k s));
      end = omega (arith, a.end, b.end, length-append w x);
    }

-- one byte other than 0
stands_byte : (s : List ℕ) (i b : ℕ) → eqb 0 b ≡ false → get_or s i 0 ≡ b → Stands s i (b ∷ []) (i + 1)
stands_byte s i b z e =
    record {
      bytes = rw (add-one i) (drop-cons s i 0 (held b s i z e) ∙ ap (λ c. c ∷ drop (suc i) s) e);
      end = refl;
    }

-- a list is its run and what is left
run_left : (p : ℕ → Bool) (xs : List ℕ) → xs ≡ front_run p xs ++ drop (length (front_run p xs)) xs
unfolding front_run
run_left p [] = refl
run_left p (x ∷ xs) =
    cond_ind (λ (r : List ℕ). x ∷ xs ≡ r ++ drop (length r) (x ∷ xs)) (p x) (x ∷ front_run p xs) []
    (λ _. ap (λ r. x ∷ r) (run_left p xs)) (λ _. refl)

-- so a run stands where it begins
stands_run : (p : ℕ → Bool) (s : List ℕ) (i : ℕ)
    → Stands s i (front_run p (drop i s)) (i + length (front_run p (drop i s)))
stands_run p s i =
    let w = front_run p (drop i s) in
    record { bytes = run_left p (drop i s) ∙ ap (λ r. w ++ r) (drop-drop (length w) i s); end = refl }

-- two rows that pass make one
run_both : (p : ℕ → Bool) (xs ys : List ℕ) → front_run p xs ≡ xs → front_run p ys ≡ ys
    → front_run p (xs ++ ys) ≡ xs ++ ys
unfolding front_run
run_both p [] ys e f = f
run_both p (x ∷ xs) ys e f =
    let t = all_pass p x xs e in rw t.0 (ap (λ r. x ∷ r) (run_both p xs ys t.1 f))

-- ---- the parts of a number, as the tokens' definitions read them

-- the digits and their point
record Figures (s : List ℕ) (at : ℕ) (d : Digits) : Type 0 where
  before : List ℕ
  pointed : PointPart
  digits : front_run is_digit (before ++ after_point pointed) ≡ before ++ after_point pointed
  amount : d.amount ≡ decimal 0 (before ++ after_point pointed)
  after : d.after ≡ length (after_point pointed)
  count : d.count ≡ length (before ++ after_point pointed)
  stands : Stands s at (before ++ point_bytes pointed) d.end

-- those from a place on
figures : (s : List ℕ) (at : ℕ) → Figures s at (digits_from s at)
unfolding digits_from
figures s at =
    let w = digits_at s at in
    let p = at + length w in
    let f = digits_at s (p + 1) in
    cond_ind (Figures s at) (is_point (get_or s p 0)) (point_digits w f (p + 1)) (plain_digits w p)
    (λ t.
    record {
      before = w;
      pointed = point f;
      digits = run_both is_digit w f (run_run is_digit (drop at s)) (run_run is_digit (drop (p + 1) s));
      amount = refl;
      after = refl;
      count = sym (length-append w f);
      stands = stands_both s at p (p + 1 + length f) w (46 ∷ f) (stands_run is_digit s at)
          (stands_both s p (p + 1) (p + 1 + length f) (46 ∷ []) f
          (stands_byte s p 46 refl (eqb-true (get_or s p 0) 46 t))
          (stands_run is_digit s (p + 1)));
    })
    (λ _.
    record {
      before = w;
      pointed = no_point;
      digits = rw (append-nil w) (run_run is_digit (drop at s));
      amount = ap (decimal 0) (sym (append-nil w));
      after = refl;
      count = ap length (sym (append-nil w));
      stands = rw (append-nil w) (stands_run is_digit s at);
    })

-- whether a sign is a minus
abbrev negative : Sign → Bool
negative no_sign = false
negative plus_sign = false
negative minus_sign = true

-- the sign of an exponent
record Signs (s : List ℕ) (i : ℕ) : Type 0 where
  sign : Sign
  sign_is : negative sign ≡ eqb (get_or s i 0) 45
  stands : Stands s i (sign_bytes sign) (sign_end s i)

-- the one at a place
signs : (s : List ℕ) (i : ℕ) → Signs s i
signs s i =
    ⊎_elim
    (λ t.
    let e = eqb-true (get_or s i 0) 43 t in
    record { sign = plus_sign; sign_is = rw e refl; stands = rw t (stands_byte s i 43 refl e) })
    (λ (t : eqb (get_or s i 0) 43 ≡ false). ⊎_elim
    (λ (u : eqb (get_or s i 0) 45 ≡ true).
    record {
      sign = minus_sign;
      sign_is = sym u;
      stands = rw (t, u) (stands_byte s i 45 refl (eqb-true (get_or s i 0) 45 u));
    })
    (λ u. record { sign = no_sign; sign_is = sym u; stands = rw (t, u) (stands_none s i) })
    (bool_cases (eqb (get_or s i 0) 45)))
    (bool_cases (eqb (get_or s i 0) 43))

-- the exponent: whether it has a minus, its value and the place behind it
record Raised (s : List ℕ) (i : ℕ) (minus : Bool) (e stop : ℕ) : Type 0 where
  raised : ExponentPart
  few : FewDigits raised
  up : exponent_up raised ≡ cond minus 0 e
  down : exponent_down raised ≡ cond minus e 0
  stands : Stands s i (exponent_bytes raised) stop

-- as the definitions have it, where it is one
abbrev RaisedBy : List ℕ → ℕ → Exponent → Type 0
RaisedBy s i wrong = Unit {0}
RaisedBy s i (exponent minus e stop) = Raised s i minus e stop

-- the value goes by the sign
sign_up : (sign : Sign) (ds : List ℕ) → exponent_up (raised_by sign ds) ≡ cond (negative sign) 0 (decimal 0 ds)
sign_up no_sign ds = refl
sign_up plus_sign ds = refl
sign_up minus_sign ds = refl

sign_down : (sign : Sign) (ds : List ℕ) → exponent_down (raised_by sign ds) ≡ cond (negative sign) (decimal 0 ds) 0
sign_down no_sign ds = refl
sign_down plus_sign ds = refl
sign_down minus_sign ds = refl

-- the exponent from a place on
raises : (s : List ℕ) (i : ℕ) → RaisedBy s i (exponent_from s i)
unfolding exponent_from
raises s i =
    let g = signs s (i + 1) in
    let from = sign_end s (i + 1) in
    let w = digits_at s from in
    let minus = eqb (get_or s (i + 1) 0) 45 in
    cond_ind (RaisedBy s i) (eqb (get_or s i 0) 69) (exponent_of minus w from) (exponent false 0 i)
    (λ t. cond_ind (RaisedBy s i) (leb 1 (length w) && leb (length w) exponent_digits)
    (exponent minus (decimal 0 w) (from + length w)) wrong
    (λ u.
    let few = and_true (leb 1 (length w)) (leb (length w) exponent_digits) u in
    record {
      raised = raised_by g.sign w;
      few =
          (run_run is_digit (drop from s), leb-true 1 (length w) few.0, leb-true (length w) exponent_digits few.1);
      up = sign_up g.sign w ∙ ap (λ b. cond b 0 (decimal 0 w)) g.sign_is;
      down = sign_down g.sign w ∙ ap (λ b. cond b (decimal 0 w) 0) g.sign_is;
      stands = stands_both s i (i + 1) (from + length w) (69 ∷ []) (sign_bytes g.sign ++ w)
          (stands_byte s i 69 refl (eqb-true (get_or s i 0) 69 t))
          (stands_both s (i + 1) from (from + length w) (sign_bytes g.sign) w g.stands
          (stands_run is_digit s from));
    }) (λ _. tt))
    (λ _. record { raised = no_exponent; few = tt; up = refl; down = refl; stands = stands_none s i })

-- ---- the whole number

-- m and k in range give the value
in_range_value : (m up down : ℕ) → in_range m up down ≡ true → IsValue m up down (scaled m up down)
in_range_value m up down t =
    record { range = in_range_holds m up down t; value = refl; rounded = rounded_once m up down t }

-- a number token has its own value
abbrev Valued : List ℕ → ℕ → Token → Type 0
Valued s at (Named p n) = Unit {0}
Valued s at (Mark b) = Unit {0}
Valued s at (Number x) = NumberAt s at x
Valued s at End = Unit {0}
Valued s at (Bad fault) = Unit {0}

-- the parts make a number, whose value it is
numbered : (s : List ℕ) (at : ℕ) (m : Digits) (minus : Bool) (e stop : ℕ) → Figures s at m
    → Raised s m.end minus e stop
    → (m.count ≡ 0 → ⊥)
    → Apart (get_or s stop 0)
    → (x : Float)
    → IsValue m.amount (cond minus 0 e) (cond minus e 0 + m.after) x
    → NumberAt s at x
numbered s at m minus e stop f r some ends x v =
    let n : NumberParts = record { before = f.before; pointed = f.pointed; raised = r.raised } in
    let whole = stands_both s at m.end stop _ _ f.stands r.stands in
    record {
      parts = n;
      number = record { digits = f.digits; some = rw (← f.count) (omega (arith, some)); few = r.few };
      stands = rw whole.bytes (take-append_seam (number_bytes n) (drop stop s));
      ends = rw (← whole.end) ends;
      value = rw (← f.amount, r.up, r.down, ← f.after) v;
    }

module _ (s : List ℕ) (at : ℕ) where
  -- by m and k
  number_valued : (m up down : ℕ) → ((x : Float) → IsValue m up down x → NumberAt s at x)
      → Valued s at (ranged_number m up down)
  unfolding ranged_number
  number_valued m up down f =
      cond_ind (Valued s at) (in_range m up down) (Number (scaled m up down)) (Bad OutOfRange)
      (λ t. f (scaled m up down) (in_range_value m up down t)) (λ _. tt)

  -- by the sign of the exponent
  signed_valued : (m : Digits) (minus : Bool) (e : ℕ)
      → ((x : Float) → IsValue m.amount (cond minus 0 e) (cond minus e 0 + m.after) x → NumberAt s at x)
      → Valued s at (number_with m minus e)
  signed_valued m true e f = number_valued m.amount 0 (e + m.after) f
  signed_valued m false e f = number_valued m.amount e m.after (λ x v. f x (rw (zero-add m.after) v))

-- of a cut
abbrev Good : List ℕ → Cut → Type 0
Good s c = Valued s c.at c.token

-- by what stands behind the digits
end_valued : (s : List ℕ) (at : ℕ) (m : Digits) (e : Exponent) → Figures s at m → RaisedBy s m.end e
    → (m.count ≡ 0 → ⊥)
    → Good s (number_end s at m e)
end_valued s at m wrong f r some = tt
end_valued s at m (exponent minus e stop) f r some =
    cond_ind (Good s) (is_word (get_or s stop 0) || is_point (get_or s stop 0)) (bad_at Malformed at)
    (cut_of (number_with m minus e) at stop) (λ _. tt)
    (λ t. signed_valued s at m minus e (numbered s at m minus e stop f r some t))

-- by the digits
numbers_valued : (s : List ℕ) (at : ℕ) → Good s (number_cut s at)
unfolding number_cut
numbers_valued s at =
    let m = digits_from s at in
    cond_ind (Good s) (eqb m.count 0) (bad_at Malformed at) (number_end s at m (exponent_from s m.end)) (λ _. tt)
    (λ t. end_valued s at m (exponent_from s m.end) (figures s at) (raises s m.end) (eqb-false m.count 0 t))

-- a name is no number
names_valued : (s : List ℕ) (at : ℕ) → Good s (name_at s at)
unfolding name_at
names_valued s at =
    let n = length (word_at s at) in
    cond_ind (Good s) (ltb name_bytes n) (bad_at LongName at) (cut_of (Named at n) at (at + n)) (λ _. tt) (λ _. tt)

-- by the first byte
cut_valued : (s : List ℕ) (from : ℕ) → Good s (cut_at s from)
unfolding cut_at token_at
cut_valued s from =
    let at = from + length (spaces_at s from) in
    let b = get_or s at 0 in
    cond_ind (Good s) (leb (length s) at) (cut_of End at at) _ (λ _. tt)
    (λ _. cond_ind (Good s) (is_letter b) (name_at s at) _ (λ _. names_valued s at)
    (λ _. cond_ind (Good s) (is_digit b || is_point b) (number_cut s at) _ (λ _. numbers_valued s at)
    (λ _. cond_ind (Good s) (is_mark b) (cut_of (Mark b) at (at + 1)) (bad_at StrayByte at) (λ _. tt) (λ _. tt))))

module _ (s : List ℕ) where
  -- of what the grammar sees
  abbrev Worth : ℕ → Symbol → Type 0
  Worth at (mark b) = Unit {0}
  Worth at (number x) = NumberAt s at x
  Worth at (name k) = Unit {0}
  Worth at (word w) = Unit {0}

  -- all tokens of a row
  abbrev AllWorth : List Placed → Type 0
  AllWorth ps = (q : Placed) → Memᴰ q ps → Worth q.at q.symbol

  -- one more in front
  onto_worth : (t : Symbol) (at : ℕ) (r : Row) → Worth at t → AllWorth r.tokens → AllWorth (onto t at r).tokens
  onto_worth t at r h f q m =
      ⊎_elim (λ e. subst (λ (x : Placed). Worth x.at x.symbol) (sym e) h) (f q) (Memᴰ.cases_cons m)

  -- the token of a cut in front; a name is no number
  ahead_worth : (t : Token) (at : ℕ) (r : Row) → Valued s at t → AllWorth r.tokens
      → AllWorth (ahead s t at r).tokens
  ahead_worth (Named p n) at r v f =
      let part = take n (drop p s) in
      onto_worth (symbol_named part) at r (symbol_ind part (Worth at) (λ _. tt) tt) f
  ahead_worth (Mark b) at r v f = onto_worth (mark b) at r tt f
  ahead_worth (Number x) at r v f = onto_worth (number x) at r v f
  ahead_worth End at r v f = λ q m. absurd (Memᴰ.not-nil m)
  ahead_worth (Bad fault) at r v f = λ q m. absurd (Memᴰ.not-nil m)

  -- from any place on
  from_worth : (f i : ℕ) → AllWorth (row_from f s i).tokens
  unfolding row_from
  from_worth zero i = λ q m. absurd (Memᴰ.not-nil m)
  from_worth (suc f) i =
      let c = cut_at s i in
      ahead_worth c.token c.at (row_from f s c.next) (cut_valued s i) (from_worth f c.next)

-- EVERY NUMBER of every row of tokens stands in the text at its place, and has the value that its own bytes give it
pub row_values : (s : List ℕ) (at : ℕ) (x : Float)
    → Memᴰ (record { symbol = number x; at = at }) (row_of s).tokens
    → NumberAt s at x
unfolding row_of
row_values s at x m = from_worth s (suc (length s)) 0 (record { symbol = number x; at = at }) m

-- ---- names

-- TWO NAMES of at most six characters have the same key exactly if they are the same name
pub key_iff : (x y : List ℕ) → Name x → Name y → (key_of x ≡ key_of y) ↔ (x ≡ y)
key_iff x y a b = (key_injective x y a.spelled b.spelled, ap key_of)

-- so have name tokens, which are no reserved words
pub name_iff : (x y : List ℕ) (j k : ℕ) → Name x → Name y → symbol_named x ≡ name j → symbol_named y ≡ name k
    → (j ≡ k) ↔ (x ≡ y)
name_iff x y j k a b p q =
    let e = name_key x j p in
    let f = name_key y k q in
    (λ h. (key_iff x y a b).0 (cc), λ h. let g = ap key_of h in cc)

-- and a key has at most six bytes
pub key_small : (x : List ℕ) → Name x → key_of x < 256 ^ name_bytes
key_small x a = lt_of_lt_of_le (key_below x a.spelled) (pow-le-pow_right (lit< tt) a.few)
