-- A signed number and an initial, read at a place: what the code finds there, and what is known where it finds it.
use Prim.Native.Nat.{ℕ, ◌+◌, ◌-◌, ◌≤◌, ◌<◌}
use Rattle.std.specs.Prelude.{Ok, Err}
use mathlib.Core.Path.{◌≡◌, refl, sym, ap, ◌∙◌}
use mathlib.Core.Bool.{Bool, true, false, cond}
use mathlib.Core.List.{List, []}
use native.Mathlib.Nat.{add-zero}
use native.Mathlib.Omega.{arith}
use borrow.Author.Tests.{ne_eqb}
use lib.Dec.{eqb}
use lib.Ieee.{Float, binary64, to_bits, of_bits}
use lib.ListN.{length, get_or, drop, length-drop, length-append}
use Rattle.tokens.specs.Symbol.{Symbol, mark}
use Rattle.tokens.specs.Kinds.{number_kind, name_kind}
use Rattle.tokens.specs.Held.{held_row}
use Rattle.tokens.proofs.Holding.{held_length}
use Rattle.drafts.specs.Tree.{plus, Initial, plain, from}
use Rattle.drafts.specs.Kinds.{kind_number, kind_from}
use Rattle.drafts.specs.Drafts.{Draft, draft, initial_draft}
use Rattle.grammar.specs.Look.{next, rest, byte_of, Op, none, op, add_op, start_of, Start, Constants, Integral}
use Rattle.grammar.specs.Look.{Named, Valued, Header, Ending, Other}
use Rattle.grammar.specs.Grammar.{Signed, unsigned_number, signed_number, Initially, of_number, of_name}
use Rattle.grammar.specs.Parser.{End, got, bad, Res, give, stop, bind, onward, by_name, by_number, behind_sign}
use Rattle.grammar.specs.Parser.{signed_value, a_number, by_signed_number, initially}
use Rattle.grammar.specs.Codes.{skip_of}
use Rattle.grammar.specs.declared.Misread.{Misread}
use Rattle.grammar.specs.Contract.{Ended, Needs, EndedValue, Found, Missing, ended_value_in}
use Rattle.grammar.specs.Contract.{Within, parse_outcome, wrote, part_stopped, part_wrote, Meets, value_read}
use Rattle.grammar.specs.Contract.{number_at, initial_at}
use Rattle.grammar.proofs.Endings.{clash, Asked, Before, Out, OutEnd}
use Rattle.grammar.proofs.StatementsSound.{signed_out, initially_out}
use Rattle.grammar.proofs.Clauses.{rest_at, left_at}
use Rattle.grammar.proofs.Seen.{token_at_holds, stands, is_name, no_name, is_number, no_number}
use Rattle.grammar.proofs.Meets.{place_is, bind_wrote}
use Rattle.grammar.proofs.Ways.{behind_at, sign_at, skip_within}

-- ---- what is found

-- only a minus negates
pub plain_value : (k : ℕ) (x : Float) → (k ≡ 45 → ⊥) → signed_value (add_op (mark k)) x ≡ x
unfolding byte_of
plain_value k x n = rw (ne_eqb k 45 n) (go (eqb k 43))
  where
    go : (t : Bool) → signed_value (cond t (op plus) none) x ≡ x
    go true = refl
    go false = refl

module _ {ks us : List ℕ} {i k s : ℕ} (w : Within ks us i) (ek : k ≡ get_or ks i 0)
    (es : s ≡ skip_of (add_op (mark k))) where
  -- the number behind the sign
  behind : by_signed_number (drop i (held_row ks us)) ≡ a_number (add_op (mark k)) (drop (i + s) (held_row ks us))
  unfolding by_signed_number
  behind = rw (sign_at ks us i k w.even ek, es, ← behind_at (held_row ks us) i (add_op (mark k)))

  pub number_within : i + s ≤ length ks
  number_within = skip_within ks i k s w.within ek es

  -- none: it is missing there
  pub number_missing : {m : Misread} → Needs ks (i + s) number_kind (Err m) → ended_value_in (Err m) ≡ number_at ks us i
  number_missing n =
      rw (
        n.1,
        behind,
        token_at_holds ks us (i + s) w.even,
        no_number {A = Float} (get_or ks (i + s) 0) (get_or us (i + s) 0) _ _ n.0,
      )
      (ap (Missing 18) (sym (place_is ks us (i + s) w.even number_within)))

  -- one: its bits
  module _ {j : ℕ} (n : Needs ks (i + s) number_kind (Ok j)) where
    pub number_inside : i + s < length ks
    number_inside = stands ks (i + s) λ z. let y = n.0 in omega arith

    pub number_there : {b : ℕ} {x y : Float} → x ≡ of_bits binary64 (get_or us (i + s) 0)
        → y ≡ signed_value (add_op (mark k)) x
        → b ≡ to_bits binary64 y → Found kind_number b j ≡ number_at ks us i
    number_there ex ey eb =
        let row = held_row ks us in
        let a = number_inside in
        let p = place_is ks us (i + s + 1) w.even (omega arith) in
        rw (
          n.1,
          behind,
          token_at_holds ks us (i + s) w.even,
          is_number {A = Float} (get_or ks (i + s) 0) (get_or us (i + s) 0) _ _ n.0,
          rest_at row (i + s),
          p,
          eb,
          ey,
          ex,
        )

module _ {ks us : List ℕ} {i m : ℕ} (w : Within ks us i) (em : m ≡ get_or ks i 0) where
  -- an initial that is a name
  pub name_inside : m ≡ name_kind → i < length ks
  name_inside e = stands ks i λ z. let y : m ≡ 0 = em ∙ z in omega arith

  pub initial_name : m ≡ name_kind → Found kind_from (get_or us i 0) (i + 1) ≡ initial_at ks us i
  unfolding initially
  initial_name e =
      let a = name_inside e in
      let n = place_is ks us (i + 1) w.even (omega arith) in
      rw (
        token_at_holds ks us i w.even,
        is_name {A = Initial} (get_or ks i 0) (get_or us i 0) _ _ (sym em ∙ e),
        rest_at (held_row ks us) i,
        n,
      )

  -- or a number
  pub initial_number : {r : EndedValue} → (m ≡ name_kind → ⊥) → r ≡ number_at ks us i → r ≡ initial_at ks us i
  unfolding initially bind
  initial_number n h =
      rw (token_at_holds ks us i w.even, no_name {A = Initial} (get_or ks i 0) (get_or us i 0) _ _ (λ z. n (em ∙ z)))
      (h ∙ go (by_signed_number (drop i (held_row ks us))).out (by_signed_number (drop i (held_row ks us))).end)
    where
      go : (o : List Draft) (t : End Float) → value_read (λ x. draft kind_number (to_bits binary64 x)) (length ks) t
          ≡ value_read initial_draft (length ks) (onward o t (λ x t. give (plain x) t)).end
      go o (got x t) = refl
      go o (bad c t) = refl

-- ---- what is known where a value is found, or missing

-- nothing is written
record Quiet {A : Type 0} (x : Res A) : Type 0 where
  silent : x.out ≡ []

quiet_signed : (s : List Symbol) → Quiet (by_signed_number s)
unfolding by_signed_number
quiet_signed s =
    go (add_op (next s)) (behind_sign (add_op (next s)) s) (start_of (next (behind_sign (add_op (next s)) s)))
  where
    go : (o : Op) (s : List Symbol) (p : Start)
        → Quiet (by_number p (λ x. give (signed_value o x) (rest s)) (λ _. stop 18 s))
    go o s Constants = record { silent = refl }
    go o s Integral = record { silent = refl }
    go o s (Named k) = record { silent = refl }
    go o s (Valued x) = record { silent = refl }
    go o s Header = record { silent = refl }
    go o s Ending = record { silent = refl }
    go o s Other = record { silent = refl }

quiet_plain : (x : Res Float) → Quiet x → Quiet (bind x λ v t. give (plain v) t)
unfolding bind
quiet_plain x q = go x.out x.end q.silent
  where
    go : (o : List Draft) (t : End Float) → o ≡ [] → Quiet (onward o t λ v t. give (plain v) t)
    go o (got e t) s = record { silent = rw s }
    go o (bad c t) s = record { silent = s }

quiet_initially : (s : List Symbol) → Quiet (initially s)
unfolding initially
quiet_initially s = go (start_of (next s))
  where
    given : Quiet (bind (by_signed_number s) λ v t. give (plain v) t)
    given = quiet_plain (by_signed_number s) (quiet_signed s)

    go : (p : Start)
        → Quiet (by_name p (λ k. give (from k) (rest s)) (λ _. bind (by_signed_number s) λ v t. give (plain v) t))
    go Constants = given
    go Integral = given
    go (Named k) = record { silent = refl }
    go (Valued x) = given
    go Header = given
    go Ending = given
    go Other = given

-- a value, with its draft and the place behind it
pub record ValuedAt {A : Type 0} (f : A → Draft) (x : List Symbol → Res A) (ks us : List ℕ)
    (i k a j : ℕ) : Type 0 where
  pub what : A
  pub ends : (x (drop i (held_row ks us))).end ≡ got what (drop j (held_row ks us))
  pub silent : (x (drop i (held_row ks us))).out ≡ []
  pub kind : k ≡ (f what).kind
  pub arg : a ≡ (f what).arg
  pub on : i < j
  pub inside : j ≤ length ks

-- at least one token is read
signed_size : {w : List Symbol} {x : Float} → Signed w x → 0 < length w
signed_size unsigned_number = omega arith
signed_size (signed_number h) = omega arith

initially_size : {w : List Symbol} {i : Initial} → Initially w i → 0 < length w
initially_size (of_number a) = signed_size a
initially_size of_name = omega arith

module _ {A : Type 0} (f : A → Draft) (x : List Symbol → Res A) {L : Asked A} {F : Before}
    (size : (o : List Draft) (w : List Symbol) (e : A) → L o w e → 0 < length w) {ks us : List ℕ} {i : ℕ}
    (w : Within ks us i) (out : Out L F (drop i (held_row ks us)) (x (drop i (held_row ks us))))
    (quiet : Quiet (x (drop i (held_row ks us)))) where
  valued_at : {k a j : ℕ} → Found k a j ≡ value_read f (length ks) (x (drop i (held_row ks us))).end
      → ValuedAt f x ks us i k a j
  valued_at {k} {a} {j} = go (x (drop i (held_row ks us))).end refl out.ends
    where
      go : (t : End A) → (x (drop i (held_row ks us))).end ≡ t
          → OutEnd L F (drop i (held_row ks us)) (x (drop i (held_row ks us))).out t
          → Found k a j ≡ value_read f (length ks) t → ValuedAt f x ks us i k a j
      go (got e t) s r h =
          let n = held_length ks us w.even in
          let b = length-append r.0 t in
          let c = ap length r.1 in
          let d = length-drop i (held_row ks us) in
          let v = size _ r.0 e r.2 in
          let m : j ≡ length ks - length t = cc in
          let y = w.within in
          let q : length (held_row ks us) - length t ≡ j = omega arith in
          let z = left_at (held_row ks us) r.0 t i (omega arith) r.1 ∙ ap (λ (y : ℕ). drop y (held_row ks us)) q in
          record {
            what = e;
            ends = s ∙ ap (got e) z;
            silent = quiet.silent;
            kind = cc;
            arg = cc;
            on = omega arith;
            inside = omega arith;
          }
      go (bad c t) s r h = clash (cc)

  -- missing: both stop
  missing_at : {B : Type 0} {c j p : ℕ} {l u : List ℕ} (k : A → List Symbol → Res B)
      → Missing c j ≡ value_read f (length ks) (x (drop i (held_row ks us))).end
      → Meets ks us (λ s. bind (x s) k) i p l u (part_stopped c j) l u
  unfolding bind wrote
  missing_at {c = c} {j = j} {p = p} {l = l} {u = u} k h =
      record {
        same = go (x (drop i (held_row ks us))).out (x (drop i (held_row ks us))).end quiet.silent h;
      }
    where
      go : (o : List Draft) (t : End A) → o ≡ [] → Missing c j ≡ value_read f (length ks) t
          → parse_outcome (part_stopped c j) l u ≡ part_wrote (length ks) (onward o t k) p l u
      go o (got e t) s h = clash (cc)
      go o (bad d t) s h = let m : j ≡ length ks - length t = cc in let n : c ≡ d = cc in rw (s, n, m)

module _ {ks us : List ℕ} {i : ℕ} (w : Within ks us i) where
  pub number_found : {k a j : ℕ} → Found k a j ≡ number_at ks us i
      → ValuedAt (λ x. draft kind_number (to_bits binary64 x)) by_signed_number ks us i k a j
  number_found h =
      let s = drop i (held_row ks us) in
      valued_at (λ x. draft kind_number (to_bits binary64 x)) by_signed_number (λ o v x r. signed_size r.0) w
      (signed_out 0 s) (quiet_signed s) h

  pub initial_found : {k a j : ℕ} → Found k a j ≡ initial_at ks us i → ValuedAt initial_draft initially ks us i k a j
  initial_found h =
      let s = drop i (held_row ks us) in
      valued_at initial_draft initially (λ o v x r. initially_size r.0) w (initially_out 0 s) (quiet_initially s) h

  pub number_stops : {B : Type 0} {c j p : ℕ} {l u : List ℕ} (k : Float → List Symbol → Res B)
      → Missing c j ≡ number_at ks us i
      → Meets ks us (λ s. bind (by_signed_number s) k) i p l u (part_stopped c j) l u
  number_stops k h =
      let s = drop i (held_row ks us) in
      missing_at (λ x. draft kind_number (to_bits binary64 x)) by_signed_number (λ o v x r. signed_size r.0) w
      (signed_out 0 s) (quiet_signed s) k h

  pub initial_stops : {B : Type 0} {c j p : ℕ} {l u : List ℕ} (k : Initial → List Symbol → Res B)
      → Missing c j ≡ initial_at ks us i
      → Meets ks us (λ s. bind (initially s) k) i p l u (part_stopped c j) l u
  initial_stops k h =
      let s = drop i (held_row ks us) in
      missing_at initial_draft initially (λ o v x r. initially_size r.0) w (initially_out 0 s) (quiet_initially s) k h

-- found: what follows goes on from there
pub value_then : {A B : Type 0} {f : A → Draft} {x : List Symbol → Res A} {ks us : List ℕ} {i k a j p : ℕ}
    {l u : List ℕ} {r : Ended} {l₁ u₁ : List ℕ}
    (c : A → List Symbol → Res B) (v : ValuedAt f x ks us i k a j) → Meets ks us (c v.what) j p l u r l₁ u₁
    → Meets ks us (λ s. bind (x s) c) i p l u r l₁ u₁
value_then {x = x} {ks = ks} {us = us} {i = i} {j = j} {p = p} {l = l} {u = u} c v h =
    let row = held_row ks us in
    let y = x (drop i row) in
    let q : p ≡ p + length y.out = rw (v.silent, add-zero) in
    record {
      same = h.same
          ∙ bind_wrote (length ks) y c v.what (drop j row) p p l u l u v.ends q (rw v.silent) (rw v.silent);
    }
